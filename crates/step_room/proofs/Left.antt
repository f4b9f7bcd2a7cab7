-- The tracks that are free once some data sets of a loaded volume went and others came.
use Rattle.std.proofs.Common.{◌≡◌, ◌≢◌, ◌⊎◌, inl, inr, ℕ, ◌<◌, List, [], ◌∷◌, ◌++◌, map, Contains, refl, sym, ap, subst, ◌∙◌, arith}
use Rattle.std.proofs.lemmas.Grind.{flat_map-append}
use Rattle.std.proofs.lemmas.List.{map-append}
use Rattle.ckd_image.specs.Device.{heads_of}
use Rattle.free_map.specs.declared.run.Run.{Run}
use Rattle.free_map.specs.Free.{IsFree}
use Rattle.free_map.specs.Runs.{HasTrack, InRuns, AreMaximalRuns}
use Rattle.volume_model.specs.Unit.{DataSet, OnlineVolume, run_in, runs_of_sets, IsFreeTrack, AreFreeRunsOf}
use Rattle.vtoc_core.specs.declared.volume.Row.{Row}
use Rattle.vtoc_core.specs.declared.volume.Volume.{Volume}
use Rattle.vtoc_layout.specs.Layout.{AreDistinct}
use Rattle.vtoc_layout.proofs.Distinct.{in_front, in_back, not_both, distinct_back}
use Rattle.volume_change.specs.Runs.{IsFreeAfter}
use Rattle.step_plans.specs.vtoc_render.Next.{runs_of_rows}
use Rattle.step_plans.proofs.vtoc_render.PlacedTracks.{in_or_not}
use Rattle.step_plans.specs.unit_change.Described.{DescribesSets, Describes}
use Rattle.step_plans.proofs.unit_change.Describing.{runs_described}
use Rattle.step_plans.specs.Plans.{IsSound}
use Rattle.step_room.proofs.SoundRows.{row_with, sound_track, sound_parts}
use Rattle.ckd_image.proofs.Lists.{contains_map}
use Rattle.free_map.proofs.Gaps.{in_append, append_left as in_front_runs, append_right as in_back_runs}
use Rattle.step_plans.proofs.RowNames.{named, names_differ}

-- ---- the rows of data sets in parts

record AreTwoParts (heads : ℕ) (rows : List Row) (xs ys : List DataSet) : Type 0 where
  pub front : List Row
  pub back : List Row
  pub rows_are : rows ≡ front ++ back
  pub front_are : DescribesSets heads front xs
  pub back_are : DescribesSets heads back ys

two_parts : (heads : ℕ) (rows : List Row) (xs ys : List DataSet) → DescribesSets heads rows (xs ++ ys) → AreTwoParts heads rows xs ys
two_parts heads rows [] ys are = record { front = []; back = rows; rows_are = refl; front_are = tt; back_are = are }
two_parts heads [] (x ∷ xs) ys are = absurd are
two_parts heads (row ∷ rows) (x ∷ xs) ys are =
    let rest = two_parts heads rows xs ys are.1 in
    record {
      front = row ∷ rest.front;
      back = rest.back;
      rows_are = ap (λ (more : List Row). row ∷ more) rest.rows_are;
      front_are = (are.0, rest.front_are);
      back_are = rest.back_are;
    }

pub record AreThreeParts (heads : ℕ) (rows : List Row) (xs ys zs : List DataSet) : Type 0 where
  pub front : List Row
  pub middle : List Row
  pub back : List Row
  pub rows_are : rows ≡ front ++ (middle ++ back)
  pub front_are : DescribesSets heads front xs
  pub middle_are : DescribesSets heads middle ys
  pub back_are : DescribesSets heads back zs

three_parts : (heads : ℕ) (rows : List Row) (xs ys zs : List DataSet) → DescribesSets heads rows (xs ++ (ys ++ zs)) → AreThreeParts heads rows xs ys zs
three_parts heads rows xs ys zs are =
    let outer = two_parts heads rows xs (ys ++ zs) are in
    let inner = two_parts heads outer.back ys zs outer.back_are in
    record {
      front = outer.front;
      middle = inner.front;
      back = inner.back;
      rows_are = outer.rows_are ∙ ap (λ (rows : List Row). outer.front ++ rows) inner.rows_are;
      front_are = outer.front_are;
      middle_are = inner.front_are;
      back_are = inner.back_are;
    }

-- ---- tracks of lists of data sets

runs_of_three : (xs ys zs : List DataSet) → runs_of_sets (xs ++ (ys ++ zs)) ≡ runs_of_sets xs ++ (runs_of_sets ys ++ runs_of_sets zs)
runs_of_three xs ys zs =
    flat_map-append (λ (set : DataSet). map run_in set.extents) xs (ys ++ zs)
    ∙ ap (λ (runs : List Run). runs_of_sets xs ++ runs) (flat_map-append (λ (set : DataSet). map run_in set.extents) ys zs)

-- no data set of three lists has a track
record IsInNone (xs ys zs : List DataSet) (track : ℕ) : Type 0 where
  pub not_front : ¬ InRuns (runs_of_sets xs) track
  pub not_middle : ¬ InRuns (runs_of_sets ys) track
  pub not_back : ¬ InRuns (runs_of_sets zs) track

none_of : (sets xs ys zs : List DataSet) (track : ℕ) → sets ≡ xs ++ (ys ++ zs) → ¬ InRuns (runs_of_sets sets) track → IsInNone xs ys zs track
none_of sets xs ys zs track are out = record {
  not_front = λ h. all (in_front_runs (runs_of_sets xs) (runs_of_sets ys ++ runs_of_sets zs) track h);
  not_middle =
      λ h. all (in_back_runs (runs_of_sets xs) (runs_of_sets ys ++ runs_of_sets zs) track (in_front_runs (runs_of_sets ys) (runs_of_sets zs) track h));
  not_back =
      λ h. all (in_back_runs (runs_of_sets xs) (runs_of_sets ys ++ runs_of_sets zs) track (in_back_runs (runs_of_sets ys) (runs_of_sets zs) track h));
}
  where
    all : ¬ InRuns (runs_of_sets xs ++ (runs_of_sets ys ++ runs_of_sets zs)) track
    all = subst (λ (runs : List Run). ¬ InRuns runs track) (ap (λ (list : List DataSet). runs_of_sets list) are ∙ runs_of_three xs ys zs) out

of_none : (sets xs ys zs : List DataSet) (track : ℕ) → sets ≡ xs ++ (ys ++ zs) → IsInNone xs ys zs track → ¬ InRuns (runs_of_sets sets) track
of_none sets xs ys zs track are is h =
    first (in_append (runs_of_sets xs) (runs_of_sets ys ++ runs_of_sets zs) track
    (subst (λ (runs : List Run). InRuns runs track) (ap (λ (list : List DataSet). runs_of_sets list) are ∙ runs_of_three xs ys zs) h))
  where
    second : (InRuns (runs_of_sets ys) track ⊎ InRuns (runs_of_sets zs) track) → ⊥
    second (inl here) = is.not_middle here
    second (inr there) = is.not_back there

    first : (InRuns (runs_of_sets xs) track ⊎ InRuns (runs_of_sets ys ++ runs_of_sets zs) track) → ⊥
    first (inl here) = is.not_front here
    first (inr there) = second (in_append (runs_of_sets ys) (runs_of_sets zs) track there)

-- ---- what is left

-- a usable track that isn't one of the volume's own, or of the data sets that stay
record IsLeft (volume : OnlineVolume) (front back : List DataSet) (track : ℕ) : Type 0 where
  pub usable : track < volume.usable
  pub not_0 : ¬ (track ≡ 0)
  pub not_vtoc : ¬ HasTrack volume.vtoc track
  pub not_front : ¬ InRuns (runs_of_sets front) track
  pub not_back : ¬ InRuns (runs_of_sets back) track

module _ {loaded : Volume} {volume : OnlineVolume} (sound : IsSound loaded) (is : Describes loaded volume) (front gone back : List DataSet) (sets_were : volume.sets ≡ front ++ (gone ++ back)) where
  pub parts : AreThreeParts (heads_of loaded.device) loaded.rows front gone back
  parts =
      three_parts (heads_of loaded.device) loaded.rows front gone back (subst (λ (sets : List DataSet). DescribesSets (heads_of loaded.device) loaded.rows sets) sets_were is.sets_are)

  there : (row : Row) → Contains (parts.front ++ (parts.middle ++ parts.back)) row → Contains loaded.rows row
  there row c = subst (λ (rows : List Row). Contains rows row) (sym parts.rows_are) c

  in_first : (row : Row) → Contains parts.front row → Contains loaded.rows row
  in_first row c = there row (in_front parts.front (parts.middle ++ parts.back) row c)

  pub in_second : (row : Row) → Contains parts.middle row → Contains loaded.rows row
  in_second row c = there row (in_back parts.front (parts.middle ++ parts.back) row (in_front parts.middle parts.back row c))

  in_third : (row : Row) → Contains parts.back row → Contains loaded.rows row
  in_third row c = there row (in_back parts.front (parts.middle ++ parts.back) row (in_back parts.middle parts.back row c))

  distinct : AreDistinct (map named parts.front ++ (map named parts.middle ++ map named parts.back))
  distinct =
      subst (λ (names : List (List ℕ)). AreDistinct names)
      (ap (map named) parts.rows_are ∙ map-append named parts.front (parts.middle ++ parts.back) ∙ ap (λ (names : List (List ℕ)). map named parts.front ++ names) (map-append named parts.middle parts.back))
      (names_differ loaded sound)

  front_differs : (a b : Row) → Contains parts.front a → Contains parts.middle b → a.name ≢ b.name
  front_differs a b p q same =
      not_both (map named parts.front) (map named parts.middle ++ map named parts.back) b.name distinct
      (subst (λ (name : List ℕ). Contains (map named parts.front) name) same (contains_map named parts.front a p))
      (in_front (map named parts.middle) (map named parts.back) b.name (contains_map named parts.middle b q))

  back_differs : (a b : Row) → Contains parts.back a → Contains parts.middle b → a.name ≢ b.name
  back_differs a b p q same =
      not_both (map named parts.middle) (map named parts.back) b.name (distinct_back (map named parts.front) (map named parts.middle ++ map named parts.back) distinct)
      (contains_map named parts.middle b q) (subst (λ (name : List ℕ). Contains (map named parts.back) name) same (contains_map named parts.back a p))

  -- the tracks of some data sets are those of their rows
  by_rows : (rows : List Row) (sets : List DataSet) → DescribesSets (heads_of loaded.device) rows sets → (track : ℕ) → InRuns (runs_of_sets sets) track → InRuns (runs_of_rows loaded rows) track
  by_rows rows sets are track h = subst (λ (runs : List Run). InRuns runs track) (runs_described loaded rows sets are) h

  given_left : (track : ℕ) → InRuns (runs_of_sets gone) track → IsLeft volume front back track
  given_left track h =
      let mine = by_rows parts.middle gone parts.middle_are track h in
      let row = row_with loaded parts.middle track mine in
      let on = sound_track loaded sound row.0 (in_second row.0 row.1) track row.2 in
      record {
        usable = omega (arith, on.usable, is.usable_is);
        not_0 = on.not_0;
        not_vtoc = λ held. on.not_vtoc (subst (λ (run : Run). HasTrack run track) is.vtoc_is held);
        not_front =
            λ k. sound_parts loaded sound parts.front parts.middle in_first in_second front_differs track (by_rows parts.front front parts.front_are track k) mine;
        not_back =
            λ k. sound_parts loaded sound parts.back parts.middle in_third in_second back_differs track (by_rows parts.back back parts.back_are track k) mine;
      }

  free_left : (track : ℕ) → IsFree loaded.free track → IsLeft volume front back track
  free_left track h =
      let free : IsFreeTrack volume track = (is.free_are.exact track).1 h in
      let none = none_of volume.sets front gone back track sets_were free.not_set in
      record { usable = free.usable; not_0 = free.not_0; not_vtoc = free.not_vtoc; not_front = none.not_front; not_back = none.not_back }

  left : (track : ℕ) → (IsFree loaded.free track ⊎ InRuns (runs_of_sets gone) track) → IsLeft volume front back track
  left track (inl free) = free_left track free
  left track (inr given) = given_left track given

  -- ---- what is free afterwards

  module _ (after : OnlineVolume) (put : List DataSet) (usable : after.usable ≡ volume.usable) (vtoc : after.vtoc ≡ volume.vtoc) (sets_are : after.sets ≡ front ++ (put ++ back)) where
    free_to : (track : ℕ) → IsFreeTrack after track → IsFreeAfter loaded.free (runs_of_sets gone) (runs_of_sets put) track
    free_to track free = (by (in_or_not (runs_of_sets gone) track), none.not_middle)
      where
        none : IsInNone front put back track
        none = none_of after.sets front put back track sets_are free.not_set

        by : (InRuns (runs_of_sets gone) track ⊎ ¬ InRuns (runs_of_sets gone) track) → IsFree loaded.free track ⊎ InRuns (runs_of_sets gone) track
        by (inl given) = inr given
        by (inr not_given) =
            inl ((is.free_are.exact track).0 (record {
              usable = omega (arith, free.usable, usable);
              not_0 = free.not_0;
              not_vtoc = λ held. free.not_vtoc (subst (λ (run : Run). HasTrack run track) (sym vtoc) held);
              not_set = of_none volume.sets front gone back track sets_were (record { not_front = none.not_front; not_middle = not_given; not_back = none.not_back });
            }))

    free_from : (track : ℕ) → IsFreeAfter loaded.free (runs_of_sets gone) (runs_of_sets put) track → IsFreeTrack after track
    free_from track h =
        let of_left = left track h.0 in
        record {
          usable = omega (arith, of_left.usable, usable);
          not_0 = of_left.not_0;
          not_vtoc = λ held. of_left.not_vtoc (subst (λ (run : Run). HasTrack run track) vtoc held);
          not_set = of_none after.sets front put back track sets_are (record { not_front = of_left.not_front; not_middle = h.1; not_back = of_left.not_back });
        }

    pub free_after : (runs : List Run) → AreMaximalRuns (IsFreeAfter loaded.free (runs_of_sets gone) (runs_of_sets put)) runs → AreFreeRunsOf after runs
    free_after runs are = record { apart = are.apart; exact = λ track. (λ h. (are.exact track).0 (free_to track h), λ h. free_from track ((are.exact track).1 h)) }
