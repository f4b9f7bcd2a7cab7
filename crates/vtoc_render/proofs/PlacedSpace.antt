-- The free tracks after a change are those of its layout.
use Rattle.std.proofs.Common.{◌≡◌, ◌⊎◌, inl, inr, ℕ, ◌==◌, ◌&&◌, ◌||◌, not, nat_lt, List, ◌∷◌, ◌++◌, map, Contains, Bool, true, false, Option, Some, None, sym, ap, subst, ◌∙◌, arith}
use Rattle.std.specs.Prelude.{IsTrue, option_to_list}
use Rattle.std.specs.List.{list_any}
use Rattle.std.specs.List.Sorted.{IsPermutation}
use Rattle.std.proofs.lemmas.List.Elements.{All-contains}
use Rattle.std.proofs.lemmas.List.Sorted.{list_any-IsPermutation}
use Rattle.ckd_image.specs.declared.head.Head.{Head}
use Rattle.ckd_image.specs.Device.{heads_of}
use Rattle.free_map.specs.declared.run.Run.{Run}
use Rattle.free_map.specs.Free.{IsFree}
use Rattle.free_map.specs.Runs.{HasTrack, InRuns, AreMaximalRuns}
use Rattle.vol_label.specs.declared.label.Label.{Label}
use Rattle.volume_model.specs.declared.place.Placed.{Placed}
use Rattle.volume_model.specs.declared.place.Vtoc.{Vtoc}
use Rattle.volume_model.specs.Check.{track_0, extents_in}
use Rattle.volume_model.specs.Sound.{Slots}
use Rattle.volume_model.specs.Space.{has_track, overlap, run_of, is_free}
use Rattle.vtoc_core.specs.declared.volume.Row.{Row}
use Rattle.vtoc_core.specs.declared.volume.Volume.{Volume}
use Rattle.vtoc_layout.specs.Layout.{SetRecords, AreApart, sets_of, layout_of, extents_in_set}
use Rattle.vtoc_layout.proofs.Apart.{apart_back, apart_between}
use Rattle.vtoc_layout.proofs.Distinct.{in_later, in_front, in_back}
use Rattle.vtoc_layout.proofs.ExtentRules.{extents_permuted}
use Rattle.layout_edit.specs.Space.{runs_in_sets}
use Rattle.volume_change.specs.Runs.{runs_in, IsFreeAfter}
use Rattle.render_laws.specs.Rendered.{WasLoaded}
use Rattle.render_laws.proofs.Before.{has_layout, apart, ends, extent_there}
use Rattle.vtoc_render.specs.Next.{runs_of_rows}
use Rattle.vtoc_render.proofs.LoadsPlan.{nothing_more}
use Rattle.vtoc_render.proofs.PlacedRows.{ArePair}
use Rattle.vtoc_render.proofs.PlacedTracks.{IsUnused, unused_free, free_unused, in_or_not, none_shared}
use Rattle.free_map.proofs.Gaps.{in_append, append_left as in_front_runs, append_right as in_back_runs}
use Rattle.layout_edit.proofs.Spaces.{runs_three}
use Rattle.vtoc_layout.proofs.FreeRules.{held_by}

-- the runs of a row are those of its records
pub runs_of_pair : (volume : Volume) (heads : ℕ) (row : Option Row) (sets : List SetRecords) → heads_of volume.device ≡ heads → ArePair row sets
    → runs_of_rows volume (option_to_list row) ≡ runs_in_sets heads sets
runs_of_pair volume heads None sets same pair = sym (ap (runs_in_sets heads) pair)
runs_of_pair volume heads (Some row) sets same pair =
    nothing_more (runs_in (heads_of volume.device) row.extents)
    ∙ (λ i. map (run_of (same i)) ((sym pair.2 i).extents))
    ∙ ap (map (run_of heads)) (sym (nothing_more (extents_in_set pair.0)))
    ∙ sym (ap (runs_in_sets heads) pair.1)

-- a track of none of two lists of runs
neither : (xs ys : List Run) (track : ℕ) → ¬ InRuns xs track → ¬ InRuns ys track → ¬ InRuns (xs ++ ys) track
neither xs ys track p q h = by (in_append xs ys track h)
  where
    by : (InRuns xs track ⊎ InRuns ys track) → ⊥
    by (inl a) = p a
    by (inr b) = q b

abbrev with_none : (usable : ℕ) (vtoc : Run) (runs others : List Run) (track : ℕ) → IsUnused usable vtoc runs track → ¬ InRuns others track → IsUnused usable vtoc others track
with_none usable vtoc runs others track is none = record { below = is.below; some = is.some; off = is.off; none = none }

module _ {head : Head} {label : Label} {unit : Slots} {before : Bool} {slots : List ℕ} {volume : Volume} {vtoc : Vtoc} {four : Placed}
    (was : WasLoaded head label unit before slots volume vtoc four) where
  abbrev runs : List SetRecords → List Run
  runs sets = runs_in_sets vtoc.heads sets

  permuted : IsPermutation (extents_in vtoc) (runs (sets_of vtoc))
  permuted = extents_permuted vtoc (layout_of vtoc four) was.sized (has_layout was) (apart was)

  -- whether a track is free, by the layout
  same_free : (track : ℕ) → is_free volume.usable vtoc.run (extents_in vtoc) track ≡ is_free volume.usable vtoc.run (runs (sets_of vtoc)) track
  same_free track = by (list_any-IsPermutation (has_track track) (extents_in vtoc) (runs (sets_of vtoc)) permuted)
    where
      by : list_any (has_track track) (extents_in vtoc) ≡ list_any (has_track track) (runs (sets_of vtoc))
          → is_free volume.usable vtoc.run (extents_in vtoc) track ≡ is_free volume.usable vtoc.run (runs (sets_of vtoc)) track
      by same = ap (λ (b : Bool). nat_lt track volume.usable && not ((track == 0) || has_track track vtoc.run || b)) same

  pub free_is_unused : (track : ℕ) → IsFree volume.free track → IsUnused volume.usable vtoc.run (runs (sets_of vtoc)) track
  free_is_unused track h = unused_free volume.usable vtoc.run (runs (sets_of vtoc)) track (sym (same_free track) ∙ (was.volume_is.space.free_are.exact track).1 h)

  pub unused_is_free : (track : ℕ) → IsUnused volume.usable vtoc.run (runs (sets_of vtoc)) track → IsFree volume.free track
  unused_is_free track is = (was.volume_is.space.free_are.exact track).0 (same_free track ∙ free_unused volume.usable vtoc.run (runs (sets_of vtoc)) track is)

  module _ (front gone back : List SetRecords) (parts : sets_of vtoc ≡ front ++ (gone ++ back)) where
    parted : runs (sets_of vtoc) ≡ runs front ++ (runs gone ++ runs back)
    parted = ap runs parts ∙ runs_three vtoc.heads front gone back

    there : (run : Run) → Contains (runs gone) run → Contains (runs (sets_of vtoc)) run
    there run c = subst (λ (rs : List Run). Contains rs run) (sym parted) (in_back (runs front) (runs gone ++ runs back) run (in_front (runs gone) (runs back) run c))

    apart_parts : AreApart (runs front ++ (runs gone ++ runs back))
    apart_parts = subst AreApart parted (apart was).apart

    -- a track of what goes is used by nothing else
    pub gone_unused : (track : ℕ) → InRuns (runs gone) track → IsUnused volume.usable vtoc.run (runs front ++ runs back) track
    gone_unused track h =
        let at = held_by (runs gone) track h in
        let run = at.0 in
        let within = ends was run (in_later track_0 run (vtoc.run ∷ extents_in vtoc) (in_later vtoc.run run (extents_in vtoc) (extent_there was run (there run at.1)))) in
        record {
          below = omega (arith, within, at.2.1);
          some = λ same. none_shared run track_0 track (All-contains (λ (run : Run). overlap run track_0 ≡ false) (runs (sets_of vtoc)) run (apart was).off_track_0 (there run at.1)) at.2 (omega arith, omega (arith, same));
          off = λ held. none_shared run vtoc.run track (All-contains (λ (run : Run). overlap run vtoc.run ≡ false) (runs (sets_of vtoc)) run (apart was).off_vtoc (there run at.1)) at.2 held;
          none = neither (runs front) (runs back) track (in_ahead run at.1 at.2) (in_behind run at.1 at.2);
        }
      where
        in_ahead : (run : Run) → Contains (runs gone) run → HasTrack run track → ¬ InRuns (runs front) track
        in_ahead run c held k =
            let other = held_by (runs front) track k in
            none_shared other.0 run track (apart_between (runs front) (runs gone ++ runs back) apart_parts other.0 run other.1 (in_front (runs gone) (runs back) run c)) other.2 held

        in_behind : (run : Run) → Contains (runs gone) run → HasTrack run track → ¬ InRuns (runs back) track
        in_behind run c held k =
            let other = held_by (runs back) track k in
            none_shared run other.0 track (apart_between (runs gone) (runs back) (apart_back (runs front) (runs gone ++ runs back) apart_parts) run other.0 c other.1) held other.2

    -- a track that is free, or that is given back, is used by nothing that stays
    pub left_unused : (track : ℕ) → (IsFree volume.free track ⊎ InRuns (runs gone) track) → IsUnused volume.usable vtoc.run (runs front ++ runs back) track
    left_unused track (inl free) =
        let is = free_is_unused track free in
        let out : ¬ InRuns (runs front ++ (runs gone ++ runs back)) track = subst (λ (rs : List Run). ¬ InRuns rs track) parted is.none in
        with_none volume.usable vtoc.run (runs (sets_of vtoc)) (runs front ++ runs back) track is
        (neither (runs front) (runs back) track (λ h. out (in_front_runs (runs front) (runs gone ++ runs back) track h))
        (λ h. out (in_back_runs (runs front) (runs gone ++ runs back) track (in_back_runs (runs gone) (runs back) track h))))
    left_unused track (inr given) = gone_unused track given

    module _ (put : List SetRecords) where
      abbrev all : List Run
      all = runs (front ++ (put ++ back))

      joined : all ≡ runs front ++ (runs put ++ runs back)
      joined = runs_three vtoc.heads front put back

      to : (track : ℕ) → is_free volume.usable vtoc.run all track ≡ true → IsFreeAfter volume.free (runs gone) (runs put) track
      to track e = (by (in_or_not (runs gone) track), λ h. out (in_back_runs (runs front) (runs put ++ runs back) track (in_front_runs (runs put) (runs back) track h)))
        where
          is : IsUnused volume.usable vtoc.run all track
          is = unused_free volume.usable vtoc.run all track e

          out : ¬ InRuns (runs front ++ (runs put ++ runs back)) track
          out = subst (λ (rs : List Run). ¬ InRuns rs track) joined is.none

          by : (InRuns (runs gone) track ⊎ ¬ InRuns (runs gone) track) → IsFree volume.free track ⊎ InRuns (runs gone) track
          by (inl given) = inr given
          by (inr not_given) =
              inl (unused_is_free track (with_none volume.usable vtoc.run all (runs (sets_of vtoc)) track is
              (subst (λ (rs : List Run). ¬ InRuns rs track) (sym parted)
              (neither (runs front) (runs gone ++ runs back) track (λ h. out (in_front_runs (runs front) (runs put ++ runs back) track h))
              (neither (runs gone) (runs back) track not_given
              (λ h. out (in_back_runs (runs front) (runs put ++ runs back) track (in_back_runs (runs put) (runs back) track h))))))))

      back_to : (track : ℕ) → IsFreeAfter volume.free (runs gone) (runs put) track → is_free volume.usable vtoc.run all track ≡ true
      back_to track h =
          let is = left_unused track h.0 in
          free_unused volume.usable vtoc.run all track
          (with_none volume.usable vtoc.run (runs front ++ runs back) all track is
          (subst (λ (rs : List Run). ¬ InRuns rs track) (sym joined)
          (neither (runs front) (runs put ++ runs back) track (λ k. is.none (in_front_runs (runs front) (runs back) track k))
          (neither (runs put) (runs back) track h.1 (λ k. is.none (in_back_runs (runs front) (runs back) track k))))))

      pub free_after_is : (free : List Run) → AreMaximalRuns (IsFreeAfter volume.free (runs gone) (runs put)) free → AreMaximalRuns (λ track. IsTrue (is_free volume.usable vtoc.run all track)) free
      free_after_is free are = record { apart = are.apart; exact = λ track. (λ e. (are.exact track).0 (to track e), λ i. back_to track ((are.exact track).1 i)) }
