-- The extents after one change are apart, and the entries state the free tracks.
use Rattle.std.proofs.Common.{◌≡◌, ◌⊎◌, ℕ, ◌+◌, ◌<◌, ◌≤◌, ◌-◌, ◌||◌, ◌&&◌, ◌==◌, List, ◌∷◌, ◌++◌, map, not, Bool, true, false, All, Contains, refl, sym, ap, subst, ◌∙◌, arith, inl, inr}
use Rattle.std.specs.Prelude.{nat_lt, nat_le, IsTrue}
use Rattle.std.specs.List.{flat_map, list_any}
use Rattle.std.proofs.lemmas.Bool.{and_parts, eqb-true, lt-ltb, ltb-true}
use Rattle.std.proofs.lemmas.List.{map-append}
use Rattle.std.proofs.lemmas.List.Elements.{All-contains, Contains-append_cases}
use Rattle.free_map.specs.declared.run.Run.{Run}
use Rattle.free_map.specs.Runs.{HasTrack, InRuns, AreMaximalRuns}
use Rattle.volume_model.specs.declared.extent.ExtentField.{ExtentField}
use Rattle.volume_model.specs.declared.place.Vtoc.{Vtoc}
use Rattle.volume_model.specs.Space.{end_of, overlap, has_track, is_run, run_of, greatest_end, usable_of, is_used, is_free}
use Rattle.volume_model.specs.Check.{track_0}
use Rattle.vtoc_check.proofs.Marks.{any_passes}
use Rattle.vtoc_layout.specs.Layout.{AreApart, SetRecords, extents_in_set, runs_by, entries_by}
use Rattle.vtoc_layout.proofs.Distinct.{first_or_later, at_first, in_later, in_front, in_back}
use Rattle.vtoc_layout.proofs.Apart.{all_from, apart_front, apart_back, apart_between, apart_joined, overlap_turned}
use Rattle.vtoc_layout.proofs.FreeRules.{has_some, held_in, at_most, each_end, held_by}
use Rattle.layout_edit.specs.Space.{runs_in_sets, ArePutApart, ExtentsStayApart, UsableTracksStay, EntriesAreRight}
use Rattle.layout_edit.proofs.Changes.{flat_three}
use Rattle.volume_model.proofs.Numbers.{grows}

-- ---- the extents of data sets that stay, and of one that is put between them

-- what holds of all of these lists but the second, and of what stands there in its place, holds of all
all_between : {X : Type 0} (P : X → Type 0) (xs ys zs ws : List X) → All P (xs ++ (ys ++ zs)) → All P ws → All P (xs ++ (ws ++ zs))
all_between {X} P xs ys zs ws h new = all_from P (xs ++ (ws ++ zs)) (λ x c. by x (Contains-append_cases xs (ws ++ zs) x c))
  where
    behind : (x : X) → (Contains ws x ⊎ Contains zs x) → P x
    behind x (inl a) = All-contains P ws x new a
    behind x (inr b) = All-contains P (xs ++ (ys ++ zs)) x h (in_back xs (ys ++ zs) x (in_back ys zs x b))

    by : (x : X) → (Contains xs x ⊎ Contains (ws ++ zs) x) → P x
    by x (inl a) = All-contains P (xs ++ (ys ++ zs)) x h (in_front xs (ys ++ zs) x a)
    by x (inr b) = behind x (Contains-append_cases ws zs x b)

apart_put : (xs ys zs ws : List Run) → AreApart (xs ++ (ys ++ zs)) → AreApart ws → All (λ run. All (λ other. overlap run other ≡ false) (xs ++ zs)) ws → AreApart (xs ++ (ws ++ zs))
apart_put xs ys zs ws h new off =
    apart_joined xs (ws ++ zs) (apart_front xs (ys ++ zs) h)
    (apart_joined ws zs new (apart_back ys zs (apart_back xs (ys ++ zs) h)) (λ a b p q. none a b p (in_back xs zs b q)))
    (λ a b p q. by a b p (Contains-append_cases ws zs b q))
  where
    none : (a b : Run) → Contains ws a → Contains (xs ++ zs) b → overlap a b ≡ false
    none a b p q = All-contains (λ (other : Run). overlap a other ≡ false) (xs ++ zs) b (All-contains (λ (run : Run). All (λ other. overlap run other ≡ false) (xs ++ zs)) ws a off p) q

    by : (a b : Run) → Contains xs a → (Contains ws b ⊎ Contains zs b) → overlap a b ≡ false
    by a b p (inl new_one) = overlap_turned b a (none b a new_one (in_front xs zs a p))
    by a b p (inr old_one) = apart_between xs (ys ++ zs) h a b p (in_back ys zs b old_one)

pub runs_three : (heads : ℕ) (xs ys zs : List SetRecords) → runs_in_sets heads (xs ++ (ys ++ zs)) ≡ runs_in_sets heads xs ++ (runs_in_sets heads ys ++ runs_in_sets heads zs)
runs_three heads xs ys zs =
    ap (map (run_of heads)) (flat_three extents_in_set xs ys zs) ∙ map-append (run_of heads) (flat_map extents_in_set xs) (flat_map extents_in_set ys ++ flat_map extents_in_set zs)
    ∙ ap (λ (runs : List Run). runs_in_sets heads xs ++ runs) (map-append (run_of heads) (flat_map extents_in_set ys) (flat_map extents_in_set zs))

-- extents of data sets that are runs below a limit, and apart from each other, track 0 and the VTOC
record AreSetsApart (heads limit : ℕ) (vtoc : Run) (sets : List SetRecords) : Type 0 where
  ranges : All (λ extent. is_run heads limit extent ≡ true) (flat_map extents_in_set sets)
  off_track_0 : All (λ run. overlap run track_0 ≡ false) (runs_in_sets heads sets)
  off_vtoc : All (λ run. overlap run vtoc ≡ false) (runs_in_sets heads sets)
  apart : AreApart (runs_in_sets heads sets)

module _ (old : Vtoc) where
  abbrev runs : List SetRecords → List Run
  runs sets = runs_in_sets old.heads sets

  sets_stay : (front gone put back : List SetRecords) → AreSetsApart old.heads old.limit old.run (front ++ (gone ++ back)) → ArePutApart old (runs front ++ runs back) put
      → AreSetsApart old.heads old.limit old.run (front ++ (put ++ back))
  sets_stay front gone put back h new = record {
    ranges =
        subst (λ (es : List ExtentField). All (λ extent. is_run old.heads old.limit extent ≡ true) es) (sym (flat_three extents_in_set front put back))
        (all_between (λ extent. is_run old.heads old.limit extent ≡ true) (flat_map extents_in_set front) (flat_map extents_in_set gone) (flat_map extents_in_set back) (flat_map extents_in_set put)
        (subst (λ (es : List ExtentField). All (λ extent. is_run old.heads old.limit extent ≡ true) es) (flat_three extents_in_set front gone back) h.ranges) new.ranges);
    off_track_0 = each (λ run. overlap run track_0 ≡ false) h.off_track_0 new.off_track_0;
    off_vtoc = each (λ run. overlap run old.run ≡ false) h.off_vtoc new.off_vtoc;
    apart =
        subst (λ (all : List Run). AreApart all) (sym (runs_three old.heads front put back))
        (apart_put (runs front) (runs gone) (runs back) (runs put) (subst (λ (all : List Run). AreApart all) (runs_three old.heads front gone back) h.apart) new.apart new.off_others);
  }
    where
      each : (P : Run → Type 0) → All P (runs (front ++ (gone ++ back))) → All P (runs put) → All P (runs (front ++ (put ++ back)))
      each P were are =
          subst (All P) (sym (runs_three old.heads front put back))
          (all_between P (runs front) (runs gone) (runs back) (runs put) (subst (All P) (runs_three old.heads front gone back) were) are)

pub extents_stay : ExtentsStayApart
extents_stay old new before after front gone put back heads limit run sets_before sets_after h put_apart =
    let S : List SetRecords → Type 0 = λ sets. AreSetsApart old.heads old.limit old.run sets in
    let stood : S before.sets = record { ranges = h.ranges; off_track_0 = h.off_track_0; off_vtoc = h.off_vtoc; apart = h.apart } in
    let stay : S after.sets = subst S (sym sets_after) (sets_stay old front gone put back (subst S sets_before stood) put_apart) in
    let H : ℕ → Type 0 = λ n. AreSetsApart n old.limit old.run after.sets in
    let L : ℕ → Type 0 = λ n. AreSetsApart new.heads n old.run after.sets in
    let R : Run → Type 0 = λ r. AreSetsApart new.heads new.limit r after.sets in
    let are : R new.run = subst R (sym run) (subst L (sym limit) (subst H (sym heads) stay)) in
    record { ranges = are.ranges; off_track_0 = are.off_track_0; off_vtoc = are.off_vtoc; apart = are.apart }

-- ---- the usable tracks

-- a track that is used is track 0, one of the VTOC's or one of an extent's
used_by : (vtoc : Run) (extents : List Run) (track : ℕ) → is_used vtoc extents track ≡ true
    → (track ≡ 0) ⊎ ((has_track track vtoc ≡ true) ⊎ ((run : Run) × Contains extents run × (has_track track run ≡ true)))
used_by vtoc extents track e = by (track == 0) refl (has_track track vtoc) refl e
  where
    by : (a : Bool) → (track == 0) ≡ a → (b : Bool) → has_track track vtoc ≡ b → (a || b || list_any (has_track track) extents) ≡ true
        → (track ≡ 0) ⊎ ((has_track track vtoc ≡ true) ⊎ ((run : Run) × Contains extents run × (has_track track run ≡ true)))
    by true p b q whole = inl (eqb-true track 0 p)
    by false p true q whole = inr (inl q)
    by false p false q whole = inr (inr (any_passes (has_track track) extents whole))

has_end : (run : Run) (track : ℕ) → has_track track run ≡ true → track < end_of run
has_end run track e = ltb-true track (end_of run) (and_parts (nat_le run.first track) (nat_lt track (end_of run)) e).1

module _ (vtoc : Run) (extents entries : List Run) (usable : ℕ) (some : 1 ≤ usable) (within : All (λ run. end_of run ≤ usable) (vtoc ∷ extents))
    (stated : AreMaximalRuns (λ track. IsTrue (is_free usable vtoc extents track)) entries) where
  abbrev all : List Run
  all = vtoc ∷ (extents ++ entries)

  -- the last track of an entry is free
  entry_ends : (entry : Run) → Contains entries entry → end_of entry ≤ usable
  entry_ends entry c =
      let len : 1 ≤ entry.len = has_some 0 entries entry stated.apart c in
      let last : ℕ = entry.first + entry.len - 1 in
      let held : HasTrack entry last = (omega (arith, len), omega (arith, len)) in
      let free : is_free usable vtoc extents last ≡ true = (stated.exact last).1 (held_in entries entry last c held) in
      omega (arith, len, ltb-true last usable (and_parts (nat_lt last usable) (not (is_used vtoc extents last)) free).0)

  each_within : (run : Run) → Contains all run → end_of run ≤ usable
  each_within run c = first (first_or_later vtoc run (extents ++ entries) c)
    where
      second : (Contains extents run ⊎ Contains entries run) → end_of run ≤ usable
      second (inl a) = All-contains (λ (r : Run). end_of r ≤ usable) (vtoc ∷ extents) run within (in_later vtoc run extents a)
      second (inr b) = entry_ends run b

      first : ((vtoc ≡ run) ⊎ Contains (extents ++ entries) run) → end_of run ≤ usable
      first (inl same) = All-contains (λ (r : Run). end_of r ≤ usable) (vtoc ∷ extents) run within (0, omega arith, same)
      first (inr later) = second (Contains-append_cases extents entries run later)

  -- a track that is used or stated free lies before the greatest end
  by_used : (track : ℕ) → is_used vtoc extents track ≡ true → track < greatest_end all
  by_used track e = by (used_by vtoc extents track e)
    where
      by : ((track ≡ 0) ⊎ ((has_track track vtoc ≡ true) ⊎ ((run : Run) × Contains extents run × (has_track track run ≡ true)))) → track < greatest_end all
      by (inl zero_one) = omega (arith, zero_one, grows 1 all)
      by (inr (inl h)) = omega (arith, has_end vtoc track h, each_end 1 all vtoc (at_first vtoc (extents ++ entries)))
      by (inr (inr r)) = omega (arith, has_end r.0 track r.2, each_end 1 all r.0 (in_later vtoc r.0 (extents ++ entries) (in_front extents entries r.0 r.1)))

  by_stated : (track : ℕ) → InRuns entries track → track < greatest_end all
  by_stated track h =
      let r = held_by entries track h in
      omega (arith, r.2.1, each_end 1 all r.0 (in_later vtoc r.0 (extents ++ entries) (in_back extents entries r.0 r.1)))

  below_end : (track : ℕ) → track < usable → track < greatest_end all
  below_end track lt = by (is_used vtoc extents track) refl
    where
      by : (t : Bool) → is_used vtoc extents track ≡ t → track < greatest_end all
      by true e = by_used track e
      by false e = by_stated track ((stated.exact track).0 (λ i. lt-ltb track usable lt i && not (e i)))

  pub end_is : greatest_end all ≡ usable
  end_is =
      let last : ℕ = usable - 1 in
      omega (arith, some, at_most usable 1 all some each_within, below_end last (omega (arith, some)))

pub usable_stay : UsableTracksStay
usable_stay vtoc layout usable valid some within stated =
    ap (λ (b : Bool). usable_of b vtoc.heads vtoc.limit vtoc.alternates vtoc.run (runs_by vtoc.heads layout) (entries_by vtoc.heads layout)) valid
    ∙ end_is vtoc.run (runs_by vtoc.heads layout) (entries_by vtoc.heads layout) usable some within stated

pub entries_right : EntriesAreRight
entries_right vtoc layout usable valid some limit within stated =
    let extents : List Run = runs_by vtoc.heads layout in
    let entries : List Run = entries_by vtoc.heads layout in
    let P : ℕ → Type 0 = λ n. AreMaximalRuns (λ track. IsTrue (is_free n vtoc.run extents track)) entries in
    record {
      within = all_from (λ entry. end_of entry ≤ vtoc.limit) entries (λ entry c. omega (arith, limit, entry_ends vtoc.run extents entries usable some within stated entry c));
      runs = subst P (sym (usable_stay vtoc layout usable valid some within stated)) stated;
    }
