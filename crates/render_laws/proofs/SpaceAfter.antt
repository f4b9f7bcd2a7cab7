-- The extents and the free tracks of a VTOC after a change that was planned and allotted.
use Rattle.std.proofs.Common.{◌≡◌, ◌⊎◌, ℕ, ◌≤◌, List, [], ◌∷◌, ◌++◌, map, filter, All, Contains, Bool, true, false, ◌&&◌, refl, sym, ap, subst, ◌∙◌, arith, inl, inr}
use Rattle.std.specs.Prelude.{nat_lt, nat_le, IsTrue}
use Rattle.std.specs.List.{flat_map}
use Rattle.std.proofs.lemmas.Bool.{and_parts, lt-ltb, ltb-true}
use Rattle.std.proofs.lemmas.Grind.{flat_map-append}
use Rattle.std.proofs.lemmas.List.{map-append}
use Rattle.std.proofs.lemmas.List.Elements.{All-contains, Contains-append_cases, filter-append}
use Rattle.std.proofs.lemmas.Nat.{div-add-mod'}
use Rattle.dscb_rec.specs.declared.field.Extent.{Extent}
use Rattle.dscb_rec.specs.declared.field.Entry5.{Entry5}
use Rattle.free_map.specs.declared.run.Run.{Run}
use Rattle.free_map.specs.Entries.{entry_of}
use Rattle.free_map.specs.Runs.{AreMaximalRuns, AreApart as AreSpaced}
use Rattle.volume_model.specs.declared.extent.ExtentField.{ExtentField}
use Rattle.volume_model.specs.declared.place.Placed.{Placed}
use Rattle.volume_model.specs.declared.place.Vtoc.{Vtoc}
use Rattle.volume_model.specs.Space.{end_of, overlap, is_run, run_of, track_at, is_free}
use Rattle.volume_model.specs.Check.{track_0}
use Rattle.vtoc_check.specs.Sized.{IsSized}
use Rattle.vtoc_check.proofs.Overlapping.{run_facts}
use Rattle.vtoc_core.specs.Edit.{run_of_entry}
use Rattle.vtoc_core.specs.Loaded.{field_of}
use Rattle.vtoc_layout.specs.Layout.{SetRecords, Layout, IsLayoutOf, AreApart, AreExtentsApart, AreEntriesRight, extents_in_set, runs_by, entries_by, layout_of}
use Rattle.vtoc_layout.proofs.Apart.{all_from}
use Rattle.vtoc_layout.proofs.Distinct.{first_or_later, in_later, in_front, in_back, from_map, in_flat, from_flat, filter_all}
use Rattle.vtoc_layout.proofs.FreeRules.{has_some}
use Rattle.layout_edit.specs.Change.{LayoutChange, edits_of, vtoc_after, layout_after}
use Rattle.layout_edit.specs.Space.{runs_in_sets, ArePutApart}
use Rattle.layout_edit.proofs.Spaces.{extents_stay, entries_right}
use Rattle.vtoc_plan.specs.Plan.{Putting}
use Rattle.render_laws.specs.Rendered.{WasPlanned, MayTakeTracks, runs_put}
use Rattle.render_laws.proofs.LayoutAfter.{put_extents, put_entries}
use Rattle.ckd_image.proofs.Lists.{contains_map}

-- ---- runs as entries, and back

abbrev has_len : Run → Bool
has_len run = nat_lt 0 run.len

each_back : (heads : ℕ) (runs : List Run) → map (run_of_entry heads) (map (entry_of heads) runs) ≡ runs
each_back heads [] = refl
each_back heads (run ∷ runs) = λ i. record { first = run.first; len = div-add-mod' run.len heads i } ∷ each_back heads runs i

runs_back : (heads : ℕ) (runs : List Run) → AreSpaced 0 runs → filter has_len (map (run_of_entry heads) (map (entry_of heads) runs)) ≡ runs
runs_back heads runs apart = ap (filter has_len) (each_back heads runs) ∙ filter_all has_len runs (λ run c. lt-ltb 0 run.len (has_some 0 runs run apart c))

-- the entries of all format 5s are those of each
joined_parts : (heads : ℕ) (parts : List (List Entry5))
    → flat_map (λ entries. filter has_len (map (run_of_entry heads) entries)) parts ≡ filter has_len (map (run_of_entry heads) (flat_map (λ entries. entries) parts))
joined_parts heads [] = refl
joined_parts heads (entries ∷ parts) =
    ap (λ (runs : List Run). filter has_len (map (run_of_entry heads) entries) ++ runs) (joined_parts heads parts)
    ∙ sym (filter-append has_len (map (run_of_entry heads) entries) (map (run_of_entry heads) (flat_map (λ es. es) parts)))
    ∙ sym (ap (filter has_len) (map-append (run_of_entry heads) entries (flat_map (λ es. es) parts)))

-- ---- extents

-- a run of usable tracks is one of a volume
run_further : (heads usable limit : ℕ) (extent : ExtentField) → usable ≤ limit → is_run heads usable extent ≡ true → is_run heads limit extent ≡ true
run_further heads usable limit extent le e =
    let front = nat_lt extent.first.head heads && nat_lt extent.last.head heads && nat_le (track_at heads extent.first) (track_at heads extent.last) in
    let parts = and_parts front (nat_lt (track_at heads extent.last) usable) e in
    (λ i. parts.0 i && lt-ltb (track_at heads extent.last) limit (omega (arith, le, ltb-true (track_at heads extent.last) usable parts.1)) i)

pub runs_two : (heads : ℕ) (xs ys : List SetRecords) → runs_in_sets heads (xs ++ ys) ≡ runs_in_sets heads xs ++ runs_in_sets heads ys
runs_two heads xs ys = ap (map (run_of heads)) (flat_map-append extents_in_set xs ys) ∙ map-append (run_of heads) (flat_map extents_in_set xs) (flat_map extents_in_set ys)

module _ {vtoc : Vtoc} {four : Placed} {front gone back : List SetRecords} {putting : List Putting} {parts : List (List Entry5)} {change : LayoutChange} {usable : ℕ} (sized : IsSized vtoc)
    (has : IsLayoutOf vtoc (layout_of vtoc four)) (apart : AreExtentsApart vtoc (layout_of vtoc four)) (plan : WasPlanned vtoc four front gone back putting parts change)
    (takes : MayTakeTracks vtoc usable (front ++ back) putting) (within : usable ≤ vtoc.limit)
    (ends : (run : Run) → Contains (vtoc.run ∷ runs_by vtoc.heads (layout_of vtoc four)) run → end_of run ≤ usable) (some : 1 ≤ usable) where
  abbrev after : Vtoc
  after = vtoc_after vtoc (edits_of change)

  abbrev layout : Layout
  layout = layout_after front change back

  put_runs : runs_in_sets vtoc.heads change.put ≡ runs_put vtoc.heads putting
  put_runs = ap (map (run_of vtoc.heads)) (put_extents sized has plan)

  in_range : (extent : ExtentField) → Contains (flat_map extents_in_set change.put) extent → is_run vtoc.heads usable extent ≡ true
  in_range extent c =
      let P : List ExtentField → Type 0 = λ xs. Contains xs extent in
      let p = from_flat (λ (p : Putting). map field_of p.extents) putting extent (subst P (put_extents sized has plan) c) in
      let e = from_map field_of p.0.extents extent p.2 in
      let Q : ExtentField → Type 0 = λ x. is_run vtoc.heads usable x ≡ true in
      let each = All-contains (λ (p : Putting). All (λ extent. is_run vtoc.heads usable (field_of extent) ≡ true) p.extents) putting p.0 takes.ranges p.1 in
      subst Q e.2 (All-contains (λ (extent : Extent). is_run vtoc.heads usable (field_of extent) ≡ true) p.0.extents e.0 each e.1)

  put_apart : ArePutApart vtoc (runs_in_sets vtoc.heads front ++ runs_in_sets vtoc.heads back) change.put
  put_apart = record {
    ranges =
        all_from (λ extent. is_run vtoc.heads vtoc.limit extent ≡ true) (flat_map extents_in_set change.put)
        (λ extent c. run_further vtoc.heads usable vtoc.limit extent within (in_range extent c));
    off_track_0 = subst (λ (runs : List Run). All (λ run. overlap run track_0 ≡ false) runs) (sym put_runs) takes.off_track_0;
    off_vtoc = subst (λ (runs : List Run). All (λ run. overlap run vtoc.run ≡ false) runs) (sym put_runs) takes.off_vtoc;
    off_others =
        subst (λ (others : List Run). All (λ run. All (λ other. overlap run other ≡ false) others) (runs_in_sets vtoc.heads change.put)) (runs_two vtoc.heads front back)
        (subst (λ (runs : List Run). All (λ run. All (λ other. overlap run other ≡ false) (runs_in_sets vtoc.heads (front ++ back))) runs) (sym put_runs) takes.off_others);
    apart = subst (λ (runs : List Run). AreApart runs) (sym put_runs) takes.apart;
  }

  pub apart_after : AreExtentsApart after layout
  apart_after = extents_stay vtoc after (layout_of vtoc four) layout front gone change.put back refl refl refl plan.sets_are refl apart put_apart

  -- ---- the ends of the extents

  stood_ends : (set : SetRecords) (extent : ExtentField) → Contains (layout_of vtoc four).sets set → Contains (extents_in_set set) extent → end_of (run_of vtoc.heads extent) ≤ usable
  stood_ends set extent p q =
      let all : List ExtentField = flat_map extents_in_set (layout_of vtoc four).sets in
      ends (run_of vtoc.heads extent)
      (in_later vtoc.run (run_of vtoc.heads extent) (map (run_of vtoc.heads) all) (contains_map (run_of vtoc.heads) all extent (in_flat extents_in_set (layout_of vtoc four).sets set extent p q)))

  set_ends : (set : SetRecords) (extent : ExtentField) → Contains (front ++ (change.put ++ back)) set → Contains (extents_in_set set) extent → end_of (run_of vtoc.heads extent) ≤ usable
  set_ends set extent p q = by (Contains-append_cases front (change.put ++ back) set p)
    where
      P : List SetRecords → Type 0
      P = λ sets. Contains sets set

      behind : (Contains change.put set ⊎ Contains back set) → end_of (run_of vtoc.heads extent) ≤ usable
      behind (inl a) = (run_facts vtoc.heads usable extent (in_range extent (in_flat extents_in_set change.put set extent a q))).0
      behind (inr b) = stood_ends set extent (subst P (sym plan.sets_are) (in_back front (gone ++ back) set (in_back gone back set b))) q

      by : (Contains front set ⊎ Contains (change.put ++ back) set) → end_of (run_of vtoc.heads extent) ≤ usable
      by (inl a) = stood_ends set extent (subst P (sym plan.sets_are) (in_front front (gone ++ back) set a)) q
      by (inr b) = behind (Contains-append_cases change.put back set b)

  ends_after : (run : Run) → Contains (vtoc.run ∷ runs_by vtoc.heads layout) run → end_of run ≤ usable
  ends_after run c = by (first_or_later vtoc.run run (runs_by vtoc.heads layout) c)
    where
      by : ((vtoc.run ≡ run) ⊎ Contains (runs_by vtoc.heads layout) run) → end_of run ≤ usable
      by (inl same) = ends run (0, omega arith, same)
      by (inr later) =
          let e = from_map (run_of vtoc.heads) (flat_map extents_in_set layout.sets) run later in
          let s = from_flat extents_in_set layout.sets e.0 e.1 in
          let P : Run → Type 0 = λ r. end_of r ≤ usable in
          subst P e.2 (set_ends s.0 e.0 s.1 s.2)

  -- ---- free tracks

  module _ (free : List Run) (free_are : AreMaximalRuns (λ track. IsTrue (is_free usable vtoc.run (runs_by vtoc.heads layout) track)) free)
      (stated : flat_map (λ entries. entries) parts ≡ map (entry_of vtoc.heads) free) where
    entries_are : entries_by vtoc.heads layout ≡ free
    entries_are =
        put_entries sized has plan ∙ joined_parts vtoc.heads parts ∙ ap (λ (entries : List Entry5). filter has_len (map (run_of_entry vtoc.heads) entries)) stated
        ∙ runs_back vtoc.heads free free_are.apart

    pub entries_free : AreMaximalRuns (λ track. IsTrue (is_free usable vtoc.run (runs_by vtoc.heads layout) track)) (entries_by vtoc.heads layout)
    entries_free = subst (AreMaximalRuns (λ track. IsTrue (is_free usable vtoc.run (runs_by vtoc.heads layout) track))) (sym entries_are) free_are

    pub ends_all : All (λ run. end_of run ≤ usable) (vtoc.run ∷ runs_by vtoc.heads layout)
    ends_all = all_from (λ run. end_of run ≤ usable) (vtoc.run ∷ runs_by vtoc.heads layout) ends_after

    pub right_after : AreEntriesRight after layout
    right_after = entries_right after layout usable refl some within ends_all entries_free
