-- The layout of a VTOC after a change that was planned and allotted.
use Rattle.std.proofs.Common.{◌≡◌, ◌≢◌, ℕ, ◌+◌, List, [], ◌∷◌, length, map, filter, take, All, Option, Some, None, refl, sym, ap, subst, ◌∙◌, arith, length-append}
use Rattle.std.specs.Prelude.{nat_lt}
use Rattle.std.specs.List.{flat_map}
use Rattle.std.proofs.lemmas.List.{length-take, length-map}
use Rattle.std.proofs.lemmas.List.Elements.{All-cons, All-head, All-tail}
use Rattle.std.proofs.lemmas.List.Sorted.{length_permutation}
use Rattle.dscb_rec.specs.declared.field.Entry5.{Entry5}
use Rattle.volume_model.specs.declared.place.Place.{Place}
use Rattle.volume_model.specs.declared.place.Placed.{Placed}
use Rattle.volume_model.specs.declared.place.Vtoc.{Vtoc}
use Rattle.volume_model.specs.Check.{records_of, fives_of}
use Rattle.vtoc_check.specs.Sized.{IsSized}
use Rattle.vtoc_core.specs.Edit.{run_of_entry}
use Rattle.vtoc_core.specs.Loaded.{field_of}
use Rattle.vtoc_layout.specs.Layout.{SetRecords, Layout, IsLayoutOf, AreLinkedFives, extents_in_set, entries_by, layout_of}
use Rattle.vtoc_layout.proofs.Distinct.{map_permuted, at_first}
use Rattle.vtoc_layout.proofs.Uses.{distinct_f5s, distinct_fives, same_fives}
use Rattle.layout_edit.specs.Change.{LayoutChange, IsChangeOf, edits_of, vtoc_after, layout_after}
use Rattle.layout_edit.proofs.Changes.{changes}
use Rattle.layout_edit.proofs.Edits.{edit_named}
use Rattle.vtoc_write.specs.Edited.{edit_of, after_edits, dscbs_after, tracks_after}
use Rattle.vtoc_allot.specs.Allotted.{listed, one_if}
use Rattle.vtoc_plan.specs.Plan.{Putting, AreFivesWith}
use Rattle.vtoc_plan.proofs.Changes.{change_is}
use Rattle.vtoc_plan.proofs.Says.{extents, entries}
use Rattle.render_laws.specs.Rendered.{WasPlanned}

-- ---- tracks

pub tracks_stay : (edits : List Placed) (track : ℕ) (tracks : List (Option (List (List ℕ)))) → All (λ dscbs. dscbs ≢ None) tracks → All (λ dscbs. dscbs ≢ None) (tracks_after edits track tracks)
tracks_stay edits track [] h = h
tracks_stay edits track (None ∷ more) h = absurd (All-head (λ (dscbs : Option (List (List ℕ))). dscbs ≢ None) None more h refl)
tracks_stay edits track (Some dscbs ∷ more) h =
    All-cons (λ (dscbs : Option (List (List ℕ))). dscbs ≢ None) (Some (dscbs_after edits track 1 dscbs)) (tracks_after edits (track + 1) more) (λ same. cc)
    (tracks_stay edits (track + 1) more (All-tail (λ (dscbs : Option (List (List ℕ))). dscbs ≢ None) (Some dscbs) more h))

-- ---- format 5s

so_many_fives : (heads : ℕ) (parts : List (List Entry5)) (fives : List Placed) → AreFivesWith heads parts fives → length fives ≡ length parts
so_many_fives heads [] [] h = refl
so_many_fives heads [] (five ∷ fives) h = absurd h
so_many_fives heads (entries ∷ parts) [] h = absurd h
so_many_fives heads (entries ∷ parts) (five ∷ fives) h = omega (arith, so_many_fives heads parts fives h.1)

-- a VTOC has as many format 5s as its layout
pub length_fives : (vtoc : Vtoc) (layout : Layout) → IsSized vtoc → IsLayoutOf vtoc layout → length (fives_of vtoc) ≡ length layout.fives
length_fives vtoc layout sized is =
    let place : Placed → Place = λ placed. placed.place in
    let moved = map_permuted place (fives_of vtoc) layout.fives (distinct_f5s vtoc layout sized is) (distinct_fives vtoc layout sized is) (same_fives vtoc layout sized is) in
    sym (length-map (fives_of vtoc) place) ∙ sym (length_permutation (map place (fives_of vtoc)) (map place layout.fives) moved) ∙ length-map layout.fives place

-- ---- the change

module _ {vtoc : Vtoc} {four : Placed} {front gone back : List SetRecords} {putting : List Putting} {parts : List (List Entry5)} {change : LayoutChange} (sized : IsSized vtoc)
    (has : IsLayoutOf vtoc (layout_of vtoc four)) (plan : WasPlanned vtoc four front gone back putting parts change) where
  abbrev after : Vtoc
  after = vtoc_after vtoc (edits_of change)

  abbrev layout : Layout
  layout = layout_after front change back

  made : IsChangeOf vtoc (layout_of vtoc four) front gone back change
  made =
      change_is vtoc (layout_of vtoc four) front gone back plan.held plan.wanted plan.second plan.allotment putting parts plan.highest plan.free change sized has plan.sets_are plan.one_gone
      plan.holds plan.wants plan.may plan.allotted plan.planned

  pub sized_after : IsSized after
  sized_after = (changes vtoc (layout_of vtoc four) front gone back change sized has made).0

  pub records_after : records_of after ≡ after_edits (edits_of change) (records_of vtoc)
  records_after = (changes vtoc (layout_of vtoc four) front gone back change sized has made).1

  pub layout_stands : IsLayoutOf after layout
  layout_stands = (changes vtoc (layout_of vtoc four) front gone back change sized has made).2

  pub linked_after : AreLinkedFives vtoc.heads (records_of after) change.fives
  linked_after = subst (λ (records : List Placed). AreLinkedFives vtoc.heads records change.fives) (sym records_after) made.fives_linked

  pub four_found : edit_of (edits_of change) vtoc.format_4 ≡ Some change.four
  four_found = edit_named (edits_of change) change.four vtoc.format_4 made.once (at_first change.four _) made.four_at

  pub fives_long : length (fives_of after) ≡ length parts
  fives_long = length_fives after layout sized_after layout_stands ∙ so_many_fives vtoc.heads parts change.fives plan.planned.fives_are

  -- ---- what it says

  one_three : length (listed plan.allotment.three) ≡ one_if plan.wanted.three
  one_three =
      let kept = length-take (one_if plan.wanted.three) plan.held.threes in
      let joined = length-append (take (one_if plan.wanted.three) plan.held.threes) plan.allotted.threes in
      omega (arith, ap length plan.allotted.three_is, kept, joined, plan.allotted.parts.so_many_threes)

  pub put_extents : flat_map extents_in_set change.put ≡ flat_map (λ p. map field_of p.extents) putting
  put_extents = extents vtoc.heads putting parts plan.wanted plan.allotment change.put plan.wants one_three plan.may.few plan.planned.put_are

  pub put_entries : entries_by vtoc.heads layout ≡ flat_map (λ entries. filter (λ run. nat_lt 0 run.len) (map (run_of_entry vtoc.heads) entries)) parts
  put_entries = entries vtoc.heads parts layout plan.planned.fives_are
