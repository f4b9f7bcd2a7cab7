-- The kept slots of one unit after another.
use Rattle.std.proofs.Common.{◌≡◌, ◌≢◌, ◌⊎◌, inl, inr, ℕ, zero, suc, ◌+◌, ◌*◌, ◌<◌, ◌≤◌, List, [], ◌∷◌, ◌++◌, length, map, take, get_or, Some, refl, sym, ap, subst, ◌∙◌, arith}
use Rattle.std.specs.Prelude.{slice_get, slice_set}
use Rattle.std.proofs.lemmas.List.{length-map, length-take, take_more}
use Rattle.std.proofs.lemmas.Option.{same_Some, slice_get_read, slice_get_within}
use Rattle.ckd_image.specs.Device.{slot_of}
use Rattle.vtoc_core.specs.declared.volume.Volume.{Volume}
use Rattle.volume_change.specs.declared.change.Change.{Change}
use Rattle.unit_steps.specs.vtoc_render.declared.change.Rendered.{Rendered}
use Rattle.unit_load.specs.declared.state.UnitState.{UnitState}
use Rattle.unit_steps.specs.Plans.{IsLoadedAt}
use Rattle.unit_steps.specs.Rendering.{AreOfUnits, ArePatched, VtocsAfter}
use Rattle.dasd_pool.proofs.Slices.{get_set_other}
use Rattle.unit_steps.proofs.Readying.{pairs_rest}
use Rattle.unit_session.specs.Planned.{BlocksAreOf, MayPatchUnit, MayPatch}
use Rattle.unit_steps.proofs.OneChange.{same_volume}

-- no change before is of this unit
abbrev pub AreOthers : ℕ → List (ℕ × Change) → Type 0
AreOthers unit [] = Unit {0}
AreOthers unit (change ∷ changes) = (unit ≢ change.0) × AreOthers unit changes

kept_by : (units : List UnitState) (old new : List (List ℕ)) (changes : List (ℕ × Change)) (rendered : List Rendered) (unit : ℕ) → AreOthers unit changes
    → VtocsAfter units old changes rendered new → slice_get new unit ≡ slice_get old unit
kept_by units old new [] rendered unit others after = ap (λ (l : List (List ℕ)). slice_get l unit) after
kept_by units old new (change ∷ changes) [] unit others after = ap (λ (l : List (List ℕ)). slice_get l unit) after
kept_by units old new (change ∷ changes) (one ∷ more) unit others after =
    kept_by units (slice_set old change.0 after.2) new changes more unit others.1 after.6 ∙ get_set_other old change.0 unit after.2 others.0

vtocs_push : (units : List UnitState) (old mid new : List (List ℕ)) (changes : List (ℕ × Change)) (rendered : List Rendered) (change : ℕ × Change) (one : Rendered) (volume : Volume) (before after : List ℕ)
    → length changes ≡ length rendered → VtocsAfter units old changes rendered mid → IsLoadedAt units change.0 volume → slice_get mid change.0 ≡ Some before
    → ArePatched volume.vtoc (slot_of volume.device) one.blocks before after → new ≡ slice_set mid change.0 after
    → VtocsAfter units old (changes ++ (change ∷ [])) (rendered ++ (one ∷ [])) new
vtocs_push units old mid new [] [] change one volume before after long so loaded at patched is =
    (volume, before, after, loaded, ap (λ (l : List (List ℕ)). slice_get l change.0) (sym so) ∙ at, patched, is ∙ ap (λ (l : List (List ℕ)). slice_set l change.0 after) so)
vtocs_push units old mid new [] (r ∷ rendered) change one volume before after long so loaded at patched is = absurd (omega (arith, long))
vtocs_push units old mid new (c ∷ changes) [] change one volume before after long so loaded at patched is = absurd (omega (arith, long))
vtocs_push units old mid new (c ∷ changes) (r ∷ rendered) change one volume before after long so loaded at patched is = (
  so.0,
  so.1,
  so.2,
  so.3,
  so.4,
  so.5,
  vtocs_push units (slice_set old c.0 so.2) mid new changes rendered change one volume before after (omega (arith, long)) so.6 loaded at patched is,
)

vtocs_end : (units : List UnitState) (old new : List (List ℕ)) (changes : List (ℕ × Change)) (rendered : List Rendered) (place : ℕ) → (length changes ≤ place) ⊎ (length rendered ≤ place)
    → VtocsAfter units old (take place changes) (take place rendered) new → VtocsAfter units old changes rendered new
vtocs_end units old new [] rendered zero past after = after
vtocs_end units old new [] rendered (suc place) past after = after
vtocs_end units old new (c ∷ changes) [] zero past after = after
vtocs_end units old new (c ∷ changes) [] (suc place) past after = after
vtocs_end units old new (c ∷ changes) (r ∷ rendered) zero past after = absurd (elim past [ inl a ↦ omega (arith, a) | inr b ↦ omega (arith, b) ])
vtocs_end units old new (c ∷ changes) (r ∷ rendered) (suc place) past after = (
  after.0,
  after.1,
  after.2,
  after.3,
  after.4,
  after.5,
  vtocs_end units (slice_set old c.0 after.2) new changes rendered place (elim past [ inl a ↦ inl (omega (arith, a)) | inr b ↦ inr (omega (arith, b)) ]) after.6,
)

pub may_at : (units : List UnitState) (vtocs : List (List ℕ)) (changes : List (ℕ × Change)) (rendered : List Rendered) (place : ℕ) (change : ℕ × Change) (one : Rendered) → place < length changes
    → place < length rendered → change ≡ get_or changes place change → one ≡ get_or rendered place one → MayPatch units vtocs changes rendered → MayPatchUnit units vtocs change.0 one
may_at units vtocs [] rendered place change one less within is is' may = absurd (omega (arith, less))
may_at units vtocs (c ∷ changes) [] place change one less within is is' may = absurd (omega (arith, within))
may_at units vtocs (c ∷ changes) (r ∷ rendered) zero change one less within is is' may =
    subst (λ (x : ℕ × Change). MayPatchUnit units vtocs x.0 one) (sym is) (subst (λ (x : Rendered). MayPatchUnit units vtocs c.0 x) (sym is') may.0)
may_at units vtocs (c ∷ changes) (r ∷ rendered) (suc place) change one less within is is' may =
    may_at units vtocs changes rendered place change one (omega (arith, less)) (omega (arith, within)) is is' may.1

pub vtocs_whole : (units : List UnitState) (old new : List (List ℕ)) (changes : List (ℕ × Change)) (rendered : List Rendered) (place shorter : ℕ)
    → (length changes ≤ shorter) ⊎ (length rendered ≤ shorter) → shorter ≤ place → VtocsAfter units old (take place changes) (take place rendered) new
    → VtocsAfter units old changes rendered new
vtocs_whole units old new changes rendered place shorter short past after =
    vtocs_end units old new changes rendered place (elim short [ inl a ↦ inl (omega (arith, a, past)) | inr b ↦ inr (omega (arith, b, past)) ]) after

-- ---- one change more

unit_at : (changes : List (ℕ × Change)) (place : ℕ) (change : ℕ × Change) → place < length changes → get_or (map (λ c. c.0) changes) place change.0 ≡ (get_or changes place change).0
unit_at [] place change less = absurd (omega (arith, less))
unit_at (c ∷ changes) zero change less = refl
unit_at (c ∷ changes) (suc place) change less = unit_at changes place change (omega (arith, less))

others_before : (changes : List (ℕ × Change)) (place : ℕ) (change : ℕ × Change) → AreOfUnits changes → place < length changes → change ≡ get_or changes place change
    → AreOthers change.0 (take place changes)
others_before [] place change apart less is = absurd (omega (arith, less))
others_before (c ∷ changes) zero change apart less is = tt
others_before (c ∷ changes) (suc place) change apart less is =
    let there : get_or (map (λ (x : ℕ × Change). x.0) changes) place change.0 ≡ change.0 = unit_at changes place change (omega (arith, less)) ∙ ap (λ (x : ℕ × Change). x.0) (sym is) in
    let other : c.0 ≢ get_or (map (λ (x : ℕ × Change). x.0) changes) place change.0 =
    apart 0 (suc place) change.0 (omega arith) (omega (arith, less, length-map changes (λ (x : ℕ × Change). x.0))) in (
      λ same. other (sym same ∙ sym there),
      others_before changes place change (pairs_rest (λ one more. one ≢ more) c.0 (map (λ (x : ℕ × Change). x.0) changes) apart) (omega (arith, less)) is,
    )

module _ (units : List UnitState) (old mid : List (List ℕ)) (changes : List (ℕ × Change)) (rendered : List Rendered) (place : ℕ) (change : ℕ × Change) (one : Rendered)
    (less : place < length changes) (within : place < length rendered) (is : change ≡ get_or changes place change) (is' : one ≡ get_or rendered place one)
    (may : MayPatch units old changes rendered) (apart : AreOfUnits changes) (so : VtocsAfter units old (take place changes) (take place rendered) mid) where
  ready : MayPatchUnit units old change.0 one
  ready = may_at units old changes rendered place change one less within is is' may

  there : slice_get mid change.0 ≡ Some ready.slots
  there = kept_by units old mid (take place changes) (take place rendered) change.0 (others_before changes place change apart less is) so ∙ ready.kept

  pub in_reach : change.0 < length mid
  in_reach = slice_get_within mid change.0 ready.slots there

  slots_at : (slots : List ℕ) → slots ≡ get_or mid change.0 slots → slice_get mid change.0 ≡ Some slots
  slots_at slots at = slice_get_read mid (length mid) change.0 slots refl in_reach at

  pub unit_ready : (volume : Volume) (slots : List ℕ) → IsLoadedAt units change.0 volume → slots ≡ get_or mid change.0 slots
      → (length slots ≡ volume.vtoc.len * slot_of volume.device) × BlocksAreOf volume.vtoc (slot_of volume.device) one.blocks
  unit_ready volume slots loaded at =
      let P : Volume → List ℕ → Type 0 = λ v l. (length l ≡ v.vtoc.len * slot_of v.device) × BlocksAreOf v.vtoc (slot_of v.device) one.blocks in
      subst (λ (l : List ℕ). P volume l) (same_Some ready.slots slots (sym there ∙ slots_at slots at))
      (subst (λ (v : Volume). P v ready.slots) (same_volume units change.0 ready.volume volume ready.loaded loaded) (ready.whole, ready.blocks))

  pub vtocs_more : (volume : Volume) (before after : List ℕ) (new : List (List ℕ)) → IsLoadedAt units change.0 volume → before ≡ get_or mid change.0 before
      → ArePatched volume.vtoc (slot_of volume.device) one.blocks before after → new ≡ slice_set mid change.0 after
      → VtocsAfter units old (take (place + 1) changes) (take (place + 1) rendered) new
  vtocs_more volume before after new loaded at patched made =
      let front : take (place + 1) changes ≡ take place changes ++ (change ∷ []) =
      take_more changes place change less ∙ ap (λ (c : ℕ × Change). take place changes ++ (c ∷ [])) (sym is) in
      let more : take (place + 1) rendered ≡ take place rendered ++ (one ∷ []) = take_more rendered place one within ∙ ap (λ (r : Rendered). take place rendered ++ (r ∷ [])) (sym is') in
      let long : length (take place changes) ≡ length (take place rendered) = omega (arith, length-take place changes, length-take place rendered, less, within) in
      let pushed : VtocsAfter units old (take place changes ++ (change ∷ [])) (take place rendered ++ (one ∷ [])) new =
      vtocs_push units old mid new (take place changes) (take place rendered) change one volume before after long so loaded (slots_at before at) patched made in
      subst (λ (l : List (ℕ × Change)). VtocsAfter units old l (take (place + 1) rendered) new) (sym front)
      (subst (λ (l : List Rendered). VtocsAfter units old (take place changes ++ (change ∷ [])) l new) (sym more) pushed)
