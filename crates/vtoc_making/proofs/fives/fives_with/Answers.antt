use Rattle.std.proofs.Common.{◌≡◌, ℕ, suc, ◌+◌, List, Option, get_or, refl, ap, sym, subst, ◌∙◌, arith}
use Rattle.std.specs.Prelude.{slice_get}
use Rattle.std.proofs.lemmas.List.{take_all}
use Rattle.std.proofs.Math.Numerals.{suc-eq-add-one}
use Rattle.ckd_image.specs.declared.track.Cchhr.{Cchhr}
use Rattle.dscb_rec.specs.declared.field.Entry5.{Entry5}
use Rattle.volume_model.specs.declared.place.Place.{Place}
use Rattle.volume_model.specs.declared.place.Placed.{Placed}
use Rattle.dscb_made.specs.Made.{IsFormat5With}
use Rattle.vtoc_making.specs.Places.{next_pointer, part_of}
use Rattle.vtoc_making.proofs.Chained.{AreFivesSoFar, one_more, fives_are}
use Rattle.vtoc_making.proofs.fives.fives_with.Goals as goal

abbrev zero_place : Place
zero_place = record { track = 0; record_number = 0 }

pub loop-number-preserved : goal.loop-number-preserved
loop-number-preserved c =
    let P : List Placed → Type 0 = λ fives. AreFivesSoFar c.args.heads c.args.entries.now c.args.places.now (c.loop-number.number + 1) fives in
    let five : Placed = record { place = get_or c.args.places.now c.loop-number.number zero_place; bytes = c.format_5_with.result } in
    let Q : List Entry5 → Type 0 = λ part. IsFormat5With part c.pointer_at-next.result c.format_5_with.result in
    let next : c.pointer_at-next.result ≡ next_pointer c.args.heads (slice_get c.args.places.now (suc c.loop-number.number)) =
    c.pointer_at-next.ensures.pointer ∙ ap (λ (n : ℕ). next_pointer c.args.heads (slice_get c.args.places.now n)) (sym (suc-eq-add-one c.loop-number.number)) in
    let R : Option Cchhr → Type 0 = λ pointer. IsFormat5With (part_of c.args.entries.now c.loop-number.number) pointer c.format_5_with.result in
    subst P (sym c.in_ok-push.ensures.ok)
    (one_more c.args.heads c.args.entries.now c.args.places.now c.loop-number.number c.loop-number.fives five zero_place c.loop-number-test.true c.loop-number.invariant refl
    (subst R next (subst Q c.part.ensures.part c.format_5_with.ensures)))

pub returns-clause-fives : goal.returns-clause-fives
returns-clause-fives c =
    fives_are c.args.heads c.loop-number.fives c.args.places.now c.args.entries.now
    (c.loop-number.invariant.at ∙ take_all c.loop-number.number c.args.places.now (omega (arith, c.loop-number-test.false))) c.loop-number.invariant.each
