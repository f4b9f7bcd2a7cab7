use Rattle.std.proofs.Common.{◌≡◌, ℕ, ◌<◌, ◌≤◌, List, ◌∷◌, length, filter, Option, Some, sym, subst, ◌∙◌}
use Rattle.std.specs.Prelude.{IfSome}
use Rattle.std.proofs.lemmas.Result.{IfOk-weaker}
use Rattle.volume_model.specs.declared.place.Placed.{Placed}
use Rattle.volume_model.specs.Check.{first_five}
use Rattle.vtoc_check.specs.FiveRule.{is_five}
use Rattle.vtoc_check.specs.Pointers.{named}
use Rattle.vtoc_check.specs.Reach.{record_in}
use Rattle.vtoc_layout.specs.Layout.{IsLinked}
use Rattle.layout_found.specs.Fives.{AreItsFives}
use Rattle.layout_found.proofs.FivesInOrder.{fives_of_each, fives_found}
use Rattle.layout_found.proofs.fives.fives_among.Goals as goal

pub returns : goal.returns
returns c =
    let heads = c.args.directory.now.heads in
    let records = c.args.records.now in
    let first = record_in records c.in-Some.first in
    let P : Option ℕ → Type 0 = λ found. IfSome found (λ k. (k < length records) × (first_five (named heads records) (filter is_five records) ≡ Some (record_in records k))) in
    let begin = subst P c.in-Some.is c.in_ok-first.ensures.found in
    let of = c.requires.sound in
    let records_are = c.requires.same ∙ of.records in
    IfOk-weaker c.with_linked.result (λ (fives : List Placed). (linked : List Placed) → IsLinked heads records first.bytes linked → length linked ≤ length records → fives ≡ first ∷ linked) (AreItsFives heads records c.args.valid)
    (λ fives h.
    fives_of_each of.vtoc heads records fives c.args.valid of.heads records_are of.validity
    (fives_found of.vtoc heads records first fives of.heads records_are of.sized.short of.sound (sym of.validity ∙ c.if-not-valid.false) begin.1 h)) c.with_linked.ensures
