use Rattle.std.proofs.Common.{◌≡◌, [], length, sym, ◌∙◌, arith}
use Rattle.std.specs.Vec.{vec_len}
use Rattle.std.proofs.lemmas.Bool.{eqb-true}
use Rattle.std.proofs.lemmas.List.{nil_from_length}
use Rattle.rows_headline.proofs.Forms.{stays_settled}
use Rattle.rows_headline.proofs.made.list.Goals as goal

pub returns-clause-stays : goal.returns-clause-stays
returns-clause-stays g c = λ told.
    let zero : c.batch-ended.result.status ≡ 0 = omega (arith, c.if-ended-ne0.false) in
    let none : vec_len c.batch-ended.result.steps ≡ 0 = eqb-true (vec_len c.batch-ended.result.steps) 0 (sym c.if-not-is_empty.ensures) in
    let long : length c.batch-ended.result.steps.items ≡ vec_len c.batch-ended.result.steps = sym c.batch-ended.result.steps.ok.0 in
    let empty : c.batch-ended.result.steps.items ≡ [] = nil_from_length c.batch-ended.result.steps.items (long ∙ none) in
    stays_settled _ _ _ _ _ _ (c.batch-ended.ensures.headline (c.ask_for_text.ensures c.if-not-ask_for_text.false)) told (λ is. omega (arith, zero, is)) empty
