use Rattle.std.proofs.Common.{◌≡◌, ◌-◌, ℕ, ◌++◌, ◌∷◌, [], List, take, sym, ap, ◌∙◌, append-nil, append_assoc}
use Rattle.sysin_forms.specs.declared.operand.Operand.{Operand}
use Rattle.sysin_forms.specs.Made.{said, with_operand}
use Rattle.sysin_forms.proofs.parts.Parts.of.Goals as goal

pub operands-init : goal.operands-init
operands-init c = ([], sym (append-nil c.into_vec-list.result.items ∙ c.into_vec-list.ensures), c.none-parts.ensures)

pub operands-preserved : goal.operands-preserved
operands-preserved c =
    let taken = c.operands.invariant.0 in
    let operand = c.in-Some.operand in (
      operand ∷ taken,
      c.operands.invariant.1 ∙ ap (λ (t : List Operand). t ++ taken) c.in-Some.ensures.items ∙ append_assoc c.pop.new.self.items (operand ∷ []) taken,
      c.add.ensures ∙ ap (with_operand operand) c.operands.invariant.2,
    )

pub returns : goal.returns
returns c =
    let list = c.operands.list.items in
    let none = c.in_default.ensures in
    let empty : list ≡ [] = none.items ∙ append-nil c.pop.new.self.items ∙ none.rest ∙ ap (λ (n : ℕ). take (n - 1) list) none.cases.0 in
    c.operands.invariant.2 ∙ ap said (sym (c.operands.invariant.1 ∙ ap (λ (t : List Operand). t ++ c.operands.invariant.0) empty))
