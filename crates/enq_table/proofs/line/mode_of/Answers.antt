use Rattle.std.proofs.Common.{◌≡◌, ◌++◌, ◌∷◌, [], get_or, ap, sym, ◌∙◌}
use Rattle.std.specs.Char.{to_ascii_uppercase}
use Rattle.enq_table.specs.declared.hold.Mode.{Mode}
use Rattle.enq_table.specs.HeldText.{mode_text}
use Rattle.enq_table.proofs.LineText.{mode_refused}
use Rattle.enq_table.proofs.line.mode_of.Goals as goal
use Rattle.enq_table.proofs.line.mode_of.Goals.{in-83, in-69}

pub returns-then-right-lt4-clause-refused : goal.returns-then-right-lt4-clause-refused
returns-then-right-lt4-clause-refused c =
    let mode : Mode = c.match-to_ascii_uppercase.mode in
    let first : to_ascii_uppercase (get_or c.args.line.now 0 0) ≡ get_or (mode_text mode ++ (32 ∷ [])) 0 0 =
    elim c.match-to_ascii_uppercase.branch [
      | in-83 w ↦ sym c.to_ascii_uppercase.ensures.value ∙ w.in-83.is ∙ ap (λ (m : Mode). get_or (mode_text m ++ (32 ∷ [])) 0 0) (sym w.mode-is)
      | in-69 w ↦ sym c.to_ascii_uppercase.ensures.value ∙ w.in-69.is ∙ ap (λ (m : Mode). get_or (mode_text m ++ (32 ∷ [])) 0 0) (sym w.mode-is)
    ] in
    mode_refused c.args.line.now c.word.result mode c.right_len-right.result c.word.ensures c.requires c.if-right-lt4.true c.right_len-right.ensures.within first
    c.right_len-right.ensures.same c.right_len-right.ensures.other
