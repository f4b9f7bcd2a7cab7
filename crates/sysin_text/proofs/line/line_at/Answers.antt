use Rattle.std.proofs.Common.{◌≡◌, ◌∷◌, [], List, ℕ, length, sym, ap, ◌∙◌, Bool, true, false}
use Rattle.std.specs.Prelude.{◌==◌}
use Rattle.sysin_text.specs.Lines.{lines_of}
use Rattle.sysin_text.proofs.Splits.{fed_line, only_line}
use Rattle.sysin_text.proofs.line.line_at.Goals as goal

pub returns-in-Some-clause-found : goal.returns-in-Some-clause-found
returns-in-Some-clause-found c =
    ap lines_of c.in-Some.ensures.found.0 ∙ fed_line c.in-Some.line.now c.in-Some.behind.now c.in-Some.ensures.found.1
    ∙ ap (λ (t : List ℕ). t ∷ lines_of c.in-Some.behind.now) (sym c.without_cr.ensures)

not_empty : (text : List ℕ) (empty : Bool) → empty ≡ false → empty ≡ (length text == 0) → text ≡ [] → ⊥
not_empty text empty f g e = let yes' : (length text == 0) ≡ true = ap (λ (t : List ℕ). length t == 0) e in cc

pub returns-in-None-clause-found : goal.returns-in-None-clause-found
returns-in-None-clause-found c = only_line c.args.text.now (not_empty c.args.text.now c.is_empty.result c.if-is_empty.false c.is_empty.ensures) c.in-None.ensures.none
