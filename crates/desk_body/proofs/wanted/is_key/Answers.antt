use Rattle.std.proofs.Common.{◌≡◌, ℕ, List, length, sym, ◌∙◌, subst, refl, arith}
use Rattle.std.specs.Prelude.{All, IsTrue}
use Rattle.std.proofs.lemmas.Bool.{eqb-false}
use Rattle.std.proofs.lemmas.List.{take_all}
use Rattle.std.proofs.lemmas.List.Elements.{All-more}
use Rattle.desk_body.specs.Wanted.{is_key_byte}
use Rattle.desk_body.proofs.wanted.is_key.Goals as goal

pub loop-byte-preserved : goal.loop-byte-preserved
loop-byte-preserved c =
    All-more (λ (b : ℕ). IsTrue (is_key_byte b)) c.args.text.now c.loop-byte.byte-index 0 (omega arith) c.loop-byte.invariant (sym c.is_key_byte.ensures ∙ c.if-not-is_key_byte.false)

pub returns : goal.returns
returns c =
    let text = c.args.text.now in
    let apart : length text ≡ 0 → ⊥ = eqb-false (length text) 0 (sym c.is_empty.ensures ∙ c.if-is_empty.false) in
    let each : All (λ (b : ℕ). IsTrue (is_key_byte b)) text =
    let P : List ℕ → Type 0 = λ t. All (λ (b : ℕ). IsTrue (is_key_byte b)) t in
    subst P (take_all c.loop-byte.byte-index text (omega arith)) c.loop-byte.invariant in
    (λ _. (omega arith, omega arith, each), λ _. refl)
