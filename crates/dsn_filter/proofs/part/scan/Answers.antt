use Rattle.std.proofs.Common.{◌≡◌, ℕ, ◌+◌, List, length, take, drop, set, subst, sym, refl, arith}
use Rattle.std.proofs.lemmas.Bool.{iff_false}
use Rattle.dsn_filter.specs.Scan.{form_of, Continues}
use Rattle.dsn_filter.proofs.Forms.{form_is}
use Rattle.dsn_filter.proofs.Scanned.{IsReading, reading_dot, reading_more, reading_stops, reading_ends_early, reading_ends, capital_is}
use Rattle.dsn_filter.proofs.part.scan.Goals as goal
use Rattle.dsn_filter.proofs.part.scan.Goals.{then-byte-eq46, else-byte-eq46}

-- what is known of the part that was handed on
at_part : (c : goal.Then-not-continues) → ¬ Continues (form_of c.args.kind) (drop c.loop-place.start (take c.loop-place.place c.loop-place.capital)) c.loop-place.place c.to_ascii_uppercase-byte.result
at_part c h =
    iff_false c.continues.ensures c.if-not-continues.true
    (subst (λ (q : List ℕ). Continues (form_of c.args.kind) q c.loop-place.place c.to_ascii_uppercase-byte.result) (sym c.between.ensures) h)

pub returns-then-not-continues-clause-refused : goal.returns-then-not-continues-clause-refused
returns-then-not-continues-clause-refused c =
    reading_stops (form_of c.args.kind) c.args.text.now c.loop-place.place c.loop-place.start c.loop-place.capital c.loop-place.invariant c.loop-place-test.true
    (form_is c.args.kind) c.to_ascii_uppercase-byte.result c.to_ascii_uppercase-byte.ensures.value (at_part c)

pub loop-place-preserved : goal.loop-place-preserved
loop-place-preserved c =
    let says : Continues (form_of c.args.kind) (drop c.loop-place.start (take c.loop-place.place c.loop-place.capital)) c.loop-place.place c.to_ascii_uppercase-byte.result =
    subst (λ (q : List ℕ). Continues (form_of c.args.kind) q c.loop-place.place c.to_ascii_uppercase-byte.result) c.between.ensures (c.continues.ensures.0 c.if-not-continues.false) in
    let capital : List ℕ = set c.loop-place.capital c.loop-place.place c.to_ascii_uppercase-byte.result in
    elim c.if-byte-eq46.branch [
      | then-byte-eq46 w ↦ subst (λ (s : ℕ). IsReading (form_of c.args.kind) c.args.text.now (c.loop-place.place + 1) s capital) (sym w.start-is)
          (reading_dot (form_of c.args.kind) c.args.text.now c.loop-place.place c.loop-place.start c.loop-place.capital c.loop-place.invariant c.loop-place-test.true
          c.to_ascii_uppercase-byte.result c.to_ascii_uppercase-byte.ensures.value w.if-byte-eq46.true says)
      | else-byte-eq46 w ↦ subst (λ (s : ℕ). IsReading (form_of c.args.kind) c.args.text.now (c.loop-place.place + 1) s capital) (sym w.start-is)
          (reading_more (form_of c.args.kind) c.args.text.now c.loop-place.place c.loop-place.start c.loop-place.capital c.loop-place.invariant c.loop-place-test.true
          c.to_ascii_uppercase-byte.result c.to_ascii_uppercase-byte.ensures.value w.if-byte-eq46.false says)
    ]

-- at the end all bytes are read
pub returns-then-start-text-clause-refused : goal.returns-then-start-text-clause-refused
returns-then-start-text-clause-refused c =
    let at : c.loop-place.place ≡ length c.args.text.now = omega arith in
    reading_ends_early (form_of c.args.kind) (form_is c.args.kind) c.args.text.now c.loop-place.start c.loop-place.capital
    (subst (λ (n : ℕ). IsReading (form_of c.args.kind) c.args.text.now n c.loop-place.start c.loop-place.capital) at c.loop-place.invariant) c.if-start-text.true

pub returns-clause-read : goal.returns-clause-read
returns-clause-read c =
    let at : c.loop-place.place ≡ length c.args.text.now = omega arith in
    let all = subst (λ (n : ℕ). IsReading (form_of c.args.kind) c.args.text.now n c.loop-place.start c.loop-place.capital) at c.loop-place.invariant in (
      reading_ends (form_of c.args.kind) (form_is c.args.kind) c.args.text.now c.loop-place.start c.loop-place.capital all c.if-start-text.false,
      refl,
      capital_is (form_of c.args.kind) (form_is c.args.kind) c.args.text.now c.loop-place.start c.loop-place.capital all,
    )
