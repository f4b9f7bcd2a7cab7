use Rattle.std.proofs.Common.{◌≡◌, ◌<◌, ◌∙◌, ℕ, Some, refl, sym, ap, arith}
use Rattle.std.specs.Prelude.{slice_get}
use Rattle.std.specs.Cmp.Lexicographic.{same_text, other_text}
use Rattle.std.proofs.lemmas.Option.{same_Some, slice_get-get_or}
use Rattle.job_acts.specs.job_steps.Units.{facts_of}
use Rattle.job_turns.proofs.units.unit_of.Goals as goal

pub loop-unit-init : goal.loop-unit-init
loop-unit-init g c = λ other less. absurd (omega (arith, less))

pub returns-then-eq-clause-found : goal.returns-then-eq-clause-found
returns-then-eq-clause-found g c =
    let text : c.name.result.text ≡ c.args.serial.text = same_text c.name.result.text c.args.serial.text c.if-eq.ensures in
    record {
      name_is = c.name.ensures ∙ (λ i. Some (record { text = text i }));
      first = c.loop-unit.invariant;
    }

pub returns-then-eq-clause-models : goal.returns-then-eq-clause-models
returns-then-eq-clause-models g c told units settled = c.units-unit-end.ensures.models told (facts_of g.P.Pool c.args.session.now) units refl settled

pub loop-unit-preserved : goal.loop-unit-preserved
loop-unit-preserved g c other less at =
    let names = c.args.session.now.names in
    let not_less : ¬ (other < c.loop-unit.unit) = λ below. c.loop-unit.invariant other below at in
    let same : other ≡ c.loop-unit.unit = omega (arith, not_less, less) in
    let serial : c.name.result ≡ c.args.serial = same_Some c.name.result c.args.serial (sym c.name.ensures ∙ ap (λ (k : ℕ). slice_get names k) (sym same) ∙ at) in
    other_text c.name.result.text c.args.serial.text c.if-eq.ensures (λ i. (serial i).text)

pub returns-clause-none : goal.returns-clause-none
returns-clause-none g c k d less same =
    let names = c.args.session.now.names in
    c.loop-unit.invariant k (omega (arith, less, c.units-unit-end.ensures.names, c.loop-unit-test.false)) (slice_get-get_or names k d less ∙ (λ i. Some (same i)))

pub returns-clause-models : goal.returns-clause-models
returns-clause-models g c told units settled = c.units-unit-end.ensures.models told (facts_of g.P.Pool c.args.session.now) units refl settled
