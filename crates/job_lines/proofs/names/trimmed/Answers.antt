use Rattle.std.proofs.Common.{◌≡◌, ◌≢◌, ◌<◌, ◌-◌, ℕ, suc, take, length, get_or, sym, ap, ◌∙◌, arith}
use Rattle.std.proofs.lemmas.List.{take_all, length-take-le}
use Rattle.job_lines.specs.Names.{trimmed}
use Rattle.job_lines.proofs.Trimming.{trimmed_more, trimmed_to}
use Rattle.job_lines.proofs.names.trimmed.Goals.{then-loop-end-test+else-bytes-end-eq-BLANK, else-loop-end-test}
use Rattle.job_lines.proofs.names.trimmed.Goals as goal

pub loop-end-init : goal.loop-end-init
loop-end-init c = record {
  within = omega arith;
  text = ap trimmed (take_all (length c.args.bytes.now) c.args.bytes.now (omega arith));
}

pub bounds-bytes-end : goal.bounds-bytes-end
bounds-bytes-end c = omega (arith, c.loop-end.invariant.within, c.loop-end-test.true)

pub loop-end-preserved : goal.loop-end-preserved
loop-end-preserved c =
    let end = c.loop-end.end in
    let one : suc (end - 1) ≡ end = omega (arith, c.loop-end-test.true) in
    let less : end - 1 < length c.args.bytes.now = omega (arith, c.loop-end.invariant.within, c.loop-end-test.true) in
    record {
      within = omega (arith, c.loop-end.invariant.within);
      text =
          sym (trimmed_more c.args.bytes.now (end - 1) less c.if-bytes-end-eq-BLANK.true)
          ∙ ap (λ (n : ℕ). trimmed (take n c.args.bytes.now)) one ∙ c.loop-end.invariant.text;
    }

pub returns-clause-text : goal.returns-clause-text
returns-clause-text c = sym (trimmed_to c.args.bytes.now c.loop-end.end c.loop-end.invariant.within last) ∙ c.loop-end.invariant.text
  where
    last : 0 < c.loop-end.end → get_or c.args.bytes.now (c.loop-end.end - 1) 0 ≢ 0x40
    last some =
        elim c.loop-end-test.branch [
          | then-loop-end-test+else-bytes-end-eq-BLANK w ↦ w.if-bytes-end-eq-BLANK.false
          | else-loop-end-test w ↦ absurd (omega (arith, w.loop-end-test.false, some))
        ]

pub returns-clause-short : goal.returns-clause-short
returns-clause-short c = omega (arith, length-take-le c.loop-end.end c.args.bytes.now c.loop-end.invariant.within, c.loop-end.invariant.within)
