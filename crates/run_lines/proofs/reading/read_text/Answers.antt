use Rattle.std.proofs.Common.{rules, ◌≢◌, ◌+◌, ◌≤◌, length}
use Rattle.run_lines.specs.Texts.{TakesFew}
use Rattle.run_lines.specs.declared.reading.TextFault.TheVariants as faults
use Rattle.run_lines.proofs.Appending.{takes_few, if_err}
use Rattle.run_lines.proofs.reading.read_text.Goals as goal

pub returns-in_err-extend_from_slice-clause-few_more : goal.returns-in_err-extend_from_slice-clause-few_more
returns-in_err-extend_from_slice-clause-few_more g c =
    let room : length c.chunks.text.items + length c.read.new.buf ≤ 1048577 = search rules in
    if_err c.from_residual-in_err-extend_from_slice.result (λ fault. fault ≢ faults.Source) (TakesFew 1048577 (g.S.Source.left c.args.source.now) (g.S.Source.left c.read.new.self))
    (takes_few _ (g.S.Source.left c.chunks.source) _ c.chunks.text.items c.read.new.buf c.in_ok-count.count 1048577 c.chunks.invariant.bytes c.in_ok-count.ensures.bytes c.in_ok-count.ensures.within room)
