use Rattle.std.proofs.Common.{rules, ◌↔◌, arith}
use Rattle.std.specs.Prelude.{IsTrue, nat_lt}
use Rattle.volume_model.specs.Pinned.{GoesOn}
use Rattle.job_select.proofs.KeptFields.{volume_kept}
use Rattle.job_select.proofs.judged.goes_on.Goals as goal

pub returns : goal.returns
returns c =
    let kept = volume_kept c.args.f1.now c.told-f1 in
    let plain : IsTrue (nat_lt 1 c.from_be_bytes.result) ↔ GoesOn c.args.f1.now = search rules in
    (λ t. omega (arith, kept, plain.0 t), λ on. plain.1 (omega (arith, kept, on)))
