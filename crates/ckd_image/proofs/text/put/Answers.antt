use Rattle.std.proofs.Common.{◌≡◌, ◌+◌, ◌-◌, ap, ◌∙◌, length, arith}
use Rattle.std.proofs.lemmas.Slice.{drop-put_mid}
use Rattle.ckd_image.proofs.text.put.Goals as goal

pub returns-clause-behind : goal.returns-clause-behind
returns-clause-behind c =
    let start = c.args.start in
    let count = length c.args.piece.now in
    let copied = c.copy_from_slice.new.self in
    let long : length copied ≡ start + count - start = ap length c.copy_from_slice.ensures.after ∙ omega arith in
    drop-put_mid start (start + count - start) c.args.bytes.now copied (start + count) (omega arith) (omega (arith, c.requires)) long
