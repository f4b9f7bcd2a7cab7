use Rattle.std.proofs.Common.{◌≡◌, ◌<◌, true, false, arith}
use Rattle.dump_read.proofs.Numbers.{vtoc_cut}
use Rattle.dump_read.proofs.fields.cut_vtoc.Goals as goal
use Rattle.dump_read.proofs.fields.cut_vtoc.Goals.{then-full, else-full}

pub returns-then-padded-limit : goal.returns-then-padded-limit
returns-then-padded-limit c =
    let full : c.args.full ≡ true → c.padded.result < c.args.tracks = λ is. elim c.if-full.branch [ then-full w ↦ omega arith | else-full w ↦ cc ] in
    let logical : c.args.full ≡ false → c.padded.result < 1 = λ is. elim c.if-full.branch [ then-full w ↦ cc | else-full w ↦ omega arith ] in
    (c.requires.short, vtoc_cut c.args.full c.args.bytes.now c.padded.result c.args.tracks c.requires.short c.padded.ensures full logical c.requires.tracks.0)
