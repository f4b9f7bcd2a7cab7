use Rattle.std.proofs.Common.{ℕ, ◌≡◌, List, take, ap, ◌∙◌, subst}
use Rattle.ckd_image.specs.Head.{IsHead}
use Rattle.dasd_pool.specs.Disk.{Shape}
use Rattle.redo_core.specs.Reading.{placed, body_for}
use Rattle.redo_core.proofs.Heads.{label_serial}
use Rattle.redo_core.proofs.labels.unit_label.Goals as goal

pub returns-clause-only : goal.returns-clause-only
returns-clause-only g c = λ told serial has.
    let shape = g.P.Pool.shape c.args.pool.now in
    let contents = (g.P.Pool.disk c.args.pool.now).state.contents in
    let image = placed contents (body_for shape.block_size c.args.journal contents c.args.targets.now) in
    let head = c.in-Ok.head in
    let is : IsHead (shape.head c.args.unit) (shape.blocks c.args.unit) head.device =
    subst (λ (n : ℕ). IsHead (shape.head c.args.unit) n head.device) c.blocks-2.ensures (subst (λ (l : List ℕ). IsHead l c.blocks-2.result head.device) c.head.ensures c.in-Ok.ensures.read.0) in
    let size : c.block_size-size.result ≡ shape.block_size c.args.unit = c.block_size-size.ensures.value ∙ ap (λ (s : Shape). s.block_size c.args.unit) c.in_ok-read_shown.ensures.looks.shape in
    let slot : take c.block_size-size.result c.read_shown.new.buffer ≡ image c.args.unit 0 = ap (λ (n : ℕ). take n c.read_shown.new.buffer) size ∙ c.in_ok-read_shown.ensures.bytes told in
    c.in_ok-found.ensures.only serial
    (label_serial shape image c.args.unit head (take c.block_size-size.result c.read_shown.new.buffer) is (c.in-Ok.ensures.read.1 ∙ c.blocks-2.ensures) slot serial has)
