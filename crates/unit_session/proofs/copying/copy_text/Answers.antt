use Rattle.std.proofs.Common.{◌<◌, ℕ, refl, sym, ap, subst, ◌∙◌, arith}
use Rattle.std.proofs.lemmas.Result.{on_ok_weaker}
use Rattle.dasd_pool.specs.Disk.{Shape, none, is_at}
use Rattle.dasd_pool.proofs.Moments.{runs_then}
use Rattle.ckd_image.specs.Address.{address_of}
use Rattle.unit_session.proofs.CopyingTexts.{to_is_target, target_below, source_below, few_cylinders, text_copied}
use Rattle.unit_session.proofs.copying.copy_text.Goals as goal
use Rattle.ckd_image.proofs.Devices.{short_slot}

pub of-to-requires-clause-track : goal.of-to-requires-clause-track
of-to-requires-clause-track g c =
    let copies = c.args.copies.now in
    let shape = g.P.Pool.shape c.args.journal.now.pool in
    few_cylinders copies.device c.heads-heads.result c.args.text.to (shape.blocks copies.unit) c.heads-heads.ensures c.requires.may.target_few
    (target_below shape copies c.requires.may c.args.text.to (to_is_target copies c.args.text c.requires.there))

pub write-requires-clause-block : goal.write-requires-clause-block
write-requires-clause-block g c =
    let copies = c.args.copies.now in
    let shape = g.P.Pool.shape c.args.journal.now.pool in
    subst (λ (s : Shape). c.args.text.to < s.blocks copies.unit) (sym c.read.ensures.shape)
    (target_below shape copies c.requires.may c.args.text.to (to_is_target copies c.args.text c.requires.there))

pub returns-clause-writes : goal.returns-clause-writes
returns-clause-writes g c =
    let read = c.read.ensures in
    let write = c.write.ensures in
    let may = is_at c.args.copies.now.unit c.args.text.to in
    record {
      shape = write.shape ∙ read.shape;
      later = omega (arith, read.cause.later, write.cause.later);
      runs = λ told. runs_then may none may (g.P.Pool.disk c.args.journal.now.pool) (g.P.Pool.disk c.read.new.self.pool) (g.P.Pool.disk c.write.new.self.pool)
          (λ u b apart. refl) (λ u b apart. apart) (read.runs told) (write.runs told);
      status = record {
        room = write.status.room ∙ read.status.room;
        control = write.status.control ∙ read.status.control;
        fills = write.status.fills ∙ read.status.fills;
      };
    }

pub returns-clause-copied : goal.returns-clause-copied
returns-clause-copied g c = λ told.
    let copies = c.args.copies.now in
    let move = c.args.text in
    let shape = g.P.Pool.shape c.args.journal.now.pool in
    let below = source_below shape copies c.requires.may move c.requires.there in
    let heads = c.heads-heads.ensures in
    on_ok_weaker c.write.result (λ written.
    text_copied copies move (g.P.Pool.disk c.args.journal.now.pool).state.contents (g.P.Pool.disk c.write.new.self.pool).state.contents
    c.read.new.buf c.readdress-readdressed.new.slot c.of-from.result c.of-to.result c.readdress-readdressed.result
    (c.of-from.ensures ∙ ap (λ (h : ℕ). address_of h move.from) heads) (c.of-to.ensures ∙ ap (λ (h : ℕ). address_of h move.to) heads)
    (omega (arith, below, c.requires.may.source_few)) (omega (arith, short_slot copies.device, c.requires.size, c.read.auto.buf)) (c.in_ok-read.ensures.bytes told) written c.readdress-readdressed.ensures.moved c.readdress-readdressed.ensures.none)
    (c.write.ensures.written told)
