use Rattle.std.proofs.Common.{◌≡◌, ◌<◌, ℕ, length, get_or, sym, ap, ◌∙◌, arith}
use Rattle.std.proofs.lemmas.Bool.{false≢true}
use Rattle.ckd_image.specs.Address.{address_of}
use Rattle.dasd_pool.specs.Disk.{State}
use Rattle.unit_load.proofs.Reading.{reads_then}
use Rattle.unit_session.proofs.CopyingTexts.{HasText, next_at, below_more, has_text, first_bad}
use Rattle.unit_session.proofs.copying.look_at_texts.Goals as goal

pub returns-then-not-readdress-clause-fault : goal.returns-then-not-readdress-clause-fault
returns-then-not-readdress-clause-fault g c = λ told.
    let copies = c.args.copies.now in
    let moves = copies.moves.items in
    let items = c.deref-text-items.result.now in
    let index = c.loop-text.text-index in
    let move = get_or items index (record { from = 0; to = 0 }) in
    let at = next_at moves items index (record { from = 0; to = 0 }) c.deref-text-items.ensures.value c.loop-text-test.true in
    let less : index < length moves = omega (arith, c.loop-text-test.true, ap length c.deref-text-items.ensures.value) in
    let inv = c.loop-text.invariant in
    let contents = (g.P.Pool.disk c.args.journal.now.pool).state.contents in
    let read : c.read.new.buf ≡ contents copies.from move.from = c.in-Ok.ensures.bytes told ∙ ap (λ (s : State). s.contents copies.from move.from) (inv.reads.same told) in
    first_bad contents copies index move c.read.new.buf c.of-at.result less at read (c.of-at.ensures ∙ ap (λ (h : ℕ). address_of h move.from) c.heads.ensures)
    (c.readdress.ensures.none (λ yes. false≢true (sym c.if-not-readdress.true ∙ yes))) (inv.texts told)

pub loop-text-preserved : goal.loop-text-preserved
loop-text-preserved g c =
    let copies = c.args.copies.now in
    let moves = copies.moves.items in
    let items = c.deref-text-items.result.now in
    let index = c.loop-text.text-index in
    let move = get_or items index (record { from = 0; to = 0 }) in
    let at = next_at moves items index (record { from = 0; to = 0 }) c.deref-text-items.ensures.value c.loop-text-test.true in
    let less : index < length moves = omega (arith, c.loop-text-test.true, ap length c.deref-text-items.ensures.value) in
    let inv = c.loop-text.invariant in
    let contents = (g.P.Pool.disk c.args.journal.now.pool).state.contents in
    record {
      reads = reads_then g.P.Pool _ _ _ inv.reads (record {
        shape = c.read.ensures.shape;
        later = c.read.ensures.cause.later;
        same = c.read.ensures.same;
        runs = c.read.ensures.runs;
        status = c.read.ensures.status;
      });
      texts = λ told.
          let read : c.read.new.buf ≡ contents copies.from move.from = c.in-Ok.ensures.bytes told ∙ ap (λ (s : State). s.contents copies.from move.from) (inv.reads.same told) in
          below_more (HasText contents copies) moves index move less at (inv.texts told)
          (has_text contents copies move c.read.new.buf c.readdress.new.slot c.of-at.result read (c.of-at.ensures ∙ ap (λ (h : ℕ). address_of h move.from) c.heads.ensures) (c.readdress.ensures.moved c.if-not-readdress.false));
    }
