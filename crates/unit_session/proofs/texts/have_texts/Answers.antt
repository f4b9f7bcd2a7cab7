use Rattle.std.proofs.Common.{◌<◌, ℕ, length, get_or, sym, ap, subst, ◌∙◌, arith}
use Rattle.std.proofs.lemmas.Bool.{false≢true}
use Rattle.ckd_image.specs.Device.{heads_of}
use Rattle.dasd_pool.specs.Disk.{State}
use Rattle.unit_load.proofs.Reading.{reads_then}
use Rattle.unit_session.specs.Texts.{HasTextOn}
use Rattle.unit_session.proofs.CopyingTexts.{next_at, below_more}
use Rattle.unit_session.proofs.texts.have_texts.Goals as goal

pub returns-then-not-good-clause-texts : goal.returns-then-not-good-clause-texts
returns-then-not-good-clause-texts g c = λ told.
    let tracks = c.args.set.now.tracks.items in
    let items = c.deref-track-items.result.now in
    let index = c.loop-track.track-index in
    let track = get_or items index 0 in
    let at = next_at tracks items index 0 c.deref-track-items.ensures.value c.loop-track-test.true in
    let less : index < length tracks = omega (arith, c.loop-track-test.true, ap length c.deref-track-items.ensures.value) in
    let still = c.loop-track.invariant.reads.same told in
    let heads = heads_of c.args.set.now.device in (
      λ yes. absurd (false≢true yes),
      λ each.
          let here : HasTextOn heads ((g.P.Pool.disk c.args.journal.now.pool).state.contents c.args.unit) track =
          subst (λ (t : ℕ). HasTextOn heads ((g.P.Pool.disk c.args.journal.now.pool).state.contents c.args.unit) t) (sym at) (each index track less) in
          absurd (false≢true (sym c.if-not-good.true ∙ (c.in_ok-good.ensures.text told).1 (subst (λ (s : State). HasTextOn heads (s.contents c.args.unit) track) (sym still) here))),
    )

pub loop-track-preserved : goal.loop-track-preserved
loop-track-preserved g c =
    let tracks = c.args.set.now.tracks.items in
    let items = c.deref-track-items.result.now in
    let index = c.loop-track.track-index in
    let track = get_or items index 0 in
    let at = next_at tracks items index 0 c.deref-track-items.ensures.value c.loop-track-test.true in
    let less : index < length tracks = omega (arith, c.loop-track-test.true, ap length c.deref-track-items.ensures.value) in
    let inv = c.loop-track.invariant in
    let heads = heads_of c.args.set.now.device in
    record {
      reads = reads_then g.P.Pool _ _ _ inv.reads c.has_text.ensures.reads;
      texts = λ told.
          below_more (HasTextOn heads ((g.P.Pool.disk c.args.journal.now.pool).state.contents c.args.unit)) tracks index track less at (inv.texts told)
          (subst (λ (s : State). HasTextOn heads (s.contents c.args.unit) track) (inv.reads.same told) ((c.in_ok-good.ensures.text told).0 c.if-not-good.false));
    }
