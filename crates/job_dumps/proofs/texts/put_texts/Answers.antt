use Rattle.std.proofs.Common.{◌≡◌, ℕ, ◌+◌, ◌<◌, List, ◌∷◌, [], ◌++◌, length, take, get_or, refl, sym, ap, subst, ◌∙◌, arith, Some}
use Rattle.std.specs.Prelude.{slice_get}
use Rattle.std.proofs.lemmas.Grind.{take_at_read}
use Rattle.std.proofs.lemmas.Option.{slice_get-get_or}
use Rattle.job_dumps.proofs.Looks.{looks_itself, looks_then}
use Rattle.job_dumps.proofs.TextsPut.{may_next, no_ok, none_put, one_more, put_so_far, put_still, stops_here}
use Rattle.job_dumps.proofs.texts.put_texts.Goals as goal

-- the track at a place of the tracks
at_place : (tracks items : List ℕ) (index : ℕ) → items ≡ tracks → index < length items → slice_get tracks index ≡ Some (get_or items index 0)
at_place tracks items index same less =
    subst (λ (l : List ℕ). slice_get l index ≡ Some (get_or items index 0)) same (slice_get-get_or items index 0 less)

taken : (tracks items : List ℕ) (index : ℕ) → items ≡ tracks → index < length items → take (index + 1) tracks ≡ take index tracks ++ get_or items index 0 ∷ []
taken tracks items index same less =
    subst (λ (l : List ℕ). take (index + 1) l ≡ take index l ++ get_or items index 0 ∷ []) same (take_at_read items index 0 less).1

pub loop-track-init : goal.loop-track-init
loop-track-init g c = record {
  far = record {
    looks = looks_itself g.P.Pool c.args.session.now;
    texts = [];
    count_is = refl;
    read = λ told. tt;
    put = none_put _ c.args.set.now.device (length c.args.set.now.tracks.items) c.args.writer.now.progress c.args.writer.now.outs.items;
  };
  places = refl;
}

pub put_next-requires-clause-may : goal.put_next-requires-clause-may
put_next-requires-clause-may g c =
    let far = c.loop-track.invariant.far in
    may_next _ c.args.set.now.device (length c.args.set.now.tracks.items) far.texts _ _ _ _
    (omega (arith, far.count_is, c.loop-track-test.true, ap length c.deref-track-items.ensures.value)) far.put c.requires.may

pub returns-in_err-more-clause-looks : goal.returns-in_err-more-clause-looks
returns-in_err-more-clause-looks g c = looks_then g.P.Pool c.loop-track.invariant.far.looks c.put_next.ensures.looks

pub returns-in_err-more-clause-put : goal.returns-in_err-more-clause-put
returns-in_err-more-clause-put g c =
    let far = c.loop-track.invariant.far in
    put_so_far g.P.Pool _ c.args.set.now c.loop-track.track-index c.from_residual.result far
    (omega (arith, c.loop-track-test.true, ap length c.deref-track-items.ensures.value))
    (rw (sym c.in_err-more.ensures.none) at far.put) (no_ok _ c.from_residual.result c.from_residual.ensures.0)

pub returns-then-not-more-clause-looks : goal.returns-then-not-more-clause-looks
returns-then-not-more-clause-looks g c = looks_then g.P.Pool c.loop-track.invariant.far.looks c.put_next.ensures.looks

pub returns-then-not-more-clause-put : goal.returns-then-not-more-clause-put
returns-then-not-more-clause-put g c =
    let far = c.loop-track.invariant.far in
    let items = c.deref-track-items.result.now in
    let index = c.loop-track.track-index in
    let less : index < length c.args.set.now.tracks.items = omega (arith, c.loop-track-test.true, ap length c.deref-track-items.ensures.value) in
    let put = c.in_ok-more.ensures.put in
    put_so_far g.P.Pool _ c.args.set.now index _ far (omega (arith, less))
    (put_still g.P.Pool _ c.args.set.now index (get_or items index 0) put.0 far less (put.1 ∙ c.if-not-more.true) put.2)
    (stops_here g.P.Pool _ c.args.set.now index (get_or items index 0) put.0 far
    (at_place c.args.set.now.tracks.items items index c.deref-track-items.ensures.value c.loop-track-test.true) (put.1 ∙ c.if-not-more.true) put.2)

pub loop-track-preserved : goal.loop-track-preserved
loop-track-preserved g c =
    let far = c.loop-track.invariant.far in
    let items = c.deref-track-items.result.now in
    let index = c.loop-track.track-index in
    let less : index < length c.args.set.now.tracks.items = omega (arith, c.loop-track-test.true, ap length c.deref-track-items.ensures.value) in
    let put = c.in_ok-more.ensures.put in
    record {
      far =
          one_more g.P.Pool _ c.args.set.now index (get_or items index 0) put.0 far less
          (at_place c.args.set.now.tracks.items items index c.deref-track-items.ensures.value c.loop-track-test.true)
          (taken c.args.set.now.tracks.items items index c.deref-track-items.ensures.value c.loop-track-test.true) (put.1 ∙ c.if-not-more.false) put.2
          (looks_then g.P.Pool far.looks c.put_next.ensures.looks);
      places = ◌∙◌ {A = List ℕ} c.put_next.ensures.places c.loop-track.invariant.places;
    }
