use Rattle.std.proofs.Common.{ℕ, ◌<◌, Ok, ap, refl, sym, subst, ◌∙◌, arith}
use Rattle.std.proofs.lemmas.Result.{err_from_is_err_and}
use Rattle.redo_core.specs.Reading.{journal_of}
use Rattle.job_dumps.proofs.Looks.{looks_itself}
use Rattle.job_dumps.proofs.PartPut.{begin_here, end_here, ended_here, ends_of, err_any, err_there, few_there, filled_here, left_none, left_some}
use Rattle.job_dumps.proofs.PartPut.{ok_there, put_part, slot_there, texts_here, tracks_there}
use Rattle.job_dumps.proofs.parts.put_part.Goals as goal

pub returns-in_default-clause-looks : goal.returns-in_default-clause-looks
returns-in_default-clause-looks g c = looks_itself g.P.Pool c.args.session.now

pub returns-in_default-clause-left : goal.returns-in_default-clause-left
returns-in_default-clause-left g c = left_none g.P.Pool _ c.args.session.now c.args.unit c.args.name.now _ _ _ _ c.requires.may.0 refl refl

pub block_size-size-requires : goal.block_size-size-requires
block_size-size-requires g c = c.requires.unit

pub returns-in_default-vec-clause-looks : goal.returns-in_default-vec-clause-looks
returns-in_default-vec-clause-looks g c = looks_itself g.P.Pool c.args.session.now

pub returns-in_default-vec-clause-left : goal.returns-in_default-vec-clause-left
returns-in_default-vec-clause-left g c = left_none g.P.Pool _ c.args.session.now c.args.unit c.args.name.now _ _ _ _ c.requires.may.0 refl refl

pub put-requires : goal.put-requires
put-requires g c = begin_here g.P.Pool c.args.session.now c.args.unit c.args.name.now c.in-Ok.found.head c.in-Ok.found.set c.in-Ok.ensures c.stands.ensures.kept _ _ _ c.requires.may

pub returns-then-is_err-clause-looks : goal.returns-then-is_err-clause-looks
returns-then-is_err-clause-looks g c = looks_itself g.P.Pool c.args.session.now

pub returns-then-is_err-clause-left : goal.returns-then-is_err-clause-left
returns-then-is_err-clause-left g c =
    let same = (err_there c.put.result (sym c.is_err.ensures.value ∙ c.if-is_err.true) c.put.ensures.none).1.1 in
    left_none g.P.Pool _ c.args.session.now c.args.unit c.args.name.now _ _ _ _ c.requires.may.0 (ap (λ w. w.progress) same) (ap (λ w. w.outs.items) same)

pub put_texts-requires-clause-unit : goal.put_texts-requires-clause-unit
put_texts-requires-clause-unit g c = subst (λ (u : ℕ). u < journal_of (g.P.Pool.shape c.args.session.now.pool)) (sym c.in-Ok.ensures.unit_is) c.requires.unit

pub put_texts-requires-clause-tracks : goal.put_texts-requires-clause-tracks
put_texts-requires-clause-tracks g c = tracks_there g.P.Pool c.args.session.now c.args.unit c.args.name.now c.in-Ok.found.head c.in-Ok.found.set c.in-Ok.ensures c.stands.ensures.kept

pub put_texts-requires-clause-few : goal.put_texts-requires-clause-few
put_texts-requires-clause-few g c = few_there g.P.Pool c.args.session.now c.args.unit c.args.name.now c.in-Ok.found.head c.in-Ok.found.set c.in-Ok.ensures c.stands.ensures.kept

pub put_texts-requires-clause-size : goal.put_texts-requires-clause-size
put_texts-requires-clause-size g c =
    omega (arith, c.deref_mut.ensures.len, c.in-Ok-vec.ensures.len, c.block_size-size.ensures.value, ap (g.P.Pool.shape c.args.session.now.pool).block_size c.in-Ok.ensures.unit_is)

pub put_texts-requires-clause-device : goal.put_texts-requires-clause-device
put_texts-requires-clause-device g c =
    slot_there g.P.Pool c.args.session.now c.args.unit c.args.name.now c.in-Ok.found.head c.in-Ok.found.set c.in-Ok.ensures c.stands.ensures.kept
    (sym c.block_size-size.ensures.value ∙ c.block_size-size.ensures.said)

pub put_texts-requires-clause-may : goal.put_texts-requires-clause-may
put_texts-requires-clause-may g c =
    texts_here g.P.Pool c.args.session.now c.args.unit c.args.name.now c.in-Ok.found.head c.in-Ok.found.set c.in-Ok.ensures c.stands.ensures.kept _ _ _ c.requires.may _ _
    (ok_there c.put.result (sym c.is_err.ensures.value ∙ c.if-is_err.false) c.put.ensures.put)

pub returns-in_err-whole-clause-left : goal.returns-in_err-whole-clause-left
returns-in_err-whole-clause-left g c =
    err_any c.from_residual.result
    (left_some g.P.Pool c.args.session.now c.args.unit c.args.name.now c.in-Ok.found.head c.in-Ok.found.set c.in-Ok.ensures c.stands.ensures.kept c.stands.ensures.models c.texts.ensures
    _ _ _ _ _ _ _ c.put_texts.result c.put_texts.ensures.put
    (filled_here g.P.Pool c.args.session.now c.args.unit c.args.name.now c.in-Ok.found.head c.in-Ok.found.set c.in-Ok.ensures c.stands.ensures.kept _ _ _ c.requires.may _ _
    (ok_there c.put.result (sym c.is_err.ensures.value ∙ c.if-is_err.false) c.put.ensures.put) _ _ c.put_texts.result c.put_texts.ensures.put) _ _ refl refl)

pub returns-in_err-whole-clause-cause : goal.returns-in_err-whole-clause-cause
returns-in_err-whole-clause-cause g c =
    let p = err_from_is_err_and c.from_residual.result c.from_residual.ensures.1 in
    rw p.1 (λ same. c.in_err-whole.ensures.cause (sym p.2 ∙ same))

pub put-requires-2 : goal.put-requires-2
put-requires-2 g c =
    let put = c.in_ok-whole.ensures.put in
    let ends = ends_of g.P.Pool c.args.session.now c.args.unit c.args.name.now c.in-Ok.found.head c.in-Ok.found.set c.in-Ok.ensures c.stands.ensures.kept c.stands.ensures.models c.texts.ensures
    _ c.args.writer.now.progress _ _ c.args.writer.now.outs.items _ _ (Ok c.in_ok-whole.whole) put c.in_ok-whole.whole put.stops in
    end_here g.P.Pool c.args.session.now c.args.unit c.args.name.now c.in-Ok.found.head c.in-Ok.found.set c.in-Ok.ensures c.stands.ensures.kept _ _ _ c.requires.may _ _
    (ok_there c.put.result (sym c.is_err.ensures.value ∙ c.if-is_err.false) c.put.ensures.put) _ _ (Ok c.in_ok-whole.whole) put c.in_ok-whole.whole ends c.end_of.result c.end_of.ensures

pub returns-then-is_err-2-clause-left : goal.returns-then-is_err-2-clause-left
returns-then-is_err-2-clause-left g c =
    let put = c.in_ok-whole.ensures.put in
    let same = (err_there c.put-2.result (sym c.is_err-2.ensures.value ∙ c.if-is_err-2.true) c.put-2.ensures.none).1.1 in
    left_some g.P.Pool c.args.session.now c.args.unit c.args.name.now c.in-Ok.found.head c.in-Ok.found.set c.in-Ok.ensures c.stands.ensures.kept c.stands.ensures.models c.texts.ensures
    _ _ _ _ _ _ _ (Ok c.in_ok-whole.whole) put
    (filled_here g.P.Pool c.args.session.now c.args.unit c.args.name.now c.in-Ok.found.head c.in-Ok.found.set c.in-Ok.ensures c.stands.ensures.kept _ _ _ c.requires.may _ _
    (ok_there c.put.result (sym c.is_err.ensures.value ∙ c.if-is_err.false) c.put.ensures.put) _ _ (Ok c.in_ok-whole.whole) put) _ _ (ap (λ w. w.progress) same) (ap (λ w. w.outs.items) same)

pub returns-clause-put : goal.returns-clause-put
returns-clause-put g c =
    let put = c.in_ok-whole.ensures.put in
    let ends = ends_of g.P.Pool c.args.session.now c.args.unit c.args.name.now c.in-Ok.found.head c.in-Ok.found.set c.in-Ok.ensures c.stands.ensures.kept c.stands.ensures.models c.texts.ensures
    _ c.args.writer.now.progress _ _ c.args.writer.now.outs.items _ _ (Ok c.in_ok-whole.whole) put c.in_ok-whole.whole put.stops in
    put_part g.P.Pool c.args.session.now c.args.unit c.args.name.now c.in-Ok.found.head c.in-Ok.found.set c.in-Ok.ensures c.stands.ensures.kept c.stands.ensures.models c.texts.ensures
    _ _ _ _ _ _ _ (Ok c.in_ok-whole.whole) put c.in_ok-whole.whole put.stops _ _
    (ended_here g.P.Pool c.args.session.now c.args.unit c.args.name.now c.in-Ok.found.head c.in-Ok.found.set c.in-Ok.ensures c.stands.ensures.kept _ _ _ c.requires.may _ _
    (ok_there c.put.result (sym c.is_err.ensures.value ∙ c.if-is_err.false) c.put.ensures.put) _ _ (Ok c.in_ok-whole.whole) put c.in_ok-whole.whole ends c.end_of.result c.end_of.ensures _ _
    (ok_there c.put-2.result (sym c.is_err-2.ensures.value ∙ c.if-is_err-2.false) c.put-2.ensures.put))
