use Rattle.std.proofs.Common.{◌<◌, ◌++◌, ◌∷◌, [], ◌+◌, List, length, get_or, sym, ap, ◌∙◌, arith}
use Rattle.unit_session.specs.declared.copies.TextMove.{TextMove}
use Rattle.unit_session.specs.Copies.{moves_between}
use Rattle.unit_session.proofs.CopyingMoves.{moves_more, moves_all}
use Rattle.unit_session.proofs.copies.moves_of.Goals as goal

pub loop-place-preserved : goal.loop-place-preserved
loop-place-preserved c =
    let one = c.args.one_unit in
    let source = c.args.source.now in
    let target = c.args.target.now in
    let place = c.loop-place.place in
    let less : place < length source = omega (arith, c.loop-place-test.true, c.min-place-end.ensures) in
    let below : place < length target = omega (arith, c.loop-place-test.true, c.min-place-end.ensures) in
    c.in_ok-add_move.ensures ∙ ap (λ (l : List TextMove). l ++ moves_between one (get_or source place 0 ∷ []) (get_or target place 0 ∷ [])) c.loop-place.invariant
    ∙ sym (moves_more one source target place (place + 1) 0 0 (omega arith) less below)

pub returns : goal.returns
returns c = c.loop-place.invariant ∙ moves_all c.args.one_unit c.args.source.now c.args.target.now c.loop-place.place (omega (arith, c.loop-place-test.false, c.min-place-end.ensures))
