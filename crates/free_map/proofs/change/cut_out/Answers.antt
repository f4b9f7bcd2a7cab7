use Rattle.std.proofs.Common.{◌+◌, ◌<◌, inl, inr, arith}
use Rattle.free_map.proofs.Takes.{cut_behind, cut_before, cut_both}
use Rattle.free_map.proofs.change.cut_out.Goals as goal

pub returns-then-before-eq0-2-clause-ok : goal.returns-then-before-eq0-2-clause-ok
returns-then-before-eq0-2-clause-ok c = λ d.
    let whole = c.index-whole.result.now in
    let begins = c.requires.begins whole in
    let ends = c.requires.ends whole in
    let more : c.args.run.first + c.args.run.len < whole.first + whole.len =
    elim c.else-before-eq0.either [ inl p ↦ omega (arith, p.1) | inr q ↦ absurd (q c.if-before-eq0-2.true) ] in
    rw (c.end.ensures, c.end-2.ensures, c.end-3.ensures)
    (cut_behind c.args.runs.now.items c.args.place c.args.run whole d c.requires.place c.index-whole.ensures (omega (arith, c.if-before-eq0-2.true)) more)

pub returns-then-behind-eq0-2-clause-ok : goal.returns-then-behind-eq0-2-clause-ok
returns-then-behind-eq0-2-clause-ok c = λ d.
    cut_before c.args.runs.now.items c.args.place c.args.run c.index-whole.result.now d c.requires.place c.index-whole.ensures
    (omega (arith, c.if-before-eq0-2.false)) (omega (arith, c.if-behind-eq0-2.true, c.end-2.ensures, c.end-3.ensures))

pub returns-clause-ok : goal.returns-clause-ok
returns-clause-ok c = λ d.
    rw (c.in_ok-insert.ensures.items, c.end.ensures, c.end-2.ensures, c.end-3.ensures)
    (cut_both c.args.runs.now.items c.args.place c.args.run c.index-whole.result.now d c.requires.place c.index-whole.ensures
    (omega (arith, c.if-before-eq0-2.false)) (omega (arith, c.if-behind-eq0-2.false, c.end-2.ensures, c.end-3.ensures)))
