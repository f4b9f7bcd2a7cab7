use Rattle.std.proofs.Common.{◌≡◌, ◌+◌, ◌∙◌, ◌++◌, [], ◌∷◌, false, take, sym, ap, subst, arith}
use Rattle.std.proofs.lemmas.List.{take_more}
use Rattle.dasd_pool.specs.Disk.{is_at}
use Rattle.dasd_pool.proofs.Moments.{runs_then}
use Rattle.redo_core.specs.declared.entries.Entry.{Entry}
use Rattle.redo_core.specs.Reading.{among}
use Rattle.redo_core.specs.Phases.{targets}
use Rattle.redo_core.proofs.Transitions.{named, placed_step}
use Rattle.redo_core.proofs.commit.place.Goals as goal

pub returns-in_err-write-clause-runs : goal.returns-in_err-write-clause-runs
returns-in_err-write-clause-runs g c = λ told.
    let all = among (targets c.args.entries.now) in
    runs_then all all (is_at c.entry-item.result.unit c.entry-item.result.block) _ (g.P.Pool.disk c.loop-entry.pool) _
    (λ u b apart. apart)
    (λ u b apart. subst (λ (e : Entry). is_at e.unit e.block u b ≡ false) (sym c.entry-item.is) (named c.args.entries.now c.loop-entry.entry-index c.entry-item.result c.loop-entry-test.true u b apart))
    (c.loop-entry.invariant.runs told) (c.write.ensures.runs told)

pub loop-entry-preserved : goal.loop-entry-preserved
loop-entry-preserved g c =
    let inv = c.loop-entry.invariant in
    let all = among (targets c.args.entries.now) in
    let so_far = take c.loop-entry.entry-index c.args.entries.now in
    let more : take (c.loop-entry.entry-index + 1) c.args.entries.now ≡ so_far ++ c.entry-item.result ∷ [] =
    take_more c.args.entries.now c.loop-entry.entry-index c.entry-item.result c.loop-entry-test.true ∙ ap (λ (e : Entry). so_far ++ e ∷ []) (sym c.entry-item.is) in
    record {
      shape = c.write.ensures.shape ∙ inv.shape;
      faults = omega (arith, inv.faults, c.write.ensures.cause.later);
      runs = λ told. runs_then all all (is_at c.entry-item.result.unit c.entry-item.result.block) _ (g.P.Pool.disk c.loop-entry.pool) _
          (λ u b apart. apart)
          (λ u b apart. subst (λ (e : Entry). is_at e.unit e.block u b ≡ false) (sym c.entry-item.is) (named c.args.entries.now c.loop-entry.entry-index c.entry-item.result c.loop-entry-test.true u b apart))
          (inv.runs told) (c.write.ensures.runs told);
      placed = λ told. placed_step (g.P.Pool.disk c.args.pool.now).state.contents (g.P.Pool.disk c.loop-entry.pool).state (g.P.Pool.disk c.write.new.self).state so_far _ c.entry-item.result
          ((c.write.ensures.runs told).touches) (c.in_ok-write.ensures.written told ∙ c.as_slice.ensures.same) more (inv.placed told);
    }
