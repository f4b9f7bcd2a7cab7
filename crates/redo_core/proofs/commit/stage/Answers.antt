use Rattle.std.proofs.Common.{ℕ, ◌≡◌, ◌-◌, ◌++◌, ◌∙◌, [], ◌∷◌, List, length, take, sym, ap, subst, arith}
use Rattle.std.specs.Prelude.{replicate}
use Rattle.std.proofs.lemmas.List.{take_more, take_all, length-take-le}
use Rattle.std.proofs.lemmas.List.Elements.{All-get_or}
use Rattle.dasd_pool.specs.Disk.{Shape, is_at}
use Rattle.dasd_pool.proofs.Moments.{runs_then}
use Rattle.redo_core.specs.declared.entries.Entry.{Entry}
use Rattle.redo_core.specs.Phases.{of_body}
use Rattle.redo_core.specs.Steps.{IsPlaced}
use Rattle.redo_core.proofs.Transitions.{body_within, images_more}
use Rattle.redo_core.proofs.commit.stage.Goals as goal

pub loop-entry-preserved : goal.loop-entry-preserved
loop-entry-preserved g c =
    let inv = c.loop-entry.invariant in
    let shape = g.P.Pool.shape c.args.pool.now in
    let entries = c.args.entries.now in
    let i = c.loop-entry.entry-index in
    let entry = c.entry-item.result in
    let placed : IsPlaced shape c.args.journal entry =
    subst (λ (e : Entry). IsPlaced shape c.args.journal e) (sym c.entry-item.is) (All-get_or (IsPlaced shape c.args.journal) entries i entry c.loop-entry-test.true c.requires.entries) in
    let size : c.block_size-size.result ≡ shape.block_size entry.unit = c.block_size-size.ensures.value ∙ ap (λ (s : Shape). s.block_size entry.unit) inv.shape in
    let text : take c.block_size-size.result c.as_slice.result.now ≡ entry.slot =
    ap (λ (l : List ℕ). take c.block_size-size.result l) c.as_slice.ensures.same ∙ take_all c.block_size-size.result entry.slot (omega (arith, size, placed.slot)) in
    record {
      shape = c.put_block.ensures.shape ∙ inv.shape;
      next = omega (arith, inv.next);
      faults = omega (arith, inv.faults, c.put_block.ensures.cause.later);
      runs = λ told. runs_then (of_body c.args.journal (length c.args.entries.now)) (of_body c.args.journal (length c.args.entries.now)) (is_at c.args.journal c.loop-entry.next) _ (g.P.Pool.disk c.loop-entry.pool) _
          (λ u b apart. apart) (λ u b apart. body_within c.args.journal (length entries) c.loop-entry.next u b (omega (arith, inv.next)) (omega (arith, inv.next, c.loop-entry-test.true)) apart) (inv.runs told) (c.put_block.ensures.runs told);
      images = λ told. images_more shape.block_size c.args.journal (g.P.Pool.disk c.loop-entry.pool).state (g.P.Pool.disk c.put_block.new.pool).state
          (take i entries) _ entry _ c.loop-entry.next
          (omega (arith, inv.next, length-take-le i entries (omega arith)))
          ((c.put_block.ensures.runs told).touches)
          (c.in_ok-put_block.ensures.written told ∙ ap (λ (l : List ℕ). l ++ replicate (length c.loop-entry.buffer - length (take c.block_size-size.result c.as_slice.result.now)) 0) text)
          placed.slot
          (take_more entries i entry c.loop-entry-test.true ∙ ap (λ (e : Entry). take i entries ++ e ∷ []) (sym c.entry-item.is))
          (inv.images told);
    }

pub returns-in_err-put_block-clause-runs : goal.returns-in_err-put_block-clause-runs
returns-in_err-put_block-clause-runs g c = λ told.
    runs_then (of_body c.args.journal (length c.args.entries.now)) (of_body c.args.journal (length c.args.entries.now)) (is_at c.args.journal c.loop-entry.next) _ (g.P.Pool.disk c.loop-entry.pool) _
    (λ u b apart. apart) (λ u b apart. body_within c.args.journal (length c.args.entries.now) c.loop-entry.next u b (omega (arith, c.loop-entry.invariant.next)) (omega (arith, c.loop-entry.invariant.next, c.loop-entry-test.true)) apart) (c.loop-entry.invariant.runs told) (c.put_block.ensures.runs told)
