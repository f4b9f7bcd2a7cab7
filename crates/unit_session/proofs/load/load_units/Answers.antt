use Rattle.std.proofs.Common.{◌≡◌, List, [], ◌∷◌, ◌++◌, length, ap, arith, length-append}
use Rattle.unit_load.specs.declared.state.UnitState.{UnitState}
use Rattle.unit_load.proofs.Reading.{reads_then}
use Rattle.unit_session.proofs.Loading.{loaded_more, fills_more, kept_more, vtocs_more}
use Rattle.unit_session.proofs.load.load_units.Goals as goal

pub returns-in_err-state-clause-reads : goal.returns-in_err-state-clause-reads
returns-in_err-state-clause-reads g c = reads_then g.P.Pool _ _ _ c.loop-unit.invariant.reads c.load_one.ensures.reads

pub returns-in_default-clause-reads : goal.returns-in_default-clause-reads
returns-in_default-clause-reads g c = reads_then g.P.Pool _ _ _ c.loop-unit.invariant.reads c.load_one.ensures.reads

pub returns-in_default-push-clause-reads : goal.returns-in_default-push-clause-reads
returns-in_default-push-clause-reads g c = reads_then g.P.Pool _ _ _ c.loop-unit.invariant.reads c.load_one.ensures.reads

pub loop-unit-preserved : goal.loop-unit-preserved
loop-unit-preserved g c =
    let inv = c.loop-unit.invariant in
    let unit = c.loop-unit.unit in
    let units = c.loop-unit.units.items in
    let vtocs = c.loop-unit.vtocs.items in
    let later = c.push.new.self.items in
    let after = c.push-in-loop-unit.new.self.items in
    let state = c.in_ok-state.field-0.state in
    let slots = c.in_ok-state.field-0.slots in
    let was = c.args.journal.now.pool in
    let now = c.loop-unit.journal.pool in
    let found = c.in_ok-state.ensures in
    let is : later ≡ units ++ (state ∷ []) = c.in-Ok.ensures.items in
    let are : after ≡ vtocs ++ (slots ∷ []) = c.in-Ok-push.ensures.items in
    let long : length later ≡ length (units ++ (state ∷ [])) = ap (λ (l : List UnitState). length l) is in
    let whole : length after ≡ length (vtocs ++ (slots ∷ [])) = ap (λ (l : List (List _)). length l) are in
    record {
      reads = reads_then g.P.Pool _ _ _ inv.reads c.load_one.ensures.reads;
      count = omega (arith, inv.count, length-append units (state ∷ []), long);
      whole = omega (arith, inv.whole, length-append vtocs (slots ∷ []), whole);
      kept = kept_more units later vtocs after unit state slots inv.count inv.whole is are (g.P.Pool.shape was) (g.P.Pool.shape now) inv.reads.shape inv.kept found.kept;
      loaded = λ told.
          loaded_more (g.P.Pool.shape was) (g.P.Pool.shape now) (g.P.Pool.disk was).state (g.P.Pool.disk now).state units later unit state inv.reads.shape (inv.reads.same told)
          inv.count is (inv.loaded told) (found.state told) (found.short told);
      slots = λ told.
          vtocs_more units later vtocs after unit state slots inv.count inv.whole is are (g.P.Pool.disk was).state (g.P.Pool.disk now).state (inv.reads.same told) (inv.slots told)
          (found.slots told);
      fills = fills_more c.args.journal.now.fills c.loop-unit.journal.fills units later unit state inv.reads.status.fills inv.count is inv.fills found.fill;
    }
