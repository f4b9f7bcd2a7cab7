use Rattle.std.proofs.Common.{◌≡◌, ◌≢◌, ⊎_elim, List, length, drop, refl, sym, ap, ◌∙◌, subst, arith}
use Rattle.std.specs.Prelude.{All, AllPairs}
use Rattle.redo_core.specs.declared.fault.JournalFault.{JournalFault}
use Rattle.redo_core.specs.declared.fault.JournalRule.TheVariants as rules
use Rattle.redo_core.specs.declared.target.Target.{Target}
use Rattle.redo_core.specs.Format.{number_at, targets_in, directory_in}
use Rattle.redo_core.specs.Reading.{IsTarget, IsDirectory}
use Rattle.redo_core.specs.Faults.{Breaks}
use Rattle.redo_core.proofs.Surveying.{length-targets_in}
use Rattle.redo_core.proofs.survey.body_of.Goals as goal

pub returns-then-count-eq0-clause-refused : goal.returns-then-count-eq0-clause-refused
returns-then-count-eq0-clause-refused g c =
    let block = c.args.block.now in
    let count : c.u32_at-count.result ≡ number_at 0 block = c.u32_at-count.ensures in
    let long : length (directory_in block) ≡ number_at 0 block = length-targets_in (number_at 0 block) (drop 4 block) in
    subst (λ (f : JournalFault). Breaks rules.Body (¬ IsDirectory (g.P.Pool.shape c.args.pool.now) c.args.journal c.args.room (directory_in block)) f) (sym c.broken.ensures)
    (refl, λ directory. ⊎_elim (λ none. omega (arith, directory.some, long, count, none)) (λ many. omega (arith, directory.few, long, count, many.1)) c.then-count-eq0.either)

pub returns-clause-found : goal.returns-clause-found
returns-clause-found g c =
    let block = c.args.block.now in
    let count : c.u32_at-count.result ≡ number_at 0 block = c.u32_at-count.ensures in
    let are : c.in_ok-targets.targets.items ≡ directory_in block = c.in_ok-targets.ensures ∙ (λ i. targets_in (count i) (drop 4 block)) in
    let long : length c.in_ok-targets.targets.items ≡ number_at 0 block = ap length are ∙ length-targets_in (number_at 0 block) (drop 4 block) in (
      are,
      record {
        some = omega (arith, long, count, c.if-count-eq0.false);
        few = omega (arith, long, count, c.if-count-room.false);
        there = subst (λ (l : List Target). All (IsTarget (g.P.Pool.shape c.args.pool.now) c.args.journal) l) c.deref.ensures.value (c.if-not-are_there.ensures.0 refl);
        apart = subst (λ (l : List Target). AllPairs (λ one other. one ≢ other) l) c.deref-else-not-are_there.ensures.value (c.if-not-are_apart.ensures.0 refl);
      },
    )
