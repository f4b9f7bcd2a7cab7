use Rattle.std.proofs.Common.{[], Ok, Err, refl, sym, subst}
use Rattle.std.proofs.lemmas.List.{append-nil}
use Rattle.move_core.proofs.Running.{run_idle}
use Rattle.dump_sets.specs.job_turns.job_steps.declared.cut.Cut.TheVariants as cuts
use Rattle.job_ops.specs.Ends.{OnlyReads}
use Rattle.dump_sets.specs.job_turns.Setting.{setting_of}
use Rattle.job_ops.proofs.Performed.{as_command, dump_on}
use Rattle.job_ops.proofs.statement.perform.Goals as goal

pub returns-in-Ok-clause-ends : goal.returns-in-Ok-clause-ends
returns-in-Ok-clause-ends g c =
    let setting = setting_of g.P.Pool c.args.session c.args.held.now c.args.today in
    let told = c.in-Ok.ensures.listed in
    as_command g.P.Pool setting _ _ c.in-PrintVtoc.is (record {
      added = [];
      said = told.0;
      steps_are = sym (append-nil c.args.log.now.steps.items);
      messages_are = told.1;
      run = run_idle (tt {0});
      facts = record { shape = refl; names = refl; room = refl };
      ended = told.2 setting refl;
      cut = tt;
    })

pub returns-in-Err-clause-ends : goal.returns-in-Err-clause-ends
returns-in-Err-clause-ends g c =
    let setting = setting_of g.P.Pool c.args.session c.args.held.now c.args.today in
    let told = c.in-Err.ensures.grows in
    as_command g.P.Pool setting _ _ c.in-PrintVtoc.is (record {
      added = [];
      said = told.0;
      steps_are = sym (append-nil c.args.log.now.steps.items);
      messages_are = told.1;
      run = run_idle (tt {0});
      facts = record { shape = refl; names = refl; room = refl };
      ended = tt;
      cut = λ tells units settled. (refl, refl);
    })

pub returns-in-Release-clause-reads : goal.returns-in-Release-clause-reads
returns-in-Release-clause-reads g c = λ reads. absurd (subst OnlyReads c.in-Release.is reads)

pub returns-in-Release-clause-ends : goal.returns-in-Release-clause-ends
returns-in-Release-clause-ends g c =
    let setting = setting_of g.P.Pool c.args.session c.args.held.now c.args.today in
    as_command g.P.Pool setting _ _ c.in-Release.is c.go_through.ensures

pub returns-in-Consolidate-clause-reads : goal.returns-in-Consolidate-clause-reads
returns-in-Consolidate-clause-reads g c = λ reads. absurd (subst OnlyReads c.in-Consolidate.is reads)

pub returns-in-Consolidate-clause-ends : goal.returns-in-Consolidate-clause-ends
returns-in-Consolidate-clause-ends g c =
    let setting = setting_of g.P.Pool c.args.session c.args.held.now c.args.today in
    as_command g.P.Pool setting _ _ c.in-Consolidate.is c.go_through-in-Consolidate.ensures

pub returns-in-Copy-clause-ends : goal.returns-in-Copy-clause-ends
returns-in-Copy-clause-ends g c =
    let setting = setting_of g.P.Pool c.args.session c.args.held.now c.args.today in
    as_command g.P.Pool setting _ _ c.in-Copy.is c.copy.ensures

pub returns-in-DumpDataset-clause-ends : goal.returns-in-DumpDataset-clause-ends
returns-in-DumpDataset-clause-ends g c =
    let setting = setting_of g.P.Pool c.args.session c.args.held.now c.args.today in
    as_command g.P.Pool setting _ _ c.in-DumpDataset.is (dump_on g.P.Pool setting _ _ _ _ _ c.as_slice.ensures c.dump.ensures.ends)
