use Rattle.std.proofs.Common.{List, Option, inl, refl, subst, sym}
use Rattle.job_lines.specs.declared.message.Reason.{Reason}
use Rattle.job_dumps.specs.declared.pass.DumpScene.{DumpScene}
use Rattle.job_dumps.specs.Passing.{DumpedCanBeChanged}
use Rattle.job_dumps.proofs.job_turns.LoadedUnits.{known_units}
use Rattle.job_dumps.proofs.job_turns.SameSessions.{ends_short}
use Rattle.dump_sets.proofs.DumpFollows.{may_follow}
use Rattle.dump_sets.proofs.DumpMeant.{dumped, dump_halted, dump_short}
use Rattle.dump_sets.proofs.OutputsKept.{kept_all}
use Rattle.dump_sets.proofs.Written.{left_keeps, written_keeps}
use Rattle.dump_sets.proofs.dumping.go_on.Goals as goal

pub follow-requires-clause-may : goal.follow-requires-clause-may
follow-requires-clause-may g c =
    let scene : DumpScene = record { unit = c.args.course.unit; wish = c.args.job.wish; held = c.args.job.held; today = c.args.job.today; full = c.args.full } in
    may_follow c.args.session.units scene c.write_dump.ensures.looks.same.room c.write_dump.ensures.looks.same.units c.requires.taken c.requires.may
    (subst (λ (list : List (Option Reason)). DumpedCanBeChanged c.args.session.units scene c.args.course.names.now list) (sym c.deref.ensures.value) c.in-Ok.ensures.may)

pub returns-in-Ok-clause-ends : goal.returns-in-Ok-clause-ends
returns-in-Ok-clause-ends g c =
    dumped g.P.Pool c.args.session c.args.job.held.now c.args.job.today _ c.args.job.wish c.args.course.unit c.args.course.names.now c.args.course.places.now c.args.outs.now.items c.write_dump.new.outs.items
    c.in-Some.head c.requires.taken.volume c.requires.taken.loaded (known_units g.P.Pool c.args.session c.stands.ensures.kept c.stands.ensures.models)
    (c.in-Some.ensures.head c.requires.taken.volume c.requires.taken.loaded) c.args.job.outs.now c.write_dump.ensures.looks c.in-Ok.told.items c.in-Ok.ensures.written
    c.deref.result.now c.deref-in-Ok.result.now c.deref.ensures.value c.deref-in-Ok.ensures.value c.follow.result c.follow.ensures

pub returns-in-Ok-clause-outs : goal.returns-in-Ok-clause-outs
returns-in-Ok-clause-outs g c = written_keeps _ c.in-Ok.ensures.written

pub returns-in-Err-Pool-clause-ends : goal.returns-in-Err-Pool-clause-ends
returns-in-Err-Pool-clause-ends g c =
    dump_halted g.P.Pool c.args.session c.args.job.held.now c.args.job.today _ c.args.job.wish c.args.course.unit c.args.course.names.now c.args.course.places.now c.args.outs.now.items c.write_dump.new.outs.items
    c.in-Some.head c.requires.taken.volume c.requires.taken.loaded (known_units g.P.Pool c.args.session c.stands.ensures.kept c.stands.ensures.models)
    (c.in-Some.ensures.head c.requires.taken.volume c.requires.taken.loaded) c.args.job.outs.now c.write_dump.ensures.looks c.in-Err-Pool.ensures.left c.into.result
    (c.in-Err-Pool.ensures.cause c.in-Err-Pool.field-0-is) c.into.ensures.0 c.into.ensures.1 c.args.log.now.steps.items c.args.log.now.messages.items

pub returns-in-Err-Pool-clause-outs : goal.returns-in-Err-Pool-clause-outs
returns-in-Err-Pool-clause-outs g c = left_keeps _ c.in-Err-Pool.ensures.left

pub returns-in-Err-NoMemory-clause-ends : goal.returns-in-Err-NoMemory-clause-ends
returns-in-Err-NoMemory-clause-ends g c =
    dump_short g.P.Pool c.args.session c.args.job.held.now c.args.job.today _ c.args.job.wish c.args.course.unit c.args.course.names.now c.args.course.places.now c.args.outs.now.items c.write_dump.new.outs.items
    c.in-Some.head c.requires.taken.volume c.requires.taken.loaded (known_units g.P.Pool c.args.session c.stands.ensures.kept c.stands.ensures.models)
    (c.in-Some.ensures.head c.requires.taken.volume c.requires.taken.loaded) c.args.job.outs.now c.write_dump.ensures.looks c.in-Err-NoMemory.ensures.left c.args.log.now.steps.items
    c.args.log.now.messages.items

pub returns-in-Err-NoMemory-clause-outs : goal.returns-in-Err-NoMemory-clause-outs
returns-in-Err-NoMemory-clause-outs g c = left_keeps _ c.in-Err-NoMemory.ensures.left

pub returns-in_default-clause-ends : goal.returns-in_default-clause-ends
returns-in_default-clause-ends g c = ends_short g.P.Pool c.args.session c.args.log.now.steps.items c.args.log.now.messages.items (λ units. inl (inl refl, refl, refl))

pub returns-in_default-clause-outs : goal.returns-in_default-clause-outs
returns-in_default-clause-outs g c = kept_all _ c.args.course.places.now c.args.outs.now.items c.args.outs.now.items refl
