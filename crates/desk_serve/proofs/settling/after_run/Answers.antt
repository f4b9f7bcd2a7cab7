use Rattle.std.proofs.Common.{◌-◌, ap, length, arith, subst, sym}
use Rattle.desk_state.specs.declared.desk.Desk.{Desk}
use Rattle.desk_state.specs.Ends.{AreNumbered}
use Rattle.desk_state.proofs.LawLemmas.{numbered_end}
use Rattle.desk_serve.proofs.Places.{number_within, length_end}
use Rattle.desk_serve.proofs.settling.after_run.Goals as goal

pub end_broken-requires-clause-there : goal.end_broken-requires-clause-there
end_broken-requires-clause-there g c = number_within c.args.desk.jobs c.args.number c.requires.queued

pub returns-in-Broken-clause-stays_numbered : goal.returns-in-Broken-clause-stays_numbered
returns-in-Broken-clause-stays_numbered g c = subst (λ (d : Desk). AreNumbered d.jobs) (sym c.end_broken.ensures) (numbered_end 1 c.args.desk.jobs (c.args.number - 1) 16 c.in-Broken.print c.requires.numbered)

pub said_of-said-requires-clause-there : goal.said_of-said-requires-clause-there
said_of-said-requires-clause-there g c =
    omega (arith, number_within c.args.desk.jobs c.args.number c.requires.queued, length_end c.args.desk.jobs (c.args.number - 1) c.in-Ended.code c.in-Ended.print, ap (λ (d : Desk). length d.jobs) c.end.ensures)

pub returns-in-Ended-clause-stays_numbered : goal.returns-in-Ended-clause-stays_numbered
returns-in-Ended-clause-stays_numbered g c = subst (λ (d : Desk). AreNumbered d.jobs) (sym c.end.ensures) (numbered_end 1 c.args.desk.jobs (c.args.number - 1) c.in-Ended.code c.in-Ended.print c.requires.numbered)
