use Rattle.dump_sets.proofs.job_turns.LoadedUnits.{known_units}
use Rattle.job_ops.proofs.ReshapeEnds.{reshape_acts, reshape_ends, reshape_short}
use Rattle.job_ops.proofs.reshaping.Reshape.carry_out.Goals as goal

pub carry_out-requires : goal.carry_out-requires
carry_out-requires g c =
    let known = known_units g.P.Pool c.args.session c.stands.ensures.kept c.stands.ensures.models in
    reshape_acts c.args.session.room c.args.session.units c.args.self.now c.requires.may known.sound c.room_laws.ensures.alike c.in-Ok.acts c.in-Ok.ensures.steps c.in-Ok.ensures.looked

pub returns-in-Ok : goal.returns-in-Ok
returns-in-Ok g c =
    let known = known_units g.P.Pool c.args.session c.stands.ensures.kept c.stands.ensures.models in
    reshape_ends g.P.Pool c.args.self.now c.requires.may known c.requires.repair c.room_laws.ensures.fits c.room_laws.ensures.full c.in-Ok.acts c.args.steps.now.items c.carry_out.new.steps.items
    c.carry_out.result c.in-Ok.ensures.steps c.in-Ok.ensures.looked c.carry_out.ensures

pub returns-in-Err : goal.returns-in-Err
returns-in-Err g c = reshape_short g.P.Pool c.args.session c.args.self.now c.args.steps.now.items
