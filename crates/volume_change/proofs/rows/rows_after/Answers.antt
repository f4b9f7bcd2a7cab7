use Rattle.std.proofs.Common.{◌≡◌, sym, subst}
use Rattle.std.proofs.lemmas.Result.{IfOk-weaker}
use Rattle.volume_change.specs.Spot.{AreNamed, rows_with}
use Rattle.volume_change.proofs.Spots.{put_in_order}
use Rattle.volume_change.proofs.rows.rows_after.Goals as goal

pub returns-clause-named : goal.returns-clause-named
returns-clause-named c = λ named suits.
    let after_is = rows_with c.args.rows.now c.args.spot c.args.put in
    IfOk-weaker c.joined_rows.result (λ after. after ≡ after_is) AreNamed
    (λ after e. subst AreNamed (sym e) (put_in_order c.args.rows.now c.args.spot c.args.put c.requires named suits)) c.joined_rows.ensures
