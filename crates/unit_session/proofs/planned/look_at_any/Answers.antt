use Rattle.std.proofs.lemmas.Result.{IfErr-weaker}
use Rattle.unit_session.proofs.planned.look_at_any.Goals as goal

pub returns-in-Some-clause-fault : goal.returns-in-Some-clause-fault
returns-in-Some-clause-fault g c = IfErr-weaker c.look_at_texts.result _ _ (λ fault bad. (c.in-Some.copies, c.in-Some.is, bad)) c.look_at_texts.ensures.fault
