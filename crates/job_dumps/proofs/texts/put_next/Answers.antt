use Rattle.std.proofs.Common.{Some, None, refl}
use Rattle.job_dumps.proofs.TextsPut.{none_put, text_may, text_put}
use Rattle.job_dumps.proofs.texts.put_next.Goals as goal

pub returns-in_default-clause-put : goal.returns-in_default-clause-put
returns-in_default-clause-put g c = (None, refl, record { read = λ told. rw c.in_default.is at c.in_ok-text.ensures.text told; put = none_put _ c.args.set.now.device 1 c.args.writer.now.progress c.args.writer.now.outs.items })

pub put-requires : goal.put-requires
put-requires g c = text_may _ c.args.set.now.device c.in-Some.text c.args.writer.now.progress c.args.writer.now.outs.items (rw c.in-Some.is at c.in_ok-text.ensures.stands) c.requires.may

pub returns-in-Ok-clause-put : goal.returns-in-Ok-clause-put
returns-in-Ok-clause-put g c = (
  Some c.in-Some.text,
  refl,
  record {
    read = λ told. rw c.in-Some.is at c.in_ok-text.ensures.text told;
    put = text_put _ c.args.set.now.device c.in-Some.text _ _ _ _ (rw c.in-Some.is at c.in_ok-text.ensures.stands) c.in-Ok.ensures.put;
  },
)
