use Rattle.std.proofs.Common.{◌∙◌, ℕ, List, length, subst}
use Rattle.std.proofs.lemmas.Result.{on_ok_weaker}
use Rattle.dasd_pool.specs.Stream.{Appends, AppendsSome}
use Rattle.dasd_pool.proofs.Streams.{appends_then, appends_some_then}
use Rattle.desk_text.specs.Answers.{head_text, answer_text}
use Rattle.desk_text.proofs.Fronts.{some_of_first}
use Rattle.desk_text.proofs.Statuses.{phrase_short}
use Rattle.desk_text.proofs.sent.send.Goals as goal

pub of-head-requires-clause-short : goal.of-head-requires-clause-short
of-head-requires-clause-short g c = phrase_short c.args.status c.requires.0

pub returns-in_err-send_all-clause-some : goal.returns-in_err-send_all-clause-some
unfolding answer_text
returns-in_err-send_all-clause-some g c =
    let head = head_text c.args.status (length c.args.body.now) in
    let P : List ℕ → Type 0 = λ text. AppendsSome (g.L.Link.taken c.args.link.now) (g.L.Link.taken c.send_all.new.link) text in
    some_of_first _ _ head c.args.body.now (subst P (c.as_slice.ensures ∙ c.of-head.ensures) c.in_err-send_all.ensures.some)

pub returns-clause-sent : goal.returns-clause-sent
unfolding answer_text
returns-clause-sent g c =
    let head = head_text c.args.status (length c.args.body.now) in
    let P : List ℕ → Type 0 = λ text. Appends (g.L.Link.taken c.args.link.now) (g.L.Link.taken c.send_all.new.link) text in
    on_ok_weaker c.send_all-2.result (λ e. appends_then _ _ _ head c.args.body.now (subst P (c.as_slice.ensures ∙ c.of-head.ensures) c.in_ok-send_all.ensures.sent) e) c.send_all-2.ensures.sent

pub returns-clause-some : goal.returns-clause-some
unfolding answer_text
returns-clause-some g c =
    let head = head_text c.args.status (length c.args.body.now) in
    let P : List ℕ → Type 0 = λ text. Appends (g.L.Link.taken c.args.link.now) (g.L.Link.taken c.send_all.new.link) text in
    appends_some_then _ _ _ head c.args.body.now (subst P (c.as_slice.ensures ∙ c.of-head.ensures) c.in_ok-send_all.ensures.sent) c.send_all-2.ensures.some
