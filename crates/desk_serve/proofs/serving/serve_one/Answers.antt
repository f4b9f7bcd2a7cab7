use Rattle.std.proofs.Common.{inl}
use Rattle.desk_serve.proofs.Connections.{serves_by, refused_by, enough_by, enough_refused, lives_served}
use Rattle.desk_serve.proofs.serving.serve_one.Goals as goal

pub returns-in-Ok-clause-serves : goal.returns-in-Ok-clause-serves
returns-in-Ok-clause-serves g c =
    serves_by g.S.Runner.runs g.S.Runner.shows _ _ _ _ _ _ _ c.args.desk c.settle.result.desk c.args.session c.settle.result.session c.settle.result.said _ _ _
    (inl (c.in-Ok.request, c.in-Ok.ensures.read, c.settle.ensures.settles)) c.told.ensures.desk c.told.ensures.session c.read_request.ensures.silent c.read_request.ensures.later c.told.ensures.sends

pub returns-in-Err-clause-serves : goal.returns-in-Err-clause-serves
returns-in-Err-clause-serves g c =
    refused_by g.S.Runner.runs g.S.Runner.shows _ _ _ _ _ _ _ c.args.desk c.args.session c.in-Err.fault _ _ _
    c.in-Err.ensures.fault c.refuse.ensures.desk c.refuse.ensures.session c.read_request.ensures.silent c.read_request.ensures.later c.refuse.ensures.later c.refuse.ensures.sends

pub returns-in-Ok-clause-lives : goal.returns-in-Ok-clause-lives
returns-in-Ok-clause-lives g c = lives_served g.S.Runner.runs g.S.Runner.shows _ _ _ _ _ _ _ _ _ _ (returns-in-Ok-clause-serves g c)

pub returns-in-Err-clause-lives : goal.returns-in-Err-clause-lives
returns-in-Err-clause-lives g c = lives_served g.S.Runner.runs g.S.Runner.shows _ _ _ _ _ _ _ _ _ _ (returns-in-Err-clause-serves g c)

pub returns-in-Ok-clause-enough : goal.returns-in-Ok-clause-enough
returns-in-Ok-clause-enough g c = enough_by _ (g.L.Link.left c.read_request.new.link) _ _ _ _ _ _ c.in-Ok.ensures.enough c.told.ensures.unread

pub returns-in-Err-clause-enough : goal.returns-in-Err-clause-enough
returns-in-Err-clause-enough g c =
    enough_refused _ (g.L.Link.left c.read_request.new.link) _ _ _ _ _ _ _ c.in-Err.fault _
    c.in-Err.ensures.fault c.in-Err.ensures.enough_refused c.refuse.ensures.unread c.read_request.ensures.silent c.refuse.ensures.later c.refuse.ensures.sends
