use Rattle.std.proofs.Common.{inl, ℕ, List, sym, subst}
use Rattle.std.proofs.lemmas.Result.{IfOk-weaker, IfErr-weaker}
use Rattle.dasd_pool.specs.Stream.{Takes}
use Rattle.desk_head.specs.Head.{WantsHead}
use Rattle.desk_head.specs.Received.{TakesEnough}
use Rattle.desk_head.proofs.Enough.{enough_weaker}
use Rattle.desk_request.specs.Reads.{WantsMore}
use Rattle.desk_request.proofs.reading.read_request.Goals as goal

pub returns-clause-enough : goal.returns-clause-enough
returns-clause-enough g c =
    let P : List ℕ → Type 0 = Takes (g.L.Link.left c.args.link.now) (g.L.Link.left c.receive_head.new.link) in
    let takes : P c.deref.result.now = subst P (sym c.deref.ensures.value) c.in_ok-spans.ensures.received in
    let was = enough_weaker WantsHead WantsMore _ _ (λ front h. inl h) c.in_ok-spans.ensures.enough in
    IfOk-weaker c.read_behind.result _ _ (λ request h. h (g.L.Link.left c.args.link.now) takes was) c.read_behind.ensures.enough

pub returns-clause-enough_refused : goal.returns-clause-enough_refused
returns-clause-enough_refused g c =
    let P : List ℕ → Type 0 = Takes (g.L.Link.left c.args.link.now) (g.L.Link.left c.receive_head.new.link) in
    let takes : P c.deref.result.now = subst P (sym c.deref.ensures.value) c.in_ok-spans.ensures.received in
    let was = enough_weaker WantsHead WantsMore _ _ (λ front h. inl h) c.in_ok-spans.ensures.enough in
    IfErr-weaker c.read_behind.result _ _ (λ fault h. h (g.L.Link.left c.args.link.now) takes was) c.read_behind.ensures.enough_refused
