use Rattle.std.proofs.Common.{◌≡◌, ◌<◌, ◌++◌, ◌∙◌, ℕ, List, length, Ok, ap, subst, arith}
use Rattle.std.proofs.lemmas.Result.{err_from_is_err_and}
use Rattle.desk_head.proofs.Enough.{enough_then, failed_weaker}
use Rattle.desk_request.proofs.Bodies.{receives_then}
use Rattle.desk_request.proofs.body.receive_body.Goals as goal

pub returns-in_err-receive_more-clause-enough_refused : goal.returns-in_err-receive_more-clause-enough_refused
returns-in_err-receive_more-clause-enough_refused g c =
    let p = err_from_is_err_and c.from_residual.result c.from_residual.ensures.1 in
    let came = c.receiving.invariant.came in
    let short : length c.receiving.body.items < c.args.size = omega arith in
    let Wants : List ℕ → Type 0 = λ piece. length (c.args.body.now.items ++ piece) < c.args.size in
    let more : Wants came.piece = subst (λ (l : List ℕ). length l < c.args.size) came.added short in
    rw (p.1, p.2) (failed_weaker c.in_err-receive_more.field-0.0 _ _ (enough_then Wants _ (g.L.Link.left c.receiving.link) _ came.piece came.takes more) c.in_err-receive_more.ensures.few_refused)

pub receiving-preserved : goal.receiving-preserved
receiving-preserved g c =
    let came = c.receiving.invariant.came in
    let short : length c.receiving.body.items < c.args.size = omega arith in
    let Wants : List ℕ → Type 0 = λ piece. length (c.args.body.now.items ++ piece) < c.args.size in
    let more : Wants came.piece = subst (λ (l : List ℕ). length l < c.args.size) came.added short in
    record {
      later = omega (arith, c.receiving.invariant.later, c.receive_more.ensures.later);
      silent = c.receive_more.ensures.silent ∙ c.receiving.invariant.silent;
      came = receives_then _ (g.L.Link.left c.receiving.link) _ c.args.body.now.items c.receiving.body.items _ came (c.in_ok-receive_more.ensures.more (ap Ok c.if-not-branch.false));
      enough = enough_then Wants _ (g.L.Link.left c.receiving.link) _ came.piece came.takes more c.in_ok-receive_more.ensures.few;
    }
