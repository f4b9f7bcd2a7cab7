use Rattle.std.proofs.Common.{◌≡◌, ◌∙◌, ℕ, List, Ok, ap, take, drop, subst}
use Rattle.std.proofs.lemmas.Result.{IfOk-weaker, IfErr-weaker, err_from_is_err_and}
use Rattle.desk_route.specs.Asks.{wish_in}
use Rattle.desk_body.specs.Wanted.{Makes}
use Rattle.desk_head.proofs.Enough.{unless_failed, failed_weaker}
use Rattle.desk_request.specs.Reads.{IsMadeFault, HeadAsks}
use Rattle.desk_request.proofs.Wholes.{body_whole, body_fault, made_fault, body_enough}
use Rattle.desk_request.proofs.reading.read_behind.Goals as goal

pub returns-in_err-receive_body-clause-fault : goal.returns-in_err-receive_body-clause-fault
returns-in_err-receive_body-clause-fault g c =
    let p = err_from_is_err_and c.from_residual-in_err-receive_body.result c.from_residual-in_err-receive_body.ensures.1 in
    let asking = c.in-Ok.asking in
    let asks : HeadAsks c.requires.head (Ok (wish_in asking.ask, asking.size)) = c.in-Ok.ensures.asked c.requires.head c.requires.parts in
    let same : c.in_ok-body.body.items ≡ drop c.args.spans.now.len c.args.input.now = c.in_ok-body.ensures.items ∙ c.tail.ensures in
    rw (p.1, p.2) (λ before takes. body_fault before _ c.args.input.now c.args.headers.now c.args.spans.now c.requires (wish_in asking.ask) asking.size c.in_ok-body.body.items _ _ c.in_err-receive_body.field-0.0
    takes asks same c.in_err-receive_body.ensures.fault)

pub returns-clause-read : goal.returns-clause-read
returns-clause-read g c =
    let asking = c.in-Ok.asking in
    let asks : HeadAsks c.requires.head (Ok (wish_in asking.ask, asking.size)) = c.in-Ok.ensures.asked c.requires.head c.requires.parts in
    let same : c.in_ok-body.body.items ≡ drop c.args.spans.now.len c.args.input.now = c.in_ok-body.ensures.items ∙ c.tail.ensures in
    let part : c.front.result.now ≡ take asking.size c.receive_body.new.body.items = c.front.ensures ∙ ap (take asking.size) c.deref.ensures.value in
    IfOk-weaker c.made.result (Makes (wish_in asking.ask) c.front.result.now) _
    (λ request m. λ before takes. body_whole before _ _ c.args.input.now c.args.headers.now c.args.spans.now c.requires (wish_in asking.ask) asking.size c.in_ok-body.body.items c.receive_body.new.body.items (Ok request)
    takes asks same c.in_ok-receive_body.ensures.received c.in_ok-receive_body.ensures.whole (subst (λ (l : List ℕ). Makes (wish_in asking.ask) l request) part m)) c.made.ensures.made

pub returns-clause-fault : goal.returns-clause-fault
returns-clause-fault g c =
    let asking = c.in-Ok.asking in
    let asks : HeadAsks c.requires.head (Ok (wish_in asking.ask, asking.size)) = c.in-Ok.ensures.asked c.requires.head c.requires.parts in
    let same : c.in_ok-body.body.items ≡ drop c.args.spans.now.len c.args.input.now = c.in_ok-body.ensures.items ∙ c.tail.ensures in
    let part : c.front.result.now ≡ take asking.size c.receive_body.new.body.items = c.front.ensures ∙ ap (take asking.size) c.deref.ensures.value in
    IfErr-weaker c.made.result (IsMadeFault (wish_in asking.ask) c.front.result.now) _
    (λ fault m. λ before takes. made_fault before _ _ c.args.input.now c.args.headers.now c.args.spans.now c.requires (wish_in asking.ask) asking.size c.in_ok-body.body.items c.receive_body.new.body.items c.front.result.now
    _ _ fault takes asks same c.in_ok-receive_body.ensures.received c.in_ok-receive_body.ensures.whole part m) c.made.ensures.fault

pub returns-in_err-receive_body-clause-enough_refused : goal.returns-in_err-receive_body-clause-enough_refused
returns-in_err-receive_body-clause-enough_refused g c =
    let p = err_from_is_err_and c.from_residual-in_err-receive_body.result c.from_residual-in_err-receive_body.ensures.1 in
    let asking = c.in-Ok.asking in
    let asks : HeadAsks c.requires.head (Ok (wish_in asking.ask, asking.size)) = c.in-Ok.ensures.asked c.requires.head c.requires.parts in
    let same : c.in_ok-body.body.items ≡ drop c.args.spans.now.len c.args.input.now = c.in_ok-body.ensures.items ∙ c.tail.ensures in
    rw (p.1, p.2) (λ before takes was. failed_weaker c.in_err-receive_body.field-0.0 _ _
    (body_enough before _ _ c.args.input.now c.args.headers.now c.args.spans.now c.requires (wish_in asking.ask) asking.size c.in_ok-body.body.items takes asks same was) c.in_err-receive_body.ensures.enough_refused)

pub returns-clause-enough : goal.returns-clause-enough
returns-clause-enough g c =
    let asking = c.in-Ok.asking in
    let asks : HeadAsks c.requires.head (Ok (wish_in asking.ask, asking.size)) = c.in-Ok.ensures.asked c.requires.head c.requires.parts in
    let same : c.in_ok-body.body.items ≡ drop c.args.spans.now.len c.args.input.now = c.in_ok-body.ensures.items ∙ c.tail.ensures in
    IfOk-weaker c.made.result (Makes (wish_in asking.ask) c.front.result.now) _
    (λ request m. λ before takes was. body_enough before _ _ c.args.input.now c.args.headers.now c.args.spans.now c.requires (wish_in asking.ask) asking.size c.in_ok-body.body.items takes asks same was c.in_ok-receive_body.ensures.enough) c.made.ensures.made

pub returns-clause-enough_refused : goal.returns-clause-enough_refused
returns-clause-enough_refused g c =
    let asking = c.in-Ok.asking in
    let asks : HeadAsks c.requires.head (Ok (wish_in asking.ask, asking.size)) = c.in-Ok.ensures.asked c.requires.head c.requires.parts in
    let same : c.in_ok-body.body.items ≡ drop c.args.spans.now.len c.args.input.now = c.in_ok-body.ensures.items ∙ c.tail.ensures in
    IfErr-weaker c.made.result (IsMadeFault (wish_in asking.ask) c.front.result.now) _
    (λ fault m. λ before takes was. unless_failed fault _ (body_enough before _ _ c.args.input.now c.args.headers.now c.args.spans.now c.requires (wish_in asking.ask) asking.size c.in_ok-body.body.items takes asks same was c.in_ok-receive_body.ensures.enough)) c.made.ensures.fault
