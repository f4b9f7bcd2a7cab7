-- What was received is what the other side gives.
use Rattle.std.proofs.Common.{◌≡◌, inl, inr, ℕ, ◌<◌, ◌≤◌, length, arith, length-append, List, ◌++◌, take, drop, Option, Some, None, Result, Ok, Err, refl, sym, ap, subst, ◌∙◌, append_assoc}
use Rattle.std.specs.Prelude.{IfSome}
use Rattle.std.proofs.lemmas.List.{take-append-le}
use Rattle.dasd_pool.specs.Stream.{Takes}
use Rattle.httparse.specs.declared.spans.HeaderSpan.{HeaderSpan}
use Rattle.httparse.specs.declared.spans.RequestSpans.{RequestSpans}
use Rattle.httparse.specs.Grammar.{print_request}
use Rattle.dasd_pool.proofs.Streams.{takes_then}
use Rattle.desk_head.specs.Received.{Receives, TakesEnough}
use Rattle.desk_head.specs.Head.{HasHead, IsHeadAt}
use Rattle.desk_route.specs.Asks.{Wish}
use Rattle.desk_body.specs.Wanted.{Makes}
use Rattle.desk_state.specs.declared.request.Request.{Request}
use Rattle.desk_head.specs.declared.fault.RequestFault.{RequestFault}
use Rattle.desk_head.specs.declared.fault.RequestFault.TheVariants as faults
use Rattle.desk_request.specs.Reads.{Reads, HeadAsks, BodyAsks, IsReadFault, IsBodyFault, IsMadeFault, WantsMore}

-- a head at the front of what came is one of all
has_head : (input : List ℕ) (headers : List HeaderSpan) (spans : RequestSpans) (at : IsHeadAt input headers spans) (more : List ℕ) → HasHead (input ++ more) at.head (drop spans.len input ++ more)
has_head input headers spans at more = record {
  reads = (at.parts.reads.0, ap (λ (l : List ℕ). l ++ more) at.parts.reads.1 ∙ append_assoc (print_request at.head) (drop spans.len input) more);
  short = at.short;
  few = at.few;
}

-- where a head is refused
pub refused_whole : (before now : Option (List ℕ)) (input : List ℕ) (headers : List HeaderSpan) (spans : RequestSpans) (at : IsHeadAt input headers spans) (status : ℕ)
    → Takes before now input → HeadAsks at.head (Err status) → IfSome before (λ whole. Reads whole (Err status))
refused_whole None now input headers spans at status takes asks = tt
refused_whole (Some whole) now input headers spans at status takes asks =
    inr (at.head, drop spans.len input ++ takes.0, subst (λ (l : List ℕ). HasHead l at.head (drop spans.len input ++ takes.0)) (sym takes.2) (has_head input headers spans at takes.0), inl (status, asks, refl))

-- where the body ends too early
pub short_whole : (before now : Option (List ℕ)) (input : List ℕ) (headers : List HeaderSpan) (spans : RequestSpans) (at : IsHeadAt input headers spans) (wish : Wish) (size : ℕ) (front : List ℕ)
    → Takes before now input → HeadAsks at.head (Ok (wish, size)) → front ≡ drop spans.len input → IfSome now (λ more. length (front ++ more) < size) → IfSome before (λ whole. Reads whole (Err 400))
short_whole None now input headers spans at wish size front takes asks is short = tt
short_whole (Some whole) now input headers spans at wish size front takes asks is short =
    let less : length (front ++ takes.0) < size = let P : Option (List ℕ) → Type 0 = λ o. IfSome o (λ more. length (front ++ more) < size) in subst P takes.1 short in
    let rest = drop spans.len input ++ takes.0 in
    inr (
      at.head,
      rest,
      subst (λ (l : List ℕ). HasHead l at.head rest) (sym takes.2) (has_head input headers spans at takes.0),
      inr (wish, size, asks, (refl, inl (subst (λ (l : List ℕ). length (l ++ takes.0) < size) is less))),
    )

-- what a body makes
abbrev pub BodyMakes : Wish → List ℕ → Result Request ℕ → Type 0
BodyMakes wish body (Ok request) = Makes wish body request
BodyMakes wish body (Err status) = (status ≡ 400) × ((request : Request) → ¬ Makes wish body request)

body_asks : (wish : Wish) (size : ℕ) (rest body : List ℕ) (answer : Result Request ℕ) → size ≤ length rest → take size rest ≡ body → BodyMakes wish body answer → BodyAsks wish size rest answer
body_asks wish size rest body (Ok request) long same makes = (long, subst (λ (l : List ℕ). Makes wish l request) (sym same) makes)
body_asks wish size rest body (Err status) long same makes =
    (makes.0, inr (λ request m. makes.1 request (subst (λ (l : List ℕ). Makes wish l request) same m)))

-- where the body is there
pub body_whole : (before now after : Option (List ℕ)) (input : List ℕ) (headers : List HeaderSpan) (spans : RequestSpans) (at : IsHeadAt input headers spans) (wish : Wish) (size : ℕ) (front body : List ℕ)
    (answer : Result Request ℕ) → Takes before now input → HeadAsks at.head (Ok (wish, size)) → front ≡ drop spans.len input → Receives now after front body → size ≤ length body
    → BodyMakes wish (take size body) answer → IfSome before (λ whole. Reads whole answer)
body_whole None now after input headers spans at wish size front body answer takes asks is came long makes = tt
body_whole (Some whole) now after input headers spans at wish size front body answer takes asks is came long makes =
    let P : Option (List ℕ) → Type 0 = λ o. Takes o after came.piece in
    let then' : Takes (Some takes.0) after came.piece = subst P takes.1 came.takes in
    let rest = drop spans.len input ++ takes.0 in
    let all : rest ≡ body ++ then'.0 =
    ap (λ (l : List ℕ). l ++ takes.0) (sym is) ∙ ap (λ (l : List ℕ). front ++ l) then'.2 ∙ sym (append_assoc front came.piece then'.0) ∙ ap (λ (l : List ℕ). l ++ then'.0) (sym came.added) in
    let enough : size ≤ length rest = omega (arith, long, ap length all, length-append body then'.0) in
    inr (
      at.head,
      rest,
      subst (λ (l : List ℕ). HasHead l at.head rest) (sym takes.2) (has_head input headers spans at takes.0),
      inr (wish, size, asks, body_asks wish size rest (take size body) answer enough (ap (take size) all ∙ take-append-le size body then'.0 long) makes),
    )

-- of a body no more is received than what its head says
pub body_enough : (before now after : Option (List ℕ)) (input : List ℕ) (headers : List HeaderSpan) (spans : RequestSpans) (at : IsHeadAt input headers spans) (wish : Wish) (size : ℕ) (front : List ℕ)
    → Takes before now input → HeadAsks at.head (Ok (wish, size)) → front ≡ drop spans.len input → TakesEnough WantsMore before now → TakesEnough (λ came. length (front ++ came) < size) now after
    → TakesEnough WantsMore before after
body_enough before now after input headers spans at wish size front takes asks is was (inl same) = let P : Option (List ℕ) → Type 0 = λ o. TakesEnough WantsMore before o in subst P (sym same) was
body_enough before now after input headers spans at wish size front takes asks is was (inr h) = inr (record {
  front = input ++ h.front;
  last = h.last;
  wanted = inr (
    at.head,
    drop spans.len input ++ h.front,
    wish,
    size,
    has_head input headers spans at h.front,
    asks,
    subst (λ (l : List ℕ). length (l ++ h.front) < size) is h.wanted,
  );
  few = h.few;
  takes = let P : List ℕ → Type 0 = Takes before after in
      subst P (sym (append_assoc input h.front h.last)) (takes_then before now after input (h.front ++ h.last) takes h.takes);
})

-- ---- by what a call answered

pub body_fault : (before now : Option (List ℕ)) (input : List ℕ) (headers : List HeaderSpan) (spans : RequestSpans) (at : IsHeadAt input headers spans) (wish : Wish) (size : ℕ) (front : List ℕ)
    (was is : ℕ) (fault : RequestFault) → Takes before now input → HeadAsks at.head (Ok (wish, size)) → front ≡ drop spans.len input → IsBodyFault now was is front size fault → IsReadFault before was is fault
body_fault before now input headers spans at wish size front was is (faults.Status status) takes asks same h =
    subst (λ (s : ℕ). IfSome before (λ whole. Reads whole (Err s))) (sym h.0) (short_whole before now input headers spans at wish size front takes asks same h.1)
body_fault before now input headers spans at wish size front was is faults.Read takes asks same h = h
body_fault before now input headers spans at wish size front was is faults.NoMemory takes asks same h = tt

pub made_fault : (before now after : Option (List ℕ)) (input : List ℕ) (headers : List HeaderSpan) (spans : RequestSpans) (at : IsHeadAt input headers spans) (wish : Wish) (size : ℕ) (front body bytes : List ℕ)
    (was is : ℕ) (fault : RequestFault) → Takes before now input → HeadAsks at.head (Ok (wish, size)) → front ≡ drop spans.len input → Receives now after front body → size ≤ length body
    → bytes ≡ take size body → IsMadeFault wish bytes fault → IsReadFault before was is fault
made_fault before now after input headers spans at wish size front body bytes was is (faults.Status status) takes asks same came long part h =
    body_whole before now after input headers spans at wish size front body (Err status) takes asks same came long
    (h.0, λ request m. h.1 request (subst (λ (l : List ℕ). Makes wish l request) (sym part) m))
made_fault before now after input headers spans at wish size front body bytes was is faults.Read takes asks same came long part h = absurd h
made_fault before now after input headers spans at wish size front body bytes was is faults.NoMemory takes asks same came long part h = tt
