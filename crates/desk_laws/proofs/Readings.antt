-- An input is read in one way.
use Rattle.std.proofs.Common.{◌≡◌, ◌⊎◌, inl, inr, ℕ, ◌<◌, ◌≤◌, List, [], ◌∷◌, length, take, Option, refl, sym, ap, subst, ◌∙◌, arith}
use Rattle.std.specs.Prelude.{Bool, Result, Ok, Err, codes, nat_lt}
use Rattle.httparse.specs.Grammar.{RequestHead}
use Rattle.httparse.proofs.GrammarLemmas.{request_unique}
use Rattle.desk_state.specs.declared.request.Request.{Request}
use Rattle.desk_route.specs.Places.{Place}
use Rattle.desk_route.specs.Asks.{Wish, Judges, judged, wish_of}
use Rattle.desk_body.specs.Wanted.{Makes}
use Rattle.desk_request.specs.Reads.{IsSaid, HeadAsks, BodyAsks, RestAsks, Reads, said_by}
use Rattle.desk_laws.proofs.Paths.{one_place}
use Rattle.desk_laws.proofs.Requests.{one_request}

one_said : (values : List (List ℕ)) (a b : Option ℕ) → IsSaid values a → IsSaid values b → a ≡ b
one_said [] a b p q = p ∙ sym q
one_said (value ∷ []) a b p q = p.1 ∙ sym q.1
one_said (value ∷ other ∷ more) a b p q = absurd p

one_judging : (path method : List ℕ) (said : Option ℕ) (coded : Bool) (a b : Result (Wish × ℕ) ℕ) → Judges path method said coded a → Judges path method said coded b → a ≡ b
one_judging path method said coded a b (inl h) (inl k) = h.1 ∙ sym k.1
one_judging path method said coded a b (inl h) (inr k) = absurd (h.0 k.0 k.1)
one_judging path method said coded a b (inr h) (inl k) = absurd (k.0 h.0 h.1)
one_judging path method said coded a b (inr h) (inr k) =
    h.2 ∙ ap (λ (place : Place). judged (wish_of place method) said coded) (one_place path h.0 k.0 h.1 k.1) ∙ sym k.2

one_head : (head : RequestHead) (a b : Result (Wish × ℕ) ℕ) → HeadAsks head a → HeadAsks head b → a ≡ b
one_head head a b (inl h) (inl k) = h.1 ∙ sym k.1
one_head head a b (inl h) (inr k) = absurd (h.0 k.0 k.1)
one_head head a b (inr h) (inl k) = absurd (k.0 h.0 h.1)
one_head head a b (inr h) (inr k) =
    let same = one_said (said_by (codes "content-length") head) h.0 k.0 h.1 k.1 in
    let coded = nat_lt 0 (length (said_by (codes "transfer-encoding") head)) in
    one_judging head.target head.method k.0 coded a b (subst (λ (said : Option ℕ). Judges head.target head.method said coded a) same h.2) k.2

unmade : (wish : Wish) (size : ℕ) (rest : List ℕ) (request : Request) → (length rest < size) ⊎ ((other : Request) → ¬ Makes wish (take size rest) other) → size ≤ length rest → Makes wish (take size rest) request → ⊥
unmade wish size rest request (inl short) long makes = omega (arith, short, long)
unmade wish size rest request (inr none) long makes = none request makes

one_body : (wish : Wish) (size : ℕ) (rest : List ℕ) (a b : Result Request ℕ) → BodyAsks wish size rest a → BodyAsks wish size rest b → a ≡ b
one_body wish size rest (Ok x) (Ok y) h k = ap Ok (one_request wish (take size rest) x y h.1 k.1)
one_body wish size rest (Ok x) (Err s) h k = absurd (unmade wish size rest x k.1 h.0 h.1)
one_body wish size rest (Err s) (Ok y) h k = absurd (unmade wish size rest y h.1 k.0 k.1)
one_body wish size rest (Err s) (Err t) h k = ap Err (h.0 ∙ sym k.0)

one_err : (x y : Result (Wish × ℕ) ℕ) (a b : ℕ) → x ≡ Err a → y ≡ Err b → x ≡ y → a ≡ b
one_err x y a b p q same = let equal : Err a ≡ Err b = sym p ∙ same ∙ q in cc

ok_err : (x y : Result (Wish × ℕ) ℕ) (a : Wish × ℕ) (b : ℕ) → x ≡ Ok a → y ≡ Err b → x ≡ y → ⊥
ok_err x y a b p q same = let equal : Ok a ≡ Err b = sym p ∙ same ∙ q in absurd (cc)

one_ok : (x y : Result (Wish × ℕ) ℕ) (a b : Wish × ℕ) → x ≡ Ok a → y ≡ Ok b → x ≡ y → a ≡ b
one_ok x y a b p q same = let equal : Ok a ≡ Ok b = sym p ∙ same ∙ q in cc

one_rest : (head : RequestHead) (rest : List ℕ) (a b : Result Request ℕ) → RestAsks head rest a → RestAsks head rest b → a ≡ b
one_rest head rest a b (inl h) (inl k) = h.2 ∙ ap Err (one_err (Err h.0) (Err k.0) h.0 k.0 refl refl (one_head head (Err h.0) (Err k.0) h.1 k.1)) ∙ sym k.2
one_rest head rest a b (inl h) (inr k) = absurd (ok_err (Ok (k.0, k.1)) (Err h.0) (k.0, k.1) h.0 refl refl (one_head head (Ok (k.0, k.1)) (Err h.0) k.2 h.1))
one_rest head rest a b (inr h) (inl k) = absurd (ok_err (Ok (h.0, h.1)) (Err k.0) (h.0, h.1) k.0 refl refl (one_head head (Ok (h.0, h.1)) (Err k.0) h.2 k.1))
one_rest head rest a b (inr h) (inr k) =
    let same : (h.0, h.1) ≡ (k.0, k.1) = one_ok (Ok (h.0, h.1)) (Ok (k.0, k.1)) (h.0, h.1) (k.0, k.1) refl refl (one_head head (Ok (h.0, h.1)) (Ok (k.0, k.1)) h.2 k.2) in
    let P : Wish × ℕ → Type 0 = λ asked. BodyAsks asked.0 asked.1 rest a in
    one_body k.0 k.1 rest a b (subst P same h.3) k.3

pub one_reading : (input : List ℕ) (a b : Result Request ℕ) → Reads input a → Reads input b → a ≡ b
one_reading input a b (inl h) (inl k) = h.1 ∙ sym k.1
one_reading input a b (inl h) (inr k) = absurd (h.0 k.0 k.1 k.2)
one_reading input a b (inr h) (inl k) = absurd (k.0 h.0 h.1 h.2)
one_reading input a b (inr h) (inr k) =
    let same = request_unique input h.0 k.0 h.1 k.1 h.2.reads k.2.reads in
    let first : RestAsks k.0 h.1 a = subst (λ (head : RequestHead). RestAsks head h.1 a) same.0 h.3 in
    one_rest k.0 k.1 a b (subst (λ (rest : List ℕ). RestAsks k.0 rest a) same.1 first) k.3
