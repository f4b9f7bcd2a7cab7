-- A head and a body make one request.
use Rattle.std.proofs.Common.{◌≡◌, ℕ, List, Option, Some, refl, sym, ap, subst, ◌∙◌}
use Rattle.std.specs.Prelude.{codes}
use Rattle.serde_json.specs.Data.{Data}
use Rattle.dsn_filter.specs.Dsn.{dsn_of}
use Rattle.enq_table.specs.Holder.{holder_of}
use Rattle.enq_table.specs.declared.hold.Mode.{Mode}
use Rattle.enq_table.specs.declared.hold.Mode.TheVariants as modes
use Rattle.desk_state.specs.declared.request.Request.{Request}
use Rattle.desk_state.specs.declared.request.Request.TheVariants as requests
use Rattle.desk_route.specs.Asks.{Wish, list_jobs, post_job, get_job, run_job, get_volume, put_hold, free_hold}
use Rattle.desk_body.specs.Bodies.{IsBody, string_at}
use Rattle.desk_body.specs.Wanted.{Makes, IsModeText}
use Rattle.desk_laws.proofs.Paths.{apart_at}

pub one_some : {T : Type 0} (found : Option T) (a b : T) → found ≡ Some a → found ≡ Some b → a ≡ b
one_some found a b p q = let same : Some a ≡ Some b = sym p ∙ q in cc

one_body : (body : List ℕ) (v w : Data) → IsBody body (Some v) → IsBody body (Some w) → v ≡ w
one_body body v w p q = one_some _ v w p.1 q.1

one_string : (name : List ℕ) (v w : Data) (a b : List ℕ) → v ≡ w → string_at name v ≡ Some a → string_at name w ≡ Some b → a ≡ b
one_string name v w a b same p q = one_some (string_at name v) a b p (ap (λ (x : Data). string_at name x) same ∙ q)

one_mode : (word : List ℕ) (m n : Mode) → IsModeText word m → IsModeText word n → m ≡ n
one_mode word modes.Shared modes.Shared p q = refl
one_mode word modes.Shared modes.Exclusive p q = absurd (apart_at 0 _ _ (sym p ∙ q) refl)
one_mode word modes.Exclusive modes.Shared p q = absurd (apart_at 0 _ _ (sym p ∙ q) refl)
one_mode word modes.Exclusive modes.Exclusive p q = refl

one_hold : (name : List ℕ) (h k : List ℕ) (m n : Mode) → h ≡ k → m ≡ n → requests.Hold (dsn_of name) m (holder_of h) ≡ requests.Hold (dsn_of name) n (holder_of k)
one_hold name h k m n same modes_same = λ i. requests.Hold (dsn_of name) (modes_same i) (holder_of (same i))

pub one_request : (wish : Wish) (body : List ℕ) (left right : Request) → Makes wish body left → Makes wish body right → left ≡ right
one_request list_jobs body left right h k = h ∙ sym k
one_request (post_job key) body left right h k =
    let values = one_body body h.1.1.0 k.1.1.0 h.1.1.1 k.1.1.1 in
    let texts = one_string (codes "sysin") h.1.1.0 k.1.1.0 h.1.0 k.1.0 values h.1.1.2.1 k.1.1.2.1 in
    h.1.2 ∙ ap (λ (text : List ℕ). requests.Post key text) texts ∙ sym k.1.2
one_request (get_job key) body left right h k = h.1 ∙ sym k.1
one_request (run_job key) body left right h k = h.1 ∙ sym k.1
one_request (get_volume serial) body left right h k = h ∙ sym k
one_request (put_hold name) body left right h k =
    let values = one_body body h.1.3.0 k.1.3.0 h.1.3.1 k.1.3.1 in
    let holders = one_string (codes "holder") h.1.3.0 k.1.3.0 h.1.0 k.1.0 values h.1.3.2.1 k.1.3.2.1 in
    let words = one_string (codes "mode") h.1.3.0 k.1.3.0 h.1.1 k.1.1 values h.1.3.2.2 k.1.3.2.2 in
    let same = one_mode k.1.1 h.1.2 k.1.2 (subst (λ (word : List ℕ). IsModeText word h.1.2) words h.1.5) k.1.5 in
    h.1.6 ∙ one_hold name h.1.0 k.1.0 h.1.2 k.1.2 holders same ∙ sym k.1.6
one_request (free_hold name holder) body left right h k = h.2 ∙ sym k.2
