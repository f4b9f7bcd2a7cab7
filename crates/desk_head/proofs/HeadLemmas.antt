-- Heads at the front of what came so far.
use Rattle.std.proofs.Common.{◌≡◌, ℕ, ◌≤◌, length, arith, List, [], ◌++◌, take, drop, Option, Some, None, sym, ap, subst, ◌∙◌}
use Rattle.std.specs.Prelude.{IfSome}
use Rattle.std.proofs.lemmas.List.{take-append-drop, append-nil, take-append-le}
use Rattle.std.proofs.Math.Seq.{take-append_seam}
use Rattle.dasd_pool.specs.Stream.{Takes, EndsOnly}
use Rattle.httparse.specs.Grammar.{print_request, HasNoRequest}
use Rattle.desk_head.specs.Head.{HasNoHead}

-- a short enough front of both is a front of the first
pub front_of : (a b c d : List ℕ) → a ++ b ≡ c ++ d → length c ≤ length a → a ≡ c ++ drop (length c) a
front_of a b c d same short =
    let front : take (length c) a ≡ c = sym (take-append-le (length c) a b short) ∙ ap (λ (l : List ℕ). take (length c) l) same ∙ take-append_seam c d in
    sym (take-append-drop (length c) a) ∙ ap (λ (l : List ℕ). l ++ drop (length c) a) front

-- where no head stands in so many bytes, none does in what they begin
pub none_in_front : (input more : List ℕ) → 8192 ≤ length input → HasNoRequest input → HasNoHead (input ++ more)
none_in_front input more long none head rest h =
    none head (drop (length (print_request head)) input) (h.reads.0, front_of input more (print_request head) rest h.reads.1 (omega (arith, h.short)))

-- so of a link that tells
pub none_full : (left now : Option (List ℕ)) (input : List ℕ) → 8192 ≤ length input → HasNoRequest input → Takes left now input → IfSome left HasNoHead
none_full None now input long none takes = tt
none_full (Some whole) now input long none takes = subst HasNoHead (sym takes.2) (none_in_front input takes.0 long none)

-- and where nothing comes behind them
pub none_ended : (left now : Option (List ℕ)) (input : List ℕ) → HasNoRequest input → Takes left now input → EndsOnly now → IfSome left HasNoHead
none_ended None now input none takes ends = tt
none_ended (Some whole) now input none takes ends =
    let nothing : takes.0 ≡ [] = let P : Option (List ℕ) → Type 0 = EndsOnly in subst P takes.1 ends in
    let all : input ≡ whole = sym (takes.2 ∙ ap (λ (r : List ℕ). input ++ r) nothing ∙ append-nil input) in
    subst HasNoHead all (λ head rest h. none head rest h.reads)

-- or none can, whatever does
pub none_ever : (left now : Option (List ℕ)) (input : List ℕ) → ((more : List ℕ) → HasNoHead (input ++ more)) → Takes left now input → IfSome left HasNoHead
none_ever None now input none takes = tt
none_ever (Some whole) now input none takes = subst HasNoHead (sym takes.2) (none takes.0)
