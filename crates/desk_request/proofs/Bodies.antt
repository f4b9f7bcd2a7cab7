-- Bytes that come behind others.
use Rattle.std.proofs.Common.{◌≡◌, ℕ, ◌<◌, length, List, [], ◌++◌, Option, Some, None, sym, ap, subst, ◌∙◌, append_assoc}
use Rattle.std.specs.Prelude.{IfSome}
use Rattle.std.proofs.lemmas.List.{append-nil}
use Rattle.dasd_pool.specs.Stream.{EndsOnly}
use Rattle.dasd_pool.proofs.Streams.{takes_then}
use Rattle.dasd_pool.proofs.Written.{takes_none}
use Rattle.desk_head.specs.Received.{Receives}

pub receives_none : (left : Option (List ℕ)) (came : List ℕ) → Receives left left came came
receives_none left came = record { piece = []; added = sym (append-nil came); takes = takes_none left }

pub receives_then : (old mid new : Option (List ℕ)) (a b c : List ℕ) → Receives old mid a b → Receives mid new b c → Receives old new a c
receives_then old mid new a b c p q = record {
  piece = p.piece ++ q.piece;
  added = q.added ∙ ap (λ (l : List ℕ). l ++ q.piece) p.added ∙ append_assoc a p.piece q.piece;
  takes = takes_then old mid new p.piece q.piece p.takes q.takes;
}

-- where nothing comes any more, all that came is too short
pub too_short : (old mid : Option (List ℕ)) (a b : List ℕ) (size : ℕ) → Receives old mid a b → EndsOnly mid → length b < size → IfSome old (λ more. length (a ++ more) < size)
too_short None mid a b size p ends short = tt
too_short (Some left) mid a b size p ends short =
    let nothing : p.takes.0 ≡ [] = let P : Option (List ℕ) → Type 0 = EndsOnly in subst P p.takes.1 ends in
    let all : a ++ left ≡ b = ap (λ (l : List ℕ). a ++ l) (p.takes.2 ∙ ap (λ (l : List ℕ). p.piece ++ l) nothing ∙ append-nil p.piece) ∙ sym p.added in
    subst (λ (l : List ℕ). length l < size) (sym all) short
