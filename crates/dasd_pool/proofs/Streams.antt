-- Counts that rise, and texts that are written and read piece by piece.
use Rattle.std.proofs.Common.{◌≡◌, ℕ, ◌+◌, ◌≤◌, length, arith, length-append, List, ◌++◌, take, Option, Some, None, sym, ap, subst, ◌∙◌, append_assoc, take_all}
use Rattle.std.proofs.Math.Seq.{take-append-add}
use Rattle.dasd_pool.specs.Count.{Rose}
use Rattle.dasd_pool.specs.Stream.{Appends, AppendsSome, Takes}

-- a count that rose since a later moment rose since an earlier one
pub rose_since : (before middle after : ℕ) → before ≤ middle → Rose middle after → Rose before after
rose_since before middle after later rose below = omega (arith, later, rose below)

-- a piece, and then another
pub appends_then : (old mid new : Option (List ℕ)) (x y : List ℕ) → Appends old mid x → Appends mid new y → Appends old new (x ++ y)
appends_then None mid new x y p q = let P : Option (List ℕ) → Type 0 = λ m. Appends m new y in subst P p q
appends_then (Some old) mid new x y p q =
    let P : Option (List ℕ) → Type 0 = λ m. Appends m new y in
    let next : new ≡ Some ((old ++ x) ++ y) = subst P p q in
    next ∙ ap Some (append_assoc old x y)

-- all of a text, and a front of the next
pub appends_some_then : (old mid new : Option (List ℕ)) (x y : List ℕ) → Appends old mid x → AppendsSome mid new y → AppendsSome old new (x ++ y)
appends_some_then old mid new x y p q =
    let both : x ++ take q.0 y ≡ take (length x + q.0) (x ++ y) = sym (take-append-add x y q.0) in
    let P : List ℕ → Type 0 = λ piece. Appends old new piece in
    (length x + q.0, omega (arith, q.1, length-append x y), subst P both (appends_then old mid new x (take q.0 y) p q.2))

-- all of it is a front of it
pub all_some : (old new : Option (List ℕ)) (text : List ℕ) → Appends old new text → AppendsSome old new text
all_some old new text all = (length text, omega arith, subst (λ (t : List ℕ). Appends old new t) (sym (take_all (length text) text (omega arith))) all)

pub takes_then : (old mid new : Option (List ℕ)) (x y : List ℕ) → Takes old mid x → Takes mid new y → Takes old new (x ++ y)
takes_then None mid new x y p q = let P : Option (List ℕ) → Type 0 = λ m. Takes m new y in subst P p q
takes_then (Some text) mid new x y p q =
    let P : Option (List ℕ) → Type 0 = λ m. Takes m new y in
    let next = subst P p.1 q in
    (next.0, next.1, p.2 ∙ ap (λ (r : List ℕ). x ++ r) next.2 ∙ sym (append_assoc x y next.0))
