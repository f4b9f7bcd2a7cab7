-- Texts of which a front was sent.
use Rattle.std.proofs.Common.{ℕ, List, ◌++◌, Option, subst, sym, arith, length-append}
use Rattle.std.proofs.lemmas.List.{take-append-le}
use Rattle.dasd_pool.specs.Stream.{Appends, AppendsSome}

-- a front of the first part is one of both
pub some_of_first : (old new : Option (List ℕ)) (x y : List ℕ) → AppendsSome old new x → AppendsSome old new (x ++ y)
some_of_first old new x y p =
    let P : List ℕ → Type 0 = λ piece. Appends old new piece in
    (p.0, omega (arith, p.1, length-append x y), subst P (sym (take-append-le p.0 x y p.1)) p.2)
