-- The values of a name among the first options.
use Rattle.std.proofs.Common.{◌≡◌, ℕ, zero, suc, ◌+◌, ◌<◌, Bool, true, false, List, [], ◌∷◌, ◌++◌, length, get_or, take, Some, None, sym, ap, ◌∙◌, arith, add-one, append-nil}
use Rattle.std.specs.Prelude.{if◌then◌else◌}
use Rattle.std.specs.List.{cons_option}
use Rattle.std.proofs.Math.Seq.{take-suc}
use Rattle.std.proofs.lemmas.List.Elements.{filter_map-append}
use Rattle.run_words.specs.Words.{values_of, is_same}
use Rattle.run_words.specs.declared.name.Name.{Name}
use Rattle.run_words.specs.declared.given.Given.{Given}

joined : (name : Name) (xs : List Given) (i : ℕ) (x : Given) → i < length xs → x ≡ get_or xs i x → values_of name (take (i + 1) xs) ≡ values_of name (take i xs) ++ values_of name (x ∷ [])
joined name xs i x lt is =
    let more : take (i + 1) xs ≡ take i xs ++ x ∷ [] = ap (λ (n : ℕ). take n xs) (add-one i) ∙ take-suc xs i x lt ∙ ap (λ (t : Given). take i xs ++ t ∷ []) (sym is) in
    ap (values_of name) more ∙ filter_map-append (λ (given : Given). if is_same name given.name then Some given.value else None) (take i xs) (x ∷ [])

pub kept : (name : Name) (xs : List Given) (i : ℕ) (x : Given) → i < length xs → x ≡ get_or xs i x → true ≡ is_same name x.name
    → values_of name (take (i + 1) xs) ≡ values_of name (take i xs) ++ x.value ∷ []
kept name xs i x lt is t =
    let last : values_of name (x ∷ []) ≡ x.value ∷ [] = ap (λ (b : Bool). cons_option (if b then Some x.value else None) []) (sym t) in
    joined name xs i x lt is ∙ ap (λ (t : List (List ℕ)). values_of name (take i xs) ++ t) last

pub skipped : (name : Name) (xs : List Given) (i : ℕ) (x : Given) → i < length xs → x ≡ get_or xs i x → false ≡ is_same name x.name
    → values_of name (take (i + 1) xs) ≡ values_of name (take i xs)
skipped name xs i x lt is t =
    let last : values_of name (x ∷ []) ≡ [] = ap (λ (b : Bool). cons_option (if b then Some x.value else None) []) (sym t) in
    joined name xs i x lt is ∙ ap (λ (t : List (List ℕ)). values_of name (take i xs) ++ t) last ∙ append-nil (values_of name (take i xs))

starts : (b : Bool) (v : List ℕ) (rest : List (List ℕ)) → true ≡ b → cons_option (if b then Some v else None) rest ≡ [] → ⊥
starts true v rest t e = let f : v ∷ rest ≡ [] = e in cc
starts false v rest t e = let f : true ≡ false = t in cc

rest_is : (b : Bool) (v : List ℕ) (rest : List (List ℕ)) → cons_option (if b then Some v else None) rest ≡ [] → rest ≡ []
rest_is true v rest e = let f : v ∷ rest ≡ [] = e in absurd cc
rest_is false v rest e = e

pub present : (name : Name) (xs : List Given) (i : ℕ) (x : Given) → i < length xs → x ≡ get_or xs i x → true ≡ is_same name x.name → values_of name xs ≡ [] → ⊥
present name [] i x lt is t e = omega (arith, lt)
present name (a ∷ xs) zero x lt is t e =
    let here : true ≡ is_same name a.name = t ∙ ap (λ (g : Given). is_same name g.name) is in
    starts (is_same name a.name) a.value (values_of name xs) here e
present name (a ∷ xs) (suc i) x lt is t e = present name xs i x (omega (arith, lt)) is t (rest_is (is_same name a.name) a.value (values_of name xs) e)
