-- Two lists whose items have the same names, place by place.
use Rattle.std.proofs.Common.{◌≡◌, ◌≢◌, ◌≤◌, ◌<◌, ◌+◌, ◌++◌, ◌∷◌, [], ℕ, List, length, take, map, get_or, sym, ap, ◌∙◌}
use Rattle.std.proofs.lemmas.List.{map_more, length-map, get_or-map, take_all}

-- the lists agree in one place more
pub same_more : {X Y Z : Type 0} (f : X → Z) (g : Y → Z) (xs : List X) (ys : List Y) (i : ℕ) (x : X) (y : Y) → i < length xs → i < length ys
    → f (get_or xs i x) ≡ g (get_or ys i y) → map f (take i xs) ≡ map g (take i ys) → map f (take (i + 1) xs) ≡ map g (take (i + 1) ys)
same_more f g xs ys i x y in_xs in_ys same before = map_more f xs i x in_xs ∙ (λ k. before k ++ (same k ∷ [])) ∙ sym (map_more g ys i y in_ys)

-- they differ in a place
pub other_there : {X Y Z : Type 0} (f : X → Z) (g : Y → Z) (xs : List X) (ys : List Y) (i : ℕ) (x : X) (y : Y) → i < length xs → i < length ys
    → f (get_or xs i x) ≢ g (get_or ys i y) → map f xs ≢ map g ys
other_there f g xs ys i x y in_xs in_ys other same =
    other (sym (get_or-map f xs i x (g y) in_xs) ∙ ap (λ zs. get_or zs i (g y)) same ∙ get_or-map g ys i y (g y) in_ys)

-- they differ in length
pub other_length : {X Y Z : Type 0} (f : X → Z) (g : Y → Z) (xs : List X) (ys : List Y) → length xs ≢ length ys → map f xs ≢ map g ys
other_length f g xs ys other same = other (sym (length-map xs f) ∙ ap length same ∙ length-map ys g)

-- they agree in all places
pub same_all : {X Y Z : Type 0} (f : X → Z) (g : Y → Z) (xs : List X) (ys : List Y) (i : ℕ) → length xs ≤ i → length ys ≤ i
    → map f (take i xs) ≡ map g (take i ys) → map f xs ≡ map g ys
same_all f g xs ys i all_xs all_ys same = ap (map f) (sym (take_all i xs all_xs)) ∙ same ∙ ap (map g) (take_all i ys all_ys)
