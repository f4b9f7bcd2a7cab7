-- The values of fields, field by field.
use Rattle.std.proofs.Common.{◌≡◌, ℕ, ◌+◌, ◌*◌, ◌<◌, length, arith, List, [], ◌∷◌, ◌++◌, take, drop, map, get_or, Bool, true, false, refl, sym, ap, ◌∙◌, min, cond}
use Rattle.std.specs.Prelude.{filter, IsTrue, ◌↔◌}
use Rattle.std.proofs.lemmas.Bool.{false≢true}
use Rattle.httparse.specs.declared.spans.HeaderSpan.{HeaderSpan}
use Rattle.httparse.specs.Spans.{header_bytes}
use Rattle.std.specs.Char.{to_ascii_lowercase}
use Rattle.std.proofs.lemmas.List.{map-append, map_more, take-append-drop}
use Rattle.std.proofs.lemmas.List.Elements.{filter-append}
use Rattle.std.proofs.lemmas.Slice.Eq.{bytes_eq-Decides}
use Rattle.desk_head.specs.declared.field.Found.{Found}
use Rattle.desk_head.specs.declared.field.Found.TheVariants as founds
use Rattle.desk_head.specs.Fields.{IsFound, is_named, values_of}

pub values_then : (name : List ℕ) (a b : List (List ℕ × List ℕ)) → values_of name (a ++ b) ≡ values_of name a ++ values_of name b
values_then name a b =
    ap (λ (l : List (List ℕ × List ℕ)). map (λ (f : List ℕ × List ℕ). f.1) l) (filter-append (λ (f : List ℕ × List ℕ). is_named name f.0) a b)
    ∙ map-append (λ (f : List ℕ × List ℕ). f.1) (filter (λ (f : List ℕ × List ℕ). is_named name f.0) a) (filter (λ (f : List ℕ × List ℕ). is_named name f.0) b)

-- a field of the name has its value
pub value_named : (name : List ℕ) (f : List ℕ × List ℕ) → is_named name f.0 ≡ true → values_of name (f ∷ []) ≡ f.1 ∷ []
value_named name f is = ap (λ (b : Bool). map (λ (x : List ℕ × List ℕ). x.1) (cond b (f ∷ []) [])) is

-- another has none
pub value_other : (name : List ℕ) (f : List ℕ × List ℕ) → is_named name f.0 ≡ false → values_of name (f ∷ []) ≡ []
value_other name f is = ap (λ (b : Bool). map (λ (x : List ℕ × List ℕ). x.1) (cond b (f ∷ []) [])) is

-- ---- one field more

module _ (input name : List ℕ) where
  -- the values of the name among headers
  abbrev pub seen : List HeaderSpan → List (List ℕ)
  seen headers = values_of name (map (header_bytes input) headers)

  pub seen_more : (headers : List HeaderSpan) (i : ℕ) (d : HeaderSpan) → i < length headers
      → seen (take (i + 1) headers) ≡ seen (take i headers) ++ values_of name (header_bytes input (get_or headers i d) ∷ [])
  seen_more headers i d less = ap (values_of name) (map_more (header_bytes input) headers i d less) ∙ values_then name (map (header_bytes input) (take i headers)) (header_bytes input (get_or headers i d) ∷ [])

  pub seen_all : (headers : List HeaderSpan) (i : ℕ) → seen headers ≡ seen (take i headers) ++ seen (drop i headers)
  seen_all headers i =
      ap seen (sym (take-append-drop i headers))
      ∙ ap (values_of name) (map-append (header_bytes input) (take i headers) (drop i headers))
      ∙ values_then name (map (header_bytes input) (take i headers)) (map (header_bytes input) (drop i headers))

is_or_not : (x : Bool) → (x ≡ true → ⊥) → x ≡ false
is_or_not true never = absurd (never refl)
is_or_not false _ = refl

was_true : (b : Bool) (P : Type 0) → IsTrue b ↔ P → b ≡ true → P
was_true b P both is = both.0 is

was_false : (b : Bool) (P : Type 0) → IsTrue b ↔ P → b ≡ false → P → ⊥
was_false b P both is p = false≢true (sym is ∙ both.1 p)

pub named_by : (name other found : List ℕ) (b : Bool) → found ≡ other → IsTrue b ↔ (map to_ascii_lowercase found ≡ map to_ascii_lowercase name) → b ≡ true → is_named name other ≡ true
named_by name other found b same test is =
    (bytes_eq-Decides (map to_ascii_lowercase other) (map to_ascii_lowercase name)).1 (ap (map to_ascii_lowercase) (sym same) ∙ was_true b _ test is)

pub not_named_by : (name other found : List ℕ) (b : Bool) → found ≡ other → IsTrue b ↔ (map to_ascii_lowercase found ≡ map to_ascii_lowercase name) → b ≡ false → is_named name other ≡ false
not_named_by name other found b same test is =
    is_or_not (is_named name other) (λ yes. was_false b _ test is (ap (map to_ascii_lowercase) same ∙ (bytes_eq-Decides (map to_ascii_lowercase other) (map to_ascii_lowercase name)).0 yes))

-- where something was found, there are values
pub some_found : (input : List ℕ) (values : List (List ℕ)) (found : Found) → IsFound input values found → (found ≡ founds.None → ⊥) → 0 < length values
some_found input values founds.None h some = absurd (some refl)
some_found input values (founds.One span) h some = omega (arith, ap length h.1)
some_found input values founds.Several h some = omega (arith, h)

-- a number that is cut at a limit is so after a digit more
pub min_more : (n limit digit value next : ℕ) → value ≡ min n limit → next ≡ min (value * 10 + digit) limit → next ≡ min (n * 10 + digit) limit
min_more n limit digit value next is more = grind arith
