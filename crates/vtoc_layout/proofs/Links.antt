-- Records that pointers lead through, one after the other.
use Rattle.std.proofs.Common.{◌≡◌, ◌⊎◌, ℕ, zero, suc, ◌≤◌, List, [], ◌∷◌, ◌++◌, length, Bool, cond, All, Contains, Option, Some, None, refl, sym, ap, subst, ◌∙◌, arith, inl, inr}
use Rattle.std.proofs.lemmas.List.Elements.{All-head, All-tail}
use Rattle.volume_model.specs.declared.format.Format.TheVariants.{F3}
use Rattle.volume_model.specs.declared.place.Placed.{Placed}
use Rattle.volume_model.specs.Dscbs.{format_of, is_f3, pointer_in}
use Rattle.volume_model.specs.Directory.{named_record, if_format, next_format_3, extended, chain_of}
use Rattle.volume_model.specs.Check.{first_of}
use Rattle.vtoc_layout.specs.Layout.{AreDistinct, IsLinked}
use Rattle.vtoc_layout.proofs.Distinct.{first_or_later, in_later, in_none}

-- in a list one stands right before another
abbrev pub Precedes : List Placed → Placed → Placed → Type 0
Precedes [] a b = ⊥
Precedes (x ∷ xs) a b = ((x ≡ a) × (first_of xs ≡ Some b)) ⊎ Precedes xs a b

pub first_in : (xs : List Placed) (b : Placed) → first_of xs ≡ Some b → Contains xs b
first_in [] b e = (let q : None ≡ Some b = e in cc)
first_in (x ∷ xs) b e = (let q : Some x ≡ Some b = e in let same : x ≡ b = cc in (0, omega arith, same))

-- the second isn't the first of the list
pub second_later : (x : Placed) (xs : List Placed) (a b : Placed) → Precedes (x ∷ xs) a b → Contains xs b
second_later x xs a b (inl p) = first_in xs b p.1
second_later x [] a b (inr p) = absurd p
second_later x (y ∷ xs) a b (inr p) = in_later y b xs (second_later y xs a b p)

pub first_there : (xs : List Placed) (a b : Placed) → Precedes xs a b → Contains xs a
first_there [] a b p = absurd p
first_there (x ∷ xs) a b (inl p) = (0, omega arith, p.0)
first_there (x ∷ xs) a b (inr p) = in_later x a xs (first_there xs a b p)

-- where none stands twice, one alone stands before another
pub one_before : (xs : List Placed) (a b x : Placed) → AreDistinct xs → Precedes xs a x → Precedes xs b x → a ≡ b
one_before [] a b x d p q = absurd p
one_before (y ∷ xs) a b x d (inl p) (inl q) = sym p.0 ∙ q.0
one_before (y ∷ []) a b x d (inl p) (inr q) = absurd q
one_before (y ∷ []) a b x d (inr p) q = absurd p
one_before (y ∷ z ∷ xs) a b x d (inl p) (inr q) =
    let e : Some z ≡ Some x = p.1 in
    let same : z ≡ x = cc in
    let P : Placed → Type 0 = λ w. Contains xs w in
    absurd (d.1.0 (subst P (sym same) (second_later z xs b x q)))
one_before (y ∷ z ∷ xs) a b x d (inr p) (inl q) =
    let e : Some z ≡ Some x = q.1 in
    let same : z ≡ x = cc in
    let P : Placed → Type 0 = λ w. Contains xs w in
    absurd (d.1.0 (subst P (sym same) (second_later z xs a x p)))
one_before (y ∷ z ∷ xs) a b x d (inr p) (inr q) = one_before (z ∷ xs) a b x d.1 p q

-- each but the first has one before it
pub has_before : (x : Placed) (xs : List Placed) (b : Placed) → Contains xs b → (a : Placed) × Precedes (x ∷ xs) a b
has_before x [] b c = absurd (in_none b c)
has_before x (y ∷ xs) b c = by (has_before y xs b) (first_or_later y b xs c)
  where
    by : (Contains xs b → (a : Placed) × Precedes (y ∷ xs) a b) → ((y ≡ b) ⊎ Contains xs b) → (a : Placed) × Precedes (x ∷ y ∷ xs) a b
    by later (inl same) = (x, inl (refl, ap (λ (z : Placed). Some z) same))
    by later (inr there) = let r = later there in (r.0, inr r.1)

pub precedes_split : (front : List Placed) (a b : Placed) (back : List Placed) → Precedes (front ++ (a ∷ b ∷ back)) a b
precedes_split [] a b back = inl (refl, refl)
precedes_split (x ∷ front) a b back = inr (precedes_split front a b back)

-- ---- where pointers lead

module _ (heads : ℕ) (records : List Placed) where
  abbrev pub next_of : Placed → Option Placed
  next_of placed = named_record heads records (pointer_in placed.bytes)

  linked_first : (bytes : List ℕ) (x : Placed) (xs : List Placed) → IsLinked heads records bytes (x ∷ xs) → named_record heads records (pointer_in bytes) ≡ first_of (x ∷ xs)
  linked_first bytes x xs h = h.0

  -- from a record that stands before another, its pointer leads there
  pub leads_on : (x : Placed) (xs : List Placed) (a b : Placed) → IsLinked heads records x.bytes xs → Precedes (x ∷ xs) a b → next_of a ≡ Some b
  leads_on x [] a b h (inl p) = (let e : None ≡ Some b = p.1 in cc)
  leads_on x [] a b h (inr p) = absurd p
  leads_on x (y ∷ xs) a b h (inl p) = ap next_of (sym p.0) ∙ h.0 ∙ p.1
  leads_on x (y ∷ xs) a b h (inr p) = leads_on y xs a b h.1 p

  -- the pointer of each leads to the next, or it has none
  pub leads_to_next : (x : Placed) (xs : List Placed) (a : Placed) → IsLinked heads records x.bytes xs → Contains (x ∷ xs) a
      → (pointer_in a.bytes ≡ None) ⊎ ((b : Placed) × (next_of a ≡ Some b) × Precedes (x ∷ xs) a b)
  leads_to_next x [] a h c = by (first_or_later x a [] c)
    where
      by : ((x ≡ a) ⊎ Contains [] a) → (pointer_in a.bytes ≡ None) ⊎ ((b : Placed) × (next_of a ≡ Some b) × Precedes (x ∷ []) a b)
      by (inl same) = inl (ap (λ (p : Placed). pointer_in p.bytes) (sym same) ∙ h)
      by (inr there) = absurd (in_none a there)
  leads_to_next x (y ∷ xs) a h c = by (leads_to_next y xs a h.1) (first_or_later x a (y ∷ xs) c)
    where
      on : ((pointer_in a.bytes ≡ None) ⊎ ((b : Placed) × (next_of a ≡ Some b) × Precedes (y ∷ xs) a b)) → (pointer_in a.bytes ≡ None) ⊎ ((b : Placed) × (next_of a ≡ Some b) × Precedes (x ∷ y ∷ xs) a b)
      on (inl last) = inl last
      on (inr r) = inr (r.0, r.1, inr r.2)

      by : (Contains (y ∷ xs) a → (pointer_in a.bytes ≡ None) ⊎ ((b : Placed) × (next_of a ≡ Some b) × Precedes (y ∷ xs) a b)) → ((x ≡ a) ⊎ Contains (y ∷ xs) a)
          → (pointer_in a.bytes ≡ None) ⊎ ((b : Placed) × (next_of a ≡ Some b) × Precedes (x ∷ y ∷ xs) a b)
      by later (inl same) = inr (y, ap next_of (sym same) ∙ h.0, inl (same, refl))
      by later (inr there) = on (later there)

  -- the last has no pointer
  pub last_ends : (x : Placed) (xs front : List Placed) (last : Placed) → IsLinked heads records x.bytes xs → x ∷ xs ≡ front ++ (last ∷ []) → pointer_in last.bytes ≡ None
  last_ends x [] [] last h e = (let same : x ≡ last = cc in ap (λ (p : Placed). pointer_in p.bytes) (sym same) ∙ h)
  last_ends x [] (y ∷ []) last h e = absurd (omega (arith, ap length e))
  last_ends x [] (y ∷ z ∷ front) last h e = absurd (omega (arith, ap length e))
  last_ends x (y ∷ xs) [] last h e = absurd (omega (arith, ap length e))
  last_ends x (y ∷ xs) (z ∷ front) last h e = (let rest : y ∷ xs ≡ front ++ (last ∷ []) = cc in last_ends y xs front last h.1 rest)

  -- ---- format 3s that pointers lead through are the chain

  names_three : (bytes : List ℕ) (next : Placed) → named_record heads records (pointer_in bytes) ≡ Some next → format_of next.bytes ≡ F3 → next_format_3 heads records bytes ≡ Some next
  names_three bytes next e three = ap (if_format is_f3) e ∙ ap (λ (b : Bool). cond b (Some next) None) (ap is_f3 three)

  pub chain_is : (most : ℕ) (bytes : List ℕ) (threes : List Placed) → IsLinked heads records bytes threes → All (λ three. format_of three.bytes ≡ F3) threes → length threes ≤ most
      → chain_of heads records most bytes ≡ threes
  chain_is zero bytes [] h all le = refl
  chain_is zero bytes (next ∷ more) h all le = absurd (omega (arith, le))
  chain_is (suc most) bytes [] h all le = ap (λ (o : Option Placed). extended o (λ placed. chain_of heads records most placed.bytes)) none
    where
      none : next_format_3 heads records bytes ≡ None
      none = ap (λ pointer. if_format is_f3 (named_record heads records pointer)) h
  chain_is (suc most) bytes (next ∷ more) h all le =
      ap (λ (o : Option Placed). extended o (λ placed. chain_of heads records most placed.bytes))
      (names_three bytes next h.0 (All-head (λ (three : Placed). format_of three.bytes ≡ F3) next more all))
      ∙ ap (λ (xs : List Placed). next ∷ xs) (chain_is most next.bytes more h.1 (All-tail (λ (three : Placed). format_of three.bytes ≡ F3) next more all) (omega (arith, le)))
