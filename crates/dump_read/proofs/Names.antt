-- Names of which some bytes stand there.
use Rattle.std.proofs.Common.{Bool, ◌≡◌, inl, inr, ℕ, ◌+◌, ◌-◌, ◌≤◌, ◌<◌, true, false, List, [], ◌∷◌, ◌++◌, length, take, replicate, All, Option, Some, None, IsTrue, refl, sym, ap, subst, ◌∙◌, arith, length-append}
use Rattle.std.specs.List.{AllByRecursion}
use Rattle.std.specs.Ordering.{is_lt, nat_cmp, ordering_then}
use Rattle.std.specs.Cmp.{nat_cmp_is}
use Rattle.std.specs.Cmp.Lexicographic.{slice_cmp}
use Rattle.std.specs.declared.cmp.Ordering.{Ordering}
use Rattle.std.specs.declared.cmp.Ordering.TheVariants.{Less, Equal, Greater}
use Rattle.std.proofs.lemmas.List.{take_all, length-replicate}
use Rattle.std.proofs.lemmas.List.Elements.{recursion_from_All, All-from_recursion, All-append, All-replicate}
use Rattle.std.proofs.lemmas.Bool.{cases_lt}
use Rattle.ckd_image.specs.Bytes.{Begins}
use Rattle.dump_read.specs.PartText.{IsNextName, IsBehind, BeginsName}
use Rattle.dump_read.proofs.PartChain.{take_length}
use Rattle.dump_read.proofs.Words.{whole_front}

less_first : (x y : ℕ) (a b : List ℕ) → x < y → IsTrue (is_lt (slice_cmp nat_cmp (x ∷ a) (y ∷ b)))
less_first x y a b less = subst (λ (o : Ordering). IsTrue (is_lt (ordering_then o (slice_cmp nat_cmp a b)))) (nat_cmp_is x y Less less) refl

same_first : (x y : ℕ) (a b : List ℕ) → x ≡ y → IsTrue (is_lt (slice_cmp nat_cmp (x ∷ a) (y ∷ b))) → IsTrue (is_lt (slice_cmp nat_cmp a b))
same_first x y a b same less = subst (λ (o : Ordering). IsTrue (is_lt (ordering_then o (slice_cmp nat_cmp a b)))) (sym (nat_cmp_is x y Equal same)) less

first_same : (x y : ℕ) (a b : List ℕ) → x ≡ y → IsTrue (is_lt (slice_cmp nat_cmp a b)) → IsTrue (is_lt (slice_cmp nat_cmp (x ∷ a) (y ∷ b)))
first_same x y a b same less = subst (λ (o : Ordering). IsTrue (is_lt (ordering_then o (slice_cmp nat_cmp a b)))) (nat_cmp_is x y Equal same) less

not_more : (x y : ℕ) (a b : List ℕ) → y < x → IsTrue (is_lt (slice_cmp nat_cmp (x ∷ a) (y ∷ b))) → ⊥
not_more x y a b more less =
    let wrong : IsTrue false = subst (λ (o : Ordering). IsTrue (is_lt (ordering_then o (slice_cmp nat_cmp a b)))) (sym (nat_cmp_is x y Greater more)) less in
    let e : false ≡ true = wrong in
    cc

-- the highest bytes behind the first ones are behind all others
highest : (before bytes more : List ℕ) → AllByRecursion (λ b. b ≤ 255) more → IsTrue (is_lt (slice_cmp nat_cmp before (bytes ++ more)))
    → IsTrue (is_lt (slice_cmp nat_cmp before (bytes ++ replicate (length more) 255)))
highest before [] [] bound less = less
highest [] [] (z ∷ more) bound less = refl
highest (x ∷ before) [] (z ∷ more) bound less = elim (cases_lt x 255) [
  | inl short ↦ less_first x 255 before (replicate (length more) 255) short
  | inr long ↦ elim (cases_lt z x) [
    | inl over ↦ absurd (not_more x z before more over less)
    | inr under ↦
        let high = bound.0 in
        let same : x ≡ z = omega arith in
        let top : x ≡ 255 = omega arith in
        first_same x 255 before (replicate (length more) 255) top (highest before [] more bound.1 (same_first x z before more same less))
  ]
]
highest [] (y ∷ bytes) more bound less = refl
highest (x ∷ before) (y ∷ bytes) more bound less = elim (cases_lt x y) [
  | inl short ↦ less_first x y before (bytes ++ replicate (length more) 255) short
  | inr long ↦ elim (cases_lt y x) [
    | inl over ↦ absurd (not_more x y before (bytes ++ more) over less)
    | inr under ↦
        let same : x ≡ y = omega arith in
        first_same x y before (bytes ++ replicate (length more) 255) same (highest before bytes more bound (same_first x y before (bytes ++ more) same less))
  ]
]

bound_behind : (bytes more : List ℕ) → AllByRecursion (λ b. b ≤ 255) (bytes ++ more) → AllByRecursion (λ b. b ≤ 255) more
bound_behind [] more is = is
bound_behind (x ∷ bytes) more is = bound_behind bytes more is.1

front_bound_by : (front rest : List ℕ) → AllByRecursion (λ b. b ≤ 255) (front ++ rest) → AllByRecursion (λ b. b ≤ 255) front
front_bound_by [] rest is = tt
front_bound_by (x ∷ front) rest is = (is.0, front_bound_by front rest is.1)

pub front_bound : (bytes front rest : List ℕ) → bytes ≡ front ++ rest → All (λ b. b ≤ 255) bytes → All (λ b. b ≤ 255) front
front_bound bytes front rest is bound =
    All-from_recursion (λ b. b ≤ 255) front (front_bound_by front rest (subst (AllByRecursion (λ b. b ≤ 255)) is (recursion_from_All (λ b. b ≤ 255) bytes bound)))

behind_filled : (before : Option (List ℕ)) (bytes more : List ℕ) → AllByRecursion (λ b. b ≤ 255) more → IsBehind before (bytes ++ more) → IsBehind before (bytes ++ replicate (length more) 255)
behind_filled None bytes more bound is = tt
behind_filled (Some name) bytes more bound is = highest name bytes more bound is

pub name_cut : (before : Option (List ℕ)) (bytes text : List ℕ) → length bytes < 44 → All (λ b. b ≤ 255) bytes → text ≡ bytes ++ replicate (44 - length bytes) 0xFF → IsBehind before text → BeginsName before bytes
name_cut before bytes text short bound is behind =
    let fill : List ℕ = replicate (44 - length bytes) 0xFF in
    let a : length (bytes ++ fill) ≡ length bytes + length fill = length-append bytes fill in
    let b : length fill ≡ 44 - length bytes = length-replicate {A = ℕ} (44 - length bytes) 0xFF in (
      bytes ++ fill,
      record {
        long = a ∙ (let e : length bytes + length fill ≡ 44 = omega arith in e);
        bytes = All-append (λ b. b ≤ 255) bytes fill bound (All-replicate (λ b. b ≤ 255) (44 - length bytes) 0xFF (omega arith));
        order = subst (IsBehind before) is behind;
      },
      (fill, refl),
    )

pub name_cut_wrong : (before : Option (List ℕ)) (bytes text : List ℕ) → length bytes < 44 → text ≡ bytes ++ replicate (44 - length bytes) 0xFF → ¬ IsBehind before text → ¬ BeginsName before (take 44 bytes)
name_cut_wrong before bytes text short is none = λ (name, may, front).
    let front : Begins bytes name = subst (λ (t : List ℕ). Begins t name) (take_all 44 bytes (omega arith)) front in
    let more : List ℕ = front.0 in
    let spelled : name ≡ bytes ++ more = front.1 in
    let long : length more ≡ 44 - length bytes = (let a = may.long in let b = ap length spelled in let c = length-append bytes more in omega arith) in
    let bound = bound_behind bytes more (subst (AllByRecursion (λ b. b ≤ 255)) spelled (recursion_from_All (λ b. b ≤ 255) name may.bytes)) in
    let filled = behind_filled before bytes more bound (subst (IsBehind before) spelled may.order) in
    none (subst (IsBehind before) (sym (is ∙ ap (λ (n : ℕ). bytes ++ replicate n 0xFF) (sym long))) filled)

pub name_wrong : (before : Option (List ℕ)) (bytes front rest : List ℕ) → bytes ≡ front ++ rest → length front ≡ 44 → ¬ IsBehind before front → ¬ BeginsName before (take 44 bytes)
name_wrong before bytes front rest found long none = λ (name, may, (more, e)).
    let here : take 44 bytes ≡ front = ap (take 44) found ∙ take_length front rest 44 long in
    let same : name ≡ front ++ more = e ∙ ap (λ (t : List ℕ). t ++ more) here in
    let all : name ≡ front = whole_front front name more same (let a = may.long in omega arith) in
    none (subst (IsBehind before) all may.order)

-- some name is left where the highest one is
pub names_left : (before : Option (List ℕ)) (b : Bool) (full : List ℕ) → full ≡ replicate 44 255 → (IsTrue b → IsBehind before full) → (IsBehind before full → IsTrue b)
    → (IsTrue b → (name : List ℕ) × IsNextName before name) × ((name : List ℕ) × IsNextName before name → IsTrue b)
names_left before b full is forth back = (
  λ so. (
    full,
    record {
      long = ap length is;
      bytes = subst (All (λ b. b ≤ 255)) (sym is) (All-replicate (λ b. b ≤ 255) 44 255 (omega arith));
      order = forth so;
    },
  ),
  λ (name, may).
      back (subst (IsBehind before) (ap (λ (n : ℕ). replicate n 255) may.long ∙ sym is) (behind_filled before [] name (recursion_from_All (λ b. b ≤ 255) name may.bytes) may.order)),
)
