-- The format 3s of a data set in a VTOC that breaks no rule.
use Rattle.std.proofs.Common.{◌≡◌, ◌⊎◌, ℕ, zero, suc, ◌<◌, ◌≤◌, List, [], ◌∷◌, ◌++◌, length, filter, Bool, true, false, cond, Contains, Option, Some, None, refl, sym, ap, subst, ◌∙◌, arith, inl, inr}
use Rattle.std.specs.Prelude.{◌&&◌, ◌||◌, not}
use Rattle.std.specs.Option.{is_some}
use Rattle.std.proofs.lemmas.Bool.{cases_Bool, or_right}
use Rattle.ckd_image.specs.declared.track.Cchhr.{Cchhr}
use Rattle.volume_model.specs.declared.format.Format.TheVariants.{F1, F3}
use Rattle.volume_model.specs.declared.place.Placed.{Placed}
use Rattle.volume_model.specs.declared.place.Vtoc.{Vtoc}
use Rattle.volume_model.specs.Dscbs.{format_of, is_f1, is_f3, pointer_in}
use Rattle.volume_model.specs.Directory.{named_record, if_format, next_format_3, extended, chain_of}
use Rattle.volume_model.specs.Check.{records_of, namers_of, named_by, names_3, names_format, breaches_of}
use Rattle.vtoc_check.specs.Places.{AreShort}
use Rattle.vtoc_check.proofs.Targets.{named_by_next}
use Rattle.vtoc_layout.specs.Layout.{IsLinked}
use Rattle.vtoc_layout.specs.Layout.{AreDistinct}
use Rattle.vtoc_layout.proofs.Distinct.{first_or_later, in_none, in_filter, no_more, distinct_each}
use Rattle.vtoc_load.proofs.Chains.{chain_at, next_in, lost, twice_named, orphans, no_parts, chains_apart}
use Rattle.layout_found.proofs.Members.{none_of}
use Rattle.layout_found.proofs.Formats.{f1_is, f3_is}
use Rattle.ckd_image.proofs.Lists.{left_nil}

-- a format 1 or 3
abbrev pub IsNamer : Placed → Type 0
IsNamer a = (is_f1 (format_of a.bytes) || is_f3 (format_of a.bytes)) ≡ true

-- ---- what a chain has

pub chain_in : (heads : ℕ) (records : List Placed) (n : ℕ) (bytes : List ℕ) (x : Placed) → Contains (chain_of heads records n bytes) x → Contains records x × (is_f3 (format_of x.bytes) ≡ true)
chain_in heads records zero bytes x h = absurd (in_none x h)
chain_in heads records (suc n) bytes x h = by (λ p c. chain_in heads records n p.bytes x c) (next_format_3 heads records bytes) refl h
  where
    by : ((p : Placed) → Contains (chain_of heads records n p.bytes) x → Contains records x × (is_f3 (format_of x.bytes) ≡ true)) → (o : Option Placed) → next_format_3 heads records bytes ≡ o
        → Contains (extended o (λ placed. chain_of heads records n placed.bytes)) x → Contains records x × (is_f3 (format_of x.bytes) ≡ true)
    by later None e c = absurd (in_none x c)
    by later (Some p) e c = first (first_or_later p x (chain_of heads records n p.bytes) c)
      where
        first : ((p ≡ x) ⊎ Contains (chain_of heads records n p.bytes) x) → Contains records x × (is_f3 (format_of x.bytes) ≡ true)
        first (inl same) = let P : Placed → Type 0 = λ y. Contains records y × (is_f3 (format_of y.bytes) ≡ true) in subst P same (next_in heads records bytes p e)
        first (inr there) = later p there

-- ---- where a chain ends

not_three : (o : Option Placed) → names_format (λ bytes. is_f3 (format_of bytes)) o ≡ true → if_format is_f3 o ≡ None → ⊥
not_three None names none = (let q : false ≡ true = names in let r : ⊥ = cc in r)
not_three (Some p) names none =
    let nothing : Option Placed = None in
    let some : cond (is_f3 (format_of p.bytes)) (Some p) nothing ≡ Some p = ap (λ (t : Bool). cond t (Some p) nothing) names in
    let q : Some p ≡ nothing = sym some ∙ none in
    let r : ⊥ = cc in
    r

-- a format 1 or 3 that leads to no format 3 has no pointer
ends : (vtoc : Vtoc) → breaches_of vtoc ≡ [] → (a : Placed) → Contains (records_of vtoc) a → IsNamer a → next_format_3 vtoc.heads (records_of vtoc) a.bytes ≡ None → pointer_in a.bytes ≡ None
ends vtoc sound a there namer last = by (pointer_in a.bytes) refl
  where
    none_lost : lost vtoc ≡ []
    none_lost = left_nil (lost vtoc) (twice_named vtoc) (left_nil (lost vtoc ++ twice_named vtoc) (orphans vtoc) (no_parts vtoc sound))

    named : Contains (namers_of vtoc) a → names_3 vtoc a ≡ true
    named c = is (cases_Bool (names_3 vtoc a))
      where
        is : ((names_3 vtoc a ≡ true) ⊎ (names_3 vtoc a ≡ false)) → names_3 vtoc a ≡ true
        is (inl e) = e
        is (inr e) = (let q : true ≡ false = sym (ap not e) ∙ none_of (λ (placed : Placed). not (names_3 vtoc placed)) (namers_of vtoc) none_lost a c in cc)

    by : (o : Option Cchhr) → pointer_in a.bytes ≡ o → pointer_in a.bytes ≡ None
    by None e = e
    by (Some pointer) e =
        let points : ((is_f1 (format_of a.bytes) || is_f3 (format_of a.bytes)) && is_some (pointer_in a.bytes)) ≡ true = (λ i. namer i && is_some (e i)) in
        let c : Contains (namers_of vtoc) a =
        in_filter (λ (placed : Placed). (is_f1 (format_of placed.bytes) || is_f3 (format_of placed.bytes)) && is_some (pointer_in placed.bytes)) (records_of vtoc) a there points in
        absurd (not_three (named_by vtoc a) (named c) last)

-- where so many are enough, the chain is linked
linked : (vtoc : Vtoc) → breaches_of vtoc ≡ [] → (n : ℕ) (a : Placed) → Contains (records_of vtoc) a → IsNamer a → length (chain_of vtoc.heads (records_of vtoc) n a.bytes) < n
    → IsLinked vtoc.heads (records_of vtoc) a.bytes (chain_of vtoc.heads (records_of vtoc) n a.bytes)
linked vtoc sound zero a there namer few = absurd (omega (arith, few))
linked vtoc sound (suc n) a there namer few = by (λ p c f l. linked vtoc sound n p c f l) (next_format_3 vtoc.heads (records_of vtoc) a.bytes) refl few
  where
    behind : Placed → List Placed
    behind = λ placed. chain_of vtoc.heads (records_of vtoc) n placed.bytes

    by : ((p : Placed) → Contains (records_of vtoc) p → IsNamer p → length (chain_of vtoc.heads (records_of vtoc) n p.bytes) < n → IsLinked vtoc.heads (records_of vtoc) p.bytes (chain_of vtoc.heads (records_of vtoc) n p.bytes))
        → (o : Option Placed) → next_format_3 vtoc.heads (records_of vtoc) a.bytes ≡ o → length (extended o behind) < suc n → IsLinked vtoc.heads (records_of vtoc) a.bytes (extended o behind)
    by later None e l = ends vtoc sound a there namer e
    by later (Some p) e l =
        let m = next_in vtoc.heads (records_of vtoc) a.bytes p e in
        (named_by_next (named_record vtoc.heads (records_of vtoc) (pointer_in a.bytes)) p e, later p m.0 (or_right (is_f1 (format_of p.bytes)) (is_f3 (format_of p.bytes)) m.1) (omega (arith, l)))

-- ---- the chain of a data set

pub no_three_is_one : (a x : Placed) → a ≡ x → is_f1 (format_of a.bytes) ≡ true → is_f3 (format_of x.bytes) ≡ true → ⊥
no_three_is_one a x same one three =
    let p : F1 ≡ F3 = sym (f1_is (format_of a.bytes) one) ∙ ap (λ (y : Placed). format_of y.bytes) same ∙ f3_is (format_of x.bytes) three in
    let r : ⊥ = cc in
    r

pub set_linked : (vtoc : Vtoc) → AreShort vtoc.tracks → breaches_of vtoc ≡ [] → (a : Placed) → Contains (records_of vtoc) a → is_f1 (format_of a.bytes) ≡ true
    → IsLinked vtoc.heads (records_of vtoc) a.bytes (chain_at vtoc.heads (records_of vtoc) a)
set_linked vtoc short sound a there one = linked vtoc sound (length (records_of vtoc)) a there (ap (λ (t : Bool). t || is_f3 (format_of a.bytes)) one) (omega (arith, few))
  where
    records : List Placed
    records = records_of vtoc

    chain : List Placed
    chain = chain_at vtoc.heads records a

    start : Placed → Bool
    start = λ placed. is_f1 (format_of placed.bytes)

    distinct : AreDistinct chain
    distinct = distinct_each (chain_at vtoc.heads records) (filter start records) a (chains_apart vtoc short sound).once (in_filter start records a there one)

    member : (x : Placed) → Contains (a ∷ chain) x → Contains records x
    member x c = by (first_or_later a x chain c)
      where
        by : ((a ≡ x) ⊎ Contains chain x) → Contains records x
        by (inl same) = let P : Placed → Type 0 = λ y. Contains records y in subst P same there
        by (inr later) = (chain_in vtoc.heads records (length records) a.bytes x later).0

    few : length (a ∷ chain) ≤ length records
    few = no_more (a ∷ chain) records (λ c. no_three_is_one a a refl one (chain_in vtoc.heads records (length records) a.bytes a c).1, distinct) member
