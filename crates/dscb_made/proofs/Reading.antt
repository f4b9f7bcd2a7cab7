-- The extents that are read from slots which were written.
use Rattle.std.proofs.Common.{◌≡◌, ◌≢◌, ◌⊎◌, ℕ, zero, suc, ◌+◌, ◌<◌, ◌≤◌, List, [], ◌∷◌, ◌++◌, length, map, filter, take, drop, get_or, Bool, true, false, cond, not, ◌==◌, All, Option, refl, sym, ap, ◌∙◌, arith, inl, inr, length-drop, take-suc}
use Rattle.std.proofs.lemmas.Bool.Decides.{nat_tests}
use Rattle.std.proofs.lemmas.List.{take_all, get_or-drop, map-append, append-nil}
use Rattle.std.proofs.lemmas.List.Elements.{filter-append}
use Rattle.std.proofs.lemmas.Option.{slice_get-get_or, slice_get_past}
use Rattle.dscb_rec.specs.declared.field.Extent.{Extent}
use Rattle.volume_model.specs.declared.extent.ExtentField.{ExtentField}
use Rattle.volume_model.specs.Dscbs.{numbers_below, extent_at}
use Rattle.vtoc_core.specs.Loaded.{field_of}
use Rattle.dscb_made.specs.Slots.{no_extent, numbered, slot_of, IsThere}
use Rattle.std.proofs.lemmas.Bool.{cases_lt}

abbrev pub kept : ExtentField → Bool
kept field = not (field.kind == 0)

-- the extents that are read from the first slots
abbrev pub read_below : List ℕ → (ℕ → ℕ) → ℕ → List ExtentField
read_below bytes offset n = filter kept (map (extent_at bytes) (map offset (numbers_below n)))

-- those of a data set from a place on, so many
abbrev pub told_below : List Extent → ℕ → ℕ → List ExtentField
told_below extents from n = map field_of (take n (drop from extents))

abbrev last : List ExtentField → ExtentField → List ExtentField
last fields field = fields ++ cond (kept field) (field ∷ []) []

one_read : (bytes : List ℕ) (offset : ℕ → ℕ) (n : ℕ) → read_below bytes offset (suc n) ≡ last (read_below bytes offset n) (extent_at bytes (offset n))
one_read bytes offset n =
    ap (λ (os : List ℕ). filter kept (map (extent_at bytes) os)) (map-append offset (numbers_below n) (n ∷ []))
    ∙ ap (filter kept) (map-append (extent_at bytes) (map offset (numbers_below n)) (offset n ∷ []))
    ∙ filter-append kept (map (extent_at bytes) (map offset (numbers_below n))) (extent_at bytes (offset n) ∷ [])

is_kept : (n : ℕ) → n ≢ 0 → not (n == 0) ≡ true
is_kept n e = ap not (differs n e)
  where
    differs : (n : ℕ) → n ≢ 0 → (n == 0) ≡ false
    differs n e = grind (arith, nat_tests)

-- an extent that is there
at_extent : (extents : List Extent) (place : ℕ) → place < length extents → field_of (slot_of extents place) ≡ field_of (get_or extents place no_extent)
at_extent extents place less = ap (λ (found : Option Extent). field_of (numbered place found)) (slice_get-get_or extents place no_extent less)

behind_all : (extents : List Extent) (place : ℕ) → length extents ≤ place → field_of (slot_of extents place) ≡ field_of no_extent
behind_all extents place past = ap (λ (found : Option Extent). field_of (numbered place found)) (slice_get_past extents place past)

one_told : (extents : List Extent) (from n : ℕ) → All IsThere extents → from + n < length extents
    → last (told_below extents from n) (field_of (slot_of extents (from + n))) ≡ told_below extents from (suc n)
one_told extents from n there less =
    let inside : n < length (drop from extents) = omega (arith, less, length-drop from extents) in
    let is : get_or (drop from extents) n no_extent ≡ get_or extents (from + n) no_extent = get_or-drop from extents n no_extent in
    let passes : kept (field_of (get_or extents (from + n) no_extent)) ≡ true = is_kept (get_or extents (from + n) no_extent).kind (there (from + n) no_extent less) in
    ap (last (told_below extents from n)) (at_extent extents (from + n) less)
    ∙ ap (λ (b : Bool). told_below extents from n ++ cond b (field_of (get_or extents (from + n) no_extent) ∷ []) []) passes
    ∙ ap (λ (extent : Extent). told_below extents from n ++ (field_of extent ∷ [])) (sym is)
    ∙ sym (map-append field_of (take n (drop from extents)) (get_or (drop from extents) n no_extent ∷ []))
    ∙ ap (map field_of) (sym (take-suc (drop from extents) n no_extent inside))

none_told : (extents : List Extent) (from n : ℕ) → length extents ≤ from + n
    → last (told_below extents from n) (field_of (slot_of extents (from + n))) ≡ told_below extents from (suc n)
none_told extents from n past =
    let few : length (drop from extents) ≤ n = omega (arith, past, length-drop from extents) in
    ap (last (told_below extents from n)) (behind_all extents (from + n) past)
    ∙ append-nil (told_below extents from n)
    ∙ ap (map field_of) (take_all n (drop from extents) few ∙ sym (take_all (suc n) (drop from extents) (omega (arith, few))))

one_more : (extents : List Extent) (from n : ℕ) → All IsThere extents → ((from + n < length extents) ⊎ (length extents ≤ from + n))
    → last (told_below extents from n) (field_of (slot_of extents (from + n))) ≡ told_below extents from (suc n)
one_more extents from n there (inl less) = one_told extents from n there less
one_more extents from n there (inr past) = none_told extents from n past

pub read_is_told : (bytes : List ℕ) (offset : ℕ → ℕ) (extents : List Extent) (from count : ℕ) → All IsThere extents
    → ((place : ℕ) → place < count → extent_at bytes (offset place) ≡ field_of (slot_of extents (from + place))) → (n : ℕ) → n ≤ count
    → read_below bytes offset n ≡ told_below extents from n
read_is_told bytes offset extents from count there reads zero few = refl
read_is_told bytes offset extents from count there reads (suc n) few =
    one_read bytes offset n
    ∙ (λ i. last (read_is_told bytes offset extents from count there reads n (omega (arith, few)) i) (reads n (omega (arith, few)) i))
    ∙ one_more extents from n there (cases_lt (from + n) (length extents))
