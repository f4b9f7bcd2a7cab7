-- What a format 5 says after its entries were written.
use Rattle.std.proofs.Common.{◌≡◌, ◌⊎◌, ℕ, zero, suc, ◌+◌, ◌*◌, ◌/◌, ◌%◌, ◌<◌, ◌≤◌, List, [], ◌∷◌, ◌++◌, length, take, get_or, map, filter, Bool, cond, refl, sym, ap, subst, ◌∙◌, arith, inl, inr}
use Rattle.std.specs.Prelude.{nat_lt, All}
use Rattle.std.proofs.lemmas.List.{map-append, append-nil, get_or_past, take_all}
use Rattle.std.proofs.Math.Seq.{take-suc}
use Rattle.std.proofs.lemmas.List.Elements.{filter-append}
use Rattle.dscb_rec.specs.declared.field.Entry5.{Entry5}
use Rattle.dscb_rec.specs.Field.{entry_offset, IsEntry5}
use Rattle.free_map.specs.declared.run.Run.{Run}
use Rattle.volume_model.specs.Dscbs.{number_at, numbers_below}
use Rattle.volume_model.specs.Space.{entry_at, entries_of}
use Rattle.vtoc_core.specs.Edit.{no_entry, run_of_entry, AreEntriesPut}
use Rattle.vtoc_core.proofs.Written.{two_bytes}
use Rattle.std.proofs.lemmas.Bool.{cases_lt}

-- ---- format 5

-- the entry at a place is the one that was put there
entry_put : (heads : ℕ) (entries : List Entry5) (old new : List ℕ) → AreEntriesPut entries old new → (place : ℕ) → place < 26 → IsEntry5 (get_or entries place no_entry)
    → entry_at heads new (entry_offset place) ≡ run_of_entry heads (get_or entries place no_entry)
entry_put heads entries old new h place less fits =
    (λ i. record { first = first i; len = cylinders i * heads + at_4 i })
  where
    e : Entry5
    e = get_or entries place no_entry

    o : ℕ
    o = entry_offset place

    at_0 : get_or new o 0 ≡ (e.first / 256) % 256
    at_0 = ap (λ (n : ℕ). get_or new n 0) (plus_zero o) ∙ h.each place 0 less (omega arith)
      where
        plus_zero : (n : ℕ) → n ≡ n + 0
        plus_zero n = omega arith

    first : number_at new o ≡ e.first
    first = (λ i. 256 * at_0 i + h.each place 1 less (omega arith) i) ∙ two_bytes e.first fits.first

    next : o + 2 + 1 ≡ o + 3
    next = omega arith

    at_3 : get_or new (o + 2 + 1) 0 ≡ e.cylinders % 256
    at_3 = ap (λ (n : ℕ). get_or new n 0) next ∙ h.each place 3 less (omega arith)

    cylinders : number_at new (o + 2) ≡ e.cylinders
    cylinders = (λ i. 256 * h.each place 2 less (omega arith) i + at_3 i) ∙ two_bytes e.cylinders fits.cylinders

    at_4 : get_or new (o + 4) 0 ≡ e.tracks
    at_4 = h.each place 4 less (omega arith)

-- the entries at the places below one
abbrev entries_below : ℕ → List ℕ → ℕ → List Run
entries_below heads bytes n = filter (λ run. nat_lt 0 run.len) (map (entry_at heads bytes) (map entry_offset (numbers_below n)))

one_below : (heads : ℕ) (bytes : List ℕ) (n : ℕ)
    → entries_below heads bytes (suc n) ≡ entries_below heads bytes n ++ cond (nat_lt 0 (entry_at heads bytes (entry_offset n)).len) (entry_at heads bytes (entry_offset n) ∷ []) []
one_below heads bytes n =
    let test : Run → Bool = λ run. nat_lt 0 run.len in
    ap (λ (os : List ℕ). filter test (map (entry_at heads bytes) os)) (map-append entry_offset (numbers_below n) (n ∷ []))
    ∙ ap (filter test) (map-append (entry_at heads bytes) (map entry_offset (numbers_below n)) (entry_offset n ∷ []))
    ∙ filter-append test (map (entry_at heads bytes) (map entry_offset (numbers_below n))) (entry_at heads bytes (entry_offset n) ∷ [])

-- the runs of some tracks among those of the first entries
abbrev told_below : ℕ → List Entry5 → ℕ → List Run
told_below heads entries n = filter (λ run. nat_lt 0 run.len) (map (run_of_entry heads) (take n entries))

one_told : (heads : ℕ) (entries : List Entry5) (n : ℕ) → n < length entries
    → told_below heads entries (suc n) ≡ told_below heads entries n ++ cond (nat_lt 0 (run_of_entry heads (get_or entries n no_entry)).len) (run_of_entry heads (get_or entries n no_entry) ∷ []) []
one_told heads entries n less =
    let test : Run → Bool = λ run. nat_lt 0 run.len in
    ap (λ (es : List Entry5). filter test (map (run_of_entry heads) es)) (take-suc entries n no_entry less)
    ∙ ap (filter test) (map-append (run_of_entry heads) (take n entries) (get_or entries n no_entry ∷ []))
    ∙ filter-append test (map (run_of_entry heads) (take n entries)) (run_of_entry heads (get_or entries n no_entry) ∷ [])

none_told : (heads : ℕ) (entries : List Entry5) (n : ℕ) → length entries ≤ n → told_below heads entries (suc n) ≡ told_below heads entries n
none_told heads entries n more =
    ap (λ (es : List Entry5). filter (λ run. nat_lt 0 run.len) (map (run_of_entry heads) es)) (take_all (suc n) entries (omega (arith, more)) ∙ sym (take_all n entries more))

abbrev last : List Run → Run → List Run
last runs run = runs ++ cond (nat_lt 0 run.len) (run ∷ []) []

below : (heads : ℕ) (entries : List Entry5) (old new : List ℕ) → AreEntriesPut entries old new → All IsEntry5 entries → (n : ℕ) → n ≤ 26
    → entries_below heads new n ≡ told_below heads entries n
below heads entries old new h fit zero less = refl
below heads entries old new h fit (suc n) less = one_below heads new n ∙ by (below heads entries old new h fit n (omega (arith, less))) (cases_lt n (length entries))
  where
    no_tracks : 0 * heads + 0 ≡ 0
    no_tracks = omega arith

    by : entries_below heads new n ≡ told_below heads entries n → ((n < length entries) ⊎ (length entries ≤ n)) → last (entries_below heads new n) (entry_at heads new (entry_offset n)) ≡ told_below heads entries (suc n)
    by so_far (inl here) =
        (λ i. last (so_far i) (entry_put heads entries old new h n (omega (arith, less)) (fit n no_entry here) i)) ∙ sym (one_told heads entries n here)
    by so_far (inr past) =
        let none : get_or entries n no_entry ≡ no_entry = get_or_past entries n no_entry past in
        let P : Entry5 → Type 0 = IsEntry5 in
        (λ i. last (so_far i) (entry_put heads entries old new h n (omega (arith, less)) (subst P (sym none) (record { first = omega arith; cylinders = omega arith; tracks = omega arith })) i))
        ∙ ap (λ (e : Entry5). last (told_below heads entries n) (run_of_entry heads e)) none
        ∙ ap (λ (len : ℕ). told_below heads entries n ++ cond (nat_lt 0 len) (run_of_entry heads no_entry ∷ []) []) no_tracks
        ∙ append-nil (told_below heads entries n)
        ∙ sym (none_told heads entries n past)

-- all entries are told
pub entries_told : (heads : ℕ) (entries : List Entry5) (old new : List ℕ) → AreEntriesPut entries old new → All IsEntry5 entries → length entries ≤ 26
    → entries_of heads new ≡ filter (λ run. nat_lt 0 run.len) (map (run_of_entry heads) entries)
entries_told heads entries old new h fit few =
    below heads entries old new h fit 26 (omega arith)
    ∙ ap (λ (es : List Entry5). filter (λ run. nat_lt 0 run.len) (map (run_of_entry heads) es)) (take_all 26 entries few)
