-- What is written says the extents and the entries that are wanted.
use Rattle.std.proofs.Common.{◌≡◌, ℕ, ◌≤◌, List, [], ◌∷◌, ◌++◌, length, map, filter, take, drop, Bool, true, false, cond, All, refl, sym, ap, ◌∙◌, arith, length-append}
use Rattle.std.specs.Prelude.{nat_lt}
use Rattle.std.specs.List.{flat_map}
use Rattle.std.proofs.lemmas.Bool.{ltb-false}
use Rattle.std.proofs.lemmas.List.{map-append, length-map, take-append-drop, drop_all, append-nil}
use Rattle.std.proofs.lemmas.List.Elements.{All-head}
use Rattle.volume_model.specs.declared.extent.ExtentField.{ExtentField}
use Rattle.volume_model.specs.declared.place.Placed.{Placed}
use Rattle.free_map.specs.declared.run.Run.{Run}
use Rattle.volume_model.specs.Changed.{needs_three}
use Rattle.volume_model.specs.Dscbs.{extents_of}
use Rattle.volume_model.specs.Space.{entries_of}
use Rattle.dscb_rec.specs.declared.field.Extent.{Extent}
use Rattle.dscb_rec.specs.declared.field.Entry5.{Entry5}
use Rattle.vtoc_core.specs.Edit.{run_of_entry}
use Rattle.vtoc_core.specs.Loaded.{field_of}
use Rattle.vtoc_layout.specs.Layout.{SetRecords, Layout, extents_in_set, entries_by}
use Rattle.layout_edit.specs.Change.{place_of}
use Rattle.dscb_made.specs.Made.{IsFormat3With}
use Rattle.vtoc_allot.specs.declared.held.Wanted.{Wanted}
use Rattle.vtoc_allot.specs.declared.places.Allotment.{Allotment}
use Rattle.vtoc_allot.specs.Allotted.{listed, one_if}
use Rattle.vtoc_plan.specs.Plan.{Putting, AreFivesWith, Wants, ArePut}

-- ---- entries

entries_in : (heads : ℕ) (parts : List (List Entry5)) (fives : List Placed) → AreFivesWith heads parts fives
    → flat_map (λ (five : Placed). entries_of heads five.bytes) fives ≡ flat_map (λ entries. filter (λ (run : Run). nat_lt 0 run.len) (map (run_of_entry heads) entries)) parts
entries_in heads [] [] made = refl
entries_in heads [] (five ∷ fives) made = absurd made
entries_in heads (entries ∷ parts) [] made = absurd made
entries_in heads (entries ∷ parts) (five ∷ fives) made = (λ i. made.0.entries_are heads i ++ entries_in heads parts fives made.1 i)

pub entries : (heads : ℕ) (parts : List (List Entry5)) (layout : Layout) → AreFivesWith heads parts layout.fives
    → entries_by heads layout ≡ flat_map (λ entries. filter (λ run. nat_lt 0 run.len) (map (run_of_entry heads) entries)) parts
entries heads parts layout made = entries_in heads parts layout.fives made

-- ---- extents

short_drop : (n : ℕ) (xs : List Extent) → nat_lt n (length xs) ≡ false → drop n xs ≡ []
short_drop n xs e = drop_all n xs (ltb-false n (length xs) e)

further : (extents : List Extent) (threes : List Placed) → All (λ (three : Placed). IsFormat3With extents three.bytes) threes → length threes ≡ (cond (needs_three (length extents)) 1 0)
    → flat_map (λ (placed : Placed). extents_of placed.bytes) threes ≡ map field_of (drop 3 extents)
further extents [] are long = sym (ap (map field_of) (short_drop 3 extents (by (needs_three (length extents)) (sym long))))
  where
    by : (t : Bool) → one_if t ≡ 0 → t ≡ false
    by true e = absurd (omega (arith, e))
    by false e = refl
further extents (three ∷ []) are long =
    ap (λ (xs : List ExtentField). xs ++ []) (All-head (λ (three : Placed). IsFormat3With extents three.bytes) three [] are).extents_are ∙ append-nil (map field_of (drop 3 extents))
further extents (three ∷ other ∷ more) are long = absurd (by (needs_three (length extents)) long)
  where
    by : (t : Bool) → length (three ∷ other ∷ more) ≡ cond t 1 0 → ⊥
    by true e = omega (arith, e)
    by false e = omega (arith, e)

pub extents : (heads : ℕ) (putting : List Putting) (parts : List (List Entry5)) (wanted : Wanted) (allotment : Allotment) (put : List SetRecords) → Wants putting parts wanted
    → (length (listed allotment.three) ≡ (cond wanted.three 1 0)) → All (λ p. length p.extents ≤ 16) putting → ArePut heads putting allotment put
    → flat_map extents_in_set put ≡ flat_map (λ p. map field_of p.extents) putting
extents heads [] parts wanted allotment [] wants long few made = refl
extents heads [] parts wanted allotment (set ∷ put) wants long few made = absurd made
extents heads (p ∷ []) parts wanted allotment [] wants long few made = absurd made
extents heads (p ∷ []) parts wanted allotment (set ∷ other ∷ put) wants long few made = absurd made
extents heads (p ∷ q ∷ putting) parts wanted allotment [] wants long few made = absurd made
extents heads (p ∷ q ∷ putting) parts wanted allotment (set ∷ put) wants long few made = absurd made
extents heads (p ∷ []) parts wanted allotment (set ∷ []) wants long few made =
    ap (λ (xs : List ExtentField). xs ++ [])
    ((λ i. made.one_is.extents_are i ++ further p.extents set.threes made.threes_are so_many i)
    ∙ sym (map-append field_of (take 3 p.extents) (drop 3 p.extents)) ∙ ap (map field_of) (take-append-drop 3 p.extents))
  where
    alone : length (p.extents ++ []) ≡ length p.extents
    alone = omega (arith, length-append p.extents [])

    so_many : length set.threes ≡ cond (needs_three (length p.extents)) 1 0
    so_many =
        sym (length-map set.threes place_of) ∙ sym (ap length made.threes_at) ∙ long ∙ ap (λ (t : Bool). cond t 1 0) (wants.three_is ∙ ap needs_three alone)
