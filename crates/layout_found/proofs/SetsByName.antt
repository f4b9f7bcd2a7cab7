-- The data set with a name.
use Rattle.std.proofs.Common.{◌≡◌, ℕ, List, [], ◌∷◌, length, map, filter, take, find, Bool, true, false, cond, ◌&&◌, Option, Some, None, refl, sym, ap, ◌∙◌}
use Rattle.volume_model.specs.declared.place.Placed.{Placed}
use Rattle.volume_model.specs.declared.place.Vtoc.{Vtoc}
use Rattle.volume_model.specs.Directory.{chain_of}
use Rattle.volume_model.specs.Check.{records_of, same_bytes}
use Rattle.vtoc_layout.specs.Layout.{SetRecords, name_of, set_of}
use Rattle.layout_found.specs.Sets.{is_one, set_named}

-- a format 1 with this name
abbrev pub is_named : List ℕ → Placed → Bool
is_named name placed = is_one placed && same_bytes (take 44 placed.bytes) name

abbrev set_if : Vtoc → Option Placed → Option SetRecords
set_if vtoc None = None
set_if vtoc (Some one) = Some (set_of vtoc one)

by_record : (vtoc : Vtoc) (name : List ℕ) (placeds : List Placed) → find (λ set. same_bytes (name_of set) name) (map (set_of vtoc) (filter is_one placeds)) ≡ set_if vtoc (find (is_named name) placeds)
by_record vtoc name [] = refl
by_record vtoc name (placed ∷ more) = by (by_record vtoc name more) (is_one placed)
  where
    same : SetRecords → Bool
    same = λ set. same_bytes (name_of set) name

    sets : List SetRecords
    sets = map (set_of vtoc) (filter is_one more)

    either : find same sets ≡ set_if vtoc (find (is_named name) more) → (t : Bool) → cond t (Some (set_of vtoc placed)) (find same sets) ≡ set_if vtoc (cond t (Some placed) (find (is_named name) more))
    either later true = refl
    either later false = later

    by : find same sets ≡ set_if vtoc (find (is_named name) more) → (t : Bool)
        → find same (map (set_of vtoc) (cond t (placed ∷ filter is_one more) (filter is_one more))) ≡ set_if vtoc (cond (t && same_bytes (take 44 placed.bytes) name) (Some placed) (find (is_named name) more))
    by later true = either later (same_bytes (take 44 placed.bytes) name)
    by later false = later

pub set_none : (vtoc : Vtoc) (records : List Placed) (name : List ℕ) → records ≡ records_of vtoc → find (is_named name) records ≡ None → None ≡ set_named vtoc name
set_none vtoc records name is none = sym (by_record vtoc name (records_of vtoc) ∙ ap (λ (placeds : List Placed). set_if vtoc (find (is_named name) placeds)) (sym is) ∙ ap (set_if vtoc) none)

pub set_some : (vtoc : Vtoc) (heads : ℕ) (records : List Placed) (name : List ℕ) (one : Placed) (threes : List Placed) → heads ≡ vtoc.heads → records ≡ records_of vtoc → find (is_named name) records ≡ Some one
    → threes ≡ chain_of heads records (length records) one.bytes → Some (record { one = one; threes = threes }) ≡ set_named vtoc name
set_some vtoc heads records name one threes same is some chain =
    (λ i. Some (record { one = one; threes = (chain ∙ (λ j. chain_of (same j) (is j) (length (is j)) one.bytes)) i }))
    ∙ sym (by_record vtoc name (records_of vtoc) ∙ ap (λ (placeds : List Placed). set_if vtoc (find (is_named name) placeds)) (sym is) ∙ ap (set_if vtoc) some)
