-- The data set of a name among those of a layout.
use Rattle.std.proofs.Common.{◌≡◌, ℕ, ◌≤◌, List, [], ◌∷◌, ◌++◌, length, map, Bool, true, false, cond, Option, Some, None, refl, ap, arith}
use Rattle.std.specs.Prelude.{find, option_to_list}
use Rattle.volume_model.specs.declared.place.Placed.{Placed}
use Rattle.volume_model.specs.declared.place.Vtoc.{Vtoc}
use Rattle.volume_model.specs.Check.{records_of, same_bytes}
use Rattle.vtoc_check.specs.Sized.{IsSized}
use Rattle.vtoc_layout.specs.Layout.{SetRecords, IsLayoutOf, AreDistinct, name_of, sets_of, layout_of}
use Rattle.layout_edit.specs.Change.{place_of}
use Rattle.vtoc_allot.specs.declared.held.Held.{Held}
use Rattle.vtoc_allot.specs.Allotted.{IsHeld}
use Rattle.vtoc_plan.proofs.Holding.{layouts_held}
use Rattle.vtoc_render.specs.Loads.{gone_of, HoldsNamed}

abbrev pub IsSplit : List SetRecords → List SetRecords → Type 0
IsSplit sets gone = (front : List SetRecords) × (back : List SetRecords) × (sets ≡ front ++ (gone ++ back))

split : (test : SetRecords → Bool) (sets : List SetRecords) → IsSplit sets (option_to_list (find test sets))
split test [] = ([], [], refl)
split test (set ∷ sets) = by (test set) (split test sets)
  where
    by : (b : Bool) → IsSplit sets (option_to_list (find test sets)) → IsSplit (set ∷ sets) (option_to_list (cond b (Some set) (find test sets)))
    by true rest = ([], sets, refl)
    by false rest = (set ∷ rest.0, rest.1, ap (λ (more : List SetRecords). set ∷ more) rest.2)

-- the sets of a layout, split at the one that goes
pub named_split : (vtoc : Vtoc) (name : Option (List ℕ)) → IsSplit (sets_of vtoc) (gone_of vtoc name)
named_split vtoc None = ([], sets_of vtoc, refl)
named_split vtoc (Some name) = split (λ set. same_bytes (name_of set) name) (sets_of vtoc)

few_in : (one : Option SetRecords) → length (option_to_list one) ≤ 1
few_in None = omega arith
few_in (Some set) = omega arith

pub one_gone : (vtoc : Vtoc) (name : Option (List ℕ)) → length (gone_of vtoc name) ≤ 1
one_gone vtoc None = omega arith
one_gone vtoc (Some name) = few_in (find (λ set. same_bytes (name_of set) name) (sets_of vtoc))

pub named_held : (vtoc : Vtoc) (four : Placed) (name : Option (List ℕ)) (held : Held) → IsSized vtoc → IsLayoutOf vtoc (layout_of vtoc four) → HoldsNamed name held vtoc four
    → IsHeld (records_of vtoc) held × AreDistinct (map place_of (records_of vtoc))
named_held vtoc four name held sized is holds =
    let parts = named_split vtoc name in
    layouts_held vtoc (layout_of vtoc four) parts.0 (gone_of vtoc name) parts.1 held sized is parts.2 (one_gone vtoc name) holds
