-- The chain of format 5s as one reads it: where it begins, which names which, and where it ends.
use Rattle.std.specs.Prelude.{◌≡◌, ◌⊎◌, Bool, true, false, List, [], ◌∷◌, ◌++◌, length, Option, Some, None}
use Rattle.volume_model.specs.declared.place.Placed.{Placed}
use Rattle.volume_model.specs.declared.place.Vtoc.{Vtoc}
use Rattle.volume_model.specs.Dscbs.{format_of, is_f5}
use Rattle.volume_model.specs.Check.{FiveChain, points, named_by, fives_of, is_among, first_of, first_five, chain_from}

-- a record's pointer leads to a format 5, which is the next one
abbrev pub Names : (Placed → Option Placed) → Placed → Placed → Type 0
Names named five next = (named five ≡ Some next) × (is_f5 (format_of next.bytes) ≡ true)

-- a pointer leads nowhere: to no record, to one that is no format 5, or back into the chain
abbrev pub LeadsNowhere : (Placed → Bool) → (Placed → Option Placed) → List Placed → Placed → Type 0
LeadsNowhere points named chain five =
    ((points five ≡ true) × (named five ≡ None))
    ⊎ ((next : Placed) × (named five ≡ Some next) × ((is_f5 (format_of next.bytes) ≡ false) ⊎ (is_among chain next ≡ true)))

-- The last of a chain has no pointer, and nothing is wrong; or its pointer leads nowhere, and it is wrong.
abbrev pub EndsAt : (Placed → Bool) → (Placed → Option Placed) → List Placed → Placed → List Placed → Type 0
EndsAt points named chain last wrong =
    ((points last ≡ false) × (named last ≡ None) × (wrong ≡ [])) ⊎ (LeadsNowhere points named chain last × (wrong ≡ last ∷ []))

-- The chain of these format 5s: it begins at the lowest that none names, or the lowest of all; each names the next; no two stand at one
-- place; and so it ends. Where there is no format 5 there is no chain, and nothing is wrong.
pub record IsFiveChain (points : Placed → Bool) (named : Placed → Option Placed) (fives chain wrong : List Placed) : Type 0 where
  pub begins : first_of chain ≡ first_five named fives
  pub links : (front back : List Placed) (five next : Placed) → chain ≡ front ++ (five ∷ next ∷ back) → Names named five next
  pub apart : (front back : List Placed) (five : Placed) → chain ≡ front ++ (five ∷ back) → is_among front five ≡ false
  pub ends : (front : List Placed) (last : Placed) → chain ≡ front ++ (last ∷ []) → EndsAt points named chain last wrong
  pub none : chain ≡ [] → wrong ≡ []

-- the walk of the check, which goes no further than there are format 5s
abbrev pub walk_of : Vtoc → FiveChain
walk_of vtoc = chain_from points (named_by vtoc) (length (fives_of vtoc)) (first_five (named_by vtoc) (fives_of vtoc))

-- The walk of any VTOC is its chain.
abbrev pub WalkIsChain : Type 0
WalkIsChain = (vtoc : Vtoc) → IsFiveChain points (named_by vtoc) (fives_of vtoc) (walk_of vtoc).0 (walk_of vtoc).1

-- A VTOC has no other.
abbrev pub OneFiveChain : Type 0
OneFiveChain =
    (vtoc : Vtoc) (chain wrong : List Placed) → IsFiveChain points (named_by vtoc) (fives_of vtoc) chain wrong
    → (chain ≡ (walk_of vtoc).0) × (wrong ≡ (walk_of vtoc).1)
