-- An index of a table: the first hold on each name, and who has which name.
use Rattle.std.specs.Prelude.{◌≡◌, ◌⊎◌, ℕ, ◌∷◌, [], Bool, is_some, List, Option, Some, None}
use Rattle.std.specs.declared.cmp.Ordering.{Ordering}
use Rattle.std.specs.Ordering.{nat_cmp, ordering_then}
use Rattle.std.specs.Cmp.Lexicographic.{slice_cmp}
use Rattle.std.specs.BTreeMap.{BTreeMap, get}
use Rattle.std.specs.BTreeSet.{BTreeSet, contains}
use Rattle.dsn_filter.specs.declared.dsn.Dsn.{Dsn}
use Rattle.enq_table.specs.declared.holder.Holder.{Holder}
use Rattle.enq_table.specs.declared.hold.Hold.{Hold}
use Rattle.enq_table.specs.declared.index.Index.{Index}
use Rattle.enq_table.specs.Table.{Has}

-- what a name is found by, and a holder
abbrev pub name_key : Dsn → ℕ × List ℕ
name_key name = (name.len, name.text)

abbrev pub holder_key : Holder → ℕ × List ℕ
holder_key holder = (holder.len, holder.text)

-- what a holder's hold of a name is found by
abbrev pub hold_key : Dsn → Holder → (ℕ × List ℕ) × (ℕ × List ℕ)
hold_key name holder = (holder_key holder, name_key name)

-- how names stand to one another: by their lengths, and then by their bytes
abbrev pub name_order : ℕ × List ℕ → ℕ × List ℕ → Ordering
name_order x y = ordering_then (nat_cmp x.0 y.0) (slice_cmp nat_cmp x.1 y.1)

-- and holders with names: by the holders, and then by the names
abbrev pub hold_order : (ℕ × List ℕ) × (ℕ × List ℕ) → (ℕ × List ℕ) × (ℕ × List ℕ) → Ordering
hold_order x y = ordering_then (name_order x.0 y.0) (name_order x.1 y.1)

-- a hold is on a name
abbrev pub IsOn : Dsn → Hold → Type 0
IsOn name held = held.name ≡ name

-- the first hold of which a fact holds, if there is one
abbrev pub IsFirst : (Hold → Type 0) → List Hold → Option Hold → Type 0
IsFirst Fact [] found = found ≡ None
IsFirst Fact (held ∷ rest) found = (Fact held × (found ≡ Some held)) ⊎ ((¬ Fact held) × IsFirst Fact rest found)

-- whether a holder has a name
abbrev pub IsHad : Dsn → Holder → List Hold → Bool → Type 0
IsHad name holder table test = (found : Option Hold) × IsFirst (Has name holder) table found × (test ≡ is_some found)

-- the first hold on each name is told
abbrev pub TellsFirsts : List Hold → BTreeMap (ℕ × List ℕ) Hold → Type 0
TellsFirsts table firsts = (name : Dsn) → IsFirst (IsOn name) table (get name_order firsts (name_key name))

-- of each holder is told whether it has a name
abbrev pub TellsHolders : List Hold → BTreeSet ((ℕ × List ℕ) × (ℕ × List ℕ)) → Type 0
TellsHolders table holders = (name : Dsn) (holder : Holder) → IsHad name holder table (contains hold_order holders (hold_key name holder))

-- an index tells both
pub record IsIndexed (table : List Hold) (index : Index) : Type 0 where
  pub firsts : TellsFirsts table index.firsts
  pub holders : TellsHolders table index.holders
