-- What holds of values whatever reads them.
use Rattle.std.specs.Prelude.{◌≡◌, ℕ, List}
use Rattle.by_rules.specs.Reading.{start as criteria_start}
use Rattle.sysin_values.specs.declared.place.WaitPlace.TheVariants.{First}
use Rattle.sysin_values.specs.Values.{SaysDdName, SaysPattern, SaysNumber, IsPatterns, IsOutputs, IsCriteria, IsPairs, IsRename, most_entries, most_outputs}
use Rattle.sysin_values.specs.Exact.{IsExact, OneValue, EndsAtClose, TellsWhy}
use Rattle.sysin_values.specs.Progress.{start, Goes, Stops, Gives, Reads}
use Rattle.sysin_values.specs.Pairs.{pair_start, PairGoes, PairStops, PairsGive, PairReads}
use Rattle.sysin_values.specs.Names.{names_start, NamesGo, NamesStop, NamesGive, NamesRead}
use Rattle.sysin_values.specs.Wait.{SpellsWait, WaitGoes, WaitStops, WaitGives, WaitReads}
use Rattle.sysin_values.specs.Criteria.{CriteriaGo, CriteriaStop, CriteriaGive, CriteriaReads}

-- a word says one value at most
abbrev pub SaysOne : {X : Type 0} → (List ℕ → X → Type 0) → Type 0
SaysOne {X} Says = (word : List ℕ) (left right : X) → Says word left → Says word right → left ≡ right

abbrev pub NumberIsOne : Type 0
NumberIsOne = (least most : ℕ) → SaysOne (SaysNumber least most)

abbrev pub PatternsAreExact : Type 0
PatternsAreExact = IsExact IsPatterns start (Goes SaysPattern most_entries) (Stops SaysPattern most_entries) Gives (Reads SaysPattern most_entries)

abbrev pub PatternsTellWhy : Type 0
PatternsTellWhy = TellsWhy IsPatterns (Stops SaysPattern most_entries) (Reads SaysPattern most_entries)

abbrev pub OutputsAreExact : Type 0
OutputsAreExact = IsExact IsOutputs start (Goes SaysDdName most_outputs) (Stops SaysDdName most_outputs) Gives (Reads SaysDdName most_outputs)

abbrev pub OutputsTellWhy : Type 0
OutputsTellWhy = TellsWhy IsOutputs (Stops SaysDdName most_outputs) (Reads SaysDdName most_outputs)

abbrev pub PairsAreExact : Type 0
PairsAreExact = IsExact IsPairs pair_start PairGoes PairStops PairsGive PairReads

abbrev pub PairsTellWhy : Type 0
PairsTellWhy = TellsWhy IsPairs PairStops PairReads

abbrev pub NamesAreExact : Type 0
NamesAreExact = IsExact IsRename names_start NamesGo NamesStop NamesGive NamesRead

abbrev pub NamesTellWhy : Type 0
NamesTellWhy = TellsWhy IsRename NamesStop NamesRead

abbrev pub WaitIsExact : Type 0
WaitIsExact = IsExact SpellsWait First WaitGoes WaitStops WaitGives WaitReads

abbrev pub WaitTellsWhy : Type 0
WaitTellsWhy = TellsWhy SpellsWait WaitStops WaitReads

abbrev pub CriteriaAreExact : Type 0
CriteriaAreExact = IsExact IsCriteria criteria_start CriteriaGo CriteriaStop CriteriaGive CriteriaReads

-- the same tokens say the same patterns, outputs, pairs, names, criteria
abbrev pub EachIsOne : Type 0
EachIsOne = OneValue IsPatterns × OneValue IsOutputs × OneValue IsPairs × OneValue IsRename × OneValue IsCriteria

-- behind each of these a bracket is none of its tokens
abbrev pub EachEnds : Type 0
EachEnds = EndsAtClose IsPatterns × EndsAtClose IsOutputs × EndsAtClose IsPairs × EndsAtClose IsRename × EndsAtClose SpellsWait × EndsAtClose IsCriteria
