-- What stands in brackets is read exactly.
use Rattle.std.proofs.Common.{◌≡◌, ◌≢◌, ℕ, List, refl, sym, ap}
use Rattle.dd_names.specs.declared.dd.DdName.{DdName}
use Rattle.dsn_filter.specs.declared.rename.Rename.{Rename}
use Rattle.by_rules.specs.declared.criterion.Criterion.{Criterion}
use Rattle.by_rules.specs.Reading.{Machine, start as criteria_start}
use Rattle.sysin_text.specs.declared.token.Token.{Token}
use Rattle.sysin_forms.specs.declared.operand.Operand.{Operand}
use Rattle.sysin_forms.specs.declared.operand.Operand.TheVariants as operands
use Rattle.sysin_values.specs.declared.place.WaitPlace.{WaitPlace}
use Rattle.sysin_values.specs.declared.place.WaitPlace.TheVariants as waits
use Rattle.sysin_values.specs.Values.{SaysDdName, SaysPattern, IsPatterns, IsOutputs, IsCriteria, IsRename, most_entries, most_outputs}
use Rattle.sysin_values.specs.Exact.{IsExact, OneValue, EndsAtClose, TellsWhy}
use Rattle.sysin_values.specs.Progress.{Progress, start, Goes, Stops, Gives, Reads}
use Rattle.sysin_values.specs.Names.{NameProgress, names_start, NamesGo, NamesStop, NamesGive, NamesRead}
use Rattle.sysin_values.specs.Wait.{SpellsWait, WaitGoes, WaitStops, WaitGives, WaitReads}
use Rattle.sysin_values.specs.Criteria.{CriteriaGo, CriteriaStop, CriteriaGive, CriteriaReads}
use Rattle.sysin_values.proofs.Said.{patterns_said, outputs_said}
use Rattle.sysin_values.proofs.WordLists as lists
use Rattle.sysin_values.proofs.Naming as naming
use Rattle.sysin_values.proofs.Waits as waiting
use Rattle.sysin_values.proofs.CriteriaLists as criteria
use Rattle.sysin_values.proofs.OneValues.{one_patterns, one_outputs, one_rename, one_criteria}
use Rattle.sysin_values.proofs.Ends.{patterns_end, outputs_end, rename_ends, wait_ends, criteria_end}
use Rattle.sysin_operands.specs.declared.bracket.Bracket.{Bracket}
use Rattle.sysin_operands.specs.declared.bracket.Bracket.TheVariants as brackets
use Rattle.sysin_operands.specs.declared.content.Content.{Content}
use Rattle.sysin_operands.specs.declared.content.Content.TheVariants as contents
use Rattle.sysin_operands.specs.Bracket.{IsContent}
use Rattle.sysin_operands.specs.Content.{start_of, ContentGoes, ContentStops, ContentGives, ContentReads}
use Rattle.sysin_operands.proofs.Wrapping.{IsMadeOf, IsReadAs, exact_out, tells_out, one_out, ends_out}
use Rattle.sysin_operands.proofs.Singles as singles

-- ---- lists of patterns

abbrev pub Patterns : Type 0
Patterns = List (List (List ℕ))

abbrev pub include_made : IsMadeOf IsPatterns (IsContent brackets.Include)
include_made = record { wrap = operands.Include; inner = λ limited y text s. s; outer = λ limited x text s. (x, s, refl) }

read_include : (n : Content) (text : List Token) → ContentReads brackets.Include n text
    → (m : Progress (List (List ℕ))) × (n ≡ contents.Include m) × Reads SaysPattern most_entries m text
read_include (contents.Single other) text r = absurd r
read_include (contents.Said operand) text r = absurd r
read_include (contents.Include old) text r = (old, refl, r)
read_include (contents.Exclude old) text r = absurd r
read_include (contents.By old) text r = absurd r
read_include (contents.Outputs old) text r = absurd r
read_include (contents.Rename old) text r = absurd r
read_include (contents.Wait old) text r = absurd r

pub include_read : IsReadAs include_made contents.Include (Goes SaysPattern most_entries) (Stops SaysPattern most_entries) Gives (Reads SaysPattern most_entries) ContentGoes ContentStops ContentGives
    (ContentReads brackets.Include)
include_read = record {
  read_in = read_include;
  read_out = λ m text r. r;
  goes = λ m token n g. g;
  stops = λ m token fault s. s;
  gives_in = λ m y g. g;
  gives_out = λ m x g. (x, g, refl);
}

abbrev pub exclude_made : IsMadeOf IsPatterns (IsContent brackets.Exclude)
exclude_made = record { wrap = operands.Exclude; inner = λ limited y text s. s; outer = λ limited x text s. (x, s, refl) }

read_exclude : (n : Content) (text : List Token) → ContentReads brackets.Exclude n text
    → (m : Progress (List (List ℕ))) × (n ≡ contents.Exclude m) × Reads SaysPattern most_entries m text
read_exclude (contents.Single other) text r = absurd r
read_exclude (contents.Said operand) text r = absurd r
read_exclude (contents.Include old) text r = absurd r
read_exclude (contents.Exclude old) text r = (old, refl, r)
read_exclude (contents.By old) text r = absurd r
read_exclude (contents.Outputs old) text r = absurd r
read_exclude (contents.Rename old) text r = absurd r
read_exclude (contents.Wait old) text r = absurd r

pub exclude_read : IsReadAs exclude_made contents.Exclude (Goes SaysPattern most_entries) (Stops SaysPattern most_entries) Gives (Reads SaysPattern most_entries) ContentGoes ContentStops ContentGives
    (ContentReads brackets.Exclude)
exclude_read = record {
  read_in = read_exclude;
  read_out = λ m text r. r;
  goes = λ m token n g. g;
  stops = λ m token fault s. s;
  gives_in = λ m y g. g;
  gives_out = λ m x g. (x, g, refl);
}

-- ---- criteria

abbrev pub by_made : IsMadeOf IsCriteria (IsContent brackets.By)
by_made = record { wrap = operands.By; inner = λ limited y text s. s; outer = λ limited x text s. (x, s, refl) }

read_by : (n : Content) (text : List Token) → ContentReads brackets.By n text → (m : Machine) × (n ≡ contents.By m) × CriteriaReads m text
read_by (contents.Single other) text r = absurd r
read_by (contents.Said operand) text r = absurd r
read_by (contents.Include old) text r = absurd r
read_by (contents.Exclude old) text r = absurd r
read_by (contents.By old) text r = (old, refl, r)
read_by (contents.Outputs old) text r = absurd r
read_by (contents.Rename old) text r = absurd r
read_by (contents.Wait old) text r = absurd r

by_given : (m : Machine) (x : List Criterion) → CriteriaGive m x → ContentGives (contents.By m) (operands.By x)
by_given m x (ended, same) = ((ended, refl), ap operands.By (sym same))

pub by_read : IsReadAs by_made contents.By CriteriaGo CriteriaStop CriteriaGive CriteriaReads ContentGoes ContentStops ContentGives (ContentReads brackets.By)
by_read = record {
  read_in = read_by;
  read_out = λ m text r. r;
  goes = λ m token n g. g;
  stops = λ m token fault s. s;
  gives_in = λ m y g. (m.criteria, g.0, g.1);
  gives_out = by_given;
}

-- ---- outputs

abbrev pub outputs_made : IsMadeOf IsOutputs (IsContent brackets.Outputs)
outputs_made = record { wrap = operands.Outputs; inner = λ limited y text s. s; outer = λ limited x text s. (x, s, refl) }

read_outputs : (n : Content) (text : List Token) → ContentReads brackets.Outputs n text → (m : Progress DdName) × (n ≡ contents.Outputs m) × Reads SaysDdName most_outputs m text
read_outputs (contents.Single other) text r = absurd r
read_outputs (contents.Said operand) text r = absurd r
read_outputs (contents.Include old) text r = absurd r
read_outputs (contents.Exclude old) text r = absurd r
read_outputs (contents.By old) text r = absurd r
read_outputs (contents.Outputs old) text r = (old, refl, r)
read_outputs (contents.Rename old) text r = absurd r
read_outputs (contents.Wait old) text r = absurd r

pub outputs_read : IsReadAs outputs_made contents.Outputs (Goes SaysDdName most_outputs) (Stops SaysDdName most_outputs) Gives (Reads SaysDdName most_outputs) ContentGoes ContentStops ContentGives
    (ContentReads brackets.Outputs)
outputs_read = record {
  read_in = read_outputs;
  read_out = λ m text r. r;
  goes = λ m token n g. g;
  stops = λ m token fault s. s;
  gives_in = λ m y g. g;
  gives_out = λ m x g. (x, g, refl);
}

-- ---- new names

abbrev pub rename_made : IsMadeOf IsRename (IsContent brackets.Rename)
rename_made = record { wrap = operands.Rename; inner = λ limited y text s. s; outer = λ limited x text s. (x, s, refl) }

read_rename : (n : Content) (text : List Token) → ContentReads brackets.Rename n text → (m : NameProgress) × (n ≡ contents.Rename m) × NamesRead m text
read_rename (contents.Single other) text r = absurd r
read_rename (contents.Said operand) text r = absurd r
read_rename (contents.Include old) text r = absurd r
read_rename (contents.Exclude old) text r = absurd r
read_rename (contents.By old) text r = absurd r
read_rename (contents.Outputs old) text r = absurd r
read_rename (contents.Rename old) text r = (old, refl, r)
read_rename (contents.Wait old) text r = absurd r

rename_given_in : (m : NameProgress) (y : Operand) → ContentGives (contents.Rename m) y → (x : Rename) × NamesGive m x × (y ≡ operands.Rename x)
rename_given_in m y (ended, same) = (_, (ended, refl), same)

rename_given_out : (m : NameProgress) (x : Rename) → NamesGive m x → ContentGives (contents.Rename m) (operands.Rename x)
rename_given_out m x (ended, same) = (ended, ap operands.Rename (sym same))

pub rename_read : IsReadAs rename_made contents.Rename NamesGo NamesStop NamesGive NamesRead ContentGoes ContentStops ContentGives (ContentReads brackets.Rename)
rename_read = record {
  read_in = read_rename;
  read_out = λ m text r. r;
  goes = λ m token n g. g;
  stops = λ m token fault s. s;
  gives_in = rename_given_in;
  gives_out = rename_given_out;
}

-- ---- the numbers of WAIT

abbrev pub wait_made : IsMadeOf SpellsWait (IsContent brackets.Wait)
wait_made = record { wrap = λ x. operands.Wait; inner = λ limited y text s. (tt, s.0, s.1); outer = λ limited x text s. (s, refl) }

read_wait : (n : Content) (text : List Token) → ContentReads brackets.Wait n text → (m : WaitPlace) × (n ≡ contents.Wait m) × WaitReads m text
read_wait (contents.Single other) text r = absurd r
read_wait (contents.Said operand) text r = absurd r
read_wait (contents.Include old) text r = absurd r
read_wait (contents.Exclude old) text r = absurd r
read_wait (contents.By old) text r = absurd r
read_wait (contents.Outputs old) text r = absurd r
read_wait (contents.Rename old) text r = absurd r
read_wait (contents.Wait old) text r = (old, refl, r)

pub wait_read : IsReadAs wait_made contents.Wait WaitGoes WaitStops WaitGives WaitReads ContentGoes ContentStops ContentGives (ContentReads brackets.Wait)
wait_read = record {
  read_in = read_wait;
  read_out = λ m text r. r;
  goes = λ m token n g. g;
  stops = λ m token fault s. s;
  gives_in = λ m y g. (tt, g.0, g.1);
  gives_out = λ m x g. (g, refl);
}

-- ---- each of them

pub exact : (bracket : Bracket) → IsExact (IsContent bracket) (start_of bracket) ContentGoes ContentStops ContentGives (ContentReads bracket)
exact (brackets.Single single) = singles.exact single
exact brackets.Include =
    exact_out IsPatterns (IsContent brackets.Include) include_made contents.Include start (Goes SaysPattern most_entries) (Stops SaysPattern most_entries) Gives (Reads SaysPattern most_entries)
    ContentGoes ContentStops ContentGives (ContentReads brackets.Include) include_read (lists.exact SaysPattern most_entries patterns_said)
exact brackets.Exclude =
    exact_out IsPatterns (IsContent brackets.Exclude) exclude_made contents.Exclude start (Goes SaysPattern most_entries) (Stops SaysPattern most_entries) Gives (Reads SaysPattern most_entries)
    ContentGoes ContentStops ContentGives (ContentReads brackets.Exclude) exclude_read (lists.exact SaysPattern most_entries patterns_said)
exact brackets.By =
    exact_out IsCriteria (IsContent brackets.By) by_made contents.By criteria_start CriteriaGo CriteriaStop CriteriaGive CriteriaReads
    ContentGoes ContentStops ContentGives (ContentReads brackets.By) by_read criteria.exact
exact brackets.Outputs =
    exact_out IsOutputs (IsContent brackets.Outputs) outputs_made contents.Outputs start (Goes SaysDdName most_outputs) (Stops SaysDdName most_outputs) Gives (Reads SaysDdName most_outputs)
    ContentGoes ContentStops ContentGives (ContentReads brackets.Outputs) outputs_read (lists.exact SaysDdName most_outputs outputs_said)
exact brackets.Rename =
    exact_out IsRename (IsContent brackets.Rename) rename_made contents.Rename names_start NamesGo NamesStop NamesGive NamesRead
    ContentGoes ContentStops ContentGives (ContentReads brackets.Rename) rename_read naming.exact
exact brackets.Wait =
    exact_out SpellsWait (IsContent brackets.Wait) wait_made contents.Wait waits.First WaitGoes WaitStops WaitGives WaitReads
    ContentGoes ContentStops ContentGives (ContentReads brackets.Wait) wait_read waiting.exact

pub tells_why : (bracket : Bracket) → bracket ≢ brackets.By → TellsWhy (IsContent bracket) ContentStops (ContentReads bracket)
tells_why (brackets.Single single) other = singles.tells_why single
tells_why brackets.Include other =
    tells_out IsPatterns (IsContent brackets.Include) include_made contents.Include (Goes SaysPattern most_entries) (Stops SaysPattern most_entries) Gives (Reads SaysPattern most_entries)
    ContentGoes ContentStops ContentGives (ContentReads brackets.Include) include_read (lists.tells_why SaysPattern most_entries patterns_said)
tells_why brackets.Exclude other =
    tells_out IsPatterns (IsContent brackets.Exclude) exclude_made contents.Exclude (Goes SaysPattern most_entries) (Stops SaysPattern most_entries) Gives (Reads SaysPattern most_entries)
    ContentGoes ContentStops ContentGives (ContentReads brackets.Exclude) exclude_read (lists.tells_why SaysPattern most_entries patterns_said)
tells_why brackets.By other = absurd (other refl)
tells_why brackets.Outputs other =
    tells_out IsOutputs (IsContent brackets.Outputs) outputs_made contents.Outputs (Goes SaysDdName most_outputs) (Stops SaysDdName most_outputs) Gives (Reads SaysDdName most_outputs)
    ContentGoes ContentStops ContentGives (ContentReads brackets.Outputs) outputs_read (lists.tells_why SaysDdName most_outputs outputs_said)
tells_why brackets.Rename other =
    tells_out IsRename (IsContent brackets.Rename) rename_made contents.Rename NamesGo NamesStop NamesGive NamesRead
    ContentGoes ContentStops ContentGives (ContentReads brackets.Rename) rename_read naming.tells_why
tells_why brackets.Wait other =
    tells_out SpellsWait (IsContent brackets.Wait) wait_made contents.Wait WaitGoes WaitStops WaitGives WaitReads
    ContentGoes ContentStops ContentGives (ContentReads brackets.Wait) wait_read waiting.tells_why

one_wait : OneValue SpellsWait
one_wait left right text a b = refl

pub one : (bracket : Bracket) → OneValue (IsContent bracket)
one (brackets.Single single) = singles.one single
one brackets.Include = one_out IsPatterns (IsContent brackets.Include) include_made one_patterns
one brackets.Exclude = one_out IsPatterns (IsContent brackets.Exclude) exclude_made one_patterns
one brackets.By = one_out IsCriteria (IsContent brackets.By) by_made one_criteria
one brackets.Outputs = one_out IsOutputs (IsContent brackets.Outputs) outputs_made one_outputs
one brackets.Rename = one_out IsRename (IsContent brackets.Rename) rename_made one_rename
one brackets.Wait = one_out SpellsWait (IsContent brackets.Wait) wait_made one_wait

pub ends : (bracket : Bracket) → EndsAtClose (IsContent bracket)
ends (brackets.Single single) = singles.ends single
ends brackets.Include = ends_out IsPatterns (IsContent brackets.Include) include_made patterns_end
ends brackets.Exclude = ends_out IsPatterns (IsContent brackets.Exclude) exclude_made patterns_end
ends brackets.By = ends_out IsCriteria (IsContent brackets.By) by_made criteria_end
ends brackets.Outputs = ends_out IsOutputs (IsContent brackets.Outputs) outputs_made outputs_end
ends brackets.Rename = ends_out IsRename (IsContent brackets.Rename) rename_made rename_ends
ends brackets.Wait = ends_out SpellsWait (IsContent brackets.Wait) wait_made wait_ends
