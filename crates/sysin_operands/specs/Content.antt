-- What is read in brackets so far.
use Rattle.std.specs.Prelude.{◌≡◌, ℕ, false, List, [], ◌∷◌}
use Rattle.dd_names.specs.declared.dd.DdName.{DdName}
use Rattle.by_rules.specs.Reading.{Machine, start as criteria_start, HasEnded}
use Rattle.sysin_text.specs.declared.token.Token.{Token}
use Rattle.sysin_text.specs.declared.token.Token.TheVariants as tokens
use Rattle.sysin_forms.specs.declared.operand.Operand.{Operand}
use Rattle.sysin_forms.specs.declared.operand.Operand.TheVariants as operands
use Rattle.sysin_values.specs.declared.fault.ValueFault.{ValueFault}
use Rattle.sysin_values.specs.declared.fault.ValueFault.TheVariants as faults
use Rattle.sysin_values.specs.declared.place.WaitPlace.{WaitPlace}
use Rattle.sysin_values.specs.declared.place.WaitPlace.TheVariants as waits
use Rattle.sysin_values.specs.Values.{SaysDdName, SaysPattern, most_entries, most_outputs}
use Rattle.sysin_values.specs.Progress.{Progress, start, Goes, Stops, Gives, Reads}
use Rattle.sysin_values.specs.Names.{NameProgress, names_start, NamesGo, NamesStop, NamesRead, HaveEnded, rename_of}
use Rattle.sysin_values.specs.Wait.{WaitGoes, WaitStops, WaitReads}
use Rattle.sysin_values.specs.Criteria.{CriteriaGo, CriteriaStop, CriteriaGive, CriteriaReads}
use Rattle.sysin_operands.specs.declared.bracket.Single.{Single}
use Rattle.sysin_operands.specs.declared.bracket.Bracket.{Bracket}
use Rattle.sysin_operands.specs.declared.bracket.Bracket.TheVariants as brackets
use Rattle.sysin_operands.specs.declared.content.Content.{Content}
use Rattle.sysin_operands.specs.declared.content.Content.TheVariants as contents
use Rattle.sysin_operands.specs.Bracket.{SaysSingle}

-- nothing is read
abbrev pub start_of : Bracket → Content
start_of (brackets.Single single) = contents.Single single
start_of brackets.Include = contents.Include start
start_of brackets.Exclude = contents.Exclude start
start_of brackets.By = contents.By criteria_start
start_of brackets.Outputs = contents.Outputs start
start_of brackets.Rename = contents.Rename names_start
start_of brackets.Wait = contents.Wait waits.First

-- what is read with one more token, where it is right
abbrev pub ContentGoes : Content → Token → Content → Type 0
ContentGoes (contents.Single single) token new = (word : List ℕ) × (operand : Operand) × (token ≡ tokens.Word word) × SaysSingle single word operand × (new ≡ contents.Said operand)
ContentGoes (contents.Said operand) token new = ⊥
ContentGoes (contents.Include old) token new = (more : Progress (List (List ℕ))) × Goes SaysPattern most_entries old token more × (new ≡ contents.Include more)
ContentGoes (contents.Exclude old) token new = (more : Progress (List (List ℕ))) × Goes SaysPattern most_entries old token more × (new ≡ contents.Exclude more)
ContentGoes (contents.By old) token new = (more : Machine) × CriteriaGo old token more × (new ≡ contents.By more)
ContentGoes (contents.Outputs old) token new = (more : Progress DdName) × Goes SaysDdName most_outputs old token more × (new ≡ contents.Outputs more)
ContentGoes (contents.Rename old) token new = (more : NameProgress) × NamesGo old token more × (new ≡ contents.Rename more)
ContentGoes (contents.Wait old) token new = (more : WaitPlace) × WaitGoes old token more × (new ≡ contents.Wait more)

-- why a token is wrong where one word stands: a word that says nothing, or no word
abbrev pub SingleStops : Single → Token → ValueFault → Type 0
SingleStops single token faults.Value = (word : List ℕ) × (token ≡ tokens.Word word) × ((operand : Operand) → ¬ SaysSingle single word operand)
SingleStops single token faults.Word = (word : List ℕ) → ¬ (token ≡ tokens.Word word)
SingleStops single token _ = ⊥

-- why a token is wrong
abbrev pub ContentStops : Content → Token → ValueFault → Type 0
ContentStops (contents.Single single) token fault = SingleStops single token fault
ContentStops (contents.Said operand) token fault = fault ≡ faults.Word
ContentStops (contents.Include old) token fault = Stops SaysPattern most_entries old token fault
ContentStops (contents.Exclude old) token fault = Stops SaysPattern most_entries old token fault
ContentStops (contents.By old) token fault = CriteriaStop old token fault
ContentStops (contents.Outputs old) token fault = Stops SaysDdName most_outputs old token fault
ContentStops (contents.Rename old) token fault = NamesStop old token fault
ContentStops (contents.Wait old) token fault = WaitStops old token fault

-- the bracket may be closed
abbrev pub CanEnd : Content → Type 0
CanEnd (contents.Single single) = ⊥
CanEnd (contents.Said operand) = Unit {0}
CanEnd (contents.Include old) = old.wants ≡ false
CanEnd (contents.Exclude old) = old.wants ≡ false
CanEnd (contents.By old) = HasEnded old
CanEnd (contents.Outputs old) = old.wants ≡ false
CanEnd (contents.Rename old) = HaveEnded old
CanEnd (contents.Wait old) = old ≡ waits.Ended

-- the operand, where it may be
abbrev pub ContentGives : Content → Operand → Type 0
ContentGives (contents.Single single) operand = ⊥
ContentGives (contents.Said said) operand = said ≡ operand
ContentGives (contents.Include old) operand = (patterns : List (List (List ℕ))) × Gives old patterns × (operand ≡ operands.Include patterns)
ContentGives (contents.Exclude old) operand = (patterns : List (List (List ℕ))) × Gives old patterns × (operand ≡ operands.Exclude patterns)
ContentGives (contents.By old) operand = CriteriaGive old old.criteria × (operand ≡ operands.By old.criteria)
ContentGives (contents.Outputs old) operand = (names : List DdName) × Gives old names × (operand ≡ operands.Outputs names)
ContentGives (contents.Rename old) operand = HaveEnded old × (operand ≡ operands.Rename (rename_of old))
ContentGives (contents.Wait old) operand = (old ≡ waits.Ended) × (operand ≡ operands.Wait)

-- the tokens that lead to this
abbrev pub ContentReads : Bracket → Content → List Token → Type 0
ContentReads (brackets.Single single) (contents.Single other) text = (other ≡ single) × (text ≡ [])
ContentReads (brackets.Single single) (contents.Said operand) text = (word : List ℕ) × (text ≡ tokens.Word word ∷ []) × SaysSingle single word operand
ContentReads brackets.Include (contents.Include old) text = Reads SaysPattern most_entries old text
ContentReads brackets.Exclude (contents.Exclude old) text = Reads SaysPattern most_entries old text
ContentReads brackets.By (contents.By old) text = CriteriaReads old text
ContentReads brackets.Outputs (contents.Outputs old) text = Reads SaysDdName most_outputs old text
ContentReads brackets.Rename (contents.Rename old) text = NamesRead old text
ContentReads brackets.Wait (contents.Wait old) text = WaitReads old text
ContentReads _ _ text = ⊥

-- some tokens lead to it
abbrev pub ContentIsRead : Content → Type 0
ContentIsRead content = (bracket : Bracket) × (text : List Token) × ContentReads bracket content text
