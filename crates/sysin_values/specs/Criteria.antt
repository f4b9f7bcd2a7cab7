-- How criteria are read.
use Rattle.std.specs.Prelude.{◌≡◌, Bool, if◌then◌else◌, List, length, map, Some, None}
use Rattle.by_rules.specs.Grammar.{most_criteria}
use Rattle.by_rules.specs.Reading.{Machine, start, next, run, HasEnded}
use Rattle.by_rules.specs.declared.criterion.Criterion.{Criterion}
use Rattle.sysin_text.specs.declared.token.Token.{Token}
use Rattle.sysin_text.specs.declared.token.Token.TheVariants as tokens
use Rattle.sysin_values.specs.declared.fault.ValueFault.{ValueFault}
use Rattle.sysin_values.specs.declared.fault.ValueFault.TheVariants as faults
use Rattle.sysin_values.specs.Values.{rule_of}
use Rattle.sysin_values.specs.Pairs.{IsWordToken}

-- what is read with one more token, where it is right
abbrev pub CriteriaGo : Machine → Token → Machine → Type 0
CriteriaGo old token new = next old (rule_of token) ≡ Some new

-- why a token is wrong; any word among criteria counts as a value
abbrev pub CriteriaStop : Machine → Token → ValueFault → Type 0
CriteriaStop old token faults.Count = (next old (rule_of token) ≡ None) × (length old.criteria ≡ most_criteria) × (token ≡ tokens.Open)
CriteriaStop old token faults.Value = (next old (rule_of token) ≡ None) × IsWordToken token
CriteriaStop old token faults.Word = (next old (rule_of token) ≡ None) × (¬ IsWordToken token) × (token ≡ tokens.Open → ¬ (length old.criteria ≡ most_criteria))
CriteriaStop old token faults.NoMemory = Unit {0}

-- the tokens that lead to this
abbrev pub CriteriaReads : Machine → List Token → Type 0
CriteriaReads machine text = run start (map rule_of text) ≡ Some machine

-- why a token is wrong of which nothing more is known
abbrev pub criteria_fault : Bool → Token → ValueFault
criteria_fault full tokens.Open = if full then faults.Count else faults.Word
criteria_fault full (tokens.Word word) = faults.Value
criteria_fault full _ = faults.Word

-- the criteria, where they may end
abbrev pub CriteriaGive : Machine → List Criterion → Type 0
CriteriaGive machine criteria = HasEnded machine × (machine.criteria ≡ criteria)
