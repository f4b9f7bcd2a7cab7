-- Which operand it is.
use Rattle.std.specs.Prelude.{◌≡◌, ℕ, Bool, true, false, ◌&&◌, ◌||◌, ◌==◌, List, [], ◌∷◌, All}
use Rattle.std.specs.List.{list_any}
use Rattle.sysin_words.specs.declared.keyword.Keyword.{Keyword}
use Rattle.sysin_words.specs.declared.keyword.Keyword.TheVariants as keywords
use Rattle.sysin_forms.specs.declared.operand.Operand.{Operand}
use Rattle.sysin_forms.specs.declared.operand.Operand.TheVariants as operands

-- the keyword that an operand is spelled with
abbrev pub name_of : Operand → Keyword
name_of operands.Vtoc = keywords.Vtoc
name_of operands.Full = keywords.Full
name_of (operands.Unit unit) = keywords.Input
name_of (operands.LogicalUnit unit) = keywords.LogicalInput
name_of (operands.Input input) = keywords.Input
name_of (operands.Target unit) = keywords.Output
name_of (operands.Outputs names) = keywords.Output
name_of (operands.Dataset filter) = keywords.Dataset
name_of (operands.Include patterns) = keywords.Include
name_of (operands.Exclude patterns) = keywords.Exclude
name_of (operands.By criteria) = keywords.By
name_of (operands.Index number) = keywords.Index
name_of (operands.Limit number) = keywords.Limit
name_of operands.Delete = keywords.Delete
name_of operands.Purge = keywords.Purge
name_of operands.Reset = keywords.Reset
name_of operands.Replace = keywords.Replace
name_of (operands.Rename rename) = keywords.Rename
name_of operands.Tolerate = keywords.Tolerate
name_of operands.Wait = keywords.Wait
name_of operands.Optimize = keywords.Optimize

-- keywords of one operand have one number
abbrev pub operand_number : Keyword → ℕ
operand_number keywords.Vtoc = 1
operand_number keywords.Full = 2
operand_number keywords.Input = 3
operand_number keywords.LogicalInput = 3
operand_number keywords.Output = 4
operand_number keywords.Dataset = 5
operand_number keywords.Include = 6
operand_number keywords.Exclude = 7
operand_number keywords.By = 8
operand_number keywords.Index = 9
operand_number keywords.Limit = 10
operand_number keywords.Delete = 11
operand_number keywords.Purge = 12
operand_number keywords.Reset = 13
operand_number keywords.Replace = 14
operand_number keywords.Rename = 15
operand_number keywords.Tolerate = 16
operand_number keywords.Wait = 17
operand_number keywords.Optimize = 18

-- a part of a filter
abbrev pub is_part : Keyword → Bool
is_part keywords.Include = true
is_part keywords.Exclude = true
is_part keywords.By = true
is_part _ = false

abbrev pub is_dataset : Keyword → Bool
is_dataset keywords.Dataset = true
is_dataset _ = false

-- these two don't stand in one command: they are one operand, or a filter and a part of one
abbrev pub clash : Keyword → Keyword → Bool
clash a b = (operand_number a == operand_number b) || (is_dataset a && is_part b) || (is_part a && is_dataset b)

-- each operand stands once
abbrev pub StandOnce : List Operand → Type 0
StandOnce [] = Unit {0}
StandOnce (operand ∷ more) = All (λ other. clash (name_of operand) (name_of other) ≡ false) more × StandOnce more

-- whether an operand stands
abbrev pub has : Keyword → List Operand → Bool
has keyword list = list_any (λ operand. operand_number (name_of operand) == operand_number keyword) list
