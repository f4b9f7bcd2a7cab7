-- What operands say, and the command that they make.
use Rattle.std.specs.Prelude.{◌≡◌, ◌⊎◌, Bool, true, false, ◌||◌, is_some, unwrap_or, List, [], ◌∷◌, Some, None}
use Rattle.dsn_filter.specs.declared.rename.Rename.TheVariants as renames
use Rattle.sysin_lang.specs.declared.command.Filter.{Filter}
use Rattle.sysin_lang.specs.declared.command.Command.{Command}
use Rattle.sysin_lang.specs.declared.command.Command.TheVariants as commands
use Rattle.sysin_forms.specs.declared.operand.Operand.{Operand}
use Rattle.sysin_forms.specs.declared.operand.Operand.TheVariants as operands
use Rattle.sysin_forms.specs.declared.parts.Parts.{Parts}

abbrev pub nothing : Parts
nothing = record {
  vtoc = false;
  full = false;
  unit = None;
  input = None;
  target = None;
  outs = None;
  filter = None;
  include = None;
  exclude = None;
  by = None;
  index = None;
  limit = None;
  rename = None;
  delete = false;
  purge = false;
  reset = false;
  replace = false;
  tolerate = false;
}

-- what is said with one operand more
abbrev pub with_operand : Operand → Parts → Parts
with_operand operands.Vtoc parts = record parts { vtoc = true }
with_operand operands.Full parts = record parts { full = true }
with_operand (operands.Unit unit) parts = record parts { unit = Some unit }
with_operand (operands.LogicalUnit unit) parts = record parts { unit = Some unit }
with_operand (operands.Input input) parts = record parts { input = Some input }
with_operand (operands.Target unit) parts = record parts { target = Some unit }
with_operand (operands.Outputs names) parts = record parts { outs = Some names }
with_operand (operands.Dataset filter) parts = record parts { filter = Some filter }
with_operand (operands.Include patterns) parts = record parts { include = Some patterns }
with_operand (operands.Exclude patterns) parts = record parts { exclude = Some patterns }
with_operand (operands.By criteria) parts = record parts { by = Some criteria }
with_operand (operands.Index number) parts = record parts { index = Some number }
with_operand (operands.Limit number) parts = record parts { limit = Some number }
with_operand operands.Delete parts = record parts { delete = true }
with_operand operands.Purge parts = record parts { purge = true }
with_operand operands.Reset parts = record parts { reset = true }
with_operand operands.Replace parts = record parts { replace = true }
with_operand (operands.Rename rename) parts = record parts { rename = Some rename }
with_operand operands.Tolerate parts = record parts { tolerate = true }
with_operand operands.Wait parts = parts
with_operand operands.Optimize parts = parts

-- what operands say
abbrev pub said : List Operand → Parts
said [] = nothing
said (operand ∷ more) = with_operand operand (said more)

-- the filter of the parts of one; a list that is missing is empty
abbrev pub filter_made : Parts → Filter
filter_made parts = record { include = unwrap_or parts.include []; exclude = unwrap_or parts.exclude []; by = parts.by }

-- a part of a filter stands
abbrev pub has_parts : Parts → Bool
has_parts parts = is_some parts.include || is_some parts.exclude || is_some parts.by

-- what a command takes from its operands; RELEASE may have the parts of its filter without DATASET
abbrev pub IsMade : Command → Parts → Type 0
IsMade (commands.PrintVtoc unit) parts = (parts.vtoc ≡ true) × (parts.unit ≡ Some unit)
IsMade (commands.Release filter unit) parts =
    ((parts.filter ≡ Some filter) ⊎ ((parts.filter ≡ None) × (has_parts parts ≡ true) × (filter ≡ filter_made parts))) × (parts.unit ≡ Some unit)
IsMade (commands.Consolidate filter unit) parts = (parts.filter ≡ Some filter) × (parts.unit ≡ Some unit)
IsMade (commands.Defrag unit index limit) parts = (parts.unit ≡ Some unit) × (index ≡ parts.index) × (limit ≡ parts.limit)
IsMade (commands.Copy filter unit to delete purge replace rename tolerate) parts =
    (parts.filter ≡ Some filter) × (parts.unit ≡ Some unit) × (parts.target ≡ Some to) × (delete ≡ parts.delete) × (purge ≡ parts.purge)
    × (replace ≡ parts.replace) × (rename ≡ unwrap_or parts.rename renames.Keep) × (tolerate ≡ parts.tolerate)
IsMade (commands.DumpDataset filter unit outs reset delete purge tolerate) parts =
    (parts.filter ≡ Some filter) × (parts.unit ≡ Some unit) × (parts.outs ≡ Some outs) × (reset ≡ parts.reset) × (delete ≡ parts.delete)
    × (purge ≡ parts.purge) × (tolerate ≡ parts.tolerate)
IsMade (commands.DumpFull unit outs) parts = (parts.full ≡ true) × (parts.unit ≡ Some unit) × (parts.outs ≡ Some outs)
IsMade (commands.RestoreDataset filter input to purge replace rename) parts =
    (parts.filter ≡ Some filter) × (parts.input ≡ Some input) × (parts.target ≡ Some to) × (purge ≡ parts.purge) × (replace ≡ parts.replace)
    × (rename ≡ unwrap_or parts.rename renames.Keep)
IsMade (commands.RestoreFull input to purge) parts =
    (parts.full ≡ true) × (parts.input ≡ Some input) × (parts.target ≡ Some to) × (purge ≡ parts.purge)

abbrev pub IsMadeOf : Command → List Operand → Type 0
IsMadeOf command list = IsMade command (said list)
