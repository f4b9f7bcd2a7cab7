-- The forms of commands, and the keywords of their operands.
use Rattle.std.specs.Prelude.{ℕ, Bool, ◌==◌, List, [], ◌∷◌}
use Rattle.std.specs.List.{list_any}
use Rattle.sysin_words.specs.declared.keyword.Keyword.{Keyword}
use Rattle.sysin_words.specs.declared.keyword.Keyword.TheVariants.{Vtoc, Full, Input, LogicalInput, Output, Dataset, Include, Exclude, By, Index, Limit, Delete, Purge, Reset, Replace, Rename, Tolerate, Wait, Optimize}
use Rattle.sysin_words.specs.declared.lead.Verb.{Verb}
use Rattle.sysin_words.specs.declared.lead.Verb.TheVariants as verbs
use Rattle.sysin_lang.specs.declared.command.Command.{Command}
use Rattle.sysin_lang.specs.declared.command.Command.TheVariants as commands
use Rattle.sysin_forms.specs.declared.form.Form.{Form}
use Rattle.sysin_forms.specs.declared.form.Form.TheVariants as forms
use Rattle.sysin_forms.specs.Operand.{operand_number}

-- the form of a command, which has a verb and keywords
abbrev pub form_of : Command → Form
form_of (commands.PrintVtoc unit) = forms.Print
form_of (commands.Release filter unit) = forms.Release
form_of (commands.Consolidate filter unit) = forms.Consolidate
form_of (commands.Defrag unit index limit) = forms.Defrag
form_of (commands.Copy filter unit to delete purge replace rename tolerate) = forms.Copy
form_of (commands.DumpDataset filter unit outs reset delete purge tolerate) = forms.DumpDataset
form_of (commands.DumpFull unit outs) = forms.DumpFull
form_of (commands.RestoreDataset filter input to purge replace rename) = forms.RestoreDataset
form_of (commands.RestoreFull input to purge) = forms.RestoreFull

abbrev pub verb_of_form : Form → Verb
verb_of_form forms.Print = verbs.Print
verb_of_form forms.Release = verbs.Release
verb_of_form forms.Consolidate = verbs.Consolidate
verb_of_form forms.Defrag = verbs.Defrag
verb_of_form forms.Copy = verbs.Copy
verb_of_form forms.DumpDataset = verbs.Dump
verb_of_form forms.DumpFull = verbs.Dump
verb_of_form forms.RestoreDataset = verbs.Restore
verb_of_form forms.RestoreFull = verbs.Restore

abbrev pub forms_of : Verb → List Form
forms_of verbs.Print = forms.Print ∷ []
forms_of verbs.Release = forms.Release ∷ []
forms_of verbs.Consolidate = forms.Consolidate ∷ []
forms_of verbs.Defrag = forms.Defrag ∷ []
forms_of verbs.Copy = forms.Copy ∷ []
forms_of verbs.Dump = forms.DumpDataset ∷ forms.DumpFull ∷ []
forms_of verbs.Restore = forms.RestoreDataset ∷ forms.RestoreFull ∷ []

abbrev pub keywords_of : Form → List Keyword
keywords_of forms.Print = Vtoc ∷ Input ∷ Wait ∷ []
keywords_of forms.Release = Dataset ∷ Include ∷ Exclude ∷ By ∷ Input ∷ Wait ∷ []
keywords_of forms.Consolidate = Dataset ∷ Input ∷ Wait ∷ []
keywords_of forms.Defrag = Input ∷ Index ∷ Limit ∷ Wait ∷ []
keywords_of forms.Copy = Dataset ∷ Input ∷ LogicalInput ∷ Output ∷ Delete ∷ Purge ∷ Replace ∷ Rename ∷ Tolerate ∷ Wait ∷ []
keywords_of forms.DumpDataset = Dataset ∷ Input ∷ LogicalInput ∷ Output ∷ Reset ∷ Delete ∷ Purge ∷ Tolerate ∷ Wait ∷ Optimize ∷ []
keywords_of forms.DumpFull = Full ∷ Input ∷ Output ∷ Wait ∷ Optimize ∷ []
keywords_of forms.RestoreDataset = Dataset ∷ Input ∷ Output ∷ Purge ∷ Replace ∷ Rename ∷ Wait ∷ []
keywords_of forms.RestoreFull = Full ∷ Input ∷ Output ∷ Purge ∷ Wait ∷ []

-- keywords have each a number
abbrev pub place_of : Keyword → ℕ
place_of LogicalInput = 0
place_of keyword = operand_number keyword

-- whether a keyword is one of these
abbrev pub is_one_of : List Keyword → Keyword → Bool
is_one_of list keyword = list_any (λ other. place_of other == place_of keyword) list
