-- The command that operands make is one.
use Rattle.std.proofs.Common.{◌≡◌, ◌⊎◌, inl, inr, List, refl, sym, ap, subst, ◌∙◌, Bool, true, false}
use Rattle.std.specs.Prelude.{if◌then◌else◌, ◌↔◌, IsTrue, Result, Ok, Err, IfOk, IfErr, Option, Some, None, IfSome, IfNone}
use Rattle.sysin_words.specs.declared.lead.Verb.{Verb}
use Rattle.sysin_words.specs.declared.lead.Verb.TheVariants as verbs
use Rattle.sysin_lang.specs.declared.command.Command.{Command}
use Rattle.sysin_lang.specs.declared.command.Command.TheVariants as commands
use Rattle.sysin_forms.specs.declared.form.Form.{Form}
use Rattle.sysin_forms.specs.declared.form.Form.TheVariants as forms
use Rattle.sysin_forms.specs.declared.operand.Operand.{Operand}
use Rattle.sysin_forms.specs.declared.parts.Parts.{Parts}
use Rattle.sysin_forms.specs.Form.{form_of, verb_of_form}
use Rattle.sysin_forms.specs.Made.{said, IsMade, IsMadeOf}
use Rattle.sysin_values.specs.Exact.{OneValue}
use Rattle.sysin_values.specs.declared.fault.ValueFault.TheVariants as values
use Rattle.sysin_commands.specs.declared.fault.CommandFault.{CommandFault}
use Rattle.sysin_commands.specs.declared.fault.CommandFault.TheVariants as faults
use Rattle.sysin_commands.specs.declared.command.CommandReading.{CommandReading}
use Rattle.sysin_commands.specs.Command.{takes_all, IsCommand}
use Rattle.sysin_commands.specs.CommandProgress.{form_with, Makes, EndsAt, EndsEarly, CommandGives}
use Rattle.sysin_commands.proofs.Saying.{full_stands, no_full}
use Rattle.sysin_commands.proofs.Following.{one_series}

made_with : (list : List Operand) (command : Command) → takes_all (form_of command) list ≡ true → IsMadeOf command list → form_of command ≡ form_with (verb_of_form (form_of command)) list
made_with list (commands.PrintVtoc unit) all made = refl
made_with list (commands.Release filter unit) all made = refl
made_with list (commands.Consolidate filter unit) all made = refl
made_with list (commands.Defrag unit index limit) all made = refl
made_with list (commands.Copy filter unit to delete purge replace rename tolerate) all made = refl
made_with list (commands.DumpDataset filter unit outs reset delete purge tolerate) all made = sym (ap (λ (full : Bool). if full then forms.DumpFull else forms.DumpDataset) (no_full forms.DumpDataset refl list all))
made_with list (commands.DumpFull unit outs) all (full, unit_is, more) = sym (ap (λ (full : Bool). if full then forms.DumpFull else forms.DumpDataset) (full_stands list full))
made_with list (commands.RestoreDataset filter input to purge replace rename) all made = sym (ap (λ (full : Bool). if full then forms.RestoreFull else forms.RestoreDataset) (no_full forms.RestoreDataset refl list all))
made_with list (commands.RestoreFull input to purge) all (full, input_is, to_is, more) = sym (ap (λ (full : Bool). if full then forms.RestoreFull else forms.RestoreDataset) (full_stands list full))

-- only this form of the verb can be made
pub form_is : (verb : Verb) (list : List Operand) (command : Command) → Makes verb list command → form_of command ≡ form_with verb list
form_is verb list command (own, all, made) = made_with list command all made ∙ ap (λ (v : Verb). form_with v list) own

by_full : (verb : Verb) (first second : Form) → verb_of_form first ≡ verb → verb_of_form second ≡ verb → (full : Bool) → verb_of_form (if full then first else second) ≡ verb
by_full verb first second e f true = e
by_full verb first second e f false = f

pub form_is_own : (verb : Verb) (list : List Operand) → verb_of_form (form_with verb list) ≡ verb
form_is_own verbs.Print list = refl
form_is_own verbs.Release list = refl
form_is_own verbs.Consolidate list = refl
form_is_own verbs.Defrag list = refl
form_is_own verbs.Copy list = refl
form_is_own verbs.Dump list = by_full verbs.Dump forms.DumpFull forms.DumpDataset refl refl _
form_is_own verbs.Restore list = by_full verbs.Restore forms.RestoreFull forms.RestoreDataset refl refl _

pub makes : (verb : Verb) (list : List Operand) (command : Command) → form_of command ≡ form_with verb list → takes_all (form_with verb list) list ≡ true → IsMadeOf command list → Makes verb list command
makes verb list command form all made = (ap verb_of_form form ∙ form_is_own verb list, ap (λ (f : Form). takes_all f list) form ∙ all, made)

-- commands of one form that are made of the same are the same
same_command : (left right : Command) (parts : Parts) → form_of left ≡ form_of right → IsMade left parts → IsMade right parts → left ≡ right
same_command (commands.PrintVtoc unit) (commands.PrintVtoc unit') parts form (e0, e1) (f0, f1) = cc
same_command (commands.PrintVtoc unit) (commands.Release filter' unit') parts form l r = cc
same_command (commands.PrintVtoc unit) (commands.Consolidate filter' unit') parts form l r = cc
same_command (commands.PrintVtoc unit) (commands.Defrag unit' index' limit') parts form l r = cc
same_command (commands.PrintVtoc unit) (commands.Copy filter' unit' to' delete' purge' replace' rename' tolerate') parts form l r = cc
same_command (commands.PrintVtoc unit) (commands.DumpDataset filter' unit' outs' reset' delete' purge' tolerate') parts form l r = cc
same_command (commands.PrintVtoc unit) (commands.DumpFull unit' outs') parts form l r = cc
same_command (commands.PrintVtoc unit) (commands.RestoreDataset filter' input' to' purge' replace' rename') parts form l r = cc
same_command (commands.PrintVtoc unit) (commands.RestoreFull input' to' purge') parts form l r = cc
same_command (commands.Release filter unit) (commands.PrintVtoc unit') parts form l r = cc
same_command (commands.Release filter unit) (commands.Release filter' unit') parts form (inl e, f) (inl g, h) = cc
same_command (commands.Release filter unit) (commands.Release filter' unit') parts form (inl e, f) (inr (none, some, g), h) = cc
same_command (commands.Release filter unit) (commands.Release filter' unit') parts form (inr (none, some, e), f) (inl g, h) = cc
same_command (commands.Release filter unit) (commands.Release filter' unit') parts form (inr (none, some, e), f) (inr (none', some', g), h) = cc
same_command (commands.Release filter unit) (commands.Consolidate filter' unit') parts form l r = cc
same_command (commands.Release filter unit) (commands.Defrag unit' index' limit') parts form l r = cc
same_command (commands.Release filter unit) (commands.Copy filter' unit' to' delete' purge' replace' rename' tolerate') parts form l r = cc
same_command (commands.Release filter unit) (commands.DumpDataset filter' unit' outs' reset' delete' purge' tolerate') parts form l r = cc
same_command (commands.Release filter unit) (commands.DumpFull unit' outs') parts form l r = cc
same_command (commands.Release filter unit) (commands.RestoreDataset filter' input' to' purge' replace' rename') parts form l r = cc
same_command (commands.Release filter unit) (commands.RestoreFull input' to' purge') parts form l r = cc
same_command (commands.Consolidate filter unit) (commands.PrintVtoc unit') parts form l r = cc
same_command (commands.Consolidate filter unit) (commands.Release filter' unit') parts form l r = cc
same_command (commands.Consolidate filter unit) (commands.Consolidate filter' unit') parts form (e0, e1) (f0, f1) = cc
same_command (commands.Consolidate filter unit) (commands.Defrag unit' index' limit') parts form l r = cc
same_command (commands.Consolidate filter unit) (commands.Copy filter' unit' to' delete' purge' replace' rename' tolerate') parts form l r = cc
same_command (commands.Consolidate filter unit) (commands.DumpDataset filter' unit' outs' reset' delete' purge' tolerate') parts form l r = cc
same_command (commands.Consolidate filter unit) (commands.DumpFull unit' outs') parts form l r = cc
same_command (commands.Consolidate filter unit) (commands.RestoreDataset filter' input' to' purge' replace' rename') parts form l r = cc
same_command (commands.Consolidate filter unit) (commands.RestoreFull input' to' purge') parts form l r = cc
same_command (commands.Defrag unit index limit) (commands.PrintVtoc unit') parts form l r = cc
same_command (commands.Defrag unit index limit) (commands.Release filter' unit') parts form l r = cc
same_command (commands.Defrag unit index limit) (commands.Consolidate filter' unit') parts form l r = cc
same_command (commands.Defrag unit index limit) (commands.Defrag unit' index' limit') parts form (e0, e1, e2) (f0, f1, f2) = cc
same_command (commands.Defrag unit index limit) (commands.Copy filter' unit' to' delete' purge' replace' rename' tolerate') parts form l r = cc
same_command (commands.Defrag unit index limit) (commands.DumpDataset filter' unit' outs' reset' delete' purge' tolerate') parts form l r = cc
same_command (commands.Defrag unit index limit) (commands.DumpFull unit' outs') parts form l r = cc
same_command (commands.Defrag unit index limit) (commands.RestoreDataset filter' input' to' purge' replace' rename') parts form l r = cc
same_command (commands.Defrag unit index limit) (commands.RestoreFull input' to' purge') parts form l r = cc
same_command (commands.Copy filter unit to delete purge replace rename tolerate) (commands.PrintVtoc unit') parts form l r = cc
same_command (commands.Copy filter unit to delete purge replace rename tolerate) (commands.Release filter' unit') parts form l r = cc
same_command (commands.Copy filter unit to delete purge replace rename tolerate) (commands.Consolidate filter' unit') parts form l r = cc
same_command (commands.Copy filter unit to delete purge replace rename tolerate) (commands.Defrag unit' index' limit') parts form l r = cc
same_command (commands.Copy filter unit to delete purge replace rename tolerate) (commands.Copy filter' unit' to' delete' purge' replace' rename' tolerate') parts form (e0, e1, e2, e3, e4, e5, e6, e7) (f0, f1, f2, f3, f4, f5, f6, f7) = cc
same_command (commands.Copy filter unit to delete purge replace rename tolerate) (commands.DumpDataset filter' unit' outs' reset' delete' purge' tolerate') parts form l r = cc
same_command (commands.Copy filter unit to delete purge replace rename tolerate) (commands.DumpFull unit' outs') parts form l r = cc
same_command (commands.Copy filter unit to delete purge replace rename tolerate) (commands.RestoreDataset filter' input' to' purge' replace' rename') parts form l r = cc
same_command (commands.Copy filter unit to delete purge replace rename tolerate) (commands.RestoreFull input' to' purge') parts form l r = cc
same_command (commands.DumpDataset filter unit outs reset delete purge tolerate) (commands.PrintVtoc unit') parts form l r = cc
same_command (commands.DumpDataset filter unit outs reset delete purge tolerate) (commands.Release filter' unit') parts form l r = cc
same_command (commands.DumpDataset filter unit outs reset delete purge tolerate) (commands.Consolidate filter' unit') parts form l r = cc
same_command (commands.DumpDataset filter unit outs reset delete purge tolerate) (commands.Defrag unit' index' limit') parts form l r = cc
same_command (commands.DumpDataset filter unit outs reset delete purge tolerate) (commands.Copy filter' unit' to' delete' purge' replace' rename' tolerate') parts form l r = cc
same_command (commands.DumpDataset filter unit outs reset delete purge tolerate) (commands.DumpDataset filter' unit' outs' reset' delete' purge' tolerate') parts form (e0, e1, e2, e3, e4, e5, e6) (f0, f1, f2, f3, f4, f5, f6) = cc
same_command (commands.DumpDataset filter unit outs reset delete purge tolerate) (commands.DumpFull unit' outs') parts form l r = cc
same_command (commands.DumpDataset filter unit outs reset delete purge tolerate) (commands.RestoreDataset filter' input' to' purge' replace' rename') parts form l r = cc
same_command (commands.DumpDataset filter unit outs reset delete purge tolerate) (commands.RestoreFull input' to' purge') parts form l r = cc
same_command (commands.DumpFull unit outs) (commands.PrintVtoc unit') parts form l r = cc
same_command (commands.DumpFull unit outs) (commands.Release filter' unit') parts form l r = cc
same_command (commands.DumpFull unit outs) (commands.Consolidate filter' unit') parts form l r = cc
same_command (commands.DumpFull unit outs) (commands.Defrag unit' index' limit') parts form l r = cc
same_command (commands.DumpFull unit outs) (commands.Copy filter' unit' to' delete' purge' replace' rename' tolerate') parts form l r = cc
same_command (commands.DumpFull unit outs) (commands.DumpDataset filter' unit' outs' reset' delete' purge' tolerate') parts form l r = cc
same_command (commands.DumpFull unit outs) (commands.DumpFull unit' outs') parts form (e0, e1, e2) (f0, f1, f2) = cc
same_command (commands.DumpFull unit outs) (commands.RestoreDataset filter' input' to' purge' replace' rename') parts form l r = cc
same_command (commands.DumpFull unit outs) (commands.RestoreFull input' to' purge') parts form l r = cc
same_command (commands.RestoreDataset filter input to purge replace rename) (commands.PrintVtoc unit') parts form l r = cc
same_command (commands.RestoreDataset filter input to purge replace rename) (commands.Release filter' unit') parts form l r = cc
same_command (commands.RestoreDataset filter input to purge replace rename) (commands.Consolidate filter' unit') parts form l r = cc
same_command (commands.RestoreDataset filter input to purge replace rename) (commands.Defrag unit' index' limit') parts form l r = cc
same_command (commands.RestoreDataset filter input to purge replace rename) (commands.Copy filter' unit' to' delete' purge' replace' rename' tolerate') parts form l r = cc
same_command (commands.RestoreDataset filter input to purge replace rename) (commands.DumpDataset filter' unit' outs' reset' delete' purge' tolerate') parts form l r = cc
same_command (commands.RestoreDataset filter input to purge replace rename) (commands.DumpFull unit' outs') parts form l r = cc
same_command (commands.RestoreDataset filter input to purge replace rename) (commands.RestoreDataset filter' input' to' purge' replace' rename') parts form (e0, e1, e2, e3, e4, e5) (f0, f1, f2, f3, f4, f5) = cc
same_command (commands.RestoreDataset filter input to purge replace rename) (commands.RestoreFull input' to' purge') parts form l r = cc
same_command (commands.RestoreFull input to purge) (commands.PrintVtoc unit') parts form l r = cc
same_command (commands.RestoreFull input to purge) (commands.Release filter' unit') parts form l r = cc
same_command (commands.RestoreFull input to purge) (commands.Consolidate filter' unit') parts form l r = cc
same_command (commands.RestoreFull input to purge) (commands.Defrag unit' index' limit') parts form l r = cc
same_command (commands.RestoreFull input to purge) (commands.Copy filter' unit' to' delete' purge' replace' rename' tolerate') parts form l r = cc
same_command (commands.RestoreFull input to purge) (commands.DumpDataset filter' unit' outs' reset' delete' purge' tolerate') parts form l r = cc
same_command (commands.RestoreFull input to purge) (commands.DumpFull unit' outs') parts form l r = cc
same_command (commands.RestoreFull input to purge) (commands.RestoreDataset filter' input' to' purge' replace' rename') parts form l r = cc
same_command (commands.RestoreFull input to purge) (commands.RestoreFull input' to' purge') parts form (e0, e1, e2, e3) (f0, f1, f2, f3) = cc

-- the same tokens say the same command
pub one : (verb : Verb) → OneValue (IsCommand verb)
one verb left right text c d =
    let same : d.list ≡ c.list = one_series verb d.list c.list text d.series c.series in
    let takes = subst (λ (z : List Operand). takes_all (form_of right) z ≡ true) same d.takes in
    let made = subst (λ (z : List Operand). IsMadeOf right z) same d.made in
    same_command left right (said c.list) (form_is verb c.list left (c.own, c.takes, c.made) ∙ sym (form_is verb c.list right (d.own, takes, made))) c.made made

-- ---- what is made of them

-- where these don't fit the form nothing is made
pub not_made : (verb : Verb) (list : List Operand) (form : Form) (fits : Bool) → form ≡ form_with verb list → fits ≡ takes_all form list → fits ≡ false → (command : Command) → ¬ Makes verb list command
not_made verb list form fits is e out command m =
    let all : takes_all form list ≡ true = ap (λ (f : Form). takes_all f list) (is ∙ sym (form_is verb list command m)) ∙ m.1 in
    cc

pub some_made : (verb : Verb) (list : List Operand) (form : Form) (fits : Bool) (r : Option Command) → form ≡ form_with verb list → fits ≡ takes_all form list → fits ≡ true
    → IfSome r (λ command. (form_of command ≡ form) × IsMadeOf command list) → IfSome r (Makes verb list)
some_made verb list form fits (Some command) is e all m =
    makes verb list command (m.0 ∙ is) (sym (ap (λ (f : Form). takes_all f list) is) ∙ sym e ∙ all) m.1
some_made verb list form fits None is e all m = tt

pub none_made : (verb : Verb) (list : List Operand) (form : Form) (r : Option Command) → form ≡ form_with verb list
    → IfNone r ((command : Command) → form_of command ≡ form → ¬ IsMadeOf command list) → IfNone r ((command : Command) → ¬ Makes verb list command)
none_made verb list form (Some command) is none = tt
none_made verb list form None is none = λ command m. none command (form_is verb list command m ∙ sym is) m.2

-- ---- its end

pub end_given : (reading : CommandReading) (between : Bool) (made : Option Command) (r : Result Command CommandFault) → (IsTrue between ↔ EndsAt reading.place)
    → IfSome made (Makes reading.verb reading.operands) → IfOk r (λ command. (between ≡ true) × (made ≡ Some command)) → IfOk r (CommandGives reading)
end_given reading between made (Ok command) at m (yes', is) = (at.0 yes', subst (λ (o : Option Command). IfSome o (Makes reading.verb reading.operands)) is m)
end_given reading between made (Err fault) at m given = tt

abbrev pub IsEarly : Bool → Option Command → CommandFault → Type 0
IsEarly between made fault = ((made ≡ None) × (fault ≡ faults.Missing)) ⊎ ((between ≡ false) × (fault ≡ faults.Value values.Word) × ((command : Command) × (made ≡ Some command)))

pub end_early : (reading : CommandReading) (between : Bool) (made : Option Command) (r : Result Command CommandFault) → (IsTrue between ↔ EndsAt reading.place)
    → IfSome made (Makes reading.verb reading.operands) → IfNone made ((command : Command) → ¬ Makes reading.verb reading.operands command) → IfErr r (IsEarly between made)
    → IfErr r (EndsEarly reading)
end_early reading between made (Ok command) at m none early = tt
end_early reading between made (Err fault) at m none (inl (nothing, is)) =
    subst (λ (f : CommandFault). EndsEarly reading f) (sym is) (subst (λ (o : Option Command). IfNone o ((command : Command) → ¬ Makes reading.verb reading.operands command)) nothing none)
end_early reading between made (Err fault) at m none (inr (out, is, (command, some))) =
    subst (λ (f : CommandFault). EndsEarly reading f) (sym is)
    ((λ end. let e = at.1 end in cc), (command, subst (λ (o : Option Command). IfSome o (Makes reading.verb reading.operands)) some m))
