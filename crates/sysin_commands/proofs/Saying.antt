-- What operands that stand say.
use Rattle.std.proofs.Common.{◌≡◌, ◌⊎◌, inl, inr, ℕ, List, [], ◌∷◌, refl, ap, subst, ◌∙◌, Bool, true, false, Option, Some, None}
use Rattle.std.specs.Prelude.{◌||◌, is_some}
use Rattle.std.specs.List.{list_all}
use Rattle.sysin_text.specs.declared.token.Token.{Token}
use Rattle.vol_label.specs.declared.serial.Serial.{Serial}
use Rattle.dd_names.specs.declared.dd.DdName.{DdName}
use Rattle.sysin_words.specs.declared.keyword.Keyword.{Keyword}
use Rattle.sysin_words.specs.declared.keyword.Keyword.TheVariants as keywords
use Rattle.sysin_words.specs.declared.lead.Verb.{Verb}
use Rattle.sysin_words.specs.declared.lead.Verb.TheVariants as verbs
use Rattle.sysin_lang.specs.declared.command.Filter.{Filter}
use Rattle.sysin_forms.specs.declared.form.Form.{Form}
use Rattle.sysin_forms.specs.declared.form.Form.TheVariants as forms
use Rattle.sysin_forms.specs.declared.operand.Operand.{Operand}
use Rattle.sysin_forms.specs.declared.operand.Operand.TheVariants as operands
use Rattle.sysin_forms.specs.Operand.{name_of, has}
use Rattle.sysin_forms.specs.Form.{keywords_of, is_one_of}
use Rattle.sysin_forms.specs.Made.{said, has_parts}
use Rattle.sysin_operands.specs.declared.bracket.Single.{Single}
use Rattle.sysin_operands.specs.declared.bracket.Single.TheVariants as singles
use Rattle.sysin_operands.specs.declared.bracket.Bracket.{Bracket}
use Rattle.sysin_operands.specs.declared.bracket.Bracket.TheVariants as brackets
use Rattle.sysin_operands.specs.Bracket.{alone_of, bracket_of, SaysSingle, IsContent}
use Rattle.sysin_filters.specs.Filter.{IsSeriesOf}
use Rattle.sysin_commands.specs.Operand.{IsOperand}
use Rattle.sysin_commands.specs.Command.{takes_all}
use Rattle.sysin_commands.specs.CommandProgress.{one_clashes}
use Rattle.std.proofs.lemmas.Bool.{and_from}
use Rattle.ckd_image.proofs.Bools.{and_first, and_second}

-- ---- operands of a verb

-- only RESTORE reads a dump, and only DUMP writes some
abbrev pub is_of : Verb → Operand → Bool
is_of verbs.Restore (operands.Unit unit) = false
is_of verbs.Restore (operands.Outputs names) = false
is_of verbs.Restore _ = true
is_of verbs.Dump (operands.Input input) = false
is_of verbs.Dump (operands.Target unit) = false
is_of verbs.Dump _ = true
is_of _ (operands.Input input) = false
is_of _ (operands.Outputs names) = false
is_of _ _ = true

abbrev pub are_of : Verb → List Operand → Bool
are_of verb list = list_all (is_of verb) list

-- what a bracket of the verb says
abbrev bracket_fits : Verb → Bracket → Bool
bracket_fits verbs.Restore (brackets.Single singles.Unit) = false
bracket_fits verbs.Restore brackets.Outputs = false
bracket_fits verbs.Restore _ = true
bracket_fits verbs.Dump (brackets.Single singles.Input) = false
bracket_fits verbs.Dump (brackets.Single singles.Target) = false
bracket_fits verbs.Dump _ = true
bracket_fits _ (brackets.Single singles.Input) = false
bracket_fits _ brackets.Outputs = false
bracket_fits _ _ = true

fit : (verb : Verb) (known bracket : Bracket) → Some known ≡ Some bracket → bracket_fits verb known ≡ true → bracket_fits verb bracket ≡ true
fit verb known bracket e f = let same : known ≡ bracket = cc in subst (λ (z : Bracket). bracket_fits verb z ≡ true) same f

brackets_fit : (verb : Verb) (keyword : Keyword) (bracket : Bracket) → bracket_of verb keyword ≡ Some bracket → bracket_fits verb bracket ≡ true
brackets_fit verbs.Print keywords.Vtoc bracket e = cc
brackets_fit verbs.Print keywords.Full bracket e = cc
brackets_fit verbs.Print keywords.Input bracket e = fit verbs.Print (brackets.Single singles.Unit) bracket e refl
brackets_fit verbs.Print keywords.LogicalInput bracket e = fit verbs.Print (brackets.Single singles.LogicalUnit) bracket e refl
brackets_fit verbs.Print keywords.Output bracket e = fit verbs.Print (brackets.Single singles.Target) bracket e refl
brackets_fit verbs.Print keywords.Dataset bracket e = cc
brackets_fit verbs.Print keywords.Include bracket e = fit verbs.Print brackets.Include bracket e refl
brackets_fit verbs.Print keywords.Exclude bracket e = fit verbs.Print brackets.Exclude bracket e refl
brackets_fit verbs.Print keywords.By bracket e = fit verbs.Print brackets.By bracket e refl
brackets_fit verbs.Print keywords.Index bracket e = fit verbs.Print (brackets.Single singles.Index) bracket e refl
brackets_fit verbs.Print keywords.Limit bracket e = fit verbs.Print (brackets.Single singles.Limit) bracket e refl
brackets_fit verbs.Print keywords.Delete bracket e = cc
brackets_fit verbs.Print keywords.Purge bracket e = cc
brackets_fit verbs.Print keywords.Reset bracket e = cc
brackets_fit verbs.Print keywords.Replace bracket e = cc
brackets_fit verbs.Print keywords.Rename bracket e = fit verbs.Print brackets.Rename bracket e refl
brackets_fit verbs.Print keywords.Tolerate bracket e = fit verbs.Print (brackets.Single singles.Tolerate) bracket e refl
brackets_fit verbs.Print keywords.Wait bracket e = fit verbs.Print brackets.Wait bracket e refl
brackets_fit verbs.Print keywords.Optimize bracket e = fit verbs.Print (brackets.Single singles.Optimize) bracket e refl
brackets_fit verbs.Release keywords.Vtoc bracket e = cc
brackets_fit verbs.Release keywords.Full bracket e = cc
brackets_fit verbs.Release keywords.Input bracket e = fit verbs.Release (brackets.Single singles.Unit) bracket e refl
brackets_fit verbs.Release keywords.LogicalInput bracket e = fit verbs.Release (brackets.Single singles.LogicalUnit) bracket e refl
brackets_fit verbs.Release keywords.Output bracket e = fit verbs.Release (brackets.Single singles.Target) bracket e refl
brackets_fit verbs.Release keywords.Dataset bracket e = cc
brackets_fit verbs.Release keywords.Include bracket e = fit verbs.Release brackets.Include bracket e refl
brackets_fit verbs.Release keywords.Exclude bracket e = fit verbs.Release brackets.Exclude bracket e refl
brackets_fit verbs.Release keywords.By bracket e = fit verbs.Release brackets.By bracket e refl
brackets_fit verbs.Release keywords.Index bracket e = fit verbs.Release (brackets.Single singles.Index) bracket e refl
brackets_fit verbs.Release keywords.Limit bracket e = fit verbs.Release (brackets.Single singles.Limit) bracket e refl
brackets_fit verbs.Release keywords.Delete bracket e = cc
brackets_fit verbs.Release keywords.Purge bracket e = cc
brackets_fit verbs.Release keywords.Reset bracket e = cc
brackets_fit verbs.Release keywords.Replace bracket e = cc
brackets_fit verbs.Release keywords.Rename bracket e = fit verbs.Release brackets.Rename bracket e refl
brackets_fit verbs.Release keywords.Tolerate bracket e = fit verbs.Release (brackets.Single singles.Tolerate) bracket e refl
brackets_fit verbs.Release keywords.Wait bracket e = fit verbs.Release brackets.Wait bracket e refl
brackets_fit verbs.Release keywords.Optimize bracket e = fit verbs.Release (brackets.Single singles.Optimize) bracket e refl
brackets_fit verbs.Consolidate keywords.Vtoc bracket e = cc
brackets_fit verbs.Consolidate keywords.Full bracket e = cc
brackets_fit verbs.Consolidate keywords.Input bracket e = fit verbs.Consolidate (brackets.Single singles.Unit) bracket e refl
brackets_fit verbs.Consolidate keywords.LogicalInput bracket e = fit verbs.Consolidate (brackets.Single singles.LogicalUnit) bracket e refl
brackets_fit verbs.Consolidate keywords.Output bracket e = fit verbs.Consolidate (brackets.Single singles.Target) bracket e refl
brackets_fit verbs.Consolidate keywords.Dataset bracket e = cc
brackets_fit verbs.Consolidate keywords.Include bracket e = fit verbs.Consolidate brackets.Include bracket e refl
brackets_fit verbs.Consolidate keywords.Exclude bracket e = fit verbs.Consolidate brackets.Exclude bracket e refl
brackets_fit verbs.Consolidate keywords.By bracket e = fit verbs.Consolidate brackets.By bracket e refl
brackets_fit verbs.Consolidate keywords.Index bracket e = fit verbs.Consolidate (brackets.Single singles.Index) bracket e refl
brackets_fit verbs.Consolidate keywords.Limit bracket e = fit verbs.Consolidate (brackets.Single singles.Limit) bracket e refl
brackets_fit verbs.Consolidate keywords.Delete bracket e = cc
brackets_fit verbs.Consolidate keywords.Purge bracket e = cc
brackets_fit verbs.Consolidate keywords.Reset bracket e = cc
brackets_fit verbs.Consolidate keywords.Replace bracket e = cc
brackets_fit verbs.Consolidate keywords.Rename bracket e = fit verbs.Consolidate brackets.Rename bracket e refl
brackets_fit verbs.Consolidate keywords.Tolerate bracket e = fit verbs.Consolidate (brackets.Single singles.Tolerate) bracket e refl
brackets_fit verbs.Consolidate keywords.Wait bracket e = fit verbs.Consolidate brackets.Wait bracket e refl
brackets_fit verbs.Consolidate keywords.Optimize bracket e = fit verbs.Consolidate (brackets.Single singles.Optimize) bracket e refl
brackets_fit verbs.Defrag keywords.Vtoc bracket e = cc
brackets_fit verbs.Defrag keywords.Full bracket e = cc
brackets_fit verbs.Defrag keywords.Input bracket e = fit verbs.Defrag (brackets.Single singles.Unit) bracket e refl
brackets_fit verbs.Defrag keywords.LogicalInput bracket e = fit verbs.Defrag (brackets.Single singles.LogicalUnit) bracket e refl
brackets_fit verbs.Defrag keywords.Output bracket e = fit verbs.Defrag (brackets.Single singles.Target) bracket e refl
brackets_fit verbs.Defrag keywords.Dataset bracket e = cc
brackets_fit verbs.Defrag keywords.Include bracket e = fit verbs.Defrag brackets.Include bracket e refl
brackets_fit verbs.Defrag keywords.Exclude bracket e = fit verbs.Defrag brackets.Exclude bracket e refl
brackets_fit verbs.Defrag keywords.By bracket e = fit verbs.Defrag brackets.By bracket e refl
brackets_fit verbs.Defrag keywords.Index bracket e = fit verbs.Defrag (brackets.Single singles.Index) bracket e refl
brackets_fit verbs.Defrag keywords.Limit bracket e = fit verbs.Defrag (brackets.Single singles.Limit) bracket e refl
brackets_fit verbs.Defrag keywords.Delete bracket e = cc
brackets_fit verbs.Defrag keywords.Purge bracket e = cc
brackets_fit verbs.Defrag keywords.Reset bracket e = cc
brackets_fit verbs.Defrag keywords.Replace bracket e = cc
brackets_fit verbs.Defrag keywords.Rename bracket e = fit verbs.Defrag brackets.Rename bracket e refl
brackets_fit verbs.Defrag keywords.Tolerate bracket e = fit verbs.Defrag (brackets.Single singles.Tolerate) bracket e refl
brackets_fit verbs.Defrag keywords.Wait bracket e = fit verbs.Defrag brackets.Wait bracket e refl
brackets_fit verbs.Defrag keywords.Optimize bracket e = fit verbs.Defrag (brackets.Single singles.Optimize) bracket e refl
brackets_fit verbs.Copy keywords.Vtoc bracket e = cc
brackets_fit verbs.Copy keywords.Full bracket e = cc
brackets_fit verbs.Copy keywords.Input bracket e = fit verbs.Copy (brackets.Single singles.Unit) bracket e refl
brackets_fit verbs.Copy keywords.LogicalInput bracket e = fit verbs.Copy (brackets.Single singles.LogicalUnit) bracket e refl
brackets_fit verbs.Copy keywords.Output bracket e = fit verbs.Copy (brackets.Single singles.Target) bracket e refl
brackets_fit verbs.Copy keywords.Dataset bracket e = cc
brackets_fit verbs.Copy keywords.Include bracket e = fit verbs.Copy brackets.Include bracket e refl
brackets_fit verbs.Copy keywords.Exclude bracket e = fit verbs.Copy brackets.Exclude bracket e refl
brackets_fit verbs.Copy keywords.By bracket e = fit verbs.Copy brackets.By bracket e refl
brackets_fit verbs.Copy keywords.Index bracket e = fit verbs.Copy (brackets.Single singles.Index) bracket e refl
brackets_fit verbs.Copy keywords.Limit bracket e = fit verbs.Copy (brackets.Single singles.Limit) bracket e refl
brackets_fit verbs.Copy keywords.Delete bracket e = cc
brackets_fit verbs.Copy keywords.Purge bracket e = cc
brackets_fit verbs.Copy keywords.Reset bracket e = cc
brackets_fit verbs.Copy keywords.Replace bracket e = cc
brackets_fit verbs.Copy keywords.Rename bracket e = fit verbs.Copy brackets.Rename bracket e refl
brackets_fit verbs.Copy keywords.Tolerate bracket e = fit verbs.Copy (brackets.Single singles.Tolerate) bracket e refl
brackets_fit verbs.Copy keywords.Wait bracket e = fit verbs.Copy brackets.Wait bracket e refl
brackets_fit verbs.Copy keywords.Optimize bracket e = fit verbs.Copy (brackets.Single singles.Optimize) bracket e refl
brackets_fit verbs.Dump keywords.Vtoc bracket e = cc
brackets_fit verbs.Dump keywords.Full bracket e = cc
brackets_fit verbs.Dump keywords.Input bracket e = fit verbs.Dump (brackets.Single singles.Unit) bracket e refl
brackets_fit verbs.Dump keywords.LogicalInput bracket e = fit verbs.Dump (brackets.Single singles.LogicalUnit) bracket e refl
brackets_fit verbs.Dump keywords.Output bracket e = fit verbs.Dump brackets.Outputs bracket e refl
brackets_fit verbs.Dump keywords.Dataset bracket e = cc
brackets_fit verbs.Dump keywords.Include bracket e = fit verbs.Dump brackets.Include bracket e refl
brackets_fit verbs.Dump keywords.Exclude bracket e = fit verbs.Dump brackets.Exclude bracket e refl
brackets_fit verbs.Dump keywords.By bracket e = fit verbs.Dump brackets.By bracket e refl
brackets_fit verbs.Dump keywords.Index bracket e = fit verbs.Dump (brackets.Single singles.Index) bracket e refl
brackets_fit verbs.Dump keywords.Limit bracket e = fit verbs.Dump (brackets.Single singles.Limit) bracket e refl
brackets_fit verbs.Dump keywords.Delete bracket e = cc
brackets_fit verbs.Dump keywords.Purge bracket e = cc
brackets_fit verbs.Dump keywords.Reset bracket e = cc
brackets_fit verbs.Dump keywords.Replace bracket e = cc
brackets_fit verbs.Dump keywords.Rename bracket e = fit verbs.Dump brackets.Rename bracket e refl
brackets_fit verbs.Dump keywords.Tolerate bracket e = fit verbs.Dump (brackets.Single singles.Tolerate) bracket e refl
brackets_fit verbs.Dump keywords.Wait bracket e = fit verbs.Dump brackets.Wait bracket e refl
brackets_fit verbs.Dump keywords.Optimize bracket e = fit verbs.Dump (brackets.Single singles.Optimize) bracket e refl
brackets_fit verbs.Restore keywords.Vtoc bracket e = cc
brackets_fit verbs.Restore keywords.Full bracket e = cc
brackets_fit verbs.Restore keywords.Input bracket e = fit verbs.Restore (brackets.Single singles.Input) bracket e refl
brackets_fit verbs.Restore keywords.LogicalInput bracket e = fit verbs.Restore (brackets.Single singles.LogicalUnit) bracket e refl
brackets_fit verbs.Restore keywords.Output bracket e = fit verbs.Restore (brackets.Single singles.Target) bracket e refl
brackets_fit verbs.Restore keywords.Dataset bracket e = cc
brackets_fit verbs.Restore keywords.Include bracket e = fit verbs.Restore brackets.Include bracket e refl
brackets_fit verbs.Restore keywords.Exclude bracket e = fit verbs.Restore brackets.Exclude bracket e refl
brackets_fit verbs.Restore keywords.By bracket e = fit verbs.Restore brackets.By bracket e refl
brackets_fit verbs.Restore keywords.Index bracket e = fit verbs.Restore (brackets.Single singles.Index) bracket e refl
brackets_fit verbs.Restore keywords.Limit bracket e = fit verbs.Restore (brackets.Single singles.Limit) bracket e refl
brackets_fit verbs.Restore keywords.Delete bracket e = cc
brackets_fit verbs.Restore keywords.Purge bracket e = cc
brackets_fit verbs.Restore keywords.Reset bracket e = cc
brackets_fit verbs.Restore keywords.Replace bracket e = cc
brackets_fit verbs.Restore keywords.Rename bracket e = fit verbs.Restore brackets.Rename bracket e refl
brackets_fit verbs.Restore keywords.Tolerate bracket e = fit verbs.Restore (brackets.Single singles.Tolerate) bracket e refl
brackets_fit verbs.Restore keywords.Wait bracket e = fit verbs.Restore brackets.Wait bracket e refl
brackets_fit verbs.Restore keywords.Optimize bracket e = fit verbs.Restore (brackets.Single singles.Optimize) bracket e refl

-- an operand that its bracket says is of the verb
says_of : (verb : Verb) (said' operand : Operand) → operand ≡ said' → is_of verb said' ≡ true → is_of verb operand ≡ true
says_of verb said' operand e f = ap (is_of verb) e ∙ f

single_of : (verb : Verb) (single : Single) (word : List ℕ) (operand : Operand) → bracket_fits verb (brackets.Single single) ≡ true → SaysSingle single word operand → is_of verb operand ≡ true
single_of verbs.Print singles.Unit word operand f (unit, s, e) = says_of verbs.Print (operands.Unit unit) operand e refl
single_of verbs.Print singles.LogicalUnit word operand f (unit, s, e) = says_of verbs.Print (operands.LogicalUnit unit) operand e refl
single_of verbs.Print singles.Input word operand f (input, s, e) = cc
single_of verbs.Print singles.Target word operand f (unit, s, e) = says_of verbs.Print (operands.Target unit) operand e refl
single_of verbs.Print singles.Index word operand f (number, s, e) = says_of verbs.Print (operands.Index number) operand e refl
single_of verbs.Print singles.Limit word operand f (number, s, e) = says_of verbs.Print (operands.Limit number) operand e refl
single_of verbs.Print singles.Tolerate word operand f (s, e) = says_of verbs.Print operands.Tolerate operand e refl
single_of verbs.Print singles.Optimize word operand f (s, e) = says_of verbs.Print operands.Optimize operand e refl
single_of verbs.Release singles.Unit word operand f (unit, s, e) = says_of verbs.Release (operands.Unit unit) operand e refl
single_of verbs.Release singles.LogicalUnit word operand f (unit, s, e) = says_of verbs.Release (operands.LogicalUnit unit) operand e refl
single_of verbs.Release singles.Input word operand f (input, s, e) = cc
single_of verbs.Release singles.Target word operand f (unit, s, e) = says_of verbs.Release (operands.Target unit) operand e refl
single_of verbs.Release singles.Index word operand f (number, s, e) = says_of verbs.Release (operands.Index number) operand e refl
single_of verbs.Release singles.Limit word operand f (number, s, e) = says_of verbs.Release (operands.Limit number) operand e refl
single_of verbs.Release singles.Tolerate word operand f (s, e) = says_of verbs.Release operands.Tolerate operand e refl
single_of verbs.Release singles.Optimize word operand f (s, e) = says_of verbs.Release operands.Optimize operand e refl
single_of verbs.Consolidate singles.Unit word operand f (unit, s, e) = says_of verbs.Consolidate (operands.Unit unit) operand e refl
single_of verbs.Consolidate singles.LogicalUnit word operand f (unit, s, e) = says_of verbs.Consolidate (operands.LogicalUnit unit) operand e refl
single_of verbs.Consolidate singles.Input word operand f (input, s, e) = cc
single_of verbs.Consolidate singles.Target word operand f (unit, s, e) = says_of verbs.Consolidate (operands.Target unit) operand e refl
single_of verbs.Consolidate singles.Index word operand f (number, s, e) = says_of verbs.Consolidate (operands.Index number) operand e refl
single_of verbs.Consolidate singles.Limit word operand f (number, s, e) = says_of verbs.Consolidate (operands.Limit number) operand e refl
single_of verbs.Consolidate singles.Tolerate word operand f (s, e) = says_of verbs.Consolidate operands.Tolerate operand e refl
single_of verbs.Consolidate singles.Optimize word operand f (s, e) = says_of verbs.Consolidate operands.Optimize operand e refl
single_of verbs.Defrag singles.Unit word operand f (unit, s, e) = says_of verbs.Defrag (operands.Unit unit) operand e refl
single_of verbs.Defrag singles.LogicalUnit word operand f (unit, s, e) = says_of verbs.Defrag (operands.LogicalUnit unit) operand e refl
single_of verbs.Defrag singles.Input word operand f (input, s, e) = cc
single_of verbs.Defrag singles.Target word operand f (unit, s, e) = says_of verbs.Defrag (operands.Target unit) operand e refl
single_of verbs.Defrag singles.Index word operand f (number, s, e) = says_of verbs.Defrag (operands.Index number) operand e refl
single_of verbs.Defrag singles.Limit word operand f (number, s, e) = says_of verbs.Defrag (operands.Limit number) operand e refl
single_of verbs.Defrag singles.Tolerate word operand f (s, e) = says_of verbs.Defrag operands.Tolerate operand e refl
single_of verbs.Defrag singles.Optimize word operand f (s, e) = says_of verbs.Defrag operands.Optimize operand e refl
single_of verbs.Copy singles.Unit word operand f (unit, s, e) = says_of verbs.Copy (operands.Unit unit) operand e refl
single_of verbs.Copy singles.LogicalUnit word operand f (unit, s, e) = says_of verbs.Copy (operands.LogicalUnit unit) operand e refl
single_of verbs.Copy singles.Input word operand f (input, s, e) = cc
single_of verbs.Copy singles.Target word operand f (unit, s, e) = says_of verbs.Copy (operands.Target unit) operand e refl
single_of verbs.Copy singles.Index word operand f (number, s, e) = says_of verbs.Copy (operands.Index number) operand e refl
single_of verbs.Copy singles.Limit word operand f (number, s, e) = says_of verbs.Copy (operands.Limit number) operand e refl
single_of verbs.Copy singles.Tolerate word operand f (s, e) = says_of verbs.Copy operands.Tolerate operand e refl
single_of verbs.Copy singles.Optimize word operand f (s, e) = says_of verbs.Copy operands.Optimize operand e refl
single_of verbs.Dump singles.Unit word operand f (unit, s, e) = says_of verbs.Dump (operands.Unit unit) operand e refl
single_of verbs.Dump singles.LogicalUnit word operand f (unit, s, e) = says_of verbs.Dump (operands.LogicalUnit unit) operand e refl
single_of verbs.Dump singles.Input word operand f (input, s, e) = cc
single_of verbs.Dump singles.Target word operand f (unit, s, e) = cc
single_of verbs.Dump singles.Index word operand f (number, s, e) = says_of verbs.Dump (operands.Index number) operand e refl
single_of verbs.Dump singles.Limit word operand f (number, s, e) = says_of verbs.Dump (operands.Limit number) operand e refl
single_of verbs.Dump singles.Tolerate word operand f (s, e) = says_of verbs.Dump operands.Tolerate operand e refl
single_of verbs.Dump singles.Optimize word operand f (s, e) = says_of verbs.Dump operands.Optimize operand e refl
single_of verbs.Restore singles.Unit word operand f (unit, s, e) = cc
single_of verbs.Restore singles.LogicalUnit word operand f (unit, s, e) = says_of verbs.Restore (operands.LogicalUnit unit) operand e refl
single_of verbs.Restore singles.Input word operand f (input, s, e) = says_of verbs.Restore (operands.Input input) operand e refl
single_of verbs.Restore singles.Target word operand f (unit, s, e) = says_of verbs.Restore (operands.Target unit) operand e refl
single_of verbs.Restore singles.Index word operand f (number, s, e) = says_of verbs.Restore (operands.Index number) operand e refl
single_of verbs.Restore singles.Limit word operand f (number, s, e) = says_of verbs.Restore (operands.Limit number) operand e refl
single_of verbs.Restore singles.Tolerate word operand f (s, e) = says_of verbs.Restore operands.Tolerate operand e refl
single_of verbs.Restore singles.Optimize word operand f (s, e) = says_of verbs.Restore operands.Optimize operand e refl

content_of : (verb : Verb) (limited : Bool) (bracket : Bracket) (operand : Operand) (text : List Token) → bracket_fits verb bracket ≡ true → IsContent bracket limited operand text → is_of verb operand ≡ true
content_of verb limited (brackets.Single single) operand text f (word, e, s) = single_of verb single word operand f s
content_of verbs.Print limited brackets.Include operand text f (list, s, e) = says_of verbs.Print (operands.Include list) operand e refl
content_of verbs.Print limited brackets.Exclude operand text f (list, s, e) = says_of verbs.Print (operands.Exclude list) operand e refl
content_of verbs.Print limited brackets.By operand text f (list, s, e) = says_of verbs.Print (operands.By list) operand e refl
content_of verbs.Print limited brackets.Outputs operand text f (list, s, e) = cc
content_of verbs.Print limited brackets.Rename operand text f (rename, s, e) = says_of verbs.Print (operands.Rename rename) operand e refl
content_of verbs.Print limited brackets.Wait operand text f (s, e) = says_of verbs.Print operands.Wait operand e refl
content_of verbs.Release limited brackets.Include operand text f (list, s, e) = says_of verbs.Release (operands.Include list) operand e refl
content_of verbs.Release limited brackets.Exclude operand text f (list, s, e) = says_of verbs.Release (operands.Exclude list) operand e refl
content_of verbs.Release limited brackets.By operand text f (list, s, e) = says_of verbs.Release (operands.By list) operand e refl
content_of verbs.Release limited brackets.Outputs operand text f (list, s, e) = cc
content_of verbs.Release limited brackets.Rename operand text f (rename, s, e) = says_of verbs.Release (operands.Rename rename) operand e refl
content_of verbs.Release limited brackets.Wait operand text f (s, e) = says_of verbs.Release operands.Wait operand e refl
content_of verbs.Consolidate limited brackets.Include operand text f (list, s, e) = says_of verbs.Consolidate (operands.Include list) operand e refl
content_of verbs.Consolidate limited brackets.Exclude operand text f (list, s, e) = says_of verbs.Consolidate (operands.Exclude list) operand e refl
content_of verbs.Consolidate limited brackets.By operand text f (list, s, e) = says_of verbs.Consolidate (operands.By list) operand e refl
content_of verbs.Consolidate limited brackets.Outputs operand text f (list, s, e) = cc
content_of verbs.Consolidate limited brackets.Rename operand text f (rename, s, e) = says_of verbs.Consolidate (operands.Rename rename) operand e refl
content_of verbs.Consolidate limited brackets.Wait operand text f (s, e) = says_of verbs.Consolidate operands.Wait operand e refl
content_of verbs.Defrag limited brackets.Include operand text f (list, s, e) = says_of verbs.Defrag (operands.Include list) operand e refl
content_of verbs.Defrag limited brackets.Exclude operand text f (list, s, e) = says_of verbs.Defrag (operands.Exclude list) operand e refl
content_of verbs.Defrag limited brackets.By operand text f (list, s, e) = says_of verbs.Defrag (operands.By list) operand e refl
content_of verbs.Defrag limited brackets.Outputs operand text f (list, s, e) = cc
content_of verbs.Defrag limited brackets.Rename operand text f (rename, s, e) = says_of verbs.Defrag (operands.Rename rename) operand e refl
content_of verbs.Defrag limited brackets.Wait operand text f (s, e) = says_of verbs.Defrag operands.Wait operand e refl
content_of verbs.Copy limited brackets.Include operand text f (list, s, e) = says_of verbs.Copy (operands.Include list) operand e refl
content_of verbs.Copy limited brackets.Exclude operand text f (list, s, e) = says_of verbs.Copy (operands.Exclude list) operand e refl
content_of verbs.Copy limited brackets.By operand text f (list, s, e) = says_of verbs.Copy (operands.By list) operand e refl
content_of verbs.Copy limited brackets.Outputs operand text f (list, s, e) = cc
content_of verbs.Copy limited brackets.Rename operand text f (rename, s, e) = says_of verbs.Copy (operands.Rename rename) operand e refl
content_of verbs.Copy limited brackets.Wait operand text f (s, e) = says_of verbs.Copy operands.Wait operand e refl
content_of verbs.Dump limited brackets.Include operand text f (list, s, e) = says_of verbs.Dump (operands.Include list) operand e refl
content_of verbs.Dump limited brackets.Exclude operand text f (list, s, e) = says_of verbs.Dump (operands.Exclude list) operand e refl
content_of verbs.Dump limited brackets.By operand text f (list, s, e) = says_of verbs.Dump (operands.By list) operand e refl
content_of verbs.Dump limited brackets.Outputs operand text f (list, s, e) = says_of verbs.Dump (operands.Outputs list) operand e refl
content_of verbs.Dump limited brackets.Rename operand text f (rename, s, e) = says_of verbs.Dump (operands.Rename rename) operand e refl
content_of verbs.Dump limited brackets.Wait operand text f (s, e) = says_of verbs.Dump operands.Wait operand e refl
content_of verbs.Restore limited brackets.Include operand text f (list, s, e) = says_of verbs.Restore (operands.Include list) operand e refl
content_of verbs.Restore limited brackets.Exclude operand text f (list, s, e) = says_of verbs.Restore (operands.Exclude list) operand e refl
content_of verbs.Restore limited brackets.By operand text f (list, s, e) = says_of verbs.Restore (operands.By list) operand e refl
content_of verbs.Restore limited brackets.Outputs operand text f (list, s, e) = cc
content_of verbs.Restore limited brackets.Rename operand text f (rename, s, e) = says_of verbs.Restore (operands.Rename rename) operand e refl
content_of verbs.Restore limited brackets.Wait operand text f (s, e) = says_of verbs.Restore operands.Wait operand e refl

alone_is_of : (verb : Verb) (keyword : Keyword) (operand : Operand) → alone_of keyword ≡ Some operand → is_of verb operand ≡ true
alone_is_of verbs.Print keywords.Vtoc operand e = let same : operand ≡ operands.Vtoc = cc in says_of verbs.Print operands.Vtoc operand same refl
alone_is_of verbs.Print keywords.Full operand e = let same : operand ≡ operands.Full = cc in says_of verbs.Print operands.Full operand same refl
alone_is_of verbs.Print keywords.Input operand e = cc
alone_is_of verbs.Print keywords.LogicalInput operand e = cc
alone_is_of verbs.Print keywords.Output operand e = cc
alone_is_of verbs.Print keywords.Dataset operand e = cc
alone_is_of verbs.Print keywords.Include operand e = cc
alone_is_of verbs.Print keywords.Exclude operand e = cc
alone_is_of verbs.Print keywords.By operand e = cc
alone_is_of verbs.Print keywords.Index operand e = cc
alone_is_of verbs.Print keywords.Limit operand e = cc
alone_is_of verbs.Print keywords.Delete operand e = let same : operand ≡ operands.Delete = cc in says_of verbs.Print operands.Delete operand same refl
alone_is_of verbs.Print keywords.Purge operand e = let same : operand ≡ operands.Purge = cc in says_of verbs.Print operands.Purge operand same refl
alone_is_of verbs.Print keywords.Reset operand e = let same : operand ≡ operands.Reset = cc in says_of verbs.Print operands.Reset operand same refl
alone_is_of verbs.Print keywords.Replace operand e = let same : operand ≡ operands.Replace = cc in says_of verbs.Print operands.Replace operand same refl
alone_is_of verbs.Print keywords.Rename operand e = cc
alone_is_of verbs.Print keywords.Tolerate operand e = cc
alone_is_of verbs.Print keywords.Wait operand e = cc
alone_is_of verbs.Print keywords.Optimize operand e = cc
alone_is_of verbs.Release keywords.Vtoc operand e = let same : operand ≡ operands.Vtoc = cc in says_of verbs.Release operands.Vtoc operand same refl
alone_is_of verbs.Release keywords.Full operand e = let same : operand ≡ operands.Full = cc in says_of verbs.Release operands.Full operand same refl
alone_is_of verbs.Release keywords.Input operand e = cc
alone_is_of verbs.Release keywords.LogicalInput operand e = cc
alone_is_of verbs.Release keywords.Output operand e = cc
alone_is_of verbs.Release keywords.Dataset operand e = cc
alone_is_of verbs.Release keywords.Include operand e = cc
alone_is_of verbs.Release keywords.Exclude operand e = cc
alone_is_of verbs.Release keywords.By operand e = cc
alone_is_of verbs.Release keywords.Index operand e = cc
alone_is_of verbs.Release keywords.Limit operand e = cc
alone_is_of verbs.Release keywords.Delete operand e = let same : operand ≡ operands.Delete = cc in says_of verbs.Release operands.Delete operand same refl
alone_is_of verbs.Release keywords.Purge operand e = let same : operand ≡ operands.Purge = cc in says_of verbs.Release operands.Purge operand same refl
alone_is_of verbs.Release keywords.Reset operand e = let same : operand ≡ operands.Reset = cc in says_of verbs.Release operands.Reset operand same refl
alone_is_of verbs.Release keywords.Replace operand e = let same : operand ≡ operands.Replace = cc in says_of verbs.Release operands.Replace operand same refl
alone_is_of verbs.Release keywords.Rename operand e = cc
alone_is_of verbs.Release keywords.Tolerate operand e = cc
alone_is_of verbs.Release keywords.Wait operand e = cc
alone_is_of verbs.Release keywords.Optimize operand e = cc
alone_is_of verbs.Consolidate keywords.Vtoc operand e = let same : operand ≡ operands.Vtoc = cc in says_of verbs.Consolidate operands.Vtoc operand same refl
alone_is_of verbs.Consolidate keywords.Full operand e = let same : operand ≡ operands.Full = cc in says_of verbs.Consolidate operands.Full operand same refl
alone_is_of verbs.Consolidate keywords.Input operand e = cc
alone_is_of verbs.Consolidate keywords.LogicalInput operand e = cc
alone_is_of verbs.Consolidate keywords.Output operand e = cc
alone_is_of verbs.Consolidate keywords.Dataset operand e = cc
alone_is_of verbs.Consolidate keywords.Include operand e = cc
alone_is_of verbs.Consolidate keywords.Exclude operand e = cc
alone_is_of verbs.Consolidate keywords.By operand e = cc
alone_is_of verbs.Consolidate keywords.Index operand e = cc
alone_is_of verbs.Consolidate keywords.Limit operand e = cc
alone_is_of verbs.Consolidate keywords.Delete operand e = let same : operand ≡ operands.Delete = cc in says_of verbs.Consolidate operands.Delete operand same refl
alone_is_of verbs.Consolidate keywords.Purge operand e = let same : operand ≡ operands.Purge = cc in says_of verbs.Consolidate operands.Purge operand same refl
alone_is_of verbs.Consolidate keywords.Reset operand e = let same : operand ≡ operands.Reset = cc in says_of verbs.Consolidate operands.Reset operand same refl
alone_is_of verbs.Consolidate keywords.Replace operand e = let same : operand ≡ operands.Replace = cc in says_of verbs.Consolidate operands.Replace operand same refl
alone_is_of verbs.Consolidate keywords.Rename operand e = cc
alone_is_of verbs.Consolidate keywords.Tolerate operand e = cc
alone_is_of verbs.Consolidate keywords.Wait operand e = cc
alone_is_of verbs.Consolidate keywords.Optimize operand e = cc
alone_is_of verbs.Defrag keywords.Vtoc operand e = let same : operand ≡ operands.Vtoc = cc in says_of verbs.Defrag operands.Vtoc operand same refl
alone_is_of verbs.Defrag keywords.Full operand e = let same : operand ≡ operands.Full = cc in says_of verbs.Defrag operands.Full operand same refl
alone_is_of verbs.Defrag keywords.Input operand e = cc
alone_is_of verbs.Defrag keywords.LogicalInput operand e = cc
alone_is_of verbs.Defrag keywords.Output operand e = cc
alone_is_of verbs.Defrag keywords.Dataset operand e = cc
alone_is_of verbs.Defrag keywords.Include operand e = cc
alone_is_of verbs.Defrag keywords.Exclude operand e = cc
alone_is_of verbs.Defrag keywords.By operand e = cc
alone_is_of verbs.Defrag keywords.Index operand e = cc
alone_is_of verbs.Defrag keywords.Limit operand e = cc
alone_is_of verbs.Defrag keywords.Delete operand e = let same : operand ≡ operands.Delete = cc in says_of verbs.Defrag operands.Delete operand same refl
alone_is_of verbs.Defrag keywords.Purge operand e = let same : operand ≡ operands.Purge = cc in says_of verbs.Defrag operands.Purge operand same refl
alone_is_of verbs.Defrag keywords.Reset operand e = let same : operand ≡ operands.Reset = cc in says_of verbs.Defrag operands.Reset operand same refl
alone_is_of verbs.Defrag keywords.Replace operand e = let same : operand ≡ operands.Replace = cc in says_of verbs.Defrag operands.Replace operand same refl
alone_is_of verbs.Defrag keywords.Rename operand e = cc
alone_is_of verbs.Defrag keywords.Tolerate operand e = cc
alone_is_of verbs.Defrag keywords.Wait operand e = cc
alone_is_of verbs.Defrag keywords.Optimize operand e = cc
alone_is_of verbs.Copy keywords.Vtoc operand e = let same : operand ≡ operands.Vtoc = cc in says_of verbs.Copy operands.Vtoc operand same refl
alone_is_of verbs.Copy keywords.Full operand e = let same : operand ≡ operands.Full = cc in says_of verbs.Copy operands.Full operand same refl
alone_is_of verbs.Copy keywords.Input operand e = cc
alone_is_of verbs.Copy keywords.LogicalInput operand e = cc
alone_is_of verbs.Copy keywords.Output operand e = cc
alone_is_of verbs.Copy keywords.Dataset operand e = cc
alone_is_of verbs.Copy keywords.Include operand e = cc
alone_is_of verbs.Copy keywords.Exclude operand e = cc
alone_is_of verbs.Copy keywords.By operand e = cc
alone_is_of verbs.Copy keywords.Index operand e = cc
alone_is_of verbs.Copy keywords.Limit operand e = cc
alone_is_of verbs.Copy keywords.Delete operand e = let same : operand ≡ operands.Delete = cc in says_of verbs.Copy operands.Delete operand same refl
alone_is_of verbs.Copy keywords.Purge operand e = let same : operand ≡ operands.Purge = cc in says_of verbs.Copy operands.Purge operand same refl
alone_is_of verbs.Copy keywords.Reset operand e = let same : operand ≡ operands.Reset = cc in says_of verbs.Copy operands.Reset operand same refl
alone_is_of verbs.Copy keywords.Replace operand e = let same : operand ≡ operands.Replace = cc in says_of verbs.Copy operands.Replace operand same refl
alone_is_of verbs.Copy keywords.Rename operand e = cc
alone_is_of verbs.Copy keywords.Tolerate operand e = cc
alone_is_of verbs.Copy keywords.Wait operand e = cc
alone_is_of verbs.Copy keywords.Optimize operand e = cc
alone_is_of verbs.Dump keywords.Vtoc operand e = let same : operand ≡ operands.Vtoc = cc in says_of verbs.Dump operands.Vtoc operand same refl
alone_is_of verbs.Dump keywords.Full operand e = let same : operand ≡ operands.Full = cc in says_of verbs.Dump operands.Full operand same refl
alone_is_of verbs.Dump keywords.Input operand e = cc
alone_is_of verbs.Dump keywords.LogicalInput operand e = cc
alone_is_of verbs.Dump keywords.Output operand e = cc
alone_is_of verbs.Dump keywords.Dataset operand e = cc
alone_is_of verbs.Dump keywords.Include operand e = cc
alone_is_of verbs.Dump keywords.Exclude operand e = cc
alone_is_of verbs.Dump keywords.By operand e = cc
alone_is_of verbs.Dump keywords.Index operand e = cc
alone_is_of verbs.Dump keywords.Limit operand e = cc
alone_is_of verbs.Dump keywords.Delete operand e = let same : operand ≡ operands.Delete = cc in says_of verbs.Dump operands.Delete operand same refl
alone_is_of verbs.Dump keywords.Purge operand e = let same : operand ≡ operands.Purge = cc in says_of verbs.Dump operands.Purge operand same refl
alone_is_of verbs.Dump keywords.Reset operand e = let same : operand ≡ operands.Reset = cc in says_of verbs.Dump operands.Reset operand same refl
alone_is_of verbs.Dump keywords.Replace operand e = let same : operand ≡ operands.Replace = cc in says_of verbs.Dump operands.Replace operand same refl
alone_is_of verbs.Dump keywords.Rename operand e = cc
alone_is_of verbs.Dump keywords.Tolerate operand e = cc
alone_is_of verbs.Dump keywords.Wait operand e = cc
alone_is_of verbs.Dump keywords.Optimize operand e = cc
alone_is_of verbs.Restore keywords.Vtoc operand e = let same : operand ≡ operands.Vtoc = cc in says_of verbs.Restore operands.Vtoc operand same refl
alone_is_of verbs.Restore keywords.Full operand e = let same : operand ≡ operands.Full = cc in says_of verbs.Restore operands.Full operand same refl
alone_is_of verbs.Restore keywords.Input operand e = cc
alone_is_of verbs.Restore keywords.LogicalInput operand e = cc
alone_is_of verbs.Restore keywords.Output operand e = cc
alone_is_of verbs.Restore keywords.Dataset operand e = cc
alone_is_of verbs.Restore keywords.Include operand e = cc
alone_is_of verbs.Restore keywords.Exclude operand e = cc
alone_is_of verbs.Restore keywords.By operand e = cc
alone_is_of verbs.Restore keywords.Index operand e = cc
alone_is_of verbs.Restore keywords.Limit operand e = cc
alone_is_of verbs.Restore keywords.Delete operand e = let same : operand ≡ operands.Delete = cc in says_of verbs.Restore operands.Delete operand same refl
alone_is_of verbs.Restore keywords.Purge operand e = let same : operand ≡ operands.Purge = cc in says_of verbs.Restore operands.Purge operand same refl
alone_is_of verbs.Restore keywords.Reset operand e = let same : operand ≡ operands.Reset = cc in says_of verbs.Restore operands.Reset operand same refl
alone_is_of verbs.Restore keywords.Replace operand e = let same : operand ≡ operands.Replace = cc in says_of verbs.Restore operands.Replace operand same refl
alone_is_of verbs.Restore keywords.Rename operand e = cc
alone_is_of verbs.Restore keywords.Tolerate operand e = cc
alone_is_of verbs.Restore keywords.Wait operand e = cc
alone_is_of verbs.Restore keywords.Optimize operand e = cc

dataset_is_of : (verb : Verb) (filter : Filter) → is_of verb (operands.Dataset filter) ≡ true
dataset_is_of verbs.Print filter = refl
dataset_is_of verbs.Release filter = refl
dataset_is_of verbs.Consolidate filter = refl
dataset_is_of verbs.Defrag filter = refl
dataset_is_of verbs.Copy filter = refl
dataset_is_of verbs.Dump filter = refl
dataset_is_of verbs.Restore filter = refl

pub operand_is_of : (verb : Verb) (limited : Bool) (operand : Operand) (text : List Token) → IsOperand verb limited operand text → is_of verb operand ≡ true
operand_is_of verb limited operand text (inl (inl (keyword, a, w))) = alone_is_of verb keyword operand a
operand_is_of verb limited operand text (inl (inr (keyword, bracket, b, r))) = content_of verb limited bracket operand r.content (brackets_fit verb keyword bracket b) r.inside
operand_is_of verb limited operand text (inr (filter, is, r)) = says_of verb (operands.Dataset filter) operand is (dataset_is_of verb filter)

pub series_is_of : (verb : Verb) (limited : Bool) (list : List Operand) (text : List Token) → IsSeriesOf (IsOperand verb limited) list text → are_of verb list ≡ true
series_is_of verb limited [] text s = refl
series_is_of verb limited (operand ∷ []) text s = and_from (is_of verb operand) true (operand_is_of verb limited operand text s) refl
series_is_of verb limited (operand ∷ second ∷ list) text (first, rest, joined, s, more) =
    and_from (is_of verb operand) (are_of verb (second ∷ list)) (operand_is_of verb limited operand first s) (series_is_of verb limited (second ∷ list) rest more)

-- ---- what stands is said

pub has_vtoc : (list : List Operand) → one_clashes list keywords.Vtoc ≡ true → (said list).vtoc ≡ true
has_vtoc [] e = cc
has_vtoc (operands.Vtoc ∷ list) e = refl
has_vtoc (operands.Full ∷ list) e = has_vtoc list e
has_vtoc ((operands.Unit unit) ∷ list) e = has_vtoc list e
has_vtoc ((operands.LogicalUnit unit) ∷ list) e = has_vtoc list e
has_vtoc ((operands.Input input) ∷ list) e = has_vtoc list e
has_vtoc ((operands.Target unit) ∷ list) e = has_vtoc list e
has_vtoc ((operands.Outputs names) ∷ list) e = has_vtoc list e
has_vtoc ((operands.Dataset filter) ∷ list) e = has_vtoc list e
has_vtoc ((operands.Include patterns) ∷ list) e = has_vtoc list e
has_vtoc ((operands.Exclude patterns) ∷ list) e = has_vtoc list e
has_vtoc ((operands.By criteria) ∷ list) e = has_vtoc list e
has_vtoc ((operands.Index number) ∷ list) e = has_vtoc list e
has_vtoc ((operands.Limit number) ∷ list) e = has_vtoc list e
has_vtoc (operands.Delete ∷ list) e = has_vtoc list e
has_vtoc (operands.Purge ∷ list) e = has_vtoc list e
has_vtoc (operands.Reset ∷ list) e = has_vtoc list e
has_vtoc (operands.Replace ∷ list) e = has_vtoc list e
has_vtoc ((operands.Rename rename) ∷ list) e = has_vtoc list e
has_vtoc (operands.Tolerate ∷ list) e = has_vtoc list e
has_vtoc (operands.Wait ∷ list) e = has_vtoc list e
has_vtoc (operands.Optimize ∷ list) e = has_vtoc list e

pub has_full : (list : List Operand) → one_clashes list keywords.Full ≡ true → (said list).full ≡ true
has_full [] e = cc
has_full (operands.Vtoc ∷ list) e = has_full list e
has_full (operands.Full ∷ list) e = refl
has_full ((operands.Unit unit) ∷ list) e = has_full list e
has_full ((operands.LogicalUnit unit) ∷ list) e = has_full list e
has_full ((operands.Input input) ∷ list) e = has_full list e
has_full ((operands.Target unit) ∷ list) e = has_full list e
has_full ((operands.Outputs names) ∷ list) e = has_full list e
has_full ((operands.Dataset filter) ∷ list) e = has_full list e
has_full ((operands.Include patterns) ∷ list) e = has_full list e
has_full ((operands.Exclude patterns) ∷ list) e = has_full list e
has_full ((operands.By criteria) ∷ list) e = has_full list e
has_full ((operands.Index number) ∷ list) e = has_full list e
has_full ((operands.Limit number) ∷ list) e = has_full list e
has_full (operands.Delete ∷ list) e = has_full list e
has_full (operands.Purge ∷ list) e = has_full list e
has_full (operands.Reset ∷ list) e = has_full list e
has_full (operands.Replace ∷ list) e = has_full list e
has_full ((operands.Rename rename) ∷ list) e = has_full list e
has_full (operands.Tolerate ∷ list) e = has_full list e
has_full (operands.Wait ∷ list) e = has_full list e
has_full (operands.Optimize ∷ list) e = has_full list e

pub has_unit : (verb : Verb) → ((value : DdName) → is_of verb (operands.Input value) ≡ false) → (list : List Operand) → are_of verb list ≡ true → one_clashes list keywords.Input ≡ true → (value : Serial) × ((said list).unit ≡ Some value)
has_unit verb none [] kinds e = cc
has_unit verb none (operands.Vtoc ∷ list) kinds e = has_unit verb none list (and_second (is_of verb operands.Vtoc) (are_of verb list) kinds) e
has_unit verb none (operands.Full ∷ list) kinds e = has_unit verb none list (and_second (is_of verb operands.Full) (are_of verb list) kinds) e
has_unit verb none ((operands.Unit unit) ∷ list) kinds e = (unit, refl)
has_unit verb none ((operands.LogicalUnit unit) ∷ list) kinds e = (unit, refl)
has_unit verb none ((operands.Input input) ∷ list) kinds e = let this = and_first (is_of verb (operands.Input input)) (are_of verb list) kinds in let not_this = none input in cc
has_unit verb none ((operands.Target unit) ∷ list) kinds e = has_unit verb none list (and_second (is_of verb (operands.Target unit)) (are_of verb list) kinds) e
has_unit verb none ((operands.Outputs names) ∷ list) kinds e = has_unit verb none list (and_second (is_of verb (operands.Outputs names)) (are_of verb list) kinds) e
has_unit verb none ((operands.Dataset filter) ∷ list) kinds e = has_unit verb none list (and_second (is_of verb (operands.Dataset filter)) (are_of verb list) kinds) e
has_unit verb none ((operands.Include patterns) ∷ list) kinds e = has_unit verb none list (and_second (is_of verb (operands.Include patterns)) (are_of verb list) kinds) e
has_unit verb none ((operands.Exclude patterns) ∷ list) kinds e = has_unit verb none list (and_second (is_of verb (operands.Exclude patterns)) (are_of verb list) kinds) e
has_unit verb none ((operands.By criteria) ∷ list) kinds e = has_unit verb none list (and_second (is_of verb (operands.By criteria)) (are_of verb list) kinds) e
has_unit verb none ((operands.Index number) ∷ list) kinds e = has_unit verb none list (and_second (is_of verb (operands.Index number)) (are_of verb list) kinds) e
has_unit verb none ((operands.Limit number) ∷ list) kinds e = has_unit verb none list (and_second (is_of verb (operands.Limit number)) (are_of verb list) kinds) e
has_unit verb none (operands.Delete ∷ list) kinds e = has_unit verb none list (and_second (is_of verb operands.Delete) (are_of verb list) kinds) e
has_unit verb none (operands.Purge ∷ list) kinds e = has_unit verb none list (and_second (is_of verb operands.Purge) (are_of verb list) kinds) e
has_unit verb none (operands.Reset ∷ list) kinds e = has_unit verb none list (and_second (is_of verb operands.Reset) (are_of verb list) kinds) e
has_unit verb none (operands.Replace ∷ list) kinds e = has_unit verb none list (and_second (is_of verb operands.Replace) (are_of verb list) kinds) e
has_unit verb none ((operands.Rename rename) ∷ list) kinds e = has_unit verb none list (and_second (is_of verb (operands.Rename rename)) (are_of verb list) kinds) e
has_unit verb none (operands.Tolerate ∷ list) kinds e = has_unit verb none list (and_second (is_of verb operands.Tolerate) (are_of verb list) kinds) e
has_unit verb none (operands.Wait ∷ list) kinds e = has_unit verb none list (and_second (is_of verb operands.Wait) (are_of verb list) kinds) e
has_unit verb none (operands.Optimize ∷ list) kinds e = has_unit verb none list (and_second (is_of verb operands.Optimize) (are_of verb list) kinds) e

pub has_target : (verb : Verb) → ((value : List DdName) → is_of verb (operands.Outputs value) ≡ false) → (list : List Operand) → are_of verb list ≡ true → one_clashes list keywords.Output ≡ true → (value : Serial) × ((said list).target ≡ Some value)
has_target verb none [] kinds e = cc
has_target verb none (operands.Vtoc ∷ list) kinds e = has_target verb none list (and_second (is_of verb operands.Vtoc) (are_of verb list) kinds) e
has_target verb none (operands.Full ∷ list) kinds e = has_target verb none list (and_second (is_of verb operands.Full) (are_of verb list) kinds) e
has_target verb none ((operands.Unit unit) ∷ list) kinds e = has_target verb none list (and_second (is_of verb (operands.Unit unit)) (are_of verb list) kinds) e
has_target verb none ((operands.LogicalUnit unit) ∷ list) kinds e = has_target verb none list (and_second (is_of verb (operands.LogicalUnit unit)) (are_of verb list) kinds) e
has_target verb none ((operands.Input input) ∷ list) kinds e = has_target verb none list (and_second (is_of verb (operands.Input input)) (are_of verb list) kinds) e
has_target verb none ((operands.Target unit) ∷ list) kinds e = (unit, refl)
has_target verb none ((operands.Outputs names) ∷ list) kinds e = let this = and_first (is_of verb (operands.Outputs names)) (are_of verb list) kinds in let not_this = none names in cc
has_target verb none ((operands.Dataset filter) ∷ list) kinds e = has_target verb none list (and_second (is_of verb (operands.Dataset filter)) (are_of verb list) kinds) e
has_target verb none ((operands.Include patterns) ∷ list) kinds e = has_target verb none list (and_second (is_of verb (operands.Include patterns)) (are_of verb list) kinds) e
has_target verb none ((operands.Exclude patterns) ∷ list) kinds e = has_target verb none list (and_second (is_of verb (operands.Exclude patterns)) (are_of verb list) kinds) e
has_target verb none ((operands.By criteria) ∷ list) kinds e = has_target verb none list (and_second (is_of verb (operands.By criteria)) (are_of verb list) kinds) e
has_target verb none ((operands.Index number) ∷ list) kinds e = has_target verb none list (and_second (is_of verb (operands.Index number)) (are_of verb list) kinds) e
has_target verb none ((operands.Limit number) ∷ list) kinds e = has_target verb none list (and_second (is_of verb (operands.Limit number)) (are_of verb list) kinds) e
has_target verb none (operands.Delete ∷ list) kinds e = has_target verb none list (and_second (is_of verb operands.Delete) (are_of verb list) kinds) e
has_target verb none (operands.Purge ∷ list) kinds e = has_target verb none list (and_second (is_of verb operands.Purge) (are_of verb list) kinds) e
has_target verb none (operands.Reset ∷ list) kinds e = has_target verb none list (and_second (is_of verb operands.Reset) (are_of verb list) kinds) e
has_target verb none (operands.Replace ∷ list) kinds e = has_target verb none list (and_second (is_of verb operands.Replace) (are_of verb list) kinds) e
has_target verb none ((operands.Rename rename) ∷ list) kinds e = has_target verb none list (and_second (is_of verb (operands.Rename rename)) (are_of verb list) kinds) e
has_target verb none (operands.Tolerate ∷ list) kinds e = has_target verb none list (and_second (is_of verb operands.Tolerate) (are_of verb list) kinds) e
has_target verb none (operands.Wait ∷ list) kinds e = has_target verb none list (and_second (is_of verb operands.Wait) (are_of verb list) kinds) e
has_target verb none (operands.Optimize ∷ list) kinds e = has_target verb none list (and_second (is_of verb operands.Optimize) (are_of verb list) kinds) e

pub has_outputs : (verb : Verb) → ((value : Serial) → is_of verb (operands.Target value) ≡ false) → (list : List Operand) → are_of verb list ≡ true → one_clashes list keywords.Output ≡ true → (value : List DdName) × ((said list).outs ≡ Some value)
has_outputs verb none [] kinds e = cc
has_outputs verb none (operands.Vtoc ∷ list) kinds e = has_outputs verb none list (and_second (is_of verb operands.Vtoc) (are_of verb list) kinds) e
has_outputs verb none (operands.Full ∷ list) kinds e = has_outputs verb none list (and_second (is_of verb operands.Full) (are_of verb list) kinds) e
has_outputs verb none ((operands.Unit unit) ∷ list) kinds e = has_outputs verb none list (and_second (is_of verb (operands.Unit unit)) (are_of verb list) kinds) e
has_outputs verb none ((operands.LogicalUnit unit) ∷ list) kinds e = has_outputs verb none list (and_second (is_of verb (operands.LogicalUnit unit)) (are_of verb list) kinds) e
has_outputs verb none ((operands.Input input) ∷ list) kinds e = has_outputs verb none list (and_second (is_of verb (operands.Input input)) (are_of verb list) kinds) e
has_outputs verb none ((operands.Target unit) ∷ list) kinds e = let this = and_first (is_of verb (operands.Target unit)) (are_of verb list) kinds in let not_this = none unit in cc
has_outputs verb none ((operands.Outputs names) ∷ list) kinds e = (names, refl)
has_outputs verb none ((operands.Dataset filter) ∷ list) kinds e = has_outputs verb none list (and_second (is_of verb (operands.Dataset filter)) (are_of verb list) kinds) e
has_outputs verb none ((operands.Include patterns) ∷ list) kinds e = has_outputs verb none list (and_second (is_of verb (operands.Include patterns)) (are_of verb list) kinds) e
has_outputs verb none ((operands.Exclude patterns) ∷ list) kinds e = has_outputs verb none list (and_second (is_of verb (operands.Exclude patterns)) (are_of verb list) kinds) e
has_outputs verb none ((operands.By criteria) ∷ list) kinds e = has_outputs verb none list (and_second (is_of verb (operands.By criteria)) (are_of verb list) kinds) e
has_outputs verb none ((operands.Index number) ∷ list) kinds e = has_outputs verb none list (and_second (is_of verb (operands.Index number)) (are_of verb list) kinds) e
has_outputs verb none ((operands.Limit number) ∷ list) kinds e = has_outputs verb none list (and_second (is_of verb (operands.Limit number)) (are_of verb list) kinds) e
has_outputs verb none (operands.Delete ∷ list) kinds e = has_outputs verb none list (and_second (is_of verb operands.Delete) (are_of verb list) kinds) e
has_outputs verb none (operands.Purge ∷ list) kinds e = has_outputs verb none list (and_second (is_of verb operands.Purge) (are_of verb list) kinds) e
has_outputs verb none (operands.Reset ∷ list) kinds e = has_outputs verb none list (and_second (is_of verb operands.Reset) (are_of verb list) kinds) e
has_outputs verb none (operands.Replace ∷ list) kinds e = has_outputs verb none list (and_second (is_of verb operands.Replace) (are_of verb list) kinds) e
has_outputs verb none ((operands.Rename rename) ∷ list) kinds e = has_outputs verb none list (and_second (is_of verb (operands.Rename rename)) (are_of verb list) kinds) e
has_outputs verb none (operands.Tolerate ∷ list) kinds e = has_outputs verb none list (and_second (is_of verb operands.Tolerate) (are_of verb list) kinds) e
has_outputs verb none (operands.Wait ∷ list) kinds e = has_outputs verb none list (and_second (is_of verb operands.Wait) (are_of verb list) kinds) e
has_outputs verb none (operands.Optimize ∷ list) kinds e = has_outputs verb none list (and_second (is_of verb operands.Optimize) (are_of verb list) kinds) e

pub has_input : (form : Form) → is_one_of (keywords_of form) keywords.LogicalInput ≡ false → (list : List Operand) → takes_all form list ≡ true → are_of verbs.Restore list ≡ true → one_clashes list keywords.Input ≡ true
    → (value : DdName) × ((said list).input ≡ Some value)
has_input form none [] all kinds e = cc
has_input form none (operands.Vtoc ∷ list) all kinds e = has_input form none list (and_second (is_one_of (keywords_of form) (name_of operands.Vtoc)) (takes_all form list) all) (and_second (is_of verbs.Restore operands.Vtoc) (are_of verbs.Restore list) kinds) e
has_input form none (operands.Full ∷ list) all kinds e = has_input form none list (and_second (is_one_of (keywords_of form) (name_of operands.Full)) (takes_all form list) all) (and_second (is_of verbs.Restore operands.Full) (are_of verbs.Restore list) kinds) e
has_input form none ((operands.Unit unit) ∷ list) all kinds e = cc
has_input form none ((operands.LogicalUnit unit) ∷ list) all kinds e = let this = and_first (is_one_of (keywords_of form) keywords.LogicalInput) (takes_all form list) all in cc
has_input form none ((operands.Input input) ∷ list) all kinds e = (input, refl)
has_input form none ((operands.Target unit) ∷ list) all kinds e = has_input form none list (and_second (is_one_of (keywords_of form) (name_of (operands.Target unit))) (takes_all form list) all) (and_second (is_of verbs.Restore (operands.Target unit)) (are_of verbs.Restore list) kinds) e
has_input form none ((operands.Outputs names) ∷ list) all kinds e = has_input form none list (and_second (is_one_of (keywords_of form) (name_of (operands.Outputs names))) (takes_all form list) all) (and_second (is_of verbs.Restore (operands.Outputs names)) (are_of verbs.Restore list) kinds) e
has_input form none ((operands.Dataset filter) ∷ list) all kinds e = has_input form none list (and_second (is_one_of (keywords_of form) (name_of (operands.Dataset filter))) (takes_all form list) all) (and_second (is_of verbs.Restore (operands.Dataset filter)) (are_of verbs.Restore list) kinds) e
has_input form none ((operands.Include patterns) ∷ list) all kinds e = has_input form none list (and_second (is_one_of (keywords_of form) (name_of (operands.Include patterns))) (takes_all form list) all) (and_second (is_of verbs.Restore (operands.Include patterns)) (are_of verbs.Restore list) kinds) e
has_input form none ((operands.Exclude patterns) ∷ list) all kinds e = has_input form none list (and_second (is_one_of (keywords_of form) (name_of (operands.Exclude patterns))) (takes_all form list) all) (and_second (is_of verbs.Restore (operands.Exclude patterns)) (are_of verbs.Restore list) kinds) e
has_input form none ((operands.By criteria) ∷ list) all kinds e = has_input form none list (and_second (is_one_of (keywords_of form) (name_of (operands.By criteria))) (takes_all form list) all) (and_second (is_of verbs.Restore (operands.By criteria)) (are_of verbs.Restore list) kinds) e
has_input form none ((operands.Index number) ∷ list) all kinds e = has_input form none list (and_second (is_one_of (keywords_of form) (name_of (operands.Index number))) (takes_all form list) all) (and_second (is_of verbs.Restore (operands.Index number)) (are_of verbs.Restore list) kinds) e
has_input form none ((operands.Limit number) ∷ list) all kinds e = has_input form none list (and_second (is_one_of (keywords_of form) (name_of (operands.Limit number))) (takes_all form list) all) (and_second (is_of verbs.Restore (operands.Limit number)) (are_of verbs.Restore list) kinds) e
has_input form none (operands.Delete ∷ list) all kinds e = has_input form none list (and_second (is_one_of (keywords_of form) (name_of operands.Delete)) (takes_all form list) all) (and_second (is_of verbs.Restore operands.Delete) (are_of verbs.Restore list) kinds) e
has_input form none (operands.Purge ∷ list) all kinds e = has_input form none list (and_second (is_one_of (keywords_of form) (name_of operands.Purge)) (takes_all form list) all) (and_second (is_of verbs.Restore operands.Purge) (are_of verbs.Restore list) kinds) e
has_input form none (operands.Reset ∷ list) all kinds e = has_input form none list (and_second (is_one_of (keywords_of form) (name_of operands.Reset)) (takes_all form list) all) (and_second (is_of verbs.Restore operands.Reset) (are_of verbs.Restore list) kinds) e
has_input form none (operands.Replace ∷ list) all kinds e = has_input form none list (and_second (is_one_of (keywords_of form) (name_of operands.Replace)) (takes_all form list) all) (and_second (is_of verbs.Restore operands.Replace) (are_of verbs.Restore list) kinds) e
has_input form none ((operands.Rename rename) ∷ list) all kinds e = has_input form none list (and_second (is_one_of (keywords_of form) (name_of (operands.Rename rename))) (takes_all form list) all) (and_second (is_of verbs.Restore (operands.Rename rename)) (are_of verbs.Restore list) kinds) e
has_input form none (operands.Tolerate ∷ list) all kinds e = has_input form none list (and_second (is_one_of (keywords_of form) (name_of operands.Tolerate)) (takes_all form list) all) (and_second (is_of verbs.Restore operands.Tolerate) (are_of verbs.Restore list) kinds) e
has_input form none (operands.Wait ∷ list) all kinds e = has_input form none list (and_second (is_one_of (keywords_of form) (name_of operands.Wait)) (takes_all form list) all) (and_second (is_of verbs.Restore operands.Wait) (are_of verbs.Restore list) kinds) e
has_input form none (operands.Optimize ∷ list) all kinds e = has_input form none list (and_second (is_one_of (keywords_of form) (name_of operands.Optimize)) (takes_all form list) all) (and_second (is_of verbs.Restore operands.Optimize) (are_of verbs.Restore list) kinds) e

-- DATASET stands, or a part of a filter
abbrev pub HasFilter : List Operand → Type 0
HasFilter list = ((filter : Filter) × ((said list).filter ≡ Some filter)) ⊎ (((said list).filter ≡ None) × (has_parts (said list) ≡ true))

is_there : (filter : Option Filter) → ((value : Filter) × (filter ≡ Some value)) ⊎ (filter ≡ None)
is_there (Some value) = inl (value, refl)
is_there None = inr refl

one_part : (list : List Operand) → has_parts (said list) ≡ true → HasFilter list
one_part list part = elim (is_there (said list).filter) [
  | inl some ↦ inl some
  | inr none ↦ inr (none, part)
]

some_of : (a b c : Bool) → (a ≡ true) ⊎ ((b ≡ true) ⊎ (c ≡ true)) → (a || b || c) ≡ true
some_of true b c e = refl
some_of false true c e = refl
some_of false false true e = refl
some_of false false false (inl e) = e
some_of false false false (inr (inl e)) = e
some_of false false false (inr (inr e)) = e

pub has_filter : (list : List Operand) → one_clashes list keywords.Dataset ≡ true → HasFilter list
has_filter [] e = cc
has_filter (operands.Vtoc ∷ list) e = has_filter list e
has_filter (operands.Full ∷ list) e = has_filter list e
has_filter ((operands.Unit unit) ∷ list) e = has_filter list e
has_filter ((operands.LogicalUnit unit) ∷ list) e = has_filter list e
has_filter ((operands.Input input) ∷ list) e = has_filter list e
has_filter ((operands.Target unit) ∷ list) e = has_filter list e
has_filter ((operands.Outputs names) ∷ list) e = has_filter list e
has_filter ((operands.Dataset filter) ∷ list) e = inl (filter, refl)
has_filter ((operands.Include patterns) ∷ list) e = one_part ((operands.Include patterns) ∷ list) refl
has_filter ((operands.Exclude patterns) ∷ list) e = one_part ((operands.Exclude patterns) ∷ list) (some_of (is_some (said list).include) true (is_some (said list).by) (inr (inl refl)))
has_filter ((operands.By criteria) ∷ list) e = one_part ((operands.By criteria) ∷ list) (some_of (is_some (said list).include) (is_some (said list).exclude) true (inr (inr refl)))
has_filter ((operands.Index number) ∷ list) e = has_filter list e
has_filter ((operands.Limit number) ∷ list) e = has_filter list e
has_filter (operands.Delete ∷ list) e = has_filter list e
has_filter (operands.Purge ∷ list) e = has_filter list e
has_filter (operands.Reset ∷ list) e = has_filter list e
has_filter (operands.Replace ∷ list) e = has_filter list e
has_filter ((operands.Rename rename) ∷ list) e = has_filter list e
has_filter (operands.Tolerate ∷ list) e = has_filter list e
has_filter (operands.Wait ∷ list) e = has_filter list e
has_filter (operands.Optimize ∷ list) e = has_filter list e

-- a form that has no parts of a filter
abbrev pub has_no_parts : Form → Bool
has_no_parts forms.Release = false
has_no_parts _ = true

no_part : (form : Form) → has_no_parts form ≡ true → (is_one_of (keywords_of form) keywords.Include ≡ false) × (is_one_of (keywords_of form) keywords.Exclude ≡ false) × (is_one_of (keywords_of form) keywords.By ≡ false)
no_part forms.Print e = (refl, refl, refl)
no_part forms.Release e = cc
no_part forms.Consolidate e = (refl, refl, refl)
no_part forms.Defrag e = (refl, refl, refl)
no_part forms.Copy e = (refl, refl, refl)
no_part forms.DumpDataset e = (refl, refl, refl)
no_part forms.DumpFull e = (refl, refl, refl)
no_part forms.RestoreDataset e = (refl, refl, refl)
no_part forms.RestoreFull e = (refl, refl, refl)

pub has_dataset : (form : Form) → has_no_parts form ≡ true → (list : List Operand) → takes_all form list ≡ true → one_clashes list keywords.Dataset ≡ true → (filter : Filter) × ((said list).filter ≡ Some filter)
has_dataset form none [] all e = cc
has_dataset form none (operands.Vtoc ∷ list) all e = has_dataset form none list (and_second (is_one_of (keywords_of form) (name_of operands.Vtoc)) (takes_all form list) all) e
has_dataset form none (operands.Full ∷ list) all e = has_dataset form none list (and_second (is_one_of (keywords_of form) (name_of operands.Full)) (takes_all form list) all) e
has_dataset form none ((operands.Unit unit) ∷ list) all e = has_dataset form none list (and_second (is_one_of (keywords_of form) (name_of (operands.Unit unit))) (takes_all form list) all) e
has_dataset form none ((operands.LogicalUnit unit) ∷ list) all e = has_dataset form none list (and_second (is_one_of (keywords_of form) (name_of (operands.LogicalUnit unit))) (takes_all form list) all) e
has_dataset form none ((operands.Input input) ∷ list) all e = has_dataset form none list (and_second (is_one_of (keywords_of form) (name_of (operands.Input input))) (takes_all form list) all) e
has_dataset form none ((operands.Target unit) ∷ list) all e = has_dataset form none list (and_second (is_one_of (keywords_of form) (name_of (operands.Target unit))) (takes_all form list) all) e
has_dataset form none ((operands.Outputs names) ∷ list) all e = has_dataset form none list (and_second (is_one_of (keywords_of form) (name_of (operands.Outputs names))) (takes_all form list) all) e
has_dataset form none ((operands.Dataset filter) ∷ list) all e = (filter, refl)
has_dataset form none ((operands.Include patterns) ∷ list) all e = let this = and_first (is_one_of (keywords_of form) keywords.Include) (takes_all form list) all in let not_this = (no_part form none).0 in cc
has_dataset form none ((operands.Exclude patterns) ∷ list) all e = let this = and_first (is_one_of (keywords_of form) keywords.Exclude) (takes_all form list) all in let not_this = (no_part form none).1 in cc
has_dataset form none ((operands.By criteria) ∷ list) all e = let this = and_first (is_one_of (keywords_of form) keywords.By) (takes_all form list) all in let not_this = (no_part form none).2 in cc
has_dataset form none ((operands.Index number) ∷ list) all e = has_dataset form none list (and_second (is_one_of (keywords_of form) (name_of (operands.Index number))) (takes_all form list) all) e
has_dataset form none ((operands.Limit number) ∷ list) all e = has_dataset form none list (and_second (is_one_of (keywords_of form) (name_of (operands.Limit number))) (takes_all form list) all) e
has_dataset form none (operands.Delete ∷ list) all e = has_dataset form none list (and_second (is_one_of (keywords_of form) (name_of operands.Delete)) (takes_all form list) all) e
has_dataset form none (operands.Purge ∷ list) all e = has_dataset form none list (and_second (is_one_of (keywords_of form) (name_of operands.Purge)) (takes_all form list) all) e
has_dataset form none (operands.Reset ∷ list) all e = has_dataset form none list (and_second (is_one_of (keywords_of form) (name_of operands.Reset)) (takes_all form list) all) e
has_dataset form none (operands.Replace ∷ list) all e = has_dataset form none list (and_second (is_one_of (keywords_of form) (name_of operands.Replace)) (takes_all form list) all) e
has_dataset form none ((operands.Rename rename) ∷ list) all e = has_dataset form none list (and_second (is_one_of (keywords_of form) (name_of (operands.Rename rename))) (takes_all form list) all) e
has_dataset form none (operands.Tolerate ∷ list) all e = has_dataset form none list (and_second (is_one_of (keywords_of form) (name_of operands.Tolerate)) (takes_all form list) all) e
has_dataset form none (operands.Wait ∷ list) all e = has_dataset form none list (and_second (is_one_of (keywords_of form) (name_of operands.Wait)) (takes_all form list) all) e
has_dataset form none (operands.Optimize ∷ list) all e = has_dataset form none list (and_second (is_one_of (keywords_of form) (name_of operands.Optimize)) (takes_all form list) all) e

-- ---- FULL

pub full_stands : (list : List Operand) → (said list).full ≡ true → has keywords.Full list ≡ true
full_stands [] e = cc
full_stands (operands.Vtoc ∷ list) e = full_stands list e
full_stands (operands.Full ∷ list) e = refl
full_stands ((operands.Unit unit) ∷ list) e = full_stands list e
full_stands ((operands.LogicalUnit unit) ∷ list) e = full_stands list e
full_stands ((operands.Input input) ∷ list) e = full_stands list e
full_stands ((operands.Target unit) ∷ list) e = full_stands list e
full_stands ((operands.Outputs names) ∷ list) e = full_stands list e
full_stands ((operands.Dataset filter) ∷ list) e = full_stands list e
full_stands ((operands.Include patterns) ∷ list) e = full_stands list e
full_stands ((operands.Exclude patterns) ∷ list) e = full_stands list e
full_stands ((operands.By criteria) ∷ list) e = full_stands list e
full_stands ((operands.Index number) ∷ list) e = full_stands list e
full_stands ((operands.Limit number) ∷ list) e = full_stands list e
full_stands (operands.Delete ∷ list) e = full_stands list e
full_stands (operands.Purge ∷ list) e = full_stands list e
full_stands (operands.Reset ∷ list) e = full_stands list e
full_stands (operands.Replace ∷ list) e = full_stands list e
full_stands ((operands.Rename rename) ∷ list) e = full_stands list e
full_stands (operands.Tolerate ∷ list) e = full_stands list e
full_stands (operands.Wait ∷ list) e = full_stands list e
full_stands (operands.Optimize ∷ list) e = full_stands list e

pub no_full : (form : Form) → is_one_of (keywords_of form) keywords.Full ≡ false → (list : List Operand) → takes_all form list ≡ true → has keywords.Full list ≡ false
no_full form none [] all = refl
no_full form none (operands.Vtoc ∷ list) all = no_full form none list (and_second (is_one_of (keywords_of form) (name_of operands.Vtoc)) (takes_all form list) all)
no_full form none (operands.Full ∷ list) all = let this = and_first (is_one_of (keywords_of form) keywords.Full) (takes_all form list) all in cc
no_full form none ((operands.Unit unit) ∷ list) all = no_full form none list (and_second (is_one_of (keywords_of form) (name_of (operands.Unit unit))) (takes_all form list) all)
no_full form none ((operands.LogicalUnit unit) ∷ list) all = no_full form none list (and_second (is_one_of (keywords_of form) (name_of (operands.LogicalUnit unit))) (takes_all form list) all)
no_full form none ((operands.Input input) ∷ list) all = no_full form none list (and_second (is_one_of (keywords_of form) (name_of (operands.Input input))) (takes_all form list) all)
no_full form none ((operands.Target unit) ∷ list) all = no_full form none list (and_second (is_one_of (keywords_of form) (name_of (operands.Target unit))) (takes_all form list) all)
no_full form none ((operands.Outputs names) ∷ list) all = no_full form none list (and_second (is_one_of (keywords_of form) (name_of (operands.Outputs names))) (takes_all form list) all)
no_full form none ((operands.Dataset filter) ∷ list) all = no_full form none list (and_second (is_one_of (keywords_of form) (name_of (operands.Dataset filter))) (takes_all form list) all)
no_full form none ((operands.Include patterns) ∷ list) all = no_full form none list (and_second (is_one_of (keywords_of form) (name_of (operands.Include patterns))) (takes_all form list) all)
no_full form none ((operands.Exclude patterns) ∷ list) all = no_full form none list (and_second (is_one_of (keywords_of form) (name_of (operands.Exclude patterns))) (takes_all form list) all)
no_full form none ((operands.By criteria) ∷ list) all = no_full form none list (and_second (is_one_of (keywords_of form) (name_of (operands.By criteria))) (takes_all form list) all)
no_full form none ((operands.Index number) ∷ list) all = no_full form none list (and_second (is_one_of (keywords_of form) (name_of (operands.Index number))) (takes_all form list) all)
no_full form none ((operands.Limit number) ∷ list) all = no_full form none list (and_second (is_one_of (keywords_of form) (name_of (operands.Limit number))) (takes_all form list) all)
no_full form none (operands.Delete ∷ list) all = no_full form none list (and_second (is_one_of (keywords_of form) (name_of operands.Delete)) (takes_all form list) all)
no_full form none (operands.Purge ∷ list) all = no_full form none list (and_second (is_one_of (keywords_of form) (name_of operands.Purge)) (takes_all form list) all)
no_full form none (operands.Reset ∷ list) all = no_full form none list (and_second (is_one_of (keywords_of form) (name_of operands.Reset)) (takes_all form list) all)
no_full form none (operands.Replace ∷ list) all = no_full form none list (and_second (is_one_of (keywords_of form) (name_of operands.Replace)) (takes_all form list) all)
no_full form none ((operands.Rename rename) ∷ list) all = no_full form none list (and_second (is_one_of (keywords_of form) (name_of (operands.Rename rename))) (takes_all form list) all)
no_full form none (operands.Tolerate ∷ list) all = no_full form none list (and_second (is_one_of (keywords_of form) (name_of operands.Tolerate)) (takes_all form list) all)
no_full form none (operands.Wait ∷ list) all = no_full form none list (and_second (is_one_of (keywords_of form) (name_of operands.Wait)) (takes_all form list) all)
no_full form none (operands.Optimize ∷ list) all = no_full form none list (and_second (is_one_of (keywords_of form) (name_of operands.Optimize)) (takes_all form list) all)
