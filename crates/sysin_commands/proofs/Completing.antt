-- Operands that stand together go on to a command.
use Rattle.std.proofs.Common.{◌≡◌, inl, inr, List, [], ◌∷◌, ◌++◌, refl, sym, ap, subst, ◌∙◌, Bool, true, false, Some, append_assoc, append-nil}
use Rattle.std.specs.Prelude.{unwrap_or}
use Rattle.std.proofs.lemmas.List.Folds.{list_any-append}
use Rattle.sysin_text.specs.declared.token.Token.{Token}
use Rattle.sysin_words.specs.declared.keyword.Keyword.{Keyword}
use Rattle.sysin_words.specs.declared.keyword.Keyword.TheVariants as keywords
use Rattle.sysin_words.specs.declared.lead.Verb.{Verb}
use Rattle.sysin_words.specs.declared.lead.Verb.TheVariants as verbs
use Rattle.dsn_filter.specs.declared.rename.Rename.TheVariants as renames
use Rattle.sysin_lang.specs.declared.command.Command.{Command}
use Rattle.sysin_lang.specs.declared.command.Command.TheVariants as commands
use Rattle.sysin_forms.specs.declared.form.Form.{Form}
use Rattle.sysin_forms.specs.declared.form.Form.TheVariants as forms
use Rattle.sysin_forms.specs.declared.operand.Operand.{Operand}
use Rattle.sysin_forms.specs.Operand.{name_of, clash, StandOnce}
use Rattle.sysin_forms.specs.Form.{form_of, verb_of_form, keywords_of, is_one_of}
use Rattle.sysin_forms.specs.Made.{said, filter_made, IsMadeOf}
use Rattle.sysin_values.specs.Begun.{CanGoOn}
use Rattle.sysin_filters.specs.Filter.{IsSeriesOf}
use Rattle.sysin_filters.proofs.Series.{StandBefore, series_more}
use Rattle.sysin_filters.proofs.Once.{once_more}
use Rattle.sysin_commands.specs.Operand.{IsOperand}
use Rattle.sysin_commands.specs.Command.{takes_all, IsCommand}
use Rattle.sysin_commands.specs.CommandProgress.{one_clashes}
use Rattle.sysin_commands.proofs.Agreeing.{loosen_to}
use Rattle.sysin_commands.proofs.Standing.{clash_self, takes_more}
use Rattle.sysin_commands.proofs.Saying.{are_of, series_is_of, has_vtoc, has_full, has_unit, has_target, has_outputs, has_input, HasFilter, has_filter, has_dataset}
use Rattle.sysin_commands.proofs.Samples.{sample}
use Rattle.std.proofs.lemmas.Bool.{or_right, or_left}

-- operands of a form, each once
pub record Stand (verb : Verb) (limited : Bool) (form : Form) (list : List Operand) (text : List Token) : Type 0 where
  pub series : IsSeriesOf (IsOperand verb limited) list text
  pub once : StandOnce list
  pub takes : takes_all form list ≡ true

before : (verb : Verb) (limited : Bool) (list : List Operand) (text : List Token) → IsSeriesOf (IsOperand verb limited) list text → StandBefore (IsOperand verb limited) list text
before verb limited [] text s = inl (refl, s)
before verb limited (operand ∷ list) text s = inr ((λ e. cc), inl s)

-- one of these clashes with each of the keywords
abbrev pub Have : List Operand → List Keyword → Type 0
Have list [] = Unit {0}
Have list (keyword ∷ more) = (one_clashes list keyword ≡ true) × Have list more

abbrev pub Takes : Form → List Keyword → Type 0
Takes form [] = Unit {0}
Takes form (keyword ∷ more) = (is_one_of (keywords_of form) keyword ≡ true) × Takes form more

kept : (list more : List Operand) (keyword : Keyword) → one_clashes list keyword ≡ true → one_clashes (list ++ more) keyword ≡ true
kept list more keyword e =
    list_any-append (λ (operand : Operand). clash (name_of operand) keyword) list more ∙ or_left (one_clashes list keyword) (one_clashes more keyword) e

last_clashes : (list : List Operand) (operand : Operand) (keyword : Keyword) → name_of operand ≡ keyword → one_clashes (list ++ operand ∷ []) keyword ≡ true
last_clashes list operand keyword e =
    list_any-append (λ (operand : Operand). clash (name_of operand) keyword) list (operand ∷ [])
    ∙ or_right (one_clashes list keyword) (one_clashes (operand ∷ []) keyword) (or_left (clash (name_of operand) keyword) false (ap (λ (name : Keyword). clash name keyword) e ∙ clash_self keyword))

-- more operands behind these
pub record Grown (verb : Verb) (limited : Bool) (form : Form) (list : List Operand) (text : List Token) (keywords : List Keyword) : Type 0 where
  pub others : List Operand
  pub rest : List Token
  pub stand : Stand verb limited form (list ++ others) (text ++ rest)
  pub have : Have (list ++ others) keywords

pub one_stands : (verb : Verb) (limited : Bool) (form : Form) (list : List Operand) (text more : List Token) (operand : Operand) → StandBefore (IsOperand verb limited) list text → StandOnce list
    → takes_all form list ≡ true → IsOperand verb limited operand more → is_one_of (keywords_of form) (name_of operand) ≡ true → one_clashes list (name_of operand) ≡ false
    → Stand verb limited form (list ++ operand ∷ []) (text ++ more)
one_stands verb limited form list text more operand come once all s one none =
    record { series = series_more (IsOperand verb limited) list operand text more come s; once = once_more list operand once none; takes = takes_more form list operand all one }

grow_one : (verb : Verb) (limited : Bool) (form : Form) (list : List Operand) (text : List Token) (keyword : Keyword) → Stand verb limited form list text → is_one_of (keywords_of form) keyword ≡ true
    → Grown verb limited form list text (keyword ∷ [])
grow_one verb limited form list text keyword s one = by_clash (one_clashes list keyword) refl
  where
    by_clash : (a : Bool) → one_clashes list keyword ≡ a → Grown verb limited form list text (keyword ∷ [])
    by_clash true e = record {
      others = [];
      rest = [];
      stand = subst (λ (l : List Operand). Stand verb limited form l (text ++ [])) (sym (append-nil list)) (subst (λ (t : List Token). Stand verb limited form list t) (sym (append-nil text)) s);
      have = (kept list [] keyword e, tt);
    }
    by_clash false e =
        let k = sample verb keyword in
        record {
          others = k.0 ∷ [];
          rest = k.1;
          stand = one_stands verb limited form list text k.1 k.0 (before verb limited list text s.series) s.once s.takes (loosen_to verb limited k.0 k.1 k.2)
              (ap (is_one_of (keywords_of form)) k.3 ∙ one) (ap (one_clashes list) k.3 ∙ e);
          have = (last_clashes list k.0 keyword k.3, tt);
        }

grow : (verb : Verb) (limited : Bool) (form : Form) (keywords : List Keyword) (list : List Operand) (text : List Token) → Stand verb limited form list text → Takes form keywords
    → Grown verb limited form list text keywords
grow verb limited form [] list text s t = record {
  others = [];
  rest = [];
  stand = subst (λ (l : List Operand). Stand verb limited form l (text ++ [])) (sym (append-nil list)) (subst (λ (t : List Token). Stand verb limited form list t) (sym (append-nil text)) s);
  have = tt;
}
grow verb limited form (keyword ∷ more) list text s t =
    let one = grow_one verb limited form list text keyword s t.0 in
    let all = grow verb limited form more (list ++ one.others) (text ++ one.rest) one.stand t.1 in
    let same : (list ++ one.others) ++ all.others ≡ list ++ (one.others ++ all.others) = append_assoc list one.others all.others in
    let tokens : (text ++ one.rest) ++ all.rest ≡ text ++ (one.rest ++ all.rest) = append_assoc text one.rest all.rest in
    record {
      others = one.others ++ all.others;
      rest = one.rest ++ all.rest;
      stand = subst (λ (l : List Operand). Stand verb limited form l (text ++ (one.rest ++ all.rest))) same
          (subst (λ (t : List Token). Stand verb limited form ((list ++ one.others) ++ all.others) t) tokens all.stand);
      have = subst (λ (l : List Operand). Have l (keyword ∷ more)) same (kept (list ++ one.others) all.others keyword one.have.0, all.have);
    }

-- ---- each form

-- what each form needs
needs : Form → List Keyword
needs forms.Print = keywords.Vtoc ∷ keywords.Input ∷ []
needs forms.Release = keywords.Dataset ∷ keywords.Input ∷ []
needs forms.Consolidate = keywords.Dataset ∷ keywords.Input ∷ []
needs forms.Defrag = keywords.Input ∷ []
needs forms.Copy = keywords.Dataset ∷ keywords.Input ∷ keywords.Output ∷ []
needs forms.DumpDataset = keywords.Dataset ∷ keywords.Input ∷ keywords.Output ∷ []
needs forms.DumpFull = keywords.Full ∷ keywords.Input ∷ keywords.Output ∷ []
needs forms.RestoreDataset = keywords.Dataset ∷ keywords.Input ∷ keywords.Output ∷ []
needs forms.RestoreFull = keywords.Full ∷ keywords.Input ∷ keywords.Output ∷ []

may_have : (form : Form) → Takes form (needs form)
unfolding needs
may_have forms.Print = (refl, (refl, tt))
may_have forms.Release = (refl, (refl, tt))
may_have forms.Consolidate = (refl, (refl, tt))
may_have forms.Defrag = (refl, tt)
may_have forms.Copy = (refl, (refl, (refl, tt)))
may_have forms.DumpDataset = (refl, (refl, (refl, tt)))
may_have forms.DumpFull = (refl, (refl, (refl, tt)))
may_have forms.RestoreDataset = (refl, (refl, (refl, tt)))
may_have forms.RestoreFull = (refl, (refl, (refl, tt)))

abbrev MakesOne : Form → List Operand → Type 0
MakesOne form list = (command : Command) × (form_of command ≡ form) × IsMadeOf command list

release_made : (list : List Operand) (unit : _) → (said list).unit ≡ Some unit → HasFilter list → MakesOne forms.Release list
release_made list unit u (inl (filter, f)) = (commands.Release filter unit, refl, (inl f, u))
release_made list unit u (inr (none, parts)) = (commands.Release (filter_made (said list)) unit, refl, (inr (none, parts, refl), u))

makes : (form : Form) (list : List Operand) → takes_all form list ≡ true → are_of (verb_of_form form) list ≡ true → Have list (needs form) → MakesOne form list
unfolding needs
makes forms.Print list all kinds (v, (i, more)) =
    let u = has_unit verbs.Print (λ value. refl) list kinds i in
    (commands.PrintVtoc u.0, refl, (has_vtoc list v, u.1))
makes forms.Release list all kinds (d, (i, more)) =
    let u = has_unit verbs.Release (λ value. refl) list kinds i in
    release_made list u.0 u.1 (has_filter list d)
makes forms.Consolidate list all kinds (d, (i, more)) =
    let f = has_dataset forms.Consolidate refl list all d in
    let u = has_unit verbs.Consolidate (λ value. refl) list kinds i in
    (commands.Consolidate f.0 u.0, refl, (f.1, u.1))
makes forms.Defrag list all kinds (i, more) =
    let u = has_unit verbs.Defrag (λ value. refl) list kinds i in
    (commands.Defrag u.0 (said list).index (said list).limit, refl, (u.1, refl, refl))
makes forms.Copy list all kinds (d, (i, (o, more))) =
    let f = has_dataset forms.Copy refl list all d in
    let u = has_unit verbs.Copy (λ value. refl) list kinds i in
    let t = has_target verbs.Copy (λ value. refl) list kinds o in
    let p = said list in
    (commands.Copy f.0 u.0 t.0 p.delete p.purge p.replace (unwrap_or p.rename renames.Keep) p.tolerate, refl, (f.1, u.1, t.1, refl, refl, refl, refl, refl))
makes forms.DumpDataset list all kinds (d, (i, (o, more))) =
    let f = has_dataset forms.DumpDataset refl list all d in
    let u = has_unit verbs.Dump (λ value. refl) list kinds i in
    let t = has_outputs verbs.Dump (λ value. refl) list kinds o in
    let p = said list in
    (commands.DumpDataset f.0 u.0 t.0 p.reset p.delete p.purge p.tolerate, refl, (f.1, u.1, t.1, refl, refl, refl, refl))
makes forms.DumpFull list all kinds (v, (i, (o, more))) =
    let u = has_unit verbs.Dump (λ value. refl) list kinds i in
    let t = has_outputs verbs.Dump (λ value. refl) list kinds o in
    (commands.DumpFull u.0 t.0, refl, (has_full list v, u.1, t.1))
makes forms.RestoreDataset list all kinds (d, (i, (o, more))) =
    let f = has_dataset forms.RestoreDataset refl list all d in
    let n = has_input forms.RestoreDataset refl list all kinds i in
    let t = has_target verbs.Restore (λ value. refl) list kinds o in
    let p = said list in
    (commands.RestoreDataset f.0 n.0 t.0 p.purge p.replace (unwrap_or p.rename renames.Keep), refl, (f.1, n.1, t.1, refl, refl, refl))
makes forms.RestoreFull list all kinds (v, (i, (o, more))) =
    let n = has_input forms.RestoreFull refl list all kinds i in
    let t = has_target verbs.Restore (λ value. refl) list kinds o in
    (commands.RestoreFull n.0 t.0 (said list).purge, refl, (has_full list v, n.1, t.1, refl))

-- operands of a form, each once, go on to a command
pub complete : (verb : Verb) (limited : Bool) (form : Form) (list : List Operand) (text : List Token) → verb_of_form form ≡ verb → Stand verb limited form list text → CanGoOn (IsCommand verb) limited text
complete verb limited form list text own s =
    let g = grow verb limited form (needs form) list text s (may_have form) in
    let kinds = subst (λ (v : Verb). are_of v (list ++ g.others) ≡ true) (sym own) (series_is_of verb limited (list ++ g.others) (text ++ g.rest) g.stand.series) in
    let m = makes form (list ++ g.others) g.stand.takes kinds g.have in (
      g.rest,
      m.0,
      record {
        list = list ++ g.others;
        own = ap verb_of_form m.1 ∙ own;
        series = g.stand.series;
        once = g.stand.once;
        takes = ap (λ (f : Form). takes_all f (list ++ g.others)) m.1 ∙ g.stand.takes;
        made = m.2;
      },
    )
