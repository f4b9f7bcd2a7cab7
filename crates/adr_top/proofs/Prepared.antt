-- How the parts of the reading of texts make the whole of it.
use Rattle.std.proofs.Common.{◌≡◌, ◌⊎◌, inl, inr, ℕ, arith, List, [], Option, Some, None, Result, Ok, Err, sym, subst}
use Rattle.std.specs.Prelude.{IfOk, IfErr}
use Rattle.enq_table.specs.declared.hold.Hold.{Hold}
use Rattle.sysin_lang.specs.Script.{plan_of_script}
use Rattle.run_lines.specs.declared.ending.Input.TheVariants as inputs
use Rattle.run_lines.specs.declared.ending.RunEnd.{RunEnd}
use Rattle.run_lines.specs.declared.ending.RunEnd.TheVariants as ends
use Rattle.run_lines.specs.Texts.{TakesFew}
use Rattle.run_lines.proofs.Appending.{takes_none}
use Rattle.adr_top.specs.declared.texts.Ready.{Ready}
use Rattle.adr_top.specs.Texts.{SourceSeen, HasFailed, IsUncalled, Texts, AreRead, AreReady, StopsTexts, TakesTexts, MakesTable}
use Rattle.adr_top.specs.Reading.{TakesHeld, StopsTable, StopsScript, StopsGrammar, IsUnderstood}

-- ---- how much is taken

few_uncalled : (source : SourceSeen) → IsUncalled source → HasFailed source ⊎ TakesFew 1048577 source.before source.after
few_uncalled source is =
    inr (subst (λ (left : Option (List ℕ)). TakesFew 1048577 source.before left) (sym is.left) ([], omega arith, takes_none source.before))

few_of_held : (path : Option (List ℕ)) (held : SourceSeen) → TakesHeld path held → HasFailed held ⊎ TakesFew 1048577 held.before held.after
few_of_held None held is = few_uncalled held is
few_of_held (Some path) held few = few

unread_of_held : (path : Option (List ℕ)) (held : SourceSeen) → TakesHeld path held → path ≡ None → IsUncalled held
unread_of_held None held is none = is
unread_of_held (Some path) held few none = absurd (cc none)

pub takes_texts : (path : Option (List ℕ)) (held sysin : SourceSeen) → TakesHeld path held → HasFailed sysin ⊎ TakesFew 1048577 sysin.before sysin.after → TakesTexts path held sysin
takes_texts path held sysin of_held of_sysin = record {
  unread = unread_of_held path held of_held;
  few_held = few_of_held path held of_held;
  few_sysin = of_sysin;
}

-- ---- why they are not ready

table_stops : (path : Option (List ℕ)) (held sysin : SourceSeen) (texts : Texts) → AreRead path held sysin texts → (end : RunEnd) → StopsTable texts.held end → StopsTexts path held sysin end
table_stops path held sysin texts read (ends.Wrong inputs.Held line column) h = (texts, read, h)
table_stops path held sysin texts read (ends.Wrong inputs.Sysin line column) h = absurd h
table_stops path held sysin texts read ends.Memory h = tt
table_stops path held sysin texts read (ends.Whole code) h = absurd h
table_stops path held sysin texts read (ends.Formatted units room) h = absurd h
table_stops path held sysin texts read ends.Pool h = absurd h
table_stops path held sysin texts read (ends.BadJournal rule) h = absurd h
table_stops path held sysin texts read (ends.WrongUnit unit kept found) h = absurd h
table_stops path held sysin texts read (ends.JournalSmall need have) h = absurd h
table_stops path held sysin texts read (ends.Source input) h = absurd h
table_stops path held sysin texts read ends.Sink h = absurd h
table_stops path held sysin texts read ends.Words h = absurd h
table_stops path held sysin texts read (ends.Long input) h = absurd h
table_stops path held sysin texts read ends.NotBuilt h = absurd h

script_stops : (path : Option (List ℕ)) (held sysin : SourceSeen) (texts : Texts) (table : List Hold) → AreRead path held sysin texts → MakesTable texts table
    → (end : RunEnd) → StopsScript texts.sysin end → StopsTexts path held sysin end
script_stops path held sysin texts table read makes (ends.Wrong inputs.Sysin line column) (why, h) = (texts, table, why, read, makes, h)
script_stops path held sysin texts table read makes (ends.Wrong inputs.Held line column) h = absurd h
script_stops path held sysin texts table read makes ends.Memory h = tt
script_stops path held sysin texts table read makes (ends.Whole code) h = absurd h
script_stops path held sysin texts table read makes (ends.Formatted units room) h = absurd h
script_stops path held sysin texts table read makes ends.Pool h = absurd h
script_stops path held sysin texts table read makes (ends.BadJournal rule) h = absurd h
script_stops path held sysin texts table read makes (ends.WrongUnit unit kept found) h = absurd h
script_stops path held sysin texts table read makes (ends.JournalSmall need have) h = absurd h
script_stops path held sysin texts table read makes (ends.Source input) h = absurd h
script_stops path held sysin texts table read makes ends.Sink h = absurd h
script_stops path held sysin texts table read makes ends.Words h = absurd h
script_stops path held sysin texts table read makes (ends.Long input) h = absurd h
script_stops path held sysin texts table read makes ends.NotBuilt h = absurd h

grammar_stops : (path : Option (List ℕ)) (held sysin : SourceSeen) (texts : Texts) → AreRead path held sysin texts → (end : RunEnd) → StopsGrammar texts.held texts.sysin end
    → StopsTexts path held sysin end
grammar_stops path held sysin texts read end (inl h) = table_stops path held sysin texts read end h
grammar_stops path held sysin texts read end (inr (inl ((table, makes), h))) = script_stops path held sysin texts table read makes end h
grammar_stops path held sysin texts read end (inr (inr (table, plan, makes, spells, not_built, is))) =
    subst (λ (e : RunEnd). StopsTexts path held sysin e) (sym is) (texts, table, plan, read, makes, spells, not_built)

-- ---- what the texts make

pub all_stops : (path : Option (List ℕ)) (held sysin : SourceSeen) (texts : Texts) (r : Result Ready RunEnd) → AreRead path held sysin texts
    → IfErr r (StopsGrammar texts.held texts.sysin) → IfErr r (StopsTexts path held sysin)
all_stops path held sysin texts (Ok ready) read h = tt
all_stops path held sysin texts (Err end) read h = grammar_stops path held sysin texts read end h

pub all_ready : (path : Option (List ℕ)) (held sysin : SourceSeen) (texts : Texts) (r : Result Ready RunEnd) → AreRead path held sysin texts
    → IfOk r (IsUnderstood texts.held texts.sysin) → IfOk r (λ ready. (t : Texts) × AreReady path held sysin t ready.held (plan_of_script ready.script))
all_ready path held sysin texts (Ok ready) read h = (texts, record { read = read; table_is = h.table_is; plan_is = h.plan_is; built = h.built })
all_ready path held sysin texts (Err end) read h = tt
