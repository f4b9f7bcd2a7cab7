-- A whole statement, from how what it does ends.
use Rattle.std.proofs.Common.{◌≡◌, inl, inr, ℕ, Bool, true, false, List, [], ◌∷◌, ◌++◌, None, refl, sym, ap, subst, ◌∙◌}
use Rattle.std.specs.Prelude.{Result, Ok, Err, IfOk, IfErr}
use Rattle.std.proofs.lemmas.List.{append-nil}
use Rattle.std.proofs.lemmas.Result.{IfOk-weaker, IfErr-weaker}
use Rattle.by_rules.specs.declared.day.Day.{Day}
use Rattle.dasd_pool.specs.declared.pool.Pool.{Ghosts}
use Rattle.dd_names.specs.declared.dd.DdName.{DdName}
use Rattle.dsn_filter.specs.declared.dsn.Dsn.{Dsn}
use Rattle.dump_fmt.specs.Outs.{OutSeen}
use Rattle.enq_table.specs.declared.hold.Hold.{Hold}
use Rattle.sysin_lang.specs.declared.command.Command.{Command}
use Rattle.sysin_lang.specs.declared.command.Filter.{Filter}
use Rattle.sysin_lang.specs.declared.command.Command.TheVariants as commands
use Rattle.vol_label.specs.declared.serial.Serial.{Serial}
use Rattle.volume_model.specs.Unit.{UnitModel}
use Rattle.move_core.specs.declared.steps.Step.{Step}
use Rattle.move_core.specs.Facts.{Facts}
use Rattle.move_core.proofs.Running.{run_idle}
use Rattle.dump_sets.specs.job_turns.job_steps.unit_session.Sessions.{SessionView}
use Rattle.job_lines.specs.declared.message.Message.{Message}
use Rattle.job_lines.specs.declared.message.Message.TheVariants as messages
use Rattle.job_lines.specs.Severity.{greatest_code}
use Rattle.dump_sets.specs.job_turns.job_steps.declared.cut.Cut.{Cut}
use Rattle.dump_sets.specs.job_turns.job_steps.declared.cut.Cut.TheVariants as cuts
use Rattle.job_ops.specs.Consolidate.{ConsolidatesSet}
use Rattle.dump_sets.specs.job_turns.Ends.{Ends}
use Rattle.job_ops.specs.Copy.{CopiesSet, CopiesSets, IsCutCopy, request_of}
use Rattle.job_ops.specs.Meaning.{IsCutOnVolumes, IsCutWithOutputs, IsFramed, MeansOnVolumes, MeansWhole, MeansWithOutputs, dump_wish_of, verb_of, wish_of}
use Rattle.dump_sets.specs.job_dumps.declared.wish.DumpWish.{DumpWish}
use Rattle.dump_sets.specs.job_dumps.Reasons.{changes_sets}
use Rattle.dump_sets.specs.Dump.{ChangesTaken, DumpsDataSets, IsCutDumping, IsCutInChanges}
use Rattle.dump_sets.specs.Telling.{some_whole, taken_of}
use Rattle.job_ops.specs.Release.{ReleasesSet}
use Rattle.job_ops.specs.Sets.{OverSets, IsCutOverSets}
use Rattle.dump_sets.specs.job_turns.job_copies.declared.wish.Wish.{Wish}
use Rattle.dsn_filter.specs.declared.rename.Rename.{Rename}
use Rattle.dump_sets.specs.job_turns.Setting.{Setting, setting_of}
use Rattle.dump_sets.specs.job_turns.Turns.{Action, Turns, AreCutTurns}
use Rattle.job_ops.proofs.Codes.{code_started}
use Rattle.dump_sets.proofs.job_turns.job_acts.Sessions.{no_change}
use Rattle.dump_sets.proofs.job_turns.SameSessions.{ends_told, told_grows}

-- ---- what may be cut

-- a command may be cut before it did anything
cut_before : (setting : Setting) (command : Command) (units : List UnitModel) → IsCutOnVolumes setting command units [] None
cut_before setting (commands.PrintVtoc unit) units = (refl, refl)
cut_before setting (commands.Release filter unit) units = inl (refl, refl)
cut_before setting (commands.Consolidate filter unit) units = inl (refl, refl)
cut_before setting (commands.Defrag unit index limit) units = (refl, refl)
cut_before setting (commands.Copy filter unit to delete purge replace rename tolerate) units = inl (refl, refl)
cut_before setting (commands.DumpDataset filter unit outs reset delete purge tolerate) units = (refl, refl)
cut_before setting (commands.DumpFull unit outs) units = (refl, refl)
cut_before setting (commands.RestoreDataset filter input to purge replace rename) units = (refl, refl)
cut_before setting (commands.RestoreFull input to purge) units = (refl, refl)

-- turns that all ended may be cut behind the last
turns_cut : (facts : Facts) (Turn : Dsn → Action) (names : List Dsn) (units : List UnitModel) (steps : List Step) (said : List Message)
    → Turns facts Turn names units steps said → AreCutTurns facts Turn names units steps None
turns_cut facts Turn [] units steps said turns = (turns.0, refl)
turns_cut facts Turn (name ∷ names) units steps said (done, more, first, told, after, ends, rest, steps_are, said_are) =
    inr (done, more, first, after, ends, turns_cut facts Turn names after more told rest, steps_are)

-- so may a statement that goes through data sets
sets_cut : (Turn : ℕ → Dsn → Action) (setting : Setting) (filter : Filter) (serial : Serial) (units : List UnitModel) (steps : List Step) (said : List Message)
    → OverSets Turn setting filter serial units steps said → IsCutOverSets Turn setting filter serial units steps None
sets_cut Turn setting filter serial units steps said (inl (message, refused, none, is)) = inl (none, refl)
sets_cut Turn setting filter serial units steps said (inr (place, names, goes, inl (no_names, none, is))) = inl (none, refl)
sets_cut Turn setting filter serial units steps said (inr (place, names, goes, inr (some, turns))) =
    inr (place, names, goes, turns_cut setting.facts (Turn place) names units steps said turns)

-- so may a copy
copies_cut : (setting : Setting) (filter : Filter) (serial to : Serial) (wish : Wish) (rename : Rename) (units : List UnitModel) (steps : List Step) (said : List Message)
    → CopiesSets setting filter serial to wish rename units steps said → IsCutCopy setting filter serial to wish rename units steps None
copies_cut setting filter serial to wish rename units steps said (inl (message, refused, none, is)) = inl (none, refl)
copies_cut setting filter serial to wish rename units steps said (inr (inl (between, none, is))) = inl (none, refl)
copies_cut setting filter serial to wish rename units steps said (inr (inr (from, unit, names, between, inl (no_names, none, is)))) = inl (none, refl)
copies_cut setting filter serial to wish rename units steps said (inr (inr (from, unit, names, between, inr (some, turns)))) =
    inr (from, unit, names, between, turns_cut setting.facts (CopiesSet (request_of setting wish rename from unit)) names units steps said turns)

-- so may a command
cut_behind : (setting : Setting) (command : Command) (units : List UnitModel) (steps : List Step) (said : List Message)
    → MeansOnVolumes setting command units steps said → IsCutOnVolumes setting command units steps None
cut_behind setting (commands.PrintVtoc unit) units steps said means = (means.0, refl)
cut_behind setting (commands.Release filter unit) units steps said means = sets_cut (ReleasesSet setting.held) setting filter unit units steps said means
cut_behind setting (commands.Consolidate filter unit) units steps said means = sets_cut (ConsolidatesSet setting.held) setting filter unit units steps said means
cut_behind setting (commands.Defrag unit index limit) units steps said means = absurd means
cut_behind setting (commands.Copy filter unit to delete purge replace rename tolerate) units steps said means =
    copies_cut setting filter unit to (wish_of delete purge replace tolerate) rename units steps said means
cut_behind setting (commands.DumpDataset filter unit outs reset delete purge tolerate) units steps said means = absurd means
cut_behind setting (commands.DumpFull unit outs) units steps said means = absurd means
cut_behind setting (commands.RestoreDataset filter input to purge replace rename) units steps said means = absurd means
cut_behind setting (commands.RestoreFull input to purge) units steps said means = absurd means

-- so may a dump
changes_cut : (setting : Setting) (dump : DumpWish) (unit : ℕ) (taken : List Dsn) (whole changes : Bool) (units : List UnitModel) (steps : List Step) (said : List Message)
    → ChangesTaken whole changes setting dump unit taken units steps said → IsCutInChanges whole changes setting dump unit taken units steps None
changes_cut setting dump unit taken true true units steps said done = turns_cut setting.facts _ taken units steps said done
changes_cut setting dump unit taken true false units steps said done = (done.0, refl)
changes_cut setting dump unit taken false changes units steps said done = (done.0, refl)

dumps_cut : (setting : Setting) (filter : Filter) (serial : Serial) (names : List DdName) (dump : DumpWish) (before after : List OutSeen) (units : List UnitModel) (steps : List Step) (said : List Message)
    → DumpsDataSets setting filter serial names dump before after units steps said → IsCutDumping setting filter serial names dump before after units steps None
dumps_cut setting filter serial names dump before after units steps said (inl (message, refused, none, is, same)) = inl (same, none, refl)
dumps_cut setting filter serial names dump before after units steps said (inr (unit, sets, places, goes, inl (no_sets, none, is, same))) = inl (same, none, refl)
dumps_cut setting filter serial names dump before after units steps said (inr (unit, sets, places, goes, inr (some, (told, stands, follows)))) =
    inr (
      unit,
      sets,
      places,
      goes,
      inr (told, stands, changes_cut setting dump unit (taken_of sets told) (some_whole after places) (changes_sets dump) units steps follows.rest follows.changes),
    )

-- ---- with the outputs

-- a command may be cut before it did anything
cut_first : (setting : Setting) (command : Command) (outs : List OutSeen) (units : List UnitModel) → IsCutWithOutputs setting command outs outs units [] None
cut_first setting (commands.PrintVtoc unit) outs units = cut_before setting (commands.PrintVtoc unit) units
cut_first setting (commands.Release filter unit) outs units = cut_before setting (commands.Release filter unit) units
cut_first setting (commands.Consolidate filter unit) outs units = cut_before setting (commands.Consolidate filter unit) units
cut_first setting (commands.Defrag unit index limit) outs units = cut_before setting (commands.Defrag unit index limit) units
cut_first setting (commands.Copy filter unit to delete purge replace rename tolerate) outs units =
    cut_before setting (commands.Copy filter unit to delete purge replace rename tolerate) units
cut_first setting (commands.DumpDataset filter unit names reset delete purge tolerate) outs units = inl (refl, refl, refl)
cut_first setting (commands.DumpFull unit names) outs units = cut_before setting (commands.DumpFull unit names) units
cut_first setting (commands.RestoreDataset filter input to purge replace rename) outs units = cut_before setting (commands.RestoreDataset filter input to purge replace rename) units
cut_first setting (commands.RestoreFull input to purge) outs units = cut_before setting (commands.RestoreFull input to purge) units

-- and behind its end
cut_last : (setting : Setting) (command : Command) (before after : List OutSeen) (units : List UnitModel) (steps : List Step) (said : List Message)
    → MeansWithOutputs setting command before after units steps said → IsCutWithOutputs setting command before after units steps None
cut_last setting (commands.PrintVtoc unit) before after units steps said means = cut_behind setting (commands.PrintVtoc unit) units steps said means
cut_last setting (commands.Release filter unit) before after units steps said means = cut_behind setting (commands.Release filter unit) units steps said means
cut_last setting (commands.Consolidate filter unit) before after units steps said means = cut_behind setting (commands.Consolidate filter unit) units steps said means
cut_last setting (commands.Defrag unit index limit) before after units steps said means = cut_behind setting (commands.Defrag unit index limit) units steps said means
cut_last setting (commands.Copy filter unit to delete purge replace rename tolerate) before after units steps said means =
    cut_behind setting (commands.Copy filter unit to delete purge replace rename tolerate) units steps said means
cut_last setting (commands.DumpDataset filter unit names reset delete purge tolerate) before after units steps said means =
    dumps_cut setting filter unit names (dump_wish_of reset delete purge tolerate) before after units steps said means
cut_last setting (commands.DumpFull unit names) before after units steps said means = cut_behind setting (commands.DumpFull unit names) units steps said means
cut_last setting (commands.RestoreDataset filter input to purge replace rename) before after units steps said means =
    cut_behind setting (commands.RestoreDataset filter input to purge replace rename) units steps said means
cut_last setting (commands.RestoreFull input to purge) before after units steps said means = cut_behind setting (commands.RestoreFull input to purge) units steps said means

-- ---- the statement

module _ {P : Type 0} (pools : Ghosts P) (command : Command) (held : List Hold) (today : Day) (session : SessionView P) (outs_before outs_after : List OutSeen) where
  -- what the command does ends so
  abbrev pub EndsWithin : SessionView P → List Step → List Step → List Message → List Message → Result (SessionView P) (Cut P) → Type 0
  EndsWithin from before after first last result =
      Ends pools (MeansWithOutputs (setting_of pools from held today) command outs_before outs_after) (IsCutWithOutputs (setting_of pools from held today) command outs_before outs_after) from before after
      first last result

  -- the whole statement does
  abbrev pub EndsWholly : List Step → List Step → List Message → Result (SessionView P) (Cut P) → Type 0
  EndsWholly before after last result =
      Ends pools (MeansWhole (MeansWithOutputs (setting_of pools session held today) command outs_before outs_after) command)
      (IsCutWithOutputs (setting_of pools session held today) command outs_before outs_after) session before after [] last result

  -- it couldn't say that it started
  pub not_started : (steps : List Step) (last : List Message) (cut : Cut P) → cut ≡ cuts.Short session → last ≡ [] → outs_after ≡ outs_before → EndsWholly steps steps last (Err cut)
  not_started steps last cut short none same =
      subst (λ (k : Cut P). EndsWholly steps steps last (Err k)) (sym short) (record {
        added = [];
        said = [];
        steps_are = sym (append-nil steps);
        messages_are = none;
        run = run_idle (tt {0});
        facts = no_change pools session;
        ended = tt;
        cut = λ told units settled.
            subst (λ (outs : List OutSeen). IsCutWithOutputs (setting_of pools session held today) command outs_before outs units [] None) (sym same)
            (cut_first (setting_of pools session held today) command outs_before units);
      })

  -- what it does was cut
  pub cut_within : (from : SessionView P) (before after : List Step) (first last : List Message) (cut : Cut P) → from ≡ session → first ≡ messages.Started (verb_of command) ∷ []
      → EndsWithin from before after first last (Err cut) → EndsWholly before after last (Err cut)
  cut_within from before after first last cut is started given =
      let ends = subst (λ (s : SessionView P). EndsWithin s before after first last (Err cut)) is given in
      record {
        added = ends.added;
        said = messages.Started (verb_of command) ∷ ends.said;
        steps_are = ends.steps_are;
        messages_are = ends.messages_are ∙ ap (λ (l : List Message). l ++ ends.said) started;
        run = ends.run;
        facts = ends.facts;
        ended = tt;
        cut = ends.cut;
      }

  -- the lines around it are as they ought to be, whatever it did
  pub ended_framed : (from next : SessionView P) (before after : List Step) (first between last : List Message) (code : ℕ) (result : Result (SessionView P) (Cut P))
      → first ≡ messages.Started (verb_of command) ∷ [] → EndsWithin from before after first between (Ok next) → code ≡ greatest_code between
      → IfOk result (λ kept. (kept ≡ next) × (last ≡ between ++ (messages.Ended (verb_of command) code ∷ []))) → IfOk result (λ kept. IsFramed command last)
  ended_framed from next before after first between last code result started ends code_is ok =
      let verb = verb_of command in
      let between_is : between ≡ messages.Started verb ∷ ends.said = ends.messages_are ∙ ap (λ (l : List Message). l ++ ends.said) started in
      let code_told : code ≡ greatest_code ends.said = code_is ∙ ap (λ (l : List Message). greatest_code l) between_is ∙ code_started verb ends.said in
      IfOk-weaker result _ _ (λ kept p. (
        ends.said,
        p.1 ∙ ap (λ (l : List Message). l ++ (messages.Ended verb code ∷ [])) between_is ∙ ap (λ (c : ℕ). messages.Started verb ∷ (ends.said ++ (messages.Ended verb c ∷ []))) code_told,
      )) ok

  -- it ended, and said so, or couldn't
  pub ended_wholly : (from next : SessionView P) (before after : List Step) (first between last : List Message) (code : ℕ) (result : Result (SessionView P) (Cut P)) → from ≡ session
      → first ≡ messages.Started (verb_of command) ∷ [] → EndsWithin from before after first between (Ok next) → code ≡ greatest_code between
      → IfOk result (λ kept. (kept ≡ next) × (last ≡ between ++ (messages.Ended (verb_of command) code ∷ [])))
      → IfErr result (λ cut. (cut ≡ cuts.Short next) × (last ≡ between)) → EndsWholly before after last result
  ended_wholly from next before after first between last code result is started given code_is ok err =
      let setting = setting_of pools session held today in
      let verb = verb_of command in
      let ends = subst (λ (s : SessionView P). EndsWithin s before after first between (Ok next)) is given in
      let between_is : between ≡ messages.Started verb ∷ ends.said = ends.messages_are ∙ ap (λ (l : List Message). l ++ ends.said) started in
      let code_told : code ≡ greatest_code ends.said = code_is ∙ ap (λ (l : List Message). greatest_code l) between_is ∙ code_started verb ends.said in
      let whole = messages.Started verb ∷ (ends.said ++ (messages.Ended verb (greatest_code ends.said) ∷ [])) in
      let grown = told_grows (λ kept. kept ≡ next) (λ cut. cut ≡ cuts.Short next) between last (messages.Ended verb code ∷ []) result ok err in
      ends_told pools whole result ends.run ends.facts ends.steps_are
      (IfOk-weaker result _ _ (λ kept p. (
        p.0,
        p.1 ∙ ap (λ (l : List Message). l ++ (messages.Ended verb code ∷ [])) between_is ∙ ap (λ (c : ℕ). messages.Started verb ∷ (ends.said ++ (messages.Ended verb c ∷ []))) code_told,
      )) ok)
      (IfErr-weaker result _ _ (λ cut p. p.0) err)
      (messages.Started verb ∷ (ends.said ++ grown.0), grown.1 ∙ ap (λ (l : List Message). l ++ grown.0) between_is)
      (λ told units settled. (ends.said, ends.ended told units settled, refl))
      (λ told units settled. cut_last setting command outs_before outs_after units ends.added ends.said (ends.ended told units settled))
