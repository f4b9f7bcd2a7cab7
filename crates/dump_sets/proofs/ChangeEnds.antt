-- What becomes of a data set that is changed: its steps, its lines, and where it was cut.
use Rattle.std.proofs.Common.{◌≡◌, ◌⊎◌, inl, inr, ℕ, Bool, true, false, List, [], ◌∷◌, ◌++◌, None, Ok, Err, refl, sym, ap, subst, ◌∙◌}
use Rattle.std.specs.Prelude.{Result, IfOk, IfErr, if◌then◌else◌}
use Rattle.std.proofs.lemmas.List.{append-nil}
use Rattle.std.proofs.lemmas.List.Elements.{All-head}
use Rattle.dasd_pool.specs.declared.pool.Pool.{Ghosts}
use Rattle.volume_model.specs.Pinned.{IsNameOf}
use Rattle.volume_change.proofs.Names.{one_text}
use Rattle.move_core.specs.declared.steps.Step.{Step}
use Rattle.move_core.specs.declared.steps.Step.TheVariants as steps
use Rattle.move_core.specs.Runs.{moves_of}
use Rattle.move_core.proofs.Running.{run_steps}
use Rattle.job_dumps.proofs.job_turns.job_copies.SetsOfRows.{named_set}
use Rattle.job_dumps.specs.job_turns.job_copies.step_room.Room.{ChangesStateSpace}
use Rattle.job_lines.specs.declared.message.Message.{Message}
use Rattle.job_lines.specs.declared.message.Message.TheVariants as messages
use Rattle.job_dumps.specs.job_turns.job_steps.unit_session.Sessions.{SessionView}
use Rattle.job_dumps.specs.job_turns.job_steps.declared.cut.Cut.{Cut}
use Rattle.job_dumps.specs.job_turns.job_steps.declared.cut.Cut.TheVariants as cuts
use Rattle.job_dumps.specs.job_turns.job_steps.Carried.{pending_cut}
use Rattle.job_dumps.specs.job_turns.job_steps.Units.{ForUnits}
use Rattle.job_dumps.specs.job_turns.job_acts.declared.acts.Acts.{Acts}
use Rattle.job_dumps.specs.job_turns.job_acts.declared.acts.Acted.{Acted}
use Rattle.job_dumps.specs.job_turns.job_acts.declared.acts.Acted.TheVariants as variants
use Rattle.job_dumps.specs.job_turns.job_acts.Making.{repair_steps}
use Rattle.job_dumps.specs.job_turns.job_acts.Acting.{AllFit, EndsActs, looked_at}
use Rattle.job_dumps.proofs.job_turns.job_acts.Repairing.{seen_are}
use Rattle.job_dumps.specs.job_turns.Ends.{Ends}
use Rattle.job_dumps.specs.job_turns.Stating.{says_unstated, is_unstated, due, repairs, rebuilt, rebuilt_of, rebuilt_in}
use Rattle.job_dumps.specs.job_turns.Turns.{Action, IsCutAction}
use Rattle.job_dumps.proofs.job_turns.LoadedUnits.{AreKnown}
use Rattle.job_dumps.proofs.job_turns.SameSessions.{cut_leaves, ends_told}
use Rattle.dump_sets.specs.declared.changing.Dumped.{Dumped}
use Rattle.dump_sets.specs.Changing.{changing_steps, changing_lines, ChangesSet, steps_of_dumped, AreLines, HasFew, MayChangeSets, StaysForOthers}
use Rattle.dump_sets.proofs.Changes.{stays_done}

repairs_as : (unit : ℕ) (unstated : Bool) → repair_steps (if unstated then unit ∷ [] else []) ≡ (if unstated then steps.Repair unit ∷ [] else [])
repairs_as unit true = refl
repairs_as unit false = refl

module _ {P : Type 0} (pools : Ghosts P) (session : SessionView P) (dumped : Dumped) where
  abbrev Means : Action
  Means = ChangesSet dumped.wish dumped.unit dumped.name

  -- how its steps ended, of which none was looked at before
  abbrev EndsChange : List Step → List Step → Result (Acted P) (Cut P) → Type 0
  EndsChange before after result = EndsActs pools session (steps_of_dumped session.units dumped) [] before after result

  pub change_ends : (acts : Acts) (before after : List Step) (result : Result (Acted P) (Cut P)) → acts.steps.items ≡ steps_of_dumped session.units dumped → acts.looked ≡ 0
      → EndsActs pools session acts.steps.items (looked_at acts) before after result → EndsChange before after result
  change_ends acts before after result steps_are looked is =
      subst (λ (list : List Step). EndsActs pools session list [] before after result) steps_are
      (subst (λ (list : List Step). EndsActs pools session acts.steps.items list before after result) (seen_are acts [] (steps_of_dumped session.units dumped) steps_are looked) is)

  module _ (may : MayChangeSets session.room session.units dumped.unit (dumped.name ∷ [])) (known : AreKnown pools session) {said : List Message} (lines : AreLines session.units dumped said) where
    -- its steps and its lines are those of its turn
    changes : ForUnits pools session (λ units. Means units (steps_of_dumped session.units dumped) said)
    changes told units settled =
        let loaded = may.may.volume in
        let found = known.online_at told units settled dumped.unit loaded may.may.loaded in
        let row = All-head (HasFew loaded) dumped.name [] may.sets in
        let set = named_set loaded found.0 (known.sound dumped.unit loaded may.may.loaded) found.2 dumped.name row.0 row.1 in
        let named : IsNameOf dumped.name set.0.name = subst (IsNameOf dumped.name) (sym set.2.name_is) row.1.name_is in
        let unstated : is_unstated session.units dumped.unit ≡ found.0.repair = ap says_unstated may.may.loaded ∙ sym found.2.repair_is in
        let repaired : repair_steps (due session.units dumped.unit) ≡ repairs dumped.unit found.0 =
        repairs_as dumped.unit (is_unstated session.units dumped.unit) ∙ ap (λ (b : Bool). if b then steps.Repair dumped.unit ∷ [] else []) unstated in
        let told_so : rebuilt_in session.units dumped.unit ≡ rebuilt found.0 =
        ap rebuilt_of may.may.loaded ∙ (λ i. if sym found.2.repair_is i then messages.Rebuilt (sym found.2.serial_is i) ∷ [] else []) in
        record {
          volume = found.0;
          set = set.0;
          set_is = record { online_is = found.1; there = set.1; name_is = named };
          steps_are = ap (λ (list : List Step). list ++ changing_steps dumped.wish dumped.unit dumped.name) repaired;
          said_are =
              lines.said_are ∙ (λ i. told_so i ++ changing_lines dumped.wish (one_text dumped.name lines.text set.0.name lines.text_is named i));
        }

    pub cut_change : {before after : List Step} {messages : List Message} {cut : Cut P} → EndsChange before after (Err cut)
        → Ends pools Means (IsCutAction Means) session before after messages messages (Err cut)
    cut_change {before} {after} {messages} {cut} ends = record {
      added = ends.added;
      said = [];
      steps_are = ends.steps_are;
      messages_are = sym (append-nil messages);
      run = ends.run;
      facts = cut_leaves pools session cut ends.answers.0;
      ended = tt;
      cut = within ends.answers.1;
    }
      where
        within : (((ends.added ≡ []) × (pending_cut cut ≡ None))
            ⊎ ((rest : List Step) × (steps_of_dumped session.units dumped ≡ moves_of ends.added (pending_cut cut) ++ rest) × AllFit session.units []))
            → ForUnits pools session (λ units. IsCutAction Means units ends.added (pending_cut cut))
        within (inl none) told units settled = inl none
        within (inr some) told units settled = inr (steps_of_dumped session.units dumped, some.0, said, changes told units settled, some.1)

    pub done_change : {next : SessionView P} {before after last : List Step} {messages_before messages_after : List Message} (given : Acted P) (result : Result (SessionView P) (Cut P))
        → EndsChange before after (Ok given) → given ≡ variants.Done next → last ≡ after → IfOk result (λ left. (left ≡ next) × (messages_after ≡ messages_before ++ said))
        → IfErr result (λ cut. cut ≡ cuts.Short next) → ((more : List Message) × (messages_after ≡ messages_before ++ more))
        → Ends pools Means (IsCutAction Means) session before last messages_before messages_after result
    done_change {next} {before} {after} {last} {messages_before} {messages_after} given result ends_so is steps ok err grows =
        let ends : EndsChange before after (Ok (variants.Done next)) = subst (λ (r : Acted P). EndsChange before after (Ok r)) is ends_so in
        ends_told pools said result (run_steps (λ told. ends.answers.0) ends.run) ends.answers.1 (steps ∙ ends.steps_are ∙ ap (λ (l : List Step). before ++ l) ends.answers.0) ok err grows changes
        (λ told units settled. inr (steps_of_dumped session.units dumped, [], said, changes told units settled, sym (append-nil (steps_of_dumped session.units dumped))))

  -- data sets of other names can still be changed
  abbrev Stays : SessionView P → Type 0
  Stays next = StaysForOthers session.room session.units next.units dumped.unit dumped.name

  pub done_stays : ChangesStateSpace → {next : SessionView P} {before after : List Step} (messages_before messages_after said : List Message) (given : Acted P) (result : Result (SessionView P) (Cut P))
      → EndsChange before after (Ok given) → given ≡ variants.Done next → IfOk result (λ left. (left ≡ next) × (messages_after ≡ messages_before ++ said)) → IfOk result Stays
  done_stays space {next} {before} {after} messages_before messages_after said given (Ok left) ends_so is ok =
      let ends : EndsChange before after (Ok (variants.Done next)) = subst (λ (r : Acted P). EndsChange before after (Ok r)) is ends_so in
      subst Stays (sym ok.0) (stays_done space dumped session.room session.units next.units ends.answers.2)
  done_stays space messages_before messages_after said given (Err cut) ends_so is ok = tt
