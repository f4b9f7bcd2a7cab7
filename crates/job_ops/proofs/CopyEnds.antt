-- What becomes of a copy: its steps, its reason, and what it leaves.
use Rattle.std.proofs.Common.{◌≡◌, ◌⊎◌, inl, inr, ℕ, ◌==◌, List, [], ◌∷◌, ◌++◌, All, Some, None, Ok, Err, refl, sym, ap, subst, ◌∙◌}
use Rattle.std.specs.Prelude.{Result, IfOk, IfErr, slice_get, if◌then◌else◌}
use Rattle.std.proofs.lemmas.List.{append-nil}
use Rattle.dasd_pool.specs.declared.pool.Pool.{Ghosts}
use Rattle.dsn_filter.specs.declared.dsn.Dsn.{Dsn}
use Rattle.free_map.specs.Runs.{SameTracksSameRuns}
use Rattle.free_map.specs.Several.{OneChoice, NoChoiceWhereShort}
use Rattle.volume_model.specs.Pinned.{IsNameOf}
use Rattle.volume_model.specs.Unit.{UnitModel, online}
use Rattle.volume_change.proofs.Names.{one_text}
use Rattle.move_core.specs.declared.steps.Step.{Step}
use Rattle.move_core.specs.Runs.{moves_of}
use Rattle.move_core.specs.Stands.{IsGood, IsSettled}
use Rattle.move_core.proofs.Running.{run_steps}
use Rattle.dump_sets.specs.job_turns.job_steps.unit_session.Sessions.{SessionView}
use Rattle.dump_sets.specs.job_turns.job_copies.step_room.Room.{LackingChangesAreFull, FittingChangesAreNotFull}
use Rattle.job_lines.specs.declared.message.Message.{Message}
use Rattle.job_lines.specs.declared.message.Message.TheVariants as messages
use Rattle.job_lines.specs.declared.message.Reason.{Reason}
use Rattle.job_lines.specs.declared.message.Reason.TheVariants as reasons
use Rattle.job_lines.specs.declared.severity.Severity.TheVariants as severities
use Rattle.job_lines.specs.Order.{IsReason}
use Rattle.dump_sets.specs.job_turns.job_steps.declared.cut.Cut.{Cut}
use Rattle.dump_sets.specs.job_turns.job_steps.declared.cut.Cut.TheVariants as cuts
use Rattle.dump_sets.specs.job_turns.job_steps.Carried.{pending_cut}
use Rattle.dump_sets.specs.job_turns.job_copies.Case.{Case}
use Rattle.dump_sets.specs.job_turns.job_copies.Reasons.{PreventsAtFirst, first_reasons}
use Rattle.job_ops.specs.declared.copies.Scene.{Scene}
use Rattle.job_ops.specs.declared.transfer.Transfer.{Transfer}
use Rattle.dump_sets.specs.job_turns.job_acts.declared.acts.Acted.{Acted}
use Rattle.dump_sets.specs.job_turns.job_acts.declared.acts.Acted.TheVariants as variants
use Rattle.dump_sets.specs.job_turns.job_acts.Acting.{AllFit, SomeLacks}
use Rattle.job_ops.specs.Transfers.{first_steps, steps_of_transfer, MayTransfer, EndsTransfer}
use Rattle.dump_sets.proofs.job_turns.LoadedUnits.{AreKnown}
use Rattle.job_ops.specs.Copy.{Request, CopiesSet, PreventsCopy, IsNewName, all_repairs, all_rebuilt}
use Rattle.job_ops.specs.Copying.{request_in, IsThere, IsCase, GoesSoFar, IsReplacedIn, ArePlacedIn, HasGoodTexts, AreLines, IsTransferOf, StaysCopyable}
use Rattle.dump_sets.specs.job_turns.job_steps.Units.{facts_of, ForUnits}
use Rattle.dump_sets.specs.job_turns.Ends.{Ends}
use Rattle.dump_sets.specs.job_turns.Turns.{Action, IsCutAction}
use Rattle.job_ops.proofs.CopyBehind.{stays_done, stays_same}
use Rattle.job_ops.proofs.CopyRoom.{IsTransferIn, has_room, lacks_room}
use Rattle.job_ops.proofs.CopySteps.{steps_same, lines_same}
use Rattle.job_ops.proofs.CopyTurns.{case_of, is_case, no_reason, vtoc_full, placed_somewhere}
use Rattle.dump_sets.proofs.job_turns.job_acts.Sessions.{keeps_same}
use Rattle.dump_sets.proofs.job_turns.SameSessions.{cut_leaves, only_short, ends_told, told_grows}
use Rattle.job_ops.proofs.TextCounts.{texts_counted}

-- ---- a data set that isn't copied

-- a reason of the case is told of the data set
pub tells : {request : Request} {name : Dsn} {units : List UnitModel} (there : IsThere request name units) (new : Dsn) (reason : Reason) (text : List ℕ) → IsNewName request.rename name new
    → IsNameOf name text → IsReason (PreventsCopy request.held request.today (case_of there new)) reason → CopiesSet request name units [] (messages.NotProcessed text reason severities.Error ∷ [])
tells {request} {name} {units} there new reason text renamed named is = record {
  source = there.source;
  source_is = there.source_is;
  target = there.target;
  target_is = there.target_is;
  set = there.set;
  there = there.there;
  name_is = there.name_is;
  outcome =
      inr (
        new,
        renamed,
        inl (reason, is, refl, ap (λ (t : List ℕ). messages.NotProcessed t reason severities.Error ∷ []) (one_text name text there.set.name named there.name_is)),
      );
}

-- its new name is too long, and that is told
pub tells_long : {request : Request} {name : Dsn} {units : List UnitModel} (there : IsThere request name units) (text : List ℕ) → Rattle.job_ops.specs.Copy.IsTooLong request.rename name
    → IsNameOf name text → CopiesSet request name units [] (messages.NotProcessed text reasons.NewNameTooLong severities.Error ∷ [])
tells_long {request} {name} {units} there text long named = record {
  source = there.source;
  source_is = there.source_is;
  target = there.target;
  target_is = there.target_is;
  set = there.set;
  there = there.there;
  name_is = there.name_is;
  outcome =
      inl (long, refl, ap (λ (t : List ℕ). messages.NotProcessed t reasons.NewNameTooLong severities.Error ∷ []) (one_text name text there.set.name named there.name_is));
}

-- ---- a transfer

module _ {P : Type 0} (pools : Ghosts P) (session : SessionView P) (scene : Scene) (transfer : Transfer) (may : MayTransfer session.room session.units transfer) (known : AreKnown pools session)
    (of : IsTransferOf scene transfer) (renamed : IsNewName scene.rename.now transfer.from.name transfer.to.name)
    (list : SameTracksSameRuns) (choice : OneChoice) (short : NoChoiceWhereShort) (full_law : LackingChangesAreFull) (fits_law : FittingChangesAreNotFull)
    (all_there : ForUnits pools session (IsThere (request_in scene) transfer.from.name))
    (all_go : ForUnits pools session (GoesSoFar (request_in scene) transfer.from.name transfer.to.name))
    (all_replaced : ForUnits pools session (IsReplacedIn (request_in scene) transfer.from.name transfer.to.name transfer.replaced))
    (all_placed : ForUnits pools session (ArePlacedIn (request_in scene) transfer.from.name transfer.to.name transfer.runs))
    (all_good : ForUnits pools session (HasGoodTexts (request_in scene) transfer.from.name transfer.to.name)) where
  abbrev request : Request
  request = request_in scene

  abbrev Means : Action
  Means = CopiesSet (request_in scene) transfer.from.name

  module _ (told : pools.tells) (units : List UnitModel) (settled : IsSettled (facts_of pools session) (pools.disk session.pool).state units) where
    abbrev there : IsThere (request_in scene) transfer.from.name units
    there = all_there told units settled

    abbrev case : Case
    case = case_of (all_there told units settled) transfer.to.name

    its_case : IsCase request transfer.from.name transfer.to.name units case
    its_case = is_case there transfer.to.name

    in_units : IsTransferIn session.units transfer case
    in_units = record {
      source = may.put.source;
      source_loaded = may.put.source_loaded;
      source_sound = may.put.source_sound;
      from_is =
          known.described told units settled transfer.from.unit may.put.source there.source may.put.source_loaded
          (subst (λ (u : ℕ). slice_get units u ≡ Some (online there.source)) (sym of.from_is) there.source_is);
      target = may.put.target.volume;
      target_loaded = may.put.target.loaded;
      target_sound = may.put.target_sound;
      to_is =
          known.described told units settled transfer.to.unit may.put.target.volume there.target may.put.target.loaded
          (subst (λ (u : ℕ). slice_get units u ≡ Some (online there.target)) (sym of.to_is) there.target_is);
      within_is = λ i. sym of.from_is i == sym of.to_is i;
      delete_is = sym of.delete_is;
      name_is = refl;
      new_is = refl;
      there = there.there;
      named = there.name_is;
      placed = all_placed told units settled case its_case;
      replaced_is = all_replaced told units settled case its_case;
      long = texts_counted (facts_of pools session) (pools.disk session.pool).state units settled scene.from there.source there.source_is there.set there.there;
    }

    lets : All (λ reason. ¬ PreventsAtFirst request.held request.today case reason) first_reasons
    lets = (all_go told units settled).lets case its_case

    good : All IsGood case.set.texts
    good = all_good told units settled case its_case

    -- it is copied, where all its first steps fit
    pub copies : {said : List Message} → AllFit session.units (first_steps session.units transfer) → AreLines session.units transfer said
        → Means units (steps_of_transfer session.units transfer) said
    copies {said} fit lines =
        let words = lines_same in_units lines in
        record {
          source = there.source;
          source_is = there.source_is;
          target = there.target;
          target_is = there.target_is;
          set = there.set;
          there = there.there;
          name_is = there.name_is;
          outcome =
              inr (
                transfer.to.name,
                renamed,
                inr (
                  no_reason request.held request.today case lets good (placed_somewhere case transfer.runs list short in_units.placed) (has_room in_units fits_law list choice fit),
                  record {
                    runs = transfer.runs;
                    places = in_units.placed;
                    replaced = transfer.replaced;
                    replaced_is = in_units.replaced_is;
                    steps_are =
                        subst (λ (f : ℕ). steps_of_transfer session.units transfer ≡ all_repairs case f request.to
                        ++ Rattle.job_ops.specs.Copy.copying_steps case.wish.delete case.within f case.name request.to case.new transfer.runs transfer.replaced) of.from_is
                        (subst (λ (t : ℕ). steps_of_transfer session.units transfer ≡ all_repairs case transfer.from.unit t
                        ++ Rattle.job_ops.specs.Copy.copying_steps case.wish.delete case.within transfer.from.unit case.name t case.new transfer.runs transfer.replaced) of.to_is
                        (steps_same in_units));
                    told = words.0;
                    told_is = words.1;
                    said_are =
                        words.2
                        ∙ ap (λ (l : List Message). l ++ (messages.Copied case.set.name case.to.serial words.0 ∷ (if case.wish.delete then messages.Deleted case.set.name ∷ [] else [])))
                        (λ i. all_rebuilt case (of.from_is i) (of.to_is i));
                  },
                ),
              );
        }

    -- a VTOC has no room for it, and that is told
    pub too_full : (text : List ℕ) → IsNameOf transfer.from.name text → SomeLacks session.units (first_steps session.units transfer)
        → Means units [] (messages.NotProcessed text reasons.VtocFull severities.Error ∷ [])
    too_full text named lacks =
        tells there transfer.to.name reasons.VtocFull text renamed named
        (vtoc_full request.held request.today case lets good (placed_somewhere case transfer.runs list short in_units.placed) (lacks_room in_units full_law lacks))

  -- ---- ends

  pub cut_copy : {before after : List Step} {messages : List Message} {cut : Cut P} {said : List Message} → AreLines session.units transfer said
      → EndsTransfer pools session transfer before after (Err cut) → Ends pools Means (IsCutAction Means) session before after messages messages (Err cut)
  cut_copy {before} {after} {messages} {cut} {said} lines ends = record {
    added = ends.added;
    said = [];
    steps_are = ends.steps_are;
    messages_are = sym (append-nil messages);
    run = ends.run;
    facts = cut_leaves pools session cut ends.answers.0;
    ended = tt;
    cut = within ends.answers.1;
  }
    where
      within : (((ends.added ≡ []) × (pending_cut cut ≡ None))
          ⊎ ((rest : List Step) × (steps_of_transfer session.units transfer ≡ moves_of ends.added (pending_cut cut) ++ rest) × AllFit session.units (first_steps session.units transfer)))
          → ForUnits pools session (λ units. IsCutAction Means units ends.added (pending_cut cut))
      within (inl none) told units settled = inl none
      within (inr some) told units settled = inr (steps_of_transfer session.units transfer, some.0, said, copies told units settled some.2 lines, some.1)

  pub full_copy : {kept : SessionView P} {before after last : List Step} {messages_before messages_after : List Message} (text : List ℕ) (given : Acted P) (result : Result (SessionView P) (Cut P))
      → IsNameOf transfer.from.name text → EndsTransfer pools session transfer before after (Ok given) → given ≡ variants.Full kept → last ≡ after
      → IfOk result (λ next. (next ≡ kept) × (messages_after ≡ messages_before ++ (messages.NotProcessed text reasons.VtocFull severities.Error ∷ [])))
      → IfErr result (λ cut. (cut ≡ cuts.Short kept) × (messages_after ≡ messages_before)) → Ends pools Means (IsCutAction Means) session before last messages_before messages_after result
  full_copy {kept} {before} {after} {last} {messages_before} {messages_after} text given result named ends_so is steps ok err =
      let ends : EndsTransfer pools session transfer before after (Ok (variants.Full kept)) = subst (λ (r : Acted P). EndsTransfer pools session transfer before after (Ok r)) is ends_so in
      let said : List Message = messages.NotProcessed text reasons.VtocFull severities.Error ∷ [] in
      ends_told pools said result (run_steps (λ told. ends.answers.0) ends.run) (keeps_same pools ends.answers.1) (steps ∙ ends.steps_are ∙ ap (λ (l : List Step). before ++ l) ends.answers.0) ok
      (only_short kept messages_before messages_after result err)
      (told_grows (λ next. next ≡ kept) (λ cut. cut ≡ cuts.Short kept) messages_before messages_after said result ok err)
      (λ told units settled. too_full told units settled text named ends.answers.2) (λ told units settled. inl (refl, refl))

  pub done_copy : {next : SessionView P} {before after last : List Step} {messages_before messages_after : List Message} {said : List Message} → AreLines session.units transfer said
      → (given : Acted P) (result : Result (SessionView P) (Cut P)) → EndsTransfer pools session transfer before after (Ok given) → given ≡ variants.Done next → last ≡ after
      → IfOk result (λ left. (left ≡ next) × (messages_after ≡ messages_before ++ said)) → IfErr result (λ cut. cut ≡ cuts.Short next) → ((more : List Message) × (messages_after ≡ messages_before ++ more))
      → Ends pools Means (IsCutAction Means) session before last messages_before messages_after result
  done_copy {next} {before} {after} {last} {messages_before} {messages_after} {said} lines given result ends_so is steps ok err grows =
      let ends : EndsTransfer pools session transfer before after (Ok (variants.Done next)) = subst (λ (r : Acted P). EndsTransfer pools session transfer before after (Ok r)) is ends_so in
      ends_told pools said result (run_steps (λ told. ends.answers.0) ends.run) ends.answers.1 (steps ∙ ends.steps_are ∙ ap (λ (l : List Step). before ++ l) ends.answers.0) ok err grows
      (λ told units settled. copies told units settled ends.answers.3 lines)
      (λ told units settled. inr (steps_of_transfer session.units transfer, [], said, copies told units settled ends.answers.3 lines, sym (append-nil (steps_of_transfer session.units transfer))))

  -- ---- what can be copied then

  abbrev Stays : SessionView P → Type 0
  Stays next = StaysCopyable scene.wish.delete session.room session.units next.units scene.from scene.to transfer.from.name

  pub full_stays : {kept : SessionView P} {before after : List Step} (messages_before messages_after said : List Message) (given : Acted P) (result : Result (SessionView P) (Cut P))
      → EndsTransfer pools session transfer before after (Ok given) → given ≡ variants.Full kept → IfOk result (λ next. (next ≡ kept) × (messages_after ≡ messages_before ++ said)) → IfOk result Stays
  full_stays {kept} {before} {after} messages_before messages_after said given (Ok next) ends_so is ok =
      let ends : EndsTransfer pools session transfer before after (Ok (variants.Full kept)) = subst (λ (r : Acted P). EndsTransfer pools session transfer before after (Ok r)) is ends_so in
      stays_same session.units next.units scene.wish.delete session.room scene.from scene.to transfer.from.name (ap (λ (s : SessionView P). s.units) ok.0 ∙ ends.answers.1.units)
  full_stays messages_before messages_after said given (Err cut) ends_so is ok = tt

  pub done_stays : {next : SessionView P} {before after : List Step} (messages_before messages_after said : List Message) (given : Acted P) (result : Result (SessionView P) (Cut P))
      → EndsTransfer pools session transfer before after (Ok given) → given ≡ variants.Done next → IfOk result (λ left. (left ≡ next) × (messages_after ≡ messages_before ++ said)) → IfOk result Stays
  done_stays {next} {before} {after} messages_before messages_after said given (Ok left) ends_so is ok =
      let ends : EndsTransfer pools session transfer before after (Ok (variants.Done next)) = subst (λ (r : Acted P). EndsTransfer pools session transfer before after (Ok r)) is ends_so in
      subst Stays (sym ok.0)
      (stays_done transfer session.units next.units scene.wish.delete session.room scene.from scene.to may.put.row_is.lawful ends.answers.2)
  done_stays messages_before messages_after said given (Err cut) ends_so is ok = tt

  -- the same, of what is said where the data set isn't copied
  pub full_told : {kept : SessionView P} {before after last : List Step} {messages_before messages_after : List Message} {said : List Message} → AreLines session.units transfer said → (given : Acted P)
      (result : Result (SessionView P) (Cut P)) → EndsTransfer pools session transfer before after (Ok given) → given ≡ variants.Full kept → last ≡ after
      → IfOk result (λ next. (next ≡ kept) × ((text : List ℕ) × IsNameOf transfer.from.name text × (messages_after ≡ messages_before ++ (messages.NotProcessed text reasons.VtocFull severities.Error ∷ []))))
      → IfErr result (λ cut. (cut ≡ cuts.Short kept) × (messages_after ≡ messages_before)) → Ends pools Means (IsCutAction Means) session before last messages_before messages_after result
  full_told lines given (Ok next) ends is steps ok err = full_copy ok.1.0 given (Ok next) ok.1.1 ends is steps (ok.0, ok.1.2) tt
  full_told lines given (Err cut) ends is steps ok err = full_copy lines.text given (Err cut) lines.text_is ends is steps tt err

  pub full_left : {kept : SessionView P} {before after : List Step} (messages_before messages_after : List Message) (given : Acted P) (result : Result (SessionView P) (Cut P))
      → EndsTransfer pools session transfer before after (Ok given) → given ≡ variants.Full kept
      → IfOk result (λ next. (next ≡ kept) × ((text : List ℕ) × IsNameOf transfer.from.name text × (messages_after ≡ messages_before ++ (messages.NotProcessed text reasons.VtocFull severities.Error ∷ []))))
      → IfOk result Stays
  full_left messages_before messages_after given (Ok next) ends is ok =
      full_stays messages_before messages_after (messages.NotProcessed ok.1.0 reasons.VtocFull severities.Error ∷ []) given (Ok next) ends is (ok.0, ok.1.2)
  full_left messages_before messages_after given (Err cut) ends is ok = tt
