-- What follows a dump that stands, from its parts.
use Rattle.std.proofs.Common.{◌≡◌, inl, ℕ, suc, Bool, true, false, List, [], ◌∷◌, ◌++◌, All, Option, Some, None, refl, sym, ap, subst, ◌∙◌, append_assoc, arith}
use Rattle.std.specs.Prelude.{AllPairs, Result, Ok, Err, IfOk, IfErr}
use Rattle.std.proofs.lemmas.List.{append-nil}
use Rattle.std.proofs.lemmas.List.Elements.{All-cons, All-head, All-nil, All-tail}
use Rattle.std.proofs.lemmas.List.Kept.{AllPairs-cons}
use Rattle.by_rules.specs.declared.day.Day.{Day}
use Rattle.dasd_pool.specs.declared.pool.Pool.{Ghosts}
use Rattle.dd_names.specs.declared.dd.DdName.{DdName}
use Rattle.dsn_filter.specs.declared.dsn.Dsn.{Dsn}
use Rattle.dump_fmt.specs.Outs.{OutSeen}
use Rattle.enq_table.specs.declared.hold.Hold.{Hold}
use Rattle.volume_model.specs.Unit.{UnitModel}
use Rattle.move_core.specs.declared.steps.Step.{Step}
use Rattle.move_core.specs.Facts.{Facts}
use Rattle.move_core.proofs.Running.{run_idle}
use Rattle.job_lines.specs.declared.message.Message.{Message}
use Rattle.job_lines.specs.declared.message.Message.TheVariants as messages
use Rattle.job_lines.specs.declared.message.Reason.{Reason}
use Rattle.job_dumps.specs.job_turns.job_steps.unit_session.Sessions.{SessionView}
use Rattle.job_dumps.specs.job_turns.job_steps.declared.cut.Cut.{Cut}
use Rattle.job_dumps.specs.job_turns.job_steps.declared.cut.Cut.TheVariants as cuts
use Rattle.job_dumps.specs.job_turns.job_steps.Carried.{pending_cut}
use Rattle.job_dumps.specs.job_turns.job_steps.Units.{facts_of}
use Rattle.job_dumps.proofs.job_turns.job_acts.Sessions.{no_change}
use Rattle.job_dumps.specs.declared.wish.DumpWish.{DumpWish}
use Rattle.job_dumps.specs.Reasons.{changes_sets}
use Rattle.job_dumps.specs.job_turns.Ends.{Ends}
use Rattle.job_dumps.specs.job_turns.Setting.{Setting, setting_of}
use Rattle.job_dumps.specs.job_turns.Turns.{Action, AreCutTurns, Turns}
use Rattle.job_dumps.proofs.job_turns.SameSessions.{ends_said}
use Rattle.dump_sets.specs.Changing.{ChangesSet}
use Rattle.dump_sets.specs.Dump.{ChangesTaken, FollowsDump, IsCutBehind, IsCutInChanges}
use Rattle.dump_sets.specs.Going.{AreDumpLines}
use Rattle.dump_sets.specs.Telling.{some_whole, taken_of}

-- ---- cut before anything more is done

turns_nothing : (facts : Facts) (Turn : Dsn → Action) (names : List Dsn) (units : List UnitModel) → AreCutTurns facts Turn names units [] None
turns_nothing facts Turn [] units = (refl, refl)
turns_nothing facts Turn (name ∷ names) units = inl (inl (refl, refl))

pub cut_nothing : (setting : Setting) (wish : DumpWish) (unit : ℕ) (taken : List Dsn) (whole changes : Bool) (units : List UnitModel)
    → IsCutInChanges whole changes setting wish unit taken units [] None
cut_nothing setting wish unit taken true true units = turns_nothing setting.facts _ taken units
cut_nothing setting wish unit taken true false units = (refl, refl)
cut_nothing setting wish unit taken false changes units = (refl, refl)

-- ---- what is said first, and what follows

-- something was said, and what goes on from there ends so
pub ends_behind : {P : Type 0} (pools : Ghosts P) {Means Other : Action} {IsCut IsOther : List UnitModel → List Step → Option Step → Type 0} {session : SessionView P}
    {steps_before steps_after : List Step} {first middle last : List Message} (said : List Message) (result : Result (SessionView P) (Cut P)) → middle ≡ first ++ said
    → ((units : List UnitModel) (steps : List Step) (rest : List Message) → Means units steps rest → Other units steps (said ++ rest))
    → ((units : List UnitModel) (steps : List Step) (pending : Option Step) → IsCut units steps pending → IsOther units steps pending)
    → Ends pools Means IsCut session steps_before steps_after middle last result → Ends pools Other IsOther session steps_before steps_after first last result
ends_behind pools {first = first} said (Ok next) middle_is means cut ends = record {
  added = ends.added;
  said = said ++ ends.said;
  steps_are = ends.steps_are;
  messages_are = ends.messages_are ∙ ap (λ (l : List Message). l ++ ends.said) middle_is ∙ append_assoc first said ends.said;
  run = ends.run;
  facts = ends.facts;
  ended = λ told units settled. means units ends.added ends.said (ends.ended told units settled);
  cut = tt;
}
ends_behind pools {first = first} said (Err short) middle_is means cut ends = record {
  added = ends.added;
  said = said ++ ends.said;
  steps_are = ends.steps_are;
  messages_are = ends.messages_are ∙ ap (λ (l : List Message). l ++ ends.said) middle_is ∙ append_assoc first said ends.said;
  run = ends.run;
  facts = ends.facts;
  ended = tt;
  cut = λ told units settled. cut units ends.added (pending_cut short) (ends.cut told units settled);
}

module _ (setting : Setting) (wish : DumpWish) (names : List DdName) (unit : ℕ) (sets : List Dsn) (places : List ℕ) (outs : List OutSeen) (told : List (Option Reason)) where
  -- the lines, and the changes behind them
  pub follows : {said : List Message} → AreDumpLines outs names sets places told said → (whole changes : Bool) → some_whole outs places ≡ whole → changes_sets wish ≡ changes
      → (units : List UnitModel) (steps : List Step) (rest : List Message) → ChangesTaken whole changes setting wish unit (taken_of sets told) units steps rest
      → FollowsDump setting wish names unit sets places outs told units steps (said ++ rest)
  follows {said} lines whole changes is_whole is_changed units steps rest done = record {
    of_sets = lines.of_sets;
    of_sets_are = lines.of_sets_are;
    rest = rest;
    said_are = ap (λ (l : List Message). l ++ rest) lines.said_are ∙ append_assoc lines.of_sets _ rest;
    changes =
        subst (λ (b : Bool). ChangesTaken b (changes_sets wish) setting wish unit (taken_of sets told) units steps rest) (sym is_whole)
        (subst (λ (b : Bool). ChangesTaken whole b setting wish unit (taken_of sets told) units steps rest) (sym is_changed) done);
  }

  pub cut_follows : (whole changes : Bool) → some_whole outs places ≡ whole → changes_sets wish ≡ changes → (units : List UnitModel) (steps : List Step) (pending : Option Step)
      → IsCutInChanges whole changes setting wish unit (taken_of sets told) units steps pending
      → IsCutInChanges (some_whole outs places) (changes_sets wish) setting wish unit (taken_of sets told) units steps pending
  cut_follows whole changes is_whole is_changed units steps pending cut =
      subst (λ (b : Bool). IsCutInChanges b (changes_sets wish) setting wish unit (taken_of sets told) units steps pending) (sym is_whole)
      (subst (λ (b : Bool). IsCutInChanges whole b setting wish unit (taken_of sets told) units steps pending) (sym is_changed) cut)

-- ---- names of data sets that are dumped

all_taken : (R : Dsn → Type 0) (sets : List Dsn) (told : List (Option Reason)) → All R sets → All R (taken_of sets told)
all_taken R [] [] all = All-nil R
all_taken R [] (reason ∷ told) all = All-nil R
all_taken R (name ∷ sets) [] all = All-nil R
all_taken R (name ∷ sets) (None ∷ told) all = All-cons R name (taken_of sets told) (All-head R name sets all) (all_taken R sets told (All-tail R name sets all))
all_taken R (name ∷ sets) (Some reason ∷ told) all = all_taken R sets told (All-tail R name sets all)

pairs_head : {X : Type 0} (R : X → X → Type 0) (x : X) (xs : List X) → AllPairs R (x ∷ xs) → All (R x) xs
pairs_head R x xs is = λ k d less. is 0 (suc k) d (omega arith) (omega (arith, less))

pairs_tail : {X : Type 0} (R : X → X → Type 0) (x : X) (xs : List X) → AllPairs R (x ∷ xs) → AllPairs R xs
pairs_tail R x xs is = λ i j d before within. is (suc i) (suc j) d (omega (arith, before)) (omega (arith, within))

pub taken_apart : (R : Dsn → Dsn → Type 0) (sets : List Dsn) (told : List (Option Reason)) → AllPairs R sets → AllPairs R (taken_of sets told)
taken_apart R [] [] apart = apart
taken_apart R [] (reason ∷ told) apart = apart
taken_apart R (name ∷ sets) [] apart = λ i j d before within. absurd (omega (arith, within))
taken_apart R (name ∷ sets) (None ∷ told) apart =
    AllPairs-cons R name (taken_of sets told) (all_taken (R name) sets told (pairs_head R name sets apart)) (taken_apart R sets told (pairs_tail R name sets apart))
taken_apart R (name ∷ sets) (Some reason ∷ told) apart = taken_apart R sets told (pairs_tail R name sets apart)

-- ---- how it ends

module _ {P : Type 0} (pools : Ghosts P) (session : SessionView P) where
  -- there was no memory for all that was to be said
  pub short_within : {Means : Action} {IsCut : List UnitModel → List Step → Option Step → Type 0} {steps_before steps_after : List Step} {first last : List Message} (cut : Cut P)
      → cut ≡ cuts.Short session → steps_after ≡ steps_before → ((said : List Message) × (last ≡ first ++ said)) → ((units : List UnitModel) → IsCut units [] None)
      → Ends pools Means IsCut session steps_before steps_after first last (Err cut)
  short_within {Means} {IsCut} {steps_before} {steps_after} {first} {last} cut is steps grows nothing =
      subst (λ (k : Cut P). Ends pools Means IsCut session steps_before steps_after first last (Err k)) (sym is) (record {
        added = [];
        said = grows.0;
        steps_are = steps ∙ sym (append-nil steps_before);
        messages_are = grows.1;
        run = run_idle (tt {0});
        facts = no_change pools session;
        ended = tt;
        cut = λ told units settled. nothing units;
      })

  module _ (held : List Hold) (today : Day) (wish : DumpWish) (names : List DdName) (unit : ℕ) (sets : List Dsn) (places : List ℕ) (outs : List OutSeen) (told : List (Option Reason)) where
    abbrev pub EndsFollowing : List Step → List Step → List Message → List Message → Result (SessionView P) (Cut P) → Type 0
    EndsFollowing before after first last result =
        Ends pools (FollowsDump (setting_of pools session held today) wish names unit sets places outs told) (IsCutBehind (setting_of pools session held today) wish unit sets places outs told) session
        before after first last result

    module _ {before middle after : List Step} {first between last : List Message} {said : List Message} (lines : AreDumpLines outs names sets places told said) (next : SessionView P)
        (is : next ≡ session) (steps_same : middle ≡ before) (between_is : between ≡ first ++ said) where
      behind : (whole changes : Bool) → some_whole outs places ≡ whole → changes_sets wish ≡ changes → (result : Result (SessionView P) (Cut P))
          → Ends pools (ChangesTaken whole changes (setting_of pools session held today) wish unit (taken_of sets told)) (IsCutInChanges whole changes (setting_of pools session held today) wish unit (taken_of sets told)) next
          middle after between last result
          → EndsFollowing before after first last result
      behind whole changes is_whole is_changed result ends =
          subst (λ (s : List Step). EndsFollowing s after first last result) steps_same
          (ends_behind pools said result between_is (follows (setting_of pools session held today) wish names unit sets places outs told lines whole changes is_whole is_changed)
          (cut_follows (setting_of pools session held today) wish names unit sets places outs told whole changes is_whole is_changed)
          (subst (λ (s : SessionView P). Ends pools (ChangesTaken whole changes (setting_of pools session held today) wish unit (taken_of sets told))
          (IsCutInChanges whole changes (setting_of pools session held today) wish unit (taken_of sets told)) s middle after between last result) is ends))

      -- no output is whole
      pub none_whole : some_whole outs places ≡ false → after ≡ middle → (result : Result (SessionView P) (Cut P))
          → IfOk result (λ kept. (kept ≡ next) × (last ≡ between ++ messages.NoOutputWhole ∷ [])) → IfErr result (λ cut. (cut ≡ cuts.Short next) × (last ≡ between))
          → EndsFollowing before after first last result
      none_whole is_whole steps result ok err =
          behind false (changes_sets wish) is_whole refl result
          (ends_said pools (messages.NoOutputWhole ∷ []) result steps ok err (λ tells units settled. (refl, refl)) (λ units. (refl, refl)))

      -- no data set is changed
      pub none_changed : some_whole outs places ≡ true → changes_sets wish ≡ false → after ≡ middle → last ≡ between → EndsFollowing before after first last (Ok next)
      none_changed is_whole is_changed steps messages_same =
          behind true false is_whole is_changed (Ok next) (record {
            added = [];
            said = [];
            steps_are = steps ∙ sym (append-nil middle);
            messages_are = messages_same ∙ sym (append-nil between);
            run = run_idle (tt {0});
            facts = no_change pools next;
            ended = λ tells units settled. (refl, refl);
            cut = tt;
          })

      -- none stands in the dump
      pub none_left : some_whole outs places ≡ true → changes_sets wish ≡ true → taken_of sets told ≡ [] → after ≡ middle → last ≡ between → EndsFollowing before after first last (Ok next)
      none_left is_whole is_changed none steps messages_same =
          behind true true is_whole is_changed (Ok next) (record {
            added = [];
            said = [];
            steps_are = steps ∙ sym (append-nil middle);
            messages_are = messages_same ∙ sym (append-nil between);
            run = run_idle (tt {0});
            facts = no_change pools next;
            ended = λ tells units settled. subst (λ (list : List Dsn). Turns (facts_of pools session) (ChangesSet wish unit) list units [] []) (sym none) (refl, refl);
            cut = tt;
          })

      -- there was no memory for the names of those that are to be changed
      pub none_taken : after ≡ middle → last ≡ between → EndsFollowing before after first last (Err (cuts.Short next))
      none_taken steps messages_same =
          short_within (cuts.Short next) (ap cuts.Short is) (steps ∙ steps_same) (said, messages_same ∙ between_is)
          (cut_nothing (setting_of pools session held today) wish unit (taken_of sets told) (some_whole outs places) (changes_sets wish))

      -- data sets were changed
      pub all_changed : some_whole outs places ≡ true → changes_sets wish ≡ true → (taken : List Dsn) → taken ≡ taken_of sets told → (result : Result (SessionView P) (Cut P))
          → Ends pools (Turns (facts_of pools next) (ChangesSet wish unit) taken) (AreCutTurns (facts_of pools next) (ChangesSet wish unit) taken) next middle after between last result
          → EndsFollowing before after first last result
      all_changed is_whole is_changed taken taken_is result ends =
          behind true true is_whole is_changed result
          (subst (λ (list : List Dsn). Ends pools (Turns (facts_of pools session) (ChangesSet wish unit) list) (AreCutTurns (facts_of pools session) (ChangesSet wish unit) list) next middle after between
          last result) taken_is
          (subst (λ (s : SessionView P). Ends pools (Turns (facts_of pools s) (ChangesSet wish unit) taken) (AreCutTurns (facts_of pools s) (ChangesSet wish unit) taken) next middle after between
          last result) is ends))
