-- What a dump that was written, or cut, means on the units.
use Rattle.std.proofs.Common.{◌≡◌, ◌⊎◌, inl, inr, ℕ, List, [], map, Option, None, refl, sym, ap, subst, ◌∙◌}
use Rattle.std.specs.Prelude.{Result, Err}
use Rattle.std.proofs.lemmas.List.{append-nil}
use Rattle.by_rules.specs.declared.day.Day.{Day}
use Rattle.dasd_pool.specs.Count.{Rose}
use Rattle.dasd_pool.specs.declared.pool.Pool.{Ghosts}
use Rattle.dd_names.specs.declared.dd.DdName.{DdName}
use Rattle.dsn_filter.specs.declared.dsn.Dsn.{Dsn}
use Rattle.dump_fmt.specs.declared.outs.OutState.TheVariants as states
use Rattle.dump_fmt.specs.declared.piece.DumpHead.{DumpHead}
use Rattle.dump_fmt.specs.Outs.{EachAt, HasTaken, OutSeen}
use Rattle.dump_fmt.specs.Text.{dump_text, front_text}
use Rattle.enq_table.specs.declared.hold.Hold.{Hold}
use Rattle.volume_model.specs.Unit.{OnlineVolume}
use Rattle.vtoc_core.specs.declared.volume.Volume.{Volume}
use Rattle.move_core.specs.declared.steps.Step.{Step}
use Rattle.move_core.specs.Facts.{no_inputs, shown}
use Rattle.move_core.specs.Runs.{IsRun}
use Rattle.move_core.proofs.Running.{run_less}
use Rattle.job_lines.specs.declared.message.Message.{Message}
use Rattle.job_lines.specs.declared.message.Reason.{Reason}
use Rattle.job_dumps.specs.job_turns.job_copies.unit_change.Described.{Describes}
use Rattle.job_dumps.specs.job_turns.job_copies.unit_steps.Plans.{IsLoadedAt}
use Rattle.job_dumps.specs.job_turns.job_steps.unit_session.Sessions.{BrokenView, IsSameSession, SessionView}
use Rattle.job_dumps.specs.job_turns.job_steps.declared.cut.Cut.{Cut}
use Rattle.job_dumps.specs.job_turns.job_steps.declared.cut.Cut.TheVariants as cuts
use Rattle.job_dumps.specs.job_turns.job_steps.Units.{ForUnits}
use Rattle.job_dumps.proofs.job_turns.job_acts.Sessions.{keeps_same}
use Rattle.job_dumps.specs.declared.wish.DumpWish.{DumpWish}
use Rattle.job_dumps.specs.Putting.{holding}
use Rattle.job_dumps.specs.Texts.{OnlyLooks}
use Rattle.job_dumps.specs.job_turns.Ends.{Ends}
use Rattle.job_dumps.specs.job_turns.Setting.{Setting, setting_of}
use Rattle.job_dumps.proofs.job_turns.LoadedUnits.{AreKnown}
use Rattle.job_dumps.proofs.job_turns.SameSessions.{ends_after, ends_as}
use Rattle.dump_sets.specs.Dump.{Dumps, FollowsDump, IsCutBehind, IsCutIn, IsCutOnOutputs, StandsOnOutputs, head_of, request_of}
use Rattle.dump_sets.specs.Going.{IsHeadFor}
use Rattle.dump_sets.specs.Writing.{LeavesDump, WritesDump}
use Rattle.dump_sets.proofs.OutputsKept.{each_seen, finished_seen}

module _ {P : Type 0} (pools : Ghosts P) (session : SessionView P) (held : List Hold) (today : Day) where
  -- a session that was only read is judged alike
  same_setting : {new : SessionView P} → IsSameSession pools session new → setting_of pools new held today ≡ setting_of pools session held today
  same_setting same = λ i. record { facts = record { shape = same.shape i; names = same.names i; room = same.room i; inputs = no_inputs }; today = today; held = held }

  -- what a session that was only looked at does with a dump, the one before it does
  pub looked_ends : {new : SessionView P} (wish : DumpWish) (names : List DdName) (unit : ℕ) (sets : List Dsn) (places : List ℕ) (before after : List OutSeen)
      → IsRun pools.tells (shown pools session.pool) (shown pools new.pool) (Unit {0}) [] None → IsSameSession pools session new → {steps steps_after : List Step} {messages messages_after : List Message}
      {result : Result (SessionView P) (Cut P)}
      → Ends pools (Dumps (setting_of pools new held today) wish names unit sets places before after) (IsCutIn (setting_of pools new held today) wish unit sets places before after) new
      steps steps_after messages messages_after result
      → Ends pools (Dumps (setting_of pools session held today) wish names unit sets places before after) (IsCutIn (setting_of pools session held today) wish unit sets places before after) session
      steps steps_after messages messages_after result
  looked_ends {new} wish names unit sets places before after run same {steps} {steps_after} {messages} {messages_after} {result} ends =
      ends_after pools run same
      (subst (λ (setting : Setting). Ends pools (Dumps setting wish names unit sets places before after) (IsCutIn setting wish unit sets places before after) new
      steps steps_after messages messages_after result) (same_setting same) ends)

  module _ {X : Type 0} (seen : X → OutSeen) (wish : DumpWish) (unit : ℕ) (sets : List Dsn) (places : List ℕ) (before after : List X) (head : DumpHead) (loaded : Volume)
      (at : IsLoadedAt session.units unit loaded) (known : AreKnown pools session) (head_is : IsHeadFor ((pools.shape session.pool).blocks unit) loaded today head) where
    -- its header is that of the volume
    head_same : (volume : OnlineVolume) → Describes loaded volume → head_of (setting_of pools session held today) unit volume ≡ head
    head_same volume is = λ i. record {
      full = sym head_is.logical i;
      device = (is.device_is ∙ sym head_is.device_is) i;
      serial = (is.serial_is ∙ sym head_is.serial_is) i;
      tracks = sym head_is.tracks_are i;
      day = sym head_is.day_is i;
      vtoc = sym head_is.no_vtoc i;
    }

    stands_on : (told : List (Option Reason)) → WritesDump pools seen session (request_of (setting_of pools session held today) wish unit) head sets places before after told
        → ForUnits pools session (λ units. StandsOnOutputs (setting_of pools session held today) wish unit sets places units (map seen before) (map seen after) told)
    stands_on told writes tells units settled =
        let found = known.online_at tells units settled unit loaded at in
        record {
          volume = found.0;
          online_is = found.1;
          parts = writes.parts;
          dumped = writes.dumped tells units settled;
          written =
              subst (λ (top : DumpHead). EachAt (HasTaken states.Whole (dump_text top (holding writes.parts None))) places (map seen before) (map seen after)) (sym (head_same found.0 found.2))
              (each_seen seen (HasTaken states.Whole (dump_text head (holding writes.parts None))) places before after writes.written);
          durable = finished_seen seen places after writes.durable;
        }

    left_on : LeavesDump pools seen session (request_of (setting_of pools session held today) wish unit) head sets places before after
        → ForUnits pools session (λ units. (map seen after ≡ map seen before) ⊎ IsCutOnOutputs (setting_of pools session held today) wish unit sets places units (map seen before) (map seen after))
    left_on (inl same) tells units settled = inl (ap (map seen) same)
    left_on (inr front) tells units settled =
        let found = known.online_at tells units settled unit loaded at in
        inr (record {
          volume = found.0;
          online_is = found.1;
          parts = front.parts;
          current = front.current;
          cut = front.cut tells units settled;
          written =
              subst (λ (top : DumpHead). EachAt (HasTaken states.Cut (front_text top (holding front.parts front.current))) places (map seen before) (map seen after)) (sym (head_same found.0 found.2))
              (each_seen seen (HasTaken states.Cut (front_text head (holding front.parts front.current))) places before after front.written);
        })

    abbrev pub EndsDumping : List DdName → List Step → List Step → List Message → List Message → Result (SessionView P) (Cut P) → Type 0
    EndsDumping names steps steps_after messages messages_after result =
        Ends pools (Dumps (setting_of pools session held today) wish names unit sets places (map seen before) (map seen after))
        (IsCutIn (setting_of pools session held today) wish unit sets places (map seen before) (map seen after)) session steps steps_after messages messages_after result

    -- it stands, and what follows it ended or was cut
    pub dumped : {new : SessionView P} (names : List DdName) → OnlyLooks pools session new → (told : List (Option Reason))
        → WritesDump pools seen session (request_of (setting_of pools session held today) wish unit) head sets places before after told → (list : List (Option Reason)) (given : List X) → list ≡ told
        → given ≡ after → {steps steps_after : List Step} {messages messages_after : List Message} (result : Result (SessionView P) (Cut P))
        → Ends pools (FollowsDump (setting_of pools new held today) wish names unit sets places (map seen given) list) (IsCutBehind (setting_of pools new held today) wish unit sets places (map seen given) list) new
        steps steps_after messages messages_after result
        → EndsDumping names steps steps_after messages messages_after result
    dumped {new} names looks told writes list given list_is given_is {steps} {steps_after} {messages} {messages_after} result ends =
        ends_as pools result (λ tells units settled done said follows. (told, stands_on told writes tells units settled, follows))
        (λ tells units settled done pending cut. inr (told, stands_on told writes tells units settled, cut))
        (ends_after pools looks.run looks.same
        (subst (λ (setting : Setting). Ends pools (FollowsDump setting wish names unit sets places (map seen after) told) (IsCutBehind setting wish unit sets places (map seen after) told) new
        steps steps_after messages messages_after result) (same_setting looks.same)
        (subst (λ (l : List (Option Reason)). Ends pools (FollowsDump (setting_of pools new held today) wish names unit sets places (map seen after) l)
        (IsCutBehind (setting_of pools new held today) wish unit sets places (map seen after) l) new steps steps_after messages messages_after result) list_is
        (subst (λ (g : List X). Ends pools (FollowsDump (setting_of pools new held today) wish names unit sets places (map seen g) list)
        (IsCutBehind (setting_of pools new held today) wish unit sets places (map seen g) list) new steps steps_after messages messages_after result) given_is ends))))

    -- the pool failed within it
    pub dump_halted : {new : SessionView P} (names : List DdName) → OnlyLooks pools session new
        → LeavesDump pools seen session (request_of (setting_of pools session held today) wish unit) head sets places before after → (broken : BrokenView P)
        → Rose (pools.faults session.pool) (pools.faults new.pool) → broken.pool ≡ new.pool → broken.pending ≡ None → (steps : List Step) (messages : List Message)
        → EndsDumping names steps steps messages messages (Err (cuts.Halted broken))
    dump_halted {new} names looks left broken rose pool none steps messages = record {
      added = [];
      said = [];
      steps_are = sym (append-nil steps);
      messages_are = sym (append-nil messages);
      run =
          subst (λ (p : P). IsRun pools.tells (shown pools session.pool) (shown pools p) ⊥ [] broken.pending) (sym pool)
          (subst (λ (step : Option Step). IsRun pools.tells (shown pools session.pool) (shown pools new.pool) ⊥ [] step) (sym none) (run_less (λ never. tt {0}) (λ never. rose) looks.run));
      facts = tt;
      ended = tt;
      cut = λ tells units settled. inl (left_on left tells units settled, refl, none);
    }

    -- memory ran out within it
    pub dump_short : {new : SessionView P} (names : List DdName) → OnlyLooks pools session new
        → LeavesDump pools seen session (request_of (setting_of pools session held today) wish unit) head sets places before after → (steps : List Step) (messages : List Message)
        → EndsDumping names steps steps messages messages (Err (cuts.Short new))
    dump_short {new} names looks left steps messages = record {
      added = [];
      said = [];
      steps_are = sym (append-nil steps);
      messages_are = sym (append-nil messages);
      run = looks.run;
      facts = keeps_same pools looks.same;
      ended = tt;
      cut = λ tells units settled. inl (left_on left tells units settled, refl, refl);
    }
