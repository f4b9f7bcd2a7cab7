-- The turns of data sets in a dump, one after the other: what stands behind the first of them, and what the next one adds.
use Rattle.std.proofs.Common.{◌≡◌, ℕ, suc, ◌+◌, ◌<◌, ◌≤◌, List, [], ◌∷◌, ◌++◌, length, take, drop, All, Option, Some, None, Result, Ok, Err, false, if◌then◌else◌, get_or, refl, sym, ap, subst, ◌∙◌, arith}
use Rattle.std.specs.Result.{is_err, is_ok}
use Rattle.std.proofs.Math.Numerals.{add-one}
use Rattle.std.proofs.Math.Seq.{drop-cons}
use Rattle.std.proofs.lemmas.Bool.{false≢true}
use Rattle.std.proofs.lemmas.List.{append-nil, append_assoc, take-append-drop}
use Rattle.dasd_pool.specs.declared.pool.Pool.{Ghosts}
use Rattle.dsn_filter.specs.declared.dsn.Dsn.{Dsn}
use Rattle.dump_fmt.specs.declared.piece.DumpHead.{DumpHead}
use Rattle.dump_fmt.specs.declared.progress.Progress.{Progress}
use Rattle.dump_fmt.specs.Outs.{OutSeen}
use Rattle.dump_fmt.specs.Parts.{DumpPart}
use Rattle.volume_model.specs.Unit.{UnitModel}
use Rattle.volume_change.proofs.Names.{one_text}
use Rattle.vtoc_core.specs.declared.volume.Row.{Row}
use Rattle.vtoc_core.specs.declared.volume.Volume.{Volume}
use Rattle.vtoc_core.specs.Loaded.{HasItsName}
use Rattle.unit_load.specs.declared.state.UnitState.{UnitState}
use Rattle.job_turns.specs.job_copies.unit_steps.Plans.{HasRow, IsLoadedAt, tracks_in}
use Rattle.job_turns.proofs.job_copies.step_plans.LoadedRows.{sound_row}
use Rattle.job_turns.proofs.job_copies.step_room.SoundRows.{one_row}
use Rattle.job_turns.proofs.job_copies.unit_steps.OneChange.{same_volume}
use Rattle.job_lines.specs.declared.message.Reason.{Reason}
use Rattle.job_turns.specs.job_steps.unit_session.Sessions.{SessionView}
use Rattle.job_turns.specs.job_steps.Units.{ForUnits}
use Rattle.job_turns.specs.job_acts.Acting.{AreSound}
use Rattle.job_turns.proofs.job_acts.Sessions.{for_old}
use Rattle.job_dumps.specs.Dumped.{DumpRequest, DumpsSet, DumpsSets, IsUnderWayFor}
use Rattle.job_dumps.specs.Passing.{BeginsDump, HoldsParts, LeavesAll, LeavesTurn, TakesAll, TakesTurn}
use Rattle.job_dumps.specs.Putting.{HasPut, IsReadyFor}
use Rattle.job_dumps.specs.Texts.{IsAt, IsOfRow, MayPutSet, OnlyLooks}
use Rattle.job_dumps.proofs.Counted.{AreOfRows, row_at, none_of_rows, more_of_rows, ready_for}

-- ---- what was dumped

-- the turns of names, and that of one name more
pub dumped_more : (request : DumpRequest) (units : List UnitModel) (done : List Dsn) (name : Dsn) (told : List (Option Reason)) (reason : Option Reason) (parts first : List DumpPart)
    → DumpsSets request done units told parts → DumpsSet request name units reason first → DumpsSets request (done ++ name ∷ []) units (told ++ reason ∷ []) (parts ++ first)
dumped_more request units [] name told reason parts first none one = (
  reason,
  [],
  first,
  [],
  ap (λ (t : List (Option Reason)). t ++ reason ∷ []) none.0,
  ap (λ (p : List DumpPart). p ++ first) none.1 ∙ sym (append-nil first),
  one,
  (refl, refl),
)
dumped_more request units (other ∷ done) name told reason parts first (why, more, of_other, rest, told_is, parts_are, its, later) one = (
  why,
  more ++ reason ∷ [],
  of_other,
  rest ++ first,
  ap (λ (t : List (Option Reason)). t ++ reason ∷ []) told_is,
  ap (λ (p : List DumpPart). p ++ first) parts_are ∙ append_assoc of_other rest first,
  its,
  dumped_more request units done name more reason rest first later one,
)

-- what is under way for a name is so whatever follows it
pub under_way_before : (request : DumpRequest) (name : Dsn) (more : List Dsn) (units : List UnitModel) (current : Option DumpPart) → IsUnderWayFor request (name ∷ []) units current
    → IsUnderWayFor request (name ∷ more) units current
under_way_before request name more units None is = tt
under_way_before request name more units (Some part) is = is

-- nothing is under way, whichever name is next
pub none_under_way : (request : DumpRequest) (left : List Dsn) (units : List UnitModel) → IsUnderWayFor request left units None
none_under_way request left units = tt

-- ---- the first names had their turns

-- so many of the names had their turns: these parts stand in the dump, and they are of the rows of these names
pub record HavePassed {P X : Type 0} (pools : Ghosts P) (seen : X → OutSeen) (session : SessionView P) (request : DumpRequest) (names : List Dsn) (progress : Progress) (outs : List X)
    (k : ℕ) (after : Progress) (sent : List X) (told : List (Option Reason)) : Type 0 where
  pub parts : List DumpPart
  pub dumped : ForUnits pools session (λ units. DumpsSets request (take k names) units told parts)
  pub holds : HoldsParts seen session.units request.unit parts None progress outs after sent
  pub of_rows : (begun : BeginsDump seen session.units request.unit names progress outs) → AreOfRows begun.volume (take k begun.order.rows) parts

-- none had its turn yet
pub none_passed : {P X : Type 0} (pools : Ghosts P) (seen : X → OutSeen) (session : SessionView P) (request : DumpRequest) (names : List Dsn) (progress : Progress) (outs : List X)
    (told : List (Option Reason)) → told ≡ [] → HavePassed pools seen session request names progress outs 0 progress outs told
none_passed pools seen session request names progress outs told none = record {
  parts = [];
  dumped = λ tells units settled. (none, refl);
  holds = λ volume loaded before head logical device writing. writing;
  of_rows = λ begun. none_of_rows begun.volume;
}

-- all names had their turns
pub all_passed : {P X : Type 0} (pools : Ghosts P) (seen : X → OutSeen) (session : SessionView P) (request : DumpRequest) (names : List Dsn) (progress : Progress) (outs : List X) (k : ℕ)
    (after : Progress) (sent : List X) (told : List (Option Reason)) → take k names ≡ names → HavePassed pools seen session request names progress outs k after sent told
    → TakesAll pools seen session request names progress outs after sent told
all_passed pools seen session request names progress outs k after sent told all passed = record {
  parts = passed.parts;
  dumped = λ tells units settled. subst (λ (done : List Dsn). DumpsSets request done units told passed.parts) all (passed.dumped tells units settled);
  holds = passed.holds;
}

-- they were cut between two turns
pub cut_between : {P X : Type 0} (pools : Ghosts P) (seen : X → OutSeen) (session : SessionView P) (request : DumpRequest) (names : List Dsn) (progress : Progress) (outs : List X) (k : ℕ)
    (after : Progress) (sent : List X) (told : List (Option Reason)) → HavePassed pools seen session request names progress outs k after sent told
    → LeavesAll pools seen session request names progress outs after sent
cut_between pools seen session request names progress outs k after sent told passed = record {
  parts = passed.parts;
  current = None;
  cut = λ tells units settled. record {
    done = take k names;
    left = drop k names;
    names_are = sym (take-append-drop k names);
    told = told;
    dumped = passed.dumped tells units settled;
    under_way = none_under_way request (drop k names) units;
  };
  holds = passed.holds;
}

-- what is told under another form
pub told_as : {P X : Type 0} (pools : Ghosts P) (seen : X → OutSeen) (session : SessionView P) (request : DumpRequest) (names : List Dsn) (progress : Progress) (outs : List X) (k : ℕ)
    (after : Progress) (sent : List X) {told other : List (Option Reason)} → other ≡ told → HavePassed pools seen session request names progress outs k after sent told
    → HavePassed pools seen session request names progress outs k after sent other
told_as pools seen session request names progress outs k after sent {told} {other} same passed =
    subst (λ (t : List (Option Reason)). HavePassed pools seen session request names progress outs k after sent t) (sym same) passed

-- a push that didn't fail put its value behind the others
pub pushed : {X A E : Type 0} (result : Result A E) (old new : List X) (x : X) → new ≡ (if is_ok result then old ++ x ∷ [] else old) → is_err result ≡ false → new ≡ old ++ x ∷ []
pushed (Ok value) old new x items not = items
pushed (Err value) old new x items not = absurd (false≢true (sym not))

-- the names that are left at a place are that one and the others
pub next_left : (names : List Dsn) (k : ℕ) (d : Dsn) → k < length names → drop k names ≡ get_or names k d ∷ drop (k + 1) names
next_left names k d less = drop-cons names k d less ∙ ap (λ (n : ℕ). get_or names k d ∷ drop n names) (sym (add-one k))

-- ---- the next turn

module _ {P X : Type 0} (pools : Ghosts P) (seen : X → OutSeen) (session now : SessionView P) (request : DumpRequest) (names : List Dsn) (progress : Progress) (outs : List X)
    (begun : BeginsDump seen session.units request.unit names progress outs) (sound : AreSound session.units) (looks : OnlyLooks pools session now) (k : ℕ) (d : Dsn) (less : k < length names)
    (after : Progress) (sent : List X) (told : List (Option Reason)) (passed : HavePassed pools seen session request names progress outs k after sent told) where
  abbrev name : Dsn
  name = get_or names k d

  abbrev IsReady : Volume → Row → DumpHead → Type 0
  IsReady volume row head = IsReadyFor volume.device row.name (length (tracks_in volume row)) head passed.parts

  -- where the name is loaded it is its row
  module _ (begins : BeginsDump seen session.units request.unit names progress outs) (at : IsAt session.units request.unit name) where
    abbrev here : (row : Row) × HasRow begins.volume name row × (take (suc k) begins.order.rows ≡ take k begins.order.rows ++ row ∷ [])
    here = row_at begins.volume names begins.order.rows begins.order.have k d less

    one_volume : begins.volume ≡ at.volume
    one_volume = same_volume session.units request.unit begins.volume at.volume begins.loaded at.loaded

    at_has : HasRow begins.volume name at.row
    at_has = subst (λ (v : Volume). HasRow v name at.row) (sym one_volume) at.row_is

    row_same : here.0 ≡ at.row
    row_same =
        one_row begins.volume (sound request.unit begins.volume begins.loaded) here.0 at.row here.1.there at_has.there (one_text name here.0.name at.row.name here.1.name_is at_has.name_is)

    ready_at : (head : DumpHead) → head.full ≡ false → head.device ≡ begins.volume.device → IsReady at.volume at.row head
    ready_at head logical device =
        subst (λ (v : Volume). IsReady v at.row head) one_volume (subst (λ (r : Row). IsReady begins.volume r head) row_same
        (ready_for begins.order k here.0 here.2 (passed.of_rows begins) head logical device))

    -- the parts of one name more
    rows_more : (first : List DumpPart) → length first ≤ 1 → All (IsOfRow at.volume at.row) first → AreOfRows begins.volume (take (suc k) begins.order.rows) (passed.parts ++ first)
    rows_more first one of_row =
        let its : HasItsName here.0 = (sound_row begins.volume (sound request.unit begins.volume begins.loaded) here.0 here.1.there).named in
        let first_of : All (IsOfRow begins.volume here.0) first =
        subst (λ (r : Row). All (IsOfRow begins.volume r) first) (sym row_same) (subst (λ (v : Volume). All (IsOfRow v at.row) first) (sym one_volume) of_row) in
        subst (λ (rows : List Row). AreOfRows begins.volume rows (passed.parts ++ first)) (sym here.2)
        (more_of_rows begins.volume (take k begins.order.rows) here.0 passed.parts (passed.of_rows begins) first one first_of its here.1.name_is.long)

  -- what a turn put stands behind what stood
  holds_more : (at : IsAt session.units request.unit name) (more : List DumpPart) (current : Option DumpPart) (later : Progress) (put : List X)
      → HasPut seen at.volume.device at.row.name (length (tracks_in at.volume at.row)) more current after sent later put
      → HoldsParts seen session.units request.unit (passed.parts ++ more) current progress outs later put
  holds_more at more current later put has volume loaded before head logical device writing =
      let same : volume ≡ begun.volume = same_volume session.units request.unit volume begun.volume loaded begun.loaded in
      has before head passed.parts (ready_at begun at head logical (device ∙ ap (λ (v : Volume). v.device) same)) (passed.holds volume loaded before head logical device writing)

  -- where it is loaded now it was at first
  abbrev now_at : IsAt now.units request.unit name → IsAt session.units request.unit name
  now_at at = record {
    volume = at.volume;
    row = at.row;
    loaded = subst (λ (units : List UnitState). IsLoadedAt units request.unit at.volume) looks.same.units at.loaded;
    row_is = at.row_is;
  }

  -- its part may be put
  pub may_put : MayPutSet seen now.units request.unit name after sent
  may_put =
      let found = row_at begun.volume names begun.order.rows begun.order.have k d less in
      let at : IsAt session.units request.unit name = record { volume = begun.volume; row = found.0; loaded = begun.loaded; row_is = found.1 } in
      let (before, head, logical, device, writing) = begun.begun in
      subst (λ (units : List UnitState). MayPutSet seen units request.unit name after sent) (sym looks.same.units)
      (at, (before, head, passed.parts, ready_at begun at head logical device, passed.holds begun.volume begun.loaded before head logical device writing))

  -- it had its turn
  pub one_passed : (later : Progress) (put : List X) (reason : Option Reason) → take (k + 1) names ≡ take k names ++ name ∷ []
      → TakesTurn pools seen now request name after sent later put reason
      → HavePassed pools seen session request names progress outs (k + 1) later put (told ++ reason ∷ [])
  one_passed later put reason split takes =
      let up : suc k ≡ k + 1 = omega arith in
      record {
        parts = passed.parts ++ takes.parts;
        dumped = λ tells units settled.
            subst (λ (done : List Dsn). DumpsSets request done units (told ++ reason ∷ []) (passed.parts ++ takes.parts)) (sym split)
            (dumped_more request units (take k names) name told reason passed.parts takes.parts (passed.dumped tells units settled) (for_old pools looks.same takes.dumped tells units settled));
        holds = holds_more (now_at takes.at) takes.parts None later put takes.put;
        of_rows = λ begins.
            subst (λ (n : ℕ). AreOfRows begins.volume (take n begins.order.rows) (passed.parts ++ takes.parts)) up (rows_more begins (now_at takes.at) takes.parts takes.one takes.of_row);
      }

  -- it was cut in its turn
  pub cut_within : (later : Progress) (put : List X) → drop k names ≡ name ∷ drop (k + 1) names → LeavesTurn pools seen now request name after sent later put
      → LeavesAll pools seen session request names progress outs later put
  cut_within later put split leaves = record {
    parts = passed.parts;
    current = leaves.current;
    cut = λ tells units settled. record {
      done = take k names;
      left = name ∷ drop (k + 1) names;
      names_are = sym (take-append-drop k names) ∙ ap (λ (left : List Dsn). take k names ++ left) split;
      told = told;
      dumped = passed.dumped tells units settled;
      under_way = under_way_before request name (drop (k + 1) names) units leaves.current (for_old pools looks.same leaves.under_way tells units settled);
    };
    holds = subst (λ (parts : List DumpPart). HoldsParts seen session.units request.unit parts leaves.current progress outs later put) (append-nil passed.parts)
        (holds_more (now_at leaves.at) [] leaves.current later put leaves.put);
  }
