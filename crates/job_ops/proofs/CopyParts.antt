-- What a session says of the data set that is to be copied, and what is judged of it.
use Rattle.std.proofs.Common.{◌≡◌, ◌≢◌, ◌↔◌, ℕ, ◌≤◌, ◌==◌, Bool, true, IsTrue, List, [], ◌∷◌, length, All, Option, Some, None, sym, subst, ◌∙◌}
use Rattle.std.specs.Prelude.{IfSome, IfNone}
use Rattle.std.proofs.lemmas.Bool.{eqb-true, eq-eqb}
use Rattle.std.proofs.lemmas.List.Elements.{All-head}
use Rattle.dasd_pool.specs.declared.pool.Pool.{Ghosts}
use Rattle.dsn_filter.specs.declared.dsn.Dsn.{Dsn}
use Rattle.dsn_filter.specs.Dsn.{IsDsn}
use Rattle.free_map.specs.declared.run.Run.{Run}
use Rattle.volume_model.specs.Pinned.{IsNameOf}
use Rattle.volume_model.specs.Unit.{UnitModel}
use Rattle.vtoc_core.specs.declared.volume.Row.{Row}
use Rattle.vtoc_core.specs.declared.volume.Volume.{Volume}
use Rattle.move_core.specs.Stands.{IsSettled}
use Rattle.unit_load.specs.declared.state.UnitState.{UnitState}
use Rattle.dump_sets.specs.job_turns.job_copies.unit_steps.Plans.{IsLoadedAt, HasRow}
use Rattle.dump_sets.specs.job_turns.job_steps.unit_session.Sessions.{SessionView}
use Rattle.dump_sets.specs.job_turns.job_copies.step_plans.Plans.{ArePlacesOn, IsClear}
use Rattle.dump_sets.specs.job_turns.job_copies.declared.copying.Copying.{Copying}
use Rattle.dump_sets.specs.job_turns.job_copies.Case.{Case, ReplacesSome}
use Rattle.dump_sets.specs.job_turns.job_copies.Loaded.{AreCopied, MayCopy}
use Rattle.dump_sets.specs.job_turns.job_copies.Places.{ArePlacesFor, HasNoPlaces}
use Rattle.dump_sets.specs.job_turns.job_copies.Reasons.{PreventsAtFirst, first_reasons}
use Rattle.job_ops.specs.declared.copies.Judged.TheVariants as judges
use Rattle.job_ops.specs.Copy.{Request}
use Rattle.job_ops.specs.Copying.{MayBeCopied, IsCase, IsThere, IsJudged, MayStand}
use Rattle.dump_sets.specs.job_turns.job_steps.Units.{facts_of, ForUnits}
use Rattle.dump_sets.proofs.job_turns.LoadedUnits.{AreKnown}
use Rattle.dump_sets.proofs.job_turns.job_copies.SetsOfRows.{named_set}
use Rattle.dump_sets.proofs.job_turns.job_steps.unit_session.unit_steps.OneChange.{same_volume}

first_of : {A B : Type 0} → A × B → A
first_of (a, b) = a

second_of : {A B : Type 0} → A × B → B
second_of (a, b) = b

pub at_some : {X : Type 0} (Holds : X → Type 0) {found : Option X} {x : X} → found ≡ Some x → IfSome found Holds → Holds x
at_some {X} Holds {found} {x} is holds = subst (λ (o : Option X). IfSome o Holds) is holds

pub at_none : {X : Type 0} (Holds : Type 0) {found : Option X} → found ≡ None → IfNone found Holds → Holds
at_none {X} Holds {found} is holds = subst (λ (o : Option X). IfNone o Holds) is holds

-- ---- the data set

module _ {room : ℕ} {units : List UnitState} {from to : ℕ} {name : Dsn} {delete : Bool} (may : MayBeCopied delete room units from to (name ∷ [])) where
  pub row_there : (loaded : Volume) → IsLoadedAt units from loaded → (row : Row) × HasRow loaded name row
  row_there loaded at =
      subst (λ (v : Volume). (row : Row) × HasRow v name row) (same_volume units from may.source loaded may.source_loaded at)
      (All-head (λ (n : Dsn). (row : Row) × HasRow may.source n row) name [] may.sets)

module _ {P : Type 0} {pools : Ghosts P} {session : SessionView P} {request : Request} {name : Dsn} {delete : Bool}
    (may : MayBeCopied delete session.room session.units request.from request.to (name ∷ [])) where
  pub is_there : AreKnown pools session → ForUnits pools session (IsThere request name)
  is_there known told units settled =
      let source = known.online_at told units settled request.from may.source may.source_loaded in
      let target = known.online_at told units settled request.to may.target.volume may.target.loaded in
      let found = row_there may may.source may.source_loaded in
      let set = named_set may.source source.0 (known.sound request.from may.source may.source_loaded) source.2 name found.0 found.1 in
      record {
        source = source.0;
        source_is = source.1;
        target = target.0;
        target_is = target.1;
        set = set.0;
        there = set.1;
        name_is = subst (IsNameOf name) (sym set.2.name_is) found.1.name_is;
      }

-- ---- what is judged of it

-- it is judged on the volumes of these units
pub record IsCopyingIn {P : Type 0} (pools : Ghosts P) (session : SessionView P) (request : Request) (name new : Dsn) (copying : Copying) : Type 0 where
  pub known : AreKnown pools session
  pub source_at : IsLoadedAt session.units request.from copying.source.now
  pub target_at : IsLoadedAt session.units request.to copying.target.now
  pub within_is : copying.within ≡ (request.from == request.to)
  pub name_is : copying.name ≡ name
  pub new_is : copying.new ≡ new
  pub wish_is : copying.wish ≡ request.wish

pub copying_in : {P : Type 0} {pools : Ghosts P} {session : SessionView P} {request : Request} {name new : Dsn} {copying : Copying}
    → AreKnown pools session → IsLoadedAt session.units request.from copying.source.now → IsLoadedAt session.units request.to copying.target.now
    → copying.within ≡ (request.from == request.to) → copying.name ≡ name → copying.new ≡ new → copying.wish ≡ request.wish → IsCopyingIn pools session request name new copying
copying_in known source target within_is name_is new_is wish_is = record {
  known = known;
  source_at = source;
  target_at = target;
  within_is = within_is;
  name_is = name_is;
  new_is = new_is;
  wish_is = wish_is;
}

module _ {P : Type 0} {pools : Ghosts P} {session : SessionView P} {request : Request} {name new : Dsn} {copying : Copying} (is : IsCopyingIn pools session request name new copying) where
  pub may_copy : {delete : Bool} → MayBeCopied delete session.room session.units request.from request.to (name ∷ []) → IsDsn new → MayCopy copying
  may_copy {delete} may lawful =
      let found = row_there may copying.source.now is.source_at in
      record {
        sound = is.known.sound request.from copying.source.now is.source_at;
        target_sound = is.known.sound request.to copying.target.now is.target_at;
        row = found.0;
        row_is = subst (λ (n : Dsn). HasRow copying.source.now n found.0) (sym is.name_is) found.1;
        new_is = subst IsDsn (sym is.new_is) lawful;
        one =
            λ within.
            same_volume session.units request.to copying.target.now copying.source.now is.target_at
            (subst (λ (u : ℕ). IsLoadedAt session.units u copying.source.now) (eqb-true request.from request.to (sym is.within_is ∙ within)) is.source_at);
      }

  -- each case of the units is one of the volumes as they were loaded
  pub copied_case : pools.tells → (units : List UnitModel) → IsSettled (facts_of pools session) (pools.disk session.pool).state units
      → (case : Case) → IsCase request name new units case → AreCopied copying case
  copied_case told units settled case case_is = record {
    from_is = is.known.described told units settled request.from copying.source.now case.from is.source_at case_is.source_is;
    to_is = is.known.described told units settled request.to copying.target.now case.to is.target_at case_is.target_is;
    within_is = case_is.within_is ∙ sym is.within_is;
    name_is = case_is.case_name ∙ sym is.name_is;
    new_is = case_is.case_new ∙ sym is.new_is;
    wish_is = case_is.wish_is ∙ sym is.wish_is;
    there = case_is.there;
    named = subst (λ (n : Dsn). IsNameOf n case.set.name) (sym case_is.case_name) case_is.named;
  }

  -- nothing prevents it at first, and there are places for its copy or there are none
  pub judged_placed : {replaced : Bool} {runs : List Run}
      → ((case : Case) → AreCopied copying case → All (λ reason. ¬ PreventsAtFirst request.held request.today case reason) first_reasons × (IsTrue replaced ↔ ReplacesSome case))
      → ((case : Case) → AreCopied copying case → ArePlacesFor case runs) → ForUnits pools session (IsJudged request name new (judges.Placed replaced runs))
  judged_placed {replaced} {runs} goes chosen told units settled = (
    record { lets = λ case case_is. first_of (goes case (copied_case told units settled case case_is)) },
    λ case case_is. second_of (goes case (copied_case told units settled case case_is)),
    λ case case_is. chosen case (copied_case told units settled case case_is),
  )

  pub judged_none : {replaced : Bool}
      → ((case : Case) → AreCopied copying case → All (λ reason. ¬ PreventsAtFirst request.held request.today case reason) first_reasons × (IsTrue replaced ↔ ReplacesSome case))
      → ((case : Case) → AreCopied copying case → HasNoPlaces case) → ForUnits pools session (IsJudged request name new judges.NoPlaces)
  judged_none {replaced} goes none told units settled = (
    record { lets = λ case case_is. first_of (goes case (copied_case told units settled case case_is)) },
    λ case case_is. none case (copied_case told units settled case case_is),
  )

-- what was judged on two volumes holds of those of the units
module _ {units : List UnitState} {from to : ℕ} {name new : Dsn} {source target : Volume} (source_at : IsLoadedAt units from source) (target_at : IsLoadedAt units to target) where
  pub stands_so : {replaced : Bool} {runs : List Run} → ((row : Row) → HasRow source name row → length row.extents ≤ 16)
      → ((row : Row) → HasRow source name row → ArePlacesOn source row target runs) → IsClear replaced target new → ((from == to) ≡ true → new ≢ name)
      → MayStand units from to name new replaced runs
  stands_so {replaced} {runs} few places clear apart = record {
    few = λ volume row at has. few row (subst (λ (v : Volume). HasRow v name row) (same_volume units from volume source at source_at) has);
    places =
        λ volume other row at there has.
        subst (λ (v : Volume). ArePlacesOn v row other runs) (same_volume units from source volume source_at at)
        (subst (λ (v : Volume). ArePlacesOn source row v runs) (same_volume units to target other target_at there)
        (places row (subst (λ (v : Volume). HasRow v name row) (same_volume units from volume source at source_at) has)));
    clear = λ other there. subst (λ (v : Volume). IsClear replaced v new) (same_volume units to target other target_at there) clear;
    apart = λ same. apart (eq-eqb from to same);
  }
