-- A planned part whose texts stand on its tracks is a part that may be switched.
use Rattle.std.proofs.Common.{◌≡◌, ℕ, ◌-◌, Bool, true, false, List, [], ◌∷◌, ◌++◌, length, replicate, Option, None, Some, Result, refl, sym, ap, subst, ◌∙◌, arith}
use Rattle.std.specs.Prelude.{IfErr, IfOk}
use Rattle.std.proofs.lemmas.List.{length-append, length-replicate, take_all}
use Rattle.ckd_image.specs.Device.{heads_of}
use Rattle.ckd_image.specs.declared.device.Device.{Device}
use Rattle.dasd_pool.specs.Disk.{Image}
use Rattle.dasd_pool.specs.declared.pool.Pool.{Ghosts}
use Rattle.dd_names.specs.declared.dd.DdName.{DdName}
use Rattle.dsn_filter.specs.declared.dsn.Dsn.{Dsn}
use Rattle.free_map.specs.declared.run.Run.{Run}
use Rattle.volume_model.specs.Reads.{AreTexts}
use Rattle.volume_model.specs.Unit.{Text}
use Rattle.vtoc_core.specs.declared.volume.Row.{Row}
use Rattle.vtoc_core.specs.declared.volume.Volume.{Volume}
use Rattle.volume_change.specs.declared.change.Change.{Change}
use Rattle.unit_load.specs.declared.state.UnitState.{UnitState}
use Rattle.move_core.specs.Facts.{Original, shown}
use Rattle.move_core.specs.Runs.{AreCalls, IsRunFor, Ended}
use Rattle.move_core.specs.Steps.{empty_text}
use Rattle.move_core.specs.declared.steps.Step.{Step}
use Rattle.unit_session.specs.unit_steps.declared.plan.Plan.{Plan}
use Rattle.unit_session.specs.unit_steps.declared.plan.Tracks.{Tracks}
use Rattle.unit_session.specs.unit_steps.declared.plan.Tracks.TheVariants as texts
use Rattle.unit_session.specs.unit_steps.Copied.{IsPutBy}
use Rattle.unit_session.specs.unit_steps.Parts.{GivesPart, step_of_part}
use Rattle.unit_session.specs.unit_steps.Plans.{IsPlan, Plans, PlansPart, putting, tracks_in}
use Rattle.unit_session.specs.unit_steps.unit_change.Described.{own_place}
use Rattle.unit_session.specs.unit_steps.Rendering.{WereRendered, units_after}
use Rattle.unit_session.proofs.unit_steps.OneChange.{same_volume}
use Rattle.unit_session.specs.declared.copies.Copies.{Copies}
use Rattle.unit_session.specs.declared.copies.GivenTracks.{GivenTracks}
use Rattle.unit_session.specs.Copies.{AreCopiesOf, CopiesLeave}
use Rattle.unit_session.specs.Given.{AreGivenOf, AreTracksPut, count_given}
use Rattle.unit_session.specs.Planned.{CopiedView, HoldsOriginal, IsMadeOf, done_by, pending_by, pool_switched}
use Rattle.unit_session.specs.Sessions.{BrokenView, SessionView}
use Rattle.job_steps.specs.Carried.{AreAfter, pending_made}
use Rattle.job_steps.specs.Giving.{GivesMore, GivingView, HasGiven, HoldFirst, HoldsSoFar, IsGiving}
use Rattle.job_steps.proofs.GivenTexts.{given_stay}
use Rattle.job_steps.proofs.Runs.{made_after, made_run}

-- ---- a plan of a part

-- the caller gives its texts
part_given : (units : List UnitState) (replaced : Bool) (unit : ℕ) (name : Dsn) (to : List Run) (input : DdName) (number : ℕ) (tracks : Tracks) (changes : List (ℕ × Change))
    → Plans units (step_of_part replaced unit name to input number) tracks changes → tracks ≡ texts.Given
part_given units false unit name to input number tracks changes plan = plan.0
part_given units true unit name to input number tracks changes plan = plan.0

-- none is copied
none_copied : (units : List UnitState) (changes : List (ℕ × Change)) (copies : Option Copies) → AreCopiesOf units texts.Given changes copies → copies ≡ None
none_copied units changes None are = refl
none_copied units changes (Some copies) are = are

put_row : (replaced : Bool) (name : Dsn) (row put : Row) → IsPutBy (putting replaced name row) put → put ≡ row
put_row false name row put by = by
put_row true name row put by = by

module _ {units : List UnitState} {original : Original} {replaced : Bool} {unit : ℕ} {name : Dsn} {to : List Run} {changes : List (ℕ × Change)}
    (part : PlansPart replaced units original unit name to changes) (contents : Image) (n : ℕ) where
  abbrev all_texts : List Text
  all_texts = original.texts ++ replicate n empty_text

  on_tracks : (given : GivenTracks) → AreTracksPut units unit part.change given → length all_texts ≡ length given.tracks.items → HoldFirst (Some given) contents all_texts → GivesPart part contents
  on_tracks given put long hold =
      let volume : put.0 ≡ part.volume = same_volume units unit put.0 part.volume put.2 part.loaded in
      let row : put.1 ≡ part.row = put_row replaced name part.row put.1 (subst (λ (c : Change). IsPutBy c put.1) part.change_is put.3) in
      let device : given.device ≡ part.volume.device = put.4 ∙ ap (λ (v : Volume). v.device) volume in
      let tracks : given.tracks.items ≡ tracks_in part.volume part.row = put.6 ∙ (λ i. tracks_in (volume i) (row i)) in
      let whole : AreTexts (heads_of given.device) own_place (contents given.unit) given.tracks.items all_texts =
      subst (λ (l : List ℕ). AreTexts (heads_of given.device) own_place (contents given.unit) l all_texts) (take_all (length all_texts) given.tracks.items (omega (arith, long))) hold in
      let placed : AreTexts (heads_of part.volume.device) own_place (contents unit) (tracks_in part.volume part.row) all_texts =
      subst (λ (l : List ℕ). AreTexts (heads_of part.volume.device) own_place (contents unit) l all_texts) tracks
      (subst (λ (u : ℕ). AreTexts (heads_of part.volume.device) own_place (contents u) given.tracks.items all_texts) put.5
      (subst (λ (d : Device). AreTexts (heads_of d) own_place (contents given.unit) given.tracks.items all_texts) device whole)) in
      let rest : n ≡ length (tracks_in part.volume part.row) - length original.texts =
      omega (arith, long, ap (λ (l : List ℕ). length l) tracks, length-append original.texts (replicate n empty_text), length-replicate n empty_text) in
      subst (λ (k : ℕ). AreTexts (heads_of part.volume.device) own_place (contents unit) (tracks_in part.volume part.row) (original.texts ++ replicate k empty_text)) rest placed

  gives_part : (given : Option GivenTracks) → AreGivenOf units texts.Given ((unit, part.change) ∷ []) given → length all_texts ≡ count_given given → HoldFirst given contents all_texts
      → GivesPart part contents
  gives_part None are long hold = absurd are
  gives_part (Some given) are long hold = on_tracks given are long hold

-- ---- what was copied

module _ {P : Type 0} (pools : Ghosts P) (first next : GivingView P) (copied : CopiedView P) (original : Original) (has : HasGiven pools first original)
    (more : GivesMore pools first next (replicate first.left empty_text)) (giving : IsGiving next)
    (copies : AreCopiesOf next.planned.session.units next.planned.plan.tracks next.planned.plan.changes next.planned.copies) (plan_is : copied.plan ≡ next.planned.plan)
    (units_are : copied.session.units ≡ next.planned.session.units)
    (leave : pools.tells → CopiesLeave (pools.disk next.planned.session.pool).state.contents (pools.disk copied.session.pool).state.contents next.planned.copies)
    (is : IsPlan copied.session.units copied.plan) where
  step_is : copied.plan.step ≡ step_of_part has.puts.replaced has.puts.unit has.puts.name has.puts.to has.puts.input has.puts.number
  step_is = ap (λ (p : Plan). p.step) (plan_is ∙ more.planned.plan) ∙ has.puts.step_is

  given_is : copied.plan.tracks ≡ texts.Given
  given_is =
      part_given copied.session.units has.puts.replaced has.puts.unit has.puts.name has.puts.to has.puts.input has.puts.number copied.plan.tracks copied.plan.changes
      (subst (λ (s : Step). Plans copied.session.units s copied.plan.tracks copied.plan.changes) step_is is)

  part : PlansPart has.puts.replaced copied.session.units original has.puts.unit has.puts.name has.puts.to copied.plan.changes
  part =
      subst (λ (l : List UnitState). PlansPart has.puts.replaced l original has.puts.unit has.puts.name has.puts.to copied.plan.changes) (sym (units_are ∙ more.planned.units))
      (subst (λ (p : Plan). PlansPart has.puts.replaced first.planned.session.units original has.puts.unit has.puts.name has.puts.to p.changes) (sym (plan_is ∙ more.planned.plan)) has.puts.part)

  are_given : AreGivenOf copied.session.units texts.Given ((has.puts.unit, part.change) ∷ []) next.planned.given
  are_given =
      subst (λ (l : List (ℕ × Change)). AreGivenOf copied.session.units texts.Given l next.planned.given) part.changes_are
      (subst (λ (t : Tracks). AreGivenOf copied.session.units t copied.plan.changes next.planned.given) given_is
      (subst (λ (l : List UnitState). AreGivenOf l copied.plan.tracks copied.plan.changes next.planned.given) (sym units_are)
      (subst (λ (p : Plan). AreGivenOf next.planned.session.units p.tracks p.changes next.planned.given) (sym plan_is) giving.given)))

  no_copies : next.planned.copies ≡ None
  no_copies =
      none_copied next.planned.session.units next.planned.plan.changes next.planned.copies
      (subst (λ (t : Tracks). AreCopiesOf next.planned.session.units t next.planned.plan.changes next.planned.copies) (ap (λ (p : Plan). p.tracks) (sym plan_is) ∙ given_is) copies)

  held : HoldsSoFar pools next (original.texts ++ replicate first.left empty_text)
  held = more.hold original.texts has.texts

  gives : pools.tells → GivesPart part (pools.disk copied.session.pool).state.contents
  gives told =
      let old = (pools.disk next.planned.session.pool).state.contents in
      let new = (pools.disk copied.session.pool).state.contents in
      gives_part part new first.left next.planned.given are_given (omega (arith, held.count, more.count, length-replicate first.left empty_text))
      (given_stay next.planned.given old new (original.texts ++ replicate first.left empty_text) (subst (CopiesLeave old new) no_copies (leave told)) (held.hold told))

  pub made_of : IsMadeOf pools copied original
  made_of = record {
    replaced = has.puts.replaced;
    unit = has.puts.unit;
    name = has.puts.name;
    to = has.puts.to;
    input = has.puts.input;
    number = has.puts.number;
    step_is = step_is;
    part = part;
    gives = gives;
  }

  plan_first : copied.plan ≡ first.planned.plan
  plan_first = plan_is ∙ more.planned.plan

  module _ (calls : AreCalls pools.tells (shown pools first.planned.session.pool) (shown pools copied.session.pool) (Unit {0}) [] None) (result : Result (SessionView P) (BrokenView P))
      (does : (other : Original) → IsMadeOf pools copied other → IsRunFor (HoldsOriginal copied.plan.step other) pools.tells (shown pools copied.session.pool) (shown pools (pool_switched result))
      (Ended result) (done_by copied.plan.step result) (pending_by copied.plan.step result)) where
    -- its step is done, or under way
    pub part_run : IfErr result (λ broken. broken.pending ≡ Some copied.plan.step)
        → IsRunFor (HoldsOriginal first.planned.plan.step original) pools.tells (shown pools first.planned.session.pool) (shown pools (pool_switched result)) (Ended result)
        (done_by first.planned.plan.step result) (pending_made result)
    part_run pending =
        subst (λ (p : Plan). IsRunFor (HoldsOriginal p.step original) pools.tells (shown pools first.planned.session.pool) (shown pools (pool_switched result)) (Ended result)
        (done_by first.planned.plan.step result) (pending_made result)) plan_first (made_run pools first.planned copied plan_first calls result (does original made_of) pending)

    -- and so are the units
    pub part_after : (copied.session.room ≡ next.planned.session.room) × (copied.session.names ≡ next.planned.session.names)
        → WereRendered copied.session.units copied.session.vtocs copied.plan.changes copied.rendered
        → IfOk result (λ session. session.units ≡ units_after copied.session.units copied.plan.changes copied.rendered)
        → IfOk result (λ session. (session.room ≡ copied.session.room) × (session.names ≡ copied.session.names)) → IfOk result (AreAfter pools first.planned)
    part_after still were units rest =
        made_after pools first.planned copied plan_first calls result (does original made_of)
        (still.0 ∙ more.planned.room, still.1 ∙ more.planned.names, units_are ∙ more.planned.units) is were units rest
