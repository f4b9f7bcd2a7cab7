-- Plans that move a data set on its unit.
use Rattle.std.proofs.Common.{◌≡◌, ◌⊎◌, inl, inr, ℕ, ◌-◌, Bool, List, [], ◌∷◌, ◌++◌, length, map, replicate, Contains, refl, sym, ap, subst, ◌∙◌, arith}
use Rattle.std.proofs.lemmas.List.{append-nil}
use Rattle.ckd_image.specs.Device.{heads_of}
use Rattle.dasd_pool.specs.Disk.{Image, Shape}
use Rattle.dsn_filter.specs.declared.dsn.Dsn.{Dsn}
use Rattle.free_map.specs.declared.run.Run.{Run}
use Rattle.free_map.specs.Free.{IsFree}
use Rattle.free_map.specs.Runs.{InRuns}
use Rattle.free_map.proofs.Gaps.{append_left, append_right}
use Rattle.volume_model.specs.Reads.{AreTexts}
use Rattle.volume_model.specs.Unit.{Text, Extent, DataSet, UnitModel, IsFreeTrack, run_in, tracks_of, runs_of_sets}
use Rattle.vtoc_core.specs.declared.volume.Row.{Row}
use Rattle.vtoc_core.specs.declared.volume.Volume.{Volume}
use Rattle.vtoc_layout.proofs.Distinct.{first_or_later, in_none}
use Rattle.volume_change.specs.declared.change.Change.{Change}
use Rattle.volume_change.specs.declared.change.Change.TheVariants.{Swap}
use Rattle.volume_change.specs.Runs.{runs_in}
use Rattle.unit_change.specs.vtoc_render.declared.change.Rendered.{Rendered}
use Rattle.unit_change.specs.vtoc_render.Next.{runs_of_rows}
use Rattle.unit_change.specs.Changed.{extents_of}
use Rattle.unit_change.specs.Described.{own_place}
use Rattle.unit_change.proofs.Kept.{texts_kept}
use Rattle.unit_load.specs.declared.state.UnitState.{UnitState}
use Rattle.move_core.specs.declared.steps.Step.TheVariants as steps
use Rattle.move_core.specs.Steps.{MayTake, KeepsExtents, JoinsExtents, moved, empty_text}
use Rattle.unit_steps.specs.declared.plan.Tracks.TheVariants as texts
use Rattle.unit_steps.specs.Copied.{DifferOnFree, AreHeld}
use Rattle.unit_steps.specs.Loaded.{HaveStates, AreLoaded, HaveFills, KeepVtocs, AreVtocsOf}
use Rattle.unit_steps.specs.Plans.{IsLoadedAt, PlansMove}
use Rattle.unit_steps.specs.Rendering.{WereRendered, entries_of}
use Rattle.unit_steps.proofs.Copying.{free_of}
use Rattle.unit_steps.proofs.OneChange.{TakesModels, IsHere, to_unit, is_put, take_one, from_one}
use Rattle.unit_steps.proofs.Rows.{free_track, one_row, put_runs, runs_on, runs_of_one, runs_of_extents}
use Rattle.unit_steps.proofs.Small.{swap_no_mark}
use Rattle.unit_steps.proofs.Staying.{swapped, swapped_name, swapped_gone}
use Rattle.unit_steps.proofs.Units.{IsOnlineUnit, IsSetOf}

-- ---- texts, before free tracks were written

in_sets : (sets : List DataSet) (set : DataSet) (track : ℕ) → Contains sets set → InRuns (map run_in set.extents) track → InRuns (runs_of_sets sets) track
in_sets [] set track there held = absurd (in_none set there)
in_sets (first ∷ sets) set track there held = by (λ behind. in_sets sets set track behind held) (first_or_later first set sets there)
  where
    by : (Contains sets set → InRuns (runs_of_sets sets) track) → ((first ≡ set) ⊎ Contains sets set) → InRuns (runs_of_sets (first ∷ sets)) track
    by later (inl here) = append_left (map run_in first.extents) (runs_of_sets sets) track (subst (λ (s : DataSet). InRuns (map run_in s.extents) track) (sym here) held)
    by later (inr behind) = append_right (map run_in first.extents) (runs_of_sets sets) track (later behind)

-- the texts of a row's data set stood where they stand
pub texts_were : (units : List UnitState) (old new : Image) (unit : ℕ) (volume : Volume) → DifferOnFree units old new → IsLoadedAt units unit volume → {head : List ℕ} {blocks : ℕ} {model : UnitModel}
    (is : IsOnlineUnit head blocks (new unit) volume model) (row : Row) (set : DataSet) → IsSetOf (heads_of volume.device) (new unit) is.before.sets row set
    → AreTexts (heads_of volume.device) own_place (old unit) (tracks_of (extents_of (heads_of volume.device) row)) set.texts
texts_were units old new unit volume differ loaded is row set found =
    let heads = heads_of volume.device in
    texts_kept heads (new unit) (old unit) (extents_of heads row) set.texts
    (λ track held.
    sym (differ unit track (λ free_at.
    let own : InRuns (map run_in set.extents) track = subst (λ (extents : List Extent). InRuns (map run_in extents) track) (sym found.extents_are) held in
    (free_track is track (free_of units unit track volume loaded free_at)).not_set (in_sets is.before.sets set track found.there own))))
    found.texts_are

-- ---- the place

-- the runs that extents stand on
runs_moved : (old new : List Extent) (to : List Run) → (KeepsExtents old to new ⊎ JoinsExtents old to new) → to ≡ map run_in new
runs_moved old new to (inl keeps) = sym keeps.runs_are
runs_moved old new to (inr joins) = sym (ap (map run_in) joins.new_is ∙ runs_on joins.kind to)

module _ {units : List UnitState} {unit : ℕ} {name : Dsn} {to : List Run} {changes : List (ℕ × Change)} (plan : PlansMove units unit name to changes) {shape : Shape} {contents : Image}
    {models : List UnitModel} (here : IsHere shape contents unit plan.swap.volume models) where
  abbrev volume : Volume
  volume = plan.swap.volume

  abbrev heads : ℕ
  heads = heads_of plan.swap.volume.device

  abbrev set : DataSet
  set = (swapped plan.swap here).0

  abbrev is : IsSetOf (heads_of plan.swap.volume.device) (contents unit) here.is.before.sets plan.swap.old (swapped plan.swap here).0
  is = (swapped plan.swap here).1

  to_is : to ≡ runs_in heads plan.swap.row.extents
  to_is =
      runs_moved (extents_of heads plan.swap.old) plan.extents to plan.extents_are ∙ ap (map run_in) (sym plan.row_is.extents_are) ∙ runs_of_extents heads plan.swap.row

  own_runs : (track : ℕ) → InRuns (runs_of_rows volume (plan.swap.may.1.0 ∷ [])) track → InRuns (map run_in set.extents) track
  own_runs track held =
      let other = plan.swap.may.1 in
      let same : other.0 ≡ plan.swap.old = one_row here.is other.0 plan.swap.old other.1 plan.swap.old_is.there (other.2 ∙ plan.row_is.name_is) in
      let of_old : InRuns (runs_in heads plan.swap.old.extents) track =
      subst (λ (row : Row). InRuns (runs_in heads row.extents) track) same (subst (λ (runs : List Run). InRuns runs track) (runs_of_one volume other.0) held) in
      subst (λ (extents : List Extent). InRuns (map run_in extents) track) (sym is.extents_are)
      (subst (λ (runs : List Run). InRuns runs track) (sym (runs_of_extents heads plan.swap.old)) of_old)

  move_place : MayTake here.is.before (map run_in (swapped plan.swap here).0.extents) to
  move_place =
      let may = plan.swap.may.1.3 in
      let runs = put_runs volume (plan.swap.may.1.0 ∷ []) plan.swap.row to may to_is in
      record {
        some = runs.0;
        apart = runs.1;
        tracks = λ track held. by track (may.tracks track (subst (λ (list : List Run). InRuns list track) to_is held));
      }
    where
      by : (track : ℕ) → (IsFree volume.free track ⊎ InRuns (runs_of_rows volume (plan.swap.may.1.0 ∷ [])) track) → IsFreeTrack here.is.before track ⊎ InRuns (map run_in set.extents) track
      by track (inl free) = inl (free_track here.is track free)
      by track (inr own) = inr (own_runs track own)

-- ---- the step

module _ (shape : Shape) (units : List UnitState) (fills : List Bool) (fit : HaveFills fills units) (vtocs : List (List ℕ)) (old new : Image) (have : HaveStates shape units)
    (are : AreLoaded shape new units) (keep : KeepVtocs shape units vtocs) (vtocs_are : AreVtocsOf new units vtocs) (differ : DifferOnFree units old new)
    (changes : List (ℕ × Change)) (rendered : List Rendered) (were : WereRendered units vtocs changes rendered) where
  -- its texts, on the tracks of the new place
  module _ {unit : ℕ} {name : Dsn} {to : List Run} (plan : PlansMove units unit name to changes) (held : AreHeld units (texts.Rows unit name) changes old new) {models : List UnitModel}
      (here : IsHere shape new unit plan.swap.volume models) where
    moved_texts : AreTexts (heads_of plan.swap.volume.device) own_place (new unit) (tracks_of (extents_of (heads_of plan.swap.volume.device) plan.swap.row)) (swapped plan.swap here).0.texts
    moved_texts =
        let swap = plan.swap in
        let heads = heads_of swap.volume.device in
        let set = (swapped swap here).0 in
        let source = tracks_of (extents_of heads swap.old) in
        let target = tracks_of (extents_of heads swap.row) in
        let one : AreHeld units (texts.Rows unit name) ((unit, Swap name swap.row) ∷ []) old new =
        subst (λ (list : List (ℕ × Change)). AreHeld units (texts.Rows unit name) list old new) swap.changes_are held in
        let stand : AreTexts heads own_place (new unit) target (set.texts ++ replicate (length target - length source) empty_text) =
        one swap.volume swap.volume swap.old swap.row swap.loaded swap.old_is swap.loaded refl set.texts
        (texts_were units old new unit swap.volume differ swap.loaded here.is swap.old set (swapped swap here).1) in
        let as_many : length target ≡ length source = ap (λ (extents : List Extent). length (tracks_of extents)) plan.row_is.extents_are ∙ plan.as_many in
        let none : length target - length source ≡ 0 = omega (arith, as_many) in
        subst (λ (list : List Text). AreTexts heads own_place (new unit) target list) (ap (λ (n : ℕ). set.texts ++ replicate n empty_text) none ∙ append-nil set.texts) stand

  pub move_taken : (unit : ℕ) (name : Dsn) (to : List Run) → PlansMove units unit name to changes → AreHeld units (texts.Rows unit name) changes old new
      → TakesModels shape fills new (steps.Move unit name to) (entries_of changes rendered)
  move_taken unit name to plan held =
      let swap = plan.swap in
      let heads = heads_of swap.volume.device in
      from_one shape units fills fit vtocs new have are keep vtocs_are (steps.Move unit name to) unit (Swap name swap.row) changes rendered swap.changes_are were
      (λ one was.
      take_one shape units fills fit vtocs new have are keep vtocs_are unit swap.volume swap.loaded (Swap name swap.row) swap.may
      (swap_no_mark name swap.row) one was (steps.Move unit name to)
      (λ facts allowed models alone here.
      let set = (swapped swap here).0 in
      let is = (swapped swap here).1 in (
        set.texts,
        moved_texts plan held here,
        λ t. record {
          set = set;
          name_is = swapped_name swap here;
          extents = plan.extents;
          extents_are =
              subst (λ (extents : List Extent). KeepsExtents extents to plan.extents ⊎ JoinsExtents extents to plan.extents) (sym is.extents_are) plan.extents_are;
          as_many = plan.as_many ∙ ap (λ (extents : List Extent). length (tracks_of extents)) (sym is.extents_are);
          change =
              to_unit t (set ∷ []) (moved set plan.extents ∷ []) (swapped_gone swap here t plan.row_is.name_is)
              (is_put heads swap.row set.texts (moved set plan.extents) (plan.row_is.name_is ∙ sym is.name_is) (plan.row_is.fields_are ∙ sym is.fields_are) plan.row_is.extents_are refl refl);
          place = move_place plan here;
        },
      )))
