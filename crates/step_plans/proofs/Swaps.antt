-- A data set that keeps its name, on tracks of its own.
use Rattle.std.proofs.Common.{◌≡◌, inr, ℕ, ◌<◌, ◌≤◌, ◌==◌, ◌&&◌, List, [], ◌∷◌, length, map, take, get_or, All, Contains, Bool, true, false, refl, sym, ap, subst, ◌∙◌, arith}
use Rattle.std.specs.Prelude.{if◌then◌else◌}
use Rattle.std.proofs.lemmas.Bool.{eqb-true}
use Rattle.std.proofs.lemmas.List.{append-nil, length-map, take-take, get_or-take}
use Rattle.std.proofs.lemmas.List.Elements.{All-contains}
use Rattle.ckd_image.specs.Device.{heads_of}
use Rattle.dscb_rec.specs.declared.field.Extent.{Extent as Field}
use Rattle.dscb_made.specs.Slots.{IsThere}
use Rattle.dsn_filter.specs.declared.dsn.Dsn.{Dsn}
use Rattle.free_map.specs.declared.run.Run.{Run}
use Rattle.free_map.specs.Runs.{InRuns}
use Rattle.volume_model.specs.declared.format.Format.TheVariants.{Broken, Free, F1, F3, F4, F5}
use Rattle.volume_model.specs.Dscbs.{format_of, is_f1, is_filled}
use Rattle.volume_model.specs.Pinned.{IsNameOf}
use Rattle.volume_model.specs.Reads.{extent_in, fields_of_1}
use Rattle.volume_model.specs.Space.{end_of, is_run}
use Rattle.volume_model.specs.Unit.{Extent, run_in}
use Rattle.volume_model.proofs.Formats.{format_is_1}
use Rattle.vtoc_check.proofs.Overlapping.{run_facts}
use Rattle.vtoc_core.specs.declared.volume.Row.{Row}
use Rattle.vtoc_core.specs.declared.volume.Volume.{Volume}
use Rattle.vtoc_core.specs.Loaded.{field_of, HasItsName}
use Rattle.vtoc_layout.specs.Layout.{AreApart}
use Rattle.vtoc_layout.proofs.Apart.{all_from}
use Rattle.vtoc_layout.proofs.Distinct.{from_map}
use Rattle.volume_change.specs.declared.change.Change.{Change}
use Rattle.volume_change.specs.declared.change.Change.TheVariants.{Swap}
use Rattle.volume_change.specs.Runs.{runs_in}
use Rattle.unit_steps.specs.vtoc_render.Next.{MayChange}
use Rattle.unit_steps.proofs.unit_change.Describing.{runs_in_row}
use Rattle.unit_load.specs.declared.state.UnitState.{UnitState}
use Rattle.move_core.specs.declared.steps.Step.{Step}
use Rattle.move_core.specs.declared.steps.Step.TheVariants as steps
use Rattle.move_core.specs.Steps.{cut, reset_fields}
use Rattle.unit_steps.specs.declared.plan.Plan.{Plan}
use Rattle.unit_steps.specs.declared.plan.Tracks.{Tracks}
use Rattle.unit_steps.specs.declared.plan.Tracks.TheVariants as texts
use Rattle.unit_steps.specs.Plans.{IsLoadedAt, HasRow, SwapsRow, Plans, tracks_in}
use Rattle.step_plans.specs.Plans.{IsSound, IsPlanFor, AreRuns, extents_from}
use Rattle.step_plans.proofs.Cuts.{cut_each, cut_no_more, cut_tracks_in, cut_apart}
use Rattle.step_plans.proofs.LoadedRows.{IsLoadedRow, sound_row}
use Rattle.ckd_image.proofs.Lists.{contains_map}
use Rattle.unit_steps.proofs.unit_change.vtoc_render.PutRows.{run_below}

-- ---- formats

only_f1 : (b p q r z : Bool) → is_f1 (if b then F1 else if p then F3 else if q then F4 else if r then F5 else if z then Free else Broken) ≡ true → b ≡ true
only_f1 true p q r z e = refl
only_f1 false true q r z e = e
only_f1 false false true r z e = e
only_f1 false false false true z e = e
only_f1 false false false false true e = e
only_f1 false false false false false e = e

pub code_of_1 : (bytes : List ℕ) → format_of bytes ≡ F1 → get_or bytes 44 0 ≡ 0xF1
code_of_1 bytes is =
    let code = get_or bytes 44 0 in
    eqb-true code 0xF1 (only_f1 (code == 0xF1) ((code == 0xF3) && is_filled 4 0x03 bytes) ((code == 0xF4) && is_filled 44 0x04 bytes) ((code == 0xF5) && is_filled 4 0x05 bytes) (is_filled 140 0 bytes) (ap is_f1 is))

-- ---- a row in the place of another

module _ (volume : Volume) (sound : IsSound volume) (name : Dsn) (old row : Row) (has : HasRow volume name old) (name_is : row.name ≡ old.name) (front : take 59 row.f1 ≡ take 59 old.f1) where
  abbrev heads : ℕ
  heads = heads_of volume.device

  known : IsLoadedRow volume old
  known = sound_row volume sound old has.there

  named : HasItsName row
  named = name_is ∙ known.named ∙ sym (take-take 44 59 old.f1 (omega arith)) ∙ ap (take 44) (sym front) ∙ take-take 44 59 row.f1 (omega arith)

  format : format_of row.f1 ≡ F1
  format =
      format_is_1 row.f1
      (sym (get_or-take 59 row.f1 44 0 (omega arith)) ∙ ap (λ (bytes : List ℕ). get_or bytes 44 0) front ∙ get_or-take 59 old.f1 44 0 (omega arith) ∙ code_of_1 old.f1 known.format)

  -- its extents are of the first tracks of the other's
  may_swap : length row.extents ≤ 16 → All IsThere row.extents → All (λ extent. is_run (heads_of volume.device) volume.usable (field_of extent) ≡ true) row.extents
      → AreApart (runs_in (heads_of volume.device) row.extents)
      → ((track : ℕ) → InRuns (runs_in (heads_of volume.device) row.extents) track → InRuns (runs_in (heads_of volume.device) old.extents) track) → MayChange volume (Swap name row)
  may_swap few there ranges apart tracks = (
    subst (IsNameOf name) (sym name_is) has.name_is,
    (
      old,
      has.there,
      sym name_is,
      record {
        named = named;
        format = format;
        few = few;
        there = there;
        ranges = ranges;
        apart = apart;
        tracks = λ track h. inr (subst (λ (runs : List Run). InRuns runs track) (sym (append-nil (runs_in heads old.extents))) (tracks track h));
      },
    ),
  )

  -- ---- the same extents

  pub may_keep : row.extents ≡ old.extents → length old.extents ≤ 16 → MayChange volume (Swap name row)
  may_keep same few =
      may_swap (omega (arith, ap length same, few)) (subst (All IsThere) (sym same) known.there)
      (subst (All (λ extent. is_run heads volume.usable (field_of extent) ≡ true)) (sym same) known.ranges) (subst (λ (extents : List Field). AreApart (runs_in heads extents)) (sym same) known.apart)
      (λ track h. subst (λ (extents : List Field). InRuns (runs_in heads extents) track) same h)

  -- ---- the first tracks

  module _ (keep : ℕ) (cut_is : extents_from volume.device row.extents ≡ cut keep (extents_from volume.device old.extents)) (runs : AreRuns volume.device row.extents) (few : length old.extents ≤ 16) where
    abbrev on : Field → Extent
    on extent = extent_in heads (field_of extent)

    -- what holds of each extent of the other, and of its first tracks, holds of each of these
    each_kept : (P : Extent → Type 0) → ((extent : Extent) (n : ℕ) → n < extent.run.len → P extent → P (record { run = record { first = extent.run.first; len = n }; kind = extent.kind }))
        → ((extent : Field) → Contains old.extents extent → P (on extent)) → (extent : Field) → Contains row.extents extent → P (on extent)
    each_kept P closed all extent c =
        let of_old : All P (extents_from volume.device old.extents) =
        all_from P (extents_from volume.device old.extents) (λ e there. let found = from_map on old.extents e there in subst P found.2 (all found.0 found.1)) in
        All-contains P (extents_from volume.device row.extents) (on extent)
        (subst (All P) (sym cut_is) (cut_each P closed keep (extents_from volume.device old.extents) of_old)) (contains_map on row.extents extent c)

    few_kept : length row.extents ≤ 16
    few_kept =
        omega (
          arith,
          few,
          length-map row.extents on,
          length-map old.extents on,
          ap length cut_is,
          cut_no_more keep (extents_from volume.device old.extents),
        )

    there_kept : All IsThere row.extents
    there_kept =
        all_from IsThere row.extents
        (each_kept (λ extent. ¬ (extent.kind ≡ 0)) (λ extent n less some. some) (λ extent c. All-contains IsThere old.extents extent known.there c))

    ranges_kept : All (λ extent. is_run (heads_of volume.device) volume.usable (field_of extent) ≡ true) row.extents
    ranges_kept =
        all_from (λ extent. is_run heads volume.usable (field_of extent) ≡ true) row.extents
        (λ extent c. run_below heads 65536 volume.usable (field_of extent) (All-contains (λ extent. is_run heads 65536 (field_of extent) ≡ true) row.extents extent runs c)
        (each_kept (λ extent. end_of extent.run ≤ volume.usable) (λ extent n less below. omega (arith, less, below))
        (λ extent c. (run_facts heads volume.usable (field_of extent) (All-contains (λ extent. is_run heads volume.usable (field_of extent) ≡ true) old.extents extent known.ranges c)).0) extent c))

    runs_are : runs_in (heads_of volume.device) row.extents ≡ map run_in (cut keep (extents_from volume.device old.extents))
    runs_are = sym (runs_in_row heads row.extents) ∙ ap (map run_in) cut_is

    pub may_cut : MayChange volume (Swap name row)
    may_cut =
        may_swap few_kept there_kept ranges_kept
        (subst AreApart (sym runs_are) (cut_apart keep (extents_from volume.device old.extents) (subst AreApart (sym (runs_in_row heads old.extents)) known.apart)))
        (λ track h. subst (λ (runs : List Run). InRuns runs track) (runs_in_row heads old.extents)
        (cut_tracks_in keep (extents_from volume.device old.extents) track (subst (λ (runs : List Run). InRuns runs track) runs_are h)))

-- ---- plans

-- a plan of one change that copies nothing
plan_for : (volume : Volume) (unit : ℕ) (step : Step) (change : Change) (plan : Plan) → plan.step ≡ step → plan.tracks ≡ texts.None → plan.changes ≡ (unit, change) ∷ []
    → ((units : List UnitState) → IsLoadedAt units unit volume → Plans units step texts.None ((unit, change) ∷ [])) → IsPlanFor volume unit step plan
plan_for volume unit step change plan step_is tracks_are changes_are lawful = record {
  step_is = step_is;
  lawful =
      λ units loaded. subst (λ (s : Step). Plans units s plan.tracks plan.changes) (sym step_is)
      (subst (λ (t : Tracks). Plans units step t plan.changes) (sym tracks_are)
      (subst (λ (c : List (ℕ × Change)). Plans units step texts.None c) (sym changes_are) (lawful units loaded)));
}

abbrev swaps : (volume : Volume) (unit : ℕ) (name : Dsn) (old row : Row) (units : List UnitState) → HasRow volume name old → MayChange volume (Swap name row) → IsLoadedAt units unit volume
    → SwapsRow units unit name ((unit, Swap name row) ∷ [])
swaps volume unit name old row units has may loaded = record { volume = volume; old = old; row = row; loaded = loaded; old_is = has; changes_are = refl; may = may }

pub reset_plan : (volume : Volume) (unit : ℕ) (name : Dsn) (old row : Row) (plan : Plan) → IsSound volume → HasRow volume name old → length old.extents ≤ 16 → row.name ≡ old.name
    → take 59 row.f1 ≡ take 59 old.f1 → fields_of_1 row.f1 ≡ reset_fields (fields_of_1 old.f1) → row.extents ≡ old.extents
    → plan.step ≡ steps.ResetFlag unit name → plan.tracks ≡ texts.None → plan.changes ≡ (unit, Swap name row) ∷ [] → IsPlanFor volume unit (steps.ResetFlag unit name) plan
reset_plan volume unit name old row plan sound has few name_is front fields extents step_is tracks_are changes_are =
    plan_for volume unit (steps.ResetFlag unit name) (Swap name row) plan step_is tracks_are changes_are
    (λ units loaded. (
      refl,
      record {
        swap = swaps volume unit name old row units has (may_keep volume sound name old row has name_is front extents few) loaded;
        row_is = record { name_is = name_is; fields_are = fields; extents_are = ap (extents_from volume.device) extents };
      },
    ))

pub shrink_plan : (volume : Volume) (unit : ℕ) (name : Dsn) (keep : ℕ) (old row : Row) (plan : Plan) → IsSound volume → HasRow volume name old → length old.extents ≤ 16
    → keep < length (tracks_in volume old) → row.name ≡ old.name → row.f1 ≡ old.f1 → extents_from volume.device row.extents ≡ cut keep (extents_from volume.device old.extents)
    → AreRuns volume.device row.extents
    → plan.step ≡ steps.Shrink unit name keep → plan.tracks ≡ texts.None → plan.changes ≡ (unit, Swap name row) ∷ [] → IsPlanFor volume unit (steps.Shrink unit name keep) plan
shrink_plan volume unit name keep old row plan sound has few fewer name_is same cut_is runs step_is tracks_are changes_are =
    plan_for volume unit (steps.Shrink unit name keep) (Swap name row) plan step_is tracks_are changes_are
    (λ units loaded. (
      refl,
      record {
        swap = swaps volume unit name old row units has (may_cut volume sound name old row has name_is (ap (take 59) same) keep cut_is runs few) loaded;
        row_is = record { name_is = name_is; fields_are = ap fields_of_1 same; extents_are = cut_is };
        fewer = fewer;
      },
    ))
