-- Plans of parts of a dump: the row that is put may be, and the plan puts the part.
use Rattle.std.proofs.Common.{◌≡◌, ◌≢◌, inl, inr, ℕ, ◌≤◌, List, [], ◌∷◌, length, map, replicate, take, All, Bool, true, false, refl, sym, ap, subst, ◌∙◌, arith}
use Rattle.std.specs.Prelude.{slice_index}
use Rattle.std.proofs.lemmas.List.{length-replicate}
use Rattle.std.proofs.lemmas.List.Elements.{All-nil, All-cons, All-head}
use Rattle.ckd_image.specs.Device.{heads_of}
use Rattle.dd_names.specs.declared.dd.DdName.{DdName}
use Rattle.dsn_filter.specs.declared.dsn.Dsn.{Dsn}
use Rattle.dsn_filter.specs.Dsn.{IsDsn}
use Rattle.free_map.specs.declared.run.Run.{Run}
use Rattle.free_map.specs.Free.{IsFree}
use Rattle.free_map.specs.Several.{ArePlaces}
use Rattle.plan_core.specs.Consolidate.{IsStepOf}
use Rattle.volume_model.specs.Pinned.{IsNameOf}
use Rattle.volume_model.specs.Reads.{fields_of_1}
use Rattle.volume_model.specs.Unit.{Extent, tracks_of}
use Rattle.volume_model.proofs.Formats.{format_is_1}
use Rattle.vtoc_core.specs.declared.volume.Row.{Row}
use Rattle.vtoc_core.specs.declared.volume.Volume.{Volume}
use Rattle.vtoc_layout.proofs.Apart.{all_from}
use Rattle.volume_change.specs.declared.change.Change.{Change}
use Rattle.volume_change.proofs.Names.{one_text}
use Rattle.unit_load.specs.declared.state.UnitState.{UnitState}
use Rattle.move_core.specs.declared.steps.Origin.TheVariants as origins
use Rattle.move_core.specs.declared.steps.Step.{Step}
use Rattle.move_core.specs.declared.steps.Step.TheVariants as steps
use Rattle.move_core.specs.Facts.{Original}
use Rattle.move_core.specs.Steps.{IsNewKind, LieOnCylinders, empty_text, extents_on, fields_at, tracks_for}
use Rattle.unit_steps.specs.vtoc_render.Next.{MayChange, MayPut}
use Rattle.unit_steps.specs.declared.plan.Plan.{Plan}
use Rattle.unit_steps.specs.declared.plan.Tracks.{Tracks}
use Rattle.unit_steps.specs.declared.plan.Tracks.TheVariants as texts
use Rattle.unit_steps.specs.Parts.{step_of_part}
use Rattle.unit_steps.specs.Plans.{IsLoadedAt, IsPlan, Plans, PlansPart, putting}
use Rattle.step_plans.specs.declared.parts.PartSet.{PartSet}
use Rattle.step_plans.specs.Plans.{IsSound, IsRoom, IsClear, extents_from, field_on}
use Rattle.step_plans.specs.Parts.{IsOriginalOf, IsStepFor, ArePlacesOfPart, IsPartPlan}
use Rattle.step_plans.proofs.Makers.{kind_some, places_some, places_whole, tracks_count, rounded_for}
use Rattle.step_plans.proofs.Places.{on_runs}
use Rattle.step_plans.proofs.Puts.{free_rooms, may_put}

-- extents whose copies have a type, so that what holds of copies holds of it
record StandsIn (heads kind step : ℕ) : Type 0 where
  pub extents : List Extent
  pub step_is : IsStepOf heads extents step
  pub kind_is : IsNewKind extents kind

abbrev one_of : ℕ → Extent
one_of kind = record { run = record { first = 0; len = 0 }; kind = kind }

stands_in : (heads kind step : ℕ) → IsStepFor heads kind step → StandsIn heads kind step
stands_in heads kind step (inl (cylinders, same)) =
    let whole : ((one_of 0x81 ∷ []) ≢ []) × All (λ (extent : Extent). extent.kind ≡ 0x81) (one_of 0x81 ∷ []) =
    (λ none. absurd (omega (arith, ap length none)), All-cons (λ (extent : Extent). extent.kind ≡ 0x81) (one_of 0x81) [] refl (All-nil (λ (extent : Extent). extent.kind ≡ 0x81))) in
    record { extents = one_of 0x81 ∷ []; step_is = inl (whole, same); kind_is = inl (whole, cylinders) }
stands_in heads kind step (inr (tracks, same)) =
    let parts : ¬ (((one_of 0x01 ∷ []) ≢ []) × All (λ (extent : Extent). extent.kind ≡ 0x81) (one_of 0x01 ∷ [])) =
    λ whole. absurd (omega (arith, All-head (λ (extent : Extent). extent.kind ≡ 0x81) (one_of 0x01) [] whole.1)) in
    record { extents = one_of 0x01 ∷ []; step_is = inr (parts, same); kind_is = inr (parts, tracks) }

module _ (volume : Volume) (sound : IsSound volume) (part : PartSet) (places : ArePlacesOfPart volume part) where
  abbrev own : ArePlaces (IsFree volume.free) part.tracks places.step part.runs
  own = places.places

  abbrev stand : StandsIn (heads_of volume.device) part.kind places.step
  stand = stands_in (heads_of volume.device) part.kind places.step places.step_is

  some : All (λ (run : Run). 1 ≤ run.len) part.runs
  some = places_some places.step part.runs own.whole_steps

  pub part_rooms : All IsRoom part.runs
  part_rooms = free_rooms volume sound part.runs some own.held

  module _ (row : Row) (named : IsNameOf part.to.name row.name) (front : take 44 row.f1 ≡ row.name) (code : slice_index row.f1 44 ≡ 0xf1)
      (fields : fields_of_1 row.f1 ≡ fields_at row.name volume.serial (fields_of_1 part.f1)) (extents_are : row.extents ≡ map (field_on volume.device part.kind) part.runs)
      (lawful : IsDsn part.to.name) where
    put_row : (gone : List Row) → MayPut volume gone row
    put_row gone =
        may_put volume sound row part.kind part.runs (kind_some stand.extents part.kind stand.kind_is) (sym front) (format_is_1 row.f1 code) extents_are some own.disjoint own.few own.held gone

    may : (replaced : Bool) → IsClear replaced volume part.to.name → MayChange volume (putting replaced part.to.name row)
    may true there = (named, (there.0, there.1.there, one_text part.to.name there.0.name row.name there.1.name_is named, put_row (there.0 ∷ [])))
    may false none = (
      put_row [],
      all_from (λ (other : Row). other.name ≢ row.name) volume.rows
          (λ other c same. none other (record { lawful = lawful; there = c; name_is = subst (IsNameOf part.to.name) (sym same) named })),
    )

    size : length (tracks_of (extents_on part.kind part.runs)) ≡ tracks_for (heads_of volume.device) part.kind part.tracks
    size = tracks_count part.kind part.runs ∙ own.count_is ∙ rounded_for volume.device stand.extents places.step part.kind part.tracks stand.step_is stand.kind_is

    original_size : (units : List UnitState) (original : Original) → IsOriginalOf volume.device part original
        → length (tracks_of (extents_on original.kind part.runs)) ≡ tracks_for (heads_of volume.device) original.kind (length original.texts)
    original_size units original is =
        ap (λ (kind : ℕ). length (tracks_of (extents_on kind part.runs))) is.kind_is ∙ size ∙ (λ i. tracks_for (heads_of volume.device) (sym is.kind_is i) (sym is.long i))

    puts : (clear : IsClear part.replaced volume part.to.name) (units : List UnitState) (original : Original) → IsLoadedAt units part.to.unit volume → IsOriginalOf volume.device part original
        → PlansPart part.replaced units original part.to.unit part.to.name part.runs ((part.to.unit, putting part.replaced part.to.name row) ∷ [])
    puts clear units original loaded is = record {
      change = putting part.replaced part.to.name row;
      volume = volume;
      row = row;
      loaded = loaded;
      like = sym is.device_is;
      lawful = lawful;
      named = named;
      whole =
          subst (λ (kind : ℕ). LieOnCylinders (heads_of volume.device) kind part.runs) (sym is.kind_is)
          (places_whole (heads_of volume.device) stand.extents places.step part.kind part.runs stand.step_is stand.kind_is own.whole_steps);
      row_is =
          record {
            name_is = refl;
            fields_are = fields ∙ ap (fields_at row.name volume.serial) (sym is.fields_are);
            extents_are =
                ap (extents_from volume.device) extents_are ∙ on_runs volume.device part.kind part.runs part_rooms ∙ ap (λ (kind : ℕ). extents_on kind part.runs) (sym is.kind_is);
          };
      size = original_size units original is;
      free = own.held;
      change_is = refl;
      may = may part.replaced clear;
      changes_are = refl;
    }

    pub part_plan : IsClear part.replaced volume part.to.name → (step : Step) (change : Change) (plan : Plan)
        → step ≡ step_of_part part.replaced part.to.unit part.to.name part.runs part.input part.number → change ≡ putting part.replaced part.to.name row
        → plan ≡ record { step = step; tracks = texts.Given; changes = (part.to.unit, change) ∷ [] } → IsPartPlan volume part plan
    part_plan clear step change plan step_is change_is plan_is = record {
      step_is = ap (λ (p : Plan). p.step) plan_is ∙ step_is;
      tracks_are = ap (λ (p : Plan). p.tracks) plan_is;
      lawful =
          λ units original loaded is.
          subst (PlansPart part.replaced units original part.to.unit part.to.name part.runs)
          (sym (ap (λ (p : Plan). p.changes) plan_is ∙ ap (λ (c : Change). (part.to.unit, c) ∷ []) change_is)) (puts clear units original loaded is);
    }

-- the step, by whether the part replaces something
pub replaces_is : (part : PartSet) → part.replaced ≡ true
    → steps.Replace part.to.unit part.to.name part.runs (origins.Part part.input part.number) ≡ step_of_part part.replaced part.to.unit part.to.name part.runs part.input part.number
replaces_is part is = ap (λ (b : Bool). step_of_part b part.to.unit part.to.name part.runs part.input part.number) (sym is)

pub adds_is : (part : PartSet) → part.replaced ≡ false
    → steps.Add part.to.unit part.to.name part.runs (origins.Part part.input part.number) ≡ step_of_part part.replaced part.to.unit part.to.name part.runs part.input part.number
adds_is part is = ap (λ (b : Bool). step_of_part b part.to.unit part.to.name part.runs part.input part.number) (sym is)

-- Whatever the part's texts will be, it is a plan of the units.
plans_part : (units : List UnitState) (replaced : Bool) (unit : ℕ) (name : Dsn) (to : List Run) (input : DdName) (number : ℕ) (tracks : Tracks) (changes : List (ℕ × Change)) (original : Original)
    → tracks ≡ texts.Given → PlansPart replaced units original unit name to changes → Plans units (step_of_part replaced unit name to input number) tracks changes
plans_part units false unit name to input number tracks changes original given part = (given, (original, part))
plans_part units true unit name to input number tracks changes original given part = (given, (original, part))

pub part_is_plan : (volume : Volume) (part : PartSet) (plan : Plan) → IsPartPlan volume part plan → (units : List UnitState) → IsLoadedAt units part.to.unit volume → IsPlan units plan
part_is_plan volume part plan is units loaded =
    let original : Original = record { device = volume.device; fields = fields_of_1 part.f1; kind = part.kind; texts = replicate part.tracks empty_text } in
    let said : IsOriginalOf volume.device part original = record { device_is = refl; fields_are = refl; kind_is = refl; long = length-replicate part.tracks empty_text } in
    subst (λ (s : Step). Plans units s plan.tracks plan.changes) (sym is.step_is)
    (plans_part units part.replaced part.to.unit part.to.name part.runs part.input part.number plan.tracks plan.changes original is.tracks_are (is.lawful units original loaded said))
