-- The given tracks of a plan.
use Rattle.std.proofs.Common.{◌≡◌, ◌⊎◌, inl, inr, ◌==◌, ◌&&◌, ℕ, zero, suc, ◌<◌, ◌≤◌, List, [], ◌∷◌, length, All, Contains, Bool, true, false, Option, Some, None, map, refl, sym, ap, subst, ◌∙◌, arith}
use Rattle.std.proofs.lemmas.List.{get_or_default}
use Rattle.std.proofs.lemmas.Bool.{false≢true, cases_eq}
use Rattle.std.proofs.lemmas.Bool.Decides.{eqb_tells}
use Rattle.std.proofs.lemmas.List.Elements.{All-contains}
use Rattle.std.specs.Prelude.{slice_get}
use Rattle.std.proofs.lemmas.Option.{none-some, same_Some, slice_get_within}
use Rattle.ckd_image.specs.Device.{heads_of, slot_of}
use Rattle.dasd_pool.specs.Disk.{Shape, is_at}
use Rattle.dsn_filter.specs.declared.dsn.Dsn.{Dsn}
use Rattle.free_map.specs.declared.run.Run.{Run}
use Rattle.free_map.specs.Free.{IsFree}
use Rattle.free_map.specs.Runs.{InRuns}
use Rattle.redo_core.specs.Reading.{journal_of}
use Rattle.volume_model.specs.Dscbs.{numbers_below}
use Rattle.volume_model.specs.Unit as models
use Rattle.volume_model.proofs.Numbers.{numbers_long}
use Rattle.vtoc_core.specs.declared.volume.Row.{Row}
use Rattle.vtoc_core.specs.declared.volume.Volume.{Volume}
use Rattle.vtoc_layout.specs.Layout.{AreDistinct}
use Rattle.vtoc_layout.proofs.Apart.{all_from}
use Rattle.vtoc_layout.proofs.Distinct.{at_first, in_front, in_back, no_more}
use Rattle.volume_change.specs.declared.change.Change.{Change}
use Rattle.volume_change.specs.Runs.{runs_in}
use Rattle.unit_load.specs.declared.state.UnitState.{UnitState}
use Rattle.unit_load.specs.declared.state.UnitState.TheVariants.{Online}
use Rattle.unit_load.proofs.Runs.{said_slot}
use Rattle.move_core.specs.Facts.{Original}
use Rattle.move_core.specs.declared.steps.Origin.TheVariants as origins
use Rattle.move_core.specs.declared.steps.Step.{Step}
use Rattle.move_core.specs.declared.steps.Step.TheVariants as steps
use Rattle.unit_steps.specs.declared.plan.Plan.{Plan}
use Rattle.unit_steps.specs.declared.plan.Tracks.{Tracks}
use Rattle.unit_steps.specs.declared.plan.Tracks.TheVariants as texts
use Rattle.unit_steps.specs.Copied.{IsFreeAt, IsPutBy}
use Rattle.unit_steps.specs.Laws.{AreSized}
use Rattle.unit_steps.specs.Loaded.{HaveStates, KeepVtocs}
use Rattle.unit_steps.specs.Plans.{IsLoadedAt, IsPlan, Plans, PlansPart, putting, tracks_in}
use Rattle.unit_steps.specs.vtoc_render.Next.{MayChange}
use Rattle.unit_steps.proofs.OneChange.{same_volume}
use Rattle.unit_steps.proofs.Putting.{put_by}
use Rattle.unit_steps.proofs.Rows.{runs_of_extents, runs_on}
use Rattle.unit_session.specs.declared.copies.Copies.{Copies}
use Rattle.unit_session.specs.declared.copies.GivenTracks.{GivenTracks}
use Rattle.unit_session.specs.Copies.{AreCopiesOf, HasTarget, OnCopies}
use Rattle.unit_session.specs.Given.{AreGivenOf, AreNotBoth, AreTracksPut, GivesAt, MayGive, OnGiven, count_given, is_given, track_at}
use Rattle.unit_session.proofs.CopyPlaces.{few_blocks, free_below, kept_of, put_distinct, put_row, track_in_runs}

-- ---- what is planned

rows_not_given : (from : ℕ) (name : Dsn) → texts.Rows from name ≡ texts.Given → ⊥
rows_not_given from name same = cc

none_not_given : texts.None ≡ texts.Given → ⊥
none_not_given same = cc

-- a part is put
pub record IsPart (units : List UnitState) (changes : List (ℕ × Change)) : Type 0 where
  pub replaced : Bool
  pub original : Original
  pub unit : ℕ
  pub name : Dsn
  pub to : List Run
  pub part : PlansPart replaced units original unit name to changes

-- the caller gives texts for parts alone
planned_part : (units : List UnitState) (step : Step) (tracks : Tracks) (changes : List (ℕ × Change)) → Plans units step tracks changes → tracks ≡ texts.Given → IsPart units changes
planned_part units (steps.Move unit name to) tracks changes plan is = absurd (rows_not_given unit name (sym plan.0 ∙ is))
planned_part units (steps.Shrink unit name keep) tracks changes plan is = absurd (none_not_given (sym plan.0 ∙ is))
planned_part units (steps.Add unit name to (origins.Row from origin)) tracks changes plan is = absurd (rows_not_given from origin (sym plan.0 ∙ is))
planned_part units (steps.Add unit name to (origins.Part input number)) tracks changes plan is = record {
  replaced = false;
  original = plan.1.0;
  unit = unit;
  name = name;
  to = to;
  part = plan.1.1;
}
planned_part units (steps.Replace unit name to (origins.Row from origin)) tracks changes plan is = absurd (rows_not_given from origin (sym plan.0 ∙ is))
planned_part units (steps.Replace unit name to (origins.Part input number)) tracks changes plan is = record {
  replaced = true;
  original = plan.1.0;
  unit = unit;
  name = name;
  to = to;
  part = plan.1.1;
}
planned_part units (steps.Delete unit name) tracks changes plan is = absurd (none_not_given (sym plan.0 ∙ is))
planned_part units (steps.Carry from origin unit name to replaced) tracks changes plan is = absurd (rows_not_given from origin (sym plan.0 ∙ is))
planned_part units (steps.ResetFlag unit name) tracks changes plan is = absurd (none_not_given (sym plan.0 ∙ is))
planned_part units (steps.Repair unit) tracks changes plan is = absurd (none_not_given (sym plan.0 ∙ is))
planned_part units (steps.FillStart unit input) tracks changes plan is = absurd plan
planned_part units (steps.FillEnd unit input) tracks changes plan is = absurd plan

-- the row that a part puts is there
part_target : {units : List UnitState} {changes : List (ℕ × Change)} (is : IsPart units changes) → HasTarget units is.unit is.part.change
part_target is =
    (is.part.volume, is.part.row, is.part.loaded, subst (λ (c : Change). IsPutBy c is.part.row) (sym is.part.change_is) (put_by is.replaced is.name is.part.row))

-- that of the first change, where texts are given
pub given_target : (units : List UnitState) (plan : Plan) (one : ℕ × Change) → IsPlan units plan → plan.tracks ≡ texts.Given → slice_get plan.changes 0 ≡ Some one → HasTarget units one.0 one.1
given_target units plan one is given at =
    let part = planned_part units plan.step plan.tracks plan.changes is given in
    let same : (part.unit, part.part.change) ≡ one = same_Some (part.unit, part.part.change) one (ap (λ (l : List (ℕ × Change)). slice_get l 0) (sym part.part.changes_are) ∙ at) in
    subst (λ (c : ℕ × Change). HasTarget units c.0 c.1) same (part_target part)

-- where texts are copied, none are given
pub not_both : (units : List UnitState) (tracks : Tracks) (changes : List (ℕ × Change)) (copies : Option Copies) (given : Option GivenTracks) → AreCopiesOf units tracks changes copies
    → AreGivenOf units tracks changes given → AreNotBoth copies given
not_both units tracks changes None given are other = tt
not_both units texts.None changes (Some copies) given are other = other
not_both units texts.Given changes (Some copies) given are other = absurd (none-some copies (sym are))
not_both units (texts.Rows from name) changes (Some copies) given are other = other

-- so no text is asked for behind one that was given
pub none_copied : (units : List UnitState) (tracks : Tracks) (changes : List (ℕ × Change)) (copies : Option Copies) (given : Option GivenTracks) (index : ℕ) (Q : Copies → Type 0)
    → AreCopiesOf units tracks changes copies → AreGivenOf units tracks changes given → GivesAt given index → OnCopies Q copies
none_copied units tracks changes None given index Q are other place = tt
none_copied units tracks changes (Some copies) None index Q are other place = absurd place
none_copied units tracks changes (Some copies) (Some given) index Q are other place = absurd (none-some given (sym (not_both units tracks changes (Some copies) (Some given) are other)))

tracks_given : (units : List UnitState) (tracks : Tracks) (changes : List (ℕ × Change)) (given : GivenTracks) → AreGivenOf units tracks changes (Some given) → tracks ≡ texts.Given
tracks_given units texts.Given changes given are = refl
tracks_given units texts.None changes given are = absurd (none-some given (sym are))
tracks_given units (texts.Rows from name) changes given are = absurd (none-some given (sym are))

-- ---- given tracks

-- they are those of a part's row
pub record AreOfPart (units : List UnitState) (changes : List (ℕ × Change)) (given : GivenTracks) : Type 0 where
  pub is : IsPart units changes
  pub device_is : given.device ≡ is.part.volume.device
  pub unit_is : given.unit ≡ is.unit
  pub tracks_are : given.tracks.items ≡ tracks_in is.part.volume is.part.row

of_part : (units : List UnitState) (plan : Plan) (given : GivenTracks) → IsPlan units plan → AreGivenOf units plan.tracks plan.changes (Some given) → AreOfPart units plan.changes given
of_part units plan given is are =
    let tracks = tracks_given units plan.tracks plan.changes given are in
    let part = planned_part units plan.step plan.tracks plan.changes is tracks in
    let put : AreTracksPut units part.unit part.part.change given =
    subst (λ (l : List (ℕ × Change)). AreGivenOf units texts.Given l (Some given)) part.part.changes_are
    (subst (λ (t : Tracks). AreGivenOf units t plan.changes (Some given)) tracks are) in
    let volume : put.0 ≡ part.part.volume = same_volume units part.unit put.0 part.part.volume put.2 part.part.loaded in
    let row : put.1 ≡ part.part.row = put_row part.replaced part.name part.part.row put.1 (subst (λ (c : Change). IsPutBy c put.1) part.part.change_is put.3) in
    record {
      is = part;
      device_is = put.4 ∙ ap (λ (v : Volume). v.device) volume;
      unit_is = put.5;
      tracks_are = put.6 ∙ (λ i. tracks_in (volume i) (row i));
    }

-- a track of a part's row is free
part_free : {units : List UnitState} {changes : List (ℕ × Change)} (is : IsPart units changes) (track : ℕ) → Contains (tracks_in is.part.volume is.part.row) track → IsFree is.part.volume.free track
part_free is track there =
    let heads = heads_of is.part.volume.device in
    let to_is : is.to ≡ runs_in heads is.part.row.extents =
    sym (runs_on is.original.kind is.to) ∙ ap (map models.run_in) (sym is.part.row_is.extents_are) ∙ runs_of_extents heads is.part.row in
    is.part.free track (subst (λ (l : List Run). InRuns l track) (sym to_is) (track_in_runs is.part.volume is.part.row track there))

module _ {shape : Shape} (units : List UnitState) (vtocs : List (List ℕ)) (plan : Plan) (have : HaveStates shape units) (keep : KeepVtocs shape units vtocs) (is : IsPlan units plan) where
  may_one : (given : GivenTracks) → AreSized shape → AreOfPart units plan.changes given → MayGive shape given
  may_one given sized of =
      let part = of.is.part in
      let kept = (kept_of units vtocs have keep of.is.unit part.volume part.loaded).2 in
      let there : of.is.unit < journal_of shape = omega (arith, slice_get_within units of.is.unit (Online part.volume) part.loaded, have) in
      let size : shape.block_size of.is.unit ≡ slot_of given.device =
      sized of.is.unit there ∙ said_slot (shape.head of.is.unit) kept.image.device kept.image_is.stands.slot ∙ ap slot_of (sym kept.loaded.volume.device_is) ∙ ap slot_of (sym of.device_is) in
      record {
        unit = subst (λ (u : ℕ). u < journal_of shape) (sym of.unit_is) there;
        few = subst (λ (u : ℕ). shape.blocks u ≤ 65535) (sym of.unit_is) (few_blocks kept);
        size = subst (λ (u : ℕ). shape.block_size u ≡ slot_of given.device) (sym of.unit_is) size;
        tracks =
            subst (λ (u : ℕ). All (λ track. track < shape.blocks u) given.tracks.items) (sym of.unit_is)
            (all_from (λ (track : ℕ). track < shape.blocks of.is.unit) given.tracks.items
            (λ track held. free_below kept track (part_free of.is track (subst (λ (l : List ℕ). Contains l track) of.tracks_are held))));
      }

  pub may_give : (given : Option GivenTracks) → AreSized shape → AreGivenOf units plan.tracks plan.changes given → OnGiven (MayGive shape) given
  may_give None sized are = tt
  may_give (Some given) sized are = may_one given sized (of_part units plan given is are)

-- ---- how many there are

in_numbers : (n k : ℕ) → k < n → Contains (numbers_below n) k
in_numbers zero k less = absurd (omega (arith, less))
in_numbers (suc n) k less = elim (cases_eq n k) [
  | inl same ↦ in_back (numbers_below n) (n ∷ []) k (subst (Contains (n ∷ [])) same (at_first n []))
  | inr apart ↦ in_front (numbers_below n) (n ∷ []) k (in_numbers n k (omega (arith, less, apart)))
]

-- a row that may be put has no track twice
may_distinct : (volume : Volume) (replaced : Bool) (name : Dsn) (row : Row) → MayChange volume (putting replaced name row) → AreDistinct (tracks_in volume row)
may_distinct volume false name row may = put_distinct volume [] row may.0
may_distinct volume true name row may = put_distinct volume (may.1.0 ∷ []) row may.1.3

-- the tracks of a part are distinct
part_distinct : {units : List UnitState} {changes : List (ℕ × Change)} (is : IsPart units changes) → AreDistinct (tracks_in is.part.volume is.part.row)
part_distinct is = may_distinct is.part.volume is.replaced is.name is.part.row (subst (MayChange is.part.volume) is.part.change_is is.part.may)

given_distinct : (units : List UnitState) (plan : Plan) (given : GivenTracks) → IsPlan units plan → AreGivenOf units plan.tracks plan.changes (Some given) → AreDistinct given.tracks.items
given_distinct units plan given is are = let of = of_part units plan given is are in subst (λ (l : List ℕ). AreDistinct l) (sym of.tracks_are) (part_distinct of.is)

no_more_tracks : (limit : ℕ) (tracks : List ℕ) → AreDistinct tracks → All (λ track. track < limit) tracks → length tracks ≤ limit
no_more_tracks limit tracks distinct below =
    omega (
      arith,
      no_more tracks (numbers_below limit) distinct (λ track there. in_numbers limit track (All-contains (λ (t : ℕ). t < limit) tracks track below there)),
      numbers_long limit,
    )

few_one : (shape : Shape) (units : List UnitState) (plan : Plan) (given : GivenTracks) → MayGive shape given → IsPlan units plan → AreGivenOf units plan.tracks plan.changes (Some given)
    → length given.tracks.items ≤ 65535
few_one shape units plan given may is are =
    omega (arith, may.few, no_more_tracks (shape.blocks given.unit) given.tracks.items (given_distinct units plan given is are) may.tracks)

pub few_given : (shape : Shape) (units : List UnitState) (plan : Plan) (given : Option GivenTracks) → OnGiven (MayGive shape) given → IsPlan units plan
    → AreGivenOf units plan.tracks plan.changes given → count_given given ≤ 65535
few_given shape units plan None may is are = omega arith
few_given shape units plan (Some given) may is are = few_one shape units plan given may is are

-- no track is given twice
pub given_once : (units : List UnitState) (plan : Plan) (given : Option GivenTracks) → IsPlan units plan → AreGivenOf units plan.tracks plan.changes given
    → OnGiven (λ some. AreDistinct some.tracks.items) given
given_once units plan None is are = tt
given_once units plan (Some given) is are = given_distinct units plan given is are

-- ---- what is written

at_parts : (unit track u b : ℕ) → is_at unit track u b ≡ true → (u ≡ unit) × (b ≡ track)
at_parts unit track u b here = by (eqb_tells u unit) (eqb_tells b track)
  where
    by : ((u == unit) ≡ true) × (u ≡ unit) ⊎ ((u == unit) ≡ false) × ¬ (u ≡ unit) → ((b == track) ≡ true) × (b ≡ track) ⊎ ((b == track) ≡ false) × ¬ (b ≡ track) → (u ≡ unit) × (b ≡ track)
    by (inl e) (inl f) = (e.1, f.1)
    by (inl e) (inr f) = absurd (false≢true (sym (λ i. e.0 i && f.0 i) ∙ here))
    by (inr e) f = absurd (false≢true (sym (ap (λ (x : Bool). x && (b == track)) e.0) ∙ here))

-- a given track is free
pub given_free : (units : List UnitState) (plan : Plan) (given : Option GivenTracks) (index : ℕ) → IsPlan units plan → AreGivenOf units plan.tracks plan.changes given → GivesAt given index
    → (u b : ℕ) → is_given given index u b ≡ true → IsFreeAt units u b
given_free units plan None index is are place u b here = absurd place
given_free units plan (Some given) index is are place u b here =
    let of = of_part units plan given is are in
    let at = at_parts given.unit (track_at given index) u b here in
    let there : Contains given.tracks.items b = (index, place, get_or_default given.tracks.items index b 0 place ∙ sym at.1) in (
      of.is.part.volume,
      subst (λ (n : ℕ). IsLoadedAt units n of.is.part.volume) (sym (at.0 ∙ of.unit_is)) of.is.part.loaded,
      part_free of.is b (subst (λ (l : List ℕ). Contains l b) of.tracks_are there),
    )
