-- Whether the VTOCs have room for a copy, on the loaded volumes and in the model.
use Rattle.std.proofs.Common.{◌≡◌, ◌≢◌, ◌⊎◌, inl, inr, ◌↔◌, ℕ, ◌-◌, ◌==◌, nat_lt, not, Bool, true, false, IsTrue, List, [], ◌∷◌, ◌++◌, length, replicate, All, Contains, refl, sym, ap, subst, ◌∙◌}
use Rattle.std.specs.Prelude.{if◌then◌else◌}
use Rattle.std.proofs.lemmas.List.Elements.{All-head, All-tail, All-nil, All-cons, All-contains, Contains-append_cases}
use Rattle.std.proofs.lemmas.Bool.{false≢true}
use Rattle.ckd_image.specs.declared.device.Device.{Device}
use Rattle.ckd_image.specs.Device.{heads_of}
use Rattle.dsn_filter.specs.declared.dsn.Dsn.{Dsn}
use Rattle.dsn_filter.specs.Dsn.{IsDsn}
use Rattle.free_map.specs.declared.run.Run.{Run}
use Rattle.free_map.specs.Runs.{AreMaximalRuns, SameTracksSameRuns}
use Rattle.free_map.specs.Several.{OneChoice, AreChosen}
use Rattle.volume_model.specs.Changed.{IsPut, threes_for}
use Rattle.volume_model.specs.Pinned.{IsNameOf}
use Rattle.volume_model.specs.Reads.{fields_of_1, extent_in}
use Rattle.volume_model.specs.Unit.{Text, Extent, DataSet, OnlineVolume, tracks_of, IsFreeTrack}
use Rattle.vtoc_core.specs.declared.volume.Volume.{Volume}
use Rattle.vtoc_core.specs.Loaded.{field_of}
use Rattle.vtoc_layout.proofs.Distinct.{first_or_later, in_none, in_front, in_back, in_middle, in_later, at_first}
use Rattle.volume_change.specs.declared.change.Change.{Change}
use Rattle.volume_change.specs.declared.change.Change.TheVariants.{Repair, Put, Swap, Remove, Mark}
use Rattle.volume_change.proofs.Names.{one_text}
use Rattle.dump_sets.specs.job_turns.job_copies.vtoc_render.Next.{IsNext, MayChange}
use Rattle.dump_sets.specs.job_turns.job_copies.unit_change.Described.{Describes, DescribesSet}
use Rattle.dump_sets.specs.job_turns.job_copies.unit_change.Changed.{extents_of, set_put, sets_put}
use Rattle.unit_load.specs.declared.state.UnitState.{UnitState}
use Rattle.move_core.specs.declared.steps.Step.{Step}
use Rattle.move_core.specs.declared.steps.Step.TheVariants as steps
use Rattle.move_core.specs.Facts.{Original}
use Rattle.move_core.specs.Steps.{original_of, IsOriginal, IsCopy, IsNewKind, LieOnCylinders, extents_on, fields_at, tracks_for, empty_text}
use Rattle.dump_sets.specs.job_turns.job_copies.unit_steps.declared.plan.Plan.{Plan}
use Rattle.dump_sets.specs.job_turns.job_copies.unit_steps.Plans.{IsLoadedAt, HasRow, IsPlan, putting, extents_in}
use Rattle.dump_sets.proofs.job_turns.job_copies.unit_steps.OneChange.{same_volume}
use Rattle.dump_sets.specs.job_turns.job_steps.unit_session.Planned.{LacksRecordsFor}
use Rattle.dump_sets.specs.job_turns.job_copies.step_plans.Plans.{IsSound}
use Rattle.dump_sets.specs.job_turns.job_copies.step_room.Room.{IsFullFor, LacksRoom, AreTaken, LackingChangesAreFull, FittingChangesAreNotFull}
use Rattle.dump_sets.specs.job_turns.job_steps.Carried.{HaveNext}
use Rattle.dump_sets.specs.job_turns.job_copies.Case.{Case, ReplacesSome}
use Rattle.dump_sets.specs.job_turns.job_copies.Places.{ArePlacesFor}
use Rattle.job_ops.specs.declared.transfer.Transfer.{Transfer}
use Rattle.dump_sets.specs.job_turns.job_acts.Making.{repair_steps}
use Rattle.dump_sets.specs.job_turns.job_acts.Acting as spec
use Rattle.dump_sets.specs.job_turns.job_acts.Acting.{Fits, AllFit, SomeLacks}
use Rattle.job_ops.specs.Transfers.{is_carried, units_due, copying_step, first_steps}
use Rattle.dump_sets.specs.job_turns.Stating.{says_unstated, is_unstated, due}
use Rattle.job_ops.specs.Copy.{IsCarried, GoFor, LacksRoomForCopy, LacksRoomToCopy}
use Rattle.job_ops.proofs.ReshapeTargets.{described_by}
use Rattle.dump_sets.proofs.job_turns.job_acts.PlansMade.{repair_planned}
use Rattle.job_ops.proofs.Transferring.{PlansTransfer, transfer_planned}
use Rattle.dump_sets.proofs.job_turns.job_acts.Repairing.{full_one}
use Rattle.dump_sets.proofs.job_turns.job_acts.Alike.{one_kind}
use Rattle.job_ops.proofs.NewKinds.{one_step}
use Rattle.dump_sets.proofs.job_turns.job_steps.unit_session.unit_steps.Small.{putting_no_mark, remove_no_mark}

-- ---- marks

no_mark_repairs : Repair ≢ Mark
no_mark_repairs same = absurd (subst repairs same (tt {0}))
  where
    repairs : Change → Type 0
    repairs Repair = Unit {0}
    repairs _ = ⊥

-- ---- one kind, one row

-- the maximal runs of a set of tracks are one list
pub one_list : SameTracksSameRuns → (set : ℕ → Type 0) (a b : List Run) → AreMaximalRuns set a → AreMaximalRuns set b → a ≡ b
one_list law set a b one other =
    law a b one.apart other.apart (λ track. (λ held. (other.exact track).0 ((one.exact track).1 held), λ held. (one.exact track).0 ((other.exact track).1 held)))

-- the places of a copy are one list
pub one_places : (case : Case) (a b : List Run) → SameTracksSameRuns → OneChoice → ArePlacesFor case a → ArePlacesFor case b → a ≡ b
one_places case a b list choice (step, free, step_is, free_is, chosen) (other, runs, other_is, runs_are, also) =
    let need = length (tracks_of case.set.extents) in
    choice free a b need step chosen
    (subst (λ (s : ℕ). AreChosen free need s b) (one_step (heads_of case.to.device) case.set.extents other step other_is step_is)
    (subst (λ (l : List Run). AreChosen l need other b) (one_list list (IsFreeTrack case.to) runs free runs_are free_is) also))

-- ---- a transfer and its case

-- the transfer is that of the case, on volumes as they were loaded
pub record IsTransferIn (units : List UnitState) (transfer : Transfer) (case : Case) : Type 0 where
  pub source : Volume
  pub source_loaded : IsLoadedAt units transfer.from.unit source
  pub source_sound : IsSound source
  pub from_is : Describes source case.from
  pub target : Volume
  pub target_loaded : IsLoadedAt units transfer.to.unit target
  pub target_sound : IsSound target
  pub to_is : Describes target case.to
  pub within_is : case.within ≡ (transfer.from.unit == transfer.to.unit)
  pub delete_is : case.wish.delete ≡ transfer.delete
  pub name_is : case.name ≡ transfer.from.name
  pub new_is : case.new ≡ transfer.to.name
  pub there : Contains case.from.sets case.set
  pub named : IsNameOf transfer.from.name case.set.name
  pub placed : ArePlacesFor case transfer.runs
  pub replaced_is : IsTrue transfer.replaced ↔ ReplacesSome case
  pub long : length case.set.texts ≡ length (tracks_of case.set.extents)

module _ {units : List UnitState} {transfer : Transfer} {case : Case} (is : IsTransferIn units transfer case) where
  -- ---- when it is carried

  abbrev carried_by : Bool → Bool → Bool
  carried_by delete within = if delete then not within else false

  carried_same : is_carried transfer ≡ carried_by case.wish.delete case.within
  carried_same = λ i. carried_by (sym is.delete_is i) (sym is.within_is i)

  pub carried_to : IsCarried case → is_carried transfer ≡ true
  carried_to (delete, within) = carried_same ∙ (λ i. carried_by (delete i) (within i))

  pub carried_from : is_carried transfer ≡ true → IsCarried case
  carried_from carried = by case.wish.delete case.within refl refl
    where
      by : (delete within : Bool) → case.wish.delete ≡ delete → case.within ≡ within → IsCarried case
      by true false delete within = (delete, within)
      by true true delete within = absurd (false≢true (sym (carried_same ∙ (λ i. carried_by (delete i) (within i))) ∙ carried))
      by false within delete same = absurd (false≢true (sym (carried_same ∙ (λ i. carried_by (delete i) (same i))) ∙ carried))

  -- ---- whose free space is stated

  pub unstated_to : is_unstated units transfer.to.unit ≡ case.to.repair
  unstated_to = ap says_unstated is.target_loaded ∙ sym is.to_is.repair_is

  pub unstated_from : is_unstated units transfer.from.unit ≡ case.from.repair
  unstated_from = ap says_unstated is.source_loaded ∙ sym is.from_is.repair_is

  -- ---- the copy's plan

  module _ {changes : List (ℕ × Change)} (plan : PlansTransfer transfer units changes) where
    target_is : plan.copy.volume ≡ is.target
    target_is = same_volume units transfer.to.unit plan.copy.volume is.target plan.copy.loaded is.target_loaded

    source_is : plan.copy.source ≡ is.source
    source_is = same_volume units transfer.from.unit plan.copy.source is.source plan.copy.source_loaded is.source_loaded

    old_is : HasRow is.source transfer.from.name plan.copy.old
    old_is = subst (λ (v : Volume). HasRow v transfer.from.name plan.copy.old) source_is plan.copy.old_is

    set_is : DescribesSet (heads_of is.source.device) plan.copy.old case.set
    set_is = described_by is.source case.from transfer.from.name plan.copy.old case.set is.source_sound is.from_is old_is is.there is.named

    set_extents : extents_in plan.copy.source plan.copy.old ≡ case.set.extents
    set_extents = ap (λ (v : Volume). extents_in v plan.copy.old) source_is ∙ sym set_is.extents_are

    kind_is : IsNewKind case.set.extents plan.copy.kind
    kind_is = subst (λ (l : List Extent). IsNewKind l plan.copy.kind) set_extents plan.copy.kind_is

    may_change : MayChange is.target (putting transfer.replaced transfer.to.name plan.copy.row)
    may_change =
        subst (MayChange is.target) plan.copy.change_is (subst (λ (v : Volume). MayChange v plan.change) target_is plan.copy.may)

    heads_are : heads_of plan.copy.volume.device ≡ heads_of is.target.device
    heads_are = ap (λ (v : Volume). heads_of v.device) target_is

    row_extents : extents_of (heads_of is.target.device) plan.copy.row ≡ extents_on plan.copy.kind transfer.runs
    row_extents = ap (λ (h : ℕ). extents_of h plan.copy.row) (sym heads_are) ∙ plan.copy.row_is.extents_are

    row_fields : fields_of_1 plan.copy.row.f1 ≡ fields_at plan.copy.row.name case.to.serial case.set.fields
    row_fields =
        plan.copy.row_is.fields_are
        ∙ (λ i. fields_at plan.copy.row.name ((ap (λ (v : Volume). v.serial) target_is ∙ sym is.to_is.serial_is) i) (sym set_is.fields_are i))

    threes_row : threes_for (length plan.copy.row.extents) ≡ threes_for (length (extents_on plan.copy.kind transfer.runs))
    threes_row =
        ap threes_for
        (sym (Rattle.std.proofs.lemmas.List.length-map plan.copy.row.extents (λ extent. extent_in (heads_of is.target.device) (field_of extent))) ∙ ap (λ (l : List Extent). length l) row_extents)

    -- the texts of a copy
    abbrev copy_texts : List Text
    copy_texts = case.set.texts ++ replicate (length (tracks_of (extents_on plan.copy.kind transfer.runs)) - length case.set.texts) empty_text

    abbrev copy : DataSet
    copy = set_put (heads_of is.target.device) plan.copy.row copy_texts

    devices : case.to.device ≡ case.from.device
    devices = is.to_is.device_is ∙ ap (λ (v : Volume). v.device) (sym target_is) ∙ plan.copy.like ∙ ap (λ (v : Volume). v.device) source_is ∙ sym is.from_is.device_is

    size_is : length (tracks_of (extents_on plan.copy.kind transfer.runs)) ≡ tracks_for (heads_of case.to.device) plan.copy.kind (length case.set.texts)
    size_is =
        plan.copy.size
        ∙ (λ i. tracks_for (heads_of ((ap (λ (v : Volume). v.device) target_is ∙ sym is.to_is.device_is) i)) plan.copy.kind
        ((ap (λ (l : List Extent). length (tracks_of l)) set_extents ∙ sym is.long) i))

    -- what the copy is made of
    abbrev original : Original
    original = original_of case.from case.set plan.copy.kind

    is_copy : IsCopy case.to original case.new transfer.runs copy
    is_copy = record {
      like = devices;
      lawful = subst IsDsn (sym is.new_is) plan.copy.lawful;
      name_is = subst (λ (n : Dsn). IsNameOf n plan.copy.row.name) (sym is.new_is) plan.copy.named;
      fields_are = row_fields;
      whole = subst (λ (d : Device). LieOnCylinders (heads_of d) plan.copy.kind transfer.runs) (ap (λ (v : Volume). v.device) target_is ∙ sym is.to_is.device_is) plan.copy.whole;
      extents_are = row_extents;
      size = ap (λ (l : List Extent). length (tracks_of l)) row_extents ∙ size_is;
      texts_are = ap (λ (l : List Extent). case.set.texts ++ replicate (length (tracks_of l) - length case.set.texts) empty_text) (sym row_extents);
    }

    -- ---- what goes

    gone_of : (gone : List DataSet) → GoFor case gone → AreTaken case.to (putting transfer.replaced transfer.to.name plan.copy.row) gone
    gone_of gone (inl (other, replaces, is_gone)) =
        subst (λ (b : Bool). AreTaken case.to (putting b transfer.to.name plan.copy.row) gone) (sym (is.replaced_is.1 (other, replaces)))
        (subst (AreTaken case.to (Swap transfer.to.name plan.copy.row)) (sym is_gone) (
          (
            other,
            refl,
            one_text transfer.to.name other.name plan.copy.row.name (subst (λ (n : Dsn). IsNameOf n other.name) is.new_is replaces.namesake.name_is) plan.copy.named,
          ),
          All-cons (Contains case.to.sets) other [] replaces.namesake.there (All-nil (Contains case.to.sets)),
        ))
    gone_of gone (inr (none, is_gone)) = by transfer.replaced refl
      where
        by : (replaced : Bool) → transfer.replaced ≡ replaced → AreTaken case.to (putting transfer.replaced transfer.to.name plan.copy.row) gone
        by true same = absurd (none (is.replaced_is.0 same))
        by false same =
            subst (λ (b : Bool). AreTaken case.to (putting b transfer.to.name plan.copy.row) gone) (sym same)
            (subst (AreTaken case.to (Put plan.copy.row)) (sym is_gone) (refl, All-nil (Contains case.to.sets)))

    some_gone : (gone : List DataSet) × GoFor case gone
    some_gone = by transfer.replaced refl
      where
        by : (replaced : Bool) → transfer.replaced ≡ replaced → (gone : List DataSet) × GoFor case gone
        by true same = let other = is.replaced_is.0 same in (other.0 ∷ [], inl (other.0, other.1, refl))
        by false same = ([], inr (λ some. false≢true (sym same ∙ is.replaced_is.1 some), refl))

    -- ---- the copy lacks room

    puts_sets : (replaced : Bool) (texts : List Text) → sets_put (heads_of is.target.device) (putting replaced transfer.to.name plan.copy.row) texts ≡ set_put (heads_of is.target.device) plan.copy.row texts ∷ []
    puts_sets true texts = refl
    puts_sets false texts = refl

    pub lacks_copy : LackingChangesAreFull → (volume : Volume) → IsLoadedAt units transfer.to.unit volume → LacksRoom volume plan.change → LacksRoomForCopy case
    lacks_copy law volume loaded lacks =
        let gone = some_gone in
        let here : LacksRoom is.target (putting transfer.replaced transfer.to.name plan.copy.row) =
        subst (LacksRoom is.target) plan.copy.change_is
        (subst (λ (v : Volume). LacksRoom v plan.change) (same_volume units transfer.to.unit volume is.target loaded is.target_loaded) lacks) in (
          transfer.runs,
          original,
          copy,
          gone.0,
          is.placed,
          record { kind_is = kind_is; original_is = refl },
          is_copy,
          gone.1,
          subst (IsFullFor case.to gone.0) (puts_sets transfer.replaced copy_texts)
              (law is.target case.to (putting transfer.replaced transfer.to.name plan.copy.row) gone.0 copy_texts is.target_sound is.to_is may_change (gone_of gone.0 gone.1) here),
        )

    -- ---- the copy fits

    same_copy : (from : Original) (other : DataSet) → IsOriginal case.from case.set from → IsCopy case.to from case.new transfer.runs other → IsPut other
        → set_put (heads_of is.target.device) plan.copy.row other.texts ≡ other
    same_copy from other origin copied put =
        let name : plan.copy.row.name ≡ other.name = one_text transfer.to.name plan.copy.row.name other.name plan.copy.named (subst (λ (n : Dsn). IsNameOf n other.name) is.new_is copied.name_is) in
        let fields : fields_of_1 plan.copy.row.f1 ≡ other.fields =
        row_fields ∙ ap (λ (n : List ℕ). fields_at n case.to.serial case.set.fields) name ∙ ap (λ (o : Original). fields_at other.name case.to.serial o.fields) (sym origin.original_is)
        ∙ sym copied.fields_are in
        let kinds : plan.copy.kind ≡ from.kind = one_kind case.set.extents plan.copy.kind from.kind kind_is origin.kind_is in
        let extents : extents_of (heads_of is.target.device) plan.copy.row ≡ other.extents =
        row_extents ∙ ap (λ (k : ℕ). extents_on k transfer.runs) kinds ∙ sym copied.extents_are in
        let threes : threes_for (length plan.copy.row.extents) ≡ other.threes =
        threes_row ∙ ap (λ (l : List Extent). threes_for (length l)) (sym row_extents ∙ extents) ∙ sym put.threes_are in
        (λ i. record { name = name i; fields = fields i; extents = extents i; texts = other.texts; threes = threes i })

    pub fits_copy : FittingChangesAreNotFull → (next : Volume) → IsNext is.target plan.change next → (from : Original) (other : DataSet) (gone : List DataSet)
        → IsOriginal case.from case.set from → IsCopy case.to from case.new transfer.runs other
        → GoFor case gone → ¬ IsFullFor case.to gone (other ∷ [])
    fits_copy law next next_is from other gone origin copied go full =
        let put : IsPut other = All-head IsPut other [] full.3.are_put in
        law is.target next case.to (putting transfer.replaced transfer.to.name plan.copy.row) gone other.texts is.target_sound is.to_is may_change
        (putting_no_mark transfer.replaced transfer.to.name plan.copy.row) (gone_of gone go) (subst (λ (c : Change). IsNext is.target c next) plan.copy.change_is next_is)
        (subst (IsFullFor case.to gone) (sym (puts_sets transfer.replaced other.texts ∙ ap (λ (s : DataSet). s ∷ []) (same_copy from other origin copied put))) full)

  -- ---- the origin goes

  taken_source : AreTaken case.from (Remove transfer.from.name) (case.set ∷ [])
  taken_source = ((case.set, refl, is.named), All-cons (Contains case.from.sets) case.set [] is.there (All-nil (Contains case.from.sets)))

  -- ---- free space is stated

  module _ (unit : ℕ) (loaded : Volume) (volume : OnlineVolume) (at : IsLoadedAt units unit loaded) (sound : IsSound loaded) (describes : Describes loaded volume) where
    pub repair_lacks : LackingChangesAreFull → (plan : Plan) (need free : ℕ) → plan.step ≡ steps.Repair unit → IsPlan units plan → LacksRecordsFor units plan.changes need free → IsFullFor volume [] []
    repair_lacks law plan need free step_is lawful full =
        let made = (repair_planned units plan unit step_is lawful).1 in
        let one = full_one full in
        elim (first_or_later (unit, Repair) one.0 [] (subst (λ (list : List (ℕ × Change)). Contains list one.0) made.changes_are one.2)) [
          | inl same ↦
              let lacks : (v : Volume) × IsLoadedAt units unit v × LacksRoom v Repair = subst (λ (c : ℕ × Change). (v : Volume) × IsLoadedAt units c.0 v × LacksRoom v c.1) (sym same) (one.1, one.3, one.4) in
              law loaded volume Repair [] [] sound describes (tt {0}) (refl, All-nil (Contains volume.sets))
              (subst (λ (v : Volume). LacksRoom v Repair) (same_volume units unit lacks.0 loaded lacks.1 at) lacks.2)
          | inr none ↦ absurd (in_none one.0 none)
        ]

    pub repair_fits_now : FittingChangesAreNotFull → (plan : Plan) → plan.step ≡ steps.Repair unit → IsPlan units plan → HaveNext units plan.changes → ¬ IsFullFor volume [] []
    repair_fits_now law plan step_is lawful nexts full =
        let made = (repair_planned units plan unit step_is lawful).1 in
        let one = All-head (λ (change : ℕ × Change). (v : Volume) × (next : Volume) × IsLoadedAt units change.0 v × IsNext v change.1 next) (unit, Repair) []
        (subst (λ (list : List (ℕ × Change)). All (λ (change : ℕ × Change). (v : Volume) × (next : Volume) × IsLoadedAt units change.0 v × IsNext v change.1 next) list) made.changes_are nexts) in
        law loaded one.1 volume Repair [] [] sound describes (tt {0}) no_mark_repairs (refl, All-nil (Contains volume.sets))
        (subst (λ (v : Volume). IsNext v Repair one.1) (same_volume units unit one.0 loaded one.2 at) one.3) full

  -- ---- which repairs there are

  abbrev due_if : ℕ → Bool → List ℕ
  due_if unit unstated = if unstated then unit ∷ [] else []

  in_due : (unit : ℕ) → is_unstated units unit ≡ true → Contains (due units unit) unit
  in_due unit unstated = subst (λ (b : Bool). Contains (due_if unit b) unit) (sym unstated) (at_first unit [])

  from_due : (unit other : ℕ) → Contains (due units unit) other → (is_unstated units unit ≡ true) × (unit ≡ other)
  from_due unit other there = by (is_unstated units unit) refl
    where
      by : (unstated : Bool) → is_unstated units unit ≡ unstated → (is_unstated units unit ≡ true) × (unit ≡ other)
      by true is_due = (
        is_due,
        elim (first_or_later unit other [] (subst (λ (b : Bool). Contains (due_if unit b) other) is_due there)) [ inl same ↦ same | inr none ↦ absurd (in_none other none) ],
      )
      by false stated = absurd (in_none other (subst (λ (b : Bool). Contains (due_if unit b) other) stated there))

  abbrev sources : List ℕ
  sources = due units transfer.from.unit

  abbrev targets : List ℕ
  targets = due units transfer.to.unit

  abbrev units_if : (carried lower : Bool) → List ℕ
  units_if carried lower = if carried then (if lower then sources ++ targets else targets ++ sources) else targets

  abbrev lower : Bool
  lower = nat_lt transfer.from.unit transfer.to.unit

  target_in : (carried less : Bool) → Contains targets transfer.to.unit → Contains (units_if carried less) transfer.to.unit
  target_in false less there = there
  target_in true true there = in_back sources targets transfer.to.unit there
  target_in true false there = in_front targets sources transfer.to.unit there

  source_in : (less : Bool) → Contains sources transfer.from.unit → Contains (units_if true less) transfer.from.unit
  source_in true there = in_front sources targets transfer.from.unit there
  source_in false there = in_back targets sources transfer.from.unit there

  parts_of : (carried less : Bool) (unit : ℕ) → Contains (units_if carried less) unit → ((carried ≡ true) × Contains sources unit) ⊎ Contains targets unit
  parts_of false less unit there = inr there
  parts_of true true unit there = elim (Contains-append_cases sources targets unit there) [ inl one ↦ inl (refl, one) | inr other ↦ inr other ]
  parts_of true false unit there = elim (Contains-append_cases targets sources unit there) [ inl one ↦ inr one | inr other ↦ inl (refl, other) ]

  repair_in : (list : List ℕ) (unit : ℕ) → Contains list unit → Contains (repair_steps list) (steps.Repair unit)
  repair_in [] unit there = absurd (in_none unit there)
  repair_in (x ∷ list) unit there = elim (first_or_later x unit list there) [
    | inl same ↦ subst (λ (u : ℕ). Contains (repair_steps (x ∷ list)) (steps.Repair u)) same (at_first (steps.Repair x) (repair_steps list))
    | inr later ↦ in_later (steps.Repair x) (steps.Repair unit) (repair_steps list) (repair_in list unit later)
  ]

  -- ---- all fit

  abbrev NextOf : ℕ × Change → Type 0
  NextOf change = (v : Volume) × (next : Volume) × IsLoadedAt units change.0 v × IsNext v change.1 next

  abbrev taking : Bool → List (ℕ × Change)
  taking carried = if carried then (transfer.from.unit, Remove transfer.from.name) ∷ [] else []

  abbrev first : List Step
  first = first_steps units transfer

  module _ (law : FittingChangesAreNotFull) (list : SameTracksSameRuns) (choice : OneChoice) (all : AllFit units (first_steps units transfer)) where
    copies : Fits units (copying_step transfer)
    copies = All-contains (Fits units) first (copying_step transfer) all (in_middle (repair_steps (units_due units transfer)) (copying_step transfer) [])

    planned : PlansTransfer transfer units copies.plan.changes
    planned = transfer_planned transfer units copies.plan copies.step_is copies.lawful

    nexts : All NextOf ((transfer.to.unit, planned.change) ∷ taking (is_carried transfer))
    nexts = subst (λ (l : List (ℕ × Change)). All NextOf l) planned.changes_are copies.next

    put_next : (next : Volume) × IsNext is.target planned.change next
    put_next =
        let one = All-head NextOf (transfer.to.unit, planned.change) (taking (is_carried transfer)) nexts in
        (one.1, subst (λ (v : Volume). IsNext v planned.change one.1) (same_volume units transfer.to.unit one.0 is.target one.2 is.target_loaded) one.3)

    take_next : is_carried transfer ≡ true → (next : Volume) × IsNext is.source (Remove transfer.from.name) next
    take_next carried =
        let one = All-head NextOf (transfer.from.unit, Remove transfer.from.name) []
        (subst (λ (b : Bool). All NextOf (taking b)) carried (All-tail NextOf (transfer.to.unit, planned.change) (taking (is_carried transfer)) nexts)) in
        (one.1, subst (λ (v : Volume). IsNext v (Remove transfer.from.name) one.1) (same_volume units transfer.from.unit one.0 is.source one.2 is.source_loaded) one.3)

    repair_fits_of : (unit : ℕ) → Contains (units_due units transfer) unit → Fits units (steps.Repair unit)
    repair_fits_of unit there =
        All-contains (Fits units) first (steps.Repair unit) all
        (in_front (repair_steps (units_due units transfer)) (copying_step transfer ∷ []) (steps.Repair unit) (repair_in (units_due units transfer) unit there))

    states_target : case.to.repair ≡ true → Fits units (steps.Repair transfer.to.unit)
    states_target unstated = repair_fits_of transfer.to.unit (target_in (is_carried transfer) lower (in_due transfer.to.unit (unstated_to ∙ unstated)))

    states_source : IsCarried case → case.from.repair ≡ true → Fits units (steps.Repair transfer.from.unit)
    states_source carried unstated =
        repair_fits_of transfer.from.unit
        (subst (λ (b : Bool). Contains (units_if b lower) transfer.from.unit) (sym (carried_to carried)) (source_in lower (in_due transfer.from.unit (unstated_from ∙ unstated))))

    may_take : is_carried transfer ≡ true → MayChange is.source (Remove transfer.from.name)
    may_take carried = subst (λ (v : Volume). MayChange v (Remove transfer.from.name)) (source_is planned) (planned.may_remove carried)

    pub has_room : ¬ LacksRoomToCopy case
    has_room (inl (unstated, full)) =
        let fits = states_target unstated in
        repair_fits_now transfer.to.unit is.target case.to is.target_loaded is.target_sound is.to_is law fits.plan fits.step_is fits.lawful fits.next full
    has_room (inr (inl (to, from, copy, gone, places, origin, copied, go, full))) =
        fits_copy planned law put_next.0 put_next.1 from copy gone origin
        (subst (λ (runs : List Run). IsCopy case.to from case.new runs copy) (one_places case to transfer.runs list choice places is.placed) copied) go full
    has_room (inr (inr (carried, inl (unstated, full)))) =
        let fits = states_source carried unstated in
        repair_fits_now transfer.from.unit is.source case.from is.source_loaded is.source_sound is.from_is law fits.plan fits.step_is fits.lawful fits.next full
    has_room (inr (inr (carried, inr full))) =
        let next = take_next (carried_to carried) in
        law is.source next.0 case.from (Remove transfer.from.name) (case.set ∷ []) [] is.source_sound is.from_is (may_take (carried_to carried)) (remove_no_mark transfer.from.name) taken_source next.1 full

  -- ---- one lacks room

  module _ (law : LackingChangesAreFull) where
    copy_lacks : spec.LacksRoom units (copying_step transfer) → LacksRoomToCopy case
    copy_lacks lacks =
        let plan = transfer_planned transfer units lacks.plan lacks.step_is lacks.lawful in
        let one = full_one lacks.full in
        elim (first_or_later (transfer.to.unit, plan.change) one.0 (taking (is_carried transfer)) (subst (λ (l : List (ℕ × Change)). Contains l one.0) plan.changes_are one.2)) [
          | inl same ↦
              let here : (v : Volume) × IsLoadedAt units transfer.to.unit v × LacksRoom v plan.change =
              subst (λ (c : ℕ × Change). (v : Volume) × IsLoadedAt units c.0 v × LacksRoom v c.1) (sym same) (one.1, one.3, one.4) in
              inr (inl (lacks_copy plan law here.0 here.1 here.2))
          | inr later ↦ by plan (is_carried transfer) refl one.0 one.1 later one.3 one.4
        ]
      where
        by : (plan : PlansTransfer transfer units lacks.plan.changes) (carried : Bool) → is_carried transfer ≡ carried → (one : ℕ × Change) (volume : Volume) → Contains (taking (is_carried transfer)) one
            → IsLoadedAt units one.0 volume → LacksRoom volume one.1 → LacksRoomToCopy case
        by plan true carried one volume there loaded none = elim (first_or_later (transfer.from.unit, Remove transfer.from.name) one [] (subst (λ (b : Bool). Contains (taking b) one) carried there)) [
          | inl same ↦
              let here : (v : Volume) × IsLoadedAt units transfer.from.unit v × LacksRoom v (Remove transfer.from.name) =
              subst (λ (c : ℕ × Change). (v : Volume) × IsLoadedAt units c.0 v × LacksRoom v c.1) (sym same) (volume, loaded, none) in
              inr (inr (
                carried_from carried,
                inr (law is.source case.from (Remove transfer.from.name) (case.set ∷ []) [] is.source_sound is.from_is
                    (subst (λ (v : Volume). MayChange v (Remove transfer.from.name)) (source_is plan) (plan.may_remove carried)) taken_source
                    (subst (λ (v : Volume). LacksRoom v (Remove transfer.from.name)) (same_volume units transfer.from.unit here.0 is.source here.1 is.source_loaded) here.2)),
              ))
          | inr none ↦ absurd (in_none one none)
        ]
        by plan false stays one volume there loaded none = absurd (in_none one (subst (λ (b : Bool). Contains (taking b) one) stays there))

    -- of a unit whose free space is to be stated
    unit_lacks : (unit : ℕ) → ((is_carried transfer ≡ true) × Contains sources unit) ⊎ Contains targets unit → spec.LacksRoom units (steps.Repair unit) → LacksRoomToCopy case
    unit_lacks unit (inl (carried, there)) lacks =
        let is_due = from_due transfer.from.unit unit there in
        let here : spec.LacksRoom units (steps.Repair transfer.from.unit) = subst (λ (u : ℕ). spec.LacksRoom units (steps.Repair u)) (sym is_due.1) lacks in
        inr (inr (
          carried_from carried,
          inl (
            sym unstated_from ∙ is_due.0,
            repair_lacks transfer.from.unit is.source case.from is.source_loaded is.source_sound is.from_is law here.plan here.need here.free here.step_is here.lawful here.full,
          ),
        ))
    unit_lacks unit (inr there) lacks =
        let is_due = from_due transfer.to.unit unit there in
        let here : spec.LacksRoom units (steps.Repair transfer.to.unit) = subst (λ (u : ℕ). spec.LacksRoom units (steps.Repair u)) (sym is_due.1) lacks in
        inl (
          sym unstated_to ∙ is_due.0,
          repair_lacks transfer.to.unit is.target case.to is.target_loaded is.target_sound is.to_is law here.plan here.need here.free here.step_is here.lawful here.full,
        )

    repairs_lack : (list : List ℕ) → ((unit : ℕ) → Contains list unit → Contains (units_due units transfer) unit) → (step : Step) → Contains (repair_steps list) step → spec.LacksRoom units step
        → LacksRoomToCopy case
    repairs_lack [] within step there lacks = absurd (in_none step there)
    repairs_lack (unit ∷ list) within step there lacks = elim (first_or_later (steps.Repair unit) step (repair_steps list) there) [
      | inl same ↦
          unit_lacks unit (parts_of (is_carried transfer) lower unit (within unit (at_first unit list))) (subst (spec.LacksRoom units) (sym same) lacks)
      | inr later ↦ repairs_lack list (λ other held. within other (in_later unit other list held)) step later lacks
    ]

    pub lacks_room : SomeLacks units (first_steps units transfer) → LacksRoomToCopy case
    lacks_room (step, there, lacks) = elim (Contains-append_cases (repair_steps (units_due units transfer)) (copying_step transfer ∷ []) step there) [
      | inl one ↦ repairs_lack (units_due units transfer) (λ unit held. held) step one lacks
      | inr last ↦ elim (first_or_later (copying_step transfer) step [] last) [
        | inl same ↦ copy_lacks (subst (spec.LacksRoom units) (sym same) lacks)
        | inr none ↦ absurd (in_none step none)
      ]
    ]
