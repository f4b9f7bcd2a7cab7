-- A pool that reads stands for units.
use Rattle.std.proofs.Common.{◌≡◌, inl, inr, ℕ, ◌<◌, List, [], Bool, false, refl, sym, subst, ◌∙◌, arith}
use Rattle.std.proofs.lemmas.Bool.{cases_Bool, both_ways}
use Rattle.dasd_pool.specs.Disk.{Image, Shape, State}
use Rattle.vol_label.specs.declared.serial.Serial.{Serial}
use Rattle.redo_core.specs.declared.control.Control.{Control}
use Rattle.redo_core.specs.declared.control.Control.TheVariants.{Idle, Slide}
use Rattle.redo_core.specs.Faults.{zeroed, HasSerial, LabelsAre, HasNoSlide, MayOpen}
use Rattle.redo_core.specs.Format.{is_open, directory_in}
use Rattle.redo_core.specs.Opening.{IsOpened}
use Rattle.redo_core.specs.Reading.{journal_of, overlay, fills_of, Reading, Reads}
use Rattle.redo_core.proofs.Closed.{allowed_closed}
use Rattle.redo_core.proofs.Openings.{idle_reads}
use Rattle.volume_model.specs.Unit.{UnitModel}
use Rattle.volume_model.specs.Reads.{IsUnit}
use Rattle.move_core.specs.Facts.{Facts, Shown, no_inputs}
use Rattle.move_core.specs.Resuming.{new_reading}
use Rattle.move_core.specs.Stands.{is_sliding, place_in, AreUnits, IsAfterSlide, Means, Stands}
use Rattle.move_core.proofs.OneMeaning.{one_meaning}
use Rattle.move_core.proofs.OneUnit.{one_unit}
use Rattle.move_core.proofs.Resuming.{formatted_settled, synced_settled, standing_may_open}
use Rattle.standing_units.specs.Standing.{SomeText, EachIsOne, SoundIsOnline, SomeFound, SomeUnits, SlidingStands, IsFor, OpeningStands, FormattedStands, IsSettledFor, OpenedStands, SyncedStands, JournalStands, RunStands, RunEndsSettled}
use Rattle.standing_units.proofs.Texts.{text_there}
use Rattle.standing_units.proofs.Units.{online_there, unit_there}
use Rattle.standing_units.proofs.Journals.{beside, at_volume, beside_reads}
use Rattle.standing_units.proofs.Lists.{one_by_one}

module _ (shape : Shape) (reading : Reading) where
  pub found_there : (found : List UnitModel) × AreUnits shape reading found
  found_there =
      let made =
      one_by_one (λ u unit. IsUnit (reading.fills u) (is_sliding reading.control u) (place_in reading.control u) (shape.head u) (shape.blocks u) (reading.volumes u) unit)
      (λ u. unit_there (is_sliding reading.control u) (place_in reading.control u) (shape.head u) (shape.blocks u) (reading.volumes u) (reading.fills u)) (journal_of shape) in
      (made.0, record { count = made.1.0; each = made.1.1 })

  pub means_there : reading.control ≡ Idle → (units : List UnitModel) × Means shape reading units
  means_there idle =
      let found = found_there in (
        found.0,
        record {
          found = found.0;
          found_are = found.1;
          after = subst (λ (control : Control). IsAfterSlide reading.room control found.0 found.0) (sym idle) refl;
        },
      )

pub some_text : SomeText
some_text = text_there

pub each_is_one : EachIsOne
each_is_one filling sliding place head blocks slots =
    let made = unit_there sliding place head blocks slots filling in
    (made.0, (made.1, λ other is. one_unit sliding place head blocks slots filling other made.0 is made.1))

pub sound_is_online : SoundIsOnline
sound_is_online = online_there

pub some_found : SomeFound
some_found = found_there

stands_there : (facts : Facts) (image : Image) (reading : Reading) → Reads facts.shape image reading → reading.names ≡ facts.names → reading.room ≡ facts.room
    → LabelsAre facts.shape reading.volumes facts.names (journal_of facts.shape) → reading.control ≡ Idle → (units : List UnitModel) × Stands facts image units
stands_there facts image reading reads names room labels idle =
    let means = means_there facts.shape reading idle in
    (means.0, record { reading = reading; reads = reads; names_are = names; room_is = room; labels = labels; means = means.1 })

pub some_units : SomeUnits
some_units facts image reading reads names room labels idle =
    let stands = stands_there facts image reading reads names room labels idle in
    let own : stands.1.reading.control ≡ Idle = stands.1.reads.obeys.control_is ∙ sym reads.obeys.control_is ∙ idle in
    (stands.0, (stands.1, λ others also. sym (one_meaning facts image stands.0 others stands.1 also own)))

pub sliding_stands : SlidingStands
sliding_stands facts image reading reads names room labels slides =
    let found = found_there facts.shape reading in
    let after = slides found.0 found.1 in
    (after.0, record { reading = reading; reads = reads; names_are = names; room_is = room; labels = labels; means = record { found = found.0; found_are = found.1; after = after.1 } })

pub formatted_stands : FormattedStands
formatted_stands facts old new allowed formatted =
    let means = means_there facts.shape (new_reading old.contents facts.names facts.room) refl in
    (means.0, formatted_settled facts old new means.0 allowed formatted means.1)

-- ---- an opening

-- labels are read where the volumes are
labels_same : (shape : Shape) (one other : Image) (names : List Serial) → ((u b : ℕ) → u < journal_of shape → other u b ≡ one u b) → LabelsAre shape one names (journal_of shape)
    → LabelsAre shape other names (journal_of shape)
labels_same shape one other names same labels unit serial less has =
    labels unit serial less (record {
      device = has.device;
      head = has.head;
      label = subst (λ (slot : List ℕ). HasSerial (record { device = has.device; tracks = shape.blocks unit }) slot serial) (same unit 0 less) has.label;
    })

module _ (shape : Shape) (image : Image) (names : List Serial) (may : MayOpen shape image names) where
  abbrev r : Reading
  r = may.reading

  idle_is : r.control ≡ Idle
  idle_is = by r.control (λ busy. may.idle.idle busy)
    where
      by : (control : Control) → ¬ ¬ (control ≡ Idle) → control ≡ Idle
      by Idle never = refl
      by (Slide unit from to len done) never = absurd (never (λ e. cc))

  there : Reads shape image (record r { volumes = overlay shape.block_size (journal_of shape) image })
  there = elim (cases_Bool (is_open (zeroed shape image (journal_of shape) 1))) [
    | inl opened ↦ (
        let body = may.idle.obeys.body opened in
        idle_reads shape image r.room (directory_in (zeroed shape image (journal_of shape) 3)) may.long body.few
        (record { closed = λ closed. absurd (both_ways (is_open (zeroed shape image (journal_of shape) 1)) closed opened); «open» = λ so. (refl, body.some) })
        r refl may.idle.obeys)
    | inr closed ↦
        idle_reads shape image r.room [] may.long (omega arith)
        (record { closed = λ so. refl; «open» = λ opened. absurd (both_ways (is_open (zeroed shape image (journal_of shape) 1)) closed opened) })
        r refl may.idle.obeys
  ]

  facts_of : Facts
  facts_of = record { shape = shape; names = names; room = r.room; inputs = no_inputs }

  stands_opened : (units : List UnitModel) × Stands facts_of image units
  unfolding facts_of
  stands_opened =
      stands_there facts_of image (record r { volumes = overlay shape.block_size (journal_of shape) image }) there may.names_are refl may.labels idle_is

  pub opening_is : IsFor shape names image
  unfolding facts_of
  opening_is = record { facts = facts_of; shape_is = refl; names_are = refl; units = stands_opened.0; stands = stands_opened.1 }

  opened_control : (new : State) (old : State) (room : ℕ) (control : Control) (fills : List Bool) → old.contents ≡ image → IsOpened shape old names room control fills new → control ≡ Idle
  opened_control new old room control fills same opened =
      let before : Reads shape image (record { volumes = opened.volumes; names = names; room = room; control = control; fills = fills_of fills }) =
      subst (λ (i : Image). Reads shape i (record { volumes = opened.volumes; names = names; room = room; control = control; fills = fills_of fills })) same opened.before in
      before.obeys.control_is ∙ sym there.obeys.control_is ∙ idle_is

-- an image that stands for units may be opened
opens : (shape : Shape) (image : Image) (names : List Serial) → IsFor shape names image → HasNoSlide shape image → MayOpen shape image names
opens shape image names is closed =
    subst (λ (s : Shape). MayOpen s image names) is.shape_is
    (subst (λ (n : List Serial). MayOpen is.facts.shape image n) is.names_are
    (standing_may_open is.facts image is.units is.stands (subst (λ (s : Shape). HasNoSlide s image) (sym is.shape_is) closed)))

pub opening_stands : OpeningStands
opening_stands shape image names = (
  λ may. (opening_is shape image names may, allowed_closed shape image names may),
  λ both. opens shape image names both.0 both.1,
)

pub opened_stands : OpenedStands
opened_stands shape old new names room control fills may opened =
    let reading : Reading = record { volumes = opened.volumes; names = names; room = room; control = control; fills = fills_of fills } in
    let facts : Facts = record { shape = shape; names = names; room = room; inputs = no_inputs } in
    let idle : control ≡ Idle = opened_control shape old.contents names may new old room control fills refl opened in
    let labels : LabelsAre shape opened.volumes names (journal_of shape) =
    labels_same shape (overlay shape.block_size (journal_of shape) old.contents) opened.volumes names opened.before.volumes_are may.labels in
    let stands = stands_there facts new.contents reading opened.after refl refl labels idle in
    record { facts = facts; shape_is = refl; names_are = refl; units = stands.0; settled = synced_settled facts new stands.0 opened.all stands.1 }

-- and so behind calls that only read
pub settled_at : {shape now : Shape} {old new : State} {names : List Serial} → now ≡ shape → new ≡ old → IsSettledFor shape names old → IsSettledFor now names new
settled_at {shape} {now} {old} {new} {names} same still is =
    subst (λ (s : Shape). IsSettledFor s names new) (sym same) (subst (λ (t : State). IsSettledFor shape names t) (sym still) is)

pub synced_stands : SyncedStands
synced_stands shape state names may all =
    let is = opening_is shape state.contents names may in
    record { facts = is.facts; shape_is = is.shape_is; names_are = is.names_are; units = is.units; settled = synced_settled is.facts state is.units all is.stands }

-- ---- volumes and a journal beside them

pub journal_stands : JournalStands
journal_stands shape volumes names room head are least most long labels =
    let facts : Facts = record { shape = shape; names = names; room = room; inputs = no_inputs } in
    let image : Image = beside shape volumes names room in
    let reading : Reading = record { volumes = volumes; names = names; room = room; control = Idle; fills = λ u. false } in
    let stands = stands_there facts image reading (beside_reads shape volumes names room head are least most long) refl refl labels refl in
    (image, (at_volume shape volumes names room, record { facts = facts; shape_is = refl; names_are = refl; units = stands.0; stands = stands.1 }))

-- ---- runs

module _ (tells : Type 0) (old new : Shown) (ended : Type 0) where
  pub run_stands : RunStands tells old new ended
  run_stands names steps pending tell may all run =
      let before = synced_stands old.shape old.disk.state names may all in
      record { before = before; keeps = run tell before.facts before.shape_is before.units before.settled }

  pub run_ends_settled : RunEndsSettled tells old new ended
  run_ends_settled names steps pending tell may all run over =
      let kept = run_stands names steps pending tell may all run in
      let end = kept.keeps.settled over in
      record { facts = kept.before.facts; shape_is = kept.before.shape_is; names_are = kept.before.names_are; units = end.units; settled = end.settled }
