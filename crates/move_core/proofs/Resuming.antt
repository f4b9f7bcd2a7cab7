-- What leads into a run and out of it.
use Rattle.std.proofs.Common.{◌≡◌, inl, inr, ℕ, ◌<◌, List, [], refl, sym, subst, ap, ◌∙◌, arith}
use Rattle.std.proofs.lemmas.Bool.{cases_Bool, both_ways}
use Rattle.dasd_pool.specs.Disk.{Image, Shape, State, IsSynced}
use Rattle.redo_core.specs.Format.{is_open, directory_in, control_in, is_filling}
use Rattle.redo_core.specs.Reading.{journal_of, overlay, control_block, Reading, Obeys, IsRegistration, IsDirectory, IsControl}
use Rattle.redo_core.specs.Opening.{IsFormatted}
use Rattle.redo_core.specs.Faults.{zeroed, HasSerial, LabelsAre, HasNoSlide, MayFormat, MayOpen}
use Rattle.redo_core.proofs.Openings.{zeroed_there, overlay_there}
use Rattle.volume_model.specs.Unit.{UnitModel}
use Rattle.move_core.specs.Facts.{Facts, Inputs}
use Rattle.move_core.specs.Stands.{Means, Stands, IsSettled}
use Rattle.move_core.specs.Resuming.{new_reading}

pub formatted_settled : (facts : Facts) (old new : State) (units : List UnitModel) → MayFormat facts.shape old.contents facts.names facts.room → IsFormatted facts.shape old facts.names facts.room new
    → Means facts.shape (new_reading old.contents facts.names facts.room) units → IsSettled facts new units
formatted_settled facts old new units allowed formatted means = record {
  stands = record {
    reading = new_reading old.contents facts.names facts.room;
    reads = formatted.reads;
    names_are = refl;
    room_is = refl;
    labels = allowed.labels;
    means = means;
  };
  journal = λ b. formatted.all (journal_of facts.shape) b;
  vital = λ u b less rests. inl (formatted.all u b);
}

pub synced_settled : (facts : Facts) (state : State) (units : List UnitModel) → IsSynced state → Stands facts state.contents units → IsSettled facts state units
synced_settled facts state units all stands = record { stands = stands; journal = λ b. all (journal_of facts.shape) b; vital = λ u b less rests. inl (all u b) }

-- whatever the inputs hold
pub settled_with : {facts : Facts} {state : State} {units : List UnitModel} (inputs : Inputs) → IsSettled facts state units → IsSettled (record facts { inputs = inputs }) state units
settled_with {facts} {state} {units} inputs settled = record {
  stands =
      let stands = settled.stands in
      record {
        reading = stands.reading;
        reads = stands.reads;
        names_are = stands.names_are;
        room_is = stands.room_is;
        labels = stands.labels;
        means = stands.means;
      };
  journal = settled.journal;
  vital = settled.vital;
}

-- ---- no rule is broken

module _ (facts : Facts) (image : Image) (units : List UnitModel) (stands : Stands facts image units) where
  abbrev shape : Shape
  shape = facts.shape

  abbrev j : ℕ
  j = journal_of shape

  abbrev r : Reading
  r = stands.reading

  there : (b : ℕ) → b < 4 → zeroed shape image j b ≡ image j b
  there b less = zeroed_there shape image j b (omega (arith, less, stands.reads.long))

  same_control : control_block shape (zeroed shape image) ≡ control_block shape image
  same_control = elim (cases_Bool (is_open (image j 1))) [
    | inl opened ↦
        let body = stands.reads.obeys.body opened in
        overlay_there shape image r.room (directory_in (image j 3)) stands.reads.long body.few
        (record {
          closed = λ closed. absurd (both_ways (is_open (zeroed shape image j 1)) closed (ap is_open (there 1 (omega arith)) ∙ opened));
          «open» = λ so. (ap directory_in (there 3 (omega arith)), body.some);
        }) j 2 (there 2 (omega arith))
    | inr closed ↦
        overlay_there shape image r.room [] stands.reads.long (omega arith)
        (record {
          closed = λ so. refl;
          «open» = λ opened. absurd (both_ways (is_open (zeroed shape image j 1)) (ap is_open (there 1 (omega arith)) ∙ closed) opened);
        }) j 2 (there 2 (omega arith))
  ]

  pub zeroed_obeys : Obeys shape (zeroed shape image) stands.reading
  zeroed_obeys = record {
    head = stands.reads.obeys.head;
    registration = subst (λ (block : List ℕ). IsRegistration (journal_of shape) block r.names r.room) (sym (there 0 (omega arith))) stands.reads.obeys.registration;
    body = λ opened.
        subst (λ (block : List ℕ). IsDirectory shape (journal_of shape) r.room (directory_in block)) (sym (there 3 (omega arith)))
        (stands.reads.obeys.body (ap is_open (sym (there 1 (omega arith))) ∙ opened));
    control = subst (λ (block : List ℕ). IsControl shape block) (sym same_control) stands.reads.obeys.control;
    control_is = stands.reads.obeys.control_is ∙ ap control_in (sym same_control);
    fills_are = λ u less. stands.reads.obeys.fills_are u less ∙ ap (λ (block : List ℕ). is_filling block u) (sym same_control);
  }

  -- the labels are read where the volumes are
  labels_stand : LabelsAre shape (overlay shape.block_size (journal_of shape) image) facts.names (journal_of shape)
  labels_stand unit serial less has =
      let same : r.volumes unit 0 ≡ overlay shape.block_size j image unit 0 = stands.reads.volumes_are unit 0 less in
      stands.labels unit serial less (record {
        device = has.device;
        head = has.head;
        label = subst (λ (slot : List ℕ). HasSerial (record { device = has.device; tracks = shape.blocks unit }) slot serial) (sym same) has.label;
      })

  pub standing_may_open : HasNoSlide facts.shape image → MayOpen facts.shape image facts.names
  standing_may_open closed = record {
    reading = stands.reading;
    idle = record { obeys = zeroed_obeys; idle = closed stands.reading stands.reads };
    long = stands.reads.long;
    names_are = stands.names_are;
    labels = labels_stand;
  }
