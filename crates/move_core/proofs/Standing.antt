-- What a stop, an opening and a commit leave of the units that a pool stands for.
use Rattle.std.proofs.Common.{◌≡◌, ◌⊎◌, ⊎_elim, inl, inr, ℕ, ◌+◌, ◌-◌, ◌<◌, ◌≤◌, List, Bool, refl, sym, subst, ◌∙◌, arith}
use Rattle.std.specs.Prelude.{◌==◌, ◌&&◌, nat_le, nat_lt}
use Rattle.std.proofs.lemmas.Bool.{cond_both, and_parts, leb-true}
use Rattle.std.proofs.lemmas.Option.{slice_get_within, slice_get_cases}
use Rattle.dasd_pool.specs.Disk.{Image, Shape, State, MayLeave}
use Rattle.vol_label.specs.declared.serial.Serial.{Serial}
use Rattle.redo_core.specs.declared.control.Control.{Control}
use Rattle.redo_core.specs.declared.control.Control.TheVariants.{Idle, Slide}
use Rattle.redo_core.specs.declared.entries.Entry.{Entry}
use Rattle.redo_core.specs.Format.{directory_in}
use Rattle.redo_core.specs.Reading.{journal_of, with_entries, Reading, Reads, IsLawful, IsRegistration, IsDirectory}
use Rattle.redo_core.specs.Faults.{HasSerial, HasNoSlide}
use Rattle.redo_core.specs.Phases.{ReadsNew, OldOrNew, IsCommitted}
use Rattle.redo_core.specs.Opening.{ReadsSame, IsOpened}
use Rattle.redo_core.proofs.Closed.{closed_by}
use Rattle.redo_core.proofs.Openings.{spared_reads}
use Rattle.volume_model.specs.declared.why.Why.TheVariants as whys
use Rattle.volume_model.specs.Unit.{UnitModel, online, offline}
use Rattle.volume_model.specs.Reads.{IsVital}
use Rattle.volume_model.specs.Sound.{Slots}
use Rattle.move_core.specs.Facts.{Facts}
use Rattle.move_core.specs.Stands.{is_sliding, place_in, IsAfterSlide, Means, RestsOn, Stands, IsSettled}
use Rattle.move_core.specs.Laws.{WillStand, OpensNoSlide}
use Rattle.move_core.proofs.Frames.{unit_moves}

-- a slide, where there is one, goes down
abbrev pub GoesDown : Control → Type 0
GoesDown Idle = Unit {0}
GoesDown (Slide unit from to len done) = to < from

pub lawful_down : (shape : Shape) (control : Control) → IsLawful shape control → GoesDown control
lawful_down shape Idle lawful = tt
lawful_down shape (Slide unit from to len done) lawful = lawful.1

slides_down : (room : ℕ) (control : Control) (found units : List UnitModel) → IsAfterSlide room control found units → GoesDown control
slides_down room Idle found units after = tt
slides_down room (Slide unit from to len done) found units after = after.3.down

pub place_down : (control : Control) → GoesDown control → (u track : ℕ) → place_in control u track ≤ track
place_down Idle down u track = omega arith
place_down (Slide unit from to len done) down u track =
    cond_both ((u == unit) && (nat_le from track && nat_lt track (from + done))) (to + (track - from)) track (λ place. place ≤ track)
    (λ moved.
    let within : from ≤ track = leb-true from track (and_parts (nat_le from track) (nat_lt track (from + done)) (and_parts (u == unit) (nat_le from track && nat_lt track (from + done)) moved).1).0 in
    omega (arith, within, down))
    (λ stays. omega arith)

-- where a slide goes down, blocks on which the meaning doesn't rest may be others
module _ (shape : Shape) (reading : Reading) (down : GoesDown reading.control) (volumes : Image) (units : List UnitModel) (means : Means shape reading units)
    (same : (u b : ℕ) → u < journal_of shape → RestsOn shape reading means.found u b → volumes u b ≡ reading.volumes u b) where
  abbrev pub meaning_kept : Means shape (record reading { volumes = volumes }) units
  meaning_kept = record {
    found = means.found;
    found_are = record {
      count = means.found_are.count;
      each = λ u unit at.
          unit_moves (reading.fills u) (is_sliding reading.control u) (place_in reading.control u) (shape.head u) (shape.blocks u) (reading.volumes u) (volumes u)
          (place_down reading.control down u) unit
          (λ b there vital. same u b (omega (arith, slice_get_within means.found u unit at, means.found_are.count)) (unit, at, there, vital))
          (means.found_are.each u unit at);
    };
    after = means.after;
  }

pub keeps_meaning : (shape : Shape) (reading : Reading) (volumes : Image) (units : List UnitModel) → (means : Means shape reading units)
    → ((u b : ℕ) → u < journal_of shape → RestsOn shape reading means.found u b → volumes u b ≡ reading.volumes u b) → Means shape (record reading { volumes = volumes }) units
keeps_meaning shape reading volumes units means same =
    meaning_kept shape reading (slides_down reading.room reading.control means.found units means.after) volumes units means same

-- track 0 is vital
pub first_vital : (place : ℕ → ℕ) (head : List ℕ) (blocks : ℕ) (slots : Slots) (unit : UnitModel) → IsVital place head blocks slots unit 0
first_vital place head blocks slots (online volume) = inr (inl refl)
first_vital place head blocks slots (offline (whys.Head why) kept) = tt
first_vital place head blocks slots (offline whys.Filling kept) = inl refl
first_vital place head blocks slots (offline (whys.Label why) kept) = tt
first_vital place head blocks slots (offline (whys.Vtoc track number why) kept) = tt

module _ (facts : Facts) (image : Image) (units : List UnitModel) (stands : Stands facts image units) where
  pub stands_down : GoesDown stands.reading.control
  stands_down = lawful_down facts.shape stands.reading.control (subst (IsLawful facts.shape) (sym stands.reads.obeys.control_is) stands.reads.obeys.control.lawful)

  pub first_rests : (u : ℕ) → u < journal_of facts.shape → 0 < facts.shape.blocks u → RestsOn facts.shape stands.reading stands.means.found u 0
  first_rests u less some = ⊎_elim
      (λ here. (here.0, here.2, some, first_vital (place_in stands.reading.control u) (facts.shape.head u) (facts.shape.blocks u) (stands.reading.volumes u) here.0))
      (λ past. absurd (omega (arith, less, past.0, stands.means.found_are.count)))
      (slice_get_cases stands.means.found u).1

  -- another image that reads the same where the meaning rests
  abbrev pub stands_kept : (other volumes : Image) → Reads facts.shape other (record stands.reading { volumes = volumes })
      → ((u b : ℕ) → u < journal_of facts.shape → RestsOn facts.shape stands.reading stands.means.found u b → volumes u b ≡ stands.reading.volumes u b) → Stands facts other units
  stands_kept other volumes reads same = record {
    reading = record stands.reading { volumes = volumes };
    reads = reads;
    names_are = stands.names_are;
    room_is = stands.room_is;
    labels = λ u serial less label. stands.labels u serial less (record {
      device = label.device;
      head = label.head;
      label = subst (λ (slot : List ℕ). HasSerial (record { device = label.device; tracks = facts.shape.blocks u }) slot serial)
          (same u 0 less (first_rests u less (omega (arith, label.head.cylinders.0)))) label.label;
    });
    means = meaning_kept facts.shape stands.reading stands_down volumes units stands.means same;
  }

-- within an opening
pub opening_stands : (facts : Facts) (state : State) (units : List UnitModel) (image : Image)
    → IsSettled facts state units → ReadsSame facts.shape state image → Stands facts image units
opening_stands facts state units image settled same =
    let told = same settled.stands.reading settled.stands.reads in
    stands_kept facts state.contents units settled.stands image told.0 told.1
    (λ u b less rests. told.2 u b less (settled.vital u b less rests))

-- a stop now
pub image_stands : (facts : Facts) (state : State) (units : List UnitModel) (image : Image)
    → IsSettled facts state units → MayLeave state image → Stands facts image units
image_stands facts state units image settled left =
    opening_stands facts state units image settled (spared_reads facts.shape state settled.journal image (λ u b unlisted was. left u b was))

-- after an opening, whatever names were asked for
pub opened_settled : (facts : Facts) (old new : State) (units : List UnitModel) (asked : List Serial) (room : ℕ) (control : Control) (fills : List Bool)
    → Stands facts old.contents units → IsOpened facts.shape old asked room control fills new → IsSettled facts new units
opened_settled facts old new units asked room control fills stands opened = record {
  stands = record {
    reading = stands.reading;
    reads = reads;
    names_are = stands.names_are;
    room_is = stands.room_is;
    labels = stands.labels;
    means = stands.means;
  };
  journal = λ b. opened.all (journal_of facts.shape) b;
  vital = λ u b less rests. inl (opened.all u b);
}
  where
    rooms : room ≡ stands.reading.room
    rooms = sym opened.before.obeys.registration.room_is ∙ stands.reads.obeys.registration.room_is

    same_names : asked ≡ stands.reading.names
    same_names = opened.before.obeys.registration.names_are ∙ sym stands.reads.obeys.registration.names_are

    reads : Reads facts.shape new.contents stands.reading
    reads =
        let was = opened.before in
        let is = opened.after in
        let journal = journal_of facts.shape in
        record {
          obeys = record {
            head = is.obeys.head;
            registration =
                subst (λ (n : List Serial). IsRegistration journal (new.contents journal 0) n stands.reading.room) same_names
                (subst (λ (r : ℕ). IsRegistration journal (new.contents journal 0) asked r) rooms is.obeys.registration);
            body = λ gate. subst (λ (r : ℕ). IsDirectory facts.shape journal r (directory_in (new.contents journal 3))) rooms (is.obeys.body gate);
            control = is.obeys.control;
            control_is = stands.reads.obeys.control_is ∙ sym was.obeys.control_is ∙ is.obeys.control_is;
            fills_are = λ u less. stands.reads.obeys.fills_are u less ∙ sym (was.obeys.fills_are u less) ∙ is.obeys.fills_are u less;
          };
          long = omega (arith, is.long, rooms);
          volumes_are = λ u b less. stands.reads.volumes_are u b less ∙ sym (was.volumes_are u b less) ∙ is.volumes_are u b less;
        }

-- with all entries in place
new_stands : (facts : Facts) (old : State) (before after : List UnitModel) (entries : List Entry) (image : Image)
    → (settled : IsSettled facts old before) → WillStand facts settled.stands.reading entries after → ReadsNew facts.shape old entries image → Stands facts image after
new_stands facts old before after entries image settled will new = record {
  reading = with_entries facts.shape settled.stands.reading entries;
  reads = new settled.stands.reading settled.stands.reads;
  names_are = settled.stands.names_are;
  room_is = settled.stands.room_is;
  labels = will.labels;
  means = will.means;
}

-- within a commit
pub commit_stands : (facts : Facts) (state : State) (before after : List UnitModel) (entries : List Entry) (image : Image)
    → (settled : IsSettled facts state before) → WillStand facts settled.stands.reading entries after
    → OldOrNew facts.shape state entries image → Stands facts image before ⊎ Stands facts image after
commit_stands facts state before after entries image settled will = ⊎_elim
    (λ same. inl (opening_stands facts state before image settled same))
    (λ new. inr (new_stands facts state before after entries image settled will new))

-- after a commit
pub committed_settled : (facts : Facts) (old new : State) (before after : List UnitModel) (entries : List Entry)
    → (settled : IsSettled facts old before) → WillStand facts settled.stands.reading entries after → IsCommitted facts.shape old entries new → IsSettled facts new after
committed_settled facts old new before after entries settled will committed = record {
  stands = new_stands facts old before after entries new.contents settled will committed.reads;
  journal = λ b. committed.all (journal_of facts.shape) b;
  vital = λ u b less rests. inl (committed.all u b);
}

-- ---- no slide is open

-- where an image reads as a settled pool did, none is that wasn't
pub same_closed : (facts : Facts) (state : State) (units : List UnitModel) (image : Image)
    → IsSettled facts state units → ReadsSame facts.shape state image → HasNoSlide facts.shape state.contents → HasNoSlide facts.shape image
same_closed facts state units image settled same closed =
    let told = same settled.stands.reading settled.stands.reads in
    closed_by facts.shape image (record settled.stands.reading { volumes = told.0 }) told.1 (closed settled.stands.reading settled.stands.reads)

-- a stop now
pub image_closed : (facts : Facts) (state : State) (units : List UnitModel) (image : Image)
    → IsSettled facts state units → MayLeave state image → HasNoSlide facts.shape state.contents → HasNoSlide facts.shape image
image_closed facts state units image settled left =
    same_closed facts state units image settled (spared_reads facts.shape state settled.journal image (λ u b unlisted was. left u b was))

-- within a commit that opens none
pub commit_closed : (facts : Facts) (state : State) (before : List UnitModel) (entries : List Entry) (image : Image)
    → (settled : IsSettled facts state before) → OpensNoSlide facts.shape settled.stands.reading entries
    → OldOrNew facts.shape state entries image → HasNoSlide facts.shape state.contents → HasNoSlide facts.shape image
commit_closed facts state before entries image settled opens_none either closed = ⊎_elim
    (λ same. same_closed facts state before image settled same closed)
    (λ new.
    closed_by facts.shape image (with_entries facts.shape settled.stands.reading entries) (new settled.stands.reading settled.stands.reads)
    (opens_none (closed settled.stands.reading settled.stands.reads)))
    either
