-- What an opening reads, and what it keeps at each moment.
use Rattle.std.proofs.Common.{◌≡◌, ⊎_elim, inl, inr, ℕ, ◌+◌, ◌<◌, ◌≤◌, List, length, Bool, true, false, refl, sym, ◌∙◌, ap, subst, arith}
use Rattle.std.specs.Prelude.{◌==◌, nat_le, replicate, if◌then◌else◌}
use Rattle.std.proofs.lemmas.Bool.{and_left, and_right, cases_Bool, both_ways, lt-leb, ne_eqb}
use Rattle.dasd_pool.specs.Disk.{Image, Shape, State, Disk, LeavesOnly, Runs, Spares, IsSynced, none}
use Rattle.dasd_pool.proofs.Moments.{and_then, weaken}
use Rattle.vol_label.specs.declared.serial.Serial.{Serial}
use Rattle.redo_core.specs.declared.control.Control.{Control}
use Rattle.redo_core.specs.declared.entries.Entry.{Entry}
use Rattle.redo_core.specs.declared.target.Target.{Target}
use Rattle.redo_core.specs.Format.{is_open, control_in, is_filling, directory_in}
use Rattle.redo_core.specs.Reading.{journal_of, among, overlay, placed, body_for, control_block, fills_of, Reading, Reads, Obeys, IsRegistration, IsControl, IsDirectory}
use Rattle.redo_core.specs.Phases.{IsAtRest}
use Rattle.redo_core.specs.Steps.{HasTargets, HoldsNew, HoldsSame, IsDone, IsRedone}
use Rattle.redo_core.specs.Opening.{IsJournalSynced, IsSure, IsOpened, ReadsSame}
use Rattle.redo_core.specs.Faults.{zeroed}
use Rattle.redo_core.proofs.Crash.{images_same, closed_overlay, placed_agree}
use Rattle.redo_core.proofs.Transitions.{images_below}
use Rattle.redo_core.proofs.Redoing.{overlay_has, targets_from}
use Rattle.redo_core.proofs.Readings.{place_control, place_volume, reads_as}

-- a block that is there
pub zeroed_there : (shape : Shape) (image : Image) (u b : ℕ) → b < shape.blocks u → zeroed shape image u b ≡ image u b
zeroed_there shape image u b there =
    ap (λ (t : Bool). if t then replicate (shape.block_size u) 0 else image u b) (and_right (u == journal_of shape) (nat_le (shape.blocks u) b) (lt-leb (shape.blocks u) b there))

-- a block of a volume
pub zeroed_volume : (shape : Shape) (image : Image) (u b : ℕ) → u < journal_of shape → zeroed shape image u b ≡ image u b
zeroed_volume shape image u b less =
    ap (λ (t : Bool). if t then replicate (shape.block_size u) 0 else image u b) (and_left (u == journal_of shape) (nat_le (shape.blocks u) b) (ne_eqb u (journal_of shape) (λ same. omega (arith, less, same))))

-- where the journal has all its blocks, it says what it says with zeros past its end
module _ (shape : Shape) (image : Image) (room : ℕ) (list : List Target) (long : 4 + room ≤ shape.blocks (journal_of shape)) (few : length list ≤ room) (has : HasTargets (journal_of shape) (zeroed shape image) list) where
  abbrev journal : ℕ
  journal = journal_of shape

  block_there : (b : ℕ) → b < 4 + room → zeroed shape image journal b ≡ image journal b
  block_there b less = zeroed_there shape image journal b (omega (arith, long, less))

  pub targets_there : HasTargets (journal_of shape) image list
  targets_there = record {
    closed = λ closed. has.closed (ap is_open (block_there 1 (omega arith)) ∙ closed);
    «open» = λ opened.
        let is = has.«open» (ap is_open (block_there 1 (omega arith)) ∙ opened) in
        (ap directory_in (sym (block_there 3 (omega arith))) ∙ is.0, is.1);
  }

  same_body : body_for shape.block_size journal (zeroed shape image) list ≡ body_for shape.block_size journal image list
  same_body = images_below shape.block_size journal image (zeroed shape image) list 4 (λ b less. block_there b (omega (arith, less, few)))

  pub overlay_there : (u b : ℕ) → zeroed shape image u b ≡ image u b → overlay shape.block_size (journal_of shape) (zeroed shape image) u b ≡ overlay shape.block_size (journal_of shape) image u b
  overlay_there u b same =
      overlay_has shape.block_size journal (zeroed shape image) list has u b
      ∙ ap (λ (l : List Entry). placed (zeroed shape image) l u b) same_body
      ∙ placed_agree (body_for shape.block_size journal image list) (zeroed shape image) image u b (λ none. same)
      ∙ sym (overlay_has shape.block_size journal image list targets_there u b)

  pub idle_reads : (reading : Reading) → reading.room ≡ room → Obeys shape (zeroed shape image) reading → Reads shape image (record reading { volumes = overlay shape.block_size (journal_of shape) image })
  idle_reads reading is obeys =
      let control : control_block shape (zeroed shape image) ≡ control_block shape image = overlay_there journal 2 (block_there 2 (omega arith)) in
      record {
        obeys = record {
          head = obeys.head;
          registration = subst (λ (block : List ℕ). IsRegistration journal block reading.names reading.room) (block_there 0 (omega arith)) obeys.registration;
          body = λ opened. subst (λ (block : List ℕ). IsDirectory shape journal reading.room (directory_in block)) (block_there 3 (omega arith)) (obeys.body (ap is_open (block_there 1 (omega arith)) ∙ opened));
          control = subst (λ (block : List ℕ). IsControl shape block) control obeys.control;
          control_is = obeys.control_is ∙ ap control_in control;
          fills_are = λ u less. obeys.fills_are u less ∙ ap (λ (block : List ℕ). is_filling block u) control;
        };
        long = omega (arith, long, is);
        volumes_are = λ u b less. refl;
      }

-- an open body has these targets
pub opened_by : (journal : ℕ) (image : Image) (list : List Target) → HasTargets journal image list → 1 ≤ length list → (is_open (image journal 1) ≡ true) × (directory_in (image journal 3) ≡ list)
opened_by journal image list has some = elim (cases_Bool (is_open (image journal 1))) [
  | inl opened ↦ (opened, (has.«open» opened).0)
  | inr closed ↦ absurd (omega (arith, some, ap length (has.closed closed)))
]

-- with no targets the gate is closed
pub closed_by : (journal : ℕ) (image : Image) (list : List Target) → HasTargets journal image list → length list ≡ 0 → is_open (image journal 1) ≡ false
closed_by journal image list has empty = elim (cases_Bool (is_open (image journal 1))) [
  | inl opened ↦ absurd (omega (arith, empty, (has.«open» opened).1))
  | inr closed ↦ closed
]

module _ (size : ℕ → ℕ) (journal : ℕ) (old : State) (list : List Target) (has : HasTargets journal old.contents list) where
  -- at each moment of a redo
  pub holds_same : 1 ≤ length list → (image : Image) → HoldsNew size journal old (body_for size journal old.contents list) image → HoldsSame size journal old.contents image
  holds_same some image holds =
      let is = opened_by journal old.contents list has some in
      record {
        registration = holds.registration;
        body = λ opened. (is.0, (holds.body opened).0 ∙ targets_from size journal old.contents list 4 ∙ sym is.1);
        places = λ u b within. holds.places u b within ∙ sym (overlay_has size journal old.contents list has u b);
      }

  pub is_redone : (new : State) → IsDone journal old (body_for size journal old.contents list) new → IsRedone size journal old.contents new
  is_redone new done = record {
    all = done.all;
    closed = done.closed;
    registration = done.registration;
    places = λ u b within. done.places u b within ∙ sym (overlay_has size journal old.contents list has u b);
  }

  -- with nothing to redo
  pub none_redone : length list ≡ 0 → IsSynced old → IsRedone size journal old.contents old
  none_redone empty all =
      let closed : is_open (old.contents journal 1) ≡ false = closed_by journal old.contents list has empty in
      record { all = all; closed = closed; registration = refl; places = λ u b within. sym (closed_overlay size journal old.contents closed u b) }

-- what has the same registration and blocks reads the same
module _ (shape : Shape) (old : State) where
  pub same_reads : (image : Image) → HoldsSame shape.block_size (journal_of shape) old.contents image → ReadsSame shape old image
  same_reads image holds before reads =
      let j = journal_of shape in (
        overlay shape.block_size j image,
        reads_as shape old.contents image before (overlay shape.block_size j image) reads holds.registration
            (λ opened. let is = holds.body opened in subst (λ (l : List Target). IsDirectory shape j before.room l) (sym is.1) (reads.obeys.body is.0))
            (holds.places j 2 (place_control shape))
            (λ u b less. refl),
        λ u b less sure. holds.places u b (place_volume shape u b less) ∙ sym (reads.volumes_are u b less),
      )

  -- while blocks are only read
  pub spared_reads : IsJournalSynced shape old → (image : Image) → Spares none old image → ReadsSame shape old image
  spared_reads synced image spares before reads =
      let j = journal_of shape in
      let same : (b : ℕ) → image j b ≡ old.contents j b = λ b. spares j b refl (synced b) in (
        overlay shape.block_size j image,
        reads_as shape old.contents image before (overlay shape.block_size j image) reads (same 0)
            (λ opened. subst (λ (block : List ℕ). IsDirectory shape j before.room (directory_in block)) (sym (same 3)) (reads.obeys.body (ap is_open (sym (same 1)) ∙ opened)))
            (agree same j 2 (inl (synced 2)))
            (λ u b less. refl),
        λ u b less sure. agree same u b sure ∙ sym (reads.volumes_are u b less),
      )
    where
      agree : ((b : ℕ) → image (journal_of shape) b ≡ old.contents (journal_of shape) b) → (u b : ℕ) → IsSure shape old u b
          → overlay shape.block_size (journal_of shape) image u b ≡ overlay shape.block_size (journal_of shape) old.contents u b
      agree same u b sure =
          let j = journal_of shape in
          let list = directory_in (old.contents j 3) in
          let gate : is_open (image j 1) ≡ is_open (old.contents j 1) = ap is_open (same 1) in
          let bodies : body_for shape.block_size j image (directory_in (image j 3)) ≡ body_for shape.block_size j old.contents list =
          ap (λ (block : List ℕ). body_for shape.block_size j image (directory_in block)) (same 3) ∙ images_same shape.block_size j old.contents image list 4 (λ c high. same c) in
          elim (cases_Bool (is_open (old.contents j 1))) [
            | inl opened ↦
                ap (λ (t : Bool). if t then placed image (body_for shape.block_size j image (directory_in (image j 3))) u b else image u b) (gate ∙ opened)
                ∙ ap (λ (l : List Entry). placed image l u b) bodies
                ∙ placed_agree (body_for shape.block_size j old.contents list) image old.contents u b
                (λ none. ⊎_elim (λ was. spares u b refl was) (λ replaced. absurd (both_ways (among list u b) (ap (λ (l : List Target). among l u b) (sym (targets_from shape.block_size j old.contents list 4)) ∙ none) replaced.1)) sure)
                ∙ sym (ap (λ (t : Bool). if t then placed old.contents (body_for shape.block_size j old.contents list) u b else old.contents u b) opened)
            | inr closed ↦
                closed_overlay shape.block_size j image (gate ∙ closed) u b
                ∙ ⊎_elim (λ was. spares u b refl was) (λ replaced. absurd (both_ways (is_open (old.contents j 1)) closed replaced.0)) sure
                ∙ sym (closed_overlay shape.block_size j old.contents closed u b)
          ]

-- Only reads, and a sync: they leave nothing that could not have been left before.
pub look_moments : (old new : Disk) (P : Image → Type 0) → Runs none old new → LeavesOnly old new P
look_moments old new P run = record {
  later = run.leaves.later;
  each = λ since image before left.
      ⊎_elim inl (λ spares. inl (old.counts_now since image before (λ u b was. spares u b refl was))) (run.leaves.each since image before left);
  goes_on = run.leaves.goes_on;
  keeps = run.leaves.keeps;
}

-- and then a redo
pub open_moments : (shape : Shape) (journal : ℕ) (old mid new : Disk) → journal_of shape ≡ journal → Runs none old mid
    → LeavesOnly mid new (HoldsSame shape.block_size journal mid.state.contents) → LeavesOnly old new (ReadsSame shape old.state)
open_moments shape journal old mid new unit run redo =
    let same : mid.state.contents ≡ old.state.contents = λ i u b. run.touches.contents u b refl i in
    and_then old mid new (ReadsSame shape old.state) (look_moments old mid (ReadsSame shape old.state) run)
    (weaken mid new (HoldsSame shape.block_size journal mid.state.contents) (ReadsSame shape old.state)
    (λ image holds. same_reads shape old.state image
    (subst (λ (j : ℕ). HoldsSame shape.block_size j old.state.contents image) (sym unit) (subst (λ (x : Image). HoldsSame shape.block_size journal x image) same holds)))
    redo)

module _ (shape : Shape) (old new : State) (names : List Serial) (room : ℕ) (control : Control) (fills : List Bool)
    (reads : Reads shape old.contents (record { volumes = overlay shape.block_size (journal_of shape) old.contents; names = names; room = room; control = control; fills = fills_of fills })) (done : IsRedone shape.block_size (journal_of shape) old.contents new) where
  abbrev before : Reading
  before = record { volumes = overlay shape.block_size (journal_of shape) old.contents; names = names; room = room; control = control; fills = fills_of fills }

  shown : (u b : ℕ) → overlay shape.block_size (journal_of shape) new.contents u b ≡ new.contents u b
  shown u b = closed_overlay shape.block_size (journal_of shape) new.contents done.closed u b

  again : (volumes : Image) → ((u b : ℕ) → u < journal_of shape → volumes u b ≡ overlay shape.block_size (journal_of shape) new.contents u b) → Reads shape new.contents (record before { volumes = volumes })
  again volumes are = reads_as shape old.contents new.contents before volumes reads done.registration
      (λ opened. absurd (both_ways (is_open (new.contents (journal_of shape) 1)) done.closed opened))
      (shown (journal_of shape) 2 ∙ done.places (journal_of shape) 2 (place_control shape)) are

  pub opened_well : IsOpened shape old names room control fills new
  opened_well = record {
    all = done.all;
    block = done.places (journal_of shape) 2 (place_control shape);
    volumes = overlay shape.block_size (journal_of shape) old.contents;
    before = reads;
    after = again (overlay shape.block_size (journal_of shape) old.contents) (λ u b less. sym (done.places u b (place_volume shape u b less)) ∙ sym (shown u b));
  }

  pub rests_well : IsAtRest shape new room control fills
  rests_well = record {
    closed = done.closed;
    synced = λ b. done.all (journal_of shape) b;
    names = names;
    reads = again new.contents (λ u b less. sym (shown u b));
  }

-- what a redo did, of the same pool
pub redone_at : (shape other : Shape) (journal : ℕ) (was old : Image) (new : State) → other ≡ shape → journal_of shape ≡ journal → was ≡ old → IsRedone other.block_size journal was new → IsRedone shape.block_size (journal_of shape) old new
redone_at shape other journal was old new one_shape unit same done =
    subst (λ (x : Image). IsRedone shape.block_size (journal_of shape) x new) same
    (subst (λ (j : ℕ). IsRedone shape.block_size j was new) (sym unit) (subst (λ (s : Shape). IsRedone s.block_size journal was new) one_shape done))
