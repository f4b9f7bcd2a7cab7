-- From what the blocks hold to what they read as.
use Rattle.std.proofs.Common.{◌≡◌, ⊎_elim, inl, inr, sym, ℕ, ◌<◌, ◌≤◌, ◌+◌, List, length, Bool, true, false, refl, ◌∙◌, ap, subst, arith}
use Rattle.std.specs.Prelude.{◌==◌, nat_lt, ◌≢◌, All, AllPairs}
use Rattle.std.proofs.lemmas.Bool.{both_ways, lt-ltb, eq-eqb, or_left, or_right, and_from}
use Rattle.std.proofs.lemmas.List.Elements.{All-weaker, All-map}
use Rattle.dasd_pool.specs.Disk.{Image, Shape, State, Disk, LeavesOnly, Touches, Runs, is_at}
use Rattle.dasd_pool.proofs.Moments.{weaken}
use Rattle.redo_core.specs.declared.control.Control.{Control}
use Rattle.redo_core.specs.declared.entries.Entry.{Entry}
use Rattle.redo_core.specs.declared.target.Target.{Target}
use Rattle.redo_core.specs.Format.{is_open, control_in, is_filling, room_in, directory_in}
use Rattle.redo_core.specs.Reading.{journal_of, is_place, placed, overlay, control_block, fills_of, Reading, Reads, IsRegistration, IsControl, IsTarget, IsDirectory}
use Rattle.redo_core.specs.Phases.{targets, of_commit, MayGo, ReadsNew, OldOrNew, IsCommitted, IsAtRest, IsStatusAfter}
use Rattle.redo_core.specs.Opening.{IsSure, ReadsSame}
use Rattle.redo_core.specs.Steps.{HoldsOld, HoldsNew, HoldsEither, IsShut, IsDone, IsPlaced}
use Rattle.redo_core.proofs.Crash.{closed_overlay, placed_agree, other_unit}
use Rattle.redo_core.proofs.Transitions.{length-targets}
use Rattle.redo_core.proofs.CommitMoments.{each_image}
use Rattle.redo_core.proofs.Controls.{control_placed, fills_placed, lawful_placed}

module _ (shape : Shape) where
  abbrev journal : ℕ
  journal = journal_of shape

  pub place_volume : (u b : ℕ) → u < journal_of shape → is_place (journal_of shape) u b ≡ true
  place_volume u b less = or_left (nat_lt u journal) (is_at journal 2 u b) (lt-ltb u journal less)

  pub place_control : is_place (journal_of shape) (journal_of shape) 2 ≡ true
  place_control = or_right (nat_lt journal journal) (is_at journal 2 journal 2) (and_from (journal == journal) (2 == 2) (eq-eqb journal journal refl) refl)

  pub all_placed : (entries : List Entry) → All (MayGo shape) entries → All (IsPlaced shape (journal_of shape)) entries
  all_placed entries each = All-weaker (MayGo shape) (IsPlaced shape journal) (λ entry is. record { place = is.place; there = is.there; slot = is.slot }) entries each

  targets_there : (entries : List Entry) → All (MayGo shape) entries → All (IsTarget shape journal) (targets entries)
  targets_there entries each =
      All-map (IsTarget shape journal) (λ entry. record { unit = entry.unit; block = entry.block }) entries
      (All-weaker (MayGo shape) (λ entry. IsTarget shape journal (record { unit = entry.unit; block = entry.block })) (λ entry is. record { place = is.place; there = is.there }) entries each)

  -- an image with the same registration and control, and a lawful body where the gate is open
  pub reads_as : (old image : Image) (before : Reading) (volumes : Image) → Reads shape old before → image (journal_of shape) 0 ≡ old (journal_of shape) 0
      → (is_open (image (journal_of shape) 1) ≡ true → IsDirectory shape (journal_of shape) before.room (directory_in (image (journal_of shape) 3)))
      → control_block shape image ≡ control_block shape old → ((u b : ℕ) → u < journal_of shape → volumes u b ≡ overlay shape.block_size (journal_of shape) image u b)
      → Reads shape image (record before { volumes = volumes })
  reads_as old image before volumes reads first body control are = record {
    obeys = record {
      head = reads.obeys.head;
      registration = subst (λ (block : List ℕ). IsRegistration journal block before.names before.room) (sym first) reads.obeys.registration;
      body = body;
      control = subst (λ (block : List ℕ). IsControl shape block) (sym control) reads.obeys.control;
      control_is = reads.obeys.control_is ∙ ap control_in (sym control);
      fills_are = λ u less. reads.obeys.fills_are u less ∙ ap (λ (block : List ℕ). is_filling block u) (sym control);
    };
    long = reads.long;
    volumes_are = are;
  }

  module _ (old : State) (shut : IsShut (journal_of shape) old) where
    shown : (u b : ℕ) → overlay shape.block_size journal old.contents u b ≡ old.contents u b
    shown u b = closed_overlay shape.block_size journal old.contents shut.closed u b

    -- behind a closed gate only what was synced is sure
    sure_synced : (u b : ℕ) → IsSure shape old u b → old.synced u b ≡ true
    sure_synced u b = ⊎_elim (λ was. was) (λ behind. absurd (both_ways (is_open (old.contents journal 1)) shut.closed behind.0))

    pub old_reads : (image : Image) → HoldsOld shape.block_size (journal_of shape) old image → ReadsSame shape old image
    old_reads image holds before reads = (
      overlay shape.block_size journal image,
      reads_as old.contents image before (overlay shape.block_size journal image) reads holds.registration
          (λ opened. absurd (both_ways (is_open (image journal 1)) holds.closed opened))
          (holds.places journal 2 place_control (shut.synced 2) ∙ sym (shown journal 2))
          (λ u b less. refl),
      λ u b less sure. holds.places u b (place_volume u b less) (sure_synced u b sure) ∙ sym (shown u b) ∙ sym (reads.volumes_are u b less),
    )

    module _ (entries : List Entry) (each : All (MayGo shape) entries) (apart : AllPairs (λ one other. one ≢ other) (targets entries)) (few : length entries ≤ room_in (old.contents (journal_of shape) 0)) where
      pub new_reads : (image : Image) → HoldsNew shape.block_size (journal_of shape) old entries image → ReadsNew shape old entries image
      new_reads image holds before reads =
          let block : control_block shape image ≡ placed old.contents entries journal 2 = holds.places journal 2 place_control in
          let room : room_in (old.contents journal 0) ≡ before.room = reads.obeys.registration.room_is in
          record {
            obeys = record {
              head = reads.obeys.head;
              registration = subst (λ (first : List ℕ). IsRegistration journal first before.names before.room) (sym holds.registration) reads.obeys.registration;
              body = λ opened.
                  let body = holds.body opened in
                  subst (λ (list : List Target). IsDirectory shape journal before.room list) (sym body.0)
                  (record { some = omega (arith, body.1, length-targets entries); few = omega (arith, few, room, length-targets entries); there = targets_there entries each; apart = apart });
              control = subst (λ (b : List ℕ). IsControl shape b) (sym block)
                  (lawful_placed shape entries old.contents each (subst (λ (b : List ℕ). IsControl shape b) (shown journal 2) reads.obeys.control));
              control_is = control_placed journal entries old.contents before.control (reads.obeys.control_is ∙ ap control_in (shown journal 2)) ∙ ap control_in (sym block);
              fills_are = λ u less.
                  fills_placed journal entries old.contents before.fills u (reads.obeys.fills_are u less ∙ ap (λ (b : List ℕ). is_filling b u) (shown journal 2))
                  ∙ ap (λ (b : List ℕ). is_filling b u) (sym block);
            };
            long = reads.long;
            volumes_are = λ u b less.
                placed_agree entries before.volumes old.contents u b (λ none. reads.volumes_are u b less ∙ shown u b)
                ∙ sym (holds.places u b (place_volume u b less));
          }

      pub either_read : (image : Image) → HoldsEither shape.block_size (journal_of shape) old entries image → OldOrNew shape old entries image
      either_read image = ⊎_elim (λ before. inl (old_reads image before)) (λ after. inr (new_reads image after))

      done_holds : (new : State) → IsDone journal old entries new → HoldsNew shape.block_size journal old entries new.contents
      done_holds new done = record {
        registration = done.registration;
        body = λ opened. absurd (both_ways (is_open (new.contents journal 1)) done.closed opened);
        places = λ u b within. closed_overlay shape.block_size journal new.contents done.closed u b ∙ done.places u b within;
      }

      pub is_committed : (new : State) → IsDone (journal_of shape) old entries new → IsCommitted shape old entries new
      is_committed new done = record {
        all = done.all;
        reads = new_reads new.contents (done_holds new done);
        control = done.places journal 2 place_control;
      }

      pub at_rest : (room : ℕ) (control after : Control) (fills later : List Bool) (new : State) → IsDone (journal_of shape) old entries new → IsAtRest shape old room control fills
          → IsStatusAfter shape entries control fills after later → IsAtRest shape new room after later
      at_rest room control after fills later new done rest status =
          let reads = new_reads new.contents (done_holds new done) (record { volumes = old.contents; names = rest.names; room = room; control = control; fills = fills_of fills }) rest.reads in
          record {
            closed = done.closed;
            synced = λ b. done.all journal b;
            names = rest.names;
            reads = record {
              obeys = record {
                head = reads.obeys.head;
                registration = reads.obeys.registration;
                body = reads.obeys.body;
                control = reads.obeys.control;
                control_is = status.control_is ∙ reads.obeys.control_is;
                fills_are = λ u less. status.fills_are u less ∙ reads.obeys.fills_are u less;
              };
              long = reads.long;
              volumes_are = λ u b less. sym (closed_overlay shape.block_size journal new.contents done.closed u b);
            };
          }

-- a write to a volume leaves the journal at rest
pub rest_written : (shape : Shape) (old new : State) (room : ℕ) (control : Control) (fills : List Bool) (unit block : ℕ) → unit < journal_of shape → Touches (is_at unit block) old new
    → IsAtRest shape old room control fills → IsAtRest shape new room control fills
rest_written shape old new room control fills unit block less touches rest =
    let j = journal_of shape in
    let apart : (b : ℕ) → is_at unit block j b ≡ false = λ b. other_unit unit block j b (λ same. omega (arith, less)) in
    let same : (b : ℕ) → new.contents j b ≡ old.contents j b = λ b. touches.contents j b (apart b) in
    let closed : is_open (new.contents j 1) ≡ false = ap is_open (same 1) ∙ rest.closed in
    record {
      closed = closed;
      synced = λ b. touches.synced j b (apart b) (rest.synced b);
      names = rest.names;
      reads = reads_as shape old.contents new.contents (record { volumes = old.contents; names = rest.names; room = room; control = control; fills = fills_of fills }) new.contents rest.reads (same 0)
          (λ opened. absurd (both_ways (is_open (new.contents j 1)) closed opened))
          (closed_overlay shape.block_size j new.contents closed j 2 ∙ same 2 ∙ sym (closed_overlay shape.block_size j old.contents rest.closed j 2))
          (λ u b within. sym (closed_overlay shape.block_size j new.contents closed u b));
    }

-- the same, by the journal's number
module _ (shape : Shape) (unit : ℕ) (last : unit + 1 ≡ shape.units) (entries : List Entry) (each : All (MayGo shape) entries) (apart : AllPairs (λ one other. one ≢ other) (targets entries)) where
  last_unit : journal_of shape ≡ unit
  last_unit = omega (arith, last)

  pub all_placed_at : All (IsPlaced shape unit) entries
  all_placed_at = subst (λ (j : ℕ). All (IsPlaced shape j) entries) last_unit (all_placed shape entries each)

  either_at : (old : State) → IsShut unit old → length entries ≤ room_in (old.contents unit 0) → (image : Image) → HoldsEither shape.block_size unit old entries image → OldOrNew shape old entries image
  either_at old = subst (λ (j : ℕ). IsShut j old → length entries ≤ room_in (old.contents j 0) → (image : Image) → HoldsEither shape.block_size j old entries image → OldOrNew shape old entries image) last_unit
      (λ shut few. either_read shape old shut entries each apart few)

  pub moments_read : (old new : Disk) → IsShut unit old.state → length entries ≤ room_in (old.state.contents unit 0) → LeavesOnly old new (HoldsEither shape.block_size unit old.state entries)
      → LeavesOnly old new (OldOrNew shape old.state entries)
  moments_read old new shut few run = weaken old new (HoldsEither shape.block_size unit old.state entries) (OldOrNew shape old.state entries) (either_at old.state shut few) run

  pub reads_since : (old new : Disk) → IsShut unit old.state → length entries ≤ room_in (old.state.contents unit 0) → LeavesOnly old new (HoldsEither shape.block_size unit old.state entries)
      → (image : Image) → new.left_since old.moment image → OldOrNew shape old.state entries image
  reads_since old new shut few run image left = either_at old.state shut few image (each_image shape.block_size unit entries old new shut run image left)

  pub committed_at : (old new : State) → IsShut unit old → length entries ≤ room_in (old.contents unit 0) → IsDone unit old entries new → IsCommitted shape old entries new
  committed_at old new = subst (λ (j : ℕ). IsShut j old → length entries ≤ room_in (old.contents j 0) → IsDone j old entries new → IsCommitted shape old entries new) last_unit
      (λ shut few. is_committed shape old shut entries each apart few new)

  pub rest_at : (old new : State) → IsShut unit old → length entries ≤ room_in (old.contents unit 0) → IsDone unit old entries new → (room : ℕ) (control after : Control) (fills later : List Bool)
      → IsAtRest shape old room control fills → IsStatusAfter shape entries control fills after later → IsAtRest shape new room after later
  rest_at old new = subst (λ (j : ℕ). IsShut j old → length entries ≤ room_in (old.contents j 0) → IsDone j old entries new → (room : ℕ) (control after : Control) (fills later : List Bool)
      → IsAtRest shape old room control fills → IsStatusAfter shape entries control fills after later → IsAtRest shape new room after later) last_unit
      (λ shut few done room control after fills later. at_rest shape old shut entries each apart few room control after fills later new done)

  pub runs_at : (old new : Disk) → Runs (of_commit unit entries) old new → Runs (of_commit (journal_of shape) entries) old new
  runs_at old new = subst (λ (j : ℕ). Runs (of_commit j entries) old new) (sym last_unit)
