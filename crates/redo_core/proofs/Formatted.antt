-- What a format leaves: the blocks read as it promises, and the volumes are spared.
use Rattle.std.proofs.Common.{◌≡◌, ◌<◌, ◌≤◌, ℕ, ◌+◌, ◌-◌, ◌*◌, List, ◌++◌, length, sym, ◌∙◌, ap, subst, arith}
use Rattle.std.specs.Prelude.{replicate, ◌==◌, nat_le, false}
use Rattle.std.proofs.lemmas.Bool.{false≢true, and_left, ne_eqb}
use Rattle.std.proofs.lemmas.List.{get_or-replicate}
use Rattle.dasd_pool.specs.Disk.{Image, Shape, Disk, Runs, LeavesOnly, Spares, IsSynced}
use Rattle.dasd_pool.proofs.Moments.{weaken}
use Rattle.vol_label.specs.declared.serial.Serial.{Serial}
use Rattle.redo_core.specs.declared.control.Control.TheVariants.{Idle}
use Rattle.redo_core.specs.Format.{wide, registration_text, is_open, control_in, is_filling}
use Rattle.redo_core.specs.Reading.{journal_of, control_block, HasHead, IsRegistration, IsControl, Reads}
use Rattle.redo_core.specs.Steps.{of_making}
use Rattle.redo_core.specs.Opening.{AreNames, IsFormatted, SparesVolumes}
use Rattle.redo_core.proofs.Crash.{closed_overlay}
use Rattle.redo_core.proofs.Formatting.{registration_reads}

-- the bytes of an empty control block
zero_fill : (u : ℕ) → u < 64 → is_filling (replicate wide 0) u ≡ false
zero_fill u less = ap (λ (n : ℕ). n == 1) (get_or-replicate wide (64 + u) 0 0 (omega (arith, less)))

module _ (shape : Shape) (names : List Serial) (room : ℕ) (image : Image) (rest : List ℕ) where
  pub reads_as : HasHead shape → AreNames shape names → 3 ≤ room → room ≤ 8191 → 4 + room ≤ shape.blocks (journal_of shape)
      → image (journal_of shape) 0 ≡ registration_text names room ++ rest → image (journal_of shape) 1 ≡ replicate wide 0 → image (journal_of shape) 2 ≡ replicate wide 0
      → (old : Image) → ((u b : ℕ) → u < journal_of shape → image u b ≡ old u b)
      → Reads shape image (record { volumes = old; names = names; room = room; control = Idle; fills = λ u. false })
  reads_as head are least most long registration gate control old same =
      let closed : is_open (image (journal_of shape) 1) ≡ false = ap is_open gate in
      let empty : control_block shape image ≡ replicate wide 0 = closed_overlay shape.block_size (journal_of shape) image closed (journal_of shape) 2 ∙ control in
      let text : IsRegistration (length names) (image (journal_of shape) 0) names room =
      subst (λ (l : List ℕ). IsRegistration (length names) l names room) (sym registration) (registration_reads names room rest are.some are.few least most are.serials) in
      record {
        obeys = record {
          head = head;
          registration = subst (λ (n : ℕ). IsRegistration n (image (journal_of shape) 0) names room) are.each text;
          body = λ opened. absurd (false≢true (sym closed ∙ opened));
          control = subst (λ (l : List ℕ). IsControl shape l) (sym empty) (record { known = omega arith; lawful = tt });
          control_is = sym (ap control_in empty);
          fills_are = λ u less. sym (ap (λ (l : List ℕ). is_filling l u) empty ∙ zero_fill u (omega (arith, less, are.few, are.each)));
        };
        long = long;
        volumes_are = λ u b less. sym (closed_overlay shape.block_size (journal_of shape) image closed u b ∙ same u b less);
      }

pub is_formatted : (shape : Shape) (journal : ℕ) (names : List Serial) (room : ℕ) (old new : Disk) → journal_of shape ≡ journal → HasHead shape → AreNames shape names → 3 ≤ room → room ≤ 8191
    → 4 + room ≤ shape.blocks journal → new.state.contents journal 0 ≡ registration_text names room ++ replicate (wide - (16 + 6 * length names)) 0 → new.state.contents journal 1 ≡ replicate wide 0
    → new.state.contents journal 2 ≡ replicate wide 0 → IsSynced new.state → Runs (of_making journal) old new → IsFormatted shape old.state names room new.state
is_formatted shape journal names room old new unit head are least most long registration gate control all run =
    let held : (b : ℕ) → new.state.contents (journal_of shape) b ≡ new.state.contents journal b = λ b. ap (λ (j : ℕ). new.state.contents j b) unit in
    record {
      all = all;
      registration = held 0 ∙ registration;
      gate = held 1 ∙ gate;
      control = held 2 ∙ control;
      closed = ap is_open (held 1 ∙ gate);
      reads = reads_as shape names room new.state.contents (replicate (wide - (16 + 6 * length names)) 0) head are least most (subst (λ (j : ℕ). 4 + room ≤ shape.blocks j) (sym unit) long)
          (held 0 ∙ registration) (held 1 ∙ gate) (held 2 ∙ control)
          old.state.contents (λ u b less. run.touches.contents u b (and_left (u == journal) (nat_le b 2) (ne_eqb u journal (λ same. omega (arith, same, less, unit)))));
    }

-- a stop while a journal is made leaves the volumes
pub volumes_spared : (shape : Shape) (journal : ℕ) (old new : Disk) → journal_of shape ≡ journal → Runs (of_making journal) old new → LeavesOnly old new (SparesVolumes shape old.state)
volumes_spared shape journal old new unit run = weaken old new (Spares (of_making journal) old.state) (SparesVolumes shape old.state)
    (λ image spares u b less was. spares u b (and_left (u == journal) (nat_le b 2) (ne_eqb u journal (λ same. omega (arith, same, less, unit)))) was) run.leaves
