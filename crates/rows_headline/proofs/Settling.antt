-- A pool whose journal was made for a volume that is online is settled.
use Rattle.std.proofs.Common.{◌≡◌, ℕ, zero, suc, ◌-◌, ◌<◌, ◌≤◌, List, [], ◌∷◌, Option, Some, None, false, refl, sym, subst, ◌∙◌, arith}
use Rattle.std.specs.Prelude.{slice_get, IfSome}
use Rattle.std.proofs.lemmas.Option.{slice_get_within}
use Rattle.dasd_pool.specs.Disk.{Image, Shape, State}
use Rattle.redo_core.specs.declared.control.Control.TheVariants.{Idle}
use Rattle.redo_core.specs.Reading.{journal_of}
use Rattle.vol_label.specs.declared.serial.Serial.{Serial}
use Rattle.volume_model.specs.Reads.{IsOnline, IsUnit}
use Rattle.volume_model.specs.Sound.{Slots, IsVolume}
use Rattle.volume_model.specs.Unit.{OnlineVolume, UnitModel, online}
use Rattle.move_core.specs.Facts.{Facts, no_inputs}
use Rattle.move_core.specs.Resuming.{new_reading}
use Rattle.move_core.specs.Stands.{is_sliding, place_in, Means}
use Rattle.move_core.proofs.Resuming.{formatted_settled}
use Rattle.rows_headline.specs.Made.{IsSettledVolume, IsMade, HasVolume, StaysSettled}
use Rattle.standing_units.proofs.Standing.{sound_is_online}

-- ---- the pool

module _ (shape : Shape) (volumes : Image) (names : List Serial) (room : ℕ) (volume : OnlineVolume)
    (is : IsOnline false (λ track. track) (shape.head 0) (shape.blocks 0) (volumes 0) volume) where
  abbrev IsThat : ℕ → UnitModel → Type 0
  IsThat u unit = IsUnit false (is_sliding Idle u) (place_in Idle u) (shape.head u) (shape.blocks u) (volumes u) unit

  each_unit : (u : ℕ) (unit : UnitModel) → slice_get (online volume ∷ []) u ≡ Some unit → IsThat u unit
  each_unit zero unit at = subst (IsThat 0) (the_one at) (refl, is)
    where
      the_one : Some (online volume) ≡ Some unit → online volume ≡ unit
      the_one e = cc
  each_unit (suc u) unit at = absurd (omega (arith, slice_get_within (online volume ∷ []) (suc u) unit at))

  means_that : shape.units ≡ 2 → Means shape (new_reading volumes names room) (online volume ∷ [])
  means_that two = record { found = online volume ∷ []; found_are = record { count = omega (arith, two); each = each_unit }; after = refl }

-- a journal was made for a volume that is online
pub settled_there : (shape : Shape) (old made : State) → shape.units ≡ 2 → IsMade shape old made → HasVolume shape made → IsSettledVolume shape made
settled_there shape old made two journal online_is =
    let some : 0 < journal_of shape = omega (arith, two) in
    let facts : Facts = record { shape = shape; names = journal.names; room = journal.room; inputs = no_inputs } in
    let same : (b : ℕ) → online_is.reading.volumes 0 b ≡ old.contents 0 b = λ b. online_is.reads.volumes_are 0 b some ∙ sym (journal.formatted.reads.volumes_are 0 b some) in
    let slots : online_is.reading.volumes 0 ≡ old.contents 0 = λ i b. same b i in
    let P : Slots → Type 0 = λ slots. IsVolume (shape.head 0) (shape.blocks 0) slots false online_is.found in
    let is = subst P slots online_is.stands in
    let volume = sound_is_online false (λ track. track) (shape.head 0) (shape.blocks 0) (old.contents 0) online_is.found is in
    record {
      facts = facts;
      shape_is = refl;
      units = online volume.0 ∷ [];
      settled = formatted_settled facts old made (online volume.0 ∷ []) journal.allowed journal.formatted (means_that shape old.contents journal.names journal.room volume.0 volume.1 two);
      volume = volume.0;
      is_first = refl;
    }

-- what keeps it settled keeps the volume
pub kept_volume : (shape : Shape) (old new : State) → StaysSettled shape old new → IsSettledVolume shape old → IsSettledVolume shape new
kept_volume shape old new stays before = record {
  facts = before.facts;
  shape_is = before.shape_is;
  units = before.units;
  settled = stays before.facts before.units before.shape_is before.settled;
  volume = before.volume;
  is_first = before.is_first;
}

-- and so is what comes back from a run, where one does
module _ {T : Type 0} (shape_at : T → Shape) (state_at : T → State) (shape : Shape) (state : State) (before : IsSettledVolume shape state) where
  pub settled_back : (result : Option T) → IfSome result (λ listed. StaysSettled shape state (state_at listed)) → IfSome result (λ listed. shape_at listed ≡ shape)
      → IfSome result (λ listed. IsSettledVolume (shape_at listed) (state_at listed))
  settled_back None stays same = tt
  settled_back (Some listed) stays same =
      subst (λ (s : Shape). IsSettledVolume s (state_at listed)) (sym same) (kept_volume shape state (state_at listed) stays before)
