-- What is known of a volume that was loaded from the slots of its VTOC.
use Rattle.std.proofs.Common.{◌≡◌, ◌≢◌, ℕ, ◌+◌, ◌-◌, ◌*◌, ◌<◌, ◌≤◌, List, take, drop, Bool, Option, Some, None, refl, sym, ap, subst, ◌∙◌, arith}
use Rattle.std.specs.Prelude.{slice_index_or}
use Rattle.ckd_image.specs.declared.device.Device.{Device}
use Rattle.ckd_image.specs.declared.head.Head.{Head}
use Rattle.ckd_image.specs.Address.{address_of}
use Rattle.ckd_image.specs.Device.{heads_of, slot_of}
use Rattle.free_map.specs.declared.run.Run.{Run}
use Rattle.free_map.specs.Runs.{AreApart}
use Rattle.vol_label.specs.declared.label.Label.{Label}
use Rattle.volume_model.specs.declared.place.Placed.{Placed}
use Rattle.volume_model.specs.declared.place.Vtoc.{Vtoc}
use Rattle.volume_model.specs.Sound.{Slots, IsTrackReading}
use Rattle.vtoc_core.specs.declared.volume.Volume.{Volume}
use Rattle.vtoc_write.specs.Written.{slot_at, IsDscbText}
use Rattle.volume_change.specs.Spot.{AreNamed}
use Rattle.render_laws.specs.Rendered.{WasLoaded}
use Rattle.render_laws.proofs.Before.{usable_within, tracks_stand}

of_reading : (heads track : ℕ) (slot : List ℕ) (read : Option (List (List ℕ))) → read ≢ None → IsTrackReading heads track slot read → IsDscbText (address_of heads track) slot
of_reading heads track slot None some is = absurd (some refl)
of_reading heads track slot (Some dscbs) some is = record { text = is.text; stands = is.stands; shaped = is.shaped }

module _ {head : Head} {label : Label} {unit : Slots} {before : Bool} {slots : List ℕ} {volume : Volume} {vtoc : Vtoc} {four : Placed}
    (was : WasLoaded head label unit before slots volume vtoc four) where
  pub usable_small : volume.usable ≤ 65535
  usable_small = omega (arith, usable_within was, was.sized.limit_fits)

  pub free_apart : AreApart 0 volume.free.runs
  free_apart = was.volume_is.space.free_are.apart

  text_at : (k : ℕ) → k < vtoc.run.len → IsDscbText (address_of (heads_of head.device) (vtoc.run.first + k)) (slot_at (slot_of head.device) slots k)
  text_at k less =
      subst (λ (slot : List ℕ). IsDscbText (address_of (heads_of head.device) (vtoc.run.first + k)) slot)
      (was.slots_are k less ∙ ap (λ (n : ℕ). take (slot_of head.device) (drop (n * slot_of head.device) slots)) (back vtoc.run.first k))
      (of_reading (heads_of head.device) (vtoc.run.first + k) (unit (vtoc.run.first + k)) (slice_index_or vtoc.tracks k None)
      (tracks_stand was k None (omega (arith, less, was.stands.stands.reading.whole))) (was.stands.stands.reading.each k less))
    where
      back : (a b : ℕ) → a + b - a ≡ b
      back a b = omega arith

  pub texts : (k : ℕ) → k < volume.vtoc.len → IsDscbText (address_of (heads_of volume.device) (volume.vtoc.first + k)) (slot_at (slot_of volume.device) slots k)
  texts =
      subst (λ (device : Device). (k : ℕ) → k < volume.vtoc.len → IsDscbText (address_of (heads_of device) (volume.vtoc.first + k)) (slot_at (slot_of device) slots k)) (sym was.volume_is.device_is)
      (subst (λ (run : Run). (k : ℕ) → k < run.len → IsDscbText (address_of (heads_of head.device) (run.first + k)) (slot_at (slot_of head.device) slots k)) (sym was.volume_is.vtoc_is) text_at)

  pub rows_named : AreNamed volume.rows
  rows_named = record { order = was.volume_is.rows_are.order; names = was.volume_is.names_are }
