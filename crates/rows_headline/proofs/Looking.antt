-- What a look at a volume finds, and what it keeps.
use Rattle.std.proofs.Common.{◌≡◌, ℕ, ◌<◌, List, map, Bool, false, refl, sym, subst, ◌∙◌}
use Rattle.std.specs.Prelude.{IsTrue}
use Rattle.ckd_image.specs.declared.head.Head.{Head}
use Rattle.dasd_pool.specs.Disk.{Shape, State}
use Rattle.free_map.specs.Runs.{AreMaximalRuns}
use Rattle.vol_label.specs.declared.label.Label.{Label}
use Rattle.vol_label.specs.declared.serial.Serial.{Serial}
use Rattle.redo_core.specs.declared.control.Control.{Control}
use Rattle.redo_core.specs.Format.{is_open}
use Rattle.redo_core.specs.Opening.{IsOpened}
use Rattle.redo_core.specs.Reading.{journal_of, fills_of}
use Rattle.redo_core.proofs.Crash.{closed_overlay}
use Rattle.volume_model.specs.Check.{extents_in, usable_in}
use Rattle.volume_model.specs.Reads.{HasLabelOf}
use Rattle.volume_model.specs.Sound.{Slots, Volume, IsVolume}
use Rattle.volume_model.specs.Space.{is_free}
use Rattle.vtoc_core.specs.declared.volume.Volume.{Volume as LoadedVolume}
use Rattle.vtoc_core.specs.Loaded.{row_in}
use Rattle.vtoc_load.specs.LoadedVtoc.{IsLoadedVtoc}
use Rattle.move_core.specs.Stands.{IsSettled}
use Rattle.move_core.proofs.Standing.{opened_settled}
use Rattle.rows_headline.specs.Made.{HasLoaded, HasVolume, StaysSettled}

-- a volume that is loaded is one
found_volume : (head : List ℕ) (blocks : ℕ) (slots : Slots) (image : Head) (label : Label) (loaded : LoadedVolume) → HasLabelOf head blocks slots image label
    → IsLoadedVtoc image label slots false loaded → (found : Volume) × IsVolume head blocks slots false found
found_volume head blocks slots image label loaded labelled is =
    let found : Volume = record { device = image.device; label = label; usable = usable_in is.vtoc; free = loaded.free.runs; rows = map row_in loaded.rows } in (
      found,
      record {
        image = image;
        track_0 = labelled.text;
        vtoc = is.vtoc;
        head_stands = labelled.head_stands.stands;
        tracks_are = labelled.head_stands.tracks_are;
        device_is = refl;
        track_0_stands = labelled.text_stands;
        label_stands = labelled.stands;
        vtoc_stands = is.stands.stands;
        sound = is.sound;
        usable_is = refl;
        free_are =
            subst (λ (usable : ℕ). AreMaximalRuns (λ track. IsTrue (is_free usable is.vtoc.run (extents_in is.vtoc) track)) loaded.free.runs) is.volume.space.usable_is
            is.volume.space.free_are;
        rows_are = is.volume.rows_are;
      },
    )

module _ (shape : Shape) (old opened : State) (asked : List Serial) (room : ℕ) (control : Control) (fills : List Bool)
    (is : IsOpened shape old asked room control fills opened) where
  -- behind a closed gate the blocks are what they read as
  pub has_volume : is_open (opened.contents (journal_of shape) 1) ≡ false → 0 < journal_of shape → HasLoaded shape opened → HasVolume shape old
  has_volume closed some loaded =
      let same : (b : ℕ) → opened.contents 0 b ≡ is.volumes 0 b =
      λ b. sym (is.after.volumes_are 0 b some ∙ closed_overlay shape.block_size (journal_of shape) opened.contents closed 0 b) in
      let slots : opened.contents 0 ≡ is.volumes 0 = λ i b. same b i in
      let found = found_volume (shape.head 0) (shape.blocks 0) (opened.contents 0) loaded.1.0 loaded.1.1 loaded.0 loaded.1.2 loaded.1.3 in
      record {
        reading = record { volumes = is.volumes; names = asked; room = room; control = control; fills = fills_of fills };
        reads = is.before;
        found = found.0;
        stands = subst (λ (s : Slots). IsVolume (shape.head 0) (shape.blocks 0) s false found.0) slots found.1;
      }

  pub stays : (new : State) → new ≡ opened → StaysSettled shape old new
  stays new same facts units shape_is settled =
      subst (λ (s : State). IsSettled facts s units) (sym same)
      (opened_settled facts old opened units asked room control fills settled.stands
      (subst (λ (s : Shape). IsOpened s old asked room control fills opened) (sym shape_is) is))
