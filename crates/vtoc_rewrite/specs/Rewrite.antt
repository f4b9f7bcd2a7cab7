-- The slots of a VTOC once some of its tracks are written anew.
use Rattle.std.specs.Prelude.{◌≡◌, ◌≢◌, ℕ, ◌+◌, ◌<◌, ◌≤◌, Bool, List, Some, None, length, All}
use Rattle.ckd_image.specs.declared.head.Head.{Head}
use Rattle.ckd_image.specs.declared.track.Cchhr.{Cchhr}
use Rattle.ckd_image.specs.Device.{slot_of}
use Rattle.free_map.specs.declared.run.Run.{Run}
use Rattle.volume_model.specs.declared.format.Format.TheVariants.{F4}
use Rattle.volume_model.specs.declared.place.Placed.{Placed}
use Rattle.volume_model.specs.declared.place.Vtoc.{Vtoc}
use Rattle.volume_model.specs.Dscbs.{format_of}
use Rattle.volume_model.specs.Reads.{fields_of_4}
use Rattle.volume_model.specs.Sound.{Slots, is_valid, IsVtoc}
use Rattle.vtoc_check.specs.Sized.{IsVtocWith}
use Rattle.vtoc_check.specs.Slots.{AreSlotsOf}
use Rattle.vtoc_write.specs.declared.blocks.Block.{Block}
use Rattle.vtoc_write.specs.Edited.{edit_of, tracks_after}
use Rattle.vtoc_write.specs.Written.{block_of, slot_with, AreRewritten}

-- the slots once blocks are written: each track of the run has its block's slot where there is one, and all else is as it was
pub record AreSlotsAfter (run : Run) (blocks : List Block) (old new : Slots) : Type 0 where
  pub inside : (k : ℕ) → k < run.len → new (run.first + k) ≡ slot_with (old (run.first + k)) (block_of blocks (run.first + k))
  pub outside : (track : ℕ) → (run.first ≤ track → ¬ (track < run.first + run.len)) → new track ≡ old track

-- the VTOC with the edits made, and its format 5s valid or not
abbrev pub vtoc_with : Vtoc → Bool → List Placed → Vtoc
vtoc_with vtoc valid edits =
    record {
      heads = vtoc.heads;
      limit = vtoc.limit;
      format_4 = vtoc.format_4;
      valid = valid;
      alternates = vtoc.alternates;
      run = vtoc.run;
      tracks = tracks_after edits vtoc.run.first vtoc.tracks;
    }

-- Where the edits write a format 4 over the format 4, with the same fields but for counts and indicators, the slots stand for the VTOC with the
-- edits made. Whether its format 5s are valid the new format 4 says.
abbrev pub RewrittenVtocsStand : Type 0
RewrittenVtocsStand =
    (head : Head) (old new : Slots) (pointer : Cchhr) (before after : Bool) (vtoc : Vtoc) (four : List ℕ) (edits : List Placed) (slots : List ℕ) (blocks : List Block) (edit : Placed)
    → head.tracks ≤ 65535 → IsVtocWith head old pointer before vtoc four → AreSlotsOf vtoc.run (slot_of head.device) slots old
    → ((k : ℕ) → k < vtoc.run.len → length (old (vtoc.run.first + k)) ≡ slot_of head.device)
    → All (λ dscbs. dscbs ≢ None) vtoc.tracks
    → AreRewritten edits head.device vtoc.run slots blocks → AreSlotsAfter vtoc.run blocks old new
    → edit_of edits vtoc.format_4 ≡ Some edit → length edit.bytes ≡ 140 → format_of edit.bytes ≡ F4 → fields_of_4 edit.bytes ≡ fields_of_4 four
    → IsVtocWith head new pointer after (vtoc_with vtoc (is_valid after edit.bytes) edits) edit.bytes

-- slots read as one VTOC at most
abbrev pub OneReading : Type 0
OneReading = (head : Head) (slots : Slots) (pointer : Cchhr) (sliding : Bool) (a b : Vtoc) → ((track : ℕ) → length (slots track) ≤ 65536) → IsVtoc head slots pointer sliding a → IsVtoc head slots pointer sliding b → a ≡ b
