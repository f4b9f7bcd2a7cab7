-- The format 4 that a label's pointer names, and the rules on it.
use Rattle.std.specs.Prelude.{◌≡◌, ℕ, List}
use Rattle.ckd_image.specs.declared.head.Head.{Head}
use Rattle.ckd_image.specs.declared.track.Cchhr.{Cchhr}
use Rattle.ckd_image.specs.declared.track.Rec.{Rec}
use Rattle.ckd_image.specs.Device.{heads_of}
use Rattle.vol_label.specs.Label.{IsFirstNumbered}
use Rattle.volume_model.specs.declared.format.Format.TheVariants.{F4}
use Rattle.volume_model.specs.declared.place.Breach.{Breach}
use Rattle.volume_model.specs.Dscbs.{format_of, extent_at}
use Rattle.volume_model.specs.Directory.{named_place}
use Rattle.volume_model.specs.Space.{run_of}
use Rattle.volume_model.specs.Sound.{Slots, IsDscbRecord, dscb_of, IsFormat4, HasGeometry, HasVtocExtent, IsFirstRuleBroken}
use Rattle.free_map.specs.declared.run.Run.{Run}

-- among a track's records, the first with a number is a format 4
pub record IsFormat4Among (recs : List Rec) (r : ℕ) (bytes : List ℕ) : Type 0 where
  pub rec : Rec
  pub numbered : IsFirstNumbered r recs rec
  pub shaped : IsDscbRecord rec
  pub bytes_are : bytes ≡ dscb_of rec
  pub format : format_of bytes ≡ F4

-- a format 4 that breaks none of the first three rules
pub record IsFront (head : Head) (slots : Slots) (pointer : Cchhr) (bytes : List ℕ) : Type 0 where
  pub format_4 : IsFormat4 (heads_of head.device) slots pointer bytes
  pub geometry : HasGeometry (heads_of head.device) bytes
  pub extent : HasVtocExtent head pointer bytes

-- the first of the three rules that fails, told at the pointer's place
abbrev pub IsFrontBreach : Head → Slots → Cchhr → Breach → Type 0
IsFrontBreach head slots pointer told = IsFirstRuleBroken head slots pointer told.rule × (told.place ≡ named_place (heads_of head.device) pointer)

-- the run of the VTOC, as a format 4 says it that breaks none of the first three rules
pub record IsVtocRun (head : Head) (slots : Slots) (pointer : Cchhr) (run : Run) : Type 0 where
  pub bytes : List ℕ
  pub front : IsFront head slots pointer bytes
  pub run_is : run ≡ run_of (heads_of head.device) (extent_at bytes 105)
