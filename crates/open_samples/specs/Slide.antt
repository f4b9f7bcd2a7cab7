-- The pool in the middle of a slide.
use Rattle.std.specs.Prelude.{◌≡◌, ℕ, ◌==◌, ◌&&◌, ◌||◌, nat_le, nat_lt, Bool, false, List, [], ◌∷◌, ◌++◌, map, replicate}
use Rattle.dasd_pool.specs.Disk.{Image}
use Rattle.redo_core.specs.declared.control.Control.{Control}
use Rattle.redo_core.specs.declared.control.Control.TheVariants.{Slide}
use Rattle.redo_core.specs.Format.{control_text}
use Rattle.volume_model.specs.Dscbs.{numbers_below}
use Rattle.volume_model.specs.Unit.{Text, good, OnlineVolume, online}
use Rattle.move_core.specs.Stands.{Stands}
use Rattle.open_samples.specs.Pool.{own_track, blocks, facts, set_at, volume_with}

-- a slide on unit 0 from track 30 to 15, of 30 tracks, of which 15 are done
abbrev pub control : Control
control = Slide 0 30 15 30 15

abbrev pub slide_control : List ℕ
slide_control = control_text control ++ replicate 65512 0

-- all texts of A.B, in their order
abbrev pub own_texts : List Text
own_texts = map (λ number. good (own_track number)) (numbers_below 30)

-- the volume with A.B from a track on
abbrev pub volume_at : ℕ → OnlineVolume
volume_at first = volume_with (set_at first own_texts) false

-- The pool stands for the volume with A.B at 15, though its VTOC says 30 still.
abbrev pub SlideStands : Type 0
SlideStands = Stands facts (blocks slide_control) (online (volume_at 15) ∷ [])

-- the free tracks, and those between the texts that have gone and those that haven't
abbrev pub holds_nothing : ℕ → ℕ → Bool
holds_nothing u b = (u == 0) && ((nat_le 2 b && nat_lt b 15) || (nat_le 30 b && nat_lt b 45))

-- So does each image that differs from it on tracks alone that hold nothing.
abbrev pub SlideStandsStill : Type 0
SlideStandsStill =
    (image : Image) → ((u b : ℕ) → holds_nothing u b ≡ false → image u b ≡ blocks slide_control u b) → Stands facts image (online (volume_at 15) ∷ [])
