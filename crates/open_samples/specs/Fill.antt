-- The pool in the middle of a fill: the same volume, while a restore writes it anew.
use Rattle.std.specs.Prelude.{◌≡◌, ℕ, ◌==◌, ◌&&◌, not, nat_lt, Bool, true, false, if◌then◌else◌, List, [], ◌∷◌, ◌++◌, map, replicate}
use Rattle.dasd_pool.specs.Disk.{Image}
use Rattle.volume_model.specs.declared.why.Why.TheVariants.{Filling}
use Rattle.volume_model.specs.Dscbs.{numbers_below}
use Rattle.volume_model.specs.Space.{track_at}
use Rattle.volume_model.specs.Unit.{Text, good, bad, OnlineVolume, online, offline}
use Rattle.move_core.specs.Stands.{Stands}
use Rattle.open_samples.specs.Pool.{pointer, own_track, blocks, facts, set_at, volume_with}

-- No slide is open. The byte at 64 says whether a fill of unit 0 is: 1, or 0 for none.
abbrev pub fill_control : ℕ → List ℕ
fill_control flag = replicate 64 0 ++ (flag ∷ replicate 65471 0)

-- The pool stands for an unfinished volume.
abbrev pub FillStands : Type 0
FillStands = Stands facts (blocks (fill_control 1)) (offline Filling [] ∷ [])

-- the tracks of the unit but track 0 and the one that its label names
abbrev pub is_other : ℕ → ℕ → Bool
is_other u b = (u == 0) && (not (b == 0) && not (b == track_at 15 pointer.at))

-- So does each image that differs from it on those alone.
abbrev pub FillStandsStill : Type 0
FillStandsStill =
    (image : Image) → ((u b : ℕ) → is_other u b ≡ false → image u b ≡ blocks (fill_control 1) u b) → Stands facts image (offline Filling [] ∷ [])

-- ---- the same blocks, where no fill is open, and no slide

-- what the tracks 30 to 59 say: the first 15 of them nothing
abbrev pub found_text : ℕ → Text
found_text number = if nat_lt number 15 then bad [] else good (own_track number)

-- the volume with A.B at 30, its free space not stated, as a change was interrupted
abbrev pub found_volume : OnlineVolume
found_volume = volume_with (set_at 30 (map found_text (numbers_below 30))) true

-- Then they stand for what they say,
abbrev pub ClosedStands : Type 0
ClosedStands = Stands facts (blocks (fill_control 0)) (online found_volume ∷ [])

-- and for an unfinished volume no more.
abbrev pub ClosedIsOther : Type 0
ClosedIsOther = ¬ Stands facts (blocks (fill_control 0)) (offline Filling [] ∷ [])
