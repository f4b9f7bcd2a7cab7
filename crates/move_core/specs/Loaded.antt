-- A VTOC reads in one way, and a unit on which a loader finds a volume is online.
use Rattle.std.specs.Prelude.{◌≡◌, ◌⊎◌, ℕ, ◌≤◌, Bool, false, List, length}
use Rattle.ckd_image.specs.declared.head.Head.{Head}
use Rattle.ckd_image.specs.declared.track.Cchhr.{Cchhr}
use Rattle.free_map.specs.declared.run.Run.{Run}
use Rattle.free_map.specs.Runs.{HasTrack}
use Rattle.volume_model.specs.declared.place.Vtoc.{Vtoc}
use Rattle.volume_model.specs.Sound.{Slots, IsVtoc, Volume, IsVolume}
use Rattle.volume_model.specs.Unit.{OnlineVolume, UnitModel, online}
use Rattle.volume_model.specs.Reads.{IsOnline, IsUnit}

-- the slots of a run's tracks are no longer than a track's slot can be
abbrev pub AreShort : Slots → Run → Type 0
AreShort slots run = (track : ℕ) → HasTrack run track → length (slots track) ≤ 65536

-- A VTOC reads in one way: that of an image of at most 65,535 tracks, and any whose slots are short.
abbrev pub OneVtoc : Type 0
OneVtoc =
    (head : Head) (slots : Slots) (pointer : Cchhr) (sliding : Bool) (a b : Vtoc) → (head.tracks ≤ 65535) ⊎ AreShort slots a.run
    → (one : IsVtoc head slots pointer sliding a) → (other : IsVtoc head slots pointer sliding b) → (a ≡ b) × (one.bytes ≡ other.bytes)

-- A unit on which a loader finds a volume is online.
abbrev pub LoadedIsOnline : Type 0
LoadedIsOnline =
    (head : List ℕ) (blocks : ℕ) (slots : Slots) (unit : UnitModel) (found : Volume) → (stands : IsVolume head blocks slots false found)
    → IsUnit false false (λ track. track) head blocks slots unit
    → (volume : OnlineVolume) × (unit ≡ online volume) × IsOnline false (λ track. track) head blocks slots volume
