-- Whether a VTOC has room for what a change leaves.
use Rattle.std.specs.Prelude.{◌≡◌, ◌≢◌, ◌⊎◌, ℕ, ◌≤◌, List, length, Contains}
use Rattle.std.specs.Prelude.{All}
use Rattle.ckd_image.specs.Device.{heads_of}
use Rattle.dsn_filter.specs.declared.dsn.Dsn.{Dsn}
use Rattle.volume_model.specs.Changed.{ChangesSets, IsFull}
use Rattle.volume_model.specs.Unit.{Text, DataSet, OnlineVolume}
use Rattle.vtoc_core.specs.declared.volume.Row.{Row}
use Rattle.vtoc_core.specs.declared.volume.Volume.{Volume}
use Rattle.volume_change.specs.declared.change.Change.{Change}
use Rattle.volume_change.specs.declared.change.Change.TheVariants.{Repair, Put, Swap, Remove, Mark}
use Rattle.step_plans.specs.vtoc_render.Next.{MayChange, IsNext, HasNoRoom}
use Rattle.step_plans.specs.unit_change.Described.{Describes}
use Rattle.step_plans.specs.unit_change.Changed.{AreGone, extents_of, sets_put}
use Rattle.step_plans.specs.unit_steps.Plans.{HasRow}
use Rattle.step_plans.specs.Plans.{IsSound}

-- a volume has no room in its VTOC for what is left once some of its data sets went and others came
abbrev pub IsFullFor : OnlineVolume → List DataSet → List DataSet → Type 0
IsFullFor volume gone put = (after : OnlineVolume) × (need : ℕ) × (free : ℕ) × ChangesSets volume after gone put × IsFull volume after need free

-- the change of a loaded volume needs more records than are free
abbrev pub LacksRoom : Volume → Change → Type 0
LacksRoom loaded change = (need : ℕ) × (free : ℕ) × HasNoRoom loaded change need free

-- data sets of a volume that a change takes away
abbrev pub AreTaken : OnlineVolume → Change → List DataSet → Type 0
AreTaken volume change gone = AreGone change gone × All (λ set. Contains volume.sets set) gone

-- Where a change lacks room, its volume is full for what it leaves, whatever texts it puts.
abbrev pub LackingChangesAreFull : Type 0
LackingChangesAreFull =
    (loaded : Volume) (volume : OnlineVolume) (change : Change) (gone : List DataSet) (texts : List Text)
    → IsSound loaded → Describes loaded volume → MayChange loaded change → AreTaken volume change gone → LacksRoom loaded change
    → IsFullFor volume gone (sets_put (heads_of loaded.device) change texts)

-- Where there is a volume after it, its volume isn't.
abbrev pub FittingChangesAreNotFull : Type 0
FittingChangesAreNotFull =
    (loaded next : Volume) (volume : OnlineVolume) (change : Change) (gone : List DataSet) (texts : List Text)
    → IsSound loaded → Describes loaded volume → MayChange loaded change → change ≢ Mark → AreTaken volume change gone → IsNext loaded change next
    → ¬ IsFullFor volume gone (sets_put (heads_of loaded.device) change texts)

-- Once the free space of a volume that was loaded is stated, a change for which there was room has room.
abbrev pub RepairsKeepRoom : Type 0
RepairsKeepRoom =
    (loaded repaired next : Volume) (change : Change)
    → IsSound loaded → change ≢ Mark → IsNext loaded Repair repaired → IsNext loaded change next → ¬ LacksRoom repaired change

-- And so has a data set in the place of another where there was room for one of its name and extents, whatever else their format 1s say.
abbrev pub RepairsKeepRoomForExtents : Type 0
RepairsKeepRoomForExtents =
    (loaded repaired next : Volume) (name : Dsn) (row like : Row)
    → IsSound loaded → IsNext loaded Repair repaired → IsNext loaded (Swap name row) next → like.name ≡ row.name
    → extents_of (heads_of loaded.device) like ≡ extents_of (heads_of loaded.device) row → ¬ LacksRoom repaired (Swap name like)

-- changes that put data sets of one name and with the same extents in the same place, or that take the same one away; or both state free space
abbrev pub AreAlike : ℕ → Change → Change → Type 0
AreAlike heads Repair Repair = Unit {0}
AreAlike heads (Put row) (Put like) = (like.name ≡ row.name) × (extents_of heads like ≡ extents_of heads row)
AreAlike heads (Swap name row) (Swap other like) = (other ≡ name) × (like.name ≡ row.name) × (extents_of heads like ≡ extents_of heads row)
AreAlike heads (Remove name) (Remove other) = other ≡ name
AreAlike heads _ _ = ⊥

-- a volume as it was loaded, or once its free space is stated
abbrev pub IsAsBefore : Volume → Volume → Type 0
IsAsBefore loaded later = (later ≡ loaded) ⊎ IsNext loaded Repair later

-- Where there is a volume after a change, there is room for one like it, also once the free space is stated.
abbrev pub AlikeChangesHaveRoom : Type 0
AlikeChangesHaveRoom =
    (loaded later next : Volume) (change like : Change)
    → IsSound loaded → IsAsBefore loaded later → IsNext loaded change next → AreAlike (heads_of loaded.device) change like → ¬ LacksRoom later like

-- Where the free space of a volume can be stated, there is room for a data set of at most 16 extents to be taken away, and to be put in its own place again.
abbrev pub StatedVolumesHaveRoom : Type 0
StatedVolumesHaveRoom =
    (loaded stated : Volume) (name : Dsn) (row : Row)
    → IsSound loaded → IsNext loaded Repair stated → HasRow loaded name row → length row.extents ≤ 16
    → (¬ LacksRoom loaded (Remove name))
    × ((like : Row) → like.name ≡ row.name → extents_of (heads_of loaded.device) like ≡ extents_of (heads_of loaded.device) row → ¬ LacksRoom loaded (Swap name like))

-- It can be where a change stated it.
abbrev pub ChangesStateSpace : Type 0
ChangesStateSpace = (loaded next : Volume) (change : Change) → change ≢ Mark → IsNext loaded change next → IsNext next Repair next
