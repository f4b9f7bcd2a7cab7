-- What a change of a volume's data sets leaves, and whether the VTOC has room for it.
use Rattle.std.specs.Prelude.{◌≡◌, ℕ, ◌+◌, ◌-◌, ◌<◌, ◌≤◌, Bool, false, nat_lt, if◌then◌else◌, List, ◌++◌, length, map, sum, All}
use Rattle.free_map.specs.declared.run.Run.{Run}
use Rattle.volume_model.specs.Unit.{DataSet, OnlineVolume, AreFreeRunsOf, fives_for}

-- a data set of four extents or more needs a format 3: its format 1 has room for three
abbrev pub needs_three : ℕ → Bool
needs_three extents = nat_lt 3 extents

-- the format 3s that a data set of so many extents uses, once a change has put it
abbrev pub threes_for : ℕ → ℕ
threes_for extents = if needs_three extents then 1 else 0

-- the format 5s of a volume are those that its free runs need
pub record HasRightFives (volume : OnlineVolume) : Type 0 where
  pub runs : List Run
  pub runs_are : AreFreeRunsOf volume runs
  pub fives_are : volume.fives ≡ fives_for (length runs)

-- a data set as a change puts it
pub record IsPut (set : DataSet) : Type 0 where
  pub few : length set.extents ≤ 16
  pub threes_are : set.threes ≡ threes_for (length set.extents)

-- Some data sets of a volume go, and others come in their place. All else stays, but the free space is stated after each change.
pub record ChangesSets (before after : OnlineVolume) (gone put : List DataSet) : Type 0 where
  pub front : List DataSet
  pub back : List DataSet
  pub sets_were : before.sets ≡ front ++ (gone ++ back)
  pub are_put : All IsPut put
  pub after_is : after ≡ record before { sets = front ++ (put ++ back); repair = false; fives = after.fives }
  pub fives : HasRightFives after

-- ---- room in the VTOC

-- the records that a data set uses: its format 1 and its format 3s
abbrev pub records_for : DataSet → ℕ
records_for set = 1 + set.threes

-- the records of a VTOC that are used: the format 4, the format 5s, and those of the data sets
abbrev pub used_records : OnlineVolume → ℕ
used_records volume = 1 + volume.fives + sum (map records_for volume.sets)

-- the others are free
abbrev pub free_records : OnlineVolume → ℕ
free_records volume = volume.dscbs - used_records volume

-- a change that would leave this volume needs so many records more than are used, and fewer are free
pub record IsFull (before after : OnlineVolume) (need free : ℕ) : Type 0 where
  pub need_is : used_records after ≡ used_records before + need
  pub free_is : free ≡ free_records before
  pub too_few : free < need
