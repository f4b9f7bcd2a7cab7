-- What it takes to put a part on the outputs of a dump, and what stands there then.
use Rattle.std.specs.Prelude.{◌≡◌, ℕ, ◌+◌, ◌<◌, ◌≤◌, false, IsTrue, List, [], ◌∷◌, ◌++◌, length, take, sum_by, All, AllPairs, Option, None}
use Rattle.std.specs.Ordering.{is_lt, nat_cmp}
use Rattle.std.specs.Cmp.Lexicographic.{slice_cmp}
use Rattle.ckd_image.specs.declared.device.Device.{Device}
use Rattle.dsn_filter.specs.declared.dsn.Dsn.{Dsn}
use Rattle.dump_fmt.specs.declared.piece.DumpHead.{DumpHead}
use Rattle.dump_fmt.specs.declared.progress.Progress.{Progress}
use Rattle.dump_fmt.specs.Outs.{OutSeen}
use Rattle.dump_fmt.specs.Parts.{DumpPart}
use Rattle.dump_fmt.specs.Front.{Front, empty_front, largest_count, whole_tracks}
use Rattle.dump_fmt.specs.Writing.{IsWriting}
use Rattle.vtoc_core.specs.declared.volume.Row.{Row}
use Rattle.vtoc_core.specs.declared.volume.Volume.{Volume}
use Rattle.job_turns.specs.job_copies.unit_steps.Plans.{HasRow, tracks_in}

-- what stands of a logical dump: parts that ended, and one under way
abbrev pub holding : List DumpPart → Option DumpPart → Front
holding parts current = record { parts = parts; current = current; slots = [] }

-- one name of 44 bytes is before another
abbrev pub IsBefore : List ℕ → List ℕ → Type 0
IsBefore name other = IsTrue (is_lt (slice_cmp nat_cmp name other))

-- The dump is a logical one for a device, and its next part may be of this name, and of so many tracks: the names so far are before it, and there is room in
-- the counts.
pub record IsReadyFor (device : Device) (name : List ℕ) (tracks : ℕ) (head : DumpHead) (parts : List DumpPart) : Type 0 where
  pub logical : head.full ≡ false
  pub device_is : head.device ≡ device
  pub earlier : All (λ part. IsBefore (take 44 part.f1) name) parts
  pub few : length parts < largest_count
  pub few_tracks : whole_tracks (holding parts None) + tracks ≤ largest_count

-- such a dump is under way, between two of its parts
abbrev pub MayPutPart : {X : Type 0} → (X → OutSeen) → Device → List ℕ → ℕ → Progress → List X → Type 0
MayPutPart {X} seen device name tracks progress outs =
    (before : List X) × (head : DumpHead) × (parts : List DumpPart) × IsReadyFor device name tracks head parts × IsWriting seen before head (holding parts None) progress outs

-- whichever was, these parts more stand in it, and this one is under way
abbrev pub HasPut : {X : Type 0} → (X → OutSeen) → Device → List ℕ → ℕ → List DumpPart → Option DumpPart → Progress → List X → Progress → List X → Type 0
HasPut {X} seen device name tracks more current progress outs after sent =
    (before : List X) (head : DumpHead) (parts : List DumpPart) → IsReadyFor device name tracks head parts → IsWriting seen before head (holding parts None) progress outs
    → IsWriting seen before head (holding (parts ++ more) current) after sent

-- ---- all parts of a dump

-- a logical dump for a device was begun, and nothing stands in it yet
abbrev pub HasBegun : {X : Type 0} → (X → OutSeen) → Device → Progress → List X → Type 0
HasBegun {X} seen device progress outs =
    (before : List X) × (head : DumpHead) × (head.full ≡ false) × (head.device ≡ device) × IsWriting seen before head empty_front progress outs

-- whichever was, these parts stand in it, and this one is under way
abbrev pub HoldsNow : {X : Type 0} → (X → OutSeen) → Device → List DumpPart → Option DumpPart → Progress → List X → Progress → List X → Type 0
HoldsNow {X} seen device parts current progress outs after sent =
    (before : List X) (head : DumpHead) → head.full ≡ false → head.device ≡ device → IsWriting seen before head empty_front progress outs
    → IsWriting seen before head (holding parts current) after sent

-- each name has its row
abbrev pub HaveRows : Volume → List Dsn → List Row → Type 0
HaveRows volume [] [] = Unit {0}
HaveRows volume (name ∷ names) (row ∷ rows) = HasRow volume name row × HaveRows volume names rows
HaveRows volume _ _ = ⊥

-- The names are those of rows, one after the other in the order of names, and none is there twice; they and their tracks can be counted.
pub record AreInOrder (volume : Volume) (names : List Dsn) : Type 0 where
  pub rows : List Row
  pub have : HaveRows volume names rows
  pub order : AllPairs (λ row other. IsBefore row.name other.name) rows
  pub few : length rows ≤ largest_count
  pub few_tracks : sum_by (λ row. length (tracks_in volume row)) rows ≤ largest_count
