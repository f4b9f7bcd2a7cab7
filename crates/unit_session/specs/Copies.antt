-- Which tracks are copied for a plan, and what the copies leave.
use Rattle.std.specs.Prelude.{◌≡◌, ◌≢◌, ℕ, ◌<◌, ◌≤◌, Bool, ◌==◌, ◌&&◌, not, List, ◌∷◌, ◌++◌, length, map, filter, drop, All, AllPairs, Contains, Option, Some, None}
use Rattle.std.specs.List.{zip, list_any}
use Rattle.ckd_image.specs.declared.device.Device.{Device}
use Rattle.ckd_image.specs.declared.track.Track.{Track}
use Rattle.ckd_image.specs.Address.{address_of}
use Rattle.ckd_image.specs.Device.{heads_of, slot_of}
use Rattle.ckd_image.specs.Track.{IsTrackText}
use Rattle.dasd_pool.specs.Count.{Rose}
use Rattle.dasd_pool.specs.Disk.{Image, Shape, Runs, none}
use Rattle.dasd_pool.specs.declared.pool.Pool.{Ghosts}
use Rattle.dsn_filter.specs.declared.dsn.Dsn.{Dsn}
use Rattle.redo_core.specs.Reading.{journal_of}
use Rattle.redo_core.specs.Stops.{JournalView, IsStatusOf}
use Rattle.volume_model.specs.Reads.{IsTextAt}
use Rattle.vtoc_core.specs.declared.volume.Row.{Row}
use Rattle.vtoc_core.specs.declared.volume.Volume.{Volume}
use Rattle.volume_change.specs.declared.change.Change.{Change}
use Rattle.unit_steps.specs.unit_change.Described.{AreShort}
use Rattle.unit_load.specs.declared.state.UnitState.{UnitState}
use Rattle.move_core.specs.Steps.{empty_text}
use Rattle.unit_steps.specs.declared.plan.Tracks.{Tracks}
use Rattle.unit_steps.specs.declared.plan.Tracks.TheVariants as texts
use Rattle.unit_steps.specs.Plans.{IsLoadedAt, HasRow, tracks_in}
use Rattle.unit_steps.specs.Copied.{IsPutBy}
use Rattle.unit_session.specs.declared.copies.TextMove.{TextMove}
use Rattle.unit_session.specs.declared.copies.Copies.{Copies}
use Rattle.unit_session.specs.declared.fault.PlanFault.{PlanFault}
use Rattle.unit_session.specs.declared.fault.PlanFault.TheVariants as faults

-- the texts of some tracks go to others, the first to the first; one that would go to its own track stays
abbrev pub moves_between : Bool → List ℕ → List ℕ → List TextMove
moves_between one_unit source target = map (λ pair. record { from = pair.0; to = pair.1 }) (filter (λ pair. not (one_unit && (pair.0 == pair.1))) (zip source target))

-- the copies of a data set's tracks onto others: its texts move, and the tracks behind them are emptied
pub record CopyTexts (device : Device) (from unit : ℕ) (source target : List ℕ) (copies : Copies) : Type 0 where
  pub device_is : copies.device ≡ device
  pub from_is : copies.from ≡ from
  pub unit_is : copies.unit ≡ unit
  pub moves_are : copies.moves.items ≡ moves_between (from == unit) source target
  pub empty_are : copies.empty.items ≡ drop (length source) target

-- a data set of this name was loaded of the unit
abbrev pub HasSource : List UnitState → ℕ → Dsn → Type 0
HasSource units from name = (source : Volume) × (origin : Row) × IsLoadedAt units from source × HasRow source name origin

-- the unit was loaded, and the change puts a row on it
abbrev pub HasTarget : List UnitState → ℕ → Change → Type 0
HasTarget units unit change = (volume : Volume) × (row : Row) × IsLoadedAt units unit volume × IsPutBy change row

-- the copies of its tracks onto those of the row that the change puts
abbrev pub AreRowCopies : List UnitState → ℕ → Dsn → ℕ → Change → Copies → Type 0
AreRowCopies units from name unit change copies =
    (source volume : Volume) × (origin row : Row) × IsLoadedAt units from source × HasRow source name origin × IsLoadedAt units unit volume × IsPutBy change row
    × CopyTexts volume.device from unit (tracks_in source origin) (tracks_in volume row) copies

-- the copies of a plan, if there are any
abbrev pub AreCopiesOf : List UnitState → Tracks → List (ℕ × Change) → Option Copies → Type 0
AreCopiesOf units (texts.Rows from name) (change ∷ changes) (Some copies) = AreRowCopies units from name change.0 change.1 copies
AreCopiesOf units (texts.Rows from name) (change ∷ changes) None = ⊥
AreCopiesOf units tracks changes copies = copies ≡ None

-- the tracks that are written
abbrev pub targets_of : Copies → List ℕ
targets_of copies = map (λ move. move.to) copies.moves.items ++ copies.empty.items

-- a track of a unit is one of them
abbrev pub IsTarget : Copies → ℕ → ℕ → Type 0
IsTarget copies u track = (u ≡ copies.unit) × Contains (targets_of copies) track

-- what is done for each copy there may be
abbrev pub OnCopies : (Copies → Type 0) → Option Copies → Type 0
OnCopies P None = Unit {0}
OnCopies P (Some copies) = P copies

-- each track that is copied has a text
abbrev pub HaveTexts : Image → Copies → Type 0
HaveTexts contents copies = All (λ move. (text : Track) × IsTrackText (address_of (heads_of copies.device) move.from) (contents copies.from move.from) text) copies.moves.items

-- the text of one track stands on another
abbrev pub IsTextCopied : Copies → Image → Image → TextMove → Type 0
IsTextCopied copies old new move =
    (text : Track) → IsTrackText (address_of (heads_of copies.device) move.from) (old copies.from move.from) text
    → IsTrackText (address_of (heads_of copies.device) move.to) (new copies.unit move.to) text

-- a track holds record 0 alone
abbrev pub IsEmptied : Copies → Image → ℕ → Type 0
IsEmptied copies new track = IsTextAt (heads_of copies.device) track (new copies.unit track) empty_text

-- What copies leave: each text stands on its new track, the others are empty, and all else is as it was.
pub record AreCopied (old new : Image) (copies : Copies) : Type 0 where
  pub texts : All (IsTextCopied copies old new) copies.moves.items
  pub empty : All (IsEmptied copies new) copies.empty.items
  pub same : (u b : ℕ) → ¬ IsTarget copies u b → new u b ≡ old u b

-- what is left where there may be none
abbrev pub CopiesLeave : Image → Image → Option Copies → Type 0
CopiesLeave old new None = (u b : ℕ) → new u b ≡ old u b
CopiesLeave old new (Some copies) = AreCopied old new copies

-- Copies may be made: source and target are units and tracks that are there, of slots of one size; no target is written twice, and none is a source.
pub record MayCopy (shape : Shape) (copies : Copies) : Type 0 where
  pub from_unit : copies.from < journal_of shape
  pub to_unit : copies.unit < journal_of shape
  pub source_few : shape.blocks copies.from ≤ 65535
  pub target_few : shape.blocks copies.unit ≤ 65535
  pub source_size : shape.block_size copies.from ≡ slot_of copies.device
  pub target_size : shape.block_size copies.unit ≡ slot_of copies.device
  pub sources : All (λ move. move.from < shape.blocks copies.from) copies.moves.items
  pub targets : All (λ track. track < shape.blocks copies.unit) (targets_of copies)
  pub apart : AllPairs (λ one other. one ≢ other) (targets_of copies)
  pub unwritten : All (λ move. ¬ IsTarget copies copies.from move.from) copies.moves.items

-- no block of the unit that is written is longer than a slot can be
abbrev pub IsShortFor : Shape → Image → Copies → Type 0
IsShortFor shape contents copies = AreShort (shape.blocks copies.unit) (contents copies.unit)

-- blocks of some tracks of a unit
abbrev pub is_among : ℕ → List ℕ → ℕ → ℕ → Bool
is_among unit tracks u b = (u == unit) && list_any (λ track. track == b) tracks

-- the blocks that copies write
abbrev pub may_write : Copies → ℕ → ℕ → Bool
may_write copies = is_among copies.unit (targets_of copies)

-- those of copies that there may be
abbrev pub may_write_for : Option Copies → ℕ → ℕ → Bool
may_write_for None = none
may_write_for (Some copies) = may_write copies

-- A journal before and after calls that write blocks of these alone, past the journal: what is under way stays.
pub record OnlyWrites {P : Type 0} (pools : Ghosts P) (may : ℕ → ℕ → Bool) (old new : JournalView P) : Type 0 where
  pub shape : pools.shape new.pool ≡ pools.shape old.pool
  pub later : pools.faults old.pool ≤ pools.faults new.pool
  pub runs : pools.tells → Runs may (pools.disk old.pool) (pools.disk new.pool)
  pub status : IsStatusOf old new

-- the contents that a pool tells of, before and after calls
abbrev pub contents_of : {P : Type 0} → Ghosts P → JournalView P → Image
contents_of pools journal = (pools.disk journal.pool).state.contents

-- the first of the tracks to be copied that has no text is this one
pub record IsFirstBad (contents : Image) (copies : Copies) (unit track : ℕ) : Type 0 where
  pub front : List TextMove
  pub move : TextMove
  pub back : List TextMove
  pub moves_are : copies.moves.items ≡ front ++ (move ∷ back)
  pub unit_is : unit ≡ copies.from
  pub track_is : track ≡ move.from
  pub bad : (text : Track) → ¬ IsTrackText (address_of (heads_of copies.device) track) (contents copies.from track) text
  pub good : All (λ other. (text : Track) × IsTrackText (address_of (heads_of copies.device) other.from) (contents copies.from other.from) text) front

-- why texts were not all found
abbrev pub IsLookFault : {P : Type 0} → Ghosts P → P → P → Copies → PlanFault → Type 0
IsLookFault pools old new copies faults.Pool = Rose (pools.faults old) (pools.faults new)
IsLookFault pools old new copies (faults.Bad unit track) = pools.tells → IsFirstBad (pools.disk old).state.contents copies unit track
IsLookFault pools old new copies _ = ⊥
