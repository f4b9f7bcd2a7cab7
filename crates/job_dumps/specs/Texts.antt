-- Texts of tracks that are read and put on the outputs of a dump: words that link the parts of that.
use Rattle.std.specs.Prelude.{◌≡◌, ℕ, ◌+◌, ◌≤◌, Bool, true, false, List, [], ◌∷◌, ◌++◌, length, take, map, replicate, Option, Some, None, option_to_list, Result, IfOk, IfSome, slice_get}
use Rattle.ckd_image.specs.declared.device.Device.{Device}
use Rattle.ckd_image.specs.declared.track.Track.{Track}
use Rattle.ckd_image.specs.Address.{address_of}
use Rattle.ckd_image.specs.Device.{heads_of}
use Rattle.ckd_image.specs.Track.{IsTrackText}
use Rattle.dasd_pool.specs.declared.pool.Pool.{Ghosts}
use Rattle.dsn_filter.specs.declared.dsn.Dsn.{Dsn}
use Rattle.dump_fmt.specs.declared.piece.DumpHead.{DumpHead}
use Rattle.dump_fmt.specs.declared.piece.Piece.{Piece}
use Rattle.dump_fmt.specs.declared.piece.Piece.TheVariants.{Part}
use Rattle.dump_fmt.specs.declared.progress.Progress.{Progress}
use Rattle.dump_fmt.specs.Outs.{OutSeen}
use Rattle.dump_fmt.specs.Parts.{DumpPart, is_whole}
use Rattle.dump_fmt.specs.Writing.{IsWriting}
use Rattle.volume_model.specs.Reads.{AreTexts, fields_of_1}
use Rattle.volume_model.specs.Unit.{DataSet, OnlineVolume, good}
use Rattle.vtoc_core.specs.declared.volume.Row.{Row}
use Rattle.vtoc_core.specs.declared.volume.Volume.{Volume}
use Rattle.unit_load.specs.declared.stop.UnitFault.{UnitFault}
use Rattle.unit_load.specs.declared.state.UnitState.{UnitState}
use Rattle.move_core.specs.Facts.{shown}
use Rattle.move_core.specs.Runs.{IsRun}
use Rattle.move_core.specs.Steps.{IsNewKind}
use Rattle.job_turns.specs.job_copies.unit_change.Described.{own_place}
use Rattle.job_turns.specs.job_copies.unit_steps.Plans.{HasRow, IsLoadedAt, extents_in, tracks_in}
use Rattle.job_turns.specs.job_steps.unit_session.Sessions.{IsSameSession, SessionView}
use Rattle.job_turns.specs.job_steps.Units.{ForUnits, IsSet}
use Rattle.job_dumps.specs.declared.texts.SetTracks.{SetTracks}
use Rattle.job_dumps.specs.Parts.{IsFrontOf, IsPartOfSet}
use Rattle.job_dumps.specs.Putting.{HasPut, MayPutPart, holding}

-- a session was only read
pub record OnlyLooks {P : Type 0} (pools : Ghosts P) (old new : SessionView P) : Type 0 where
  pub run : IsRun pools.tells (shown pools old.pool) (shown pools new.pool) (Unit {0}) [] None
  pub same : IsSameSession pools old new

-- a slot was read: it has this text, or none
abbrev pub IsReadAs : ℕ → ℕ → List ℕ → Option Track → Type 0
IsReadAs heads track slot (Some text) = IsTrackText (address_of heads track) slot text
IsReadAs heads track slot None = (text : Track) → ¬ IsTrackText (address_of heads track) slot text

-- ---- a part under way

-- it is one of a logical dump for a device, and so many tracks more may stand in it
pub record IsPartUnderWay (device : Device) (count : ℕ) (head : DumpHead) (part : DumpPart) : Type 0 where
  pub logical : head.full ≡ false
  pub device_is : head.device ≡ device
  pub room : length part.texts + count ≤ part.tracks

abbrev pub MayPutTexts : {X : Type 0} → (X → OutSeen) → Device → ℕ → Progress → List X → Type 0
MayPutTexts {X} seen device count progress outs =
    (before : List X) × (head : DumpHead) × (parts : List DumpPart) × (part : DumpPart) × IsPartUnderWay device count head part × IsWriting seen before head (holding parts (Some part)) progress outs

abbrev pub with_texts : DumpPart → List Track → DumpPart
with_texts part texts = record { f1 = part.f1; tracks = part.tracks; kind = part.kind; texts = part.texts ++ texts }

-- whichever was under way, these texts more stand in it
abbrev pub HasPutTexts : {X : Type 0} → (X → OutSeen) → Device → ℕ → List Track → Progress → List X → Progress → List X → Type 0
HasPutTexts {X} seen device count texts progress outs after sent =
    (before : List X) (head : DumpHead) (parts : List DumpPart) (part : DumpPart) → IsPartUnderWay device count head part → IsWriting seen before head (holding parts (Some part)) progress outs
    → IsWriting seen before head (holding parts (Some (with_texts part texts))) after sent

-- the text of a track was put, if it has one
pub record PutsNext {P X : Type 0} (pools : Ghosts P) (seen : X → OutSeen) (session : SessionView P) (unit : ℕ) (device : Device) (track : ℕ) (progress : Progress) (outs : List X)
    (after : Progress) (sent : List X) (found : Option Track) : Type 0 where
  pub read : pools.tells → IsReadAs (heads_of device) track ((pools.disk session.pool).state.contents unit track) found
  pub put : HasPutTexts seen device 1 (option_to_list found) progress outs after sent

-- all tracks have texts, or the next one has none
abbrev pub StopsAt : {P : Type 0} → Ghosts P → SessionView P → SetTracks → List Track → Bool → Type 0
StopsAt pools session set texts true = length texts ≡ length set.tracks.items
StopsAt pools session set texts false =
    (track : ℕ) × (slice_get set.tracks.items (length texts) ≡ Some track)
    × (pools.tells → IsReadAs (heads_of set.device) track ((pools.disk session.pool).state.contents set.unit track) None)

-- the texts of the first of a data set's tracks were put
pub record PutsTexts {P X : Type 0} (pools : Ghosts P) (seen : X → OutSeen) (session : SessionView P) (set : SetTracks) (progress : Progress) (outs : List X) (after : Progress) (sent : List X)
    (result : Result Bool UnitFault) : Type 0 where
  pub texts : List Track
  pub within : length texts ≤ length set.tracks.items
  pub read : pools.tells → AreTexts (heads_of set.device) own_place ((pools.disk session.pool).state.contents set.unit) (take (length texts) set.tracks.items) (map good texts)
  pub put : HasPutTexts seen set.device (length set.tracks.items) texts progress outs after sent
  pub stops : IfOk result (StopsAt pools session set texts)

-- ---- a part

-- what the part of a row says of it beside its texts
pub record IsOfRow (volume : Volume) (row : Row) (part : DumpPart) : Type 0 where
  pub f1_is : part.f1 ≡ fields_of_1 row.f1 ++ replicate 35 0
  pub tracks_are : part.tracks ≡ length (tracks_in volume row)
  pub kind_is : IsNewKind (extents_in volume row) part.kind

-- the row of a name, on the volume of a unit as it was loaded
pub record IsAt (units : List UnitState) (unit : ℕ) (name : Dsn) : Type 0 where
  pub volume : Volume
  pub row : Row
  pub loaded : IsLoadedAt units unit volume
  pub row_is : HasRow volume name row

-- a part was put, of all tracks of a data set or of those before the first without a text
pub record PutsPart {P X : Type 0} (pools : Ghosts P) (seen : X → OutSeen) (session : SessionView P) (unit : ℕ) (name : Dsn) (progress : Progress) (outs : List X) (after : Progress)
    (sent : List X) (whole : Bool) : Type 0 where
  pub at : IsAt session.units unit name
  pub part : DumpPart
  pub of_row : IsOfRow at.volume at.row part
  pub whole_is : is_whole part ≡ whole
  pub of_set : ForUnits pools session (λ units. (volume : OnlineVolume) (set : DataSet) → IsSet units unit name volume set → IsPartOfSet volume set part)
  pub put : HasPut seen at.volume.device at.row.name (length (tracks_in at.volume at.row)) (part ∷ []) None progress outs after sent

-- a part may be under way that is to be that of a data set
abbrev pub IsFrontOfSet : OnlineVolume → DataSet → DumpPart → Type 0
IsFrontOfSet volume set part = (whole : DumpPart) × IsPartOfSet volume set whole × IsFrontOf part whole

pub record LeavesPart {P X : Type 0} (pools : Ghosts P) (seen : X → OutSeen) (session : SessionView P) (unit : ℕ) (name : Dsn) (progress : Progress) (outs : List X) (after : Progress)
    (sent : List X) : Type 0 where
  pub at : IsAt session.units unit name
  pub current : Option DumpPart
  pub of_set : IfSome current (λ part. ForUnits pools session (λ units. (volume : OnlineVolume) (set : DataSet) → IsSet units unit name volume set → IsFrontOfSet volume set part))
  pub put : HasPut seen at.volume.device at.row.name (length (tracks_in at.volume at.row)) [] current progress outs after sent

-- a part may be put of the data set of a name
abbrev pub MayPutSet : {X : Type 0} → (X → OutSeen) → List UnitState → ℕ → Dsn → Progress → List X → Type 0
MayPutSet seen units unit name progress outs =
    (at : IsAt units unit name) × MayPutPart seen at.volume.device at.row.name (length (tracks_in at.volume at.row)) progress outs

-- what is needed for a part, apart from its texts: the piece that it begins with, and its tracks
pub record IsSetToDump (units : List UnitState) (unit : ℕ) (name : Dsn) (head : Piece) (set : SetTracks) : Type 0 where
  pub at : IsAt units unit name
  pub part : DumpPart
  pub of_row : IsOfRow at.volume at.row part
  pub head_is : head ≡ Part part.f1 part.tracks part.kind
  pub unit_is : set.unit ≡ unit
  pub device_is : set.device ≡ at.volume.device
  pub tracks_are : set.tracks.items ≡ tracks_in at.volume at.row
