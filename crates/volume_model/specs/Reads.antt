-- What the bytes of a unit say it is.
use Rattle.std.specs.Prelude.{◌≡◌, ◌⊎◌, ℕ, ◌+◌, ◌-◌, ◌≤◌, Bool, true, false, not, ◌==◌, List, [], ◌∷◌, ◌++◌, length, map, take, drop, replicate, bit_and, slice_index}
use Rattle.ckd_image.specs.declared.fault.CkdFault.TheVariants.{BadHead}
use Rattle.ckd_image.specs.declared.head.Head.{Head}
use Rattle.ckd_image.specs.declared.track.Track.{Track}
use Rattle.ckd_image.specs.Address.{address_of}
use Rattle.ckd_image.specs.Device.{heads_of}
use Rattle.ckd_image.specs.Head.{IsHead, IsHeadFault}
use Rattle.ckd_image.specs.Track.{IsTrackText}
use Rattle.vol_label.specs.declared.fault.LabelFault.TheVariants.{BadLabel}
use Rattle.vol_label.specs.declared.label.Label.{Label}
use Rattle.vol_label.specs.Label.{IsLabel, IsLabelFault}
use Rattle.free_map.specs.Runs.{HasTrack, InRuns}
use Rattle.volume_model.specs.declared.why.Why.TheVariants as whys
use Rattle.volume_model.specs.declared.extent.ExtentField.{ExtentField}
use Rattle.volume_model.specs.declared.place.Breach.{Breach}
use Rattle.volume_model.specs.Dscbs.{numbers_below}
use Rattle.volume_model.specs.Directory.{DirectoryRow}
use Rattle.volume_model.specs.Rules.{number_of}
use Rattle.volume_model.specs.Space.{run_of, track_at}
use Rattle.volume_model.specs.Check.{records_of, fives_of}
use Rattle.volume_model.specs.Sound.{Slots, IsCheckFault, Volume, IsVolume}
use Rattle.volume_model.specs.Unit.{Text, good, bad, Extent, DataSet, OnlineVolume, UnitModel, online, offline, tracks_of, runs_of_sets}

-- ---- texts

-- what a slot says of a track
abbrev pub IsTextAt : ℕ → ℕ → List ℕ → Text → Type 0
IsTextAt heads track slot (good text) = IsTrackText (address_of heads track) slot text
IsTextAt heads track slot (bad bytes) = (bytes ≡ slot) × ((text : Track) → ¬ IsTrackText (address_of heads track) slot text)

-- The texts of tracks. Each stands at the track's place, which is the track itself where no slide is open.
abbrev pub AreTexts : ℕ → (ℕ → ℕ) → Slots → List ℕ → List Text → Type 0
AreTexts heads place slots [] [] = Unit {0}
AreTexts heads place slots (track ∷ tracks) (text ∷ texts) = IsTextAt heads (place track) (slots (place track)) text × AreTexts heads place slots tracks texts
AreTexts heads place slots _ _ = ⊥

-- ---- data sets

-- a format 1 without the number of its extents, the extents and the pointer
abbrev pub fields_of_1 : List ℕ → List ℕ
fields_of_1 bytes = take 59 bytes ++ (0 ∷ take 45 (drop 60 bytes))

-- a format 4 without what each change of the VTOC writes: the highest format 1, the number of free records, and two indicators
abbrev pub fields_of_4 : List ℕ → List ℕ
fields_of_4 bytes = take 45 bytes ++ (replicate 7 0 ++ (take 6 (drop 52 bytes) ++ (bit_and (slice_index bytes 58) 0x7B ∷ drop 59 bytes)))

abbrev pub extent_in : ℕ → ExtentField → Extent
extent_in heads field = record { run = run_of heads field; kind = field.kind }

-- a data set as the directory has it, and with the texts of its tracks
pub record IsDataSet (heads : ℕ) (place : ℕ → ℕ) (slots : Slots) (row : DirectoryRow) (set : DataSet) : Type 0 where
  pub name_is : set.name ≡ take 44 row.format_1
  pub fields_are : set.fields ≡ fields_of_1 row.format_1
  pub extents_are : set.extents ≡ map (extent_in heads) row.extents
  pub texts_are : AreTexts heads place slots (tracks_of set.extents) set.texts
  pub threes_are : set.threes ≡ row.threes

abbrev pub AreDataSets : ℕ → (ℕ → ℕ) → Slots → List DirectoryRow → List DataSet → Type 0
AreDataSets heads place slots [] [] = Unit {0}
AreDataSets heads place slots (row ∷ rows) (set ∷ sets) = IsDataSet heads place slots row set × AreDataSets heads place slots rows sets
AreDataSets heads place slots _ _ = ⊥

-- ---- an online volume

-- the bytes of so many blocks of a unit, from one on
abbrev pub blocks_from : Slots → ℕ → ℕ → List (List ℕ)
blocks_from slots first count = map (λ place. slots (first + place)) (numbers_below count)

-- the indicator of an index in a format 4
abbrev pub has_index : List ℕ → Bool
has_index bytes = not (bit_and (slice_index bytes 58) 0x01 == 0)

-- A volume that passes its checks. While it has an open slide, the indicator of an interrupted change counts as off.
pub record IsOnline (sliding : Bool) (place : ℕ → ℕ) (head : List ℕ) (blocks : ℕ) (slots : Slots) (volume : OnlineVolume) : Type 0 where
  pub found : Volume
  pub stands : IsVolume head blocks slots sliding found
  pub serial_is : volume.serial ≡ found.label.serial
  pub device_is : volume.device ≡ found.device
  pub usable_is : volume.usable ≡ found.usable
  pub vtoc_is : volume.vtoc ≡ stands.vtoc.run
  pub first_is : volume.first ≡ stands.track_0
  pub four_is : volume.four ≡ fields_of_4 stands.vtoc_stands.bytes
  pub sets_are : AreDataSets (heads_of found.device) place slots found.rows volume.sets
  pub repair_is : volume.repair ≡ not stands.vtoc.valid
  pub indexed_is : volume.indexed ≡ has_index stands.vtoc_stands.bytes
  pub dscbs_are : volume.dscbs ≡ length (records_of stands.vtoc)
  pub fives_are : volume.fives ≡ length (fives_of stands.vtoc)
  pub tail_is : volume.tail ≡ blocks_from slots volume.usable (blocks - volume.usable)

-- ---- an offline unit

-- the head passes
pub record HasImage (head : List ℕ) (blocks : ℕ) (image : Head) : Type 0 where
  pub stands : IsHead head blocks image.device
  pub tracks_are : image.tracks ≡ blocks

-- what track 0 says
abbrev pub IsFirstText : Head → Slots → Track → Type 0
IsFirstText image slots text = IsTrackText (address_of (heads_of image.device) 0) (slots 0) text

-- the label fails: track 0 says nothing, which counts as a label that isn't there, or a rule of labels is broken
pub record HasBadLabel (head : List ℕ) (blocks : ℕ) (slots : Slots) (why : ℕ) : Type 0 where
  pub image : Head
  pub head_stands : HasImage head blocks image
  pub fault : (((text : Track) → ¬ IsFirstText image slots text) × (why ≡ 1))
      ⊎ ((text : Track) × IsFirstText image slots text × IsLabelFault image text.recs (BadLabel why))

-- the label stands
pub record HasLabelOf (head : List ℕ) (blocks : ℕ) (slots : Slots) (image : Head) (label : Label) : Type 0 where
  pub head_stands : HasImage head blocks image
  pub text : Track
  pub text_stands : IsFirstText image slots text
  pub stands : IsLabel image text.recs label

-- the VTOC fails at this place, by this rule
pub record HasBadVtoc (sliding : Bool) (head : List ℕ) (blocks : ℕ) (slots : Slots) (track number why : ℕ) : Type 0 where
  pub image : Head
  pub label : Label
  pub labelled : HasLabelOf head blocks slots image label
  pub told : Breach
  pub fault : IsCheckFault image slots label.vtoc sliding told
  pub track_is : track ≡ told.place.track
  pub number_is : number ≡ told.place.record_number
  pub why_is : why ≡ number_of told.rule

-- all blocks of a unit
abbrev pub HasBlocks : ℕ → Slots → List (List ℕ) → Type 0
HasBlocks blocks slots kept = kept ≡ blocks_from slots 0 blocks

-- ---- a unit

-- The first of these decides: the head fails, a restore is unfinished, the label fails, the VTOC fails. Otherwise it is online.
abbrev pub IsUnit : Bool → Bool → (ℕ → ℕ) → List ℕ → ℕ → Slots → UnitModel → Type 0
IsUnit filling sliding place head blocks slots (online volume) = (filling ≡ false) × IsOnline sliding place head blocks slots volume
IsUnit filling sliding place head blocks slots (offline (whys.Head why) kept) = IsHeadFault head blocks (BadHead why) × HasBlocks blocks slots kept
IsUnit filling sliding place head blocks slots (offline whys.Filling kept) = (filling ≡ true) × ((image : Head) × HasImage head blocks image) × (kept ≡ [])
IsUnit filling sliding place head blocks slots (offline (whys.Label why) kept) = (filling ≡ false) × HasBadLabel head blocks slots why × HasBlocks blocks slots kept
IsUnit filling sliding place head blocks slots (offline (whys.Vtoc track number why) kept) =
    (filling ≡ false) × HasBadVtoc sliding head blocks slots track number why × HasBlocks blocks slots kept

-- ---- what the meaning of a unit rests on

-- of an online volume all blocks but the tracks that hold nothing
abbrev pub IsVitalTrack : (ℕ → ℕ) → OnlineVolume → ℕ → Type 0
IsVitalTrack place volume block =
    (volume.usable ≤ block) ⊎ ((block ≡ 0) ⊎ (HasTrack volume.vtoc block ⊎ ((track : ℕ) × InRuns (runs_of_sets volume.sets) track × (place track ≡ block))))

-- of an unfinished restore track 0 and the track that its label names, and of another offline unit all blocks
abbrev pub IsVital : (ℕ → ℕ) → List ℕ → ℕ → Slots → UnitModel → ℕ → Type 0
IsVital place head blocks slots (online volume) block = IsVitalTrack place volume block
IsVital place head blocks slots (offline whys.Filling kept) block =
    (block ≡ 0) ⊎ ((image : Head) × (label : Label) × HasLabelOf head blocks slots image label × (track_at (heads_of image.device) label.vtoc.at ≡ block))
IsVital place head blocks slots (offline _ kept) block = Unit {0}
