-- The texts of a data set are those of the tracks of its row.
use Rattle.std.proofs.Common.{suc, ◌≡◌, ◌<◌, ◌≤◌, ◌++◌, ℕ, List, [], ◌∷◌, Bool, true, false, take, drop, All, Contains, Some, refl, sym, ap, subst, ◌∙◌, arith}
use Rattle.std.specs.Prelude.{IsTrue, ◌↔◌, slice_get}
use Rattle.std.proofs.Math.Seq.{split_at}
use Rattle.std.proofs.lemmas.List.Elements.{All-nil, All-cons, All-head, All-tail}
use Rattle.std.proofs.lemmas.Bool.{false≢true}
use Rattle.std.proofs.lemmas.Option.{slice_get_within}
use Rattle.ckd_image.specs.declared.device.Device.{Device}
use Rattle.ckd_image.specs.declared.track.Track.{Track}
use Rattle.ckd_image.specs.declared.track.TrackAt.{TrackAt}
use Rattle.ckd_image.specs.Address.{address_of}
use Rattle.ckd_image.specs.Device.{heads_of}
use Rattle.ckd_image.specs.Readdress.{IsReaddressed}
use Rattle.ckd_image.specs.Track.{IsTrackText}
use Rattle.dasd_pool.specs.Disk.{Shape, State}
use Rattle.dsn_filter.specs.declared.dsn.Dsn.{Dsn}
use Rattle.redo_core.specs.declared.control.Control.{Control}
use Rattle.redo_core.specs.Phases.{IsAtRest}
use Rattle.redo_core.specs.Reading.{journal_of}
use Rattle.volume_model.specs.Pinned.{IsNameOf}
use Rattle.volume_model.specs.Reads.{IsTextAt, IsUnit, AreTexts}
use Rattle.volume_model.specs.Sound.{Slots}
use Rattle.volume_model.specs.Unit.{Text, good, bad, DataSet, OnlineVolume, UnitModel, online}
use Rattle.volume_model.proofs.Units.{same_online}
use Rattle.vtoc_core.specs.declared.volume.Row.{Row}
use Rattle.vtoc_core.specs.declared.volume.Volume.{Volume}
use Rattle.volume_change.proofs.Names.{one_text}
use Rattle.move_core.specs.Facts.{Facts}
use Rattle.move_core.specs.Stands.{IsGood, IsSettled}
use Rattle.unit_steps.specs.unit_change.Described.{own_place}
use Rattle.unit_load.specs.declared.state.UnitState.{UnitState}
use Rattle.unit_load.specs.declared.state.UnitState.TheVariants.{Online}
use Rattle.unit_steps.specs.Loaded.{HaveStates, AreLoaded, KeepVtocs}
use Rattle.unit_steps.specs.Plans.{HasRow, IsLoadedAt, tracks_in}
use Rattle.unit_steps.proofs.Rows.{set_of, gone_set}
use Rattle.unit_steps.proofs.Units.{IsOnlineUnit, online_unit}
use Rattle.unit_session.specs.Sessions.{HasOnlyFills}
use Rattle.unit_session.specs.Texts.{HasTextOn, AreTracksAt}
use Rattle.unit_session.proofs.CopyPlaces.{few_blocks, kept_of, row_below}
use Rattle.unit_session.proofs.Modelling.{unit_at}
use Rattle.vtoc_layout.proofs.Apart.{all_from}

-- ---- one track

-- a slot has a text where its address could be changed to what it is
pub text_told : (heads track : ℕ) (slots : Slots) (read slot : List ℕ) (at : TrackAt) (told : Bool) → read ≡ slots track → at ≡ address_of heads track
    → (IsTrue told → IsReaddressed at at read slot) → (¬ IsTrue told → (text : Track) → ¬ IsTrackText at read text) → (IsTrue told ↔ HasTextOn heads slots track)
text_told heads track slots read slot at true read_is at_is moved none =
    let m = moved refl in
    let here : IsTrackText at read m.track = record { sound = m.sound; text = (m.rest, m.before) } in (
      λ yes. (m.track, subst (λ (a : TrackAt). IsTrackText a (slots track) m.track) at_is (subst (λ (l : List ℕ). IsTrackText at l m.track) read_is here)),
      λ has. refl,
    )
text_told heads track slots read slot at false read_is at_is moved none = (
  λ yes. absurd (false≢true yes),
  λ has.
      absurd (none (λ yes. false≢true yes) has.0
      (subst (λ (a : TrackAt). IsTrackText a read has.0) (sym at_is) (subst (λ (l : List ℕ). IsTrackText (address_of heads track) l has.0) (sym read_is) has.1))),
)

-- ---- texts

good_at : (heads track : ℕ) (slots : Slots) (text : Text) → IsTextAt heads track (slots track) text → HasTextOn heads slots track → IsGood text
good_at heads track slots (good text) is has = tt
good_at heads track slots (bad bytes) is has = absurd (is.1 has.0 has.1)

text_at : (heads track : ℕ) (slots : Slots) (text : Text) → IsTextAt heads track (slots track) text → IsGood text → HasTextOn heads slots track
text_at heads track slots (good text) is stands = (text, is)
text_at heads track slots (bad bytes) is stands = absurd stands

module _ (heads : ℕ) (slots : Slots) where
  all_good : (tracks : List ℕ) (texts : List Text) → AreTexts heads own_place slots tracks texts → All (HasTextOn heads slots) tracks → All IsGood texts
  all_good [] [] are each = All-nil IsGood
  all_good [] (text ∷ texts) are each = absurd are
  all_good (track ∷ tracks) [] are each = absurd are
  all_good (track ∷ tracks) (text ∷ texts) are each =
      All-cons IsGood text texts (good_at heads track slots text are.0 (All-head (HasTextOn heads slots) track tracks each))
      (all_good tracks texts are.1 (All-tail (HasTextOn heads slots) track tracks each))

  all_texts : (tracks : List ℕ) (texts : List Text) → AreTexts heads own_place slots tracks texts → All IsGood texts → All (HasTextOn heads slots) tracks
  all_texts [] [] are each = All-nil (HasTextOn heads slots)
  all_texts [] (text ∷ texts) are each = absurd are
  all_texts (track ∷ tracks) [] are each = absurd are
  all_texts (track ∷ tracks) (text ∷ texts) are each =
      All-cons (HasTextOn heads slots) track tracks (text_at heads track slots text are.0 (All-head IsGood text texts each))
      (all_texts tracks texts are.1 (All-tail IsGood text texts each))

-- ---- a data set

same_first : (a b : DataSet) → a ∷ [] ≡ b ∷ [] → a ≡ b
same_first a b same = cc

module _ {head : List ℕ} {blocks : ℕ} {slots : Slots} {volume : Volume} {model : UnitModel} (is : IsOnlineUnit head blocks slots volume model) where
  -- the data set that has a row's name is the row's
  set_texts : (name : Dsn) (row : Row) (set : DataSet) → HasRow volume name row → Contains is.before.sets set → IsNameOf name set.name
      → AreTexts (heads_of volume.device) own_place slots (tracks_in volume row) set.texts
  set_texts name row set has there named =
      let found = set_of is row has.there in
      let sets = is.before.sets in
      let split : sets ≡ take there.0 sets ++ ((set ∷ []) ++ drop (suc there.0) sets) =
      split_at sets there.0 set there.1 ∙ ap (λ (s : DataSet). take there.0 sets ++ (s ∷ drop (suc there.0) sets)) there.2 in
      let same : set.name ≡ found.0.name = one_text name set.name row.name named has.name_is ∙ sym found.1.name_is in
      let one : set ≡ found.0 = same_first set found.0 (gone_set is found.0 set (take there.0 sets) (drop (suc there.0) sets) (set ∷ []) found.1.there refl split same) in
      subst (λ (s : DataSet). AreTexts (heads_of volume.device) own_place slots (tracks_in volume row) s.texts) (sym one) found.1.texts_are

-- the texts of a data set are those of its tracks
pub texts_of : {facts : Facts} {shape : Shape} {state : State} {room : ℕ} {control : Control} {fills : List Bool} {models : List UnitModel}
    → facts.shape ≡ shape → IsSettled facts state models → (units : List UnitState) (unit : ℕ) (loaded : Volume) (name : Dsn) (row : Row)
    → IsAtRest shape state room control fills → HasOnlyFills control fills units → HaveStates shape units → AreLoaded shape state.contents units → IsLoadedAt units unit loaded
    → HasRow loaded name row → (volume : OnlineVolume) (set : DataSet) → slice_get models unit ≡ Some (online volume) → Contains volume.sets set → IsNameOf name set.name
    → AreTexts (heads_of loaded.device) own_place (state.contents unit) (tracks_in loaded row) set.texts
texts_of {shape = shape} {state = state} same settled units unit loaded name row rest free have are at has volume set there held named =
    let own = are unit (Online loaded) at in
    let less : unit < journal_of shape = omega (arith, slice_get_within units unit (Online loaded) at, have) in
    let stands = subst (λ (filling : Bool). IsUnit filling false own_place (shape.head unit) (shape.blocks unit) (state.contents unit) (online volume)) (free.fit unit (Online loaded) at)
    (unit_at same settled unit (online volume) rest free.idle less there) in
    let is = online_unit (shape.head unit) (shape.blocks unit) (state.contents unit) loaded (online volume) own.0 own.1 stands in
    let sets : Contains is.before.sets set = subst (λ (v : OnlineVolume). Contains v.sets set) (same_online volume is.before is.model_is) held in
    set_texts is name row set has sets named

-- what the tracks of a data set say is said of its texts
pub texts_told : {facts : Facts} {shape : Shape} {state : State} {room : ℕ} {control : Control} {fills : List Bool} {models : List UnitModel}
    → facts.shape ≡ shape → IsSettled facts state models → (units : List UnitState) (unit : ℕ) (name : Dsn) (device : Device) (tracks : List ℕ)
    → IsAtRest shape state room control fills → HasOnlyFills control fills units → HaveStates shape units → AreLoaded shape state.contents units → AreTracksAt units unit name device tracks
    → (volume : OnlineVolume) (set : DataSet) → slice_get models unit ≡ Some (online volume) → Contains volume.sets set → IsNameOf name set.name
    → (told : Bool) → (IsTrue told ↔ All (HasTextOn (heads_of device) (state.contents unit)) tracks) → (IsTrue told ↔ All IsGood set.texts)
texts_told {shape = shape} {state = state} same settled units unit name device tracks rest free have loaded at volume set there held named told says =
    let heads : heads_of device ≡ heads_of at.volume.device = ap heads_of at.device_is in
    let slots = state.contents unit in
    let are : AreTexts (heads_of device) own_place slots tracks set.texts =
    subst (λ (h : ℕ). AreTexts h own_place slots tracks set.texts) (sym heads)
    (subst (λ (l : List ℕ). AreTexts (heads_of at.volume.device) own_place slots l set.texts) (sym at.tracks_are)
    (texts_of same settled units unit at.volume name at.row rest free have loaded at.loaded at.row_is volume set there held named)) in (
      λ yes. all_good (heads_of device) slots tracks set.texts are (says.0 yes),
      λ each. says.1 (all_texts (heads_of device) slots tracks set.texts are each),
    )

-- ---- the tracks

module _ {shape : Shape} (units : List UnitState) (vtocs : List (List ℕ)) (unit : ℕ) (name : Dsn) (device : Device) (tracks : List ℕ) (have : HaveStates shape units)
    (keep : KeepVtocs shape units vtocs) (at : AreTracksAt units unit name device tracks) where
  pub unit_there : unit < journal_of shape
  unit_there = omega (arith, slice_get_within units unit (Online at.volume) at.loaded, have)

  pub tracks_few : shape.blocks unit ≤ 65535
  tracks_few = few_blocks (kept_of units vtocs have keep unit at.volume at.loaded).2

  pub tracks_below : All (λ track. track < shape.blocks unit) tracks
  tracks_below =
      subst (λ (l : List ℕ). All (λ track. track < shape.blocks unit) l) (sym at.tracks_are)
      (all_from (λ (track : ℕ). track < shape.blocks unit) (tracks_in at.volume at.row)
      (λ track there. row_below (kept_of units vtocs have keep unit at.volume at.loaded).2 at.row at.row_is.there track there))
