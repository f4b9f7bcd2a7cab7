-- What a unit is rests on its vital blocks alone.
use Rattle.std.proofs.Common.{◌≡◌, ◌⊎◌, ⊎_elim, inl, inr, ℕ, ◌+◌, ◌-◌, ◌<◌, ◌≤◌, List, [], ◌∷◌, map, Bool, refl, sym, ap, subst, ◌∙◌, arith}
use Rattle.std.specs.Prelude.{None, slice_index_or}
use Rattle.std.specs.List.{AllByRecursion}
use Rattle.std.proofs.lemmas.Bool.{and_parts, ltb-true, leb-true}
use Rattle.std.proofs.lemmas.List.Elements.{recursion_from_All}
use Rattle.ckd_image.specs.declared.head.Head.{Head}
use Rattle.ckd_image.specs.declared.track.Cchhr.{Cchhr}
use Rattle.ckd_image.specs.declared.track.Track.{Track}
use Rattle.ckd_image.specs.Address.{address_of}
use Rattle.ckd_image.specs.Device.{heads_of}
use Rattle.ckd_image.specs.Track.{IsTrackText}
use Rattle.vol_label.specs.declared.label.Label.{Label}
use Rattle.vol_label.specs.declared.fault.LabelFault.TheVariants.{BadLabel}
use Rattle.vol_label.specs.Label.{IsLabelFault}
use Rattle.free_map.specs.declared.run.Run.{Run}
use Rattle.free_map.specs.Runs.{HasTrack, InRuns}
use Rattle.free_map.proofs.Gaps.{append_left, append_right}
use Rattle.volume_model.specs.declared.why.Why.TheVariants as whys
use Rattle.volume_model.specs.declared.rule.VtocRule.{VtocRule}
use Rattle.volume_model.specs.declared.rule.VtocRule.TheVariants as rules
use Rattle.volume_model.specs.Dscbs.{extent_at}
use Rattle.volume_model.specs.Directory.{DirectoryRow}
use Rattle.volume_model.specs.Space.{track_at, run_of, end_of}
use Rattle.volume_model.specs.declared.place.Vtoc.{Vtoc}
use Rattle.volume_model.specs.declared.place.Breach.{Breach}
use Rattle.volume_model.specs.Sound.{Slots, IsTrackReading, IsReading, IsFormat4, IsFirstRuleBroken, IsVtoc, IsCheckFault, IsVolume, limit_of}
use Rattle.volume_model.specs.Unit.{Text, DataSet, OnlineVolume, UnitModel, online, offline, run_in, tracks_of, runs_of_sets}
use Rattle.volume_model.proofs.Blocks.{blocks_same}
use Rattle.volume_model.specs.Reads.{IsTextAt, AreTexts, IsDataSet, AreDataSets, IsOnline, HasBadLabel, HasLabelOf, HasBadVtoc, HasBlocks, IsUnit, IsVitalTrack, IsVital}
use Rattle.move_core.proofs.Below.{RowHasRuns, run_below, sound_rows, sets_below}
use Rattle.volume_model.proofs.Numbers.{tracks_all}

-- ---- the VTOC

pub format4_moves : (heads : ℕ) (pointer : Cchhr) (old new : Slots) → new (track_at heads pointer.at) ≡ old (track_at heads pointer.at) → (bytes : List ℕ)
    → IsFormat4 heads old pointer bytes → IsFormat4 heads new pointer bytes
format4_moves heads pointer old new same bytes is = record {
  text = is.text;
  rec = is.rec;
  stands = subst (λ (slot : List ℕ). IsTrackText pointer.at slot is.text) (sym same) is.stands;
  numbered = is.numbered;
  shaped = is.shaped;
  bytes_are = is.bytes_are;
  format = is.format;
}

reading_moves : (heads : ℕ) (old new : Slots) (run : Run) (tracks : _) → ((k : ℕ) → k < run.len → new (run.first + k) ≡ old (run.first + k)) → IsReading heads old run tracks → IsReading heads new run tracks
reading_moves heads old new run tracks same is = record {
  whole = is.whole;
  each = λ k less. subst (λ (slot : List ℕ). IsTrackReading heads (run.first + k) slot (slice_index_or tracks k None)) (sym (same k less)) (is.each k less);
}

vtoc_moves : (image : Head) (pointer : Cchhr) (old new : Slots) (sliding : Bool) (vtoc : Vtoc) → IsVtoc image old pointer sliding vtoc
    → new (track_at (heads_of image.device) pointer.at) ≡ old (track_at (heads_of image.device) pointer.at) → ((k : ℕ) → k < vtoc.run.len → new (vtoc.run.first + k) ≡ old (vtoc.run.first + k))
    → IsVtoc image new pointer sliding vtoc
vtoc_moves image pointer old new sliding vtoc is here same = record {
  bytes = is.bytes;
  format_4 = format4_moves (heads_of image.device) pointer old new here is.bytes is.format_4;
  geometry = is.geometry;
  extent = is.extent;
  heads_are = is.heads_are;
  limit_is = is.limit_is;
  place_is = is.place_is;
  valid_is = is.valid_is;
  alternates_are = is.alternates_are;
  run_is = is.run_is;
  reading = reading_moves (heads_of image.device) old new vtoc.run vtoc.tracks same is.reading;
}

-- the tracks of a VTOC are tracks of the image
pub vtoc_below : (image : Head) (pointer : Cchhr) (slots : Slots) (sliding : Bool) (vtoc : Vtoc) → IsVtoc image slots pointer sliding vtoc → (track : ℕ) → HasTrack vtoc.run track → track < image.tracks
vtoc_below image pointer slots sliding vtoc is track holds =
    let below : track < limit_of image is.bytes =
    run_below (heads_of image.device) (limit_of image is.bytes) (extent_at is.bytes 105) is.extent.run track (subst (λ (run : Run). HasTrack run track) is.run_is holds) in
    omega (arith, below)

-- the track of the pointer is one of them
pub pointer_held : (image : Head) (pointer : Cchhr) (slots : Slots) (sliding : Bool) (vtoc : Vtoc) → IsVtoc image slots pointer sliding vtoc → HasTrack vtoc.run (track_at (heads_of image.device) pointer.at)
pointer_held image pointer slots sliding vtoc is =
    let heads = heads_of image.device in
    let run = run_of heads (extent_at is.bytes 105) in
    let track = track_at heads pointer.at in
    let parts = and_parts _ _ is.extent.holds in
    let here : HasTrack run track = (leb-true run.first track parts.0, ltb-true track (end_of run) parts.1) in
    subst (λ (r : Run). HasTrack r track) (sym is.run_is) here

-- ---- an offline unit

module _ (image : Head) (pointer : Cchhr) (old new : Slots) (inside : track_at (heads_of image.device) pointer.at < image.tracks) (same : (track : ℕ) → track < image.tracks → new track ≡ old track) where
  there : new (track_at (heads_of image.device) pointer.at) ≡ old (track_at (heads_of image.device) pointer.at)
  there = same (track_at (heads_of image.device) pointer.at) inside

  format4_forth : (bytes : List ℕ) → IsFormat4 (heads_of image.device) old pointer bytes → IsFormat4 (heads_of image.device) new pointer bytes
  format4_forth = format4_moves (heads_of image.device) pointer old new there

  rule_moves : (rule : VtocRule) → IsFirstRuleBroken image old pointer rule → IsFirstRuleBroken image new pointer rule
  rule_moves rules.NoFormat4 broken = λ bytes is. broken bytes (format4_moves (heads_of image.device) pointer new old (sym there) bytes is)
  rule_moves rules.Geometry broken = (broken.0, format4_forth broken.0 broken.1, broken.2)
  rule_moves rules.VtocExtent broken = (broken.0, format4_forth broken.0 broken.1, broken.2, broken.3)
  rule_moves rules.Track broken = absurd broken
  rule_moves rules.Dscb broken = absurd broken
  rule_moves rules.Name broken = absurd broken
  rule_moves rules.Pointer broken = absurd broken
  rule_moves rules.Range broken = absurd broken
  rule_moves rules.Overlap broken = absurd broken
  rule_moves rules.Free broken = absurd broken

  pub check_moves : (sliding : Bool) (told : Breach) → IsCheckFault image old pointer sliding told → IsCheckFault image new pointer sliding told
  check_moves sliding told = ⊎_elim
      (λ first. inl (rule_moves told.rule first.0, first.1))
      (λ other. inr (
        other.0,
        vtoc_moves image pointer old new sliding other.0 other.1 there
            (λ k less. same (other.0.run.first + k) (vtoc_below image pointer old sliding other.0 other.1 (other.0.run.first + k) (omega arith, omega (arith, less)))),
        other.2,
      ))

bad_label_moves : (head : List ℕ) (blocks : ℕ) (old new : Slots) (why : ℕ) → ((track : ℕ) → track < blocks → new track ≡ old track) → HasBadLabel head blocks old why → HasBadLabel head blocks new why
bad_label_moves head blocks old new why same is =
    let Says : List ℕ → Track → Type 0 = λ slot text. IsTrackText (address_of (heads_of is.image.device) 0) slot text in
    let P : List ℕ → Type 0 = λ slot. (((text : Track) → ¬ Says slot text) × (why ≡ 1)) ⊎ ((text : Track) × Says slot text × IsLabelFault is.image text.recs (BadLabel why)) in
    record {
      image = is.image;
      head_stands = is.head_stands;
      fault = subst P (sym (same 0 (omega (arith, is.head_stands.stands.cylinders.0)))) is.fault;
    }

label_moves : (head : List ℕ) (blocks : ℕ) (old new : Slots) (image : Head) (label : Label) → ((track : ℕ) → track < blocks → new track ≡ old track)
    → HasLabelOf head blocks old image label → HasLabelOf head blocks new image label
label_moves head blocks old new image label same is = record {
  head_stands = is.head_stands;
  text = is.text;
  text_stands = subst (λ (slot : List ℕ). IsTrackText (address_of (heads_of image.device) 0) slot is.text) (sym (same 0 (omega (arith, is.head_stands.stands.cylinders.0)))) is.text_stands;
  stands = is.stands;
}

bad_vtoc_moves : (sliding : Bool) (head : List ℕ) (blocks : ℕ) (old new : Slots) (track number why : ℕ) → ((t : ℕ) → t < blocks → new t ≡ old t)
    → HasBadVtoc sliding head blocks old track number why → HasBadVtoc sliding head blocks new track number why
bad_vtoc_moves sliding head blocks old new track number why same is = record {
  image = is.image;
  label = is.label;
  labelled = label_moves head blocks old new is.image is.label same is.labelled;
  told = is.told;
  fault = check_moves is.image is.label.vtoc old new is.labelled.stands.text.inside.1 (λ t less. same t (omega (arith, less, is.labelled.head_stands.tracks_are))) sliding is.told is.fault;
  track_is = is.track_is;
  number_is = is.number_is;
  why_is = is.why_is;
}

blocks_move : (blocks : ℕ) (old new : Slots) (kept : List (List ℕ)) → ((t : ℕ) → t < blocks → new t ≡ old t) → HasBlocks blocks old kept → HasBlocks blocks new kept
blocks_move blocks old new kept same is = is ∙ blocks_same old new 0 blocks (λ track low less. same track (omega (arith, less)))

-- ---- texts

module _ (heads : ℕ) (place : ℕ → ℕ) (old new : Slots) where
  abbrev IsSame : ℕ → Type 0
  IsSame track = new (place track) ≡ old (place track)

  texts_move : (tracks : List ℕ) (texts : List Text) → AllByRecursion IsSame tracks → AreTexts heads place old tracks texts → AreTexts heads place new tracks texts
  texts_move [] [] same are = tt
  texts_move [] (text ∷ texts) same are = absurd are
  texts_move (track ∷ tracks) [] same are = absurd are
  texts_move (track ∷ tracks) (text ∷ texts) same are =
      (subst (λ (slot : List ℕ). IsTextAt heads (place track) slot text) (sym same.0) are.0, texts_move tracks texts same.1 are.1)

  set_moves : (row : DirectoryRow) (set : DataSet) → ((track : ℕ) → InRuns (map run_in set.extents) track → IsSame track) → IsDataSet heads place old row set → IsDataSet heads place new row set
  set_moves row set same is = record {
    name_is = is.name_is;
    fields_are = is.fields_are;
    extents_are = is.extents_are;
    texts_are = texts_move (tracks_of set.extents) set.texts (recursion_from_All IsSame (tracks_of set.extents) (tracks_all IsSame set.extents same)) is.texts_are;
    threes_are = is.threes_are;
  }

  pub sets_move : (rows : List DirectoryRow) (sets : List DataSet) → ((track : ℕ) → InRuns (runs_of_sets sets) track → IsSame track) → AreDataSets heads place old rows sets
      → AreDataSets heads place new rows sets
  sets_move [] [] same are = tt
  sets_move [] (set ∷ sets) same are = absurd are
  sets_move (row ∷ rows) [] same are = absurd are
  sets_move (row ∷ rows) (set ∷ sets) same are = (
    set_moves row set (λ track here. same track (append_left (map run_in set.extents) (runs_of_sets sets) track here)) are.0,
    sets_move rows sets (λ track there. same track (append_right (map run_in set.extents) (runs_of_sets sets) track there)) are.1,
  )

-- ---- an online volume

module _ (sliding : Bool) (place : ℕ → ℕ) (head : List ℕ) (blocks : ℕ) (old new : Slots) (volume : OnlineVolume) (is : IsOnline sliding place head blocks old volume)
    (down : (track : ℕ) → place track ≤ track) (same : (block : ℕ) → block < blocks → IsVitalTrack place volume block → new block ≡ old block) where
  first_same : new 0 ≡ old 0
  first_same = same 0 (omega (arith, is.stands.head_stands.cylinders.0)) (inr (inl refl))

  vtoc_same : (track : ℕ) → HasTrack is.stands.vtoc.run track → new track ≡ old track
  vtoc_same track holds =
      let below : track < is.stands.image.tracks = vtoc_below is.stands.image is.found.label.vtoc old sliding is.stands.vtoc is.stands.vtoc_stands track holds in
      same track (omega (arith, below, is.stands.tracks_are)) (inr (inr (inl (subst (λ (run : Run). HasTrack run track) (sym is.vtoc_is) holds))))

  volume_moves : IsVolume head blocks new sliding is.found
  volume_moves =
      let s = is.stands in
      record {
        image = s.image;
        track_0 = s.track_0;
        vtoc = s.vtoc;
        head_stands = s.head_stands;
        tracks_are = s.tracks_are;
        device_is = s.device_is;
        track_0_stands = subst (λ (slot : List ℕ). IsTrackText (address_of (heads_of s.image.device) 0) slot s.track_0) (sym first_same) s.track_0_stands;
        label_stands = s.label_stands;
        vtoc_stands = vtoc_moves s.image is.found.label.vtoc old new sliding s.vtoc s.vtoc_stands
            (vtoc_same (track_at (heads_of s.image.device) is.found.label.vtoc.at) (pointer_held s.image is.found.label.vtoc old sliding s.vtoc s.vtoc_stands))
            (λ k less. vtoc_same (s.vtoc.run.first + k) (omega arith, omega (arith, less)));
        sound = s.sound;
        usable_is = s.usable_is;
        free_are = s.free_are;
        rows_are = s.rows_are;
      }

  pub set_track_below : (track : ℕ) → InRuns (runs_of_sets volume.sets) track → track < blocks
  set_track_below track holds =
      let s = is.stands in
      let heads : s.vtoc.heads ≡ heads_of is.found.device = s.vtoc_stands.heads_are ∙ ap heads_of (sym s.device_is) in
      let rows = subst (λ (h : ℕ). AllByRecursion (RowHasRuns h s.vtoc.limit) is.found.rows) heads (sound_rows s.vtoc is.found.rows s.sound s.rows_are) in
      let below : track < s.vtoc.limit = sets_below (heads_of is.found.device) s.vtoc.limit place old is.found.rows volume.sets is.sets_are rows track holds in
      omega (arith, below, s.vtoc_stands.limit_is, s.tracks_are)

  pub online_moves : IsOnline sliding place head blocks new volume
  unfolding volume_moves vtoc_moves
  online_moves = record {
    found = is.found;
    stands = volume_moves;
    serial_is = is.serial_is;
    device_is = is.device_is;
    usable_is = is.usable_is;
    vtoc_is = is.vtoc_is;
    first_is = is.first_is;
    four_is = is.four_is;
    sets_are = sets_move (heads_of is.found.device) place old new is.found.rows volume.sets
        (λ track holds. same (place track) (omega (arith, down track, set_track_below track holds)) (inr (inr (inr (track, holds, refl)))))
        is.sets_are;
    repair_is = is.repair_is;
    indexed_is = is.indexed_is;
    dscbs_are = is.dscbs_are;
    fives_are = is.fives_are;
    tail_is = is.tail_is ∙ blocks_same old new volume.usable (blocks - volume.usable) (λ track behind less. same track (omega (arith, behind, less)) (inl behind));
  }

-- ---- a unit

module _ (filling sliding : Bool) (place : ℕ → ℕ) (head : List ℕ) (blocks : ℕ) (old new : Slots) (down : (track : ℕ) → place track ≤ track) where
  pub unit_moves : (unit : UnitModel) → ((block : ℕ) → block < blocks → IsVital place head blocks old unit block → new block ≡ old block)
      → IsUnit filling sliding place head blocks old unit → IsUnit filling sliding place head blocks new unit
  unit_moves (online volume) same is = (is.0, online_moves sliding place head blocks old new volume is.1 down same)
  unit_moves (offline (whys.Head why) kept) same is = (is.0, blocks_move blocks old new kept (λ t less. same t less tt) is.1)
  unit_moves (offline whys.Filling kept) same is = is
  unit_moves (offline (whys.Label why) kept) same is =
      (is.0, bad_label_moves head blocks old new why (λ t less. same t less tt) is.1, blocks_move blocks old new kept (λ t less. same t less tt) is.2)
  unit_moves (offline (whys.Vtoc track number why) kept) same is =
      (is.0, bad_vtoc_moves sliding head blocks old new track number why (λ t less. same t less tt) is.1, blocks_move blocks old new kept (λ t less. same t less tt) is.2)
