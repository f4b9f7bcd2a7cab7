-- The texts of a part are those at the front of its data set: a track has one text at most, and the first track without one ends them.
use Rattle.std.proofs.Common.{◌≡◌, ℕ, zero, suc, ◌/◌, ◌%◌, ◌≤◌, List, [], ◌∷◌, ◌++◌, length, take, drop, map, replicate, All, Some, refl, sym, ap, subst, ◌∙◌, arith}
use Rattle.std.specs.Prelude.{slice_get}
use Rattle.std.proofs.lemmas.List.Elements.{All-head, All-tail}
use Rattle.std.proofs.lemmas.Option.{none-some, same_Some}
use Rattle.ckd_image.specs.declared.device.Device.{Device}
use Rattle.ckd_image.specs.declared.device.Device.TheVariants.{D3390, D3380, D3350}
use Rattle.ckd_image.specs.declared.track.Rec.{Rec}
use Rattle.ckd_image.specs.declared.track.Track.{Track}
use Rattle.ckd_image.specs.declared.track.TrackAt.{TrackAt}
use Rattle.ckd_image.specs.Address.{address_of}
use Rattle.ckd_image.specs.Bytes.{Begins}
use Rattle.ckd_image.specs.Device.{heads_of}
use Rattle.ckd_image.specs.Track.{end_mark, record_text, IsRecord, IsTrackText}
use Rattle.ckd_image.proofs.Devices.{is_address}
use Rattle.ckd_image.proofs.OneText.{parts_of, records_apart, same_front, same_track}
use Rattle.ckd_image.proofs.Texts.{texts_split}
use Rattle.dump_fmt.specs.Parts.{DumpPart}
use Rattle.volume_model.specs.Reads.{AreTexts, IsTextAt}
use Rattle.volume_model.specs.Sound.{Slots}
use Rattle.volume_model.specs.Unit.{DataSet, OnlineVolume, Text, good, bad}
use Rattle.vtoc_core.specs.declared.volume.Row.{Row}
use Rattle.vtoc_core.specs.declared.volume.Volume.{Volume}
use Rattle.move_core.specs.Steps.{IsNewKind, original_of}
use Rattle.job_turns.specs.job_copies.unit_change.Described.{DescribesSet, own_place}
use Rattle.job_turns.specs.job_copies.unit_steps.Plans.{tracks_in}
use Rattle.job_dumps.specs.Parts.{EndsHere, IsPartOfSet}
use Rattle.job_dumps.specs.Texts.{IsFrontOfSet, IsOfRow}

-- ---- a track of a device has one text at most, however long its slot is: no record of it begins as the end mark does

head_small : (device : Device) (track : ℕ) → (address_of (heads_of device) track).head ≤ 255
head_small D3390 track = omega arith
head_small D3380 track = omega arith
head_small D3350 track = omega arith

no_mark : (at : TrackAt) (rec : Rec) (x y : List ℕ) → at.head ≤ 255 → end_mark ++ x ≡ record_text at rec ++ y → ⊥
no_mark at rec x y small same =
    let high : 255 ≡ at.head / 256 % 256 = cc in
    omega (arith, high, small)

abbrev IsMarked : List ℕ → Type 0
IsMarked bytes = Begins end_mark bytes

one_text : (device : Device) (track : ℕ) (slot : List ℕ) (a b : Track) → track ≤ 65535 → IsTrackText (address_of (heads_of device) track) slot a
    → IsTrackText (address_of (heads_of device) track) slot b → a ≡ b
one_text device track slot a b few one other =
    let at = address_of (heads_of device) track in
    let fits = is_address device track few in
    let front = same_front at a.flag b.flag a.r0 b.r0 _ _ one.sound.zero other.sound.zero (sym (parts_of at a one.text.0) ∙ sym one.text.1 ∙ other.text.1 ∙ parts_of at b other.text.0) in
    let recs = texts_split (record_text at) IsRecord IsMarked (records_apart at fits)
    (λ rec x is marked. no_mark at rec marked.0 x (head_small device track) (sym marked.1))
    a.recs b.recs (end_mark ++ one.text.0) (end_mark ++ other.text.0) one.sound.records other.sound.records (one.text.0, refl) (other.text.0, refl) front.2 in
    same_track a b front.0 front.1 recs.0

-- ---- texts that were read

abbrev NoText : Device → Slots → ℕ → Type 0
NoText device slots track = (text : Track) → ¬ IsTrackText (address_of (heads_of device) track) (slots track) text

-- the texts from one on
record Rest (device : Device) (slots : Slots) (tracks : List ℕ) (texts : List Text) (read : List Track) : Type 0 where
  rest : List Text
  texts_are : texts ≡ map good read ++ rest
  rest_are : AreTexts (heads_of device) own_place slots (drop (length read) tracks) rest

nil_texts : (device : Device) (slots : Slots) (texts : List Text) → AreTexts (heads_of device) own_place slots [] texts → texts ≡ []
nil_texts device slots [] are = refl
nil_texts device slots (text ∷ texts) are = absurd are

module _ (device : Device) (slots : Slots) where
  abbrev Are : List ℕ → List Text → Type 0
  Are tracks texts = AreTexts (heads_of device) own_place slots tracks texts

  same_text : (track : ℕ) (text : Text) (read : Track) → track ≤ 65535 → IsTextAt (heads_of device) track (slots track) text → IsTextAt (heads_of device) track (slots track) (good read)
      → text ≡ good read
  same_text track (good text) read few is was = ap good (one_text device track (slots track) text read few is was)
  same_text track (bad bytes) read few is was = absurd (is.1 read was)

  rest_of : (tracks : List ℕ) (texts : List Text) (read : List Track) → All (λ track. track ≤ 65535) tracks → length read ≤ length tracks → Are tracks texts
      → Are (take (length read) tracks) (map good read)
      → Rest device slots tracks texts read
  rest_of tracks texts [] few within are were = record { rest = texts; texts_are = refl; rest_are = are }
  rest_of [] texts (text ∷ read) few within are were = absurd (omega (arith, within))
  rest_of (track ∷ tracks) [] (text ∷ read) few within are were = absurd are
  rest_of (track ∷ tracks) (first ∷ texts) (text ∷ read) few within are were =
      let later = rest_of tracks texts read (All-tail (λ (t : ℕ). t ≤ 65535) track tracks few) (omega (arith, within)) are.1 were.1 in
      let same = same_text track first text (All-head (λ (t : ℕ). t ≤ 65535) track tracks few) are.0 were.0 in
      record { rest = later.rest; texts_are = (λ i. same i ∷ later.texts_are i); rest_are = later.rest_are }

  -- where the next track has no text, the texts end
  ends_bad : (tracks : List ℕ) (n track : ℕ) (rest : List Text) → slice_get tracks n ≡ Some track → NoText device slots track → Are (drop n tracks) rest → EndsHere rest
  ends_bad [] n track rest at none are = absurd (none-some track at)
  ends_bad (other ∷ tracks) zero track [] at none are = tt
  ends_bad (other ∷ tracks) zero track (good text ∷ rest) at none are = subst (λ (t : ℕ). NoText device slots t) (sym (same_Some other track at)) none text are.0
  ends_bad (other ∷ tracks) zero track (bad bytes ∷ rest) at none are = tt
  ends_bad (other ∷ tracks) (suc n) track rest at none are = ends_bad tracks n track rest at none are

  -- where no track is left, so do they
  ends_all : (tracks : List ℕ) (n : ℕ) (rest : List Text) → length tracks ≡ n → Are (drop n tracks) rest → EndsHere rest
  ends_all [] n [] long are = tt
  ends_all [] zero (text ∷ rest) long are = absurd are
  ends_all [] (suc n) (text ∷ rest) long are = absurd are
  ends_all (track ∷ tracks) zero rest long are = absurd (omega (arith, long))
  ends_all (track ∷ tracks) (suc n) rest long are = ends_all tracks n rest (omega (arith, long)) are

  as_many : (tracks : List ℕ) (texts : List Text) → Are tracks texts → length tracks ≡ length texts
  as_many [] [] are = refl
  as_many [] (text ∷ texts) are = absurd are
  as_many (track ∷ tracks) [] are = absurd are
  as_many (track ∷ tracks) (text ∷ texts) are = ap suc (as_many tracks texts are.1)

-- ---- the good texts at the front, and what is behind them

goods : List Text → List Track
goods [] = []
goods (good text ∷ texts) = text ∷ goods texts
goods (bad bytes ∷ texts) = []

behind : List Text → List Text
behind [] = []
behind (good text ∷ texts) = behind texts
behind (bad bytes ∷ texts) = bad bytes ∷ texts

split_goods : (texts : List Text) → texts ≡ map good (goods texts) ++ behind texts
unfolding goods behind
split_goods [] = refl
split_goods (good text ∷ texts) = ap (λ (l : List Text). good text ∷ l) (split_goods texts)
split_goods (bad bytes ∷ texts) = refl

ends_behind : (texts : List Text) → EndsHere (behind texts)
unfolding behind
ends_behind [] = tt
ends_behind (good text ∷ texts) = ends_behind texts
ends_behind (bad bytes ∷ texts) = tt

-- ---- the part of a data set

module _ (loaded : Volume) (row : Row) (volume : OnlineVolume) (set : DataSet) (describes : DescribesSet (heads_of loaded.device) row set) (device : Device) (slots : Slots)
    (few : All (λ track. track ≤ 65535) (tracks_in loaded row)) (are : AreTexts (heads_of device) own_place slots (tracks_in loaded row) set.texts) where
  -- a part with the texts that stand at the front is that of the data set
  part_of : (part : DumpPart) → IsOfRow loaded row part → (rest : List Text) → set.texts ≡ map good part.texts ++ rest → EndsHere rest → IsPartOfSet volume set part
  part_of part is rest texts ends = (
    original_of volume set part.kind,
    record { kind_is = subst (λ extents. IsNewKind extents part.kind) (sym describes.extents_are) is.kind_is; original_is = refl },
    record {
      f1_is = is.f1_is ∙ ap (λ (l : List ℕ). l ++ replicate 35 0) (sym describes.fields_are);
      kind_is = refl;
      tracks_are = is.tracks_are ∙ as_many device slots (tracks_in loaded row) set.texts are;
      rest = rest;
      texts_are = texts;
      ends = ends;
    },
  )

  module _ (part : DumpPart) (is : IsOfRow loaded row part) (within : length part.texts ≤ length (tracks_in loaded row))
      (read : AreTexts (heads_of device) own_place slots (take (length part.texts) (tracks_in loaded row)) (map good part.texts)) where
    found : Rest device slots (tracks_in loaded row) set.texts part.texts
    found = rest_of device slots (tracks_in loaded row) set.texts part.texts few within are read

    -- it ends before a track without a text
    pub stopped_part : (track : ℕ) → slice_get (tracks_in loaded row) (length part.texts) ≡ Some track → NoText device slots track → IsPartOfSet volume set part
    stopped_part track at none = part_of part is found.rest found.texts_are (ends_bad device slots (tracks_in loaded row) (length part.texts) track found.rest at none found.rest_are)

    -- or it has all tracks
    pub whole_part : length part.texts ≡ length (tracks_in loaded row) → IsPartOfSet volume set part
    whole_part long = part_of part is found.rest found.texts_are (ends_all device slots (tracks_in loaded row) (length part.texts) found.rest (sym long) found.rest_are)

    -- whatever is still to come, it is a front of the data set's part
    pub front_part : IsFrontOfSet volume set part
    front_part =
        let rest = found.rest in
        let all : DumpPart = record { f1 = part.f1; tracks = part.tracks; kind = part.kind; texts = part.texts ++ goods rest } in
        let texts : set.texts ≡ map good all.texts ++ behind rest =
        found.texts_are ∙ ap (λ (l : List Text). map good part.texts ++ l) (split_goods rest) ∙ joined part.texts (goods rest) (behind rest) in (
          all,
          part_of all (record { f1_is = is.f1_is; tracks_are = is.tracks_are; kind_is = is.kind_is }) (behind rest) texts (ends_behind rest),
          record { f1_is = refl; tracks_are = refl; kind_is = refl; more = goods rest; texts_are = refl },
        )
      where
        joined : (a b : List Track) (rest : List Text) → map good a ++ (map good b ++ rest) ≡ map good (a ++ b) ++ rest
        joined [] b rest = refl
        joined (x ∷ a) b rest = ap (λ (l : List Text). good x ∷ l) (joined a b rest)
