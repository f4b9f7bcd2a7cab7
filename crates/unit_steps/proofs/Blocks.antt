-- The blocks of a rendered change: tracks of the VTOC in ascending order, each as long as its slot is.
use Rattle.std.proofs.Common.{◌≡◌, ◌≢◌, ◌⊎◌, inl, inr, ℕ, ◌+◌, ◌-◌, ◌*◌, ◌<◌, ◌≤◌, List, [], ◌∷◌, ◌++◌, length, take, drop, replicate, map, All, Any, Contains, Bool, Option, Some, None, false, refl, sym, ap, subst, ◌∙◌, arith}
use Rattle.std.specs.Prelude.{cond, slice_index_or}
use Rattle.std.proofs.lemmas.Bool.{eq-eqb, ne_eqb}
use Rattle.std.proofs.lemmas.List.{get_or-map, length-append, length-replicate}
use Rattle.std.proofs.lemmas.List.Elements.{All-contains, All-contains_itself, All-get_or, All-weaker, All-head, All-tail}
use Rattle.ckd_image.specs.declared.device.Device.{Device}
use Rattle.ckd_image.specs.declared.head.Head.{Head}
use Rattle.ckd_image.specs.declared.track.Track.{Track}
use Rattle.ckd_image.specs.declared.track.TrackAt.{TrackAt}
use Rattle.ckd_image.specs.Address.{address_of}
use Rattle.ckd_image.specs.Device.{heads_of, slot_of}
use Rattle.ckd_image.specs.Track.{IsTrackText, track_text}
use Rattle.free_map.specs.declared.run.Run.{Run}
use Rattle.volume_model.specs.declared.place.Placed.{Placed}
use Rattle.volume_model.specs.declared.place.Vtoc.{Vtoc}
use Rattle.volume_model.specs.Sound.{Slots, IsDscbRecord, IsTrackReading}
use Rattle.vtoc_check.specs.Slots.{AreSlotsOf}
use Rattle.vtoc_core.specs.declared.volume.Volume.{Volume}
use Rattle.vtoc_layout.proofs.Distinct.{first_or_later, in_none}
use Rattle.vtoc_load.specs.LoadedVtoc.{IsLoadedVtoc}
use Rattle.vtoc_write.specs.declared.blocks.Block.{Block}
use Rattle.vtoc_write.specs.Edited.{rec_after, text_after}
use Rattle.vtoc_write.specs.Written.{slot_at, block_of, IsRewritten, IsBlockFor, AreAscending, AreRewritten}
use Rattle.vtoc_write.proofs.Texts.{front_within, long_after}
use Rattle.volume_model.proofs.Addresses.{one_text_anywhere}
use Rattle.layout_edit.specs.Change.{edits_of}
use Rattle.unit_change.specs.render_laws.Rendered.{WasLoaded}
use Rattle.unit_change.proofs.render_laws.Before.{tracks_stand}
use Rattle.volume_change.specs.declared.change.Change.{Change}
use Rattle.volume_change.specs.declared.change.Change.TheVariants.{Repair, Put, Swap, Remove, Mark}
use Rattle.unit_change.specs.vtoc_render.declared.change.Rendered.{Rendered}
use Rattle.unit_change.specs.vtoc_render.Change.{IsChangeWritten}
use Rattle.unit_change.specs.vtoc_render.Loads.{OfEachVtoc}
use Rattle.unit_change.proofs.FormatFour.{home_of, home_in}
use Rattle.unit_change.proofs.LoadedTracks.{four, four_here}
use Rattle.unit_load.specs.Kept.{IsFromSlots}
use Rattle.ckd_image.proofs.Devices.{short_slot}
use Rattle.unit_change.proofs.UnitLoads.{slot_long}
use Rattle.unit_load.proofs.Keeping.{few_tracks}

-- ---- lists of blocks

-- the first block of a track is the only one
found_itself : (blocks : List Block) (block : Block) → AreAscending blocks → Contains blocks block → block_of blocks block.track ≡ Some block
found_itself [] block ascending there = absurd (in_none block there)
found_itself (b ∷ blocks) block ascending there = by (found_itself blocks block ascending.1) (first_or_later b block blocks there)
  where
    by : (Contains blocks block → block_of blocks block.track ≡ Some block) → ((b ≡ block) ⊎ Contains blocks block) → block_of (b ∷ blocks) block.track ≡ Some block
    by later (inl here) =
        ap (λ (t : Bool). cond t (Some b) (block_of blocks block.track)) (eq-eqb b.track block.track (ap (λ (x : Block). x.track) here)) ∙ ap Some here
    by later (inr behind) =
        let less : b.track < block.track = All-contains (λ (x : Block). b.track < x.track) blocks block ascending.0 behind in
        ap (λ (t : Bool). cond t (Some b) (block_of blocks block.track)) (ne_eqb b.track block.track (λ same. absurd (omega (arith, same, less)))) ∙ later behind

-- ascending tracks between two are no more than lie there
pub few_blocks : (blocks : List Block) (low high : ℕ) → low ≤ high → AreAscending blocks → All (λ block. low ≤ block.track) blocks → All (λ block. block.track < high) blocks
    → length blocks + low ≤ high
few_blocks [] low high order ascending above below = omega (arith, order)
few_blocks (block ∷ blocks) low high order ascending above below =
    let first : low ≤ block.track = All-head (λ (b : Block). low ≤ b.track) block blocks above in
    let last : block.track < high = All-head (λ (b : Block). b.track < high) block blocks below in
    let behind : All (λ (b : Block). block.track + 1 ≤ b.track) blocks =
    All-weaker (λ (b : Block). block.track < b.track) (λ (b : Block). block.track + 1 ≤ b.track) (λ b less. omega (arith, less)) blocks ascending.0 in
    let rest = few_blocks blocks (block.track + 1) high (omega (arith, last)) ascending.1 behind (All-tail (λ (b : Block). b.track < high) block blocks below) in
    omega (arith, rest, first)

-- the blocks of a run of tracks, in ascending order, of so many bytes each
pub record AreBlocksOf (run : Run) (size : ℕ) (blocks : List Block) : Type 0 where
  pub above : All (λ block. run.first ≤ block.track) blocks
  pub below : All (λ block. block.track < run.first + run.len) blocks
  pub ascending : AreAscending blocks
  pub whole : All (λ block. length block.slot ≡ size) blocks

-- ---- a slot that is written anew

-- where a list is the same after each of its elements was changed, none was
none_changes : {X : Type 0} (change : X → X) (list : List X) → map change list ≡ list → ¬ Any (λ x. change x ≢ x) list
none_changes change list same (k, x, less, at, other) =
    other (ap change (sym at) ∙ sym (get_or-map change list k x x less) ∙ ap (λ (l : List _). slice_index_or l k x) same ∙ at)

slot_whole : (edits : List Placed) (heads track : ℕ) (old new : List ℕ) (text : Track) → length old ≤ 65536 → IsTrackText (address_of heads track) old text → All IsDscbRecord text.recs
    → IsRewritten edits heads track old new → length new ≡ length old
slot_whole edits heads track old new text short stands shaped is =
    let at : TrackAt = address_of heads track in
    let same : text ≡ is.text = one_text_anywhere at old text is.text short stands is.stands in
    let own : All IsDscbRecord is.text.recs = subst (λ (t : Track). All IsDscbRecord t.recs) same shaped in
    let spelled = track_text at (text_after edits track is.text) in
    let as_long : length spelled ≡ length (track_text at is.text) = long_after edits track at is.text own is.new_shaped in
    let within : length (track_text at is.text) ≤ length old = front_within (track_text at is.text) old is.stands.text in
    let whole : length new ≡ length (spelled ++ replicate (length old - length spelled) 0) = ap length is.new_is in
    omega (arith, whole, length-append spelled (replicate (length old - length spelled) 0), length-replicate {A = ℕ} (length old - length spelled) 0, as_long, within)

-- it isn't the slot that was there
slot_anew : (edits : List Placed) (heads track : ℕ) (old new : List ℕ) → length old ≤ 65536 → IsRewritten edits heads track old new → new ≢ old
slot_anew edits heads track old new short is same =
    let at : TrackAt = address_of heads track in
    let stands : IsTrackText at old (text_after edits track is.text) = subst (λ (slot : List ℕ). IsTrackText at slot (text_after edits track is.text)) same is.new_stands in
    let texts : text_after edits track is.text ≡ is.text = one_text_anywhere at old (text_after edits track is.text) is.text short stands is.stands in
    none_changes (rec_after edits track) is.text.recs (ap (λ (t : Track). t.recs) texts) is.changes

-- ---- the slots of a VTOC

module _ {head : List ℕ} {blocks : ℕ} {volume : Volume} {slots : List ℕ} (from : IsFromSlots false head blocks volume slots) where
  abbrev is : IsLoadedVtoc from.image from.label from.unit false volume
  is = from.loaded

  pub few : from.image.tracks ≤ 65535
  few = few_tracks head blocks from.image from.image_is

  of_device : AreSlotsOf from.loaded.vtoc.run (slot_of from.image.device) slots from.unit
  of_device =
      subst (λ (d : Device). AreSlotsOf is.vtoc.run (slot_of d) slots from.unit) is.volume.device_is
      (subst (λ (run : Run). AreSlotsOf run (slot_of volume.device) slots from.unit) is.volume.vtoc_is from.slots_are)

  whole : length slots ≡ from.loaded.vtoc.run.len * slot_of from.image.device
  whole = from.whole ∙ (λ i. (is.volume.vtoc_is i).len * slot_of (is.volume.device_is i))

  track_long : (k : ℕ) → k < from.loaded.vtoc.run.len → length (from.unit (from.loaded.vtoc.run.first + k)) ≡ slot_of from.image.device
  track_long k less = ap length (of_device k less) ∙ slot_long from.image.device is.vtoc.run.first k is.vtoc.run.len slots less whole

  pub home_short : length (from.unit (home_of from.image from.label.vtoc)) ≤ 65536
  home_short =
      let held = home_in from.image from.unit from.label.vtoc false is.vtoc is.stands.stands in
      let there : is.vtoc.run.first + (home_of from.image from.label.vtoc - is.vtoc.run.first) ≡ home_of from.image from.label.vtoc = omega (arith, held.0) in
      let long : length (from.unit (home_of from.image from.label.vtoc)) ≡ slot_of from.image.device =
      subst (λ (track : ℕ). length (from.unit track) ≡ slot_of from.image.device) there
      (track_long (home_of from.image from.label.vtoc - is.vtoc.run.first) (omega (arith, held.0, held.1))) in
      omega (arith, long, short_slot from.image.device)

  pub from_slots : WasLoaded from.image from.label from.unit false slots volume from.loaded.vtoc (four from.loaded few home_short)
  from_slots = record {
    small = few;
    stands = is.stands;
    sized = is.sized;
    sound = is.sound;
    volume_is = is.volume;
    slots_are = of_device;
    long = track_long;
    four_there = four_here is few home_short;
    four_at = refl;
  }

-- ---- the blocks of a change

rewritten_of : (volume : Volume) (slots : List ℕ) (change : Change) (rendered : Rendered) (vtoc : Vtoc) (found : Placed) → IsChangeWritten volume slots change rendered vtoc found
    → (edits : List Placed) × AreRewritten edits volume.device volume.vtoc slots rendered.blocks
rewritten_of volume slots Repair rendered vtoc found is = (edits_of is.records, is.blocks_are)
rewritten_of volume slots (Put row) rendered vtoc found is = (edits_of is.records, is.blocks_are)
rewritten_of volume slots (Swap name row) rendered vtoc found is = (edits_of is.records, is.blocks_are)
rewritten_of volume slots (Remove name) rendered vtoc found is = (edits_of is.records, is.blocks_are)
rewritten_of volume slots Mark rendered vtoc found is = (is.marked ∷ [], is.blocks_are)

abbrev HasDscbs : ℕ → ℕ → List ℕ → Type 0
HasDscbs heads track slot = (text : Track) × IsTrackText (address_of heads track) slot text × All IsDscbRecord text.recs

has_dscbs : (heads track : ℕ) (slot : List ℕ) (dscbs : Option (List (List ℕ))) → dscbs ≢ None → IsTrackReading heads track slot dscbs → HasDscbs heads track slot
has_dscbs heads track slot None some read = absurd (some refl)
has_dscbs heads track slot (Some dscbs) some read = (read.text, read.stands, read.shaped)

module _ {head : Head} {unit : Slots} {sliding : Bool} {label : _} {slots : List ℕ} {volume : Volume} {vtoc : Vtoc} {four : Placed} (was : WasLoaded head label unit sliding slots volume vtoc four)
    (edits : List Placed) (blocks : List Block) (rewritten : AreRewritten edits head.device vtoc.run slots blocks) where
  -- a block is the slot of its track written anew
  record OwnBlock (block : Block) : Type 0 where
    k : ℕ
    less : k < vtoc.run.len
    at : vtoc.run.first + k ≡ block.track
    own : IsRewritten edits (heads_of head.device) (vtoc.run.first + k) (unit (vtoc.run.first + k)) block.slot

  own_block : (block : Block) → Contains blocks block → OwnBlock block
  own_block block there =
      let heads = heads_of head.device in
      let k = block.track - vtoc.run.first in
      let low : vtoc.run.first ≤ block.track = All-contains (λ (b : Block). vtoc.run.first ≤ b.track) blocks block rewritten.upto.above there in
      let high : block.track < vtoc.run.first + vtoc.run.len = All-contains (λ (b : Block). b.track < vtoc.run.first + vtoc.run.len) blocks block rewritten.upto.below there in
      let less : k < vtoc.run.len = omega (arith, low, high) in
      let at : vtoc.run.first + k ≡ block.track = omega (arith, low) in
      let place : k ≡ vtoc.run.first + k - vtoc.run.first = omega arith in
      let slot_is : slot_at (slot_of head.device) slots k ≡ unit (vtoc.run.first + k) =
      ap (λ (n : ℕ). take (slot_of head.device) (drop (n * slot_of head.device) slots)) place ∙ sym (was.slots_are k less) in
      let found : block_of blocks (vtoc.run.first + k) ≡ Some block = ap (block_of blocks) at ∙ found_itself blocks block rewritten.ascending there in
      let own : IsBlockFor edits heads (vtoc.run.first + k) (unit (vtoc.run.first + k)) (Some block) =
      subst (λ (slot : List ℕ). IsBlockFor edits heads (vtoc.run.first + k) slot (Some block)) slot_is
      (subst (IsBlockFor edits heads (vtoc.run.first + k) (slot_at (slot_of head.device) slots k)) found (rewritten.upto.each k less)) in
      record { k = k; less = less; at = at; own = own }

  block_whole : (block : Block) → Contains blocks block → length block.slot ≡ slot_of head.device
  block_whole block there =
      let heads = heads_of head.device in
      let it = own_block block there in
      let k = it.k in
      let dscbs = slice_index_or vtoc.tracks k None in
      let some : dscbs ≢ None = All-get_or (λ dscbs. dscbs ≢ None) vtoc.tracks k None (omega (arith, it.less, was.stands.stands.reading.whole)) (tracks_stand was) in
      let heads_are : vtoc.heads ≡ heads = was.stands.stands.heads_are in
      let read = has_dscbs heads (vtoc.run.first + k) (unit (vtoc.run.first + k)) dscbs some (was.stands.stands.reading.each k it.less) in
      slot_whole edits heads (vtoc.run.first + k) (unit (vtoc.run.first + k)) block.slot read.0 (omega (arith, was.long k it.less, short_slot head.device)) read.1 read.2 it.own
      ∙ was.long k it.less

  -- it isn't what the track holds
  block_anew : (block : Block) → Contains blocks block → block.slot ≢ unit block.track
  block_anew block there same =
      let it = own_block block there in
      slot_anew edits (heads_of head.device) (vtoc.run.first + it.k) (unit (vtoc.run.first + it.k)) block.slot (omega (arith, was.long it.k it.less, short_slot head.device)) it.own
      (same ∙ ap unit (sym it.at))

  found_blocks : AreBlocksOf vtoc.run (slot_of head.device) blocks
  found_blocks = record {
    above = rewritten.upto.above;
    below = rewritten.upto.below;
    ascending = rewritten.ascending;
    whole = All-weaker (Contains blocks) (λ (b : Block). length b.slot ≡ slot_of head.device) block_whole blocks (All-contains_itself blocks);
  }

-- its edits, on the slots that it was rendered on
wrote_from : {head : List ℕ} {blocks : ℕ} {volume : Volume} {slots : List ℕ} (from : IsFromSlots false head blocks volume slots) (change : Change) (rendered : Rendered)
    → OfEachVtoc volume slots (IsChangeWritten volume slots change rendered)
    → (edits : List Placed) × AreRewritten edits from.image.device from.loaded.vtoc.run slots rendered.blocks
wrote_from {volume} {slots} from change rendered each =
    let wrote = rewritten_of volume slots change rendered from.loaded.vtoc (four from.loaded (few from) (home_short from))
    (each from.image from.label from.unit false from.loaded.vtoc (four from.loaded (few from) (home_short from)) (from_slots from)) in
    let device = from.loaded.volume.device_is in
    let run = from.loaded.volume.vtoc_is in (
      wrote.0,
      subst (λ (d : Device). AreRewritten wrote.0 d from.loaded.vtoc.run slots rendered.blocks) device
          (subst (λ (r : Run). AreRewritten wrote.0 volume.device r slots rendered.blocks) run wrote.1),
    )

pub rendered_blocks : {head : List ℕ} {blocks : ℕ} {volume : Volume} {slots : List ℕ} (from : IsFromSlots false head blocks volume slots) (change : Change) (rendered : Rendered)
    → OfEachVtoc volume slots (IsChangeWritten volume slots change rendered) → AreBlocksOf volume.vtoc (slot_of volume.device) rendered.blocks
rendered_blocks {volume} {slots} from change rendered each =
    let wrote = wrote_from from change rendered each in
    subst (λ (d : Device). AreBlocksOf volume.vtoc (slot_of d) rendered.blocks) (sym from.loaded.volume.device_is)
    (subst (λ (r : Run). AreBlocksOf r (slot_of from.image.device) rendered.blocks) (sym from.loaded.volume.vtoc_is)
    (found_blocks (from_slots from) wrote.0 rendered.blocks wrote.1))

-- each is another slot than its track holds
pub rendered_anew : {head : List ℕ} {blocks : ℕ} {volume : Volume} {slots : List ℕ} (from : IsFromSlots false head blocks volume slots) (change : Change) (rendered : Rendered)
    → OfEachVtoc volume slots (IsChangeWritten volume slots change rendered) → All (λ block. block.slot ≢ from.unit block.track) rendered.blocks
rendered_anew {volume} {slots} from change rendered each =
    let was = from_slots from in
    let wrote = wrote_from from change rendered each in
    All-weaker (Contains rendered.blocks) (λ (b : Block). b.slot ≢ from.unit b.track) (block_anew was wrote.0 rendered.blocks wrote.1) rendered.blocks (All-contains_itself rendered.blocks)
