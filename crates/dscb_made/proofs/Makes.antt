-- The DSCBs that are written, field by field.
use Rattle.std.proofs.Common.{◌≡◌, ◌⊎◌, ℕ, zero, suc, ◌+◌, ◌<◌, ◌≤◌, List, [], ◌∷◌, ◌++◌, length, map, filter, take, drop, replicate, get_or, All, Option, Some, None, refl, sym, ap, ◌∙◌, arith, inl, inr, length-drop}
use Rattle.std.proofs.lemmas.List.{length-take-le, get_or-take, get_or-drop, take_all, ext_get_or}
use Rattle.ckd_image.specs.declared.track.Cchhr.{Cchhr}
use Rattle.ckd_image.specs.Body.{over}
use Rattle.dscb_rec.specs.declared.field.Extent.{Extent}
use Rattle.dscb_rec.specs.declared.field.Entry5.{Entry5}
use Rattle.dscb_rec.specs.Field.{extent_text, entry_text, entry_offset, IsEntry5}
use Rattle.volume_model.specs.declared.format.Format.TheVariants.{F1, F3}
use Rattle.volume_model.specs.Dscbs.{format_of, extent_offsets, extent_at}
use Rattle.volume_model.proofs.Formats.{format_is_3, format_is_5}
use Rattle.vtoc_core.specs.Loaded.{field_of}
use Rattle.vtoc_core.proofs.Written.{same_format}
use Rattle.vtoc_core.specs.Edit.{no_entry, AreEntriesPut}
use Rattle.vtoc_core.proofs.Edits.{offset_within}
use Rattle.vtoc_core.proofs.Stated.{entries_told}
use Rattle.vtoc_core.proofs.Overs.{get_before, get_within, get_behind}
use Rattle.dscb_made.specs.Slots.{slot_of, first_offset, further_offset, IsThere, IsBeside, AreSlotsPut}
use Rattle.dscb_made.specs.Pointers.{pointer_text, IsPointerPut}
use Rattle.dscb_made.specs.Made.{IsFormat1With, IsFormat3With, IsFormat5With}
use Rattle.dscb_made.proofs.SlotsPut.{same_extent, low, high}
use Rattle.dscb_made.proofs.PointerPut.{no_pointer}
use Rattle.dscb_made.proofs.Reading.{kept, read_is_told}
use Rattle.std.proofs.lemmas.Bool.{cases_lt}
use Rattle.ckd_image.proofs.Overs.{over_length}

-- lists of bytes are the same where each byte is
pub same_bytes : (a b : List ℕ) → length a ≡ length b → ((k : ℕ) → k < length a → get_or a k 0 ≡ get_or b k 0) → a ≡ b
same_bytes a b long each = ext_get_or 0 a b long each

pub same_front : (n : ℕ) (a b : List ℕ) → n ≤ length a → length a ≡ length b → ((k : ℕ) → k < n → get_or a k 0 ≡ get_or b k 0) → take n a ≡ take n b
same_front n a b some long each =
    same_bytes (take n a) (take n b) (length-take-le n a some ∙ sym (length-take-le n b (omega (arith, some, long)))) (λ k less. by k (omega (arith, less, length-take-le n a some)))
  where
    by : (k : ℕ) → k < n → get_or (take n a) k 0 ≡ get_or (take n b) k 0
    by k less = get_or-take n a k 0 less ∙ each k less ∙ sym (get_or-take n b k 0 less)

-- the pointer's five bytes
pub long_pointer : (next : Option Cchhr) → length (pointer_text next) ≡ 5
long_pointer None = refl
long_pointer (Some place) = refl

module _ (extents : List Extent) (next : Option Cchhr) (there : All IsThere extents) (old filled new : List ℕ) (long : length old ≡ 140) (pointer : IsPointerPut next filled new) where
  module _ (long_filled : length filled ≡ 140) where
    pub long_new : length new ≡ 140
    long_new = ap length pointer.made ∙ over_length 135 (pointer_text next) filled (omega (arith, long_filled, long_pointer next)) ∙ long_filled

    -- what is before the pointer stays
    pub before : (k : ℕ) → k < 135 → get_or new k 0 ≡ get_or filled k 0
    before k less = ap (λ (bytes : List ℕ). get_or bytes k 0) pointer.made ∙ get_before 135 (pointer_text next) filled k (omega (arith, long_filled, long_pointer next)) less

  -- ---- format 1

  module _ (counted : List ℕ) (format : format_of old ≡ F1) (count : counted ≡ over 59 (length extents ∷ []) old) (slots : AreSlotsPut first_offset 0 3 extents counted filled) where
    long_counted : length counted ≡ 140
    long_counted = ap length count ∙ over_length 59 (length extents ∷ []) old (omega (arith, long)) ∙ long

    long_filled_1 : length filled ≡ 140
    long_filled_1 = slots.long ∙ long_counted

    -- the bytes before the slots
    front_filled : (k : ℕ) → k < 105 → get_or filled k 0 ≡ get_or counted k 0
    front_filled k less = slots.kept k (λ place _. inl (omega (arith, less)))

    other : (k : ℕ) → k < 105 → ((k < 59) ⊎ (60 ≤ k)) → get_or new k 0 ≡ get_or old k 0
    other k less (inl low) =
        before long_filled_1 k (omega (arith, less)) ∙ front_filled k less ∙ ap (λ (bytes : List ℕ). get_or bytes k 0) count
        ∙ get_before 59 (length extents ∷ []) old k (omega (arith, long)) low
    other k less (inr high) =
        before long_filled_1 k (omega (arith, less)) ∙ front_filled k less ∙ ap (λ (bytes : List ℕ). get_or bytes k 0) count
        ∙ get_behind 59 (length extents ∷ []) old k (omega (arith, long)) high

    same_long : length new ≡ length old
    same_long = long_new long_filled_1 ∙ sym long

    middle : take 45 (drop 60 new) ≡ take 45 (drop 60 old)
    middle = same_front 45 (drop 60 new) (drop 60 old) (omega (arith, long_new long_filled_1, length-drop 60 new))
        (omega (arith, same_long, length-drop 60 new, length-drop 60 old))
        (λ k less. get_or-drop 60 new k 0 ∙ other (60 + k) (omega (arith, less)) (inr (omega arith)) ∙ sym (get_or-drop 60 old k 0))

    front : (n : ℕ) → n ≤ 59 → take n new ≡ take n old
    front n few = same_front n new old (omega (arith, few, long_new long_filled_1)) same_long (λ k less. other k (omega (arith, less, few)) (inl (omega (arith, less, few))))

    still_1 : format_of new ≡ F1
    still_1 = same_format old new F1 (front 44 (omega arith)) (other 44 (omega arith) (inl (omega arith))) tt format

    reads : (place : ℕ) → place < 3 → extent_at new (first_offset place) ≡ field_of (slot_of extents (0 + place))
    reads place less =
        same_extent new filled (first_offset place) (λ byte in_slot. before long_filled_1 (first_offset place + byte) (omega (arith, less, in_slot)))
        ∙ slots.reads place less

    number : get_or new 59 0 ≡ length extents
    number =
        before long_filled_1 59 (omega arith) ∙ front_filled 59 (omega arith) ∙ ap (λ (bytes : List ℕ). get_or bytes 59 0) count
        ∙ get_within 59 (length extents ∷ []) old 0 (omega (arith, long)) (omega arith)

    zero_first : (place : ℕ) → 0 + place ≡ place
    zero_first place = omega arith

    pub format_1_made : IsFormat1With old extents next new
    format_1_made = record {
      long = long_new long_filled_1;
      format = still_1;
      name = front 44 (omega arith);
      fields = (λ i. front 59 (omega arith) i ++ (0 ∷ middle i));
      count = number;
      extents_are =
          (λ i. filter kept (map (extent_at new) (extent_offsets (still_1 i))))
          ∙ read_is_told new first_offset extents 0 3 there reads 3 (omega arith);
      slots = λ place byte less in_slot.
          before long_filled_1 (first_offset place + byte) (omega (arith, less, in_slot)) ∙ slots.spelled place byte less in_slot
          ∙ ap (λ (n : ℕ). get_or (extent_text (slot_of extents n)) byte 0) (zero_first place);
      next_is = pointer.reads;
    }

-- ---- zeros with an identifier

abbrev copies : ℕ → ℕ → List ℕ
copies n byte = replicate n byte

get_zero : (n k : ℕ) → get_or (copies n 0) k 0 ≡ 0
get_zero zero k = refl
get_zero (suc n) zero = refl
get_zero (suc n) (suc k) = get_zero n k

get_copy : (n byte k : ℕ) → k < n → get_or (copies n byte) k 0 ≡ byte
get_copy zero byte k less = absurd (omega (arith, less))
get_copy (suc n) byte zero less = refl
get_copy (suc n) byte (suc k) less = get_copy n byte k (omega (arith, less))

-- zeros, but for four bytes at the front and the format
pub record IsIdentified (mark code : ℕ) (bytes : List ℕ) : Type 0 where
  pub long : length bytes ≡ 140
  pub front : (k : ℕ) → k < 4 → get_or bytes k 0 ≡ mark
  pub code_is : get_or bytes 44 0 ≡ code
  pub behind : (k : ℕ) → 45 ≤ k → get_or bytes k 0 ≡ 0

from_zero : (k : ℕ) → k ≡ 0 + k
from_zero k = omega arith

pub identified : (mark code : ℕ) (first second : List ℕ) → first ≡ over 0 (replicate 4 mark) (replicate 140 0) → second ≡ over 44 (code ∷ []) first → IsIdentified mark code second
identified mark code first second is made = record {
  long = long_second;
  front = λ k less.
      ap (λ (bytes : List ℕ). get_or bytes k 0) made ∙ get_before 44 (code ∷ []) first k (omega (arith, long_first)) (omega (arith, less))
      ∙ ap (λ (bytes : List ℕ). get_or bytes k 0) is ∙ ap (λ (n : ℕ). get_or (over 0 (replicate 4 mark) (replicate 140 0)) n 0) (from_zero k) ∙ get_within 0 (replicate 4 mark) (replicate 140 0) k (omega arith) less ∙ get_copy 4 mark k less;
  code_is = ap (λ (bytes : List ℕ). get_or bytes 44 0) made ∙ get_within 44 (code ∷ []) first 0 (omega (arith, long_first)) (omega arith);
  behind = λ k more.
      ap (λ (bytes : List ℕ). get_or bytes k 0) made ∙ get_behind 44 (code ∷ []) first k (omega (arith, long_first)) (omega (arith, more))
      ∙ ap (λ (bytes : List ℕ). get_or bytes k 0) is ∙ get_behind 0 (replicate 4 mark) (replicate 140 0) k (omega arith) (omega (arith, more)) ∙ get_zero 140 k;
}
  where
    long_first : length first ≡ 140
    long_first = ap length is ∙ over_length 0 (replicate 4 mark) (replicate 140 0) (omega arith)

    long_second : length second ≡ 140
    long_second = ap length made ∙ over_length 44 (code ∷ []) first (omega (arith, long_first)) ∙ long_first

-- ---- format 3

-- bytes beside all slots of a format 3
beside_low : (place k : ℕ) → place < 13 → k < 4 → ((place < 4) ⊎ (4 ≤ place)) → IsBeside (further_offset place) k
beside_low place k less front (inl p) = inl (omega (arith, low place p, front))
beside_low place k less front (inr p) = inl (omega (arith, high place p, front))

beside_code : (place : ℕ) → place < 13 → ((place < 4) ⊎ (4 ≤ place)) → IsBeside (further_offset place) 44
beside_code place less (inl p) = inr (omega (arith, low place p, p))
beside_code place less (inr p) = inl (omega (arith, high place p, p))

beside_high : (place k : ℕ) → place < 13 → 135 ≤ k → ((place < 4) ⊎ (4 ≤ place)) → IsBeside (further_offset place) k
beside_high place k less back (inl p) = inr (omega (arith, low place p, p, back))
beside_high place k less back (inr p) = inr (omega (arith, high place p, less, back))

module _ (extents : List Extent) (there : All IsThere extents) (few : length extents ≤ 16) (old new : List ℕ) (is : IsIdentified 0x03 0xF3 old) (slots : AreSlotsPut further_offset 3 13 extents old new) where
  long_3 : length new ≡ 140
  long_3 = slots.long ∙ is.long

  format_3 : format_of new ≡ F3
  format_3 =
      format_is_3 new long_3 (slots.kept 44 (λ place less. beside_code place less (cases_lt place 4)) ∙ is.code_is)
      (λ k less. slots.kept k (λ place within. beside_low place k within less (cases_lt place 4)) ∙ is.front k less)

  zero_behind : (k : ℕ) → 135 ≤ k → get_or new k 0 ≡ 0
  zero_behind k more = slots.kept k (λ place within. beside_high place k within more (cases_lt place 4)) ∙ is.behind k (omega (arith, more))

  pub format_3_made : IsFormat3With extents new
  format_3_made = record {
    long = long_3;
    format = format_3;
    extents_are =
        (λ i. filter kept (map (extent_at new) (extent_offsets (format_3 i))))
        ∙ read_is_told new further_offset extents 3 13 there slots.reads 13 (omega arith)
        ∙ ap (map field_of) (take_all 13 (drop 3 extents) (omega (arith, few, length-drop 3 extents)));
    slots = slots.spelled;
    next_is = no_pointer new (zero_behind 135 (omega arith)) (zero_behind 136 (omega arith)) (zero_behind 137 (omega arith)) (zero_behind 138 (omega arith)) (zero_behind 139 (omega arith));
  }

-- ---- format 5

module _ (entries : List Entry5) (next : Option Cchhr) (fit : All IsEntry5 entries) (few : length entries ≤ 26) (old filled new : List ℕ) (is : IsIdentified 0x05 0xF5 old)
    (put : AreEntriesPut entries old filled) (pointer : IsPointerPut next filled new) where
  long_filled_5 : length filled ≡ 140
  long_filled_5 = put.long ∙ is.long

  long_5 : length new ≡ 140
  long_5 = ap length pointer.made ∙ over_length 135 (pointer_text next) filled (omega (arith, long_filled_5, long_pointer next)) ∙ long_filled_5

  before_5 : (k : ℕ) → k < 135 → get_or new k 0 ≡ get_or filled k 0
  before_5 k less = ap (λ (bytes : List ℕ). get_or bytes k 0) pointer.made ∙ get_before 135 (pointer_text next) filled k (omega (arith, long_filled_5, long_pointer next)) less

  spelled_5 : (place byte : ℕ) → place < 26 → byte < 5 → get_or new (entry_offset place + byte) 0 ≡ get_or (entry_text (get_or entries place no_entry)) byte 0
  spelled_5 place byte less in_entry = before_5 (entry_offset place + byte) (omega (arith, offset_within place less, in_entry)) ∙ put.each place byte less in_entry

  pub format_5_made : IsFormat5With entries next new
  format_5_made = record {
    long = long_5;
    format =
        format_is_5 new long_5 (before_5 44 (omega arith) ∙ put.kept 44 (inr (inl refl)) ∙ is.code_is)
        (λ k less. before_5 k (omega (arith, less)) ∙ put.kept k (inl less) ∙ is.front k less);
    entries_are = λ heads. entries_told heads entries new new (record { long = refl; each = spelled_5; kept = λ k beside. refl }) fit few;
    slots = spelled_5;
    next_is = pointer.reads;
  }
