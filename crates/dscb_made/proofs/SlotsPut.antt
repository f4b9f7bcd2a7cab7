-- Slots of a DSCB that are written one after the other.
use Rattle.std.proofs.Common.{◌≡◌, ◌⊎◌, ℕ, ◌+◌, ◌*◌, ◌<◌, ◌≤◌, List, ◌++◌, length, take, drop, get_or, Bool, true, false, cond, refl, sym, ap, ◌∙◌, arith, inl, inr}
use Rattle.std.specs.Prelude.{nat_lt}
use Rattle.std.proofs.lemmas.Bool.Decides.{nat_tests}
use Rattle.std.proofs.lemmas.List.{length-take-le}
use Rattle.std.proofs.Math.Seq.{drop-append-add}
use Rattle.ckd_image.specs.Body.{over}
use Rattle.dscb_rec.specs.declared.field.Extent.{Extent}
use Rattle.dscb_rec.specs.Field.{extent_text, IsExtent}
use Rattle.volume_model.specs.Dscbs.{extent_at}
use Rattle.vtoc_core.specs.Loaded.{field_of}
use Rattle.vtoc_core.proofs.Extents.{field_read}
use Rattle.vtoc_core.proofs.Overs.{get_before, get_within, get_behind}
use Rattle.dscb_made.specs.Slots.{slot_of, first_offset, further_offset, IsBeside, IsSlotPut, AreSlotsPut}
use Rattle.std.proofs.lemmas.Bool.{cases_lt}
use Rattle.ckd_image.proofs.Overs.{over_length}

-- ---- one slot

drop_front : (a b : List ℕ) (n : ℕ) → length a ≡ n → drop n (a ++ b) ≡ b
drop_front a b n long = ap (λ (k : ℕ). drop k (a ++ b)) (omega (arith, long)) ∙ drop-append-add a b 0

pub slot_put : (offset : ℕ) (extent : Extent) (old new : List ℕ) → offset + 10 ≤ 140 → length old ≡ 140 → IsExtent extent → new ≡ over offset (extent_text extent) old → IsSlotPut offset extent old new
slot_put offset extent old new within long fits made = record {
  made = made;
  reads = sym (field_read new offset extent fits
      (drop (offset + 10) old, ap (drop offset) made ∙ drop_front (take offset old) (extent_text extent ++ drop (offset + 10) old) offset (length-take-le offset old (omega (arith, within, long)))));
}

-- an extent is read from its ten bytes
pub same_extent : (a b : List ℕ) (offset : ℕ) → ((byte : ℕ) → byte < 10 → get_or a (offset + byte) 0 ≡ get_or b (offset + byte) 0) → extent_at a offset ≡ extent_at b offset
same_extent a b offset same =
    (λ i. record {
      kind = at_0 i;
      first = record { cylinder = 256 * same 2 (omega arith) i + at_3 i; head = 256 * at_4 i + at_5 i };
      last = record { cylinder = 256 * same 6 (omega arith) i + at_7 i; head = 256 * at_8 i + at_9 i };
    })
  where
    by : (k byte : ℕ) → byte < 10 → k ≡ offset + byte → get_or a k 0 ≡ get_or b k 0
    by k byte less is = ap (λ (n : ℕ). get_or a n 0) is ∙ same byte less ∙ ap (λ (n : ℕ). get_or b n 0) (sym is)

    at_0 : get_or a offset 0 ≡ get_or b offset 0
    at_0 = by offset 0 (omega arith) (omega arith)

    at_3 : get_or a (offset + 2 + 1) 0 ≡ get_or b (offset + 2 + 1) 0
    at_3 = by (offset + 2 + 1) 3 (omega arith) (omega arith)

    at_4 : get_or a (offset + 2 + 2) 0 ≡ get_or b (offset + 2 + 2) 0
    at_4 = by (offset + 2 + 2) 4 (omega arith) (omega arith)

    at_5 : get_or a (offset + 2 + 2 + 1) 0 ≡ get_or b (offset + 2 + 2 + 1) 0
    at_5 = by (offset + 2 + 2 + 1) 5 (omega arith) (omega arith)

    at_7 : get_or a (offset + 6 + 1) 0 ≡ get_or b (offset + 6 + 1) 0
    at_7 = by (offset + 6 + 1) 7 (omega arith) (omega arith)

    at_8 : get_or a (offset + 6 + 2) 0 ≡ get_or b (offset + 6 + 2) 0
    at_8 = by (offset + 6 + 2) 8 (omega arith) (omega arith)

    at_9 : get_or a (offset + 6 + 2 + 1) 0 ≡ get_or b (offset + 6 + 2 + 1) 0
    at_9 = by (offset + 6 + 2 + 1) 9 (omega arith) (omega arith)

-- ---- one more

pub record AreOffsets (offset : ℕ → ℕ) (count : ℕ) : Type 0 where
  pub within : (place : ℕ) → place < count → offset place + 10 ≤ 140
  pub rising : (a b : ℕ) → a < b → b < count → offset a + 10 ≤ offset b

pub none_put : (offset : ℕ → ℕ) (from : ℕ) (extents : List Extent) (old : List ℕ) → AreSlotsPut offset from 0 extents old old
none_put offset from extents old = record {
  long = refl;
  reads = λ place less. absurd (omega (arith, less));
  spelled = λ place byte less _. absurd (omega (arith, less));
  kept = λ k beside. refl;
}

module _ (offset : ℕ → ℕ) (from total count : ℕ) (offsets : AreOffsets offset total) (less : count < total) (extents : List Extent) (old mid new : List ℕ) (long : length old ≡ 140) (extent : Extent)
    (is : extent ≡ slot_of extents (from + count)) (put : IsSlotPut (offset count) extent mid new) (h : AreSlotsPut offset from count extents old mid) where
  fits : offset count + 10 ≤ length mid
  fits = omega (arith, offsets.within count less, h.long, long)

  still : (k : ℕ) → IsBeside (offset count) k → get_or new k 0 ≡ get_or mid k 0
  still k (inl p) = ap (λ (bytes : List ℕ). get_or bytes k 0) put.made ∙ get_before (offset count) (extent_text extent) mid k fits p
  still k (inr p) = ap (λ (bytes : List ℕ). get_or bytes k 0) put.made ∙ get_behind (offset count) (extent_text extent) mid k fits p

  earlier_still : (place byte : ℕ) → place < count → byte < 10 → get_or new (offset place + byte) 0 ≡ get_or mid (offset place + byte) 0
  earlier_still place byte earlier in_slot = still (offset place + byte) (inl (omega (arith, offsets.rising place count earlier less, in_slot)))

  read : (place : ℕ) → ((place < count) ⊎ (count ≤ place)) → place < count + 1 → extent_at new (offset place) ≡ field_of (slot_of extents (from + place))
  read place (inl earlier) _ = same_extent new mid (offset place) (λ byte in_slot. earlier_still place byte earlier in_slot) ∙ h.reads place earlier
  read place (inr later) last =
      let here : place ≡ count = omega (arith, later, last) in
      ap (λ (n : ℕ). extent_at new (offset n)) here ∙ put.reads ∙ ap field_of is ∙ ap (λ (n : ℕ). field_of (slot_of extents (from + n))) (sym here)

  spell : (place byte : ℕ) → byte < 10 → ((place < count) ⊎ (count ≤ place)) → place < count + 1 → get_or new (offset place + byte) 0 ≡ get_or (extent_text (slot_of extents (from + place))) byte 0
  spell place byte in_slot (inl earlier) _ = earlier_still place byte earlier in_slot ∙ h.spelled place byte earlier in_slot
  spell place byte in_slot (inr later) last =
      let here : place ≡ count = omega (arith, later, last) in
      ap (λ (n : ℕ). get_or new (offset n + byte) 0) here
      ∙ ap (λ (bytes : List ℕ). get_or bytes (offset count + byte) 0) put.made
      ∙ get_within (offset count) (extent_text extent) mid byte fits in_slot
      ∙ ap (λ (e : Extent). get_or (extent_text e) byte 0) is
      ∙ ap (λ (n : ℕ). get_or (extent_text (slot_of extents (from + n))) byte 0) (sym here)

  pub one_more : AreSlotsPut offset from (count + 1) extents old new
  one_more = record {
    long = ap length put.made ∙ over_length (offset count) (extent_text extent) mid fits ∙ h.long;
    reads = λ place last. read place (cases_lt place count) last;
    spelled = λ place byte last in_slot. spell place byte in_slot (cases_lt place count) last;
    kept = λ k beside. still k (beside count (omega arith)) ∙ h.kept k (λ place earlier. beside place (omega (arith, earlier)));
  }

-- ---- the offsets of both formats

pub first_offsets : AreOffsets first_offset 3
first_offsets = record { within = λ place less. omega (arith, less); rising = λ a b less last. omega (arith, less) }

pub low : (place : ℕ) → place < 4 → further_offset place ≡ 4 + 10 * place
low place less = ap (λ (b : Bool). cond b (4 + 10 * place) (5 + 10 * place)) (is place less)
  where
    is : (n : ℕ) → n < 4 → nat_lt n 4 ≡ true
    is n p = grind (arith, nat_tests)

pub high : (place : ℕ) → 4 ≤ place → further_offset place ≡ 5 + 10 * place
high place more = ap (λ (b : Bool). cond b (4 + 10 * place) (5 + 10 * place)) (is place more)
  where
    is : (n : ℕ) → 4 ≤ n → nat_lt n 4 ≡ false
    is n p = grind (arith, nat_tests)

further_within : (place : ℕ) → place < 13 → ((place < 4) ⊎ (4 ≤ place)) → further_offset place + 10 ≤ 140
further_within place less (inl p) = omega (arith, low place p, p)
further_within place less (inr p) = omega (arith, high place p, less)

further_rising : (a b : ℕ) → a < b → ((a < 4) ⊎ (4 ≤ a)) → ((b < 4) ⊎ (4 ≤ b)) → further_offset a + 10 ≤ further_offset b
further_rising a b less (inl p) (inl q) = omega (arith, low a p, low b q, less)
further_rising a b less (inl p) (inr q) = omega (arith, low a p, high b q, less)
further_rising a b less (inr p) (inl q) = absurd (omega (arith, less, p, q))
further_rising a b less (inr p) (inr q) = omega (arith, high a p, high b q, less)

pub further_offsets : AreOffsets further_offset 13
further_offsets = record {
  within = λ place less. further_within place less (cases_lt place 4);
  rising = λ a b less last. further_rising a b less (cases_lt a 4) (cases_lt b 4);
}
