-- The blocks of a VTOC's tracks, one track after the other.
use Rattle.std.proofs.Common.{◌≡◌, ◌≢◌, inl, inr, ℕ, ◌+◌, ◌<◌, ◌≤◌, List, [], ◌∷◌, ◌++◌, All, Bool, Option, Some, None, refl, sym, ap, subst, ◌∙◌, below_more, arith}
use Rattle.std.specs.Prelude.{◌==◌, cond}
use Rattle.std.specs.Option.{option_or}
use Rattle.std.specs.List.{AllByRecursion}
use Rattle.std.proofs.lemmas.Bool.{eq-eqb, ne_eqb}
use Rattle.std.proofs.lemmas.List.Elements.{All-push, recursion_from_All, All-from_recursion}
use Rattle.std.proofs.lemmas.List.Folds.{find-append}
use Rattle.ckd_image.specs.declared.device.Device.{Device}
use Rattle.ckd_image.specs.Device.{heads_of, slot_of}
use Rattle.volume_model.specs.declared.place.Placed.{Placed}
use Rattle.vtoc_write.specs.declared.blocks.Block.{Block}
use Rattle.vtoc_write.specs.Written.{slot_at, block_of, IsUnchangedText, IsRewritten, AddsBlock, IsBlockFor, AreRewrittenUpTo, AreAscending}

none_of : (blocks : List Block) (track : ℕ) → AllByRecursion (λ block. block.track < track) blocks → block_of blocks track ≡ None
none_of [] track h = refl
none_of (block ∷ blocks) track h =
    ap (λ (b : Bool). cond b (Some block) (block_of blocks track)) (ne_eqb block.track track (λ same. absurd (omega (arith, same, h.0))))
    ∙ none_of blocks track h.1

weaker : (P Q : Block → Type 0) (blocks : List Block) → ((block : Block) → P block → Q block) → AllByRecursion P blocks → AllByRecursion Q blocks
weaker P Q [] f h = tt
weaker P Q (block ∷ blocks) f h = (f block h.0, weaker P Q blocks f h.1)

-- the block of a track, once one more is behind them
found_pushed : (blocks : List Block) (block : Block) (track : ℕ) → block_of (blocks ++ (block ∷ [])) track ≡ option_or (block_of blocks track) (cond (block.track == track) (Some block) None)
found_pushed blocks block track = find-append (λ b. b.track == track) blocks (block ∷ [])

or_none : (found : Option Block) → option_or found None ≡ found
or_none None = refl
or_none (Some block) = refl

other_track : (blocks : List Block) (block : Block) (track : ℕ) → block.track ≢ track → block_of (blocks ++ (block ∷ [])) track ≡ block_of blocks track
other_track blocks block track other =
    found_pushed blocks block track
    ∙ ap (λ (b : Bool). option_or (block_of blocks track) (cond b (Some block) None)) (ne_eqb block.track track other)
    ∙ or_none (block_of blocks track)

same_track : (blocks : List Block) (block : Block) (track : ℕ) → block.track ≡ track → block_of blocks track ≡ None → block_of (blocks ++ (block ∷ [])) track ≡ Some block
same_track blocks block track same none =
    found_pushed blocks block track
    ∙ (λ i. option_or (none i) (cond (eq-eqb block.track track same i) (Some block) None))

ascending_push : (blocks : List Block) (block : Block) → AreAscending blocks → AllByRecursion (λ b. b.track < block.track) blocks → AreAscending (blocks ++ (block ∷ []))
ascending_push [] block h below = (All-from_recursion (λ later. block.track < later.track) [] tt, tt)
ascending_push (b ∷ blocks) block h below = (All-push (λ later. b.track < later.track) blocks block h.0 below.0, ascending_push blocks block h.1 below.1)

-- ---- one more track

module _ (edits : List Placed) (device : Device) (first count : ℕ) (slots : List ℕ) (old new : List Block) (upto : AreRewrittenUpTo edits device first count slots old) where
  abbrev Is : List Block → ℕ → Type 0
  Is blocks k = IsBlockFor edits (heads_of device) (first + k) (slot_at (slot_of device) slots k) (block_of blocks (first + k))

  below_old : AllByRecursion (λ block. block.track < first + count) old
  below_old = recursion_from_All (λ block. block.track < first + count) old upto.below

  none_yet : block_of old (first + count) ≡ None
  none_yet = none_of old (first + count) below_old

  wider : All (λ block. block.track < first + (count + 1)) old
  wider = All-from_recursion (λ block. block.track < first + (count + 1)) old
      (weaker (λ block. block.track < first + count) (λ block. block.track < first + (count + 1)) old (λ block less. omega (arith, less)) below_old)

  split : (blocks : List Block) → ((k : ℕ) → k < count → Is blocks k) → Is blocks count → (k : ℕ) → k < count + 1 → Is blocks k
  split blocks before last k less = below_more (Is blocks) count before last k less

  same_blocks : IsUnchangedText edits (heads_of device) (first + count) (slot_at (slot_of device) slots count) → AreRewrittenUpTo edits device first (count + 1) slots old
  same_blocks unchanged = record {
    each = split old upto.each
        (subst (IsBlockFor edits (heads_of device) (first + count) (slot_at (slot_of device) slots count)) (sym none_yet) unchanged);
    above = upto.above;
    below = wider;
  }

  module _ (block : Block) (is : block.track ≡ first + count) (rewritten : IsRewritten edits (heads_of device) (first + count) (slot_at (slot_of device) slots count) block.slot) where
    abbrev more : List Block
    more = old ++ (block ∷ [])

    others : (k : ℕ) → k < count → Is more k
    others k less =
        subst (IsBlockFor edits (heads_of device) (first + k) (slot_at (slot_of device) slots k))
        (sym (other_track old block (first + k) (λ same. absurd (omega (arith, same, is, less))))) (upto.each k less)

    one_more : AreRewrittenUpTo edits device first (count + 1) slots more
    one_more = record {
      each = split more others
          (subst (IsBlockFor edits (heads_of device) (first + count) (slot_at (slot_of device) slots count)) (sym (same_track old block (first + count) is none_yet)) rewritten);
      above = All-push (λ b. first ≤ b.track) old block upto.above (omega (arith, is));
      below = All-push (λ b. b.track < first + (count + 1)) old block wider (omega (arith, is));
    }

    ascending_more : AreAscending old → AreAscending more
    ascending_more h =
        ascending_push old block h (weaker (λ b. b.track < first + count) (λ b. b.track < block.track) old (λ b less. omega (arith, less, is)) below_old)

  pub upto_next : AddsBlock edits (heads_of device) (first + count) (slot_at (slot_of device) slots count) old new → AreRewrittenUpTo edits device first (count + 1) slots new
  upto_next (inl (same, unchanged)) = subst (AreRewrittenUpTo edits device first (count + 1) slots) (sym same) (same_blocks unchanged)
  upto_next (inr (block, is_new, is, rewritten)) = subst (AreRewrittenUpTo edits device first (count + 1) slots) (sym is_new) (one_more block is rewritten)

  pub ascending_next : AreAscending old → AddsBlock edits (heads_of device) (first + count) (slot_at (slot_of device) slots count) old new → AreAscending new
  ascending_next h (inl (same, unchanged)) = subst AreAscending (sym same) h
  ascending_next h (inr (block, is_new, is, rewritten)) = subst AreAscending (sym is_new) (ascending_more block is rewritten h)
