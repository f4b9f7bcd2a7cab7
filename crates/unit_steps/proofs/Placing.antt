-- Images with the blocks of units in place.
use Rattle.std.proofs.Common.{◌≡◌, ◌≢◌, inl, inr, ℕ, ◌+◌, ◌<◌, ◌≤◌, List, [], ◌∷◌, ◌++◌, map, All, Bool, Some, None, refl, sym, ap, ◌∙◌, arith}
use Rattle.std.specs.Prelude.{◌==◌, cond, if◌then◌else◌}
use Rattle.std.proofs.lemmas.Bool.{cases_eq, cases_lt, eq-eqb, ne_eqb, and_from}
use Rattle.std.proofs.lemmas.List.Elements.{All-head, All-tail, All-weaker}
use Rattle.dasd_pool.specs.Disk.{Image}
use Rattle.free_map.specs.declared.run.Run.{Run}
use Rattle.redo_core.specs.declared.entries.Entry.{Entry}
use Rattle.redo_core.specs.Reading.{set_block, placed}
use Rattle.redo_core.proofs.Crash.{other_unit, other_block}
use Rattle.volume_model.specs.Sound.{Slots}
use Rattle.vtoc_write.specs.declared.blocks.Block.{Block}
use Rattle.vtoc_write.specs.Written.{block_of, slot_with, AreAscending}
use Rattle.vtoc_rewrite.specs.Rewrite.{AreSlotsAfter}
use Rattle.unit_steps.specs.Rendering.{entry_for}
use Rattle.unit_steps.proofs.Blocks.{AreBlocksOf}

-- ---- which block a track has

-- a track below all blocks has none, and one from their end on has none
none_above : (blocks : List Block) (track : ℕ) → All (λ block. track < block.track) blocks → block_of blocks track ≡ None
none_above [] track above = refl
none_above (block ∷ blocks) track above =
    let P : Block → Type 0 = λ b. track < b.track in
    let less : track < block.track = All-head P block blocks above in
    ap (λ (t : Bool). cond t (Some block) (block_of blocks track)) (ne_eqb block.track track (λ same. absurd (omega (arith, same, less))))
    ∙ none_above blocks track (All-tail P block blocks above)

none_below : (blocks : List Block) (track : ℕ) → All (λ block. block.track < track) blocks → block_of blocks track ≡ None
none_below [] track below = refl
none_below (block ∷ blocks) track below =
    let P : Block → Type 0 = λ b. b.track < track in
    let less : block.track < track = All-head P block blocks below in
    ap (λ (t : Bool). cond t (Some block) (block_of blocks track)) (ne_eqb block.track track (λ same. absurd (omega (arith, same, less))))
    ∙ none_below blocks track (All-tail P block blocks below)

-- ---- one unit

-- its slots with blocks in place
abbrev pub slots_with : List Block → Slots → Slots
slots_with blocks slots track = slot_with (slots track) (block_of blocks track)

pub after_blocks : (run : Run) (size : ℕ) (blocks : List Block) (slots : Slots) → AreBlocksOf run size blocks → AreSlotsAfter run blocks slots (slots_with blocks slots)
after_blocks run size blocks slots are = record {
  inside = λ k less. refl;
  outside = λ track out. ap (slot_with (slots track)) (none track out);
}
  where
    none : (track : ℕ) → (run.first ≤ track → ¬ (track < run.first + run.len)) → block_of blocks track ≡ None
    none track out = elim (cases_lt track run.first) [
      | inl less ↦ none_above blocks track (All-weaker (λ (b : Block). run.first ≤ b.track) (λ (b : Block). track < b.track) (λ b low. omega (arith, less, low)) blocks are.above)
      | inr more ↦
          none_below blocks track
          (All-weaker (λ (b : Block). b.track < run.first + run.len) (λ (b : Block). b.track < track) (λ b high. omega (arith, high, past track more (out more))) blocks are.below)
    ]
      where
        past : (track : ℕ) → run.first ≤ track → ¬ (track < run.first + run.len) → run.first + run.len ≤ track
        past track more not_in = omega (arith, not_in)

module _ (unit : ℕ) where
  pub placed_here : (blocks : List Block) (image : Image) → AreAscending blocks → (track : ℕ) → placed image (map (entry_for unit) blocks) unit track ≡ slots_with blocks (image unit) track
  placed_here [] image ascending track = refl
  placed_here (block ∷ blocks) image ascending track = elim (cases_eq track block.track) [
    | inl same ↦
        let here : set_block image unit block.track block.slot unit track ≡ block.slot =
        ap (λ (t : Bool). if t then block.slot else image unit track)
        (and_from (unit == unit) (track == block.track) (eq-eqb unit unit refl) (eq-eqb track block.track same)) in
        let none : block_of blocks track ≡ None =
        none_above blocks track (All-weaker (λ (b : Block). block.track < b.track) (λ (b : Block). track < b.track) (λ b less. omega (arith, less, same)) blocks ascending.0) in
        placed_here blocks (set_block image unit block.track block.slot) ascending.1 track
        ∙ ap (slot_with (set_block image unit block.track block.slot unit track)) none ∙ here
        ∙ sym (ap (λ (t : Bool). slot_with (image unit track) (cond t (Some block) (block_of blocks track))) (eq-eqb block.track track (sym same)))
    | inr other ↦
        let apart : block.track ≡ track → ⊥ = λ same. other (sym same) in
        let kept : set_block image unit block.track block.slot unit track ≡ image unit track =
        ap (λ (t : Bool). if t then block.slot else image unit track) (other_block unit block.track unit track other) in
        placed_here blocks (set_block image unit block.track block.slot) ascending.1 track
        ∙ ap (λ (slot : List ℕ). slot_with slot (block_of blocks track)) kept
        ∙ sym (ap (λ (t : Bool). slot_with (image unit track) (cond t (Some block) (block_of blocks track))) (ne_eqb block.track track apart))
  ]

  pub placed_there : (blocks : List Block) (image : Image) (u : ℕ) → u ≢ unit → placed image (map (entry_for unit) blocks) u ≡ image u
  placed_there [] image u apart = refl
  placed_there (block ∷ blocks) image u apart =
      placed_there blocks (set_block image unit block.track block.slot) u apart
      ∙ (λ i b. ap (λ (t : Bool). if t then block.slot else image u b) (other_unit unit block.track u b apart) i)

-- ---- entries one list after another

pub placed_both : (first second : List Entry) (image : Image) → placed image (first ++ second) ≡ placed (placed image first) second
placed_both [] second image = refl
placed_both (entry ∷ first) second image = placed_both first second (set_block image entry.unit entry.block entry.slot)
