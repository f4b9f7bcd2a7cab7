-- Slots of a run of tracks, with blocks put in place one after another.
use Rattle.std.proofs.Common.{◌≡◌, ◌≢◌, inl, inr, ℕ, zero, suc, ◌+◌, ◌-◌, ◌*◌, ◌<◌, ◌≤◌, List, [], ◌∷◌, ◌++◌, length, take, drop, get_or, All, Bool, Option, Some, None, cond, sym, ap, subst, ◌∙◌, arith, append_assoc, length-append, length-drop}
use Rattle.std.specs.Prelude.{◌==◌}
use Rattle.std.proofs.lemmas.Bool.{cases_lt, cases_eq, ne_eqb, eq-eqb}
use Rattle.std.proofs.lemmas.List.{take_all, take-append-le, take-append-drop, take_more, length-take}
use Rattle.std.proofs.lemmas.List.Elements.{All-nil, All-cons, All-head, All-tail}
use Rattle.std.proofs.lemmas.Slice.{drop-append-drop}
use Rattle.std.proofs.Math.Seq.{drop-append_seam}
use Rattle.free_map.specs.declared.run.Run.{Run}
use Rattle.vtoc_check.specs.Slots.{slot_in}
use Rattle.vtoc_write.specs.declared.blocks.Block.{Block}
use Rattle.vtoc_write.specs.Written.{AreAscending, block_of, slot_with}
use Rattle.unit_load.proofs.Slotted.{nth_slot, run_slot, slot_kept, more_places}
use Rattle.unit_steps.specs.Rendering.{ArePatched}
use Rattle.unit_session.specs.Planned.{BlocksAreOf}

-- ---- one slot is put over another

module _ (size count place : ℕ) (old piece new : List ℕ) (long : length old ≡ count * size) (whole : length piece ≡ size) (less : place < count)
    (is : new ≡ take (place * size) old ++ (piece ++ drop (place * size + length piece) old)) where
  within : place * size + size ≤ length old
  within = omega (arith, more_places count place size less, long)

  front_long : length (take (place * size) old) ≡ place * size
  front_long = omega (arith, length-take (place * size) old, within)

  same_length : length new ≡ length old
  same_length =
      let rest : List ℕ = drop (place * size + length piece) old in
      omega (arith, ap length is, length-append (take (place * size) old) (piece ++ rest), length-append piece rest, length-drop (place * size + length piece) old, front_long, whole, within)

  slot_put : nth_slot size new place ≡ piece
  slot_put =
      let front : List ℕ = take (place * size) old in
      let rest : List ℕ = drop (place * size + length piece) old in
      ap (λ (l : List ℕ). nth_slot size l place) is
      ∙ (ap (λ (n : ℕ). take size (drop n (front ++ (piece ++ rest)))) (sym front_long)
      ∙ (ap (λ (l : List ℕ). take size l) (drop-append_seam front (piece ++ rest))
      ∙ (take-append-le size piece rest (omega (arith, whole)) ∙ take_all size piece (omega (arith, whole)))))

  slot_before : (k : ℕ) → k < place → nth_slot size new k ≡ nth_slot size old k
  slot_before k below =
      let front : List ℕ = take (place * size) old in
      let rest : List ℕ = drop (place * size + length piece) old in
      ap (λ (l : List ℕ). nth_slot size l k) is
      ∙ (slot_kept size place k front (piece ++ rest) front_long below
      ∙ (sym (slot_kept size place k front (drop (place * size) old) front_long below) ∙ ap (λ (l : List ℕ). nth_slot size l k) (take-append-drop (place * size) old)))

  slot_behind : (k : ℕ) → place < k → nth_slot size new k ≡ nth_slot size old k
  slot_behind k above =
      let front : List ℕ = take (place * size) old in
      let rest : List ℕ = drop (place * size + length piece) old in
      ap (λ (l : List ℕ). take size l)
      (ap (λ (l : List ℕ). drop (k * size) l) (is ∙ sym (append_assoc front piece rest))
      ∙ drop-append-drop (place * size + length piece) old (front ++ piece) (k * size) (omega (arith, more_places k place size above, whole))
      (omega (arith, length-append front piece, front_long)))

  slot_other : (k : ℕ) → k ≢ place → nth_slot size new k ≡ nth_slot size old k
  slot_other k apart = elim (cases_lt k place) [ inl below ↦ slot_before k below | inr above ↦ slot_behind k (omega (arith, above, apart)) ]

-- ---- one block more

block_other : (front : List Block) (block : Block) (track : ℕ) → track ≢ block.track → block_of (front ++ (block ∷ [])) track ≡ block_of front track
block_other [] block track apart = ap (λ (t : Bool). cond t (Some block) None) (ne_eqb block.track track (λ same. apart (sym same)))
block_other (b ∷ front) block track apart = ap (λ (rest : Option Block). cond (b.track == track) (Some b) rest) (block_other front block track apart)

block_put : (front : List Block) (block : Block) (track : ℕ) → All (λ b. b.track < block.track) front → track ≡ block.track → block_of (front ++ (block ∷ [])) track ≡ Some block
block_put [] block track below same = ap (λ (t : Bool). cond t (Some block) None) (eq-eqb block.track track (sym same))
block_put (b ∷ front) block track below same =
    let less : b.track < block.track = All-head (λ (x : Block). x.track < block.track) b front below in
    ap (λ (t : Bool). cond t (Some b) (block_of (front ++ (block ∷ [])) track)) (ne_eqb b.track track (λ e. absurd (omega (arith, e, same, less))))
    ∙ block_put front block track (All-tail (λ (x : Block). x.track < block.track) b front below) same

all_before : (blocks : List Block) (i : ℕ) (block : Block) → AreAscending blocks → i < length blocks → block ≡ get_or blocks i block → All (λ b. b.track < block.track) (take i blocks)
all_before [] i block ascending less is = absurd (omega (arith, less))
all_before (b ∷ blocks) zero block ascending less is = All-nil (λ x. x.track < block.track)
all_before (b ∷ blocks) (suc i) block ascending less is =
    let here : b.track < block.track = subst (λ (x : Block). b.track < x.track) (sym is) (ascending.0 i block (omega (arith, less))) in
    All-cons (λ x. x.track < block.track) b (take i blocks) here (all_before blocks i block ascending.1 (omega (arith, less)) is)

module _ (run : Run) (size : ℕ) (blocks : List Block) (are : BlocksAreOf run size blocks) (i : ℕ) (block : Block) (less : i < length blocks) (is : block ≡ get_or blocks i block) where
  pub block_held : (run.first ≤ block.track) × (block.track < run.first + run.len)
  block_held = subst (λ (b : Block). (run.first ≤ b.track) × (b.track < run.first + run.len)) (sym is) (are.held i block less)

  pub block_long : length block.slot ≡ size
  block_long = subst (λ (b : Block). length b.slot ≡ size) (sym is) (are.long i block less)

  front_is : take (i + 1) blocks ≡ take i blocks ++ (block ∷ [])
  front_is = take_more blocks i block less ∙ ap (λ (b : Block). take i blocks ++ (b ∷ [])) (sym is)

  pub patched_more : (old mid new : List ℕ) → length old ≡ run.len * size
      → new ≡ take ((block.track - run.first) * size) mid ++ (block.slot ++ drop ((block.track - run.first) * size + length block.slot) mid)
      → ArePatched run size (take i blocks) old mid → ArePatched run size (take (i + 1) blocks) old new
  patched_more old mid new long put patched =
      let place : ℕ = block.track - run.first in
      let whole : length mid ≡ run.len * size = patched.long ∙ long in
      let within : block.track - run.first < run.len = omega (arith, block_held.0, block_held.1) in
      record {
        long = same_length size run.len (block.track - run.first) mid block.slot new whole block_long within put ∙ patched.long;
        each = λ k below. elim (cases_eq k (block.track - run.first)) [
          | inl same ↦
              let here : run.first + k ≡ block.track = omega (arith, same, block_held.0) in
              let found : block_of (take (i + 1) blocks) (run.first + k) ≡ Some block =
              ap (λ (l : List Block). block_of l (run.first + k)) front_is ∙ block_put (take i blocks) block (run.first + k) (all_before blocks i block are.ascending less is) here in
              run_slot run size new k
              ∙ (ap (λ (n : ℕ). nth_slot size new n) same
              ∙ (slot_put size run.len (block.track - run.first) mid block.slot new whole block_long within put
              ∙ ap (λ (b : Option Block). slot_with (slot_in run size old (run.first + k)) b) (sym found)))
          | inr apart ↦
              let elsewhere : run.first + k ≢ block.track = λ here. apart (omega (arith, here)) in
              let found : block_of (take (i + 1) blocks) (run.first + k) ≡ block_of (take i blocks) (run.first + k) =
              ap (λ (l : List Block). block_of l (run.first + k)) front_is ∙ block_other (take i blocks) block (run.first + k) elsewhere in
              run_slot run size new k
              ∙ (slot_other size run.len (block.track - run.first) mid block.slot new whole block_long within put k apart
              ∙ (sym (run_slot run size mid k)
              ∙ (patched.each k below ∙ ap (λ (b : Option Block). slot_with (slot_in run size old (run.first + k)) b) (sym found))))
        ];
      }
