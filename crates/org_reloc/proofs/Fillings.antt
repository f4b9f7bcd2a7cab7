-- Filling tracks with one block after the other.
use Rattle.std.proofs.Common.{◌≡◌, ℕ, ◌+◌, ◌<◌, ◌≤◌, Bool, true, false, cond, List, [], ◌∷◌, ◌++◌, length, take, drop, map, get_or, IsTrue, ◌↔◌, refl, sym, ap, subst, ◌∙◌, arith, fold, length-append, inl, inr, replicate}
use Rattle.std.specs.Bool.{OnTrue, OnFalse}
use Rattle.std.specs.List.{enumerate_from}
use Rattle.std.proofs.lemmas.Bool.{cases_lt, false≢true}
use Rattle.std.proofs.lemmas.List.{take-append-drop, map-append}
use Rattle.std.proofs.lemmas.List.Sums.{fold_more, fold-append, sum_by_push}
use Rattle.std.proofs.lemmas.Bool.Decides.{nat_tests}
use Rattle.ckd_image.specs.declared.device.Device.{Device}
use Rattle.ckd_image.specs.Device.{capacity_of}
use Rattle.org_reloc.specs.declared.block.Block.{Block}
use Rattle.ckd_image.specs.declared.track.Rec.{Rec}
use Rattle.ckd_image.specs.declared.track.Track.{Track}
use Rattle.org_reloc.specs.Packing.{FitsAlone, record_of, track_of}
use Rattle.org_reloc.specs.Filling.{Filling, unfilled, block_cost, blocks_cost, filled_by, filling_of, records_on, IsAt}

-- the filling after one more block of a list
pub filling_more : (device : Device) (blocks : List Block) (i : ℕ) (block : Block) → i < length blocks → block ≡ get_or blocks i block
    → filling_of device (take (i + 1) blocks) ≡ filled_by device (filling_of device (take i blocks)) block
filling_more device blocks i block lt is =
    fold_more (filled_by device) unfilled blocks i block lt ∙ ap (filled_by device (filling_of device (take i blocks))) (sym is)

pub filled_on : (device : Device) (filling : Filling) (block : Block) → blocks_cost device filling.current + block_cost device block ≤ capacity_of device
    → filled_by device filling block ≡ record { full = filling.full; current = filling.current ++ block ∷ [] }
filled_on device filling block h = grind (arith, nat_tests)

pub filled_next : (device : Device) (filling : Filling) (block : Block) → capacity_of device < blocks_cost device filling.current + block_cost device block
    → filled_by device filling block ≡ record { full = filling.full ++ filling.current ∷ []; current = block ∷ [] }
filled_next device filling block h = grind (arith, nat_tests)

-- ---- one block

pub alone_costs : (device : Device) (block : Block) → FitsAlone device block → block_cost device block ≤ capacity_of device
alone_costs device block h = omega (arith, h)

pub costs_alone : (device : Device) (block : Block) → block_cost device block ≤ capacity_of device → FitsAlone device block
costs_alone device block h = omega (arith, h)

not_below : (m n : ℕ) → (IsTrue false ↔ m < n) → n ≤ m
not_below m n h = elim (cases_lt m n) [ inl lt ↦ absurd (false≢true (h.1 lt)) | inr le ↦ le ]

pub blocks_cost_push : (device : Device) (blocks : List Block) (block : Block) → blocks_cost device (blocks ++ block ∷ []) ≡ blocks_cost device blocks + block_cost device block
blocks_cost_push device blocks block = sum_by_push (block_cost device) blocks block

-- what a cursor says after one more block
pub record IsStep (device : Device) (filling : Filling) (block : Block) (opens : Bool) (number room : ℕ) : Type 0 where
  pub at : IsAt device number room (filled_by device filling block)
  pub full_is : (filled_by device filling block).full ≡ cond opens (filling.full ++ filling.current ∷ []) filling.full
  pub current_is : (filled_by device filling block).current ≡ cond opens (block ∷ []) (filling.current ++ block ∷ [])

pub cursor_step : (opens : Bool) (device : Device) (filling : Filling) (block : Block) (n r n' r' : ℕ) → IsAt device n r filling → (IsTrue opens ↔ r < block_cost device block)
    → OnFalse opens ((n' ≡ n + 1) × (r' + block_cost device block ≡ r)) → OnTrue opens ((n' ≡ 1) × (r' + block_cost device block ≡ capacity_of device))
    → IsStep device filling block opens n' r'
cursor_step false device filling block n r n' r' at opens stays opened =
    let le = not_below r (block_cost device block) opens in
    let e = filled_on device filling block (omega (arith, at.room_is)) in
    record {
      at = subst (IsAt device n' r') (sym e) (record {
        number_is = omega (arith, at.number_is, length-append filling.current (block ∷ []));
        room_is = omega (arith, at.room_is, blocks_cost_push device filling.current block);
      });
      full_is = ap (λ (f : Filling). f.full) e;
      current_is = ap (λ (f : Filling). f.current) e;
    }
cursor_step true device filling block n r n' r' at opens stays opened =
    let lt : r < block_cost device block = opens.0 refl in
    let e = filled_next device filling block (omega (arith, at.room_is)) in
    record {
      at = subst (IsAt device n' r') (sym e) (record {
        number_is = opened.0;
        room_is = omega (arith, opened.1);
      });
      full_is = ap (λ (f : Filling). f.full) e;
      current_is = ap (λ (f : Filling). f.current) e;
    }

-- ---- records and tracks

enumerate_push : {X : Type 0} (n : ℕ) (xs : List X) (x : X) → enumerate_from n (xs ++ x ∷ []) ≡ enumerate_from n xs ++ (n + length xs, x) ∷ []
enumerate_push n [] x = ap (λ (m : ℕ). (m, x) ∷ []) (omega arith)
enumerate_push n (y ∷ xs) x =
    let e : n + 1 + length xs ≡ n + length (y ∷ xs) = omega arith in
    ap (λ l. (n, y) ∷ l) (enumerate_push (n + 1) xs x ∙ ap (λ (m : ℕ). enumerate_from (n + 1) xs ++ (m, x) ∷ []) e)

pub records_push : (blocks : List Block) (block : Block) (n : ℕ) → n ≡ length blocks + 1 → records_on (blocks ++ block ∷ []) ≡ records_on blocks ++ record { r = n; key = block.key; body = block.body } ∷ []
records_push blocks block n e =
    ap (map record_of) (enumerate_push 1 blocks block) ∙ map-append record_of (enumerate_from 1 blocks) ((1 + length blocks, block) ∷ [])
    ∙ ap (λ (m : ℕ). records_on blocks ++ record { r = m; key = block.key; body = block.body } ∷ []) (omega (arith, e))

pub shows_put : (opens : Bool) (device : Device) (filling : Filling) (block : Block) (n r n' r' : ℕ) (tracks tracks' : List Track) (recs recs' recs'' : List Rec)
    → (IsTrue opens ↔ r < block_cost device block)
    → OnFalse opens ((n' ≡ n + 1) × (r' + block_cost device block ≡ r)) → OnTrue opens ((n' ≡ 1) × (r' + block_cost device block ≡ capacity_of device))
    → OnFalse opens ((tracks' ≡ tracks) × (recs' ≡ recs)) → OnTrue opens ((recs' ≡ []) × (tracks' ≡ tracks ++ record { flag = 0; r0 = replicate 8 0; recs = recs } ∷ []))
    → recs'' ≡ recs' ++ record { r = n'; key = block.key; body = block.body } ∷ []
    → tracks ≡ map track_of filling.full → recs ≡ records_on filling.current → IsAt device n r filling
    → (tracks' ≡ map track_of (filled_by device filling block).full) × (recs'' ≡ records_on (filled_by device filling block).current) × IsAt device n' r' (filled_by device filling block)
shows_put false device filling block n r n' r' tracks tracks' recs recs' recs'' opens stays opened kept closed pushed t c at =
    let step = cursor_step false device filling block n r n' r' at opens stays opened in
    let number : n' ≡ length filling.current + 1 = omega (arith, stays.0, at.number_is) in (
      kept.0 ∙ t ∙ ap (map track_of) (sym step.full_is),
      pushed ∙ ap (λ l. l ++ record { r = n'; key = block.key; body = block.body } ∷ []) (kept.1 ∙ c) ∙ sym (records_push filling.current block n' number) ∙ ap records_on (sym step.current_is),
      step.at,
    )
shows_put true device filling block n r n' r' tracks tracks' recs recs' recs'' opens stays opened kept closed pushed t c at =
    let step = cursor_step true device filling block n r n' r' at opens stays opened in
    let here : track_of filling.current ≡ record { flag = 0; r0 = replicate 8 0; recs = recs } = ap (λ l. record { flag = 0; r0 = replicate 8 0; recs = l }) (sym c) in (
      closed.1 ∙ ap (λ l. l ++ record { flag = 0; r0 = replicate 8 0; recs = recs } ∷ []) t ∙ ap (λ x. map track_of filling.full ++ x ∷ []) (sym here)
          ∙ sym (map-append track_of filling.full (filling.current ∷ [])) ∙ ap (map track_of) (sym step.full_is),
      pushed ∙ ap (λ l. l ++ record { r = n'; key = block.key; body = block.body } ∷ []) closed.0 ∙ ap (λ (m : ℕ). record { r = m; key = block.key; body = block.body } ∷ []) opened.0
          ∙ ap records_on (sym step.current_is),
      step.at,
    )

-- ---- the number of tracks

grows : (device : Device) (filling : Filling) (blocks : List Block) → length filling.full ≤ length (fold (filled_by device) filling blocks).full
grows device filling [] = omega arith
grows device filling (block ∷ more) =
    let one : length filling.full ≤ length (filled_by device filling block).full =
    elim (cases_lt (capacity_of device) (blocks_cost device filling.current + block_cost device block)) [
      | inl lt ↦ omega (arith, ap (λ (f : Filling). length f.full) (filled_next device filling block lt), length-append filling.full (filling.current ∷ []))
      | inr le ↦ omega (arith, ap (λ (f : Filling). length f.full) (filled_on device filling block le))
    ]
    in
    omega (arith, one, grows device (filled_by device filling block) more)

pub full_grows : (device : Device) (blocks : List Block) (i : ℕ) → length (filling_of device (take i blocks)).full ≤ length (filling_of device blocks).full
full_grows device blocks i =
    let e = fold-append (filled_by device) unfilled (take i blocks) (drop i blocks) in
    let whole = take-append-drop i blocks in
    subst (λ (l : List Block). length (filling_of device (take i blocks)).full ≤ length (filling_of device l).full) whole
    (subst (λ (f : Filling). length (filling_of device (take i blocks)).full ≤ length f.full) (sym e) (grows device (filling_of device (take i blocks)) (drop i blocks)))
