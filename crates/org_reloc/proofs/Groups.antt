-- The tracks that blocks fill are the fewest.
use Rattle.std.proofs.Common.{◌≡◌, ℕ, ◌+◌, ◌≤◌, List, [], ◌∷◌, ◌++◌, length, take, All, refl, sym, ap, subst, ◌∙◌, arith, append_assoc, fold, inl, inr, length-append}
use Rattle.std.specs.List.{flat_map, AllByRecursion}
use Rattle.std.proofs.lemmas.Bool.{cases_lt}
use Rattle.std.proofs.lemmas.List.{append-nil}
use Rattle.std.proofs.lemmas.List.Concat.{flat_map-append}
use Rattle.std.proofs.lemmas.List.Folds.{fold-map}
use Rattle.std.proofs.lemmas.List.Elements.{All-nil, All-cons, All-append, recursion_from_All}
use Rattle.ckd_image.specs.declared.device.Device.{Device}
use Rattle.ckd_image.specs.Device.{capacity_of, cost_of}
use Rattle.org_reloc.specs.declared.block.Block.{Block}
use Rattle.org_reloc.specs.Packing.{size_of, FitTrack, FitsAlone, IsFullBefore, AreFull, AreGrouped}
use Rattle.org_reloc.specs.Filling.{Filling, unfilled, block_cost, blocks_cost, filled_by, filling_of, groups_of}
use Rattle.org_reloc.specs.Refusal.{TakeTooMany}
use Rattle.org_reloc.proofs.Fillings.{filled_on, filled_next, blocks_cost_push, full_grows}

pub fit_by_cost : (device : Device) (blocks : List Block) → blocks_cost device blocks ≤ capacity_of device → FitTrack device blocks
fit_by_cost device blocks h = subst (λ n. n ≤ capacity_of device) (sym (fold-map (λ a (s : ℕ × ℕ). a + cost_of device s.0 s.1) size_of 0 blocks)) h

pub cost_by_fit : (device : Device) (blocks : List Block) → FitTrack device blocks → blocks_cost device blocks ≤ capacity_of device
cost_by_fit device blocks h = subst (λ n. n ≤ capacity_of device) (fold-map (λ a (s : ℕ × ℕ). a + cost_of device s.0 s.1) size_of 0 blocks) h

full_before_more : (device : Device) (group last : List Block) (block : Block) → IsFullBefore device group last → IsFullBefore device group (last ++ block ∷ [])
full_before_more device group [] block h = absurd h
full_before_more device group (first ∷ more) block h = h

full_more : (device : Device) (groups : List (List Block)) (last : List Block) (block : Block) → AreFull device (groups ++ last ∷ []) → AreFull device (groups ++ (last ++ block ∷ []) ∷ [])
full_more device [] last block h = tt
full_more device (group ∷ []) last block h = (full_before_more device group last block h.0, tt)
full_more device (group ∷ next ∷ more) last block h = (h.0, full_more device (next ∷ more) last block h.1)

full_close : (device : Device) (groups : List (List Block)) (last : List Block) (block : Block) → AreFull device (groups ++ last ∷ []) → ¬ FitTrack device (last ++ block ∷ [])
    → AreFull device ((groups ++ last ∷ []) ++ (block ∷ []) ∷ [])
full_close device [] last block h over = (over, tt)
full_close device (group ∷ []) last block h over = (h.0, (over, tt))
full_close device (group ∷ next ∷ more) last block h over = (h.0, full_close device (next ∷ more) last block h.1 over)

-- the groups so far are those of the blocks so far
record IsGood (device : Device) (filling : Filling) (done : List Block) : Type 0 where
  whole : flat_map (λ group. group) filling.full ++ filling.current ≡ done
  fit : All (FitTrack device) filling.full
  last : FitTrack device filling.current
  full : AreFull device (groups_of filling)

good_step : (device : Device) (filling : Filling) (done : List Block) (block : Block) → IsGood device filling done → FitsAlone device block → IsGood device (filled_by device filling block) (done ++ block ∷ [])
good_step device filling done block h alone =
    elim (cases_lt (capacity_of device) (blocks_cost device filling.current + block_cost device block)) [
      | inl lt ↦ subst (λ (f : Filling). IsGood device f (done ++ block ∷ [])) (sym (filled_next device filling block lt)) (record {
        whole = ap (λ l. l ++ block ∷ []) (flat_map-append (λ (group : List Block). group) filling.full (filling.current ∷ [])
            ∙ ap (λ l. flat_map (λ group. group) filling.full ++ l) (append-nil filling.current) ∙ h.whole);
        fit = All-append (FitTrack device) filling.full (filling.current ∷ []) h.fit (All-cons (FitTrack device) filling.current [] h.last (All-nil (FitTrack device)));
        last = alone;
        full = full_close device filling.full filling.current block h.full (λ fits. omega (arith, cost_by_fit device (filling.current ++ block ∷ []) fits, blocks_cost_push device filling.current block));
      })
      | inr le ↦ subst (λ (f : Filling). IsGood device f (done ++ block ∷ [])) (sym (filled_on device filling block le)) (record {
        whole = sym (append_assoc (flat_map (λ group. group) filling.full) filling.current (block ∷ [])) ∙ ap (λ l. l ++ block ∷ []) h.whole;
        fit = h.fit;
        last = fit_by_cost device (filling.current ++ block ∷ []) (omega (arith, blocks_cost_push device filling.current block));
        full = full_more device filling.full filling.current block h.full;
      })
    ]

good_all : (device : Device) (filling : Filling) (done blocks : List Block) → IsGood device filling done → AllByRecursion (FitsAlone device) blocks
    → IsGood device (fold (filled_by device) filling blocks) (done ++ blocks)
good_all device filling done [] h each = subst (IsGood device filling) (sym (append-nil done)) h
good_all device filling done (block ∷ more) h each =
    subst (IsGood device (fold (filled_by device) (filled_by device filling block) more)) (append_assoc done (block ∷ []) more)
    (good_all device (filled_by device filling block) (done ++ block ∷ []) more (good_step device filling done block h each.0) each.1)

nothing_fits : (device : Device) → FitTrack device []
nothing_fits device = fit_by_cost device [] (omega arith)

pub grouped : (device : Device) (blocks : List Block) → All (FitsAlone device) blocks → AreGrouped device blocks (groups_of (filling_of device blocks))
grouped device blocks each =
    let start : IsGood device unfilled [] = record { whole = refl; fit = All-nil (FitTrack device); last = nothing_fits device; full = tt } in
    let h = good_all device unfilled [] blocks start (recursion_from_All (FitsAlone device) blocks each) in
    let filling = filling_of device blocks in
    record {
      whole = flat_map-append (λ (group : List Block). group) filling.full (filling.current ∷ []) ∙ ap (λ l. flat_map (λ group. group) filling.full ++ l) (append-nil filling.current) ∙ h.whole;
      fit = All-append (FitTrack device) filling.full (filling.current ∷ []) h.fit (All-cons (FitTrack device) filling.current [] h.last (All-nil (FitTrack device)));
      full = h.full;
    }

-- a front of the blocks that fills so many tracks
pub too_many : (device : Device) (blocks : List Block) (i : ℕ) → All (FitsAlone device) blocks → 65535 ≤ length (filling_of device (take i blocks)).full → TakeTooMany device blocks
too_many device blocks i each h = record {
  groups = groups_of (filling_of device blocks);
  grouped = grouped device blocks each;
  many = omega (arith, full_grows device blocks i, length-append (filling_of device blocks).full ((filling_of device blocks).current ∷ []));
}
