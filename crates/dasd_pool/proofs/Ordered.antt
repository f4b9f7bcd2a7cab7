-- One block is written after another.
use Rattle.std.proofs.Common.{◌≡◌, inl, inr, ℕ, List, Bool, sym, ◌∙◌, ap}
use Rattle.std.specs.Prelude.{◌==◌, if◌then◌else◌}
use Rattle.std.proofs.lemmas.Bool.{cases_Bool, and_parts, eqb-true}
use Rattle.dasd_pool.specs.Disk.{Image, State, Disk, LeavesOnly, Touches, Spares, Runs, IsSynced, is_at}
use Rattle.dasd_pool.proofs.Moments.{and_then, weaken, since_start}
use Rattle.dasd_pool.specs.Order.{with_block, InOrder}

-- a block was written
set_block : (unit block : ℕ) (bytes : List ℕ) (old new : State) → Touches (is_at unit block) old new → new.contents unit block ≡ bytes → (u b : ℕ) → new.contents u b ≡ with_block unit block bytes old.contents u b
set_block unit block bytes old new touches is u b = elim (cases_Bool (is_at unit block u b)) [
  | inl at ↦
      let parts = and_parts (u == unit) (b == block) at in
      (λ i. new.contents (eqb-true u unit parts.0 i) (eqb-true b block parts.1 i)) ∙ is ∙ sym (ap (λ (t : Bool). if t then bytes else old.contents u b) at)
  | inr apart ↦ touches.contents u b apart ∙ sym (ap (λ (t : Bool). if t then bytes else old.contents u b) apart)
]

module _ (unit first second : ℕ) (bytes : List ℕ) (old : Disk) where
  pub in_order_first : (mid : Disk) → Runs (is_at unit first) old mid → LeavesOnly old mid (InOrder old.state unit first bytes second)
  in_order_first mid run = weaken old mid (Spares (is_at unit first) old.state) (InOrder old.state unit first bytes second) (λ image spares. inl spares) run.leaves

  pub in_order_both : (mid new : Disk) → Runs (is_at unit first) old mid → mid.state.contents unit first ≡ bytes → IsSynced mid.state → Runs (is_at unit second) mid new
      → LeavesOnly old new (InOrder old.state unit first bytes second)
  in_order_both mid new run is synced next = and_then old mid new (InOrder old.state unit first bytes second) (in_order_first mid run)
      (weaken mid new (Spares (is_at unit second) mid.state) (InOrder old.state unit first bytes second)
      (λ image spares. inr (λ u b apart. spares u b apart (synced u b) ∙ set_block unit first bytes old.state mid.state run.touches is u b)) next.leaves)

  pub in_order_since : (new : Disk) → LeavesOnly old new (InOrder old.state unit first bytes second) → (image : Image) → new.left_since old.moment image → InOrder old.state unit first bytes second image
  in_order_since new run = since_start old new (InOrder old.state unit first bytes second) run (λ image left. inl (λ u b apart was. left u b was))
