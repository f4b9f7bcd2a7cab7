-- The four steps of a commit, one after another.
use Rattle.std.proofs.Common.{◌≡◌, inl, inr, ℕ, ◌≤◌, List, [], ◌∷◌, length, Bool, true, false, refl, ◌∙◌, ap, arith}
use Rattle.std.specs.Prelude.{◌||◌, All}
use Rattle.std.specs.List.{AllByRecursion}
use Rattle.std.proofs.lemmas.Bool.{or_parts}
use Rattle.std.proofs.lemmas.List.Elements.{recursion_from_All}
use Rattle.dasd_pool.specs.Disk.{Image, Shape, State, Disk, LeavesOnly, Runs, Spares, Touches, IsSynced, is_at, none}
use Rattle.dasd_pool.proofs.Moments.{and_then, weaken, since_start}
use Rattle.redo_core.specs.declared.entries.Entry.{Entry}
use Rattle.redo_core.specs.Format.{is_open}
use Rattle.redo_core.specs.Reading.{among, placed}
use Rattle.redo_core.specs.Phases.{targets, of_body, of_commit}
use Rattle.redo_core.specs.Steps.{HoldsEither, IsShut, IsDone, HasEntries, IsPlaced}
use Rattle.redo_core.proofs.Crash.{not_place, other_block, not_gate, not_gate_block, not_body, low_not_body, body_same, placed_agree, staging_crash, opening_crash, placing_crash, closing_crash, IsReady}

-- no entry is a block of the journal, apart from the control
unlisted_by : (shape : Shape) (journal : ℕ) (entries : List Entry) → AllByRecursion (IsPlaced shape journal) entries → (b : ℕ) → (b ≡ 2 → ⊥) → among (targets entries) journal b ≡ false
unlisted_by shape journal [] all b other = refl
unlisted_by shape journal (entry ∷ entries) all b other =
    ap (λ (t : Bool). t || among (targets entries) journal b) (not_place journal entry.unit entry.block b all.0.place other) ∙ unlisted_by shape journal entries all.1 b other

pub unlisted : (shape : Shape) (journal : ℕ) (entries : List Entry) → All (IsPlaced shape journal) entries → (b : ℕ) → (b ≡ 2 → ⊥) → among (targets entries) journal b ≡ false
unlisted shape journal entries all = unlisted_by shape journal entries (recursion_from_All (IsPlaced shape journal) entries all)

module _ (size : ℕ → ℕ) (journal : ℕ) (entries : List Entry) where
  abbrev Outcome : State → Image → Type 0
  Outcome old = HoldsEither size journal old entries

  -- the body is written
  pub body_moments : (old staged : Disk) → IsShut journal old.state → Runs (of_body journal (length entries)) old staged → LeavesOnly old staged (Outcome old.state)
  body_moments old staged shut run = weaken old staged (Spares (of_body journal (length entries)) old.state) (Outcome old.state) (λ image spares. inl (staging_crash size journal (length entries) old.state image shut spares)) run.leaves

  pub body_ready : (old staged : Disk) → 1 ≤ length entries → Runs (of_body journal (length entries)) old staged → IsSynced staged.state → HasEntries size journal staged.state.contents entries
      → IsReady size journal old.state.contents old.state.contents entries staged.state
  body_ready old staged some run all body = record {
    all = all;
    body = body;
    some = some;
    registration = run.touches.contents journal 0 (low_not_body size journal (length entries) 0 (omega arith));
    places = λ u b within. run.touches.contents u b (not_body size journal (length entries) u b within);
  }

  -- the gate is opened
  pub opened_moments : (old staged opened : Disk) → LeavesOnly old staged (Outcome old.state) → IsReady size journal old.state.contents old.state.contents entries staged.state → Runs (is_at journal 1) staged opened
      → LeavesOnly old opened (Outcome old.state)
  opened_moments old staged opened so_far ready run =
      and_then old staged opened (Outcome old.state) so_far
      (weaken staged opened (Spares (is_at journal 1) staged.state) (Outcome old.state) (λ image spares. opening_crash size journal old.state staged.state entries image ready spares) run.leaves)

  pub gate_ready : (first shown : Image) (one other : Disk) → IsReady size journal first shown entries one.state → Runs (is_at journal 1) one other → IsSynced other.state → IsReady size journal first shown entries other.state
  gate_ready first shown one other ready run all = record {
    all = all;
    body = body_same size journal one.state.contents other.state.contents entries (λ b high. run.touches.contents journal b (not_gate_block size journal b high)) ready.body;
    some = ready.some;
    registration = run.touches.contents journal 0 (other_block journal 1 journal 0 (λ same. omega arith)) ∙ ready.registration;
    places = λ u b within. run.touches.contents u b (not_gate size journal u b within) ∙ ready.places u b within;
  }

  -- the targets are written
  pub placed_moments : (old opened done : Disk) → LeavesOnly old opened (Outcome old.state) → IsReady size journal old.state.contents old.state.contents entries opened.state → is_open (opened.state.contents journal 1) ≡ true
      → ((b : ℕ) → (b ≡ 2 → ⊥) → among (targets entries) journal b ≡ false) → Runs (among (targets entries)) opened done → LeavesOnly old done (Outcome old.state)
  placed_moments old opened done so_far ready gate apart run =
      and_then old opened done (Outcome old.state) so_far
      (weaken opened done (Spares (among (targets entries)) opened.state) (Outcome old.state)
      (λ image spares. inr (placing_crash size journal old.state opened.state entries image ready gate apart spares)) run.leaves)

  pub placed_ready : (old opened done : Disk) → IsReady size journal old.state.contents old.state.contents entries opened.state → ((b : ℕ) → (b ≡ 2 → ⊥) → among (targets entries) journal b ≡ false)
      → Runs (among (targets entries)) opened done → ((u b : ℕ) → done.state.contents u b ≡ placed opened.state.contents entries u b) → IsSynced done.state
      → IsReady size journal old.state.contents (placed old.state.contents entries) entries done.state
  placed_ready old opened done ready apart run is_placed all = record {
    all = all;
    body = body_same size journal opened.state.contents done.state.contents entries (λ b high. run.touches.contents journal b (apart b (λ same. omega arith))) ready.body;
    some = ready.some;
    registration = run.touches.contents journal 0 (apart 0 (λ same. omega arith)) ∙ ready.registration;
    places = λ u b within. is_placed u b ∙ placed_agree entries opened.state.contents old.state.contents u b (λ none. ready.places u b within);
  }

  -- the gate is closed
  pub closed_moments : (old done closed : Disk) → LeavesOnly old done (Outcome old.state) → IsReady size journal old.state.contents (placed old.state.contents entries) entries done.state → Runs (is_at journal 1) done closed
      → LeavesOnly old closed (Outcome old.state)
  closed_moments old done closed so_far ready run =
      and_then old done closed (Outcome old.state) so_far
      (weaken done closed (Spares (is_at journal 1) done.state) (Outcome old.state) (λ image spares. inr (closing_crash size journal old.state done.state entries image ready spares)) run.leaves)

  pub is_done : (old closed : Disk) (zeros : List ℕ) → IsReady size journal old.state.contents (placed old.state.contents entries) entries closed.state → closed.state.contents journal 1 ≡ 0 ∷ zeros
      → IsDone journal old.state entries closed.state
  is_done old closed zeros ready gate = record { all = ready.all; closed = ap is_open gate; registration = ready.registration; places = ready.places }

-- each step writes blocks of the journal, or targets
pub of_commit_parts : (journal : ℕ) (entries : List Entry) (u b : ℕ) → of_commit journal entries u b ≡ false → (of_body journal (length entries) u b ≡ false) × (is_at journal 1 u b ≡ false) × (among (targets entries) u b ≡ false)
of_commit_parts journal entries u b apart =
    let parts = or_parts (of_body journal (length entries) u b || is_at journal 1 u b) (among (targets entries) u b) apart in
    let own = or_parts (of_body journal (length entries) u b) (is_at journal 1 u b) parts.0 in
    (own.0, own.1, parts.1)

-- each image that a crash since the start has left
pub each_image : (size : ℕ → ℕ) (journal : ℕ) (entries : List Entry) (old new : Disk) → IsShut journal old.state → LeavesOnly old new (HoldsEither size journal old.state entries)
    → (image : Image) → new.left_since old.moment image → HoldsEither size journal old.state entries image
each_image size journal entries old new shut run =
    since_start old new (HoldsEither size journal old.state entries) run (λ image left. inl (staging_crash size journal 0 old.state image shut (λ u b apart was. left u b was)))

-- with no entries a sync is all
pub synced_moments : (size : ℕ → ℕ) (journal : ℕ) (entries : List Entry) (old new : Disk) → IsShut journal old.state → Runs none old new → LeavesOnly old new (HoldsEither size journal old.state entries)
synced_moments size journal entries old new shut run =
    weaken old new (Spares none old.state) (HoldsEither size journal old.state entries) (λ image spares. inl (staging_crash size journal 0 old.state image shut (λ u b apart was. spares u b refl was))) run.leaves

pub synced_done : (journal : ℕ) (entries : List Entry) (old new : State) → length entries ≡ 0 → IsShut journal old → Touches none old new → IsSynced new → IsDone journal old entries new
synced_done journal [] old new empty shut touches all = record {
  all = all;
  closed = ap is_open (touches.contents journal 1 refl) ∙ shut.closed;
  registration = touches.contents journal 0 refl;
  places = λ u b within. touches.contents u b refl;
}
synced_done journal (entry ∷ entries) old new empty shut touches all = absurd (omega arith)
