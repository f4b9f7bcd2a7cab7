-- An open body is put in place again: the last two steps of a commit of what it holds.
use Rattle.std.proofs.Common.{◌≡◌, inl, inr, ℕ, zero, suc, ◌+◌, ◌<◌, ◌≤◌, List, [], ◌∷◌, ◌++◌, length, take, get_or, Bool, true, false, refl, sym, ◌∙◌, ap, subst, arith}
use Rattle.std.specs.Prelude.{◌==◌, ◌||◌, if◌then◌else◌, All, Option, Some, None, unwrap_or}
use Rattle.std.specs.List.{AllByRecursion}
use Rattle.std.proofs.lemmas.List.Elements.{recursion_from_All}
use Rattle.std.proofs.lemmas.List.{take_all}
use Rattle.std.proofs.lemmas.Bool.{or_parts, and_parts, eqb-true, cases_Bool}
use Rattle.dasd_pool.specs.Disk.{Image, Shape, State, Disk, LeavesOnly, Touches, Runs, Spares, IsSynced, none, is_at}
use Rattle.dasd_pool.proofs.Moments.{and_then, weaken, runs_then}
use Rattle.redo_core.specs.declared.entries.Entry.{Entry}
use Rattle.redo_core.specs.declared.target.Target.{Target}
use Rattle.redo_core.specs.Format.{is_open, directory_in}
use Rattle.redo_core.specs.Reading.{journal_of, control_block, among, overlay, placed, body_for, entry_for, IsTarget}
use Rattle.redo_core.specs.Phases.{targets}
use Rattle.redo_core.specs.Steps.{HoldsNew, IsDone, HasTargets, shown}
use Rattle.redo_core.proofs.Crash.{images_from, not_place, placing_crash, closing_crash, IsReady}
use Rattle.redo_core.proofs.Transitions.{images_push, placed_more, written_set}
use Rattle.redo_core.proofs.CommitMoments.{placed_ready, gate_ready, is_done}

-- no target is a block of the journal, apart from the control
unlisted_by : (shape : Shape) (journal : ℕ) (list : List Target) → AllByRecursion (IsTarget shape journal) list → (b : ℕ) → (b ≡ 2 → ⊥) → among list journal b ≡ false
unlisted_by shape journal [] all b other = refl
unlisted_by shape journal (target ∷ list) all b other =
    ap (λ (t : Bool). t || among list journal b) (not_place journal target.unit target.block b all.0.place other) ∙ unlisted_by shape journal list all.1 b other

pub unlisted_targets : (shape : Shape) (journal : ℕ) (list : List Target) → All (IsTarget shape journal) list → (b : ℕ) → (b ≡ 2 → ⊥) → among list journal b ≡ false
unlisted_targets shape journal list all = unlisted_by shape journal list (recursion_from_All (IsTarget shape journal) list all)

-- a target of the list is among them
pub listed : (list : List Target) (i : ℕ) (d : Target) → i < length list → (u b : ℕ) → among list u b ≡ false → is_at (get_or list i d).unit (get_or list i d).block u b ≡ false
listed [] i d less u b none = absurd (omega arith)
listed (target ∷ list) zero d less u b none = (or_parts (is_at target.unit target.block u b) (among list u b) none).0
listed (target ∷ list) (suc i) d less u b none = listed list i d (omega arith) u b (or_parts (is_at target.unit target.block u b) (among list u b) none).1

-- a read, and a write of a target
pub target_runs : (list : List Target) (i : ℕ) (target : Target) → i < length list → target ≡ get_or list i target → (old one read other : Disk) → Runs (among list) old one → Runs none one read
    → Runs (is_at target.unit target.block) read other → Runs (among list) old other
target_runs list i target less is old one read other so_far reads writes =
    runs_then (among list) (among list) (is_at target.unit target.block) old read other (λ u b apart. apart)
    (λ u b apart. subst (λ (t : Target). is_at t.unit t.block u b ≡ false) (sym is) (listed list i target less u b apart))
    (runs_then (among list) (among list) none old one read (λ u b apart. apart) (λ u b apart. refl) so_far reads)
    writes

module _ (size : ℕ → ℕ) (journal : ℕ) where
  -- the targets of a body's entries
  pub targets_from : (image : Image) (list : List Target) (i : ℕ) → targets (images_from size journal image i list) ≡ list
  targets_from image [] i = refl
  targets_from image (target ∷ list) i = ap (λ (l : List Target). target ∷ l) (targets_from image list (i + 1))

  -- one image more is put in place
  pub place_more : (old : Image) (one other : State) (list later : List Target) (target : Target) (n : ℕ) (bytes : List ℕ) → n ≡ 4 + length list → Touches (is_at target.unit target.block) one other
      → other.contents target.unit target.block ≡ bytes → bytes ≡ take (size target.unit) (old journal n) → later ≡ list ++ target ∷ []
      → ((u b : ℕ) → one.contents u b ≡ placed old (body_for size journal old list) u b) → (u b : ℕ) → other.contents u b ≡ placed old (body_for size journal old later) u b
  place_more old one other list later target n bytes at touches here is more so u b =
      written_set target.unit target.block bytes one other touches here u b
      ∙ (λ i. if is_at target.unit target.block u b then is i else so u b i)
      ∙ (λ i. sym (placed_more old (body_for size journal old list) (entry_for size journal old (n, target))) i u b)
      ∙ (λ i. placed old (sym (images_push size journal old list target 4 n at) i) u b)
      ∙ (λ i. placed old (body_for size journal old (sym more i)) u b)

  -- the blocks with the open body in place
  pub overlay_has : (image : Image) (list : List Target) → HasTargets journal image list → (u b : ℕ) → overlay size journal image u b ≡ placed image (body_for size journal image list) u b
  overlay_has image list has u b = elim (cases_Bool (is_open (image journal 1))) [
    | inl opened ↦
        ap (λ (t : Bool). if t then placed image (body_for size journal image (directory_in (image journal 3))) u b else image u b) opened
        ∙ ap (λ (l : List Target). placed image (body_for size journal image l) u b) (has.«open» opened).0
    | inr closed ↦
        ap (λ (t : Bool). if t then placed image (body_for size journal image (directory_in (image journal 3))) u b else image u b) closed
        ∙ sym (ap (λ (l : List Target). placed image (body_for size journal image l) u b) (has.closed closed))
  ]

  -- where a block's bytes are, with one target more
  pub image_more : (image : Image) (list later : List Target) (target : Target) (unit block place : ℕ) (found next : Option ℕ) → later ≡ list ++ target ∷ [] → place ≡ 4 + length list
      → next ≡ (if is_at target.unit target.block unit block then Some place else found) → placed image (body_for size journal image list) unit block ≡ shown size journal image unit block found
      → placed image (body_for size journal image later) unit block ≡ shown size journal image unit block next
  image_more image list later target unit block place found next more at is so_far =
      ap (λ (l : List Target). placed image (body_for size journal image l) unit block) more
      ∙ (λ i. placed image (images_push size journal image list target 4 place at i) unit block)
      ∙ (λ i. placed_more image (body_for size journal image list) (entry_for size journal image (place, target)) i unit block)
      ∙ elim (cases_Bool (is_at target.unit target.block unit block)) [
        | inl here ↦
            let parts = and_parts (unit == target.unit) (block == target.block) here in
            ap (λ (t : Bool). if t then take (size target.unit) (image journal place) else placed image (body_for size journal image list) unit block) here
            ∙ ap (λ (u : ℕ). take (size u) (image journal place)) (sym (eqb-true unit target.unit parts.0))
            ∙ sym (ap (λ (o : Option ℕ). shown size journal image unit block o) (is ∙ ap (λ (t : Bool). if t then Some place else found) here))
        | inr apart ↦
            ap (λ (t : Bool). if t then take (size target.unit) (image journal place) else placed image (body_for size journal image list) unit block) apart
            ∙ so_far
            ∙ sym (ap (λ (o : Option ℕ). shown size journal image unit block o) (is ∙ ap (λ (t : Bool). if t then Some place else found) apart))
      ]

  module _ (old : Disk) (list : List Target) (all : IsSynced old.state) (opened : is_open (old.state.contents journal 1) ≡ true) (names : directory_in (old.state.contents journal 3) ≡ list) (some : 1 ≤ length list)
      (apart : (b : ℕ) → (b ≡ 2 → ⊥) → among list journal b ≡ false) where
    abbrev body : List Entry
    body = body_for size journal old.state.contents list

    are : targets body ≡ list
    are = targets_from old.state.contents list 4

    ready : IsReady size journal old.state.contents old.state.contents body old.state
    ready = record {
      all = all;
      body = record { names = names ∙ sym are; images = ap (λ (l : List Target). body_for size journal old.state.contents l) are };
      some = some_entry list some;
      registration = refl;
      places = λ u b within. refl;
    }
      where
        some_entry : (l : List Target) → 1 ≤ length l → 1 ≤ length (body_for size journal old.state.contents l)
        some_entry [] less = absurd (omega arith)
        some_entry (target ∷ l) less = omega arith

    no_entry : (b : ℕ) → (b ≡ 2 → ⊥) → among (targets body) journal b ≡ false
    no_entry b other = ap (λ (l : List Target). among l journal b) are ∙ apart b other

    runs_body : (done : Disk) → Runs (among list) old done → Runs (among (targets body)) old done
    runs_body done run = subst (λ (l : List Target). Runs (among l) old done) (sym are) run

    -- the targets are written
    pub placing_moments : (done : Disk) → Runs (among list) old done → LeavesOnly old done (HoldsNew size journal old.state (body_for size journal old.state.contents list))
    placing_moments done run =
        weaken old done (Spares (among (targets body)) old.state) (HoldsNew size journal old.state body)
        (λ image spares. placing_crash size journal old.state old.state body image ready opened no_entry spares) (runs_body done run).leaves

    placed_body : (done : Disk) → Runs (among list) old done → ((u b : ℕ) → done.state.contents u b ≡ placed old.state.contents body u b) → IsSynced done.state → IsReady size journal old.state.contents (placed old.state.contents body) body done.state
    placed_body done run is_placed synced = placed_ready size journal body old old done ready no_entry (runs_body done run) is_placed synced

    -- the gate is closed
    pub closing_moments : (done new : Disk) → Runs (among list) old done → ((u b : ℕ) → done.state.contents u b ≡ placed old.state.contents (body_for size journal old.state.contents list) u b) → IsSynced done.state
        → Runs (is_at journal 1) done new → LeavesOnly old new (HoldsNew size journal old.state (body_for size journal old.state.contents list))
    closing_moments done new run is_placed synced close =
        and_then old done new (HoldsNew size journal old.state body) (placing_moments done run)
        (weaken done new (Spares (is_at journal 1) done.state) (HoldsNew size journal old.state body)
        (λ image spares. closing_crash size journal old.state done.state body image (placed_body done run is_placed synced) spares) close.leaves)

    pub redo_done : (done new : Disk) (zeros : List ℕ) → Runs (among list) old done → ((u b : ℕ) → done.state.contents u b ≡ placed old.state.contents (body_for size journal old.state.contents list) u b) → IsSynced done.state
        → Runs (is_at journal 1) done new → IsSynced new.state → new.state.contents journal 1 ≡ 0 ∷ zeros → IsDone journal old.state (body_for size journal old.state.contents list) new.state
    redo_done done new zeros run is_placed synced close all_synced gate =
        is_done size journal body old new zeros
        (gate_ready size journal body old.state.contents (placed old.state.contents body) done new (placed_body done run is_placed synced) close all_synced) gate

-- the control block, read where it is
pub control_read : (shape : Shape) (unit : ℕ) (image : Image) (list : List Target) (found : Option ℕ) (place : ℕ) (buffer : List ℕ) → journal_of shape ≡ unit → HasTargets (journal_of shape) image list
    → placed image (body_for shape.block_size (journal_of shape) image list) unit 2 ≡ shown shape.block_size (journal_of shape) image unit 2 found → place ≡ unwrap_or found 2
    → buffer ≡ image (journal_of shape) place → length buffer ≡ shape.block_size unit → control_block shape image ≡ buffer
control_read shape unit image list found place buffer is has at place_is read long =
    overlay_has shape.block_size (journal_of shape) image list has (journal_of shape) 2
    ∙ ap (λ (u : ℕ). placed image (body_for shape.block_size (journal_of shape) image list) u 2) is
    ∙ at ∙ is_read found place_is
  where
    is_read : (o : Option ℕ) → place ≡ unwrap_or o 2 → shown shape.block_size (journal_of shape) image unit 2 o ≡ buffer
    is_read (Some p) here =
        ap (λ (k : ℕ). take (shape.block_size unit) (image (journal_of shape) k)) (sym here) ∙ ap (λ (l : List ℕ). take (shape.block_size unit) l) (sym read)
        ∙ take_all (shape.block_size unit) buffer (omega (arith, long))
    is_read None here = ap (λ (u : ℕ). image u 2) (sym is) ∙ ap (λ (k : ℕ). image (journal_of shape) k) (sym here) ∙ sym read
