-- How the calls of the pool lead from one state of a commit to the next.
use Rattle.std.proofs.Common.{◌≡◌, inl, inr, ℕ, ◌+◌, ◌<◌, ◌≤◌, List, [], ◌∷◌, ◌++◌, length, take, get_or, zero, suc, Bool, false, refl, sym, ◌∙◌, ap, arith}
use Rattle.std.specs.Prelude.{◌==◌, ◌&&◌, nat_le, if◌then◌else◌}
use Rattle.std.proofs.lemmas.Bool.{cases_Bool, and_parts, or_parts, eqb-true, cases_eq, both_ways, and_from, eq-eqb, le-leb}
use Rattle.std.proofs.lemmas.List.{take_at}
use Rattle.dasd_pool.specs.Disk.{Image, State, Disk, Touches, Runs, is_at, none}
use Rattle.dasd_pool.proofs.Moments.{runs_then}
use Rattle.redo_core.specs.declared.entries.Entry.{Entry}
use Rattle.redo_core.specs.declared.target.Target.{Target}
use Rattle.redo_core.specs.Format.{directory_in}
use Rattle.redo_core.specs.Reading.{set_block, placed, among, entry_for}
use Rattle.redo_core.specs.Phases.{targets, of_body}
use Rattle.redo_core.specs.Steps.{HasEntries}
use Rattle.redo_core.proofs.Crash.{other_unit, other_block, images_from, images_same}

-- a block of the body is one of its blocks
pub body_within : (journal count block u b : ℕ) → 3 ≤ block → block ≤ 3 + count → of_body journal count u b ≡ false → is_at journal block u b ≡ false
body_within journal count block u b high low apart = elim (cases_eq u journal) [
  | inl same ↦ other_block journal block u b (λ at. both_ways (of_body journal count u b) apart
      (and_from (u == journal) (nat_le 3 b && nat_le b (3 + count)) (eq-eqb u journal same) (and_from (nat_le 3 b) (nat_le b (3 + count)) (le-leb 3 b (omega arith)) (le-leb b (3 + count) (omega arith)))))
  | inr other ↦ other_unit journal block u b other
]

-- the images, the directory, a sync
pub body_runs : (journal count : ℕ) (old staged named done : Disk) → Runs (of_body journal count) old staged → Runs (is_at journal 3) staged named → Runs none named done → Runs (of_body journal count) old done
body_runs journal count old staged named done first second third =
    runs_then (of_body journal count) (of_body journal count) none old named done (λ u b apart. apart) (λ u b apart. refl)
    (runs_then (of_body journal count) (of_body journal count) (is_at journal 3) old staged named (λ u b apart. apart) (λ u b apart. body_within journal count 3 u b (omega arith) (omega arith) apart) first second)
    third

pub length-targets : (entries : List Entry) → length (targets entries) ≡ length entries
length-targets [] = refl
length-targets (entry ∷ entries) = ap suc (length-targets entries)

pub targets-push : (entries : List Entry) (entry : Entry) → targets (entries ++ entry ∷ []) ≡ targets entries ++ record { unit = entry.unit; block = entry.block } ∷ []
targets-push [] entry = refl
targets-push (first ∷ entries) entry = ap (λ (list : List Target). record { unit = first.unit; block = first.block } ∷ list) (targets-push entries entry)

module _ (size : ℕ → ℕ) (journal : ℕ) where
  pub images_below : (one other : Image) (list : List Target) (i : ℕ) → ((b : ℕ) → b < i + length list → other journal b ≡ one journal b) → images_from size journal other i list ≡ images_from size journal one i list
  images_below one other [] i same = refl
  images_below one other (target ∷ list) i same =
      λ k. record { unit = target.unit; block = target.block; slot = take (size target.unit) (same i (omega arith) k) } ∷ images_below one other list (i + 1) (λ b less. same b (omega arith)) k

  pub images_push : (image : Image) (list : List Target) (target : Target) (i n : ℕ) → n ≡ i + length list
      → images_from size journal image i (list ++ target ∷ []) ≡ images_from size journal image i list ++ entry_for size journal image (n, target) ∷ []
  images_push image [] target i n at = let same : i ≡ n = omega arith in ap (λ (k : ℕ). entry_for size journal image (k, target) ∷ []) same
  images_push image (first ∷ list) target i n at = ap (λ (l : List Entry). entry_for size journal image (i, first) ∷ l) (images_push image list target (i + 1) n (omega arith))

  -- one image more
  pub images_more : (one other : State) (entries later : List Entry) (entry : Entry) (zeros : List ℕ) (n : ℕ) → n ≡ 4 + length entries → Touches (is_at journal n) one other
      → other.contents journal n ≡ entry.slot ++ zeros → length entry.slot ≡ size entry.unit → later ≡ entries ++ entry ∷ []
      → images_from size journal one.contents 4 (targets entries) ≡ entries → images_from size journal other.contents 4 (targets later) ≡ later
  images_more one other entries later entry zeros n at touches here long more has =
      let bytes : take (size entry.unit) (other.contents journal n) ≡ entry.slot = ap (λ (l : List ℕ). take (size entry.unit) l) here ∙ take_at entry.slot zeros (size entry.unit) long in
      let before : images_from size journal other.contents 4 (targets entries) ≡ entries =
      images_below one.contents other.contents (targets entries) 4 (λ b less. touches.contents journal b (other_block journal n journal b (λ same. omega (arith, length-targets entries)))) ∙ has in
      ap (λ (list : List Entry). images_from size journal other.contents 4 (targets list)) more
      ∙ ap (λ (list : List Target). images_from size journal other.contents 4 list) (targets-push entries entry)
      ∙ images_push other.contents (targets entries) (record { unit = entry.unit; block = entry.block }) 4 n (omega (arith, length-targets entries))
      ∙ (λ k. before k ++ record { unit = entry.unit; block = entry.block; slot = bytes k } ∷ [])
      ∙ sym more

  -- the directory, behind the images
  pub body_from : (staged named done : State) (entries : List Entry) (text : List ℕ) → images_from size journal staged.contents 4 (targets entries) ≡ entries → Touches (is_at journal 3) staged named → Touches none named done
      → named.contents journal 3 ≡ text → directory_in text ≡ targets entries → HasEntries size journal done.contents entries
  body_from staged named done entries text has touches synced here says = record {
    names = ap directory_in (synced.contents journal 3 refl ∙ here) ∙ says;
    images = images_same size journal staged.contents done.contents (targets entries) 4
        (λ b high. synced.contents journal b refl ∙ touches.contents journal b (other_block journal 3 journal b (λ same. omega arith))) ∙ has;
  }

-- the blocks with one entry more in place
pub placed_more : (image : Image) (entries : List Entry) (entry : Entry) → placed image (entries ++ entry ∷ []) ≡ set_block (placed image entries) entry.unit entry.block entry.slot
placed_more image [] entry = refl
placed_more image (first ∷ entries) entry = placed_more (set_block image first.unit first.block first.slot) entries entry

-- a write puts an entry in place
pub written_set : (unit block : ℕ) (bytes : List ℕ) (old new : State) → Touches (is_at unit block) old new → new.contents unit block ≡ bytes → (u b : ℕ) → new.contents u b ≡ set_block old.contents unit block bytes u b
written_set unit block bytes old new touches here u b = elim (cases_Bool (is_at unit block u b)) [
  | inl at ↦
      let parts = and_parts (u == unit) (b == block) at in
      (λ i. new.contents (eqb-true u unit parts.0 i) (eqb-true b block parts.1 i)) ∙ here ∙ sym (ap (λ (t : Bool). if t then bytes else old.contents u b) at)
  | inr apart ↦ touches.contents u b apart ∙ sym (ap (λ (t : Bool). if t then bytes else old.contents u b) apart)
]

-- an entry of the list is one of its targets
pub named : (entries : List Entry) (i : ℕ) (d : Entry) → i < length entries → (u b : ℕ) → among (targets entries) u b ≡ false → is_at (get_or entries i d).unit (get_or entries i d).block u b ≡ false
named [] i d less u b none = absurd (omega arith)
named (entry ∷ entries) zero d less u b none = (or_parts (is_at entry.unit entry.block u b) (among (targets entries) u b) none).0
named (entry ∷ entries) (suc i) d less u b none = named entries i d (omega arith) u b (or_parts (is_at entry.unit entry.block u b) (among (targets entries) u b) none).1

pub placed_step : (old : Image) (one other : State) (entries later : List Entry) (entry : Entry) → Touches (is_at entry.unit entry.block) one other → other.contents entry.unit entry.block ≡ entry.slot
    → later ≡ entries ++ entry ∷ [] → ((u b : ℕ) → one.contents u b ≡ placed old entries u b) → (u b : ℕ) → other.contents u b ≡ placed old later u b
placed_step old one other entries later entry touches here more so u b =
    written_set entry.unit entry.block entry.slot one other touches here u b
    ∙ ap (λ (l : List ℕ). if is_at entry.unit entry.block u b then entry.slot else l) (so u b)
    ∙ (λ i. sym (placed_more old entries entry) i u b)
    ∙ (λ i. placed old (sym more i) u b)
