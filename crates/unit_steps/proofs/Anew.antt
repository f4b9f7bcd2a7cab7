-- The entries of rendered changes: each is another slot than its block holds, so that a block that stays the same has none.
use Rattle.std.proofs.Common.{◌≡◌, ◌≢◌, ◌==◌, inl, inr, ℕ, List, [], ◌∷◌, map, All, AllPairs, Bool, true, false, refl, sym, ap, ◌∙◌}
use Rattle.std.specs.Prelude.{◌||◌, if◌then◌else◌}
use Rattle.std.proofs.lemmas.Bool.{cases_Bool, and_parts, eqb-true}
use Rattle.std.proofs.lemmas.List.Elements.{All-nil, All-cons, All-append, All-head, All-tail, All-map}
use Rattle.dasd_pool.specs.Disk.{Image, Shape, is_at}
use Rattle.redo_core.specs.declared.entries.Entry.{Entry}
use Rattle.redo_core.specs.declared.target.Target.{Target}
use Rattle.redo_core.specs.Phases.{targets}
use Rattle.redo_core.specs.Reading.{among, placed, set_block}
use Rattle.redo_core.proofs.Crash.{placed_other}
use Rattle.volume_change.specs.declared.change.Change.{Change}
use Rattle.unit_change.specs.vtoc_render.declared.change.Rendered.{Rendered}
use Rattle.unit_load.specs.declared.state.UnitState.TheVariants.{Online}
use Rattle.unit_load.specs.declared.state.UnitState.{UnitState}
use Rattle.unit_steps.specs.Laws.{UnchangedHaveNoEntry}
use Rattle.unit_steps.specs.Loaded.{AreLoaded, KeepVtocs, AreVtocsOf}
use Rattle.unit_steps.specs.Rendering.{WasRendered, WereRendered, entry_for, entries_of}
use Rattle.unit_steps.proofs.Blocks.{rendered_anew}
use Rattle.unit_steps.proofs.Switching.{from_state}
use Rattle.unit_steps.proofs.Readying.{pairs_first, pairs_rest}

-- an entry is another slot than its block holds
abbrev IsAnew : Image → Entry → Type 0
IsAnew contents entry = entry.slot ≢ contents entry.unit entry.block

module _ (shape : Shape) (contents : Image) (units : List UnitState) (vtocs : List (List ℕ)) (keep : KeepVtocs shape units vtocs) (loaded : AreLoaded shape contents units)
    (kept : AreVtocsOf contents units vtocs) where
  unit_anew : (unit : ℕ) (change : Change) (one : Rendered) → WasRendered units vtocs unit change one → All (IsAnew contents) (map (entry_for unit) one.blocks)
  unit_anew unit change one was =
      let state = loaded unit (Online was.volume) was.loaded in
      let from = keep.each unit (Online was.volume) was.slots was.loaded was.kept in
      let own = from_state (contents unit) state.0 (kept unit (Online was.volume) was.slots was.loaded was.kept) from.whole in
      All-map (IsAnew contents) (entry_for unit) one.blocks (rendered_anew own change one was.written)

  entries_anew : (changes : List (ℕ × Change)) (rendered : List Rendered) → WereRendered units vtocs changes rendered → All (IsAnew contents) (entries_of changes rendered)
  entries_anew [] rendered were = All-nil (IsAnew contents)
  entries_anew (change ∷ changes) [] were = absurd were
  entries_anew (change ∷ changes) (one ∷ more) were =
      All-append (IsAnew contents) (map (entry_for change.0) one.blocks) (entries_of changes more) (unit_anew change.0 change.1 one were.0) (entries_anew changes more were.1)

-- ---- a block that stays the same has no entry

abbrev target_of : Entry → Target
target_of entry = record { unit = entry.unit; block = entry.block }

same_target : (entry : Entry) (u b : ℕ) → is_at entry.unit entry.block u b ≡ true → (u ≡ entry.unit) × (b ≡ entry.block)
same_target entry u b here =
    let parts = and_parts (u == entry.unit) (b == entry.block) here in (eqb-true u entry.unit parts.0, eqb-true b entry.block parts.1)

-- an entry for another target doesn't write the block of one
not_at : (one other : Entry) → target_of one ≢ target_of other → is_at one.unit one.block other.unit other.block ≡ false
not_at one other apart = elim (cases_Bool (is_at one.unit one.block other.unit other.block)) [
  | inl here ↦
      let same = same_target one other.unit other.block here in absurd (apart (λ i. record { unit = sym same.0 i; block = sym same.1 i }))
  | inr there ↦ there
]

module _ (entry : Entry) where
  abbrev IsElsewhere : Target → Type 0
  IsElsewhere target = target_of entry ≢ target

  none_behind : (entries : List Entry) → All IsElsewhere (targets entries) → among (targets entries) entry.unit entry.block ≡ false
  none_behind [] others = refl
  none_behind (other ∷ entries) others =
      ap (λ (t : Bool). t || among (targets entries) entry.unit entry.block)
      (not_at other entry (λ same. All-head IsElsewhere (target_of other) (targets entries) others (sym same)))
      ∙ none_behind entries (All-tail IsElsewhere (target_of other) (targets entries) others)

  still_anew : (image : Image) (entries : List Entry) → All IsElsewhere (targets entries) → All (IsAnew image) entries → All (IsAnew (set_block image entry.unit entry.block entry.slot)) entries
  still_anew image [] others anew = All-nil (IsAnew (set_block image entry.unit entry.block entry.slot))
  still_anew image (other ∷ entries) others anew =
      let there : is_at entry.unit entry.block other.unit other.block ≡ false = not_at entry other (All-head IsElsewhere (target_of other) (targets entries) others) in
      let same : set_block image entry.unit entry.block entry.slot other.unit other.block ≡ image other.unit other.block =
      ap (λ (t : Bool). if t then entry.slot else image other.unit other.block) there in
      All-cons (IsAnew (set_block image entry.unit entry.block entry.slot)) other entries (λ is. All-head (IsAnew image) other entries anew (is ∙ same))
      (still_anew image entries (All-tail IsElsewhere (target_of other) (targets entries) others) (All-tail (IsAnew image) other entries anew))

same_untouched : (entries : List Entry) (image : Image) (u b : ℕ) → AllPairs (λ one other. one ≢ other) (targets entries) → All (IsAnew image) entries
    → placed image entries u b ≡ image u b → among (targets entries) u b ≡ false
same_untouched [] image u b apart anew same = refl
same_untouched (entry ∷ entries) image u b apart anew same =
    let others = pairs_first (λ one other. one ≢ other) (target_of entry) (targets entries) apart in
    let rest = pairs_rest (λ one other. one ≢ other) (target_of entry) (targets entries) apart in
    let next : Image = set_block image entry.unit entry.block entry.slot in
    elim (cases_Bool (is_at entry.unit entry.block u b)) [
      | inl here ↦
          let at = same_target entry u b here in
          let none : among (targets entries) u b ≡ false = (λ i. among (targets entries) (at.0 i) (at.1 i)) ∙ none_behind entry entries others in
          let holds : placed next entries u b ≡ entry.slot = placed_other entries next u b none ∙ ap (λ (t : Bool). if t then entry.slot else image u b) here in
          absurd (All-head (IsAnew image) entry entries anew (sym holds ∙ same ∙ (λ i. image (at.0 i) (at.1 i))))
      | inr there ↦
          let kept : next u b ≡ image u b = ap (λ (t : Bool). if t then entry.slot else image u b) there in
          ap (λ (t : Bool). t || among (targets entries) u b) there
          ∙ same_untouched entries next u b rest (still_anew entry image entries others (All-tail (IsAnew image) entry entries anew)) (same ∙ sym kept)
    ]

pub no_entry : UnchangedHaveNoEntry
no_entry shape room contents units vtocs changes rendered keep loaded kept were ready u b same =
    same_untouched (entries_of changes rendered) contents u b ready.apart (entries_anew shape contents units vtocs keep loaded kept changes rendered were) same
