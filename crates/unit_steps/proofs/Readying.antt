-- The rendered tracks of a plan fit one commit.
use Rattle.std.proofs.Common.{◌≡◌, ◌≢◌, ℕ, zero, suc, ◌+◌, ◌-◌, ◌*◌, ◌/◌, ◌<◌, ◌≤◌, List, [], ◌∷◌, ◌++◌, length, map, All, Contains, false, sym, ap, ◌∙◌, arith}
use Rattle.std.specs.Prelude.{AllPairs}
use Rattle.std.proofs.lemmas.List.{length-append, length-map}
use Rattle.std.proofs.lemmas.List.Elements.{All-nil, All-append, All-map, All-weaker, All-contains, All-contains_itself, All-from_get_or, All-head, All-tail}
use Rattle.std.proofs.lemmas.List.Kept.{AllPairs-cons}
use Rattle.std.proofs.lemmas.Option.{slice_get_within}
use Rattle.dasd_pool.specs.Disk.{Shape}
use Rattle.ckd_image.specs.Device.{slot_of}
use Rattle.free_map.specs.declared.run.Run.{Run}
use Rattle.redo_core.specs.declared.entries.Entry.{Entry}
use Rattle.redo_core.specs.declared.target.Target.{Target}
use Rattle.redo_core.specs.Reading.{journal_of}
use Rattle.redo_core.specs.Phases.{targets, IsEntry}
use Rattle.redo_core.proofs.Controls.{volume_entry}
use Rattle.vtoc_core.specs.declared.volume.Volume.{Volume}
use Rattle.vtoc_write.specs.declared.blocks.Block.{Block}
use Rattle.vtoc_write.specs.Written.{AreAscending}
use Rattle.volume_change.specs.declared.change.Change.{Change}
use Rattle.unit_change.specs.vtoc_render.declared.change.Rendered.{Rendered}
use Rattle.unit_change.proofs.FormatFour.{run_inside}
use Rattle.unit_load.specs.declared.state.UnitState.{UnitState}
use Rattle.unit_load.specs.declared.state.UnitState.TheVariants.{Online}
use Rattle.unit_load.specs.Kept.{IsFromSlots}
use Rattle.unit_load.proofs.Runs.{said_slot}
use Rattle.unit_steps.specs.Laws.{AreSized, EntriesAreReady}
use Rattle.unit_steps.specs.Loaded.{HaveStates, KeepVtocs}
use Rattle.unit_steps.specs.Plans.{IsLoadedAt}
use Rattle.unit_steps.specs.Rendering.{WasRendered, WereRendered, entry_for, entries_of, AreOfUnits}
use Rattle.unit_steps.proofs.Blocks.{few_blocks, AreBlocksOf, rendered_blocks}

-- ---- pairs

module _ {X : Type 0} (R : X → X → Type 0) (x : X) (xs : List X) (pairs : AllPairs R (x ∷ xs)) where
  pub pairs_first : All (R x) xs
  pairs_first = All-from_get_or (R x) xs x (λ i less. pairs zero (suc i) x (omega arith) (omega (arith, less)))

  pub pairs_rest : AllPairs R xs
  pairs_rest i j d less within = pairs (suc i) (suc j) d (omega (arith, less)) (omega (arith, within))

no_pairs : {X : Type 0} (R : X → X → Type 0) → AllPairs R []
no_pairs R i j d less within = absurd (omega (arith, within))

-- ---- targets

abbrev target_of : Entry → Target
target_of entry = record { unit = entry.unit; block = entry.block }

abbrev Differ : Target → Target → Type 0
Differ one other = one ≢ other

all_targets : (P : Target → Type 0) (entries : List Entry) → All (λ entry. P (target_of entry)) entries → All P (targets entries)
all_targets P entries all = All-map P target_of entries all

-- entries of one unit, on tracks in ascending order, before entries of others
apart_before : (unit : ℕ) (blocks : List Block) (others : List Entry) → AreAscending blocks → All (λ entry. entry.unit ≢ unit) others → AllPairs Differ (targets others)
    → AllPairs Differ (targets (map (entry_for unit) blocks ++ others))
apart_before unit [] others ascending elsewhere apart = apart
apart_before unit (block ∷ blocks) others ascending elsewhere apart =
    let target : Target = record { unit = unit; block = block.track } in
    let P : Entry → Type 0 = λ entry. target ≢ target_of entry in
    let behind : All P (map (entry_for unit) blocks) =
    All-map P (entry_for unit) blocks
    (All-weaker (λ (b : Block). block.track < b.track) (λ b. P (entry_for unit b)) (λ b less same. absurd (omega (arith, less, ap (λ (t : Target). t.block) same))) blocks ascending.0) in
    let off : All P others = All-weaker (λ (e : Entry). e.unit ≢ unit) P (λ e other same. other (sym (ap (λ (t : Target). t.unit) same))) others elsewhere in
    AllPairs-cons Differ target (targets (map (entry_for unit) blocks ++ others))
    (all_targets (Differ target) (map (entry_for unit) blocks ++ others) (All-append P (map (entry_for unit) blocks) others behind off))
    (apart_before unit blocks others ascending.1 elsewhere apart)

-- entries are of the units of their changes
of_others : (unit : ℕ) (changes : List (ℕ × Change)) (rendered : List Rendered) → All (λ other. unit ≢ other) (map (λ change. change.0) changes)
    → All (λ entry. entry.unit ≢ unit) (entries_of changes rendered)
of_others unit [] rendered apart = All-nil (λ (entry : Entry). entry.unit ≢ unit)
of_others unit (change ∷ changes) [] apart = All-nil (λ (entry : Entry). entry.unit ≢ unit)
of_others unit (change ∷ changes) (one ∷ more) apart =
    let P : Entry → Type 0 = λ entry. entry.unit ≢ unit in
    let units = map (λ (c : ℕ × Change). c.0) changes in
    let here : unit ≢ change.0 = All-head (λ (other : ℕ). unit ≢ other) change.0 units apart in
    All-append P (map (entry_for change.0) one.blocks) (entries_of changes more)
    (All-map P (entry_for change.0) one.blocks
    (All-weaker (λ (b : Block). Contains one.blocks b) (λ b. P (entry_for change.0 b)) (λ b there same. here (sym same)) one.blocks (All-contains_itself one.blocks)))
    (of_others unit changes more (All-tail (λ (other : ℕ). unit ≢ other) change.0 units apart))

-- ---- one change

module _ (shape : Shape) (sized : AreSized shape) (units : List UnitState) (vtocs : List (List ℕ)) (have : HaveStates shape units) (keep : KeepVtocs shape units vtocs) where
  module _ (unit : ℕ) (change : Change) (rendered : Rendered) (was : WasRendered units vtocs unit change rendered) where
    from : IsFromSlots false (shape.head unit) (shape.blocks unit) was.volume was.slots
    from = keep.each unit (Online was.volume) was.slots was.loaded was.kept

    blocks_are : AreBlocksOf was.volume.vtoc (slot_of was.volume.device) rendered.blocks
    blocks_are = rendered_blocks from change rendered was.written

    within : unit < journal_of shape
    within = omega (arith, slice_get_within units unit (Online was.volume) was.loaded, have)

    size : shape.block_size unit ≡ slot_of was.volume.device
    size = sized unit within ∙ said_slot (shape.head unit) from.image.device from.image_is.stands.slot ∙ ap slot_of (sym from.loaded.volume.device_is)

    ends : was.volume.vtoc.first + was.volume.vtoc.len ≤ shape.blocks unit
    ends =
        let is = from.loaded in
        let end : was.volume.vtoc.first + was.volume.vtoc.len ≡ is.vtoc.run.first + is.vtoc.run.len = ap (λ (run : Run). run.first + run.len) is.volume.vtoc_is in
        omega (arith, end, (run_inside from.image from.unit from.label.vtoc false is.vtoc is.stands.stands).1, from.image_is.tracks_are)

    is_entry : (block : Block) → Contains rendered.blocks block → IsEntry shape (entry_for unit block)
    is_entry block there =
        let run = was.volume.vtoc in
        volume_entry shape (entry_for unit block) within
        (omega (arith, All-contains (λ (b : Block). b.track < run.first + run.len) rendered.blocks block blocks_are.below there, ends))
        (All-contains (λ (b : Block). length b.slot ≡ slot_of was.volume.device) rendered.blocks block blocks_are.whole there ∙ sym size)

    entries_here : All (IsEntry shape) (map (entry_for unit) rendered.blocks)
    entries_here =
        All-map (IsEntry shape) (entry_for unit) rendered.blocks
        (All-weaker (Contains rendered.blocks) (λ block. IsEntry shape (entry_for unit block)) is_entry rendered.blocks (All-contains_itself rendered.blocks))

    ascending_here : AreAscending rendered.blocks
    ascending_here = blocks_are.ascending

    few_here : (most : ℕ) → ((volume : Volume) → IsLoadedAt units unit volume → volume.vtoc.len ≤ most) → length (map (entry_for unit) rendered.blocks) ≤ most
    few_here most few =
        let run = was.volume.vtoc in
        omega (
          arith,
          length-map rendered.blocks (entry_for unit),
          few_blocks rendered.blocks run.first (run.first + run.len) (omega arith) blocks_are.ascending blocks_are.above blocks_are.below,
          few was.volume was.loaded,
        )

  -- ---- all changes

  abbrev IsFew : ℕ → ℕ × Change → Type 0
  IsFew most change = (volume : Volume) → IsLoadedAt units change.0 volume → volume.vtoc.len ≤ most

  one_more : (n most : ℕ) → (n + 1) * most ≡ most + n * most
  one_more n most = grind arith

  fit : (most : ℕ) (changes : List (ℕ × Change)) (rendered : List Rendered) → WereRendered units vtocs changes rendered → All (IsFew most) changes
      → length (entries_of changes rendered) ≤ length changes * most
  fit most [] [] were few = omega arith
  fit most [] (one ∷ more) were few = absurd were
  fit most (change ∷ changes) [] were few = absurd were
  fit most (change ∷ changes) (one ∷ more) were few =
      let longer : length (change ∷ changes) ≡ length changes + 1 = omega arith in
      let product : length (change ∷ changes) * most ≡ most + length changes * most = ap (λ (n : ℕ). n * most) longer ∙ one_more (length changes) most in
      omega (
        arith,
        length-append (map (entry_for change.0) one.blocks) (entries_of changes more),
        few_here change.0 change.1 one were.0 most (All-head (IsFew most) change changes few),
        fit most changes more were.1 (All-tail (IsFew most) change changes few),
        product,
      )

  entries_all : (changes : List (ℕ × Change)) (rendered : List Rendered) → WereRendered units vtocs changes rendered → All (IsEntry shape) (entries_of changes rendered)
  entries_all [] [] were = All-nil (IsEntry shape)
  entries_all [] (one ∷ more) were = absurd were
  entries_all (change ∷ changes) [] were = absurd were
  entries_all (change ∷ changes) (one ∷ more) were =
      All-append (IsEntry shape) (map (entry_for change.0) one.blocks) (entries_of changes more) (entries_here change.0 change.1 one were.0) (entries_all changes more were.1)

  apart_all : (changes : List (ℕ × Change)) (rendered : List Rendered) → WereRendered units vtocs changes rendered → AreOfUnits changes
      → AllPairs Differ (targets (entries_of changes rendered))
  apart_all [] [] were apart = no_pairs Differ
  apart_all [] (one ∷ more) were apart = absurd were
  apart_all (change ∷ changes) [] were apart = absurd were
  apart_all (change ∷ changes) (one ∷ more) were apart =
      let R : ℕ → ℕ → Type 0 = λ one other. one ≢ other in
      let others = map (λ (c : ℕ × Change). c.0) changes in
      apart_before change.0 one.blocks (entries_of changes more) (ascending_here change.0 change.1 one were.0)
      (of_others change.0 changes more (pairs_first R change.0 others apart)) (apart_all changes more were.1 (pairs_rest R change.0 others apart))

at_most_twice : (n most : ℕ) → n ≤ 2 → n * most ≤ most + most
at_most_twice zero most few = omega arith
at_most_twice (suc zero) most few = omega arith
at_most_twice (suc (suc zero)) most few = omega arith
at_most_twice (suc (suc (suc n))) most few = absurd (omega (arith, few))

pub entries_ready : EntriesAreReady
entries_ready shape room units vtocs changes rendered sized have keep were apart two few = record {
  fit = omega (arith, fit shape sized units vtocs have keep ((room - 1) / 2) changes rendered were few, at_most_twice (length changes) ((room - 1) / 2) two);
  each = entries_all shape sized units vtocs have keep changes rendered were;
  apart = apart_all shape sized units vtocs have keep changes rendered were apart;
}
