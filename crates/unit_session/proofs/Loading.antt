-- One unit more that is loaded, and the slots that are kept of it.
use Rattle.std.proofs.Common.{◌≡◌, ℕ, ◌<◌, Bool, zero, suc, List, [], ◌∷◌, ◌++◌, length, Option, Some, sym, ap, subst, ◌∙◌, arith, false}
use Rattle.std.specs.Prelude.{slice_get, All}
use Rattle.std.proofs.lemmas.Option.{same_Some, none-some, slice_get_within}
use Rattle.dasd_pool.specs.Disk.{Image, Shape, State}
use Rattle.redo_core.specs.declared.control.Control.{Control}
use Rattle.redo_core.specs.declared.control.Control.TheVariants.{Idle}
use Rattle.redo_core.specs.declared.entries.Entry.{Entry}
use Rattle.redo_core.specs.Phases.{IsAtRest, IsStatusAfter}
use Rattle.redo_core.specs.Reading.{journal_of, fills_of}
use Rattle.redo_core.proofs.Controls.{no_control}
use Rattle.unit_steps.specs.unit_change.Described.{AreShort}
use Rattle.unit_load.specs.declared.state.UnitState.{UnitState}
use Rattle.unit_load.specs.Kept.{IsKept, AreKeptOf}
use Rattle.unit_load.specs.State.{IsStateOf, FitsFill}
use Rattle.unit_steps.specs.Loaded.{AreLoaded, HaveFills, HaveStates, KeepVtocs, AreVtocsOf}
use Rattle.unit_session.specs.declared.copies.Source.{Source}
use Rattle.unit_session.specs.Sessions.{HasOnlyFills}
use Rattle.unit_session.specs.Texts.{AreSeen}

module _ {X : Type 0} where
  -- what holds of the elements of a list, and of one more behind it
  get_more : (xs : List X) (x : X) (P : ℕ → X → Type 0) → ((u : ℕ) (y : X) → slice_get xs u ≡ Some y → P u y) → P (length xs) x
      → (u : ℕ) (y : X) → slice_get (xs ++ (x ∷ [])) u ≡ Some y → P u y
  get_more [] x P each last zero y at = subst (P 0) (same_Some x y at) last
  get_more [] x P each last (suc u) y at = absurd (none-some y at)
  get_more (z ∷ xs) x P each last zero y at = each 0 y at
  get_more (z ∷ xs) x P each last (suc u) y at =
      get_more xs x (λ v w. P (suc v) w) (λ v w there. each (suc v) w there) last u y at

module _ {X Y : Type 0} where
  -- what holds of the elements of two lists at the same places, and of one more behind each
  get_both : (xs : List X) (ys : List Y) (x : X) (y : Y) (P : ℕ → X → Y → Type 0) → length xs ≡ length ys
      → ((u : ℕ) (a : X) (b : Y) → slice_get xs u ≡ Some a → slice_get ys u ≡ Some b → P u a b) → P (length xs) x y
      → (u : ℕ) (a : X) (b : Y) → slice_get (xs ++ (x ∷ [])) u ≡ Some a → slice_get (ys ++ (y ∷ [])) u ≡ Some b → P u a b
  get_both [] [] x y P long each last zero a b at there = subst (P 0 a) (same_Some y b there) (subst (λ (z : X). P 0 z y) (same_Some x a at) last)
  get_both [] [] x y P long each last (suc u) a b at there = absurd (none-some a at)
  get_both [] (w ∷ ys) x y P long each last u a b at there = absurd (omega (arith, long))
  get_both (z ∷ xs) [] x y P long each last u a b at there = absurd (omega (arith, long))
  get_both (z ∷ xs) (w ∷ ys) x y P long each last zero a b at there = each 0 a b at there
  get_both (z ∷ xs) (w ∷ ys) x y P long each last (suc u) a b at there =
      get_both xs ys x y (λ v c d. P (suc v) c d) (omega (arith, long)) (λ v c d here also. each (suc v) c d here also) last u a b at there

pub loaded_none : (shape : Shape) (contents : Image) (units : List UnitState) → units ≡ [] → AreLoaded shape contents units
loaded_none shape contents units is u state at =
    absurd (none-some state (subst (λ (l : List UnitState). slice_get l u ≡ Some state) is at))

-- it was read on a pool that is as it was
pub loaded_more : (shape now : Shape) (old new : State) (units later : List UnitState) (unit : ℕ) (state : UnitState) → now ≡ shape → new ≡ old → length units ≡ unit → later ≡ units ++ (state ∷ [])
    → AreLoaded shape old.contents units → IsStateOf false (now.head unit) (now.blocks unit) (new.contents unit) state → AreShort (now.blocks unit) (new.contents unit)
    → AreLoaded shape old.contents later
loaded_more shape now old new units later unit state same still long is loaded stands short =
    let P : ℕ → UnitState → Type 0 = λ u s. IsStateOf false (shape.head u) (shape.blocks u) (old.contents u) s × AreShort (shape.blocks u) (old.contents u) in
    let Q : Shape → State → Type 0 = λ s t. IsStateOf false (s.head unit) (s.blocks unit) (t.contents unit) state × AreShort (s.blocks unit) (t.contents unit) in
    let here : P unit state = subst (λ (t : State). Q shape t) still (subst (λ (s : Shape). Q s new) same (stands, short)) in
    subst (AreLoaded shape old.contents) (sym is) (get_more units state P loaded (subst (λ (u : ℕ). P u state) (sym long) here))

-- whether a fill is open on it fits
pub fills_none : (fills : List Bool) (units : List UnitState) → units ≡ [] → HaveFills fills units
fills_none fills units is u state at = absurd (none-some state (subst (λ (l : List UnitState). slice_get l u ≡ Some state) is at))

pub fills_more : (fills now : List Bool) (units later : List UnitState) (unit : ℕ) (state : UnitState) → now ≡ fills → length units ≡ unit → later ≡ units ++ (state ∷ [])
    → HaveFills fills units → FitsFill (fills_of now unit) state → HaveFills fills later
fills_more fills now units later unit state same long is fit stands =
    let P : ℕ → UnitState → Type 0 = λ u s. FitsFill (fills_of fills u) s in
    let here : P unit state = subst (λ (l : List Bool). FitsFill (fills_of l unit) state) same stands in
    subst (HaveFills fills) (sym is) (get_more units state P fit (subst (λ (u : ℕ). P u state) (sym long) here))

-- ---- the kept slots

-- each unit's slots are kept
abbrev pub KeepEach : Shape → List UnitState → List (List ℕ) → Type 0
KeepEach shape units vtocs =
    (u : ℕ) (state : UnitState) (slots : List ℕ) → slice_get units u ≡ Some state → slice_get vtocs u ≡ Some slots → IsKept false (shape.head u) (shape.blocks u) state slots

pub kept_none : (shape : Shape) (units : List UnitState) (vtocs : List (List ℕ)) → units ≡ [] → KeepEach shape units vtocs
kept_none shape units vtocs is u state slots at there = absurd (none-some state (subst (λ (l : List UnitState). slice_get l u ≡ Some state) is at))

pub vtocs_none : (contents : Image) (units : List UnitState) (vtocs : List (List ℕ)) → units ≡ [] → AreVtocsOf contents units vtocs
vtocs_none contents units vtocs is u state slots at there = absurd (none-some state (subst (λ (l : List UnitState). slice_get l u ≡ Some state) is at))

module _ (units later : List UnitState) (vtocs after : List (List ℕ)) (unit : ℕ) (state : UnitState) (slots : List ℕ) (long : length units ≡ unit) (whole : length vtocs ≡ unit)
    (is : later ≡ units ++ (state ∷ [])) (are : after ≡ vtocs ++ (slots ∷ [])) where
  both_more : (P : ℕ → UnitState → List ℕ → Type 0) → ((u : ℕ) (s : UnitState) (l : List ℕ) → slice_get units u ≡ Some s → slice_get vtocs u ≡ Some l → P u s l) → P unit state slots
      → (u : ℕ) (s : UnitState) (l : List ℕ) → slice_get later u ≡ Some s → slice_get after u ≡ Some l → P u s l
  both_more P each last u s l at there =
      get_both units vtocs state slots P (long ∙ sym whole) each (subst (λ (v : ℕ). P v state slots) (sym long) last) u s l
      (subst (λ (list : List UnitState). slice_get list u ≡ Some s) is at) (subst (λ (list : List (List ℕ)). slice_get list u ≡ Some l) are there)

  pub kept_more : (shape now : Shape) → now ≡ shape → KeepEach shape units vtocs → IsKept false (now.head unit) (now.blocks unit) state slots → KeepEach shape later after
  kept_more shape now same kept stands =
      both_more (λ u s l. IsKept false (shape.head u) (shape.blocks u) s l) kept (subst (λ (s : Shape). IsKept false (s.head unit) (s.blocks unit) state slots) same stands)

  pub vtocs_more : (old new : State) → new ≡ old → AreVtocsOf old.contents units vtocs → AreKeptOf (new.contents unit) state slots → AreVtocsOf old.contents later after
  vtocs_more old new still have stands =
      both_more (λ u s l. AreKeptOf (old.contents u) s l) have (subst (λ (t : State). AreKeptOf (t.contents unit) state slots) still stands)

-- ---- a pool that is as it was

pub still_free : {control later : Control} {fills others : List Bool} {units : List UnitState} → later ≡ control → others ≡ fills
    → HasOnlyFills control fills units → HasOnlyFills later others units
still_free {units = units} still alike free = record { idle = still ∙ free.idle; fit = subst (λ (l : List Bool). HaveFills l units) (sym alike) free.fit }

-- no slide is open behind a commit of entries of volumes alone, and the fills fit the units after it
pub free_after : {shape now : Shape} {entries : List Entry} {control later : Control} {fills others : List Bool} {after : List UnitState} → now ≡ shape
    → All (λ entry. entry.unit < journal_of shape) entries → IsStatusAfter shape entries control fills later others → HaveStates now after
    → control ≡ Idle → HaveFills fills after → HasOnlyFills later others after
free_after {shape} {now} {entries} {control} {later} {fills} {others} {after} same below status have idle fit =
    let kept = no_control shape entries below control (fills_of fills) in
    record {
      idle = status.control_is ∙ kept.0 ∙ idle;
      fit = λ u state at.
          let within : u < journal_of shape =
          subst (λ (s : Shape). u < journal_of s) same (omega (arith, slice_get_within after u state at, have)) in
          subst (λ (filling : Bool). FitsFill filling state) (sym (status.fills_are u within ∙ ap (λ (f : ℕ → Bool). f u) kept.1)) (fit u state at);
    }

pub still_rest : {shape now : Shape} {old new : State} {room : ℕ} {control : Control} {fills : List Bool} → now ≡ shape → new ≡ old
    → IsAtRest shape old room control fills → IsAtRest now new room control fills
still_rest {shape} {now} {old} {new} {room} {control} {fills} same still rest =
    subst (λ (s : Shape). IsAtRest s new room control fills) (sym same) (subst (λ (t : State). IsAtRest shape t room control fills) (sym still) rest)

pub still_loaded : {shape now : Shape} {old new : State} (units : List UnitState) → now ≡ shape → new ≡ old → AreLoaded shape old.contents units → AreLoaded now new.contents units
still_loaded {shape} {now} {old} {new} units same still loaded =
    subst (λ (s : Shape). AreLoaded s new.contents units) (sym same) (subst (λ (t : State). AreLoaded shape t.contents units) (sym still) loaded)

pub still_kept : {shape now : Shape} (units : List UnitState) (vtocs : List (List ℕ)) → now ≡ shape → KeepVtocs shape units vtocs → KeepVtocs now units vtocs
still_kept {shape} {now} units vtocs same kept = subst (λ (s : Shape). KeepVtocs s units vtocs) (sym same) kept

pub still_vtocs : {old new : State} (units : List UnitState) (vtocs : List (List ℕ)) → new ≡ old → AreVtocsOf old.contents units vtocs → AreVtocsOf new.contents units vtocs
still_vtocs {old} {new} units vtocs still have = subst (λ (t : State). AreVtocsOf t.contents units vtocs) (sym still) have

pub still_seen : {old new : State} (units : List UnitState) (seen : Option Source) → new ≡ old → AreSeen units old.contents seen → AreSeen units new.contents seen
still_seen {old} {new} units seen still have = subst (λ (t : State). AreSeen units t.contents seen) (sym still) have
