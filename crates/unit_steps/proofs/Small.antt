-- A plan changes at most two units, and marks none.
use Rattle.std.proofs.Common.{◌≡◌, ◌≢◌, ℕ, ◌≤◌, Bool, true, false, List, [], ◌∷◌, length, All, sym, subst, arith}
use Rattle.std.specs.Prelude.{AllPairs}
use Rattle.std.proofs.lemmas.List.Elements.{All-nil, All-cons}
use Rattle.std.proofs.lemmas.List.Kept.{AllPairs-cons}
use Rattle.dsn_filter.specs.declared.dsn.Dsn.{Dsn}
use Rattle.vtoc_core.specs.declared.volume.Row.{Row}
use Rattle.volume_change.specs.declared.change.Change.{Change}
use Rattle.volume_change.specs.declared.change.Change.TheVariants.{Repair, Put, Swap, Remove, Mark}
use Rattle.unit_load.specs.declared.state.UnitState.{UnitState}
use Rattle.move_core.specs.declared.steps.Origin.TheVariants as origins
use Rattle.move_core.specs.declared.steps.Step.{Step}
use Rattle.move_core.specs.declared.steps.Step.TheVariants as steps
use Rattle.unit_steps.specs.declared.plan.Tracks.{Tracks}
use Rattle.unit_steps.specs.Laws.{PlansAreSmall}
use Rattle.unit_steps.specs.Plans.{putting, Plans}
use Rattle.unit_steps.specs.Rendering.{AreOfUnits}

abbrev pub AreSmall : List (ℕ × Change) → Type 0
AreSmall changes = AreOfUnits changes × (length changes ≤ 2) × All (λ change. change.1 ≢ Mark) changes

-- ---- changes that are no mark

pub swap_no_mark : (name : Dsn) (row : Row) → Swap name row ≢ Mark
swap_no_mark name row same = cc

put_no_mark : (row : Row) → Put row ≢ Mark
put_no_mark row same = cc

pub remove_no_mark : (name : Dsn) → Remove name ≢ Mark
remove_no_mark name same = cc

pub repair_no_mark : Repair ≢ Mark
repair_no_mark same = cc

pub putting_no_mark : (replaced : Bool) (name : Dsn) (row : Row) → putting replaced name row ≢ Mark
putting_no_mark true name row = swap_no_mark name row
putting_no_mark false name row = put_no_mark row

-- ---- lists of them

abbrev AreApart : ℕ → ℕ → Type 0
AreApart one other = one ≢ other

one_unit : (unit : ℕ) → AllPairs AreApart (unit ∷ [])
one_unit unit i j d less within = absurd (omega (arith, less, within))

abbrev NoMark : ℕ × Change → Type 0
NoMark change = change.1 ≢ Mark

small_one : (unit : ℕ) (change : Change) (changes : List (ℕ × Change)) → changes ≡ (unit, change) ∷ [] → change ≢ Mark → AreSmall changes
small_one unit change changes are no_mark =
    subst AreSmall (sym are) (one_unit unit, omega arith, All-cons NoMark (unit, change) [] no_mark (All-nil NoMark))

small_two : (unit other : ℕ) (change second : Change) (changes : List (ℕ × Change)) → changes ≡ (unit, change) ∷ (other, second) ∷ [] → unit ≢ other → change ≢ Mark → second ≢ Mark
    → AreSmall changes
small_two unit other change second changes are apart no_mark none =
    subst AreSmall (sym are) (
      AllPairs-cons AreApart unit (other ∷ []) (All-cons (AreApart unit) other [] apart (All-nil (AreApart unit))) (one_unit other),
      omega arith,
      All-cons NoMark (unit, change) ((other, second) ∷ []) no_mark (All-cons NoMark (other, second) [] none (All-nil NoMark)),
    )

pub put_small : (replaced : Bool) (name : Dsn) (row : Row) (change : Change) → change ≡ putting replaced name row → change ≢ Mark
put_small replaced name row change is = subst (λ (c : Change). c ≢ Mark) (sym is) (putting_no_mark replaced name row)

-- ---- plans

planned_small : (units : List UnitState) (step : Step) (tracks : Tracks) (changes : List (ℕ × Change)) → Plans units step tracks changes → AreSmall changes
planned_small units (steps.Move unit name to) tracks changes is = small_one unit (Swap name is.1.swap.row) changes is.1.swap.changes_are (swap_no_mark name is.1.swap.row)
planned_small units (steps.Shrink unit name keep) tracks changes is = small_one unit (Swap name is.1.swap.row) changes is.1.swap.changes_are (swap_no_mark name is.1.swap.row)
planned_small units (steps.Add unit name to (origins.Row from origin)) tracks changes is =
    small_one unit is.1.change changes is.1.changes_are (put_small false name is.1.copy.row is.1.change is.1.copy.change_is)
planned_small units (steps.Add unit name to (origins.Part input number)) tracks changes is =
    small_one unit is.1.1.change changes is.1.1.changes_are (put_small false name is.1.1.row is.1.1.change is.1.1.change_is)
planned_small units (steps.Replace unit name to (origins.Row from origin)) tracks changes is =
    small_one unit is.1.change changes is.1.changes_are (put_small true name is.1.copy.row is.1.change is.1.copy.change_is)
planned_small units (steps.Replace unit name to (origins.Part input number)) tracks changes is =
    small_one unit is.1.1.change changes is.1.1.changes_are (put_small true name is.1.1.row is.1.1.change is.1.1.change_is)
planned_small units (steps.Delete unit name) tracks changes is = small_one unit (Remove name) changes is.1.changes_are (remove_no_mark name)
planned_small units (steps.Carry from origin unit name to replaced) tracks changes is =
    small_two unit from is.1.change (Remove origin) changes is.1.changes_are (λ same. is.1.apart (sym same))
    (put_small replaced name is.1.copy.row is.1.change is.1.copy.change_is) (remove_no_mark origin)
planned_small units (steps.ResetFlag unit name) tracks changes is = small_one unit (Swap name is.1.swap.row) changes is.1.swap.changes_are (swap_no_mark name is.1.swap.row)
planned_small units (steps.Repair unit) tracks changes is = small_one unit Repair changes is.1.changes_are repair_no_mark
planned_small units (steps.FillStart unit input) tracks changes is = absurd is
planned_small units (steps.FillEnd unit input) tracks changes is = absurd is

pub plans_small : PlansAreSmall
plans_small units plan is = planned_small units plan.step plan.tracks plan.changes is
