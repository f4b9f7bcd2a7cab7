-- What is copied for a plan, and where it goes.
use Rattle.std.proofs.Common.{◌≡◌, ℕ, Bool, List, [], ◌∷◌, Some, refl, sym, subst}
use Rattle.std.specs.Prelude.{slice_get}
use Rattle.std.proofs.lemmas.Option.{same_Some, none-some}
use Rattle.dsn_filter.specs.declared.dsn.Dsn.{Dsn}
use Rattle.volume_change.specs.declared.change.Change.{Change}
use Rattle.unit_load.specs.declared.state.UnitState.{UnitState}
use Rattle.move_core.specs.declared.steps.Origin.TheVariants as origins
use Rattle.move_core.specs.declared.steps.Step.{Step}
use Rattle.move_core.specs.declared.steps.Step.TheVariants as steps
use Rattle.unit_steps.specs.declared.plan.Tracks.{Tracks}
use Rattle.unit_steps.specs.declared.plan.Tracks.TheVariants as texts
use Rattle.unit_steps.specs.Copied.{IsPutBy}
use Rattle.unit_steps.specs.Plans.{Plans, PlansCopy}
use Rattle.unit_session.specs.Copies.{HasSource, HasTarget}
use Rattle.unit_steps.proofs.Putting.{put_by}

-- where texts are copied, their data set and the row that is put are there
abbrev pub IsCopied : List UnitState → Tracks → List (ℕ × Change) → Type 0
IsCopied units (texts.Rows from name) (change ∷ changes) = HasSource units from name × HasTarget units change.0 change.1
IsCopied units _ _ = Unit {0}

copied_put : {replaced : Bool} {units : List UnitState} {from : ℕ} {origin : Dsn} {unit : ℕ} {name : Dsn} {to : List _} {change : Change} (plan : PlansCopy replaced units from origin unit name to change)
    → HasSource units from origin × HasTarget units unit change
copied_put {replaced} {name = name} plan = (
  (plan.source, plan.old, plan.source_loaded, plan.old_is),
  (plan.volume, plan.row, plan.loaded, subst (λ (c : Change). IsPutBy c plan.row) (sym plan.change_is) (put_by replaced name plan.row)),
)

none_copied : (units : List UnitState) (changes : List (ℕ × Change)) → IsCopied units texts.None changes
none_copied units [] = tt
none_copied units (change ∷ changes) = tt

given_copied : (units : List UnitState) (changes : List (ℕ × Change)) → IsCopied units texts.Given changes
given_copied units [] = tt
given_copied units (change ∷ changes) = tt

module _ (units : List UnitState) (tracks : Tracks) (changes : List (ℕ × Change)) where
  with_tracks : (is : Tracks) → tracks ≡ is → IsCopied units is changes → IsCopied units tracks changes
  with_tracks is same = subst (λ (t : Tracks). IsCopied units t changes) (sym same)

  with_changes : (is : Tracks) → tracks ≡ is → (list : List (ℕ × Change)) → changes ≡ list → IsCopied units is list → IsCopied units tracks changes
  with_changes is same list are copied =
      with_tracks is same (subst (λ (l : List (ℕ × Change)). IsCopied units is l) (sym are) copied)

pub plan_copied : (units : List UnitState) (step : Step) (tracks : Tracks) (changes : List (ℕ × Change)) → Plans units step tracks changes → IsCopied units tracks changes
plan_copied units (steps.Move unit name to) tracks changes (is, plan) =
    with_changes units tracks changes (texts.Rows unit name) is _ plan.swap.changes_are
    ((plan.swap.volume, plan.swap.old, plan.swap.loaded, plan.swap.old_is), (plan.swap.volume, plan.swap.row, plan.swap.loaded, refl))
plan_copied units (steps.Shrink unit name keep) tracks changes (is, plan) = with_tracks units tracks changes texts.None is (none_copied units changes)
plan_copied units (steps.Add unit name to (origins.Row from origin)) tracks changes (is, plan) =
    with_changes units tracks changes (texts.Rows from origin) is _ plan.changes_are (copied_put plan.copy)
plan_copied units (steps.Replace unit name to (origins.Row from origin)) tracks changes (is, plan) =
    with_changes units tracks changes (texts.Rows from origin) is _ plan.changes_are (copied_put plan.copy)
plan_copied units (steps.Add unit name to (origins.Part input number)) tracks changes plan = with_tracks units tracks changes texts.Given plan.0 (given_copied units changes)
plan_copied units (steps.Replace unit name to (origins.Part input number)) tracks changes plan = with_tracks units tracks changes texts.Given plan.0 (given_copied units changes)
plan_copied units (steps.Delete unit name) tracks changes (is, plan) = with_tracks units tracks changes texts.None is (none_copied units changes)
plan_copied units (steps.Carry from origin unit name to replaced) tracks changes (is, plan) =
    with_changes units tracks changes (texts.Rows from origin) is _ plan.changes_are (copied_put plan.copy)
plan_copied units (steps.ResetFlag unit name) tracks changes (is, plan) = with_tracks units tracks changes texts.None is (none_copied units changes)
plan_copied units (steps.Repair unit) tracks changes (is, plan) = with_tracks units tracks changes texts.None is (none_copied units changes)
plan_copied units _ tracks changes plan = absurd plan

-- those of the first change
pub first_copied : (units : List UnitState) (from : ℕ) (name : Dsn) (changes : List (ℕ × Change)) (one : ℕ × Change) → slice_get changes 0 ≡ Some one
    → IsCopied units (texts.Rows from name) changes → HasSource units from name × HasTarget units one.0 one.1
first_copied units from name [] one at copied = absurd (none-some one at)
first_copied units from name (change ∷ changes) one at copied =
    (copied.0, subst (λ (c : ℕ × Change). HasTarget units c.0 c.1) (same_Some change one at) copied.1)
