-- The units behind a step, one change after the other.
use Rattle.std.proofs.Common.{◌≢◌, ℕ, List, [], ◌∷◌, map, All, refl, sym, ◌∙◌}
use Rattle.std.specs.Prelude.{slice_set}
use Rattle.std.proofs.lemmas.List.Elements.{All-nil, All-cons, All-head, All-tail}
use Rattle.vtoc_core.specs.declared.volume.Volume.{Volume}
use Rattle.volume_change.specs.declared.change.Change.{Change}
use Rattle.unit_session.specs.vtoc_render.declared.change.Rendered.{Rendered}
use Rattle.unit_session.specs.vtoc_render.Next.{IsNext}
use Rattle.unit_load.specs.declared.state.UnitState.{UnitState}
use Rattle.unit_load.specs.declared.state.UnitState.TheVariants.{Online}
use Rattle.unit_session.specs.unit_steps.Plans.{IsLoadedAt}
use Rattle.unit_session.specs.unit_steps.Rendering.{WereRendered, AreOfUnits, units_after}
use Rattle.dasd_pool.proofs.Slices.{get_set_other}
use Rattle.unit_session.proofs.unit_steps.Readying.{pairs_first, pairs_rest}
use Rattle.job_steps.specs.Carried.{HaveNext, IsUnitAfter, AreUnitsAfter}

-- a volume after a change of a unit
abbrev HasNext : List UnitState → ℕ × Change → Type 0
HasNext units change = (volume : Volume) × (next : Volume) × IsLoadedAt units change.0 volume × IsNext volume change.1 next

pub have_next : (units : List UnitState) (vtocs : List (List ℕ)) (changes : List (ℕ × Change)) (rendered : List Rendered) → WereRendered units vtocs changes rendered → HaveNext units changes
have_next units vtocs [] [] were = All-nil (HasNext units)
have_next units vtocs [] (one ∷ more) were = absurd were
have_next units vtocs (change ∷ changes) [] were = absurd were
have_next units vtocs (change ∷ changes) (one ∷ more) were =
    All-cons (HasNext units) change changes (were.0.volume, one.next, were.0.loaded, were.0.next) (have_next units vtocs changes more were.1)

-- the rendered volumes are those after the changes
abbrev AreNext : List UnitState → List (ℕ × Change) → List Rendered → Type 0
AreNext units [] [] = Unit {0}
AreNext units (change ∷ changes) (one ∷ more) = ((volume : Volume) × IsLoadedAt units change.0 volume × IsNext volume change.1 one.next) × AreNext units changes more
AreNext units _ _ = ⊥

are_next : (units : List UnitState) (vtocs : List (List ℕ)) (changes : List (ℕ × Change)) (rendered : List Rendered) → WereRendered units vtocs changes rendered → AreNext units changes rendered
are_next units vtocs [] [] were = tt
are_next units vtocs [] (one ∷ more) were = absurd were
are_next units vtocs (change ∷ changes) [] were = absurd were
are_next units vtocs (change ∷ changes) (one ∷ more) were = ((were.0.volume, were.0.loaded, were.0.next), are_next units vtocs changes more were.1)

abbrev Differ : ℕ → ℕ → Type 0
Differ one other = one ≢ other

abbrev units_of : List (ℕ × Change) → List ℕ
units_of changes = map (λ change. change.0) changes

-- so they are where another unit has another state
next_moved : (units : List UnitState) (unit : ℕ) (state : UnitState) (changes : List (ℕ × Change)) (rendered : List Rendered) → All (Differ unit) (units_of changes) → AreNext units changes rendered
    → AreNext (slice_set units unit state) changes rendered
next_moved units unit state [] [] others are = tt
next_moved units unit state [] (one ∷ more) others are = absurd are
next_moved units unit state (change ∷ changes) [] others are = absurd are
next_moved units unit state (change ∷ changes) (one ∷ more) others are =
    let apart : change.0 ≢ unit = λ same. All-head (Differ unit) change.0 (units_of changes) others (sym same) in (
      (are.0.0, get_set_other units unit change.0 state apart ∙ are.0.1, are.0.2),
      next_moved units unit state changes more (All-tail (Differ unit) change.0 (units_of changes) others) are.1,
    )

after_next : (units : List UnitState) (changes : List (ℕ × Change)) (rendered : List Rendered) → AreOfUnits changes → AreNext units changes rendered
    → AreUnitsAfter units changes (units_after units changes rendered)
after_next units [] [] apart are = refl
after_next units [] (one ∷ more) apart are = absurd are
after_next units (change ∷ changes) [] apart are = absurd are
after_next units (change ∷ changes) (one ∷ more) apart are =
    let between = slice_set units change.0 (Online one.next) in
    let made : IsUnitAfter units change.0 change.1 between = record { volume = are.0.0; next = one.next; loaded = are.0.1; next_is = are.0.2; after_is = refl } in (
      between,
      made,
      after_next between changes more (pairs_rest Differ change.0 (units_of changes) apart)
          (next_moved units change.0 (Online one.next) changes more (pairs_first Differ change.0 (units_of changes) apart) are.1),
    )

pub units_made : (units : List UnitState) (vtocs : List (List ℕ)) (changes : List (ℕ × Change)) (rendered : List Rendered) → AreOfUnits changes → WereRendered units vtocs changes rendered
    → AreUnitsAfter units changes (units_after units changes rendered)
units_made units vtocs changes rendered apart were = after_next units changes rendered apart (are_next units vtocs changes rendered were)
