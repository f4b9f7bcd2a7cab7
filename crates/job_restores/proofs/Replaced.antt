-- The data set that a part replaces, by its row.
use Rattle.std.proofs.Common.{◌≡◌, ◌↔◌, ℕ, Bool, IsTrue, true, false, List, [], take, Option, Some, None, refl, sym, ap, subst, ◌∙◌}
use Rattle.std.specs.Prelude.{Any, IfSome, IfNone}
use Rattle.std.specs.Option.{is_some}
use Rattle.std.proofs.lemmas.Bool.{false≢true}
use Rattle.ckd_image.specs.Device.{heads_of}
use Rattle.dsn_filter.specs.declared.dsn.Dsn.{Dsn}
use Rattle.enq_table.specs.declared.hold.Hold.{Hold}
use Rattle.enq_table.specs.Table.{Conflicts}
use Rattle.volume_model.specs.Pinned.{IsNameOf, IsPinned}
use Rattle.volume_model.specs.Reads.{fields_of_1}
use Rattle.volume_model.specs.Unit.{DataSet}
use Rattle.vtoc_core.specs.declared.volume.Row.{Row}
use Rattle.job_turns.specs.job_copies.unit_change.Described.{DescribesSet}
use Rattle.job_turns.specs.job_copies.unit_steps.Plans.{HasRow}
use Rattle.job_turns.specs.job_copies.step_plans.Plans.{HasNone}
use Rattle.job_turns.proofs.job_copies.SetsOfRows.{named_set, named_row, described_row}
use Rattle.job_restores.specs.declared.restoring.Restoring.{Restoring}
use Rattle.job_restores.specs.declared.wish.RestoreWish.{RestoreWish}
use Rattle.job_restores.specs.Case.{Case, IsNamesake, Replaces, ReplacesSome, name_in}
use Rattle.job_restores.specs.Loaded.{AreRestored, MayRestore}
use Rattle.job_restores.specs.Reasons.{IsHeld}
use Rattle.job_restores.proofs.Rows.{ReplacesRow, ReplacesNone}

module _ {restoring : Restoring} {case : Case} (are : AreRestored restoring case) where
  -- ---- what the statement asks

  pub replace_told : case.wish.replace ≡ restoring.wish.replace
  replace_told = ap (λ (wish : RestoreWish). wish.replace) are.wish_is

  pub purge_told : case.wish.purge ≡ restoring.wish.purge
  purge_told = ap (λ (wish : RestoreWish). wish.purge) are.wish_is

  -- who holds its name
  pub held_told : (held : List Hold) (told : Bool) → (IsTrue told ↔ Any (Conflicts restoring.new true) held) → IsTrue told ↔ IsHeld held case
  held_told held told says = subst (λ (name : Dsn). IsTrue told ↔ Any (Conflicts name true) held) (sym are.new_is) says

  -- whether its format 1 says that no command moves it
  pub part_told : (told : Bool) → (IsTrue told ↔ IsPinned (heads_of restoring.target.now.device) (take 44 restoring.part.now.f1) (fields_of_1 restoring.part.now.f1) [])
      → IsTrue told ↔ IsPinned (heads_of case.to.device) (name_in case.part) (fields_of_1 case.part.f1) []
  part_told told says =
      subst (λ (heads : ℕ). IsTrue told ↔ IsPinned heads (name_in case.part) (fields_of_1 case.part.f1) []) (sym (ap heads_of are.to_is.device_is))
      (subst (λ (f1 : List ℕ). IsTrue told ↔ IsPinned (heads_of restoring.target.now.device) (take 44 f1) (fields_of_1 f1) []) (sym are.f1_is) says)

module _ {restoring : Restoring} {case : Case} (may : MayRestore restoring) (are : AreRestored restoring case) where
  -- ---- what has its name

  namesake_set : (row : Row) → HasRow restoring.target.now restoring.new row
      → (other : DataSet) × IsNamesake case other × DescribesSet (heads_of restoring.target.now.device) row other
  namesake_set row has =
      let found = named_set restoring.target.now case.to may.sound are.to_is restoring.new row has in
      let named : IsNameOf restoring.new found.0.name = subst (IsNameOf restoring.new) (sym found.2.name_is) has.name_is in
      (found.0, record { there = found.1; name_is = subst (λ (name : Dsn). IsNameOf name found.0.name) (sym are.new_is) named }, found.2)

  namesake_row : (other : DataSet) → IsNamesake case other → (row : Row) × HasRow restoring.target.now restoring.new row
  namesake_row other is =
      named_row restoring.target.now case.to are.to_is restoring.new may.new_is other is.there (subst (λ (name : Dsn). IsNameOf name other.name) are.new_is is.name_is)

  pub namesake_found : {X : Type 0} (row_in : X → Row) (found : Option X) → IfSome found (λ x. HasRow restoring.target.now restoring.new (row_in x))
      → IfNone found (HasNone restoring.target.now restoring.new) → IsTrue (is_some found) ↔ ((other : DataSet) × IsNamesake case other)
  namesake_found row_in (Some x) some none = (λ t. let is = namesake_set (row_in x) some in (is.0, is.1), λ there. refl)
  namesake_found row_in None some none = (λ t. absurd (false≢true t), λ there. let is = namesake_row there.0 there.1 in absurd (none is.0 is.1))

  -- ---- what is replaced

  replaced_set : (row : Row) → ReplacesRow restoring row → (other : DataSet) × Replaces case other × DescribesSet (heads_of restoring.target.now.device) row other
  replaced_set row is = let found = namesake_set row is.1 in (found.0, record { asked = replace_told are ∙ is.0; namesake = found.1 }, found.2)

  replaced_row : (other : DataSet) → Replaces case other → (row : Row) × ReplacesRow restoring row
  replaced_row other is = let found = namesake_row other is.namesake in (found.0, (sym (replace_told are) ∙ is.asked, found.1))

  replaced_described : (row : Row) → ReplacesRow restoring row → (other : DataSet) → Replaces case other → DescribesSet (heads_of restoring.target.now.device) row other
  replaced_described row row_is other is =
      described_row restoring.target.now case.to may.sound are.to_is restoring.new row row_is.1 other is.namesake.there
      (subst (λ (name : Dsn). IsNameOf name other.name) are.new_is is.namesake.name_is)

  pub replaced_found : {X : Type 0} (row_in : X → Row) (found : Option X) → IfSome found (λ x. ReplacesRow restoring (row_in x)) → IfNone found (ReplacesNone restoring)
      → IsTrue (is_some found) ↔ ReplacesSome case
  replaced_found row_in (Some x) some none = (λ t. let is = replaced_set (row_in x) some in (is.0, is.1), λ there. refl)
  replaced_found row_in None some none = (λ t. absurd (false≢true t), λ there. let is = replaced_row there.0 there.1 in absurd (none is.1.0 is.0 is.1.1))

  -- what holds of it, by what its row says
  pub replaced_holds : (Holds : DataSet → Type 0) (row : Row) → ReplacesRow restoring row → (told : Bool)
      → ((set : DataSet) → DescribesSet (heads_of restoring.target.now.device) row set → (IsTrue told ↔ Holds set))
      → IsTrue told ↔ ((other : DataSet) × Replaces case other × Holds other)
  replaced_holds Holds row is told says = (
    λ t. let found = replaced_set row is in (found.0, found.1, (says found.0 found.2).0 t),
    λ there. (says there.0 (replaced_described row is there.0 there.1)).1 there.2,
  )

  pub none_holds : (Holds : DataSet → Type 0) → ReplacesNone restoring → IsTrue false ↔ ((other : DataSet) × Replaces case other × Holds other)
  none_holds Holds none = (λ t. absurd (false≢true t), λ there. let is = replaced_row there.0 there.1 in absurd (none is.1.0 is.0 is.1.1))
