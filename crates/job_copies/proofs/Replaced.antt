-- The data set that is copied and the one that is replaced, by their rows.
use Rattle.std.proofs.Common.{◌≡◌, ◌↔◌, Bool, IsTrue, true, false, Option, Some, None, refl, sym, ap, subst, ◌∙◌}
use Rattle.std.specs.Prelude.{IfSome, IfNone}
use Rattle.std.specs.Option.{is_some}
use Rattle.std.proofs.lemmas.Bool.{false≢true}
use Rattle.ckd_image.specs.Device.{heads_of}
use Rattle.dsn_filter.specs.declared.dsn.Dsn.{Dsn}
use Rattle.volume_model.specs.Pinned.{IsNameOf}
use Rattle.volume_model.specs.Unit.{DataSet}
use Rattle.vtoc_core.specs.declared.volume.Row.{Row}
use Rattle.step_room.specs.unit_change.Described.{DescribesSet}
use Rattle.step_room.specs.unit_steps.Plans.{HasRow}
use Rattle.step_room.specs.step_plans.Plans.{HasNone}
use Rattle.job_copies.specs.declared.copying.Copying.{Copying}
use Rattle.job_copies.specs.declared.wish.Wish.{Wish}
use Rattle.job_copies.specs.Case.{Case, IsOwn, IsNamesake, Replaces, ReplacesSome}
use Rattle.job_copies.specs.Loaded.{AreCopied, MayCopy}
use Rattle.job_copies.specs.Rows.{IsOwnRow, ReplacesRow, ReplacesNone}
use Rattle.job_copies.proofs.SetsOfRows.{named_set, named_row, described_row}

module _ {copying : Copying} {case : Case} (are : AreCopied copying case) where
  pub own_told : IsOwnRow copying ↔ IsOwn case
  own_told = (
    λ own. (are.within_is ∙ own.0, are.new_is ∙ own.1 ∙ sym are.name_is),
    λ own. (sym are.within_is ∙ own.0, sym are.new_is ∙ own.1 ∙ are.name_is),
  )

  pub replace_told : case.wish.replace ≡ copying.wish.replace
  replace_told = ap (λ (wish : Wish). wish.replace) are.wish_is

module _ {copying : Copying} {case : Case} (may : MayCopy copying) (are : AreCopied copying case) where
  -- its row describes it
  pub origin_described : (row : Row) → HasRow copying.source.now copying.name row → DescribesSet (heads_of copying.source.now.device) row case.set
  origin_described row has =
      described_row copying.source.now case.from may.sound are.from_is copying.name row has case.set are.there
      (subst (λ (name : Dsn). IsNameOf name case.set.name) are.name_is are.named)

  -- ---- what has the copy's name

  namesake_set : (row : Row) → HasRow copying.target.now copying.new row
      → (other : DataSet) × IsNamesake case other × DescribesSet (heads_of copying.target.now.device) row other
  namesake_set row has =
      let found = named_set copying.target.now case.to may.target_sound are.to_is copying.new row has in
      let named : IsNameOf copying.new found.0.name = subst (IsNameOf copying.new) (sym found.2.name_is) has.name_is in
      (found.0, record { there = found.1; name_is = subst (λ (name : Dsn). IsNameOf name found.0.name) (sym are.new_is) named }, found.2)

  namesake_row : (other : DataSet) → IsNamesake case other → (row : Row) × HasRow copying.target.now copying.new row
  namesake_row other is =
      named_row copying.target.now case.to are.to_is copying.new may.new_is other is.there (subst (λ (name : Dsn). IsNameOf name other.name) are.new_is is.name_is)

  pub namesake_found : {X : Type 0} (row_in : X → Row) (found : Option X) → IfSome found (λ x. HasRow copying.target.now copying.new (row_in x)) → IfNone found (HasNone copying.target.now copying.new)
      → IsTrue (is_some found) ↔ ((other : DataSet) × IsNamesake case other)
  namesake_found row_in (Some x) some none = (λ t. let is = namesake_set (row_in x) some in (is.0, is.1), λ there. refl)
  namesake_found row_in None some none = (λ t. absurd (false≢true t), λ there. let is = namesake_row there.0 there.1 in absurd (none is.0 is.1))

  -- ---- what is replaced

  replaced_set : (row : Row) → ReplacesRow copying row → (other : DataSet) × Replaces case other × DescribesSet (heads_of copying.target.now.device) row other
  replaced_set row is =
      let found = namesake_set row is.row_is in (
        found.0,
        record { asked = replace_told are ∙ is.asked; another = λ own. is.another ((own_told are).1 own); namesake = found.1 },
        found.2,
      )

  replaced_row : (other : DataSet) → Replaces case other → (row : Row) × ReplacesRow copying row
  replaced_row other is =
      let found = namesake_row other is.namesake in
      (found.0, record { asked = sym (replace_told are) ∙ is.asked; another = λ own. is.another ((own_told are).0 own); row_is = found.1 })

  replaced_described : (row : Row) → ReplacesRow copying row → (other : DataSet) → Replaces case other → DescribesSet (heads_of copying.target.now.device) row other
  replaced_described row row_is other is =
      described_row copying.target.now case.to may.target_sound are.to_is copying.new row row_is.row_is other is.namesake.there
      (subst (λ (name : Dsn). IsNameOf name other.name) are.new_is is.namesake.name_is)

  pub replaced_found : {X : Type 0} (row_in : X → Row) (found : Option X) → IfSome found (λ x. ReplacesRow copying (row_in x)) → IfNone found (ReplacesNone copying)
      → IsTrue (is_some found) ↔ ReplacesSome case
  replaced_found row_in (Some x) some none = (λ t. let is = replaced_set (row_in x) some in (is.0, is.1), λ there. refl)
  replaced_found row_in None some none = (λ t. absurd (false≢true t), λ there. let is = replaced_row there.0 there.1 in absurd (none is.0 is.1))

  -- what holds of it, by what its row says
  pub replaced_holds : (Holds : DataSet → Type 0) (row : Row) → ReplacesRow copying row → (told : Bool)
      → ((set : DataSet) → DescribesSet (heads_of copying.target.now.device) row set → (IsTrue told ↔ Holds set))
      → IsTrue told ↔ ((other : DataSet) × Replaces case other × Holds other)
  replaced_holds Holds row is told says = (
    λ t. let found = replaced_set row is in (found.0, found.1, (says found.0 found.2).0 t),
    λ there. (says there.0 (replaced_described row is there.0 there.1)).1 there.2,
  )

  pub none_holds : (Holds : DataSet → Type 0) → ReplacesNone copying → IsTrue false ↔ ((other : DataSet) × Replaces case other × Holds other)
  none_holds Holds none = (λ t. absurd (false≢true t), λ there. let is = replaced_row there.0 there.1 in absurd (none is.0 is.1))
