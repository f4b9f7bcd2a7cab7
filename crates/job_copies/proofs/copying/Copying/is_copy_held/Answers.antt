use Rattle.std.proofs.Common.{◌≢◌, ◌⊎◌, inl, inr, ◌↔◌, IsTrue, true, Bor, sym, subst, ◌∙◌}
use Rattle.std.specs.Prelude.{Any}
use Rattle.std.proofs.lemmas.Bool.{false≢true, not_from_true, not_from_false}
use Rattle.dsn_filter.specs.declared.dsn.Dsn.{Dsn}
use Rattle.enq_table.specs.Table.{Conflicts}
use Rattle.vtoc_core.specs.declared.volume.Row.{Row}
use Rattle.job_copies.specs.Case.{ReplacesSome}
use Rattle.job_copies.proofs.Replaced.{replaced_found}
use Rattle.job_copies.proofs.copying.Copying.is_copy_held.Goals.{else-is_same-via-then-is_same+else-is_none, else-is_same-via-else-is_same}
use Rattle.job_copies.proofs.copying.Copying.is_copy_held.Goals as goal

pub returns-then-is_none : goal.returns-then-is_none
returns-then-is_none c case are = (
  λ t. absurd (false≢true t),
  λ h. elim h.0 [
    | inl other ↦ absurd (other (are.new_is ∙ c.is_same.ensures.0 c.if-is_same.true ∙ sym are.name_is))
    | inr some ↦
        let found = c.replaced.result in
        let is = replaced_found c.requires.may are (λ (row : Bor Row). row.now) found c.replaced.ensures.found c.replaced.ensures.none in
        absurd (false≢true (sym (c.is_none.ensures ∙ not_from_true c.is_none.result c.if-is_none.true) ∙ is.1 some))
  ],
)

pub returns : goal.returns
returns c case are = (λ t. (asked, any.0 t), λ h. any.1 h.1)
  where
    any : IsTrue c.is_name_held.result ↔ Any (Conflicts case.new true) c.args.held.now
    any = subst (λ (name : Dsn). IsTrue c.is_name_held.result ↔ Any (Conflicts name true) c.args.held.now) (sym are.new_is) c.is_name_held.ensures

    asked : (case.new ≢ case.name) ⊎ ReplacesSome case
    asked = elim c.else-is_same.branch [
      | else-is_same-via-then-is_same+else-is_none w ↦
          let found = w.replaced.result in
          let is = replaced_found c.requires.may are (λ (row : Bor Row). row.now) found w.replaced.ensures.found w.replaced.ensures.none in
          inr (is.0 (w.is_none.ensures ∙ not_from_false w.is_none.result w.if-is_none.false))
      | else-is_same-via-else-is_same w ↦ inl (λ same. false≢true (sym w.if-is_same.false ∙ c.is_same.ensures.1 (sym are.new_is ∙ same ∙ are.name_is)))
    ]
