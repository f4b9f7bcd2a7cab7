use Rattle.std.proofs.Common.{◌≡◌, ℕ, get_or, refl, sym, ap, ◌∙◌, arith}
use Rattle.std.proofs.lemmas.Bool.{false≢true, not_from_true}
use Rattle.std.proofs.lemmas.List.{get_or_default}
use Rattle.rows_journals.proofs.journal.are_names.Goals as goal

pub returns : goal.returns
returns g c = λ so.
    let names = c.args.names.now in
    record {
      some = omega (arith, c.if-names-ne2.false);
      few = omega (arith, c.if-names-ne2.false);
      serials = c.if-not-are_serials.ensures.0 refl;
      apart = λ i j d less within same.
          let first : i ≡ 0 = omega (arith, less, within, c.if-names-ne2.false) in
          let second : j ≡ 1 = omega (arith, less, within, c.if-names-ne2.false) in
          false≢true (sym (not_from_true c.is_same.result (c.is_same.ensures.1
          (get_or_default names 0 _ d (omega (arith, c.if-names-ne2.false)) ∙ ap (λ (k : ℕ). get_or names k d) (sym first) ∙ same ∙ ap (λ (k : ℕ). get_or names k d) second
          ∙ get_or_default names 1 d _ (omega (arith, c.if-names-ne2.false))))) ∙ so);
      each = omega (arith, c.if-names-ne2.false, c.if-units-ne3.false, c.units.ensures);
    }
