use Rattle.std.proofs.Common.{◌∷◌, ◌++◌, [], List, ℕ, length, subst, sym, ◌∙◌}
use Rattle.std.proofs.lemmas.Bool.{iff_false, eqb-true}
use Rattle.dsn_filter.specs.Qualifier.{IsQualifier}
use Rattle.dsn_filter.proofs.OneWord.{word_more, word_stops, no_word}
use Rattle.dsn_filter.proofs.qualifier.Qualifier.read.Goals as goal

pub returns-then-not-name_goes_on-clause-refused : goal.returns-then-not-name_goes_on-clause-refused
returns-then-not-name_goes_on-clause-refused c =
    word_stops c.args.text.now c.loop-place.place c.loop-place.capital c.loop-place.invariant c.loop-place-test.true c.to_ascii_uppercase-byte.result c.to_ascii_uppercase-byte.ensures.value
    (λ h. iff_false c.name_goes_on.ensures c.if-not-name_goes_on.true (subst (λ (q : List ℕ). IsQualifier (q ++ (c.to_ascii_uppercase-byte.result ∷ []))) (sym c.between.ensures) h))

pub loop-place-preserved : goal.loop-place-preserved
loop-place-preserved c =
    word_more c.args.text.now c.loop-place.place c.loop-place.capital c.loop-place.invariant c.loop-place-test.true c.to_ascii_uppercase-byte.result c.to_ascii_uppercase-byte.ensures.value
    (subst (λ (q : List ℕ). IsQualifier (q ++ (c.to_ascii_uppercase-byte.result ∷ []))) c.between.ensures (c.name_goes_on.ensures.0 c.if-not-name_goes_on.false))

pub returns-then-is_empty-clause-refused : goal.returns-then-is_empty-clause-refused
returns-then-is_empty-clause-refused c = no_word c.args.text.now (eqb-true (length c.args.text.now) 0 (sym c.is_empty.ensures ∙ c.if-is_empty.true))
