use Rattle.std.proofs.Common.{List, ℕ, sym, subst, ◌∙◌}
use Rattle.run_words.specs.Words.{IsNumber}
use Rattle.run_words.proofs.numbers.number_given.Goals as goal

pub returns : goal.returns
returns c = λ blamed number h.
    c.in-None.ensures.none number (subst (λ (t : List (List ℕ)). IsNumber c.args.least c.args.most t number) (sym (c.as_slice.ensures ∙ c.in_ok-values.ensures)) h)
