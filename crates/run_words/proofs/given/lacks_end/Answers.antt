use Rattle.std.proofs.Common.{◌≢◌, ℕ, List, All, codes, subst, refl}
use Rattle.run_words.proofs.Lists.{all_taken}
use Rattle.run_words.proofs.given.lacks_end.Goals as goal

pub returns : goal.returns
returns c =
    let whole = all_taken c.args.words.now c.loop-word.word-index c.loop-word.auto.word-index-end c.loop-word-test.false in
    (λ right. subst (λ (words : List (List ℕ)). All (λ word. word ≢ codes "--") words) whole c.loop-word.invariant, λ all. refl)
