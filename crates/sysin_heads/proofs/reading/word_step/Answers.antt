use Rattle.std.proofs.Common.{sym, subst}
use Rattle.std.specs.Prelude.{IfNone}
use Rattle.sysin_heads.specs.declared.head.HeadPlace.{HeadPlace}
use Rattle.sysin_text.specs.declared.token.Token.TheVariants as tokens
use Rattle.sysin_heads.specs.Reading.{Goes}
use Rattle.sysin_heads.proofs.reading.word_step.Goals as goal

pub returns-in-Start-clause-none : goal.returns-in-Start-clause-none
returns-in-Start-clause-none c =
    subst (λ (p : HeadPlace). IfNone c.first.result ((new : HeadPlace) → ¬ Goes p (tokens.Word c.args.word.now) new)) (sym c.in-Start.is) c.first.ensures.none
