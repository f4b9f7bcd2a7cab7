use Rattle.std.proofs.lemmas.Result.{IfErr-weaker}
use Rattle.sysin_heads.specs.declared.head.HeadPlace.TheVariants as head_places
use Rattle.sysin_read.proofs.Taking.{if_goes}
use Rattle.sysin_read.proofs.text.begin_if.Goals as goal

pub returns-clause-refused : goal.returns-clause-refused
returns-clause-refused c = IfErr-weaker c.begin_head.result _ _ (λ stop none. absurd (none head_places.If (if_goes c.args.placed.now c.requires))) c.begin_head.ensures.refused
