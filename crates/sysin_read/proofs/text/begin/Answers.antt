use Rattle.std.proofs.Common.{subst}
use Rattle.std.proofs.lemmas.Result.{IfErr-weaker}
use Rattle.sysin_words.specs.declared.lead.Lead.{Lead}
use Rattle.sysin_heads.specs.declared.head.HeadPlace.TheVariants as head_places
use Rattle.sysin_read.specs.Statement.{IsLead}
use Rattle.sysin_read.proofs.Taking.{set_goes}
use Rattle.sysin_read.proofs.text.begin.Goals as goal

pub returns-in-Some-Set-clause-refused : goal.returns-in-Some-Set-clause-refused
returns-in-Some-Set-clause-refused c =
    let lead = subst (λ (l : Lead). IsLead l c.args.placed.now) c.in-Some-Set.field-0-is c.in-Some-Set.ensures.some in
    IfErr-weaker c.begin_head.result _ _ (λ stop none. absurd (none head_places.Set (set_goes c.args.placed.now lead))) c.begin_head.ensures.refused
