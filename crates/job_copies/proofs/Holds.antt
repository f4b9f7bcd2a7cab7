-- Who holds a name.
use Rattle.std.proofs.Common.{◌≡◌, ◌⊎◌, inl, inr, ◌↔◌, List, [], ◌∷◌, Contains, IsTrue, Option, sym, ap, subst, ◌∙◌}
use Rattle.std.specs.Prelude.{Any}
use Rattle.std.specs.Option.{is_some}
use Rattle.std.proofs.lemmas.Bool.{false≢true}
use Rattle.enq_table.specs.declared.hold.Hold.{Hold}
use Rattle.enq_table.specs.declared.holder.Holder.{Holder}
use Rattle.enq_table.specs.Table.{IsFirstHolder}
use Rattle.vtoc_layout.proofs.Distinct.{first_or_later, at_first, in_later, in_none}

-- there is a first holder where there is a hold
pub held_first : (Fact : Hold → Type 0) (holds : List Hold) (found : Option Holder) → IsFirstHolder Fact holds found → IsTrue (is_some found) ↔ Any Fact holds
held_first Fact [] found none =
    (λ some. absurd (false≢true (sym (ap (λ (o : Option Holder). is_some o) none) ∙ some)), λ any. absurd (in_none any.1 (any.0, any.2, any.3)))
held_first Fact (held ∷ rest) found (inl here) =
    (λ some. let there = at_first held rest in (there.0, held, there.1, there.2, here.0), λ any. ap (λ (o : Option Holder). is_some o) here.1)
held_first Fact (held ∷ rest) found (inr behind) =
    let later = held_first Fact rest found behind.1 in (
      λ some. let any = later.0 some in let there = in_later held any.1 rest (any.0, any.2, any.3) in (there.0, any.1, there.1, there.2, any.4),
      λ any. by later any.1 any.4 (first_or_later held any.1 rest (any.0, any.2, any.3)),
    )
  where
    by : (IsTrue (is_some found) ↔ Any Fact rest) → (hold : Hold) → Fact hold → ((held ≡ hold) ⊎ Contains rest hold) → IsTrue (is_some found)
    by later hold fact (inl same) = absurd (behind.0 (subst Fact (sym same) fact))
    by later hold fact (inr there) = later.1 (there.0, hold, there.1, there.2, fact)
