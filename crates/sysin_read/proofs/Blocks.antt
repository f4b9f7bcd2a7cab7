-- What stands within DO and at the top: statements one behind the other.
use Rattle.std.proofs.Common.{◌≡◌, ◌⊎◌, inl, inr, ℕ, suc, ◌≤◌, List, [], ◌∷◌, ◌++◌, refl, sym, ap, subst, ◌∙◌, Bool, true, append_assoc}
use Rattle.sysin_text.specs.declared.token.Token.{Token}
use Rattle.sysin_text.specs.declared.token.Placed.{Placed}
use Rattle.sysin_words.specs.declared.code.Which.{Which}
use Rattle.by_rules.specs.declared.criterion.Op.{Op}
use Rattle.sysin_words.specs.declared.lead.Lead.{Lead}
use Rattle.sysin_words.specs.declared.lead.Lead.TheVariants as leads
use Rattle.sysin_lang.specs.Flow.{Plan, Done}
use Rattle.sysin_heads.specs.Head.{IsSet, IsIf}
use Rattle.sysin_read.specs.declared.outline.Frame.{Frame}
use Rattle.sysin_read.specs.declared.outline.Frame.TheVariants as frames
use Rattle.sysin_read.specs.Statement.{most_commands, StartsLine, IsLine, IsLead, IsEnd, IsStatement, IsBlock, command, set, if_alone, if_else, do_end, none, more}
use Rattle.sysin_read.specs.Rest.{Rest, StatementRest, BlockRest, IsStatementAnd, IsBlockAnd}
use Rattle.sysin_read.proofs.Opening.{rest_some, opens, no_set, no_if}

-- ---- first tokens

pub set_leads : (which : Which) (code : ℕ) (first : Placed) (rest : List Token) → IsSet which code (first.token ∷ rest) → IsLead leads.Set first
set_leads which code first rest (s, n, v, e, lead, name, value) = (s, cc, lead)

pub if_leads : (which : Which) (op : Op) (code : ℕ) (first : Placed) (rest : List Token) → IsIf which op code (first.token ∷ rest) → IsLead leads.If first
if_leads which op code first rest (s, n, c, v, t, e, lead, name, sign, value, last) = (s, cc, lead)

pub record IsLed (list : List Placed) : Type 0 where
  pub first : Placed
  pub rest : List Placed
  pub lead : Lead
  pub whole : list ≡ first ∷ rest
  pub leads : IsLead lead first

-- a statement has a first token, which begins it
pub statement_leads : (limited : Bool) (room : ℕ) (open' : List Frame) (count : ℕ) (plans : List Plan) (list : List Placed) → StatementRest limited room open' count plans list → IsLed list
statement_leads limited room open' count plans list s = elim (opens limited room open' count plans list s) as (λ _. IsLed list) [
  | inl a ↦ elim a as (λ _. IsLed list) [
    | inl o ↦ record { first = o.first; rest = o.text ++ o.more; lead = leads.Command o.verb; whole = o.whole; leads = o.lead }
    | inr o ↦ record { first = o.first; rest = o.text ++ o.more; lead = leads.Set; whole = o.whole; leads = set_leads o.which o.code o.first _ o.spells }
  ]
  | inr b ↦ elim b as (λ _. IsLed list) [
    | inl o ↦ record { first = o.first; rest = o.text ++ o.more; lead = leads.If; whole = o.whole; leads = if_leads o.which o.op o.code o.first _ o.spells }
    | inr o ↦ record { first = o.first; rest = o.more; lead = leads.Do; whole = o.whole; leads = o.lead }
  ]
]

head_some : (list : List Placed) (text : List Token) → IsLine list text → (text ≡ [] → ⊥) → list ≡ [] → ⊥
head_some [] text line some empty = some line
head_some (first ∷ rest) text line some empty = cc

-- a statement has tokens
nothing : (limited : Bool) (room count after : ℕ) (closed : Bool) (plan next : Plan) (list : List Placed) → IsStatement limited room count after closed plan next list → list ≡ [] → ⊥
nothing limited room count after closed plan next list (command r b said q l (verb, first, rest, e, lead, line, spells)) empty = cc
nothing limited room count after closed plan next list (set r b which code q l text line spells) empty = head_some list text line (no_set which code text spells) empty
nothing limited room count after closed plan next list (if_alone r b a shut which op code first q [] body text line spells inner) empty = no_if which op code text spells line
nothing limited room count after closed plan next list (if_alone r b a shut which op code first q (x ∷ head) body text line spells inner) empty = cc
nothing limited room count after closed plan next list (if_else r b between a shut which op code first second q [] body other else' text line spells inner e last) empty = no_if which op code text spells line
nothing limited room count after closed plan next list (if_else r b between a shut which op code first second q (x ∷ head) body other else' text line spells inner e last) empty = cc
nothing limited room count after closed plan next list (do_end r b a p q do' end inner lead block ends) empty = cc

starts_too : (first rest other : List Placed) → (first ≡ [] → ⊥) → StartsLine (first ++ rest) → StartsLine (first ++ other)
starts_too [] rest other some s = absurd (some refl)
starts_too (x ∷ first) rest other some s = s

-- ---- within DO

module _ (limited : Bool) (inner : ℕ) (outer : List Frame) where
  abbrev Behind : Plan → List Plan → ℕ → List Placed → Type 0
  Behind next behind after list = Rest limited (suc inner) outer true after (next ∷ behind) list

  -- END, and what stands behind it
  abbrev Ends : ℕ → Plan → List Plan → List Placed → Type 0
  Ends count plan behind list = (end : Placed) × (rest : List Placed) × (list ≡ end ∷ rest) × IsEnd end × Rest limited (suc inner) outer true count (plan ∷ behind) rest

  by_block : (count after : ℕ) (plan next : Plan) (behind : List Plan) (list within : List Placed) (end : Placed) (rest : List Placed) → IsBlock limited inner count after plan next within
      → list ≡ within ++ end ∷ rest → IsEnd end → Rest limited (suc inner) outer true after (next ∷ behind) rest
      → Ends count plan behind list ⊎ StatementRest limited inner (frames.Do ∷ outer) count (plan ∷ behind) list
  by_block count after plan next behind list within end rest (none r b q) whole ends s = inl (end, rest, whole, ends, s)
  by_block count after plan next behind list within end rest (more r b between a shut p mid q first others statement starts block) whole ends s = inr (
    plan,
    mid,
    behind,
    refl,
    record {
      first = first;
      more = others ++ end ∷ rest;
      after = between;
      closed = shut;
      whole = whole ∙ append_assoc first others (end ∷ rest);
      statement = statement;
      behind = (mid, next, behind, refl, record { inner = others; end = end; more = rest; after = after; whole = refl; may = starts; block = block; ends = ends; behind = s });
    },
  )

  pub block_cases : (May : List Placed → Type 0) (count : ℕ) (plan next : Plan) (behind : List Plan) (list : List Placed) → IsBlockAnd May limited inner count plan next (Behind next behind) list
      → Ends count plan behind list ⊎ StatementRest limited inner (frames.Do ∷ outer) count (plan ∷ behind) list
  block_cases May count plan next behind list b = by_block count b.after plan next behind list b.inner b.end b.more b.block b.whole b.ends b.behind

  pub end_block : (count : ℕ) (plans : List Plan) (end : Placed) (rest : List Placed) → IsEnd end → Rest limited (suc inner) outer true count plans rest
      → BlockRest limited inner (frames.Do ∷ outer) count plans (end ∷ rest)
  end_block count plans end rest ends s =
      let some = rest_some limited (suc inner) outer true count plans rest s in (
        some.0,
        some.0,
        some.1,
        some.2,
        refl,
        record {
          inner = [];
          end = end;
          more = rest;
          after = count;
          whole = refl;
          may = tt;
          block = none inner count some.0;
          ends = ends;
          behind = subst (λ (p : List Plan). Rest limited (suc inner) outer true count p rest) some.2 s;
        },
      )

  pub end_rest : (closed : Bool) (count : ℕ) (plans : List Plan) (end : Placed) (rest : List Placed) → IsEnd end → Rest limited (suc inner) outer true count plans rest
      → Rest limited inner (frames.Do ∷ outer) closed count plans (end ∷ rest)
  end_rest closed count plans end rest ends s =
      let some = rest_some limited (suc inner) outer true count plans rest s in (
        some.0,
        some.0,
        some.1,
        some.2,
        record {
          inner = [];
          end = end;
          more = rest;
          after = count;
          whole = refl;
          may = tt;
          block = none inner count some.0;
          ends = ends;
          behind = subst (λ (p : List Plan). Rest limited (suc inner) outer true count p rest) some.2 s;
        },
      )

  -- a statement, and the others of its block
  joined : (May : List Placed → Type 0) (count : ℕ) (plan mid : Plan) (behind : List Plan) (list : List Placed)
      → (s : IsStatementAnd limited inner count plan mid (λ closed after rest. Rest limited inner (frames.Do ∷ outer) closed after (mid ∷ behind) rest) list)
      → ((others : List Placed) → StartsLine others → May (s.first ++ others))
      → (next : Plan) × IsBlockAnd May limited inner count plan next (Behind next behind) list
  joined May count plan mid behind list s may = by_rest s.behind
    where
      by_rest : Rest limited inner (frames.Do ∷ outer) s.closed s.after (mid ∷ behind) s.more → (next : Plan) × IsBlockAnd May limited inner count plan next (Behind next behind) list
      by_rest (p, next, tail, e, b) =
          let here : p ≡ mid = cc in
          let there : tail ≡ behind = cc in (
            next,
            record {
              inner = s.first ++ b.inner;
              end = b.end;
              more = b.more;
              after = b.after;
              whole = s.whole ∙ ap (λ (l : List Placed). s.first ++ l) b.whole ∙ sym (append_assoc s.first b.inner (b.end ∷ b.more));
              may = may b.inner b.may;
              block = more inner count s.after b.after s.closed plan mid next s.first b.inner s.statement b.may
                  (subst (λ (q : Plan). IsBlock limited inner s.after b.after q next b.inner) here b.block);
              ends = b.ends;
              behind = subst (λ (t : List Plan). Rest limited (suc inner) outer true b.after (next ∷ t) b.more) there b.behind;
            },
          )

  pub block_of : (count : ℕ) (plans : List Plan) (list : List Placed) → StatementRest limited inner (frames.Do ∷ outer) count plans list
      → BlockRest limited inner (frames.Do ∷ outer) count plans list
  block_of count plans list (plan, mid, behind, e, s) =
      let j = joined (λ within. Unit {0}) count plan mid behind list s (λ others starts. tt) in (plan, j.0, behind, e, refl, j.1)

  pub rest_of : (closed : Bool) (count : ℕ) (plans : List Plan) (list : List Placed) → StatementRest limited inner (frames.Do ∷ outer) count plans list → StartsLine list
      → Rest limited inner (frames.Do ∷ outer) closed count plans list
  rest_of closed count plans list (plan, mid, behind, e, s) starts =
      let j = joined StartsLine count plan mid behind list s
      (λ others more. starts_too s.first s.more others (nothing limited inner count s.after s.closed plan mid s.first s.statement) (subst StartsLine s.whole starts)) in
      (plan, j.0, behind, e, j.1)

-- ---- at the top

module _ (limited : Bool) (room : ℕ) where
  top_by : (count after : ℕ) (plan next : Plan) (list : List Placed) → IsBlock limited room count after plan next list → next ≡ Done → after ≤ most_commands
      → ((list ≡ []) × (plan ≡ Done) × (count ≤ most_commands)) ⊎ StatementRest limited room [] count (plan ∷ []) list
  top_by count after plan next list (none r b q) done few = inl (refl, done, few)
  top_by count after plan next list (more r b between a shut p mid q first others statement starts block) done few = inr (
    plan,
    mid,
    [],
    refl,
    record {
      first = first;
      more = others;
      after = between;
      closed = shut;
      whole = refl;
      statement = statement;
      behind = (mid, after, refl, starts, subst (λ (x : Plan). IsBlock limited room between after mid x others) done block, few);
    },
  )

  pub top_cases : (count after : ℕ) (plan : Plan) (list : List Placed) → IsBlock limited room count after plan Done list → after ≤ most_commands
      → ((list ≡ []) × (plan ≡ Done) × (count ≤ most_commands)) ⊎ StatementRest limited room [] count (plan ∷ []) list
  top_cases count after plan list b few = top_by count after plan Done list b refl few

  pub top_of : (count : ℕ) (plans : List Plan) (list : List Placed) → StatementRest limited room [] count plans list
      → (plan : Plan) × (after : ℕ) × (plans ≡ plan ∷ []) × IsBlock limited room count after plan Done list × (after ≤ most_commands)
  top_of count plans list (plan, mid, behind, e, s) = by_rest s.behind
    where
      by_rest : Rest limited room [] s.closed s.after (mid ∷ behind) s.more
          → (plan : Plan) × (after : ℕ) × (plans ≡ plan ∷ []) × IsBlock limited room count after plan Done list × (after ≤ most_commands)
      by_rest (p, after, f, starts, block, few) =
          let here : p ≡ mid = cc in
          let there : behind ≡ [] = cc in (
            plan,
            after,
            e ∙ ap (λ (b : List Plan). plan ∷ b) there,
            subst (λ (l : List Placed). IsBlock limited room count after plan Done l) (sym s.whole)
                (more room count s.after after s.closed plan mid Done s.first s.more s.statement starts (subst (λ (q : Plan). IsBlock limited room s.after after q Done s.more) here block)),
            few,
          )

  pub rest_of_top : (closed : Bool) (count : ℕ) (plans : List Plan) (list : List Placed) → StatementRest limited room [] count plans list → StartsLine list
      → Rest limited room [] closed count plans list
  rest_of_top closed count plans list s starts = let t = top_of count plans list s in (t.0, t.1, t.2, starts, t.3, t.4)

  pub end_of_top : (closed : Bool) (count : ℕ) → count ≤ most_commands → Rest limited room [] closed count (Done ∷ []) []
  end_of_top closed count few = (Done, count, refl, tt, none room count Done, few)
