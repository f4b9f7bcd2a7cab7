-- What stands behind a statement: its IFs end, an ELSE or END is of one that is open, or another statement begins.
use Rattle.std.proofs.Common.{◌≡◌, inl, inr, ℕ, suc, ◌+◌, ◌≤◌, List, [], ◌∷◌, ◌++◌, length, refl, sym, ap, subst, ◌∙◌, Bool, true, false, arith}
use Rattle.sysin_text.specs.declared.token.Placed.{Placed}
use Rattle.sysin_lang.specs.declared.script.Step.TheVariants as steps
use Rattle.sysin_lang.specs.Flow.{Plan, Done}
use Rattle.sysin_lang.specs.Script.{plans_at}
use Rattle.sysin_read.specs.declared.outline.Frame.{Frame}
use Rattle.sysin_read.specs.declared.outline.Frame.TheVariants as frames
use Rattle.sysin_read.specs.Statement.{most_commands, StartsLine, IsElse, IsEnd}
use Rattle.sysin_read.specs.Rest.{plans_before, Rest, StatementRest, IsBlockAnd}
use Rattle.sysin_read.specs.Why.{around, wants_else}
use Rattle.sysin_read.specs.Progress.{closing, closing_to_else, behind_then}
use Rattle.sysin_read.proofs.Opening.{rest_some}
use Rattle.sysin_read.proofs.Words.{else_leads_none, end_leads_none, else_is_not_end}
use Rattle.sysin_read.proofs.Blocks.{IsLed, statement_leads, block_cases, rest_of, top_cases, rest_of_top}

-- no ELSE stands in front
abbrev pub NoElse : List Placed → Type 0
NoElse list = (first : Placed) (rest : List Placed) → list ≡ first ∷ rest → ¬ IsElse first

pub no_else_here : (first : Placed) (rest : List Placed) → (¬ IsElse first) → NoElse (first ∷ rest)
no_else_here first rest n other more e is = let same : other ≡ first = cc in n (subst IsElse same is)

pub no_else_at_end : NoElse []
no_else_at_end first rest e is = let both : [] ≡ first ∷ rest = e in cc

-- ---- the IFs end

-- room within what is open around a statement that starts a line
abbrev pub room_around : ℕ → List Frame → ℕ
room_around room [] = room
room_around room (frames.Then ∷ outer) = room_around (suc room) outer
room_around room (frames.Else ∷ outer) = room_around (suc room) outer
room_around room (frames.Do ∷ outer) = room

pub room_stays : (room : ℕ) (open' : List Frame) → room_around room open' + length (around open') ≡ room + length open'
room_stays room [] = refl
room_stays room (frames.Then ∷ outer) = let more : room_around (suc room) outer + length (around outer) ≡ suc room + length outer = room_stays (suc room) outer in omega (arith, more)
room_stays room (frames.Else ∷ outer) = let more : room_around (suc room) outer + length (around outer) ≡ suc room + length outer = room_stays (suc room) outer in omega (arith, more)
room_stays room (frames.Do ∷ outer) = refl

module _ (limited : Bool) (count : ℕ) (list : List Placed) where
  -- where no ELSE stands, it is the same whether one may
  pub flag : (no_else : NoElse list) (room : ℕ) (open' : List Frame) (a b : Bool) (plans : List Plan) → Rest limited room open' a count plans list → Rest limited room open' b count plans list
  flag n room [] a b plans r = r
  flag n room (frames.Then ∷ outer) a b plans (plan, other, behind, e, inl same) = (plan, other, behind, e, inl same)
  flag n room (frames.Then ∷ outer) a b plans (plan, other, behind, e, inr (shut, (else', rest, whole, is, more))) = absurd (n else' rest whole is)
  flag n room (frames.Else ∷ outer) a b plans (plan, behind, e, r) = (plan, behind, e, flag n (suc room) outer a b (plan ∷ behind) r)
  flag n room (frames.Do ∷ outer) a b plans r = r

  abbrev pub Around : ℕ → List Frame → List Plan → Type 0
  Around room open' plans = (behind : List Plan) × (plans ≡ plans_before (closing open') behind) × Rest limited (room_around room open') (around open') true count behind list

  pub closes : (no_else : NoElse list) (room : ℕ) (open' : List Frame) (closed : Bool) (plans : List Plan) → Rest limited room open' closed count plans list → Around room open' plans
  closes n room [] closed plans r = (plans, refl, r)
  closes n room (frames.Then ∷ outer) closed plans (plan, other, behind, e, inl (same, r)) =
      let m = closes n (suc room) outer false (plan ∷ behind) r in
      (m.0, e ∙ ap (λ (o : Plan). plan ∷ o ∷ plan ∷ behind) same ∙ ap (λ (p : List Plan). plans_at steps.Else (plans_at steps.End p)) m.1, m.2)
  closes n room (frames.Then ∷ outer) closed plans (plan, other, behind, e, inr (shut, (else', rest, whole, is, more))) = absurd (n else' rest whole is)
  closes n room (frames.Else ∷ outer) closed plans (plan, behind, e, r) =
      let m = closes n (suc room) outer closed (plan ∷ behind) r in (m.0, e ∙ ap (plans_at steps.End) m.1, m.2)
  closes n room (frames.Do ∷ outer) closed plans r = (plans, refl, r)

  pub reopens : (no_else : NoElse list) (room : ℕ) (open' : List Frame) (plans : List Plan) → Rest limited (room_around room open') (around open') true count plans list
      → Rest limited room open' true count (plans_before (closing open') plans) list
  reopens n room [] plans r = r
  reopens n room (frames.Then ∷ outer) plans r =
      let m = reopens n (suc room) outer plans r in
      let some = rest_some limited (suc room) outer true count (plans_before (closing outer) plans) list m in (
        some.0,
        some.0,
        some.1,
        ap (λ (p : List Plan). plans_at steps.Else (plans_at steps.End p)) some.2,
        inl (refl, flag n (suc room) outer true false (some.0 ∷ some.1) (subst (λ (p : List Plan). Rest limited (suc room) outer true count p list) some.2 m)),
      )
  reopens n room (frames.Else ∷ outer) plans r =
      let m = reopens n (suc room) outer plans r in
      let some = rest_some limited (suc room) outer true count (plans_before (closing outer) plans) list m in
      (some.0, some.1, ap (plans_at steps.End) some.2, subst (λ (p : List Plan). Rest limited (suc room) outer true count p list) some.2 m)
  reopens n room (frames.Do ∷ outer) plans r = r

-- ---- ELSE

-- room within the IF whose ELSE it is
abbrev pub room_of_else : ℕ → List Frame → ℕ
room_of_else room [] = room
room_of_else room (frames.Then ∷ outer) = room
room_of_else room (frames.Else ∷ outer) = room_of_else (suc room) outer
room_of_else room (frames.Do ∷ outer) = room

pub room_with_else : (room : ℕ) (open' : List Frame) → wants_else open' ≡ true → room_of_else room open' + length (frames.Else ∷ behind_then open') ≡ room + length open'
room_with_else room [] w = cc
room_with_else room (frames.Then ∷ outer) w = refl
room_with_else room (frames.Else ∷ outer) w =
    let more : room_of_else (suc room) outer + length (frames.Else ∷ behind_then outer) ≡ suc room + length outer = room_with_else (suc room) outer w in omega (arith, more)
room_with_else room (frames.Do ∷ outer) w = cc

module _ (limited : Bool) (count : ℕ) (else' : Placed) (rest : List Placed) (is : IsElse else') where
  leads_none : IsLed (else' ∷ rest) → ⊥
  leads_none l = let w = l.whole in let same : l.first ≡ else' = cc in else_leads_none l.first l.lead (subst IsElse (sym same) is) l.leads

  ends_none : (end : Placed) (more : List Placed) → else' ∷ rest ≡ end ∷ more → IsEnd end → ⊥
  ends_none end more e ends = let same : end ≡ else' = cc in else_is_not_end else' is (subst IsEnd same ends)

  no_top : (room : ℕ) (closed : Bool) (plans : List Plan) → Rest limited room [] closed count plans (else' ∷ rest) → ⊥
  no_top room closed plans (plan, after, e, starts, block, few) = elim (top_cases limited room count after plan (else' ∷ rest) block few) as (λ _. ⊥) [
    | inl t ↦ let empty : else' ∷ rest ≡ [] = t.0 in cc
    | inr s ↦ leads_none (statement_leads limited room [] count (plan ∷ []) (else' ∷ rest) s)
  ]

  no_do : (room : ℕ) (outer : List Frame) (closed : Bool) (plans : List Plan) → Rest limited room (frames.Do ∷ outer) closed count plans (else' ∷ rest) → ⊥
  no_do room outer closed plans (plan, next, behind, e, b) = elim (block_cases limited room outer StartsLine count plan next behind (else' ∷ rest) b) as (λ _. ⊥) [
    | inl t ↦ ends_none t.0 t.1 t.2 t.3
    | inr s ↦ leads_none (statement_leads limited room (frames.Do ∷ outer) count (plan ∷ behind) (else' ∷ rest) s)
  ]

  -- it is of no IF further out
  no_outer : (room : ℕ) (open' : List Frame) (plans : List Plan) → Rest limited room open' false count plans (else' ∷ rest) → ⊥
  no_outer room [] plans r = no_top room false plans r
  no_outer room (frames.Then ∷ outer) plans (plan, other, behind, e, inl (same, r)) = no_outer (suc room) outer (plan ∷ behind) r
  no_outer room (frames.Then ∷ outer) plans (plan, other, behind, e, inr (shut, more)) = cc
  no_outer room (frames.Else ∷ outer) plans (plan, behind, e, r) = no_outer (suc room) outer (plan ∷ behind) r
  no_outer room (frames.Do ∷ outer) plans r = no_do room outer false plans r

  abbrev pub Other : ℕ → List Frame → List Plan → Type 0
  Other room open' plans =
      (behind : List Plan) × (wants_else open' ≡ true) × (plans ≡ plans_before (closing_to_else open') behind)
      × StatementRest limited (room_of_else room open') (frames.Else ∷ behind_then open') count behind rest

  pub other : (room : ℕ) (open' : List Frame) (plans : List Plan) → Rest limited room open' true count plans (else' ∷ rest) → Other room open' plans
  other room [] plans r = absurd (no_top room true plans r)
  other room (frames.Then ∷ outer) plans (plan, second, behind, e, inl (same, r)) = absurd (no_outer (suc room) outer (plan ∷ behind) r)
  other room (frames.Then ∷ outer) plans (plan, second, behind, e, inr (shut, (found, more, whole, f, s))) =
      let same : more ≡ rest = cc in (
        second ∷ plan ∷ behind,
        refl,
        e,
        (
          second,
          plan,
          plan ∷ behind,
          refl,
          record {
            first = s.first;
            more = s.more;
            after = s.after;
            closed = s.closed;
            whole = sym same ∙ s.whole;
            statement = s.statement;
            behind = (plan, behind, refl, s.behind);
          },
        ),
      )
  other room (frames.Else ∷ outer) plans (plan, behind, e, r) =
      let m = other (suc room) outer (plan ∷ behind) r in (m.0, m.1, e ∙ ap (plans_at steps.End) m.2, m.3)
  other room (frames.Do ∷ outer) plans r = absurd (no_do room outer true plans r)

  at_then : (room : ℕ) (outer : List Frame) (plans : List Plan) → StatementRest limited room (frames.Else ∷ outer) count plans rest
      → Rest limited room (frames.Then ∷ outer) true count (plans_at steps.Else plans) (else' ∷ rest)
  at_then room outer plans (second, next, tail, e, s) = by_rest s.behind
    where
      by_rest : Rest limited room (frames.Else ∷ outer) s.closed s.after (next ∷ tail) s.more → Rest limited room (frames.Then ∷ outer) true count (plans_at steps.Else plans) (else' ∷ rest)
      by_rest (plan, behind, f, r) =
          let here : next ≡ plan = cc in
          let there : tail ≡ plan ∷ behind = cc in (
            plan,
            second,
            behind,
            ap (plans_at steps.Else) (e ∙ ap (λ (t : List Plan). second ∷ t) there),
            inr (
              refl,
              (
                else',
                rest,
                refl,
                is,
                record {
                  first = s.first;
                  more = s.more;
                  after = s.after;
                  closed = s.closed;
                  whole = s.whole;
                  statement = subst (λ (n : Plan). Rattle.sysin_read.specs.Statement.IsStatement limited room count s.after s.closed second n s.first) here s.statement;
                  behind = r;
                },
              ),
            ),
          )

  pub with_other : (room : ℕ) (open' : List Frame) (plans : List Plan) → wants_else open' ≡ true
      → StatementRest limited (room_of_else room open') (frames.Else ∷ behind_then open') count plans rest → Rest limited room open' true count (plans_before (closing_to_else open') plans) (else' ∷ rest)
  with_other room [] plans w s = cc
  with_other room (frames.Then ∷ outer) plans w s = at_then room outer plans s
  with_other room (frames.Else ∷ outer) plans w s =
      let m = with_other (suc room) outer plans w s in
      let some = rest_some limited (suc room) outer true count (plans_before (closing_to_else outer) plans) (else' ∷ rest) m in
      (some.0, some.1, ap (plans_at steps.End) some.2, subst (λ (p : List Plan). Rest limited (suc room) outer true count p (else' ∷ rest)) some.2 m)
  with_other room (frames.Do ∷ outer) plans w s = cc

-- ---- behind the IFs

module _ (limited : Bool) (count : ℕ) (first : Placed) (rest : List Placed) where
  -- END
  end_none : IsEnd first → IsLed (first ∷ rest) → ⊥
  end_none ends l = let w = l.whole in let same : l.first ≡ first = cc in end_leads_none l.first l.lead (subst IsEnd (sym same) ends) l.leads

  pub ends_no_top : (room : ℕ) (closed : Bool) (plans : List Plan) → IsEnd first → Rest limited room [] closed count plans (first ∷ rest) → ⊥
  ends_no_top room closed plans ends (plan, after, e, starts, block, few) = elim (top_cases limited room count after plan (first ∷ rest) block few) as (λ _. ⊥) [
    | inl t ↦ let empty : first ∷ rest ≡ [] = t.0 in cc
    | inr s ↦ end_none ends (statement_leads limited room [] count (plan ∷ []) (first ∷ rest) s)
  ]

  pub ends_block : (May : List Placed → Type 0) (room : ℕ) (outer : List Frame) (plan next : Plan) (behind : List Plan) → IsEnd first
      → IsBlockAnd May limited room count plan next (λ after more. Rest limited (suc room) outer true after (next ∷ behind) more) (first ∷ rest)
      → Rest limited (suc room) outer true count (plan ∷ behind) rest
  ends_block May room outer plan next behind ends b = elim (block_cases limited room outer May count plan next behind (first ∷ rest) b) as (λ _. Rest limited (suc room) outer true count (plan ∷ behind) rest) [
    | inl t ↦ let w = t.2 in let same : t.1 ≡ rest = cc in subst (λ (l : List Placed). Rest limited (suc room) outer true count (plan ∷ behind) l) same t.4
    | inr s ↦ absurd (end_none ends (statement_leads limited room (frames.Do ∷ outer) count (plan ∷ behind) (first ∷ rest) s))
  ]

  pub ends_do : (room : ℕ) (outer : List Frame) (closed : Bool) (plans : List Plan) → IsEnd first → Rest limited room (frames.Do ∷ outer) closed count plans (first ∷ rest)
      → Rest limited (suc room) outer true count plans rest
  ends_do room outer closed plans ends (plan, next, behind, e, b) =
      subst (λ (p : List Plan). Rest limited (suc room) outer true count p rest) (sym e) (ends_block StartsLine room outer plan next behind ends b)

  -- another statement
  pub starts_block : (May : List Placed → Type 0) (room : ℕ) (outer : List Frame) (plan next : Plan) (behind : List Plan) → (¬ IsEnd first)
      → IsBlockAnd May limited room count plan next (λ after more. Rest limited (suc room) outer true after (next ∷ behind) more) (first ∷ rest)
      → StatementRest limited room (frames.Do ∷ outer) count (plan ∷ behind) (first ∷ rest)
  starts_block May room outer plan next behind n b =
      elim (block_cases limited room outer May count plan next behind (first ∷ rest) b) as (λ _. StatementRest limited room (frames.Do ∷ outer) count (plan ∷ behind) (first ∷ rest)) [
        | inl t ↦ let w = t.2 in let same : t.0 ≡ first = cc in absurd (n (subst IsEnd same t.3))
        | inr s ↦ s
      ]

  pub starts_here : (room : ℕ) (open' : List Frame) (closed : Bool) (plans : List Plan) → (¬ IsEnd first) → Rest limited room (around open') closed count plans (first ∷ rest)
      → StatementRest limited room (around open') count plans (first ∷ rest)
  starts_here room [] closed plans n (plan, after, e, starts, block, few) = subst (λ (p : List Plan). StatementRest limited room [] count p (first ∷ rest)) (sym e)
      (elim (top_cases limited room count after plan (first ∷ rest) block few) as (λ _. StatementRest limited room [] count (plan ∷ []) (first ∷ rest)) [
        | inl t ↦ let empty : first ∷ rest ≡ [] = t.0 in cc
        | inr s ↦ s
      ])
  starts_here room (frames.Then ∷ outer) closed plans n r = starts_here room outer closed plans n r
  starts_here room (frames.Else ∷ outer) closed plans n r = starts_here room outer closed plans n r
  starts_here room (frames.Do ∷ outer) closed plans n (plan, next, behind, e, b) =
      subst (λ (p : List Plan). StatementRest limited room (frames.Do ∷ outer) count p (first ∷ rest)) (sym e) (starts_block StartsLine room outer plan next behind n b)

  pub may_start : (room : ℕ) (open' : List Frame) (plans : List Plan) → first.starts ≡ true → StatementRest limited room (around open') count plans (first ∷ rest)
      → Rest limited room (around open') true count plans (first ∷ rest)
  may_start room [] plans starts s = rest_of_top limited room true count plans (first ∷ rest) s starts
  may_start room (frames.Then ∷ outer) plans starts s = may_start room outer plans starts s
  may_start room (frames.Else ∷ outer) plans starts s = may_start room outer plans starts s
  may_start room (frames.Do ∷ outer) plans starts s = rest_of limited room outer true count plans (first ∷ rest) s starts

  -- no other token stands in the line
  in_line : (within : List Placed) (end : Placed) (more : List Placed) → first ∷ rest ≡ within ++ end ∷ more → StartsLine within → IsEnd end → (¬ IsEnd first) → first.starts ≡ true
  in_line [] end more e starts ends n = let same : end ≡ first = cc in absurd (n (subst IsEnd same ends))
  in_line (x ∷ within) end more e starts ends n = let same : x ≡ first = cc in subst (λ (p : Placed). p.starts ≡ true) same starts

  pub must_start : (room : ℕ) (open' : List Frame) (closed : Bool) (plans : List Plan) → (¬ IsEnd first) → Rest limited room (around open') closed count plans (first ∷ rest) → first.starts ≡ true
  must_start room [] closed plans n (plan, after, e, starts, block, few) = starts
  must_start room (frames.Then ∷ outer) closed plans n r = must_start room outer closed plans n r
  must_start room (frames.Else ∷ outer) closed plans n r = must_start room outer closed plans n r
  must_start room (frames.Do ∷ outer) closed plans n (plan, next, behind, e, b) = in_line b.inner b.end b.more b.whole b.may b.ends n

-- ---- the end of a text

pub no_more : (within : List Placed) (end : Placed) (more : List Placed) → [] ≡ within ++ end ∷ more → ⊥
no_more [] end more e = cc
no_more (x ∷ within) end more e = cc

pub end_around : (limited : Bool) (count room : ℕ) (open' : List Frame) (closed : Bool) (plans : List Plan) → Rest limited room (around open') closed count plans []
    → (around open' ≡ []) × (plans ≡ Done ∷ []) × (count ≤ most_commands)
end_around limited count room [] closed plans (plan, after, e, starts, block, few) = elim (top_cases limited room count after plan [] block few) as (λ _. (around [] ≡ []) × (plans ≡ Done ∷ []) × (count ≤ most_commands)) [
  | inl t ↦ (refl, e ∙ ap (λ (p : Plan). p ∷ []) t.1, t.2)
  | inr s ↦ let l = statement_leads limited room [] count (plan ∷ []) [] s in let w : [] ≡ l.first ∷ l.rest = l.whole in cc
]
end_around limited count room (frames.Then ∷ outer) closed plans r = end_around limited count room outer closed plans r
end_around limited count room (frames.Else ∷ outer) closed plans r = end_around limited count room outer closed plans r
end_around limited count room (frames.Do ∷ outer) closed plans (plan, next, behind, e, b) = absurd (no_more b.inner b.end b.more b.whole)
