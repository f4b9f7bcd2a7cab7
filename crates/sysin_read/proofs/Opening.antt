-- How a statement opens: a whole command or SET, an IF up to its THEN, or DO.
use Rattle.std.proofs.Common.{◌≡◌, ◌⊎◌, inl, inr, ℕ, suc, ◌+◌, List, [], ◌∷◌, ◌++◌, refl, sym, ap, subst, ◌∙◌, Bool, true, false, append_assoc}
use Rattle.by_rules.specs.declared.criterion.Op.{Op}
use Rattle.sysin_text.specs.declared.token.Token.{Token}
use Rattle.sysin_text.specs.declared.token.Token.TheVariants as tokens
use Rattle.sysin_text.specs.declared.token.Placed.{Placed}
use Rattle.sysin_words.specs.declared.code.Which.{Which}
use Rattle.sysin_words.specs.declared.lead.Verb.{Verb}
use Rattle.sysin_words.specs.declared.lead.Lead.TheVariants as leads
use Rattle.sysin_lang.specs.declared.command.Command.{Command}
use Rattle.sysin_lang.specs.declared.script.Step.TheVariants as steps
use Rattle.sysin_lang.specs.Flow.{Plan, Run, Set, Choose}
use Rattle.sysin_lang.specs.Script.{plans_at}
use Rattle.sysin_heads.specs.Head.{IsSet, IsIf}
use Rattle.sysin_commands.specs.Command.{IsCommand}
use Rattle.sysin_read.specs.declared.outline.Frame.{Frame}
use Rattle.sysin_read.specs.declared.outline.Frame.TheVariants as frames
use Rattle.sysin_read.specs.Statement.{tokens_of, StartNone, IsLine, IsLead, IsStatement, command, set, if_alone, if_else, do_end}
use Rattle.sysin_read.specs.Rest.{Rest, StatementRest, BlockRest, IsStatementAnd}

-- ---- plans

-- something runs from here on
pub rest_some : (limited : Bool) (room : ℕ) (open' : List Frame) (closed : Bool) (count : ℕ) (plans : List Plan) (list : List Placed) → Rest limited room open' closed count plans list
    → (plan : Plan) × (behind : List Plan) × (plans ≡ plan ∷ behind)
rest_some limited room [] closed count plans list (plan, after, e, starts, block, few) = (plan, [], e)
rest_some limited room (frames.Then ∷ outer) closed count plans list (plan, other, behind, e, more) = (plan, other ∷ plan ∷ behind, e)
rest_some limited room (frames.Else ∷ outer) closed count plans list (plan, behind, e, more) = (plan, plan ∷ behind, e)
rest_some limited room (frames.Do ∷ outer) closed count plans list (plan, next, behind, e, more) = (plan, behind, e)

-- ---- the first tokens of statements

pub record OpensCommand (limited : Bool) (room : ℕ) (open' : List Frame) (count : ℕ) (plans : List Plan) (list : List Placed) : Type 0 where
  pub verb : Verb
  pub said : Command
  pub first : Placed
  pub text : List Placed
  pub more : List Placed
  pub behind : List Plan
  pub whole : list ≡ first ∷ (text ++ more)
  pub lead : IsLead (leads.Command verb) first
  pub line : StartNone text
  pub spells : IsCommand verb limited said (tokens_of text)
  pub runs : plans ≡ plans_at (steps.Run (record { number = count + 1; command = said })) behind
  pub rest : Rest limited room open' true (count + 1) behind more

pub record OpensSet (limited : Bool) (room : ℕ) (open' : List Frame) (count : ℕ) (plans : List Plan) (list : List Placed) : Type 0 where
  pub which : Which
  pub code : ℕ
  pub first : Placed
  pub text : List Placed
  pub more : List Placed
  pub behind : List Plan
  pub whole : list ≡ first ∷ (text ++ more)
  pub line : StartNone text
  pub spells : IsSet which code (tokens_of (first ∷ text))
  pub runs : plans ≡ plans_at (steps.Set which code) behind
  pub rest : Rest limited room open' true count behind more

pub record OpensIf (limited : Bool) (room : ℕ) (open' : List Frame) (count : ℕ) (plans : List Plan) (list : List Placed) : Type 0 where
  pub which : Which
  pub op : Op
  pub code : ℕ
  pub first : Placed
  pub text : List Placed
  pub more : List Placed
  pub behind : List Plan
  pub inner : ℕ
  pub whole : list ≡ first ∷ (text ++ more)
  pub line : StartNone text
  pub spells : IsIf which op code (tokens_of (first ∷ text))
  pub runs : plans ≡ plans_at (steps.If which op code) behind
  pub room_is : room ≡ suc inner
  pub rest : StatementRest limited inner (frames.Then ∷ open') count behind more

pub record OpensDo (limited : Bool) (room : ℕ) (open' : List Frame) (count : ℕ) (plans : List Plan) (list : List Placed) : Type 0 where
  pub first : Placed
  pub more : List Placed
  pub inner : ℕ
  pub whole : list ≡ first ∷ more
  pub lead : IsLead leads.Do first
  pub room_is : room ≡ suc inner
  pub rest : BlockRest limited inner (frames.Do ∷ open') count plans more

abbrev pub Opens : Bool → ℕ → List Frame → ℕ → List Plan → List Placed → Type 0
Opens limited room open' count plans list =
    (OpensCommand limited room open' count plans list ⊎ OpensSet limited room open' count plans list)
    ⊎ (OpensIf limited room open' count plans list ⊎ OpensDo limited room open' count plans list)

-- ---- a statement opens so

pub no_set : (which : Which) (code : ℕ) (text : List Token) → IsSet which code text → text ≡ [] → ⊥
no_set which code text (s, n, v, e, lead, name, value) none = let both : tokens.Word s ∷ tokens.Word n ∷ tokens.Equal ∷ tokens.Word v ∷ [] ≡ [] = sym e ∙ none in cc

pub no_if : (which : Which) (op : Op) (code : ℕ) (text : List Token) → IsIf which op code text → text ≡ [] → ⊥
no_if which op code text (s, n, c, v, t, e, lead, name, sign, value, last) none = let both : tokens.Word s ∷ tokens.Word n ∷ c ∷ tokens.Word v ∷ tokens.Word t ∷ [] ≡ [] = sym e ∙ none in cc

module _ (limited : Bool) (open' : List Frame) (behind : List Plan) (more : List Placed) where
  of_set : (room count : ℕ) (which : Which) (code : ℕ) (next : Plan) (list : List Placed) (text : List Token) → IsLine list text → IsSet which code text
      → Rest limited room open' true count (next ∷ behind) more → Opens limited room open' count (Set which code next ∷ behind) (list ++ more)
  of_set room count which code next [] text line spells r = absurd (no_set which code text spells line)
  of_set room count which code next (first ∷ rest) text line spells r = inl (inr (record {
    which = which;
    code = code;
    first = first;
    text = rest;
    more = more;
    behind = next ∷ behind;
    whole = refl;
    line = line.0;
    spells = subst (λ (t : List Token). IsSet which code t) (sym line.1) spells;
    runs = refl;
    rest = r;
  }))

  of_if : (room count : ℕ) (which : Which) (op : Op) (code : ℕ) (first second next : Plan) (head body : List Placed) (text : List Token) → IsLine head text → IsIf which op code text
      → StatementRest limited room (frames.Then ∷ open') count (first ∷ second ∷ next ∷ behind) (body ++ more)
      → Opens limited (suc room) open' count (Choose which op code first second ∷ behind) ((head ++ body) ++ more)
  of_if room count which op code first second next [] body text line spells r = absurd (no_if which op code text spells line)
  of_if room count which op code first second next (lead ∷ rest) body text line spells r = inr (inl (record {
    which = which;
    op = op;
    code = code;
    first = lead;
    text = rest;
    more = body ++ more;
    behind = first ∷ second ∷ next ∷ behind;
    inner = room;
    whole = ap (λ (l : List Placed). lead ∷ l) (append_assoc rest body more);
    line = line.0;
    spells = subst (λ (t : List Token). IsIf which op code t) (sym line.1) spells;
    runs = refl;
    room_is = refl;
    rest = r;
  }))

  statement_opens : (room count after : ℕ) (closed : Bool) (plan next : Plan) (list : List Placed) → IsStatement limited room count after closed plan next list
      → Rest limited room open' closed after (next ∷ behind) more → Opens limited room open' count (plan ∷ behind) (list ++ more)
  statement_opens room count after closed plan next list (command r b said q l (verb, first, rest, e, lead, none, spells)) s = inl (inl (record {
    verb = verb;
    said = said;
    first = first;
    text = rest;
    more = more;
    behind = next ∷ behind;
    whole = ap (λ (t : List Placed). t ++ more) e;
    lead = lead;
    line = none;
    spells = spells;
    runs = refl;
    rest = s;
  }))
  statement_opens room count after closed plan next list (set r b which code q l text line spells) s = of_set room count which code next list text line spells s
  statement_opens room count after closed plan next list (if_alone r b a shut which op code first q head body text line spells inner) s =
      of_if r count which op code first next next head body text line spells
      (first, next, next ∷ next ∷ behind, refl, record { first = body; more = more; after = after; closed = shut; whole = refl; statement = inner; behind = (next, next, behind, refl, inl (refl, s)) })
  statement_opens room count after closed plan next list (if_else r b between a shut which op code first second q head body other else' text line spells inner e last) s =
      of_if r count which op code first second next head (body ++ else' ∷ other) text line spells (
        first,
        next,
        second ∷ next ∷ behind,
        refl,
        record {
          first = body;
          more = else' ∷ (other ++ more);
          after = between;
          closed = true;
          whole = append_assoc body (else' ∷ other) more;
          statement = inner;
          behind = (next, second, behind, refl, inr (refl, (else', other ++ more, refl, e, record { first = other; more = more; after = after; closed = closed; whole = refl; statement = last; behind = s })));
        },
      )
  statement_opens room count after closed plan next list (do_end r b a p q do' end inner lead block ends) s = inr (inr (record {
    first = do';
    more = (inner ++ end ∷ []) ++ more;
    inner = r;
    whole = refl;
    lead = lead;
    room_is = refl;
    rest = (
      plan,
      next,
      behind,
      refl,
      refl,
      record { inner = inner; end = end; more = more; after = after; whole = append_assoc inner (end ∷ []) more; may = tt; block = block; ends = ends; behind = s },
    );
  }))

pub opens : (limited : Bool) (room : ℕ) (open' : List Frame) (count : ℕ) (plans : List Plan) (list : List Placed) → StatementRest limited room open' count plans list
    → Opens limited room open' count plans list
opens limited room open' count plans list (plan, next, behind, e, s) =
    subst (λ (l : List Placed). Opens limited room open' count plans l) (sym s.whole)
    (subst (λ (p : List Plan). Opens limited room open' count p (s.first ++ s.more)) (sym e)
    (statement_opens limited open' behind s.more room count s.after s.closed plan next s.first s.statement s.behind))

-- ---- what opens so is a statement

module _ (limited : Bool) (open' : List Frame) (count : ℕ) where
  pub whole_command : (room : ℕ) (plans : List Plan) (list : List Placed) → OpensCommand limited room open' count plans list → StatementRest limited room open' count plans list
  whole_command room plans list o =
      let some = rest_some limited room open' true (count + 1) o.behind o.more o.rest in (
        Run (record { number = count + 1; command = o.said }) some.0,
        some.0,
        some.1,
        o.runs ∙ ap (plans_at (steps.Run (record { number = count + 1; command = o.said }))) some.2,
        record {
          first = o.first ∷ o.text;
          more = o.more;
          after = count + 1;
          closed = true;
          whole = o.whole;
          statement = command room count o.said some.0 (o.first ∷ o.text) (o.verb, o.first, o.text, refl, o.lead, o.line, o.spells);
          behind = subst (λ (p : List Plan). Rest limited room open' true (count + 1) p o.more) some.2 o.rest;
        },
      )

  pub whole_set : (room : ℕ) (plans : List Plan) (list : List Placed) → OpensSet limited room open' count plans list → StatementRest limited room open' count plans list
  whole_set room plans list o =
      let some = rest_some limited room open' true count o.behind o.more o.rest in (
        Set o.which o.code some.0,
        some.0,
        some.1,
        o.runs ∙ ap (plans_at (steps.Set o.which o.code)) some.2,
        record {
          first = o.first ∷ o.text;
          more = o.more;
          after = count;
          closed = true;
          whole = o.whole;
          statement = set room count o.which o.code some.0 (o.first ∷ o.text) (tokens_of (o.first ∷ o.text)) (o.line, refl) o.spells;
          behind = subst (λ (p : List Plan). Rest limited room open' true count p o.more) some.2 o.rest;
        },
      )

  pub whole_do : (inner : ℕ) (plans : List Plan) (first : Placed) (more : List Placed) → IsLead leads.Do first → BlockRest limited inner (frames.Do ∷ open') count plans more
      → StatementRest limited (suc inner) open' count plans (first ∷ more)
  whole_do inner plans first more lead (plan, next, behind, e, same, b) = (
    plan,
    next,
    behind,
    e,
    record {
      first = first ∷ (b.inner ++ b.end ∷ []);
      more = b.more;
      after = b.after;
      closed = true;
      whole = ap (λ (l : List Placed). first ∷ l) (b.whole ∙ sym (append_assoc b.inner (b.end ∷ []) b.more));
      statement = do_end inner count b.after plan next first b.end b.inner lead b.block b.ends;
      behind = b.behind;
    },
  )

  -- an IF without ELSE, or with one
  module _ (inner : ℕ) (which : Which) (op : Op) (code : ℕ) (first : Placed) (text : List Placed) (line : StartNone text) (spells : IsIf which op code (tokens_of (first ∷ text))) where
    if_parts : (plan next : Plan) (behind : List Plan) (list : List Placed) (s : IsStatementAnd limited inner count plan next (λ closed after more. Rest limited inner (frames.Then ∷ open') closed after (next ∷ behind) more) list)
        → StatementRest limited (suc inner) open' count (plans_at (steps.If which op code) (plan ∷ behind)) (first ∷ (text ++ list))
    if_parts plan next behind list s = by_rest s.behind
      where
        put : (tail : List Placed) → list ≡ s.first ++ tail → first ∷ (text ++ list) ≡ ((first ∷ text) ++ s.first) ++ tail
        put tail e = ap (λ (l : List Placed). first ∷ (text ++ l)) e ∙ ap (λ (l : List Placed). first ∷ l) (sym (append_assoc text s.first tail))

        by_rest : Rest limited inner (frames.Then ∷ open') s.closed s.after (next ∷ behind) s.more
            → StatementRest limited (suc inner) open' count (plans_at (steps.If which op code) (plan ∷ behind)) (first ∷ (text ++ list))
        by_rest (q, other, tail, e, inl (same, r)) =
            let here : next ≡ q = cc in
            let there : behind ≡ other ∷ q ∷ tail = cc in (
              Choose which op code plan q,
              q,
              tail,
              ap (λ (b : List Plan). plans_at (steps.If which op code) (plan ∷ b)) (there ∙ ap (λ (o : Plan). o ∷ q ∷ tail) same),
              record {
                first = (first ∷ text) ++ s.first;
                more = s.more;
                after = s.after;
                closed = false;
                whole = put s.more s.whole;
                statement = if_alone inner count s.after s.closed which op code plan q (first ∷ text) s.first (tokens_of (first ∷ text)) (line, refl) spells
                    (subst (λ (n : Plan). IsStatement limited inner count s.after s.closed plan n s.first) here s.statement);
                behind = r;
              },
            )
        by_rest (q, other, tail, e, inr (shut, (else', more, whole, is, o))) =
            let here : next ≡ q = cc in
            let there : behind ≡ other ∷ q ∷ tail = cc in
            let body : IsStatement limited inner count s.after true plan q s.first =
            subst (λ (c : Bool). IsStatement limited inner count s.after c plan q s.first) shut
            (subst (λ (n : Plan). IsStatement limited inner count s.after s.closed plan n s.first) here s.statement) in (
              Choose which op code plan other,
              q,
              tail,
              ap (λ (b : List Plan). plans_at (steps.If which op code) (plan ∷ b)) there,
              record {
                first = (first ∷ text) ++ (s.first ++ else' ∷ o.first);
                more = o.more;
                after = o.after;
                closed = o.closed;
                whole = ap (λ (l : List Placed). first ∷ (text ++ l))
                    (s.whole ∙ ap (λ (l : List Placed). s.first ++ l) (whole ∙ ap (λ (l : List Placed). else' ∷ l) o.whole) ∙ sym (append_assoc s.first (else' ∷ o.first) o.more))
                    ∙ ap (λ (l : List Placed). first ∷ l) (sym (append_assoc text (s.first ++ else' ∷ o.first) o.more));
                statement = if_else inner count s.after o.after o.closed which op code plan other q (first ∷ text) s.first o.first else' (tokens_of (first ∷ text)) (line, refl) spells body is o.statement;
                behind = o.behind;
              },
            )

    pub whole_if : (plans : List Plan) (list : List Placed) → StatementRest limited inner (frames.Then ∷ open') count plans list
        → StatementRest limited (suc inner) open' count (plans_at (steps.If which op code) plans) (first ∷ (text ++ list))
    whole_if plans list (plan, next, behind, e, s) =
        subst (λ (p : List Plan). StatementRest limited (suc inner) open' count (plans_at (steps.If which op code) p) (first ∷ (text ++ list))) (sym e) (if_parts plan next behind list s)
