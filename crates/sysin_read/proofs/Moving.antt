-- What a text goes on with, one leaf further: behind a whole command or SET, behind THEN, DO, ELSE and END, and where a statement begins.
use Rattle.std.proofs.Common.{◌≡◌, ◌⊎◌, inl, inr, ℕ, suc, ◌+◌, List, [], ◌∷◌, ◌++◌, refl, sym, ap, subst, ◌∙◌, Bool, true, false, append_assoc, arith}
use Rattle.by_rules.specs.declared.criterion.Op.{Op}
use Rattle.sysin_text.specs.declared.token.Placed.{Placed}
use Rattle.sysin_words.specs.declared.code.Which.{Which}
use Rattle.sysin_words.specs.declared.lead.Verb.{Verb}
use Rattle.sysin_words.specs.declared.lead.Lead.{Lead}
use Rattle.sysin_words.specs.declared.lead.Lead.TheVariants as leads
use Rattle.sysin_lang.specs.declared.command.Command.{Command}
use Rattle.sysin_lang.specs.declared.script.Step.{Step}
use Rattle.sysin_lang.specs.declared.script.Step.TheVariants as steps
use Rattle.sysin_lang.specs.Flow.{Plan, Done}
use Rattle.sysin_lang.specs.Script.{first_plan, plans_at}
use Rattle.sysin_heads.specs.declared.head.Head.TheVariants as heads
use Rattle.sysin_heads.specs.Head.{IsSet, IsIf}
use Rattle.sysin_commands.specs.Command.{IsCommand}
use Rattle.sysin_commands.proofs.Making.{one}
use Rattle.sysin_read.specs.declared.outline.Frame.{Frame}
use Rattle.sysin_read.specs.declared.outline.Frame.TheVariants as frames
use Rattle.sysin_read.specs.Statement.{most_nested, tokens_of, StartNone, IsLead, IsElse, IsEnd, IsText}
use Rattle.sysin_read.specs.Rest.{plans_before, Rest, StatementRest, BlockRest}
use Rattle.sysin_read.specs.Reading.{GoesOn}
use Rattle.sysin_read.specs.Why.{around, wants_else}
use Rattle.sysin_read.specs.Progress.{closing, closing_to_else, behind_then}
use Rattle.sysin_read.proofs.Opening.{Opens, OpensCommand, OpensSet, OpensIf, OpensDo, opens, whole_command, whole_set, whole_if, whole_do}
use Rattle.sysin_read.proofs.Words.{one_lead}
use Rattle.sysin_read.proofs.Blocks.{set_leads, if_leads, end_block, end_rest, block_of, top_cases, top_of}
use Rattle.sysin_read.proofs.Ending.{no_else_here, room_around, closes, reopens, room_of_else, other, with_other, ends_do, ends_block, starts_block, starts_here, may_start}
use Rattle.sysin_read.proofs.Lines.{Enders, rest_enders, same_line, same_head, loosen_command}

pub before_more : (list more : List Step) (plans : List Plan) → plans_before (list ++ more) plans ≡ plans_before list (plans_before more plans)
before_more [] more plans = refl
before_more (step ∷ list) more plans = ap (plans_at step) (before_more list more plans)

-- what may stand here, told by what may stand there
abbrev pub May : Type 1
May = Bool → List Plan → List Placed → Type 0

pub record Moves (now next : May) (list tail : List Placed) (back : List Plan → List Plan) : Type 0 where
  pub on : (limited : Bool) (plans : List Plan) → now limited plans list → (behind : List Plan) × next limited behind tail × (limited ≡ true → plans ≡ back behind)
  pub off : (limited : Bool) (behind : List Plan) → next limited behind tail → now limited (back behind) list

pub moved : (now next : May) (before after : List Step) (front further list tail : List Placed) (back : List Plan → List Plan) → further ++ tail ≡ front ++ list
    → ((plans : List Plan) → plans_before after plans ≡ plans_before before (back plans)) → Moves now next list tail back → GoesOn before front now list → GoesOn after further next tail
moved now next before after front further list tail back same law m g = (
  λ plan. (
    λ text.
        let h = (g.0 plan).0 (subst (λ (l : List Placed). IsText true plan l) same text) in
        let n = m.on true h.0 h.1 in
        (n.0, n.1, h.2 ∙ ap (λ (p : List Plan). first_plan (plans_before before p)) (n.2 refl) ∙ ap first_plan (sym (law n.0))),
    λ h. subst (λ (l : List Placed). IsText true plan l) (sym same) ((g.0 plan).1 (back h.0, m.off true h.0 h.1, h.2 ∙ ap first_plan (law h.0))),
  ),
  (
    λ text.
        let h = g.1.0 (text.0, subst (λ (l : List Placed). IsText false text.0 l) same text.1) in
        let n = m.on false h.0 h.1 in
        (n.0, n.1),
    λ h. let t = g.1.1 (back h.0, m.off false h.0 h.1) in (t.0, subst (λ (l : List Placed). IsText false t.0 l) (sym same) t.1),
  ),
)

-- ---- what may stand in places

abbrev pub MayRest : ℕ → List Frame → ℕ → May
MayRest room open' count limited plans list = Rest limited room open' true count plans list

abbrev pub MayState : ℕ → List Frame → ℕ → May
MayState room open' count limited plans list = StatementRest limited room open' count plans list

abbrev pub MayBlock : ℕ → List Frame → ℕ → May
MayBlock room open' count limited plans list = BlockRest limited room open' count plans list

-- ---- behind a leaf

pub opens_by : (limited : Bool) (room : ℕ) (open' : List Frame) (count : ℕ) (plans : List Plan) (first : Placed) (list : List Placed) → StatementRest limited room open' count plans (first ∷ list)
    → ((o : OpensCommand limited room open' count plans (first ∷ list)) × IsLead (leads.Command o.verb) first) ⊎ (((o : OpensSet limited room open' count plans (first ∷ list)) × IsLead leads.Set first)
    ⊎ (((o : OpensIf limited room open' count plans (first ∷ list)) × IsLead leads.If first) ⊎ ((o : OpensDo limited room open' count plans (first ∷ list)) × IsLead leads.Do first)))
opens_by limited room open' count plans first list s = by_kind (opens limited room open' count plans (first ∷ list) s)
  where
    here : (lead : Lead) (found : Placed) (rest : List Placed) → first ∷ list ≡ found ∷ rest → IsLead lead found → IsLead lead first
    here lead found rest e l = let same : found ≡ first = cc in subst (λ (p : Placed). IsLead lead p) same l

    by_kind : Opens limited room open' count plans (first ∷ list)
        → ((o : OpensCommand limited room open' count plans (first ∷ list)) × IsLead (leads.Command o.verb) first) ⊎ (((o : OpensSet limited room open' count plans (first ∷ list)) × IsLead leads.Set first)
        ⊎ (((o : OpensIf limited room open' count plans (first ∷ list)) × IsLead leads.If first) ⊎ ((o : OpensDo limited room open' count plans (first ∷ list)) × IsLead leads.Do first)))
    by_kind (inl (inl o)) = inl (o, here (leads.Command o.verb) o.first (o.text ++ o.more) o.whole o.lead)
    by_kind (inl (inr o)) = inr (inl (o, here leads.Set o.first (o.text ++ o.more) o.whole (set_leads o.which o.code o.first (tokens_of o.text) o.spells)))
    by_kind (inr (inl o)) = inr (inr (inl (o, here leads.If o.first (o.text ++ o.more) o.whole (if_leads o.which o.op o.code o.first (tokens_of o.text) o.spells))))
    by_kind (inr (inr o)) = inr (inr (inr (o, here leads.Do o.first o.more o.whole o.lead)))

not_both : (first : Placed) (a b : Lead) → IsLead a first → IsLead b first → (a ≡ b → ⊥) → ⊥
not_both first a b l m n = n (one_lead first a b l m)

module _ (limited : Bool) (room : ℕ) (open' : List Frame) (count : ℕ) (plans : List Plan) (first : Placed) (list : List Placed) (s : StatementRest limited room open' count plans (first ∷ list)) where
  pub opens_command : (verb : Verb) → IsLead (leads.Command verb) first → (o : OpensCommand limited room open' count plans (first ∷ list)) × (o.verb ≡ verb)
  opens_command verb lead = elim (opens_by limited room open' count plans first list s) as (λ _. (o : OpensCommand limited room open' count plans (first ∷ list)) × (o.verb ≡ verb)) [
    | inl o ↦ (o.0, let same : leads.Command o.0.verb ≡ leads.Command verb = one_lead first (leads.Command o.0.verb) (leads.Command verb) o.1 lead in cc)
    | inr b ↦ elim b as (λ _. (o : OpensCommand limited room open' count plans (first ∷ list)) × (o.verb ≡ verb)) [
      | inl o ↦ absurd (not_both first leads.Set (leads.Command verb) o.1 lead (λ e. cc))
      | inr c ↦ elim c as (λ _. (o : OpensCommand limited room open' count plans (first ∷ list)) × (o.verb ≡ verb)) [
        | inl o ↦ absurd (not_both first leads.If (leads.Command verb) o.1 lead (λ e. cc))
        | inr o ↦ absurd (not_both first leads.Do (leads.Command verb) o.1 lead (λ e. cc))
      ]
    ]
  ]

  pub opens_set : IsLead leads.Set first → OpensSet limited room open' count plans (first ∷ list)
  opens_set lead = elim (opens_by limited room open' count plans first list s) as (λ _. OpensSet limited room open' count plans (first ∷ list)) [
    | inl o ↦ absurd (not_both first (leads.Command o.0.verb) leads.Set o.1 lead (λ e. cc))
    | inr b ↦ elim b as (λ _. OpensSet limited room open' count plans (first ∷ list)) [
      | inl o ↦ o.0
      | inr c ↦ elim c as (λ _. OpensSet limited room open' count plans (first ∷ list)) [
        | inl o ↦ absurd (not_both first leads.If leads.Set o.1 lead (λ e. cc))
        | inr o ↦ absurd (not_both first leads.Do leads.Set o.1 lead (λ e. cc))
      ]
    ]
  ]

  pub opens_if : IsLead leads.If first → OpensIf limited room open' count plans (first ∷ list)
  opens_if lead = elim (opens_by limited room open' count plans first list s) as (λ _. OpensIf limited room open' count plans (first ∷ list)) [
    | inl o ↦ absurd (not_both first (leads.Command o.0.verb) leads.If o.1 lead (λ e. cc))
    | inr b ↦ elim b as (λ _. OpensIf limited room open' count plans (first ∷ list)) [
      | inl o ↦ absurd (not_both first leads.Set leads.If o.1 lead (λ e. cc))
      | inr c ↦ elim c as (λ _. OpensIf limited room open' count plans (first ∷ list)) [
        | inl o ↦ o.0
        | inr o ↦ absurd (not_both first leads.Do leads.If o.1 lead (λ e. cc))
      ]
    ]
  ]

  pub opens_do : IsLead leads.Do first → OpensDo limited room open' count plans (first ∷ list)
  opens_do lead = elim (opens_by limited room open' count plans first list s) as (λ _. OpensDo limited room open' count plans (first ∷ list)) [
    | inl o ↦ absurd (not_both first (leads.Command o.0.verb) leads.Do o.1 lead (λ e. cc))
    | inr b ↦ elim b as (λ _. OpensDo limited room open' count plans (first ∷ list)) [
      | inl o ↦ absurd (not_both first leads.Set leads.Do o.1 lead (λ e. cc))
      | inr c ↦ elim c as (λ _. OpensDo limited room open' count plans (first ∷ list)) [
        | inl o ↦ absurd (not_both first leads.If leads.Do o.1 lead (λ e. cc))
        | inr o ↦ o.0
      ]
    ]
  ]

-- a command
module _ (room : ℕ) (open' : List Frame) (count : ℕ) (first : Placed) (text list : List Placed) (verb : Verb) (said : Command) (lead : IsLead (leads.Command verb) first) (line : StartNone text)
    (spells : IsCommand verb true said (tokens_of text)) where
  abbrev RunStep : Step
  RunStep = steps.Run (record { number = count + 1; command = said })

  over_command : Enders list → Moves (MayState room open' count) (MayRest room open' (count + 1)) (first ∷ (text ++ list)) list (plans_at RunStep)
  over_command ends = record {
    on = λ limited plans s.
        let found = opens_command limited room open' count plans first (text ++ list) s verb lead in
        let o = found.0 in
        let w = o.whole in
        let tails : text ++ list ≡ o.text ++ o.more = cc in
        let theirs = subst (λ (v : Verb). IsCommand v limited o.said (tokens_of o.text)) found.1 o.spells in
        let same = same_line verb limited said o.said text o.text list o.more line o.line spells theirs tails ends (rest_enders limited room open' true (count + 1) o.behind o.more o.rest) in (
          o.behind,
          subst (λ (l : List Placed). Rest limited room open' true (count + 1) o.behind l) same.1 o.rest,
          λ is.
              let both : said ≡ o.said = one verb said o.said (tokens_of text) spells
              (subst (λ (z : List Placed). IsCommand verb true o.said (tokens_of z)) same.0 (subst (λ (b : Bool). IsCommand verb b o.said (tokens_of o.text)) is theirs)) in
              o.runs ∙ ap (λ (c : Command). plans_at (steps.Run (record { number = count + 1; command = c })) o.behind) (sym both),
        );
    off = λ limited behind r. whole_command limited open' count room (plans_at RunStep behind) (first ∷ (text ++ list)) (record {
      verb = verb;
      said = said;
      first = first;
      text = text;
      more = list;
      behind = behind;
      whole = refl;
      lead = lead;
      line = line;
      spells = loosen_command verb limited said (tokens_of text) spells;
      runs = refl;
      rest = r;
    });
  }

  pub behind_command : (before : List Step) (front : List Placed) → Enders list → GoesOn before front (MayState room open' count) (first ∷ (text ++ list))
      → GoesOn (before ++ RunStep ∷ []) (front ++ first ∷ text) (MayRest room open' (count + 1)) list
  behind_command before front ends g = moved (MayState room open' count) (MayRest room open' (count + 1)) before (before ++ RunStep ∷ []) front (front ++ first ∷ text) (first ∷ (text ++ list)) list
      (plans_at RunStep) (append_assoc front (first ∷ text) list) (before_more before (RunStep ∷ [])) (over_command ends) g

-- SET
module _ (room : ℕ) (open' : List Frame) (count : ℕ) (first : Placed) (text list : List Placed) (which : Which) (code : ℕ) (line : StartNone text)
    (spells : IsSet which code (tokens_of (first ∷ text))) where
  abbrev SetStep : Step
  SetStep = steps.Set which code

  over_set : Moves (MayState room open' count) (MayRest room open' count) (first ∷ (text ++ list)) list (plans_at SetStep)
  over_set = record {
    on = λ limited plans s.
        let o = opens_set limited room open' count plans first (text ++ list) s (set_leads which code first (tokens_of text) spells) in
        let w = o.whole in
        let tails : text ++ list ≡ o.text ++ o.more = cc in
        let heads' : o.first ≡ first = cc in
        let theirs = subst (λ (p : Placed). IsSet o.which o.code (p.token ∷ tokens_of o.text)) heads' o.spells in
        let same = same_head true true (heads.Set which code) (heads.Set o.which o.code) first text o.text list o.more spells theirs tails in (
          o.behind,
          subst (λ (l : List Placed). Rest limited room open' true count o.behind l) same.1 o.rest,
          λ is.
              let both = same.2 in
              let w' : o.which ≡ which = cc in
              let c' : o.code ≡ code = cc in
              o.runs ∙ ap (λ (x : Which). plans_at (steps.Set x o.code) o.behind) w' ∙ ap (λ (x : ℕ). plans_at (steps.Set which x) o.behind) c',
        );
    off = λ limited behind r. whole_set limited open' count room (plans_at SetStep behind) (first ∷ (text ++ list))
        (record { which = which; code = code; first = first; text = text; more = list; behind = behind; whole = refl; line = line; spells = spells; runs = refl; rest = r });
  }

  pub behind_set : (before : List Step) (front : List Placed) → GoesOn before front (MayState room open' count) (first ∷ (text ++ list))
      → GoesOn (before ++ SetStep ∷ []) (front ++ first ∷ text) (MayRest room open' count) list
  behind_set before front g = moved (MayState room open' count) (MayRest room open' count) before (before ++ SetStep ∷ []) front (front ++ first ∷ text) (first ∷ (text ++ list)) list
      (plans_at SetStep) (append_assoc front (first ∷ text) list) (before_more before (SetStep ∷ [])) over_set g

-- IF up to its THEN
module _ (inner : ℕ) (open' : List Frame) (count : ℕ) (first : Placed) (text list : List Placed) (which : Which) (op : Op) (code : ℕ) (line : StartNone text)
    (spells : IsIf which op code (tokens_of (first ∷ text))) where
  abbrev IfStep : Step
  IfStep = steps.If which op code

  over_if : Moves (MayState (suc inner) open' count) (MayState inner (frames.Then ∷ open') count) (first ∷ (text ++ list)) list (plans_at IfStep)
  over_if = record {
    on = λ limited plans s.
        let o = opens_if limited (suc inner) open' count plans first (text ++ list) s (if_leads which op code first (tokens_of text) spells) in
        let w = o.whole in
        let tails : text ++ list ≡ o.text ++ o.more = cc in
        let heads' : o.first ≡ first = cc in
        let rooms = o.room_is in
        let room_is : o.inner ≡ inner = omega (arith, rooms) in
        let theirs = subst (λ (p : Placed). IsIf o.which o.op o.code (p.token ∷ tokens_of o.text)) heads' o.spells in
        let same = same_head true true (heads.If which op code) (heads.If o.which o.op o.code) first text o.text list o.more spells theirs tails in (
          o.behind,
          subst (λ (r : ℕ). StatementRest limited r (frames.Then ∷ open') count o.behind list) room_is
              (subst (λ (l : List Placed). StatementRest limited o.inner (frames.Then ∷ open') count o.behind l) same.1 o.rest),
          λ is.
              let both = same.2 in
              let w' : o.which ≡ which = cc in
              let o' : o.op ≡ op = cc in
              let c' : o.code ≡ code = cc in
              o.runs ∙ ap (λ (x : Which). plans_at (steps.If x o.op o.code) o.behind) w' ∙ ap (λ (x : Op). plans_at (steps.If which x o.code) o.behind) o'
              ∙ ap (λ (x : ℕ). plans_at (steps.If which op x) o.behind) c',
        );
    off = λ limited behind r. whole_if limited open' count inner which op code first text line spells behind list r;
  }

  pub behind_if : (before : List Step) (front : List Placed) → GoesOn before front (MayState (suc inner) open' count) (first ∷ (text ++ list))
      → GoesOn (before ++ IfStep ∷ []) (front ++ first ∷ text) (MayState inner (frames.Then ∷ open') count) list
  behind_if before front g = moved (MayState (suc inner) open' count) (MayState inner (frames.Then ∷ open') count) before (before ++ IfStep ∷ []) front (front ++ first ∷ text)
      (first ∷ (text ++ list)) list (plans_at IfStep) (append_assoc front (first ∷ text) list) (before_more before (IfStep ∷ [])) over_if g

-- ---- DO, ELSE and END

module _ (open' : List Frame) (count : ℕ) (before : List Step) (front : List Placed) (first : Placed) (list : List Placed) where
  same_front : (front ++ first ∷ []) ++ list ≡ front ++ first ∷ list
  same_front = append_assoc front (first ∷ []) list

  pub behind_do : (inner : ℕ) → IsLead leads.Do first → GoesOn before front (MayState (suc inner) open' count) (first ∷ list)
      → GoesOn before (front ++ first ∷ []) (MayBlock inner (frames.Do ∷ open') count) list
  behind_do inner lead g = moved (MayState (suc inner) open' count) (MayBlock inner (frames.Do ∷ open') count) before before front (front ++ first ∷ []) (first ∷ list) list (λ plans. plans)
      same_front (λ plans. refl) (record {
        on = λ limited plans s.
            let o = opens_do limited (suc inner) open' count plans first list s lead in
            let w = o.whole in
            let tails : o.more ≡ list = cc in
            let rooms = o.room_is in
            let room_is : o.inner ≡ inner = omega (arith, rooms) in (
              plans,
              subst (λ (r : ℕ). BlockRest limited r (frames.Do ∷ open') count plans list) room_is (subst (λ (l : List Placed). BlockRest limited o.inner (frames.Do ∷ open') count plans l) tails o.rest),
              λ is. refl,
            );
        off = λ limited behind b. whole_do limited open' count inner behind first list lead b;
      }) g

  pub behind_else : (room : ℕ) → IsElse first → wants_else open' ≡ true → GoesOn before front (MayRest room open' count) (first ∷ list)
      → GoesOn (before ++ closing_to_else open') (front ++ first ∷ []) (MayState (room_of_else room open') (frames.Else ∷ behind_then open') count) list
  behind_else room is wanted g = moved (MayRest room open' count) (MayState (room_of_else room open') (frames.Else ∷ behind_then open') count) before (before ++ closing_to_else open') front
      (front ++ first ∷ []) (first ∷ list) list (plans_before (closing_to_else open')) same_front (before_more before (closing_to_else open')) (record {
        on = λ limited plans r. let m = other limited count first list is room open' plans r in (m.0, m.3, λ yes. m.2);
        off = λ limited behind s. with_other limited count first list is room open' behind wanted s;
      }) g

  -- where statements end or others begin, the IFs end
  pub around_it : (room : ℕ) → (¬ IsElse first) → GoesOn before front (MayRest room open' count) (first ∷ list)
      → GoesOn (before ++ closing open') front (MayRest (room_around room open') (around open') count) (first ∷ list)
  around_it room no_else g = moved (MayRest room open' count) (MayRest (room_around room open') (around open') count) before (before ++ closing open') front front (first ∷ list) (first ∷ list)
      (plans_before (closing open')) refl (before_more before (closing open')) (record {
        on = λ limited plans r. let m = closes limited count (first ∷ list) (no_else_here first list no_else) room open' true plans r in (m.0, m.2, λ yes. m.1);
        off = λ limited behind r. reopens limited count (first ∷ list) (no_else_here first list no_else) room open' behind r;
      }) g

  -- END
  pub behind_end : (inner : ℕ) → IsEnd first → GoesOn before front (MayRest inner (frames.Do ∷ open') count) (first ∷ list)
      → GoesOn before (front ++ first ∷ []) (MayRest (suc inner) open' count) list
  behind_end inner is g = moved (MayRest inner (frames.Do ∷ open') count) (MayRest (suc inner) open' count) before before front (front ++ first ∷ []) (first ∷ list) list (λ plans. plans)
      same_front (λ plans. refl) (record {
        on = λ limited plans r. (plans, ends_do limited count first list inner open' true plans is r, λ yes. refl);
        off = λ limited behind r. end_rest limited inner open' true count behind first list is r;
      }) g

  pub behind_empty : (inner : ℕ) → IsEnd first → GoesOn before front (MayBlock inner (frames.Do ∷ open') count) (first ∷ list)
      → GoesOn before (front ++ first ∷ []) (MayRest (suc inner) open' count) list
  behind_empty inner is g = moved (MayBlock inner (frames.Do ∷ open') count) (MayRest (suc inner) open' count) before before front (front ++ first ∷ []) (first ∷ list) list (λ plans. plans)
      same_front (λ plans. refl) (record {
        on = λ limited plans b.
            (plans, subst (λ (p : List Plan). Rest limited (suc inner) open' true count p list) (sym b.3) (ends_block limited count first list (λ within. Unit {0}) inner open' b.0 b.1 b.2 is b.5), λ yes. refl);
        off = λ limited behind r. end_block limited inner open' count behind first list is r;
      }) g

  -- another statement
  pub begins_block : (inner : ℕ) → (¬ IsEnd first) → GoesOn before front (MayBlock inner (frames.Do ∷ open') count) (first ∷ list)
      → GoesOn before front (MayState inner (frames.Do ∷ open') count) (first ∷ list)
  begins_block inner no_end g = moved (MayBlock inner (frames.Do ∷ open') count) (MayState inner (frames.Do ∷ open') count) before before front front (first ∷ list) (first ∷ list) (λ plans. plans)
      refl (λ plans. refl) (record {
        on = λ limited plans b. (
          plans,
          subst (λ (p : List Plan). StatementRest limited inner (frames.Do ∷ open') count p (first ∷ list)) (sym b.3)
              (starts_block limited count first list (λ within. Unit {0}) inner open' b.0 b.1 b.2 no_end b.5),
          λ yes. refl,
        );
        off = λ limited behind s. block_of limited inner open' count behind (first ∷ list) s;
      }) g

  pub begins_next : (room : ℕ) → (¬ IsEnd first) → first.starts ≡ true → GoesOn before front (MayRest room (around open') count) (first ∷ list)
      → GoesOn before front (MayState room (around open') count) (first ∷ list)
  begins_next room no_end starts g = moved (MayRest room (around open') count) (MayState room (around open') count) before before front front (first ∷ list) (first ∷ list) (λ plans. plans)
      refl (λ plans. refl) (record {
        on = λ limited plans r. (plans, starts_here limited count first list room open' true plans no_end r, λ yes. refl);
        off = λ limited behind s. may_start limited count first list room open' behind starts s;
      }) g

-- ---- at the start of the text

pub begins_text : (first : Placed) (list : List Placed) → GoesOn [] [] (MayState most_nested [] 0) (first ∷ list)
begins_text first list = (
  λ plan. (
    λ text. elim (top_cases true most_nested 0 text.count plan (first ∷ list) text.block text.few)
        as (λ _. (plans : List Plan) × StatementRest true most_nested [] 0 plans (first ∷ list) × (plan ≡ first_plan plans)) [
          | inl e ↦ let empty : first ∷ list ≡ [] = e.0 in cc
          | inr s ↦ (plan ∷ [], s, refl)
        ],
    λ h. let t = top_of true most_nested 0 h.0 (first ∷ list) h.1 in
        let same : t.0 ≡ plan = sym (h.2 ∙ ap first_plan t.2) in
        record { count = t.1; block = subst (λ (p : Plan). Rattle.sysin_read.specs.Statement.IsBlock true most_nested 0 t.1 p Done (first ∷ list)) same t.3; few = t.4 },
  ),
  (
    λ text. elim (top_cases false most_nested 0 text.1.count text.0 (first ∷ list) text.1.block text.1.few)
        as (λ _. (plans : List Plan) × StatementRest false most_nested [] 0 plans (first ∷ list)) [
          | inl e ↦ let empty : first ∷ list ≡ [] = e.0 in cc
          | inr s ↦ (text.0 ∷ [], s)
        ],
    λ h. let t = top_of false most_nested 0 h.0 (first ∷ list) h.1 in (t.0, record { count = t.1; block = t.3; few = t.4 }),
  ),
)
