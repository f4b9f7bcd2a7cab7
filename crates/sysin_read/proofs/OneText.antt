-- Tokens spell one text at most.
use Rattle.std.proofs.Common.{◌≡◌, ◌⊎◌, inl, inr, ℕ, zero, suc, ◌+◌, ◌≤◌, List, [], ◌∷◌, ◌++◌, length, refl, sym, ap, subst, ◌∙◌, true, arith, length-append}
use Rattle.by_rules.specs.declared.criterion.Op.{Op}
use Rattle.sysin_text.specs.declared.token.Placed.{Placed}
use Rattle.sysin_words.specs.declared.code.Which.{Which}
use Rattle.sysin_words.specs.declared.lead.Verb.{Verb}
use Rattle.sysin_lang.specs.declared.command.Command.{Command}
use Rattle.sysin_lang.specs.declared.script.Step.TheVariants as steps
use Rattle.sysin_lang.specs.Flow.{Plan, Done}
use Rattle.sysin_lang.specs.Script.{plans_at}
use Rattle.sysin_heads.specs.declared.head.Head.TheVariants as heads
use Rattle.sysin_heads.specs.Head.{IsSet, IsIf}
use Rattle.sysin_commands.specs.Command.{IsCommand}
use Rattle.sysin_commands.proofs.Making.{one}
use Rattle.sysin_read.specs.declared.outline.Frame.{Frame}
use Rattle.sysin_read.specs.declared.outline.Frame.TheVariants as frames
use Rattle.sysin_read.specs.Statement.{most_nested, tokens_of, IsElse, IsEnd}
use Rattle.sysin_read.specs.Rest.{plans_before, Rest, StatementRest, BlockRest}
use Rattle.sysin_read.specs.Why.{around}
use Rattle.sysin_read.specs.Progress.{closing, closing_to_else}
use Rattle.sysin_read.specs.Laws.{TextsAreOne}
use Rattle.sysin_read.proofs.Around.{around_do}
use Rattle.sysin_read.proofs.Opening.{OpensCommand, OpensSet, OpensIf, OpensDo}
use Rattle.sysin_read.proofs.Blocks.{statement_leads, top_cases}
use Rattle.sysin_read.proofs.Ending.{no_else_here, no_else_at_end, room_around, room_of_else, closes, other, ends_no_top, ends_block, ends_do, starts_block, starts_here, end_around, no_more}
use Rattle.sysin_read.proofs.Lines.{else_or_not, end_or_not, rest_enders, same_line, same_head}
use Rattle.sysin_read.proofs.Moving.{opens_by, opens_command, opens_set, opens_if, opens_do}

-- of all lists of at most this length one thing is told
abbrev StatesAreOne : ℕ → Type 0
StatesAreOne most =
    (room : ℕ) (open' : List Frame) (count : ℕ) (left right : List Plan) (list : List Placed) → length list ≤ most → StatementRest true room open' count left list
    → StatementRest true room open' count right list → left ≡ right

-- the same of what may stand in these tokens
abbrev Deeper : ℕ → List Placed → Type 0
Deeper most rest =
    (room : ℕ) (outer : List Frame) (count : ℕ) (a b : List Plan) → length rest ≤ most → Rest true room outer true count a rest → Rest true room outer true count b rest → a ≡ b

shorter : (first : Placed) (rest : List Placed) (most : ℕ) → length (first ∷ rest) ≤ most → length rest ≤ most
shorter first rest most few = let goal : length rest ≤ most = omega (arith, few) in goal

module _ (most : ℕ) (states : StatesAreOne most) where
  mutual_rest : (list : List Placed) (room : ℕ) (open' : List Frame) (count : ℕ) (left right : List Plan) → length list ≤ most → Rest true room open' true count left list
      → Rest true room open' true count right list → left ≡ right
  mutual_rest [] room open' count left right few l r =
      let a = closes true count [] no_else_at_end room open' true left l in
      let b = closes true count [] no_else_at_end room open' true right r in
      let ea = (end_around true count (room_around room open') open' true a.0 a.2).1 in
      let eb = (end_around true count (room_around room open') open' true b.0 b.2).1 in
      a.1 ∙ ap (plans_before (closing open')) (ea ∙ sym eb) ∙ sym b.1
  mutual_rest (first ∷ rest) room open' count left right few l r =
      by_else (λ room' outer count' a b short x y. mutual_rest rest room' outer count' a b short x y) (else_or_not first)
    where
      by_around : (deeper : Deeper most rest) (around' : List Frame) → around open' ≡ around' → IsEnd first → (a b : List Plan) → Rest true (room_around room open') (around open') true count a (first ∷ rest)
          → Rest true (room_around room open') (around open') true count b (first ∷ rest) → a ≡ b
      by_around deeper [] e ends a b x y = absurd (ends_no_top true count first rest (room_around room open') true a ends
          (subst (λ (o : List Frame). Rest true (room_around room open') o true count a (first ∷ rest)) e x))
      by_around deeper (frame ∷ outer) e ends a b x y =
          let is = around_do open' frame outer e in
          let here : around open' ≡ frames.Do ∷ outer = e ∙ ap (λ (f : Frame). f ∷ outer) is in
          deeper (suc (room_around room open')) outer count a b (shorter first rest most few)
          (ends_do true count first rest (room_around room open') outer true a ends (subst (λ (o : List Frame). Rest true (room_around room open') o true count a (first ∷ rest)) here x))
          (ends_do true count first rest (room_around room open') outer true b ends (subst (λ (o : List Frame). Rest true (room_around room open') o true count b (first ∷ rest)) here y))

      by_end : (deeper : Deeper most rest) → (¬ IsElse first) → IsEnd first ⊎ (¬ IsEnd first) → left ≡ right
      by_end deeper n (inl ends) =
          let a = closes true count (first ∷ rest) (no_else_here first rest n) room open' true left l in
          let b = closes true count (first ∷ rest) (no_else_here first rest n) room open' true right r in
          a.1 ∙ ap (plans_before (closing open')) (by_around deeper (around open') refl ends a.0 b.0 a.2 b.2) ∙ sym b.1
      by_end deeper n (inr no_end) =
          let a = closes true count (first ∷ rest) (no_else_here first rest n) room open' true left l in
          let b = closes true count (first ∷ rest) (no_else_here first rest n) room open' true right r in
          a.1 ∙ ap (plans_before (closing open'))
          (states (room_around room open') (around open') count a.0 b.0 (first ∷ rest) few (starts_here true count first rest (room_around room open') open' true a.0 no_end a.2)
          (starts_here true count first rest (room_around room open') open' true b.0 no_end b.2)) ∙ sym b.1

      by_else : (deeper : Deeper most rest) → IsElse first ⊎ (¬ IsElse first) → left ≡ right
      by_else deeper (inl is) =
          let a = other true count first rest is room open' left l in
          let b = other true count first rest is room open' right r in
          a.2 ∙ ap (plans_before (closing_to_else open')) (states (room_of_else room open') (frames.Else ∷ Rattle.sysin_read.specs.Progress.behind_then open') count a.0 b.0 rest (shorter first rest most few) a.3 b.3) ∙ sym b.2
      by_else deeper (inr n) = by_end deeper n (end_or_not first)

  blocks : (list : List Placed) (room : ℕ) (outer : List Frame) (count : ℕ) (left right : List Plan) → length list ≤ most → BlockRest true room (frames.Do ∷ outer) count left list
      → BlockRest true room (frames.Do ∷ outer) count right list → left ≡ right
  blocks [] room outer count left right few (p, n, t, e, s, b) r = absurd (no_more b.inner b.end b.more b.whole)
  blocks (first ∷ rest) room outer count left right few (p, n, t, e, s, b) (p', n', t', e', s', b') = by_end (end_or_not first)
    where
      by_end : IsEnd first ⊎ (¬ IsEnd first) → left ≡ right
      by_end (inl ends) = e ∙ mutual_rest rest (suc room) outer count (p ∷ t) (p' ∷ t') (shorter first rest most few)
          (ends_block true count first rest (λ l. Unit {0}) room outer p n t ends b) (ends_block true count first rest (λ l. Unit {0}) room outer p' n' t' ends b') ∙ sym e'
      by_end (inr no_end) = e ∙ states room (frames.Do ∷ outer) count (p ∷ t) (p' ∷ t') (first ∷ rest) few
          (starts_block true count first rest (λ l. Unit {0}) room outer p n t no_end b) (starts_block true count first rest (λ l. Unit {0}) room outer p' n' t' no_end b') ∙ sym e'

  -- a part behind the first token is shorter
  part_short : (first : Placed) (rest text more : List Placed) → length (first ∷ rest) ≤ suc most → rest ≡ text ++ more → length more ≤ most
  part_short first rest text more few e =
      let sizes : length rest ≡ length (text ++ more) = ap length e in
      let sum : length (text ++ more) ≡ length text + length more = length-append text more in
      let goal : length more ≤ most = omega (arith, few, sizes, sum) in
      goal

  module _ (room : ℕ) (open' : List Frame) (count : ℕ) (left right : List Plan) (first : Placed) (rest : List Placed) (few : length (first ∷ rest) ≤ suc most) where
    one_command : (o : OpensCommand true room open' count left (first ∷ rest)) (v : OpensCommand true room open' count right (first ∷ rest)) → v.verb ≡ o.verb → left ≡ right
    one_command o v verbs =
        let w = o.whole in
        let x = v.whole in
        let mine : rest ≡ o.text ++ o.more = cc in
        let theirs : rest ≡ v.text ++ v.more = cc in
        let said = subst (λ (u : Verb). IsCommand u true v.said (tokens_of v.text)) verbs v.spells in
        let same = same_line o.verb true o.said v.said o.text v.text o.more v.more o.line v.line o.spells said (sym mine ∙ theirs)
        (rest_enders true room open' true (count + 1) o.behind o.more o.rest) (rest_enders true room open' true (count + 1) v.behind v.more v.rest) in
        let commands : o.said ≡ v.said = one o.verb o.said v.said (tokens_of o.text) o.spells (subst (λ (l : List Placed). IsCommand o.verb true v.said (tokens_of l)) same.0 said) in
        let plans = mutual_rest o.more room open' (count + 1) o.behind v.behind (part_short first rest o.text o.more few mine) o.rest
        (subst (λ (l : List Placed). Rest true room open' true (count + 1) v.behind l) same.1 v.rest) in
        o.runs ∙ ap (λ (c : Command). plans_at (steps.Run (record { number = count + 1; command = c })) o.behind) commands
        ∙ ap (plans_at (steps.Run (record { number = count + 1; command = v.said }))) plans ∙ sym v.runs

    one_set : (o : OpensSet true room open' count left (first ∷ rest)) (v : OpensSet true room open' count right (first ∷ rest)) → left ≡ right
    one_set o v =
        let w = o.whole in
        let x = v.whole in
        let mine : rest ≡ o.text ++ o.more = cc in
        let theirs : rest ≡ v.text ++ v.more = cc in
        let a : o.first ≡ first = cc in
        let b : v.first ≡ first = cc in
        let same = same_head true true (heads.Set o.which o.code) (heads.Set v.which v.code) first o.text v.text o.more v.more
        (subst (λ (p : Placed). IsSet o.which o.code (p.token ∷ tokens_of o.text)) a o.spells) (subst (λ (p : Placed). IsSet v.which v.code (p.token ∷ tokens_of v.text)) b v.spells) (sym mine ∙ theirs) in
        let both = same.2 in
        let which : o.which ≡ v.which = cc in
        let code : o.code ≡ v.code = cc in
        let plans = mutual_rest o.more room open' count o.behind v.behind (part_short first rest o.text o.more few mine) o.rest
        (subst (λ (l : List Placed). Rest true room open' true count v.behind l) same.1 v.rest) in
        o.runs ∙ ap (λ (y : Which). plans_at (steps.Set y o.code) o.behind) which ∙ ap (λ (y : ℕ). plans_at (steps.Set v.which y) o.behind) code
        ∙ ap (plans_at (steps.Set v.which v.code)) plans ∙ sym v.runs

    one_if : (o : OpensIf true room open' count left (first ∷ rest)) (v : OpensIf true room open' count right (first ∷ rest)) → left ≡ right
    one_if o v =
        let w = o.whole in
        let x = v.whole in
        let mine : rest ≡ o.text ++ o.more = cc in
        let theirs : rest ≡ v.text ++ v.more = cc in
        let a : o.first ≡ first = cc in
        let b : v.first ≡ first = cc in
        let same = same_head true true (heads.If o.which o.op o.code) (heads.If v.which v.op v.code) first o.text v.text o.more v.more
        (subst (λ (p : Placed). IsIf o.which o.op o.code (p.token ∷ tokens_of o.text)) a o.spells) (subst (λ (p : Placed). IsIf v.which v.op v.code (p.token ∷ tokens_of v.text)) b v.spells)
        (sym mine ∙ theirs) in
        let both = same.2 in
        let which : o.which ≡ v.which = cc in
        let op : o.op ≡ v.op = cc in
        let code : o.code ≡ v.code = cc in
        let room_o = o.room_is in
        let room_v = v.room_is in
        let rooms : v.inner ≡ o.inner = omega (arith, room_o, room_v) in
        let plans = states o.inner (frames.Then ∷ open') count o.behind v.behind o.more (part_short first rest o.text o.more few mine) o.rest
        (subst (λ (n : ℕ). StatementRest true n (frames.Then ∷ open') count v.behind o.more) rooms (subst (λ (l : List Placed). StatementRest true v.inner (frames.Then ∷ open') count v.behind l) same.1 v.rest)) in
        o.runs ∙ ap (λ (y : Which). plans_at (steps.If y o.op o.code) o.behind) which ∙ ap (λ (y : Op). plans_at (steps.If v.which y o.code) o.behind) op
        ∙ ap (λ (y : ℕ). plans_at (steps.If v.which v.op y) o.behind) code ∙ ap (plans_at (steps.If v.which v.op v.code)) plans ∙ sym v.runs

    one_do : (o : OpensDo true room open' count left (first ∷ rest)) (v : OpensDo true room open' count right (first ∷ rest)) → left ≡ right
    one_do o v =
        let w = o.whole in
        let x = v.whole in
        let mine : o.more ≡ rest = cc in
        let theirs : v.more ≡ rest = cc in
        let room_o = o.room_is in
        let room_v = v.room_is in
        let rooms : v.inner ≡ o.inner = omega (arith, room_o, room_v) in
        let short : length rest ≤ most = omega (arith, few) in
        blocks rest o.inner open' count left right short (subst (λ (l : List Placed). BlockRest true o.inner (frames.Do ∷ open') count left l) mine o.rest)
        (subst (λ (n : ℕ). BlockRest true n (frames.Do ∷ open') count right rest) rooms (subst (λ (l : List Placed). BlockRest true v.inner (frames.Do ∷ open') count right l) theirs v.rest))

    one_state : StatementRest true room open' count left (first ∷ rest) → StatementRest true room open' count right (first ∷ rest) → left ≡ right
    one_state l r = elim (opens_by true room open' count left first rest l) as (λ _. left ≡ right) [
      | inl o ↦ let v = opens_command true room open' count right first rest r o.0.verb o.1 in one_command o.0 v.0 v.1
      | inr x ↦ elim x as (λ _. left ≡ right) [
        | inl o ↦ one_set o.0 (opens_set true room open' count right first rest r o.1)
        | inr y ↦ elim y as (λ _. left ≡ right) [
          | inl o ↦ one_if o.0 (opens_if true room open' count right first rest r o.1)
          | inr o ↦ one_do o.0 (opens_do true room open' count right first rest r o.1)
        ]
      ]
    ]

no_state : (room : ℕ) (open' : List Frame) (count : ℕ) (plans : List Plan) → StatementRest true room open' count plans [] → ⊥
no_state room open' count plans s =
    let l = statement_leads true room open' count plans [] s in
    let w : [] ≡ l.first ∷ l.rest = l.whole in
    cc

states_are_one : (most : ℕ) → StatesAreOne most
states_are_one zero room open' count left right [] few l r = absurd (no_state room open' count left l)
states_are_one zero room open' count left right (first ∷ rest) few l r = absurd (omega (arith, few))
states_are_one (suc most) room open' count left right [] few l r = absurd (no_state room open' count left l)
states_are_one (suc most) room open' count left right (first ∷ rest) few l r = one_state most (states_are_one most) room open' count left right first rest few l r

by_first : (left right : Plan) (list : List Placed) → ((list ≡ []) × (left ≡ Done) × (0 ≤ 999)) ⊎ StatementRest true most_nested [] 0 (left ∷ []) list
    → ((list ≡ []) × (right ≡ Done) × (0 ≤ 999)) ⊎ StatementRest true most_nested [] 0 (right ∷ []) list → left ≡ right
by_first left right list (inl a) (inl b) = a.1 ∙ sym b.1
by_first left right list (inl a) (inr s) = absurd (no_state most_nested [] 0 (right ∷ []) (subst (λ (l : List Placed). StatementRest true most_nested [] 0 (right ∷ []) l) a.0 s))
by_first left right list (inr s) (inl b) = absurd (no_state most_nested [] 0 (left ∷ []) (subst (λ (l : List Placed). StatementRest true most_nested [] 0 (left ∷ []) l) b.0 s))
by_first left right list (inr s) (inr t) =
    let plans : left ∷ [] ≡ right ∷ [] = states_are_one (length list) most_nested [] 0 (left ∷ []) (right ∷ []) list (omega arith) s t in
    cc

pub one_text : TextsAreOne
one_text left right list l r = by_first left right list (top_cases true most_nested 0 l.count left list l.block l.few) (top_cases true most_nested 0 r.count right list r.block r.few)
