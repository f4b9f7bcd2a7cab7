-- What is read goes on to a text.
use Rattle.std.proofs.Common.{◌≡◌, inl, inr, ℕ, zero, suc, ◌+◌, ◌<◌, ◌≤◌, List, [], ◌∷◌, ◌++◌, refl, sym, ap, subst, ◌∙◌, Bool, true, false, append_assoc, arith}
use Rattle.std.specs.Prelude.{codes}
use Rattle.std.proofs.lemmas.List.{map-append}
use Rattle.std.proofs.lemmas.List.Elements.{All-nil, All-cons, All-append, All-head, All-tail}
use Rattle.sysin_text.specs.declared.token.Token.{Token}
use Rattle.sysin_text.specs.declared.token.Token.TheVariants as tokens
use Rattle.sysin_text.specs.declared.token.Placed.{Placed}
use Rattle.sysin_words.specs.declared.code.Which.TheVariants as whiches
use Rattle.sysin_words.specs.declared.lead.Lead.TheVariants as leads
use Rattle.sysin_lang.specs.declared.script.Step.{Step}
use Rattle.sysin_lang.specs.declared.script.Step.TheVariants as steps
use Rattle.sysin_lang.specs.Flow.{Plan, Done}
use Rattle.sysin_lang.specs.Script.{first_plan, plans_at}
use Rattle.sysin_values.specs.Begun.{CanGoOn as GoesTo, Begin as Begins}
use Rattle.sysin_heads.specs.declared.head.Head.TheVariants as heads
use Rattle.sysin_heads.specs.Head.{IsHead}
use Rattle.sysin_heads.proofs.Exactness as head_laws
use Rattle.sysin_commands.specs.declared.command.CommandReading.{CommandReading}
use Rattle.sysin_commands.specs.Command.{IsCommand}
use Rattle.sysin_commands.proofs.Commands as command_laws
use Rattle.sysin_read.specs.declared.outline.Frame.{Frame}
use Rattle.sysin_read.specs.declared.outline.Frame.TheVariants as frames
use Rattle.sysin_read.specs.declared.outline.Outline.{Outline}
use Rattle.sysin_read.specs.declared.text.TextPlace.{TextPlace}
use Rattle.sysin_read.specs.declared.text.TextPlace.TheVariants as places
use Rattle.sysin_read.specs.declared.text.TextReading.{TextReading}
use Rattle.sysin_read.specs.Statement.{most_nested, most_commands, tokens_of, StartNone, IsLead, IsEnd, IsText, none}
use Rattle.sysin_read.specs.Rest.{plans_before, Rest, StatementRest, BlockRest}
use Rattle.sysin_read.specs.Reading.{open_in, IsWithin, GoesOn, IsBegun, HasRoom, ReadsAt, TextReads}
use Rattle.sysin_read.specs.Refusal.{CanGoOn, Begin}
use Rattle.sysin_read.proofs.Opening.{rest_some, whole_command, whole_set, whole_if}
use Rattle.sysin_read.proofs.Blocks.{end_block, end_rest, end_of_top, if_leads}
use Rattle.sysin_read.proofs.Lines.{loosen_head}
use Rattle.sysin_read.proofs.Moving.{May, MayRest, MayState, MayBlock}

-- ---- something may stand everywhere

end_token : Placed
end_token = record { token = tokens.Word (codes "END"); line = 1; column = 1; starts = true }

end_is : IsEnd end_token
unfolding end_token
end_is = (codes "END", refl, refl)

pub some_rest : (room : ℕ) (open' : List Frame) (closed : Bool) (count : ℕ) → count ≤ most_commands → (limited : Bool)
    → (plans : List Plan) × (list : List Placed) × Rest limited room open' closed count plans list
some_rest room [] closed count few limited = (Done ∷ [], [], end_of_top limited room closed count few)
some_rest room (frames.Then ∷ outer) closed count few limited =
    let m = some_rest (suc room) outer false count few limited in
    let some = rest_some limited (suc room) outer false count m.0 m.1 m.2 in (
      some.0 ∷ some.0 ∷ some.0 ∷ some.1,
      m.1,
      (some.0, some.0, some.1, refl, inl (refl, subst (λ (p : List Plan). Rest limited (suc room) outer false count p m.1) some.2 m.2)),
    )
some_rest room (frames.Else ∷ outer) closed count few limited =
    let m = some_rest (suc room) outer closed count few limited in
    let some = rest_some limited (suc room) outer closed count m.0 m.1 m.2 in
    (some.0 ∷ some.0 ∷ some.1, m.1, (some.0, some.1, refl, subst (λ (p : List Plan). Rest limited (suc room) outer closed count p m.1) some.2 m.2))
some_rest room (frames.Do ∷ outer) closed count few limited =
    let m = some_rest (suc room) outer true count few limited in
    (m.0, end_token ∷ m.1, end_rest limited room outer closed count m.0 end_token m.1 end_is m.2)

here : Token → Placed
here token = record { token = token; line = 1; column = 1; starts = false }

here_starts : (token : Token) → (here token).starts ≡ false
unfolding here
here_starts token = refl

here_token : (token : Token) → (here token).token ≡ token
unfolding here
here_token token = refl

pub placed_of : List Token → List Placed
placed_of [] = []
placed_of (token ∷ rest) = here token ∷ placed_of rest

placed_tokens : (text : List Token) → tokens_of (placed_of text) ≡ text
unfolding placed_of
placed_tokens [] = refl
placed_tokens (token ∷ rest) = ap (λ (t : Token). t ∷ tokens_of (placed_of rest)) (here_token token) ∙ ap (λ (l : List Token). token ∷ l) (placed_tokens rest)

placed_line : (text : List Token) → StartNone (placed_of text)
unfolding placed_of
placed_line [] = All-nil (λ (p : Placed). p.starts ≡ false)
placed_line (token ∷ rest) = All-cons (λ (p : Placed). p.starts ≡ false) (here token) (placed_of rest) (here_starts token) (placed_line rest)

pub with_placed : (list : List Placed) (text : List Token) → tokens_of (list ++ placed_of text) ≡ tokens_of list ++ text
with_placed list text = map-append (λ (p : Placed). p.token) list (placed_of text) ∙ ap (λ (t : List Token). tokens_of list ++ t) (placed_tokens text)

set_text : List Token
set_text = tokens.Word (codes "LASTCC") ∷ tokens.Equal ∷ tokens.Word (codes "0") ∷ []

pub some_state : (room : ℕ) (open' : List Frame) (count : ℕ) → count ≤ most_commands → (limited : Bool)
    → (plans : List Plan) × (list : List Placed) × StatementRest limited room open' count plans list
unfolding set_text
some_state room open' count few limited =
    let m = some_rest room open' true count few limited in
    let first = here (tokens.Word (codes "SET")) in
    let text = placed_of set_text in (
      plans_at (steps.Set whiches.Last 0) m.0,
      first ∷ (text ++ m.1),
      whole_set limited open' count room (plans_at (steps.Set whiches.Last 0) m.0) (first ∷ (text ++ m.1)) (record {
        which = whiches.Last;
        code = 0;
        first = first;
        text = text;
        more = m.1;
        behind = m.0;
        whole = refl;
        line = placed_line set_text;
        spells = (
          codes "SET",
          codes "LASTCC",
          codes "0",
          ap (λ (t : Token). t ∷ tokens_of text) (here_token (tokens.Word (codes "SET"))) ∙ ap (λ (l : List Token). tokens.Word (codes "SET") ∷ l) (placed_tokens set_text),
          refl,
          refl,
          refl,
        );
        runs = refl;
        rest = m.2;
      }),
    )

pub some_block : (room : ℕ) (outer : List Frame) (count : ℕ) → count ≤ most_commands → (limited : Bool)
    → (plans : List Plan) × (list : List Placed) × BlockRest limited room (frames.Do ∷ outer) count plans list
some_block room outer count few limited =
    let m = some_rest (suc room) outer true count few limited in
    (m.0, end_token ∷ m.1, end_block limited room outer count m.0 end_token m.1 end_is m.2)

-- ---- so a text goes on

pub text_at : (limited : Bool) (before : List Step) (front list : List Placed) (may : May) (plans : List Plan) → GoesOn before front may list → may limited plans list
    → (plan : Plan) × IsText limited plan (front ++ list)
text_at true before front list may plans g m = (first_plan (plans_before before plans), (g.0 (first_plan (plans_before before plans))).1 (plans, m, refl))
text_at false before front list may plans g m = g.1.1 (plans, m)

pub can_go : (limited : Bool) (before : List Step) (front list : List Placed) (may : May) (plans : List Plan) → GoesOn before front may list → may limited plans list → CanGoOn limited front
can_go limited before front list may plans g m = let t = text_at limited before front list may plans g m in (list, t.0, t.1)

-- ---- within a statement

module _ (room : ℕ) (outline : Outline) (before : List Placed) (first : Placed) (more front : List Placed) (within : IsWithin room outline) (b : IsBegun room outline before first more front) where
  -- the statement goes on with these
  put : (limited : Bool) (text : List Placed) (rest : List Token) (tail : List Placed) (plans : List Plan)
      → StatementRest limited room (open_in outline) outline.commands plans (first ∷ ((text ++ placed_of rest) ++ tail)) → CanGoOn limited (before ++ first ∷ text)
  put limited text rest tail plans state =
      let t = text_at limited outline.steps before (first ∷ ((text ++ placed_of rest) ++ tail)) (MayState room (open_in outline) outline.commands) plans (b.begins ((text ++ placed_of rest) ++ tail)) state in (
        placed_of rest ++ tail,
        t.0,
        subst (λ (l : List Placed). IsText limited t.0 l)
            (ap (λ (l : List Placed). before ++ first ∷ l) (append_assoc text (placed_of rest) tail) ∙ sym (append_assoc before (first ∷ text) (placed_of rest ++ tail))) t.1,
      )

  pub command_on : (limited : Bool) (command : CommandReading) (text : List Placed) → StartNone text → IsLead (leads.Command command.verb) first → outline.commands < most_commands
      → GoesTo (IsCommand command.verb) limited (tokens_of text) → CanGoOn limited (before ++ first ∷ text)
  command_on limited command text line lead few (rest, said, s) =
      let less : outline.commands < 999 = few in
      let now : outline.commands + 1 ≤ 999 = omega (arith, less) in
      let m = some_rest room (open_in outline) true (outline.commands + 1) now limited in
      let step = steps.Run (record { number = outline.commands + 1; command = said }) in
      put limited text rest m.1 (plans_at step m.0)
      (whole_command limited (open_in outline) outline.commands room (plans_at step m.0) (first ∷ ((text ++ placed_of rest) ++ m.1)) (record {
        verb = command.verb;
        said = said;
        first = first;
        text = text ++ placed_of rest;
        more = m.1;
        behind = m.0;
        whole = refl;
        lead = lead;
        line = All-append (λ (p : Placed). p.starts ≡ false) text (placed_of rest) line (placed_line rest);
        spells = subst (λ (t : List Token). IsCommand command.verb limited said t) (sym (with_placed text rest)) s;
        runs = refl;
        rest = m.2;
      }))

  if_on : (inner : ℕ) → room ≡ suc inner → (which : _) (op : _) (code : ℕ) (rest : List Token) → StartNone more → IsHead true (heads.If which op code) (tokens_of (first ∷ more) ++ rest)
      → CanGoOn true (before ++ first ∷ more)
  if_on inner is which op code rest line s =
      let m = some_state inner (frames.Then ∷ open_in outline) outline.commands within.1 true in
      put true more rest m.1 (plans_at (steps.If which op code) m.0)
      (subst (λ (r : ℕ). StatementRest true r (open_in outline) outline.commands (plans_at (steps.If which op code) m.0) (first ∷ ((more ++ placed_of rest) ++ m.1))) (sym is)
      (whole_if true (open_in outline) outline.commands inner which op code first (more ++ placed_of rest) (All-append (λ (p : Placed). p.starts ≡ false) more (placed_of rest) line (placed_line rest))
      (subst (λ (t : List Token). IsHead true (heads.If which op code) (first.token ∷ t)) (sym (with_placed more rest)) s) m.0 m.1 m.2))

  set_on : (which : _) (code : ℕ) (rest : List Token) → StartNone more → IsHead true (heads.Set which code) (tokens_of (first ∷ more) ++ rest) → CanGoOn true (before ++ first ∷ more)
  set_on which code rest line s =
      let m = some_rest room (open_in outline) true outline.commands within.1 true in
      put true more rest m.1 (plans_at (steps.Set which code) m.0)
      (whole_set true (open_in outline) outline.commands room (plans_at (steps.Set which code) m.0) (first ∷ ((more ++ placed_of rest) ++ m.1)) (record {
        which = which;
        code = code;
        first = first;
        text = more ++ placed_of rest;
        more = m.1;
        behind = m.0;
        whole = refl;
        line = All-append (λ (p : Placed). p.starts ≡ false) more (placed_of rest) line (placed_line rest);
        spells = subst (λ (t : List Token). IsHead true (heads.Set which code) (first.token ∷ t)) (sym (with_placed more rest)) s;
        runs = refl;
        rest = m.2;
      }))

  suc_of : (n : ℕ) → 0 < n → (m : ℕ) × (n ≡ suc m)
  suc_of zero some = absurd (omega (arith, some))
  suc_of (suc m) some = (m, refl)

  pub head_on : HasRoom room first → GoesTo IsHead true (tokens_of (first ∷ more)) → CanGoOn true (before ++ first ∷ more)
  head_on has (rest, heads.Set which code, s) = set_on which code rest b.line s
  head_on has (rest, heads.If which op code, s) =
      let inner = suc_of room (has (if_leads which op code first (tokens_of more ++ rest) s)) in if_on inner.0 inner.1 which op code rest b.line s

-- ---- the front of a command that ends with a comma

pub record IsSplit (list : List Placed) (front : List Token) (token : Token) : Type 0 where
  pub before : List Placed
  pub last : Placed
  pub whole : list ≡ before ++ last ∷ []
  pub front_is : tokens_of before ≡ front
  pub token_is : last.token ≡ token

no_tokens : (front : List Token) (token : Token) → [] ≡ front ++ token ∷ [] → ⊥
no_tokens [] token e = cc
no_tokens (x ∷ front) token e = cc

pub split : (list : List Placed) (front : List Token) (token : Token) → tokens_of list ≡ front ++ token ∷ [] → IsSplit list front token
split [] front token e = absurd (no_tokens front token e)
split (x ∷ []) [] token e = record { before = []; last = x; whole = refl; front_is = refl; token_is = cc }
split (x ∷ []) (y ∷ front) token e = let rest : [] ≡ front ++ token ∷ [] = cc in absurd (no_tokens front token rest)
split (x ∷ z ∷ list) [] token e = cc
split (x ∷ z ∷ list) (y ∷ front) token e =
    let rest : tokens_of (z ∷ list) ≡ front ++ token ∷ [] = cc in
    let same : x.token ≡ y = cc in
    let s = split (z ∷ list) front token rest in record {
      before = x ∷ s.before;
      last = s.last;
      whole = ap (λ (l : List Placed). x ∷ l) s.whole;
      front_is = ap (λ (t : Token). t ∷ tokens_of s.before) same ∙ ap (λ (l : List Token). y ∷ l) s.front_is;
      token_is = s.token_is;
    }

line_front : (list rest : List Placed) → StartNone (list ++ rest) → StartNone list
line_front [] rest line = All-nil (λ (p : Placed). p.starts ≡ false)
line_front (x ∷ list) rest line =
    All-cons (λ (p : Placed). p.starts ≡ false) x list (All-head (λ (p : Placed). p.starts ≡ false) x (list ++ rest) line) (line_front list rest (All-tail (λ (p : Placed). p.starts ≡ false) x (list ++ rest) line))

-- ---- each place

some_head : (text : List Token) → Begins IsHead text → GoesTo IsHead true text
some_head text (inl g) = g
some_head text (inr e) = let l = e.longer in (l.0, l.1, loosen_head false true l.1 (text ++ l.0) l.2)

command_right : (room : ℕ) (outline : Outline) (command : CommandReading) (before : List Placed) (first : Placed) (more front : List Placed) → IsWithin room outline
    → IsBegun room outline before first more front → IsLead (leads.Command command.verb) first → outline.commands < most_commands → Begins (IsCommand command.verb) (tokens_of more) → Begin front
command_right room outline command before first more front within b lead few (inl g) =
    inl (subst (λ (f : List Placed). CanGoOn true f) (sym b.whole) (command_on room outline before first more front within b true command more b.line lead few g))
command_right room outline command before first more front within b lead few (inr e) =
    let s = split more e.front tokens.Comma e.comma in
    let line = line_front s.before (s.last ∷ []) (subst StartNone s.whole b.line) in
    inr (record {
      front = before ++ first ∷ s.before;
      comma = s.last;
      sign = s.token_is;
      whole = b.whole ∙ ap (λ (m : List Placed). before ++ first ∷ m) s.whole ∙ sym (append_assoc before (first ∷ s.before) (s.last ∷ []));
      right = command_on room outline before first more front within b true command s.before line lead few (subst (λ (t : List Token). GoesTo (IsCommand command.verb) true t) (sym s.front_is) e.before);
      longer = subst (λ (f : List Placed). CanGoOn false f) (sym b.whole) (command_on room outline before first more front within b false command more b.line lead few e.longer);
    })

right_at : (place : TextPlace) (room : ℕ) (outline : Outline) (front : List Placed) → IsWithin room outline → ReadsAt place room outline front → Begin front
right_at places.Text room outline front within (fresh, e) =
    inl ([], Done, subst (λ (f : List Placed). IsText true Done (f ++ [])) (sym e) (record { count = 0; block = none most_nested 0 Done; few = omega arith }))
right_at places.Part room outline front within g =
    let m = some_state room (open_in outline) outline.commands within.1 true in
    inl (can_go true outline.steps front m.1 (MayState room (open_in outline) outline.commands) m.0 (g m.1) m.2)
right_at places.Ended room outline front within g =
    let m = some_rest room (open_in outline) true outline.commands within.1 true in
    inl (can_go true outline.steps front m.1 (MayRest room (open_in outline) outline.commands) m.0 (g m.1) m.2)
right_at places.Block room outline front within ((outer, e), g) =
    let m = some_block room outer outline.commands within.1 true in
    inl (can_go true outline.steps front m.1 (MayBlock room (open_in outline) outline.commands) m.0 (g m.1)
    (subst (λ (o : List Frame). BlockRest true room o outline.commands m.0 m.1) (sym e) m.2))
right_at (places.Head head) room outline front within (before, first, more, b, reads, has, n) =
    inl (subst (λ (f : List Placed). CanGoOn true f) (sym b.whole)
    (head_on room outline before first more front within b has (some_head (tokens_of (first ∷ more)) (head_laws.exact.right head (tokens_of (first ∷ more)) reads))))
right_at (places.Command command) room outline front within (before, first, more, b, lead, reads, few) =
    command_right room outline command before first more front within b lead few ((command_laws.exact command.verb).right command (tokens_of more) (refl, reads))

pub right : (reading : TextReading) (front : List Placed) → TextReads reading front → Begin front
right reading front (room, within, r) = right_at reading.place room reading.outline front within r
