-- A token that is refused is wrong.
use Rattle.std.proofs.Common.{◌≡◌, ◌⊎◌, inl, inr, ℕ, ◌+◌, ◌≤◌, List, [], ◌∷◌, ◌++◌, length, refl, sym, ap, subst, ◌∙◌, Bool, true, false, append_assoc, append-nil, arith}
use Rattle.sysin_text.specs.declared.token.Token.{Token}
use Rattle.sysin_text.specs.declared.token.Token.TheVariants as tokens
use Rattle.sysin_text.specs.declared.token.Placed.{Placed}
use Rattle.sysin_words.specs.declared.lead.Verb.{Verb}
use Rattle.sysin_words.specs.declared.lead.Lead.TheVariants as leads
use Rattle.sysin_lang.specs.declared.command.Command.{Command}
use Rattle.sysin_lang.specs.declared.script.Step.{Step}
use Rattle.sysin_lang.specs.Flow.{Plan}
use Rattle.sysin_values.specs.declared.fault.ValueFault.{ValueFault}
use Rattle.sysin_values.specs.declared.fault.ValueFault.TheVariants as values
use Rattle.sysin_values.specs.Begun.{CanGoOn as GoesTo, Begin as Begins}
use Rattle.sysin_heads.specs.declared.head.Head.{Head}
use Rattle.sysin_heads.specs.declared.head.Head.TheVariants as heads
use Rattle.sysin_heads.specs.declared.head.HeadPlace.{HeadPlace}
use Rattle.sysin_heads.specs.declared.head.HeadPlace.TheVariants as head_places
use Rattle.sysin_heads.specs.Head.{IsHead}
use Rattle.sysin_heads.specs.Reading as head_reading
use Rattle.sysin_heads.proofs.Exactness as head_laws
use Rattle.sysin_commands.specs.declared.fault.CommandFault.{CommandFault}
use Rattle.sysin_commands.specs.declared.fault.CommandFault.TheVariants as faults
use Rattle.sysin_commands.specs.declared.command.CommandPlace.{CommandPlace}
use Rattle.sysin_commands.specs.declared.command.CommandPlace.TheVariants as command_places
use Rattle.sysin_commands.specs.declared.command.CommandReading.{CommandReading}
use Rattle.sysin_commands.specs.CommandProgress.{CommandReads, CommandGives, CommandStops, StopsFrom, EndsAt}
use Rattle.sysin_commands.specs.Command.{IsCommand}
use Rattle.sysin_commands.proofs.Agreeing.{agree}
use Rattle.sysin_commands.proofs.Commands as command_laws
use Rattle.sysin_read.specs.declared.fault.Why.{Why}
use Rattle.sysin_read.specs.declared.fault.Why.TheVariants as whys
use Rattle.sysin_read.specs.declared.outline.Frame.{Frame}
use Rattle.sysin_read.specs.declared.outline.Frame.TheVariants as frames
use Rattle.sysin_read.specs.declared.outline.Outline.{Outline}
use Rattle.sysin_read.specs.declared.text.TextPlace.{TextPlace}
use Rattle.sysin_read.specs.declared.text.TextPlace.TheVariants as places
use Rattle.sysin_read.specs.declared.text.TextReading.{TextReading}
use Rattle.sysin_read.specs.Statement.{most_nested, tokens_of, StartNone, IsLead, IsElse, IsEnd, IsText}
use Rattle.sysin_read.specs.Rest.{Rest, StatementRest, BlockRest}
use Rattle.sysin_read.specs.Reading.{open_in, IsWithin, GoesOn, IsBegun, ReadsAt, TextReads}
use Rattle.sysin_read.specs.Why.{around, StartStops, EndedStops, IsBetween, EndsCommand, IsUnfinished, WithinStops, CommandIsToldAs, StopsAt, TextStops}
use Rattle.sysin_read.specs.Refusal.{CanGoOn, Begin}
use Rattle.sysin_read.proofs.Words.{else_is_not_end}
use Rattle.sysin_read.proofs.Blocks.{set_leads, if_leads, statement_leads}
use Rattle.sysin_read.proofs.Counting.{rest_count}
use Rattle.sysin_read.proofs.Ending.{no_else_here, room_around, closes, other, ends_no_top, starts_block, starts_here, must_start}
use Rattle.sysin_read.proofs.Lines.{IsEnder, Enders, rest_enders, rest_ender, IsNoOperand, ender_in_line, else_no_operand, end_no_operand, starts_none, no_command_behind, agree_back, split_tokens, heads_end, loosen_head}
use Rattle.sysin_read.proofs.Moving.{May, MayRest, MayState, MayBlock, opens_command, opens_if, opens_do}
use Rattle.sysin_read.proofs.Going.{begins_fresh}
use Rattle.sysin_values.proofs.LongCriteria.{overlap}

-- ---- tokens behind which a text goes on

no_snoc : {X : Type 0} (list : List X) (x : X) → [] ≡ list ++ x ∷ [] → ⊥
no_snoc [] x e = cc
no_snoc (y ∷ list) x e = cc

snoc : {X : Type 0} (a b : List X) (x y : X) → a ++ x ∷ [] ≡ b ++ y ∷ [] → (a ≡ b) × (x ≡ y)
snoc [] [] x y e = (refl, cc)
snoc [] (z ∷ b) x y e = let rest : [] ≡ b ++ y ∷ [] = cc in absurd (no_snoc b y rest)
snoc (z ∷ a) [] x y e = let rest : [] ≡ a ++ x ∷ [] = cc in absurd (no_snoc a x rest)
snoc (z ∷ a) (w ∷ b) x y e =
    let heads' : z ≡ w = cc in
    let tails : a ++ x ∷ [] ≡ b ++ y ∷ [] = cc in
    let s = snoc a b x y tails in
    let fronts = s.0 in
    (cc, s.1)

-- lists have their limits, or the token is a comma behind what goes on
abbrev How : Bool → List Placed → Placed → Type 0
How limited front placed = (limited ≡ true) ⊎ ((placed.token ≡ tokens.Comma) × CanGoOn true front)

no_begin : (front : List Placed) (placed : Placed) → ((limited : Bool) → How limited front placed → (rest : List Placed) (plan : Plan) → IsText limited plan (front ++ placed ∷ rest) → ⊥)
    → ¬ Begin (front ++ placed ∷ [])
no_begin front placed none (inl (rest, plan, t)) = none true (inl refl) rest plan (subst (λ (l : List Placed). IsText true plan l) (append_assoc front (placed ∷ []) rest) t)
no_begin front placed none (inr e) =
    let s = snoc front e.front placed e.comma e.whole in
    let l = e.longer in
    none false (inr (ap (λ (p : Placed). p.token) s.1 ∙ e.sign, subst (λ (f : List Placed). CanGoOn true f) (sym s.0) e.right)) l.0 l.1
    (subst (λ (x : List Placed). IsText false l.1 x) (append_assoc front (placed ∷ []) l.0) l.2)

to_may : (limited : Bool) (before : List Step) (front list : List Placed) (may : May) → GoesOn before front may list → (plan : Plan) → IsText limited plan (front ++ list)
    → (plans : List Plan) × may limited plans list
to_may true before front list may g plan t = let h = (g.0 plan).0 t in (h.0, h.1)
to_may false before front list may g plan t = g.1.0 (plan, t)

no_may : (before : List Step) (front : List Placed) (may : May) (placed : Placed) → ((list : List Placed) → GoesOn before front may (placed ∷ list))
    → ((limited : Bool) (plans : List Plan) (list : List Placed) → may limited plans (placed ∷ list) → ⊥) → ¬ Begin (front ++ placed ∷ [])
no_may before front may placed g none = no_begin front placed (λ limited how rest plan t. let m = to_may limited before front (placed ∷ rest) may (g rest) plan t in none limited m.0 rest m.1)

-- ---- where a statement begins

state_stops : (limited : Bool) (room : ℕ) (open' : List Frame) (count : ℕ) (plans : List Plan) (placed : Placed) (list : List Placed) (why : Why) → room + length open' ≡ most_nested
    → StartStops open' count placed why → StatementRest limited room open' count plans (placed ∷ list) → ⊥
state_stops limited room open' count plans placed list whys.Nesting all (inl lead, deep) s =
    let o = opens_if limited room open' count plans placed list s lead in
    let is = o.room_is in
    let sum : room + length open' ≡ 16 = all in
    let many : 16 ≤ length open' = deep in
    omega (arith, is, sum, many)
state_stops limited room open' count plans placed list whys.Nesting all (inr lead, deep) s =
    let o = opens_do limited room open' count plans placed list s lead in
    let is = o.room_is in
    let sum : room + length open' ≡ 16 = all in
    let many : 16 ≤ length open' = deep in
    omega (arith, is, sum, many)
state_stops limited room open' count plans placed list whys.Count all ((verb, lead), many) s =
    let o = (opens_command limited room open' count plans placed list s verb lead).0 in
    let few : count + 1 ≤ 999 = rest_count limited room open' true (count + 1) o.behind o.more o.rest in
    let most : 999 ≤ count = many in
    omega (arith, few, most)
state_stops limited room open' count plans placed list whys.Word all none s =
    let l = statement_leads limited room open' count plans (placed ∷ list) s in
    let w = l.whole in
    let same : l.first ≡ placed = cc in
    none l.lead (subst (λ (p : Placed). IsLead l.lead p) same l.leads)
state_stops limited room open' count plans placed list whys.Twice all stops s = stops
state_stops limited room open' count plans placed list whys.Missing all stops s = stops
state_stops limited room open' count plans placed list whys.Value all stops s = stops

-- ---- behind a statement

rest_stops : (limited : Bool) (room : ℕ) (open' : List Frame) (count : ℕ) (plans : List Plan) (placed : Placed) (list : List Placed) (why : Why) → room + length open' ≡ most_nested
    → EndedStops open' count placed why → Rest limited room open' true count plans (placed ∷ list) → ⊥
rest_stops limited room open' count plans placed list why all (inl (is, unwanted, w)) r =
    let m = other limited count placed list is room open' plans r in
    let both : true ≡ false = sym m.1 ∙ unwanted in
    cc
rest_stops limited room open' count plans placed list why all (inr (inl (is, ar, w))) r =
    let m = closes limited count (placed ∷ list) (no_else_here placed list (λ e. else_is_not_end placed e is)) room open' true plans r in
    ends_no_top limited count placed list (room_around room open') true m.0 is (subst (λ (o : List Frame). Rest limited (room_around room open') o true count m.0 (placed ∷ list)) ar m.2)
rest_stops limited room open' count plans placed list why all (inr (inr (no_else, no_end, inl (starts, stops)))) r =
    let m = closes limited count (placed ∷ list) (no_else_here placed list no_else) room open' true plans r in
    state_stops limited (room_around room open') (around open') count m.0 placed list why (Rattle.sysin_read.proofs.Ending.room_stays room open' ∙ all) stops
    (starts_here limited count placed list (room_around room open') open' true m.0 no_end m.2)
rest_stops limited room open' count plans placed list why all (inr (inr (no_else, no_end, inr (inline, w)))) r =
    let m = closes limited count (placed ∷ list) (no_else_here placed list no_else) room open' true plans r in
    let starts = must_start limited count placed list (room_around room open') open' true m.0 no_end m.2 in
    let both : true ≡ false = sym starts ∙ inline in
    cc

-- ---- SET and IF

some_head : (text : List Token) → Begins IsHead text → GoesTo IsHead true text
some_head text (inl g) = g
some_head text (inr e) = let l = e.longer in (l.0, l.1, loosen_head false true l.1 (text ++ l.0) l.2)

abbrev pub Longer : List Placed → List Placed → List Placed → List Placed → Type 0
Longer here rest text tail = (e : List Placed) × (text ≡ here ++ e) × (rest ≡ e ++ tail)

pub head_longer : (limited : Bool) (said : Head) (head : HeadPlace) (first : Placed) (here rest text tail : List Placed) → head_reading.Reads head (tokens_of (first ∷ here))
    → IsHead limited said (tokens_of (first ∷ text)) → here ++ rest ≡ text ++ tail → Longer here rest text tail
head_longer limited said head first here rest text tail reads s same = by_overlap (overlap here rest text tail same)
  where
    shorter : (e : List Placed) → here ≡ text ++ e → tail ≡ e ++ rest → Longer here rest text tail
    shorter [] f g = ([], sym (f ∙ append-nil text) ∙ sym (append-nil here), sym g)
    shorter (x ∷ e) f g =
        let goes = some_head (tokens_of (first ∷ here)) (head_laws.exact.right head (tokens_of (first ∷ here)) reads) in
        let text_is : tokens_of here ≡ tokens_of text ++ x.token ∷ tokens_of e = ap tokens_of f ∙ split_tokens text x e in
        absurd (heads_end limited true said goes.1 (tokens_of (first ∷ text)) x.token (tokens_of e ++ goes.0) s
        (subst (λ (t : List Token). IsHead true goes.1 (first.token ∷ t)) (ap (λ (t : List Token). t ++ goes.0) text_is ∙ append_assoc (tokens_of text) (x.token ∷ tokens_of e) goes.0) goes.2))

    by_overlap : ((e : List Placed) × (text ≡ here ++ e) × (rest ≡ e ++ tail)) ⊎ ((e : List Placed) × (here ≡ text ++ e) × (tail ≡ e ++ rest)) → Longer here rest text tail
    by_overlap (inl o) = o
    by_overlap (inr o) = shorter o.0 o.1 o.2

pub head_leads : (head : HeadPlace) (first : Placed) (rest : List Token) → head_reading.Reads head (first.token ∷ rest) → IsLead leads.Set first ⊎ IsLead leads.If first
head_leads head_places.Start first rest r = cc
head_leads head_places.Set first rest (s, e, l) = inl (s, cc, l)
head_leads (head_places.SetName which) first rest (s, n, e, l, name) = inl (s, cc, l)
head_leads (head_places.SetSign which) first rest (s, n, e, l, name) = inl (s, cc, l)
head_leads head_places.If first rest (s, e, l) = inr (s, cc, l)
head_leads (head_places.IfName which) first rest (s, n, e, l, name) = inr (s, cc, l)
head_leads (head_places.IfOp which op) first rest (s, n, c, e, l, name, sign) = inr (s, cc, l)
head_leads (head_places.IfCode which op code) first rest (s, n, c, v, e, l, name, sign, value) = inr (s, cc, l)
head_leads (head_places.Ended (heads.Set which code)) first rest s = inl (set_leads which code first rest s)
head_leads (head_places.Ended (heads.If which op code)) first rest s = inr (if_leads which op code first rest s)

pub record HeadText (limited : Bool) (first : Placed) (list : List Placed) : Type 0 where
  pub said : Head
  pub text : List Placed
  pub tail : List Placed
  pub whole : list ≡ text ++ tail
  pub line : StartNone text
  pub spells : IsHead limited said (tokens_of (first ∷ text))

pub head_text : (limited : Bool) (room : ℕ) (open' : List Frame) (count : ℕ) (plans : List Plan) (first : Placed) (list : List Placed) → StatementRest limited room open' count plans (first ∷ list)
    → IsLead leads.Set first ⊎ IsLead leads.If first → HeadText limited first list
head_text limited room open' count plans first list s (inl lead) =
    let o = Rattle.sysin_read.proofs.Moving.opens_set limited room open' count plans first list s lead in
    let w = o.whole in
    let same : o.first ≡ first = cc in record {
      said = heads.Set o.which o.code;
      text = o.text;
      tail = o.more;
      whole = cc;
      line = o.line;
      spells = subst (λ (p : Placed). IsHead limited (heads.Set o.which o.code) (p.token ∷ tokens_of o.text)) same o.spells;
    }
head_text limited room open' count plans first list s (inr lead) =
    let o = opens_if limited room open' count plans first list s lead in
    let w = o.whole in
    let same : o.first ≡ first = cc in record {
      said = heads.If o.which o.op o.code;
      text = o.text;
      tail = o.more;
      whole = cc;
      line = o.line;
      spells = subst (λ (p : Placed). IsHead limited (heads.If o.which o.op o.code) (p.token ∷ tokens_of o.text)) same o.spells;
    }

known_fault : (head : HeadPlace) (token : Token) (known : ValueFault) → head_reading.Stops head token known → ¬ (known ≡ values.NoMemory)
known_fault head token values.NoMemory s e = s
known_fault head token values.Count s e = cc
known_fault head token values.Value s e = cc
known_fault head token values.Word s e = cc

head_wrong : (head : HeadPlace) (first : Placed) (here : List Placed) (placed : Placed) (limited : Bool) (said : Head) (e : List Placed) (open' : List Frame) (count : ℕ) (why : Why)
    → head_reading.Reads head (tokens_of (first ∷ here)) → StartNone (here ++ placed ∷ e) → IsHead limited said (tokens_of (first ∷ (here ++ placed ∷ e)))
    → StopsAt (places.Head head) open' count placed why → ⊥
head_wrong head first here placed limited said e open' count why reads line s (inl (starts, unfinished)) =
    let inline = starts_none here placed e line in
    let both : true ≡ false = sym starts ∙ inline in
    cc
head_wrong head first here placed limited said e open' count why reads line s (inr (inline, (known, stops, told))) =
    let text_is : tokens_of (here ++ placed ∷ e) ≡ (tokens_of here ++ placed.token ∷ []) ++ tokens_of e = split_tokens here placed e ∙ sym (append_assoc (tokens_of here) (placed.token ∷ []) (tokens_of e)) in
    head_laws.exact.wrong head (tokens_of (first ∷ here)) placed.token known reads stops (known_fault head placed.token known stops)
    (inl (tokens_of e, said, subst (λ (t : List Token). IsHead true said (first.token ∷ t)) text_is (loosen_head limited true said (tokens_of (first ∷ (here ++ placed ∷ e))) s)))

head_stops : (room : ℕ) (outline : Outline) (head : HeadPlace) (before : List Placed) (first : Placed) (here front : List Placed) (placed : Placed) (why : Why) → IsBegun room outline before first here front
    → head_reading.Reads head (tokens_of (first ∷ here)) → ((said : Head) → ¬ head_reading.Gives head said) → StopsAt (places.Head head) (open_in outline) outline.commands placed why
    → ¬ Begin (front ++ placed ∷ [])
head_stops room outline head before first here front placed why b reads n stops = no_begin front placed (λ limited how rest plan t. by_text limited rest plan t)
  where
    by_rest : (limited : Bool) (said : Head) (text tail rest : List Placed) → StartNone text → IsHead limited said (tokens_of (first ∷ text)) → (e : List Placed) → text ≡ here ++ e → placed ∷ rest ≡ e ++ tail → ⊥
    by_rest limited said text tail rest line s [] f g =
        n said (head_laws.exact.given head (tokens_of (first ∷ here)) said reads
        (loosen_head limited true said (tokens_of (first ∷ here)) (subst (λ (l : List Placed). IsHead limited said (tokens_of (first ∷ l))) (f ∙ append-nil here) s)))
    by_rest limited said text tail rest line s (x ∷ e) f g =
        let same : x ≡ placed = cc in
        let text_is : text ≡ here ++ placed ∷ e = f ∙ ap (λ (p : Placed). here ++ p ∷ e) same in
        head_wrong head first here placed limited said e (open_in outline) outline.commands why reads (subst StartNone text_is line)
        (subst (λ (l : List Placed). IsHead limited said (tokens_of (first ∷ l))) text_is s) stops

    by_text : (limited : Bool) (rest : List Placed) (plan : Plan) → IsText limited plan (front ++ placed ∷ rest) → ⊥
    by_text limited rest plan t =
        let whole : front ++ placed ∷ rest ≡ before ++ first ∷ (here ++ placed ∷ rest) = ap (λ (f : List Placed). f ++ placed ∷ rest) b.whole ∙ append_assoc before (first ∷ here) (placed ∷ rest) in
        let m = to_may limited outline.steps before (first ∷ (here ++ placed ∷ rest)) (MayState room (open_in outline) outline.commands) (b.begins (here ++ placed ∷ rest)) plan
        (subst (λ (l : List Placed). IsText limited plan l) whole t) in
        let h = head_text limited room (open_in outline) outline.commands m.0 first (here ++ placed ∷ rest) m.1 (head_leads head first (tokens_of here) reads) in
        let o = head_longer limited h.said head first here (placed ∷ rest) h.text h.tail reads h.spells h.whole in
        by_rest limited h.said h.text h.tail rest h.line h.spells o.0 o.1 o.2

-- ---- commands

pub record CommandText (limited : Bool) (verb : Verb) (room : ℕ) (open' : List Frame) (count : ℕ) (list : List Placed) : Type 0 where
  pub said : Command
  pub text : List Placed
  pub tail : List Placed
  pub behind : List Plan
  pub whole : list ≡ text ++ tail
  pub line : StartNone text
  pub spells : IsCommand verb limited said (tokens_of text)
  pub rest : Rest limited room open' true (count + 1) behind tail

pub command_text : (limited : Bool) (room : ℕ) (open' : List Frame) (count : ℕ) (plans : List Plan) (first : Placed) (list : List Placed) (verb : Verb) → IsLead (leads.Command verb) first
    → StatementRest limited room open' count plans (first ∷ list) → CommandText limited verb room open' count list
command_text limited room open' count plans first list verb lead s =
    let found = opens_command limited room open' count plans first list s verb lead in
    let o = found.0 in
    let w = o.whole in record {
      said = o.said;
      text = o.text;
      tail = o.more;
      behind = o.behind;
      whole = cc;
      line = o.line;
      spells = subst (λ (v : Verb). IsCommand v limited o.said (tokens_of o.text)) found.1 o.spells;
      rest = o.rest;
    }

pub enders : (limited : Bool) (verb : Verb) (room : ℕ) (open' : List Frame) (count : ℕ) (list : List Placed) (c : CommandText limited verb room open' count list) → Enders c.tail
enders limited verb room open' count list c = rest_enders limited room open' true (count + 1) c.behind c.tail c.rest

comma_split : (text : List Token) (token : Token) (rest front : List Token) → text ++ token ∷ rest ≡ front ++ tokens.Comma ∷ [] → IsNoOperand token → (g : List Token) × (front ≡ text ++ token ∷ g)
comma_split text token rest front e none = by_overlap (overlap text (token ∷ rest) front (tokens.Comma ∷ []) e)
  where
    longer : (g : List Token) → front ≡ text ++ g → token ∷ rest ≡ g ++ tokens.Comma ∷ [] → (g : List Token) × (front ≡ text ++ token ∷ g)
    longer [] f h = let same : token ≡ tokens.Comma = cc in absurd (none.0 same)
    longer (y ∷ g) f h = let same : y ≡ token = cc in (g, f ∙ ap (λ (t : Token). text ++ t ∷ g) same)

    no_token : (g : List Token) → [] ≡ g ++ token ∷ rest → ⊥
    no_token [] h = cc
    no_token (y ∷ g) h = cc

    shorter : (g : List Token) → tokens.Comma ∷ [] ≡ g ++ token ∷ rest → (g : List Token) × (front ≡ text ++ token ∷ g)
    shorter [] h = let same : token ≡ tokens.Comma = cc in absurd (none.0 same)
    shorter (y ∷ g) h = let rest' : [] ≡ g ++ token ∷ rest = cc in absurd (no_token g rest')

    by_overlap : ((g : List Token) × (front ≡ text ++ g) × (token ∷ rest ≡ g ++ tokens.Comma ∷ [])) ⊎ ((g : List Token) × (text ≡ front ++ g) × (tokens.Comma ∷ [] ≡ g ++ token ∷ rest))
        → (g : List Token) × (front ≡ text ++ token ∷ g)
    by_overlap (inl o) = longer o.0 o.1 o.2
    by_overlap (inr o) = shorter o.0 o.2

shorter_none : (verb : Verb) (limited : Bool) (said : Command) (text : List Token) (token : Token) (rest : List Token) → IsCommand verb limited said text → IsNoOperand token
    → Begins (IsCommand verb) (text ++ token ∷ rest) → ⊥
shorter_none verb limited said text token rest s none (inl (r, other, t)) =
    no_command_behind verb limited true (agree_back verb limited) said other text token (rest ++ r) s (subst (λ (l : List Token). IsCommand verb true other l) (append_assoc text (token ∷ rest) r) t) none
shorter_none verb limited said text token rest s none (inr e) =
    let c = comma_split text token rest e.front e.comma none in
    let goes = e.before in
    no_command_behind verb limited true (agree_back verb limited) said goes.1 text token (c.0 ++ goes.0) s
    (subst (λ (l : List Token). IsCommand verb true goes.1 l) (ap (λ (f : List Token). f ++ goes.0) c.1 ∙ append_assoc text (token ∷ c.0) goes.0) goes.2) none

pub command_longer : (verb : Verb) (limited : Bool) (said : Command) (here rest text tail : List Placed) → Begins (IsCommand verb) (tokens_of here) → StartNone here → IsCommand verb limited said (tokens_of text)
    → here ++ rest ≡ text ++ tail → Enders tail → Longer here rest text tail
command_longer verb limited said here rest text tail begun line s same ends = by_overlap (overlap here rest text tail same)
  where
    shorter : (e : List Placed) → here ≡ text ++ e → tail ≡ e ++ rest → Longer here rest text tail
    shorter [] f g = ([], sym (f ∙ append-nil text) ∙ sym (append-nil here), sym g)
    shorter (x ∷ e) f g =
        let none = ender_in_line x (ends x (e ++ rest) g) (starts_none text x e (subst StartNone f line)) in
        let text_is : tokens_of here ≡ tokens_of text ++ x.token ∷ tokens_of e = ap tokens_of f ∙ split_tokens text x e in
        absurd (shorter_none verb limited said (tokens_of text) x.token (tokens_of e) s none (subst (λ (t : List Token). Begins (IsCommand verb) t) text_is begun))

    by_overlap : ((e : List Placed) × (text ≡ here ++ e) × (rest ≡ e ++ tail)) ⊎ ((e : List Placed) × (here ≡ text ++ e) × (tail ≡ e ++ rest)) → Longer here rest text tail
    by_overlap (inl o) = o
    by_overlap (inr o) = shorter o.0 o.1 o.2

ends_between : (place : CommandPlace) → EndsAt place → IsBetween place
ends_between command_places.First e = tt
ends_between command_places.Behind e = tt
ends_between command_places.Comma e = absurd e
ends_between (command_places.Inside place) e = absurd e

stops_from : (place : CommandPlace) (old : CommandReading) (token : Token) → IsBetween place → IsNoOperand token → StopsFrom place old token (faults.Value values.Word)
stops_from command_places.First old token between none = ((λ keyword k. absurd (none.1 keyword k)), inr ((λ s. none.1 s.0 s.1), refl))
stops_from command_places.Comma old token between none = ((λ keyword k. absurd (none.1 keyword k)), inr ((λ s. none.1 s.0 s.1), refl))
stops_from command_places.Behind old token between none = ((λ keyword k. absurd (none.1 keyword k)), (λ comma. absurd (none.0 comma)), inr ((λ s. none.1 s.0 s.1), refl))
stops_from (command_places.Inside place) old token between none = absurd between

word_no_operand : (placed : Placed) → IsElse placed ⊎ IsEnd placed → IsNoOperand placed.token
word_no_operand placed (inl e) = else_no_operand placed e
word_no_operand placed (inr e) = end_no_operand placed e

ender_no_comma : (placed : Placed) → IsEnder placed → placed.token ≡ tokens.Comma → ⊥
ender_no_comma placed (inl (w, e, is)) c = cc
ender_no_comma placed (inr (inl (w, e, is))) c = cc
ender_no_comma placed (inr (inr (starts, (lead, (w, e, is))))) c = cc

no_memory : (fault : CommandFault) (why : Why) → CommandIsToldAs fault why → ¬ (Rattle.sysin_commands.specs.CommandProgress.value_of fault ≡ values.NoMemory)
no_memory faults.Twice why told e = cc
no_memory faults.Missing why told e = cc
no_memory (faults.Value values.Count) why told e = cc
no_memory (faults.Value values.Value) why told e = cc
no_memory (faults.Value values.Word) why told e = cc
no_memory (faults.Value values.NoMemory) why told e = told

unfinished_gives : (reading : CommandReading) (known : Why) (command : Command) → IsUnfinished reading known → CommandGives reading command → ⊥
unfinished_gives reading whys.Missing command none gives = none command gives.1
unfinished_gives reading whys.Word command none gives = none.1 command gives
unfinished_gives reading whys.Twice command none gives = none
unfinished_gives reading whys.Nesting command none gives = none
unfinished_gives reading whys.Count command none gives = none
unfinished_gives reading whys.Value command none gives = none

module _ (room : ℕ) (outline : Outline) (reading : CommandReading) (before : List Placed) (first : Placed) (here front : List Placed) (placed : Placed) (why : Why) (within : IsWithin room outline)
    (b : IsBegun room outline before first here front) (lead : IsLead (leads.Command reading.verb) first) (reads : CommandReads reading (tokens_of here)) where
  begun : Begins (IsCommand reading.verb) (tokens_of here)
  begun = (command_laws.exact reading.verb).right reading (tokens_of here) (refl, reads)

  pub gives : (said : Command) → IsCommand reading.verb true said (tokens_of here) → CommandGives reading said
  gives said s = (command_laws.exact reading.verb).given reading (tokens_of here) said (refl, reads) s

  -- a text that begins so has a command here
  pub record Found (limited : Bool) (rest : List Placed) : Type 0 where
    pub c : CommandText limited reading.verb room (open_in outline) outline.commands (here ++ rest)
    pub o : Longer here rest c.text c.tail

  pub found : (limited : Bool) (rest : List Placed) (plan : Plan) → IsText limited plan (front ++ rest) → Found limited rest
  found limited rest plan t =
      let whole : front ++ rest ≡ before ++ first ∷ (here ++ rest) = ap (λ (f : List Placed). f ++ rest) b.whole ∙ append_assoc before (first ∷ here) rest in
      let m = to_may limited outline.steps before (first ∷ (here ++ rest)) (MayState room (open_in outline) outline.commands) (b.begins (here ++ rest)) plan
      (subst (λ (l : List Placed). IsText limited plan l) whole t) in
      let c = command_text limited room (open_in outline) outline.commands m.0 first (here ++ rest) reading.verb lead m.1 in
      record {
        c = c;
        o = command_longer reading.verb limited c.said here rest c.text c.tail begun b.line c.spells c.whole (enders limited reading.verb room (open_in outline) outline.commands (here ++ rest) c);
      }

  -- what is read goes on to a command
  goes_to : CanGoOn true front → GoesTo (IsCommand reading.verb) true (tokens_of here)
  goes_to (rest, plan, t) =
      let f = found true rest plan t in
      let text_is : tokens_of f.c.text ≡ tokens_of here ++ tokens_of f.o.0 = ap tokens_of f.o.1 ∙ Rattle.std.proofs.lemmas.List.map-append (λ (p : Placed). p.token) here f.o.0 in
      (tokens_of f.o.0, f.c.said, subst (λ (l : List Token). IsCommand reading.verb true f.c.said l) text_is f.c.spells)

  -- it ends before the token, or goes on with it
  ends_or_goes : (limited : Bool) (rest : List Placed) → Found limited rest → (ended : (said : Command) (behind : List Plan) → IsCommand reading.verb limited said (tokens_of here)
      → Rest limited room (open_in outline) true (outline.commands + 1) behind rest → ⊥)
      → (on : (said : Command) (x : Placed) (e tail : List Placed) → rest ≡ x ∷ (e ++ tail) → StartNone (here ++ x ∷ e) → IsCommand reading.verb limited said (tokens_of here ++ x.token ∷ tokens_of e) → ⊥) → ⊥
  ends_or_goes limited rest f ended on = by_rest f.o.0 f.o.1 f.o.2
    where
      by_rest : (e : List Placed) → f.c.text ≡ here ++ e → rest ≡ e ++ f.c.tail → ⊥
      by_rest [] t r = ended f.c.said f.c.behind (subst (λ (l : List Placed). IsCommand reading.verb limited f.c.said (tokens_of l)) (t ∙ append-nil here) f.c.spells)
          (subst (λ (l : List Placed). Rest limited room (open_in outline) true (outline.commands + 1) f.c.behind l) (sym r) f.c.rest)
      by_rest (x ∷ e) t r = on f.c.said x e f.c.tail r (subst StartNone t f.c.line) (subst (λ (l : List Token). IsCommand reading.verb limited f.c.said l) (ap tokens_of t ∙ split_tokens here x e) f.c.spells)

  -- a token that ends no command
  within_wrong : (fault : CommandFault) → (¬ EndsCommand reading placed) → CommandStops reading placed.token fault → CommandIsToldAs fault why → ¬ Begin (front ++ placed ∷ [])
  within_wrong fault n stops told = no_begin front placed (λ limited how rest plan t. ends_or_goes limited (placed ∷ rest) (found limited (placed ∷ rest) plan t)
      (λ said behind s r. not_ended limited said s (rest_ender limited room (open_in outline) true (outline.commands + 1) behind placed rest r) how)
      (λ said x e tail same line s. let here' : x ≡ placed = cc in goes_on limited said e (subst (λ (p : Placed). IsCommand reading.verb limited said (tokens_of here ++ p.token ∷ tokens_of e)) here' s) how))
    where
      not_between : IsEnder placed → IsBetween reading.place → ⊥
      not_between (inl e) between = n (inr (inl e, between))
      not_between (inr (inl e)) between = n (inr (inr e, between))
      not_between (inr (inr (starts, l))) between = n (inl starts)

      not_ended : (limited : Bool) (said : Command) → IsCommand reading.verb limited said (tokens_of here) → IsEnder placed → How limited front placed → ⊥
      not_ended limited said s ender (inl is) = not_between ender (ends_between reading.place (gives said (subst (λ (l : Bool). IsCommand reading.verb l said (tokens_of here)) is s)).0)
      not_ended limited said s ender (inr (comma, right)) = ender_no_comma placed ender comma

      wrong' : ¬ Begins (IsCommand reading.verb) (tokens_of here ++ placed.token ∷ [])
      wrong' = (command_laws.exact reading.verb).wrong reading (tokens_of here) placed.token (Rattle.sysin_commands.specs.CommandProgress.value_of fault) (refl, reads) (fault, refl, stops) (no_memory fault why told)

      can : (limited : Bool) (said : Command) (e : List Placed) → IsCommand reading.verb limited said (tokens_of here ++ placed.token ∷ tokens_of e)
          → GoesTo (IsCommand reading.verb) limited (tokens_of here ++ placed.token ∷ [])
      can limited said e s = (tokens_of e, said, subst (λ (l : List Token). IsCommand reading.verb limited said l) (sym (append_assoc (tokens_of here) (placed.token ∷ []) (tokens_of e))) s)

      goes_on : (limited : Bool) (said : Command) (e : List Placed) → IsCommand reading.verb limited said (tokens_of here ++ placed.token ∷ tokens_of e) → How limited front placed → ⊥
      goes_on limited said e s (inl is) = wrong' (inl (subst (λ (l : Bool). GoesTo (IsCommand reading.verb) l (tokens_of here ++ placed.token ∷ [])) is (can limited said e s)))
      goes_on true said e s (inr (comma, right)) = wrong' (inl (can true said e s))
      goes_on false said e s (inr (comma, right)) = wrong' (inr (record {
        front = tokens_of here;
        comma = ap (λ (t : Token). tokens_of here ++ t ∷ []) comma;
        before = goes_to right;
        longer = can false said e s;
      }))

  in_line : (x : Placed) (e : List Placed) → x ≡ placed → StartNone (here ++ x ∷ e) → EndsCommand reading placed → (IsElse placed ⊎ IsEnd placed) × IsBetween reading.place
  in_line x e same line (inl starts) =
      let inline = starts_none here x e line in
      let both : true ≡ false = sym starts ∙ sym (ap (λ (p : Placed). p.starts) same) ∙ inline in
      absurd (no both)
    where
      no : true ≡ false → ⊥
      no e = cc
  in_line x e same line (inr words) = words

  -- a token behind a command
  behind_wrong : (command : Command) → EndsCommand reading placed → CommandGives reading command → EndedStops (open_in outline) (outline.commands + 1) placed why → ¬ Begin (front ++ placed ∷ [])
  behind_wrong command ends g stops = no_begin front placed (λ limited how rest plan t. ends_or_goes limited (placed ∷ rest) (found limited (placed ∷ rest) plan t)
      (λ said behind s r. rest_stops limited room (open_in outline) (outline.commands + 1) behind placed rest why within.0 stops r)
      (λ said x e tail same line s.
      let here' : x ≡ placed = cc in
      no_command_behind reading.verb true limited (agree reading.verb limited) command said (tokens_of here) x.token (tokens_of e)
      ((command_laws.exact reading.verb).spelled reading (tokens_of here) command (refl, reads) g) s
      (subst (λ (p : Placed). IsNoOperand p.token) (sym here') (word_no_operand placed (in_line x e here' line ends).0))))

  -- a token that ends a command that isn't whole
  unfinished_wrong : (known : Why) → EndsCommand reading placed → IsUnfinished reading known → ¬ Begin (front ++ placed ∷ [])
  unfinished_wrong known ends none = no_begin front placed (λ limited how rest plan t. ends_or_goes limited (placed ∷ rest) (found limited (placed ∷ rest) plan t)
      (λ said behind s r. not_whole limited said s (rest_ender limited room (open_in outline) true (outline.commands + 1) behind placed rest r) how)
      (λ said x e tail same line s.
      let here' : x ≡ placed = cc in
      not_on limited said e (subst (λ (p : Placed). IsCommand reading.verb limited said (tokens_of here ++ p.token ∷ tokens_of e)) here' s) (in_line x e here' line ends) how))
    where
      not_whole : (limited : Bool) (said : Command) → IsCommand reading.verb limited said (tokens_of here) → IsEnder placed → How limited front placed → ⊥
      not_whole limited said s ender (inl is) = unfinished_gives reading known said none (gives said (subst (λ (l : Bool). IsCommand reading.verb l said (tokens_of here)) is s))
      not_whole limited said s ender (inr (comma, right)) = ender_no_comma placed ender comma

      not_on : (limited : Bool) (said : Command) (e : List Placed) → IsCommand reading.verb limited said (tokens_of here ++ placed.token ∷ tokens_of e)
          → (IsElse placed ⊎ IsEnd placed) × IsBetween reading.place → How limited front placed → ⊥
      not_on limited said e s words (inl is) =
          let stops : CommandStops reading placed.token (faults.Value values.Word) = inr (stops_from reading.place reading placed.token words.1 (word_no_operand placed words.0)) in
          let t = subst (λ (l : Bool). IsCommand reading.verb l said (tokens_of here ++ placed.token ∷ tokens_of e)) is s in
          (command_laws.exact reading.verb).wrong reading (tokens_of here) placed.token values.Word (refl, reads) (faults.Value values.Word, refl, stops) (λ x. cc)
          (inl (tokens_of e, said, subst (λ (l : List Token). IsCommand reading.verb true said l) (sym (append_assoc (tokens_of here) (placed.token ∷ []) (tokens_of e))) t))
      not_on limited said e s words (inr (comma, right)) = (word_no_operand placed words.0).0 comma

  pub command_stops : WithinStops (open_in outline) outline.commands reading placed why → ¬ Begin (front ++ placed ∷ [])
  command_stops (inl (n, (fault, stops, told))) = within_wrong fault n stops told
  command_stops (inr (ends, inl ((command, g), stops))) = behind_wrong command ends g stops
  command_stops (inr (ends, inr (known, none, unfinished))) = unfinished_wrong known ends none

-- ---- all places

block_stops : (limited : Bool) (room : ℕ) (open' outer : List Frame) (count : ℕ) (plans : List Plan) (placed : Placed) (list : List Placed) (why : Why) → open' ≡ frames.Do ∷ outer
    → room + length open' ≡ most_nested → (¬ IsEnd placed) → StartStops open' count placed why → BlockRest limited room open' count plans (placed ∷ list) → ⊥
block_stops limited room open' outer count plans placed list why e all n stops b =
    by_block (subst (λ (o : List Frame). BlockRest limited room o count plans (placed ∷ list)) e b)
  where
    by_block : BlockRest limited room (frames.Do ∷ outer) count plans (placed ∷ list) → ⊥
    by_block (plan, next, behind, f, same, block) = state_stops limited room (frames.Do ∷ outer) count (plan ∷ behind) placed list why (sym (ap (λ (o : List Frame). room + length o) e) ∙ all)
        (subst (λ (o : List Frame). StartStops o count placed why) e stops) (starts_block limited count placed list (λ l. Unit {0}) room outer plan next behind n block)

wrong_at : (place : TextPlace) (room : ℕ) (outline : Outline) (front : List Placed) (placed : Placed) (why : Why) → IsWithin room outline → ReadsAt place room outline front
    → StopsAt place (open_in outline) outline.commands placed why → ¬ Begin (front ++ placed ∷ [])
wrong_at places.Text room outline front placed why within ((f, s, c), e) stops =
    no_may outline.steps front (MayState room (open_in outline) outline.commands) placed (begins_fresh room outline front placed within f s c e)
    (λ limited plans list m. state_stops limited room (open_in outline) outline.commands plans placed list why within.0 stops m)
wrong_at places.Part room outline front placed why within g stops =
    no_may outline.steps front (MayState room (open_in outline) outline.commands) placed (λ list. g (placed ∷ list))
    (λ limited plans list m. state_stops limited room (open_in outline) outline.commands plans placed list why within.0 stops m)
wrong_at places.Block room outline front placed why within ((outer, e), g) (n, stops) =
    no_may outline.steps front (MayBlock room (open_in outline) outline.commands) placed (λ list. g (placed ∷ list))
    (λ limited plans list m. block_stops limited room (open_in outline) outer outline.commands plans placed list why e within.0 n stops m)
wrong_at places.Ended room outline front placed why within g stops =
    no_may outline.steps front (MayRest room (open_in outline) outline.commands) placed (λ list. g (placed ∷ list))
    (λ limited plans list m. rest_stops limited room (open_in outline) outline.commands plans placed list why within.0 stops m)
wrong_at (places.Head head) room outline front placed why within (before, first, here, b, reads, has, n) stops =
    head_stops room outline head before first here front placed why b reads n stops
wrong_at (places.Command reading) room outline front placed why within (before, first, here, b, lead, reads, few) stops =
    command_stops room outline reading before first here front placed why within b lead reads stops

pub wrong : (reading : TextReading) (front : List Placed) (placed : Placed) (why : Why) → TextReads reading front → TextStops reading placed why → ¬ Begin (front ++ placed ∷ [])
wrong reading front placed why (room, within, r) stops = wrong_at reading.place room reading.outline front placed why within r stops
