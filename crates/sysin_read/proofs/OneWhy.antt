-- Tokens are read in one way, and what is wrong behind them is so for one reason.
use Rattle.std.proofs.Common.{◌≡◌, ◌⊎◌, inl, inr, ℕ, ◌+◌, List, [], ◌∷◌, refl, sym, ap, subst, ◌∙◌, Bool, true, false, Some}
use Rattle.std.proofs.lemmas.Option.{same_Some}
use Rattle.by_rules.specs.declared.criterion.Op.{Op}
use Rattle.sysin_text.specs.declared.token.Token.{Token}
use Rattle.sysin_text.specs.declared.token.Placed.{Placed}
use Rattle.sysin_words.specs.declared.lead.Verb.{Verb}
use Rattle.sysin_words.specs.declared.lead.Lead.{Lead}
use Rattle.sysin_words.specs.declared.lead.Lead.TheVariants as leads
use Rattle.sysin_words.specs.Lead.{lead_of}
use Rattle.sysin_words.specs.Code.{which_of, code_of}
use Rattle.sysin_lang.specs.declared.command.Command.{Command}
use Rattle.sysin_lang.specs.declared.script.Step.{Step}
use Rattle.sysin_heads.specs.declared.head.HeadPlace.{HeadPlace}
use Rattle.sysin_heads.specs.declared.head.HeadPlace.TheVariants as head_places
use Rattle.sysin_heads.specs.declared.head.Head.TheVariants as heads
use Rattle.sysin_heads.specs.Reading.{Goes as HeadGoes, IsWordFor}
use Rattle.sysin_commands.specs.declared.command.CommandReading.{CommandReading}
use Rattle.sysin_commands.specs.CommandProgress.{CommandGives, Makes}
use Rattle.sysin_commands.specs.CommandLaws.{start_behind}
use Rattle.sysin_read.specs.declared.fault.Why.{Why}
use Rattle.sysin_read.specs.declared.fault.Why.TheVariants as whys
use Rattle.sysin_read.specs.declared.outline.Frame.{Frame}
use Rattle.sysin_read.specs.declared.outline.Frame.TheVariants as frames
use Rattle.sysin_read.specs.declared.outline.Outline.{Outline}
use Rattle.sysin_read.specs.declared.text.TextPlace.{TextPlace}
use Rattle.sysin_read.specs.declared.text.TextPlace.TheVariants as places
use Rattle.sysin_read.specs.declared.text.TextReading.{TextReading}
use Rattle.sysin_read.specs.Statement.{IsLead}
use Rattle.sysin_read.specs.Reading.{open_in}
use Rattle.sysin_read.specs.Why.{around, IsTooDeep, IsTooMany, StartStops, EndedStops, EndsUnfinished, IsUnfinished, BehindStops, WithinStops, StopsAt, TextStops}
use Rattle.sysin_read.specs.Progress.{behind_then, IsOutline, StartGoes, ElseGoes, EndGoes, NextGoes, EndedGoes, HeadLeads, WithinGoes, GoesAt, TextGoes}
use Rattle.sysin_read.specs.Told.{nothing_read, Leads, IsWhy}
use Rattle.sysin_read.proofs.Words.{else_leads_none, end_leads_none, else_is_not_end, one_lead}
use Rattle.sysin_read.proofs.OneStep.{one_word, one_command}
use Rattle.sysin_read.proofs.OneFault.{head_told_once, command_told_once}

-- ---- readings that tell the same

abbrev SameOutline : Outline → Outline → Type 0
SameOutline o p = (open_in o ≡ open_in p) × (o.commands ≡ p.commands)

-- all but what runs is the same
record Alike (a b : TextReading) : Type 0 where
  place : a.place ≡ b.place
  outline : SameOutline a.outline b.outline

alike_with : (o p : Outline) (place other : TextPlace) (a b : TextReading) → SameOutline o p → place ≡ other → a ≡ record { outline = o; place = place } → b ≡ record { outline = p; place = other } → Alike a b
alike_with o p place other a b same e x y = record {
  place = ap (λ (r : TextReading). r.place) x ∙ e ∙ sym (ap (λ (r : TextReading). r.place) y);
  outline = (
    ap (λ (r : TextReading). open_in r.outline) x ∙ same.0 ∙ sym (ap (λ (r : TextReading). open_in r.outline) y),
    ap (λ (r : TextReading). r.outline.commands) x ∙ same.1 ∙ sym (ap (λ (r : TextReading). r.outline.commands) y),
  );
}

same_outline : (o p : Outline) (f g : List Frame) (s t : List Step) (m n : ℕ) → IsOutline o f s m → IsOutline p g t n → f ≡ g → m ≡ n → SameOutline o p
same_outline o p f g s t m n (a, b, c) (d, e, h) frames' counts = (a ∙ frames' ∙ sym d, c ∙ counts ∙ sym h)

-- ---- where a statement begins

abbrev StartsWith : Lead → Outline → TextReading → Type 0
StartsWith leads.Set o new = new ≡ record { outline = o; place = places.Head head_places.Set }
StartsWith leads.If o new = new ≡ record { outline = o; place = places.Head head_places.If }
StartsWith leads.Do o new = (new.place ≡ places.Block) × IsOutline new.outline (frames.Do ∷ open_in o) o.steps o.commands
StartsWith (leads.Command verb) o new = new ≡ record { outline = o; place = places.Command (start_behind verb) }

by_lead : (o : Outline) (placed : Placed) (new : TextReading) → StartGoes o placed new → (lead : Lead) × IsLead lead placed × StartsWith lead o new
by_lead o placed new (inl (s, x)) = (leads.Set, s, x)
by_lead o placed new (inr (inl (s, few, x))) = (leads.If, s, x)
by_lead o placed new (inr (inr (inl (s, few, x, is)))) = (leads.Do, s, (x, is))
by_lead o placed new (inr (inr (inr (verb, s, few, x)))) = (leads.Command verb, s, x)

one_started : (lead : Lead) (o p : Outline) (a b : TextReading) → SameOutline o p → StartsWith lead o a → StartsWith lead p b → Alike a b
one_started leads.Set o p a b same x y = alike_with o p (places.Head head_places.Set) (places.Head head_places.Set) a b same refl x y
one_started leads.If o p a b same x y = alike_with o p (places.Head head_places.If) (places.Head head_places.If) a b same refl x y
one_started leads.Do o p a b same (e, x) (f, y) =
    record { place = e ∙ sym f; outline = same_outline a.outline b.outline (frames.Do ∷ open_in o) (frames.Do ∷ open_in p) o.steps p.steps o.commands p.commands x y (ap (λ (l : List Frame). frames.Do ∷ l) same.0) same.1 }
one_started (leads.Command verb) o p a b same x y = alike_with o p (places.Command (start_behind verb)) (places.Command (start_behind verb)) a b same refl x y

one_start : (o p : Outline) (placed : Placed) (a b : TextReading) → SameOutline o p → StartGoes o placed a → StartGoes p placed b → Alike a b
one_start o p placed a b same x y =
    let s = by_lead o placed a x in
    let t = by_lead p placed b y in
    one_started t.0 o p a b same (subst (λ (l : Lead). StartsWith l o a) (one_lead placed s.0 t.0 s.1 t.1) s.2) t.2

-- ---- behind a statement

one_else : (o p : Outline) (placed : Placed) (a b : TextReading) → SameOutline o p → ElseGoes o placed a → ElseGoes p placed b → Alike a b
one_else o p placed a b same (e, w, x, s) (f, v, y, t) =
    record { place = x ∙ sym y; outline = same_outline a.outline b.outline _ _ _ _ _ _ s t (ap (λ (l : List Frame). frames.Else ∷ behind_then l) same.0) same.1 }

one_end : (o p : Outline) (placed : Placed) (a b : TextReading) → SameOutline o p → EndGoes o placed a → EndGoes p placed b → Alike a b
one_end o p placed a b same (l, e, w, x, s) (m, f, v, y, t) =
    let both : frames.Do ∷ l ≡ frames.Do ∷ m = sym w ∙ ap around same.0 ∙ v in
    let outer : l ≡ m = cc in
    record { place = x ∙ sym y; outline = same_outline a.outline b.outline l m _ _ _ _ s t outer same.1 }

one_next : (o p : Outline) (placed : Placed) (a b : TextReading) → SameOutline o p → NextGoes o placed a → NextGoes p placed b → Alike a b
one_next o p placed a b same (c, s, is, x) (d, t, also, y) =
    one_start c d placed a b (same_outline c d _ _ _ _ _ _ is also (ap around same.0) same.1) x y

not_else_next : (o p : Outline) (placed : Placed) (a b : TextReading) → ElseGoes o placed a → NextGoes p placed b → ⊥
not_else_next o p placed a b x (c, s, is, y) = let t = by_lead c placed b y in else_leads_none placed t.0 x.0 t.1

not_end_next : (o p : Outline) (placed : Placed) (a b : TextReading) → EndGoes o placed a → NextGoes p placed b → ⊥
not_end_next o p placed a b x (c, s, is, y) = let t = by_lead c placed b y in end_leads_none placed t.0 x.1 t.1

one_ended : (o p : Outline) (placed : Placed) (a b : TextReading) → SameOutline o p → EndedGoes o placed a → EndedGoes p placed b → Alike a b
one_ended o p placed a b same (inl x) (inl y) = one_else o p placed a b same x y
one_ended o p placed a b same (inl x) (inr (inl y)) = absurd (else_is_not_end placed x.0 y.1)
one_ended o p placed a b same (inl x) (inr (inr y)) = absurd (not_else_next o p placed a b x y)
one_ended o p placed a b same (inr (inl x)) (inl y) = absurd (else_is_not_end placed y.0 x.1)
one_ended o p placed a b same (inr (inl x)) (inr (inl y)) = one_end o p placed a b same x y
one_ended o p placed a b same (inr (inl x)) (inr (inr y)) = absurd (not_end_next o p placed a b x y)
one_ended o p placed a b same (inr (inr x)) (inl y) = absurd (not_else_next p o placed b a y x)
one_ended o p placed a b same (inr (inr x)) (inr (inl y)) = absurd (not_end_next p o placed b a y x)
one_ended o p placed a b same (inr (inr x)) (inr (inr y)) = one_next o p placed a b same x y

-- ---- within SET and IF

says_one : {X : Type 0} (says : List ℕ → X) (a b : X) (token : Token) → IsWordFor says a token → IsWordFor says b token → a ≡ b
says_one {X} says a b token (v, e, s) (w, f, t) = sym s ∙ ap says (one_word token v w e f) ∙ t

set_is_not_if : (token : Token) → IsWordFor lead_of (Some leads.Set) token → IsWordFor lead_of (Some leads.If) token → ⊥
set_is_not_if token x y = let both : Some leads.Set ≡ Some leads.If = says_one lead_of (Some leads.Set) (Some leads.If) token x y in cc

one_head : (old a b : HeadPlace) (token : Token) → HeadGoes old token a → HeadGoes old token b → a ≡ b
one_head head_places.Start a b token (inl (s, x)) (inl (t, y)) = x ∙ sym y
one_head head_places.Start a b token (inl (s, x)) (inr (t, y)) = absurd (set_is_not_if token s t)
one_head head_places.Start a b token (inr (s, x)) (inl (t, y)) = absurd (set_is_not_if token t s)
one_head head_places.Start a b token (inr (s, x)) (inr (t, y)) = x ∙ sym y
one_head head_places.Set a b token (m, s, x) (n, t, y) = x ∙ ap head_places.SetName (same_Some m n (says_one which_of (Some m) (Some n) token s t)) ∙ sym y
one_head (head_places.SetName which) a b token (s, x) (t, y) = x ∙ sym y
one_head (head_places.SetSign which) a b token (m, s, x) (n, t, y) =
    x ∙ ap (λ (c : ℕ). head_places.Ended (heads.Set which c)) (same_Some m n (says_one code_of (Some m) (Some n) token s t)) ∙ sym y
one_head head_places.If a b token (m, s, x) (n, t, y) = x ∙ ap head_places.IfName (same_Some m n (says_one which_of (Some m) (Some n) token s t)) ∙ sym y
one_head (head_places.IfName which) a b token (m, s, x) (n, t, y) = x ∙ ap (λ (o : Op). head_places.IfOp which o) (same_Some m n (sym s ∙ t)) ∙ sym y
one_head (head_places.IfOp which op) a b token (m, s, x) (n, t, y) =
    x ∙ ap (λ (c : ℕ). head_places.IfCode which op c) (same_Some m n (says_one code_of (Some m) (Some n) token s t)) ∙ sym y
one_head (head_places.IfCode which op code) a b token (s, x) (t, y) = x ∙ sym y
one_head (head_places.Ended head) a b token x y = absurd x

one_led : (head : HeadPlace) (o p : Outline) (a b : TextReading) → SameOutline o p → HeadLeads o head a → HeadLeads p head b → Alike a b
one_led (head_places.Ended (heads.Set which code)) o p a b same (e, x) (f, y) = record { place = e ∙ sym f; outline = same_outline a.outline b.outline _ _ _ _ _ _ x y same.0 same.1 }
one_led (head_places.Ended (heads.If which op code)) o p a b same (e, x) (f, y) =
    record { place = e ∙ sym f; outline = same_outline a.outline b.outline _ _ _ _ _ _ x y (ap (λ (l : List Frame). frames.Then ∷ l) same.0) same.1 }
one_led head_places.Start o p a b same x y = alike_with o p _ _ a b same refl x y
one_led head_places.Set o p a b same x y = alike_with o p _ _ a b same refl x y
one_led (head_places.SetName which) o p a b same x y = alike_with o p _ _ a b same refl x y
one_led (head_places.SetSign which) o p a b same x y = alike_with o p _ _ a b same refl x y
one_led head_places.If o p a b same x y = alike_with o p _ _ a b same refl x y
one_led (head_places.IfName which) o p a b same x y = alike_with o p _ _ a b same refl x y
one_led (head_places.IfOp which op) o p a b same x y = alike_with o p _ _ a b same refl x y
one_led (head_places.IfCode which op code) o p a b same x y = alike_with o p _ _ a b same refl x y

-- ---- all places

one_within : (reading : CommandReading) (o p : Outline) (placed : Placed) (a b : TextReading) → SameOutline o p → WithinGoes o reading placed a → WithinGoes p reading placed b → Alike a b
one_within reading o p placed a b same (inl (never, (m, g, x))) (inl (none, (n, h, y))) =
    alike_with o p (places.Command m) (places.Command n) a b same (ap places.Command (one_command reading m n placed.token g h)) x y
one_within reading o p placed a b same (inl (never, x)) (inr (ends, y)) = absurd (never ends)
one_within reading o p placed a b same (inr (ends, x)) (inl (never, y)) = absurd (never ends)
one_within reading o p placed a b same (inr (ends, (c, q, g, is, x))) (inr (end, (d, r, h, also, y))) =
    one_ended q r placed a b (same_outline q r _ _ _ _ _ _ is also same.0 (ap (λ (n : ℕ). n + 1) same.1)) x y

one_block : (o p : Outline) (placed : Placed) (a b : TextReading) → SameOutline o p → EndGoes o placed a ⊎ StartGoes o placed a → EndGoes p placed b ⊎ StartGoes p placed b → Alike a b
one_block o p placed a b same (inl x) (inl y) = one_end o p placed a b same x y
one_block o p placed a b same (inl x) (inr y) = let t = by_lead p placed b y in absurd (end_leads_none placed t.0 x.1 t.1)
one_block o p placed a b same (inr x) (inl y) = let t = by_lead o placed a x in absurd (end_leads_none placed t.0 y.1 t.1)
one_block o p placed a b same (inr x) (inr y) = one_start o p placed a b same x y

one_at : (place : TextPlace) (o p : Outline) (placed : Placed) (a b : TextReading) → SameOutline o p → GoesAt place o placed a → GoesAt place p placed b → Alike a b
one_at places.Text o p placed a b same x y = one_start o p placed a b same x y
one_at places.Part o p placed a b same x y = one_start o p placed a b same x y
one_at places.Block o p placed a b same x y = one_block o p placed a b same x y
one_at places.Ended o p placed a b same x y = one_ended o p placed a b same x y
one_at (places.Head head) o p placed a b same (s, (m, g, x)) (t, (n, h, y)) =
    one_led n o p a b same (subst (λ (z : HeadPlace). HeadLeads o z a) (one_head head m n placed.token g h) x) y
one_at (places.Command reading) o p placed a b same x y = one_within reading o p placed a b same x y

one_step : (r s a b : TextReading) (placed : Placed) → Alike r s → TextGoes r placed a → TextGoes s placed b → Alike a b
one_step r s a b placed same x y = one_at s.place r.outline s.outline placed a b same.outline (subst (λ (z : TextPlace). GoesAt z r.outline placed a) same.place x) y

one_run : (list : List Placed) (r s a b : TextReading) → Alike r s → Leads r list a → Leads s list b → Alike a b
one_run [] r s a b same x y = subst (λ (z : TextReading). Alike a z) (sym y) (subst (λ (z : TextReading). Alike z s) (sym x) same)
one_run (placed ∷ list) r s a b same (m, g, x) (n, h, y) = one_run list m n a b (one_step r s m n placed same g h) x y

-- ---- why a token is wrong

both_ways : (b : Bool) → b ≡ true → b ≡ false → ⊥
both_ways b e f = let both : true ≡ false = sym e ∙ f in cc

deep_lead : (f : List Frame) (placed : Placed) → IsTooDeep f placed → (lead : Lead) × IsLead lead placed × ((verb : Verb) → ¬ (lead ≡ leads.Command verb))
deep_lead f placed (inl s, many) = (leads.If, s, λ verb e. cc)
deep_lead f placed (inr s, many) = (leads.Do, s, λ verb e. cc)

deep_or_many : (f : List Frame) (count : ℕ) (placed : Placed) → IsTooDeep f placed → IsTooMany count placed → ⊥
deep_or_many f count placed deep ((verb, s), many) = let d = deep_lead f placed deep in d.2 verb (one_lead placed d.0 (leads.Command verb) d.1 s)

abbrev Starts : List Frame → ℕ → Placed → Why → Type 0
Starts f count placed why =
    (IsTooDeep f placed × (why ≡ whys.Nesting)) ⊎ ((IsTooMany count placed × (why ≡ whys.Count)) ⊎ (((lead : Lead) → ¬ IsLead lead placed) × (why ≡ whys.Word)))

starts : (f : List Frame) (count : ℕ) (placed : Placed) (why : Why) → StartStops f count placed why → Starts f count placed why
starts f count placed whys.Twice x = absurd x
starts f count placed whys.Nesting x = inl (x, refl)
starts f count placed whys.Count x = inr (inl (x, refl))
starts f count placed whys.Missing x = absurd x
starts f count placed whys.Value x = absurd x
starts f count placed whys.Word x = inr (inr (x, refl))

one_of_starts : (f : List Frame) (count : ℕ) (placed : Placed) (why other : Why) → Starts f count placed why → Starts f count placed other → why ≡ other
one_of_starts f count placed why other (inl (d, x)) (inl (e, y)) = x ∙ sym y
one_of_starts f count placed why other (inl (d, x)) (inr (inl (m, y))) = absurd (deep_or_many f count placed d m)
one_of_starts f count placed why other (inl (d, x)) (inr (inr (none, y))) = let l = deep_lead f placed d in absurd (none l.0 l.1)
one_of_starts f count placed why other (inr (inl (m, x))) (inl (d, y)) = absurd (deep_or_many f count placed d m)
one_of_starts f count placed why other (inr (inl (m, x))) (inr (inl (n, y))) = x ∙ sym y
one_of_starts f count placed why other (inr (inl (m, x))) (inr (inr (none, y))) = absurd (none (leads.Command m.0.0) m.0.1)
one_of_starts f count placed why other (inr (inr (none, x))) (inl (d, y)) = let l = deep_lead f placed d in absurd (none l.0 l.1)
one_of_starts f count placed why other (inr (inr (none, x))) (inr (inl (m, y))) = absurd (none (leads.Command m.0.0) m.0.1)
one_of_starts f count placed why other (inr (inr (none, x))) (inr (inr (never, y))) = x ∙ sym y

start_once : (f : List Frame) (count : ℕ) (placed : Placed) (why other : Why) → StartStops f count placed why → StartStops f count placed other → why ≡ other
start_once f count placed why other x y = one_of_starts f count placed why other (starts f count placed why x) (starts f count placed other y)

abbrev BeginsNone : List Frame → ℕ → Placed → Why → Type 0
BeginsNone f count placed why = ((placed.starts ≡ true) × StartStops (around f) count placed why) ⊎ ((placed.starts ≡ false) × (why ≡ whys.Word))

begin_once : (f : List Frame) (count : ℕ) (placed : Placed) (why other : Why) → BeginsNone f count placed why → BeginsNone f count placed other → why ≡ other
begin_once f count placed why other (inl (s, x)) (inl (t, y)) = start_once (around f) count placed why other x y
begin_once f count placed why other (inl (s, x)) (inr (t, y)) = absurd (both_ways placed.starts s t)
begin_once f count placed why other (inr (s, x)) (inl (t, y)) = absurd (both_ways placed.starts t s)
begin_once f count placed why other (inr (s, x)) (inr (t, y)) = x ∙ sym y

ended_once : (f : List Frame) (count : ℕ) (placed : Placed) (why other : Why) → EndedStops f count placed why → EndedStops f count placed other → why ≡ other
ended_once f count placed why other (inl (e, w, x)) (inl (d, v, y)) = x ∙ sym y
ended_once f count placed why other (inl (e, w, x)) (inr (inl (d, v, y))) = x ∙ sym y
ended_once f count placed why other (inl (e, w, x)) (inr (inr (never, none, y))) = absurd (never e)
ended_once f count placed why other (inr (inl (e, w, x))) (inl (d, v, y)) = x ∙ sym y
ended_once f count placed why other (inr (inl (e, w, x))) (inr (inl (d, v, y))) = x ∙ sym y
ended_once f count placed why other (inr (inl (e, w, x))) (inr (inr (never, none, y))) = absurd (none e)
ended_once f count placed why other (inr (inr (never, none, x))) (inl (d, v, y)) = absurd (never d)
ended_once f count placed why other (inr (inr (never, none, x))) (inr (inl (d, v, y))) = absurd (none d)
ended_once f count placed why other (inr (inr (never, none, x))) (inr (inr (no_else, no_end, y))) = begin_once f count placed why other x y

unfinished_once : (f : List Frame) (count : ℕ) (placed : Placed) (known also why other : Why) → known ≡ also → EndsUnfinished f count placed known why → EndsUnfinished f count placed also other → why ≡ other
unfinished_once f count placed known also why other e (inl (s, d, x)) (inl (t, c, y)) = x ∙ sym y
unfinished_once f count placed known also why other e (inl (s, d, x)) (inr (inl (t, m, y))) = absurd (deep_or_many (around f) count placed d m)
unfinished_once f count placed known also why other e (inl (s, d, x)) (inr (inr (none, y))) = let n = none s in absurd (n.0 d)
unfinished_once f count placed known also why other e (inr (inl (s, m, x))) (inl (t, d, y)) = absurd (deep_or_many (around f) count placed d m)
unfinished_once f count placed known also why other e (inr (inl (s, m, x))) (inr (inl (t, n, y))) = x ∙ sym y
unfinished_once f count placed known also why other e (inr (inl (s, m, x))) (inr (inr (none, y))) = let n = none s in absurd (n.1 m)
unfinished_once f count placed known also why other e (inr (inr (none, x))) (inl (t, d, y)) = let n = none t in absurd (n.0 d)
unfinished_once f count placed known also why other e (inr (inr (none, x))) (inr (inl (t, m, y))) = let n = none t in absurd (n.1 m)
unfinished_once f count placed known also why other e (inr (inr (none, x))) (inr (inr (never, y))) = x ∙ e ∙ sym y

abbrev Known : CommandReading → Why → Type 0
Known reading known =
    (((command : Command) → ¬ Makes reading.verb reading.operands command) × (known ≡ whys.Missing))
    ⊎ (((command : Command) × Makes reading.verb reading.operands command) × ((command : Command) → ¬ CommandGives reading command) × (known ≡ whys.Word))

known_as : (reading : CommandReading) (known : Why) → IsUnfinished reading known → Known reading known
known_as reading whys.Twice x = absurd x
known_as reading whys.Nesting x = absurd x
known_as reading whys.Count x = absurd x
known_as reading whys.Missing x = inl (x, refl)
known_as reading whys.Value x = absurd x
known_as reading whys.Word x = inr (x.0, x.1, refl)

known_once : (reading : CommandReading) (known also : Why) → Known reading known → Known reading also → known ≡ also
known_once reading known also (inl (none, x)) (inl (never, y)) = x ∙ sym y
known_once reading known also (inl (none, x)) (inr (made, never, y)) = absurd (none made.0 made.1)
known_once reading known also (inr (made, none, x)) (inl (never, y)) = absurd (never made.0 made.1)
known_once reading known also (inr (made, none, x)) (inr (one, never, y)) = x ∙ sym y

given_or_known : (reading : CommandReading) (known : Why) (command : Command) → CommandGives reading command → Known reading known → ⊥
given_or_known reading known command g (inl (none, x)) = none command g.1
given_or_known reading known command g (inr (made, none, x)) = none command g

behind_once : (f : List Frame) (count : ℕ) (reading : CommandReading) (placed : Placed) (why other : Why) → BehindStops f count reading placed why → BehindStops f count reading placed other → why ≡ other
behind_once f count reading placed why other (inl (g, x)) (inl (h, y)) = ended_once f count placed why other x y
behind_once f count reading placed why other (inl (g, x)) (inr (k, u, y)) = absurd (given_or_known reading k g.0 g.1 (known_as reading k u))
behind_once f count reading placed why other (inr (k, u, x)) (inl (h, y)) = absurd (given_or_known reading k h.0 h.1 (known_as reading k u))
behind_once f count reading placed why other (inr (k, u, x)) (inr (l, v, y)) =
    unfinished_once f count placed k l why other (known_once reading k l (known_as reading k u) (known_as reading l v)) x y

within_once : (f : List Frame) (count : ℕ) (reading : CommandReading) (placed : Placed) (why other : Why) → WithinStops f count reading placed why → WithinStops f count reading placed other → why ≡ other
within_once f count reading placed why other (inl (never, (k, s, x))) (inl (none, (l, t, y))) = command_told_once reading placed.token k l why other s t x y
within_once f count reading placed why other (inl (never, x)) (inr (ends, y)) = absurd (never ends)
within_once f count reading placed why other (inr (ends, x)) (inl (never, y)) = absurd (never ends)
within_once f count reading placed why other (inr (ends, x)) (inr (end, y)) = behind_once f (count + 1) reading placed why other x y

stop_once : (place : TextPlace) (f : List Frame) (count : ℕ) (placed : Placed) (why other : Why) → StopsAt place f count placed why → StopsAt place f count placed other → why ≡ other
stop_once places.Text f count placed why other x y = start_once f count placed why other x y
stop_once places.Block f count placed why other (never, x) (none, y) = start_once f count placed why other x y
stop_once places.Part f count placed why other x y = start_once f count placed why other x y
stop_once places.Ended f count placed why other x y = ended_once f count placed why other x y
stop_once (places.Head head) f count placed why other (inl (s, x)) (inl (t, y)) = unfinished_once f count placed whys.Word whys.Word why other refl x y
stop_once (places.Head head) f count placed why other (inl (s, x)) (inr (t, y)) = absurd (both_ways placed.starts s t)
stop_once (places.Head head) f count placed why other (inr (s, x)) (inl (t, y)) = absurd (both_ways placed.starts t s)
stop_once (places.Head head) f count placed why other (inr (s, (k, a, x))) (inr (t, (l, b, y))) = head_told_once head placed.token k l why other a b x y
stop_once (places.Command reading) f count placed why other x y = within_once f count reading placed why other x y

stops_as : (r s : TextReading) (placed : Placed) (why : Why) → Alike r s → TextStops r placed why → TextStops s placed why
stops_as r s placed why same x =
    subst (λ (n : ℕ). StopsAt s.place (open_in s.outline) n placed why) same.outline.1
    (subst (λ (l : List Frame). StopsAt s.place l r.outline.commands placed why) same.outline.0
    (subst (λ (p : TextPlace). StopsAt p (open_in r.outline) r.outline.commands placed why) same.place x))

pub one_why : (front : List Placed) (placed : Placed) (why other : Why) → IsWhy front placed why → IsWhy front placed other → why ≡ other
one_why front placed why other (r, x, s) (q, y, t) =
    let same = one_run front nothing_read nothing_read r q (record { place = refl; outline = (refl, refl) }) x y in
    stop_once q.place (open_in q.outline) q.outline.commands placed why other (stops_as r q placed why same s) t
