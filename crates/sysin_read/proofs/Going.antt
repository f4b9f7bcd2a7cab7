-- One more token is read right.
use Rattle.std.proofs.Common.{◌≡◌, inl, inr, ℕ, zero, suc, ◌+◌, ◌<◌, ◌≤◌, List, [], ◌∷◌, ◌++◌, length, refl, sym, ap, subst, ◌∙◌, false, append_assoc, arith}
use Rattle.std.proofs.lemmas.List.{map-append}
use Rattle.std.proofs.lemmas.List.Elements.{All-nil, All-push}
use Rattle.sysin_text.specs.declared.token.Token.{Token}
use Rattle.sysin_text.specs.declared.token.Placed.{Placed}
use Rattle.sysin_words.specs.declared.lead.Verb.{Verb}
use Rattle.sysin_words.specs.declared.lead.Lead.{Lead}
use Rattle.sysin_words.specs.declared.lead.Lead.TheVariants as leads
use Rattle.sysin_lang.specs.declared.command.Command.{Command}
use Rattle.sysin_lang.specs.declared.script.Step.{Step}
use Rattle.sysin_lang.specs.declared.script.Step.TheVariants as steps
use Rattle.sysin_heads.specs.declared.head.Head.{Head}
use Rattle.sysin_heads.specs.declared.head.Head.TheVariants as heads
use Rattle.sysin_heads.specs.declared.head.HeadPlace.{HeadPlace}
use Rattle.sysin_heads.specs.declared.head.HeadPlace.TheVariants as head_places
use Rattle.sysin_heads.specs.Reading as head_reading
use Rattle.sysin_heads.proofs.Exactness as head_laws
use Rattle.sysin_commands.specs.declared.command.CommandReading.{CommandReading}
use Rattle.sysin_commands.specs.CommandProgress.{CommandGives, CommandReads}
use Rattle.sysin_commands.proofs.Commands as command_laws
use Rattle.sysin_read.specs.declared.outline.Frame.{Frame}
use Rattle.sysin_read.specs.declared.outline.Frame.TheVariants as frames
use Rattle.sysin_read.specs.declared.outline.Outline.{Outline}
use Rattle.sysin_read.specs.declared.text.TextPlace.{TextPlace}
use Rattle.sysin_read.specs.declared.text.TextPlace.TheVariants as places
use Rattle.sysin_read.specs.declared.text.TextReading.{TextReading}
use Rattle.sysin_read.specs.Statement.{most_nested, most_commands, tokens_of, IsLead, IsEnd}
use Rattle.sysin_read.specs.Reading.{open_in, IsWithin, GoesOn, LeavesBlock, BeginsStatement, IsBegun, HasRoom, ReadsAt, TextReads}
use Rattle.sysin_read.specs.Why.{around}
use Rattle.sysin_read.specs.Progress.{closing, IsOutline, StartGoes, EndGoes, EndedGoes, HeadLeads, IsWithCommand, WithinGoes, GoesAt, TextGoes}
use Rattle.sysin_read.proofs.Words.{else_leads_none, end_leads_none, else_is_not_end, one_lead}
use Rattle.sysin_read.proofs.Blocks.{if_leads}
use Rattle.sysin_read.proofs.Ending.{room_around, room_stays, room_of_else, room_with_else}
use Rattle.sysin_read.proofs.Lines.{IsEnder, one_ender}
use Rattle.sysin_read.proofs.Moving.{MayRest, MayState, MayBlock, behind_command, behind_set, behind_if, behind_do, behind_else, around_it, behind_end, behind_empty, begins_block, begins_next, begins_text}
use Rattle.std.proofs.lemmas.Bool.{cases_Bool}

-- what holds of what an outline has holds of it
pub of_outline : (P : List Frame → List Step → ℕ → Type 0) (new : Outline) (open' : List Frame) (list : List Step) (count : ℕ) → IsOutline new open' list count → P open' list count
    → P (open_in new) new.steps new.commands
of_outline P new open' list count is p =
    subst (λ (o : List Frame). P o new.steps new.commands) (sym is.0) (subst (λ (s : List Step). P open' s new.commands) (sym is.1) (subst (λ (n : ℕ). P open' list n) (sym is.2) p))

abbrev Within : ℕ → List Frame → List Step → ℕ → Type 0
Within room open' list count = (room + length open' ≡ most_nested) × (count ≤ most_commands)

at_place : (new : TextReading) (place : TextPlace) (room : ℕ) (front : List Placed) → new.place ≡ place → IsWithin room new.outline → ReadsAt place room new.outline front → TextReads new front
at_place new place room front e within r = (room, within, subst (λ (p : TextPlace). ReadsAt p room new.outline front) (sym e) r)

-- ---- a statement begins

pub start_lead : (outline : Outline) (placed : Placed) (new : TextReading) → StartGoes outline placed new → (lead : Lead) × IsLead lead placed
start_lead outline placed new (inl s) = (leads.Set, s.0)
start_lead outline placed new (inr (inl s)) = (leads.If, s.0)
start_lead outline placed new (inr (inr (inl s))) = (leads.Do, s.0)
start_lead outline placed new (inr (inr (inr s))) = (leads.Command s.0, s.1)

begun : (room : ℕ) (outline : Outline) (front : List Placed) (placed : Placed) → BeginsStatement room outline front placed → IsBegun room outline front placed [] (front ++ placed ∷ [])
begun room outline front placed b = record { whole = refl; begins = b; line = All-nil (λ (p : Placed). p.starts ≡ false) }

do_goes : (room : ℕ) (outline : Outline) (front : List Placed) (placed : Placed) (new : TextReading) → IsWithin room outline → BeginsStatement room outline front placed → IsLead leads.Do placed
    → length (open_in outline) < most_nested → new.place ≡ places.Block → IsOutline new.outline (frames.Do ∷ open_in outline) outline.steps outline.commands → TextReads new (front ++ placed ∷ [])
do_goes zero outline front placed new within b lead deep e is =
    let all : 0 + length (open_in outline) ≡ 16 = within.0 in
    let few : length (open_in outline) < 16 = deep in
    absurd (omega (arith, all, few))
do_goes (suc room) outline front placed new within b lead deep e is =
    let all : suc room + length (open_in outline) ≡ 16 = within.0 in
    let now : room + length (frames.Do ∷ open_in outline) ≡ 16 = omega (arith, all) in
    at_place new places.Block room (front ++ placed ∷ []) e (of_outline (Within room) new.outline (frames.Do ∷ open_in outline) outline.steps outline.commands is (now, within.1)) (
      (open_in outline, is.0),
      of_outline (λ o s n. (list : List Placed) → GoesOn s (front ++ placed ∷ []) (MayBlock room o n) list) new.outline (frames.Do ∷ open_in outline) outline.steps outline.commands is
          (λ list. behind_do (open_in outline) outline.commands outline.steps front placed list room lead (b list)),
    )

pub start_goes : (room : ℕ) (outline : Outline) (front : List Placed) (placed : Placed) (new : TextReading) → IsWithin room outline → BeginsStatement room outline front placed
    → StartGoes outline placed new → TextReads new (front ++ placed ∷ [])
start_goes room outline front placed new within b (inl (lead, is)) =
    subst (λ (r : TextReading). TextReads r (front ++ placed ∷ [])) (sym is) (
      room,
      within,
      (
        front,
        placed,
        [],
        begun room outline front placed b,
        (lead.0, ap (λ (t : Token). t ∷ []) lead.1, lead.2),
        (λ other. let both : leads.Set ≡ leads.If = one_lead placed leads.Set leads.If lead other in cc),
        (λ said e. cc),
      ),
    )
start_goes room outline front placed new within b (inr (inl (lead, deep, is))) =
    let all : room + length (open_in outline) ≡ 16 = within.0 in
    let few : length (open_in outline) < 16 = deep in
    let some : 0 < room = omega (arith, all, few) in
    subst (λ (r : TextReading). TextReads r (front ++ placed ∷ [])) (sym is) (
      room,
      within,
      (front, placed, [], begun room outline front placed b, (lead.0, ap (λ (t : Token). t ∷ []) lead.1, lead.2), (λ other. some), (λ said e. cc)),
    )
start_goes room outline front placed new within b (inr (inr (inl (lead, deep, e, is)))) = do_goes room outline front placed new within b lead deep e is
start_goes room outline front placed new within b (inr (inr (inr (verb, lead, few, is)))) =
    subst (λ (r : TextReading). TextReads r (front ++ placed ∷ [])) (sym is)
    (room, within, (front, placed, [], begun room outline front placed b, lead, ((command_laws.exact verb).begins).1, few))

-- ---- behind a statement

-- such tokens stand behind a statement where the next is this
abbrev pub RestsAt : ℕ → Outline → List Placed → Placed → Type 0
RestsAt room outline front placed = (list : List Placed) → GoesOn outline.steps front (MayRest room (open_in outline) outline.commands) (placed ∷ list)

pub around_room : (room : ℕ) (outline : Outline) → IsWithin room outline → room_around room (open_in outline) + length (around (open_in outline)) ≡ most_nested
around_room room outline within = room_stays room (open_in outline) ∙ within.0

pub ended_goes : (room : ℕ) (outline : Outline) (front : List Placed) (placed : Placed) (new : TextReading) → IsWithin room outline → RestsAt room outline front placed → EndedGoes outline placed new
    → TextReads new (front ++ placed ∷ [])
ended_goes room outline front placed new within r (inl (is, wanted, e, io)) =
    let now = room_with_else room (open_in outline) wanted ∙ within.0 in
    at_place new places.Part (room_of_else room (open_in outline)) (front ++ placed ∷ []) e
    (of_outline (Within (room_of_else room (open_in outline))) new.outline _ _ _ io (now, within.1))
    (of_outline (λ o s n. (list : List Placed) → GoesOn s (front ++ placed ∷ []) (MayState (room_of_else room (open_in outline)) o n) list) new.outline _ _ _ io
    (λ list. behind_else (open_in outline) outline.commands outline.steps front placed list room is wanted (r list)))
ended_goes room outline front placed new within r (inr (inl (outer, is, ar, e, io))) =
    let ra = room_around room (open_in outline) in
    let all : ra + length (around (open_in outline)) ≡ 16 = around_room room outline within in
    let frames_are : length (around (open_in outline)) ≡ length (frames.Do ∷ outer) = ap length ar in
    let now : suc ra + length outer ≡ 16 = omega (arith, all, frames_are) in
    at_place new places.Ended (suc ra) (front ++ placed ∷ []) e (of_outline (Within (suc ra)) new.outline _ _ _ io (now, within.1))
    (of_outline (λ o s n. (list : List Placed) → GoesOn s (front ++ placed ∷ []) (MayRest (suc ra) o n) list) new.outline _ _ _ io
    (λ list. behind_end outer outline.commands (outline.steps ++ closing (open_in outline)) front placed list ra is
    (subst (λ (o : List Frame). GoesOn (outline.steps ++ closing (open_in outline)) front (MayRest ra o outline.commands) (placed ∷ list)) ar
    (around_it (open_in outline) outline.commands outline.steps front placed list room (λ other. else_is_not_end placed other is) (r list)))))
ended_goes room outline front placed new within r (inr (inr (closed, starts, io, s))) =
    let ra = room_around room (open_in outline) in
    let lead = start_lead closed placed new s in
    start_goes ra closed front placed new (of_outline (Within ra) closed _ _ _ io (around_room room outline within, within.1))
    (of_outline (λ o t n. (list : List Placed) → GoesOn t front (MayState ra o n) (placed ∷ list)) closed _ _ _ io
    (λ list. begins_next (open_in outline) outline.commands (outline.steps ++ closing (open_in outline)) front placed list ra (λ other. end_leads_none placed lead.0 other lead.1) starts
    (around_it (open_in outline) outline.commands outline.steps front placed list room (λ other. else_leads_none placed lead.0 other lead.1) (r list)))) s

-- ---- within a statement

one_more : (room : ℕ) (outline : Outline) (before : List Placed) (first : Placed) (more front : List Placed) (placed : Placed) → IsBegun room outline before first more front → placed.starts ≡ false
    → IsBegun room outline before first (more ++ placed ∷ []) (front ++ placed ∷ [])
one_more room outline before first more front placed b n = record {
  whole = ap (λ (f : List Placed). f ++ placed ∷ []) b.whole ∙ append_assoc before (first ∷ more) (placed ∷ []);
  begins = b.begins;
  line = All-push (λ (p : Placed). p.starts ≡ false) more placed b.line n;
}

pub with_token : (list : List Placed) (placed : Placed) → tokens_of (list ++ placed ∷ []) ≡ tokens_of list ++ placed.token ∷ []
with_token list placed = map-append (λ (p : Placed). p.token) list (placed ∷ [])

abbrev HeadFront : ℕ → Outline → HeadPlace → List Placed → Placed → List Placed → List Placed → Type 0
HeadFront room outline next before first text front = IsBegun room outline before first text front × head_reading.Reads next (tokens_of (first ∷ text)) × HasRoom room first

still : (room : ℕ) (outline : Outline) (next : HeadPlace) (before : List Placed) (first : Placed) (text front : List Placed) (new : TextReading) → IsWithin room outline
    → HeadFront room outline next before first text front → ((said : Head) → ¬ (next ≡ head_places.Ended said)) → new ≡ record { outline = outline; place = places.Head next } → TextReads new front
still room outline next before first text front new within (b, reads, has) n is =
    subst (λ (r : TextReading). TextReads r front) (sym is) (room, within, (before, first, text, b, reads, has, n))

if_goes : (room : ℕ) (outline : Outline) (which : _) (op : _) (code : ℕ) (before : List Placed) (first : Placed) (text front : List Placed) (new : TextReading) → IsWithin room outline
    → HeadFront room outline (head_places.Ended (heads.If which op code)) before first text front → new.place ≡ places.Part
    → IsOutline new.outline (frames.Then ∷ open_in outline) (outline.steps ++ steps.If which op code ∷ []) outline.commands → TextReads new front
if_goes zero outline which op code before first text front new within (b, reads, has) e io =
    let some : 0 < 0 = has (if_leads which op code first (tokens_of text) reads) in absurd (omega (arith, some))
if_goes (suc room) outline which op code before first text front new within (b, reads, has) e io =
    let all : suc room + length (open_in outline) ≡ 16 = within.0 in
    let now : room + length (frames.Then ∷ open_in outline) ≡ 16 = omega (arith, all) in
    at_place new places.Part room front e (of_outline (Within room) new.outline _ _ _ io (now, within.1))
    (of_outline (λ o s n. (list : List Placed) → GoesOn s front (MayState room o n) list) new.outline _ _ _ io
    (λ list. subst (λ (f : List Placed). GoesOn (outline.steps ++ steps.If which op code ∷ []) f (MayState room (frames.Then ∷ open_in outline) outline.commands) list) (sym b.whole)
    (behind_if room (open_in outline) outline.commands first text list which op code b.line reads outline.steps before (b.begins (text ++ list)))))

set_goes : (room : ℕ) (outline : Outline) (which : _) (code : ℕ) (before : List Placed) (first : Placed) (text front : List Placed) (new : TextReading) → IsWithin room outline
    → HeadFront room outline (head_places.Ended (heads.Set which code)) before first text front → new.place ≡ places.Ended
    → IsOutline new.outline (open_in outline) (outline.steps ++ steps.Set which code ∷ []) outline.commands → TextReads new front
set_goes room outline which code before first text front new within (b, reads, has) e io =
    at_place new places.Ended room front e (of_outline (Within room) new.outline _ _ _ io within)
    (of_outline (λ o s n. (list : List Placed) → GoesOn s front (MayRest room o n) list) new.outline _ _ _ io
    (λ list. subst (λ (f : List Placed). GoesOn (outline.steps ++ steps.Set which code ∷ []) f (MayRest room (open_in outline) outline.commands) list) (sym b.whole)
    (behind_set room (open_in outline) outline.commands first text list which code b.line reads outline.steps before (b.begins (text ++ list)))))

head_leads : (room : ℕ) (outline : Outline) (next : HeadPlace) (before : List Placed) (first : Placed) (text front : List Placed) (new : TextReading) → IsWithin room outline
    → HeadFront room outline next before first text front → HeadLeads outline next new → TextReads new front
head_leads room outline (head_places.Ended (heads.Set which code)) before first text front new within b l = set_goes room outline which code before first text front new within b l.0 l.1
head_leads room outline (head_places.Ended (heads.If which op code)) before first text front new within b l = if_goes room outline which op code before first text front new within b l.0 l.1
head_leads room outline head_places.Start before first text front new within b l = still room outline head_places.Start before first text front new within b (λ said e. cc) l
head_leads room outline head_places.Set before first text front new within b l = still room outline head_places.Set before first text front new within b (λ said e. cc) l
head_leads room outline (head_places.SetName which) before first text front new within b l = still room outline (head_places.SetName which) before first text front new within b (λ said e. cc) l
head_leads room outline (head_places.SetSign which) before first text front new within b l = still room outline (head_places.SetSign which) before first text front new within b (λ said e. cc) l
head_leads room outline head_places.If before first text front new within b l = still room outline head_places.If before first text front new within b (λ said e. cc) l
head_leads room outline (head_places.IfName which) before first text front new within b l = still room outline (head_places.IfName which) before first text front new within b (λ said e. cc) l
head_leads room outline (head_places.IfOp which op) before first text front new within b l = still room outline (head_places.IfOp which op) before first text front new within b (λ said e. cc) l
head_leads room outline (head_places.IfCode which op code) before first text front new within b l =
    still room outline (head_places.IfCode which op code) before first text front new within b (λ said e. cc) l

-- a command that is whole, and what stands behind it where the next token is this
pub command_rests : (room : ℕ) (outline : Outline) (reading : CommandReading) (command : Command) (ended : Outline) (before : List Placed) (first : Placed) (more front : List Placed) (placed : Placed)
    → IsBegun room outline before first more front → IsLead (leads.Command reading.verb) first → CommandReads reading (tokens_of more) → CommandGives reading command
    → IsWithCommand outline command ended → IsEnder placed → RestsAt room ended front placed
command_rests room outline reading command ended before first more front placed b lead reads gives io ender =
    of_outline (λ o s n. (list : List Placed) → GoesOn s front (MayRest room o n) (placed ∷ list)) ended _ _ _ io
    (λ list. subst (λ (f : List Placed). GoesOn (outline.steps ++ steps.Run (record { number = outline.commands + 1; command = command }) ∷ []) f (MayRest room (open_in outline) (outline.commands + 1)) (placed ∷ list))
    (sym b.whole)
    (behind_command room (open_in outline) outline.commands first more (placed ∷ list) reading.verb command lead b.line
    ((command_laws.exact reading.verb).spelled reading (tokens_of more) command (refl, reads) gives) outline.steps before (one_ender placed list ender) (b.begins (more ++ placed ∷ list))))

pub within_command : (room : ℕ) (outline : Outline) (command : Command) (ended : Outline) → IsWithin room outline → outline.commands < most_commands → IsWithCommand outline command ended → IsWithin room ended
within_command room outline command ended within few io =
    let less : outline.commands < 999 = few in
    let now : outline.commands + 1 ≤ 999 = omega (arith, less) in
    of_outline (Within room) ended _ _ _ io (within.0, now)

ended_ender : (outline : Outline) (placed : Placed) (new : TextReading) → EndedGoes outline placed new → IsEnder placed
ended_ender outline placed new (inl g) = inl g.0
ended_ender outline placed new (inr (inl g)) = inr (inl g.1)
ended_ender outline placed new (inr (inr (closed, starts, io, s))) = inr (inr (starts, start_lead closed placed new s))

within_goes : (room : ℕ) (outline : Outline) (reading : CommandReading) (before : List Placed) (first : Placed) (more front : List Placed) (placed : Placed) (new : TextReading) → IsWithin room outline
    → IsBegun room outline before first more front → IsLead (leads.Command reading.verb) first → CommandReads reading (tokens_of more) → outline.commands < most_commands → WithinGoes outline reading placed new
    → TextReads new (front ++ placed ∷ [])
within_goes room outline reading before first more front placed new within b lead reads few (inl (n, (next, g, is))) =
    let starts : placed.starts ≡ false = elim (cases_Bool placed.starts) as (λ _. placed.starts ≡ false) [ inl t ↦ absurd (n (inl t)) | inr f ↦ f ] in
    let now = (command_laws.exact reading.verb).goes reading next (tokens_of more) placed.token (refl, reads) g in
    subst (λ (r : TextReading). TextReads r (front ++ placed ∷ [])) (sym is) (
      room,
      within,
      (
        before,
        first,
        more ++ placed ∷ [],
        one_more room outline before first more front placed b starts,
        subst (λ (v : Verb). IsLead (leads.Command v) first) (sym now.0) lead,
        subst (λ (t : List Token). CommandReads next t) (sym (with_token more placed)) now.1,
        few,
      ),
    )
within_goes room outline reading before first more front placed new within b lead reads few (inr (ends, (command, ended, gives, io, g))) =
    ended_goes room ended front placed new (within_command room outline command ended within few io)
    (command_rests room outline reading command ended before first more front placed b lead reads gives io (ended_ender ended placed new g)) g

-- ---- all places

pub begins_fresh : (room : ℕ) (outline : Outline) (front : List Placed) (placed : Placed) → IsWithin room outline → (outline.frames ≡ []) → (outline.steps ≡ []) → (outline.commands ≡ 0) → front ≡ []
    → BeginsStatement room outline front placed
begins_fresh room outline front placed within f s c e =
    let none : open_in outline ≡ [] = ap Rattle.std.specs.Prelude.reverse f in
    let size : length (open_in outline) ≡ 0 = ap length none in
    let all : room + length (open_in outline) ≡ 16 = within.0 in
    let room_is : 16 ≡ room = omega (arith, all, size) in
    of_outline (λ o t n. (list : List Placed) → GoesOn t front (MayState room o n) (placed ∷ list)) outline [] [] 0 (none, s, c)
    (λ list. subst (λ (l : List Placed). GoesOn [] l (MayState room [] 0) (placed ∷ list)) (sym e)
    (subst (λ (r : ℕ). GoesOn [] [] (MayState r [] 0) (placed ∷ list)) room_is (begins_text placed list)))

pub begins_in_block : (room : ℕ) (outline : Outline) (outer : List Frame) (front : List Placed) (placed : Placed) → open_in outline ≡ frames.Do ∷ outer → LeavesBlock room outline front → ¬ IsEnd placed
    → BeginsStatement room outline front placed
begins_in_block room outline outer front placed e b n =
    of_outline (λ o t k. (list : List Placed) → GoesOn t front (MayState room o k) (placed ∷ list)) outline (frames.Do ∷ outer) outline.steps outline.commands (e, refl, refl)
    (λ list. begins_block outer outline.commands outline.steps front placed list room n
    (subst (λ (o : List Frame). GoesOn outline.steps front (MayBlock room o outline.commands) (placed ∷ list)) e (b (placed ∷ list))))

end_goes : (room : ℕ) (outline : Outline) (outer : List Frame) (front : List Placed) (placed : Placed) (new : TextReading) → IsWithin room outline → open_in outline ≡ frames.Do ∷ outer
    → LeavesBlock room outline front → EndGoes outline placed new → TextReads new (front ++ placed ∷ [])
end_goes room outline outer front placed new within e b (found, is, ar, place, io) =
    let same : frames.Do ∷ outer ≡ frames.Do ∷ found = sym (ap around e) ∙ ar in
    let tails : found ≡ outer = cc in
    let empty : closing (open_in outline) ≡ [] = ap closing e in
    let all : room + length (open_in outline) ≡ 16 = within.0 in
    let size : length (open_in outline) ≡ length (frames.Do ∷ outer) = ap length e in
    let now : suc room + length outer ≡ 16 = omega (arith, all, size) in
    let steps_are : new.outline.steps ≡ outline.steps = io.1 ∙ ap (λ (s : List Step). outline.steps ++ s) empty ∙ Rattle.std.proofs.Common.append-nil outline.steps in
    at_place new places.Ended (suc room) (front ++ placed ∷ []) place (of_outline (Within (suc room)) new.outline outer outline.steps outline.commands (io.0 ∙ tails, steps_are, io.2) (now, within.1))
    (of_outline (λ o s n. (list : List Placed) → GoesOn s (front ++ placed ∷ []) (MayRest (suc room) o n) list) new.outline outer outline.steps outline.commands (io.0 ∙ tails, steps_are, io.2)
    (λ list. behind_empty outer outline.commands outline.steps front placed list room is
    (subst (λ (o : List Frame). GoesOn outline.steps front (MayBlock room o outline.commands) (placed ∷ list)) e (b (placed ∷ list)))))

goes_at : (place : TextPlace) (room : ℕ) (outline : Outline) (front : List Placed) (placed : Placed) (new : TextReading) → IsWithin room outline → ReadsAt place room outline front
    → GoesAt place outline placed new → TextReads new (front ++ placed ∷ [])
goes_at places.Text room outline front placed new within ((f, s, c), e) g =
    start_goes room outline front placed new within (begins_fresh room outline front placed within f s c e) g
goes_at places.Part room outline front placed new within r g = start_goes room outline front placed new within (λ list. r (placed ∷ list)) g
goes_at places.Block room outline front placed new within ((outer, e), b) (inl g) = end_goes room outline outer front placed new within e b g
goes_at places.Block room outline front placed new within ((outer, e), b) (inr g) =
    let lead = start_lead outline placed new g in
    start_goes room outline front placed new within (begins_in_block room outline outer front placed e b (λ is. end_leads_none placed lead.0 is lead.1)) g
goes_at places.Ended room outline front placed new within r g = ended_goes room outline front placed new within (λ list. r (placed ∷ list)) g
goes_at (places.Head head) room outline front placed new within (before, first, more, b, reads, has, n) (starts, (next, g, l)) =
    let now = head_laws.exact.goes head next (tokens_of (first ∷ more)) placed.token reads g in
    head_leads room outline next before first (more ++ placed ∷ []) (front ++ placed ∷ []) new within
    (one_more room outline before first more front placed b starts, subst (λ (t : List Token). head_reading.Reads next (first.token ∷ t)) (sym (with_token more placed)) now, has) l
goes_at (places.Command reading) room outline front placed new within (before, first, more, b, lead, reads, few) g =
    within_goes room outline reading before first more front placed new within b lead reads few g

pub goes : (old new : TextReading) (front : List Placed) (placed : Placed) → TextReads old front → TextGoes old placed new → TextReads new (front ++ placed ∷ [])
goes old new front placed (room, within, r) g = goes_at old.place room old.outline front placed new within r g
