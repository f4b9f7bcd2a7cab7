-- What is given at the end of a text is spelled, and what is spelled is given.
use Rattle.std.proofs.Common.{◌≡◌, ◌⊎◌, inl, inr, ℕ, ◌+◌, ◌≤◌, List, [], ◌∷◌, ◌++◌, length, refl, sym, ap, subst, ◌∙◌, true, append-nil, arith}
use Rattle.std.specs.Prelude.{reverse, IfOk, IfErr, Result}
use Rattle.std.proofs.lemmas.Result.{IfOk-weaker}
use Rattle.sysin_text.specs.declared.token.Placed.{Placed}
use Rattle.sysin_words.specs.declared.lead.Lead.TheVariants as leads
use Rattle.sysin_lang.specs.declared.command.Command.{Command}
use Rattle.sysin_lang.specs.declared.script.Step.{Step}
use Rattle.sysin_lang.specs.declared.script.Step.TheVariants as steps
use Rattle.sysin_lang.specs.declared.script.Script.{Script}
use Rattle.sysin_lang.specs.Flow.{Plan, Done}
use Rattle.sysin_lang.specs.Script.{first_plan, later_plans, plans_at, plans_of, plan_of, plan_of_script}
use Rattle.sysin_heads.specs.declared.head.Head.{Head}
use Rattle.sysin_heads.specs.declared.head.HeadPlace.{HeadPlace}
use Rattle.sysin_heads.specs.Head.{IsHead}
use Rattle.sysin_heads.specs.Reading as head_reading
use Rattle.sysin_heads.proofs.Exactness as head_laws
use Rattle.sysin_commands.specs.declared.command.CommandReading.{CommandReading}
use Rattle.sysin_commands.specs.CommandProgress.{CommandReads, CommandGives}
use Rattle.sysin_commands.specs.Command.{IsCommand}
use Rattle.sysin_commands.proofs.Commands as command_laws
use Rattle.sysin_read.specs.declared.fault.Stop.{Stop}
use Rattle.sysin_read.specs.declared.fault.Why.TheVariants as whys
use Rattle.sysin_read.specs.declared.outline.Frame.{Frame}
use Rattle.sysin_read.specs.declared.outline.Frame.TheVariants as frames
use Rattle.sysin_read.specs.declared.outline.Outline.{Outline}
use Rattle.sysin_read.specs.declared.text.TextPlace.{TextPlace}
use Rattle.sysin_read.specs.declared.text.TextPlace.TheVariants as places
use Rattle.sysin_read.specs.declared.text.TextReading.{TextReading}
use Rattle.sysin_read.specs.Statement.{most_nested, most_commands, tokens_of, IsLead, IsText}
use Rattle.sysin_read.specs.Rest.{plans_before, Rest, StatementRest, BlockRest}
use Rattle.sysin_read.specs.Reading.{open_in, IsWithin, IsFresh, GoesOn, IsBegun, ReadsAt, TextReads}
use Rattle.sysin_read.specs.Why.{around, WithinStops, StopsAt, TextStops}
use Rattle.sysin_read.specs.Progress.{closing, IsWithCommand, EndsWith, GivesAt, TextGives}
use Rattle.sysin_read.proofs.Blocks.{statement_leads, end_of_top}
use Rattle.sysin_read.proofs.Ending.{room_around, closes, reopens, no_else_at_end, end_around, no_more}
use Rattle.sysin_read.proofs.Lines.{Enders}
use Rattle.sysin_read.proofs.Moving.{MayRest, before_more, behind_command}
use Rattle.sysin_read.proofs.Going.{of_outline, within_command}
use Rattle.sysin_read.proofs.Taking.{IsStop, told_otherwise}
use Rattle.sysin_read.proofs.Refusing.{head_longer, head_leads, head_text, found, gives}

-- ---- the plans of steps

-- the same plans, but that nothing may run behind the last
abbrev Same : List Plan → List Plan → Type 0
Same a b = (a ≡ b) ⊎ (b ≡ a ++ Done ∷ [])

same_first : (a b : List Plan) → Same a b → first_plan a ≡ first_plan b
same_first a b (inl e) = ap first_plan e
same_first [] b (inr e) = sym (ap first_plan e)
same_first (x ∷ a) b (inr e) = sym (ap first_plan e)

same_later : (a b : List Plan) → Same a b → Same (later_plans a) (later_plans b)
same_later a b (inl e) = inl (ap later_plans e)
same_later [] b (inr e) = inl (sym (ap later_plans e))
same_later (x ∷ a) b (inr e) = inr (ap later_plans e)

same_cons : (x y : Plan) (a b : List Plan) → x ≡ y → Same a b → Same (x ∷ a) (y ∷ b)
same_cons x y a b s (inl e) = inl cc
same_cons x y a b s (inr e) = inr cc

same_at : (step : Step) (a b : List Plan) → Same a b → Same (plans_at step a) (plans_at step b)
same_at (steps.Run statement) a b s = same_cons _ _ (later_plans a) (later_plans b) (ap (Rattle.sysin_lang.specs.Flow.Run statement) (same_first a b s)) (same_later a b s)
same_at (steps.Set which code) a b s = same_cons _ _ (later_plans a) (later_plans b) (ap (Rattle.sysin_lang.specs.Flow.Set which code) (same_first a b s)) (same_later a b s)
same_at (steps.If which op code) a b s =
    let one = same_later a b s in
    let two = same_later (later_plans a) (later_plans b) one in
    same_cons _ _ (later_plans (later_plans (later_plans a))) (later_plans (later_plans (later_plans b)))
    (ap (λ (p : Plan). Rattle.sysin_lang.specs.Flow.Choose which op code p (first_plan (later_plans a))) (same_first a b s)
    ∙ ap (λ (p : Plan). Rattle.sysin_lang.specs.Flow.Choose which op code (first_plan b) p) (same_first (later_plans a) (later_plans b) one))
    (same_later (later_plans (later_plans a)) (later_plans (later_plans b)) two)
same_at steps.Else a b s = same_cons _ _ a b (same_first (later_plans a) (later_plans b) (same_later a b s)) s
same_at steps.End a b s = same_cons _ _ a b (same_first a b s) s

same_plans : (list : List Step) → Same (plans_of list) (plans_before list (Done ∷ []))
same_plans [] = inr refl
same_plans (step ∷ list) = same_at step (plans_of list) (plans_before list (Done ∷ [])) (same_plans list)

pub plan_is : (list : List Step) → plan_of list ≡ first_plan (plans_before list (Done ∷ []))
plan_is list = same_first (plans_of list) (plans_before list (Done ∷ [])) (same_plans list)

-- ---- where a text ends

end_text : (before : List Step) (front : List Placed) (room : ℕ) (open' : List Frame) (count : ℕ) → GoesOn before front (MayRest room open' count) [] → around open' ≡ [] → count ≤ most_commands
    → IsText true (plan_of (before ++ closing open')) front
end_text before front room open' count g ar few =
    let ra = room_around room open' in
    let r = subst (λ (o : List Frame). Rest true ra o true count (Done ∷ []) []) (sym ar) (end_of_top true ra true count few) in
    let plan = plan_of (before ++ closing open') in
    subst (λ (f : List Placed). IsText true plan f) (append-nil front) ((g.0 plan).1 (
      plans_before (closing open') (Done ∷ []),
      reopens true count [] no_else_at_end room open' (Done ∷ []) r,
      plan_is (before ++ closing open') ∙ ap first_plan (before_more before (closing open') (Done ∷ [])),
    ))

text_ends : (before : List Step) (front : List Placed) (room : ℕ) (open' : List Frame) (count : ℕ) (plan : Plan) → GoesOn before front (MayRest room open' count) [] → IsText true plan front
    → around open' ≡ []
text_ends before front room open' count plan g t =
    let h = (g.0 plan).0 (subst (λ (f : List Placed). IsText true plan f) (sym (append-nil front)) t) in
    let m = closes true count [] no_else_at_end room open' true h.0 h.1 in
    (end_around true count (room_around room open') open' true m.0 m.2).0

no_enders : Enders []
no_enders first rest e = cc

-- behind a command that is whole
command_ends : (room : ℕ) (outline : Outline) (reading : CommandReading) (said : Command) (ended : Outline) (before : List Placed) (first : Placed) (here front : List Placed)
    → IsBegun room outline before first here front → IsLead (leads.Command reading.verb) first → CommandReads reading (tokens_of here) → CommandGives reading said → IsWithCommand outline said ended
    → GoesOn ended.steps front (MayRest room (open_in ended) ended.commands) []
command_ends room outline reading said ended before first here front b lead reads gives io =
    of_outline (λ o s n. GoesOn s front (MayRest room o n) []) ended _ _ _ io
    (subst (λ (f : List Placed). GoesOn (outline.steps ++ steps.Run (record { number = outline.commands + 1; command = said }) ∷ []) f (MayRest room (open_in outline) (outline.commands + 1)) []) (sym b.whole)
    (behind_command room (open_in outline) outline.commands first here [] reading.verb said lead b.line ((command_laws.exact reading.verb).spelled reading (tokens_of here) said (refl, reads) gives)
    outline.steps before no_enders (b.begins (here ++ []))))

spelled_at : (place : TextPlace) (room : ℕ) (outline : Outline) (front : List Placed) (list : List Step) → IsWithin room outline → ReadsAt place room outline front → GivesAt place outline list
    → IsText true (plan_of list) front
spelled_at places.Text room outline front list within ((f, s, c), e) g =
    subst (λ (l : List Step). IsText true (plan_of l) front) (sym (g ∙ s)) (subst (λ (l : List Placed). IsText true Done l) (sym e) (record { count = 0; block = Rattle.sysin_read.specs.Statement.none most_nested 0 Done; few = omega arith }))
spelled_at places.Ended room outline front list within r (ar, is) =
    subst (λ (l : List Step). IsText true (plan_of l) front) (sym is) (end_text outline.steps front room (open_in outline) outline.commands (r []) ar within.1)
spelled_at (places.Command reading) room outline front list within (before, first, here, b, lead, reads, few) (said, ended, gives, io, (ar, is)) =
    subst (λ (l : List Step). IsText true (plan_of l) front) (sym is)
    (end_text ended.steps front room (open_in ended) ended.commands (command_ends room outline reading said ended before first here front b lead reads gives io) ar
    (within_command room outline said ended within few io).1)
spelled_at places.Block room outline front list within r g = absurd g
spelled_at places.Part room outline front list within r g = absurd g
spelled_at (places.Head head) room outline front list within r g = absurd g

pub spelled : (reading : TextReading) (front : List Placed) (list : List Step) → TextReads reading front → TextGives reading list → IsText true (plan_of list) front
spelled reading front list (room, within, r) g = spelled_at reading.place room reading.outline front list within r g

-- ---- what is spelled is given

no_rest : (e tail : List Placed) → [] ≡ e ++ tail → (e ≡ []) × (tail ≡ [])
no_rest [] tail f = (refl, sym f)
no_rest (x ∷ e) tail f = cc

module _ (room : ℕ) (outline : Outline) (front : List Placed) (plan : Plan) (within : IsWithin room outline) (t : IsText true plan front) where
  t' : IsText true plan (front ++ [])
  t' = subst (λ (f : List Placed). IsText true plan f) (sym (append-nil front)) t

  no_block : (outer : List Frame) → open_in outline ≡ frames.Do ∷ outer → (plans : List Plan) → BlockRest true room (open_in outline) outline.commands plans [] → ⊥
  no_block outer e plans b = by_block (subst (λ (o : List Frame). BlockRest true room o outline.commands plans []) e b)
    where
      by_block : BlockRest true room (frames.Do ∷ outer) outline.commands plans [] → ⊥
      by_block (p, next, behind, f, same, block) = no_more block.inner block.end block.more block.whole

  no_part : (plans : List Plan) → StatementRest true room (open_in outline) outline.commands plans [] → ⊥
  no_part plans s =
      let l = statement_leads true room (open_in outline) outline.commands plans [] s in
      let w : [] ≡ l.first ∷ l.rest = l.whole in
      cc

  no_head : (head : HeadPlace) (before : List Placed) (first : Placed) (here : List Placed) → IsBegun room outline before first here front → head_reading.Reads head (tokens_of (first ∷ here))
      → ((said : Head) → ¬ head_reading.Gives head said) → ⊥
  no_head head before first here b reads n =
      let more : before ++ first ∷ here ≡ before ++ first ∷ (here ++ []) = ap (λ (l : List Placed). before ++ first ∷ l) (sym (append-nil here)) in
      let whole : front ≡ before ++ first ∷ (here ++ []) = b.whole ∙ more in
      let h = ((b.begins (here ++ [])).0 plan).0 (subst (λ (l : List Placed). IsText true plan l) whole t) in
      let x = head_text true room (open_in outline) outline.commands h.0 first (here ++ []) h.1 (head_leads head first (tokens_of here) reads) in
      let o = head_longer true x.said head first here [] x.text x.tail reads x.spells x.whole in
      let e = no_rest o.0 x.tail o.2 in
      let text_is : x.text ≡ here = o.1 ∙ ap (λ (l : List Placed). here ++ l) e.0 ∙ append-nil here in
      n x.said (head_laws.exact.given head (tokens_of (first ∷ here)) x.said reads (subst (λ (l : List Placed). IsHead true x.said (tokens_of (first ∷ l))) text_is x.spells))

  some_command : (reading : CommandReading) (before : List Placed) (first : Placed) (here : List Placed) → IsBegun room outline before first here front → IsLead (leads.Command reading.verb) first
      → CommandReads reading (tokens_of here) → (list : List Step) × GivesAt (places.Command reading) outline list
  some_command reading before first here b lead reads =
      let f = found room outline reading before first here front first whys.Word within b lead reads true [] plan t' in
      let e = no_rest f.o.0 f.c.tail f.o.2 in
      let text_is : f.c.text ≡ here = f.o.1 ∙ ap (λ (l : List Placed). here ++ l) e.0 ∙ append-nil here in
      let given = gives room outline reading before first here front first whys.Word within b lead reads f.c.said
      (subst (λ (l : List Placed). IsCommand reading.verb true f.c.said (tokens_of l)) text_is f.c.spells) in
      let rest = subst (λ (l : List Placed). Rest true room (open_in outline) true (outline.commands + 1) f.c.behind l) e.1 f.c.rest in
      let m = closes true (outline.commands + 1) [] no_else_at_end room (open_in outline) true f.c.behind rest in
      let ar = (end_around true (outline.commands + 1) (room_around room (open_in outline)) (open_in outline) true m.0 m.2).0 in
      let run = steps.Run (record { number = outline.commands + 1; command = f.c.said }) in
      let ended : Outline = record { frames = outline.frames; steps = outline.steps ++ run ∷ []; commands = outline.commands + 1 } in
      ((outline.steps ++ run ∷ []) ++ closing (open_in outline), (f.c.said, ended, given, (refl, refl, refl), (ar, refl)))

given_at : (place : TextPlace) (room : ℕ) (outline : Outline) (front : List Placed) (plan : Plan) → IsWithin room outline → ReadsAt place room outline front → IsText true plan front
    → (list : List Step) × GivesAt place outline list
given_at places.Text room outline front plan within r t = (outline.steps, refl)
given_at places.Ended room outline front plan within r t =
    (outline.steps ++ closing (open_in outline), (text_ends outline.steps front room (open_in outline) outline.commands plan (r []) t, refl))
given_at places.Part room outline front plan within r t =
    let h = ((r []).0 plan).0 (t' room outline front plan within t) in absurd (no_part room outline front plan within t h.0 h.1)
given_at places.Block room outline front plan within ((outer, e), r) t =
    let h = ((r []).0 plan).0 (t' room outline front plan within t) in absurd (no_block room outline front plan within t outer e h.0 h.1)
given_at (places.Head head) room outline front plan within (before, first, here, b, reads, has, n) t = absurd (no_head room outline front plan within t head before first here b reads n)
given_at (places.Command reading) room outline front plan within (before, first, here, b, lead, reads, few) t = some_command room outline front plan within t reading before first here b lead reads

pub given : (reading : TextReading) (front : List Placed) (plan : Plan) → TextReads reading front → IsText true plan front → (list : List Step) × TextGives reading list
given reading front plan (room, within, r) t = given_at reading.place room reading.outline front plan within r t

-- ---- what functions owe

pub fresh_reads : (outline : Outline) → IsFresh outline → TextReads (record { outline = outline; place = places.Text }) []
fresh_reads outline (f, s, c) =
    let none : length (open_in outline) ≡ 0 = ap (λ (l : List Frame). length (reverse l)) f in
    let size : 16 + length (open_in outline) ≡ 16 = omega (arith, none) in
    let few : outline.commands ≤ 999 = omega (arith, c) in
    (16, (size, few), ((f, s, c), refl))

pub command_given : (reading : TextReading) (command : CommandReading) (said : Command) (ended : Outline) (r : Result Script Stop) → reading.place ≡ places.Command command → CommandGives command said
    → IsWithCommand reading.outline said ended → IfOk r (λ script. (list : List Step) × EndsWith ended list × (plan_of_script script ≡ plan_of list))
    → IfOk r (λ script. (list : List Step) × TextGives reading list × (plan_of_script script ≡ plan_of list))
command_given reading command said ended r is g io ok = IfOk-weaker r (λ script. (list : List Step) × EndsWith ended list × (plan_of_script script ≡ plan_of list))
    (λ script. (list : List Step) × TextGives reading list × (plan_of_script script ≡ plan_of list))
    (λ script s. (s.0, subst (λ (p : TextPlace). GivesAt p reading.outline s.0) (sym is) (said, ended, g, io, s.1), s.2)) ok

pub command_stopped : (reading : TextReading) (command : CommandReading) (placed : Placed) (r : Result TextReading Stop) → reading.place ≡ places.Command command
    → IfErr r (IsStop (WithinStops (open_in reading.outline) reading.outline.commands command placed)) → IfErr r (IsStop (TextStops reading placed))
command_stopped reading command placed r is e = told_otherwise TextReading (WithinStops (open_in reading.outline) reading.outline.commands command placed) (TextStops reading placed) r
    (λ why s. subst (λ (p : TextPlace). StopsAt p (open_in reading.outline) reading.outline.commands placed why) (sym is) s) e
