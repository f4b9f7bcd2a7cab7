-- What the functions that read a token owe.
use Rattle.std.proofs.Common.{◌≡◌, ◌⊎◌, inl, inr, ℕ, ◌+◌, List, ◌++◌, refl, sym, subst, ◌∙◌, Bool, true, false, Some}
use Rattle.std.specs.Prelude.{◌↔◌, IsTrue, IfOk, IfErr, IfNone, Result, Option, None}
use Rattle.std.proofs.lemmas.Result.{IfErr-weaker, IfOk-weaker}
use Rattle.sysin_text.specs.declared.token.Token.{Token}
use Rattle.sysin_text.specs.declared.token.Placed.{Placed}
use Rattle.sysin_words.specs.declared.lead.Lead.{Lead}
use Rattle.sysin_words.specs.declared.lead.Lead.TheVariants as leads
use Rattle.sysin_lang.specs.declared.command.Command.{Command}
use Rattle.sysin_values.specs.declared.fault.ValueFault.{ValueFault}
use Rattle.sysin_values.specs.declared.fault.ValueFault.TheVariants as values
use Rattle.sysin_heads.specs.declared.head.HeadPlace.{HeadPlace}
use Rattle.sysin_heads.specs.declared.head.HeadPlace.TheVariants as head_places
use Rattle.sysin_heads.specs.Reading as heads
use Rattle.sysin_commands.specs.declared.fault.CommandFault.{CommandFault}
use Rattle.sysin_commands.specs.declared.fault.CommandFault.TheVariants as faults
use Rattle.sysin_commands.specs.declared.command.CommandReading.{CommandReading}
use Rattle.sysin_commands.specs.CommandProgress.{CommandGives, CommandStops, EndsEarly}
use Rattle.sysin_read.specs.declared.fault.Stop.{Stop}
use Rattle.sysin_read.specs.declared.fault.Stop.TheVariants as stops
use Rattle.sysin_read.specs.declared.fault.Why.{Why}
use Rattle.sysin_read.specs.declared.fault.Why.TheVariants as whys
use Rattle.sysin_read.specs.declared.outline.Frame.{Frame}
use Rattle.sysin_read.specs.declared.outline.Outline.{Outline}
use Rattle.sysin_read.specs.declared.text.TextReading.{TextReading}
use Rattle.sysin_read.specs.Statement.{IsLead, IsElse, IsEnd}
use Rattle.sysin_read.specs.Reading.{open_in}
use Rattle.sysin_read.specs.Why.{around, StartStops, EndedStops, EndsUnfinished, IsUnfinished, IsTooDeep, EndsCommand, BehindStops, WithinStops, CommandIsToldAs}
use Rattle.sysin_read.specs.Progress.{closing, IsOutline, StartGoes, EndedGoes}

-- a stop is for want of memory, or told by a reason
abbrev pub IsStop : (Why → Type 0) → Stop → Type 0
IsStop Told stop = (stop ≡ stops.NoMemory) ⊎ ((why : Why) × (stop ≡ stops.Wrong why) × Told why)

pub told_otherwise : (T : Type 0) (Told Other : Why → Type 0) (r : Result T Stop) → ((why : Why) → Told why → Other why) → IfErr r (IsStop Told) → IfErr r (IsStop Other)
told_otherwise T Told Other r each e = IfErr-weaker r (IsStop Told) (IsStop Other) (λ stop s. by_stop stop s) e
  where
    by_stop : (stop : Stop) → IsStop Told stop → IsStop Other stop
    by_stop stop (inl m) = inl m
    by_stop stop (inr (why, is, told)) = inr (why, is, each why told)

-- ---- SET and IF

pub stops_none : (old : HeadPlace) (token : Token) (fault : ValueFault) → heads.Stops old token fault → (new : HeadPlace) → ¬ heads.Goes old token new
stops_none old token values.Count s new g = s
stops_none old token values.Value s new g = s.0 new g
stops_none old token values.Word s new g = s.0 new g
stops_none old token values.NoMemory s new g = s

pub set_goes : (placed : Placed) → IsLead leads.Set placed → heads.Goes head_places.Start placed.token head_places.Set
set_goes placed lead = inl (lead, refl)

pub if_goes : (placed : Placed) → IsLead leads.If placed → heads.Goes head_places.Start placed.token head_places.If
if_goes placed lead = inr (lead, refl)

-- ---- tests

pub not_so : (P : Type 0) (b : Bool) → (IsTrue b ↔ P) → b ≡ false → ¬ P
not_so P true both e p = cc
not_so P false both e p = let t = both.1 p in cc

-- ---- behind a statement

pub next_goes : (outline closed : Outline) (placed : Placed) (r : Result TextReading Stop) → placed.starts ≡ true
    → IsOutline closed (around (open_in outline)) (outline.steps ++ closing (open_in outline)) outline.commands → IfOk r (StartGoes closed placed) → IfOk r (EndedGoes outline placed)
next_goes outline closed placed r starts is g = IfOk-weaker r (StartGoes closed placed) (EndedGoes outline placed) (λ new h. inr (inr (closed, starts, is, h))) g

pub next_stops : (outline closed : Outline) (placed : Placed) (r : Result TextReading Stop) → (¬ IsElse placed) → (¬ IsEnd placed) → placed.starts ≡ true
    → IsOutline closed (around (open_in outline)) (outline.steps ++ closing (open_in outline)) outline.commands → IfErr r (IsStop (StartStops (open_in closed) closed.commands placed))
    → IfErr r (IsStop (EndedStops (open_in outline) outline.commands placed))
next_stops outline closed placed r no_else no_end starts is e = told_otherwise TextReading (StartStops (open_in closed) closed.commands placed) (EndedStops (open_in outline) outline.commands placed) r
    (λ why s. inr (inr (no_else, no_end, inl (starts, subst (λ (o : List Frame). StartStops o outline.commands placed why) is.0 (subst (λ (n : ℕ). StartStops (open_in closed) n placed why) is.2 s))))) e

-- ---- what isn't whole

pub no_start : (open' : List Frame) (count : ℕ) (placed : Placed) (known : Why) → placed.starts ≡ false → EndsUnfinished open' count placed known known
no_start open' count placed known n = inr (inr ((λ s. let both : true ≡ false = sym s ∙ n in absurd (no both)), refl))
  where
    no : true ≡ false → ⊥
    no e = cc

-- ---- commands

pub behind_stops : (open' : List Frame) (count : ℕ) (reading : CommandReading) (command : Command) (ended : Outline) (placed : Placed) (r : Result TextReading Stop) → CommandGives reading command
    → open_in ended ≡ open' → ended.commands ≡ count → IfErr r (IsStop (EndedStops (open_in ended) ended.commands placed)) → IfErr r (IsStop (BehindStops open' count reading placed))
behind_stops open' count reading command ended placed r gives o n e =
    told_otherwise TextReading (EndedStops (open_in ended) ended.commands placed) (BehindStops open' count reading placed) r
    (λ why s. inl ((command, gives), subst (λ (l : List Frame). EndedStops l count placed why) o (subst (λ (m : ℕ). EndedStops (open_in ended) m placed why) n s))) e

not_given : (reading : CommandReading) (fault : CommandFault) → EndsEarly reading fault → (command : Command) → ¬ CommandGives reading command
not_given reading faults.Missing early command gives = early command gives.1
not_given reading (faults.Value values.Word) early command gives = early.0 gives.0
not_given reading (faults.Value values.Count) early command gives = early
not_given reading (faults.Value values.Value) early command gives = early
not_given reading (faults.Value values.NoMemory) early command gives = early
not_given reading faults.Twice early command gives = early

pub unfinished_missing : (reading : CommandReading) (fault : CommandFault) → fault ≡ faults.Missing → EndsEarly reading fault → IsUnfinished reading whys.Missing
unfinished_missing reading fault is early = subst (λ (f : CommandFault). EndsEarly reading f) is early

pub unfinished_word : (reading : CommandReading) (fault : CommandFault) → ¬ (fault ≡ faults.Missing) → EndsEarly reading fault → IsUnfinished reading whys.Word
unfinished_word reading faults.Missing n early = absurd (n refl)
unfinished_word reading (faults.Value values.Word) n early = (early.1, not_given reading (faults.Value values.Word) early)
unfinished_word reading (faults.Value values.Count) n early = absurd early
unfinished_word reading (faults.Value values.Value) n early = absurd early
unfinished_word reading (faults.Value values.NoMemory) n early = absurd early
unfinished_word reading faults.Twice n early = absurd early

pub ended_stops : (open' : List Frame) (count : ℕ) (reading : CommandReading) (placed : Placed) (r : Result TextReading Stop) → EndsCommand reading placed
    → IfErr r (IsStop (BehindStops open' (count + 1) reading placed)) → IfErr r (IsStop (WithinStops open' count reading placed))
ended_stops open' count reading placed r ends e =
    told_otherwise TextReading (BehindStops open' (count + 1) reading placed) (WithinStops open' count reading placed) r (λ why s. inr (ends, s)) e

pub told_within : (open' : List Frame) (count : ℕ) (reading : CommandReading) (placed : Placed) (fault : CommandFault) (stop : Stop) → (¬ EndsCommand reading placed)
    → CommandStops reading placed.token fault → ((fault ≡ faults.Value values.NoMemory) × (stop ≡ stops.NoMemory)) ⊎ ((why : Why) × (stop ≡ stops.Wrong why) × CommandIsToldAs fault why)
    → IsStop (WithinStops open' count reading placed) stop
told_within open' count reading placed fault stop n s (inl m) = inl m.1
told_within open' count reading placed fault stop n s (inr (why, is, told)) = inr (why, is, inl (n, (fault, s, told)))

pub unfinished_as : (reading : CommandReading) (fault : CommandFault) (known : Why) → EndsEarly reading fault
    → ((fault ≡ faults.Missing) × (known ≡ whys.Missing)) ⊎ ((¬ (fault ≡ faults.Missing)) × (known ≡ whys.Word)) → IsUnfinished reading known
unfinished_as reading fault known early (inl (is, k)) = subst (λ (w : Why). IsUnfinished reading w) (sym k) (unfinished_missing reading fault is early)
unfinished_as reading fault known early (inr (n, k)) = subst (λ (w : Why). IsUnfinished reading w) (sym k) (unfinished_word reading fault n early)

-- ---- no statement begins

pub no_lead : (r : Option Lead) (placed : Placed) → r ≡ None → IfNone r ((lead : Lead) → ¬ IsLead lead placed) → (lead : Lead) → ¬ IsLead lead placed
no_lead None placed e n = n
no_lead (Some lead) placed e n = cc

pub not_too_deep : (open' : List Frame) (placed : Placed) → ((lead : Lead) → ¬ IsLead lead placed) → IsTooDeep open' placed → IsTrue false
not_too_deep open' placed n (inl lead, many) = absurd (n leads.If lead)
not_too_deep open' placed n (inr lead, many) = absurd (n leads.Do lead)

pub not_true : (P : Type 0) → IsTrue false → P
not_true P t = cc
