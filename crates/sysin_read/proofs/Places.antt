-- The place of a refusal.
use Rattle.std.proofs.Common.{◌≡◌, ◌⊎◌, inl, inr, ℕ, ◌+◌, List, [], ◌∷◌, ◌++◌, refl, sym, subst, ◌∙◌, true, append_assoc}
use Rattle.sysin_text.specs.declared.token.Placed.{Placed}
use Rattle.sysin_text.specs.Signs.{width_of}
use Rattle.sysin_lang.specs.declared.script.Step.{Step}
use Rattle.sysin_lang.specs.declared.script.Script.{Script}
use Rattle.sysin_lang.specs.Script.{plan_of, plan_of_script}
use Rattle.sysin_read.specs.declared.fault.Stop.{Stop}
use Rattle.sysin_read.specs.declared.fault.Stop.TheVariants as stops
use Rattle.sysin_read.specs.declared.fault.Why.{Why}
use Rattle.sysin_read.specs.declared.fault.Why.TheVariants as whys
use Rattle.sysin_read.specs.declared.fault.SysinFault.{SysinFault}
use Rattle.sysin_read.specs.declared.fault.SysinFault.TheVariants as faults
use Rattle.sysin_read.specs.declared.text.TextReading.{TextReading}
use Rattle.sysin_read.specs.Statement.{IsText}
use Rattle.sysin_read.specs.Reading.{TextReads}
use Rattle.sysin_read.specs.Why.{TextStops}
use Rattle.sysin_read.specs.Progress.{TextGoes, TextGives}
use Rattle.sysin_read.specs.Told.{nothing_read, Leads}
use Rattle.sysin_read.specs.Refusal.{IsWrongAt, end_of, IsRefusal}
use Rattle.sysin_read.proofs.Going.{goes}
use Rattle.sysin_read.proofs.Completing.{right}
use Rattle.sysin_read.proofs.Refusing.{wrong}
use Rattle.sysin_read.proofs.Finishing.{spelled, given}

pub end_of_last : (front : List Placed) (placed : Placed) → end_of (front ++ placed ∷ []) ≡ (placed.line, placed.column + width_of placed.token)
end_of_last [] placed = refl
end_of_last (x ∷ []) placed = refl
end_of_last (x ∷ y ∷ front) placed = end_of_last (y ∷ front) placed

-- how a function tells a stop
abbrev pub Tells : Stop → ℕ → ℕ → SysinFault → Type 0
Tells stop line column fault = ((stop ≡ stops.NoMemory) × (fault ≡ faults.NoMemory)) ⊎ ((why : Why) × (stop ≡ stops.Wrong why) × (fault ≡ faults.BadStatement line column why))

same_why : (stop : Stop) (a b : Why) → stop ≡ stops.Wrong a → stop ≡ stops.Wrong b → a ≡ b
same_why stop a b e f = cc

no_memory : (stop : Stop) (a : Why) → stop ≡ stops.Wrong a → stop ≡ stops.NoMemory → ⊥
no_memory stop a e f = cc

refused_at : (list front : List Placed) (placed : Placed) (rest : List Placed) (reading : TextReading) (why : Why) → list ≡ front ++ placed ∷ rest → TextReads reading front
    → Leads nothing_read front reading → TextStops reading placed why → IsWrongAt list placed.line placed.column why
refused_at list front placed rest reading why e r run stops = record {
  front = front;
  token = placed;
  behind = rest;
  whole = e;
  line_is = refl;
  column_is = refl;
  right = right reading front r;
  wrong = wrong reading front placed why r stops;
  told = (reading, run, stops);
}

-- a token is refused
pub refusal_at : (list front : List Placed) (placed : Placed) (rest : List Placed) (reading : TextReading) (stop : Stop) (fault : SysinFault) → list ≡ front ++ placed ∷ rest
    → TextReads reading front → Leads nothing_read front reading → (stop ≡ stops.NoMemory) ⊎ ((why : Why) × (stop ≡ stops.Wrong why) × TextStops reading placed why) → Tells stop placed.line placed.column fault → IsRefusal list fault
refusal_at list front placed rest reading stop fault e r run s (inl (m, is)) = subst (λ (f : SysinFault). IsRefusal list f) (sym is) tt
refusal_at list front placed rest reading stop fault e r run (inl m) (inr (why, w, is)) = absurd (no_memory stop why w m)
refusal_at list front placed rest reading stop fault e r run (inr (known, k, stops')) (inr (why, w, is)) =
    subst (λ (f : SysinFault). IsRefusal list f) (sym is)
    (inl (refused_at list front placed rest reading why e r run (subst (λ (y : Why). TextStops reading placed y) (same_why stop known why k w) stops')))

-- the text ends too early
pub refusal_at_end : (list front : List Placed) (reading : TextReading) (line column : ℕ) (stop : Stop) (fault : SysinFault) → list ≡ front → TextReads reading front → line ≡ (end_of front).0
    → column ≡ (end_of front).1 → (stop ≡ stops.NoMemory) ⊎ ((stop ≡ stops.Wrong whys.Missing) × ((steps : List Step) → ¬ TextGives reading steps)) → Tells stop line column fault
    → IsRefusal list fault
refusal_at_end list front reading line column stop fault e r l c s (inl (m, is)) = subst (λ (f : SysinFault). IsRefusal list f) (sym is) tt
refusal_at_end list front reading line column stop fault e r l c (inl m) (inr (why, w, is)) = absurd (no_memory stop why w m)
refusal_at_end list front reading line column stop fault e r l c (inr (k, none)) (inr (why, w, is)) =
    subst (λ (f : SysinFault). IsRefusal list f) (sym is)
    (subst (λ (x : List Placed). IsRefusal x (faults.BadStatement line column why)) (sym e) (inr (
      record {
        line_is = l;
        column_is = c;
        right = right reading front r;
        early = λ plan t. let g = given reading front plan r t in none g.0 g.1;
      },
      same_why stop why whys.Missing w k,
    )))

-- the script is the text's
pub read_text : (list front : List Placed) (reading : TextReading) (script : Script) → list ≡ front → TextReads reading front
    → (steps : List Step) × TextGives reading steps × (plan_of_script script ≡ plan_of steps) → IsText true (plan_of_script script) list
read_text list front reading script e r (steps, g, is) =
    subst (λ (p : _). IsText true p list) (sym is) (subst (λ (l : List Placed). IsText true (plan_of steps) l) (sym e) (spelled reading front steps r g))

-- one token further
led : (first old new : TextReading) (front : List Placed) (placed : Placed) → Leads first front old → TextGoes old placed new → Leads first (front ++ placed ∷ []) new
led first old new [] placed is g = (new, subst (λ (r : TextReading). TextGoes r placed new) is g, refl)
led first old new (x ∷ front) placed (next, goes', run) g = (next, goes', led next old new front placed run g)

pub further : (list front : List Placed) (placed : Placed) (rest : List Placed) (old new : TextReading) → list ≡ front ++ placed ∷ rest → TextReads old front → TextGoes old placed new
    → Leads nothing_read front old → (list ≡ (front ++ placed ∷ []) ++ rest) × TextReads new (front ++ placed ∷ []) × Leads nothing_read (front ++ placed ∷ []) new
further list front placed rest old new e r g run = (e ∙ sym (append_assoc front (placed ∷ []) rest), goes old new front placed r g, led nothing_read old new front placed run g)
