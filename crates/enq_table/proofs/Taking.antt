-- Lines, taken one after the other.
use Rattle.std.proofs.Common.{◌≡◌, ℕ, ◌+◌, ◌-◌, ◌<◌, ◌≤◌, inl, inr, Option, Some, None, Bor, List, [], ◌∷◌, ◌++◌, length, refl, sym, ap, subst, ◌∙◌, arith}
use Rattle.std.specs.Prelude.{IfSome}
use Rattle.dsn_filter.proofs.OneReading.{one_place}
use Rattle.enq_table.specs.declared.fault.EnqFault.{EnqFault}
use Rattle.enq_table.specs.declared.fault.EnqFault.TheVariants.{AlreadyHeld, NotHeld, BadHeld, NoMemory}
use Rattle.enq_table.specs.declared.holder.Holder.{Holder}
use Rattle.enq_table.specs.declared.hold.Hold.{Hold}
use Rattle.enq_table.specs.Table.{StandsAgainst, IsFirstHolder}
use Rattle.enq_table.specs.HeldText.{lines_of, IsLine, Takes, TakesAll, IsLineFault, IsTextFault}
use Rattle.enq_table.specs.Faults.{IsHeldFault, IsLineRefused}
use Rattle.enq_table.proofs.Holders.{one_first}
use Rattle.enq_table.proofs.LineText.{one_hold, empty_holds}

-- the lines up to a number are taken, and these are left
pub record IsTaking (text : List ℕ) (held : List Hold) (number : ℕ) (rest : List (List ℕ)) : Type 0 where
  pub counted : 1 ≤ number
  pub taken : (after : List Hold) → TakesAll held rest after → TakesAll [] (lines_of text) after
  pub fault : (later column : ℕ) → IsTextFault held rest later column → IsTextFault [] (lines_of text) (number - 1 + later) column

pub taking_more : (text : List ℕ) (held between : List Hold) (number : ℕ) (line : List ℕ) (all rest : List (List ℕ)) → IsTaking text held number all → all ≡ line ∷ rest → Takes held line between → IsTaking text between (number + 1) rest
taking_more text held between number line all rest h is takes = record {
  counted = omega arith;
  taken = λ after k. h.taken after (subst (λ (t : List (List ℕ)). TakesAll held t after) (sym is) (between, takes, k));
  fault = λ later column k.
      subst (λ (n : ℕ). IsTextFault [] (lines_of text) n column) (let e : number - 1 + (later + 1) ≡ number + 1 - 1 + later = omega (arith, h.counted) in e)
      (h.fault (later + 1) column (subst (λ (t : List (List ℕ)). IsTextFault held t (later + 1) column) (sym is) (inr (between, later, takes, k, refl))));
}

pub taking_stops : (e : EnqFault) (text : List ℕ) (held : List Hold) (number : ℕ) (line : List ℕ) (all rest : List (List ℕ)) → IsTaking text held number all → all ≡ line ∷ rest
    → IsLineRefused held number line e → IsHeldFault text e
taking_stops (BadHeld at column) text held number line all rest h is (number-is, k) =
    subst (λ (n : ℕ). IsTextFault [] (lines_of text) n column) (let e : number - 1 + 1 ≡ at = omega (arith, h.counted, number-is) in e)
    (h.fault 1 column (subst (λ (t : List (List ℕ)). IsTextFault held t 1 column) (sym is) (inl (refl, k))))
taking_stops NoMemory text held number line all rest h is k = tt
taking_stops (AlreadyHeld x) text held number line all rest h is k = k
taking_stops NotHeld text held number line all rest h is k = k

-- a shorter text is left for a later line
pub rest_fits : (rest behind : Option (Bor (List ℕ))) (text : Bor (List ℕ)) (number : ℕ) → rest ≡ Some text → IfSome rest (λ t. number + length t.now ≤ 1048577)
    → IfSome behind (λ t. length t.now < length text.now) → IfSome behind (λ t. number + 1 + length t.now ≤ 1048577)
rest_fits rest None text number is few shorter = tt
rest_fits rest (Some b) text number is few shorter =
    let here : number + length text.now ≤ 1048577 = subst (λ (r : Option (Bor (List ℕ))). IfSome r (λ t. number + length t.now ≤ 1048577)) is few in omega (arith, here, shorter)

-- ---- laws

one_free : (before : List Hold) (hold : Hold) (holder : Holder) → IsFirstHolder (λ held. StandsAgainst held hold) before None → IsFirstHolder (λ held. StandsAgainst held hold) before (Some holder) → ⊥
one_free before hold holder h k = let e : None ≡ Some holder = one_first (λ (held : Hold). StandsAgainst held hold) before None (Some holder) h k in cc

one_taken : (before : List Hold) (line : List ℕ) (a b : List Hold) → Takes before line a → Takes before line b → a ≡ b
one_taken before line a b (inl h) (inl k) = h.1 ∙ sym k.1
one_taken before line a b (inl h) (inr (hold, k, free, is)) = absurd (empty_holds line hold h.0 k)
one_taken before line a b (inr (hold, h, free, is)) (inl k) = absurd (empty_holds line hold k.0 h)
one_taken before line a b (inr (x, h, free, is)) (inr (y, k, also, at)) = is ∙ ap (λ (t : Hold). before ++ (t ∷ [])) (one_hold line x y h k) ∙ sym at

pub one_table : (before : List Hold) (lines : List (List ℕ)) (a b : List Hold) → TakesAll before lines a → TakesAll before lines b → a ≡ b
one_table before [] a b h k = h ∙ sym k
one_table before (line ∷ lines) a b (x, h, rest) (y, k, also) =
    one_table x lines a b rest (subst (λ (t : List Hold). TakesAll t lines b) (one_taken before line y x k h) also)

no_line_fault : (before : List Hold) (line : List ℕ) (after : List Hold) (column : ℕ) → Takes before line after → IsLineFault before line column → ⊥
no_line_fault before line after column (inl h) (inl (place, k, is)) = k.wrong (inl h.0)
no_line_fault before line after column (inl h) (inr (hold, against, k, first, is)) = empty_holds line hold h.0 k
no_line_fault before line after column (inr (hold, h, free, is)) (inl (place, k, at)) = k.wrong (inr (hold, h))
no_line_fault before line after column (inr (x, h, free, is)) (inr (y, against, k, first, at)) =
    one_free before x against free (subst (λ (t : Hold). IsFirstHolder (λ held. StandsAgainst held t) before (Some against)) (one_hold line y x k h) first)

pub no_fault : (before : List Hold) (lines : List (List ℕ)) (after : List Hold) (number column : ℕ) → TakesAll before lines after → ¬ IsTextFault before lines number column
no_fault before [] after number column h k = k
no_fault before (line ∷ lines) after number column (x, h, rest) (inl (first, k)) = no_line_fault before line x column h k
no_fault before (line ∷ lines) after number column (x, h, rest) (inr (y, later, k, also, is)) =
    no_fault x lines after later column rest (subst (λ (t : List Hold). IsTextFault t lines later column) (one_taken before line y x k h) also)

one_column : (before : List Hold) (line : List ℕ) (c d : ℕ) → IsLineFault before line c → IsLineFault before line d → c ≡ d
one_column before line c d (inl (p, h, is)) (inl (q, k, at)) = is ∙ ap (λ (n : ℕ). n + 1) (one_place IsLine line p q h k) ∙ sym at
one_column before line c d (inl (p, h, is)) (inr (hold, against, k, first, at)) = absurd (h.wrong (inr (hold, k)))
one_column before line c d (inr (hold, against, h, first, is)) (inl (q, k, at)) = absurd (k.wrong (inr (hold, h)))
one_column before line c d (inr (x, a, h, first, is)) (inr (y, b, k, also, at)) = is ∙ sym at

pub one_fault : (before : List Hold) (lines : List (List ℕ)) (n c m d : ℕ) → IsTextFault before lines n c → IsTextFault before lines m d → (n ≡ m) × (c ≡ d)
one_fault before [] n c m d h k = absurd h
one_fault before (line ∷ lines) n c m d (inl (p, h)) (inl (q, k)) = (p ∙ sym q, one_column before line c d h k)
one_fault before (line ∷ lines) n c m d (inl (p, h)) (inr (y, later, k, also, q)) = absurd (no_line_fault before line y c k h)
one_fault before (line ∷ lines) n c m d (inr (x, later, h, rest, p)) (inl (q, k)) = absurd (no_line_fault before line x d h k)
one_fault before (line ∷ lines) n c m d (inr (x, i, h, rest, p)) (inr (y, j, k, also, q)) =
    let both = one_fault x lines i c j d rest (subst (λ (t : List Hold). IsTextFault t lines j d) (one_taken before line y x k h) also) in
    (p ∙ ap (λ (t : ℕ). t + 1) both.0 ∙ sym q, both.1)
