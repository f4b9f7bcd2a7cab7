-- The first hold of a kind, and what a table keeps.
use Rattle.std.proofs.Common.{◌≡◌, ℕ, suc, ◌+◌, ◌-◌, ◌<◌, inl, inr, Option, Some, None, List, [], ◌∷◌, ◌++◌, length, take, drop, get_or, All, refl, sym, ap, subst, ◌∙◌, arith}
use Rattle.std.specs.Prelude.{AllPairs, IfSome}
use Rattle.std.specs.List.{AllByRecursion, HoldsAt, remove}
use Rattle.std.proofs.lemmas.Bool.{cases_lt}
use Rattle.std.proofs.Math.Seq.{take-append_seam}
use Rattle.std.proofs.lemmas.List.{drop_more, length-append, take-append-drop}
use Rattle.std.proofs.lemmas.List.Edits.{length-remove, get_or-remove_below, get_or-remove_above}
use Rattle.std.proofs.lemmas.List.Elements.{All-from_recursion, All-push, All-append, All-take, All-drop}
use Rattle.std.proofs.lemmas.List.Quantifiers.{all_pairs_push, all_pairs_remove}
use Rattle.dsn_filter.specs.declared.dsn.Dsn.{Dsn}
use Rattle.enq_table.specs.declared.holder.Holder.{Holder}
use Rattle.enq_table.specs.declared.hold.Mode.TheVariants.{Shared}
use Rattle.enq_table.specs.declared.hold.Hold.{Hold}
use Rattle.enq_table.specs.Holder.{IsHolder}
use Rattle.enq_table.specs.Table.{IsHold, StandsAgainst, Has, IsFirstHolder, IsTable, Releases}

-- ---- the first holder

pub first_lawful : (Fact : Hold → Type 0) (holds : List Hold) (holder : Option Holder) → AllByRecursion IsHold holds → IsFirstHolder Fact holds holder → IfSome holder IsHolder
first_lawful Fact [] None each h = tt
first_lawful Fact [] (Some x) each h = absurd (let e : Some x ≡ None = h in cc)
first_lawful Fact (held ∷ rest) holder each (inl (fact, is)) = subst (λ (t : Option Holder). IfSome t IsHolder) (sym is) each.0.1
first_lawful Fact (held ∷ rest) holder each (inr (other, later)) = first_lawful Fact rest holder each.1 later

pub none_first : (Fact : Hold → Type 0) (holds : List Hold) → IsFirstHolder Fact holds None → AllByRecursion (λ (held : Hold). ¬ Fact held) holds
none_first Fact [] h = tt
none_first Fact (held ∷ rest) (inl (fact, is)) = absurd (let e : None ≡ Some held.holder = is in cc)
none_first Fact (held ∷ rest) (inr (other, later)) = (other, none_first Fact rest later)

pub one_first : (Fact : Hold → Type 0) (holds : List Hold) (a b : Option Holder) → IsFirstHolder Fact holds a → IsFirstHolder Fact holds b → a ≡ b
one_first Fact [] a b h k = h ∙ sym k
one_first Fact (held ∷ rest) a b (inl h) (inl k) = h.1 ∙ sym k.1
one_first Fact (held ∷ rest) a b (inl h) (inr k) = absurd (k.0 h.0)
one_first Fact (held ∷ rest) a b (inr h) (inl k) = absurd (h.0 k.0)
one_first Fact (held ∷ rest) a b (inr h) (inr k) = one_first Fact rest a b h.1 k.1

-- ---- a table

pub table_push : (table : List Hold) (asked : Hold) → IsTable table → IsHold asked → IsFirstHolder (λ held. StandsAgainst held asked) table None → IsTable (table ++ (asked ∷ []))
table_push table asked h lawful free =
    let apart : All (λ (held : Hold). ¬ StandsAgainst held asked) table =
    All-from_recursion (λ (held : Hold). ¬ StandsAgainst held asked) table (none_first (λ (held : Hold). StandsAgainst held asked) table free) in
    record {
      each = All-push IsHold table asked h.each lawful;
      apart = all_pairs_push (λ (held later : Hold). ¬ StandsAgainst held later) table asked h.apart apart;
    }

-- the last hold is taken out again
pub popped : (table : List Hold) (asked : Hold) (all left : List Hold) → all ≡ table ++ (asked ∷ []) → left ≡ take (length all - 1) all → left ≡ table
popped table asked all left pushed rest =
    rest ∙ ap (λ (t : List Hold). take (length t - 1) t) pushed
    ∙ ap (λ (n : ℕ). take n (table ++ (asked ∷ []))) (let e : length (table ++ (asked ∷ [])) - 1 ≡ length table = omega (arith, length-append table (asked ∷ [])) in e)
    ∙ take-append_seam table (asked ∷ [])

pub table_remove : (table : List Hold) (place : ℕ) → place < length table → IsTable table → IsTable (remove table place)
table_remove table place lt h = record {
  each = All-append IsHold (take place table) (drop (suc place) table) (All-take IsHold place table h.each) (All-drop IsHold (suc place) table h.each);
  apart = all_pairs_remove (λ (held later : Hold). ¬ StandsAgainst held later) table place lt h.apart;
}

same_hold : (held : Hold) (name : Dsn) (holder : Holder) → Has name holder held → held ≡ record { name = name; mode = held.mode; holder = holder }
same_hold held name holder h =
    let first : held ≡ record { name = name; mode = held.mode; holder = held.holder } = ap (λ (n : Dsn). record { name = n; mode = held.mode; holder = held.holder }) h.0 in
    first ∙ ap (λ (t : Holder). record { name = name; mode = held.mode; holder = t }) h.1

-- some hold, to read past the end of a list
some_hold : Dsn → Holder → Hold
some_hold name holder = record { name = name; mode = Shared; holder = holder }

pub released : (table : List Hold) (place : ℕ) (name : Dsn) (holder : Holder) → place < length table → HoldsAt (Has name holder) table place → Releases name holder table (remove table place)
released table place name holder lt h =
    let d : Hold = some_hold name holder in
    let held : Hold = get_or table place d in
    record {
      mode = held.mode;
      front = take place table;
      behind = drop (suc place) table;
      before =
          sym (take-append-drop place table) ∙ ap (λ (t : List Hold). take place table ++ t) (drop_more table place d lt)
          ∙ ap (λ (x : Hold). take place table ++ (x ∷ drop (place + 1) table)) (same_hold held name holder (h d))
          ∙ ap (λ (i : ℕ). take place table ++ (record { name = name; mode = held.mode; holder = holder } ∷ drop i table)) (let e : place + 1 ≡ suc place = omega arith in e);
      after = refl;
    }

-- two holds of a name by one holder stand against one another
one_hold_each : (table : List Hold) (i j : ℕ) (d : Hold) (name : Dsn) (holder : Holder) → AllPairs (λ held later. ¬ StandsAgainst held later) table → i < j → j < length table
    → Has name holder (get_or table i d) → Has name holder (get_or table j d) → ⊥
one_hold_each table i j d name holder apart lt within h k = apart i j d lt within (h.0 ∙ sym k.0, inl (h.1 ∙ sym k.1))

pub gone : (table : List Hold) (place : ℕ) (name : Dsn) (holder : Holder) → place < length table → HoldsAt (Has name holder) table place → IsTable table
    → All (λ held. ¬ Has name holder held) (remove table place)
gone table place name holder lt h is k d within has = elim (cases_lt k place) [
  | inl below ↦
      one_hold_each table k place d name holder is.apart below lt
      (subst (λ (held : Hold). Has name holder held) (get_or-remove_below table place d k below lt) has) (h d)
  | inr above ↦
      one_hold_each table place (k + 1) d name holder is.apart (omega arith) (omega (arith, length-remove table place lt)) (h d)
      (subst (λ (held : Hold). Has name holder held) (get_or-remove_above table place d k above lt) has)
]
