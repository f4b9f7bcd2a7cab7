-- What an index tells of its table.
use Rattle.std.proofs.Common.{◌≡◌, ◌≢◌, ◌⊎◌, inl, inr, ℕ, suc, Bool, true, false, cond, Option, Some, None, List, [], ◌∷◌, ◌++◌, All, refl, sym, ap, subst, ◌∙◌, arith}
use Rattle.std.specs.Prelude.{AllPairs, is_some, IsSome, OnOk, Result, Ok, Err}
use Rattle.std.specs.declared.cmp.Ordering.{Ordering}
use Rattle.std.specs.declared.cmp.Ordering.TheVariants.{Less, Equal, Greater}
use Rattle.std.specs.Ordering.{nat_cmp, is_eq}
use Rattle.std.specs.Cmp.{IsTotalOrder}
use Rattle.std.specs.Cmp.Lexicographic.{slice_cmp}
use Rattle.std.specs.List.{AllByRecursion, list_any}
use Rattle.std.specs.BTreeMap.{BTreeMap, get, Updates}
use Rattle.std.specs.BTreeSet as sorted
use Rattle.std.specs.BTreeSet.{BTreeSet, contains}
use Rattle.std.proofs.lemmas.Cmp.{nat_cmp_total, nat_list_cmp_total, then_total, on_total, eq_by_cmp_equiv}
use Rattle.std.proofs.lemmas.List.Elements.{recursion_from_All}
use Rattle.std.proofs.lemmas.Map.Lookups.{CmpEqualImpliesEq, exact_unsigned, exact_bytes, exact_pairs}
use Rattle.dsn_filter.specs.declared.dsn.Dsn.{Dsn}
use Rattle.enq_table.specs.declared.holder.Holder.{Holder}
use Rattle.enq_table.specs.declared.hold.Mode.TheVariants.{Exclusive}
use Rattle.enq_table.specs.declared.hold.Hold.{Hold}
use Rattle.enq_table.specs.declared.index.Index.{Index}
use Rattle.enq_table.specs.Table.{StandsAgainst, Conflicts, Has, IsFirstHolder, IsTable, Releases}
use Rattle.enq_table.specs.Index.{name_key, hold_key, name_order, hold_order, IsOn, IsFirst, IsHad, TellsFirsts, TellsHolders, IsIndexed}

-- ---- keys

-- two fields are compared one after the other, as those of a name are
name_total : IsTotalOrder name_order
name_total = then_total (on_total (λ (x : ℕ × List ℕ). x.0) nat_cmp_total) (on_total (λ (x : ℕ × List ℕ). x.1) nat_list_cmp_total)

hold_total : IsTotalOrder hold_order
hold_total = then_total (on_total (λ (x : (ℕ × List ℕ) × (ℕ × List ℕ)). x.0) name_total) (on_total (λ (x : (ℕ × List ℕ) × (ℕ × List ℕ)). x.1) name_total)

name_exact : CmpEqualImpliesEq name_order
name_exact = exact_pairs nat_cmp (slice_cmp nat_cmp) exact_unsigned exact_bytes

hold_exact : CmpEqualImpliesEq hold_order
hold_exact = exact_pairs name_order name_order name_exact name_exact

are_equal : (o : Ordering) → is_eq o ≡ true → o ≡ Equal
are_equal Less h = absurd (let e : false ≡ true = h in cc)
are_equal Equal h = refl
are_equal Greater h = absurd (let e : false ≡ true = h in cc)

-- a name's key is another's exactly where they are one
abbrev IsNameTest : Dsn → Dsn → Bool → Type 0
IsNameTest a b test = ((test ≡ true) × (a ≡ b)) ⊎ ((test ≡ false) × (a ≢ b))

name_cases : (a b : Dsn) → IsNameTest a b (is_eq (name_order (name_key a) (name_key b)))
name_cases a b = by (is_eq (name_order (name_key a) (name_key b))) refl
  where
    by : (t : Bool) → is_eq (name_order (name_key a) (name_key b)) ≡ t → IsNameTest a b t
    by true h = inl (refl, ap (λ (k : ℕ × List ℕ). let dsn : Dsn = record { len = k.0; text = k.1 } in dsn) (name_exact (name_key a) (name_key b) (are_equal (name_order (name_key a) (name_key b)) h)))
    by false h = inr (
      refl,
      λ e.
          let self : is_eq (name_order (name_key a) (name_key a)) ≡ true = (eq_by_cmp_equiv name_total).refl (name_key a) in
          let other : is_eq (name_order (name_key a) (name_key b)) ≡ true = subst (λ (t : Dsn). is_eq (name_order (name_key a) (name_key t)) ≡ true) e self in
          let f : false ≡ true = sym h ∙ other in cc,
    )

-- a holder's hold of a name is found at the key of no other
abbrev IsHoldTest : Dsn → Holder → Dsn → Holder → Bool → Type 0
IsHoldTest n h m k test = ((test ≡ true) × (n ≡ m) × (h ≡ k)) ⊎ ((test ≡ false) × ((n ≡ m) → (h ≡ k) → ⊥))

hold_cases : (n : Dsn) (h : Holder) (m : Dsn) (k : Holder) → IsHoldTest n h m k (is_eq (hold_order (hold_key n h) (hold_key m k)))
hold_cases n h m k = by (is_eq (hold_order (hold_key n h) (hold_key m k))) refl
  where
    by : (t : Bool) → is_eq (hold_order (hold_key n h) (hold_key m k)) ≡ t → IsHoldTest n h m k t
    by true e =
        let keys : hold_key n h ≡ hold_key m k = hold_exact (hold_key n h) (hold_key m k) (are_equal (hold_order (hold_key n h) (hold_key m k)) e) in
        inl (
          refl,
          ap (λ (p : (ℕ × List ℕ) × (ℕ × List ℕ)). let dsn : Dsn = record { len = p.1.0; text = p.1.1 } in dsn) keys,
          ap (λ (p : (ℕ × List ℕ) × (ℕ × List ℕ)). let holder : Holder = record { len = p.0.0; text = p.0.1 } in holder) keys,
        )
    by false e = inr (
      refl,
      λ names holders.
          let self : is_eq (hold_order (hold_key n h) (hold_key n h)) ≡ true = (eq_by_cmp_equiv hold_total).refl (hold_key n h) in
          let there : is_eq (hold_order (hold_key n h) (hold_key m h)) ≡ true = subst (λ (t : Dsn). is_eq (hold_order (hold_key n h) (hold_key t h)) ≡ true) names self in
          let other : is_eq (hold_order (hold_key n h) (hold_key m k)) ≡ true = subst (λ (t : Holder). is_eq (hold_order (hold_key n h) (hold_key m t)) ≡ true) holders there in
          let f : false ≡ true = sym e ∙ other in cc,
    )

-- ---- the first hold

first_is : (Fact : Hold → Type 0) (table : List Hold) (x : Hold) → IsFirst Fact table (Some x) → Fact x
first_is Fact [] x h = absurd (let e : Some x ≡ None = h in cc)
first_is Fact (held ∷ rest) x (inl (fact, is)) = subst Fact (let e : held ≡ x = cc in e) fact
first_is Fact (held ∷ rest) x (inr (other, later)) = first_is Fact rest x later

-- a hold more at the end
push_none : (Fact : Hold → Type 0) (table : List Hold) (x : Hold) → IsFirst Fact table None → Fact x → IsFirst Fact (table ++ (x ∷ [])) (Some x)
push_none Fact [] x h fact = inl (fact, refl)
push_none Fact (held ∷ rest) x (inl (here, is)) fact = absurd (let e : None ≡ Some held = is in cc)
push_none Fact (held ∷ rest) x (inr (other, later)) fact = inr (other, push_none Fact rest x later fact)

push_some : (Fact : Hold → Type 0) (table : List Hold) (x first : Hold) → IsFirst Fact table (Some first) → IsFirst Fact (table ++ (x ∷ [])) (Some first)
push_some Fact [] x first h = absurd (let e : Some first ≡ None = h in cc)
push_some Fact (held ∷ rest) x first (inl h) = inl h
push_some Fact (held ∷ rest) x first (inr (other, later)) = inr (other, push_some Fact rest x first later)

push_other : (Fact : Hold → Type 0) (table : List Hold) (x : Hold) (found : Option Hold) → IsFirst Fact table found → ¬ Fact x → IsFirst Fact (table ++ (x ∷ [])) found
push_other Fact [] x found h other = inr (other, h)
push_other Fact (held ∷ rest) x found (inl h) other = inl h
push_other Fact (held ∷ rest) x found (inr (here, later)) other = inr (here, push_other Fact rest x found later other)

-- a hold less
cut_other : (Fact : Hold → Type 0) (front : List Hold) (x : Hold) (behind : List Hold) (found : Option Hold) → IsFirst Fact (front ++ (x ∷ behind)) found → ¬ Fact x → IsFirst Fact (front ++ behind) found
cut_other Fact [] x behind found (inl (fact, is)) other = absurd (other fact)
cut_other Fact [] x behind found (inr (here, later)) other = later
cut_other Fact (held ∷ rest) x behind found (inl h) other = inl h
cut_other Fact (held ∷ rest) x behind found (inr (here, later)) other = inr (here, cut_other Fact rest x behind found later other)

some_first : (Fact : Hold → Type 0) (front : List Hold) (x : Hold) (behind : List Hold) → IsFirst Fact (front ++ (x ∷ behind)) None → ¬ Fact x
some_first Fact [] x behind (inl (fact, is)) = absurd (let e : None ≡ Some x = is in cc)
some_first Fact [] x behind (inr (here, later)) = here
some_first Fact (held ∷ rest) x behind (inl (fact, is)) = absurd (let e : None ≡ Some held = is in cc)
some_first Fact (held ∷ rest) x behind (inr (here, later)) = some_first Fact rest x behind later

no_first : (Fact : Hold → Type 0) (table : List Hold) → AllByRecursion (λ held. ¬ Fact held) table → IsFirst Fact table None
no_first Fact [] h = refl
no_first Fact (held ∷ rest) h = inr (h.0, no_first Fact rest h.1)

-- the holder of the first of other holds, each of which is of these
first_holder : (Fact Other : Hold → Type 0) (table : List Hold) (x : Hold) → AllByRecursion (λ held. Other held → Fact held) table → IsFirst Fact table (Some x) → Other x → IsFirstHolder Other table (Some x.holder)
first_holder Fact Other [] x each h fact = absurd (let e : Some x ≡ None = h in cc)
first_holder Fact Other (held ∷ rest) x each (inl (here, is)) fact =
    let same : x ≡ held = cc in inl (subst Other same fact, ap (λ (t : Hold). let told : Option Holder = Some t.holder in told) same)
first_holder Fact Other (held ∷ rest) x each (inr (here, later)) fact = inr ((λ other. here (each.0 other)), first_holder Fact Other rest x each.1 later fact)

no_holder : (Fact Other : Hold → Type 0) (table : List Hold) → AllByRecursion (λ held. Other held → Fact held) table → IsFirst Fact table None → IsFirstHolder Other table None
no_holder Fact Other [] each h = refl
no_holder Fact Other (held ∷ rest) each (inl (here, is)) = absurd (let e : None ≡ Some held = is in cc)
no_holder Fact Other (held ∷ rest) each (inr (here, later)) = inr ((λ other. here (each.0 other)), no_holder Fact Other rest each.1 later)

each_of : (Fact : Hold → Type 0) (table : List Hold) → ((held : Hold) → Fact held) → AllByRecursion Fact table
each_of Fact [] h = tt
each_of Fact (held ∷ rest) h = (h held, each_of Fact rest h)

each_more : (Fact Other : Hold → Type 0) (table : List Hold) → ((held : Hold) → Fact held → Other held) → AllByRecursion Fact table → AllByRecursion Other table
each_more Fact Other [] h each = tt
each_more Fact Other (held ∷ rest) h each = (h held each.0, each_more Fact Other rest h each.1)

-- ---- a table whose first hold on a name is shared

apart_first : (held : Hold) (rest : List Hold) → AllPairs (λ held later. ¬ StandsAgainst held later) (held ∷ rest) → AllByRecursion (λ later. ¬ StandsAgainst held later) rest
apart_first held rest apart = recursion_from_All (λ later. ¬ StandsAgainst held later) rest (λ i d lt. apart 0 (suc i) d (omega arith) (omega (arith, lt)))

apart_rest : (held : Hold) (rest : List Hold) → AllPairs (λ held later. ¬ StandsAgainst held later) (held ∷ rest) → AllPairs (λ held later. ¬ StandsAgainst held later) rest
apart_rest held rest apart = λ i j d lt within. apart (suc i) (suc j) d (omega (arith, lt)) (omega (arith, within))

-- then each is
none_exclusive : (table : List Hold) (name : Dsn) (x : Hold) → AllPairs (λ held later. ¬ StandsAgainst held later) table → IsFirst (IsOn name) table (Some x) → x.mode ≢ Exclusive
    → AllByRecursion (λ held. IsOn name held → held.mode ≢ Exclusive) table
none_exclusive [] name x apart h shared = tt
none_exclusive (held ∷ rest) name x apart (inl (here, is)) shared =
    let same : x ≡ held = cc in (
      (λ on exclusive. shared (ap (λ (t : Hold). t.mode) same ∙ exclusive)),
      each_more (λ later. ¬ StandsAgainst held later) (λ later. IsOn name later → later.mode ≢ Exclusive) rest (λ later against on exclusive. against (here ∙ sym on, inr (inr exclusive))) (apart_first held rest apart),
    )
none_exclusive (held ∷ rest) name x apart (inr (here, later)) shared = ((λ on exclusive. here on), none_exclusive rest name x (apart_rest held rest apart) later shared)

-- ---- what is told, asked and told again

-- of an index: where the first hold on a name doesn't stand against another, which is shared then, no hold does but the asking holder's own
against_first : (table : List Hold) (asked x : Hold) → IsTable table → IsFirst (IsOn asked.name) table (Some x) → ¬ StandsAgainst x asked
    → AllByRecursion (λ held. StandsAgainst held asked → Has asked.name asked.holder held) table
against_first table asked x h first free =
    let on : x.name ≡ asked.name = first_is (IsOn asked.name) table x first in
    each_more (λ held. IsOn asked.name held → held.mode ≢ Exclusive) (λ held. StandsAgainst held asked → Has asked.name asked.holder held) table
    (λ held shared against. own held shared against on)
    (none_exclusive table asked.name x h.apart first (λ exclusive. free (on, inr (inl exclusive))))
  where
    own : (held : Hold) → (IsOn asked.name held → held.mode ≢ Exclusive) → StandsAgainst held asked → x.name ≡ asked.name → Has asked.name asked.holder held
    own held shared (named, inl same) on = (named, same)
    own held shared (named, inr (inl exclusive)) on = absurd (shared named exclusive)
    own held shared (named, inr (inr exclusive)) on = absurd (free (on, inr (inr exclusive)))

pub none_against : (table : List Hold) (asked : Hold) → IsFirst (IsOn asked.name) table None → IsFirstHolder (λ held. StandsAgainst held asked) table None
none_against table asked h = no_holder (IsOn asked.name) (λ held. StandsAgainst held asked) table (each_of (λ held. StandsAgainst held asked → IsOn asked.name held) table (λ held against. against.0)) h

pub first_against : (table : List Hold) (asked x : Hold) → IsFirst (IsOn asked.name) table (Some x) → StandsAgainst x asked → IsFirstHolder (λ held. StandsAgainst held asked) table (Some x.holder)
first_against table asked x h against =
    first_holder (IsOn asked.name) (λ held. StandsAgainst held asked) table x (each_of (λ held. StandsAgainst held asked → IsOn asked.name held) table (λ held against. against.0)) h against

own_against : (table : List Hold) (asked x own : Hold) → IsTable table → IsFirst (IsOn asked.name) table (Some x) → ¬ StandsAgainst x asked → IsFirst (Has asked.name asked.holder) table (Some own)
    → IsFirstHolder (λ held. StandsAgainst held asked) table (Some asked.holder)
own_against table asked x own h first free has =
    let is : Has asked.name asked.holder own = first_is (Has asked.name asked.holder) table own has in
    subst (λ (t : Holder). IsFirstHolder (λ held. StandsAgainst held asked) table (Some t)) is.1
    (first_holder (Has asked.name asked.holder) (λ held. StandsAgainst held asked) table own (against_first table asked x h first free) has (is.0, inl is.1))

nothing_against : (table : List Hold) (asked x : Hold) → IsTable table → IsFirst (IsOn asked.name) table (Some x) → ¬ StandsAgainst x asked → IsFirst (Has asked.name asked.holder) table None
    → IsFirstHolder (λ held. StandsAgainst held asked) table None
nothing_against table asked x h first free has =
    no_holder (Has asked.name asked.holder) (λ held. StandsAgainst held asked) table (against_first table asked x h first free) has

-- the same by the test whether the asking holder has the name
pub own_is_against : (table : List Hold) (asked x : Hold) (test : Bool) → IsTable table → IsFirst (IsOn asked.name) table (Some x) → ¬ StandsAgainst x asked → IsHad asked.name asked.holder table test → test ≡ true
    → IsFirstHolder (λ held. StandsAgainst held asked) table (Some asked.holder)
own_is_against table asked x test h first free (None, has, is) true-is = absurd (let e : false ≡ true = sym is ∙ true-is in cc)
own_is_against table asked x test h first free (Some own, has, is) true-is = own_against table asked x own h first free has

pub nothing_else_against : (table : List Hold) (asked x : Hold) (test : Bool) → IsTable table → IsFirst (IsOn asked.name) table (Some x) → ¬ StandsAgainst x asked → IsHad asked.name asked.holder table test → test ≡ false
    → IsFirstHolder (λ held. StandsAgainst held asked) table None
nothing_else_against table asked x test h first free (None, has, is) never = nothing_against table asked x h first free has
nothing_else_against table asked x test h first free (Some own, has, is) never = absurd (let e : true ≡ false = sym is ∙ never in cc)

pub none_conflicts : (table : List Hold) (name : Dsn) (change : Bool) → IsFirst (IsOn name) table None → IsFirstHolder (Conflicts name change) table None
none_conflicts table name change h = no_holder (IsOn name) (Conflicts name change) table (each_of (λ held. Conflicts name change held → IsOn name held) table (λ held conflict. conflict.0)) h

pub first_conflicts : (table : List Hold) (name : Dsn) (change : Bool) (x : Hold) → IsFirst (IsOn name) table (Some x) → Conflicts name change x → IsFirstHolder (Conflicts name change) table (Some x.holder)
first_conflicts table name change x h conflict =
    first_holder (IsOn name) (Conflicts name change) table x (each_of (λ held. Conflicts name change held → IsOn name held) table (λ held conflict. conflict.0)) h conflict

pub nothing_conflicts : (table : List Hold) (name : Dsn) (change : Bool) (x : Hold) → IsTable table → IsFirst (IsOn name) table (Some x) → ¬ Conflicts name change x → IsFirstHolder (Conflicts name change) table None
nothing_conflicts table name change x h first free =
    no_holder (λ held. ⊥) (Conflicts name change) table
    (each_more (λ held. IsOn name held → held.mode ≢ Exclusive) (λ held. Conflicts name change held → ⊥) table
    (λ held shared conflict. never held shared conflict)
    (none_exclusive table name x h.apart first (λ exclusive. free (on, inl exclusive))))
    (no_first (λ held. ⊥) table (each_of (λ held. ¬ ⊥) table (λ held no-hold. no-hold)))
  where
    on : x.name ≡ name
    on = first_is (IsOn name) table x first

    never : (held : Hold) → (IsOn name held → held.mode ≢ Exclusive) → Conflicts name change held → ⊥
    never held shared (named, inl exclusive) = shared named exclusive
    never held shared (named, inr changes) = free (on, inr changes)

-- ---- a hold is taken up

pub firsts_kept : (table : List Hold) (hold : Hold) (firsts : BTreeMap (ℕ × List ℕ) Hold) → TellsFirsts table firsts → is_some (get name_order firsts (name_key hold.name)) ≡ true → TellsFirsts (table ++ (hold ∷ [])) firsts
firsts_kept table hold firsts h there = λ name. by name (name_cases hold.name name)
  where
    more : (name : Dsn) (found : Option Hold) → IsFirst (IsOn name) table found → is_some found ≡ true → IsFirst (IsOn name) (table ++ (hold ∷ [])) found
    more name None first some = absurd (let e : false ≡ true = some in cc)
    more name (Some x) first some = push_some (IsOn name) table hold x first

    by : (name : Dsn) → IsNameTest hold.name name (is_eq (name_order (name_key hold.name) (name_key name))) → IsFirst (IsOn name) (table ++ (hold ∷ [])) (get name_order firsts (name_key name))
    by name (inl (at, is)) =
        more name (get name_order firsts (name_key name)) (h name) (subst (λ (t : Dsn). is_some (get name_order firsts (name_key t)) ≡ true) is there)
    by name (inr (at, other)) = push_other (IsOn name) table hold (get name_order firsts (name_key name)) (h name) other

pub firsts_added : (table : List Hold) (hold : Hold) (old new : BTreeMap (ℕ × List ℕ) Hold) → TellsFirsts table old → is_some (get name_order old (name_key hold.name)) ≡ false
    → Updates name_order old new (name_key hold.name) (Some hold) → TellsFirsts (table ++ (hold ∷ [])) new
firsts_added table hold old new h absent updates = λ name. by name (name_cases hold.name name)
  where
    more : (found : Option Hold) → IsFirst (IsOn hold.name) table found → is_some found ≡ false → IsFirst (IsOn hold.name) (table ++ (hold ∷ [])) (Some hold)
    more None first none = push_none (IsOn hold.name) table hold first refl
    more (Some x) first none = absurd (let e : true ≡ false = none in cc)

    by : (name : Dsn) → IsNameTest hold.name name (is_eq (name_order (name_key hold.name) (name_key name))) → IsFirst (IsOn name) (table ++ (hold ∷ [])) (get name_order new (name_key name))
    by name (inl (at, is)) =
        subst (λ (t : Option Hold). IsFirst (IsOn name) (table ++ (hold ∷ [])) t) (sym (updates.0 (name_key name) ∙ ap (λ (t : Bool). cond t (Some hold) (get name_order old (name_key name))) at))
        (subst (λ (t : Dsn). IsFirst (IsOn t) (table ++ (hold ∷ [])) (Some hold)) is (more (get name_order old (name_key hold.name)) (h hold.name) absent))
    by name (inr (at, other)) =
        subst (λ (t : Option Hold). IsFirst (IsOn name) (table ++ (hold ∷ [])) t) (sym (updates.0 (name_key name) ∙ ap (λ (t : Bool). cond t (Some hold) (get name_order old (name_key name))) at))
        (push_other (IsOn name) table hold (get name_order old (name_key name)) (h name) other)

-- and is taken out again
pub firsts_undone : (table : List Hold) (hold : Hold) (old between new : BTreeMap (ℕ × List ℕ) Hold) → TellsFirsts table old → is_some (get name_order old (name_key hold.name)) ≡ false
    → Updates name_order old between (name_key hold.name) (Some hold) → Updates name_order between new (name_key hold.name) None → TellsFirsts table new
firsts_undone table hold old between new h absent updates undoes = λ name. by name (name_cases hold.name name)
  where
    empty : (found : Option Hold) → is_some found ≡ false → None ≡ found
    empty None none = refl
    empty (Some x) none = absurd (let e : true ≡ false = none in cc)

    by : (name : Dsn) → IsNameTest hold.name name (is_eq (name_order (name_key hold.name) (name_key name))) → IsFirst (IsOn name) table (get name_order new (name_key name))
    by name (inl (at, is)) =
        let gone : None ≡ get name_order old (name_key name) = empty (get name_order old (name_key name)) (subst (λ (t : Dsn). is_some (get name_order old (name_key t)) ≡ false) is absent) in
        subst (λ (t : Option Hold). IsFirst (IsOn name) table t)
        (sym (undoes.0 (name_key name) ∙ ap (λ (t : Bool). cond t None (get name_order between (name_key name))) at ∙ gone)) (h name)
    by name (inr (at, other)) =
        subst (λ (t : Option Hold). IsFirst (IsOn name) table t)
        (sym (undoes.0 (name_key name) ∙ ap (λ (t : Bool). cond t None (get name_order between (name_key name))) at ∙ updates.0 (name_key name)
        ∙ ap (λ (t : Bool). cond t (Some hold) (get name_order old (name_key name))) at)) (h name)

pub holders_added : (table : List Hold) (hold : Hold) (old new : BTreeSet ((ℕ × List ℕ) × (ℕ × List ℕ))) → TellsHolders table old
    → sorted.Updates hold_order old new (hold_key hold.name hold.holder) true → TellsHolders (table ++ (hold ∷ [])) new
holders_added table hold old new h updates = λ name holder. by name holder (hold_cases hold.name hold.holder name holder)
  where
    more : (name : Dsn) (holder : Holder) (found : Option Hold) → IsFirst (Has name holder) table found → Has name holder hold
        → IsHad name holder (table ++ (hold ∷ [])) true
    more name holder None first has = (Some hold, push_none (Has name holder) table hold first has, refl)
    more name holder (Some x) first has = (Some x, push_some (Has name holder) table hold x first, refl)

    by : (name : Dsn) (holder : Holder)
        → IsHoldTest hold.name hold.holder name holder (is_eq (hold_order (hold_key hold.name hold.holder) (hold_key name holder)))
        → IsHad name holder (table ++ (hold ∷ [])) (contains hold_order new (hold_key name holder))
    by name holder (inl (at, named, held)) =
        let was = h name holder in
        let now = more name holder was.0 was.1 (named, held) in
        (now.0, now.1, updates.0 (hold_key name holder) ∙ ap (λ (t : Bool). cond t true (contains hold_order old (hold_key name holder))) at ∙ now.2)
    by name holder (inr (at, other)) =
        let was = h name holder in (
          was.0,
          push_other (Has name holder) table hold was.0 was.1 (λ has. other has.0 has.1),
          updates.0 (hold_key name holder) ∙ ap (λ (t : Bool). cond t true (contains hold_order old (hold_key name holder))) at ∙ was.2,
        )

pub holders_same : (table : List Hold) (old new : BTreeSet ((ℕ × List ℕ) × (ℕ × List ℕ))) → TellsHolders table old → sorted.IsUnchanged old new → TellsHolders table new
holders_same table old new h same = λ name holder.
    let was = h name holder in
    (was.0, was.1, ap (λ (t : List ((ℕ × List ℕ) × (ℕ × List ℕ))). list_any (λ k. is_eq (hold_order (hold_key name holder) k)) t) same ∙ was.2)

pub added_behind : {X E : Type 0} (result : Result X E) (hold : Hold) (old : Index) (holders : BTreeSet ((ℕ × List ℕ) × (ℕ × List ℕ))) → is_some (get name_order old.firsts (name_key hold.name)) ≡ true
    → OnOk result ((table : List Hold) → TellsHolders table old.holders → TellsHolders (table ++ (hold ∷ [])) holders)
    → OnOk result ((table : List Hold) → IsIndexed table old → IsIndexed (table ++ (hold ∷ [])) (record { firsts = old.firsts; holders = holders }))
added_behind (Ok x) hold old holders there h = λ table is. record { firsts = firsts_kept table hold old.firsts is.firsts there; holders = h table is.holders }
added_behind (Err e) hold old holders there h = tt

-- ---- a hold is forgotten

firsts_forgotten : (name : Dsn) (holder : Holder) (table later : List Hold) (found : Option Hold) (old new : BTreeMap (ℕ × List ℕ) Hold) → Releases name holder table later → IsFirst (IsOn name) later found
    → TellsFirsts table old → Updates name_order old new (name_key name) found → TellsFirsts later new
firsts_forgotten name holder table later found old new releases first h updates = λ other. by other (name_cases name other)
  where
    hold : Hold
    hold = record { name = name; mode = releases.mode; holder = holder }

    by : (other : Dsn) → IsNameTest name other (is_eq (name_order (name_key name) (name_key other))) → IsFirst (IsOn other) later (get name_order new (name_key other))
    by other (inl (at, is)) =
        subst (λ (t : Option Hold). IsFirst (IsOn other) later t) (sym (updates.0 (name_key other) ∙ ap (λ (t : Bool). cond t found (get name_order old (name_key other))) at))
        (subst (λ (t : Dsn). IsFirst (IsOn t) later found) is first)
    by other (inr (at, apart)) =
        subst (λ (t : Option Hold). IsFirst (IsOn other) later t) (sym (updates.0 (name_key other) ∙ ap (λ (t : Bool). cond t found (get name_order old (name_key other))) at))
        (subst (λ (t : List Hold). IsFirst (IsOn other) t (get name_order old (name_key other))) (sym releases.after)
        (cut_other (IsOn other) releases.front hold releases.behind (get name_order old (name_key other))
        (subst (λ (t : List Hold). IsFirst (IsOn other) t (get name_order old (name_key other))) releases.before (h other)) apart))

holders_forgotten : (name : Dsn) (holder : Holder) (table later : List Hold) (old new : BTreeSet ((ℕ × List ℕ) × (ℕ × List ℕ))) → Releases name holder table later → All (λ held. ¬ Has name holder held) later
    → TellsHolders table old → sorted.Updates hold_order old new (hold_key name holder) false → TellsHolders later new
holders_forgotten name holder table later old new releases gone h updates = λ n k. by n k (hold_cases name holder n k)
  where
    hold : Hold
    hold = record { name = name; mode = releases.mode; holder = holder }

    by : (n : Dsn) (k : Holder)
        → IsHoldTest name holder n k (is_eq (hold_order (hold_key name holder) (hold_key n k)))
        → IsHad n k later (contains hold_order new (hold_key n k))
    by n k (inl (at, named, held)) =
        let none : AllByRecursion (λ held. ¬ Has n k held) later = each_more (λ held. ¬ Has name holder held) (λ held. ¬ Has n k held) later (λ x never has. never (has.0 ∙ sym named, has.1 ∙ sym held))
        (recursion_from_All (λ held. ¬ Has name holder held) later gone) in
        (None, no_first (Has n k) later none, updates.0 (hold_key n k) ∙ ap (λ (t : Bool). cond t false (contains hold_order old (hold_key n k))) at)
    by n k (inr (at, other)) =
        let was = h n k in (
          was.0,
          subst (λ (t : List Hold). IsFirst (Has n k) t was.0) (sym releases.after)
              (cut_other (Has n k) releases.front hold releases.behind was.0 (subst (λ (t : List Hold). IsFirst (Has n k) t was.0) releases.before was.1) (λ has. other has.0 has.1)),
          updates.0 (hold_key n k) ∙ ap (λ (t : Bool). cond t false (contains hold_order old (hold_key n k))) at ∙ was.2,
        )

-- the name of a hold that is forgotten is there
pub name_there : (name : Dsn) (holder : Holder) (table later : List Hold) (firsts : BTreeMap (ℕ × List ℕ) Hold) → Releases name holder table later → TellsFirsts table firsts → IsSome (get name_order firsts (name_key name))
name_there name holder table later firsts releases h = by (get name_order firsts (name_key name)) (h name)
  where
    by : (found : Option Hold) → IsFirst (IsOn name) table found → IsSome found
    by None first = absurd (some_first (IsOn name) releases.front (record { name = name; mode = releases.mode; holder = holder }) releases.behind (subst (λ (t : List Hold). IsFirst (IsOn name) t None) releases.before first) refl)
    by (Some x) first = refl

pub forgotten : (name : Dsn) (holder : Holder) (table later : List Hold) (found : Option Hold) (old new : Index) → Releases name holder table later → All (λ held. ¬ Has name holder held) later
    → IsFirst (IsOn name) later found → IsIndexed table old → Updates name_order old.firsts new.firsts (name_key name) found → sorted.Updates hold_order old.holders new.holders (hold_key name holder) false
    → IsIndexed later new
forgotten name holder table later found old new releases gone first h firsts holders = record {
  firsts = firsts_forgotten name holder table later found old.firsts new.firsts releases first h.firsts firsts;
  holders = holders_forgotten name holder table later old.holders new.holders releases gone h.holders holders;
}
