-- The chains of format 3s in a VTOC that breaks no rule.
use Rattle.std.proofs.Common.{◌≡◌, ◌⊎◌, ℕ, zero, suc, ◌*◌, ◌<◌, ◌≤◌, List, [], ◌∷◌, ◌++◌, length, filter, take, get_or, Bool, true, false, cond, All, Contains, Option, Some, None, refl, sym, ap, subst, ◌∙◌, arith, inl, inr}
use Rattle.std.specs.Prelude.{◌&&◌, ◌||◌, not, nat_lt}
use Rattle.std.specs.Option.{is_some}
use Rattle.std.specs.List.{flat_map, list_any}
use Rattle.std.proofs.lemmas.Bool.{cases_order}
use Rattle.std.proofs.lemmas.List.{get_or-take, get_or_default, length-take}
use Rattle.std.proofs.lemmas.List.Elements.{All-nil, All-cons, All-weaker, All-contains, Contains-get_or}
use Rattle.ckd_image.specs.declared.track.Cchhr.{Cchhr}
use Rattle.volume_model.specs.declared.format.Format.{Format}
use Rattle.volume_model.specs.declared.format.Format.TheVariants.{Broken, Free, F1, F3, F4, F5}
use Rattle.volume_model.specs.declared.place.Placed.{Placed}
use Rattle.volume_model.specs.declared.place.Vtoc.{Vtoc}
use Rattle.volume_model.specs.declared.rule.VtocRule.TheVariants as rules
use Rattle.volume_model.specs.Dscbs.{format_of, is_f1, is_f3, pointer_in}
use Rattle.volume_model.specs.Directory.{same_place, record_at, named_place, named_record, if_format, next_format_3, extended, chain_of}
use Rattle.volume_model.specs.Check.{breach, records_of, later_ones, namers_of, named_by, names_3, names_format, same_target, is_among, reached_3s, bad_tracks, bad_dscbs, bad_names, bad_pointers, bad_fives, bad_ranges, bad_overlaps, bad_free, breaches_of}
use Rattle.vtoc_check.specs.Places.{AreShort, blank}
use Rattle.vtoc_check.proofs.Ascending.{IsAscending}
use Rattle.vtoc_check.specs.Reach.{record_in}
use Rattle.vtoc_check.proofs.Order.{ascending}
use Rattle.vtoc_check.proofs.Targets.{named_by_next}
use Rattle.vtoc_check.proofs.Marks.{any_passes, passes_any}
use Rattle.vtoc_check.proofs.FirstFound.{later_found}
use Rattle.vtoc_layout.specs.Layout.{AreDistinct}
use Rattle.vtoc_layout.proofs.Distinct.{in_none, no_more, distinct_append, in_filter, from_filter, distinct_filter, from_flat}
use Rattle.vtoc_layout.proofs.Finds.{found_passes}
use Rattle.volume_model.proofs.Numbers.{place_itself}
use Rattle.vtoc_layout.proofs.Uses.{distinct_records, one_record}
use Rattle.vtoc_load.specs.Chained.{AreEachOnce, threes_of}
use Rattle.ckd_image.proofs.Lists.{left_nil, right_nil, map_nil}

abbrev nothing : Option Placed
nothing = None

-- ---- where a pointer leads

pub named_in : (heads : ℕ) (records : List Placed) (pointer : Option Cchhr) (x : Placed) → named_record heads records pointer ≡ Some x → Contains records x
named_in heads records None x e = absurd (let q : nothing ≡ Some x = e in let r : ⊥ = cc in r)
named_in heads records (Some pointer) x e = by (nat_lt pointer.at.head heads) e
  where
    by : (t : Bool) → cond t (record_at records (named_place heads pointer)) nothing ≡ Some x → Contains records x
    by true q = (found_passes (λ (placed : Placed). same_place placed.place (named_place heads pointer)) records x q).0
    by false q = absurd (let p : nothing ≡ Some x = q in let r : ⊥ = cc in r)

format_3 : (o : Option Placed) (x : Placed) → if_format is_f3 o ≡ Some x → is_f3 (format_of x.bytes) ≡ true
format_3 None x e = absurd (let q : nothing ≡ Some x = e in let r : ⊥ = cc in r)
format_3 (Some other) x e = by (is_f3 (format_of other.bytes)) refl e
  where
    same : Some other ≡ Some x → other ≡ x
    same q = cc

    by : (t : Bool) → is_f3 (format_of other.bytes) ≡ t → cond t (Some other) nothing ≡ Some x → is_f3 (format_of x.bytes) ≡ true
    by true here q = sym (ap (λ (p : Placed). is_f3 (format_of p.bytes)) (same q)) ∙ here
    by false here q = absurd (let p : nothing ≡ Some x = q in let r : ⊥ = cc in r)

pub next_in : (heads : ℕ) (records : List Placed) (bytes : List ℕ) (x : Placed) → next_format_3 heads records bytes ≡ Some x → Contains records x × (is_f3 (format_of x.bytes) ≡ true)
next_in heads records bytes x e =
    let o = named_record heads records (pointer_in bytes) in
    (named_in heads records (pointer_in bytes) x (named_by_next o x e), format_3 o x e)

-- ---- so many pointers behind a record

-- the last of so many pointers and one more leads there
abbrev IsBehind : ℕ → List Placed → ℕ → Placed → Placed → Type 0
IsBehind heads records zero a x = next_format_3 heads records a.bytes ≡ Some x
IsBehind heads records (suc d) a x = (m : Placed) × IsBehind heads records d a m × (next_format_3 heads records m.bytes ≡ Some x)

-- a record that may name a format 3
abbrev IsNamer : List Placed → Placed → Type 0
IsNamer records a = Contains records a × ((is_f1 (format_of a.bytes) || is_f3 (format_of a.bytes)) ≡ true)

-- a data set
abbrev IsStart : List Placed → Placed → Type 0
IsStart records a = Contains records a × (is_f1 (format_of a.bytes) ≡ true)

-- no format 3 is named by two records
abbrev OneNamer : ℕ → List Placed → Type 0
OneNamer heads records =
    (a b x : Placed) → IsNamer records a → IsNamer records b → next_format_3 heads records a.bytes ≡ Some x → next_format_3 heads records b.bytes ≡ Some x → a ≡ b

start_names : (records : List Placed) (a : Placed) → IsStart records a → IsNamer records a
start_names records a s = (s.0, ap (λ (t : Bool). t || is_f3 (format_of a.bytes)) s.1)

behind_in : (heads : ℕ) (records : List Placed) (d : ℕ) (a x : Placed) → IsBehind heads records d a x → Contains records x × (is_f3 (format_of x.bytes) ≡ true)
behind_in heads records zero a x h = next_in heads records a.bytes x h
behind_in heads records (suc d) a x h = next_in heads records h.0.bytes x h.2

three_names : (records : List Placed) (a : Placed) → Contains records a × (is_f3 (format_of a.bytes) ≡ true) → IsNamer records a
three_names records a s = (s.0, ap (λ (t : Bool). is_f1 (format_of a.bytes) || t) s.1 ∙ or_true (is_f1 (format_of a.bytes)))
  where
    or_true : (t : Bool) → (t || true) ≡ true
    or_true true = refl
    or_true false = refl

not_both : (f : Format) → is_f1 f ≡ true → is_f3 f ≡ true → ⊥
not_both Broken p q = let e : false ≡ true = p in cc
not_both Free p q = let e : false ≡ true = p in cc
not_both F1 p q = let e : false ≡ true = q in cc
not_both F3 p q = let e : false ≡ true = p in cc
not_both F4 p q = let e : false ≡ true = p in cc
not_both F5 p q = let e : false ≡ true = p in cc

start_is_no_three : (records : List Placed) (a m : Placed) → a ≡ m → IsStart records a → is_f3 (format_of m.bytes) ≡ true → ⊥
start_is_no_three records a m same s three = not_both (format_of a.bytes) s.1 (ap (λ (p : Placed). is_f3 (format_of p.bytes)) same ∙ three)

-- a format 3 is behind one data set alone, and in one way
one_way : (heads : ℕ) (records : List Placed) → OneNamer heads records → (d e : ℕ) (a b x : Placed) → IsStart records a → IsStart records b → IsBehind heads records d a x → IsBehind heads records e b x → (a ≡ b) × (d ≡ e)
one_way heads records one zero zero a b x s t p q = (one a b x (start_names records a s) (start_names records b t) p q, refl)
one_way heads records one zero (suc e) a b x s t p q =
    let m_in = behind_in heads records e b q.0 q.1 in
    absurd (start_is_no_three records a q.0 (one a q.0 x (start_names records a s) (three_names records q.0 m_in) p q.2) s m_in.1)
one_way heads records one (suc d) zero a b x s t p q =
    let m_in = behind_in heads records d a p.0 p.1 in
    absurd (start_is_no_three records b p.0 (one b p.0 x (start_names records b t) (three_names records p.0 m_in) q p.2) t m_in.1)
one_way heads records one (suc d) (suc e) a b x s t p q =
    let same : p.0 ≡ q.0 = one p.0 q.0 x (three_names records p.0 (behind_in heads records d a p.0 p.1)) (three_names records q.0 (behind_in heads records e b q.0 q.1)) p.2 q.2 in
    let P : Placed → Type 0 = λ m. IsBehind heads records d a m in
    let r = one_way heads records one d e a b q.0 s t (subst P same p.1) q.1 in
    (r.0, ap suc r.1)

-- ---- the chain of one data set

abbrev IsDeep : ℕ → List Placed → Placed → ℕ → Placed → Type 0
IsDeep heads records a d x = (e : ℕ) × (d ≤ e) × IsBehind heads records e a x

-- what these bytes name is so far behind a record
abbrev LeadsAt : ℕ → List Placed → Placed → ℕ → List ℕ → Type 0
LeadsAt heads records a d bytes = (x : Placed) → next_format_3 heads records bytes ≡ Some x → IsBehind heads records d a x

deep : (heads : ℕ) (records : List Placed) (a : Placed) (n d : ℕ) (bytes : List ℕ) → LeadsAt heads records a d bytes → All (IsDeep heads records a d) (chain_of heads records n bytes)
deep heads records a zero d bytes h = All-nil (IsDeep heads records a d)
deep heads records a (suc n) d bytes h = by (λ p b. deep heads records a n (suc d) p.bytes (λ x q. (p, b, q))) (next_format_3 heads records bytes) refl
  where
    by : ((p : Placed) → IsBehind heads records d a p → All (IsDeep heads records a (suc d)) (chain_of heads records n p.bytes)) → (o : Option Placed) → next_format_3 heads records bytes ≡ o
        → All (IsDeep heads records a d) (extended o (λ placed. chain_of heads records n placed.bytes))
    by later None e = All-nil (IsDeep heads records a d)
    by later (Some p) e =
        All-cons (IsDeep heads records a d) p (chain_of heads records n p.bytes) (d, omega arith, h p e)
        (All-weaker (IsDeep heads records a (suc d)) (IsDeep heads records a d) (λ x y. (y.0, omega (arith, y.1), y.2)) (chain_of heads records n p.bytes) (later p (h p e)))

distinct_chain : (heads : ℕ) (records : List Placed) → OneNamer heads records → (a : Placed) → IsStart records a → (n d : ℕ) (bytes : List ℕ) → LeadsAt heads records a d bytes → AreDistinct (chain_of heads records n bytes)
distinct_chain heads records one a s zero d bytes h = tt
distinct_chain heads records one a s (suc n) d bytes h =
    by (λ p b. distinct_chain heads records one a s n (suc d) p.bytes (λ x q. (p, b, q))) (next_format_3 heads records bytes) refl
  where
    by : ((p : Placed) → IsBehind heads records d a p → AreDistinct (chain_of heads records n p.bytes)) → (o : Option Placed) → next_format_3 heads records bytes ≡ o
        → AreDistinct (extended o (λ placed. chain_of heads records n placed.bytes))
    by later None e = tt
    by later (Some p) e = (
      (λ c.
          let again : IsDeep heads records a (suc d) p =
          All-contains (IsDeep heads records a (suc d)) (chain_of heads records n p.bytes) p (deep heads records a n (suc d) p.bytes (λ x q. (p, h p e, q))) c in
          let same = (one_way heads records one d again.0 a a p s s (h p e) again.2).1 in
          omega (arith, same, again.1)),
      later p (h p e),
    )

-- ---- the chains of all data sets

abbrev pub chain_at : ℕ → List Placed → Placed → List Placed
chain_at heads records placed = chain_of heads records (length records) placed.bytes

chain_deep : (heads : ℕ) (records : List Placed) (a x : Placed) → Contains (chain_at heads records a) x → IsDeep heads records a 0 x
chain_deep heads records a x c = All-contains (IsDeep heads records a 0) (chain_at heads records a) x (deep heads records a (length records) 0 a.bytes (λ y q. q)) c

distinct_chains : (heads : ℕ) (records : List Placed) → OneNamer heads records → (starts : List Placed) → All (IsStart records) starts → AreDistinct starts → AreDistinct (flat_map (chain_at heads records) starts)
distinct_chains heads records one [] all d = tt
distinct_chains heads records one (a ∷ starts) all d =
    distinct_append (chain_at heads records a) (flat_map (chain_at heads records) starts) (distinct_chain heads records one a s (length records) 0 a.bytes (λ y q. q))
    (distinct_chains heads records one starts (λ k e lt. all (suc k) e (omega (arith, lt))) d.1) (λ z here there. apart z here (from_flat (chain_at heads records) starts z there))
  where
    s : IsStart records a
    s = all 0 a (omega arith)

    apart : (z : Placed) → Contains (chain_at heads records a) z → ((b : Placed) × Contains starts b × Contains (chain_at heads records b) z) → ⊥
    apart z here there =
        let p = chain_deep heads records a z here in
        let q = chain_deep heads records there.0 z there.2 in
        let t : IsStart records there.0 = All-contains (IsStart records) starts there.0 (λ k e lt. all (suc k) e (omega (arith, lt))) there.1 in
        let same : a ≡ there.0 = (one_way heads records one p.0 q.0 a there.0 z s t p.2 q.2).0 in
        let P : Placed → Type 0 = λ b. Contains starts b in
        d.0 (subst P (sym same) there.1)

-- ---- where no rule is broken

-- what is bad of pointers, in its three parts
abbrev pub orphans : Vtoc → List Placed
orphans vtoc = filter (λ placed. is_f3 (format_of placed.bytes) && not (is_among (reached_3s vtoc) placed)) (records_of vtoc)

abbrev pub twice_named : Vtoc → List Placed
twice_named vtoc = later_ones (λ later earlier. same_target (named_by vtoc later) (named_by vtoc earlier)) (filter (names_3 vtoc) (namers_of vtoc))

-- the first four kinds of breaches
pub no_first_four : (vtoc : Vtoc) → breaches_of vtoc ≡ [] → bad_tracks vtoc.run.first vtoc.tracks ++ bad_dscbs vtoc ++ bad_names vtoc ++ bad_pointers vtoc ≡ []
no_first_four vtoc e =
    let four = bad_tracks vtoc.run.first vtoc.tracks ++ bad_dscbs vtoc ++ bad_names vtoc ++ bad_pointers vtoc in
    left_nil four (bad_fives vtoc)
    (left_nil (four ++ bad_fives vtoc) (bad_ranges vtoc)
    (left_nil (four ++ bad_fives vtoc ++ bad_ranges vtoc) (bad_overlaps vtoc) (left_nil (four ++ bad_fives vtoc ++ bad_ranges vtoc ++ bad_overlaps vtoc) (bad_free vtoc) e)))

pub no_bad_pointers : (vtoc : Vtoc) → breaches_of vtoc ≡ [] → bad_pointers vtoc ≡ []
no_bad_pointers vtoc e = right_nil (bad_tracks vtoc.run.first vtoc.tracks ++ bad_dscbs vtoc ++ bad_names vtoc) (bad_pointers vtoc) (no_first_four vtoc e)

pub no_bad_dscbs : (vtoc : Vtoc) → breaches_of vtoc ≡ [] → bad_dscbs vtoc ≡ []
no_bad_dscbs vtoc e =
    let two = bad_tracks vtoc.run.first vtoc.tracks ++ bad_dscbs vtoc in
    right_nil (bad_tracks vtoc.run.first vtoc.tracks) (bad_dscbs vtoc) (left_nil two (bad_names vtoc) (left_nil (two ++ bad_names vtoc) (bad_pointers vtoc) (no_first_four vtoc e)))

-- the records whose pointers name no format 3
abbrev pub lost : Vtoc → List Placed
lost vtoc = filter (λ placed. not (names_3 vtoc placed)) (namers_of vtoc)

pub no_parts : (vtoc : Vtoc) → breaches_of vtoc ≡ [] → lost vtoc ++ twice_named vtoc ++ orphans vtoc ≡ []
no_parts vtoc e = map_nil (breach rules.Pointer) (lost vtoc ++ twice_named vtoc ++ orphans vtoc) (no_bad_pointers vtoc e)

none_twice : (vtoc : Vtoc) → breaches_of vtoc ≡ [] → twice_named vtoc ≡ []
none_twice vtoc e = right_nil (lost vtoc) (twice_named vtoc) (left_nil (lost vtoc ++ twice_named vtoc) (orphans vtoc) (no_parts vtoc e))

no_orphans : (vtoc : Vtoc) → breaches_of vtoc ≡ [] → orphans vtoc ≡ []
no_orphans vtoc e = right_nil (lost vtoc ++ twice_named vtoc) (orphans vtoc) (no_parts vtoc e)

-- ---- each format 3 has one record that names it

some_pointer : (heads : ℕ) (records : List Placed) (pointer : Option Cchhr) (x : Placed) → named_record heads records pointer ≡ Some x → is_some pointer ≡ true
some_pointer heads records None x e = absurd (let q : nothing ≡ Some x = e in let r : ⊥ = cc in r)
some_pointer heads records (Some pointer) x e = refl

-- the records that name a format 3
abbrev naming : Vtoc → List Placed
naming vtoc = filter (names_3 vtoc) (namers_of vtoc)

is_naming : (vtoc : Vtoc) (a x : Placed) → IsNamer (records_of vtoc) a → next_format_3 vtoc.heads (records_of vtoc) a.bytes ≡ Some x → Contains (naming vtoc) a × (named_by vtoc a ≡ Some x)
is_naming vtoc a x n e =
    let records = records_of vtoc in
    let o = named_record vtoc.heads records (pointer_in a.bytes) in
    let named : o ≡ Some x = named_by_next o x e in
    let three : names_3 vtoc a ≡ true = ap (names_format (λ bytes. is_f3 (format_of bytes))) named ∙ format_3 o x e in
    let namer : ((is_f1 (format_of a.bytes) || is_f3 (format_of a.bytes)) && is_some (pointer_in a.bytes)) ≡ true =
    (λ i. n.1 i && some_pointer vtoc.heads records (pointer_in a.bytes) x named i) in (
      in_filter (names_3 vtoc) (namers_of vtoc) a
          (in_filter (λ (placed : Placed). (is_f1 (format_of placed.bytes) || is_f3 (format_of placed.bytes)) && is_some (pointer_in placed.bytes)) records a n.0 namer) three,
      named,
    )

-- an earlier and a later record that are related
pub none_related : (related : Placed → Placed → Bool) (xs : List Placed) → later_ones related xs ≡ [] → (i j : ℕ) → i < j → j < length xs → related (record_in xs j) (record_in xs i) ≡ true → ⊥
none_related related xs none i j lt less e =
    let earlier : Contains (take j xs) (record_in xs i) =
    (i, omega (arith, lt, less, length-take j xs), get_or_default (take j xs) i (record_in xs i) blank (omega (arith, lt, less, length-take j xs)) ∙ get_or-take j xs i blank lt) in
    let any : list_any (related (record_in xs j)) (take j xs) ≡ true = passes_any (related (record_in xs j)) (take j xs) (record_in xs i) earlier e in
    let P : List Placed → Type 0 = λ found. Contains found (record_in xs j) in
    in_none (record_in xs j) (subst P none ((later_found related xs).each j less any))

pub one_namer : (vtoc : Vtoc) → breaches_of vtoc ≡ [] → OneNamer vtoc.heads (records_of vtoc)
one_namer vtoc none a b x p q to_a to_b =
    let in_a = is_naming vtoc a x p to_a in
    let in_b = is_naming vtoc b x q to_b in
    by in_a.0 in_b.0 in_a.1 in_b.1
  where
    related : Placed → Placed → Bool
    related = λ later earlier. same_target (named_by vtoc later) (named_by vtoc earlier)

    both : (m n : Placed) → named_by vtoc m ≡ Some x → named_by vtoc n ≡ Some x → related m n ≡ true
    both m n e f = (λ i. same_target (e i) (f i)) ∙ place_itself x.place

    by : Contains (naming vtoc) a → Contains (naming vtoc) b → named_by vtoc a ≡ Some x → named_by vtoc b ≡ Some x → a ≡ b
    by c d e f = order (cases_order c.0 d.0)
      where
        at_a : record_in (naming vtoc) c.0 ≡ a
        at_a = get_or_default (naming vtoc) c.0 blank a c.1 ∙ c.2

        at_b : record_in (naming vtoc) d.0 ≡ b
        at_b = get_or_default (naming vtoc) d.0 blank b d.1 ∙ d.2

        order : ((c.0 ≡ d.0) ⊎ ((c.0 < d.0) ⊎ (d.0 < c.0))) → a ≡ b
        order (inl same) = sym at_a ∙ ap (record_in (naming vtoc)) same ∙ at_b
        order (inr (inl less)) =
            absurd (none_related related (naming vtoc) (none_twice vtoc none) c.0 d.0 less d.1 ((λ i. related (at_b i) (at_a i)) ∙ both b a f e))
        order (inr (inr more)) =
            absurd (none_related related (naming vtoc) (none_twice vtoc none) d.0 c.0 more c.1 ((λ i. related (at_a i) (at_b i)) ∙ both a b e f))

-- ---- the law

pub chains_apart : (vtoc : Vtoc) → AreShort vtoc.tracks → breaches_of vtoc ≡ [] → AreEachOnce (threes_of vtoc) (reached_3s vtoc)
chains_apart vtoc short none = record {
  same = λ placed. (covered placed, reached placed);
  once = distinct;
  count = count;
}
  where
    records : List Placed
    records = records_of vtoc

    up : IsAscending (256 * vtoc.run.first) records
    up = ascending vtoc.run.first vtoc.tracks short

    starts : List Placed
    starts = filter (λ placed. is_f1 (format_of placed.bytes)) records

    one : OneNamer vtoc.heads records
    one = one_namer vtoc none

    start_of : (a : Placed) → Contains starts a → IsStart records a
    start_of a c = from_filter (λ (placed : Placed). is_f1 (format_of placed.bytes)) records a c

    distinct : AreDistinct (reached_3s vtoc)
    distinct =
        distinct_chains vtoc.heads records one starts (λ k d lt. start_of (get_or starts k d) (Contains-get_or starts k d lt))
        (distinct_filter (λ (placed : Placed). is_f1 (format_of placed.bytes)) records (distinct_records (256 * vtoc.run.first) records up))

    member : (placed : Placed) → Contains (reached_3s vtoc) placed → Contains records placed × (is_f3 (format_of placed.bytes) ≡ true)
    member placed c =
        let at = from_flat (chain_at vtoc.heads records) starts placed c in
        let far = chain_deep vtoc.heads records at.0 placed at.2 in
        behind_in vtoc.heads records far.0 at.0 placed far.2

    reached : (placed : Placed) → Contains (reached_3s vtoc) placed → Contains (threes_of vtoc) placed
    reached placed c = let m = member placed c in in_filter (λ (p : Placed). is_f3 (format_of p.bytes)) records placed m.0 m.1

    is_reached : (placed : Placed) → Contains records placed → is_f3 (format_of placed.bytes) ≡ true → (t : Bool) → is_among (reached_3s vtoc) placed ≡ t → Contains (reached_3s vtoc) placed
    is_reached placed there three true e =
        let found = any_passes (λ (other : Placed). same_place other.place placed.place) (reached_3s vtoc) e in
        let same : found.0 ≡ placed = one_record (256 * vtoc.run.first) records up found.0 placed (member found.0 found.1).0 there found.2 in
        let P : Placed → Type 0 = λ p. Contains (reached_3s vtoc) p in
        subst P same found.1
    is_reached placed there three false e =
        let P : List Placed → Type 0 = λ ps. Contains ps placed in
        absurd (in_none placed (subst P (no_orphans vtoc none)
        (in_filter (λ (p : Placed). is_f3 (format_of p.bytes) && not (is_among (reached_3s vtoc) p)) records placed there (λ i. three i && not (e i)))))

    covered : (placed : Placed) → Contains (threes_of vtoc) placed → Contains (reached_3s vtoc) placed
    covered placed c =
        let m = from_filter (λ (p : Placed). is_f3 (format_of p.bytes)) records placed c in
        is_reached placed m.0 m.1 (is_among (reached_3s vtoc) placed) refl

    count : length (reached_3s vtoc) ≡ length (threes_of vtoc)
    count =
        let few = no_more (reached_3s vtoc) (threes_of vtoc) distinct reached in
        let many =
        no_more (threes_of vtoc) (reached_3s vtoc) (distinct_filter (λ (p : Placed). is_f3 (format_of p.bytes)) records (distinct_records (256 * vtoc.run.first) records up))
        covered in
        omega (arith, few, many)
