-- Lists of pairs of names are read exactly.
use Rattle.std.proofs.Common.{◌≡◌, ◌⊎◌, inl, inr, ℕ, ◌+◌, ◌<◌, ◌≤◌, List, [], ◌∷◌, ◌++◌, length, refl, sym, ap, subst, ◌∙◌, Bool, true, false, arith, append_assoc, append-nil}
use Rattle.std.specs.Prelude.{codes, IsTrue}
use Rattle.std.proofs.lemmas.List.Elements.{All-from_recursion}
use Rattle.std.proofs.lemmas.List.{same_from_push, length_push}
use Rattle.std.proofs.Math.Nat.{eq-or-lt_of_le}
use Rattle.dsn_filter.specs.declared.dsn.Dsn.{Dsn}
use Rattle.dsn_filter.specs.Dsn.{dsn_of}
use Rattle.dsn_filter.specs.Qualifier.{IsQualifier, IsInner}
use Rattle.sysin_text.specs.declared.token.Token.{Token}
use Rattle.sysin_text.specs.declared.token.Token.TheVariants.{Open, Close, Comma, Word}
use Rattle.sysin_text.proofs.OneMore.{with_rest}
use Rattle.sysin_values.specs.declared.fault.ValueFault.{ValueFault}
use Rattle.sysin_values.specs.declared.fault.ValueFault.TheVariants as faults
use Rattle.sysin_values.specs.declared.place.PairPlace.{PairPlace}
use Rattle.sysin_values.specs.declared.place.PairPlace.TheVariants as places
use Rattle.sysin_values.specs.Series.{IsListOf, IsFew, IsBefore}
use Rattle.sysin_values.specs.Values.{SaysName, IsPair, IsPairs, most_entries}
use Rattle.sysin_values.specs.Begun.{CanGoOn, Begin, EndWithComma}
use Rattle.sysin_values.specs.Exact.{IsExact, MayStand, IsWhy, TellsWhy}
use Rattle.sysin_values.specs.Pairs.{PairProgress, pair_start, Fits, NamesToken, NamesNone, WantsName, GoesFrom, PairGoes, PairStops, IsBegun, InPair, HasRoom, PairReads, PairsGive}
use Rattle.sysin_values.proofs.Lists.{IsClosed, IsOne, before_more, behind_list, behind_before, one_list, IsRest}

pub closed_pair : IsClosed IsPair
closed_pair x y s t a b (o, n, e, so, sn) (p, m, f, sp, sm) same =
    let both : Open ∷ Word o ∷ Comma ∷ Word n ∷ Close ∷ a ≡ Open ∷ Word p ∷ Comma ∷ Word m ∷ Close ∷ b = sym (ap (λ (u : List Token). u ++ a) e) ∙ same ∙ ap (λ (u : List Token). u ++ b) f in
    let olds : o ≡ p = cc in
    let news : n ≡ m = cc in
    let tails : a ≡ b = cc in
    (e ∙ ap (λ (z : List ℕ). Open ∷ Word z ∷ Comma ∷ Word n ∷ Close ∷ []) olds ∙ ap (λ (z : List ℕ). Open ∷ Word p ∷ Comma ∷ Word z ∷ Close ∷ []) news ∙ sym f, tails)

pub one_pair : IsOne IsPair
one_pair x y text (o, n, e, so, sn) (p, m, f, sp, sm) =
    let both : Open ∷ Word o ∷ Comma ∷ Word n ∷ Close ∷ [] ≡ Open ∷ Word p ∷ Comma ∷ Word m ∷ Close ∷ [] = sym e ∙ f in
    let olds : o ≡ p = cc in
    let news : n ≡ m = cc in
    same_pair x y (same_name x.0 y.0 o p so sp olds) (same_name x.1 y.1 n m sn sm news)
  where
    same_name : (a b : Dsn) (w v : List ℕ) → SaysName w a → SaysName v b → w ≡ v → a ≡ b
    same_name a b w v s t e = s.1 ∙ ap dsn_of e ∙ sym t.1

    same_pair : (a b : Dsn × Dsn) → a.0 ≡ b.0 → a.1 ≡ b.1 → a ≡ b
    same_pair a b e f = ap (λ (z : Dsn). (z, a.1)) e ∙ ap (λ (z : Dsn). (b.0, z)) f

-- a list begins with the five tokens of a pair
pub record BeginsPair (text : List Token) : Type 0 where
  pub old : List ℕ
  pub new : List ℕ
  pub tail : List Token
  pub whole : text ≡ Open ∷ Word old ∷ Comma ∷ Word new ∷ Close ∷ tail
  pub old_name : Dsn
  pub new_name : Dsn
  pub says_old : SaysName old old_name
  pub says_new : SaysName new new_name

pub first_pair : (list : List (Dsn × Dsn)) (text : List Token) → IsListOf IsPair list text → BeginsPair text
first_pair [] text l = absurd l
first_pair (x ∷ []) text (o, n, e, so, sn) = record { old = o; new = n; tail = []; whole = e; old_name = x.0; new_name = x.1; says_old = so; says_new = sn }
first_pair (x ∷ next ∷ list) text (front, rest, e, (o, n, f, so, sn), l) =
    record { old = o; new = n; tail = Comma ∷ rest; whole = e ∙ ap (λ (u : List Token). u ++ Comma ∷ rest) f; old_name = x.0; new_name = x.1; says_old = so; says_new = sn }

pub some_pair : (list : List (Dsn × Dsn)) → IsListOf IsPair list [] → ⊥
some_pair list l = let b = first_pair list [] l in let none = b.whole in cc

some_length : (list : List (Dsn × Dsn)) (text : List Token) → IsListOf IsPair list text → 0 < length list
some_length [] text l = absurd l
some_length (x ∷ list) text l = omega arith

-- ---- one more token

put : (text front begun known : List Token) (token sign : Token) → text ≡ front ++ begun → begun ≡ known → token ≡ sign → text ++ token ∷ [] ≡ front ++ (known ++ sign ∷ [])
put text front begun known token sign whole e f =
    ap (λ (u : List Token). u ++ token ∷ []) whole ∙ append_assoc front begun (token ∷ []) ∙ ap (λ (u : List Token). front ++ (u ++ token ∷ [])) e ∙ ap (λ (s : Token). front ++ (known ++ s ∷ [])) f

-- the tokens lead to this place behind so many pairs
abbrev pub IsAt : PairPlace → List (Dsn × Dsn) → List Token → Type 0
IsAt place list text = ((place ≡ places.Behind) × IsListOf IsPair list text) ⊎ InPair place list text

opened : (list : List (Dsn × Dsn)) (text : List Token) (token : Token) → InPair places.Before list text → token ≡ Open → InPair places.Opened list (text ++ token ∷ [])
opened list text token p sign = record { front = p.front; begun = Open ∷ []; whole = put text p.front p.begun [] token Open p.whole p.place_is sign; before = p.before; place_is = refl }

old_read : (list : List (Dsn × Dsn)) (text : List Token) (token : Token) (name : Dsn) → InPair places.Opened list text → NamesToken token name → InPair (places.Old name) list (text ++ token ∷ [])
old_read list text token name p t = record {
  front = p.front;
  begun = Open ∷ Word t.word ∷ [];
  whole = put text p.front p.begun (Open ∷ []) token (Word t.word) p.whole p.place_is t.sign;
  before = p.before;
  place_is = (t.word, refl, t.says);
}

new_read : (list : List (Dsn × Dsn)) (text : List Token) (token : Token) (old name : Dsn) → InPair (places.Middle old) list text → NamesToken token name → InPair (places.New old name) list (text ++ token ∷ [])
new_read list text token old name p t = record {
  front = p.front;
  begun = Open ∷ Word p.place_is.0 ∷ Comma ∷ Word t.word ∷ [];
  whole = put text p.front p.begun (Open ∷ Word p.place_is.0 ∷ Comma ∷ []) token (Word t.word) p.whole p.place_is.1 t.sign;
  before = p.before;
  place_is = (p.place_is.0, t.word, refl, p.place_is.2, t.says);
}

goes_from : (place : PairPlace) (list : List (Dsn × Dsn)) (new : PairProgress) (text : List Token) (token : Token) → HasRoom place list → IsAt place list text → GoesFrom place list token new
    → PairReads new (text ++ token ∷ [])
goes_from places.Before list new text token few (inl (behind, l)) g = cc
goes_from places.Before list new text token few (inr p) (sign, below, is) =
    subst (λ (n : PairProgress). PairReads n (text ++ token ∷ [])) (sym is) (below, inr (opened list text token p sign))
goes_from places.Opened list new text token few (inl (behind, l)) g = cc
goes_from places.Opened list new text token few (inr p) (old, t, is) =
    subst (λ (n : PairProgress). PairReads n (text ++ token ∷ [])) (sym is) (few, inr (old_read list text token old p t))
goes_from (places.Old old) list new text token few (inl (behind, l)) g = cc
goes_from (places.Old old) list new text token few (inr p) (sign, is) =
    subst (λ (n : PairProgress). PairReads n (text ++ token ∷ [])) (sym is) (
      few,
      inr (record {
        front = p.front;
        begun = Open ∷ Word p.place_is.0 ∷ Comma ∷ [];
        whole = put text p.front p.begun (Open ∷ Word p.place_is.0 ∷ []) token Comma p.whole p.place_is.1 sign;
        before = p.before;
        place_is = (p.place_is.0, refl, p.place_is.2);
      }),
    )
goes_from (places.Middle old) list new text token few (inl (behind, l)) g = cc
goes_from (places.Middle old) list new text token few (inr p) (name, t, is) =
    subst (λ (n : PairProgress). PairReads n (text ++ token ∷ [])) (sym is) (few, inr (new_read list text token old name p t))
goes_from (places.New old name) list new text token few (inl (behind, l)) g = cc
goes_from (places.New old name) list new text token few (inr p) (sign, is) =
    let i = p.place_is in
    let five : List Token = Open ∷ Word i.0 ∷ Comma ∷ Word i.1 ∷ Close ∷ [] in
    let more : IsListOf IsPair (list ++ (old, name) ∷ []) (p.front ++ five) = before_more IsPair list p.front (old, name) five p.before (i.0, i.1, refl, i.3, i.4) in
    let whole : text ++ token ∷ [] ≡ p.front ++ five = put text p.front p.begun (Open ∷ Word i.0 ∷ Comma ∷ Word i.1 ∷ []) token Close p.whole i.2 sign in
    let long = length_push list (old, name) in
    subst (λ (n : PairProgress). PairReads n (text ++ token ∷ [])) (sym is) (omega arith, inl (refl, subst (λ (t : List Token). IsListOf IsPair (list ++ (old, name) ∷ []) t) (sym whole) more))
goes_from places.Behind list new text token few (inl (behind, l)) (sign, is) =
    subst (λ (n : PairProgress). PairReads n (text ++ token ∷ [])) (sym is) (
      few,
      inr (record {
        front = text ++ token ∷ [];
        begun = [];
        whole = sym (append-nil (text ++ token ∷ []));
        before = inr (text, ap (λ (s : Token). text ++ s ∷ []) sign, l);
        place_is = refl;
      }),
    )
goes_from places.Behind list new text token few (inr p) g = absurd p.place_is

-- ---- which token must stand next

abbrev pub IsNext : PairPlace → List (Dsn × Dsn) → Token → List (Dsn × Dsn) → Type 0
IsNext places.Before list token all = (token ≡ Open) × (length list < length all)
IsNext places.Opened list token all = (name : Dsn) × NamesToken token name
IsNext (places.Old old) list token all = token ≡ Comma
IsNext (places.Middle old) list token all = (name : Dsn) × NamesToken token name
IsNext (places.New old name) list token all = token ≡ Close
IsNext places.Behind list token all = token ≡ Comma

in_pair : (place : PairPlace) (list all : List (Dsn × Dsn)) (begun : List Token) (token : Token) (rest : List Token) (others : List (Dsn × Dsn)) → IsBegun place begun → IsListOf IsPair others (begun ++ token ∷ rest)
    → length all ≡ length list + length others → IsNext place list token all
in_pair places.Before list all begun token rest others i l count =
    let b = first_pair others (begun ++ token ∷ rest) l in
    let some = some_length others (begun ++ token ∷ rest) l in
    let both : token ∷ rest ≡ Open ∷ Word b.old ∷ Comma ∷ Word b.new ∷ Close ∷ b.tail = ap (λ (u : List Token). u ++ token ∷ rest) (sym i) ∙ b.whole in
    (cc, omega arith)
in_pair places.Opened list all begun token rest others i l count =
    let b = first_pair others (begun ++ token ∷ rest) l in
    let both : Open ∷ token ∷ rest ≡ Open ∷ Word b.old ∷ Comma ∷ Word b.new ∷ Close ∷ b.tail = ap (λ (u : List Token). u ++ token ∷ rest) (sym i) ∙ b.whole in
    (b.old_name, record { word = b.old; sign = cc; says = b.says_old })
in_pair (places.Old old) list all begun token rest others i l count =
    let b = first_pair others (begun ++ token ∷ rest) l in
    let both : Open ∷ Word i.0 ∷ token ∷ rest ≡ Open ∷ Word b.old ∷ Comma ∷ Word b.new ∷ Close ∷ b.tail = ap (λ (u : List Token). u ++ token ∷ rest) (sym i.1) ∙ b.whole in
    cc
in_pair (places.Middle old) list all begun token rest others i l count =
    let b = first_pair others (begun ++ token ∷ rest) l in
    let both : Open ∷ Word i.0 ∷ Comma ∷ token ∷ rest ≡ Open ∷ Word b.old ∷ Comma ∷ Word b.new ∷ Close ∷ b.tail = ap (λ (u : List Token). u ++ token ∷ rest) (sym i.1) ∙ b.whole in
    (b.new_name, record { word = b.new; sign = cc; says = b.says_new })
in_pair (places.New old name) list all begun token rest others i l count =
    let b = first_pair others (begun ++ token ∷ rest) l in
    let both : Open ∷ Word i.0 ∷ Comma ∷ Word i.1 ∷ token ∷ rest ≡ Open ∷ Word b.old ∷ Comma ∷ Word b.new ∷ Close ∷ b.tail = ap (λ (u : List Token). u ++ token ∷ rest) (sym i.2) ∙ b.whole in
    cc
in_pair places.Behind list all begun token rest others i l count = absurd i

behind_pair : (list all : List (Dsn × Dsn)) (token : Token) (rest : List Token) → (token ∷ rest ≡ []) ⊎ IsRest IsPair list all (token ∷ rest) → token ≡ Comma
behind_pair list all token rest (inl none) = cc
behind_pair list all token rest (inr r) = let comma = r.comma in cc

pub needs : (place : PairPlace) (list : List (Dsn × Dsn)) (text : List Token) (token : Token) (rest : List Token) (all : List (Dsn × Dsn)) → IsAt place list text
    → IsListOf IsPair all ((text ++ token ∷ []) ++ rest) → IsNext place list token all
needs place list text token rest all (inl (behind, l)) s =
    let whole = subst (λ (t : List Token). IsListOf IsPair all t) (append_assoc text (token ∷ []) rest) s in
    let comma = behind_pair list all token rest (behind_list IsPair closed_pair list all text (token ∷ rest) l whole) in
    subst (λ (p : PairPlace). IsNext p list token all) (sym behind) comma
needs place list text token rest all (inr p) s =
    let same : (text ++ token ∷ []) ++ rest ≡ p.front ++ (p.begun ++ token ∷ rest) =
    append_assoc text (token ∷ []) rest ∙ ap (λ (u : List Token). u ++ token ∷ rest) p.whole ∙ append_assoc p.front p.begun (token ∷ rest) in
    let behind = behind_before IsPair closed_pair list all p.front (p.begun ++ token ∷ rest) p.before (subst (λ (t : List Token). IsListOf IsPair all t) same s) in
    in_pair place list all p.begun token rest behind.0 p.place_is behind.1 behind.2

fits : (place : PairPlace) (list all : List (Dsn × Dsn)) (token : Token) → IsNext place list token all → Fits place token
fits places.Before list all token n = n.0
fits places.Opened list all token n = (n.1.word, n.1.sign)
fits (places.Old old) list all token n = n
fits (places.Middle old) list all token n = (n.1.word, n.1.sign)
fits (places.New old name) list all token n = n
fits places.Behind list all token n = n

-- ---- what can still come

abbrev pub a_word : List ℕ
a_word = codes "A"

pub a_name : SaysName a_word (dsn_of a_word)
a_name = (
  (
    a_word ∷ [],
    record {
      each = All-from_recursion IsQualifier (a_word ∷ []) ((inl (omega arith, omega arith), All-from_recursion IsInner [] tt, omega arith), tt);
      some = omega arith;
      short = omega arith;
      joins = refl;
    },
  ),
  refl,
)

pub record CanEndPair (begun : List Token) : Type 0 where
  pub rest : List Token
  pub pair : Dsn × Dsn
  pub spelled : IsPair pair (begun ++ rest)

can_end : (place : PairPlace) (begun : List Token) → IsBegun place begun → CanEndPair begun
can_end places.Before begun i =
    let rest : List Token = Open ∷ Word a_word ∷ Comma ∷ Word a_word ∷ Close ∷ [] in
    record { rest = rest; pair = (dsn_of a_word, dsn_of a_word); spelled = (a_word, a_word, with_rest begun [] rest i, a_name, a_name) }
can_end places.Opened begun i =
    let rest : List Token = Word a_word ∷ Comma ∷ Word a_word ∷ Close ∷ [] in
    record { rest = rest; pair = (dsn_of a_word, dsn_of a_word); spelled = (a_word, a_word, with_rest begun (Open ∷ []) rest i, a_name, a_name) }
can_end (places.Old old) begun i =
    let rest : List Token = Comma ∷ Word a_word ∷ Close ∷ [] in
    record { rest = rest; pair = (old, dsn_of a_word); spelled = (i.0, a_word, with_rest begun (Open ∷ Word i.0 ∷ []) rest i.1, i.2, a_name) }
can_end (places.Middle old) begun i =
    let rest : List Token = Word a_word ∷ Close ∷ [] in
    record { rest = rest; pair = (old, dsn_of a_word); spelled = (i.0, a_word, with_rest begun (Open ∷ Word i.0 ∷ Comma ∷ []) rest i.1, i.2, a_name) }
can_end (places.New old name) begun i =
    let rest : List Token = Close ∷ [] in
    record { rest = rest; pair = (old, name); spelled = (i.0, i.1, with_rest begun (Open ∷ Word i.0 ∷ Comma ∷ Word i.1 ∷ []) rest i.2, i.3, i.4) }
can_end places.Behind begun i = absurd i

ended_pair : (place : PairPlace) (limited : Bool) (list : List (Dsn × Dsn)) (text : List Token) (p : InPair place list text) → (IsTrue limited → length list < most_entries) → CanGoOn IsPairs limited text
ended_pair place limited list text p few =
    let c = can_end place p.begun p.place_is in
    let same : text ++ c.rest ≡ p.front ++ (p.begun ++ c.rest) = ap (λ (u : List Token). u ++ c.rest) p.whole ∙ append_assoc p.front p.begun c.rest in
    let long = length_push list c.pair in (
      c.rest,
      list ++ c.pair ∷ [],
      (subst (λ (t : List Token). IsListOf IsPair (list ++ c.pair ∷ []) t) (sym same) (before_more IsPair list p.front c.pair (p.begun ++ c.rest) p.before c.spelled), λ limit. let below = few limit in omega arith),
    )

whole : (limited : Bool) (list : List (Dsn × Dsn)) (text : List Token) → IsListOf IsPair list text → length list ≤ most_entries → CanGoOn IsPairs limited text
whole limited list text l few = ([], list, (subst (λ (t : List Token). IsListOf IsPair list t) (sym (append-nil text)) l, λ _. few))

-- behind these tokens a list can go on, or they end with the comma of a full one
abbrev pub IsFull : PairPlace → List (Dsn × Dsn) → List Token → Type 0
IsFull place list text = (place ≡ places.Before) × (most_entries ≤ length list) × EndWithComma IsPairs text

before_or_full : (list : List (Dsn × Dsn)) (text : List Token) → InPair places.Before list text → (length list ≡ most_entries) ⊎ (length list < most_entries)
    → CanGoOn IsPairs true text ⊎ IsFull places.Before list text
before_or_full list text p (inr below) = inl (ended_pair places.Before true list text p (λ _. below))
before_or_full list text p (inl full) = by_front p.before
  where
    by_front : IsBefore IsPair list p.front → CanGoOn IsPairs true text ⊎ IsFull places.Before list text
    by_front (inl none) = let empty : length list ≡ 0 = ap length none.0 in absurd (omega arith)
    by_front (inr some) =
        let same : text ≡ some.0 ++ Comma ∷ [] = p.whole ∙ ap (λ (u : List Token). p.front ++ u) p.place_is ∙ append-nil p.front ∙ some.1 in
        inr (refl, omega arith, record { front = some.0; comma = same; before = whole true list some.0 some.2 (omega arith); longer = ended_pair places.Before false list text p (λ free. cc) })

pub can_go_on : (place : PairPlace) (list : List (Dsn × Dsn)) (text : List Token) → HasRoom place list → IsAt place list text → CanGoOn IsPairs true text ⊎ IsFull place list text
can_go_on place list text room (inl (behind, l)) = inl (whole true list text l (subst (λ (p : PairPlace). HasRoom p list) behind room))
can_go_on places.Before list text room (inr p) = before_or_full list text p (eq-or-lt_of_le room)
can_go_on places.Opened list text room (inr p) = inl (ended_pair places.Opened true list text p (λ _. room))
can_go_on (places.Old old) list text room (inr p) = inl (ended_pair (places.Old old) true list text p (λ _. room))
can_go_on (places.Middle old) list text room (inr p) = inl (ended_pair (places.Middle old) true list text p (λ _. room))
can_go_on (places.New old name) list text room (inr p) = inl (ended_pair (places.New old name) true list text p (λ _. room))
can_go_on places.Behind list text room (inr p) = absurd p.place_is

right : (progress : PairProgress) (text : List Token) → PairReads progress text → Begin IsPairs text
right progress text (room, at) =
    elim (can_go_on progress.place progress.list text room at) [
      | inl g ↦ inl g
      | inr full ↦ inr full.2
    ]

given : (progress : PairProgress) (text : List Token) (list : List (Dsn × Dsn)) → PairReads progress text → IsListOf IsPair list text → PairsGive progress list
given progress text list (room, inl (behind, l)) s = (behind, one_list IsPair closed_pair one_pair progress.list list text l s)
given progress text list (room, inr p) s =
    let same : text ≡ p.front ++ p.begun = p.whole in
    let behind = behind_before IsPair closed_pair progress.list list p.front p.begun p.before (subst (λ (t : List Token). IsListOf IsPair list t) same s) in
    absurd (not_begun progress.place p.begun p.place_is behind.0 behind.1)
  where
    not_begun : (place : PairPlace) (begun : List Token) → IsBegun place begun → (others : List (Dsn × Dsn)) → IsListOf IsPair others begun → ⊥
    not_begun places.Before begun i others l = let b = first_pair others begun l in let e = b.whole in cc
    not_begun places.Opened begun i others l = let b = first_pair others begun l in let e = b.whole in cc
    not_begun (places.Old old) begun i others l = let b = first_pair others begun l in let e = b.whole in let f = i.1 in cc
    not_begun (places.Middle old) begun i others l = let b = first_pair others begun l in let e = b.whole in let f = i.1 in cc
    not_begun (places.New old name) begun i others l = let b = first_pair others begun l in let e = b.whole in let f = i.2 in cc
    not_begun places.Behind begun i others l = absurd i

next_is : (progress : PairProgress) (text : List Token) (token : Token) (limited : Bool) → PairReads progress text → CanGoOn IsPairs limited (text ++ token ∷ [])
    → (all : List (Dsn × Dsn)) × IsNext progress.place progress.list token all × IsFew limited most_entries all
next_is progress text token limited (room, at) (rest, all, (l, few)) = (all, needs progress.place progress.list text token rest all at l, few)

-- a token that stops stands nowhere
no_name : (token : Token) (name : Dsn) → NamesToken token name → NamesNone token → ⊥
no_name token name t none =
    let a = t.sign in
    let b = none.sign in
    let same : t.word ≡ none.word = cc in
    none.none name (subst (λ (w : List ℕ). SaysName w name) same t.says)

stopped : (place : PairPlace) (list all : List (Dsn × Dsn)) (token : Token) (fault : ValueFault) → PairStops (record { list = list; place = place }) token fault → ¬ (fault ≡ faults.NoMemory)
    → IsNext place list token all → (fault ≡ faults.Count) × (token ≡ Open) × (most_entries < length all)
stopped place list all token faults.Count stop real n = let longer = (subst (λ (p : PairPlace). IsNext p list token all) stop.0 n).1 in let over = stop.1 in (refl, stop.2, omega arith)
stopped place list all token faults.Value (inl opened, none) real n = let t = subst (λ (p : PairPlace). IsNext p list token all) opened n in absurd (no_name token t.0 t.1 none)
stopped place list all token faults.Value (inr (old, middle), none) real n = let t = subst (λ (p : PairPlace). IsNext p list token all) middle n in absurd (no_name token t.0 t.1 none)
stopped place list all token faults.Word stop real n = absurd (stop (fits place list all token n))
stopped place list all token faults.NoMemory stop real n = absurd (real refl)

-- so the tokens with it go on to no list, and it is no comma behind a full one
pub goes_nowhere : (progress : PairProgress) (text : List Token) (token : Token) (fault : ValueFault) → PairReads progress text → PairStops progress token fault → ¬ (fault ≡ faults.NoMemory)
    → ¬ CanGoOn IsPairs true (text ++ token ∷ [])
goes_nowhere progress text token fault r stop real g =
    let n = next_is progress text token true r g in
    let s = stopped progress.place progress.list n.0 token fault stop real n.1 in
    let over = s.2 in
    let few = n.2 refl in
    omega arith

pub is_no_comma : (progress : PairProgress) (text : List Token) (token : Token) (fault : ValueFault) → PairReads progress text → PairStops progress token fault → ¬ (fault ≡ faults.NoMemory)
    → token ≡ Comma → ¬ CanGoOn IsPairs false (text ++ token ∷ [])
is_no_comma progress text token fault r stop real comma g =
    let n = next_is progress text token false r g in
    let open' : token ≡ Open = (stopped progress.place progress.list n.0 token fault stop real n.1).1 in
    cc

wrong : (progress : PairProgress) (text : List Token) (token : Token) (fault : ValueFault) → PairReads progress text → PairStops progress token fault → ¬ (fault ≡ faults.NoMemory)
    → ¬ Begin IsPairs (text ++ token ∷ [])
wrong progress text token fault r stop real (inl g) = goes_nowhere progress text token fault r stop real g
wrong progress text token fault r stop real (inr e) = is_no_comma progress text token fault r stop real (same_from_push text e.front token Comma e.comma).1 e.longer

-- ---- why

full : (progress : PairProgress) (text : List Token) (token : Token) → PairReads progress text → progress.place ≡ places.Before → most_entries ≤ length progress.list → ¬ CanGoOn IsPairs true (text ++ token ∷ [])
full progress text token r before over g =
    let n = next_is progress text token true r g in
    let longer = (subst (λ (p : PairPlace). IsNext p progress.list token n.0) before n.1).1 in
    let few = n.2 refl in
    omega arith

not_full : (progress : PairProgress) (text : List Token) (token : Token) → PairReads progress text → progress.place ≡ places.Before → most_entries ≤ length progress.list → MayStand IsPairs true text token → ⊥
not_full progress text token r before over (inl (word, other, sign, g)) = full progress text (Word other) r before over g
not_full progress text token r before over (inr g) = full progress text token r before over g

at_before : (list : List (Dsn × Dsn)) (text : List Token) → IsAt places.Before list text → InPair places.Before list text
at_before list text (inl (behind, l)) = cc
at_before list text (inr p) = p

sample : NamesToken (Word a_word) (dsn_of a_word)
sample = record { word = a_word; sign = refl; says = a_name }

-- a name may stand
name_stands : (place : PairPlace) (list : List (Dsn × Dsn)) (text : List Token) → WantsName place → HasRoom place list → IsAt place list text → CanGoOn IsPairs true (text ++ Word a_word ∷ [])
name_stands place list text (inl opens) room (inl (behind, l)) = cc
name_stands place list text (inr (old, middle)) room (inl (behind, l)) = cc
name_stands place list text (inl opens) room (inr p) =
    let q = subst (λ (p : PairPlace). InPair p list text) opens p in
    let below = subst (λ (p : PairPlace). HasRoom p list) opens room in
    ended_pair (places.Old (dsn_of a_word)) true list (text ++ Word a_word ∷ []) (old_read list text (Word a_word) (dsn_of a_word) q sample) (λ _. below)
name_stands place list text (inr (old, middle)) room (inr p) =
    let q = subst (λ (p : PairPlace). InPair p list text) middle p in
    let below = subst (λ (p : PairPlace). HasRoom p list) middle room in
    ended_pair (places.New old (dsn_of a_word)) true list (text ++ Word a_word ∷ []) (new_read list text (Word a_word) old (dsn_of a_word) q sample) (λ _. below)

-- each word is of one kind
fits_too : (place : PairPlace) (word other : List ℕ) → Fits place (Word other) → Fits place (Word word)
fits_too places.Before word other f = cc
fits_too places.Opened word other f = (word, refl)
fits_too (places.Old old) word other f = cc
fits_too (places.Middle old) word other f = (word, refl)
fits_too (places.New old name) word other f = cc
fits_too places.Behind word other f = cc

pub may_stand_fits : (progress : PairProgress) (text : List Token) (token : Token) → PairReads progress text → MayStand IsPairs false text token → Fits progress.place token
may_stand_fits progress text token r (inl (word, other, sign, g)) =
    let n = next_is progress text (Word other) false r g in
    subst (λ (t : Token). Fits progress.place t) (sym sign) (fits_too progress.place word other (fits progress.place progress.list n.0 (Word other) n.1))
may_stand_fits progress text token r (inr g) = let n = next_is progress text token false r g in fits progress.place progress.list n.0 token n.1

why : (progress : PairProgress) (text : List Token) (token : Token) (fault : ValueFault) → PairReads progress text → PairStops progress token fault → IsWhy IsPairs text token fault
why progress text token faults.Count (room, at) stop =
    let p = at_before progress.list text (subst (λ (p : PairPlace). IsAt p progress.list text) stop.0 at) in
    (inr (ended_pair places.Opened false progress.list (text ++ token ∷ []) (opened progress.list text token p stop.2) (λ free. cc)), not_full progress text token (room, at) stop.0 stop.1)
why progress text token faults.Value (room, at) (wants, none) =
    (inl (none.word, a_word, none.sign, name_stands progress.place progress.list text wants room at), none.word, none.sign)
why progress text token faults.Word r stop = λ m. stop (may_stand_fits progress text token r m)
why progress text token faults.NoMemory r stop = tt

pub exact : IsExact IsPairs pair_start PairGoes PairStops PairsGive PairReads
exact = record {
  begins = (omega arith, inr (record { front = []; begun = []; whole = refl; before = inl (refl, refl); place_is = refl }));
  goes = λ old new text token r g. goes_from old.place old.list new text token r.0 r.1 g;
  spelled = spelled;
  given = λ progress text list r s. given progress text list r s.0;
  right = right;
  wrong = wrong;
}
  where
    spelled : (progress : PairProgress) (text : List Token) (list : List (Dsn × Dsn)) → PairReads progress text → PairsGive progress list → IsPairs true list text
    spelled progress text list (room, inl (behind, l)) (ended, same) =
        (subst (λ (z : List (Dsn × Dsn)). IsListOf IsPair z text) same l, λ _. subst (λ (z : List (Dsn × Dsn)). length z ≤ most_entries) same (subst (λ (p : PairPlace). HasRoom p progress.list) behind room))
    spelled progress text list (room, inr p) (ended, same) = absurd (subst (λ (q : PairPlace). IsBegun q p.begun) ended p.place_is)

pub tells_why : TellsWhy IsPairs PairStops PairReads
tells_why = why
