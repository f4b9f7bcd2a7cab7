-- New names are read exactly.
use Rattle.std.proofs.Common.{◌≡◌, ◌⊎◌, inl, inr, ℕ, List, [], ◌∷◌, ◌++◌, refl, sym, ap, subst, ◌∙◌, Bool, true, false, arith, Option, append-nil}
use Rattle.std.proofs.lemmas.List.{same_from_push}
use Rattle.std.proofs.lemmas.List.Elements.{All-from_recursion}
use Rattle.dsn_filter.specs.declared.dsn.Dsn.{Dsn}
use Rattle.dsn_filter.specs.Dsn.{dsn_of}
use Rattle.dsn_filter.specs.Qualifier.{IsInner}
use Rattle.dsn_filter.specs.declared.rename.Rename.{Rename}
use Rattle.dsn_filter.specs.declared.rename.Rename.TheVariants as renames
use Rattle.sysin_text.specs.declared.token.Token.{Token}
use Rattle.sysin_text.specs.declared.token.Token.TheVariants.{Open, Comma, Word}
use Rattle.sysin_values.specs.declared.fault.ValueFault.{ValueFault}
use Rattle.sysin_values.specs.declared.fault.ValueFault.TheVariants as faults
use Rattle.sysin_values.specs.declared.place.PairPlace.{PairPlace}
use Rattle.sysin_values.specs.declared.place.PairPlace.TheVariants as places
use Rattle.sysin_values.specs.Series.{IsListOf, IsBefore}
use Rattle.sysin_values.specs.Values.{SaysPrefix, IsPair, IsPairs, IsRename}
use Rattle.sysin_values.specs.Begun.{CanGoOn, Begin}
use Rattle.sysin_values.specs.Exact.{IsExact, MayStand, IsWhy, TellsWhy}
use Rattle.sysin_values.specs.Pairs.{PairProgress, IsPairStart, PairReads}
use Rattle.sysin_values.specs.Names.{NameProgress, names_start, IsFirstWord, NamesGo, NamesStop, NamesRead, NamesGive, rename_by}
use Rattle.sysin_values.proofs.PairLists as pairs
use Rattle.sysin_values.proofs.PairLists.{IsAt, first_pair, some_pair, a_word}

-- ---- pairs begin with a bracket

-- tokens that begin pairs: none, or a bracket first
begins_open : (progress : PairProgress) (token : Token) (text : List Token) → PairReads progress (token ∷ text) → token ≡ Open
begins_open progress token text r = by_begin (pairs.exact.right progress (token ∷ text) r)
  where
    by_begin : Begin IsPairs (token ∷ text) → token ≡ Open
    by_begin (inl (rest, list, (l, few))) = let b = first_pair list (token ∷ text ++ rest) l in let e = b.whole in cc
    by_begin (inr e) = let l = e.longer.2.0 in let b = first_pair e.longer.1 (token ∷ text ++ e.longer.0) l in let w = b.whole in cc

not_empty : (front begun : List Token) (token : Token) (more : List Token) → [] ≡ front ++ begun → begun ≡ token ∷ more → ⊥
not_empty [] begun token more e f = cc
not_empty (first ∷ front) begun token more e f = cc

no_last : (front : List Token) → front ++ Comma ∷ [] ≡ [] → ⊥
no_last [] e = cc
no_last (token ∷ front) e = cc

-- where no token is read nothing is
at_nothing : (place : PairPlace) (list : List (Dsn × Dsn)) → IsAt place list [] → (list ≡ []) × (place ≡ places.Before)
at_nothing place list (inl (behind, l)) = absurd (some_pair list l)
at_nothing places.Before list (inr p) = by_front p.before
  where
    front_none : p.front ≡ []
    front_none = let e = p.whole in let f = p.place_is in sym (append-nil p.front) ∙ ap (λ (u : List Token). p.front ++ u) (sym f) ∙ sym e

    by_front : IsBefore IsPair list p.front → (list ≡ []) × (places.Before ≡ places.Before)
    by_front (inl none) = (none.0, refl)
    by_front (inr some) = let e : some.0 ++ Comma ∷ [] ≡ [] = sym some.1 ∙ front_none in absurd (no_last some.0 e)
at_nothing places.Opened list (inr p) = absurd (not_empty p.front p.begun Open [] p.whole p.place_is)
at_nothing (places.Old old) list (inr p) = absurd (not_empty p.front p.begun Open (Word p.place_is.0 ∷ []) p.whole p.place_is.1)
at_nothing (places.Middle old) list (inr p) = absurd (not_empty p.front p.begun Open (Word p.place_is.0 ∷ Comma ∷ []) p.whole p.place_is.1)
at_nothing (places.New old name) list (inr p) = absurd (not_empty p.front p.begun Open (Word p.place_is.0 ∷ Comma ∷ Word p.place_is.1 ∷ []) p.whole p.place_is.2)
at_nothing places.Behind list (inr p) = absurd p.place_is

start_of : (progress : PairProgress) (text : List Token) → PairReads progress text → text ≡ [] → IsPairStart progress
start_of progress text r e = at_nothing progress.place progress.list (subst (λ (t : List Token). IsAt progress.place progress.list t) e r.1)

-- and where nothing is read no token is
nothing_read : (progress : PairProgress) (text : List Token) → PairReads progress text → IsPairStart progress → text ≡ []
nothing_read progress text r (empty, before) = by_place (subst (λ (l : List (Dsn × Dsn)). IsAt places.Before l text) empty (subst (λ (p : PairPlace). IsAt p progress.list text) before r.1))
  where
    by_place : IsAt places.Before [] text → text ≡ []
    by_place (inl (behind, l)) = cc
    by_place (inr p) = by_front p.before
      where
        by_front : IsBefore IsPair [] p.front → text ≡ []
        by_front (inl none) = p.whole ∙ ap (λ (u : List Token). u ++ p.begun) none.1 ∙ p.place_is
        by_front (inr some) = absurd some.2

-- ---- behind a prefix nothing stands

only_prefix : (limited : Bool) (word : List ℕ) (token : Token) → CanGoOn IsRename limited (Word word ∷ token ∷ []) → ⊥
only_prefix limited word token (rest, renames.Keep, s) = s
only_prefix limited word token (rest, renames.Prefix name, (other, e, says)) = cc
only_prefix limited word token (rest, renames.Listed list, (l, few)) = let b = first_pair list (Word word ∷ token ∷ rest) l in let e = b.whole in cc

-- tokens of names are those of pairs, or a word alone
as_pairs : (progress : PairProgress) (text : List Token) (token : Token) (limited : Bool) → PairReads progress text → CanGoOn IsRename limited (text ++ token ∷ [])
    → CanGoOn IsPairs limited (text ++ token ∷ []) ⊎ ((text ≡ []) × (word : List ℕ) × (name : Dsn) × (token ≡ Word word) × SaysPrefix word name)
as_pairs progress text token limited r (rest, renames.Keep, s) = absurd s
as_pairs progress text token limited r (rest, renames.Listed list, s) = inl (rest, list, s)
as_pairs progress [] token limited r (rest, renames.Prefix name, (word, e, says)) = inr (refl, word, name, cc, says)
as_pairs progress (first ∷ text) token limited r (rest, renames.Prefix name, (word, e, says)) =
    let open' : first ≡ Open = begins_open progress first text r in
    let same : first ≡ Word word = cc in
    cc

of_pairs : (limited : Bool) (text : List Token) → CanGoOn IsPairs limited text → CanGoOn IsRename limited text
of_pairs limited text (rest, list, s) = (rest, renames.Listed list, s)

-- ---- the record

goes : (old new : NameProgress) (text : List Token) (token : Token) → NamesRead old text → NamesGo old token new → NamesRead new (text ++ token ∷ [])
goes old new text token (inl (name, has, after)) (inl t) = let none = t.nothing in cc
goes old new text token (inl (name, has, after)) (inr t) = let none = t.nothing in cc
goes old new text token (inr (none, r)) (inl t) =
    let empty = nothing_read old.pairs text r t.first in
    inl (
      t.name,
      t.prefix,
      record {
        word = t.word;
        text_is = ap (λ (u : List Token). u ++ token ∷ []) empty ∙ ap (λ (s : Token). s ∷ []) t.sign;
        says = t.says;
        first = subst IsPairStart (sym t.pairs) t.first;
      },
    )
goes old new text token (inr (none, r)) (inr t) = inr (t.prefix, pairs.exact.goes old.pairs new.pairs text token r t.pairs)

right : (progress : NameProgress) (text : List Token) → NamesRead progress text → Begin IsRename text
right progress text (inl (name, has, after)) = inl ([], renames.Prefix name, (after.word, append-nil text ∙ after.text_is, after.says))
right progress text (inr (none, r)) = by_begin (pairs.exact.right progress.pairs text r)
  where
    by_begin : Begin IsPairs text → Begin IsRename text
    by_begin (inl g) = inl (of_pairs true text g)
    by_begin (inr e) = inr (record { front = e.front; comma = e.comma; before = of_pairs true e.front e.before; longer = of_pairs false text e.longer })

-- with a token that stops nothing goes on
nowhere : (progress : NameProgress) (text : List Token) (token : Token) (fault : ValueFault) → NamesRead progress text → NamesStop progress token fault → ¬ (fault ≡ faults.NoMemory)
    → ¬ CanGoOn IsRename true (text ++ token ∷ [])
nowhere progress text token fault (inl (name, has, after)) stop real g =
    only_prefix true after.word token (subst (λ (t : List Token). CanGoOn IsRename true (t ++ token ∷ [])) after.text_is g)
nowhere progress text token fault (inr (none, r)) (inl (name, has, word)) real g = cc
nowhere progress text token fault (inr (none, r)) (inr (inl (no_name, value, p))) real g = by_word (as_pairs progress.pairs text token true r g)
  where
    by_word : CanGoOn IsPairs true (text ++ token ∷ []) ⊎ ((text ≡ []) × (word : List ℕ) × (name : Dsn) × (token ≡ Word word) × SaysPrefix word name) → ⊥
    by_word (inl (rest, list, (l, few))) =
        let empty = nothing_read progress.pairs text r p.first in
        let whole : IsListOf IsPair list (token ∷ rest) = subst (λ (t : List Token). IsListOf IsPair list ((t ++ token ∷ []) ++ rest)) empty l in
        let b = first_pair list (token ∷ rest) whole in
        let e = b.whole in
        let sign = p.sign in
        cc
    by_word (inr (empty, word, name, sign, says)) =
        let other = p.sign in
        let same : word ≡ p.word = cc in
        p.none name (subst (λ (w : List ℕ). SaysPrefix w name) same says)
nowhere progress text token fault (inr (none, r)) (inr (inr (no_name, later, stop))) real g = by_word (as_pairs progress.pairs text token true r g)
  where
    by_word : CanGoOn IsPairs true (text ++ token ∷ []) ⊎ ((text ≡ []) × (word : List ℕ) × (name : Dsn) × (token ≡ Word word) × SaysPrefix word name) → ⊥
    by_word (inl h) = pairs.goes_nowhere progress.pairs text token fault r stop real h
    by_word (inr (empty, word, name, sign, says)) = later (start_of progress.pairs text r empty, (word, sign))

no_comma : (progress : NameProgress) (text : List Token) (token : Token) (fault : ValueFault) → NamesRead progress text → NamesStop progress token fault → ¬ (fault ≡ faults.NoMemory)
    → token ≡ Comma → ¬ CanGoOn IsRename false (text ++ token ∷ [])
no_comma progress text token fault (inl (name, has, after)) stop real comma g =
    only_prefix false after.word token (subst (λ (t : List Token). CanGoOn IsRename false (t ++ token ∷ [])) after.text_is g)
no_comma progress text token fault (inr (none, r)) (inl (name, has, word)) real comma g = cc
no_comma progress text token fault (inr (none, r)) (inr (inl (no_name, value, p))) real comma g = let sign = p.sign in cc
no_comma progress text token fault (inr (none, r)) (inr (inr (no_name, later, stop))) real comma g = by_word (as_pairs progress.pairs text token false r g)
  where
    by_word : CanGoOn IsPairs false (text ++ token ∷ []) ⊎ ((text ≡ []) × (word : List ℕ) × (name : Dsn) × (token ≡ Word word) × SaysPrefix word name) → ⊥
    by_word (inl h) = pairs.is_no_comma progress.pairs text token fault r stop real comma h
    by_word (inr (empty, word, name, sign, says)) = cc

wrong : (progress : NameProgress) (text : List Token) (token : Token) (fault : ValueFault) → NamesRead progress text → NamesStop progress token fault → ¬ (fault ≡ faults.NoMemory)
    → ¬ Begin IsRename (text ++ token ∷ [])
wrong progress text token fault r stop real (inl g) = nowhere progress text token fault r stop real g
wrong progress text token fault r stop real (inr e) = no_comma progress text token fault r stop real (same_from_push text e.front token Comma e.comma).1 e.longer

spelled : (progress : NameProgress) (text : List Token) (rename : Rename) → NamesRead progress text → NamesGive progress rename → IsRename true rename text
spelled progress text rename (inl (name, has, after)) (ended, same) =
    let is : renames.Prefix name ≡ rename = ap (λ (p : Option Dsn). rename_by p progress.pairs) (sym has) ∙ same in
    subst (λ (x : Rename). IsRename true x text) is (after.word, after.text_is, after.says)
spelled progress text rename (inr (none, r)) (inl (name, has), same) = cc
spelled progress text rename (inr (none, r)) (inr behind, same) =
    let is : renames.Listed progress.pairs.list ≡ rename = ap (λ (p : Option Dsn). rename_by p progress.pairs) (sym none) ∙ same in
    subst (λ (x : Rename). IsRename true x text) is (pairs.exact.spelled progress.pairs text progress.pairs.list r (behind, refl))

given : (progress : NameProgress) (text : List Token) (rename : Rename) → NamesRead progress text → IsRename true rename text → NamesGive progress rename
given progress text renames.Keep r s = absurd s
given progress text (renames.Prefix name) (inl (other, has, after)) (word, e, says) =
    let f = after.text_is in
    let same : after.word ≡ word = cc in
    let names : other ≡ name = after.says.1 ∙ ap dsn_of same ∙ sym says.1 in
    (inl (other, has), ap (λ (p : Option Dsn). rename_by p progress.pairs) has ∙ ap renames.Prefix names)
given progress text (renames.Listed list) (inl (other, has, after)) (l, few) =
    let b = first_pair list text l in
    let e = b.whole in
    let f = after.text_is in
    cc
given progress text (renames.Prefix name) (inr (none, r)) (word, e, says) =
    let open' : Word word ≡ Open = begins_open progress.pairs (Word word) [] (subst (λ (t : List Token). PairReads progress.pairs t) e r) in
    cc
given progress text (renames.Listed list) (inr (none, r)) s =
    let g = pairs.exact.given progress.pairs text list r s in
    (inr g.0, ap (λ (p : Option Dsn). rename_by p progress.pairs) none ∙ ap renames.Listed g.1)

-- ---- why

a_prefix : SaysPrefix a_word (dsn_of a_word)
a_prefix = ((inl (omega arith, omega arith), All-from_recursion IsInner [] tt, omega arith), refl)

of_pairs_stands : (limited : Bool) (text : List Token) (token : Token) → MayStand IsPairs limited text token → MayStand IsRename limited text token
of_pairs_stands limited text token (inl (word, other, sign, g)) = inl (word, other, sign, of_pairs limited (text ++ Word other ∷ []) g)
of_pairs_stands limited text token (inr g) = inr (of_pairs limited (text ++ token ∷ []) g)

-- a token that is no first word stands among pairs
stands_in_pairs : (progress : NameProgress) (text : List Token) (token : Token) (limited : Bool) → PairReads progress.pairs text → ¬ IsFirstWord progress token → MayStand IsRename limited text token
    → MayStand IsPairs limited text token
stands_in_pairs progress text token limited r later (inl (word, other, sign, g)) = by_word (as_pairs progress.pairs text (Word other) limited r g)
  where
    by_word : CanGoOn IsPairs limited (text ++ Word other ∷ []) ⊎ ((text ≡ []) × (w : List ℕ) × (name : Dsn) × (Word other ≡ Word w) × SaysPrefix w name) → MayStand IsPairs limited text token
    by_word (inl h) = inl (word, other, sign, h)
    by_word (inr (empty, w, name, same, says)) = absurd (later (start_of progress.pairs text r empty, (word, sign)))
stands_in_pairs progress text token limited r later (inr g) = by_word (as_pairs progress.pairs text token limited r g)
  where
    by_word : CanGoOn IsPairs limited (text ++ token ∷ []) ⊎ ((text ≡ []) × (w : List ℕ) × (name : Dsn) × (token ≡ Word w) × SaysPrefix w name) → MayStand IsPairs limited text token
    by_word (inl h) = inr h
    by_word (inr (empty, w, name, same, says)) = absurd (later (start_of progress.pairs text r empty, (w, same)))

pair_why : (progress : NameProgress) (text : List Token) (token : Token) (fault : ValueFault) → PairReads progress.pairs text → ¬ IsFirstWord progress token → IsWhy IsPairs text token fault
    → IsWhy IsRename text token fault
pair_why progress text token faults.Count r later w = (of_pairs_stands false text token w.0, λ m. w.1 (stands_in_pairs progress text token true r later m))
pair_why progress text token faults.Value r later w = (of_pairs_stands true text token w.0, w.1, w.2)
pair_why progress text token faults.Word r later w = λ m. w (stands_in_pairs progress text token false r later m)
pair_why progress text token faults.NoMemory r later w = tt

behind_prefix : (word : List ℕ) (token : Token) → MayStand IsRename false (Word word ∷ []) token → ⊥
behind_prefix word token (inl (w, other, sign, g)) = only_prefix false word (Word other) g
behind_prefix word token (inr g) = only_prefix false word token g

why : (progress : NameProgress) (text : List Token) (token : Token) (fault : ValueFault) → NamesRead progress text → NamesStop progress token fault → IsWhy IsRename text token fault
why progress text token fault (inl (name, has, after)) (inl (other, had, word)) =
    subst (λ (f : ValueFault). IsWhy IsRename text token f) (sym word) (λ m. behind_prefix after.word token (subst (λ (t : List Token). MayStand IsRename false t token) after.text_is m))
why progress text token fault (inl (name, has, after)) (inr (inl (none, value, p))) = cc
why progress text token fault (inl (name, has, after)) (inr (inr (none, later, stop))) = cc
why progress text token fault (inr (none, r)) (inl (other, had, word)) = cc
why progress text token fault (inr (none, r)) (inr (inl (no_name, value, p))) =
    let empty = nothing_read progress.pairs text r p.first in
    let g : CanGoOn IsRename true (text ++ Word a_word ∷ []) =
    subst (λ (t : List Token). CanGoOn IsRename true (t ++ Word a_word ∷ [])) (sym empty) ([], renames.Prefix (dsn_of a_word), (a_word, refl, a_prefix)) in
    subst (λ (f : ValueFault). IsWhy IsRename text token f) (sym value) (inl (p.word, a_word, p.sign, g), p.word, p.sign)
why progress text token fault (inr (none, r)) (inr (inr (no_name, later, stop))) = pair_why progress text token fault r later (pairs.tells_why progress.pairs text token fault r stop)

pub exact : IsExact IsRename names_start NamesGo NamesStop NamesGive NamesRead
exact = record {
  begins = inr (refl, pairs.exact.begins);
  goes = goes;
  spelled = spelled;
  given = given;
  right = right;
  wrong = wrong;
}

pub tells_why : TellsWhy IsRename NamesStop NamesRead
tells_why = why
