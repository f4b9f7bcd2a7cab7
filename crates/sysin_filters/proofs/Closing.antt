-- A bracket ends a filter, and what stands before it is one filter.
use Rattle.std.proofs.Common.{◌≡◌, ◌⊎◌, inl, inr, List, [], ◌∷◌, ◌++◌, sym, ap, subst, ◌∙◌, Bool, true, false, append_assoc, append-nil}
use Rattle.sysin_text.specs.declared.token.Token.{Token}
use Rattle.sysin_text.specs.declared.token.Token.TheVariants.{Comma, Close}
use Rattle.sysin_lang.specs.declared.command.Filter.{Filter}
use Rattle.sysin_forms.specs.declared.operand.Operand.{Operand}
use Rattle.sysin_forms.specs.Operand.{name_of}
use Rattle.sysin_forms.specs.Made.{said, filter_made}
use Rattle.sysin_values.specs.Begun.{CanGoOn}
use Rattle.sysin_values.specs.Exact.{OneValue, EndsAtClose}
use Rattle.sysin_filters.specs.Filter.{IsSeriesOf, IsPart, IsFilter}
use Rattle.sysin_filters.proofs.Series.{series_map, series_begins, behind, Agree, EndsOrGoes}
use Rattle.sysin_filters.proofs.Parts.{loosen, part_begins, cut, agree}
use Rattle.sysin_filters.proofs.Following.{follow_begins, all_follow, one_series}
use Rattle.sysin_values.proofs.LongCriteria.{overlap}

agree_back : (limited : Bool) → Agree (IsPart limited) (IsPart true) name_of
agree_back limited = record {
  cut = λ part other s t a b p q same. let c = cut limited other part t s b a q p (sym same) in (sym c.0, sym c.1, sym c.2);
  word = part_begins limited;
  other_word = part_begins true;
}

-- no bracket goes on with parts
no_bracket : (known limited : Bool) → Agree (IsPart known) (IsPart limited) name_of → (parts all : List Operand) (text more : List Token) → IsSeriesOf (IsPart known) parts text
    → IsSeriesOf (IsPart limited) all (text ++ Close ∷ more) → ⊥
no_bracket known limited both [] all text more s a =
    let same : text ++ Close ∷ more ≡ Close ∷ more = ap (λ (t : List Token). t ++ Close ∷ more) s in
    let f = all_follow limited all Close more (subst (λ (t : List Token). IsSeriesOf (IsPart limited) all t) same a) in
    let w = follow_begins limited [] (Close ∷ more) f in
    let e = w.2 in
    cc
no_bracket known limited both (part ∷ parts) all text more s a = by_end (behind (IsPart known) (IsPart limited) name_of both part parts all text (Close ∷ more) s a)
  where
    by_end : EndsOrGoes (IsPart limited) name_of (part ∷ parts) all (Close ∷ more) → ⊥
    by_end (inl e) = let none = e.0 in cc
    by_end (inr b) = by_comma b.joined
      where
        by_comma : (Close ∷ more ≡ b.rest) ⊎ (Close ∷ more ≡ Comma ∷ b.rest) → ⊥
        by_comma (inl e) = let w = series_begins (IsPart limited) (part_begins limited) b.following b.others b.rest b.spelled in let f = w.2 in cc
        by_comma (inr e) = cc

no_close : (limited : Bool) (filter : Filter) (text : List Token) → IsFilter true filter text → ¬ CanGoOn IsFilter limited (text ++ Close ∷ [])
no_close limited filter text (parts, s, once, is) (more, value, (all, a, alone, made)) =
    no_bracket true limited (agree limited) parts all text more s (subst (λ (t : List Token). IsSeriesOf (IsPart limited) all t) (append_assoc text (Close ∷ []) more) a)

pub ends : EndsAtClose IsFilter
ends value text s (inl g) = no_close true value text s g
ends value text s (inr c) = no_close false value text s c.longer

-- tokens are of one filter at most
pub one : OneValue IsFilter
one left right text (parts, s, once, is) (all, a, alone, made) = is ∙ ap (λ (z : List Operand). filter_made (said z)) (one_series parts all text s a) ∙ sym made

-- where lists have no limit it is one too
pub loosen_filter : (filter : Filter) (text : List Token) → IsFilter true filter text → IsFilter false filter text
loosen_filter filter text (parts, s, once, is) = (parts, series_map (IsPart true) (IsPart false) loosen parts text s, once, is)

-- two filters, each with a bracket behind it, have the same tokens
pub same_filter : (limited : Bool) (filter other : Filter) (first second a b : List Token) → IsFilter true filter first → IsFilter limited other second → first ++ Close ∷ a ≡ second ++ Close ∷ b
    → (first ≡ second) × (a ≡ b)
same_filter limited filter other first second a b (parts, s, once, is) (all, t, alone, made) same = by_overlap (overlap first (Close ∷ a) second (Close ∷ b) same)
  where
    by_overlap : ((e : List Token) × (second ≡ first ++ e) × (Close ∷ a ≡ e ++ Close ∷ b)) ⊎ ((e : List Token) × (first ≡ second ++ e) × (Close ∷ b ≡ e ++ Close ∷ a)) → (first ≡ second) × (a ≡ b)
    by_overlap (inl ([], f, g)) = (sym (f ∙ append-nil first), cc)
    by_overlap (inl (sign ∷ e, f, g)) =
        let close : sign ≡ Close = cc in
        let whole : second ≡ first ++ Close ∷ e = f ∙ ap (λ (z : Token). first ++ z ∷ e) close in
        absurd (no_bracket true limited (agree limited) parts all first e s (subst (λ (z : List Token). IsSeriesOf (IsPart limited) all z) whole t))
    by_overlap (inr ([], f, g)) = (f ∙ append-nil second, cc)
    by_overlap (inr (sign ∷ e, f, g)) =
        let close : sign ≡ Close = cc in
        let whole : first ≡ second ++ Close ∷ e = f ∙ ap (λ (z : Token). second ++ z ∷ e) close in
        absurd (no_bracket limited true (agree_back limited) all parts second e t (subst (λ (z : List Token). IsSeriesOf (IsPart true) parts z) whole s))
