-- Filters are read exactly.
use Rattle.std.proofs.Common.{◌≡◌, ◌≢◌, ◌⊎◌, inl, inr, List, [], ◌∷◌, ◌++◌, refl, sym, ap, subst, ◌∙◌, Bool, true, false, append_assoc, append-nil}
use Rattle.std.specs.Prelude.{◌||◌}
use Rattle.std.proofs.lemmas.List.{same_from_push}
use Rattle.sysin_text.specs.declared.token.Token.{Token}
use Rattle.sysin_text.specs.declared.token.Token.TheVariants.{Comma, Open, Close, Word}
use Rattle.sysin_text.proofs.OneMore.{more_behind}
use Rattle.sysin_words.specs.declared.keyword.Keyword.{Keyword}
use Rattle.sysin_words.specs.declared.keyword.Keyword.TheVariants as keywords
use Rattle.sysin_words.specs.declared.lead.Verb.{Verb}
use Rattle.sysin_lang.specs.declared.command.Filter.{Filter}
use Rattle.sysin_forms.specs.declared.operand.Operand.{Operand}
use Rattle.sysin_forms.specs.Operand.{name_of, StandOnce}
use Rattle.sysin_forms.specs.Made.{said, filter_made}
use Rattle.sysin_values.specs.declared.fault.ValueFault.{ValueFault}
use Rattle.sysin_values.specs.declared.fault.ValueFault.TheVariants as faults
use Rattle.sysin_values.specs.Begun.{CanGoOn, Begin}
use Rattle.sysin_values.specs.Exact.{IsExact}
use Rattle.sysin_operands.specs.declared.operand.OperandPlace.{OperandPlace}
use Rattle.sysin_operands.specs.declared.operand.OperandPlace.TheVariants as operand_places
use Rattle.sysin_operands.specs.Bracket.{IsPlainOperand}
use Rattle.sysin_operands.specs.Operand.{OperandGoes, OperandStops, OperandReads}
use Rattle.sysin_operands.proofs.Operands as operands
use Rattle.sysin_filters.specs.declared.filter.FilterPlace.{FilterPlace}
use Rattle.sysin_filters.specs.declared.filter.FilterPlace.TheVariants as places
use Rattle.sysin_filters.specs.declared.filter.FilterReading.{FilterReading}
use Rattle.sysin_filters.specs.Filter.{IsSeriesOf, IsPart, IsFilter}
use Rattle.sysin_filters.specs.Progress.{may_stand, may_have_more, StartsPart, Behind, GoesFrom, FilterGoes, StartsNone, StopsFrom, FilterStops, EndsAt, FilterGives, ComeBefore, MayStandAt, ReadsAt, FilterReads, FilterIsRead}
use Rattle.sysin_filters.specs.Laws.{start_with}
use Rattle.sysin_filters.proofs.Series.{StandBefore, series_more, series_map, first_of_series}
use Rattle.sysin_filters.proofs.Once.{none_clashes, is_a_part, once_more}
use Rattle.sysin_filters.proofs.Parts.{brackets_of_part, loosen, part_name, plain_of_part, sample}
use Rattle.sysin_filters.proofs.Following.{Follow, ComeBehind, follow_begins, all_follow, parts_behind, comma_behind, word_behind, one_series}
use Rattle.sysin_filters.proofs.Begun.{IsBegun, begun, begun_front, begun_part, begun_stands, GoesOn, goes_on}

-- ---- one part more

before_at : (limited : Bool) (parts : List Operand) (front : List Token) → ComeBefore parts front → StandBefore (IsPart limited) parts front
before_at true parts front (inl none) = inl none
before_at true parts front (inr (some, inl (s, once))) = inr (some, inl s)
before_at true parts front (inr (some, inr (before, e, (s, once)))) = inr (some, inr (before, e, s))
before_at false parts front (inl none) = inl none
before_at false parts front (inr (some, inl (s, once))) = inr (some, inl (series_map (IsPart true) (IsPart false) loosen parts front s))
before_at false parts front (inr (some, inr (before, e, (s, once)))) = inr (some, inr (before, e, series_map (IsPart true) (IsPart false) loosen parts before s))

once_before : (parts : List Operand) (front : List Token) → ComeBefore parts front → StandOnce parts
once_before parts front (inl (none, e)) = subst (λ (z : List Operand). StandOnce z) (sym none) tt
once_before parts front (inr (some, inl (s, once))) = once
once_before parts front (inr (some, inr (before, e, (s, once)))) = once

with_part : (limited : Bool) (parts : List Operand) (part : Operand) (front text : List Token) → ComeBefore parts front → IsPart limited part text → may_stand parts (name_of part) ≡ true
    → IsSeriesOf (IsPart limited) (parts ++ part ∷ []) (front ++ text) × StandOnce (parts ++ part ∷ [])
with_part limited parts part front text come s stands = (
  series_more (IsPart limited) parts part front text (before_at limited parts front come) s,
  once_more parts part (once_before parts front come) (none_clashes parts (name_of part) stands),
)

-- ---- one token more

started : (old new : FilterReading) (text : List Token) (token : Token) → ComeBefore old.parts text → StartsPart old token new → FilterReads new (text ++ token ∷ [])
started old new text token come s =
    let word = s.word in
    subst (λ (r : FilterReading). FilterReads r (text ++ token ∷ [])) (sym s.new_is) (
      text,
      token ∷ [],
      refl,
      come,
      (word.0, s.keyword, ap (λ (t : Token). t ∷ []) word.1, word.2, brackets_of_part old.verb s.keyword s.bracket s.brackets),
      (s.keyword, s.brackets, s.may),
    )

pub some_more : (parts : List Operand) (part : Operand) → parts ++ part ∷ [] ≢ []
some_more [] part = λ e. cc
some_more (first ∷ parts) part = λ e. cc

-- the part goes on, or it has ended
stays : (parts : List Operand) (verb : Verb) (old new : OperandPlace) (token : Token) → MayStandAt parts old → OperandGoes verb old token new
    → MayStandAt parts new ⊎ ((part : Operand) × (new ≡ operand_places.Ended part))
stays parts verb operand_places.Start new token m g = absurd m
stays parts verb (operand_places.Named bracket) new token m (sign, is) = inl (subst (λ (p : OperandPlace). MayStandAt parts p) (sym is) m)
stays parts verb (operand_places.Inside bracket content) new token m (inl (part, sign, ended, gives, is)) = inr (part, is)
stays parts verb (operand_places.Inside bracket content) new token m (inr (more, open', g, is)) = inl (subst (λ (p : OperandPlace). MayStandAt parts p) (sym is) m)
stays parts verb (operand_places.Ended part) new token m g = absurd m

behind_stays : (old : FilterReading) (place : OperandPlace) (text front rest : List Token) → text ≡ front ++ rest → ComeBefore old.parts front → OperandReads old.verb place rest → MayStandAt old.parts place
    → FilterReads (Behind old place) text
behind_stays old operand_places.Start text front rest e come r m = absurd m
behind_stays old (operand_places.Named bracket) text front rest e come r m = (front, rest, e, come, r, m)
behind_stays old (operand_places.Inside bracket content) text front rest e come r m = (front, rest, e, come, r, m)
behind_stays old (operand_places.Ended part) text front rest e come r m = absurd m

behind_ended : (old : FilterReading) (part : Operand) (text front rest more : List Token) → text ≡ front ++ (rest ++ more) → ComeBefore old.parts front → IsBegun old.parts rest
    → IsPlainOperand old.verb true part (rest ++ more) → FilterReads (Behind old (operand_places.Ended part)) text
behind_ended old part text front rest more e come b s =
    let p = begun_part old.verb true old.parts part rest more b s in
    let w = with_part true old.parts part front (rest ++ more) come p (begun_stands true old.parts part rest more b p) in
    (some_more old.parts part, (subst (λ (t : List Token). IsSeriesOf (IsPart true) (old.parts ++ part ∷ []) t) (sym e) w.0, w.1))

went_on : (old : FilterReading) (place next' : OperandPlace) (text front rest : List Token) (token : Token) → text ≡ front ++ rest → ComeBefore old.parts front → OperandReads old.verb place rest
    → MayStandAt old.parts place → OperandGoes old.verb place token next' → FilterReads (Behind old next') (text ++ token ∷ [])
went_on old place next' text front rest token e come r m g = by_place (stays old.parts old.verb place next' token m g)
  where
    r' : OperandReads old.verb next' (rest ++ token ∷ [])
    r' = (operands.exact old.verb).goes place next' rest token r g

    by_place : MayStandAt old.parts next' ⊎ ((part : Operand) × (next' ≡ operand_places.Ended part)) → FilterReads (Behind old next') (text ++ token ∷ [])
    by_place (inl n) = behind_stays old next' (text ++ token ∷ []) front (rest ++ token ∷ []) (more_behind text front rest token e) come r' n
    by_place (inr (part, is)) =
        subst (λ (p : OperandPlace). FilterReads (Behind old p) (text ++ token ∷ [])) (sym is)
        (behind_ended old part (text ++ token ∷ []) front rest (token ∷ []) (more_behind text front rest token e) come (begun old.verb old.parts place rest r m)
        (subst (λ (p : OperandPlace). OperandReads old.verb p (rest ++ token ∷ [])) is r'))

goes_at : (place : FilterPlace) (old new : FilterReading) (text : List Token) (token : Token) → ReadsAt place old text → GoesFrom place old token new → FilterReads new (text ++ token ∷ [])
goes_at places.First old new text token none s = started old new text token (inl none) s
goes_at places.Behind old new text token (some, parts) (inl s) = started old new text token (inr (some, inl parts)) s
goes_at places.Behind old new text token (some, parts) (inr (sign, room, is)) =
    subst (λ (r : FilterReading). FilterReads r (text ++ token ∷ [])) (sym is) (some, room, (text, ap (λ (t : Token). text ++ t ∷ []) sign, parts))
goes_at places.Comma old new text token (some, room, (front, e, parts)) s = started old new text token (inr (some, inr (front, e, parts))) s
goes_at (places.Inside place) old new text token (front, rest, e, come, r, m) (next', g, is) =
    subst (λ (r : FilterReading). FilterReads r (text ++ token ∷ [])) (sym is) (went_on old place next' text front rest token e come r m g)

behind_verb : (old : FilterReading) (place : OperandPlace) → (Behind old place).verb ≡ old.verb
behind_verb old operand_places.Start = refl
behind_verb old (operand_places.Named bracket) = refl
behind_verb old (operand_places.Inside bracket content) = refl
behind_verb old (operand_places.Ended part) = refl

keeps_verb : (place : FilterPlace) (old new : FilterReading) (token : Token) → GoesFrom place old token new → new.verb ≡ old.verb
keeps_verb places.First old new token s = ap (λ (r : FilterReading). r.verb) s.new_is
keeps_verb places.Behind old new token (inl s) = ap (λ (r : FilterReading). r.verb) s.new_is
keeps_verb places.Behind old new token (inr (sign, room, is)) = ap (λ (r : FilterReading). r.verb) is
keeps_verb places.Comma old new token s = ap (λ (r : FilterReading). r.verb) s.new_is
keeps_verb (places.Inside place) old new token (next', g, is) = ap (λ (r : FilterReading). r.verb) is ∙ behind_verb old next'

-- what is read goes on
pub read_on : (old new : FilterReading) (token : Token) → FilterIsRead old → FilterGoes old token new → FilterIsRead new
read_on old new token (text, r) g = (text ++ token ∷ [], goes_at old.place old new text token r g)

-- ---- its end

spelled_at : (place : FilterPlace) (reading : FilterReading) (text : List Token) (value : Filter) → ReadsAt place reading text → EndsAt place → value ≡ filter_made (said reading.parts) → IsFilter true value text
spelled_at places.First reading text value (none, e) ended is =
    (reading.parts, subst (λ (z : List Operand). IsSeriesOf (IsPart true) z text) (sym none) e, subst (λ (z : List Operand). StandOnce z) (sym none) tt, is)
spelled_at places.Behind reading text value (some, (s, once)) ended is = (reading.parts, s, once, is)
spelled_at places.Comma reading text value r ended is = absurd ended
spelled_at (places.Inside place) reading text value r ended is = absurd ended

-- the part that is read goes on in any series that begins so
follows_inside : (limited : Bool) (reading : FilterReading) (all : List Operand) (place : OperandPlace) (text front rest more : List Token) → text ≡ front ++ rest → ComeBefore reading.parts front
    → OperandReads reading.verb place rest → MayStandAt reading.parts place → IsSeriesOf (IsPart limited) all (text ++ more) → StandOnce all → GoesOn limited rest more
follows_inside limited reading all place text front rest more e come r m s once =
    let b = begun reading.verb reading.parts place rest r m in
    let whole : rest ++ more ≡ Word b.word ∷ (b.tail ++ more) = ap (λ (t : List Token). t ++ more) b.tokens in
    let same : text ++ more ≡ front ++ Word b.word ∷ (b.tail ++ more) = ap (λ (t : List Token). t ++ more) e ∙ append_assoc front rest more ∙ ap (λ (t : List Token). front ++ t) whole in
    let f = word_behind limited reading.parts all front b.word (b.tail ++ more) come (subst (λ (t : List Token). IsSeriesOf (IsPart limited) all t) same s) once in
    goes_on reading.verb limited reading.parts place rest more r m (subst (λ (t : List Token). Follow limited reading.parts t) (sym whole) f)

given_at : (place : FilterPlace) (reading : FilterReading) (text : List Token) (value : Filter) → ReadsAt place reading text → IsFilter true value text
    → EndsAt place × (value ≡ filter_made (said reading.parts))
given_at places.First reading text value (none, e) (all, s, once, is) =
    let same : all ≡ [] = one_series all [] text s e in
    (tt, is ∙ ap (λ (z : List Operand). filter_made (said z)) (same ∙ sym none))
given_at places.Behind reading text value (some, (parts, alone)) (all, s, once, is) =
    (tt, is ∙ ap (λ (z : List Operand). filter_made (said z)) (one_series all reading.parts text s parts))
given_at places.Comma reading text value (some, room, (front, e, (parts, alone))) (all, s, once, is) =
    let f = comma_behind true reading.parts all front [] some parts (subst (λ (t : List Token). IsSeriesOf (IsPart true) all t) e s) once in
    let w = follow_begins true reading.parts [] f in
    let none = w.2 in
    cc
given_at (places.Inside place) reading text value (front, rest, e, come, r, m) (all, s, once, is) =
    let g = follows_inside true reading all place text front rest [] e come r m (subst (λ (t : List Token). IsSeriesOf (IsPart true) all t) (sym (append-nil text)) s) once in
    let none = g.tail_is in
    cc

-- ---- what is read is right

goes_out : (limited : Bool) (verb : Verb) (parts : List Operand) (text front rest : List Token) → text ≡ front ++ rest → ComeBefore parts front → IsBegun parts rest → CanGoOn (IsPlainOperand verb) limited rest
    → CanGoOn IsFilter limited text
goes_out limited verb parts text front rest e come b (more, part, s) =
    let p = begun_part verb limited parts part rest more b s in
    let w = with_part limited parts part front (rest ++ more) come p (begun_stands limited parts part rest more b p) in
    let same : text ++ more ≡ front ++ (rest ++ more) = ap (λ (t : List Token). t ++ more) e ∙ append_assoc front rest more in (
      more,
      filter_made (said (parts ++ part ∷ [])),
      (parts ++ part ∷ [], subst (λ (t : List Token). IsSeriesOf (IsPart limited) (parts ++ part ∷ []) t) (sym same) w.0, w.1, refl),
    )

-- some part may stand
room_for : (parts : List Operand) → may_have_more parts ≡ true → (keyword : Keyword) × (may_stand parts keyword ≡ true)
room_for parts room = by_bools (may_stand parts keywords.Include) (may_stand parts keywords.Exclude) (may_stand parts keywords.By) refl refl refl room
  where
    by_bools : (a b c : Bool) → may_stand parts keywords.Include ≡ a → may_stand parts keywords.Exclude ≡ b → may_stand parts keywords.By ≡ c → (a || b || c) ≡ true
        → (keyword : Keyword) × (may_stand parts keyword ≡ true)
    by_bools true b c e f g h = (keywords.Include, e)
    by_bools false true c e f g h = (keywords.Exclude, f)
    by_bools false false true e f g h = (keywords.By, g)
    by_bools false false false e f g h = cc

right_at : (place : FilterPlace) (reading : FilterReading) (text : List Token) → ReadsAt place reading text → Begin IsFilter text
right_at places.First reading text (none, e) = inl ([], filter_made (said []), ([], append-nil text ∙ e, tt, refl))
right_at places.Behind reading text (some, (parts, once)) =
    inl ([], filter_made (said reading.parts), (reading.parts, subst (λ (t : List Token). IsSeriesOf (IsPart true) reading.parts t) (sym (append-nil text)) parts, once, refl))
right_at places.Comma reading text (some, room, before) =
    let k = room_for reading.parts room in
    let s = sample k.0 (is_a_part reading.parts k.0 k.1) in
    let w = with_part true reading.parts s.0 text s.1 (inr (some, inr before)) s.2 (ap (may_stand reading.parts) s.3 ∙ k.1) in
    inl (s.1, filter_made (said (reading.parts ++ s.0 ∷ [])), (reading.parts ++ s.0 ∷ [], w.0, w.1, refl))
right_at (places.Inside place) reading text (front, rest, e, come, r, m) = by_begin ((operands.exact reading.verb).right place rest r)
  where
    b : IsBegun reading.parts rest
    b = begun reading.verb reading.parts place rest r m

    by_begin : Begin (IsPlainOperand reading.verb) rest → Begin IsFilter text
    by_begin (inl g) = inl (goes_out true reading.verb reading.parts text front rest e come b g)
    by_begin (inr c) = inr (record {
      front = front ++ c.front;
      comma = e ∙ ap (λ (t : List Token). front ++ t) c.comma ∙ sym (append_assoc front c.front (Comma ∷ []));
      before = goes_out true reading.verb reading.parts (front ++ c.front) front c.front refl come (begun_front reading.parts c.front (subst (λ (t : List Token). IsBegun reading.parts t) c.comma b)) c.before;
      longer = goes_out false reading.verb reading.parts text front rest e come b c.longer;
    })

-- ---- what is refused is wrong

starts_none : (limited : Bool) (reading : FilterReading) (token : Token) (rest : List Token) → StartsNone reading token → Follow limited reading.parts (token ∷ rest) → ⊥
starts_none limited reading token rest none (part, others, s, stands) =
    let f = first_of_series (IsPart limited) part others (token ∷ rest) s in
    by_part f.0 f.1 f.2 f.3
  where
    by_part : (first behind : List Token) → token ∷ rest ≡ first ++ behind → IsPart limited part first → ⊥
    by_part first behind e (keyword, bracket, p, r) =
        let same : token ∷ rest ≡ Word r.word ∷ Open ∷ ((r.content ++ Close ∷ []) ++ behind) = e ∙ ap (λ (t : List Token). t ++ behind) r.tokens in
        none keyword (r.word, cc, r.spelled) (ap (may_stand reading.parts) (sym (part_name limited part first (keyword, bracket, p, r))) ∙ stands)

has_more : (parts : List Operand) (keyword : Keyword) → may_stand parts keyword ≡ true → may_have_more parts ≡ true
has_more parts keyword may = by_keyword keyword may
  where
    by_bools : (a b c : Bool) → (a ≡ true) ⊎ ((b ≡ true) ⊎ (c ≡ true)) → (a || b || c) ≡ true
    by_bools true b c e = refl
    by_bools false true c e = refl
    by_bools false false true e = refl
    by_bools false false false (inl e) = e
    by_bools false false false (inr (inl e)) = e
    by_bools false false false (inr (inr e)) = e

    by_keyword : (keyword : Keyword) → may_stand parts keyword ≡ true → may_have_more parts ≡ true
    by_keyword keywords.Include e = by_bools (may_stand parts keywords.Include) (may_stand parts keywords.Exclude) (may_stand parts keywords.By) (inl e)
    by_keyword keywords.Exclude e = by_bools (may_stand parts keywords.Include) (may_stand parts keywords.Exclude) (may_stand parts keywords.By) (inr (inl e))
    by_keyword keywords.By e = by_bools (may_stand parts keywords.Include) (may_stand parts keywords.Exclude) (may_stand parts keywords.By) (inr (inr e))
    by_keyword _ e = cc

-- a token that is refused between parts goes on with none, whatever the limits
no_more_between : (place : FilterPlace) (limited : Bool) (reading : FilterReading) (text : List Token) (token : Token) (fault : ValueFault) → ((inside : OperandPlace) → ¬ (place ≡ places.Inside inside))
    → ReadsAt place reading text → StopsFrom place reading token fault → ¬ CanGoOn IsFilter limited (text ++ token ∷ [])
no_more_between places.First limited reading text token fault out (nothing, e) (wrong, none) (more, value, (all, s, once, is)) =
    let same : (text ++ token ∷ []) ++ more ≡ token ∷ more = ap (λ (t : List Token). (t ++ token ∷ []) ++ more) e in
    let f = all_follow limited all token more (subst (λ (t : List Token). IsSeriesOf (IsPart limited) all t) same s) in
    starts_none limited reading token more none (subst (λ (z : List Operand). Follow limited z (token ∷ more)) (sym nothing) f)
no_more_between places.Behind limited reading text token fault out (some, (parts, alone)) (wrong, none, full) (more, value, (all, s, once, is)) =
    by_place (parts_behind limited reading.parts all text (token ∷ more) some parts
    (subst (λ (t : List Token). IsSeriesOf (IsPart limited) all t) (append_assoc text (token ∷ []) more) s) once)
  where
    by_place : ComeBehind limited reading.parts (token ∷ more) → ⊥
    by_place (inl nothing) = cc
    by_place (inr (inl f)) = starts_none limited reading token more none f
    by_place (inr (inr c)) = let e = c.comma in let f = c.follow in let sign : token ≡ Comma = cc in full sign (has_more reading.parts (name_of f.0) f.3)
no_more_between places.Comma limited reading text token fault out (some, room, (front, e, (parts, alone))) (wrong, none) (more, value, (all, s, once, is)) =
    let same : (text ++ token ∷ []) ++ more ≡ front ++ Comma ∷ token ∷ more =
    append_assoc text (token ∷ []) more ∙ ap (λ (t : List Token). t ++ token ∷ more) e ∙ append_assoc front (Comma ∷ []) (token ∷ more) in
    starts_none limited reading token more none (comma_behind limited reading.parts all front (token ∷ more) some parts (subst (λ (t : List Token). IsSeriesOf (IsPart limited) all t) same s) once)
no_more_between (places.Inside place) limited reading text token fault out r stop g = out place refl

-- the part that is read goes on where the filter does
goes_in : (limited : Bool) (reading : FilterReading) (place : OperandPlace) (text front rest : List Token) → text ≡ front ++ rest → ComeBefore reading.parts front → OperandReads reading.verb place rest
    → MayStandAt reading.parts place → CanGoOn IsFilter limited text → CanGoOn (IsPlainOperand reading.verb) limited rest
goes_in limited reading place text front rest e come r m (more, value, (all, s, once, is)) =
    let g = follows_inside limited reading all place text front rest more e come r m s once in
    (g.token ∷ g.more, g.part, plain_of_part reading.verb limited g.part (rest ++ g.token ∷ g.more) g.spelled)

goes_in_on : (limited : Bool) (reading : FilterReading) (place : OperandPlace) (text front rest : List Token) (token : Token) → text ≡ front ++ rest → ComeBefore reading.parts front
    → OperandReads reading.verb place rest → MayStandAt reading.parts place → CanGoOn IsFilter limited (text ++ token ∷ []) → CanGoOn (IsPlainOperand reading.verb) limited (rest ++ token ∷ [])
goes_in_on limited reading place text front rest token e come r m (more, value, (all, s, once, is)) =
    let g = follows_inside limited reading all place text front rest (token ∷ more) e come r m
    (subst (λ (t : List Token). IsSeriesOf (IsPart limited) all t) (append_assoc text (token ∷ []) more) s) once in
    let tail_is = g.tail_is in
    let same : g.token ≡ token = cc in
    let whole : rest ++ g.token ∷ g.more ≡ (rest ++ token ∷ []) ++ g.more = ap (λ (t : Token). rest ++ t ∷ g.more) same ∙ sym (append_assoc rest (token ∷ []) g.more) in
    (g.more, g.part, subst (λ (t : List Token). IsPlainOperand reading.verb limited g.part t) whole (plain_of_part reading.verb limited g.part (rest ++ g.token ∷ g.more) g.spelled))

wrong_inside : (reading : FilterReading) (place : OperandPlace) (text front rest : List Token) (token : Token) (fault : ValueFault) → text ≡ front ++ rest → ComeBefore reading.parts front
    → OperandReads reading.verb place rest → MayStandAt reading.parts place → OperandStops reading.verb place token fault → ¬ (fault ≡ faults.NoMemory) → ¬ Begin IsFilter (text ++ token ∷ [])
wrong_inside reading place text front rest token fault e come r m stop real (inl g) =
    (operands.exact reading.verb).wrong place rest token fault r stop real (inl (goes_in_on true reading place text front rest token e come r m g))
wrong_inside reading place text front rest token fault e come r m stop real (inr c) =
    let same = same_from_push text c.front token Comma c.comma in
    (operands.exact reading.verb).wrong place rest token fault r stop real (inr (record {
      front = rest;
      comma = ap (λ (t : Token). rest ++ t ∷ []) same.1;
      before = goes_in true reading place text front rest e come r m (subst (λ (t : List Token). CanGoOn IsFilter true t) (sym same.0) c.before);
      longer = goes_in_on false reading place text front rest token e come r m c.longer;
    }))

no_more_either : (place : FilterPlace) (reading : FilterReading) (text : List Token) (token : Token) (fault : ValueFault) → ((inside : OperandPlace) → ¬ (place ≡ places.Inside inside))
    → ReadsAt place reading text → StopsFrom place reading token fault → ¬ Begin IsFilter (text ++ token ∷ [])
no_more_either place reading text token fault out r stop (inl g) = no_more_between place true reading text token fault out r stop g
no_more_either place reading text token fault out r stop (inr c) = no_more_between place false reading text token fault out r stop c.longer

wrong_at : (place : FilterPlace) (reading : FilterReading) (text : List Token) (token : Token) (fault : ValueFault) → ReadsAt place reading text → StopsFrom place reading token fault → ¬ (fault ≡ faults.NoMemory)
    → ¬ Begin IsFilter (text ++ token ∷ [])
wrong_at places.First reading text token fault r stop real = no_more_either places.First reading text token fault (λ inside e. cc) r stop
wrong_at places.Behind reading text token fault r stop real = no_more_either places.Behind reading text token fault (λ inside e. cc) r stop
wrong_at places.Comma reading text token fault r stop real = no_more_either places.Comma reading text token fault (λ inside e. cc) r stop
wrong_at (places.Inside place) reading text token fault r (inl memory) real = absurd (real memory)
wrong_at (places.Inside place) reading text token fault (front, rest, e, come, r, m) (inr stop) real = wrong_inside reading place text front rest token fault e come r m stop real

pub exact : (verb : Verb) → IsExact IsFilter (start_with verb) FilterGoes FilterStops FilterGives (λ reading text. (reading.verb ≡ verb) × FilterReads reading text)
exact verb = record {
  begins = (refl, (refl, refl));
  goes = λ old new text token r g. (keeps_verb old.place old new token g ∙ r.0, goes_at old.place old new text token r.1 g);
  spelled = λ reading text value r g. spelled_at reading.place reading text value r.1 g.0 g.1;
  given = λ reading text value r s. given_at reading.place reading text value r.1 s;
  right = λ reading text r. right_at reading.place reading text r.1;
  wrong = λ reading text token fault r stop real. wrong_at reading.place reading text token fault r.1 stop real;
}
