-- Commands are read exactly.
use Rattle.std.proofs.Common.{◌≡◌, inl, inr, List, [], ◌∷◌, ◌++◌, refl, sym, ap, subst, ◌∙◌, Bool, true, false, append_assoc, append-nil}
use Rattle.std.proofs.lemmas.List.{same_from_push}
use Rattle.sysin_text.specs.declared.token.Token.{Token}
use Rattle.sysin_text.specs.declared.token.Token.TheVariants.{Comma, Word}
use Rattle.sysin_text.proofs.OneMore.{more_behind}
use Rattle.sysin_words.specs.declared.lead.Verb.{Verb}
use Rattle.sysin_lang.specs.declared.command.Command.{Command}
use Rattle.sysin_forms.specs.declared.form.Form.{Form}
use Rattle.sysin_forms.specs.declared.operand.Operand.{Operand}
use Rattle.sysin_forms.specs.declared.operand.Operand.TheVariants as operand_kinds
use Rattle.sysin_forms.specs.Operand.{name_of, StandOnce}
use Rattle.sysin_forms.specs.Form.{form_of, verb_of_form}
use Rattle.sysin_forms.specs.Made.{IsMadeOf}
use Rattle.sysin_values.specs.declared.fault.ValueFault.{ValueFault}
use Rattle.sysin_values.specs.declared.fault.ValueFault.TheVariants as values
use Rattle.sysin_values.specs.Begun.{CanGoOn, Begin}
use Rattle.sysin_values.specs.Exact.{IsExact}
use Rattle.sysin_operands.specs.declared.operand.OperandPlace.TheVariants as plains
use Rattle.sysin_filters.specs.declared.filter.FilterPlace.{FilterPlace}
use Rattle.sysin_filters.specs.declared.filter.FilterPlace.TheVariants as filter_places
use Rattle.sysin_filters.specs.Filter.{IsSeriesOf}
use Rattle.sysin_filters.specs.Progress.{StopsFrom as FilterStopsFrom}
use Rattle.sysin_filters.proofs.Series.{StandBefore, series_map, first_of_series}
use Rattle.sysin_commands.specs.declared.fault.CommandFault.{CommandFault}
use Rattle.sysin_commands.specs.declared.operand.AnyPlace.{AnyPlace}
use Rattle.sysin_commands.specs.declared.operand.AnyPlace.TheVariants as any_places
use Rattle.sysin_commands.specs.declared.command.CommandPlace.{CommandPlace}
use Rattle.sysin_commands.specs.declared.command.CommandPlace.TheVariants as places
use Rattle.sysin_commands.specs.declared.command.CommandReading.{CommandReading}
use Rattle.sysin_commands.specs.Operand.{IsOperand}
use Rattle.sysin_commands.specs.AnyOperand.{AnyStops, AnyGives, AnyReads}
use Rattle.sysin_commands.specs.Command.{takes_all, IsCommand}
use Rattle.sysin_commands.specs.CommandProgress.{may_stand, may_have_more, StartsOperand, Behind, GoesFrom, CommandGoes, StartsNone, IsBetweenParts, PartStands, StopsFrom, value_of, Makes, EndsAt, CommandGives, AreOperands, ComeBefore, IsBegun, ReadsAt, CommandReads, CommandIsRead}
use Rattle.sysin_commands.specs.CommandLaws.{start_behind, StopsBy}
use Rattle.sysin_commands.proofs.AnyOperands as operands
use Rattle.sysin_commands.proofs.Agreeing.{loosen_to, named}
use Rattle.sysin_commands.proofs.Standing.{some_form, form_at, first_form, none_clashes, form_with_one, room_for, has_more}
use Rattle.sysin_commands.proofs.Samples.{sample}
use Rattle.sysin_commands.proofs.Completing.{Stand, one_stands, complete}
use Rattle.sysin_commands.proofs.Following.{AreOne, Follow, ComeBehind, follow_begins, all_follow, operands_behind, comma_behind, word_behind, one_series}
use Rattle.sysin_commands.proofs.GoingOn.{begun_stands, begun_more, begun_front, GoesOn, goes_on}
use Rattle.sysin_filters.proofs.Filters.{some_more}

-- ---- one operand more

before_at : (verb : Verb) (limited : Bool) (list : List Operand) (front : List Token) → ComeBefore verb list front → StandBefore (IsOperand verb limited) list front
before_at verb limited list front (inl none) = inl none
before_at verb limited list front (inr (some, inl (s, once, form))) = inr (some, inl (series_map (IsOperand verb true) (IsOperand verb limited) (loosen_to verb limited) list front s))
before_at verb limited list front (inr (some, inr (before, e, (s, once, form)))) =
    inr (some, inr (before, e, series_map (IsOperand verb true) (IsOperand verb limited) (loosen_to verb limited) list before s))

once_before : (verb : Verb) (list : List Operand) (front : List Token) → ComeBefore verb list front → StandOnce list
once_before verb list front (inl (none, e)) = subst (λ (z : List Operand). StandOnce z) (sym none) tt
once_before verb list front (inr (some, inl (s, once, form))) = once
once_before verb list front (inr (some, inr (before, e, (s, once, form)))) = once

-- operands of a form, with one more
pub record WithOne (verb : Verb) (limited : Bool) (list : List Operand) (operand : Operand) (text : List Token) : Type 0 where
  pub form : Form
  pub own : verb_of_form form ≡ verb
  pub stand : Stand verb limited form (list ++ operand ∷ []) text

with_one : (verb : Verb) (limited : Bool) (list : List Operand) (operand : Operand) (front text : List Token) → ComeBefore verb list front → IsOperand verb limited operand text
    → may_stand verb list (name_of operand) ≡ true → WithOne verb limited list operand (front ++ text)
with_one verb limited list operand front text come s may =
    let f = form_with_one verb list (name_of operand) may in
    record {
      form = f.0;
      own = f.1;
      stand = one_stands verb limited f.0 list front text operand (before_at verb limited list front come) (once_before verb list front come) f.2 s f.3
          (none_clashes verb list (name_of operand) may);
    }

are_more : (verb : Verb) (list : List Operand) (operand : Operand) (text : List Token) → WithOne verb true list operand text → AreOperands verb (list ++ operand ∷ []) text
are_more verb list operand text w = (
  w.stand.series,
  w.stand.once,
  form_at verb w.form (λ (form : Form). takes_all form (list ++ operand ∷ [])) w.own w.stand.takes,
)

-- ---- one token more

ended : (old : CommandReading) (operand : Operand) (text front rest : List Token) → text ≡ front ++ rest → ComeBefore old.verb old.operands front → IsBegun old.verb old.operands rest
    → IsOperand old.verb true operand rest → CommandReads (record { verb = old.verb; operands = old.operands ++ operand ∷ []; place = places.Behind }) text
ended old operand text front rest e come b s =
    let whole : IsOperand old.verb true operand (rest ++ []) = subst (λ (t : List Token). IsOperand old.verb true operand t) (sym (append-nil rest)) s in
    let w = with_one old.verb true old.operands operand front rest come s (begun_stands old.verb true old.operands operand rest [] b whole) in
    (some_more old.operands operand, subst (λ (t : List Token). AreOperands old.verb (old.operands ++ operand ∷ []) t) (sym e) (are_more old.verb old.operands operand (front ++ rest) w))

-- the operand goes on, or it has ended
behind : (old : CommandReading) (place : AnyPlace) (text front rest : List Token) → text ≡ front ++ rest → ComeBefore old.verb old.operands front → AnyReads old.verb place rest
    → IsBegun old.verb old.operands rest → CommandReads (Behind old place) text
behind old (any_places.Plain plains.Start) text front rest e come r b = (front, rest, e, come, r, b, λ given g. cc)
behind old (any_places.Plain (plains.Named bracket)) text front rest e come r b = (front, rest, e, come, r, b, λ given g. cc)
behind old (any_places.Plain (plains.Inside bracket content)) text front rest e come r b = (front, rest, e, come, r, b, λ given g. cc)
behind old (any_places.Plain (plains.Ended operand)) text front rest e come r b = ended old operand text front rest e come b (inl r)
behind old any_places.Named text front rest e come r b = (front, rest, e, come, r, b, λ given g. g)
behind old (any_places.Inside filter) text front rest e come r b = (front, rest, e, come, r, b, λ given g. g)
behind old (any_places.Whole filter) text front rest e come r b = ended old (operand_kinds.Dataset filter) text front rest e come b (inr (filter, refl, r))

started : (old new : CommandReading) (text : List Token) (token : Token) → ComeBefore old.verb old.operands text → StartsOperand old token new → CommandReads new (text ++ token ∷ [])
started old new text token come s =
    let word = s.word in
    let b : IsBegun old.verb old.operands (token ∷ []) =
    record { word = word.0; tail = []; keyword = s.keyword; tokens = ap (λ (t : Token). t ∷ []) word.1; spelled = word.2; stands = s.may } in
    let r = (operands.exact old.verb).goes (any_places.Plain plains.Start) s.next [] token (operands.exact old.verb).begins s.goes in
    subst (λ (r : CommandReading). CommandReads r (text ++ token ∷ [])) (sym s.new_is) (behind old s.next (text ++ token ∷ []) text (token ∷ []) refl come r b)

goes_at : (place : CommandPlace) (old new : CommandReading) (text : List Token) (token : Token) → ReadsAt place old text → GoesFrom place old token new → CommandReads new (text ++ token ∷ [])
goes_at places.First old new text token none s = started old new text token (inl none) s
goes_at places.Behind old new text token (some, list) (inl s) = started old new text token (inr (some, inl list)) s
goes_at places.Behind old new text token (some, list) (inr (sign, room, is)) =
    subst (λ (r : CommandReading). CommandReads r (text ++ token ∷ [])) (sym is) (some, room, (text, ap (λ (t : Token). text ++ t ∷ []) sign, list))
goes_at places.Comma old new text token (some, room, (front, e, list)) s = started old new text token (inr (some, inr (front, e, list))) s
goes_at (places.Inside place) old new text token (front, rest, e, come, r, b, part) (next', g, is) =
    subst (λ (r : CommandReading). CommandReads r (text ++ token ∷ [])) (sym is)
    (behind old next' (text ++ token ∷ []) front (rest ++ token ∷ []) (more_behind text front rest token e) come ((operands.exact old.verb).goes place next' rest token r g)
    (begun_more old.verb old.operands rest (token ∷ []) b))

behind_verb : (old : CommandReading) (place : AnyPlace) → (Behind old place).verb ≡ old.verb
behind_verb old (any_places.Plain plains.Start) = refl
behind_verb old (any_places.Plain (plains.Named bracket)) = refl
behind_verb old (any_places.Plain (plains.Inside bracket content)) = refl
behind_verb old (any_places.Plain (plains.Ended operand)) = refl
behind_verb old any_places.Named = refl
behind_verb old (any_places.Inside filter) = refl
behind_verb old (any_places.Whole filter) = refl

starts_verb : (old new : CommandReading) (token : Token) → StartsOperand old token new → new.verb ≡ old.verb
starts_verb old new token s = ap (λ (r : CommandReading). r.verb) s.new_is ∙ behind_verb old s.next

keeps_verb : (place : CommandPlace) (old new : CommandReading) (token : Token) → GoesFrom place old token new → new.verb ≡ old.verb
keeps_verb places.First old new token s = starts_verb old new token s
keeps_verb places.Behind old new token (inl s) = starts_verb old new token s
keeps_verb places.Behind old new token (inr (sign, room, is)) = ap (λ (r : CommandReading). r.verb) is
keeps_verb places.Comma old new token s = starts_verb old new token s
keeps_verb (places.Inside place) old new token (next', g, is) = ap (λ (r : CommandReading). r.verb) is ∙ behind_verb old next'

-- what is read goes on
pub read_on : (old new : CommandReading) (token : Token) → CommandIsRead old → CommandGoes old token new → CommandIsRead new
read_on old new token (text, r) g = (text ++ token ∷ [], goes_at old.place old new text token r g)

-- ---- its end

series_at : (place : CommandPlace) (reading : CommandReading) (text : List Token) → ReadsAt place reading text → EndsAt place
    → IsSeriesOf (IsOperand reading.verb true) reading.operands text × StandOnce reading.operands
series_at places.First reading text (none, e) end =
    (subst (λ (z : List Operand). IsSeriesOf (IsOperand reading.verb true) z text) (sym none) e, subst (λ (z : List Operand). StandOnce z) (sym none) tt)
series_at places.Behind reading text (some, (s, once, form)) end = (s, once)
series_at places.Comma reading text r end = absurd end
series_at (places.Inside place) reading text r end = absurd end

spelled_at : (reading : CommandReading) (text : List Token) (command : Command) → CommandReads reading text → CommandGives reading command → IsCommand reading.verb true command text
spelled_at reading text command r (end, (own, takes, made)) =
    let s = series_at reading.place reading text r end in
    record { list = reading.operands; own = own; series = s.0; once = s.1; takes = takes; made = made }

are_one : (verb : Verb) (limited : Bool) (command : Command) (text : List Token) → (c : IsCommand verb limited command text) → AreOne verb c.list
are_one verb limited command text c = record { form = form_of command; own = c.own; takes = c.takes; once = c.once }

-- the operand that is read goes on in any command that begins so
follows_inside : (limited : Bool) (reading : CommandReading) (place : AnyPlace) (text front rest more : List Token) (command : Command) → text ≡ front ++ rest
    → ComeBefore reading.verb reading.operands front → AnyReads reading.verb place rest → IsBegun reading.verb reading.operands rest → ((given : Operand) → ¬ AnyGives place given)
    → IsCommand reading.verb limited command (text ++ more) → GoesOn reading.verb limited rest more
follows_inside limited reading place text front rest more command e come r b part c =
    let whole : rest ++ more ≡ Word b.word ∷ (b.tail ++ more) = ap (λ (t : List Token). t ++ more) b.tokens in
    let same : text ++ more ≡ front ++ Word b.word ∷ (b.tail ++ more) = ap (λ (t : List Token). t ++ more) e ∙ append_assoc front rest more ∙ ap (λ (t : List Token). front ++ t) whole in
    let f = word_behind reading.verb limited reading.operands c.list front b.word (b.tail ++ more) come
    (subst (λ (t : List Token). IsSeriesOf (IsOperand reading.verb limited) c.list t) same c.series) (are_one reading.verb limited command (text ++ more) c) in
    goes_on reading.verb limited reading.operands place rest more r part (subst (λ (t : List Token). Follow reading.verb limited reading.operands t) (sym whole) f)

gives : (reading : CommandReading) (text : List Token) (command : Command) → (c : IsCommand reading.verb true command text) → c.list ≡ reading.operands → Makes reading.verb reading.operands command
gives reading text command c same =
    (c.own, subst (λ (z : List Operand). takes_all (form_of command) z ≡ true) same c.takes, subst (λ (z : List Operand). IsMadeOf command z) same c.made)

given_at : (place : CommandPlace) (reading : CommandReading) (text : List Token) (command : Command) → ReadsAt place reading text → IsCommand reading.verb true command text
    → EndsAt place × Makes reading.verb reading.operands command
given_at places.First reading text command (none, e) c = (tt, gives reading text command c (one_series reading.verb c.list [] text c.series e ∙ sym none))
given_at places.Behind reading text command (some, (list, alone, form)) c = (tt, gives reading text command c (one_series reading.verb c.list reading.operands text c.series list))
given_at places.Comma reading text command (some, room, (front, e, (list, alone, form))) c =
    let f = comma_behind reading.verb true reading.operands c.list front [] some list (subst (λ (t : List Token). IsSeriesOf (IsOperand reading.verb true) c.list t) e c.series)
    (are_one reading.verb true command text c) in
    let w = follow_begins reading.verb true reading.operands [] f in
    let none = w.2 in
    cc
given_at (places.Inside place) reading text command (front, rest, e, come, r, b, part) c =
    let g = follows_inside true reading place text front rest [] command e come r b part (subst (λ (t : List Token). IsCommand reading.verb true command t) (sym (append-nil text)) c) in
    let none = g.tail_is in
    cc

-- ---- what is read is right

goes_out : (limited : Bool) (verb : Verb) (list : List Operand) (text front rest : List Token) → text ≡ front ++ rest → ComeBefore verb list front → IsBegun verb list rest
    → CanGoOn (IsOperand verb) limited rest → CanGoOn (IsCommand verb) limited text
goes_out limited verb list text front rest e come b (more, operand, s) =
    let w = with_one verb limited list operand front (rest ++ more) come s (begun_stands verb limited list operand rest more b s) in
    let g = complete verb limited w.form (list ++ operand ∷ []) (front ++ (rest ++ more)) w.own w.stand in
    let same : (front ++ (rest ++ more)) ++ g.0 ≡ text ++ (more ++ g.0) =
    ap (λ (t : List Token). t ++ g.0) (sym (append_assoc front rest more) ∙ ap (λ (t : List Token). t ++ more) (sym e)) ∙ append_assoc text more g.0 in
    (more ++ g.0, g.1, subst (λ (t : List Token). IsCommand verb limited g.1 t) same g.2)

right_at : (place : CommandPlace) (reading : CommandReading) (text : List Token) → ReadsAt place reading text → Begin (IsCommand reading.verb) text
right_at places.First reading text (none, e) =
    let f = first_form reading.verb in
    inl (complete reading.verb true f.0 [] text f.1 (record { series = e; once = tt; takes = refl }))
right_at places.Behind reading text (some, (s, once, form)) =
    let f = some_form reading.verb (λ (form : Form). takes_all form reading.operands) form in
    inl (complete reading.verb true f.0 reading.operands text f.1 (record { series = s; once = once; takes = f.2 }))
right_at places.Comma reading text (some, room, before) =
    let k = room_for reading.verb reading.operands room in
    let s = sample reading.verb k.0 in
    let w = with_one reading.verb true reading.operands s.0 text s.1 (inr (some, inr before)) s.2 (ap (may_stand reading.verb reading.operands) s.3 ∙ k.1) in
    let g = complete reading.verb true w.form (reading.operands ++ s.0 ∷ []) (text ++ s.1) w.own w.stand in
    inl (s.1 ++ g.0, g.1, subst (λ (t : List Token). IsCommand reading.verb true g.1 t) (append_assoc text s.1 g.0) g.2)
right_at (places.Inside place) reading text (front, rest, e, come, r, b, part) = by_begin ((operands.exact reading.verb).right place rest r)
  where
    by_begin : Begin (IsOperand reading.verb) rest → Begin (IsCommand reading.verb) text
    by_begin (inl g) = inl (goes_out true reading.verb reading.operands text front rest e come b g)
    by_begin (inr c) = inr (record {
      front = front ++ c.front;
      comma = e ∙ ap (λ (t : List Token). front ++ t) c.comma ∙ sym (append_assoc front c.front (Comma ∷ []));
      before = goes_out true reading.verb reading.operands (front ++ c.front) front c.front refl come
          (begun_front reading.verb reading.operands c.front (subst (λ (t : List Token). IsBegun reading.verb reading.operands t) c.comma b)) c.before;
      longer = goes_out false reading.verb reading.operands text front rest e come b c.longer;
    })

-- ---- what is refused is wrong

starts_none : (limited : Bool) (reading : CommandReading) (token : Token) (rest : List Token) → StartsNone reading token → Follow reading.verb limited reading.operands (token ∷ rest) → ⊥
starts_none limited reading token rest none (operand, others, s, stands) =
    let f = first_of_series (IsOperand reading.verb limited) operand others (token ∷ rest) s in
    let n = named reading.verb limited operand f.0 f.3 in
    let same : token ∷ rest ≡ Word n.word ∷ (n.tail ++ f.1) = f.2 ∙ ap (λ (t : List Token). t ++ f.1) n.tokens in
    none (name_of operand) (n.word, cc, n.spelled) stands

-- a token that is refused between operands goes on with none, whatever the limits
no_more_first : (limited : Bool) (reading : CommandReading) (text : List Token) (token : Token) → ReadsAt places.First reading text → StartsNone reading token
    → ¬ CanGoOn (IsCommand reading.verb) limited (text ++ token ∷ [])
no_more_first limited reading text token (nothing, e) none (more, command, c) =
    let same : (text ++ token ∷ []) ++ more ≡ token ∷ more = ap (λ (t : List Token). (t ++ token ∷ []) ++ more) e in
    let f = all_follow reading.verb limited c.list token more (subst (λ (t : List Token). IsSeriesOf (IsOperand reading.verb limited) c.list t) same c.series)
    (are_one reading.verb limited command ((text ++ token ∷ []) ++ more) c) in
    starts_none limited reading token more none (subst (λ (z : List Operand). Follow reading.verb limited z (token ∷ more)) (sym nothing) f)

no_more_behind : (limited : Bool) (reading : CommandReading) (text : List Token) (token : Token) → ReadsAt places.Behind reading text → StartsNone reading token
    → (token ≡ Comma → ¬ (may_have_more reading.verb reading.operands ≡ true)) → ¬ CanGoOn (IsCommand reading.verb) limited (text ++ token ∷ [])
no_more_behind limited reading text token (some, (list, alone, form)) none full (more, command, c) =
    by_place (operands_behind reading.verb limited reading.operands c.list text (token ∷ more) some list
    (subst (λ (t : List Token). IsSeriesOf (IsOperand reading.verb limited) c.list t) (append_assoc text (token ∷ []) more) c.series)
    (are_one reading.verb limited command ((text ++ token ∷ []) ++ more) c))
  where
    by_place : ComeBehind reading.verb limited reading.operands (token ∷ more) → ⊥
    by_place (inl nothing) = cc
    by_place (inr (inl f)) = starts_none limited reading token more none f
    by_place (inr (inr c)) =
        let e = c.comma in
        let f = c.follow in
        let sign : token ≡ Comma = cc in
        full sign (has_more reading.verb reading.operands (name_of f.0) f.3)

no_more_comma : (limited : Bool) (reading : CommandReading) (text : List Token) (token : Token) → ReadsAt places.Comma reading text → StartsNone reading token
    → ¬ CanGoOn (IsCommand reading.verb) limited (text ++ token ∷ [])
no_more_comma limited reading text token (some, room, (front, e, (list, alone, form))) none (more, command, c) =
    let same : (text ++ token ∷ []) ++ more ≡ front ++ Comma ∷ token ∷ more =
    append_assoc text (token ∷ []) more ∙ ap (λ (t : List Token). t ++ token ∷ more) e ∙ append_assoc front (Comma ∷ []) (token ∷ more) in
    starts_none limited reading token more none
    (comma_behind reading.verb limited reading.operands c.list front (token ∷ more) some list (subst (λ (t : List Token). IsSeriesOf (IsOperand reading.verb limited) c.list t) same c.series)
    (are_one reading.verb limited command ((text ++ token ∷ []) ++ more) c))

-- the operand that is read goes on where the command does
goes_in : (limited : Bool) (reading : CommandReading) (place : AnyPlace) (text front rest : List Token) → text ≡ front ++ rest → ComeBefore reading.verb reading.operands front
    → AnyReads reading.verb place rest → IsBegun reading.verb reading.operands rest → ((given : Operand) → ¬ AnyGives place given) → CanGoOn (IsCommand reading.verb) limited text
    → CanGoOn (IsOperand reading.verb) limited rest
goes_in limited reading place text front rest e come r b part (more, command, c) =
    let g = follows_inside limited reading place text front rest more command e come r b part c in
    (g.token ∷ g.more, g.operand, g.spelled)

goes_in_on : (limited : Bool) (reading : CommandReading) (place : AnyPlace) (text front rest : List Token) (token : Token) → text ≡ front ++ rest → ComeBefore reading.verb reading.operands front
    → AnyReads reading.verb place rest → IsBegun reading.verb reading.operands rest → ((given : Operand) → ¬ AnyGives place given)
    → CanGoOn (IsCommand reading.verb) limited (text ++ token ∷ []) → CanGoOn (IsOperand reading.verb) limited (rest ++ token ∷ [])
goes_in_on limited reading place text front rest token e come r b part (more, command, c) =
    let g = follows_inside limited reading place text front rest (token ∷ more) command e come r b part
    (subst (λ (t : List Token). IsCommand reading.verb limited command t) (append_assoc text (token ∷ []) more) c) in
    let tail_is = g.tail_is in
    let same : g.token ≡ token = cc in
    let whole : rest ++ g.token ∷ g.more ≡ (rest ++ token ∷ []) ++ g.more = ap (λ (t : Token). rest ++ t ∷ g.more) same ∙ sym (append_assoc rest (token ∷ []) g.more) in
    (g.more, g.operand, subst (λ (t : List Token). IsOperand reading.verb limited g.operand t) whole g.spelled)

wrong_inside : (reading : CommandReading) (place : AnyPlace) (text : List Token) (token : Token) (known : ValueFault) → ReadsAt (places.Inside place) reading text
    → AnyStops reading.verb place token known → ¬ (known ≡ values.NoMemory) → ¬ Begin (IsCommand reading.verb) (text ++ token ∷ [])
wrong_inside reading place text token known (front, rest, e, come, r, b, part) stop real (inl g) =
    (operands.exact reading.verb).wrong place rest token known r stop real (inl (goes_in_on true reading place text front rest token e come r b part g))
wrong_inside reading place text token known (front, rest, e, come, r, b, part) stop real (inr c) =
    let same = same_from_push text c.front token Comma c.comma in
    (operands.exact reading.verb).wrong place rest token known r stop real (inr (record {
      front = rest;
      comma = ap (λ (t : Token). rest ++ t ∷ []) same.1;
      before = goes_in true reading place text front rest e come r b part (subst (λ (t : List Token). CanGoOn (IsCommand reading.verb) true t) (sym same.0) c.before);
      longer = goes_in_on false reading place text front rest token e come r b part c.longer;
    }))

either : (verb : Verb) (text : List Token) → Begin (IsCommand verb) text → (limited : Bool) × CanGoOn (IsCommand verb) limited text
either verb text (inl g) = (true, g)
either verb text (inr c) = (false, c.longer)

-- a part that stands already is refused as any other word
part_is_known : (verb : Verb) (place : AnyPlace) (token : Token) (known : ValueFault) → PartStands place token → AnyStops verb place token known → known ≡ values.Word
part_is_known verb (any_places.Plain place) token known p stop = absurd p
part_is_known verb any_places.Named token known p stop = absurd p
part_is_known verb (any_places.Inside filter) token known (between, w) (closed, stop) = at filter.place between stop
  where
    at : (place : FilterPlace) → IsBetweenParts place → FilterStopsFrom place filter token known → known ≡ values.Word
    at filter_places.First b s = s.0
    at filter_places.Behind b s = s.0
    at filter_places.Comma b s = s.0
    at (filter_places.Inside place) b s = absurd b
part_is_known verb (any_places.Whole filter) token known p stop = absurd p

wrong_at : (place : CommandPlace) (reading : CommandReading) (text : List Token) (token : Token) (fault : CommandFault) → ReadsAt place reading text → StopsFrom place reading token fault
    → ¬ (value_of fault ≡ values.NoMemory) → ¬ Begin (IsCommand reading.verb) (text ++ token ∷ [])
wrong_at places.First reading text token fault r (none, why) real begun =
    let g = either reading.verb (text ++ token ∷ []) begun in
    no_more_first g.0 reading text token r none g.1
wrong_at places.Behind reading text token fault r (none, full, why) real begun =
    let g = either reading.verb (text ++ token ∷ []) begun in
    no_more_behind g.0 reading text token r none full g.1
wrong_at places.Comma reading text token fault r (none, why) real begun =
    let g = either reading.verb (text ++ token ∷ []) begun in
    no_more_comma g.0 reading text token r none g.1
wrong_at (places.Inside place) reading text token fault r (known, stop, inl (stands, twice)) real begun =
    let word = part_is_known reading.verb place token known stands stop in
    wrong_inside reading place text token known r stop (λ e. cc) begun
wrong_at (places.Inside place) reading text token fault r (known, stop, inr (apart, is)) real begun =
    wrong_inside reading place text token known r stop (λ e. real (ap value_of is ∙ e)) begun

wrong : (reading : CommandReading) (text : List Token) (token : Token) (known : ValueFault) → CommandReads reading text → StopsBy reading token known → ¬ (known ≡ values.NoMemory)
    → ¬ Begin (IsCommand reading.verb) (text ++ token ∷ [])
wrong reading text token known r (fault, is, inl memory) real begun = real (sym is ∙ ap value_of memory)
wrong reading text token known r (fault, is, inr stop) real begun = wrong_at reading.place reading text token fault r stop (λ e. real (sym is ∙ e)) begun

pub exact : (verb : Verb) → IsExact (IsCommand verb) (start_behind verb) CommandGoes StopsBy CommandGives (λ reading text. (reading.verb ≡ verb) × CommandReads reading text)
exact verb = record {
  begins = (refl, (refl, refl));
  goes = λ old new text token r g. (keeps_verb old.place old new token g ∙ r.0, goes_at old.place old new text token r.1 g);
  spelled = λ reading text command r g. subst (λ (v : Verb). IsCommand v true command text) r.0 (spelled_at reading text command r.1 g);
  given = λ reading text command r c. given_at reading.place reading text command r.1 (subst (λ (v : Verb). IsCommand v true command text) (sym r.0) c);
  right = λ reading text r. subst (λ (v : Verb). Begin (IsCommand v) text) r.0 (right_at reading.place reading text r.1);
  wrong = λ reading text token known r stop real begun. wrong reading text token known r.1 stop real (subst (λ (v : Verb). Begin (IsCommand v) (text ++ token ∷ [])) (sym r.0) begun);
}
