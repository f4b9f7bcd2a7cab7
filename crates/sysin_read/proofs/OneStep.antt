-- One token goes on with what is read of a value or operand in one way at most.
use Rattle.std.proofs.Common.{◌≡◌, ◌⊎◌, inl, inr, ℕ, List, [], ◌∷◌, ◌++◌, refl, sym, ap, subst, ◌∙◌, Bool, true, false, Option, Some, None}
use Rattle.dsn_filter.specs.declared.dsn.Dsn.{Dsn}
use Rattle.by_rules.specs.Reading.{Machine, next as next_machine}
use Rattle.sysin_text.specs.declared.token.Token.{Token}
use Rattle.sysin_text.specs.declared.token.Token.TheVariants as tokens
use Rattle.sysin_words.specs.declared.keyword.Keyword.{Keyword}
use Rattle.sysin_words.specs.declared.keyword.Keyword.TheVariants as keywords
use Rattle.sysin_words.specs.declared.lead.Verb.{Verb}
use Rattle.sysin_words.specs.Keyword.{keyword_of}
use Rattle.sysin_forms.specs.declared.operand.Operand.{Operand}
use Rattle.sysin_values.specs.declared.place.PairPlace.{PairPlace}
use Rattle.sysin_values.specs.declared.place.PairPlace.TheVariants as pairs
use Rattle.sysin_values.specs.declared.place.WaitPlace.{WaitPlace}
use Rattle.sysin_values.specs.declared.place.WaitPlace.TheVariants as waits
use Rattle.sysin_values.specs.Laws.{SaysOne}
use Rattle.sysin_values.specs.Values.{SaysName, SaysPrefix, SaysPattern, SaysDdName, most_entries, most_outputs, rule_of}
use Rattle.sysin_values.specs.Progress.{Progress, Goes}
use Rattle.sysin_values.specs.Pairs.{PairProgress, NamesToken, GoesFrom as PairGoesFrom}
use Rattle.sysin_values.specs.Names.{NameProgress, NamesGo}
use Rattle.sysin_values.specs.Wait.{WaitGoes}
use Rattle.sysin_values.specs.Criteria.{CriteriaGo}
use Rattle.sysin_values.proofs.Said.{one_dd_name, one_name, one_prefix, one_pattern}
use Rattle.sysin_operands.specs.declared.bracket.Single.{Single}
use Rattle.sysin_operands.specs.declared.bracket.Bracket.{Bracket}
use Rattle.sysin_operands.specs.declared.content.Content.{Content}
use Rattle.sysin_operands.specs.declared.content.Content.TheVariants as contents
use Rattle.sysin_operands.specs.declared.operand.OperandPlace.{OperandPlace}
use Rattle.sysin_operands.specs.declared.operand.OperandPlace.TheVariants as plains
use Rattle.sysin_operands.specs.Bracket.{alone_of, bracket_of, SaysSingle}
use Rattle.sysin_operands.specs.Content.{ContentGoes, ContentGives}
use Rattle.sysin_operands.specs.Operand.{IsKeyword, OperandGoes}
use Rattle.sysin_operands.proofs.Singles as singles
use Rattle.sysin_filters.specs.declared.filter.FilterPlace.{FilterPlace}
use Rattle.sysin_filters.specs.declared.filter.FilterPlace.TheVariants as parts
use Rattle.sysin_filters.specs.declared.filter.FilterReading.{FilterReading}
use Rattle.sysin_filters.specs.Filter.{part_of}
use Rattle.sysin_filters.specs.Progress.{StartsPart, GoesFrom as FilterGoesFrom, Behind as FilterBehind}
use Rattle.sysin_commands.specs.declared.operand.AnyPlace.{AnyPlace}
use Rattle.sysin_commands.specs.declared.operand.AnyPlace.TheVariants as any_places
use Rattle.sysin_commands.specs.declared.command.CommandPlace.{CommandPlace}
use Rattle.sysin_commands.specs.declared.command.CommandPlace.TheVariants as places
use Rattle.sysin_commands.specs.declared.command.CommandReading.{CommandReading}
use Rattle.sysin_commands.specs.AnyOperand.{AnyGoes, StartsDataset}
use Rattle.sysin_commands.specs.CommandProgress.{Behind, StartsOperand, GoesFrom, CommandGoes}
use Rattle.sysin_operands.proofs.Bracketed.{alone_has_none}

-- ---- tokens

pub one_word : (token : Token) (a b : List ℕ) → token ≡ tokens.Word a → token ≡ tokens.Word b → a ≡ b
one_word token a b e f = let both : tokens.Word a ≡ tokens.Word b = sym e ∙ f in cc

pub no_word_comma : (token : Token) (word : List ℕ) → token ≡ tokens.Word word → token ≡ tokens.Comma → ⊥
no_word_comma token word e f = let both : tokens.Word word ≡ tokens.Comma = sym e ∙ f in cc

pub one_keyword : (token : Token) (a b : Keyword) → IsKeyword a token → IsKeyword b token → a ≡ b
one_keyword token a b (v, e, s) (w, f, t) =
    let both : Some a ≡ Some b = sym s ∙ ap keyword_of (one_word token v w e f) ∙ t in
    cc

some_is : {X : Type 0} (o : Option X) (a b : X) → o ≡ Some a → o ≡ Some b → a ≡ b
some_is {X} o a b e f = let both : Some a ≡ Some b = sym e ∙ f in cc

not_both : (b : Bool) → b ≡ true → b ≡ false → ⊥
not_both b e f = let both : true ≡ false = sym e ∙ f in cc

-- ---- values

pub one_of_list : {X : Type 0} (Says : List ℕ → X → Type 0) (most : ℕ) → SaysOne Says → (old a b : Progress X) (token : Token) → Goes Says most old token a → Goes Says most old token b → a ≡ b
one_of_list {X} Says most one old a b token (inl x) (inl y) =
    let words : x.word ≡ y.word = one_word token x.word y.word x.sign y.sign in
    let same : x.entry ≡ y.entry = one y.word x.entry y.entry (subst (λ (w : List ℕ). Says w x.entry) words x.says) y.says in
    let lists : a.list ≡ b.list = x.list ∙ ap (λ (e : X). old.list ++ e ∷ []) same ∙ sym y.list in
    let want : a.wants ≡ b.wants = x.wants ∙ sym y.wants in
    (λ i. record { list = lists i; wants = want i })
one_of_list Says most one old a b token (inl x) (inr y) = absurd (not_both old.wants x.wanted y.unwanted)
one_of_list Says most one old a b token (inr x) (inl y) = absurd (not_both old.wants y.wanted x.unwanted)
one_of_list Says most one old a b token (inr x) (inr y) =
    let lists : a.list ≡ b.list = x.list ∙ sym y.list in
    let want : a.wants ≡ b.wants = x.wants ∙ sym y.wants in
    (λ i. record { list = lists i; wants = want i })

one_named : (token : Token) (a b : Dsn) → NamesToken token a → NamesToken token b → a ≡ b
one_named token a b x y =
    one_name y.word a b (subst (λ (w : List ℕ). SaysName w a) (one_word token x.word y.word x.sign y.sign) x.says) y.says

one_pair : (place : PairPlace) (list : List (Dsn × Dsn)) (a b : PairProgress) (token : Token) → PairGoesFrom place list token a → PairGoesFrom place list token b → a ≡ b
one_pair pairs.Before list a b token (s, f, x) (t, g, y) = x ∙ sym y
one_pair pairs.Opened list a b token (name, s, x) (other, t, y) =
    x ∙ ap (λ (n : Dsn). record { list = list; place = pairs.Old n }) (one_named token name other s t) ∙ sym y
one_pair (pairs.Old old) list a b token (s, x) (t, y) = x ∙ sym y
one_pair (pairs.Middle old) list a b token (name, s, x) (other, t, y) =
    x ∙ ap (λ (n : Dsn). record { list = list; place = pairs.New old n }) (one_named token name other s t) ∙ sym y
one_pair (pairs.New old name) list a b token (s, x) (t, y) = x ∙ sym y
one_pair pairs.Behind list a b token (s, x) (t, y) = x ∙ sym y

one_of_names : (old a b : NameProgress) (token : Token) → NamesGo old token a → NamesGo old token b → a ≡ b
one_of_names old a b token (inl x) (inl y) =
    let same : x.name ≡ y.name = one_prefix y.word x.name y.name (subst (λ (w : List ℕ). SaysPrefix w x.name) (one_word token x.word y.word x.sign y.sign) x.says) y.says in
    let front : a.prefix ≡ b.prefix = x.prefix ∙ ap Some same ∙ sym y.prefix in
    let rest : a.pairs ≡ b.pairs = x.pairs ∙ sym y.pairs in
    (λ i. record { prefix = front i; pairs = rest i })
one_of_names old a b token (inl x) (inr y) = absurd (y.later (x.first, (x.word, x.sign)))
one_of_names old a b token (inr x) (inl y) = absurd (x.later (y.first, (y.word, y.sign)))
one_of_names old a b token (inr x) (inr y) =
    let front : a.prefix ≡ b.prefix = x.prefix ∙ sym y.prefix in
    let rest : a.pairs ≡ b.pairs = one_pair old.pairs.place old.pairs.list a.pairs b.pairs token x.pairs y.pairs in
    (λ i. record { prefix = front i; pairs = rest i })

one_wait : (old a b : WaitPlace) (token : Token) → WaitGoes old token a → WaitGoes old token b → a ≡ b
one_wait waits.First a b token (s, x) (t, y) = x ∙ sym y
one_wait waits.Between a b token (s, x) (t, y) = x ∙ sym y
one_wait waits.Second a b token (s, x) (t, y) = x ∙ sym y
one_wait waits.Ended a b token x y = absurd x

one_machine : (old a b : Machine) (token : Token) → CriteriaGo old token a → CriteriaGo old token b → a ≡ b
one_machine old a b token x y = some_is (next_machine old (rule_of token)) a b x y

-- ---- operands

one_said : (single : Single) (token : Token) (v w : List ℕ) (a b : Operand) → token ≡ tokens.Word v → token ≡ tokens.Word w → SaysSingle single v a → SaysSingle single w b → a ≡ b
one_said single token v w a b e f s t = singles.one single a b (tokens.Word v ∷ []) (v, refl, s) (w, ap (λ (x : List ℕ). tokens.Word x ∷ []) (one_word token v w e f), t)

one_content : (old a b : Content) (token : Token) → ContentGoes old token a → ContentGoes old token b → a ≡ b
one_content (contents.Single single) a b token (v, p, e, s, x) (w, q, f, t, y) = x ∙ ap contents.Said (one_said single token v w p q e f s t) ∙ sym y
one_content (contents.Said operand) a b token x y = absurd x
one_content (contents.Include old) a b token (m, g, x) (n, h, y) = x ∙ ap contents.Include (one_of_list SaysPattern most_entries one_pattern old m n token g h) ∙ sym y
one_content (contents.Exclude old) a b token (m, g, x) (n, h, y) = x ∙ ap contents.Exclude (one_of_list SaysPattern most_entries one_pattern old m n token g h) ∙ sym y
one_content (contents.By old) a b token (m, g, x) (n, h, y) = x ∙ ap contents.By (one_machine old m n token g h) ∙ sym y
one_content (contents.Outputs old) a b token (m, g, x) (n, h, y) = x ∙ ap contents.Outputs (one_of_list SaysDdName most_outputs one_dd_name old m n token g h) ∙ sym y
one_content (contents.Rename old) a b token (m, g, x) (n, h, y) = x ∙ ap contents.Rename (one_of_names old m n token g h) ∙ sym y
one_content (contents.Wait old) a b token (m, g, x) (n, h, y) = x ∙ ap contents.Wait (one_wait old m n token g h) ∙ sym y

one_given : (content : Content) (a b : Operand) → ContentGives content a → ContentGives content b → a ≡ b
one_given (contents.Single single) a b x y = absurd x
one_given (contents.Said operand) a b x y = sym x ∙ y
one_given (contents.Include old) a b (l, g, x) (m, h, y) = x ∙ ap Rattle.sysin_forms.specs.declared.operand.Operand.TheVariants.Include (sym g.1 ∙ h.1) ∙ sym y
one_given (contents.Exclude old) a b (l, g, x) (m, h, y) = x ∙ ap Rattle.sysin_forms.specs.declared.operand.Operand.TheVariants.Exclude (sym g.1 ∙ h.1) ∙ sym y
one_given (contents.By old) a b (g, x) (h, y) = x ∙ sym y
one_given (contents.Outputs old) a b (l, g, x) (m, h, y) = x ∙ ap Rattle.sysin_forms.specs.declared.operand.Operand.TheVariants.Outputs (sym g.1 ∙ h.1) ∙ sym y
one_given (contents.Rename old) a b (g, x) (h, y) = x ∙ sym y
one_given (contents.Wait old) a b (g, x) (h, y) = x ∙ sym y

abbrev BeginsWith : Verb → Keyword → OperandPlace → Type 0
BeginsWith verb keyword new =
    ((operand : Operand) × (alone_of keyword ≡ Some operand) × (new ≡ plains.Ended operand))
    ⊎ ((bracket : Bracket) × (bracket_of verb keyword ≡ Some bracket) × (new ≡ plains.Named bracket))

one_begun : (verb : Verb) (keyword : Keyword) (a b : OperandPlace) → BeginsWith verb keyword a → BeginsWith verb keyword b → a ≡ b
one_begun verb keyword a b (inl (p, s, x)) (inl (q, t, y)) = x ∙ ap plains.Ended (some_is (alone_of keyword) p q s t) ∙ sym y
one_begun verb keyword a b (inl (p, s, x)) (inr (q, t, y)) = absurd (alone_has_none verb keyword p q s t)
one_begun verb keyword a b (inr (p, s, x)) (inl (q, t, y)) = absurd (alone_has_none verb keyword q p t s)
one_begun verb keyword a b (inr (p, s, x)) (inr (q, t, y)) = x ∙ ap plains.Named (some_is (bracket_of verb keyword) p q s t) ∙ sym y

pub one_operand : (verb : Verb) (old a b : OperandPlace) (token : Token) → OperandGoes verb old token a → OperandGoes verb old token b → a ≡ b
one_operand verb plains.Start a b token (k, s, x) (l, t, y) =
    one_begun verb l a b (subst (λ (z : Keyword). BeginsWith verb z a) (one_keyword token k l s t) x) y
one_operand verb (plains.Named bracket) a b token (s, x) (t, y) = x ∙ sym y
one_operand verb (plains.Inside bracket content) a b token (inl (p, s, c, g, x)) (inl (q, t, d, h, y)) = x ∙ ap plains.Ended (one_given content p q g h) ∙ sym y
one_operand verb (plains.Inside bracket content) a b token (inl (p, s, c, g, x)) (inr (q, none, h, y)) = absurd (none s c)
one_operand verb (plains.Inside bracket content) a b token (inr (p, none, g, x)) (inl (q, t, d, h, y)) = absurd (none t d)
one_operand verb (plains.Inside bracket content) a b token (inr (p, s, g, x)) (inr (q, t, h, y)) = x ∙ ap (λ (c : Content). plains.Inside bracket c) (one_content content p q token g h) ∙ sym y
one_operand verb (plains.Ended operand) a b token x y = absurd x

-- ---- filters

one_part : (old a b : FilterReading) (token : Token) → StartsPart old token a → StartsPart old token b → a ≡ b
one_part old a b token x y =
    let same : x.keyword ≡ y.keyword = one_keyword token x.keyword y.keyword x.word y.word in
    let bracket : x.bracket ≡ y.bracket = some_is (part_of y.keyword) x.bracket y.bracket (sym (ap part_of same) ∙ x.brackets) y.brackets in
    x.new_is ∙ ap (λ (z : Bracket). record old { place = parts.Inside (plains.Named z) }) bracket ∙ sym y.new_is

one_of_filter : (place : FilterPlace) (old a b : FilterReading) (token : Token) → FilterGoesFrom place old token a → FilterGoesFrom place old token b → a ≡ b
one_of_filter parts.First old a b token x y = one_part old a b token x y
one_of_filter parts.Comma old a b token x y = one_part old a b token x y
one_of_filter parts.Behind old a b token (inl x) (inl y) = one_part old a b token x y
one_of_filter parts.Behind old a b token (inl x) (inr (s, m, y)) = absurd (no_word_comma token x.word.0 x.word.1 s)
one_of_filter parts.Behind old a b token (inr (s, m, x)) (inl y) = absurd (no_word_comma token y.word.0 y.word.1 s)
one_of_filter parts.Behind old a b token (inr (s, m, x)) (inr (t, n, y)) = x ∙ sym y
one_of_filter (parts.Inside place) old a b token (p, g, x) (q, h, y) = x ∙ ap (FilterBehind old) (one_operand old.verb place p q token g h) ∙ sym y

-- ---- operands of commands

no_dataset : (verb : Verb) (place next : OperandPlace) (token : Token) → StartsDataset place token → OperandGoes verb place token next → ⊥
no_dataset verb place next token (start, word) g = by_start (subst (λ (p : OperandPlace). OperandGoes verb p token next) start g)
  where
    by_start : OperandGoes verb plains.Start token next → ⊥
    by_start (k, s, x) = by_keyword (subst (λ (z : Keyword). BeginsWith verb z next) (one_keyword token k keywords.Dataset s word) x)
      where
        by_keyword : BeginsWith verb keywords.Dataset next → ⊥
        by_keyword (inl (p, t, y)) = let g : None ≡ Some p = t in cc
        by_keyword (inr (p, t, y)) = let g : None ≡ Some p = t in cc

pub one_any : (verb : Verb) (old a b : AnyPlace) (token : Token) → AnyGoes verb old token a → AnyGoes verb old token b → a ≡ b
one_any verb (any_places.Plain place) a b token (inl (s, x)) (inl (t, y)) = x ∙ sym y
one_any verb (any_places.Plain place) a b token (inl (s, x)) (inr (q, h, y)) = absurd (no_dataset verb place q token s h)
one_any verb (any_places.Plain place) a b token (inr (p, g, x)) (inl (t, y)) = absurd (no_dataset verb place p token t g)
one_any verb (any_places.Plain place) a b token (inr (p, g, x)) (inr (q, h, y)) = x ∙ ap any_places.Plain (one_operand verb place p q token g h) ∙ sym y
one_any verb any_places.Named a b token (s, x) (t, y) = x ∙ sym y
one_any verb (any_places.Inside filter) a b token (inl (w, s, g, x)) (inl (v, t, h, y)) = x ∙ ap any_places.Whole (g.1 ∙ sym h.1) ∙ sym y
one_any verb (any_places.Inside filter) a b token (inl (w, s, g, x)) (inr (q, none, h, y)) = absurd (none s g.0)
one_any verb (any_places.Inside filter) a b token (inr (p, none, g, x)) (inl (v, t, h, y)) = absurd (none t h.0)
one_any verb (any_places.Inside filter) a b token (inr (p, s, g, x)) (inr (q, t, h, y)) = x ∙ ap any_places.Inside (one_of_filter filter.place filter p q token g h) ∙ sym y
one_any verb (any_places.Whole filter) a b token x y = absurd x

one_start : (old a b : CommandReading) (token : Token) → StartsOperand old token a → StartsOperand old token b → a ≡ b
one_start old a b token x y = x.new_is ∙ ap (Behind old) (one_any old.verb (any_places.Plain plains.Start) x.next y.next token x.goes y.goes) ∙ sym y.new_is

one_from : (place : CommandPlace) (old a b : CommandReading) (token : Token) → GoesFrom place old token a → GoesFrom place old token b → a ≡ b
one_from places.First old a b token x y = one_start old a b token x y
one_from places.Comma old a b token x y = one_start old a b token x y
one_from places.Behind old a b token (inl x) (inl y) = one_start old a b token x y
one_from places.Behind old a b token (inl x) (inr (s, m, y)) = absurd (no_word_comma token x.word.0 x.word.1 s)
one_from places.Behind old a b token (inr (s, m, x)) (inl y) = absurd (no_word_comma token y.word.0 y.word.1 s)
one_from places.Behind old a b token (inr (s, m, x)) (inr (t, n, y)) = x ∙ sym y
one_from (places.Inside place) old a b token (p, g, x) (q, h, y) = x ∙ ap (Behind old) (one_any old.verb place p q token g h) ∙ sym y

pub one_command : (old a b : CommandReading) (token : Token) → CommandGoes old token a → CommandGoes old token b → a ≡ b
one_command old a b token x y = one_from old.place old a b token x y
