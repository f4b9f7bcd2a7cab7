-- Where a last bracket stands within a part, no longer list ends before it.
use Rattle.std.proofs.Common.{◌≡◌, ◌⊎◌, inl, inr, ℕ, ◌≤◌, List, [], ◌∷◌, ◌++◌, length, refl, sym, ap, subst, ◌∙◌, true, false, arith, None, append_assoc, length-append}
use Rattle.std.specs.Prelude.{map}
use Rattle.std.proofs.lemmas.Bool.{cases_lt}
use Rattle.std.proofs.lemmas.List.{map-append}
use Rattle.by_rules.specs.declared.criterion.Criterion.{Criterion}
use Rattle.by_rules.specs.declared.state.State.TheVariants as states
use Rattle.by_rules.specs.Token as rules
use Rattle.by_rules.specs.Token.{Symbol}
use Rattle.by_rules.specs.Grammar.{IsCriterion, IsSequence, most_criteria}
use Rattle.by_rules.specs.Reading.{start, run}
use Rattle.by_rules.proofs.Complete.{at, run_then, complete}
use Rattle.by_rules.proofs.Sound.{IsBefore, criterion_more}
use Rattle.sysin_text.specs.declared.token.Token.{Token}
use Rattle.sysin_text.specs.declared.token.Token.TheVariants.{Close}
use Rattle.sysin_values.specs.Values.{rule_of, IsWordOf, IsPatterns, IsCriteria, SaysPattern}
use Rattle.sysin_values.proofs.Lists.{IsRest, behind_list}
use Rattle.sysin_values.proofs.WordLists.{closed_word}
use Rattle.sysin_values.proofs.LongCriteria.{is_full}

-- ---- patterns

pub no_shorter_patterns : (list all : List (List (List ℕ))) (front rest : List Token) → IsPatterns false list front → IsPatterns true all (front ++ Close ∷ rest) → ⊥
no_shorter_patterns list all front rest (l, few) (a, few') =
    by_rest (behind_list (IsWordOf SaysPattern) (closed_word SaysPattern) list all front (Close ∷ rest) l a)
  where
    by_rest : (Close ∷ rest ≡ []) ⊎ IsRest (IsWordOf SaysPattern) list all (Close ∷ rest) → ⊥
    by_rest (inl none) = cc
    by_rest (inr r) = let comma = r.comma in cc

-- ---- criteria

-- one more criterion
join : (criterion : Criterion) (list : List Criterion) (first rest symbols : List Symbol) → (symbols ≡ first ++ rest) ⊎ (symbols ≡ first ++ rules.Comma ∷ rest) → IsCriterion criterion first
    → IsSequence list rest → IsSequence (criterion ∷ list) symbols
join criterion [] first rest symbols j c s = absurd s
join criterion (second ∷ list) first rest symbols j c s = (first, rest, j, c, s)

grow : (symbols first rest more : List Symbol) → (symbols ≡ first ++ rest) ⊎ (symbols ≡ first ++ rules.Comma ∷ rest)
    → (symbols ++ more ≡ first ++ (rest ++ more)) ⊎ (symbols ++ more ≡ first ++ rules.Comma ∷ (rest ++ more))
grow symbols first rest more (inl e) = inl (ap (λ (t : List Symbol). t ++ more) e ∙ append_assoc first rest more)
grow symbols first rest more (inr e) = inr (ap (λ (t : List Symbol). t ++ more) e ∙ append_assoc first (rules.Comma ∷ rest) more)

put_behind : (list : List Criterion) (front : List Symbol) (criterion : Criterion) (text whole : List Symbol) → (whole ≡ front ++ text) ⊎ (whole ≡ front ++ rules.Comma ∷ text) → IsSequence list front
    → IsCriterion criterion text → IsSequence (list ++ criterion ∷ []) whole
put_behind [] front criterion text whole j s c = absurd s
put_behind (first ∷ []) front criterion text whole j s c = (front, text, j, s, c)
put_behind (first ∷ second ∷ list) front criterion text whole (inl j) (a, b, joined, d, more) c =
    subst (λ (w : List Symbol). IsSequence (first ∷ second ∷ (list ++ criterion ∷ [])) w) (sym j)
    (a, b ++ text, grow front a b text joined, d, put_behind (second ∷ list) b criterion text (b ++ text) (inl refl) more c)
put_behind (first ∷ second ∷ list) front criterion text whole (inr j) (a, b, joined, d, more) c =
    subst (λ (w : List Symbol). IsSequence (first ∷ second ∷ (list ++ criterion ∷ [])) w) (sym j)
    (a, b ++ rules.Comma ∷ text, grow front a b (rules.Comma ∷ text) joined, d, put_behind (second ∷ list) b criterion text (b ++ rules.Comma ∷ text) (inr refl) more c)

none_opens : (list : List Criterion) (rest : List Symbol) → length list ≡ most_criteria → run (at states.Ended list []) (rules.Open ∷ rest) ≡ None
none_opens list rest full = rw (is_full (length list) full) refl

none_opens_comma : (list : List Criterion) (rest : List Symbol) → length list ≡ most_criteria → run (at states.Comma list []) (rules.Open ∷ rest) ≡ None
none_opens_comma list rest full = rw (is_full (length list) full) refl

-- no criterion stands behind criteria that are full
no_more : (list : List Criterion) (done : List Symbol) (criterion : Criterion) (text rest : List Symbol) → IsBefore list done → length list ≡ most_criteria → IsCriterion criterion text
    → run start (done ++ (text ++ rest)) ≡ None
no_more list done criterion text rest (inl none) full c = let empty = none.0 in let count : length list ≡ 0 = ap length empty in absurd (omega (arith, count, full))
no_more list done criterion text rest (inr (inl s)) full c =
    run_then start (at states.Ended list []) done (text ++ rest) (complete done list (record { sequence = s; few = omega (arith, full) }))
    ∙ ap (λ (t : List Symbol). run (at states.Ended list []) (t ++ rest)) c.text
    ∙ none_opens list (rules.Word c.key_word ∷ rules.Comma ∷ rules.Word c.op_word ∷ rules.Comma ∷ ((c.operand ++ rules.Close ∷ []) ++ rest)) full
no_more list done criterion text rest (inr (inr (front, e, s))) full c =
    ap (λ (t : List Symbol). run start (t ++ (text ++ rest))) e
    ∙ ap (run start) (append_assoc front (rules.Comma ∷ []) (text ++ rest))
    ∙ run_then start (at states.Ended list []) front (rules.Comma ∷ (text ++ rest)) (complete front list (record { sequence = s; few = omega (arith, full) }))
    ∙ ap (λ (t : List Symbol). run (at states.Comma list []) (t ++ rest)) c.text
    ∙ none_opens_comma list (rules.Word c.key_word ∷ rules.Comma ∷ rules.Word c.op_word ∷ rules.Comma ∷ ((c.operand ++ rules.Close ∷ []) ++ rest)) full

-- a last bracket behind any number of criteria is wrong
stuck : (list : List Criterion) (symbols : List Symbol) (before : List Criterion) (done rest : List Symbol) → IsBefore before done → length before ≤ most_criteria → IsSequence list symbols
    → run start (done ++ (symbols ++ rules.Close ∷ rest)) ≡ None
stuck [] symbols before done rest b few s = absurd s
stuck (criterion ∷ []) symbols before done rest b few c =
    elim (cases_lt (length before) most_criteria) [
      | inl room ↦ ap (run start) (sym (append_assoc done symbols (rules.Close ∷ rest)))
          ∙ run_then start (at states.Ended (before ++ criterion ∷ []) []) (done ++ symbols) (rules.Close ∷ rest)
          (complete (done ++ symbols) (before ++ criterion ∷ []) (record { sequence = criterion_more before done criterion symbols b c; few = omega (arith, room, length-append before (criterion ∷ [])) }))
      | inr full ↦ no_more before done criterion symbols (rules.Close ∷ rest) b (omega (arith, full, few)) c
    ]
stuck (criterion ∷ second ∷ list) symbols before done rest b few (first, others, inl j, c, s) =
    elim (cases_lt (length before) most_criteria) [
      | inl room ↦ ap (λ (t : List Symbol). run start (done ++ (t ++ rules.Close ∷ rest))) j
          ∙ ap (λ (t : List Symbol). run start (done ++ t)) (append_assoc first others (rules.Close ∷ rest))
          ∙ ap (run start) (sym (append_assoc done first (others ++ rules.Close ∷ rest)))
          ∙ stuck (second ∷ list) others (before ++ criterion ∷ []) (done ++ first) rest (inr (inl (criterion_more before done criterion first b c))) (omega (arith, room, length-append before (criterion ∷ []))) s
      | inr full ↦ ap (λ (t : List Symbol). run start (done ++ (t ++ rules.Close ∷ rest))) j
          ∙ ap (λ (t : List Symbol). run start (done ++ t)) (append_assoc first others (rules.Close ∷ rest))
          ∙ no_more before done criterion first (others ++ rules.Close ∷ rest) b (omega (arith, full, few)) c
    ]
stuck (criterion ∷ second ∷ list) symbols before done rest b few (first, others, inr j, c, s) =
    elim (cases_lt (length before) most_criteria) [
      | inl room ↦ ap (λ (t : List Symbol). run start (done ++ (t ++ rules.Close ∷ rest))) j
          ∙ ap (λ (t : List Symbol). run start (done ++ t)) (append_assoc first (rules.Comma ∷ others) (rules.Close ∷ rest))
          ∙ ap (run start) (sym (append_assoc done first (rules.Comma ∷ (others ++ rules.Close ∷ rest))))
          ∙ ap (run start) (sym (append_assoc (done ++ first) (rules.Comma ∷ []) (others ++ rules.Close ∷ rest)))
          ∙ stuck (second ∷ list) others (before ++ criterion ∷ []) ((done ++ first) ++ rules.Comma ∷ []) rest (inr (inr (done ++ first, refl, criterion_more before done criterion first b c)))
          (omega (arith, room, length-append before (criterion ∷ []))) s
      | inr full ↦ ap (λ (t : List Symbol). run start (done ++ (t ++ rules.Close ∷ rest))) j
          ∙ ap (λ (t : List Symbol). run start (done ++ t)) (append_assoc first (rules.Comma ∷ others) (rules.Close ∷ rest))
          ∙ no_more before done criterion first (rules.Comma ∷ (others ++ rules.Close ∷ rest)) b (omega (arith, full, few)) c
    ]

pub no_shorter_criteria : (list all : List Criterion) (front rest : List Token) → IsCriteria false list front → IsCriteria true all (front ++ Close ∷ rest) → ⊥
no_shorter_criteria list all front rest (l, few) (a, few') =
    let whole = complete (map rule_of (front ++ Close ∷ rest)) all (record { sequence = a; few = few' refl }) in
    let none = stuck list (map rule_of front) [] [] (map rule_of rest) (inl (refl, refl)) (omega arith) l in
    let same : run start (map rule_of (front ++ Close ∷ rest)) ≡ run start (map rule_of front ++ rules.Close ∷ map rule_of rest) = ap (run start) (map-append rule_of front (Close ∷ rest)) in
    cc
