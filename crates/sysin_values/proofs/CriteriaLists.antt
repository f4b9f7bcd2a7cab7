-- Criteria are read exactly.
use Rattle.std.proofs.Common.{◌≡◌, inl, inr, List, [], ◌∷◌, ◌++◌, refl, sym, ap, subst, ◌∙◌, true, false, append_assoc, append-nil}
use Rattle.std.specs.Prelude.{codes, map}
use Rattle.std.specs.Option.{option_and_then}
use Rattle.std.proofs.lemmas.List.{map_push, map-append, same_from_push}
use Rattle.by_rules.specs.declared.criterion.Criterion.{Criterion}
use Rattle.by_rules.specs.declared.criterion.Key.TheVariants as keys
use Rattle.by_rules.specs.declared.criterion.Op.TheVariants as ops
use Rattle.by_rules.specs.declared.criterion.Value.TheVariants as values
use Rattle.by_rules.specs.Token as rules
use Rattle.by_rules.specs.Token.{Symbol}
use Rattle.by_rules.specs.Grammar.{IsCriterion, IsSequence, Spell}
use Rattle.by_rules.specs.Reading.{Machine, start, run, HasEnded}
use Rattle.by_rules.specs.Refusal as refusal
use Rattle.by_rules.proofs.Complete.{run_then}
use Rattle.by_rules.proofs.Reader.{read_is_spelled, spelled_is_read}
use Rattle.by_rules.proofs.Refusing as refusing
use Rattle.sysin_text.specs.declared.token.Token.{Token}
use Rattle.sysin_text.specs.declared.token.Token.TheVariants as tokens
use Rattle.sysin_values.specs.declared.fault.ValueFault.{ValueFault}
use Rattle.sysin_values.specs.declared.fault.ValueFault.TheVariants as faults
use Rattle.sysin_values.specs.Values.{IsCriteria, rule_of}
use Rattle.sysin_values.specs.Begun.{CanGoOn, Begin}
use Rattle.sysin_values.specs.Exact.{IsExact}
use Rattle.sysin_values.specs.Criteria.{CriteriaGo, CriteriaStop, CriteriaReads, CriteriaGive}
use Rattle.sysin_values.proofs.LongCriteria.{no_next, stopped}

abbrev rules_of : List Token → List Symbol
rules_of text = map rule_of text

-- a token for each of criteria
token_for : Symbol → Token
token_for rules.Open = tokens.Open
token_for rules.Close = tokens.Close
token_for rules.Comma = tokens.Comma
token_for (rules.Word word) = tokens.Word word
token_for (rules.Other byte) = tokens.Other byte

rule_for : (symbol : Symbol) → rule_of (token_for symbol) ≡ symbol
unfolding token_for
rule_for rules.Open = refl
rule_for rules.Close = refl
rule_for rules.Comma = refl
rule_for (rules.Word word) = refl
rule_for (rules.Other byte) = refl

rules_for : (symbols : List Symbol) → rules_of (map token_for symbols) ≡ symbols
rules_for [] = refl
rules_for (symbol ∷ symbols) = ap (λ (s : Symbol). s ∷ rules_of (map token_for symbols)) (rule_for symbol) ∙ ap (λ (s : List Symbol). symbol ∷ s) (rules_for symbols)

is_comma : (token : Token) → rule_of token ≡ rules.Comma → token ≡ tokens.Comma
is_comma tokens.Open e = cc
is_comma tokens.Close e = cc
is_comma tokens.Comma e = refl
is_comma tokens.Equal e = cc
is_comma tokens.NotEqual e = cc
is_comma tokens.Less e = cc
is_comma tokens.Greater e = cc
is_comma tokens.LessOrEqual e = cc
is_comma tokens.GreaterOrEqual e = cc
is_comma (tokens.Word word) e = cc
is_comma (tokens.Other byte) e = cc

-- the last of criteria's tokens
pub record IsSplit (text : List Token) (front : List Symbol) : Type 0 where
  pub before : List Token
  pub whole : text ≡ before ++ tokens.Comma ∷ []
  pub same : rules_of before ≡ front

split : (text : List Token) (front : List Symbol) → rules_of text ≡ front ++ rules.Comma ∷ [] → IsSplit text front
split [] [] e = cc
split [] (symbol ∷ front) e = cc
split (token ∷ []) [] e = let sign : rule_of token ≡ rules.Comma = cc in record { before = []; whole = ap (λ (t : Token). t ∷ []) (is_comma token sign); same = refl }
split (token ∷ next' ∷ text) [] e = let none : rule_of next' ∷ rules_of text ≡ [] = cc in cc
split (token ∷ text) (symbol ∷ front) e =
    let head : rule_of token ≡ symbol = cc in
    let tail : rules_of text ≡ front ++ rules.Comma ∷ [] = cc in
    let s = split text front tail in
    record { before = token ∷ s.before; whole = ap (λ (t : List Token). token ∷ t) s.whole; same = cc }

-- one more criterion behind a comma
sequence_more : (list : List Criterion) (front : List Symbol) (criterion : Criterion) (text : List Symbol) → IsSequence list front → IsCriterion criterion text → IsSequence (list ++ criterion ∷ []) (front ++ rules.Comma ∷ text)
sequence_more [] front criterion text s c = absurd s
sequence_more (first ∷ []) front criterion text s c = (front, text, inr refl, s, c)
sequence_more (first ∷ second ∷ list) front criterion text (one, rest, inl e, o, others) c =
    (one, rest ++ rules.Comma ∷ text, inl (ap (λ (t : List Symbol). t ++ rules.Comma ∷ text) e ∙ append_assoc one rest (rules.Comma ∷ text)), o, sequence_more (second ∷ list) rest criterion text others c)
sequence_more (first ∷ second ∷ list) front criterion text (one, rest, inr e, o, others) c =
    (one, rest ++ rules.Comma ∷ text, inr (ap (λ (t : List Symbol). t ++ rules.Comma ∷ text) e ∙ append_assoc one (rules.Comma ∷ rest) (rules.Comma ∷ text)), o, sequence_more (second ∷ list) rest criterion text others c)

abbrev sample : Criterion
sample = record { key = keys.Multivolume; op = ops.Equal; values = values.Flag false ∷ [] }

abbrev sample_text : List Symbol
sample_text = rules.Open ∷ rules.Word (codes "MULTI") ∷ rules.Comma ∷ rules.Word (codes "EQ") ∷ rules.Comma ∷ (rules.Word (codes "NO") ∷ [] ++ rules.Close ∷ [])

sample_spelled : IsCriterion sample sample_text
sample_spelled = record {
  key_word = codes "MULTI";
  op_word = codes "EQ";
  operand = rules.Word (codes "NO") ∷ [];
  text = refl;
  key = refl;
  op = refl;
  allowed = refl;
  compared = inl (record { value = values.Flag false; one = refl; text = inl (record { word = codes "NO"; text = refl; says = refl }) });
}

pushed : (text : List Token) (token : Token) → rules_of (text ++ token ∷ []) ≡ rules_of text ++ rule_of token ∷ []
pushed text token = map_push rule_of text token

behind : (text : List Token) (rest : List Symbol) → rules_of (text ++ map token_for rest) ≡ rules_of text ++ rest
behind text rest = map-append rule_of text (map token_for rest) ∙ ap (λ (s : List Symbol). rules_of text ++ s) (rules_for rest)

goes : (old new : Machine) (text : List Token) (token : Token) → CriteriaReads old text → CriteriaGo old token new → CriteriaReads new (text ++ token ∷ [])
goes old new text token r g =
    ap (run start) (pushed text token) ∙ run_then start old (rules_of text) (rule_of token ∷ []) r ∙ ap (option_and_then (λ (after : Machine). run after [])) g

spelled : (machine : Machine) (text : List Token) (criteria : List Criterion) → CriteriaReads machine text → CriteriaGive machine criteria → IsCriteria true criteria text
spelled machine text criteria r (ended, same) =
    let s = subst (λ (c : List Criterion). Spell (rules_of text) c) same (read_is_spelled (rules_of text) machine r ended) in
    (s.sequence, λ _. s.few)

pub given : (machine : Machine) (text : List Token) (criteria : List Criterion) → CriteriaReads machine text → IsCriteria true criteria text → CriteriaGive machine criteria
given machine text criteria r (sequence, few) =
    let s = spelled_is_read (rules_of text) criteria (record { sequence = sequence; few = few refl }) in
    let same : s.0 ≡ machine = let a = s.1 in cc in
    (subst HasEnded same s.2, ap (λ (m : Machine). m.criteria) (sym same) ∙ s.3)

right_by : (text : List Token) → refusal.Begin (rules_of text) → Begin IsCriteria text
right_by text (inl g) =
    let s = g.spelled in
    inl (map token_for g.rest, g.criteria, (subst (λ (t : List Symbol). IsSequence g.criteria t) (sym (behind text g.rest)) s.sequence, λ _. s.few))
right_by text (inr e) =
    let s = split text e.front e.comma in
    let sp = e.spelled in
    let more : IsSequence (e.criteria ++ sample ∷ []) (rules_of text ++ sample_text) =
    subst (λ (t : List Symbol). IsSequence (e.criteria ++ sample ∷ []) t) (sym (append_assoc e.front (rules.Comma ∷ []) sample_text) ∙ ap (λ (t : List Symbol). t ++ sample_text) (sym e.comma))
    (sequence_more e.criteria e.front sample sample_text sp.sequence sample_spelled) in
    inr (record {
      front = s.before;
      comma = s.whole;
      before = ([], e.criteria, (subst (λ (t : List Symbol). IsSequence e.criteria t) (sym s.same ∙ sym (ap rules_of (append-nil s.before))) sp.sequence, λ _. sp.few));
      longer = (map token_for sample_text, e.criteria ++ sample ∷ [], (subst (λ (t : List Symbol). IsSequence (e.criteria ++ sample ∷ []) t) (sym (behind text sample_text)) more, λ free. cc));
    })

-- tokens of criteria of which there may be so many are right
begins : (text : List Token) → CanGoOn IsCriteria true text → refusal.Begin (rules_of text)
begins text (rest, criteria, (sequence, few)) =
    inl (record { criteria = criteria; rest = rules_of rest; spelled = record { sequence = subst (λ (t : List Symbol). IsSequence criteria t) (map-append rule_of text rest) sequence; few = few refl } })

wrong : (machine : Machine) (text : List Token) (token : Token) (fault : ValueFault) → CriteriaReads machine text → CriteriaStop machine token fault → ¬ (fault ≡ faults.NoMemory) → ¬ Begin IsCriteria (text ++ token ∷ [])
wrong machine text token fault r stop real (inl g) =
    let begun = subst (λ (t : List Symbol). refusal.Begin t) (pushed text token) (begins (text ++ token ∷ []) g) in
    refusing.wrong machine (rules_of text) (rule_of token) r (no_next machine token fault stop real) begun
wrong machine text token fault r stop real (inr e) =
    let sign : token ≡ tokens.Comma = (same_from_push text e.front token tokens.Comma e.comma).1 in
    stopped machine text token fault r stop real (λ open'. let comma : rule_of token ≡ rules.Comma = ap rule_of sign in cc) e.longer

pub exact : IsExact IsCriteria start CriteriaGo CriteriaStop CriteriaGive CriteriaReads
exact = record {
  begins = refl;
  goes = goes;
  spelled = spelled;
  given = given;
  right = λ machine text r. right_by text (refusing.right (rules_of text) machine r);
  wrong = wrong;
}
