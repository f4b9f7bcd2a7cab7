-- What is read of an operand so far.
use Rattle.std.specs.Prelude.{◌≡◌, ◌⊎◌, ℕ, true, List, [], ◌∷◌, Some, None}
use Rattle.sysin_text.specs.declared.token.Token.{Token}
use Rattle.sysin_text.specs.declared.token.Token.TheVariants as tokens
use Rattle.sysin_words.specs.declared.keyword.Keyword.{Keyword}
use Rattle.sysin_words.specs.declared.lead.Verb.{Verb}
use Rattle.sysin_words.specs.Keyword.{keyword_of}
use Rattle.sysin_forms.specs.declared.operand.Operand.{Operand}
use Rattle.sysin_values.specs.declared.fault.ValueFault.{ValueFault}
use Rattle.sysin_values.specs.declared.fault.ValueFault.TheVariants as faults
use Rattle.sysin_operands.specs.declared.bracket.Bracket.{Bracket}
use Rattle.sysin_operands.specs.declared.content.Content.{Content}
use Rattle.sysin_operands.specs.declared.operand.OperandPlace.{OperandPlace}
use Rattle.sysin_operands.specs.declared.operand.OperandPlace.TheVariants as places
use Rattle.sysin_operands.specs.Bracket.{alone_of, bracket_of, IsPlainOperand}
use Rattle.sysin_operands.specs.Content.{start_of, ContentGoes, ContentStops, CanEnd, ContentGives, ContentReads}

-- a keyword's word
abbrev pub IsKeyword : Keyword → Token → Type 0
IsKeyword keyword token = (word : List ℕ) × (token ≡ tokens.Word word) × (keyword_of word ≡ Some keyword)

-- the bracket is closed with this token, or what stands in it goes on
abbrev pub ClosesOrGoes : Bracket → Content → Token → OperandPlace → Type 0
ClosesOrGoes bracket content token new =
    ((operand : Operand) × (token ≡ tokens.Close) × CanEnd content × ContentGives content operand × (new ≡ places.Ended operand))
    ⊎ ((more : Content) × (token ≡ tokens.Close → ¬ CanEnd content) × ContentGoes content token more × (new ≡ places.Inside bracket more))

-- what is read with one more token, where it is right
abbrev pub OperandGoes : Verb → OperandPlace → Token → OperandPlace → Type 0
OperandGoes verb places.Start token new =
    (keyword : Keyword) × IsKeyword keyword token
    × (((operand : Operand) × (alone_of keyword ≡ Some operand) × (new ≡ places.Ended operand))
    ⊎ ((bracket : Bracket) × (bracket_of verb keyword ≡ Some bracket) × (new ≡ places.Named bracket)))
OperandGoes verb (places.Named bracket) token new = (token ≡ tokens.Open) × (new ≡ places.Inside bracket (start_of bracket))
OperandGoes verb (places.Inside bracket content) token new = ClosesOrGoes bracket content token new
OperandGoes verb (places.Ended operand) token new = ⊥

-- why a token is wrong
abbrev pub OperandStops : Verb → OperandPlace → Token → ValueFault → Type 0
OperandStops verb places.Start token fault =
    (fault ≡ faults.Word) × ((keyword : Keyword) → IsKeyword keyword token → (alone_of keyword ≡ None) × (bracket_of verb keyword ≡ None))
OperandStops verb (places.Named bracket) token fault = (fault ≡ faults.Word) × ¬ (token ≡ tokens.Open)
OperandStops verb (places.Inside bracket content) token fault = (token ≡ tokens.Close → ¬ CanEnd content) × ContentStops content token fault
OperandStops verb (places.Ended operand) token fault = fault ≡ faults.Word

-- the operand, where it is read whole
abbrev pub OperandGives : OperandPlace → Operand → Type 0
OperandGives place operand = place ≡ places.Ended operand

-- the tokens that lead to this
abbrev pub OperandReads : Verb → OperandPlace → List Token → Type 0
OperandReads verb places.Start text = text ≡ []
OperandReads verb (places.Named bracket) text =
    (word : List ℕ) × (keyword : Keyword) × (text ≡ tokens.Word word ∷ []) × (keyword_of word ≡ Some keyword) × (bracket_of verb keyword ≡ Some bracket)
OperandReads verb (places.Inside bracket content) text =
    (word : List ℕ) × (keyword : Keyword) × (front : List Token) × (text ≡ tokens.Word word ∷ tokens.Open ∷ front) × (keyword_of word ≡ Some keyword)
    × (bracket_of verb keyword ≡ Some bracket) × ContentReads bracket content front
OperandReads verb (places.Ended operand) text = IsPlainOperand verb true operand text

-- some tokens lead to it
abbrev pub OperandIsRead : Verb → OperandPlace → Type 0
OperandIsRead verb place = (text : List Token) × OperandReads verb place text
