-- An operand for each keyword.
use Rattle.std.proofs.Common.{◌≡◌, ◌⊎◌, inl, inr, ℕ, List, [], ◌∷◌, ◌++◌, refl, sym, ◌∙◌, true, Some}
use Rattle.std.specs.Prelude.{codes}
use Rattle.sysin_text.specs.declared.token.Token.{Token}
use Rattle.sysin_text.specs.declared.token.Token.TheVariants.{Open, Close, Word}
use Rattle.sysin_words.specs.declared.keyword.Keyword.{Keyword}
use Rattle.sysin_words.specs.declared.keyword.Keyword.TheVariants as keywords
use Rattle.sysin_words.specs.declared.lead.Verb.{Verb}
use Rattle.sysin_words.specs.Keyword.{keyword_of}
use Rattle.sysin_forms.specs.declared.operand.Operand.{Operand}
use Rattle.sysin_forms.specs.declared.operand.Operand.TheVariants as operands
use Rattle.sysin_forms.specs.Operand.{name_of}
use Rattle.sysin_forms.specs.Made.{said, filter_made}
use Rattle.sysin_operands.specs.declared.bracket.Single.TheVariants as singles
use Rattle.sysin_operands.specs.declared.bracket.Bracket.{Bracket}
use Rattle.sysin_operands.specs.declared.bracket.Bracket.TheVariants as brackets
use Rattle.sysin_operands.specs.Bracket.{alone_of, input_of, output_of, bracket_of}
use Rattle.sysin_operands.specs.Content.{start_of}
use Rattle.sysin_operands.proofs.Contents as contents
use Rattle.sysin_commands.specs.Operand.{IsOperand}
use Rattle.sysin_commands.proofs.Agreeing.{at_home, content_name, alone_name}
use Rattle.sysin_operands.proofs.Operands.{begin_nothing}

abbrev pub IsSample : Verb → Keyword → Type 0
IsSample verb keyword = (operand : Operand) × (text : List Token) × IsOperand verb true operand text × (name_of operand ≡ keyword)

bracketed : (verb : Verb) (keyword : Keyword) (bracket : Bracket) (word : List ℕ) → bracket_of verb keyword ≡ Some bracket → keyword_of word ≡ Some keyword → IsSample verb keyword
bracketed verb keyword bracket word b k =
    let c = begin_nothing bracket ((contents.exact bracket).right (start_of bracket) [] (contents.exact bracket).begins) in (
      c.1,
      Word word ∷ Open ∷ (c.0 ++ Close ∷ []),
      inl (inr (keyword, bracket, b, record { word = word; content = c.0; tokens = refl; spelled = k; inside = c.2 })),
      content_name true bracket c.1 c.0 c.2 ∙ sym (at_home verb keyword bracket b),
    )

alone : (verb : Verb) (keyword : Keyword) (operand : Operand) (word : List ℕ) → alone_of keyword ≡ Some operand → keyword_of word ≡ Some keyword → IsSample verb keyword
alone verb keyword operand word a k = (operand, Word word ∷ [], inl (inl (keyword, a, (word, refl, k))), alone_name keyword operand a)

dataset : (verb : Verb) → IsSample verb keywords.Dataset
dataset verb =
    let filter = filter_made (said []) in (
      operands.Dataset filter,
      Word (codes "DATASET") ∷ Open ∷ Close ∷ [],
      inr (filter, refl, record { word = codes "DATASET"; content = []; tokens = refl; spelled = refl; inside = ([], refl, tt, refl) }),
      refl,
    )

pub sample : (verb : Verb) (keyword : Keyword) → IsSample verb keyword
sample verb keywords.Vtoc = alone verb keywords.Vtoc operands.Vtoc (codes "VTOC") refl refl
sample verb keywords.Full = alone verb keywords.Full operands.Full (codes "FULL") refl refl
sample verb keywords.Input = bracketed verb keywords.Input (brackets.Single (input_of verb)) (codes "INDD") refl refl
sample verb keywords.LogicalInput = bracketed verb keywords.LogicalInput (brackets.Single singles.LogicalUnit) (codes "LOGINDDNAME") refl refl
sample verb keywords.Output = bracketed verb keywords.Output (output_of verb) (codes "OUTDD") refl refl
sample verb keywords.Dataset = dataset verb
sample verb keywords.Include = bracketed verb keywords.Include brackets.Include (codes "INCLUDE") refl refl
sample verb keywords.Exclude = bracketed verb keywords.Exclude brackets.Exclude (codes "EXCLUDE") refl refl
sample verb keywords.By = bracketed verb keywords.By brackets.By (codes "BY") refl refl
sample verb keywords.Index = bracketed verb keywords.Index (brackets.Single singles.Index) (codes "FRAGI") refl refl
sample verb keywords.Limit = bracketed verb keywords.Limit (brackets.Single singles.Limit) (codes "MOVELIMIT") refl refl
sample verb keywords.Delete = alone verb keywords.Delete operands.Delete (codes "DELETE") refl refl
sample verb keywords.Purge = alone verb keywords.Purge operands.Purge (codes "PURGE") refl refl
sample verb keywords.Reset = alone verb keywords.Reset operands.Reset (codes "RESET") refl refl
sample verb keywords.Replace = alone verb keywords.Replace operands.Replace (codes "REPU") refl refl
sample verb keywords.Rename = bracketed verb keywords.Rename brackets.Rename (codes "RENAMEU") refl refl
sample verb keywords.Tolerate = bracketed verb keywords.Tolerate (brackets.Single singles.Tolerate) (codes "TOL") refl refl
sample verb keywords.Wait = bracketed verb keywords.Wait brackets.Wait (codes "WAIT") refl refl
sample verb keywords.Optimize = bracketed verb keywords.Optimize (brackets.Single singles.Optimize) (codes "OPTIMIZE") refl refl

-- each keyword begins an operand of any verb
pub begins_one : (verb : Verb) (keyword : Keyword) → ((operand : Operand) × (alone_of keyword ≡ Some operand)) ⊎ (((bracket : Bracket) × (bracket_of verb keyword ≡ Some bracket)) ⊎ (keyword ≡ keywords.Dataset))
begins_one verb keywords.Vtoc = inl (operands.Vtoc, refl)
begins_one verb keywords.Full = inl (operands.Full, refl)
begins_one verb keywords.Input = inr (inl (brackets.Single (input_of verb), refl))
begins_one verb keywords.LogicalInput = inr (inl (brackets.Single singles.LogicalUnit, refl))
begins_one verb keywords.Output = inr (inl (output_of verb, refl))
begins_one verb keywords.Dataset = inr (inr refl)
begins_one verb keywords.Include = inr (inl (brackets.Include, refl))
begins_one verb keywords.Exclude = inr (inl (brackets.Exclude, refl))
begins_one verb keywords.By = inr (inl (brackets.By, refl))
begins_one verb keywords.Index = inr (inl (brackets.Single singles.Index, refl))
begins_one verb keywords.Limit = inr (inl (brackets.Single singles.Limit, refl))
begins_one verb keywords.Delete = inl (operands.Delete, refl)
begins_one verb keywords.Purge = inl (operands.Purge, refl)
begins_one verb keywords.Reset = inl (operands.Reset, refl)
begins_one verb keywords.Replace = inl (operands.Replace, refl)
begins_one verb keywords.Rename = inr (inl (brackets.Rename, refl))
begins_one verb keywords.Tolerate = inr (inl (brackets.Single singles.Tolerate, refl))
begins_one verb keywords.Wait = inr (inl (brackets.Wait, refl))
begins_one verb keywords.Optimize = inr (inl (brackets.Single singles.Optimize, refl))
