-- ELSE and END begin no statement.
use Rattle.std.proofs.Common.{◌≡◌, ℕ, List, sym, ap, ◌∙◌, true, false, Some, None}
use Rattle.std.specs.Prelude.{codes}
use Rattle.std.proofs.lemmas.Slice.Eq.{bytes_eq-Decides}
use Rattle.sysin_text.specs.declared.token.Token.TheVariants as tokens
use Rattle.sysin_text.specs.declared.token.Placed.{Placed}
use Rattle.sysin_words.specs.declared.keyword.Keyword.{Keyword}
use Rattle.sysin_words.specs.declared.lead.Lead.{Lead}
use Rattle.sysin_words.specs.Lead.{lead_of, is_else, is_end}
use Rattle.sysin_words.specs.Keyword.{keyword_of}
use Rattle.sysin_operands.specs.Operand.{IsKeyword}
use Rattle.sysin_read.specs.Statement.{IsLead, IsElse, IsEnd}

else_word : (word : List ℕ) → is_else word ≡ true → word ≡ codes "ELSE"
else_word word e = (bytes_eq-Decides word (codes "ELSE")).0 e

end_word : (word : List ℕ) → is_end word ≡ true → word ≡ codes "END"
end_word word e = (bytes_eq-Decides word (codes "END")).0 e

same_word : (placed : Placed) (a b : List ℕ) → placed.token ≡ tokens.Word a → placed.token ≡ tokens.Word b → a ≡ b
same_word placed a b e f = let both : tokens.Word a ≡ tokens.Word b = sym e ∙ f in cc

pub else_leads_none : (placed : Placed) (lead : Lead) → IsElse placed → IsLead lead placed → ⊥
else_leads_none placed lead (word, e, is) (other, f, says) =
    let none : lead_of other ≡ None = ap lead_of (sym (same_word placed word other e f) ∙ else_word word is) in
    let both : Some lead ≡ None = sym says ∙ none in
    cc

pub end_leads_none : (placed : Placed) (lead : Lead) → IsEnd placed → IsLead lead placed → ⊥
end_leads_none placed lead (word, e, is) (other, f, says) =
    let none : lead_of other ≡ None = ap lead_of (sym (same_word placed word other e f) ∙ end_word word is) in
    let both : Some lead ≡ None = sym says ∙ none in
    cc

pub else_is_not_end : (placed : Placed) → IsElse placed → IsEnd placed → ⊥
else_is_not_end placed (word, e, is) (other, f, says) =
    let none : is_end other ≡ false = ap is_end (sym (same_word placed word other e f) ∙ else_word word is) in
    let both : true ≡ false = sym says ∙ none in
    cc

pub one_lead : (placed : Placed) (a b : Lead) → IsLead a placed → IsLead b placed → a ≡ b
one_lead placed a b (word, e, is) (other, f, says) =
    let both : Some a ≡ Some b = sym is ∙ ap lead_of (same_word placed word other e f) ∙ says in
    cc

pub else_is_no_keyword : (placed : Placed) (keyword : Keyword) → IsElse placed → IsKeyword keyword placed.token → ⊥
else_is_no_keyword placed keyword (word, e, is) (other, f, says) =
    let none : keyword_of other ≡ None = ap keyword_of (sym (same_word placed word other e f) ∙ else_word word is) in
    let both : Some keyword ≡ None = sym says ∙ none in
    cc

pub end_is_no_keyword : (placed : Placed) (keyword : Keyword) → IsEnd placed → IsKeyword keyword placed.token → ⊥
end_is_no_keyword placed keyword (word, e, is) (other, f, says) =
    let none : keyword_of other ≡ None = ap keyword_of (sym (same_word placed word other e f) ∙ end_word word is) in
    let both : Some keyword ≡ None = sym says ∙ none in
    cc
