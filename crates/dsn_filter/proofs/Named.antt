-- Names and patterns as they are kept.
use Rattle.std.proofs.Common.{◌≡◌, ℕ, ◌+◌, ◌-◌, ◌*◌, ◌<◌, ◌≤◌, List, ◌++◌, length, take, replicate, All, sym, ap, subst, ◌∙◌, arith, [], ◌∷◌, refl}
use Rattle.std.specs.Char.{to_ascii_uppercase}
use Rattle.std.proofs.lemmas.List.{length-map, take_at}
use Rattle.std.proofs.lemmas.List.Elements.{recursion_from_All, All-weaker}
use Rattle.dsn_filter.specs.declared.dsn.Dsn.{Dsn}
use Rattle.dsn_filter.specs.Text.{capitals, dotted, qualifiers, IsSpelled, IsText}
use Rattle.dsn_filter.specs.Qualifier.{IsQualifier, IsPatternPart}
use Rattle.dsn_filter.specs.Dsn.{text_of, dsn_of, IsDsn}
use Rattle.dsn_filter.proofs.Joins.{Dotless, IsForm, some_bytes}
use Rattle.dsn_filter.proofs.Forms.{name_form, pattern_form, qualifier_short}
use Rattle.dsn_filter.proofs.Parts.{qualifiers_joined, few_joined}
use Rattle.std.proofs.lemmas.Str.Ascii.{uppercase-uppercase}

-- a text is read as what it spells
pub spelled_is : (Form : List ℕ → Type 0) → IsForm Form → (spelled : List (List ℕ)) (text : List ℕ) → IsSpelled Form spelled text → qualifiers (capitals text) ≡ spelled
spelled_is Form form spelled text h =
    ap qualifiers h.joins ∙ qualifiers_joined spelled (recursion_from_All Dotless spelled (All-weaker Form Dotless form.dotless spelled h.each)) h.some

pub kept_text : (text : List ℕ) → take (length text) (capitals text ++ replicate (44 - length text) 0) ≡ capitals text
kept_text text = take_at (capitals text) (replicate (44 - length text) 0) (length text) (length-map text to_ascii_uppercase)

pub pattern_spelled : (text capital : List ℕ) (len : ℕ) (parts : List (List ℕ)) → IsText IsPatternPart text → len ≡ length text → capital ≡ capitals text ++ replicate (44 - length text) 0
    → parts ≡ qualifiers (take len capital) → IsSpelled IsPatternPart parts text
pattern_spelled text capital len parts (spelled, h) is kept read =
    let all : take len capital ≡ capitals text = ap (λ (n : ℕ). take n capital) is ∙ ap (λ (t : List ℕ). take (length text) t) kept ∙ kept_text text in
    subst (λ (p : List (List ℕ)). IsSpelled IsPatternPart p text) (sym (read ∙ ap qualifiers all ∙ spelled_is IsPatternPart pattern_form spelled text h)) h

-- ---- a name

pub text_is : (name : Dsn) (text : List ℕ) → name ≡ dsn_of text → text_of name ≡ capitals text
text_is name text is = ap text_of is ∙ kept_text text

-- ---- capitals stay

pub capitals_again : (text : List ℕ) → capitals (capitals text) ≡ capitals text
capitals_again [] = refl
capitals_again (c ∷ text) =
    let first = uppercase-uppercase c in
    let rest = capitals_again text in cc

pub same_text : (name : Dsn) → IsDsn name → capitals (text_of name) ≡ text_of name
same_text name (text, right, is) = ap capitals (text_is name text is) ∙ capitals_again text ∙ sym (text_is name text is)

pub name_short : (name : Dsn) (text : List ℕ) → IsDsn name → text ≡ text_of name → All (λ (q : List ℕ). length q ≤ 8) (qualifiers text)
name_short name text (spelling, (spelled, h), is) at =
    let read : qualifiers text ≡ spelled = ap qualifiers (at ∙ text_is name spelling is) ∙ spelled_is IsQualifier name_form spelled spelling h in
    subst (λ (qs : List (List ℕ)). All (λ (q : List ℕ). length q ≤ 8) qs) (sym read) (All-weaker IsQualifier (λ (q : List ℕ). length q ≤ 8) qualifier_short spelled h.each)

pub name_few : (name : Dsn) (text : List ℕ) → IsDsn name → text ≡ text_of name → length (qualifiers text) ≤ 22
name_few name text (spelling, (spelled, h), is) at =
    let read : qualifiers text ≡ spelled = ap qualifiers (at ∙ text_is name spelling is) ∙ spelled_is IsQualifier name_form spelled spelling h in
    let len : length (capitals spelling) ≡ length (dotted spelled) = ap length h.joins in
    let few : 2 * length spelled ≤ length (dotted spelled) + 1 =
    few_joined spelled (recursion_from_All (λ (q : List ℕ). 0 < length q) spelled (All-weaker IsQualifier (λ (q : List ℕ). 0 < length q) (some_bytes IsQualifier name_form) spelled h.each)) in
    let same : length (qualifiers text) ≡ length spelled = ap length read in
    omega (arith, h.short, length-map spelling to_ascii_uppercase)
