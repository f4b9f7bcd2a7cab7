-- Names that are kept as their characters are.
use Rattle.std.proofs.Common.{MatchBool, All, true, ◌≡◌, ℕ, ◌-◌, ◌<◌, Bool, false, IsTrue, ◌↔◌, List, length, replicate, refl, sym, ap, subst, ◌∙◌, arith}
use Rattle.std.specs.Char.{to_ascii_uppercase}
use Rattle.std.specs.List.{AllWithin, HoldsAt}
use Rattle.std.proofs.lemmas.Bool.{false≢true}
use Rattle.std.proofs.lemmas.Iterator.Search.{true_from_All}
use Rattle.std.proofs.lemmas.List.{length-map, take_at}
use Rattle.std.proofs.lemmas.List.Elements.{All-from_all_within}
use Rattle.dsn_filter.specs.declared.dsn.Dsn.{Dsn}
use Rattle.dsn_filter.specs.declared.fault.NameFault.{NameFault}
use Rattle.dsn_filter.specs.declared.fault.NameFault.TheVariants.{BadName, BadPattern, NoMemory}
use Rattle.dsn_filter.specs.declared.qualifier.Qualifier.{Qualifier}
use Rattle.dsn_filter.specs.Text.{capitals}
use Rattle.dsn_filter.specs.Qualifier.{IsQualifier}
use Rattle.dsn_filter.specs.Dsn.{text_of, dsn_of, IsNameText, IsDsn}
use Rattle.dsn_filter.specs.OneQualifier.{IsQualifierText, word_of, qualifier_of}
use Rattle.dsn_filter.specs.NameFault.{IsNameFault, IsQualifierFault}
use Rattle.dsn_filter.specs.Rename.{IsPrefix}
use Rattle.dsn_filter.proofs.Named.{text_is, same_text}
use Rattle.dsn_filter.proofs.Renamed.{prefix_is, prefix_lawful}
use Rattle.dsn_filter.proofs.OneReading.{one_name}
use Rattle.vtoc_core.proofs.Spelled.{no_text}

-- ---- capitals stay

-- ---- a name

name_text : (name : Dsn) → IsDsn name → IsNameText (text_of name)
name_text name (text, (spelled, h), is) =
    let at : text_of name ≡ capitals text = text_is name text is in (
      spelled,
      record {
        each = h.each;
        some = h.some;
        short = omega (arith, h.short, ap length at, length-map text to_ascii_uppercase);
        joins = same_text name (text, (spelled, h), is) ∙ at ∙ h.joins;
      },
    )

-- what is read of a name's characters is it
read_again : (name read : Dsn) → IsDsn name → read ≡ dsn_of (text_of name) → read ≡ name
read_again name read is at =
    let right : IsDsn read = (text_of name, name_text name is, at) in
    one_name read name right is (text_is read (text_of name) at ∙ same_text name is)

pub other_is_none : (name : Dsn) (text : List ℕ) (fault : NameFault) → text ≡ text_of name → IsNameFault text fault → IsTrue false ↔ IsDsn name
other_is_none name text fault at h =
    (λ h. absurd (false≢true h), λ is. absurd (no_text text fault h (subst IsNameText (sym at) (name_text name is))))

pub read_is_name : (name read : Dsn) (text : List ℕ) (same : Bool) → text ≡ text_of name → IsNameText text → read ≡ dsn_of text → IsTrue same ↔ (read ≡ name) → IsTrue same ↔ IsDsn name
read_is_name name read text same at right is says = (
  λ h. (text, right, sym (says.0 h) ∙ is),
  λ kept. says.1 (read_again name read kept (is ∙ ap dsn_of at)),
)

-- ---- a prefix

prefix_text : (name : Dsn) → IsPrefix name → IsQualifierText (text_of name)
prefix_text name prefix = subst IsQualifier (sym (same_text name (prefix_lawful name prefix))) (prefix_is name prefix)

no_word : (text : List ℕ) (fault : NameFault) → IsQualifierFault text fault → ¬ IsQualifierText text
no_word text (BadName place) h = h.wrong
no_word text (BadPattern place) h = absurd h
no_word text NoMemory h = absurd h

pub other_is_no_prefix : (name : Dsn) (text : List ℕ) (fault : NameFault) → text ≡ text_of name → IsQualifierFault text fault → IsTrue false ↔ IsPrefix name
other_is_no_prefix name text fault at h =
    (λ h. absurd (false≢true h), λ is. absurd (no_word text fault h (subst IsQualifierText (sym at) (prefix_text name is))))

word_text : (text : List ℕ) (word : Qualifier) → word ≡ qualifier_of text → word_of word ≡ capitals text
word_text text word is = ap word_of is ∙ take_at (capitals text) (replicate (8 - length text) 0) (length text) (length-map text to_ascii_uppercase)

pub read_is_prefix : (name made : Dsn) (text : List ℕ) (word : Qualifier) (same : Bool) → text ≡ text_of name → word ≡ qualifier_of text
    → IsPrefix made → text_of made ≡ word_of word → IsTrue same ↔ (made ≡ name) → IsTrue same ↔ IsPrefix name
read_is_prefix name made text word same at is prefix made-is says = (
  λ h. subst IsPrefix (says.0 h) prefix,
  λ kept.
      let lawful : IsDsn name = prefix_lawful name kept in
      says.1 (one_name made name (prefix_lawful made prefix) lawful (made-is ∙ word_text text word is ∙ ap capitals at ∙ same_text name lawful)),
)

-- ---- the names of pairs

-- what `all` answers of a list, where its closure decides each element
pub all_decided : {X : Type 0} (P : X → Type 0) (r : Bool) (xs : List X) → MatchBool r (AllWithin P xs 0 (length xs)) ((k : ℕ) × (k < length xs) × HoldsAt (λ x. ¬ P x) xs k)
    → IsTrue r ↔ All P xs
all_decided P true xs m = (λ _. All-from_all_within P xs m, λ _. refl)
all_decided P false xs m = (λ h. absurd (false≢true h), λ all. true_from_All P (λ x. ¬ P x) false xs (λ x p n. n p) m all)
