-- Words say one value at most, and some say one.
use Rattle.std.proofs.Common.{◌≡◌, inl, ℕ, List, [], ◌∷◌, refl, sym, ap, ◌∙◌, arith}
use Rattle.std.specs.Prelude.{codes}
use Rattle.std.proofs.lemmas.List.Elements.{All-from_recursion}
use Rattle.vol_label.specs.declared.serial.Serial.{Serial}
use Rattle.vol_label.proofs.OneLabel.{one_spelling}
use Rattle.dd_names.specs.declared.dd.DdName.{DdName}
use Rattle.dd_names.specs.DdName.{dd_name_of}
use Rattle.dsn_filter.specs.declared.dsn.Dsn.{Dsn}
use Rattle.dsn_filter.specs.Qualifier.{IsInner, IsPatternPart}
use Rattle.dsn_filter.proofs.Forms.{pattern_form}
use Rattle.dsn_filter.proofs.Named.{spelled_is}
use Rattle.sysin_values.specs.Values.{SaysSerial, SaysDdName, SaysPattern, SaysName, SaysPrefix, SaysNumber, most_entries, most_outputs}
use Rattle.sysin_values.proofs.WordLists.{IsSaid}

pub one_serial : (word : List ℕ) (x y : Serial) → SaysSerial word x → SaysSerial word y → x ≡ y
one_serial word x y a b = ap (λ (t : List ℕ). record { text = t }) (one_spelling word x.text y.text a.1 b.1)

pub one_dd_name : (word : List ℕ) (x y : DdName) → SaysDdName word x → SaysDdName word y → x ≡ y
one_dd_name word x y a b = a.1 ∙ sym b.1

pub one_name : (word : List ℕ) (x y : Dsn) → SaysName word x → SaysName word y → x ≡ y
one_name word x y a b = a.1 ∙ sym b.1

pub one_prefix : (word : List ℕ) (x y : Dsn) → SaysPrefix word x → SaysPrefix word y → x ≡ y
one_prefix word x y a b = a.1 ∙ sym b.1

pub one_pattern : (word : List ℕ) (x y : List (List ℕ)) → SaysPattern word x → SaysPattern word y → x ≡ y
one_pattern word x y a b = sym (spelled_is IsPatternPart pattern_form x word a) ∙ spelled_is IsPatternPart pattern_form y word b

pub one_number : (least most : ℕ) (word : List ℕ) (x y : ℕ) → SaysNumber least most word x → SaysNumber least most word y → x ≡ y
one_number least most word x y a b = cc

abbrev star : List ℕ
star = codes "**"

pub patterns_said : IsSaid SaysPattern most_entries
patterns_said = record {
  one = one_pattern;
  sample = star;
  value = star ∷ [];
  says = record { each = All-from_recursion IsPatternPart (star ∷ []) (inl refl, tt); some = omega arith; short = omega arith; joins = refl };
  some = omega arith;
}

abbrev a_word : List ℕ
a_word = codes "A"

pub outputs_said : IsSaid SaysDdName most_outputs
outputs_said = record {
  one = one_dd_name;
  sample = a_word;
  value = dd_name_of a_word;
  says = ((inl (omega arith, omega arith), All-from_recursion IsInner [] tt, omega arith), refl);
  some = omega arith;
}
