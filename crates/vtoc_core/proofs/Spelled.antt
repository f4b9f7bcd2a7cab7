-- Names in the code page: the name that 44 bytes are, and bytes that are none.
use Rattle.std.proofs.Common.{◌≡◌, ◌≢◌, inl, inr, ℕ, ◌+◌, ◌-◌, ◌<◌, ◌≤◌, List, [], ◌∷◌, ◌++◌, length, take, replicate, get_or, Option, Some, sym, ap, subst, ◌∙◌, arith, below_more, get_or-set_other, get_or-set_same, Result, Ok, Err}
use Rattle.std.specs.Prelude.{IfOk, IfErr, IfSome, IfNone}
use Rattle.std.specs.Result.{result_ok}
use Rattle.std.specs.Char.{to_ascii_uppercase}
use Rattle.std.specs.List.{AllByRecursion}
use Rattle.std.proofs.Math.ListN.{set}
use Rattle.std.proofs.lemmas.Bool.{cases_lt}
use Rattle.std.proofs.lemmas.Bool.Decides.{nat_tests}
use Rattle.std.proofs.lemmas.Grind.{same_number_lists}
use Rattle.std.proofs.lemmas.List.{length-take-le, length-map, get_or-take, get_or-map, get_or_append_left}
use Rattle.std.proofs.lemmas.List.Elements.{recursion_from_All, All-from_recursion, All-weaker, All-get_or}
use Rattle.std.proofs.lemmas.Str.Ascii.{uppercase_is}
use Rattle.dsn_filter.specs.declared.dsn.Dsn.{Dsn}
use Rattle.dsn_filter.specs.declared.fault.NameFault.{NameFault}
use Rattle.dsn_filter.specs.declared.fault.NameFault.TheVariants.{BadName, BadPattern, NoMemory}
use Rattle.dsn_filter.specs.Dsn.{dsn_of, IsNameText, IsDsn}
use Rattle.dsn_filter.specs.NameFault.{IsNameFault}
use Rattle.dsn_filter.specs.Qualifier.{IsLetter, IsInner, IsQualifier}
use Rattle.dsn_filter.specs.Text.{capitals, dotted}
use Rattle.dsn_filter.proofs.Named.{capitals_again}
use Rattle.vol_label.specs.CodePage.{ascii_of}
use Rattle.volume_model.specs.Pinned.{IsNameOf}

-- ---- characters of names

abbrev pub IsNoBlank : ℕ → Type 0
IsNoBlank b = b ≢ 32

letter_is_no_blank : (b : ℕ) → IsLetter b → IsNoBlank b
letter_is_no_blank b h e = omega arith

inner_is_no_blank : (b : ℕ) → IsInner b → IsNoBlank b
inner_is_no_blank b h e = omega arith

qualifier_plain : (q : List ℕ) → IsQualifier q → AllByRecursion IsNoBlank q
qualifier_plain [] h = absurd h
qualifier_plain (c ∷ r) h = (letter_is_no_blank c h.0, recursion_from_All IsNoBlank r (All-weaker IsInner IsNoBlank inner_is_no_blank r h.1))

both_plain : (xs ys : List ℕ) → AllByRecursion IsNoBlank xs → AllByRecursion IsNoBlank ys → AllByRecursion IsNoBlank (xs ++ ys)
both_plain [] ys h k = k
both_plain (x ∷ xs) ys h k = (h.0, both_plain xs ys h.1 k)

joined_plain : (qs : List (List ℕ)) → AllByRecursion IsQualifier qs → AllByRecursion IsNoBlank (dotted qs)
joined_plain [] h = tt
joined_plain (q ∷ []) h = qualifier_plain q h.0
joined_plain (q ∷ r ∷ rs) h = both_plain q (46 ∷ dotted (r ∷ rs)) (qualifier_plain q h.0) (λ e. absurd (omega arith), joined_plain (r ∷ rs) h.1)

name_plain : (text : List ℕ) → IsNameText text → (k : ℕ) → k < length text → IsNoBlank (get_or (capitals text) k 0)
name_plain text name k lt =
    let all = joined_plain name.0 (recursion_from_All IsQualifier name.0 name.1.each) in
    let here : AllByRecursion IsNoBlank (capitals text) = subst (AllByRecursion IsNoBlank) (sym name.1.joins) all in
    All-get_or IsNoBlank (capitals text) k 0 (omega (arith, lt, length-map text to_ascii_uppercase)) (All-from_recursion IsNoBlank (capitals text) here)

-- the code page has no small letters
never_small : (b c : ℕ) → ascii_of b ≡ Some c → c < 97
never_small b c is = grind (arith, nat_tests)

stays_capital : (b c : ℕ) → ascii_of b ≡ Some c → to_ascii_uppercase c ≡ c
stays_capital b c is = (uppercase_is c).1 (never_small b c is)

capitals_name : (text : List ℕ) → IsNameText text → IsNameText (capitals text)
capitals_name text name = (
  name.0,
  record {
    each = name.1.each;
    some = name.1.some;
    short = omega (arith, name.1.short, length-map text to_ascii_uppercase);
    joins = capitals_again text ∙ name.1.joins;
  },
)

abbrev pub AreCharacters : List ℕ → List ℕ → ℕ → Type 0
AreCharacters name text len = (k : ℕ) → k < len → ascii_of (get_or name k 0) ≡ Some (get_or text k 0)

abbrev pub AreBlanks : List ℕ → ℕ → Type 0
AreBlanks name len = (k : ℕ) → len ≤ k → k < 44 → get_or name k 0 ≡ 0x40

-- the text that is kept begins with capitals
kept_character : (text : List ℕ) (k : ℕ) → k < length text → get_or (dsn_of text).text k 0 ≡ get_or (capitals text) k 0
kept_character text k lt = get_or_append_left (capitals text) (replicate (44 - length text) 0) 0 k (omega (arith, lt, length-map text to_ascii_uppercase))

-- ---- a name that is read

module _ (name text : List ℕ) (len : ℕ) (long : length name ≡ 44) (long_text : length text ≡ 44) (within : len ≤ 44) (characters : AreCharacters name text len) (blanks : AreBlanks name len) where
  front_len : length (take len text) ≡ len
  front_len = length-take-le len text (omega (arith, within, long_text))

  front_at : (k : ℕ) → k < len → get_or (capitals (take len text)) k 0 ≡ get_or text k 0
  front_at k lt =
      get_or-map to_ascii_uppercase (take len text) k 0 0 (omega (arith, lt, front_len)) ∙ ap to_ascii_uppercase (get_or-take len text k 0 lt)
      ∙ stays_capital (get_or name k 0) (get_or text k 0) (characters k lt)

  pub is_name : (dsn : Dsn) → dsn ≡ dsn_of (take len text) → IsNameOf dsn name
  is_name dsn is = subst (λ (d : Dsn). IsNameOf d name) (sym is) (record {
    long = long;
    characters = λ k lt.
        let less : k < len = omega (arith, lt, front_len) in
        characters k less ∙ ap Some (sym (kept_character (take len text) k lt ∙ front_at k less));
    blanks = λ k from to. blanks k (omega (arith, from, front_len)) to;
  })

-- ---- bytes that are no name

-- the bytes are the name that is kept of a text
module _ (name text : List ℕ) (spelled : IsNameText text) (dsn : Dsn) (is : dsn ≡ dsn_of text) (named : IsNameOf dsn name) where
  long_is : dsn.len ≡ length text
  long_is = ap (λ (d : Dsn). d.len) is

  own_characters : AreCharacters name (capitals text) (length text)
  own_characters k lt =
      named.characters k (omega (arith, lt, long_is))
      ∙ ap Some (ap (λ (d : Dsn). get_or d.text k 0) is ∙ kept_character text k lt)

  own_blanks : AreBlanks name (length text)
  own_blanks k from to = named.blanks k (omega (arith, from, long_is)) to

  -- the blanks begin where the name ends
  pub same_len : (len : ℕ) → len ≤ 44 → AreBlanks name len → (0 < len → get_or name (len - 1) 0 ≢ 0x40) → len ≡ length text
  same_len len within blanks last =
      elim (cases_lt len (length text)) [
        | inl less ↦
            let blank : get_or name len 0 ≡ 0x40 = blanks len (omega arith) (omega (arith, less, spelled.1.short)) in
            let both : Some 32 ≡ Some (get_or (capitals text) len 0) = sym (ap ascii_of blank) ∙ own_characters len less in
            let is_blank : get_or (capitals text) len 0 ≡ 32 = cc in
            absurd (name_plain text spelled len less is_blank)
        | inr from ↦ elim (cases_lt (length text) len) [
          | inl more ↦ absurd (last (omega arith) (own_blanks (len - 1) (omega arith) (omega arith)))
          | inr to ↦ omega (arith, from, to)
        ]
      ]

  pub reads : (read : List ℕ) → length read ≡ 44 → AreCharacters name read (length text) → IsNameText (take (length text) read)
  reads read long characters =
      subst IsNameText (sym same) (capitals_name text spelled)
    where
      front_is : length (take (length text) read) ≡ length text
      front_is = length-take-le (length text) read (omega (arith, long, spelled.1.short))

      one : (k : ℕ) → k < length text → get_or read k 0 ≡ get_or (capitals text) k 0
      one k lt = let both : Some (get_or read k 0) ≡ Some (get_or (capitals text) k 0) = sym (characters k lt) ∙ own_characters k lt in cc

      same : take (length text) read ≡ capitals text
      same =
          same_number_lists (take (length text) read) (capitals text) (front_is ∙ sym (length-map text to_ascii_uppercase))
          (λ k lt. let less : k < length text = omega (arith, lt, front_is) in get_or-take (length text) read k 0 less ∙ one k less)

pub no_text : (text : List ℕ) (fault : NameFault) → IsNameFault text fault → ¬ IsNameText text
no_text text (BadName place) h = h.wrong
no_text text (BadPattern place) h = absurd h
no_text text NoMemory h = absurd h

-- what is known of the length of a name
pub record IsLength (name : List ℕ) (len : ℕ) : Type 0 where
  pub within : len ≤ 44
  pub blanks : AreBlanks name len
  pub last : 0 < len → get_or name (len - 1) 0 ≢ 0x40

pub never_named : (name text : List ℕ) (len : ℕ) → IsLength name len → length text ≡ 44 → AreCharacters name text len → (fault : NameFault) → IsNameFault (take len text) fault
    → (dsn : Dsn) → IsDsn dsn → ¬ IsNameOf dsn name
never_named name text len h long characters fault refused dsn d named =
    let same = same_len name d.0 d.1 dsn d.2 named len h.within h.blanks h.last in
    let right = reads name d.0 d.1 dsn d.2 named text long (subst (AreCharacters name text) same characters) in
    no_text (take len text) fault refused (subst (λ (n : ℕ). IsNameText (take n text)) (sym same) right)

-- ---- what is read of a name

pub pushed_character : (name text : List ℕ) (place character : ℕ) → place < length text → AreCharacters name text place → ascii_of (get_or name place 0) ≡ Some character
    → AreCharacters name (set text place character) (place + 1)
pushed_character name text place character within before here =
    below_more _ _ (λ k lt. let other : k ≢ place = omega arith in rw get_or-set_other (before k lt)) (rw get_or-set_same here)

module _ (name text : List ℕ) (len : ℕ) (length_is : IsLength name len) (long : length name ≡ 44) (long_text : length text ≡ 44) (characters : AreCharacters name text len) where
  pub found_name : (read : Result Dsn NameFault) (found : Option Dsn) → found ≡ result_ok read → IfOk read (λ dsn. IsNameText (take len text) × (dsn ≡ dsn_of (take len text)))
      → IfSome found (λ dsn. IsDsn dsn × IsNameOf dsn name)
  found_name (Ok dsn) found is h =
      subst (λ (o : Option Dsn). IfSome o (λ dsn. IsDsn dsn × IsNameOf dsn name)) (sym is)
      ((take len text, h.0, h.1), is_name name text len long long_text length_is.within characters length_is.blanks dsn h.1)
  found_name (Err fault) found is h = subst (λ (o : Option Dsn). IfSome o (λ dsn. IsDsn dsn × IsNameOf dsn name)) (sym is) tt

  pub found_none : (read : Result Dsn NameFault) (found : Option Dsn) → found ≡ result_ok read → IfErr read (IsNameFault (take len text))
      → IfNone found ((dsn : Dsn) → IsDsn dsn → ¬ IsNameOf dsn name)
  found_none (Ok dsn) found is h = subst (λ (o : Option Dsn). IfNone o ((dsn : Dsn) → IsDsn dsn → ¬ IsNameOf dsn name)) (sym is) tt
  found_none (Err fault) found is h =
      subst (λ (o : Option Dsn). IfNone o ((dsn : Dsn) → IsDsn dsn → ¬ IsNameOf dsn name)) (sym is) (never_named name text len length_is long_text characters fault h)
