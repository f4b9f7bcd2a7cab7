-- What a line holds, and where it is wrong.
use Rattle.std.proofs.Common.{◌≡◌, ◌≢◌, ℕ, suc, ◌+◌, ◌-◌, ◌<◌, ◌≤◌, ◌⊎◌, inl, inr, Option, Some, None, Bor, Bool, cond, ltb, List, [], ◌∷◌, ◌++◌, length, take, drop, get_or, replicate, refl, sym, ap, subst, ◌∙◌, append_assoc, arith, length-append}
use Rattle.std.specs.Char.{to_ascii_uppercase}
use Rattle.std.specs.List.{AllByRecursion}
use Rattle.std.proofs.lemmas.Bool.{cases_lt, lt-ltb, le-ltb}
use Rattle.std.proofs.lemmas.List.{map-append, append-nil, length-map, take_at, take_all, take-append-le, take-append-drop, drop-map, get_or-map, get_or-take, get_or_append_left, length-take-le}
use Rattle.std.proofs.lemmas.List.Elements.{recursion_from_All, All-from_recursion}
use Rattle.ckd_image.proofs.OneText.{split_same}
use Rattle.dsn_filter.specs.declared.dsn.Dsn.{Dsn}
use Rattle.dsn_filter.specs.Text.{capitals, dotted, IsBegun, IsFirstWrong}
use Rattle.dsn_filter.specs.Qualifier.{IsInner, IsQualifier}
use Rattle.dsn_filter.specs.OneQualifier.{IsQualifierText}
use Rattle.dsn_filter.specs.Dsn.{text_of, dsn_of, IsNameText, IsDsn}
use Rattle.dsn_filter.proofs.Named.{text_is, capitals_again, same_text}
use Rattle.dsn_filter.proofs.OneReading.{one_name}
use Rattle.dsn_filter.proofs.Scanned.{first_wrong, ends_early}
use Rattle.enq_table.specs.declared.holder.Holder.{Holder}
use Rattle.enq_table.specs.declared.hold.Mode.{Mode}
use Rattle.enq_table.specs.declared.hold.Mode.TheVariants.{Shared, Exclusive}
use Rattle.enq_table.specs.declared.hold.Hold.{Hold}
use Rattle.enq_table.specs.Holder.{holder_text, holder_of, IsHolder}
use Rattle.enq_table.specs.HeldText.{mode_text, hold_text, IsHoldLine, IsLine}
use Rattle.enq_table.specs.Lines.{IsHoldTail, IsTail, IsCut}
use Rattle.enq_table.proofs.Marks.{Without, without_append, without_front, no_mark_within, same_word, before_mark}

-- ---- capitals

upper_is : (c : ℕ) → ((97 ≤ c) × (c < 123) × (to_ascii_uppercase c ≡ c - 32)) ⊎ (((c < 97) ⊎ (123 ≤ c)) × (to_ascii_uppercase c ≡ c))
upper_is c = elim (cases_lt c 97) [
  | inl low ↦ inr (inl low, ap (λ (t : Bool). cond t c (cond (ltb c 123) (c - 32) c)) (lt-ltb c 97 low))
  | inr high ↦ elim (cases_lt c 123) [
    | inl small ↦ inl (
      high,
      small,
      ap (λ (t : Bool). cond t c (cond (ltb c 123) (c - 32) c)) (le-ltb c 97 high) ∙ ap (λ (t : Bool). cond t (c - 32) c) (lt-ltb c 123 small),
    )
    | inr past ↦ inr (
      inr past,
      ap (λ (t : Bool). cond t c (cond (ltb c 123) (c - 32) c)) (le-ltb c 97 high) ∙ ap (λ (t : Bool). cond t (c - 32) c) (le-ltb c 123 past),
    )
  ]
]

upper_low : (c : ℕ) → c < 97 → to_ascii_uppercase c ≡ c
upper_low c low = ap (λ (t : Bool). cond t c (cond (ltb c 123) (c - 32) c)) (lt-ltb c 97 low)

upper_twice : (c : ℕ) → to_ascii_uppercase (to_ascii_uppercase c) ≡ to_ascii_uppercase c
upper_twice c = elim (upper_is c) [
  | inl (high, small, is) ↦ ap to_ascii_uppercase is ∙ upper_low (c - 32) (omega arith) ∙ sym is
  | inr (other, is) ↦ ap to_ascii_uppercase is
]

upper_blank : (c : ℕ) → to_ascii_uppercase c ≡ 32 → c ≡ 32
upper_blank c e = elim (upper_is c) [
  | inl (high, small, is) ↦ absurd (omega (arith, high, small, is, e))
  | inr (other, is) ↦ sym is ∙ e
]

capital_blankless : (t : List ℕ) → Without 32 t → Without 32 (capitals t)
capital_blankless [] h = tt
capital_blankless (c ∷ t) h = (λ e. h.0 (upper_blank c e), capital_blankless t h.1)

-- ---- names and holders as texts

inner_blankless : (r : List ℕ) → AllByRecursion IsInner r → Without 32 r
inner_blankless [] h = tt
inner_blankless (c ∷ r) h = (let inner = h.0 in λ e. omega (arith, inner, e), inner_blankless r h.1)

qualifier_blankless : (q : List ℕ) → IsQualifier q → Without 32 q
qualifier_blankless [] h = absurd h
qualifier_blankless (c ∷ r) h = (let letter = h.0 in λ e. omega (arith, letter, e), inner_blankless r (recursion_from_All IsInner r h.1))

joined_blankless : (qs : List (List ℕ)) → AllByRecursion IsQualifier qs → Without 32 (dotted qs)
joined_blankless [] h = tt
joined_blankless (x ∷ []) h = qualifier_blankless x h.0
joined_blankless (x ∷ y ∷ ys) h = without_append 32 x (46 ∷ dotted (y ∷ ys)) (qualifier_blankless x h.0) (λ e. absurd (omega arith), joined_blankless (y ∷ ys) h.1)

name_blankless : (name : Dsn) → IsDsn name → Without 32 (text_of name)
name_blankless name (spelling, (spelled, h), is) =
    subst (λ (t : List ℕ). Without 32 t) (sym (text_is name spelling is ∙ h.joins)) (joined_blankless spelled (recursion_from_All IsQualifier spelled h.each))

name_is_text : (name : Dsn) (t : List ℕ) → IsDsn name → capitals t ≡ text_of name → IsNameText t
name_is_text name t (spelling, (spelled, h), is) e =
    let same : capitals t ≡ capitals spelling = e ∙ text_is name spelling is in (
      spelled,
      record {
        each = h.each;
        some = h.some;
        short = omega (arith, h.short, ap length same, length-map t to_ascii_uppercase, length-map spelling to_ascii_uppercase);
        joins = same ∙ h.joins;
      },
    )

holder_kept_text : (t : List ℕ) → holder_text (holder_of t) ≡ capitals t
holder_kept_text t = take_at (capitals t) (replicate (8 - length t) 0) (length t) (length-map t to_ascii_uppercase)

holder_is_text : (holder : Holder) (t : List ℕ) → IsHolder holder → capitals t ≡ holder_text holder → IsQualifierText t
holder_is_text holder t (text, right, is) e = subst IsQualifier (sym (e ∙ ap holder_text is ∙ holder_kept_text text)) right

one_holder : (a b : Holder) → IsHolder a → IsHolder b → holder_text a ≡ holder_text b → a ≡ b
one_holder a b (s, h, is) (t, k, at) e =
    let same : capitals s ≡ capitals t = sym (ap holder_text is ∙ holder_kept_text s) ∙ e ∙ ap holder_text at ∙ holder_kept_text t in
    let len : length s ≡ length t = sym (length-map s to_ascii_uppercase) ∙ ap length same ∙ length-map t to_ascii_uppercase in
    let body : (holder_of s).text ≡ (holder_of t).text = ap (λ (u : List ℕ). u ++ replicate (8 - length s) 0) same ∙ ap (λ (n : ℕ). capitals t ++ replicate (8 - n) 0) len in
    let first : holder_of s ≡ record { len = length t; text = (holder_of s).text } = ap (λ (n : ℕ). record { len = n; text = (holder_of s).text }) len in
    is ∙ first ∙ ap (λ (u : List ℕ). record { len = length t; text = u }) body ∙ sym at

-- ---- behind a mode: name, blank and holder

pub tail_spelled : (mode : Mode) (word rest : List ℕ) (name : Dsn) (holder : Holder) → IsNameText word → name ≡ dsn_of word → IsQualifierText rest → holder ≡ holder_of rest
    → IsHoldTail (word ++ (32 ∷ rest)) (record { name = name; mode = mode; holder = holder })
tail_spelled mode word rest name holder h name-is k holder-is = record {
  lawful = ((word, h, name-is), (rest, k, holder-is));
  spells =
      map-append to_ascii_uppercase word (32 ∷ rest)
      ∙ ap (λ (t : List ℕ). t ++ (32 ∷ capitals rest)) (sym (text_is name word name-is))
      ∙ ap (λ (t : List ℕ). text_of name ++ (32 ∷ t)) (sym (ap holder_text holder-is ∙ holder_kept_text rest));
}

is_tail : (word rest : List ℕ) → IsNameText word → IsQualifierText rest → IsTail (word ++ (32 ∷ rest))
is_tail word rest h k = (record { name = dsn_of word; mode = Shared; holder = holder_of rest }, tail_spelled Shared word rest (dsn_of word) (holder_of rest) h refl k refl)

-- the letter A is a qualifier
letter_a : IsQualifierText (65 ∷ [])
letter_a = (inl (omega arith, omega arith), (λ k d lt. absurd (omega arith)), omega arith)

name_more : (u : List ℕ) → IsBegun IsNameText u → IsBegun IsTail u
name_more u (more, h) = (more ++ (32 ∷ 65 ∷ []), subst IsTail (append_assoc u more (32 ∷ 65 ∷ [])) (is_tail (u ++ more) (65 ∷ []) h letter_a))

-- what begins a name and a holder begins a name, before the blank
tail_name : (u more : List ℕ) → Without 32 u → IsTail (u ++ more) → IsBegun IsNameText u
tail_name u more clean (hold, h) =
    let name : List ℕ = text_of hold.name in
    let whole : capitals u ++ capitals more ≡ name ++ (32 ∷ holder_text hold.holder) = sym (map-append to_ascii_uppercase u more) ∙ h.spells in
    let found = before_mark 32 (capitals u) name (capitals more) (holder_text hold.holder) (capital_blankless u clean) whole in
    let rest : List ℕ = found.0 in
    let name-is : name ≡ capitals u ++ rest = found.1 in
    let twice : capitals u ++ capitals rest ≡ capitals u ++ rest =
    ap (λ (t : List ℕ). t ++ capitals rest) (sym (capitals_again u)) ∙ sym (map-append to_ascii_uppercase (capitals u) rest) ∙ ap capitals (sym name-is)
    ∙ same_text hold.name h.lawful.0 ∙ name-is in
    (rest, name_is_text hold.name (u ++ rest) h.lawful.0 (map-append to_ascii_uppercase u rest ∙ twice ∙ sym name-is))

tail_parts : (u more : List ℕ) → Without 32 u → IsTail (u ++ (32 ∷ more)) → IsNameText u × IsQualifierText more
tail_parts u more clean (hold, h) =
    let whole : capitals u ++ (32 ∷ capitals more) ≡ text_of hold.name ++ (32 ∷ holder_text hold.holder) = sym (map-append to_ascii_uppercase u (32 ∷ more)) ∙ h.spells in
    let same = same_word 32 (capitals u) (text_of hold.name) (capitals more) (holder_text hold.holder) (capital_blankless u clean) (name_blankless hold.name h.lawful.0) whole in
    (name_is_text hold.name u h.lawful.0 same.0, holder_is_text hold.holder more h.lawful.1 same.1)

no_blank_no_tail : (u : List ℕ) → Without 32 u → IsTail u → ⊥
no_blank_no_tail u clean (hold, h) = no_mark_within 32 (text_of hold.name) (holder_text hold.holder) (subst (λ (t : List ℕ). Without 32 t) h.spells (capital_blankless u clean))

-- ---- the place at which it is wrong

take_past : (front x : List ℕ) (p : ℕ) → take (length front + p) (front ++ x) ≡ front ++ take p x
take_past [] x p = ap (λ (n : ℕ). take n x) (let e : length {A = ℕ} [] + p ≡ p = omega arith in e)
take_past (b ∷ front) x p =
    ap (λ (n : ℕ). take n (b ∷ (front ++ x))) (let e : length (b ∷ front) + p ≡ suc (length front + p) = omega arith in e) ∙ ap (λ (t : List ℕ). b ∷ t) (take_past front x p)

-- behind a front, what is right is so by what stands behind
shifted : (IsRight Behind : List ℕ → Type 0) (front : List ℕ) → ((y : List ℕ) → IsRight (front ++ y) → Behind y) → ((y : List ℕ) → Behind y → IsRight (front ++ y))
    → (x : List ℕ) (p : ℕ) → IsFirstWrong Behind x p → IsFirstWrong IsRight (front ++ x) (length front + p)
shifted IsRight Behind front down up x p h = record {
  wrong = λ right. h.wrong (down x right);
  within = omega (arith, h.within, length-append front x);
  begun =
      let more : List ℕ = h.begun.0 in
      (more, subst IsRight (sym (ap (λ (t : List ℕ). t ++ more) (take_past front x p) ∙ append_assoc front (take p x) more)) (up (take p x ++ more) h.begun.1));
  ends = λ lt begun.
      let more : List ℕ = begun.0 in
      let place : length front + p + 1 ≡ length front + (p + 1) = omega arith in
      let there : take (length front + p + 1) (front ++ x) ++ more ≡ front ++ (take (p + 1) x ++ more) =
      ap (λ (n : ℕ). take n (front ++ x) ++ more) place ∙ ap (λ (t : List ℕ). t ++ more) (take_past front x (p + 1)) ∙ append_assoc front (take (p + 1) x) more in
      h.ends (omega (arith, lt, length-append front x)) (more, down (take (p + 1) x ++ more) (subst IsRight there begun.1));
}

-- the name is wrong, and no blank stands before that
pub name_wrong : (word rest : List ℕ) (p : ℕ) → Without 32 word → (rest ≡ []) ⊎ ((more : List ℕ) × (rest ≡ 32 ∷ more)) → IsFirstWrong IsNameText word p → IsFirstWrong IsTail (word ++ rest) p
name_wrong word rest p clean way h = record {
  wrong = λ right. elim way [
    | inl none ↦ no_blank_no_tail word clean (subst IsTail (ap (λ (t : List ℕ). word ++ t) none ∙ append-nil word) right)
    | inr (more, is) ↦ h.wrong (tail_parts word more clean (subst (λ (t : List ℕ). IsTail (word ++ t)) is right)).0
  ];
  within = omega (arith, h.within, length-append word rest);
  begun = subst (λ (t : List ℕ). IsBegun IsTail t) (sym (take-append-le p word rest h.within)) (name_more (take p word) h.begun);
  ends = λ lt begun. elim (cases_lt p (length word)) [
    | inl within ↦
        let here : take (p + 1) (word ++ rest) ≡ take (p + 1) word = take-append-le (p + 1) word rest (omega arith) in
        let split : take (p + 1) word ++ drop (p + 1) word ≡ word = take-append-drop (p + 1) word in
        h.ends within (tail_name (take (p + 1) word) begun.0 (without_front 32 (take (p + 1) word) (drop (p + 1) word) (subst (λ (t : List ℕ). Without 32 t) (sym split) clean))
        (subst (λ (t : List ℕ). IsTail (t ++ begun.0)) here begun.1))
    | inr past ↦
        let at : p ≡ length word = omega (arith, h.within, past) in
        elim way [
          | inl none ↦ omega (arith, lt, length-append word rest, ap length none, at)
          | inr (more, is) ↦
              let here : take (p + 1) (word ++ rest) ≡ word ++ (32 ∷ []) =
              ap (λ (t : List ℕ). take (p + 1) (word ++ t)) is ∙ ap (λ (n : ℕ). take (n + 1) (word ++ (32 ∷ more))) at ∙ take_past word (32 ∷ more) 1 in
              h.wrong (tail_parts word begun.0 clean
              (subst IsTail (ap (λ (t : List ℕ). t ++ begun.0) here ∙ append_assoc word (32 ∷ []) begun.0) begun.1)).0
        ]
  ];
}

-- a name alone ends early
pub name_ends : (word : List ℕ) → Without 32 word → IsNameText word → IsFirstWrong IsTail word (length word)
name_ends word clean h = ends_early IsTail word (name_more word ([], subst IsNameText (sym (append-nil word)) h)) (no_blank_no_tail word clean)

pub cut_wrong : (text word : List ℕ) (behind : Option (Bor (List ℕ))) (p : ℕ) → IsCut text word behind → Without 32 word → IsFirstWrong IsNameText word p → IsFirstWrong IsTail text p
cut_wrong text word None p is clean h = subst (λ (t : List ℕ). IsFirstWrong IsTail t p) (append-nil word ∙ sym is) (name_wrong word [] p clean (inl refl) h)
cut_wrong text word (Some rest) p is clean h = subst (λ (t : List ℕ). IsFirstWrong IsTail t p) (sym is) (name_wrong word (32 ∷ rest.now) p clean (inr (rest.now, refl)) h)

-- the holder is wrong
pub holder_wrong : (word rest : List ℕ) (p : ℕ) → Without 32 word → IsNameText word → IsFirstWrong IsQualifierText rest p → IsFirstWrong IsTail (word ++ (32 ∷ rest)) (length word + 1 + p)
holder_wrong word rest p clean right h =
    let front : List ℕ = word ++ (32 ∷ []) in
    let moved = shifted IsTail IsQualifierText front
    (λ y tail. (tail_parts word y clean (subst IsTail (append_assoc word (32 ∷ []) y) tail)).1)
    (λ y holder. subst IsTail (sym (append_assoc word (32 ∷ []) y)) (is_tail word y right holder)) rest p h in
    subst (λ (t : List ℕ). IsFirstWrong IsTail t (length word + 1 + p)) (append_assoc word (32 ∷ []) rest)
    (subst (λ (n : ℕ). IsFirstWrong IsTail (front ++ rest) n) (let e : length front + p ≡ length word + 1 + p = omega (arith, length-append word (32 ∷ [])) in e) moved)

-- ---- the whole line

hold_parts : (hold : Hold) → hold_text hold ≡ (mode_text hold.mode ++ (32 ∷ [])) ++ (text_of hold.name ++ (32 ∷ holder_text hold.holder))
hold_parts hold = sym (append_assoc (mode_text hold.mode) (32 ∷ []) (text_of hold.name ++ (32 ∷ holder_text hold.holder)))

four : (mode : Mode) → length (mode_text mode ++ (32 ∷ [])) ≡ 4
four Shared = refl
four Exclusive = refl

pub line_tail : (front rest : List ℕ) (mode : Mode) → capitals front ≡ mode_text mode ++ (32 ∷ []) → IsLine (front ++ rest) → IsTail rest
line_tail front rest mode is (inl e) =
    let none : length (front ++ rest) ≡ 0 = ap length e in absurd (omega (arith, none, length-append front rest, ap length is, four mode, length-map front to_ascii_uppercase))
line_tail front rest mode is (inr (hold, h)) =
    let whole : capitals front ++ capitals rest ≡ (mode_text hold.mode ++ (32 ∷ [])) ++ (text_of hold.name ++ (32 ∷ holder_text hold.holder)) =
    sym (map-append to_ascii_uppercase front rest) ∙ h.spells ∙ hold_parts hold in
    let same = split_same (capitals front) (mode_text hold.mode ++ (32 ∷ [])) (capitals rest) (text_of hold.name ++ (32 ∷ holder_text hold.holder)) (ap length is ∙ four mode ∙ sym (four hold.mode)) whole in
    (hold, record { lawful = h.lawful; spells = same.1 })

pub tail_line : (front rest : List ℕ) (mode : Mode) (hold : Hold) → capitals front ≡ mode_text mode ++ (32 ∷ []) → hold.mode ≡ mode → IsHoldTail rest hold → IsHoldLine (front ++ rest) hold
tail_line front rest mode hold is same h = record {
  lawful = h.lawful;
  spells =
      map-append to_ascii_uppercase front rest ∙ ap (λ (t : List ℕ). t ++ capitals rest) is
      ∙ ap (λ (m : Mode). (mode_text m ++ (32 ∷ [])) ++ capitals rest) (sym same)
      ∙ ap (λ (t : List ℕ). (mode_text hold.mode ++ (32 ∷ [])) ++ t) h.spells ∙ sym (hold_parts hold);
}

with_mode : (mode : Mode) (rest : List ℕ) → IsTail rest → (hold : Hold) × IsHoldTail rest hold × (hold.mode ≡ mode)
with_mode mode rest (hold, h) = (record { name = hold.name; mode = mode; holder = hold.holder }, record { lawful = h.lawful; spells = h.spells }, refl)

tail_right : (front rest : List ℕ) (mode : Mode) → capitals front ≡ mode_text mode ++ (32 ∷ []) → IsTail rest → IsLine (front ++ rest)
tail_right front rest mode is tail = let found = with_mode mode rest tail in inr (found.0, tail_line front rest mode found.0 is found.2 found.1)

pub tail_wrong : (front rest : List ℕ) (mode : Mode) (p : ℕ) → capitals front ≡ mode_text mode ++ (32 ∷ []) → IsFirstWrong IsTail rest p → IsFirstWrong IsLine (front ++ rest) (4 + p)
tail_wrong front rest mode p is h =
    subst (λ (n : ℕ). IsFirstWrong IsLine (front ++ rest) (n + p)) (sym (length-map front to_ascii_uppercase) ∙ ap length is ∙ four mode)
    (shifted IsLine IsTail front (λ y line. line_tail front y mode is line) (λ y tail. tail_right front y mode is tail) rest p h)

word_capital : (mode : Mode) → capitals (mode_text mode ++ (32 ∷ [])) ≡ mode_text mode ++ (32 ∷ [])
word_capital Shared = refl
word_capital Exclusive = refl

-- the letter A is a name
name_a : IsNameText (65 ∷ [])
name_a = ((65 ∷ []) ∷ [], record { each = All-from_recursion IsQualifier ((65 ∷ []) ∷ []) (letter_a, tt); some = omega arith; short = omega arith; joins = refl })

a_tail : IsTail (65 ∷ 32 ∷ 65 ∷ [])
a_tail = is_tail (65 ∷ []) (65 ∷ []) name_a letter_a

-- a front of a mode goes on
mode_begun : (u : List ℕ) (mode : Mode) (k : ℕ) → capitals u ≡ take k (mode_text mode ++ (32 ∷ [])) → IsBegun IsLine u
mode_begun u mode k is =
    let word : List ℕ = mode_text mode ++ (32 ∷ []) in
    let more : List ℕ = drop k word in
    let kept : capitals word ≡ word = word_capital mode in
    let whole : capitals (u ++ more) ≡ word =
    map-append to_ascii_uppercase u more ∙ ap (λ (t : List ℕ). t ++ capitals more) is
    ∙ ap (λ (t : List ℕ). take k word ++ t) (sym (drop-map to_ascii_uppercase k word) ∙ ap (λ (t : List ℕ). drop k t) kept) ∙ take-append-drop k word in
    (more ++ (65 ∷ 32 ∷ 65 ∷ []), subst IsLine (append_assoc u more (65 ∷ 32 ∷ 65 ∷ [])) (tail_right (u ++ more) (65 ∷ 32 ∷ 65 ∷ []) mode whole a_tail))

no_line : (line : List ℕ) → 0 < length line → length line < 4 → IsLine line → ⊥
no_line line some few (inl e) = let none : length line ≡ 0 = ap length e in omega arith
no_line line some few (inr (hold, h)) =
    let tail : List ℕ = text_of hold.name ++ (32 ∷ holder_text hold.holder) in
    let whole : length (capitals line) ≡ length ((mode_text hold.mode ++ (32 ∷ [])) ++ tail) = ap length (h.spells ∙ hold_parts hold) in
    omega (arith, whole, length-map line to_ascii_uppercase, length-append (mode_text hold.mode ++ (32 ∷ [])) tail, four hold.mode)

pub empty_holds : (line : List ℕ) (hold : Hold) → line ≡ [] → IsHoldLine line hold → ⊥
empty_holds line hold e h =
    let tail : List ℕ = text_of hold.name ++ (32 ∷ holder_text hold.holder) in
    let whole : length (capitals line) ≡ length ((mode_text hold.mode ++ (32 ∷ [])) ++ tail) = ap length (h.spells ∙ hold_parts hold) in
    let none : length line ≡ 0 = ap length e in
    omega (arith, whole, none, length-map line to_ascii_uppercase, length-append (mode_text hold.mode ++ (32 ∷ [])) tail, four hold.mode)

-- a line that ends within its mode
pub mode_ends : (line : List ℕ) (mode : Mode) (right : ℕ) → 0 < length line → right < 4 → right ≡ length line → capitals (take right line) ≡ take right (mode_text mode ++ (32 ∷ [])) → IsFirstWrong IsLine line right
mode_ends line mode right some few at same =
    let all : take right line ≡ line = take_all right line (omega arith) in
    subst (λ (n : ℕ). IsFirstWrong IsLine line n) (sym at)
    (ends_early IsLine line (mode_begun line mode right (ap capitals (sym all) ∙ same)) (no_line line some (omega arith)))

-- the byte of a line at a place, where the line goes on
byte_at : (line more : List ℕ) (place i : ℕ) → place < length line → i ≤ place → get_or (capitals (take (place + 1) line ++ more)) i 0 ≡ to_ascii_uppercase (get_or line i 0)
byte_at line more place i lt le =
    let front : length (take (place + 1) line) ≡ place + 1 = length-take-le (place + 1) line (omega arith) in
    get_or-map to_ascii_uppercase (take (place + 1) line ++ more) i 0 0 (omega (arith, front, length-append (take (place + 1) line) more))
    ∙ ap to_ascii_uppercase (get_or_append_left (take (place + 1) line) more 0 i (omega (arith, front)) ∙ get_or-take (place + 1) line i 0 (omega arith))

-- the byte of a hold's text within its mode
mode_byte : (hold : Hold) (i : ℕ) → i < 4 → get_or (hold_text hold) i 0 ≡ get_or (mode_text hold.mode ++ (32 ∷ [])) i 0
mode_byte hold i lt =
    ap (λ (t : List ℕ). get_or t i 0) (hold_parts hold)
    ∙ get_or_append_left (mode_text hold.mode ++ (32 ∷ [])) (text_of hold.name ++ (32 ∷ holder_text hold.holder)) 0 i (omega (arith, four hold.mode))

one_mode : (a b : Mode) → get_or (mode_text a ++ (32 ∷ [])) 0 0 ≡ get_or (mode_text b ++ (32 ∷ [])) 0 0 → a ≡ b
one_mode Shared Shared e = refl
one_mode Shared Exclusive e = absurd (let other : 83 ≡ 69 = e in omega arith)
one_mode Exclusive Shared e = absurd (let other : 69 ≡ 83 = e in omega arith)
one_mode Exclusive Exclusive e = refl

-- where a byte isn't that of the mode, no line goes on
mode_stops : (line : List ℕ) (mode : Mode) (right : ℕ) → right < length line → right < 4 → to_ascii_uppercase (get_or line 0 0) ≡ get_or (mode_text mode ++ (32 ∷ [])) 0 0
    → to_ascii_uppercase (get_or line right 0) ≢ get_or (mode_text mode ++ (32 ∷ [])) right 0 → ¬ IsBegun IsLine (take (right + 1) line)
mode_stops line mode right lt few first other (more, inl e) =
    let none : length (take (right + 1) line ++ more) ≡ 0 = ap length e in
    omega (arith, none, length-append (take (right + 1) line) more, length-take-le (right + 1) line (omega arith))
mode_stops line mode right lt few first other (more, inr (hold, h)) =
    let at_first : to_ascii_uppercase (get_or line 0 0) ≡ get_or (mode_text hold.mode ++ (32 ∷ [])) 0 0 =
    sym (byte_at line more right 0 lt (omega arith)) ∙ ap (λ (t : List ℕ). get_or t 0 0) h.spells ∙ mode_byte hold 0 (omega arith) in
    let same : hold.mode ≡ mode = one_mode hold.mode mode (sym at_first ∙ first) in
    let here : to_ascii_uppercase (get_or line right 0) ≡ get_or (mode_text hold.mode ++ (32 ∷ [])) right 0 =
    sym (byte_at line more right right lt (omega arith)) ∙ ap (λ (t : List ℕ). get_or t right 0) h.spells ∙ mode_byte hold right few in
    other (here ∙ ap (λ (m : Mode). get_or (mode_text m ++ (32 ∷ [])) right 0) same)

pub mode_wrong : (line : List ℕ) (mode : Mode) (right : ℕ) → right < length line → right < 4 → to_ascii_uppercase (get_or line 0 0) ≡ get_or (mode_text mode ++ (32 ∷ [])) 0 0
    → capitals (take right line) ≡ take right (mode_text mode ++ (32 ∷ [])) → to_ascii_uppercase (get_or line right 0) ≢ get_or (mode_text mode ++ (32 ∷ [])) right 0 → IsFirstWrong IsLine line right
mode_wrong line mode right lt few first same other =
    first_wrong IsLine line right lt (mode_begun (take right line) mode right same) (mode_stops line mode right lt few first other)

pub mode_refused : (line word : List ℕ) (mode : Mode) (right : ℕ) → word ≡ mode_text mode ++ (32 ∷ []) → 0 < length line → right < 4 → right ≤ length line
    → to_ascii_uppercase (get_or line 0 0) ≡ get_or (mode_text mode ++ (32 ∷ [])) 0 0 → capitals (take right line) ≡ take right word
    → (right < length word → right < length line → to_ascii_uppercase (get_or line right 0) ≢ get_or word right 0) → IsFirstWrong IsLine line right
mode_refused line word mode right is some few le first same other = elim (cases_lt right (length line)) [
  | inl within ↦
      mode_wrong line mode right within few first (same ∙ ap (λ (t : List ℕ). take right t) is)
      (λ e. other (omega (arith, few, ap length is, four mode)) within (e ∙ ap (λ (t : List ℕ). get_or t right 0) (sym is)))
  | inr past ↦ mode_ends line mode right some few (let e : right ≡ length line = omega (arith, past, le) in e) (same ∙ ap (λ (t : List ℕ). take right t) is)
]

-- ---- a line holds one thing

pub one_hold : (line : List ℕ) (a b : Hold) → IsHoldLine line a → IsHoldLine line b → a ≡ b
one_hold line a b h k =
    let whole : (mode_text a.mode ++ (32 ∷ [])) ++ (text_of a.name ++ (32 ∷ holder_text a.holder)) ≡ (mode_text b.mode ++ (32 ∷ [])) ++ (text_of b.name ++ (32 ∷ holder_text b.holder)) =
    sym (hold_parts a) ∙ sym h.spells ∙ k.spells ∙ hold_parts b in
    let modes = split_same (mode_text a.mode ++ (32 ∷ [])) (mode_text b.mode ++ (32 ∷ [])) (text_of a.name ++ (32 ∷ holder_text a.holder)) (text_of b.name ++ (32 ∷ holder_text b.holder)) (four a.mode ∙ sym (four b.mode)) whole in
    let mode : a.mode ≡ b.mode = one_mode a.mode b.mode (ap (λ (t : List ℕ). get_or t 0 0) modes.0) in
    let parts = same_word 32 (text_of a.name) (text_of b.name) (holder_text a.holder) (holder_text b.holder) (name_blankless a.name h.lawful.0) (name_blankless b.name k.lawful.0) modes.1 in
    let name : a.name ≡ b.name = one_name a.name b.name h.lawful.0 k.lawful.0 parts.0 in
    let holder : a.holder ≡ b.holder = one_holder a.holder b.holder h.lawful.1 k.lawful.1 parts.1 in
    let first : a ≡ record { name = b.name; mode = a.mode; holder = a.holder } = ap (λ (n : Dsn). record { name = n; mode = a.mode; holder = a.holder }) name in
    let second : record { name = b.name; mode = a.mode; holder = a.holder } ≡ record { name = b.name; mode = b.mode; holder = a.holder } = ap (λ (m : Mode). record { name = b.name; mode = m; holder = a.holder }) mode in
    first ∙ second ∙ ap (λ (t : Holder). record { name = b.name; mode = b.mode; holder = t }) holder
