-- The walk of `clap`'s over all words, and the options that they spell.
use Rattle.std.proofs.Common.{◌⊎◌, ◌≡◌, ◌≢◌, ℕ, Bool, true, false, List, [], ◌∷◌, ◌++◌, length, fold, All, Option, Some, None, sym, ap, subst, ◌∙◌, inl, inr, refl, codes, append-nil}
use Rattle.std.specs.Prelude.{slice_get, if◌then◌else◌}
use Rattle.std.specs.Str.{bytes_eq, chars}
use Rattle.std.proofs.lemmas.List.Elements.{All-head, All-tail}
use Rattle.std.proofs.lemmas.Slice.Eq.{bytes_eq-Decides}
use Rattle.clap.specs.Lexer.{long_of, short_of}
use Rattle.clap.specs.Kinds.{Kinds, or_else}
use Rattle.clap.specs.Walk.{Held, Row, Rule, Text, Walk, arg_by_long, plain, walked}
use Rattle.clap.specs.Simple.{Shape}
use Rattle.clap.specs.Faults.{bundle_step_fault, flag_word_fault, flags_fault, long_fault, settle_fault, stray_fault, turn_fault, walk_fault}
use Rattle.clap.specs.declared.error.kind.ErrorKind.{ErrorKind}
use Rattle.clap.specs.declared.error.kind.ErrorKind.TheVariants.{InvalidSubcommand, UnknownArgument}
use Rattle.clap.proofs.WalkLemmas.{bundle_ends}
use Rattle.clap.proofs.FaultLemmas.{fault_ends}
use Rattle.run_words.specs.Words.{spelling, IsValue, Spells}
use Rattle.run_words.specs.Grammar.{bare}
use Rattle.run_words.specs.declared.name.Name.{Name}
use Rattle.run_words.specs.declared.given.Given.{Given}
use Rattle.run_words.proofs.Hyphens.{long_word, some_flag, spelling_is, long_apart, long_joined, not_end, no_flag}
use Rattle.run_words.proofs.Steps.{HasOptions, Goes, put, rows_with, at_front, behind_name, goes_joined, goes_apart, goes_value, built_option}

abbrev pub put_given : List Row → Given → List Row
put_given rows given = put given.name given.value rows

abbrev pub AreValues : List Given → Type 0
AreValues options = All (λ given. IsValue given.value) options

pub or_first : (a b : Kinds) → or_else a b ≡ [] → a ≡ []
or_first [] b e = refl
or_first (k ∷ ks) b e = e

pub or_next : (a b : Kinds) → or_else a b ≡ [] → b ≡ []
or_next [] b e = e
or_next (k ∷ ks) b e = let f : k ∷ ks ≡ [] = e in absurd cc

some_kind : (k : ErrorKind) (ks : Kinds) → k ∷ ks ≡ [] → ⊥
some_kind k ks e = cc

module _ (s : Shape) (has : HasOptions s) where
  -- the walk ends before an option, and its rows have the options
  pub record Ends (walk : Walk) (words : List Text) (start : List Row) (options : List Given) : Type 0 where
    pub rows : List Row
    pub last : Option (Name × Text)
    pub walks : fold (walked s.rules []) walk words ≡ at_front rows last
    pub holds : rows_with rows last ≡ fold put_given start options

  -- one word more before the others
  fault_on : (walk after : Walk) (word : Text) (words : List Text) → Goes s has walk word after → walk_fault s [] walk (word ∷ words) ≡ walk_fault s [] after words
  unfolding walk_fault
  fault_on walk after word words goes = rw (goes.faultless, goes.next) refl

  ends_on : (walk after : Walk) (word : Text) (words : List Text) (start : List Row) (options : List Given) → Goes s has walk word after
      → Ends after words start options → Ends walk (word ∷ words) start options
  ends_on walk after word words start options goes ends = record {
    rows = ends.rows;
    last = ends.last;
    walks = ap (λ w. fold (walked s.rules []) w words) goes.next ∙ ends.walks;
    holds = ends.holds;
  }

  -- where an option is complete with it, or its name stands there
  ends_given : (walk after : Walk) (word : Text) (words : List Text) (start : List Row) (given : Given) (options : List Given) → Goes s has walk word after
      → Ends after words (put_given start given) options → Ends walk (word ∷ words) start (given ∷ options)
  ends_given walk after word words start given options goes ends = record {
    rows = ends.rows;
    last = ends.last;
    walks = ap (λ w. fold (walked s.rules []) w words) goes.next ∙ ends.walks;
    holds = ends.holds;
  }

  -- ---- words that spell options

  pub taken : (options : List Given) (words : List Text) (rows : List Row) (last : Option (Name × Text)) → Spells words options
      → (walk_fault s [] (at_front rows last) words ≡ []) × Ends (at_front rows last) words (rows_with rows last) options
  unfolding walk_fault
  taken [] words rows last none = subst (λ (ws : List Text). (walk_fault s [] (at_front rows last) ws ≡ []) × Ends (at_front rows last) ws (rows_with rows last) []) (sym none)
      (refl, record { rows = rows; last = last; walks = refl; holds = refl })
  taken (given ∷ more) words rows last (left, (value, inl e), rest) =
      let name = 45 ∷ 45 ∷ bare given.name in
      let free = no_flag given.value value in
      let end : bytes_eq name (codes "--") ≡ false = subst (λ (t : Text). bytes_eq (45 ∷ 45 ∷ t) (codes "--") ≡ false) (append-nil (bare given.name)) (not_end given.name []) in
      let one = goes_apart s has rows last given.name name end (long_apart given.name) in
      let two = goes_value s has (rows_with rows last) given.name given.value free.end free.long (λ flags is. absurd (not_short flags (sym free.short ∙ is))) in
      let on = taken more left (rows_with rows last) (Some (given.name, given.value)) rest in
      let are : words ≡ name ∷ given.value ∷ left = e ∙ ap (λ (t : Text). t ∷ given.value ∷ left) (spelling_is given.name) in
      subst (λ (ws : List Text). (walk_fault s [] (at_front rows last) ws ≡ []) × Ends (at_front rows last) ws (rows_with rows last) (given ∷ more)) (sym are) (
        fault_on _ _ name (given.value ∷ left) one ∙ fault_on _ _ given.value left two ∙ on.0,
        ends_given _ _ name (given.value ∷ left) _ given more one (ends_on _ _ given.value left _ _ two on.1),
      )
    where
      not_short : (flags : Text) → None ≡ Some flags → ⊥
      not_short flags e = cc
  taken (given ∷ more) words rows last (left, (value, inr e), rest) =
      let word = 45 ∷ 45 ∷ (bare given.name ++ 61 ∷ given.value) in
      let one = goes_joined s has rows last given.name given.value word (not_end given.name (61 ∷ given.value)) (long_joined given.name given.value) in
      let on = taken more left (put given.name given.value (rows_with rows last)) None rest in
      let are : words ≡ word ∷ left = e ∙ ap (λ (t : Text). (t ++ 61 ∷ given.value) ∷ left) (spelling_is given.name) in
      subst (λ (ws : List Text). (walk_fault s [] (at_front rows last) ws ≡ []) × Ends (at_front rows last) ws (rows_with rows last) (given ∷ more)) (sym are) (
        fault_on _ _ word left one ∙ on.0,
        ends_given _ _ word left _ given more one on.1,
      )

  -- ---- words that the walk takes

  -- no character is read as a flag, since no option has a short name
  no_flags : (again : Bool) (held : Held) (word flags : Text) → short_of word ≡ Some flags → flags_fault s.rules again (length flags) flags 0 held ≡ [] → None ≡ slice_get (chars flags) 0
  unfolding flags_fault
  no_flags again held word [] is e = absurd (some_flag word is)
  no_flags again held word (x ∷ xs) is e = go (slice_get (chars (x ∷ xs)) 0) e
    where
      go : (o : Option ℕ) → bundle_step_fault s.rules again o (x ∷ xs) 0 held (flags_fault s.rules again (length xs)) ≡ [] → None ≡ o
      go None e = refl
      go (Some y) e = absurd (some_kind _ _ (rw (has.no_short y) at e))

  stray : stray_fault s ≡ [] → ⊥
  stray e = go s.is_leaf e
    where
      go : (b : Bool) → (if b then UnknownArgument ∷ [] else UnknownArgument ∷ InvalidSubcommand ∷ []) ≡ [] → ⊥
      go true e = some_kind _ _ e
      go false e = some_kind _ _ e

  -- the word is a name, with its value or without
  abbrev BeginsOption : Text → Type 0
  BeginsOption word = ((name : Name) × (value : Text) × (long_of word ≡ Some (bare name, Some value))) ⊎ ((name : Name) × (long_of word ≡ Some (bare name, None)))

  begins : (rows : List Row) (last : Option (Name × Text)) (word : Text) → bytes_eq word (codes "--") ≡ false → turn_fault s [] (at_front rows last) word ≡ [] → BeginsOption word
  begins rows last word end e = first (long_of word) refl (or_first _ _ (rw end at e))
    where
      unread : (flags : Text) → long_of word ≡ None → short_of word ≡ Some flags → None ≡ slice_get (chars flags) 0 → ⊥
      unread flags is short none =
          let held = (at_front rows last).held in
          let nothing_met = bundle_ends s.rules (length flags) flags 0 plain held none in
          let no_fault = fault_ends s.rules s.args_override_self (length flags) flags 0 held none in
          stray (rw (end, is, short, ← nothing_met, ← no_fault, has.no_place) at e)

      plain_word : (o : Option Text) → long_of word ≡ None → short_of word ≡ o → flag_word_fault s.rules s.args_override_self None word (at_front rows last).held ≡ [] → ⊥
      plain_word None is short f = stray (rw (end, is, short, has.no_place) at e)
      plain_word (Some flags) is short f = unread flags is short (no_flags s.args_override_self (at_front rows last).held word flags short (rw short at f))

      named : (p : Text × Option Text) → (name : Name) → p.0 ≡ bare name → long_of word ≡ Some p → BeginsOption word
      named (text, None) name same is = inr (name, is ∙ ap (λ (t : Text). Some (t, None)) same)
      named (text, Some value) name same is = inl (name, value, is ∙ ap (λ (t : Text). Some (t, Some value)) same)

      second : (p : Text × Option Text) (o : Option Rule) → long_of word ≡ Some p → arg_by_long s.rules p.0 ≡ o
          → long_fault s.rules s.args_override_self o p.1 (at_front rows last).held ≡ [] → BeginsOption word
      second p None is by f = absurd (some_kind _ _ f)
      second p (Some a) is by f =
          let which = has.only p.0 a by in
          named p which.0 which.2 is

      first : (o : Option (Text × Option Text)) → long_of word ≡ o → flag_word_fault s.rules s.args_override_self o word (at_front rows last).held ≡ [] → BeginsOption word
      first None is f = absurd (plain_word (short_of word) is refl f)
      first (Some p) is f = second p (arg_by_long s.rules p.0) is refl f

  -- a name that still waits for its value can't be left
  waits : (rows : List Row) (name : Name) → settle_fault s.rules s.args_override_self (behind_name rows name).held ≡ [] → ⊥
  waits rows name e = some_kind _ _ (rw (has.by_id name) at e)

  -- a word behind a name is read as no flag
  is_value_word : (rows : List Row) (name : Name) (word : Text) → bytes_eq word (codes "--") ≡ false → turn_fault s [] (behind_name rows name) word ≡ []
      → (long_of word ≡ None) × ((flags : Text) → short_of word ≡ Some flags → None ≡ slice_get (chars flags) 0)
  is_value_word rows name word end e = first (long_of word) refl (or_first _ _ (rw end at e))
    where
      attached : (v : Option Text) (a : Rule) (n : Name) → a ≡ built_option n → long_fault s.rules s.args_override_self (Some a) v (behind_name rows name).held ≡ [] → ⊥
      attached None a n is f = waits rows name (rw is at f)
      attached (Some value) a n is f = waits rows name (or_first _ _ (rw is at f))

      second : (p : Text × Option Text) (o : Option Rule) → arg_by_long s.rules p.0 ≡ o → long_fault s.rules s.args_override_self o p.1 (behind_name rows name).held ≡ [] → ⊥
      second p None by f = some_kind _ _ f
      second p (Some a) by f =
          let which = has.only p.0 a by in
          attached p.1 a which.0 which.1 f

      first : (o : Option (Text × Option Text)) → long_of word ≡ o → flag_word_fault s.rules s.args_override_self o word (behind_name rows name).held ≡ []
          → (long_of word ≡ None) × ((flags : Text) → short_of word ≡ Some flags → None ≡ slice_get (chars flags) 0)
      first None is f = (is, λ flags short. no_flags s.args_override_self (behind_name rows name).held word flags short (rw short at f))
      first (Some p) is f = absurd (second p (arg_by_long s.rules p.0) refl f)

  abbrev pub settles_after : Walk → List Text → Type 0
  settles_after walk words = settle_fault s.rules s.args_override_self (fold (walked s.rules []) walk words).held ≡ []

  -- the options of words that were taken before an option
  record FromFront (rows : List Row) (last : Option (Name × Text)) (words : List Text) : Type 0 where
    options : List Given
    spells : AreValues options → Spells words options
    ends : Ends (at_front rows last) words (rows_with rows last) options

  -- and those of words that were taken behind a name
  record FromName (rows : List Row) (name : Name) (words : List Text) : Type 0 where
    value : Text
    left : List Text
    options : List Given
    are : words ≡ value ∷ left
    spells : AreValues options → Spells left options
    ends : Ends (behind_name rows name) words (put name value rows) options

  abbrev SpellAll : List Text → Type 0
  SpellAll words =
      ((rows : List Row) (last : Option (Name × Text)) → walk_fault s [] (at_front rows last) words ≡ [] → settles_after (at_front rows last) words → FromFront rows last words)
      × ((rows : List Row) (name : Name) → walk_fault s [] (behind_name rows name) words ≡ [] → settles_after (behind_name rows name) words → FromName rows name words)

  not_end_word : (word : Text) → word ≢ codes "--" → bytes_eq word (codes "--") ≡ false
  not_end_word word other = go (bytes_eq word (codes "--")) refl
    where
      go : (b : Bool) → bytes_eq word (codes "--") ≡ b → b ≡ false
      go true is = absurd (other ((bytes_eq-Decides word (codes "--")).0 is))
      go false is = refl

  module _ (word : Text) (rest : List Text) (no_end : bytes_eq word (codes "--") ≡ false) (tail : SpellAll rest) where
    settles_on : (walk after : Walk) → Goes s has walk word after → settles_after walk (word ∷ rest) → settles_after after rest
    settles_on walk after goes e = subst (λ (w : Walk). settle_fault s.rules s.args_override_self (fold (walked s.rules []) w rest).held ≡ []) goes.next e

    front : (rows : List Row) (last : Option (Name × Text)) → walk_fault s [] (at_front rows last) (word ∷ rest) ≡ [] → settles_after (at_front rows last) (word ∷ rest)
        → FromFront rows last (word ∷ rest)
    unfolding walk_fault
    front rows last fault settles = elim (begins rows last word no_end (or_first _ _ fault)) [
      | inl h ↦
          let goes = goes_joined s has rows last h.0 h.1 word no_end h.2 in
          let more = tail.0 (put h.0 h.1 (rows_with rows last)) None (sym (fault_on _ _ word rest goes) ∙ fault) (settles_on _ _ goes settles) in
          let one : Given = record { name = h.0; value = h.1 } in
          let spelled : word ≡ spelling h.0 ++ 61 ∷ h.1 = long_word word (bare h.0, Some h.1) h.2 ∙ sym (ap (λ (t : Text). t ++ 61 ∷ h.1) (spelling_is h.0)) in
          record {
            options = one ∷ more.options;
            spells = λ values. (
              rest,
              (All-head (λ (given : Given). IsValue given.value) one more.options values, inr (ap (λ (t : Text). t ∷ rest) spelled)),
              more.spells (All-tail (λ (given : Given). IsValue given.value) one more.options values),
            );
            ends = ends_given _ _ word rest _ one more.options goes more.ends;
          }
      | inr h ↦
          let goes = goes_apart s has rows last h.0 word no_end h.1 in
          let more = tail.1 (rows_with rows last) h.0 (sym (fault_on _ _ word rest goes) ∙ fault) (settles_on _ _ goes settles) in
          let one : Given = record { name = h.0; value = more.value } in
          let spelled : word ≡ spelling h.0 = long_word word (bare h.0, None) h.1 ∙ sym (spelling_is h.0) in
          record {
            options = one ∷ more.options;
            spells = λ values. (
              more.left,
              (All-head (λ (given : Given). IsValue given.value) one more.options values, inl (λ i. spelled i ∷ more.are i)),
              more.spells (All-tail (λ (given : Given). IsValue given.value) one more.options values),
            );
            ends = ends_given _ _ word rest _ one more.options goes more.ends;
          }
    ]

    behind : (rows : List Row) (name : Name) → walk_fault s [] (behind_name rows name) (word ∷ rest) ≡ [] → settles_after (behind_name rows name) (word ∷ rest) → FromName rows name (word ∷ rest)
    unfolding walk_fault
    behind rows name fault settles =
        let free = is_value_word rows name word no_end (or_first _ _ fault) in
        let goes = goes_value s has rows name word no_end free.0 free.1 in
        let more = tail.0 rows (Some (name, word)) (sym (fault_on _ _ word rest goes) ∙ fault) (settles_on _ _ goes settles) in
        record {
          value = word;
          left = rest;
          options = more.options;
          are = refl;
          spells = more.spells;
          ends = ends_on _ _ word rest _ _ goes more.ends;
        }

  spell_all : (words : List Text) → All (λ word. word ≢ codes "--") words → SpellAll words
  unfolding walk_fault
  spell_all [] ends = (
    λ rows last fault settles. record {
      options = [];
      spells = λ _. refl;
      ends = record { rows = rows; last = last; walks = refl; holds = refl };
    },
    λ rows name fault settles. absurd (waits rows name settles),
  )
  spell_all (word ∷ rest) ends =
      let no_end = not_end_word word (All-head (λ (w : Text). w ≢ codes "--") word rest ends) in
      let tail = spell_all rest (All-tail (λ (w : Text). w ≢ codes "--") word rest ends) in
      (front word rest no_end tail, behind word rest no_end tail)

  -- words that are taken with no fault, and without the end of options, spell some where these have values
  pub record Spelled (words : List Text) : Type 0 where
    pub options : List Given
    pub spells : AreValues options → Spells words options
    pub ends : Ends (at_front [] None) words [] options

  pub spelled : (words : List Text) → All (λ word. word ≢ codes "--") words → walk_fault s [] (at_front [] None) words ≡ [] → settles_after (at_front [] None) words → Spelled words
  spelled words ends fault settles =
      let found = (spell_all words ends).0 [] None fault settles in
      record { options = found.options; spells = found.spells; ends = found.ends }
