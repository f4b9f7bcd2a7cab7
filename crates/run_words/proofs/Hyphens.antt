-- What `clap`'s lexer makes of a word.
use Rattle.std.proofs.Common.{◌≡◌, ◌≢◌, ℕ, zero, suc, ◌==◌, Bool, true, false, List, [], ◌∷◌, ◌++◌, Option, Some, None, sym, ap, ◌∙◌, ◌⊎◌, inl, inr, refl, arith, eqb-true, ne_eqb, codes}
use Rattle.std.specs.Prelude.{if◌then◌else◌, option_and_then}
use Rattle.std.specs.Str.{bytes_eq}
use Rattle.std.proofs.lemmas.Option.{same_Some}
use Rattle.clap.specs.Lexer.{long_of, long_of_rest, name_and_value, short_of, short_of_rest, strip_byte}
use Rattle.clap.proofs.CutLemmas.{Lacks}
use Rattle.clap.proofs.LexerLemmas.{name_and_value-at, name_and_value-without}
use Rattle.run_words.specs.Words.{spelling, IsValue}
use Rattle.run_words.specs.Grammar.{bare}
use Rattle.run_words.specs.declared.name.Name.{Name}
use Rattle.run_words.specs.declared.name.Name.TheVariants as names
use Rattle.run_words.proofs.Ends.{not_false}

-- a name, and its value where one stands behind the sign
abbrev pub signed : List ℕ → Option (List ℕ) → List ℕ
signed name None = name
signed name (Some value) = name ++ 61 ∷ value

-- ---- from a word

not_none : {X : Type 0} (x : X) → None ≡ Some x → ⊥
not_none x e = cc

stripped : (word rest : List ℕ) → strip_byte 45 word ≡ Some rest → word ≡ 45 ∷ rest
stripped [] rest e = absurd (not_none rest e)
stripped (x ∷ xs) rest e = go (x == 45) refl e
  where
    go : (b : Bool) → (x == 45) ≡ b → (if b then Some xs else None) ≡ Some rest → x ∷ xs ≡ 45 ∷ rest
    go true is e = (λ i. eqb-true x 45 is i ∷ same_Some xs rest e i)
    go false is e = absurd (not_none rest e)

parted : (text : List ℕ) → Lacks 61 text ⊎ ((name : List ℕ) × (value : List ℕ) × (text ≡ name ++ 61 ∷ value) × Lacks 61 name)
parted [] = inl (λ k lt. absurd (omega (arith, lt)))
parted (x ∷ xs) = go (x == 61) refl (parted xs)
  where
    onto : (name : List ℕ) → x ≢ 61 → Lacks 61 name → Lacks 61 (x ∷ name)
    onto name other lacks zero lt = other
    onto name other lacks (suc k) lt = lacks k (omega (arith, lt))

    go : (b : Bool) → (x == 61) ≡ b → Lacks 61 xs ⊎ ((name : List ℕ) × (value : List ℕ) × (xs ≡ name ++ 61 ∷ value) × Lacks 61 name)
        → Lacks 61 (x ∷ xs) ⊎ ((name : List ℕ) × (value : List ℕ) × (x ∷ xs ≡ name ++ 61 ∷ value) × Lacks 61 name)
    go true is rest = inr ([], xs, ap (λ n. n ∷ xs) (eqb-true x 61 is), λ k lt. absurd (omega (arith, lt)))
    go false is (inl lacks) = inl (onto xs (λ e. not_false (sym is ∙ ap (λ n. n == 61) e)) lacks)
    go false is (inr h) = inr (x ∷ h.0, h.1, ap (λ t. x ∷ t) h.2, onto h.0 (λ e. not_false (sym is ∙ ap (λ n. n == 61) e)) h.3)

cut_whole : (text : List ℕ) → signed (name_and_value text).0 (name_and_value text).1 ≡ text
cut_whole text = elim (parted text) [
  | inl lacks ↦ ap (λ (p : List ℕ × Option (List ℕ)). signed p.0 p.1) (name_and_value-without text lacks)
  | inr h ↦ ap (λ (t : List ℕ). signed (name_and_value t).0 (name_and_value t).1) h.2 ∙ ap (λ (p : List ℕ × Option (List ℕ)). signed p.0 p.1) (name_and_value-at h.0 h.1 h.3) ∙ sym h.2
]

-- the word that a long name was read from
pub long_word : (word : List ℕ) (p : List ℕ × Option (List ℕ)) → long_of word ≡ Some p → word ≡ 45 ∷ 45 ∷ signed p.0 p.1
long_word word p e = first (strip_byte 45 word) refl e
  where
    third : (rest : List ℕ) → long_of_rest rest ≡ Some p → rest ≡ signed p.0 p.1
    third [] e = absurd (not_none p e)
    third (x ∷ xs) e = sym (cut_whole (x ∷ xs)) ∙ ap (λ (q : List ℕ × Option (List ℕ)). signed q.0 q.1) (same_Some (name_and_value (x ∷ xs)) p e)

    second : (front : List ℕ) (o : Option (List ℕ)) → strip_byte 45 front ≡ o → option_and_then long_of_rest o ≡ Some p → front ≡ 45 ∷ signed p.0 p.1
    second front None is e = absurd (not_none p e)
    second front (Some rest) is e = stripped front rest is ∙ ap (λ (t : List ℕ). 45 ∷ t) (third rest e)

    first : (o : Option (List ℕ)) → strip_byte 45 word ≡ o → option_and_then long_of_rest (option_and_then (strip_byte 45) o) ≡ Some p → word ≡ 45 ∷ 45 ∷ signed p.0 p.1
    first None is e = absurd (not_none p e)
    first (Some front) is e = stripped word front is ∙ ap (λ (t : List ℕ). 45 ∷ t) (second front (strip_byte 45 front) refl e)

-- the flags of a word aren't empty
pub some_flag : (word : List ℕ) → short_of word ≡ Some [] → ⊥
some_flag word e = go (strip_byte 45 word) e
  where
    third : (x : ℕ) (xs : List ℕ) (b : Bool) → (if b then None else Some (x ∷ xs)) ≡ Some [] → ⊥
    third x xs true e = not_none [] e
    third x xs false e = let f : x ∷ xs ≡ [] = same_Some (x ∷ xs) [] e in cc

    second : (rest : List ℕ) → short_of_rest rest ≡ Some [] → ⊥
    second [] e = not_none [] e
    second (x ∷ xs) e = third x xs (x == 45) e

    go : (o : Option (List ℕ)) → option_and_then short_of_rest o ≡ Some [] → ⊥
    go None e = not_none [] e
    go (Some rest) e = second rest e

-- ---- to a word

pub spelling_is : (name : Name) → spelling name ≡ 45 ∷ 45 ∷ bare name
spelling_is names.Unit = refl
spelling_is names.Journal = refl
spelling_is names.Sysin = refl
spelling_is names.Held = refl
spelling_is names.Out = refl
spelling_is names.In = refl
spelling_is names.FormatJournal = refl
spelling_is names.Make = refl

pub long_apart : (name : Name) → long_of (45 ∷ 45 ∷ bare name) ≡ Some (bare name, None)
long_apart names.Unit = refl
long_apart names.Journal = refl
long_apart names.Sysin = refl
long_apart names.Held = refl
long_apart names.Out = refl
long_apart names.In = refl
long_apart names.FormatJournal = refl
long_apart names.Make = refl

pub long_joined : (name : Name) (value : List ℕ) → long_of (45 ∷ 45 ∷ (bare name ++ 61 ∷ value)) ≡ Some (bare name, Some value)
long_joined names.Unit value = refl
long_joined names.Journal value = refl
long_joined names.Sysin value = refl
long_joined names.Held value = refl
long_joined names.Out value = refl
long_joined names.In value = refl
long_joined names.FormatJournal value = refl
long_joined names.Make value = refl

-- no name is empty
pub not_end : (name : Name) (rest : List ℕ) → bytes_eq (45 ∷ 45 ∷ (bare name ++ rest)) (codes "--") ≡ false
not_end names.Unit rest = refl
not_end names.Journal rest = refl
not_end names.Sysin rest = refl
not_end names.Held rest = refl
not_end names.Out rest = refl
not_end names.In rest = refl
not_end names.FormatJournal rest = refl
not_end names.Make rest = refl

-- a value is no flag
pub record IsNoFlag (word : List ℕ) : Type 0 where
  pub end : bytes_eq word (codes "--") ≡ false
  pub long : long_of word ≡ None
  pub short : short_of word ≡ None

pub no_flag : (value : List ℕ) → IsValue value → IsNoFlag value
no_flag [] h = record { end = refl; long = refl; short = refl }
no_flag (x ∷ xs) h =
    let other : (x == 45) ≡ false = ne_eqb x 45 (λ e. h (xs, ap (λ n. n ∷ xs) e)) in
    record { end = rw other refl; long = rw other refl; short = rw other refl }
