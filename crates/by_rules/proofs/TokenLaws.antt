-- A text is its tokens.
use Rattle.std.proofs.Common.{◌≡◌, inl, inr, ℕ, List, [], ◌∷◌, ◌++◌, refl, sym, ap, subst, ◌∙◌, Bool, true, false, All}
use Rattle.std.specs.Prelude.{◌==◌, if◌then◌else◌}
use Rattle.std.specs.List.{list_all, AllByRecursion}
use Rattle.std.proofs.lemmas.Bool.Decides.{Decides-eqb}
use Rattle.std.proofs.lemmas.List.Elements.{All-from_recursion}
use Rattle.sysin_text.specs.Signs.{is_word_byte}
use Rattle.by_rules.specs.Token.{Symbol, Open, Close, Comma, Word, Other, sign_of, put_front, tokens_of, bytes_of, text_of, IsToken, BeginWithNoWord, AreApart}
use Rattle.by_rules.proofs.Tokens.{IsSign, sign_by, put_sign, put_last}
use Rattle.std.proofs.lemmas.Bool.{cases_Bool, and_from}
use Rattle.ckd_image.proofs.Bools.{if_true}

-- a byte's sign, by what the byte is
abbrev sign_at : Bool → Bool → Bool → ℕ → Symbol
sign_at a b c byte = if a then Open else (if b then Close else (if c then Comma else Other byte))

sign_bytes : (a b c : Bool) (byte : ℕ) → (byte == 40) ≡ a → (byte == 41) ≡ b → (byte == 44) ≡ c → bytes_of (sign_at a b c byte) ≡ byte ∷ []
sign_bytes true b c byte p q r = let is : byte ≡ 40 = (Decides-eqb byte 40).0 p in ap (λ (n : ℕ). n ∷ []) (sym is)
sign_bytes false true c byte p q r = let is : byte ≡ 41 = (Decides-eqb byte 41).0 q in ap (λ (n : ℕ). n ∷ []) (sym is)
sign_bytes false false true byte p q r = let is : byte ≡ 44 = (Decides-eqb byte 44).0 r in ap (λ (n : ℕ). n ∷ []) (sym is)
sign_bytes false false false byte p q r = refl

sign_is : (a b c : Bool) (byte : ℕ) → (byte == 40) ≡ a → (byte == 41) ≡ b → (byte == 44) ≡ c → is_word_byte byte ≡ false → IsToken (sign_at a b c byte)
sign_is true b c byte p q r n = tt
sign_is false true c byte p q r n = tt
sign_is false false true byte p q r n = tt
sign_is false false false byte p q r n = (
  n,
  (λ e. let yes' = (Decides-eqb byte 40).1 e in cc),
  (λ e. let yes' = (Decides-eqb byte 41).1 e in cc),
  (λ e. let yes' = (Decides-eqb byte 44).1 e in cc),
)

-- what a byte in front does to the tokens of a text
data Front (byte : ℕ) (rest : List Symbol) : Type 0 where
  sign : is_word_byte byte ≡ false → put_front byte rest ≡ sign_of byte ∷ rest → Front byte rest
  joins : (word : List ℕ) (more : List Symbol) → is_word_byte byte ≡ true → rest ≡ Word word ∷ more → put_front byte rest ≡ Word (byte ∷ word) ∷ more → Front byte rest
  alone : is_word_byte byte ≡ true → BeginWithNoWord rest → put_front byte rest ≡ Word (byte ∷ []) ∷ rest → Front byte rest

front_word : (byte : ℕ) (rest : List Symbol) → is_word_byte byte ≡ true → Front byte rest
front_word byte [] w = alone w tt (ap (λ (s : Symbol). s ∷ []) (if_true (is_word_byte byte) (Word (byte ∷ [])) (sign_of byte) w))
front_word byte (Word word ∷ rest) w = joins word rest w refl (if_true (is_word_byte byte) (Word (byte ∷ word) ∷ rest) (sign_of byte ∷ Word word ∷ rest) w)
front_word byte (Open ∷ rest) w = alone w tt (put_last byte Open rest w tt)
front_word byte (Close ∷ rest) w = alone w tt (put_last byte Close rest w tt)
front_word byte (Comma ∷ rest) w = alone w tt (put_last byte Comma rest w tt)
front_word byte (Other b ∷ rest) w = alone w tt (put_last byte (Other b) rest w tt)

front : (byte : ℕ) (rest : List Symbol) → Front byte rest
front byte rest = elim (cases_Bool (is_word_byte byte)) [ inl w ↦ front_word byte rest w | inr n ↦ sign n (put_sign byte rest n) ]

front_cover : (byte : ℕ) (rest : List Symbol) → Front byte rest → text_of (put_front byte rest) ≡ byte ∷ text_of rest
front_cover byte rest (sign n e) = ap text_of e ∙ ap (λ (b : List ℕ). b ++ text_of rest) (sign_bytes (byte == 40) (byte == 41) (byte == 44) byte refl refl refl)
front_cover byte rest (joins word more w r e) = ap text_of e ∙ ap (λ (s : List Symbol). byte ∷ text_of s) (sym r)
front_cover byte rest (alone w n e) = ap text_of e

pub tokens_cover : (text : List ℕ) → text_of (tokens_of text) ≡ text
tokens_cover [] = refl
tokens_cover (byte ∷ text) = front_cover byte (tokens_of text) (front byte (tokens_of text)) ∙ ap (λ (t : List ℕ). byte ∷ t) (tokens_cover text)

front_each : (byte : ℕ) (rest : List Symbol) → Front byte rest → AllByRecursion IsToken rest → AllByRecursion IsToken (put_front byte rest)
front_each byte rest (sign n e) h = let P : List Symbol → Type 0 = λ s. AllByRecursion IsToken s in
    subst P (sym e) (sign_is (byte == 40) (byte == 41) (byte == 44) byte refl refl refl n, h)
front_each byte rest (joins word more w r e) h =
    let P : List Symbol → Type 0 = λ s. AllByRecursion IsToken s in
    let was = subst P r h in
    subst P (sym e) (((λ f. cc), and_from (is_word_byte byte) (list_all is_word_byte word) w was.0.1), was.1)
front_each byte rest (alone w n e) h = let P : List Symbol → Type 0 = λ s. AllByRecursion IsToken s in
    subst P (sym e) (((λ f. cc), and_from (is_word_byte byte) true w refl), h)

each_by : (text : List ℕ) → AllByRecursion IsToken (tokens_of text)
each_by [] = tt
each_by (byte ∷ text) = front_each byte (tokens_of text) (front byte (tokens_of text)) (each_by text)

pub each_token : (text : List ℕ) → All IsToken (tokens_of text)
each_token text = All-from_recursion IsToken (tokens_of text) (each_by text)

sign_apart : (symbol : Symbol) (rest : List Symbol) → IsSign symbol → AreApart rest → AreApart (symbol ∷ rest)
sign_apart Open rest s h = h
sign_apart Close rest s h = h
sign_apart Comma rest s h = h
sign_apart (Other byte) rest s h = h
sign_apart (Word word) rest s h = absurd s

front_apart : (byte : ℕ) (rest : List Symbol) → Front byte rest → AreApart rest → AreApart (put_front byte rest)
front_apart byte rest (sign n e) h = subst AreApart (sym e) (sign_apart (sign_of byte) rest (sign_by (byte == 40) (byte == 41) (byte == 44) byte) h)
front_apart byte rest (joins word more w r e) h = subst AreApart (sym e) (subst AreApart r h)
front_apart byte rest (alone w n e) h = subst AreApart (sym e) (n, h)

pub words_apart : (text : List ℕ) → AreApart (tokens_of text)
words_apart [] = tt
words_apart (byte ∷ text) = front_apart byte (tokens_of text) (front byte (tokens_of text)) (words_apart text)
