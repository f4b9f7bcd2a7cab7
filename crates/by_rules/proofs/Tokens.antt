-- Reading tokens one after the other.
use Rattle.std.proofs.Common.{◌≡◌, ℕ, List, [], ◌∷◌, ◌++◌, sym, ap, ◌∙◌, Bool, true, false}
use Rattle.std.specs.Prelude.{◌==◌, if◌then◌else◌}
use Rattle.std.specs.List.{list_all}
use Rattle.sysin_text.specs.Signs.{is_word_byte}
use Rattle.by_rules.specs.Token.{Symbol, Open, Close, Comma, Word, Other, sign_of, put_front, tokens_of, begins_word}
use Rattle.ckd_image.proofs.Bools.{if_true, if_false, and_first, and_second}

abbrev pub IsSign : Symbol → Type 0
IsSign (Word word) = ⊥
IsSign _ = Unit {0}

pub sign_by : (a b c : Bool) (byte : ℕ) → IsSign (if a then Open else (if b then Close else (if c then Comma else Other byte)))
sign_by true b c byte = tt
sign_by false true c byte = tt
sign_by false false true byte = tt
sign_by false false false byte = tt

-- a byte that is none of a word is a token
pub put_sign : (byte : ℕ) (rest : List Symbol) → is_word_byte byte ≡ false → put_front byte rest ≡ sign_of byte ∷ rest
put_sign byte [] h = ap (λ (s : Symbol). s ∷ []) (if_false (is_word_byte byte) (Word (byte ∷ [])) (sign_of byte) h)
put_sign byte (Word word ∷ rest) h = if_false (is_word_byte byte) (Word (byte ∷ word) ∷ rest) (sign_of byte ∷ Word word ∷ rest) h
put_sign byte (Open ∷ rest) h = ap (λ (s : Symbol). s ∷ Open ∷ rest) (if_false (is_word_byte byte) (Word (byte ∷ [])) (sign_of byte) h)
put_sign byte (Close ∷ rest) h = ap (λ (s : Symbol). s ∷ Close ∷ rest) (if_false (is_word_byte byte) (Word (byte ∷ [])) (sign_of byte) h)
put_sign byte (Comma ∷ rest) h = ap (λ (s : Symbol). s ∷ Comma ∷ rest) (if_false (is_word_byte byte) (Word (byte ∷ [])) (sign_of byte) h)
put_sign byte (Other b ∷ rest) h = ap (λ (s : Symbol). s ∷ Other b ∷ rest) (if_false (is_word_byte byte) (Word (byte ∷ [])) (sign_of byte) h)

-- a word's last byte stands before no word
pub put_last : (byte : ℕ) (sign : Symbol) (rest : List Symbol) → is_word_byte byte ≡ true → IsSign sign → put_front byte (sign ∷ rest) ≡ Word (byte ∷ []) ∷ sign ∷ rest
put_last byte Open rest h s = ap (λ (t : Symbol). t ∷ Open ∷ rest) (if_true (is_word_byte byte) (Word (byte ∷ [])) (sign_of byte) h)
put_last byte Close rest h s = ap (λ (t : Symbol). t ∷ Close ∷ rest) (if_true (is_word_byte byte) (Word (byte ∷ [])) (sign_of byte) h)
put_last byte Comma rest h s = ap (λ (t : Symbol). t ∷ Comma ∷ rest) (if_true (is_word_byte byte) (Word (byte ∷ [])) (sign_of byte) h)
put_last byte (Other b) rest h s = ap (λ (t : Symbol). t ∷ Other b ∷ rest) (if_true (is_word_byte byte) (Word (byte ∷ [])) (sign_of byte) h)
put_last byte (Word word) rest h s = absurd s

last_byte : (byte : ℕ) (rest : List ℕ) → is_word_byte byte ≡ true → begins_word rest ≡ false → put_front byte (tokens_of rest) ≡ Word (byte ∷ []) ∷ tokens_of rest
last_byte byte [] h n = ap (λ (t : Symbol). t ∷ []) (if_true (is_word_byte byte) (Word (byte ∷ [])) (sign_of byte) h)
last_byte byte (next ∷ rest) h n =
    let split = put_sign next (tokens_of rest) n in
    ap (put_front byte) split ∙ put_last byte (sign_of next) (tokens_of rest) h (sign_by (next == 40) (next == 41) (next == 44) next) ∙ ap (λ (ts : List Symbol). Word (byte ∷ []) ∷ ts) (sym split)

-- a word, as far as it goes, is a token
pub word_first : (byte : ℕ) (word rest : List ℕ) → list_all is_word_byte (byte ∷ word) ≡ true → begins_word rest ≡ false → tokens_of ((byte ∷ word) ++ rest) ≡ Word (byte ∷ word) ∷ tokens_of rest
word_first byte [] rest h n = last_byte byte rest (and_first (is_word_byte byte) true h) n
word_first byte (next ∷ word) rest h n =
    let first = and_first (is_word_byte byte) (list_all is_word_byte (next ∷ word)) h in
    let behind = and_second (is_word_byte byte) (list_all is_word_byte (next ∷ word)) h in
    ap (put_front byte) (word_first next word rest behind n) ∙ if_true (is_word_byte byte) (Word (byte ∷ next ∷ word) ∷ tokens_of rest) (sign_of byte ∷ Word (next ∷ word) ∷ tokens_of rest) first

pub word_at : (text word rest : List ℕ) → begins_word text ≡ true → text ≡ word ++ rest → list_all is_word_byte word ≡ true → begins_word rest ≡ false → tokens_of text ≡ Word word ∷ tokens_of rest
word_at text [] rest b e h n = let same : begins_word text ≡ begins_word rest = ap begins_word e in cc
word_at text (byte ∷ word) rest b e h n = ap tokens_of e ∙ word_first byte word rest h n
