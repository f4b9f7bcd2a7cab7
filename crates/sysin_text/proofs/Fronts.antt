-- The word in front of bytes.
use Rattle.std.proofs.Common.{◌≡◌, ℕ, ◌+◌, ◌<◌, ◌≤◌, List, [], ◌∷◌, ◌++◌, length, take, drop, get_or, sym, ap, ◌∙◌, true, false, append_assoc, append-nil}
use Rattle.std.proofs.lemmas.List.{take_more, drop_all, take_all, drop_more}
use Rattle.sysin_text.specs.Signs.{is_word_byte, word_front}
use Rattle.ckd_image.proofs.Bools.{if_true, if_false}

pub word_ends : (bytes : List ℕ) (at : ℕ) → at < length bytes → is_word_byte (get_or bytes at 0) ≡ false → word_front bytes ≡ take at bytes ++ word_front (drop at bytes) → take at bytes ≡ word_front bytes
word_ends bytes at lt n i =
    sym (i ∙ ap (λ (t : List ℕ). take at bytes ++ word_front t) (drop_more bytes at 0 lt)
    ∙ ap (λ (t : List ℕ). take at bytes ++ t) (if_false (is_word_byte (get_or bytes at 0)) (get_or bytes at 0 ∷ word_front (drop (at + 1) bytes)) [] n)
    ∙ append-nil (take at bytes))

pub word_more : (bytes : List ℕ) (at : ℕ) → at < length bytes → is_word_byte (get_or bytes at 0) ≡ true → word_front bytes ≡ take at bytes ++ word_front (drop at bytes)
    → word_front bytes ≡ take (at + 1) bytes ++ word_front (drop (at + 1) bytes)
word_more bytes at lt y i =
    i ∙ ap (λ (t : List ℕ). take at bytes ++ word_front t) (drop_more bytes at 0 lt)
    ∙ ap (λ (t : List ℕ). take at bytes ++ t) (if_true (is_word_byte (get_or bytes at 0)) (get_or bytes at 0 ∷ word_front (drop (at + 1) bytes)) [] y)
    ∙ sym (append_assoc (take at bytes) (get_or bytes at 0 ∷ []) (word_front (drop (at + 1) bytes)))
    ∙ ap (λ (t : List ℕ). t ++ word_front (drop (at + 1) bytes)) (sym (take_more bytes at 0 lt))

pub word_all : (bytes : List ℕ) (at : ℕ) → length bytes ≤ at → word_front bytes ≡ take at bytes ++ word_front (drop at bytes) → bytes ≡ word_front bytes
word_all bytes at le i =
    sym (i ∙ ap (λ (t : List ℕ). take at bytes ++ word_front t) (drop_all at bytes le) ∙ append-nil (take at bytes) ∙ take_all at bytes le)
