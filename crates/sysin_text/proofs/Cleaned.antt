-- A line is cleaned byte by byte.
use Rattle.std.proofs.Common.{◌≡◌, ℕ, ◌+◌, ◌-◌, ◌<◌, ◌≤◌, List, [], ◌∷◌, ◌++◌, length, take, drop, set, get_or, refl, sym, ap, ◌∙◌, arith, Bool, true, false, append_assoc, append-nil, length-drop}
use Rattle.std.proofs.lemmas.List.{take_more_set, take_more, drop_all, take_all, drop_more}
use Rattle.std.specs.Prelude.{◌||◌, ◌==◌, if◌then◌else◌, Option, Some, None}
use Rattle.std.specs.Option.{option_map}
use Rattle.sysin_text.specs.Cleaning.{begins_with, close_of, inside, byte_read, bytes_read, is_mark, has_mark, before_mark}
use Rattle.ckd_image.proofs.Bools.{if_true, if_false}

-- ---- the end of a comment

two_bytes : (a b : ℕ) (bytes : List ℕ) → begins_with a b bytes ≡ true → 2 ≤ length bytes
two_bytes a b [] h = cc
two_bytes a b (x ∷ []) h = cc
two_bytes a b (x ∷ y ∷ rest) h = omega arith

pub close_here : (bytes : List ℕ) (at : ℕ) → at < length bytes → begins_with 42 47 (drop at bytes) ≡ true
    → close_of bytes ≡ option_map (λ n. n + at) (close_of (drop at bytes)) → close_of bytes ≡ Some (at + 2)
close_here bytes at lt h i =
    let here = drop_more bytes at 0 lt in
    let begins : begins_with 42 47 (get_or bytes at 0 ∷ drop (at + 1) bytes) ≡ true = ap (begins_with 42 47) (sym here) ∙ h in
    i ∙ ap (λ (t : List ℕ). option_map (λ n. n + at) (close_of t)) here
    ∙ ap (option_map (λ n. n + at)) (if_true (begins_with 42 47 (get_or bytes at 0 ∷ drop (at + 1) bytes)) (Some 2) (option_map (λ n. n + 1) (close_of (drop (at + 1) bytes))) begins)
    ∙ ap Some (omega arith)

pub close_fits : (bytes : List ℕ) (at : ℕ) → begins_with 42 47 (drop at bytes) ≡ true → at + 2 ≤ length bytes
close_fits bytes at h = let two = two_bytes 42 47 (drop at bytes) h in omega (arith, two, length-drop at bytes)

later : (at : ℕ) (found : Option ℕ) → option_map (λ n. n + at) (option_map (λ n. n + 1) found) ≡ option_map (λ n. n + (at + 1)) found
later at None = refl
later at (Some n) = ap Some (omega arith)

pub close_behind : (bytes : List ℕ) (at : ℕ) → at < length bytes → begins_with 42 47 (drop at bytes) ≡ false
    → close_of bytes ≡ option_map (λ n. n + at) (close_of (drop at bytes)) → close_of bytes ≡ option_map (λ n. n + (at + 1)) (close_of (drop (at + 1) bytes))
close_behind bytes at lt h i =
    let here = drop_more bytes at 0 lt in
    let begins : begins_with 42 47 (get_or bytes at 0 ∷ drop (at + 1) bytes) ≡ false = ap (begins_with 42 47) (sym here) ∙ h in
    i ∙ ap (λ (t : List ℕ). option_map (λ n. n + at) (close_of t)) here
    ∙ ap (option_map (λ n. n + at)) (if_false (begins_with 42 47 (get_or bytes at 0 ∷ drop (at + 1) bytes)) (Some 2) (option_map (λ n. n + 1) (close_of (drop (at + 1) bytes))) begins)
    ∙ later at (close_of (drop (at + 1) bytes))

same_option : (found : Option ℕ) → found ≡ option_map (λ n. n + 0) found
same_option None = refl
same_option (Some n) = ap Some (omega arith)

pub close_start : (bytes : List ℕ) → close_of bytes ≡ option_map (λ n. n + 0) (close_of (drop 0 bytes))
close_start bytes = same_option (close_of bytes)

pub close_nowhere : (bytes : List ℕ) (at : ℕ) → length bytes ≤ at → close_of bytes ≡ option_map (λ n. n + at) (close_of (drop at bytes)) → close_of bytes ≡ None
close_nowhere bytes at le i = i ∙ ap (λ (t : List ℕ). option_map (λ n. n + at) (close_of t)) (drop_all at bytes le)

-- ---- the bytes

pub read_more : (line text : List ℕ) (left now at : ℕ) → at < length line → at < length text → now ≡ inside left (drop at line)
    → take at text ++ bytes_read left (drop at line) ≡ bytes_read 0 line
    → take (at + 1) (set text at (if now == 0 then byte_read (get_or line at 0) else 32)) ++ bytes_read (now - 1) (drop (at + 1) line) ≡ bytes_read 0 line
read_more line text left now at lt room e i =
    let here = drop_more line at 0 lt in
    let is : now ≡ inside left (get_or line at 0 ∷ drop (at + 1) line) = e ∙ ap (inside left) here in
    let byte : ℕ = if now == 0 then byte_read (get_or line at 0) else 32 in
    let step : bytes_read left (drop at line) ≡ byte ∷ bytes_read (now - 1) (drop (at + 1) line) =
    ap (bytes_read left) here ∙ ap (λ (n : ℕ). (if n == 0 then byte_read (get_or line at 0) else 32) ∷ bytes_read (n - 1) (drop (at + 1) line)) (sym is) in
    ap (λ (t : List ℕ). t ++ bytes_read (now - 1) (drop (at + 1) line)) (take_more_set text at byte room)
    ∙ append_assoc (take at text) (byte ∷ []) (bytes_read (now - 1) (drop (at + 1) line))
    ∙ ap (λ (t : List ℕ). take at text ++ t) (sym step) ∙ i

pub read_all : (line text : List ℕ) (left at : ℕ) → length line ≤ at → take at text ++ bytes_read left (drop at line) ≡ bytes_read 0 line → take at text ≡ bytes_read 0 line
read_all line text left at le i =
    sym (append-nil (take at text)) ∙ ap (λ (t : List ℕ). take at text ++ bytes_read left t) (sym (drop_all at line le)) ∙ i

-- ---- the mark

-- no mark stands up to a place
pub record IsUnmarked (line : List ℕ) (at : ℕ) : Type 0 where
  pub before : before_mark line ≡ take at line ++ before_mark (drop at line)
  pub has : has_mark line ≡ has_mark (drop at line)

pub unmarked_start : (line : List ℕ) → IsUnmarked line 0
unmarked_start line = record { before = refl; has = refl }

pub mark_here : (line : List ℕ) (at : ℕ) → at < length line → is_mark (drop at line) ≡ true → IsUnmarked line at → (before_mark line ≡ take at line) × (has_mark line ≡ true)
mark_here line at lt h u =
    let here = drop_more line at 0 lt in
    let yes' : is_mark (get_or line at 0 ∷ drop (at + 1) line) ≡ true = ap is_mark (sym here) ∙ h in (
      u.before ∙ ap (λ (t : List ℕ). take at line ++ before_mark t) here
          ∙ ap (λ (t : List ℕ). take at line ++ t) (if_true (is_mark (get_or line at 0 ∷ drop (at + 1) line)) [] (get_or line at 0 ∷ before_mark (drop (at + 1) line)) yes')
          ∙ append-nil (take at line),
      u.has ∙ ap has_mark here ∙ ap (λ (b : Bool). b || has_mark (drop (at + 1) line)) yes',
    )

pub mark_behind : (line : List ℕ) (at : ℕ) → at < length line → is_mark (drop at line) ≡ false → IsUnmarked line at → IsUnmarked line (at + 1)
mark_behind line at lt h u =
    let here = drop_more line at 0 lt in
    let no' : is_mark (get_or line at 0 ∷ drop (at + 1) line) ≡ false = ap is_mark (sym here) ∙ h in
    record {
      before = u.before ∙ ap (λ (t : List ℕ). take at line ++ before_mark t) here
          ∙ ap (λ (t : List ℕ). take at line ++ t) (if_false (is_mark (get_or line at 0 ∷ drop (at + 1) line)) [] (get_or line at 0 ∷ before_mark (drop (at + 1) line)) no')
          ∙ sym (append_assoc (take at line) (get_or line at 0 ∷ []) (before_mark (drop (at + 1) line)))
          ∙ ap (λ (t : List ℕ). t ++ before_mark (drop (at + 1) line)) (sym (take_more line at 0 lt));
      has = u.has ∙ ap has_mark here ∙ ap (λ (b : Bool). b || has_mark (drop (at + 1) line)) no';
    }

pub mark_nowhere : (line : List ℕ) (at : ℕ) → length line ≤ at → IsUnmarked line at → (before_mark line ≡ line) × (has_mark line ≡ false)
mark_nowhere line at le u = (
  u.before ∙ ap (λ (t : List ℕ). take at line ++ before_mark t) (drop_all at line le) ∙ append-nil (take at line) ∙ take_all at line le,
  u.has ∙ ap has_mark (drop_all at line le),
)
