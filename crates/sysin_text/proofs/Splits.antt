-- A text is split into lines.
use Rattle.std.proofs.Common.{◌≡◌, ℕ, List, [], ◌∷◌, ◌++◌, refl, ap, ◌∙◌, Bool, true, false, ◌≢◌}
use Rattle.std.specs.Prelude.{◌&&◌, ◌==◌, not, if◌then◌else◌}
use Rattle.std.specs.List.{list_all}
use Rattle.std.proofs.lemmas.Bool.Decides.{Decides-eqb}
use Rattle.sysin_text.specs.Lines.{onto_first, begins_feed, lines_of, without_cr, HasNoFeed}
use Rattle.ckd_image.proofs.Bools.{if_false, and_first, and_second}
use Rattle.std.proofs.lemmas.Bool.{not-true}
use Rattle.std.proofs.Math.Bool.{and-false}

-- what a byte in front does, where it is no line feed and none follows a CR
plain_byte : (byte : ℕ) (text : List ℕ) → (byte == 10) ≡ false → ((byte == 13) && begins_feed text) ≡ false → lines_of (byte ∷ text) ≡ onto_first byte (lines_of text)
plain_byte byte text n m =
    if_false (byte == 10) ([] ∷ lines_of text) (if (byte == 13) && begins_feed text then lines_of text else onto_first byte (lines_of text)) n
    ∙ if_false ((byte == 13) && begins_feed text) (lines_of text) (onto_first byte (lines_of text)) m

-- the byte before a line feed
last_byte : (byte : ℕ) (behind : List ℕ) (cr : Bool) → (byte == 13) ≡ cr → (byte == 10) ≡ false → lines_of (byte ∷ 10 ∷ behind) ≡ (if cr then [] else byte ∷ []) ∷ lines_of behind
last_byte byte behind true e n =
    if_false (byte == 10) ([] ∷ lines_of (10 ∷ behind)) (if (byte == 13) && true then lines_of (10 ∷ behind) else onto_first byte (lines_of (10 ∷ behind))) n
    ∙ rw e refl
last_byte byte behind false e n = plain_byte byte (10 ∷ behind) n (rw e refl)

pub fed_line : (line behind : List ℕ) → HasNoFeed line → lines_of (line ++ 10 ∷ behind) ≡ without_cr line ∷ lines_of behind
fed_line [] behind h = refl
fed_line (byte ∷ []) behind h = last_byte byte behind (byte == 13) refl (not-true (byte == 10) (and_first (not (byte == 10)) true h))
fed_line (byte ∷ next ∷ rest) behind h =
    let here = not-true (byte == 10) (and_first (not (byte == 10)) (list_all (λ b. not (b == 10)) (next ∷ rest)) h) in
    let more = and_second (not (byte == 10)) (list_all (λ b. not (b == 10)) (next ∷ rest)) h in
    let there = not-true (next == 10) (and_first (not (next == 10)) (list_all (λ b. not (b == 10)) rest) more) in
    plain_byte byte (next ∷ rest ++ 10 ∷ behind) here (rw there (and-false (byte == 13))) ∙ ap (onto_first byte) (fed_line (next ∷ rest) behind more)

begins_no_feed : (text : List ℕ) → HasNoFeed text → begins_feed text ≡ false
begins_no_feed [] h = refl
begins_no_feed (byte ∷ text) h = not-true (byte == 10) (and_first (not (byte == 10)) (list_all (λ b. not (b == 10)) text) h)

pub last_line : (byte : ℕ) (text : List ℕ) → HasNoFeed (byte ∷ text) → lines_of (byte ∷ text) ≡ (byte ∷ text) ∷ []
last_line byte [] h =
    plain_byte byte [] (not-true (byte == 10) (and_first (not (byte == 10)) true h)) (and-false (byte == 13))
last_line byte (next ∷ text) h =
    let more = and_second (not (byte == 10)) (list_all (λ b. not (b == 10)) (next ∷ text)) h in
    plain_byte byte (next ∷ text) (not-true (byte == 10) (and_first (not (byte == 10)) (list_all (λ b. not (b == 10)) (next ∷ text)) h))
    (rw (begins_no_feed (next ∷ text) more) (and-false (byte == 13)))
    ∙ ap (onto_first byte) (last_line next text more)

pub only_line : (text : List ℕ) → text ≢ [] → HasNoFeed text → lines_of text ≡ text ∷ []
only_line [] n h = absurd (n refl)
only_line (byte ∷ text) n h = last_line byte text h

-- a CR at the end
pub cr_ended : (front : List ℕ) → without_cr (front ++ 13 ∷ []) ≡ front
cr_ended [] = refl
cr_ended (byte ∷ []) = refl
cr_ended (byte ∷ next ∷ rest) = ap (λ (t : List ℕ). byte ∷ t) (cr_ended (next ∷ rest))

one_byte : (byte : ℕ) → byte ≢ 13 → (cr : Bool) → (byte == 13) ≡ cr → (if cr then [] else byte ∷ []) ≡ byte ∷ []
one_byte byte n true e = absurd (n ((Decides-eqb byte 13).0 e))
one_byte byte n false e = refl

pub not_cr_ended : (line : List ℕ) → ((front : List ℕ) → line ≢ front ++ 13 ∷ []) → without_cr line ≡ line
not_cr_ended [] n = refl
not_cr_ended (byte ∷ []) n = one_byte byte (λ e. n [] (ap (λ (b : ℕ). b ∷ []) e)) (byte == 13) refl
not_cr_ended (byte ∷ next ∷ rest) n =
    ap (λ (t : List ℕ). byte ∷ t) (not_cr_ended (next ∷ rest) (λ front e. n (byte ∷ front) (ap (λ (t : List ℕ). byte ∷ t) e)))
