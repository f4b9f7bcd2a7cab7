-- A registration reads as it was written, and zeros say nothing.
use Rattle.std.proofs.Common.{◌≡◌, inl, inr, ◌<◌, ◌≤◌, ◌-◌, ℕ, ◌+◌, ◌*◌, List, [], ◌∷◌, ◌++◌, length, take, drop, get_or, append_assoc, length-append, refl, sym, ◌∙◌, ap, arith}
use Rattle.std.specs.Prelude.{All, replicate, ◌==◌, nat_le, false}
use Rattle.std.proofs.lemmas.Bool.{and_from, both_ways, cases_eq, eq-eqb, le-leb}
use Rattle.dasd_pool.specs.Disk.{is_at}
use Rattle.redo_core.specs.Steps.{of_making}
use Rattle.std.specs.List.{AllByRecursion, flat_map}
use Rattle.std.proofs.lemmas.List.{take_at, drop_at, take_more, length-take-le}
use Rattle.std.proofs.lemmas.List.Elements.{recursion_from_All}
use Rattle.redo_core.proofs.Crash.{other_block, other_unit}
use Rattle.redo_core.proofs.Directory.{put_behind}
use Rattle.byteorder.specs.Endian.{big_bytes}
use Rattle.byteorder.specs.Numbers.{big_number-reads_back}
use Rattle.vol_label.specs.declared.serial.Serial.{Serial}
use Rattle.vol_label.specs.Serial.{IsSerial}
use Rattle.redo_core.specs.Format.{wide, registration_magic, registration_text, serials_in}
use Rattle.redo_core.specs.Reading.{IsRegistration}

abbrev pub texts : List Serial → List ℕ
texts names = flat_map (λ name. name.text) names

serials_read : (names : List Serial) (rest : List ℕ) → AllByRecursion (λ name. IsSerial name.text) names → serials_in (length names) (texts names ++ rest) ≡ names
serials_read [] rest lawful = refl
serials_read (name ∷ names) rest lawful =
    let six : length name.text ≡ 6 = lawful.0.1.six in
    let whole : texts (name ∷ names) ++ rest ≡ name.text ++ (texts names ++ rest) = append_assoc name.text (texts names) rest in
    let text : take 6 (texts (name ∷ names) ++ rest) ≡ name.text = ap (λ (l : List ℕ). take 6 l) whole ∙ take_at name.text (texts names ++ rest) 6 six in
    let more : drop 6 (texts (name ∷ names) ++ rest) ≡ texts names ++ rest = ap (λ (l : List ℕ). drop 6 l) whole ∙ drop_at name.text (texts names ++ rest) 6 six in
    λ i. record { text = text i } ∷ (ap (λ (l : List ℕ). serials_in (length names) l) more ∙ serials_read names rest lawful.1) i

pub registration_reads : (names : List Serial) (room : ℕ) (rest : List ℕ) → 1 ≤ length names → length names ≤ 64 → 3 ≤ room → room ≤ 8191 → All (λ name. IsSerial name.text) names
    → IsRegistration (length names) (registration_text names room ++ rest) names room
registration_reads names room rest some few least most lawful = record {
  magic = (big_bytes 4 (length names) ++ (big_bytes 4 room ++ texts names) ++ rest, refl);
  count = big_number-reads_back 4 (length names) ((big_bytes 4 room ++ texts names) ++ rest) (omega (arith, few));
  some = some;
  few = few;
  room_is = big_number-reads_back 4 room (texts names ++ rest) (omega (arith, most));
  least = least;
  most = most;
  names_are = sym (serials_read names rest (recursion_from_All (λ name. IsSerial name.text) names lawful));
  serials = lawful;
}

-- the text of one serial more
pub texts-push : (names : List Serial) (name : Serial) → texts (names ++ name ∷ []) ≡ texts names ++ name.text
texts-push [] name = append-nil name.text
  where
    append-nil : (l : List ℕ) → l ++ [] ≡ l
    append-nil [] = refl
    append-nil (x ∷ l) = ap (λ (r : List ℕ). x ∷ r) (append-nil l)
texts-push (first ∷ names) name = ap (λ (l : List ℕ). first.text ++ l) (texts-push names name) ∙ sym (append_assoc first.text (texts names) name.text)

pub length-texts : (names : List Serial) → AllByRecursion (λ name. length name.text ≡ 6) names → length (texts names) ≡ 6 * length names
length-texts [] six = refl
length-texts (name ∷ names) six = simp length-append (omega (arith, six.0, length-texts names six.1))

-- a registration of one serial more
pub text_more : (names : List Serial) (i place room : ℕ) (name : Serial) (buffer later piece : List ℕ) → i < length names → name ≡ get_or names i name → place ≡ 16 + 6 * i → All (λ n. length n.text ≡ 6) (take i names)
    → buffer ≡ (registration_magic ++ (big_bytes 4 (length names) ++ (big_bytes 4 room ++ texts (take i names)))) ++ replicate (wide - place) 0
    → piece ≡ name.text → length piece ≡ 6 → later ≡ take place buffer ++ (piece ++ drop (place + length piece) buffer)
    → later ≡ (registration_magic ++ (big_bytes 4 (length names) ++ (big_bytes 4 room ++ texts (take (i + 1) names)))) ++ replicate (wide - (place + 6)) 0
text_more names i place room name buffer later piece less is at sixes so_far piece_is six put =
    put_behind 6 buffer later (registration_magic ++ (big_bytes 4 (length names) ++ (big_bytes 4 room ++ texts (take i names)))) piece (wide - place) (wide - (place + 6)) place so_far
    (omega (arith, at, length-texts (take i names) (recursion_from_All (λ n. length n.text ≡ 6) (take i names) sixes), length-take-le i names (omega (arith, less))))
    six (omega arith) put
    ∙ ap (λ (l : List ℕ). (registration_magic ++ (big_bytes 4 (length names) ++ (big_bytes 4 room ++ l))) ++ replicate (wide - (place + 6)) 0)
    (ap (λ (l : List ℕ). texts (take i names) ++ l) piece_is ∙ sym (texts-push (take i names) name)
    ∙ ap texts (sym (take_more names i name less ∙ ap (λ (n : Serial). take i names ++ n ∷ []) (sym is))))

-- one of the first three blocks of the journal
pub in_making : (journal block u b : ℕ) → block ≤ 2 → of_making journal u b ≡ false → is_at journal block u b ≡ false
in_making journal block u b low apart = elim (cases_eq u journal) [
  | inl same ↦ other_block journal block u b (λ at. both_ways (of_making journal u b) apart (and_from (u == journal) (nat_le b 2) (eq-eqb u journal same) (le-leb b 2 (omega arith))))
  | inr other ↦ other_unit journal block u b other
]
