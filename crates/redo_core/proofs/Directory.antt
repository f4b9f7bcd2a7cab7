-- A directory reads as it was written.
use Rattle.std.proofs.Math.Seq.{drop-append-add}
use Rattle.std.proofs.Common.{◌≡◌, ◌<◌, ◌^◌, ◌-◌, ℕ, ◌+◌, ◌*◌, List, [], ◌∷◌, ◌++◌, length, take, drop, get_or, append_assoc, refl, sym, ◌∙◌, ap, arith}
use Rattle.std.specs.Prelude.{All, replicate}
use Rattle.std.specs.List.{AllByRecursion, flat_map}
use Rattle.std.proofs.lemmas.List.{take_at, drop-replicate, take_more, length-take-le}
use Rattle.std.proofs.lemmas.List.Elements.{recursion_from_All}
use Rattle.byteorder.specs.Endian.{big_bytes}
use Rattle.byteorder.specs.Numbers.{big_number-reads_back}
use Rattle.redo_core.specs.declared.entries.Entry.{Entry}
use Rattle.redo_core.specs.declared.target.Target.{Target}
use Rattle.redo_core.proofs.Transitions.{targets-push, length-targets}
use Rattle.redo_core.specs.Format.{wide, target_text, directory_text, targets_in, directory_in, number_at}
use Rattle.redo_core.specs.Phases.{targets}

-- a target whose numbers fit four bytes
abbrev pub Fits : Target → Type 0
Fits target = (target.unit < 2 ^ 32) × (target.block < 2 ^ 32)

targets_read : (list : List Target) (rest : List ℕ) → AllByRecursion Fits list → targets_in (length list) (flat_map target_text list ++ rest) ≡ list
targets_read [] rest fits = refl
targets_read (target ∷ list) rest fits =
    let unit : number_at 0 (flat_map target_text (target ∷ list) ++ rest) ≡ target.unit = big_number-reads_back 4 target.unit (big_bytes 4 target.block ++ (flat_map target_text list ++ rest)) fits.0.0 in
    let block : number_at 4 (flat_map target_text (target ∷ list) ++ rest) ≡ target.block = big_number-reads_back 4 target.block (flat_map target_text list ++ rest) fits.0.1 in
    λ i. record { unit = unit i; block = block i } ∷ targets_read list rest fits.1 i

pub directory_reads : (list : List Target) (rest : List ℕ) → All Fits list → length list < 2 ^ 32 → directory_in (directory_text list ++ rest) ≡ list
directory_reads list rest fits few =
    let count : number_at 0 (directory_text list ++ rest) ≡ length list = big_number-reads_back 4 (length list) (flat_map target_text list ++ rest) few in
    ap (λ (n : ℕ). targets_in n (flat_map target_text list ++ rest)) count ∙ targets_read list rest (recursion_from_All Fits list fits)

-- the text of one target more
pub texts-push : (list : List Target) (target : Target) → flat_map target_text (list ++ target ∷ []) ≡ flat_map target_text list ++ target_text target
texts-push [] target = refl
texts-push (first ∷ list) target = ap (λ (l : List ℕ). target_text first ++ l) (texts-push list target)

pub length-texts : (list : List Target) → length (flat_map target_text list) ≡ 8 * length list
length-texts [] = refl
length-texts (target ∷ list) = omega (arith, length-texts list)

-- bytes are put over zeros behind a text
pub put_behind : (size : ℕ) (buffer later text piece : List ℕ) (m n place : ℕ) → buffer ≡ text ++ replicate m 0 → place ≡ length text → length piece ≡ size → n ≡ m - size
    → later ≡ take place buffer ++ (piece ++ drop (place + length piece) buffer) → later ≡ (text ++ piece) ++ replicate n 0
put_behind size buffer later text piece m n place is at long fewer put =
    let front : take place buffer ≡ text = ap (λ (l : List ℕ). take place l) is ∙ take_at text (replicate m 0) place (sym at) in
    let behind : drop (place + length piece) buffer ≡ replicate n 0 =
    ap (λ (l : List ℕ). drop (place + length piece) l) is ∙ (λ i. drop (at i + long i) (text ++ replicate m 0)) ∙ past text m ∙ ap (λ (k : ℕ). replicate k 0) (sym fewer) in
    put ∙ (λ i. front i ++ (piece ++ behind i)) ∙ sym (append_assoc text piece (replicate n 0))
  where
    past : (xs : List ℕ) (k : ℕ) → drop (length xs + size) (xs ++ replicate k 0) ≡ replicate (k - size) 0
    past xs k = drop-append-add xs (replicate k 0) size ∙ drop-replicate size k 0

-- the targets of one entry more
pub targets_more : (entries : List Entry) (i : ℕ) (entry : Entry) → i < length entries → entry ≡ get_or entries i entry
    → targets (take (i + 1) entries) ≡ targets (take i entries) ++ record { unit = entry.unit; block = entry.block } ∷ []
targets_more entries i entry less is =
    ap targets (take_more entries i entry less ∙ ap (λ (e : Entry). take i entries ++ e ∷ []) (sym is)) ∙ targets-push (take i entries) entry

-- a directory of one entry more
pub text_more : (entries : List Entry) (i place : ℕ) (entry : Entry) (buffer later piece : List ℕ) → i < length entries → entry ≡ get_or entries i entry → place ≡ 4 + 8 * i
    → buffer ≡ (big_bytes 4 (length entries) ++ flat_map target_text (targets (take i entries))) ++ replicate (wide - place) 0
    → piece ≡ target_text (record { unit = entry.unit; block = entry.block }) → later ≡ take place buffer ++ (piece ++ drop (place + length piece) buffer)
    → later ≡ (big_bytes 4 (length entries) ++ flat_map target_text (targets (take (i + 1) entries))) ++ replicate (wide - (place + 8)) 0
text_more entries i place entry buffer later piece less is at so_far piece_is put =
    put_behind 8 buffer later (big_bytes 4 (length entries) ++ flat_map target_text (targets (take i entries))) piece (wide - place) (wide - (place + 8)) place so_far
    (omega (arith, at, length-texts (targets (take i entries)), length-targets (take i entries), length-take-le i entries (omega (arith, less))))
    (ap length piece_is) (omega arith) put
    ∙ ap (λ (l : List ℕ). (big_bytes 4 (length entries) ++ l) ++ replicate (wide - (place + 8)) 0)
    (ap (λ (l : List ℕ). flat_map target_text (targets (take i entries)) ++ l) piece_is ∙ sym (texts-push (targets (take i entries)) (record { unit = entry.unit; block = entry.block }))
    ∙ ap (λ (list : List Target). flat_map target_text list) (sym (targets_more entries i entry less is)))
