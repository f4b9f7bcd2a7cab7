-- The text of a piece says what piece it is, and where it ends.
use Rattle.std.proofs.Common.{◌≡◌, ◌≢◌, ℕ, ◌/◌, ◌%◌, ◌^◌, ◌≤◌, ◌<◌, List, [], ◌∷◌, ◌++◌, length, All, refl, sym, ap, ◌∙◌, arith, append_assoc}
use Rattle.std.specs.Prelude.{slice_index}
use Rattle.std.specs.List.{AllByRecursion}
use Rattle.std.proofs.lemmas.List.Elements.{recursion_from_All}
use Rattle.byteorder.specs.Endian.{big_bytes}
use Rattle.ckd_image.specs.declared.track.Rec.{Rec}
use Rattle.ckd_image.specs.declared.track.Track.{Track as Text}
use Rattle.ckd_image.specs.Bytes.{Begins}
use Rattle.ckd_image.specs.Track.{IsTrack, IsRecord}
use Rattle.ckd_image.proofs.Texts.{SelfDelimiting, texts_split}
use Rattle.dump_fmt.specs.declared.piece.Piece.{Piece}
use Rattle.dump_fmt.specs.declared.piece.Piece.TheVariants.{Part, Track, PartEnd, Dropped, Slot}
use Rattle.dump_fmt.specs.Pieces.{dumped_record, dumped_records, dumped_track, piece_text, pieces_text}
use Rattle.dump_read.proofs.Numbers.{one_number}
use Rattle.ckd_image.proofs.OneText.{split_same, same_record}

-- the numbers of a piece fit their bytes, and what has a fixed length has it
abbrev pub IsBounded : Piece → Type 0
IsBounded (Part f1 tracks kind) = (length f1 ≡ 140) × (tracks < 2 ^ 32)
IsBounded (Track text) = IsTrack text × (length text.recs ≤ 65535)
IsBounded (Slot number bytes) = (number < 2 ^ 32) × (length bytes < 2 ^ 32)
IsBounded PartEnd = Unit {0}
IsBounded Dropped = Unit {0}

-- ---- records

pub two_bytes : (m n : ℕ) → m ≤ 65535 → n ≤ 65535 → big_bytes 2 m ≡ big_bytes 2 n → m ≡ n
two_bytes m n few less e =
    let high : m / 256 % 256 ≡ n / 256 % 256 = cc in
    let low : m % 256 ≡ n % 256 = cc in
    omega arith

pub record_apart : (a b : Rec) (x y : List ℕ) → IsRecord a → IsRecord b → dumped_record a ++ x ≡ dumped_record b ++ y → (a ≡ b) × (x ≡ y)
record_apart a b x y p q e =
    let number : a.r ≡ b.r = cc in
    let keys : length a.key ≡ length b.key = cc in
    let high : length a.body / 256 % 256 ≡ length b.body / 256 % 256 = cc in
    let low : length a.body % 256 ≡ length b.body % 256 = cc in
    let fits = p.body_fits in
    let other = q.body_fits in
    let bodies : length a.body ≡ length b.body = omega arith in
    let tails : (a.key ++ a.body) ++ x ≡ (b.key ++ b.body) ++ y = cc in
    let k = split_same a.key b.key (a.body ++ x) (b.body ++ y) keys (sym (append_assoc a.key a.body x) ∙ tails ∙ append_assoc b.key b.body y) in
    let d = split_same a.body b.body x y bodies k.1 in
    (same_record a b number k.0 d.0, d.1)

-- as many records of each
records_apart : (as' bs : List Rec) (x y : List ℕ) → AllByRecursion IsRecord as' → AllByRecursion IsRecord bs → length as' ≡ length bs
    → dumped_records as' ++ x ≡ dumped_records bs ++ y → (as' ≡ bs) × (x ≡ y)
records_apart [] [] x y p q same e = (refl, e)
records_apart [] (b ∷ bs) x y p q same e = absurd (omega arith)
records_apart (a ∷ as') [] x y p q same e = absurd (omega arith)
records_apart (a ∷ as') (b ∷ bs) x y p q same e =
    let first = record_apart a b (dumped_records as' ++ x) (dumped_records bs ++ y) p.0 q.0 (sym (append_assoc (dumped_record a) (dumped_records as') x) ∙ e ∙ append_assoc (dumped_record b) (dumped_records bs) y) in
    let rest = records_apart as' bs x y p.1 q.1 (omega arith) first.1 in
    let head : a ≡ b = first.0 in
    let tail : as' ≡ bs = rest.0 in
    (cc, rest.1)

-- ---- tracks

same_track : (a b : Text) → a.flag ≡ b.flag → a.r0 ≡ b.r0 → a.recs ≡ b.recs → a ≡ b
same_track a b p q r =
    let flag-is : a ≡ record { flag = b.flag; r0 = a.r0; recs = a.recs } = ap (λ (t : ℕ). record { flag = t; r0 = a.r0; recs = a.recs }) p in
    let zero-is : record { flag = b.flag; r0 = a.r0; recs = a.recs } ≡ record { flag = b.flag; r0 = b.r0; recs = a.recs } = ap (λ (t : List ℕ). record { flag = b.flag; r0 = t; recs = a.recs }) q in
    flag-is ∙ zero-is ∙ ap (λ (t : List Rec). record { flag = b.flag; r0 = b.r0; recs = t }) r

track_apart : (a b : Text) (x y : List ℕ) → IsTrack a → IsTrack b → length a.recs ≤ 65535 → length b.recs ≤ 65535 → dumped_track a ++ x ≡ dumped_track b ++ y → (a ≡ b) × (x ≡ y)
track_apart a b x y p q few less e =
    let flags : a.flag ≡ b.flag = cc in
    let tails : (a.r0 ++ (big_bytes 2 (length a.recs) ++ dumped_records a.recs)) ++ x ≡ (b.r0 ++ (big_bytes 2 (length b.recs) ++ dumped_records b.recs)) ++ y = cc in
    let zeros = split_same a.r0 b.r0 ((big_bytes 2 (length a.recs) ++ dumped_records a.recs) ++ x) ((big_bytes 2 (length b.recs) ++ dumped_records b.recs) ++ y) (p.zero ∙ sym q.zero)
    (sym (append_assoc a.r0 _ x) ∙ tails ∙ append_assoc b.r0 _ y) in
    let counts = split_same (big_bytes 2 (length a.recs)) (big_bytes 2 (length b.recs)) (dumped_records a.recs ++ x) (dumped_records b.recs ++ y) refl zeros.1 in
    let recs = records_apart a.recs b.recs x y (recursion_from_All IsRecord a.recs p.records) (recursion_from_All IsRecord b.recs q.records) (two_bytes (length a.recs) (length b.recs) few less counts.0) counts.1 in
    (same_track a b flags zeros.0 recs.0, recs.1)

-- ---- pieces

pub other_mark : (a b : List ℕ) → a ≡ b → slice_index a 0 ≢ slice_index b 0 → ⊥
other_mark a b e differ = differ (ap (λ (l : List ℕ). slice_index l 0) e)

part_apart : (f1 f2 : List ℕ) (tracks tracks2 kind kind2 : ℕ) (x y : List ℕ) → IsBounded (Part f1 tracks kind) → IsBounded (Part f2 tracks2 kind2)
    → piece_text (Part f1 tracks kind) ++ x ≡ piece_text (Part f2 tracks2 kind2) ++ y → (Part f1 tracks kind ≡ Part f2 tracks2 kind2) × (x ≡ y)
part_apart f1 f2 tracks tracks2 kind kind2 x y p q e =
    let tails : (f1 ++ (big_bytes 4 tracks ++ (kind ∷ []))) ++ x ≡ (f2 ++ (big_bytes 4 tracks2 ++ (kind2 ∷ []))) ++ y = cc in
    let first = split_same f1 f2 (big_bytes 4 tracks ++ (kind ∷ x)) (big_bytes 4 tracks2 ++ (kind2 ∷ y)) (p.0 ∙ sym q.0) (sym (append_assoc f1 _ x) ∙ tails ∙ append_assoc f2 _ y) in
    let second = split_same (big_bytes 4 tracks) (big_bytes 4 tracks2) (kind ∷ x) (kind2 ∷ y) refl first.1 in
    let f-is : f1 ≡ f2 = first.0 in
    let t-is : tracks ≡ tracks2 = one_number tracks tracks2 p.1 q.1 second.0 in
    let last : kind ∷ x ≡ kind2 ∷ y = second.1 in
    let k-is : kind ≡ kind2 = cc in
    let rest : x ≡ y = cc in
    (cc, rest)

slot_apart : (number number2 : ℕ) (bytes bytes2 x y : List ℕ) → IsBounded (Slot number bytes) → IsBounded (Slot number2 bytes2)
    → piece_text (Slot number bytes) ++ x ≡ piece_text (Slot number2 bytes2) ++ y → (Slot number bytes ≡ Slot number2 bytes2) × (x ≡ y)
slot_apart number number2 bytes bytes2 x y p q e =
    let tails : big_bytes 4 number ++ (big_bytes 4 (length bytes) ++ (bytes ++ x)) ≡ big_bytes 4 number2 ++ (big_bytes 4 (length bytes2) ++ (bytes2 ++ y)) = cc in
    let first = split_same (big_bytes 4 number) (big_bytes 4 number2) _ _ refl tails in
    let second = split_same (big_bytes 4 (length bytes)) (big_bytes 4 (length bytes2)) _ _ refl first.1 in
    let n-is : number ≡ number2 = one_number number number2 p.0 q.0 first.0 in
    let long : length bytes ≡ length bytes2 = one_number (length bytes) (length bytes2) p.1 q.1 second.0 in
    let third = split_same bytes bytes2 x y long second.1 in
    let b-is : bytes ≡ bytes2 = third.0 in
    (cc, third.1)

text_apart : (a b : Text) (x y : List ℕ) → IsBounded (Track a) → IsBounded (Track b) → piece_text (Track a) ++ x ≡ piece_text (Track b) ++ y → (Track a ≡ Track b) × (x ≡ y)
text_apart a b x y p q e =
    let tails : dumped_track a ++ x ≡ dumped_track b ++ y = cc in
    let both = track_apart a b x y p.0 q.0 p.1 q.1 tails in
    (ap (λ (t : Text). Track t) both.0, both.1)

piece_apart : (a b : Piece) (x y : List ℕ) → IsBounded a → IsBounded b → piece_text a ++ x ≡ piece_text b ++ y → (a ≡ b) × (x ≡ y)
piece_apart (Part f1 tracks kind) (Part f2 tracks2 kind2) x y p q e = part_apart f1 f2 tracks tracks2 kind kind2 x y p q e
piece_apart (Part f1 tracks kind) (Track text2) x y p q e = absurd (other_mark (piece_text (Part f1 tracks kind) ++ x) (piece_text (Track text2) ++ y) e (omega arith))
piece_apart (Part f1 tracks kind) PartEnd x y p q e = absurd (other_mark (piece_text (Part f1 tracks kind) ++ x) (piece_text PartEnd ++ y) e (omega arith))
piece_apart (Part f1 tracks kind) Dropped x y p q e = absurd (other_mark (piece_text (Part f1 tracks kind) ++ x) (piece_text Dropped ++ y) e (omega arith))
piece_apart (Part f1 tracks kind) (Slot number2 bytes2) x y p q e = absurd (other_mark (piece_text (Part f1 tracks kind) ++ x) (piece_text (Slot number2 bytes2) ++ y) e (omega arith))
piece_apart (Track text) (Part f2 tracks2 kind2) x y p q e = absurd (other_mark (piece_text (Track text) ++ x) (piece_text (Part f2 tracks2 kind2) ++ y) e (omega arith))
piece_apart (Track text) (Track text2) x y p q e = text_apart text text2 x y p q e
piece_apart (Track text) PartEnd x y p q e = absurd (other_mark (piece_text (Track text) ++ x) (piece_text PartEnd ++ y) e (omega arith))
piece_apart (Track text) Dropped x y p q e = absurd (other_mark (piece_text (Track text) ++ x) (piece_text Dropped ++ y) e (omega arith))
piece_apart (Track text) (Slot number2 bytes2) x y p q e = absurd (other_mark (piece_text (Track text) ++ x) (piece_text (Slot number2 bytes2) ++ y) e (omega arith))
piece_apart PartEnd (Part f2 tracks2 kind2) x y p q e = absurd (other_mark (piece_text PartEnd ++ x) (piece_text (Part f2 tracks2 kind2) ++ y) e (omega arith))
piece_apart PartEnd (Track text2) x y p q e = absurd (other_mark (piece_text PartEnd ++ x) (piece_text (Track text2) ++ y) e (omega arith))
piece_apart PartEnd PartEnd x y p q e = (refl, (let rest : x ≡ y = cc in rest))
piece_apart PartEnd Dropped x y p q e = absurd (other_mark (piece_text PartEnd ++ x) (piece_text Dropped ++ y) e (omega arith))
piece_apart PartEnd (Slot number2 bytes2) x y p q e = absurd (other_mark (piece_text PartEnd ++ x) (piece_text (Slot number2 bytes2) ++ y) e (omega arith))
piece_apart Dropped (Part f2 tracks2 kind2) x y p q e = absurd (other_mark (piece_text Dropped ++ x) (piece_text (Part f2 tracks2 kind2) ++ y) e (omega arith))
piece_apart Dropped (Track text2) x y p q e = absurd (other_mark (piece_text Dropped ++ x) (piece_text (Track text2) ++ y) e (omega arith))
piece_apart Dropped PartEnd x y p q e = absurd (other_mark (piece_text Dropped ++ x) (piece_text PartEnd ++ y) e (omega arith))
piece_apart Dropped Dropped x y p q e = (refl, (let rest : x ≡ y = cc in rest))
piece_apart Dropped (Slot number2 bytes2) x y p q e = absurd (other_mark (piece_text Dropped ++ x) (piece_text (Slot number2 bytes2) ++ y) e (omega arith))
piece_apart (Slot number bytes) (Part f2 tracks2 kind2) x y p q e = absurd (other_mark (piece_text (Slot number bytes) ++ x) (piece_text (Part f2 tracks2 kind2) ++ y) e (omega arith))
piece_apart (Slot number bytes) (Track text2) x y p q e = absurd (other_mark (piece_text (Slot number bytes) ++ x) (piece_text (Track text2) ++ y) e (omega arith))
piece_apart (Slot number bytes) PartEnd x y p q e = absurd (other_mark (piece_text (Slot number bytes) ++ x) (piece_text PartEnd ++ y) e (omega arith))
piece_apart (Slot number bytes) Dropped x y p q e = absurd (other_mark (piece_text (Slot number bytes) ++ x) (piece_text Dropped ++ y) e (omega arith))
piece_apart (Slot number bytes) (Slot number2 bytes2) x y p q e = slot_apart number number2 bytes bytes2 x y p q e

pub pieces_delimited : SelfDelimiting piece_text IsBounded
pieces_delimited = record { apart = piece_apart }

-- no piece begins as the trailer does
pub no_trailer : (piece : Piece) (x : List ℕ) → IsBounded piece → ¬ Begins (0x5A ∷ []) (piece_text piece ++ x)
no_trailer (Part f1 tracks kind) x p (more, e) = other_mark (piece_text (Part f1 tracks kind) ++ x) (0x5A ∷ more) e (omega arith)
no_trailer (Track text) x p (more, e) = other_mark (piece_text (Track text) ++ x) (0x5A ∷ more) e (omega arith)
no_trailer PartEnd x p (more, e) = other_mark (piece_text PartEnd ++ x) (0x5A ∷ more) e (omega arith)
no_trailer Dropped x p (more, e) = other_mark (piece_text Dropped ++ x) (0x5A ∷ more) e (omega arith)
no_trailer (Slot number bytes) x p (more, e) = other_mark (piece_text (Slot number bytes) ++ x) (0x5A ∷ more) e (omega arith)

pub pieces_split : (as' bs : List Piece) (x y : List ℕ) → All IsBounded as' → All IsBounded bs → Begins (0x5A ∷ []) x → Begins (0x5A ∷ []) y
    → pieces_text as' ++ x ≡ pieces_text bs ++ y → (as' ≡ bs) × (x ≡ y)
pieces_split as' bs x y p q u v e = texts_split piece_text IsBounded (Begins (0x5A ∷ [])) pieces_delimited no_trailer as' bs x y p q u v e
