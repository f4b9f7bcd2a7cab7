-- A part as a chain of fields, and why it isn't read, from each field on.
use Rattle.std.proofs.Common.{◌≡◌, ℕ, zero, suc, ◌+◌, ◌≤◌, List, [], ◌∷◌, ◌++◌, length, take, drop, replicate, Option, refl, sym, ap, subst, ◌∙◌, arith, length-append, length-drop, append_assoc}
use Rattle.std.specs.Prelude.{slice_index}
use Rattle.std.proofs.Math.Seq.{drop-cons, drop-append-add}
use Rattle.std.proofs.lemmas.List.{take-append-drop, drop-drop, length-take}
use Rattle.byteorder.specs.Endian.{big_bytes}
use Rattle.dump_fmt.specs.Parts.{IsPlaceless}
use Rattle.dump_read.specs.PartText.{IsNextName, IsKind, IsPartText}
use Rattle.dump_read.proofs.Chains.{Then}

-- what may stand from each field on
abbrev pub FromKind : List ℕ → Type 0
FromKind = Then IsKind (λ kind. kind ∷ []) (λ kind r. r ≡ [])

abbrev pub FromTracks : List ℕ → Type 0
FromTracks = Then (λ tracks. tracks ≤ 65535) (big_bytes 4) (λ tracks. FromKind)

abbrev pub FromZeros : List ℕ → Type 0
FromZeros = Then {X = Unit {0}} (λ x. Unit {0}) (λ x. replicate 35 0) (λ x. FromTracks)

abbrev pub FromMiddle : List ℕ → Type 0
FromMiddle = Then {X = List ℕ} (λ l. length l ≡ 45) (λ l. l) (λ l. FromZeros)

abbrev pub FromCount : List ℕ → Type 0
FromCount = Then {X = Unit {0}} (λ x. Unit {0}) (λ x. 0 ∷ []) (λ x. FromMiddle)

abbrev pub FromFirst : List ℕ → Type 0
FromFirst = Then {X = List ℕ} (λ l. length l ≡ 14) (λ l. l) (λ l. FromCount)

abbrev pub FromFormat : List ℕ → Type 0
FromFormat = Then {X = Unit {0}} (λ x. Unit {0}) (λ x. 0xF1 ∷ []) (λ x. FromFirst)

abbrev pub FromName : Option (List ℕ) → List ℕ → Type 0
FromName before = Then (IsNextName before) (λ name. name) (λ name. FromFormat)

-- ---- a part is such a chain

parted : (f1 : List ℕ) → IsPlaceless f1 → (first : List ℕ) × (middle : List ℕ) × (length first ≡ 14) × (length middle ≡ 45) × (drop 44 f1 ≡ 0xF1 ∷ (first ++ (0 ∷ (middle ++ replicate 35 0))))
parted f1 is =
    let long = is.long in
    let format : drop 44 f1 ≡ slice_index f1 44 ∷ drop 45 f1 = drop-cons f1 44 0 (omega arith) in
    let count : drop 59 f1 ≡ slice_index f1 59 ∷ drop 60 f1 = drop-cons f1 59 0 (omega arith) in
    let first : List ℕ = take 14 (drop 45 f1) in
    let middle : List ℕ = take 45 (drop 60 f1) in
    let a : length first ≡ 14 = omega (arith, length-take 14 (drop 45 f1), length-drop 45 f1) in
    let b : length middle ≡ 45 = omega (arith, length-take 45 (drop 60 f1), length-drop 60 f1) in
    let extents : drop 60 f1 ≡ middle ++ replicate 35 0 = sym (take-append-drop 45 (drop 60 f1)) ∙ ap (λ (t : List ℕ). middle ++ t) (drop-drop 45 60 f1 ∙ is.no_extents) in
    let behind : drop 45 f1 ≡ first ++ (0 ∷ (middle ++ replicate 35 0)) =
    sym (take-append-drop 14 (drop 45 f1)) ∙ ap (λ (t : List ℕ). first ++ t) (drop-drop 14 45 f1 ∙ count ∙ ap (λ (n : ℕ). n ∷ drop 60 f1) is.no_count ∙ ap (λ (t : List ℕ). 0 ∷ t) extents) in
    (first, middle, a, b, format ∙ ap (λ (n : ℕ). n ∷ drop 45 f1) is.format ∙ ap (λ (t : List ℕ). 0xF1 ∷ t) behind)

pub chain_of : (before : Option (List ℕ)) (text : List ℕ) → IsPartText before text → FromName before text
chain_of before text is =
    let parts = parted is.f1 is.placeless in
    let last : List ℕ = big_bytes 4 is.tracks ++ (is.kind ∷ []) in
    let all : is.f1 ≡ take 44 is.f1 ++ (0xF1 ∷ (parts.0 ++ (0 ∷ (parts.1 ++ replicate 35 0)))) = sym (take-append-drop 44 is.f1) ∙ ap (λ (t : List ℕ). take 44 is.f1 ++ t) parts.4 in
    let inner : (parts.0 ++ (0 ∷ (parts.1 ++ replicate 35 0))) ++ last ≡ parts.0 ++ (0 ∷ (parts.1 ++ (replicate 35 0 ++ last))) =
    append_assoc parts.0 (0 ∷ (parts.1 ++ replicate 35 0)) last ∙ ap (λ (t : List ℕ). parts.0 ++ (0 ∷ t)) (append_assoc parts.1 (replicate 35 0) last) in
    let spelled : text ≡ take 44 is.f1 ++ (0xF1 ∷ (parts.0 ++ (0 ∷ (parts.1 ++ (replicate 35 0 ++ last))))) =
    is.spelled ∙ ap (λ (t : List ℕ). t ++ last) all ∙ append_assoc (take 44 is.f1) (0xF1 ∷ (parts.0 ++ (0 ∷ (parts.1 ++ replicate 35 0)))) last
    ∙ ap (λ (t : List ℕ). take 44 is.f1 ++ (0xF1 ∷ t)) inner in
    record {
      value = take 44 is.f1;
      may = is.name;
      rest = 0xF1 ∷ (parts.0 ++ (0 ∷ (parts.1 ++ (replicate 35 0 ++ last))));
      spelled = spelled;
      behind = record {
        value = tt;
        may = tt;
        rest = parts.0 ++ (0 ∷ (parts.1 ++ (replicate 35 0 ++ last)));
        spelled = refl;
        behind = record {
          value = parts.0;
          may = parts.2;
          rest = 0 ∷ (parts.1 ++ (replicate 35 0 ++ last));
          spelled = refl;
          behind = record {
            value = tt;
            may = tt;
            rest = parts.1 ++ (replicate 35 0 ++ last);
            spelled = refl;
            behind = record {
              value = parts.1;
              may = parts.3;
              rest = replicate 35 0 ++ last;
              spelled = refl;
              behind = record {
                value = tt;
                may = tt;
                rest = last;
                spelled = refl;
                behind = record {
                  value = is.tracks;
                  may = is.few;
                  rest = is.kind ∷ [];
                  spelled = refl;
                  behind = record { value = is.kind; may = is.kind_is; rest = []; behind = refl; spelled = refl };
                };
              };
            };
          };
        };
      };
    }

pub at_index : (v w : List ℕ) (n k : ℕ) → length v ≡ n → slice_index (v ++ w) (n + k) ≡ slice_index w k
at_index [] w n k long = ap (slice_index w) (let e : n + k ≡ k = omega arith in e)
at_index (x ∷ v) w zero k long = absurd (omega arith)
at_index (x ∷ v) w (suc n) k long = ap (slice_index (x ∷ (v ++ w))) (let e : suc n + k ≡ suc (n + k) = omega arith in e) ∙ at_index v w n k (omega arith)

behind_length : (v w : List ℕ) (n k : ℕ) → length v ≡ n → drop (n + k) (v ++ w) ≡ drop k w
behind_length v w n k long = ap (λ (m : ℕ). drop (m + k) (v ++ w)) (sym long) ∙ drop-append-add v w k

pub take_length : (v w : List ℕ) (n : ℕ) → length v ≡ n → take n (v ++ w) ≡ v
take_length [] w zero long = refl
take_length [] w (suc n) long = absurd (omega arith)
take_length (x ∷ v) w zero long = absurd (omega arith)
take_length (x ∷ v) w (suc n) long = ap (λ (t : List ℕ). x ∷ t) (take_length v w n (omega arith))

pub placeless : (name first middle : List ℕ) → length name ≡ 44 → length first ≡ 14 → length middle ≡ 45 → IsPlaceless (name ++ (0xF1 ∷ (first ++ (0 ∷ (middle ++ replicate 35 0)))))
placeless name first middle a b c =
    let extents : List ℕ = middle ++ replicate 35 0 in
    let behind : List ℕ = first ++ (0 ∷ extents) in
    record {
      long = (let d = length-append name (0xF1 ∷ behind) in let e = length-append first (0 ∷ extents) in let f = length-append middle (replicate 35 0) in omega arith);
      format = at_index name (0xF1 ∷ behind) 44 0 a;
      no_count = at_index name (0xF1 ∷ behind) 44 15 a ∙ at_index first (0 ∷ extents) 14 0 b;
      no_extents = behind_length name (0xF1 ∷ behind) 44 61 a ∙ behind_length first (0 ∷ extents) 14 46 b ∙ behind_length middle (replicate 35 0) 45 0 c;
    }

pub part_of : (before : Option (List ℕ)) (text : List ℕ) → FromName before text → IsPartText before text
part_of before text is =
    let format = is.behind in
    let first = format.behind in
    let count = first.behind in
    let middle = count.behind in
    let zeros = middle.behind in
    let tracks = zeros.behind in
    let kind = tracks.behind in
    let last : List ℕ = big_bytes 4 tracks.value ++ (kind.value ∷ []) in
    let f1 : List ℕ = is.value ++ (0xF1 ∷ (first.value ++ (0 ∷ (middle.value ++ replicate 35 0)))) in
    let inner : (first.value ++ (0 ∷ (middle.value ++ replicate 35 0))) ++ last ≡ first.value ++ (0 ∷ (middle.value ++ (replicate 35 0 ++ last))) =
    append_assoc first.value (0 ∷ (middle.value ++ replicate 35 0)) last ∙ ap (λ (t : List ℕ). first.value ++ (0 ∷ t)) (append_assoc middle.value (replicate 35 0) last) in
    let back : f1 ++ last ≡ is.value ++ (0xF1 ∷ (first.value ++ (0 ∷ (middle.value ++ (replicate 35 0 ++ last))))) =
    append_assoc is.value (0xF1 ∷ (first.value ++ (0 ∷ (middle.value ++ replicate 35 0)))) last ∙ ap (λ (t : List ℕ). is.value ++ (0xF1 ∷ t)) inner in
    let e7 : tracks.rest ≡ kind.value ∷ [] = kind.spelled ∙ ap (λ (t : List ℕ). kind.value ∷ t) kind.behind in
    let e6 : zeros.rest ≡ last = tracks.spelled ∙ ap (λ (t : List ℕ). big_bytes 4 tracks.value ++ t) e7 in
    let e5 : middle.rest ≡ replicate 35 0 ++ last = zeros.spelled ∙ ap (λ (t : List ℕ). replicate 35 0 ++ t) e6 in
    let e4 : count.rest ≡ middle.value ++ (replicate 35 0 ++ last) = middle.spelled ∙ ap (λ (t : List ℕ). middle.value ++ t) e5 in
    let e3 : first.rest ≡ 0 ∷ (middle.value ++ (replicate 35 0 ++ last)) = count.spelled ∙ ap (λ (t : List ℕ). 0 ∷ t) e4 in
    let e2 : format.rest ≡ first.value ++ (0 ∷ (middle.value ++ (replicate 35 0 ++ last))) = first.spelled ∙ ap (λ (t : List ℕ). first.value ++ t) e3 in
    let e1 : is.rest ≡ 0xF1 ∷ (first.value ++ (0 ∷ (middle.value ++ (replicate 35 0 ++ last)))) = format.spelled ∙ ap (λ (t : List ℕ). 0xF1 ∷ t) e2 in
    record {
      f1 = f1;
      tracks = tracks.value;
      kind = kind.value;
      name = subst (IsNextName before) (sym (take_length is.value (0xF1 ∷ (first.value ++ (0 ∷ (middle.value ++ replicate 35 0)))) 44 is.may.long)) is.may;
      placeless = placeless is.value first.value middle.value is.may.long first.may middle.may;
      few = tracks.may;
      kind_is = kind.may;
      spelled = is.spelled ∙ ap (λ (t : List ℕ). is.value ++ t) e1 ∙ sym back;
    }
