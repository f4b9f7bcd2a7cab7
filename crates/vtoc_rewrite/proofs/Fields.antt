-- Format 4s with the same fields say the same of the volume.
use Rattle.std.proofs.Common.{◌≡◌, ℕ, ◌+◌, ◌*◌, ◌<◌, List, ◌∷◌, ◌++◌, length, take, drop, get_or, sym, ap, ◌∙◌, arith}
use Rattle.std.specs.Prelude.{bit_and, replicate}
use Rattle.std.proofs.lemmas.List.{length-take-le, length-drop, get_or-take, get_or-drop, drop_at, take_at, drop-drop}
use Rattle.volume_model.specs.Dscbs.{number_at, extent_at}
use Rattle.volume_model.specs.Reads.{fields_of_4}

-- ---- the fields are bytes of the format 4

abbrev indicators_on : List ℕ → List ℕ
indicators_on bytes = bit_and (get_or bytes 58 0) 0x7B ∷ drop 59 bytes

from_52 : (bytes : List ℕ) → length bytes ≡ 140 → drop 52 (fields_of_4 bytes) ≡ take 6 (drop 52 bytes) ++ indicators_on bytes
from_52 bytes long =
    sym (drop-drop 7 45 (fields_of_4 bytes))
    ∙ ap (drop 7) (drop_at (take 45 bytes) (replicate 7 0 ++ (take 6 (drop 52 bytes) ++ indicators_on bytes)) 45 (length-take-le 45 bytes (omega (arith, long))))

long_6 : (bytes : List ℕ) → length bytes ≡ 140 → length (take 6 (drop 52 bytes)) ≡ 6
long_6 bytes long = length-take-le 6 (drop 52 bytes) (omega (arith, long, length-drop 52 bytes))

next_6 : (bytes : List ℕ) → length bytes ≡ 140 → take 6 (drop 52 (fields_of_4 bytes)) ≡ take 6 (drop 52 bytes)
next_6 bytes long = ap (take 6) (from_52 bytes long) ∙ take_at (take 6 (drop 52 bytes)) (indicators_on bytes) 6 (long_6 bytes long)

from_59 : (bytes : List ℕ) → length bytes ≡ 140 → drop 59 (fields_of_4 bytes) ≡ drop 59 bytes
from_59 bytes long =
    sym (drop-drop 7 52 (fields_of_4 bytes)) ∙ ap (drop 7) (from_52 bytes long)
    ∙ sym (drop-drop 1 6 (take 6 (drop 52 bytes) ++ indicators_on bytes)) ∙ ap (drop 1) (drop_at (take 6 (drop 52 bytes)) (indicators_on bytes) 6 (long_6 bytes long))

-- ---- so they say the same

pub record SaysSameVolume (old new : List ℕ) : Type 0 where
  pub alternates : number_at new 56 ≡ number_at old 56
  pub cylinders : number_at new 62 ≡ number_at old 62
  pub heads : number_at new 64 ≡ number_at old 64
  pub extent : extent_at new 105 ≡ extent_at old 105

module _ (old new : List ℕ) (old_long : length old ≡ 140) (new_long : length new ≡ 140) (same : fields_of_4 new ≡ fields_of_4 old) where
  near : (k : ℕ) → k < 6 → get_or new (52 + k) 0 ≡ get_or old (52 + k) 0
  near k less =
      let both : take 6 (drop 52 new) ≡ take 6 (drop 52 old) = sym (next_6 new new_long) ∙ ap (λ (bytes : List ℕ). take 6 (drop 52 bytes)) same ∙ next_6 old old_long in
      sym (get_or-take 6 (drop 52 new) k 0 less ∙ get_or-drop 52 new k 0) ∙ ap (λ (bytes : List ℕ). get_or bytes k 0) both
      ∙ get_or-take 6 (drop 52 old) k 0 less ∙ get_or-drop 52 old k 0

  far : (k : ℕ) → get_or new (59 + k) 0 ≡ get_or old (59 + k) 0
  far k =
      let both : drop 59 new ≡ drop 59 old = sym (from_59 new new_long) ∙ ap (drop 59) same ∙ from_59 old old_long in
      sym (get_or-drop 59 new k 0) ∙ ap (λ (bytes : List ℕ). get_or bytes k 0) both ∙ get_or-drop 59 old k 0

  pub same_volume : SaysSameVolume old new
  same_volume = record {
    alternates = (λ i. 256 * near 4 (omega arith) i + near 5 (omega arith) i);
    cylinders = (λ i. 256 * far 3 i + far 4 i);
    heads = (λ i. 256 * far 5 i + far 6 i);
    extent = (λ i. record {
      kind = far 46 i;
      first = record { cylinder = 256 * far 48 i + far 49 i; head = 256 * far 50 i + far 51 i };
      last = record { cylinder = 256 * far 52 i + far 53 i; head = 256 * far 54 i + far 55 i };
    });
  }
