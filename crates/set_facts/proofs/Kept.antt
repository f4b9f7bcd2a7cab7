-- The facts of a data set are those of its format 1.
use Rattle.std.proofs.Common.{◌≡◌, ℕ, ◌+◌, ◌*◌, ◌/◌, ◌<◌, ◌==◌, List, length, get_or, subst, arith}
use Rattle.std.specs.Prelude.{not, bit_and}
use Rattle.volume_model.specs.Dscbs.{number_at}
use Rattle.volume_model.specs.Reads.{fields_of_1}
use Rattle.volume_model.proofs.Fields.{field_ahead, field_behind}
use Rattle.set_facts.specs.Facts.{day_at, kind_of_bits, facts_from, expiry_in}

module _ (f1 : List ℕ) (long : length f1 ≡ 140) where
  number_ahead : (k : ℕ) → k + 1 < 59 → number_at (fields_of_1 f1) k ≡ number_at f1 k
  number_ahead k less = λ i. 256 * field_ahead f1 long k (omega (arith, less)) i + field_ahead f1 long (k + 1) less i

  next_behind : (k : ℕ) → k + 1 < 45 → get_or (fields_of_1 f1) (60 + k + 1) 0 ≡ get_or f1 (60 + k + 1) 0
  next_behind k less =
      let same : 60 + (k + 1) ≡ 60 + k + 1 = omega arith in
      subst (λ (n : ℕ). get_or (fields_of_1 f1) n 0 ≡ get_or f1 n 0) same (field_behind f1 long (k + 1) less)

  number_behind : (k : ℕ) → k + 1 < 45 → number_at (fields_of_1 f1) (60 + k) ≡ number_at f1 (60 + k)
  number_behind k less = λ i. 256 * field_behind f1 long k (omega (arith, less)) i + next_behind k less i

  day_ahead : (k : ℕ) → k + 2 < 59 → day_at (fields_of_1 f1) k ≡ day_at f1 k
  day_ahead k less = λ i. record { year = 1900 + field_ahead f1 long k (omega (arith, less)) i; day = number_ahead (k + 1) (omega (arith, less)) i }

  pub expiry_kept : expiry_in (fields_of_1 f1) ≡ expiry_in f1
  expiry_kept = day_ahead 56 (omega arith)

  referred_kept : day_at (fields_of_1 f1) 75 ≡ day_at f1 75
  referred_kept = λ i. record { year = 1900 + field_behind f1 long 15 (omega arith) i; day = number_behind 16 (omega arith) i }

  pub facts_kept : (extents tracks : ℕ) → facts_from (fields_of_1 f1) extents tracks ≡ facts_from f1 extents tracks
  facts_kept extents tracks = λ i. record {
    dsorg = number_behind 22 (omega arith) i;
    created = day_ahead 53 (omega arith) i;
    expires = expiry_kept i;
    referred = referred_kept i;
    extents = extents;
    tracks = tracks;
    changed = not (bit_and (field_behind f1 long 33 (omega arith) i) 0x02 == 0);
    alloc_kind = kind_of_bits (field_behind f1 long 34 (omega arith) i / 64);
    sequence = number_ahead 51 (omega arith) i;
  }
