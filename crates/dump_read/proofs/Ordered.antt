-- Names in their order: one behind the last is behind all.
use Rattle.std.proofs.Common.{◌≡◌, ℕ, zero, suc, ◌<◌, Bool, true, false, List, [], ◌∷◌, ◌++◌, length, IsTrue, refl, sym, ◌∙◌, arith}
use Rattle.std.specs.Prelude.{slice_index_or}
use Rattle.std.specs.List.{AllPairs}
use Rattle.std.specs.Cmp.{IsStrictWeakOrder}
use Rattle.std.specs.Ordering.{is_lt, nat_cmp}
use Rattle.std.specs.Cmp.Lexicographic.{slice_cmp}
use Rattle.std.proofs.lemmas.Cmp.{nat_list_cmp_total}
use Rattle.std.proofs.lemmas.List.MinMax.{ranks_by}
use Rattle.dump_fmt.specs.Parts.{DumpPart}
use Rattle.dump_read.specs.PartText.{IsBehind}
use Rattle.dump_read.specs.Standing.{last_name, name_of}
use Rattle.dump_read.proofs.OnWay.{Precedes}

name_chain : (a b c : List ℕ) → IsTrue (is_lt (slice_cmp nat_cmp a b)) → IsTrue (is_lt (slice_cmp nat_cmp b c)) → IsTrue (is_lt (slice_cmp nat_cmp a c))
name_chain a b c first second = by (is_lt (slice_cmp nat_cmp a c)) refl
  where
    by : (less : Bool) → is_lt (slice_cmp nat_cmp a c) ≡ less → less ≡ true
    by true is = refl
    by false is =
        let ranks : IsStrictWeakOrder (λ (x y : List ℕ). is_lt (slice_cmp nat_cmp x y)) = ranks_by nat_list_cmp_total (λ (name : List ℕ). name) in
        let back : is_lt (slice_cmp nat_cmp c b) ≡ false = ranks.one_way b c second in
        let none : is_lt (slice_cmp nat_cmp a b) ≡ false = ranks.chain a c b is back in
        let wrong : true ≡ false = sym first ∙ none in
        cc

tail_pairs : (x : DumpPart) (xs : List DumpPart) → AllPairs Precedes (x ∷ xs) → AllPairs Precedes xs
tail_pairs x xs is = λ i j d before within. is (suc i) (suc j) d (omega (arith, before)) (omega (arith, within))

-- a name behind the last one is behind each
pub behind_each : (parts : List DumpPart) (name : List ℕ) → AllPairs Precedes parts → IsBehind (last_name parts) name
    → (k : ℕ) (d : DumpPart) → k < length parts → IsTrue (is_lt (slice_cmp nat_cmp (name_of (slice_index_or parts k d)) name))
behind_each [] name order behind k d within = absurd (omega (arith, within))
behind_each (x ∷ []) name order behind zero d within = behind
behind_each (x ∷ []) name order behind (suc k) d within = absurd (omega (arith, within))
behind_each (x ∷ (y ∷ more)) name order behind zero d within =
    let next = behind_each (y ∷ more) name (tail_pairs x (y ∷ more) order) behind zero d (omega arith) in
    name_chain (name_of x) (name_of y) name (order 0 1 d (omega arith) (omega arith)) next
behind_each (x ∷ (y ∷ more)) name order behind (suc k) d within = behind_each (y ∷ more) name (tail_pairs x (y ∷ more) order) behind k d (omega (arith, within))

-- the last of some names in their order is behind the one before it
pub last_behind : (parts : List DumpPart) (part : DumpPart) → AllPairs Precedes (parts ++ part ∷ []) → IsBehind (last_name parts) (name_of part)
last_behind [] part order = tt
last_behind (x ∷ []) part order = order 0 1 x (omega arith) (omega arith)
last_behind (x ∷ (y ∷ more)) part order = last_behind (y ∷ more) part (tail_pairs x ((y ∷ more) ++ part ∷ []) order)
