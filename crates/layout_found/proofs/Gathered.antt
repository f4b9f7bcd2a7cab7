-- Steps along linked records.
use Rattle.std.proofs.Common.{◌≡◌, ℕ, ◌+◌, ◌<◌, ◌≤◌, List, [], ◌∷◌, ◌++◌, length, Option, Some, None, refl, sym, ap, subst, ◌∙◌, arith, append_assoc, length-append}
use Rattle.std.specs.Prelude.{IfSome, IfNone}
use Rattle.std.proofs.lemmas.List.{append-nil}
use Rattle.volume_model.specs.declared.place.Placed.{Placed}
use Rattle.volume_model.specs.Dscbs.{pointer_in}
use Rattle.volume_model.specs.Directory.{named_record}
use Rattle.vtoc_check.specs.Reach.{record_in}
use Rattle.vtoc_layout.specs.Layout.{IsLinked}

-- what is gathered of linked records, and what is left behind the last of them
pub record IsFront (heads : ℕ) (records gathered : List Placed) (last : List ℕ) (linked : List Placed) : Type 0 where
  left : List Placed
  is : linked ≡ gathered ++ left
  on : IsLinked heads records last left

-- so far: what is gathered behind what was there, and the record that the last pointer names
pub record IsGathered (heads : ℕ) (records : List Placed) (bytes : List ℕ) (before : List Placed) (step : ℕ) (now : List Placed) (at : Option ℕ) : Type 0 where
  pub gathered : List Placed
  pub last : List ℕ
  pub now_is : now ≡ before ++ gathered
  pub long : length gathered ≡ step
  pub found : IfSome at (λ k. (k < length records) × (named_record heads records (pointer_in last) ≡ Some (record_in records k)))
  pub none : IfNone at (named_record heads records (pointer_in last) ≡ None)
  pub front : (linked : List Placed) → IsLinked heads records bytes linked → IsFront heads records gathered last linked

pub gather_begins : (heads : ℕ) (records : List Placed) (bytes : List ℕ) (before : List Placed) (at : Option ℕ)
    → IfSome at (λ k. (k < length records) × (named_record heads records (pointer_in bytes) ≡ Some (record_in records k))) → IfNone at (named_record heads records (pointer_in bytes) ≡ None)
    → IsGathered heads records bytes before 0 before at
gather_begins heads records bytes before at f n = record {
  gathered = [];
  last = bytes;
  now_is = sym (append-nil before);
  long = refl;
  found = f;
  none = n;
  front = λ linked h. record { left = linked; is = refl; on = h };
}

no_pointer : (heads : ℕ) (records : List Placed) (bytes : List ℕ) (next : Placed) → pointer_in bytes ≡ None → named_record heads records (pointer_in bytes) ≡ Some next → ⊥
no_pointer heads records bytes next none some =
    let nothing : Option Placed = None in
    let q : nothing ≡ Some next = sym (ap (named_record heads records) none) ∙ some in
    let r : ⊥ = cc in
    r

pub gather_more : (heads : ℕ) (records : List Placed) (bytes : List ℕ) (before : List Placed) (step : ℕ) (now pushed : List Placed) (k : ℕ) (next : Option ℕ) → pushed ≡ now ++ record_in records k ∷ []
    → IfSome next (λ j. (j < length records) × (named_record heads records (pointer_in (record_in records k).bytes) ≡ Some (record_in records j)))
    → IfNone next (named_record heads records (pointer_in (record_in records k).bytes) ≡ None) → IsGathered heads records bytes before step now (Some k)
    → IsGathered heads records bytes before (step + 1) pushed next
gather_more heads records bytes before step now pushed k next is f n h = record {
  gathered = h.gathered ++ placed ∷ [];
  last = placed.bytes;
  now_is = is ∙ ap (λ (found : List Placed). found ++ placed ∷ []) h.now_is ∙ append_assoc before h.gathered (placed ∷ []);
  long = omega (arith, length-append h.gathered (placed ∷ []), h.long);
  found = f;
  none = n;
  front = λ linked l. let whole = h.front linked l in by linked whole.left whole.is whole.on;
}
  where
    placed : Placed
    placed = record_in records k

    by : (linked left : List Placed) → linked ≡ h.gathered ++ left → IsLinked heads records h.last left → IsFront heads records (h.gathered ++ placed ∷ []) placed.bytes linked
    by linked [] e on = absurd (no_pointer heads records h.last placed on h.found.1)
    by linked (other ∷ left) e on =
        let both : Some other ≡ Some placed = sym on.0 ∙ h.found.1 in
        let same : other ≡ placed = cc in
        let P : Placed → Type 0 = λ p. IsLinked heads records p.bytes left in
        record {
          left = left;
          is = e ∙ ap (λ (p : Placed). h.gathered ++ (p ∷ left)) same ∙ sym (append_assoc h.gathered (placed ∷ []) left);
          on = subst P same on.1;
        }

all_gathered : (before gathered now linked left : List Placed) → now ≡ before ++ gathered → linked ≡ gathered ++ left → left ≡ [] → now ≡ before ++ linked
all_gathered before gathered now linked left is e none = is ∙ ap (λ (found : List Placed). before ++ found) (sym (e ∙ ap (λ (found : List Placed). gathered ++ found) none ∙ append-nil gathered))

pub gather_ends : (heads : ℕ) (records : List Placed) (bytes : List ℕ) (before : List Placed) (step : ℕ) (now : List Placed) → IsGathered heads records bytes before step now None
    → (linked : List Placed) → IsLinked heads records bytes linked → length linked ≤ length records → now ≡ before ++ linked
gather_ends heads records bytes before step now h linked l few =
    let whole = h.front linked l in
    all_gathered before h.gathered now linked whole.left h.now_is whole.is (by whole.left whole.on)
  where
    by : (left : List Placed) → IsLinked heads records h.last left → left ≡ []
    by [] on = refl
    by (other ∷ left) on = absurd (let nothing : Option Placed = None in let q : nothing ≡ Some other = sym h.none ∙ on.0 in let r : ⊥ = cc in r)

pub gather_over : (heads : ℕ) (records : List Placed) (bytes : List ℕ) (before : List Placed) (step : ℕ) (now : List Placed) (at : Option ℕ) → length records ≤ step
    → IsGathered heads records bytes before step now at → (linked : List Placed) → IsLinked heads records bytes linked → length linked ≤ length records → now ≡ before ++ linked
gather_over heads records bytes before step now at over h linked l few =
    let whole = h.front linked l in
    all_gathered before h.gathered now linked whole.left h.now_is whole.is (by whole.left whole.is)
  where
    by : (left : List Placed) → linked ≡ h.gathered ++ left → left ≡ []
    by [] e = refl
    by (other ∷ left) e = absurd (omega (arith, ap length e, length-append h.gathered (other ∷ left), h.long, over, few))
