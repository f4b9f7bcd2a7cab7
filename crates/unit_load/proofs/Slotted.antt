-- Slots of a run of tracks, one after another.
use Rattle.std.proofs.Common.{◌≡◌, inl, inr, ℕ, ◌+◌, ◌-◌, ◌*◌, ◌<◌, ◌≤◌, List, ◌++◌, length, take, drop, sym, ap, subst, ◌∙◌, arith, length-append}
use Rattle.std.proofs.lemmas.List.{take_all, drop-append-le, take-append-le, length-drop}
use Rattle.std.proofs.lemmas.Bool.{cases_eq}
use Rattle.std.proofs.Math.Seq.{drop-append_seam}
use Rattle.free_map.specs.declared.run.Run.{Run}
use Rattle.vtoc_check.specs.Slots.{slot_in}

-- the slot at a place of slots of one size
abbrev pub nth_slot : ℕ → List ℕ → ℕ → List ℕ
nth_slot size slots place = take size (drop (place * size) slots)

pub run_slot : (run : Run) (size : ℕ) (slots : List ℕ) (place : ℕ) → slot_in run size slots (run.first + place) ≡ nth_slot size slots place
run_slot run size slots place =
    let same : run.first + place - run.first ≡ place = omega arith in
    ap (λ (n : ℕ). take size (drop (n * size) slots)) same

-- the one that is added
pub slot_added : (size place : ℕ) (old slot : List ℕ) → length old ≡ place * size → length slot ≡ size → nth_slot size (old ++ slot) place ≡ slot
slot_added size place old slot before long =
    ap (λ (n : ℕ). take size (drop n (old ++ slot))) (sym before) ∙ (ap (λ (l : List ℕ). take size l) (drop-append_seam old slot) ∙ take_all size slot (omega (arith, long)))

pub more_places : (place other size : ℕ) → other < place → other * size + size ≤ place * size
more_places place other size less =
    let rest : place ≡ other + 1 + (place - other - 1) = omega (arith, less) in
    subst (λ (n : ℕ). other * size + size ≤ n * size) (sym rest) (grind arith)

-- and the others
pub slot_kept : (size place other : ℕ) (old slot : List ℕ) → length old ≡ place * size → other < place → nth_slot size (old ++ slot) other ≡ nth_slot size old other
slot_kept size place other old slot before less =
    let within : other * size + size ≤ place * size = more_places place other size less in
    ap (λ (l : List ℕ). take size l) (drop-append-le (other * size) old slot (omega (arith, within, before)))
    ∙ take-append-le size (drop (other * size) old) slot (omega (arith, within, before, length-drop (other * size) old))

pub one_more : (place size : ℕ) → (place + 1) * size ≡ place * size + size
one_more place size = grind arith

pub long_added : (size place : ℕ) (old slot new : List ℕ) → new ≡ old ++ slot → length old ≡ place * size → length slot ≡ size → length new ≡ (place + 1) * size
long_added size place old slot new is before long = omega (arith, ap length is, length-append old slot, before, long, one_more place size)

-- what holds of the slot that is added, and held of each of the others, holds of each
pub slots_more : (P : ℕ → List ℕ → Type 0) (size place k : ℕ) (old slot new : List ℕ) → new ≡ old ++ slot → length old ≡ place * size → length slot ≡ size → P place slot
    → ((k : ℕ) → k < place → P k (nth_slot size old k)) → k < place + 1 → P k (nth_slot size new k)
slots_more P size place k old slot new is before long at_place others less = elim (cases_eq k place) [
  | inl same ↦
      let here : nth_slot size new place ≡ slot = ap (λ (l : List ℕ). nth_slot size l place) is ∙ slot_added size place old slot before long in
      subst (λ (n : ℕ). P n (nth_slot size new n)) (sym same) (subst (λ (l : List ℕ). P place l) (sym here) at_place)
  | inr apart ↦
      let below : k < place = omega (arith, less, apart) in
      let there : nth_slot size new k ≡ nth_slot size old k = ap (λ (l : List ℕ). nth_slot size l k) is ∙ slot_kept size place k old slot before below in
      subst (λ (l : List ℕ). P k l) (sym there) (others k below)
]
