-- Blocks that fit a track have room in its slot.
use Rattle.std.proofs.Common.{◌≡◌, ℕ, ◌+◌, ◌*◌, ◌≤◌, inl, inr, List, [], ◌∷◌, ◌++◌, length, map, All, refl, sym, subst, arith, length-append}
use Rattle.std.specs.List.{flat_map, enumerate_from, AllByRecursion}
use Rattle.std.proofs.lemmas.Bool.{cases_eq}
use Rattle.std.proofs.lemmas.Bool.Decides.{nat_tests}
use Rattle.std.proofs.lemmas.List.Sums.{sum_by-cons}
use Rattle.std.proofs.lemmas.List.Elements.{All-nil, All-cons, All-head, All-tail, recursion_from_All, All-from_recursion}
use Rattle.ckd_image.specs.declared.device.Device.{Device}
use Rattle.ckd_image.specs.declared.device.Device.TheVariants.{D3390, D3380, D3350}
use Rattle.ckd_image.specs.declared.track.TrackAt.{TrackAt}
use Rattle.ckd_image.specs.Device.{cost_of, field_cost, slot_of}
use Rattle.ckd_image.specs.Track.{record_text, records_text, track_text, IsRecord, end_mark, IsTrack}
use Rattle.org_reloc.specs.declared.block.Block.{Block}
use Rattle.org_reloc.specs.Content.{IsBlock}
use Rattle.org_reloc.specs.Packing.{record_of, track_of, FitTrack, AreGrouped, HaveRoom}
use Rattle.org_reloc.specs.Filling.{block_cost, blocks_cost, least_cost}
use Rattle.org_reloc.proofs.Groups.{cost_by_fit}
use Rattle.org_reloc.proofs.Costs.{at_least, few_of}

field_least : (n : ℕ) → 238 * n + 1428 + 7888 * 9 ≤ 7888 * field_cost n
field_least n = omega arith

-- bounds by which a cost covers the bytes of its record
cost_3390 : (k l : ℕ) → 238 * (8 + (k + l)) + 149000 ≤ 7888 * cost_of D3390 k l
cost_3390 k l =
    elim (cases_eq k 0) [
      | inl e ↦ let f = field_least l in grind (arith, nat_tests)
      | inr e ↦ let f = field_least l in let g = field_least k in grind (arith, nat_tests)
    ]

cost_3380 : (k l : ℕ) → 8 + (k + l) + 484 ≤ 32 * cost_of D3380 k l
cost_3380 k l = elim (cases_eq k 0) [ inl e ↦ grind (arith, nat_tests) | inr e ↦ grind (arith, nat_tests) ]

cost_3350 : (k l : ℕ) → 8 + (k + l) ≤ cost_of D3350 k l
cost_3350 k l = elim (cases_eq k 0) [ inl e ↦ grind (arith, nat_tests) | inr e ↦ grind (arith, nat_tests) ]

bytes_3390 : (at : TrackAt) (n : ℕ) (blocks : List Block) → 238 * length (records_text at (map record_of (enumerate_from n blocks))) + 149000 * length blocks ≤ 7888 * blocks_cost D3390 blocks
bytes_3390 at n [] = omega arith
bytes_3390 at n (block ∷ more) =
    let rest = map record_of (enumerate_from (n + 1) more) in
    omega (
      arith,
      bytes_3390 at (n + 1) more,
      cost_3390 (length block.key) (length block.body),
      sum_by-cons (block_cost D3390) block more,
      length-append (record_text at (record_of (n, block))) (records_text at rest),
      length-append block.key block.body,
    )

bytes_3380 : (at : TrackAt) (n : ℕ) (blocks : List Block) → length (records_text at (map record_of (enumerate_from n blocks))) + 484 * length blocks ≤ 32 * blocks_cost D3380 blocks
bytes_3380 at n [] = omega arith
bytes_3380 at n (block ∷ more) =
    let rest = map record_of (enumerate_from (n + 1) more) in
    omega (
      arith,
      bytes_3380 at (n + 1) more,
      cost_3380 (length block.key) (length block.body),
      sum_by-cons (block_cost D3380) block more,
      length-append (record_text at (record_of (n, block))) (records_text at rest),
      length-append block.key block.body,
    )

bytes_3350 : (at : TrackAt) (n : ℕ) (blocks : List Block) → length (records_text at (map record_of (enumerate_from n blocks))) ≤ blocks_cost D3350 blocks
bytes_3350 at n [] = omega arith
bytes_3350 at n (block ∷ more) =
    let rest = map record_of (enumerate_from (n + 1) more) in
    omega (
      arith,
      bytes_3350 at (n + 1) more,
      cost_3350 (length block.key) (length block.body),
      sum_by-cons (block_cost D3350) block more,
      length-append (record_text at (record_of (n, block))) (records_text at rest),
      length-append block.key block.body,
    )

no_bytes : (at : TrackAt) (blocks : List Block) → length blocks ≡ 0 → length (records_text at (map record_of (enumerate_from 1 blocks))) ≡ 0
no_bytes at [] e = refl
no_bytes at (block ∷ more) e = absurd (omega (arith, e))

text_length : (at : TrackAt) (blocks : List Block) → length (track_text at (track_of blocks)) ≡ 29 + length (records_text at (map record_of (enumerate_from 1 blocks)))
text_length at blocks = omega (arith, length-append (records_text at (map record_of (enumerate_from 1 blocks))) end_mark)

text_fits : (device : Device) (at : TrackAt) (blocks : List Block) → FitTrack device blocks → length (track_text at (track_of blocks)) ≤ slot_of device
text_fits D3390 at blocks fits =
    elim (cases_eq (length blocks) 0) [
      | inl e ↦ omega (arith, text_length at blocks, no_bytes at blocks e)
      | inr e ↦ omega (arith, text_length at blocks, bytes_3390 at 1 blocks, cost_by_fit D3390 blocks fits)
    ]
text_fits D3380 at blocks fits =
    elim (cases_eq (length blocks) 0) [
      | inl e ↦ omega (arith, text_length at blocks, no_bytes at blocks e)
      | inr e ↦ omega (arith, text_length at blocks, bytes_3380 at 1 blocks, cost_by_fit D3380 blocks fits)
    ]
text_fits D3350 at blocks fits = omega (arith, text_length at blocks, bytes_3350 at 1 blocks, cost_by_fit D3350 blocks fits)

-- ---- few enough records

count_costs : (device : Device) (blocks : List Block) → length blocks * least_cost device ≤ blocks_cost device blocks
count_costs device [] = omega arith
count_costs device (block ∷ more) = omega (arith, count_costs device more, at_least device (length block.key) (length block.body), sum_by-cons (block_cost device) block more)

sound_records : (n : ℕ) (blocks : List Block) → 1 ≤ n → n + length blocks ≤ 256 → All IsBlock blocks → All IsRecord (map record_of (enumerate_from n blocks))
sound_records n [] low high each = All-nil IsRecord
sound_records n (block ∷ more) low high each =
    let sized = All-head IsBlock block more each in
    All-cons IsRecord (record_of (n, block)) (map record_of (enumerate_from (n + 1) more))
    (record { numbered = low; number_fits = omega arith; key_fits = sized.key_fits; body_fits = sized.body_fits })
    (sound_records (n + 1) more (omega arith) (omega arith) (All-tail IsBlock block more each))

sound_track : (device : Device) (blocks : List Block) → FitTrack device blocks → All IsBlock blocks → IsTrack (track_of blocks)
sound_track device blocks fits each = record {
  zero = refl;
  records = sound_records 1 blocks (omega arith) (omega (arith, few_of device (length blocks) 0 (omega (arith, count_costs device blocks, cost_by_fit device blocks fits)))) each;
}

-- ---- all tracks

front_of : {X : Type 0} (P : X → Type 0) (xs ys : List X) → AllByRecursion P (xs ++ ys) → All P xs
front_of P [] ys h = All-nil P
front_of P (x ∷ xs) ys h = All-cons P x xs h.0 (front_of P xs ys h.1)

back_of : {X : Type 0} (P : X → Type 0) (xs ys : List X) → AllByRecursion P (xs ++ ys) → AllByRecursion P ys
back_of P [] ys h = h
back_of P (x ∷ xs) ys h = back_of P xs ys h.1

parts_of : {X : Type 0} (P : X → Type 0) (groups : List (List X)) → All P (flat_map (λ group. group) groups) → AllByRecursion (All P) groups
parts_of P [] each = tt
parts_of P (group ∷ more) each =
    let h = recursion_from_All P (group ++ flat_map (λ g. g) more) each in
    (front_of P group (flat_map (λ g. g) more) h, parts_of P more (All-from_recursion P (flat_map (λ g. g) more) (back_of P group (flat_map (λ g. g) more) h)))

tracks_room : (device : Device) (groups : List (List Block)) → AllByRecursion (FitTrack device) groups → AllByRecursion (All IsBlock) groups → HaveRoom device (map track_of groups)
tracks_room device [] fits each = record { sound = All-nil IsTrack; short = All-nil (λ track. (at : TrackAt) → length (track_text at track) ≤ slot_of device) }
tracks_room device (group ∷ more) fits each =
    let h = tracks_room device more fits.1 each.1 in record {
      sound = All-cons IsTrack (track_of group) (map track_of more) (sound_track device group fits.0 each.0) h.sound;
      short = All-cons (λ track. (at : TrackAt) → length (track_text at track) ≤ slot_of device) (track_of group) (map track_of more) (λ at. text_fits device at group fits.0) h.short;
    }

pub room : (device : Device) (blocks : List Block) (groups : List (List Block)) → AreGrouped device blocks groups → All IsBlock blocks → HaveRoom device (map track_of groups)
room device blocks groups h each =
    tracks_room device groups (recursion_from_All (FitTrack device) groups h.fit) (parts_of IsBlock groups (subst (All IsBlock) (sym h.whole) each))
