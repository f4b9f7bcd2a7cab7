-- Records whose extents have a track in common.
use Rattle.std.proofs.Common.{◌≡◌, ℕ, ◌+◌, ◌-◌, ◌<◌, ◌≤◌, List, [], ◌∷◌, ◌++◌, length, filter, take, Bool, true, false, refl, sym, ap, ◌∙◌, arith, ⊎_elim, All, append_assoc}
use Rattle.std.specs.Prelude.{◌||◌, ◌&&◌, nat_le, nat_lt}
use Rattle.std.specs.List.{list_any, flat_map}
use Rattle.std.proofs.lemmas.Bool.{and_parts, leb-true, ltb-true, cases_lt}
use Rattle.std.proofs.lemmas.List.{take_more, append-nil}
use Rattle.std.proofs.lemmas.Grind.{flat_map-append}
use Rattle.std.proofs.lemmas.List.Folds.{list_any-append}
use Rattle.std.proofs.lemmas.List.Elements.{All-nil, All-cons, All-append, All-map, All-weaker, filter_passes}
use Rattle.free_map.specs.declared.run.Run.{Run}
use Rattle.volume_model.specs.declared.extent.ExtentField.{ExtentField}
use Rattle.volume_model.specs.declared.place.Placed.{Placed}
use Rattle.volume_model.specs.Dscbs.{extents_of}
use Rattle.volume_model.specs.Space.{end_of, track_at, is_run, run_of, runs_of, overlap}
use Rattle.volume_model.specs.Check.{track_0, any_overlap, overlap_within, later_ones}
use Rattle.vtoc_check.specs.Places.{blank}
use Rattle.vtoc_check.specs.Reach.{record_in}
use Rattle.vtoc_check.specs.Tracks.{HasTracks}
use Rattle.vtoc_check.proofs.ByPlace.{AreFound}
use Rattle.vtoc_check.proofs.Bits.{or_swap, or_turn}
use Rattle.vtoc_check.proofs.FirstFound.{filter_found, later_found, both_found}

-- ---- the runs of a record

pub run_facts : (heads limit : ℕ) (extent : ExtentField) → is_run heads limit extent ≡ true → (end_of (run_of heads extent) ≤ limit) × HasTracks (run_of heads extent)
run_facts heads limit extent e =
    let last = and_parts (nat_lt extent.first.head heads && nat_lt extent.last.head heads && nat_le (track_at heads extent.first) (track_at heads extent.last)) (nat_lt (track_at heads extent.last) limit) e in
    let first = and_parts (nat_lt extent.first.head heads && nat_lt extent.last.head heads) (nat_le (track_at heads extent.first) (track_at heads extent.last)) last.0 in
    let p : track_at heads extent.first ≤ track_at heads extent.last = leb-true (track_at heads extent.first) (track_at heads extent.last) first.1 in
    let q : track_at heads extent.last < limit = ltb-true (track_at heads extent.last) limit last.1 in
    by (track_at heads extent.first) (track_at heads extent.last) p q
  where
    by : (a b : ℕ) → a ≤ b → b < limit → (a + (b + 1 - a) ≤ limit) × (1 ≤ b + 1 - a)
    by a b p q = (omega arith, omega arith)

runs_all : (heads limit : ℕ) (P : Run → Type 0) → ((extent : ExtentField) → is_run heads limit extent ≡ true → P (run_of heads extent)) → (bytes : List ℕ) → All P (runs_of heads limit bytes)
runs_all heads limit P h bytes =
    All-map P (run_of heads) (filter (is_run heads limit) (extents_of bytes))
    (All-weaker (λ (extent : ExtentField). is_run heads limit extent ≡ true) (λ (extent : ExtentField). P (run_of heads extent)) h (filter (is_run heads limit) (extents_of bytes))
    (filter_passes (is_run heads limit) (extents_of bytes)))

pub runs_within : (heads limit : ℕ) (bytes : List ℕ) → All (λ run. end_of run ≤ limit) (runs_of heads limit bytes)
runs_within heads limit bytes = runs_all heads limit (λ run. end_of run ≤ limit) (λ extent e. (run_facts heads limit extent e).0) bytes

pub runs_have : (heads limit : ℕ) (bytes : List ℕ) → All HasTracks (runs_of heads limit bytes)
runs_have heads limit bytes = runs_all heads limit HasTracks (λ extent e. (run_facts heads limit extent e).1) bytes

-- ---- those before

pub flat_all : {X Y : Type 0} (P : Y → Type 0) (f : X → List Y) → ((x : X) → All P (f x)) → (xs : List X) → All P (flat_map f xs)
flat_all P f h [] = All-nil P
flat_all P f h (x ∷ xs) = All-append P (f x) (flat_map f xs) (h x) (flat_all P f h xs)

abbrev pub used_by : ℕ → ℕ → Run → List Placed → List Run
used_by heads limit vtoc records = (track_0 ∷ vtoc ∷ []) ++ flat_map (λ placed. runs_of heads limit placed.bytes) records

pub used_have : (heads limit : ℕ) (vtoc : Run) (records : List Placed) → HasTracks vtoc → All HasTracks (used_by heads limit vtoc records)
used_have heads limit vtoc records some =
    All-append HasTracks (track_0 ∷ vtoc ∷ []) (flat_map (λ placed. runs_of heads limit placed.bytes) records)
    (All-cons HasTracks track_0 (vtoc ∷ []) (omega arith) (All-cons HasTracks vtoc [] some (All-nil HasTracks)))
    (flat_all HasTracks (λ (placed : Placed). runs_of heads limit placed.bytes) (λ placed. runs_have heads limit placed.bytes) records)

pub used_more : (heads limit : ℕ) (vtoc : Run) (records : List Placed) (i : ℕ) → i < length records
    → used_by heads limit vtoc (take i records) ++ runs_of heads limit (record_in records i).bytes ≡ used_by heads limit vtoc (take (i + 1) records)
used_more heads limit vtoc records i lt =
    let own : Placed → List Run = λ placed. runs_of heads limit placed.bytes in
    let x : Placed = record_in records i in
    append_assoc (track_0 ∷ vtoc ∷ []) (flat_map own (take i records)) (own x)
    ∙ ap (λ (runs : List Run). (track_0 ∷ vtoc ∷ []) ++ runs)
    (sym (ap (flat_map own) (take_more records i blank lt) ∙ flat_map-append own (take i records) (x ∷ []) ∙ ap (λ (runs : List Run). flat_map own (take i records) ++ runs) (append-nil (own x))))

overlap_none : (runs : List Run) → any_overlap runs [] ≡ false
overlap_none [] = refl
overlap_none (run ∷ runs) = overlap_none runs

overlap_append : (runs xs ys : List Run) → any_overlap runs (xs ++ ys) ≡ (any_overlap runs xs || any_overlap runs ys)
overlap_append [] xs ys = refl
overlap_append (run ∷ runs) xs ys =
    (λ i. list_any-append (overlap run) xs ys i || overlap_append runs xs ys i) ∙ or_swap (list_any (overlap run) xs) (list_any (overlap run) ys) (any_overlap runs xs) (any_overlap runs ys)

overlap_flat : (runs : List Run) (own : Placed → List Run) (others : List Placed) → any_overlap runs (flat_map own others) ≡ list_any (λ other. any_overlap runs (own other)) others
overlap_flat runs own [] = overlap_none runs
overlap_flat runs own (other ∷ others) = overlap_append runs (own other) (flat_map own others) ∙ ap (λ (b : Bool). any_overlap runs (own other) || b) (overlap_flat runs own others)

-- a record breaks the rule: by the fixed runs, by its own, or by an earlier record
abbrev pub breaks : ℕ → ℕ → Run → List Placed → ℕ → Bool
breaks heads limit vtoc records k =
    (any_overlap (runs_of heads limit (record_in records k).bytes) (track_0 ∷ vtoc ∷ []) || overlap_within (runs_of heads limit (record_in records k).bytes))
    || list_any (λ earlier. any_overlap (runs_of heads limit (record_in records k).bytes) (runs_of heads limit earlier.bytes)) (take k records)

pub hit_breaks : (heads limit : ℕ) (vtoc : Run) (records : List Placed) (i : ℕ) (hit : Bool)
    → hit ≡ (any_overlap (runs_of heads limit (record_in records i).bytes) (used_by heads limit vtoc (take i records)) || overlap_within (runs_of heads limit (record_in records i).bytes))
    → hit ≡ breaks heads limit vtoc records i
hit_breaks heads limit vtoc records i hit e =
    let own : Placed → List Run = λ placed. runs_of heads limit placed.bytes in
    let runs : List Run = own (record_in records i) in
    e
    ∙ ap (λ (b : Bool). b || overlap_within runs)
    (overlap_append runs (track_0 ∷ vtoc ∷ []) (flat_map own (take i records)) ∙ ap (λ (b : Bool). any_overlap runs (track_0 ∷ vtoc ∷ []) || b) (overlap_flat runs own (take i records)))
    ∙ or_turn (any_overlap runs (track_0 ∷ vtoc ∷ [])) (list_any (λ earlier. any_overlap runs (own earlier)) (take i records)) (overlap_within runs)

pub none_more : (test : ℕ → Bool) (i : ℕ) → ((k : ℕ) → k < i → test k ≡ false) → test i ≡ false → (k : ℕ) → k < i + 1 → test k ≡ false
none_more test i h e k lt = ⊎_elim (λ less. h k less) (λ over. ap test (omega (arith, lt, over)) ∙ e) (cases_lt k i)

-- the records that break it
abbrev pub overlapping : ℕ → ℕ → Run → List Placed → List Placed
overlapping heads limit vtoc records =
    filter (λ placed. any_overlap (runs_of heads limit placed.bytes) (track_0 ∷ vtoc ∷ []) || overlap_within (runs_of heads limit placed.bytes)) records
    ++ later_ones (λ later earlier. any_overlap (runs_of heads limit later.bytes) (runs_of heads limit earlier.bytes)) records

pub overlapping_found : (heads limit : ℕ) (vtoc : Run) (records : List Placed) → AreFound records (breaks heads limit vtoc records) (overlapping heads limit vtoc records)
overlapping_found heads limit vtoc records =
    let test : Placed → Bool = λ placed. any_overlap (runs_of heads limit placed.bytes) (track_0 ∷ vtoc ∷ []) || overlap_within (runs_of heads limit placed.bytes) in
    let related : Placed → Placed → Bool = λ later earlier. any_overlap (runs_of heads limit later.bytes) (runs_of heads limit earlier.bytes) in
    both_found records (λ k. test (record_in records k)) (λ k. list_any (related (record_in records k)) (take k records)) (filter test records) (later_ones related records) (filter_found test records) (later_found related records)
