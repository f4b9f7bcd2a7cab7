-- Rules that stand under a condition, and all rules together.
use Rattle.std.proofs.Common.{◌≡◌, ℕ, zero, suc, ◌≤◌, List, [], ◌∷◌, ◌++◌, length, map, filter, Bool, true, false, cond, not, refl, sym, ap, ◌∙◌, subst, arith, replicate, Option, All, append_assoc}
use Rattle.std.specs.Prelude.{◌&&◌, ◌||◌, nat_le, nat_lt}
use Rattle.std.specs.List.{list_all, list_any}
use Rattle.std.proofs.lemmas.Bool.{leb-true, ltb-true, and_parts}
use Rattle.std.proofs.lemmas.List.{length-replicate}
use Rattle.std.proofs.lemmas.List.Elements.{All-nil, All-cons, All-weaker, filter_passes}
use Rattle.free_map.specs.declared.run.Run.{Run}
use Rattle.volume_model.specs.declared.place.Breach.{Breach}
use Rattle.volume_model.specs.declared.place.Placed.{Placed}
use Rattle.volume_model.specs.declared.place.Vtoc.{Vtoc}
use Rattle.volume_model.specs.declared.rule.VtocRule.TheVariants as rules
use Rattle.volume_model.specs.Dscbs.{entry_offsets, numbers_below}
use Rattle.volume_model.specs.Space.{end_of, has_track, is_used, entry_at, entries_of, all_entries, all_extents, runs_of}
use Rattle.volume_model.specs.Check.{track_0, any_overlap, overlap_within, breach, records_of, extents_in, entries_in, usable_in, states_free, off_chain, points, bad_fives, bad_free, IsLowestOf}
use Rattle.vtoc_check.specs.Pointers.{named}
use Rattle.vtoc_check.specs.Reach.{is_marked}
use Rattle.vtoc_check.specs.FiveRule.{is_five}
use Rattle.vtoc_check.specs.Tracks.{HasTracks}
use Rattle.vtoc_check.proofs.Overlapping.{runs_within, runs_have, flat_all}

-- ---- the chain of format 5s

none_marked : (n k : ℕ) → is_marked (replicate n false) k ≡ false
none_marked zero k = refl
none_marked (suc n) zero = refl
none_marked (suc n) (suc k) = none_marked n k

pub no_marks : (records : List Placed) (marks : List Bool) (n : ℕ) → marks ≡ replicate n false → n ≡ length records → (length marks ≡ length records) × ((k : ℕ) → is_marked marks k ≡ false)
no_marks records marks n e long =
    let r : length (replicate n false) ≡ n = simp length-replicate in
    (ap length e ∙ r ∙ long, λ k. ap (λ (xs : List Bool). is_marked xs k) e ∙ none_marked n k)

pub fives_told : (vtoc : Vtoc) (heads : ℕ) (records : List Placed) (told : Option Breach) → heads ≡ vtoc.heads → records ≡ records_of vtoc → vtoc.valid ≡ true
    → IsLowestOf (map (breach rules.Pointer) (off_chain points (named heads records) (filter is_five records))) told → IsLowestOf (bad_fives vtoc) told
fives_told vtoc heads records told h r valid p =
    let P : List Breach → Type 0 = λ xs. IsLowestOf xs told in
    let found : ℕ → List Placed → List Breach = λ n xs. map (breach rules.Pointer) (off_chain points (named n xs) (filter is_five xs)) in
    subst P ((λ i. found (h i) (r i)) ∙ sym (ap (λ (b : Bool). cond b (found vtoc.heads (records_of vtoc)) []) valid)) p

pub no_fives : (vtoc : Vtoc) → vtoc.valid ≡ false → bad_fives vtoc ≡ []
no_fives vtoc e = ap (λ (b : Bool). cond b (map (breach rules.Pointer) (off_chain points (named vtoc.heads (records_of vtoc)) (filter is_five (records_of vtoc)))) []) e

-- ---- the free tracks

pub free_told : (vtoc : Vtoc) (stated : Bool) (told : Option Breach) → vtoc.valid ≡ true → stated ≡ states_free vtoc.limit vtoc.run (extents_in vtoc) (entries_in vtoc) (usable_in vtoc)
    → IsLowestOf (cond (not stated) (record { place = vtoc.format_4; rule = rules.Free } ∷ []) []) told → IsLowestOf (bad_free vtoc) told
free_told vtoc stated told valid e p =
    let P : List Breach → Type 0 = λ xs. IsLowestOf xs told in
    let one : Bool → List Breach = λ b. cond b (record { place = vtoc.format_4; rule = rules.Free } ∷ []) [] in
    subst P (sym (λ i. one (valid i && not (sym e i)))) p

pub no_free : (vtoc : Vtoc) → vtoc.valid ≡ false → bad_free vtoc ≡ []
no_free vtoc e =
    let one : Bool → List Breach = λ b. cond b (record { place = vtoc.format_4; rule = rules.Free } ∷ []) [] in
    (λ i. one (e i && not (states_free vtoc.limit vtoc.run (extents_in vtoc) (entries_in vtoc) (usable_in vtoc))))

pub extents_within : (heads limit : ℕ) (records : List Placed) → All (λ run. end_of run ≤ limit) (all_extents heads limit records)
extents_within heads limit records = flat_all (λ run. end_of run ≤ limit) (λ (placed : Placed). runs_of heads limit placed.bytes) (λ placed. runs_within heads limit placed.bytes) records

pub extents_have : (heads limit : ℕ) (records : List Placed) → All HasTracks (all_extents heads limit records)
extents_have heads limit records = flat_all HasTracks (λ (placed : Placed). runs_of heads limit placed.bytes) (λ placed. runs_have heads limit placed.bytes) records

entries_some : (heads : ℕ) (bytes : List ℕ) → All HasTracks (entries_of heads bytes)
entries_some heads bytes =
    All-weaker (λ (run : Run). nat_lt 0 run.len ≡ true) HasTracks (λ run e. omega (arith, ltb-true 0 run.len e)) (entries_of heads bytes) (filter_passes (λ (run : Run). nat_lt 0 run.len) (map (entry_at heads bytes) entry_offsets))

pub entries_have : (heads : ℕ) (records : List Placed) → All HasTracks (all_entries heads records)
entries_have heads records = flat_all HasTracks (λ (placed : Placed). entries_of heads placed.bytes) (λ placed. entries_some heads placed.bytes) (filter is_five records)

pub ends_by : (limit : ℕ) (runs : List Run) → list_all (λ run. nat_le (end_of run) limit) runs ≡ true → All (λ run. end_of run ≤ limit) runs
ends_by limit [] e = All-nil (λ run. end_of run ≤ limit)
ends_by limit (run ∷ runs) e =
    let parts = and_parts (nat_le (end_of run) limit) (list_all (λ run. nat_le (end_of run) limit) runs) e in
    All-cons (λ run. end_of run ≤ limit) run runs (leb-true (end_of run) limit parts.0) (ends_by limit runs parts.1)

pub not_by_limit : (limit : ℕ) (vtoc : Run) (extents entries : List Run) (usable : ℕ) → list_all (λ entry. nat_le (end_of entry) limit) entries ≡ false → false ≡ states_free limit vtoc extents entries usable
not_by_limit limit vtoc extents entries usable e =
    sym (λ i. e i && not (overlap_within entries) && not (any_overlap entries (track_0 ∷ vtoc ∷ extents)) && list_all (λ track. is_used vtoc extents track || list_any (has_track track) entries) (numbers_below usable))

pub used_have : (vtoc : Run) (extents : List Run) → HasTracks vtoc → All HasTracks extents → All HasTracks (track_0 ∷ vtoc ∷ extents)
used_have vtoc extents some all = All-cons HasTracks track_0 (vtoc ∷ extents) (omega arith) (All-cons HasTracks vtoc extents some all)

-- ---- all rules

pub all_rules : {X : Type 0} (a b c d e f g h : List X) → ((a ++ (b ++ c ++ d ++ e)) ++ (f ++ g ++ h)) ≡ (a ++ b ++ c ++ d ++ e ++ f ++ g ++ h)
all_rules a b c d e f g h = simp append_assoc
