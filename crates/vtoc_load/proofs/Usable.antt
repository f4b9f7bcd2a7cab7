-- How many tracks of a volume are usable.
use Rattle.std.proofs.Common.{◌≡◌, ℕ, ◌*◌, ◌-◌, ◌≤◌, max, List, [], ◌∷◌, ◌++◌, Bool, true, false, cond, ◌&&◌, ◌||◌, not, All, arith, refl, get_or}
use Rattle.std.specs.Prelude.{nat_le}
use Rattle.std.specs.List.{list_all, list_any}
use Rattle.std.proofs.lemmas.List.Elements.{All-cons, All-append, All-contains}
use Rattle.free_map.specs.declared.run.Run.{Run}
use Rattle.volume_model.specs.declared.place.Breach.{Breach}
use Rattle.volume_model.specs.declared.place.Vtoc.{Vtoc}
use Rattle.volume_model.specs.declared.rule.VtocRule.TheVariants as rules
use Rattle.volume_model.specs.Space.{end_of, greatest_end, usable_of, is_used, has_track}
use Rattle.volume_model.specs.Dscbs.{numbers_below}
use Rattle.volume_model.specs.Check.{track_0, any_overlap, overlap_within, states_free, records_of, extents_in, entries_in, usable_in, bad_free}
use Rattle.vtoc_check.specs.Sized.{IsSized}
use Rattle.vtoc_check.proofs.Joined.{extents_within, ends_by}
use Rattle.vtoc_core.proofs.Spaces.{ends_within, all_front}
use Rattle.vtoc_layout.proofs.FreeRules.{at_most}
use Rattle.ckd_image.specs.Device.{ceil_div}
use Rattle.volume_model.proofs.Numbers.{grows}

-- where each of these runs ends by a limit, their greatest end does
within_all : (limit : ℕ) (runs : List Run) → 1 ≤ limit → All (λ run. end_of run ≤ limit) runs → greatest_end runs ≤ limit
within_all limit runs some h = at_most limit 1 runs some (λ run c. All-contains (λ (r : Run). end_of r ≤ limit) runs run h c)

both_most : (a b c : ℕ) → a ≤ c → max a (c - b) ≤ c
both_most a b c le = omega (arith, le)

most : (valid : Bool) (heads limit alternates : ℕ) (vtoc : Run) (extents entries : List Run) → 1 ≤ limit → end_of vtoc ≤ limit → All (λ run. end_of run ≤ limit) extents
    → (valid ≡ true → All (λ run. end_of run ≤ limit) entries) → usable_of valid heads limit alternates vtoc extents entries ≤ limit
most true heads limit alternates vtoc extents entries some within ext ent =
    within_all limit (vtoc ∷ extents ++ entries) some
    (All-cons (λ (run : Run). end_of run ≤ limit) vtoc (extents ++ entries) within (All-append (λ (run : Run). end_of run ≤ limit) extents entries ext (ent refl)))
most false heads limit alternates vtoc extents entries some within ext ent =
    both_most (greatest_end (vtoc ∷ extents)) (heads * ceil_div alternates heads) limit
    (within_all limit (vtoc ∷ extents) some (All-cons (λ (run : Run). end_of run ≤ limit) vtoc extents within ext))

left_most : (a b c : ℕ) → c ≤ a → c ≤ max a b
left_most a b c le = omega (arith, le)

least : (valid : Bool) (heads limit alternates : ℕ) (vtoc : Run) (extents entries : List Run)
    → All (λ run. end_of run ≤ usable_of valid heads limit alternates vtoc extents entries) (track_0 ∷ vtoc ∷ extents)
least true heads limit alternates vtoc extents entries =
    let n = greatest_end (vtoc ∷ extents ++ entries) in
    All-cons (λ (run : Run). end_of run ≤ n) track_0 (vtoc ∷ extents) (grows 1 (vtoc ∷ extents ++ entries))
    (all_front (λ run. end_of run ≤ n) (vtoc ∷ extents) entries (ends_within (vtoc ∷ extents ++ entries)))
least false heads limit alternates vtoc extents entries =
    let n = greatest_end (vtoc ∷ extents) in
    let m = limit - heads * ceil_div alternates heads in
    All-cons (λ (run : Run). end_of run ≤ max n m) track_0 (vtoc ∷ extents) (left_most n m 1 (grows 1 (vtoc ∷ extents)))
    (λ k d lt. left_most n m (end_of (get_or (vtoc ∷ extents) k d)) (ends_within (vtoc ∷ extents) k d lt))

-- where nothing is stated wrongly, the entries end by the limit
pub entries_within : (vtoc : Vtoc) → bad_free vtoc ≡ [] → vtoc.valid ≡ true → All (λ run. end_of run ≤ vtoc.limit) (entries_in vtoc)
entries_within vtoc none valid =
    ends_by vtoc.limit (entries_in vtoc)
    (first (list_all (λ entry. nat_le (end_of entry) vtoc.limit) (entries_in vtoc)) (not (overlap_within (entries_in vtoc))) (not (any_overlap (entries_in vtoc) (track_0 ∷ vtoc.run ∷ extents_in vtoc)))
    (list_all (λ track. is_used vtoc.run (extents_in vtoc) track || list_any (has_track track) (entries_in vtoc)) (numbers_below (usable_in vtoc)))
    (stated vtoc.valid (states_free vtoc.limit vtoc.run (extents_in vtoc) (entries_in vtoc) (usable_in vtoc)) (record { place = vtoc.format_4; rule = rules.Free }) none valid))
  where
    stated : (v s : Bool) (x : Breach) → cond (v && not s) (x ∷ []) [] ≡ [] → v ≡ true → s ≡ true
    stated true true x e is = refl
    stated true false x e is = let q : x ∷ [] ≡ [] = e in cc
    stated false s x e is = let q : false ≡ true = is in cc

    first : (a b c d : Bool) → (a && b && c && d) ≡ true → a ≡ true
    first true b c d e = refl
    first false b c d e = e

pub usable_most : (vtoc : Vtoc) → IsSized vtoc → bad_free vtoc ≡ [] → usable_in vtoc ≤ vtoc.limit
usable_most vtoc sized none =
    most vtoc.valid vtoc.heads vtoc.limit vtoc.alternates vtoc.run (extents_in vtoc) (entries_in vtoc) (omega (arith, sized.run_has, sized.run_within)) sized.run_within
    (extents_within vtoc.heads vtoc.limit (records_of vtoc)) (entries_within vtoc none)

pub usable_least : (vtoc : Vtoc) → All (λ run. end_of run ≤ usable_in vtoc) (track_0 ∷ vtoc.run ∷ extents_in vtoc)
usable_least vtoc = least vtoc.valid vtoc.heads vtoc.limit vtoc.alternates vtoc.run (extents_in vtoc) (entries_in vtoc)
