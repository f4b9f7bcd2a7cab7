-- The rows after a change are those of its layout.
use Rattle.std.proofs.Common.{◌≡◌, ℕ, List, [], ◌∷◌, ◌++◌, map, take, drop, Contains, Bool, Option, Some, None, refl, sym, ap, subst}
use Rattle.std.specs.Prelude.{option_to_list}
use Rattle.std.specs.List.Sorted.{IsPermutation}
use Rattle.std.proofs.lemmas.List.{map-append}
use Rattle.ckd_image.specs.declared.head.Head.{Head}
use Rattle.vol_label.specs.declared.label.Label.{Label}
use Rattle.volume_model.specs.declared.place.Placed.{Placed}
use Rattle.volume_model.specs.declared.place.Vtoc.{Vtoc}
use Rattle.volume_model.specs.Directory.{DirectoryRow}
use Rattle.volume_model.specs.Sound.{Slots}
use Rattle.vtoc_core.specs.declared.volume.Row.{Row}
use Rattle.vtoc_core.specs.declared.volume.Volume.{Volume}
use Rattle.vtoc_core.specs.Loaded.{row_in}
use Rattle.vtoc_layout.specs.Layout.{SetRecords, AreDistinct, sets_of, row_by}
use Rattle.vtoc_layout.proofs.Distinct.{from_map}
use Rattle.layout_found.specs.Sets.{set_named}
use Rattle.volume_change.specs.declared.spot.Spot.{Spot}
use Rattle.volume_change.specs.Spot.{behind, rows_with}
use Rattle.render_laws.specs.Rendered.{WasLoaded}
use Rattle.render_laws.proofs.Before.{has_layout}
use Rattle.vtoc_render.specs.Loads.{gone_of}
use Rattle.vtoc_render.specs.Steps.{IsSpotFor, gone_from}
use Rattle.vtoc_render.proofs.Holds.{named_split}
use Rattle.vtoc_render.proofs.NextCounts.{IsGone, sets_and_rows, gone_named, same_with}
use Rattle.vtoc_render.proofs.NextRows.{staying}
use Rattle.vtoc_render.proofs.PlacedLists.{taken_out, put_into}
use Rattle.ckd_image.proofs.Lists.{contains_map}

-- a row that goes or is put, and its records
abbrev pub ArePair : Option Row → List SetRecords → Type 0
ArePair None sets = sets ≡ []
ArePair (Some row) sets = (set : SetRecords) × (sets ≡ set ∷ []) × (row_by set ≡ row_in row)

abbrev AreThese : List SetRecords → List Row → Type 0
AreThese sets rows = IsPermutation (map row_by sets) (map row_in rows)

-- the same lists with one in the middle
middle : {X Y : Type 0} (f : X → Y) (front back : List X) (x : X) → map f (front ++ x ∷ back) ≡ map f front ++ f x ∷ map f back
middle f front back x = map-append f front (x ∷ back)

distinct_by : {X Y Z : Type 0} (f : X → Y) (g : Y → Z) (xs : List X) → AreDistinct (map (λ x. g (f x)) xs) → AreDistinct (map f xs)
distinct_by f g [] d = tt
distinct_by {X} {Y} {Z} f g (x ∷ xs) d = (λ c. first (from_map f xs (f x) c), distinct_by f g xs d.1)
  where
    first : ((y : X) × Contains xs y × (f y ≡ f x)) → ⊥
    first h = d.0 (subst (λ (z : Z). Contains (map (λ x. g (f x)) xs) z) (ap g h.2) (contains_map (λ x. g (f x)) xs h.0 h.1))

without : (front back : List SetRecords) (ahead later : List Row) (row : Option Row) (sets : List SetRecords) → ArePair row sets → AreDistinct (map row_by (front ++ (sets ++ back)))
    → AreThese (front ++ (sets ++ back)) (ahead ++ (option_to_list row ++ later)) → AreThese (front ++ back) (ahead ++ later)
without front back ahead later None sets pair d are =
    subst (λ (sets : List SetRecords). AreThese (front ++ (sets ++ back)) (ahead ++ later)) pair are
without front back ahead later (Some row) sets pair d are =
    let set = pair.0 in
    let d1 = subst (λ (sets : List SetRecords). AreDistinct (map row_by (front ++ (sets ++ back)))) pair.1 d in
    let are1 = subst (λ (sets : List SetRecords). AreThese (front ++ (sets ++ back)) (ahead ++ row ∷ later)) pair.1 are in
    let d2 : AreDistinct (map row_by front ++ row_in row ∷ map row_by back) =
    subst (λ (r : DirectoryRow). AreDistinct (map row_by front ++ r ∷ map row_by back)) pair.2
    (subst (λ (rows : List DirectoryRow). AreDistinct rows) (middle row_by front back set) d1) in
    let are2 : IsPermutation (map row_by front ++ row_in row ∷ map row_by back) (map row_in ahead ++ row_in row ∷ map row_in later) =
    subst (λ (r : DirectoryRow). IsPermutation (map row_by front ++ r ∷ map row_by back) (map row_in ahead ++ row_in row ∷ map row_in later)) pair.2
    (subst (λ (rows : List DirectoryRow). IsPermutation rows (map row_in ahead ++ row_in row ∷ map row_in later)) (middle row_by front back set)
    (subst (λ (rows : List DirectoryRow). IsPermutation (map row_by (front ++ set ∷ back)) rows) (middle row_in ahead later row) are1)) in
    subst (λ (rows : List DirectoryRow). IsPermutation rows (map row_in (ahead ++ later))) (sym (map-append row_by front back))
    (subst (λ (rows : List DirectoryRow). IsPermutation (map row_by front ++ map row_by back) rows) (sym (map-append row_in ahead later))
    (taken_out (map row_by front) (map row_by back) (map row_in ahead) (map row_in later) (row_in row) d2 are2))

with_put : (front back : List SetRecords) (ahead later : List Row) (row : Option Row) (sets : List SetRecords) → ArePair row sets → AreThese (front ++ back) (ahead ++ later)
    → AreThese (front ++ (sets ++ back)) (ahead ++ (option_to_list row ++ later))
with_put front back ahead later None sets pair are =
    subst (λ (sets : List SetRecords). AreThese (front ++ (sets ++ back)) (ahead ++ later)) (sym pair) are
with_put front back ahead later (Some row) sets pair are =
    let set = pair.0 in
    let are1 : IsPermutation (map row_by front ++ map row_by back) (map row_in ahead ++ map row_in later) =
    subst (λ (rows : List DirectoryRow). IsPermutation rows (map row_in ahead ++ map row_in later)) (map-append row_by front back)
    (subst (λ (rows : List DirectoryRow). IsPermutation (map row_by (front ++ back)) rows) (map-append row_in ahead later) are) in
    let are2 = put_into (map row_by front) (map row_by back) (map row_in ahead) (map row_in later) (row_in row) are1 in
    let are3 : IsPermutation (map row_by front ++ row_by set ∷ map row_by back) (map row_in ahead ++ row_in row ∷ map row_in later) =
    subst (λ (r : DirectoryRow). IsPermutation (map row_by front ++ r ∷ map row_by back) (map row_in ahead ++ row_in row ∷ map row_in later)) (sym pair.2) are2 in
    subst (λ (sets : List SetRecords). AreThese (front ++ (sets ++ back)) (ahead ++ row ∷ later)) (sym pair.1)
    (subst (λ (rows : List DirectoryRow). IsPermutation rows (map row_in (ahead ++ row ∷ later))) (sym (middle row_by front back set))
    (subst (λ (rows : List DirectoryRow). IsPermutation (map row_by front ++ row_by set ∷ map row_by back) rows) (sym (middle row_in ahead later row)) are3))

module _ {head : Head} {label : Label} {unit : Slots} {before : Bool} {slots : List ℕ} {volume : Volume} {vtoc : Vtoc} {four : Placed}
    (was : WasLoaded head label unit before slots volume vtoc four) where
  pub gone_pair : (name : Option (List ℕ)) (spot : Spot) → IsSpotFor volume.rows name spot → ArePair (gone_from volume.rows spot) (gone_of vtoc name)
  gone_pair None spot is = subst (λ (row : Option Row). ArePair row []) (sym (staying volume.rows spot is.1).gone_is) refl
  gone_pair (Some name) spot is = by (gone_from volume.rows spot) (set_named vtoc name) (gone_named was name spot is)
    where
      by : (row : Option Row) (set : Option SetRecords) → IsGone was row set → ArePair row (option_to_list set)
      by None None gone = refl
      by None (Some set) gone = absurd gone
      by (Some row) None gone = absurd gone
      by (Some row) (Some set) gone = (set, refl, gone.1)

  pub rows_after_are : (name : Option (List ℕ)) (spot : Spot) (row : Option Row) (sets : List SetRecords) → IsSpotFor volume.rows name spot → ArePair row sets
      → IsPermutation (map row_by ((named_split vtoc name).0 ++ (sets ++ (named_split vtoc name).1))) (map row_in (rows_with volume.rows spot row))
  rows_after_are name spot row sets is pair =
      let parts = named_split vtoc name in
      let ahead = take spot.place volume.rows in
      let later = drop (behind spot) volume.rows in
      let gone = gone_from volume.rows spot in
      let d = distinct_by row_by (λ (r : DirectoryRow). take 44 r.format_1) (sets_of vtoc) (has_layout was).names in
      let are : AreThese (parts.0 ++ (gone_of vtoc name ++ parts.1)) (ahead ++ (option_to_list gone ++ later)) =
      subst (λ (sets : List SetRecords). AreThese sets (ahead ++ (option_to_list gone ++ later))) parts.2
      (subst (λ (rows : List Row). AreThese (sets_of vtoc) rows) (same_with volume.rows name spot is) (sets_and_rows was)) in
      with_put parts.0 parts.1 ahead later row sets pair
      (without parts.0 parts.1 ahead later gone (gone_of vtoc name) (gone_pair name spot is)
      (subst (λ (sets : List SetRecords). AreDistinct (map row_by sets)) parts.2 d) are)
