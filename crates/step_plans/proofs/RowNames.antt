-- The names of the rows of a volume that was loaded: no two are one.
use Rattle.std.proofs.Common.{◌≡◌, ◌≢◌, inl, inr, ℕ, ◌≤◌, List, [], ◌∷◌, length, map, All, refl, sym, ap, subst, ◌∙◌, arith}
use Rattle.std.proofs.lemmas.List.Elements.{All-head, All-tail}
use Rattle.std.proofs.lemmas.List.Sorted.{IsPermutation-map}
use Rattle.dsn_filter.specs.declared.dsn.Dsn.{Dsn}
use Rattle.volume_change.proofs.Names.{one_text}
use Rattle.volume_model.specs.Check.{records_of}
use Rattle.volume_model.specs.Directory.{rows_of}
use Rattle.vtoc_core.specs.declared.volume.Row.{Row}
use Rattle.vtoc_core.specs.declared.volume.Volume.{Volume}
use Rattle.vtoc_core.specs.Loaded.{row_in, HasItsName}
use Rattle.vtoc_layout.specs.Layout.{AreDistinct}
use Rattle.vtoc_layout.proofs.Distinct.{one_of_map}
use Rattle.unit_steps.specs.Plans.{HasRow, tracks_in}
use Rattle.unit_steps.proofs.unit_change.LoadedTracks.{own_names}
use Rattle.unit_steps.proofs.unit_change.OneOrder.{name_in, distinct_moved}
use Rattle.unit_steps.proofs.Blocks.{few, home_short}
use Rattle.step_plans.specs.Plans.{IsSound, IsWhole, HasManyExtents}

abbrev pub named : Row → List ℕ
named row = row.name

row_names : (rows : List Row) → All HasItsName rows → map name_in (map row_in rows) ≡ map named rows
row_names [] all = refl
row_names (row ∷ rows) all = (λ i. sym (All-head HasItsName row rows all) i ∷ row_names rows (All-tail HasItsName row rows all) i)

pub names_differ : (volume : Volume) → IsSound volume → AreDistinct (map named volume.rows)
names_differ volume sound =
    let from = sound.3 in
    let is = from.loaded in
    let read = rows_of is.vtoc.heads (records_of is.vtoc) in
    subst (λ (names : List (List ℕ)). AreDistinct names) (row_names volume.rows is.volume.names_are)
    (distinct_moved (map name_in (map row_in volume.rows)) (map name_in read) (own_names is (few from) (home_short from))
    (IsPermutation-map name_in read (map row_in volume.rows) is.volume.rows_are.same))

-- ---- what holds of the row of a name is so of each row of it

row_for : (volume : Volume) → IsSound volume → (name : Dsn) (row other : Row) → HasRow volume name row → HasRow volume name other → row ≡ other
row_for volume sound name row other has there =
    one_of_map named volume.rows row other (names_differ volume sound) has.there there.there (one_text name row.name other.name has.name_is there.name_is)

pub few_extents : (volume : Volume) → IsSound volume → (name : Dsn) (row : Row) → HasRow volume name row → length row.extents ≤ 16 → ¬ HasManyExtents volume name
few_extents volume sound name row has few many =
    let same : length row.extents ≡ length many.0.extents = ap (λ (r : Row). length r.extents) (row_for volume sound name row many.0 has many.1) in
    omega (arith, few, many.2, same)

pub not_whole : (volume : Volume) → IsSound volume → (name : Dsn) (row : Row) → HasRow volume name row → length row.extents ≢ 1 → length (tracks_in volume row) ≢ 0 → ¬ IsWhole volume name
not_whole volume sound name row has several some whole =
    let same : row ≡ whole.0 = row_for volume sound name row whole.0 has whole.1 in
    elim whole.2 [
      | inl one ↦ several (ap (λ (r : Row). length r.extents) same ∙ one)
      | inr none ↦ some (ap (λ (r : Row). length (tracks_in volume r)) same ∙ none)
    ]
