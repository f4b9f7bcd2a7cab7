-- The records that a volume uses after changes that give and take the same.
use Rattle.std.proofs.Common.{◌≡◌, ◌≢◌, ℕ, List, [], ◌++◌, length, map, refl, sym, ap, subst, ◌∙◌, arith}
use Rattle.std.specs.Prelude.{sum_by}
use Rattle.std.proofs.lemmas.List.{length-map}
use Rattle.ckd_image.specs.Device.{heads_of}
use Rattle.dsn_filter.specs.declared.dsn.Dsn.{Dsn}
use Rattle.free_map.specs.declared.run.Run.{Run}
use Rattle.free_map.specs.Runs.{AreMaximalRuns}
use Rattle.volume_model.specs.Changed.{records_for as records_of_set, threes_for}
use Rattle.volume_model.specs.Pinned.{IsNameOf}
use Rattle.volume_model.specs.Reads.{extent_in}
use Rattle.volume_model.specs.Unit.{Extent, run_in, runs_of_sets, fives_for}
use Rattle.vtoc_core.specs.declared.volume.Row.{Row}
use Rattle.vtoc_core.specs.declared.volume.Volume.{Volume}
use Rattle.vtoc_core.specs.Loaded.{field_of, records_for}
use Rattle.volume_change.specs.declared.change.Change.{Change}
use Rattle.volume_change.specs.declared.change.Change.TheVariants.{Repair, Put, Swap, Remove, Mark}
use Rattle.volume_change.specs.Runs.{IsFreeAfter}
use Rattle.step_plans.specs.vtoc_render.Next.{IsChanged, used_by, runs_of_rows}
use Rattle.step_plans.specs.unit_change.Changed.{extents_of, sets_put}
use Rattle.step_plans.proofs.unit_change.ChangedRows.{parted_rows}
use Rattle.step_plans.specs.Plans.{IsSound}
use Rattle.step_room.specs.Room.{AreAlike}
use Rattle.step_room.proofs.Changing.{DoGo, rows_go, one_gone, put_runs, put_records}
use Rattle.step_room.proofs.Counts.{exchanged}
use Rattle.step_room.proofs.Rooms.{one_runs}

-- ---- two volumes after changes that give and take the same

module _ {loaded a b : Volume} {change other : Change} (one : IsChanged loaded change a) (two : IsChanged loaded other b) (gone_same : one.gone ≡ two.gone)
    (put_same : runs_of_rows loaded one.put ≡ runs_of_rows loaded two.put) (records_same : sum_by records_for one.put ≡ sum_by records_for two.put) where
  runs_same : a.free.runs ≡ b.free.runs
  runs_same =
      one_runs (IsFreeAfter loaded.free (runs_of_rows loaded two.gone) (runs_of_rows loaded two.put)) a.free.runs b.free.runs
      (subst (λ (runs : List Run). AreMaximalRuns (IsFreeAfter loaded.free (runs_of_rows loaded two.gone) runs) a.free.runs) put_same
      (subst (λ (rows : List Row). AreMaximalRuns (IsFreeAfter loaded.free (runs_of_rows loaded rows) (runs_of_rows loaded one.put)) a.free.runs) gone_same one.free_are))
      two.free_are

  -- they use as many records
  use_same : used_by a ≡ used_by b
  use_same =
      let first = parted_rows loaded.rows a.rows one.gone one.put change one.rows_are in
      let second = parted_rows loaded.rows b.rows two.gone two.put other two.rows_are in
      let fives : a.fives ≡ b.fives = one.fives_are ∙ ap (λ (runs : List Run). fives_for (length runs)) runs_same ∙ sym two.fives_are in
      omega (
        arith,
        fives,
        exchanged records_for loaded.rows a.rows first.front one.gone one.put first.back first.old_are first.new_are,
        exchanged records_for loaded.rows b.rows second.front two.gone two.put second.back second.old_are second.new_are,
        ap (sum_by records_for) gone_same,
        records_same,
      )

-- the same change
pub one_use : (loaded a b : Volume) (change : Change) → IsSound loaded → IsChanged loaded change a → IsChanged loaded change b → used_by a ≡ used_by b
one_use loaded a b change sound one two =
    use_same one two
    (one_gone loaded sound change one.gone two.gone (rows_go loaded.rows a.rows one.gone one.put change one.rows_are) (rows_go loaded.rows b.rows two.gone two.put change two.rows_are))
    (put_runs loaded loaded.rows a.rows one.gone one.put [] change one.rows_are ∙ sym (put_runs loaded loaded.rows b.rows two.gone two.put [] change two.rows_are))
    (put_records (heads_of loaded.device) loaded.rows a.rows one.gone one.put [] change one.rows_are
    ∙ sym (put_records (heads_of loaded.device) loaded.rows b.rows two.gone two.put [] change two.rows_are))

-- ---- changes that are alike

marks_none : (heads : ℕ) (like : Change) → ¬ AreAlike heads Mark like
marks_none heads Repair alike = alike
marks_none heads (Put row) alike = alike
marks_none heads (Swap name row) alike = alike
marks_none heads (Remove name) alike = alike
marks_none heads Mark alike = alike

pub no_marks_alike : (heads : ℕ) (change like : Change) → AreAlike heads change like → change ≢ Mark
no_marks_alike heads change like alike same = marks_none heads like (subst (λ (c : Change). AreAlike heads c like) same alike)

go_alike : (heads : ℕ) (rows : List Row) (change like : Change) (gone : List Row) → AreAlike heads change like → DoGo rows like gone → DoGo rows change gone
go_alike heads rows Repair Repair gone alike is = is
go_alike heads rows (Put row) (Put like) gone alike is = is
go_alike heads rows (Swap name row) (Swap other like) gone alike is = (is.0, is.1, is.2, is.3 ∙ alike.1)
go_alike heads rows (Remove name) (Remove other) gone alike is = (is.0, is.1, is.2, subst (λ (n : Dsn). IsNameOf n is.0.name) alike is.3)
go_alike heads rows _ _ gone alike is = absurd alike

one_run_list : (heads : ℕ) (row like : Row) → extents_of heads like ≡ extents_of heads row → map run_in (extents_of heads row) ++ [] ≡ map run_in (extents_of heads like) ++ []
one_run_list heads row like extents = ap (λ (list : List Extent). map run_in list ++ []) (sym extents)

runs_alike : (heads : ℕ) (change like : Change) → AreAlike heads change like → runs_of_sets (sets_put heads change []) ≡ runs_of_sets (sets_put heads like [])
runs_alike heads Repair Repair alike = refl
runs_alike heads (Put row) (Put like) alike = one_run_list heads row like alike.1
runs_alike heads (Swap name row) (Swap other like) alike = one_run_list heads row like alike.2
runs_alike heads (Remove name) (Remove other) alike = refl
runs_alike heads _ _ alike = absurd alike

pub as_many : (heads : ℕ) (row like : Row) → extents_of heads like ≡ extents_of heads row → length row.extents ≡ length like.extents
as_many heads row like extents = omega (
  arith,
  ap length extents,
  length-map row.extents (λ extent. extent_in heads (field_of extent)),
  length-map like.extents (λ extent. extent_in heads (field_of extent)),
)

records_alike : (heads : ℕ) (change like : Change) → AreAlike heads change like
    → sum_by records_of_set (sets_put heads change []) ≡ sum_by records_of_set (sets_put heads like [])
records_alike heads Repair Repair alike = refl
records_alike heads (Put row) (Put like) alike = omega (arith, ap threes_for (as_many heads row like alike.1))
records_alike heads (Swap name row) (Swap other like) alike = omega (arith, ap threes_for (as_many heads row like alike.2))
records_alike heads (Remove name) (Remove other) alike = refl
records_alike heads _ _ alike = absurd alike

pub alike_use : (loaded a b : Volume) (change like : Change) → IsSound loaded → AreAlike (heads_of loaded.device) change like → IsChanged loaded change a → IsChanged loaded like b
    → used_by a ≡ used_by b
alike_use loaded a b change like sound alike one two =
    let heads = heads_of loaded.device in
    use_same one two
    (one_gone loaded sound change one.gone two.gone (rows_go loaded.rows a.rows one.gone one.put change one.rows_are)
    (go_alike heads loaded.rows change like two.gone alike (rows_go loaded.rows b.rows two.gone two.put like two.rows_are)))
    (put_runs loaded loaded.rows a.rows one.gone one.put [] change one.rows_are ∙ runs_alike heads change like alike
    ∙ sym (put_runs loaded loaded.rows b.rows two.gone two.put [] like two.rows_are))
    (put_records heads loaded.rows a.rows one.gone one.put [] change one.rows_are ∙ records_alike heads change like alike
    ∙ sym (put_records heads loaded.rows b.rows two.gone two.put [] like two.rows_are))
