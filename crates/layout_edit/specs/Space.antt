-- The space of a VTOC after one change of its data sets.
use Rattle.std.specs.Prelude.{◌≡◌, ℕ, ◌≤◌, true, false, IsTrue, List, ◌∷◌, ◌++◌, map, All}
use Rattle.std.specs.List.{flat_map}
use Rattle.free_map.specs.declared.run.Run.{Run}
use Rattle.free_map.specs.Runs.{AreMaximalRuns}
use Rattle.volume_model.specs.declared.place.Vtoc.{Vtoc}
use Rattle.volume_model.specs.Space.{end_of, overlap, is_run, run_of, is_free}
use Rattle.volume_model.specs.Check.{track_0}
use Rattle.vtoc_layout.specs.Layout.{SetRecords, Layout, extents_in_set, runs_by, entries_by, usable_by, AreApart, AreExtentsApart, AreEntriesRight}

-- the runs of some data sets
abbrev pub runs_in_sets : ℕ → List SetRecords → List Run
runs_in_sets heads sets = map (run_of heads) (flat_map extents_in_set sets)

-- Extents lie below the end of the volume, and no two of them, nor one of them and track 0, the VTOC or other extents, have a track.
pub record ArePutApart (vtoc : Vtoc) (others : List Run) (put : List SetRecords) : Type 0 where
  pub ranges : All (λ extent. is_run vtoc.heads vtoc.limit extent ≡ true) (flat_map extents_in_set put)
  pub off_track_0 : All (λ run. overlap run track_0 ≡ false) (runs_in_sets vtoc.heads put)
  pub off_vtoc : All (λ run. overlap run vtoc.run ≡ false) (runs_in_sets vtoc.heads put)
  pub off_others : All (λ run. All (λ other. overlap run other ≡ false) others) (runs_in_sets vtoc.heads put)
  pub apart : AreApart (runs_in_sets vtoc.heads put)

-- Where a data set is put apart from those that stay, all are apart.
abbrev pub ExtentsStayApart : Type 0
ExtentsStayApart =
    (old new : Vtoc) (before after : Layout) (front gone put back : List SetRecords) → new.heads ≡ old.heads → new.limit ≡ old.limit → new.run ≡ old.run
    → before.sets ≡ front ++ (gone ++ back) → after.sets ≡ front ++ (put ++ back) → AreExtentsApart old before
    → ArePutApart old (runs_in_sets old.heads front ++ runs_in_sets old.heads back) put → AreExtentsApart new after

-- Where every usable track is used or stated free, and no run ends behind them, they are the usable tracks.
abbrev pub UsableTracksStay : Type 0
UsableTracksStay =
    (vtoc : Vtoc) (layout : Layout) (usable : ℕ) → vtoc.valid ≡ true → 1 ≤ usable → All (λ run. end_of run ≤ usable) (vtoc.run ∷ runs_by vtoc.heads layout)
    → AreMaximalRuns (λ track. IsTrue (is_free usable vtoc.run (runs_by vtoc.heads layout) track)) (entries_by vtoc.heads layout) → usable_by vtoc layout ≡ usable

-- so the entries state them
abbrev pub EntriesAreRight : Type 0
EntriesAreRight =
    (vtoc : Vtoc) (layout : Layout) (usable : ℕ) → vtoc.valid ≡ true → 1 ≤ usable → usable ≤ vtoc.limit → All (λ run. end_of run ≤ usable) (vtoc.run ∷ runs_by vtoc.heads layout)
    → AreMaximalRuns (λ track. IsTrue (is_free usable vtoc.run (runs_by vtoc.heads layout) track)) (entries_by vtoc.heads layout) → AreEntriesRight vtoc layout
