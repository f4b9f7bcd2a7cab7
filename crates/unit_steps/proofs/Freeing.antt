-- The meaning of a quiet pool rests on no track that is free.
use Rattle.std.proofs.Common.{◌≡◌, inl, inr, ℕ, ◌<◌, Bool, List, false, sym, ap, subst, ◌∙◌, arith}
use Rattle.std.specs.Prelude.{slice_index, codes}
use Rattle.std.proofs.lemmas.Bool.{cases_Bool}
use Rattle.ckd_image.specs.Bytes.{Begins}
use Rattle.dasd_pool.specs.Disk.{State}
use Rattle.free_map.specs.Free.{IsFree}
use Rattle.free_map.specs.Runs.{InRuns}
use Rattle.redo_core.specs.declared.control.Control.{Control}
use Rattle.redo_core.specs.Format.{head_text}
use Rattle.redo_core.specs.Reading.{journal_of}
use Rattle.volume_model.specs.Reads.{IsUnit, IsVital, IsVitalTrack}
use Rattle.volume_model.specs.Unit.{OnlineVolume, UnitModel, IsFreeTrack, runs_of_sets}
use Rattle.vtoc_core.specs.declared.volume.Volume.{Volume}
use Rattle.unit_change.specs.Described.{own_place, Describes}
use Rattle.unit_change.proofs.LoadedUnits.{loaded_online}
use Rattle.unit_load.specs.declared.state.UnitState.{UnitState}
use Rattle.unit_load.specs.declared.state.UnitState.TheVariants.{Online}
use Rattle.move_core.specs.Facts.{Facts}
use Rattle.move_core.specs.Stands.{place_in, RestsOn, IsSettled}
use Rattle.move_core.specs.Taking.{IsQuiet}
use Rattle.unit_steps.specs.Copied.{IsFreeAt}
use Rattle.unit_steps.specs.Laws.{FreeTracksMayBeWritten}
use Rattle.unit_steps.specs.Loaded.{AreLoaded, HaveFills}
use Rattle.unit_steps.proofs.Quiet.{control_idle, unit_stands}
use Rattle.unit_load.proofs.Keeping.{few_tracks}

not_vital : (loaded : Volume) (volume : OnlineVolume) (track : ℕ) → Describes loaded volume → IsFree loaded.free track → ¬ IsVitalTrack own_place volume track
not_vital loaded volume track describes free vital = by ((describes.free_are.exact track).1 free) vital
  where
    by : IsFreeTrack volume track → IsVitalTrack own_place volume track → ⊥
    by is (inl past) = absurd (omega (arith, is.usable, past))
    by is (inr (inl zero)) = is.not_0 zero
    by is (inr (inr (inl held))) = is.not_vtoc held
    by is (inr (inr (inr of_set))) = is.not_set (subst (λ (t : ℕ). InRuns (runs_of_sets volume.sets) t) of_set.2 of_set.1)

-- the journal's head is no volume's
no_journal : (head : List ℕ) → head ≡ head_text → ¬ Begins (codes "CKD_P370") head
no_journal head is begins = let differ : 65 ≡ 67 = ap (λ (bytes : List ℕ). slice_index bytes 0) (sym is ∙ begins.1) in absurd (omega (arith, differ))

module _ (facts : Facts) (state : State) (models : List UnitModel) (units : List UnitState) (room : ℕ) (fills : List Bool)
    (loaded : AreLoaded facts.shape state.contents units) (fit : HaveFills fills units) (quiet : IsQuiet facts.shape state room fills) (settled : IsSettled facts state models) where
  none_of_journal : (b : ℕ) → ¬ IsFreeAt units (journal_of facts.shape) b
  none_of_journal b (volume, at, free) =
      let is = (loaded (journal_of facts.shape) (Online volume) at).0 in
      no_journal (facts.shape.head (journal_of facts.shape)) quiet.rest.reads.obeys.head.text is.2.head_stands.stands.magic

  vital_alone : (u b : ℕ) (model : UnitModel) → u < journal_of facts.shape
      → IsVital (place_in settled.stands.reading.control u) (facts.shape.head u) (facts.shape.blocks u) (settled.stands.reading.volumes u) model b
      → IsVital own_place (facts.shape.head u) (facts.shape.blocks u) (settled.stands.reading.volumes u) model b
  vital_alone u b model less vital =
      subst (λ (control : Control). IsVital (place_in control u) (facts.shape.head u) (facts.shape.blocks u) (settled.stands.reading.volumes u) model b)
      (control_idle facts state models room fills quiet settled) vital

  none_rests : (u b : ℕ) → u < journal_of facts.shape → IsFreeAt units u b → ¬ RestsOn facts.shape settled.stands.reading settled.stands.means.found u b
  none_rests u b less (volume, at, free) (model, there, inside, vital) =
      let is = loaded u (Online volume) at in
      let found =
      loaded_online (facts.shape.head u) (facts.shape.blocks u) (state.contents u) is.0.0 is.0.1 volume model
      (few_tracks (facts.shape.head u) (facts.shape.blocks u) is.0.0 is.0.2.head_stands) is.1 is.0.2 is.0.3
      (subst (λ (filling : Bool). IsUnit filling false own_place (facts.shape.head u) (facts.shape.blocks u) (state.contents u) model) (fit u (Online volume) at)
      (unit_stands facts state models room fills quiet settled u model less there)) in
      not_vital volume found.0 b found.3 free
      (subst (λ (m : UnitModel). IsVital own_place (facts.shape.head u) (facts.shape.blocks u) (settled.stands.reading.volumes u) m b) found.1 (vital_alone u b model less vital))

pub may_be_written : FreeTracksMayBeWritten
may_be_written facts state models units room fills may loaded fit quiet settled only = record {
  journal = λ b. by (journal_of facts.shape) b (λ free. none_of_journal facts state models units room fills loaded fit quiet settled b free);
  volumes = λ u b less rests. by u b (λ free. none_rests facts state models units room fills loaded fit quiet settled u b less free rests);
}
  where
    by : (u b : ℕ) → ¬ IsFreeAt units u b → may u b ≡ false
    by u b none = elim (cases_Bool (may u b)) [
      | inl chosen ↦ absurd (none (only u b chosen))
      | inr other ↦ other
    ]
