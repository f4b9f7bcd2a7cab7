-- The data sets of a volume as it was loaded differ in their names.
use Rattle.std.proofs.Common.{◌≡◌, ℕ, List, [], ◌∷◌, map, Contains, refl, sym, subst}
use Rattle.ckd_image.specs.Device.{heads_of}
use Rattle.dsn_filter.specs.declared.dsn.Dsn.{Dsn}
use Rattle.volume_model.specs.Pinned.{IsNameOf}
use Rattle.volume_model.specs.Unit.{DataSet, OnlineVolume}
use Rattle.volume_change.proofs.Names.{one_text}
use Rattle.vtoc_core.specs.declared.volume.Row.{Row}
use Rattle.vtoc_core.specs.declared.volume.Volume.{Volume}
use Rattle.vtoc_layout.specs.Layout.{AreDistinct}
use Rattle.vtoc_layout.proofs.Distinct.{one_of_map}
use Rattle.dump_sets.specs.job_turns.job_copies.unit_change.Described.{Describes, DescribesSets}
use Rattle.dump_sets.specs.job_turns.job_copies.step_plans.Plans.{IsSound}
use Rattle.dump_sets.proofs.job_turns.job_copies.step_room.step_plans.RowNames.{named, names_differ}

module _ (heads : ℕ) where
  set_names : (rows : List Row) (sets : List DataSet) → DescribesSets heads rows sets → map named rows ≡ map (λ set. set.name) sets
  set_names [] [] are = refl
  set_names [] (set ∷ sets) are = absurd are
  set_names (row ∷ rows) [] are = absurd are
  set_names (row ∷ rows) (set ∷ sets) are = λ i. sym are.0.name_is i ∷ set_names rows sets are.1 i

module _ (loaded : Volume) (volume : OnlineVolume) (sound : IsSound loaded) (is : Describes loaded volume) (name : Dsn) where
  -- of one name there is one data set
  pub one_set : (a b : DataSet) → Contains volume.sets a → Contains volume.sets b → IsNameOf name a.name → IsNameOf name b.name → a ≡ b
  one_set a b here there one other =
      one_of_map (λ (set : DataSet). set.name) volume.sets a b
      (subst (λ (names : List (List ℕ)). AreDistinct names) (set_names (heads_of loaded.device) loaded.rows volume.sets is.sets_are) (names_differ loaded sound)) here there
      (one_text name a.name b.name one other)
