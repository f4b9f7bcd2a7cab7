-- What follows a dump can be done.
use Rattle.std.proofs.Common.{◌≡◌, ◌≢◌, ℕ, suc, true, false, List, [], ◌∷◌, length, All, Option, Some, None, refl, sym, ap, subst}
use Rattle.std.proofs.lemmas.List.Elements.{All-cons, All-nil}
use Rattle.dsn_filter.specs.declared.dsn.Dsn.{Dsn}
use Rattle.vtoc_core.specs.declared.volume.Row.{Row}
use Rattle.vtoc_core.specs.declared.volume.Volume.{Volume}
use Rattle.unit_load.specs.declared.state.UnitState.{UnitState}
use Rattle.job_lines.specs.declared.message.Reason.{Reason}
use Rattle.job_dumps.specs.job_turns.job_copies.unit_steps.Plans.{IsLoadedAt}
use Rattle.job_dumps.proofs.job_turns.job_copies.unit_steps.OneChange.{same_volume}
use Rattle.job_dumps.specs.declared.pass.DumpScene.{DumpScene}
use Rattle.job_dumps.specs.Passing.{DumpedCanBeChanged}
use Rattle.job_dumps.specs.Putting.{HaveRows}
use Rattle.job_dumps.specs.Reasons.{changes_sets}
use Rattle.dump_sets.specs.Changing.{HasFew}
use Rattle.dump_sets.specs.Going.{AreTaken, CanState, MayFollow}
use Rattle.dump_sets.specs.Telling.{taken_of}

module _ (units : List UnitState) (scene : DumpScene) where
  same_count : (sets : List Dsn) (told : List (Option Reason)) → DumpedCanBeChanged units scene sets told → length told ≡ length sets
  same_count [] [] all = refl
  same_count (name ∷ sets) (reason ∷ told) all = ap suc (same_count sets told all.1)
  same_count [] (reason ∷ told) all = absurd all
  same_count (name ∷ sets) [] all = absurd all

  -- where one stands in the dump and is to be changed, the VTOC has room
  some_room : (sets : List Dsn) (told : List (Option Reason)) → DumpedCanBeChanged units scene sets told → taken_of sets told ≢ [] → changes_sets scene.wish ≡ true → scene.full ≡ false
  some_room [] [] all some changes = absurd (some refl)
  some_room (name ∷ sets) (None ∷ told) all some changes = (all.0 refl).room changes
  some_room (name ∷ sets) (Some reason ∷ told) all some changes = some_room sets told all.1 some changes
  some_room [] (reason ∷ told) all some changes = absurd all
  some_room (name ∷ sets) [] all some changes = absurd all

  -- those that stand in the dump have at most 16 extents
  few_taken : (volume : Volume) → IsLoadedAt units scene.unit volume → (sets : List Dsn) (told : List (Option Reason)) (rows : List Row) → HaveRows volume sets rows
      → DumpedCanBeChanged units scene sets told → All (HasFew volume) (taken_of sets told)
  few_taken volume loaded [] [] rows have all = All-nil (HasFew volume)
  few_taken volume loaded (name ∷ sets) (None ∷ told) (row ∷ rows) have all =
      All-cons (HasFew volume) name (taken_of sets told) (row, have.0, (all.0 refl).few volume row loaded have.0) (few_taken volume loaded sets told rows have.1 all.1)
  few_taken volume loaded (name ∷ sets) (Some reason ∷ told) (row ∷ rows) have all = few_taken volume loaded sets told rows have.1 all.1
  few_taken volume loaded (name ∷ sets) (reason ∷ told) [] have all = absurd have
  few_taken volume loaded [] (reason ∷ told) rows have all = absurd all
  few_taken volume loaded (name ∷ sets) [] rows have all = absurd all

  pub may_follow : {room least : ℕ} {states : List UnitState} {sets : List Dsn} {told : List (Option Reason)} → least ≡ room → states ≡ units → AreTaken units scene.unit sets
      → (changes_sets scene.wish ≡ true → scene.full ≡ false → CanState room units scene.unit) → DumpedCanBeChanged units scene sets told
      → MayFollow least states scene.wish scene.unit sets told
  may_follow {room} {least} {states} {sets} {told} least_is states_are taken may all =
      subst (λ (l : ℕ). MayFollow l states scene.wish scene.unit sets told) (sym least_is)
      (subst (λ (s : List UnitState). MayFollow room s scene.wish scene.unit sets told) (sym states_are) (record {
        named = taken.named;
        apart = taken.apart;
        count = same_count sets told all;
        may = λ changes some.
            let can = may changes (some_room sets told all some changes) in
            record {
              may = can.may;
              stated = can.stated;
              states = can.states;
              sets =
                  few_taken can.may.volume can.may.loaded sets told taken.order.rows
                  (subst (λ (v : Volume). HaveRows v sets taken.order.rows) (same_volume units scene.unit taken.volume can.may.volume taken.loaded can.may.loaded) taken.order.have) all;
            };
      }))
