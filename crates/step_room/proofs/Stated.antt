-- Where the free space of a volume can be stated, a data set may be taken away, and put in its own place again.
use Rattle.std.proofs.Common.{◌≡◌, ◌⊎◌, inl, inr, ℕ, ◌+◌, ◌≤◌, List, [], ◌∷◌, ◌++◌, length, map, refl, sym, ap, subst, ◌∙◌, arith}
use Rattle.std.specs.Prelude.{◌↔◌, sum_by}
use Rattle.std.proofs.lemmas.List.{length-append, length-map}
use Rattle.ckd_image.specs.Device.{heads_of}
use Rattle.dsn_filter.specs.declared.dsn.Dsn.{Dsn}
use Rattle.free_map.specs.declared.run.Run.{Run}
use Rattle.free_map.specs.Free.{IsFree}
use Rattle.free_map.specs.Runs.{InRuns}
use Rattle.volume_model.specs.Changed.{threes_for}
use Rattle.volume_model.specs.Space.{run_of}
use Rattle.volume_model.specs.Unit.{Extent, run_in, fives_for}
use Rattle.vtoc_core.specs.declared.volume.Row.{Row}
use Rattle.vtoc_core.specs.declared.volume.Volume.{Volume}
use Rattle.vtoc_core.specs.Loaded.{field_of, records_for}
use Rattle.volume_change.specs.declared.change.Change.{Change}
use Rattle.volume_change.specs.declared.change.Change.TheVariants.{Repair, Swap, Remove}
use Rattle.volume_change.specs.Runs.{runs_in, IsFreeAfter}
use Rattle.volume_change.proofs.Names.{one_text}
use Rattle.step_plans.specs.vtoc_render.Next.{IsChanged, IsNext, used_by, runs_of_rows}
use Rattle.step_plans.specs.unit_change.Changed.{extents_of}
use Rattle.step_plans.proofs.unit_change.ChangedRows.{is_changed, parted_rows}
use Rattle.step_plans.proofs.unit_change.Describing.{runs_in_row}
use Rattle.step_plans.proofs.unit_change.LoadedTracks.{all_counted}
use Rattle.step_plans.proofs.unit_steps.Blocks.{few, home_short}
use Rattle.step_plans.specs.unit_steps.Plans.{HasRow}
use Rattle.step_plans.specs.Plans.{IsSound}
use Rattle.step_room.specs.Room.{LacksRoom, StatedVolumesHaveRoom, ChangesStateSpace}
use Rattle.step_room.proofs.Alike.{as_many}
use Rattle.step_room.proofs.Changing.{rows_go, put_records, put_runs}
use Rattle.step_room.proofs.Counts.{exchanged, next_counted}
use Rattle.step_room.proofs.Repairs.{free_to, free_from}
use Rattle.step_room.proofs.Rooms.{one_runs}
use Rattle.step_room.proofs.RunCounts.{runs_no_more}
use Rattle.step_room.proofs.SoundRows.{one_row, sound_taken, sound_threes}

-- 16 runs more need one format 5 more at most
one_five_more : (runs more : ℕ) → more ≤ runs + 16 → fives_for more ≤ fives_for runs + 1
one_five_more runs more few = omega (arith, few)

module _ (loaded stated : Volume) (name : Dsn) (row : Row) (sound : IsSound loaded) (states : IsNext loaded Repair stated) (has : HasRow loaded name row) (few_extents : length row.extents ≤ 16) where
  abbrev heads : ℕ
  heads = heads_of loaded.device

  -- a change has room that leaves no more records in use than stating the free space does
  has_room : (change : Change) → ((new : Volume) → IsChanged loaded change new → used_by new ≤ used_by stated) → ¬ LacksRoom loaded change
  has_room change fewer (need, free, lacks) =
      omega (
        arith,
        fewer lacks.new lacks.changed,
        lacks.need_is,
        lacks.free_is,
        lacks.too_few,
        states.1,
        states.0.dscbs_are,
        all_counted sound.3.loaded (few sound.3) (home_short sound.3),
      )

  rows_same : sum_by records_for stated.rows ≡ sum_by records_for loaded.rows
  rows_same = ap (sum_by records_for) states.0.rows_are.2

  -- ---- it is taken away

  module _ (new : Volume) (changed : IsChanged loaded (Remove name) new) where
    gone_is : changed.gone ≡ row ∷ []
    gone_is =
        let goes = rows_go loaded.rows new.rows changed.gone changed.put (Remove name) changed.rows_are in
        goes.1 ∙ ap (λ (r : Row). r ∷ []) (one_row loaded sound goes.0 row goes.2 has.there (one_text name goes.0.name row.name goes.3 has.name_is))

    put_is : changed.put ≡ []
    put_is = changed.rows_are.4

    given_long : length (runs_of_rows loaded changed.gone) ≡ length row.extents
    given_long = omega (
      arith,
      ap (λ (rows : List Row). length (runs_of_rows loaded rows)) gone_is,
      length-append (runs_in heads row.extents) [],
      length-map (map field_of row.extents) (run_of heads),
      length-map row.extents field_of,
    )

    runs_few : length new.free.runs ≤ length stated.free.runs + length row.extents
    runs_few = omega (arith, runs_no_more new.free.runs stated.free.runs (runs_of_rows loaded changed.gone) changed.free_are.apart to from, given_long)
      where
        to : (track : ℕ) → InRuns new.free.runs track → InRuns stated.free.runs track ⊎ InRuns (runs_of_rows loaded changed.gone) track
        to track h = by ((changed.free_are.exact track).1 h).0
          where
            by : (IsFree loaded.free track ⊎ InRuns (runs_of_rows loaded changed.gone) track) → InRuns stated.free.runs track ⊎ InRuns (runs_of_rows loaded changed.gone) track
            by (inl free) = inl (free_to states.0 track free)
            by (inr given) = inr given

        from : (track : ℕ) → (InRuns stated.free.runs track ⊎ InRuns (runs_of_rows loaded changed.gone) track) → InRuns new.free.runs track
        from track h = (changed.free_are.exact track).0 (by h, λ taken. subst (λ (rows : List Row). InRuns (runs_of_rows loaded rows) track) put_is taken)
          where
            by : (InRuns stated.free.runs track ⊎ InRuns (runs_of_rows loaded changed.gone) track) → IsFree loaded.free track ⊎ InRuns (runs_of_rows loaded changed.gone) track
            by (inl free) = inl (free_from states.0 track free)
            by (inr given) = inr given

    records_fewer : sum_by records_for new.rows + (1 + row.threes) ≡ sum_by records_for loaded.rows
    records_fewer =
        let split = parted_rows loaded.rows new.rows changed.gone changed.put (Remove name) changed.rows_are in
        omega (
          arith,
          exchanged records_for loaded.rows new.rows split.front changed.gone changed.put split.back split.old_are split.new_are,
          ap (sum_by records_for) gone_is,
          ap (sum_by records_for) put_is,
        )

    removal_fewer : used_by new ≤ used_by stated
    removal_fewer =
        omega (
          arith,
          changed.fives_are,
          states.0.fives_are,
          one_five_more (length stated.free.runs) (length new.free.runs) (omega (arith, few_extents, runs_few)),
          records_fewer,
          rows_same,
        )

  -- ---- it is put in its own place

  module _ (like : Row) (named : like.name ≡ row.name) (extents : extents_of heads like ≡ extents_of heads row) (new : Volume) (changed : IsChanged loaded (Swap name like) new) where
    swapped_is : changed.gone ≡ row ∷ []
    swapped_is =
        let goes = rows_go loaded.rows new.rows changed.gone changed.put (Swap name like) changed.rows_are in
        goes.1 ∙ ap (λ (r : Row). r ∷ []) (one_row loaded sound goes.0 row goes.2 has.there (goes.3 ∙ named))

    as_it_was : runs_of_rows loaded changed.put ≡ runs_of_rows loaded changed.gone
    as_it_was =
        put_runs loaded loaded.rows new.rows changed.gone changed.put [] (Swap name like) changed.rows_are
        ∙ ap (λ (list : List Extent). map run_in list ++ []) extents
        ∙ ap (λ (runs : List Run). runs ++ []) (runs_in_row heads row.extents)
        ∙ sym (ap (runs_of_rows loaded) swapped_is)

    -- none of its tracks was free, and none is
    same_free : (track : ℕ) → IsFreeAfter loaded.free (runs_of_rows loaded changed.gone) (runs_of_rows loaded changed.put) track ↔ IsFreeAfter loaded.free [] [] track
    same_free track = (to, from)
      where
        to : IsFreeAfter loaded.free (runs_of_rows loaded changed.gone) (runs_of_rows loaded changed.put) track → IsFreeAfter loaded.free [] [] track
        to (inl free, not_put) = (inl free, λ none. none)
        to (inr given, not_put) = absurd (not_put (subst (λ (runs : List Run). InRuns runs track) (sym as_it_was) given))

        free : (IsFree loaded.free track ⊎ InRuns [] track) → IsFree loaded.free track
        free (inl is) = is
        free (inr none) = absurd none

        from : IsFreeAfter loaded.free [] [] track → IsFreeAfter loaded.free (runs_of_rows loaded changed.gone) (runs_of_rows loaded changed.put) track
        from h = (
          inl (free h.0),
          λ put. sound_taken loaded sound row has.there track (free h.0) (subst (λ (runs : List Run). InRuns runs track) (as_it_was ∙ ap (runs_of_rows loaded) swapped_is) put),
        )

    runs_same : new.free.runs ≡ stated.free.runs
    runs_same =
        one_runs (IsFree loaded.free) new.free.runs stated.free.runs
        (record { apart = changed.free_are.apart; exact = λ track. (λ free. (changed.free_are.exact track).0 ((same_free track).1 (inl free, λ none. none)), λ h. free_of track ((same_free track).0 ((changed.free_are.exact track).1 h)).0) })
        (record { apart = states.0.free_are.apart; exact = λ track. (λ free. free_to states.0 track free, λ h. free_from states.0 track h) })
      where
        free_of : (track : ℕ) → (IsFree loaded.free track ⊎ InRuns [] track) → IsFree loaded.free track
        free_of track (inl is) = is
        free_of track (inr none) = absurd none

    records_no_more : sum_by records_for new.rows ≤ sum_by records_for loaded.rows
    records_no_more =
        let split = parted_rows loaded.rows new.rows changed.gone changed.put (Swap name like) changed.rows_are in
        omega (
          arith,
          exchanged records_for loaded.rows new.rows split.front changed.gone changed.put split.back split.old_are split.new_are,
          ap (sum_by records_for) swapped_is,
          put_records heads loaded.rows new.rows changed.gone changed.put [] (Swap name like) changed.rows_are,
          ap threes_for (as_many heads row like extents),
          sound_threes loaded sound row has.there,
        )

    swap_no_more : used_by new ≤ used_by stated
    swap_no_more = omega (arith, changed.fives_are, states.0.fives_are, ap (λ (runs : List Run). fives_for (length runs)) runs_same, records_no_more, rows_same)

pub stated_fits : StatedVolumesHaveRoom
stated_fits loaded stated name row sound states has few_extents = (
  has_room loaded stated name row sound states has few_extents (Remove name) (removal_fewer loaded stated name row sound states has few_extents),
  λ like named extents. has_room loaded stated name row sound states has few_extents (Swap name like) (swap_no_more loaded stated name row sound states has few_extents like named extents),
)

-- ---- behind a change

pub states_again : ChangesStateSpace
states_again loaded next change no_mark is =
    let changed : IsChanged loaded change next = is_changed loaded next change no_mark is in (
      record {
        gone = [];
        put = [];
        rows_are = (refl, refl, refl);
        named = changed.named;
        free_are = record { apart = changed.free_are.apart; exact = λ track. (λ h. free_of next.free.runs track h.0, λ h. (inl h, λ none. none)) };
        serial_is = refl;
        device_is = refl;
        usable_is = refl;
        vtoc_is = refl;
        repair_is = changed.repair_is;
        indexed_is = refl;
        dscbs_are = refl;
        fives_are = changed.fives_are;
      },
      next_counted loaded next change no_mark is,
    )
  where
    free_of : (runs : List Run) (track : ℕ) → (InRuns runs track ⊎ InRuns [] track) → InRuns runs track
    free_of runs track (inl is) = is
    free_of runs track (inr none) = absurd none
