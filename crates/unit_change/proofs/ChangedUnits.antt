-- Once a rendered change is written, the unit is the volume after it.
use Rattle.std.proofs.Common.{◌≡◌, ◌≢◌, ◌⊎◌, inl, inr, ℕ, ◌-◌, List, [], ◌∷◌, ◌++◌, map, IsTrue, false, refl, sym, ap, subst, ◌∙◌, arith}
use Rattle.std.proofs.lemmas.List.{map-append}
use Rattle.ckd_image.specs.declared.device.Device.{Device}
use Rattle.ckd_image.specs.declared.head.Head.{Head}
use Rattle.ckd_image.specs.Address.{address_of}
use Rattle.ckd_image.specs.Device.{heads_of}
use Rattle.ckd_image.specs.Track.{IsTrackText}
use Rattle.free_map.specs.declared.run.Run.{Run}
use Rattle.free_map.specs.Free.{IsFree}
use Rattle.free_map.specs.Runs.{HasTrack, InRuns, AreMaximalRuns}
use Rattle.vol_label.specs.declared.label.Label.{Label}
use Rattle.volume_model.specs.Changed.{ChangesSets}
use Rattle.volume_model.specs.Check.{extents_in, usable_in}
use Rattle.volume_model.specs.Directory.{DirectoryRow}
use Rattle.volume_model.specs.Reads.{AreDataSets, IsOnline, fields_of_4, has_index, blocks_from}
use Rattle.volume_model.specs.Sound.{Slots, Volume, IsVolume}
use Rattle.volume_model.specs.Space.{end_of, is_free}
use Rattle.volume_model.specs.Unit.{Text, DataSet, OnlineVolume}
use Rattle.volume_model.proofs.Blocks.{blocks_same}
use Rattle.vtoc_core.specs.declared.volume.Row.{Row}
use Rattle.vtoc_core.specs.declared.volume.Volume.{Volume as Loaded}
use Rattle.vtoc_core.specs.Loaded.{row_in}
use Rattle.vtoc_load.specs.LoadedVtoc.{IsLoadedVtoc}
use Rattle.vtoc_rewrite.specs.Rewrite.{AreSlotsAfter}
use Rattle.volume_change.specs.declared.change.Change.{Change}
use Rattle.volume_change.specs.declared.change.Change.TheVariants.{Repair, Put, Swap, Remove, Mark}
use Rattle.vtoc_render.specs.declared.change.Rendered.{Rendered}
use Rattle.vtoc_render.specs.Next.{MayChange, IsNext, IsChanged, runs_of_rows}
use Rattle.vtoc_render.specs.Render.{LoadsAfter}
use Rattle.unit_change.specs.Described.{own_place, AreShort, Describes}
use Rattle.unit_change.specs.Changed.{AreGone, AreTextsPut, sets_put, IsUnitOf}
use Rattle.unit_change.proofs.FormatFour.{run_inside, KeepsFormat4}
use Rattle.unit_change.proofs.OneVtoc.{home_short}
use Rattle.unit_change.proofs.LoadedTracks.{four, free_unused_by_rows, rows_off_vtoc, vtoc_usable, in_all_rows}
use Rattle.unit_change.proofs.Describing.{IsFoundLoaded, describes, sets_found, runs_described}
use Rattle.unit_change.proofs.LoadedUnits.{found_loaded}
use Rattle.unit_change.proofs.UnitLoads.{head_stands, first_text, label_stands, labelled, four_short, was_loaded}
use Rattle.unit_change.proofs.Kept.{AreSetsOfTwo, of_two, both, sets_kept}
use Rattle.unit_change.proofs.ChangedRows.{is_changed, AreParted, parted_rows, gone_is, put_are, lawful_put, OnPut, put_texts_kept}

on_put : (heads : ℕ) (change : Change) (P Q : ℕ → Type 0) → ((track : ℕ) → P track → Q track) → OnPut heads change P → OnPut heads change Q
on_put heads Repair P Q f all = tt
on_put heads (Put row) P Q f all = λ track here. f track (all track here)
on_put heads (Swap name row) P Q f all = λ track here. f track (all track here)
on_put heads (Remove name) P Q f all = tt
on_put heads Mark P Q f all = tt

three_parts : (front middle back : List Row) → map row_in (front ++ (middle ++ back)) ≡ map row_in front ++ (map row_in middle ++ map row_in back)
three_parts front middle back = map-append row_in front (middle ++ back) ∙ ap (λ (rows : List DirectoryRow). map row_in front ++ rows) (map-append row_in middle back)

module _ {head : List ℕ} {blocks : ℕ} {old : Slots} {image : Head} {label : Label} {before : OnlineVolume} {loaded : Loaded} {vtoc_slots : List ℕ}
    (of : IsUnitOf head blocks old image label before loaded vtoc_slots) where
  abbrev is : IsLoadedVtoc image label old false loaded
  is = of.loaded_is

  found : IsFoundLoaded of.online of.loaded_is
  found = found_loaded head blocks old image label loaded of.few of.short (labelled of) of.loaded_is before of.online

  pub described : Describes loaded before
  described = describes found of.few (four_short of)

  -- no track of what is put is one of the VTOC
  put_off_vtoc : (change : Change) → MayChange loaded change → OnPut (heads_of loaded.device) change (λ track. ¬ HasTrack loaded.vtoc track)
  put_off_vtoc Repair may = tt
  put_off_vtoc (Put row) may = λ track here held. by track held (may.0.tracks track here)
    where
      by : (track : ℕ) → HasTrack loaded.vtoc track → (IsFree loaded.free track ⊎ InRuns (runs_of_rows loaded []) track) → ⊥
      by track held (inl free) = (free_unused_by_rows is of.few (four_short of) track free).off (subst (λ (run : Run). HasTrack run track) is.volume.vtoc_is held)
      by track held (inr none) = none
  put_off_vtoc (Swap name row) may = λ track here held. by track held (may.1.3.tracks track here)
    where
      by : (track : ℕ) → HasTrack loaded.vtoc track → (IsFree loaded.free track ⊎ InRuns (runs_of_rows loaded (may.1.0 ∷ [])) track) → ⊥
      by track held (inl free) = (free_unused_by_rows is of.few (four_short of) track free).off (subst (λ (run : Run). HasTrack run track) is.volume.vtoc_is held)
      by track held (inr given) =
          rows_off_vtoc is of.few (four_short of) track (in_all_rows loaded may.1.0 track may.1.1 given) (subst (λ (run : Run). HasTrack run track) is.volume.vtoc_is held)
  put_off_vtoc (Remove name) may = tt
  put_off_vtoc Mark may = tt

  module _ (new : Slots) (change : Change) (rendered : Rendered) (texts : List Text) (may : MayChange loaded change) (no_mark : change ≢ Mark) (next : IsNext loaded change rendered.next)
      (loads : LoadsAfter loaded vtoc_slots change rendered) (slots_after : AreSlotsAfter loaded.vtoc rendered.blocks old new) (new_short : AreShort blocks new)
      (put_texts : AreTextsPut (heads_of loaded.device) old change texts) (keeps : KeepsFormat4 image label.vtoc old new) where
    new_is : IsLoadedVtoc image label new false rendered.next
    new_is = loads image label old new false false is.vtoc (four is of.few (four_short of)) (was_loaded of) slots_after (inl no_mark)

    changed : IsChanged loaded change rendered.next
    changed = is_changed loaded rendered.next change no_mark next

    -- ---- what stays

    stays : (track : ℕ) → ¬ HasTrack loaded.vtoc track → new track ≡ old track
    stays track off = slots_after.outside track (λ from below. off (from, below))

    first_stays : new 0 ≡ old 0
    first_stays =
        stays 0 (λ held. absurd (omega (arith, held.0, ap (λ (run : Run). run.first) is.volume.vtoc_is, (run_inside image old label.vtoc false is.vtoc is.stands.stands).0)))

    tail_stays : before.tail ≡ blocks_from new before.usable (blocks - before.usable)
    tail_stays =
        of.online.tail_is
        ∙ blocks_same old new before.usable (blocks - before.usable)
        (λ track from below.
        stays track
        (λ held. absurd (omega (arith, from, held.1, ap end_of is.volume.vtoc_is, described.usable_is, vtoc_usable is of.few (four_short of)))))

    old_sets : AreDataSets (heads_of loaded.device) own_place new (map row_in loaded.rows) before.sets
    old_sets =
        sets_kept (heads_of loaded.device) old new (map row_in loaded.rows) before.sets
        (λ track here.
        stays track
        (λ held.
        rows_off_vtoc is of.few (four_short of) track
        (subst (λ (runs : List Run). InRuns runs track) (runs_described loaded loaded.rows before.sets described.sets_are) here)
        (subst (λ (run : Run). HasTrack run track) is.volume.vtoc_is held)))
        (sets_found found of.few (four_short of))

    -- ---- the data sets

    rows : AreParted loaded.rows rendered.next.rows changed.gone changed.put
    rows = parted_rows loaded.rows rendered.next.rows changed.gone changed.put change changed.rows_are

    abbrev ahead : List DirectoryRow
    ahead = map row_in rows.front

    abbrev later : List DirectoryRow
    later = map row_in rows.back

    outer : AreSetsOfTwo (heads_of loaded.device) new ahead (map row_in changed.gone ++ later) before.sets
    outer =
        of_two (heads_of loaded.device) new ahead (map row_in changed.gone ++ later) before.sets
        (subst (λ (found : List DirectoryRow). AreDataSets (heads_of loaded.device) own_place new found before.sets)
        (ap (map row_in) rows.old_are ∙ three_parts rows.front changed.gone rows.back) old_sets)

    inner : AreSetsOfTwo (heads_of loaded.device) new (map row_in changed.gone) later outer.back
    inner = of_two (heads_of loaded.device) new (map row_in changed.gone) later outer.back outer.back_are

    abbrev put : List DataSet
    put = sets_put (heads_of loaded.device) change texts

    put_stand : AreDataSets (heads_of loaded.device) own_place new (map row_in changed.put) put
    put_stand =
        put_are (heads_of loaded.device) new loaded.rows rendered.next.rows changed.gone changed.put texts change changed.named.names changed.rows_are
        (put_texts_kept (heads_of loaded.device) old new texts change
        (on_put (heads_of loaded.device) change (λ track. ¬ HasTrack loaded.vtoc track) (λ track. new track ≡ old track) stays (put_off_vtoc change may)) put_texts)

    new_sets : AreDataSets (heads_of loaded.device) own_place new (map row_in rendered.next.rows) (outer.front ++ (put ++ inner.back))
    new_sets =
        subst (λ (found : List DirectoryRow). AreDataSets (heads_of loaded.device) own_place new found (outer.front ++ (put ++ inner.back)))
        (sym (ap (map row_in) rows.new_are ∙ three_parts rows.front changed.put rows.back))
        (both (heads_of loaded.device) new ahead (map row_in changed.put ++ later) outer.front (put ++ inner.back) outer.front_are
        (both (heads_of loaded.device) new (map row_in changed.put) later put inner.back put_stand inner.back_are))

    -- ---- the volume

    abbrev after : OnlineVolume
    after = record before { sets = outer.front ++ (put ++ inner.back); repair = false; fives = rendered.next.fives }

    usable_same : before.usable ≡ usable_in new_is.vtoc
    usable_same = described.usable_is ∙ sym changed.usable_is ∙ new_is.volume.space.usable_is

    abbrev new_volume : Volume
    new_volume = record { device = image.device; label = label; usable = usable_in new_is.vtoc; free = rendered.next.free.runs; rows = map row_in rendered.next.rows }

    stands : IsVolume head blocks new false new_volume
    stands = record {
      image = image;
      track_0 = of.online.stands.track_0;
      vtoc = new_is.vtoc;
      head_stands = (head_stands of).stands;
      tracks_are = (head_stands of).tracks_are;
      device_is = refl;
      track_0_stands =
          subst (λ (slot : List ℕ). IsTrackText (address_of (heads_of image.device) 0) slot of.online.stands.track_0) (sym first_stays) (first_text of);
      label_stands = label_stands of;
      vtoc_stands = new_is.stands.stands;
      sound = new_is.sound;
      usable_is = refl;
      free_are =
          subst (λ (usable : ℕ). AreMaximalRuns (λ track. IsTrue (is_free usable new_is.vtoc.run (extents_in new_is.vtoc) track)) rendered.next.free.runs)
          new_is.volume.space.usable_is new_is.volume.space.free_are;
      rows_are = new_is.volume.rows_are;
    }

    online_after : IsOnline false own_place head blocks new after
    unfolding stands
    online_after = record {
      found = new_volume;
      stands = stands;
      serial_is = of.online.serial_is ∙ ap (λ (l : Label). l.serial) (sym of.label_is);
      device_is = described.device_is ∙ is.volume.device_is;
      usable_is = usable_same;
      vtoc_is = described.vtoc_is ∙ sym changed.vtoc_is ∙ new_is.volume.vtoc_is;
      first_is = of.online.first_is;
      four_is =
          of.online.four_is ∙ ap fields_of_4 (found.bytes_are ∙ is.stands.four_is)
          ∙ sym (keeps is.stands.stands.bytes new_is.stands.stands.bytes is.stands.stands.format_4 new_is.stands.stands.format_4);
      sets_are = subst (λ (d : Device). AreDataSets (heads_of d) own_place new (map row_in rendered.next.rows) (outer.front ++ (put ++ inner.back))) is.volume.device_is new_sets;
      repair_is = sym changed.repair_is ∙ new_is.volume.repair_is;
      indexed_is = described.indexed_is ∙ sym changed.indexed_is ∙ new_is.volume.indexed_is ∙ ap has_index new_is.stands.four_is;
      dscbs_are = described.dscbs_are ∙ sym changed.dscbs_are ∙ new_is.volume.dscbs_are;
      fives_are = new_is.volume.fives_are;
      tail_is = tail_stays;
    }

    found_after : IsFoundLoaded online_after new_is
    unfolding stands online_after
    found_after = record { image_is = refl; label_is = refl; vtoc_is = refl; bytes_are = sym new_is.stands.four_is; rows_are = refl }

    described_after : Describes rendered.next after
    described_after = describes found_after of.few (home_short image blocks new label.vtoc false (head_stands of).tracks_are new_short new_is.vtoc new_is.stands.stands)

    changes : ChangesSets before after inner.front put
    changes = record {
      front = outer.front;
      back = inner.back;
      sets_were = outer.sets_are ∙ ap (λ (sets : List DataSet). outer.front ++ sets) inner.sets_are;
      are_put = lawful_put (heads_of loaded.device) loaded texts change may;
      after_is = refl;
      fives = record { runs = rendered.next.free.runs; runs_are = described_after.free_are; fives_are = changed.fives_are };
    }

    gone_are : AreGone change inner.front
    gone_are =
        gone_is (heads_of loaded.device) new loaded.rows rendered.next.rows changed.gone changed.put inner.front change is.volume.names_are changed.rows_are inner.front_are

    -- what RenderedUnitsStand says
    pub stands_after : (after : OnlineVolume) × (gone : List DataSet) × IsOnline false own_place head blocks new after × Describes rendered.next after
        × ChangesSets before after gone (sets_put (heads_of loaded.device) change texts) × AreGone change gone
    stands_after = (after, inner.front, online_after, described_after, changes, gone_are)
