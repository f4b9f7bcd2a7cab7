-- What one change writes over the records of a VTOC.
use Rattle.std.specs.Prelude.{◌≡◌, ◌≢◌, true, List, ◌∷◌, ◌++◌, map, replicate, All, Contains}
use Rattle.std.specs.List.{flat_map}
use Rattle.volume_model.specs.declared.format.Format.TheVariants.{F4, F5}
use Rattle.volume_model.specs.declared.place.Place.{Place}
use Rattle.volume_model.specs.declared.place.Placed.{Placed}
use Rattle.volume_model.specs.declared.place.Vtoc.{Vtoc}
use Rattle.volume_model.specs.Dscbs.{format_of}
use Rattle.volume_model.specs.Check.{records_of}
use Rattle.vtoc_check.specs.Sized.{IsSized}
use Rattle.vtoc_layout.specs.Layout.{AreDistinct, SetRecords, Layout, records_in_set, AreLinkedFives, AreSetRecords, name_of, IsLayoutOf}
use Rattle.vtoc_write.specs.Edited.{after_edits, tracks_after}

abbrev pub place_of : Placed → Place
place_of placed = placed.place

-- a record that is given back is 140 zeros
abbrev pub zeroed : Place → Placed
zeroed place = record { place = place; bytes = replicate 140 0 }

-- What a change writes: the format 4, the format 5s in the order of their chain, the records of the data set that it puts, if there is one,
-- and zeros over the records that are given back.
pub record LayoutChange : Type 0 where
  pub four : Placed
  pub fives : List Placed
  pub put : List SetRecords
  pub freed : List Place

-- all of it, each record once
abbrev pub edits_of : LayoutChange → List Placed
edits_of change = change.four ∷ (change.fives ++ (flat_map records_in_set change.put ++ map zeroed change.freed))

-- the VTOC once it is written; its format 5s are valid then
abbrev pub vtoc_after : Vtoc → List Placed → Vtoc
vtoc_after vtoc edits =
    record {
      heads = vtoc.heads;
      limit = vtoc.limit;
      format_4 = vtoc.format_4;
      valid = true;
      alternates = vtoc.alternates;
      run = vtoc.run;
      tracks = tracks_after edits vtoc.run.first vtoc.tracks;
    }

-- and its layout: the data sets of which some stay, and the one that is put stands between them
abbrev pub layout_after : List SetRecords → LayoutChange → List SetRecords → Layout
layout_after front change back = record { four = change.four; fives = change.fives; sets = front ++ (change.put ++ back) }

-- the records of the data sets that stay
abbrev pub kept_records : List SetRecords → List SetRecords → List Placed
kept_records front back = flat_map records_in_set front ++ flat_map records_in_set back

-- Some data sets of a layout stay, and those between them go. Each record that the change writes is there, has one place and is none of
-- theirs, every record of what goes is written, and so are the format 4 and all format 5s. What is written has the formats and the
-- pointers of what it is for, and no name of a data set that stays.
pub record IsChangeOf (vtoc : Vtoc) (layout : Layout) (front gone back : List SetRecords) (change : LayoutChange) : Type 0 where
  pub sets_are : layout.sets ≡ front ++ (gone ++ back)
  pub once : AreDistinct (map place_of (edits_of change))
  pub there : All (λ edit. Contains (map place_of (records_of vtoc)) edit.place) (edits_of change)
  pub apart : All (λ kept. All (λ edit. edit.place ≢ kept.place) (edits_of change)) (kept_records front back)
  pub covers : All (λ old. Contains (map place_of (edits_of change)) old.place) (layout.four ∷ (layout.fives ++ flat_map records_in_set gone))
  pub four_is : format_of change.four.bytes ≡ F4
  pub four_at : change.four.place ≡ vtoc.format_4
  pub fives_are : All (λ five. format_of five.bytes ≡ F5) change.fives
  pub fives_linked : AreLinkedFives vtoc.heads (after_edits (edits_of change) (records_of vtoc)) change.fives
  pub put_are : All (AreSetRecords vtoc.heads (after_edits (edits_of change) (records_of vtoc))) change.put
  pub names : AreDistinct (map name_of (front ++ (change.put ++ back)))

-- The records after it have that layout.
abbrev pub ChangesHaveLayouts : Type 0
ChangesHaveLayouts =
    (vtoc : Vtoc) (layout : Layout) (front gone back : List SetRecords) (change : LayoutChange) → IsSized vtoc → IsLayoutOf vtoc layout → IsChangeOf vtoc layout front gone back change
    → IsSized (vtoc_after vtoc (edits_of change)) × (records_of (vtoc_after vtoc (edits_of change)) ≡ after_edits (edits_of change) (records_of vtoc))
    × IsLayoutOf (vtoc_after vtoc (edits_of change)) (layout_after front change back)
