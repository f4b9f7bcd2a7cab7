-- The definitions on small volumes, worked by hand.
use Rattle.std.specs.Prelude.{◌≡◌, ◌==◌, ◌+◌, ◌≤◌, ◌<◌, ℕ, zero, suc, true, false, Bool, if◌then◌else◌, List, [], ◌∷◌, ◌++◌, length, take, drop, Option, Some, None, replicate, filter, map, All, slice_index}
use Rattle.std.proofs.Common.{find, refl, sym, ap, subst, ◌∙◌, arith}
use Rattle.std.proofs.lemmas.Option.{same_Some}
use Rattle.std.proofs.lemmas.List.Elements.{All-nil, All-cons, All-head}
use Rattle.ckd_image.specs.declared.device.Device.TheVariants.{D3390}
use Rattle.ckd_image.specs.declared.head.Head.{Head}
use Rattle.ckd_image.specs.declared.track.Cchhr.{Cchhr}
use Rattle.ckd_image.specs.declared.track.Rec.{Rec}
use Rattle.ckd_image.specs.declared.track.Track.{Track}
use Rattle.ckd_image.specs.Track.{track_text, IsRecord, IsTrack, IsTrackText}
use Rattle.volume_model.specs.declared.format.Format.TheVariants.{F4}
use Rattle.volume_model.specs.declared.rule.VtocRule.{VtocRule}
use Rattle.volume_model.specs.declared.rule.VtocRule.TheVariants as rules
use Rattle.volume_model.specs.Rules.{number_of, rule_of}
use Rattle.volume_model.specs.Dscbs.{numbers_below, format_of, number_at, extent_at}
use Rattle.volume_model.specs.Directory.{named_place, rows_of}
use Rattle.volume_model.specs.Space.{is_free, track_at, run_of, usable_of}
use Rattle.free_map.specs.Free.{index_of}
use Rattle.volume_model.specs.declared.place.Breach.{Breach}
use Rattle.volume_model.specs.declared.place.Vtoc.{Vtoc}
use Rattle.volume_model.specs.Check.{breaches_of, records_of, usable_in, extents_in}
use Rattle.volume_model.specs.Unit.{Extent, DataSet, OnlineVolume, fives_for}
use Rattle.volume_model.specs.Pinned.{whole_tracks, kept_tracks}
use Rattle.volume_model.specs.Changed.{threes_for, used_records, free_records}
use Rattle.volume_model.specs.Sound.{Slots, IsDscbRecord, IsTrackReading, IsFormat4, HasGeometry, HasVtocExtent, limit_of, IsFirstRuleBroken, dscb_of, is_valid}
use Rattle.volume_model.proofs.Addresses.{one_text_anywhere}

-- a format 4 that says alternate tracks, indicators, cylinders and heads, and the extent of its VTOC
abbrev pub format_4_with : ℕ → ℕ → ℕ → ℕ → List ℕ → List ℕ
format_4_with alternates indicators cylinders heads extent =
    replicate 44 4 ++ (0xF4 ∷ (replicate 12 0 ++ (alternates ∷ indicators ∷ 0 ∷ 0 ∷ 0 ∷ 0 ∷ cylinders ∷ 0 ∷ heads ∷ (replicate 39 0 ++ (extent ++ replicate 25 0)))))

-- no alternates and no indicators, and a VTOC of this type from a track of cylinder 0 to one of another cylinder
abbrev pub saying : ℕ → ℕ → ℕ → ℕ → ℕ → ℕ → List ℕ
saying cylinders heads kind first cylinder last = format_4_with 0 0 cylinders heads (kind ∷ 0 ∷ 0 ∷ 0 ∷ 0 ∷ first ∷ 0 ∷ cylinder ∷ 0 ∷ last ∷ [])

-- a VTOC on track 1 of one cylinder of 15 heads
abbrev pub format_4 : List ℕ
format_4 = saying 1 15 1 1 0 1

-- one entry, of no whole cylinder
abbrev pub format_5 : ℕ → ℕ → List ℕ
format_5 first tracks = 5 ∷ 5 ∷ 5 ∷ 5 ∷ 0 ∷ first ∷ 0 ∷ 0 ∷ tracks ∷ (replicate 35 0 ++ (0xF5 ∷ replicate 95 0))

-- a data set A.x from a track of cylinder 0 to one of another cylinder
abbrev pub spanning : ℕ → ℕ → ℕ → ℕ → List ℕ
spanning letter first cylinder last = 0xC1 ∷ 0x4B ∷ letter ∷ (replicate 41 0x40 ++ (0xF1 ∷ (replicate 60 0 ++ (1 ∷ 0 ∷ 0 ∷ 0 ∷ 0 ∷ first ∷ 0 ∷ cylinder ∷ 0 ∷ last ∷ replicate 25 0))))

-- a data set A.x on these tracks of cylinder 0
abbrev pub data_set : ℕ → ℕ → ℕ → List ℕ
data_set letter first last = spanning letter first 0 last

-- a volume of that cylinder
abbrev pub vtoc_of : List (List ℕ) → Vtoc
vtoc_of dscbs = record {
  heads = 15;
  limit = 15;
  format_4 = record { track = 1; record_number = 1 };
  valid = true;
  alternates = 0;
  run = record { first = 1; len = 1 };
  tracks = Some dscbs ∷ [];
}

-- a record that nothing uses
abbrev pub one_free_record : List ℕ
one_free_record = replicate 140 0

-- no data set: all from track 2 on is free
abbrev pub empty : Vtoc
empty = vtoc_of (format_4 ∷ format_5 2 13 ∷ one_free_record ∷ [])

pub empty_keeps_the_rules : breaches_of empty ≡ []
empty_keeps_the_rules = refl

pub empty_has_15_tracks : usable_in empty ≡ 15
empty_has_15_tracks = refl

pub empty_has_13_free_tracks : filter (is_free (usable_in empty) empty.run (extents_in empty)) (numbers_below 15) ≡ 2 ∷ 3 ∷ 4 ∷ 5 ∷ 6 ∷ 7 ∷ 8 ∷ 9 ∷ 10 ∷ 11 ∷ 12 ∷ 13 ∷ 14 ∷ []
empty_has_13_free_tracks = refl

pub one_run_has_index_0 : index_of (record { first = 2; len = 13 } ∷ []) ≡ 0
one_run_has_index_0 = refl

-- of 16 free tracks 10 lie together, and 1000 * 10 / 16 is 625
pub two_runs_have_their_index : index_of (record { first = 2; len = 6 } ∷ record { first = 12; len = 10 } ∷ []) ≡ 375
two_runs_have_their_index = refl

-- A.B on tracks 2 to 11
abbrev pub one_data_set : Vtoc
one_data_set = vtoc_of (format_4 ∷ format_5 12 3 ∷ data_set 0xC2 2 11 ∷ [])

pub one_data_set_keeps_the_rules : breaches_of one_data_set ≡ []
one_data_set_keeps_the_rules = refl

-- the same where the free space is stated from track 2 on
abbrev pub misstated : Vtoc
misstated = vtoc_of (format_4 ∷ format_5 2 13 ∷ data_set 0xC2 2 11 ∷ [])

pub misstated_space_is_told : breaches_of misstated ≡ record { place = record { track = 1; record_number = 1 }; rule = rules.Free } ∷ []
misstated_space_is_told = refl

-- no data set, where the free space is stated from the VTOC's track on
abbrev pub stated_over_the_vtoc : Vtoc
stated_over_the_vtoc = vtoc_of (format_4 ∷ format_5 1 14 ∷ one_free_record ∷ [])

pub space_of_the_vtoc_is_told : breaches_of stated_over_the_vtoc ≡ record { place = record { track = 1; record_number = 1 }; rule = rules.Free } ∷ []
space_of_the_vtoc_is_told = refl

-- two data sets of one name
abbrev pub named_twice : Vtoc
named_twice = vtoc_of (format_4 ∷ format_5 4 11 ∷ data_set 0xC2 2 2 ∷ data_set 0xC2 3 3 ∷ [])

pub second_name_is_told : breaches_of named_twice ≡ record { place = record { track = 1; record_number = 4 }; rule = rules.Name } ∷ []
second_name_is_told = refl

-- a data set on track 14 and on track 15, the first that the volume doesn't have
abbrev pub past_the_end : Vtoc
past_the_end = vtoc_of (format_4 ∷ format_5 2 13 ∷ spanning 0xC2 14 1 0 ∷ [])

pub range_is_told : breaches_of past_the_end ≡ record { place = record { track = 1; record_number = 3 }; rule = rules.Range } ∷ []
range_is_told = refl

-- Two cylinders, and a data set on head 15 of cylinder 0, of which the last is 14. Track 15 is there.
abbrev pub on_no_head : Vtoc
on_no_head = record (vtoc_of (saying 2 15 1 1 0 1 ∷ format_5 2 28 ∷ data_set 0xC2 15 15 ∷ [])) { limit = 30 }

pub missing_head_is_told : breaches_of on_no_head ≡ record { place = record { track = 1; record_number = 3 }; rule = rules.Range } ∷ []
missing_head_is_told = refl

-- a data set from track 5 to track 4
abbrev pub backwards : Vtoc
backwards = vtoc_of (format_4 ∷ format_5 2 13 ∷ data_set 0xC2 5 4 ∷ [])

pub backward_extent_is_told : breaches_of backwards ≡ record { place = record { track = 1; record_number = 3 }; rule = rules.Range } ∷ []
backward_extent_is_told = refl

-- A.A on tracks 2 to 5 and A.B on 5 to 8
abbrev pub overlapping : Vtoc
overlapping = vtoc_of (format_4 ∷ format_5 9 6 ∷ data_set 0xC1 2 5 ∷ data_set 0xC2 5 8 ∷ [])

pub overlap_is_told : breaches_of overlapping ≡ record { place = record { track = 1; record_number = 4 }; rule = rules.Overlap } ∷ []
overlap_is_told = refl

-- ---- volumes of 15 tracks whose VTOC is on tracks 1 and 2

abbrev pub format_4_of_two : List ℕ
format_4_of_two = saying 1 15 1 1 0 2

-- an extent of one track of cylinder 0
abbrev pub one_track : ℕ → ℕ → List ℕ
one_track number head = 1 ∷ number ∷ 0 ∷ 0 ∷ 0 ∷ head ∷ 0 ∷ 0 ∷ 0 ∷ head ∷ []

-- a pointer to a record on cylinder 0
abbrev pub to : ℕ → ℕ → List ℕ
to head r = 0 ∷ 0 ∷ 0 ∷ head ∷ r ∷ []

abbrev pub nowhere : List ℕ
nowhere = replicate 5 0

-- a data set A.x of three extents on the tracks 3, 4 and 5, and a pointer
abbrev pub three_extents : ℕ → List ℕ → List ℕ
three_extents letter pointer =
    0xC1 ∷ 0x4B ∷ letter ∷ (replicate 41 0x40 ++ (0xF1 ∷ (replicate 60 0 ++ (one_track 0 3 ++ (one_track 1 4 ++ (one_track 2 5 ++ pointer))))))

-- a data set A.x without extents, and a pointer
abbrev pub no_extent : ℕ → List ℕ → List ℕ
no_extent letter pointer = 0xC1 ∷ 0x4B ∷ letter ∷ (replicate 41 0x40 ++ (0xF1 ∷ (replicate 90 0 ++ pointer)))

-- a fourth extent on track 6, and a pointer
abbrev pub fourth_extent : List ℕ → List ℕ
fourth_extent pointer = 3 ∷ 3 ∷ 3 ∷ 3 ∷ (one_track 3 6 ++ (replicate 30 0 ++ (0xF3 ∷ (replicate 90 0 ++ pointer))))

-- one entry, and a pointer
abbrev pub entry_and : ℕ → ℕ → List ℕ → List ℕ
entry_and first tracks pointer = 5 ∷ 5 ∷ 5 ∷ 5 ∷ 0 ∷ first ∷ 0 ∷ 0 ∷ tracks ∷ (replicate 35 0 ++ (0xF5 ∷ (replicate 90 0 ++ pointer)))

abbrev pub on_two_tracks : List (List ℕ) → Option (List (List ℕ)) → Vtoc
on_two_tracks first second = record {
  heads = 15;
  limit = 15;
  format_4 = record { track = 1; record_number = 1 };
  valid = true;
  alternates = 0;
  run = record { first = 1; len = 2 };
  tracks = Some first ∷ second ∷ [];
}

abbrev pub broken_at : ℕ → ℕ → VtocRule → Breach
broken_at track number rule = record { place = record { track = track; record_number = number }; rule = rule }

-- A data set of four extents whose format 3 is on the next track, and two format 5s, of which the second is there too: the tracks 7
-- to 9 and 10 to 14 are free.
abbrev pub crossing : Vtoc
crossing = on_two_tracks (format_4_of_two ∷ entry_and 7 3 (to 2 2) ∷ three_extents 0xC1 (to 2 1) ∷ []) (Some (fourth_extent nowhere ∷ entry_and 10 5 nowhere ∷ []))

pub crossing_keeps_the_rules : breaches_of crossing ≡ []
crossing_keeps_the_rules = refl

pub crossing_has_15_tracks : usable_in crossing ≡ 15
crossing_has_15_tracks = refl

pub four_extents_are_in_order : map (λ row. map (λ extent. track_at 15 extent.first) row.extents) (rows_of 15 (records_of crossing)) ≡ (3 ∷ 4 ∷ 5 ∷ 6 ∷ []) ∷ []
four_extents_are_in_order = refl

pub one_format_3_is_used : map (λ row. row.threes) (rows_of 15 (records_of crossing)) ≡ 1 ∷ []
one_format_3_is_used = refl

-- the second track isn't one of a VTOC
abbrev pub half_gone : Vtoc
half_gone = on_two_tracks (format_4_of_two ∷ entry_and 3 12 nowhere ∷ []) None

pub bad_track_is_told : breaches_of half_gone ≡ broken_at 2 0 rules.Track ∷ []
bad_track_is_told = refl

-- a second format 4, and a record whose byte 44 names no format
abbrev pub no_dscbs : Vtoc
no_dscbs = on_two_tracks (format_4_of_two ∷ entry_and 3 12 nowhere ∷ format_4_of_two ∷ []) (Some ((replicate 44 0 ++ (0xF2 ∷ replicate 95 0)) ∷ []))

pub bad_dscbs_are_told : breaches_of no_dscbs ≡ broken_at 1 3 rules.Dscb ∷ broken_at 2 1 rules.Dscb ∷ []
bad_dscbs_are_told = refl

-- ---- pointers

-- a format 1 that points to a format 5
abbrev pub to_a_five : Vtoc
to_a_five = on_two_tracks (format_4_of_two ∷ entry_and 3 12 nowhere ∷ no_extent 0xC1 (to 1 2) ∷ []) (Some (one_free_record ∷ []))

pub pointer_to_a_five_is_told : breaches_of to_a_five ≡ broken_at 1 3 rules.Pointer ∷ []
pointer_to_a_five_is_told = refl

-- a format 3 that two format 1s name: the second breaks the rule
abbrev pub shared : Vtoc
shared = on_two_tracks (format_4_of_two ∷ entry_and 3 3 (to 2 2) ∷ no_extent 0xC1 (to 2 1) ∷ no_extent 0xC2 (to 2 1) ∷ []) (Some (fourth_extent nowhere ∷ entry_and 7 8 nowhere ∷ []))

pub second_pointer_is_told : breaches_of shared ≡ broken_at 1 4 rules.Pointer ∷ []
second_pointer_is_told = refl

-- a format 3 that nothing names
abbrev pub orphaned : Vtoc
orphaned = on_two_tracks (format_4_of_two ∷ entry_and 3 3 (to 2 2) ∷ no_extent 0xC1 nowhere ∷ []) (Some (fourth_extent nowhere ∷ entry_and 7 8 nowhere ∷ []))

pub orphan_is_told : breaches_of orphaned ≡ broken_at 2 1 rules.Pointer ∷ []
orphan_is_told = refl

-- two format 3s that name each other: no format 1 reaches them
abbrev pub circling : Vtoc
circling = on_two_tracks (format_4_of_two ∷ entry_and 3 3 (to 1 3) ∷ entry_and 7 8 nowhere ∷ []) (Some (fourth_extent (to 2 2) ∷ (3 ∷ 3 ∷ 3 ∷ 3 ∷ (replicate 40 0 ++ (0xF3 ∷ (replicate 90 0 ++ to 2 1)))) ∷ []))

pub circle_is_told : breaches_of circling ≡ broken_at 2 1 rules.Pointer ∷ broken_at 2 2 rules.Pointer ∷ []
circle_is_told = refl

-- ---- the chain of format 5s

-- a second format 5 that the first doesn't name
abbrev pub apart : Vtoc
apart = on_two_tracks (format_4_of_two ∷ entry_and 3 4 nowhere ∷ entry_and 7 8 nowhere ∷ []) (Some (one_free_record ∷ []))

pub second_five_is_told : breaches_of apart ≡ broken_at 1 3 rules.Pointer ∷ []
second_five_is_told = refl

-- a format 5 whose pointer names no record
abbrev pub leading_off : Vtoc
leading_off = on_two_tracks (format_4_of_two ∷ entry_and 3 12 (to 2 9) ∷ []) (Some (one_free_record ∷ []))

pub lost_five_is_told : breaches_of leading_off ≡ broken_at 1 2 rules.Pointer ∷ []
lost_five_is_told = refl

-- two format 5s that name each other: the chain begins at the lower one, and the other leads back
abbrev pub coming_back : Vtoc
coming_back = on_two_tracks (format_4_of_two ∷ entry_and 3 4 (to 1 3) ∷ entry_and 7 8 (to 1 2) ∷ []) (Some (one_free_record ∷ []))

pub way_back_is_told : breaches_of coming_back ≡ broken_at 1 3 rules.Pointer ∷ []
way_back_is_told = refl

-- ---- addresses that are no track's

-- a format 4 of two cylinders whose VTOC is on track 16, head 1 of cylinder 1
abbrev pub format_4_on_16 : ℕ → List ℕ
format_4_on_16 indicators = format_4_with 0 indicators 2 15 (1 ∷ 0 ∷ 0 ∷ 1 ∷ 0 ∷ 1 ∷ 0 ∷ 1 ∷ 0 ∷ 1 ∷ [])

-- that volume: record 1 of its track is that format 4, and these come behind it
abbrev pub on_16 : ℕ → List (List ℕ) → Vtoc
on_16 indicators behind = record {
  heads = 15;
  limit = 30;
  format_4 = record { track = 16; record_number = 1 };
  valid = is_valid false (format_4_on_16 indicators);
  alternates = 0;
  run = record { first = 16; len = 1 };
  tracks = Some (format_4_on_16 indicators ∷ behind) ∷ [];
}

-- a format 3 without extents
abbrev pub three_of_nothing : List ℕ
three_of_nothing = 3 ∷ 3 ∷ 3 ∷ 3 ∷ (replicate 40 0 ++ (0xF3 ∷ replicate 95 0))

-- A format 1, and a format 5, whose pointers say head 16 of cylinder 0. It isn't there; were it counted on as track 16, records would fit.
abbrev pub head_16_of_a_one : Vtoc
head_16_of_a_one = on_16 0x80 (no_extent 0xC1 (to 16 3) ∷ three_of_nothing ∷ [])

pub head_16_names_no_three : breaches_of head_16_of_a_one ≡ broken_at 16 2 rules.Pointer ∷ broken_at 16 3 rules.Pointer ∷ []
head_16_names_no_three = refl

abbrev pub head_16_of_a_five : Vtoc
head_16_of_a_five = on_16 0 (entry_and 1 15 (to 16 3) ∷ entry_and 17 13 nowhere ∷ [])

pub head_16_names_no_five : breaches_of head_16_of_a_five ≡ broken_at 16 2 rules.Pointer ∷ broken_at 16 3 rules.Pointer ∷ []
head_16_names_no_five = refl

-- ---- overlaps

-- a data set on track 0, and one on the VTOC's second track
abbrev pub on_the_vtoc : Vtoc
on_the_vtoc = on_two_tracks (format_4_of_two ∷ entry_and 3 12 nowhere ∷ data_set 0xC1 0 0 ∷ data_set 0xC2 2 2 ∷ []) (Some (one_free_record ∷ []))

pub overlaps_with_the_vtoc_are_told : breaches_of on_the_vtoc ≡ broken_at 1 3 rules.Overlap ∷ broken_at 1 4 rules.Overlap ∷ []
overlaps_with_the_vtoc_are_told = refl

-- an extent from one track of cylinder 0 to another
abbrev pub tracks_to : ℕ → ℕ → ℕ → List ℕ
tracks_to number first last = 1 ∷ number ∷ 0 ∷ 0 ∷ 0 ∷ first ∷ 0 ∷ 0 ∷ 0 ∷ last ∷ []

-- a data set A.A whose extents are the tracks 3 to 5 and 5 to 8: track 5 is in both
abbrev pub twice_within : Vtoc
twice_within =
    on_two_tracks
    (format_4_of_two ∷ entry_and 9 6 nowhere ∷ (0xC1 ∷ 0x4B ∷ 0xC1 ∷ (replicate 41 0x40 ++ (0xF1 ∷ (replicate 60 0 ++ (tracks_to 0 3 5 ++ (tracks_to 1 5 8 ++ replicate 15 0)))))) ∷ [])
    (Some (one_free_record ∷ []))

pub overlap_within_a_record_is_told : breaches_of twice_within ≡ broken_at 1 3 rules.Overlap ∷ []
overlap_within_a_record_is_told = refl

-- ---- free space that is stated wrongly

-- of the free tracks 3 to 14 the entry states all but 3
abbrev pub unstated : Vtoc
unstated = on_two_tracks (format_4_of_two ∷ entry_and 4 11 nowhere ∷ []) (Some (one_free_record ∷ []))

pub unstated_track_is_told : breaches_of unstated ≡ broken_at 1 1 rules.Free ∷ []
unstated_track_is_told = refl

-- 3 to 6 and 6 to 14: track 6 is stated twice
abbrev pub stated_twice : Vtoc
stated_twice = on_two_tracks (format_4_of_two ∷ entry_and 3 4 (to 1 3) ∷ entry_and 6 9 nowhere ∷ []) (Some (one_free_record ∷ []))

pub track_stated_twice_is_told : breaches_of stated_twice ≡ broken_at 1 1 rules.Free ∷ []
track_stated_twice_is_told = refl

-- 3 to 15, where 14 is the last track
abbrev pub stated_beyond : Vtoc
stated_beyond = on_two_tracks (format_4_of_two ∷ entry_and 3 13 nowhere ∷ []) (Some (one_free_record ∷ []))

pub track_stated_beyond_is_told : breaches_of stated_beyond ≡ broken_at 1 1 rules.Free ∷ []
track_stated_beyond_is_told = refl

-- ---- indicators and alternates

-- format 4s with indicators
abbrev pub indicated : ℕ → List ℕ
indicated indicators = format_4_with 0 indicators 1 15 (tracks_to 0 1 1)

pub no_indicator_is_valid : is_valid false (indicated 0x01) ≡ true
no_indicator_is_valid = refl

pub format_5_is_said_invalid : is_valid false (indicated 0x80) ≡ false
format_5_is_said_invalid = refl

pub interrupted_is_invalid : is_valid false (indicated 0x04) ≡ false
interrupted_is_invalid = refl

-- while a slide is open, that of an interrupted change counts as off, and the other doesn't
pub sliding_is_valid : is_valid true (indicated 0x04) ≡ true
sliding_is_valid = refl

pub sliding_is_said_invalid : is_valid true (indicated 0x84) ≡ false
sliding_is_said_invalid = refl

-- of 10 cylinders with 16 alternate tracks 8 are usable
pub alternates_round_up : usable_of false 15 150 16 (record { first = 1; len = 1 }) [] [] ≡ 120
alternates_round_up = refl

-- but no fewer tracks than are used
pub used_alternates_are_usable : usable_of false 15 150 16 (record { first = 1; len = 1 }) (record { first = 130; len = 5 } ∷ []) [] ≡ 135
used_alternates_are_usable = refl

-- where format 5 is valid they end behind the last track that is used or stated
pub stated_tracks_are_usable : usable_of true 15 150 16 (record { first = 1; len = 1 }) (record { first = 2; len = 3 } ∷ []) (record { first = 5; len = 7 } ∷ []) ≡ 12
stated_tracks_are_usable = refl

-- A volume of 10 cylinders with 16 alternate tracks and its VTOC on track 1. Two format 5s, of which none names the other, state the
-- tracks 3 to 6 and 7 to 14.
abbrev pub four_of_ten : ℕ → List ℕ
four_of_ten indicators = format_4_with 16 indicators 10 15 (tracks_to 0 1 1)

abbrev pub of_ten : Bool → ℕ → Vtoc
of_ten sliding indicators = record {
  heads = 15;
  limit = limit_of (record { device = D3390; tracks = 150 }) (four_of_ten indicators);
  format_4 = named_place 15 (record { at = record { cylinder = 0; head = 1 }; r = 1 });
  valid = is_valid sliding (four_of_ten indicators);
  alternates = number_at (four_of_ten indicators) 56;
  run = run_of 15 (extent_at (four_of_ten indicators) 105);
  tracks = Some (four_of_ten indicators ∷ entry_and 3 4 nowhere ∷ entry_and 7 8 nowhere ∷ []) ∷ [];
}

-- Where format 5 isn't valid nobody looks at the format 5s, and two cylinders hold the alternates: 150 - 30.
pub invalid_space_breaks_no_rule : breaches_of (of_ten false 0x80) ≡ []
invalid_space_breaks_no_rule = refl

pub invalid_space_has_120_tracks : usable_in (of_ten false 0x80) ≡ 120
invalid_space_has_120_tracks = refl

pub interrupted_change_breaks_no_rule : breaches_of (of_ten false 0x04) ≡ []
interrupted_change_breaks_no_rule = refl

pub interrupted_change_has_120_tracks : usable_in (of_ten false 0x04) ≡ 120
interrupted_change_has_120_tracks = refl

-- While a slide is open it is valid: the second format 5 is out of the chain, track 2 is free and stated by neither, and 14 is the last
-- track that is stated.
pub valid_space_breaks_two_rules : breaches_of (of_ten true 0x04) ≡ broken_at 1 3 rules.Pointer ∷ broken_at 1 1 rules.Free ∷ []
valid_space_breaks_two_rules = refl

pub valid_space_has_15_tracks : usable_in (of_ten true 0x04) ≡ 15
valid_space_has_15_tracks = refl

-- ---- the numbers of rules

-- each number is that of one rule
pub numbers_tell_rules : (rule : VtocRule) → rule_of (number_of rule) ≡ Some rule
numbers_tell_rules rules.NoFormat4 = refl
numbers_tell_rules rules.Geometry = refl
numbers_tell_rules rules.VtocExtent = refl
numbers_tell_rules rules.Track = refl
numbers_tell_rules rules.Dscb = refl
numbers_tell_rules rules.Name = refl
numbers_tell_rules rules.Pointer = refl
numbers_tell_rules rules.Range = refl
numbers_tell_rules rules.Overlap = refl
numbers_tell_rules rules.Free = refl

pub no_rule_has_number_0 : rule_of 0 ≡ None
no_rule_has_number_0 = refl

pub no_rule_has_number_11 : rule_of 11 ≡ None
no_rule_has_number_11 = refl

-- ---- the first three rules

-- a 3390 of one cylinder
abbrev pub one_cylinder : Head
one_cylinder = record { device = D3390; tracks = 15 }

-- record 1 of track 1
abbrev pub pointer : Cchhr
pointer = record { at = record { cylinder = 0; head = 1 }; r = 1 }

abbrev pub record_with : List ℕ → Rec
record_with bytes = record { r = 1; key = take 44 bytes; body = drop 44 bytes }

abbrev pub track_with : List ℕ → Track
track_with bytes = record { flag = 0; r0 = replicate 8 0; recs = record_with bytes ∷ [] }

-- a slot of track 1 with this text, where the other slots say nothing
abbrev pub slots_of : List ℕ → Slots
slots_of text track = if track == 1 then text ++ replicate 8 0 else []

-- track 1 has a record 1 of these bytes
abbrev pub slots_with : List ℕ → Slots
slots_with bytes = slots_of (track_text pointer.at (track_with bytes))

-- 44 and 96 bytes stand there as key and body
text_stands : (bytes : List ℕ) → length (take 44 bytes) ≡ 44 → length (drop 44 bytes) ≡ 96 → IsTrackText pointer.at (slots_with bytes 1) (track_with bytes)
text_stands bytes key body =
    let is_record : IsRecord (record_with bytes) = record { numbered = omega arith; number_fits = omega arith; key_fits = omega (arith, key); body_fits = omega (arith, body) } in
    record { sound = record { zero = refl; records = All-cons IsRecord (record_with bytes) [] is_record (All-nil IsRecord) }; text = (replicate 8 0, refl) }

-- the pointer names them, and they are a format 4
format_4_stands : (bytes : List ℕ) → length (take 44 bytes) ≡ 44 → length (drop 44 bytes) ≡ 96 → bytes ≡ take 44 bytes ++ drop 44 bytes → format_of bytes ≡ F4
    → IsFormat4 15 (slots_with bytes) pointer bytes
format_4_stands bytes key body whole four =
    record {
      text = track_with bytes;
      rec = record_with bytes;
      stands = text_stands bytes key body;
      numbered = refl;
      shaped = (key, body);
      bytes_are = whole;
      format = four;
    }

-- the format 4 with a VTOC on track 1 keeps the three, and so does the extent of the VTOC on tracks 1 and 2
pub format_4_is_named : IsFormat4 15 (slots_with format_4) pointer format_4
format_4_is_named = format_4_stands format_4 refl refl refl refl

pub geometry_holds : HasGeometry 15 format_4
geometry_holds = (refl, λ none. absurd (omega (arith, none)))

pub vtoc_extent_holds : HasVtocExtent one_cylinder pointer format_4
vtoc_extent_holds = record { there = λ none. absurd (omega (arith, none)); run = refl; not_track_0 = omega arith; holds = refl }

pub vtoc_extent_of_two_holds : HasVtocExtent one_cylinder pointer format_4_of_two
vtoc_extent_of_two_holds = record { there = λ none. absurd (omega (arith, none)); run = refl; not_track_0 = omega arith; holds = refl }

-- an empty slot
pub no_format_4_is_told : IsFirstRuleBroken one_cylinder (λ track. []) pointer rules.NoFormat4
no_format_4_is_told bytes is = absurd cc

-- a record that is no format 4: byte 44 says format 5
pub other_format_is_told : IsFirstRuleBroken one_cylinder (slots_with (format_5 2 13)) pointer rules.NoFormat4
other_format_is_told bytes is =
    let slot : List ℕ = slots_with (format_5 2 13) 1 in
    let own : IsTrackText pointer.at slot (track_with (format_5 2 13)) = text_stands (format_5 2 13) refl refl in
    let text : is.text ≡ track_with (format_5 2 13) = one_text_anywhere pointer.at slot is.text (track_with (format_5 2 13)) (omega arith) is.stands own in
    let rec : is.rec ≡ record_with (format_5 2 13) = same_Some is.rec (record_with (format_5 2 13)) (sym is.numbered ∙ ap (λ (t : Track). find (λ x. x.r == 1) t.recs) text) in
    let format : format_of (format_5 2 13) ≡ F4 = sym (ap (λ (r : Rec). format_of (dscb_of r)) rec) ∙ sym (ap format_of is.bytes_are) ∙ is.format in
    absurd (cc (format))

-- 14 heads, where a 3390 has 15
pub other_heads_are_told : IsFirstRuleBroken one_cylinder (slots_with (saying 1 14 1 1 0 1)) pointer rules.Geometry
other_heads_are_told = (saying 1 14 1 1 0 1, format_4_stands (saying 1 14 1 1 0 1) refl refl refl refl, λ geometry. absurd (omega (arith, geometry.0)))

pub no_cylinder_is_told : IsFirstRuleBroken one_cylinder (slots_with (saying 0 15 1 1 0 1)) pointer rules.Geometry
no_cylinder_is_told = (saying 0 15 1 1 0 1, format_4_stands (saying 0 15 1 1 0 1) refl refl refl refl, λ geometry. geometry.1 refl)

-- the VTOC's extent of type 0
pub no_vtoc_extent_is_told : IsFirstRuleBroken one_cylinder (slots_with (saying 1 15 0 1 0 1)) pointer rules.VtocExtent
no_vtoc_extent_is_told = (saying 1 15 0 1 0 1, format_4_stands (saying 1 15 0 1 0 1) refl refl refl refl, (refl, λ none. absurd (omega (arith, none))), λ extent. extent.there refl)

-- tracks 0 and 1
pub vtoc_on_track_0_is_told : IsFirstRuleBroken one_cylinder (slots_with (saying 1 15 1 0 0 1)) pointer rules.VtocExtent
vtoc_on_track_0_is_told = (saying 1 15 1 0 0 1, format_4_stands (saying 1 15 1 0 0 1) refl refl refl refl, (refl, λ none. absurd (omega (arith, none))), λ extent. absurd (omega (arith, extent.not_track_0)))

-- tracks 2 and 3, where the pointer says 1
pub vtoc_elsewhere_is_told : IsFirstRuleBroken one_cylinder (slots_with (saying 1 15 1 2 0 3)) pointer rules.VtocExtent
vtoc_elsewhere_is_told = (saying 1 15 1 2 0 3, format_4_stands (saying 1 15 1 2 0 3) refl refl refl refl, (refl, λ none. absurd (omega (arith, none))), λ extent. absurd (cc (extent.holds)))

-- tracks 1 to 15, where 14 is the last
pub vtoc_past_the_end_is_told : IsFirstRuleBroken one_cylinder (slots_with (saying 1 15 1 1 1 0)) pointer rules.VtocExtent
vtoc_past_the_end_is_told = (saying 1 15 1 1 1 0, format_4_stands (saying 1 15 1 1 1 0) refl refl refl refl, (refl, λ none. absurd (omega (arith, none))), λ extent. absurd (cc (extent.run)))

-- ---- a track of a VTOC

one_number : (k : ℕ) → k < 1 → slice_index (map (λ (r : Rec). r.r) (record_with format_4 ∷ [])) k ≡ k + 1
one_number zero below = refl
one_number (suc k) below = absurd (omega (arith, below))

-- it reads as its one DSCB
pub one_record_is_read : IsTrackReading 15 1 (slots_with format_4 1) (Some (format_4 ∷ []))
one_record_is_read = record {
  text = track_with format_4;
  stands = text_stands format_4 refl refl;
  some = omega arith;
  numbered = one_number;
  shaped = All-cons IsDscbRecord (record_with format_4) [] (refl, refl) (All-nil IsDscbRecord);
  dscbs_are = refl;
}

-- a slot of a text has no other text
text_is :
    (own text : Track) → length (slots_of (track_text pointer.at own) 1) ≤ 65536 → IsTrack own → IsTrackText pointer.at (slots_of (track_text pointer.at own) 1) text
    → text ≡ own
text_is own text short sound one =
    one_text_anywhere pointer.at (slots_of (track_text pointer.at own) 1) text own short one (record { sound = sound; text = (replicate 8 0, refl) })

-- a track without records
abbrev pub empty_track : Track
empty_track = record { flag = 0; r0 = replicate 8 0; recs = [] }

pub empty_track_is_none : IsTrackReading 15 1 (slots_of (track_text pointer.at empty_track) 1) None
empty_track_is_none dscbs is =
    let text : is.text ≡ empty_track = text_is empty_track is.text (omega arith) (record { zero = refl; records = All-nil IsRecord }) is.stands in
    absurd (omega (arith, is.some, ap (λ (t : Track). length t.recs) text))

-- records 1 and 3
abbrev pub third_record : Rec
third_record = record { r = 3; key = take 44 one_free_record; body = drop 44 one_free_record }

abbrev pub track_with_a_gap : Track
track_with_a_gap = record { flag = 0; r0 = replicate 8 0; recs = record_with format_4 ∷ third_record ∷ [] }

dscb_is_record : (rec : Rec) → 1 ≤ rec.r → rec.r ≤ 255 → length rec.key ≡ 44 → length rec.body ≡ 96 → IsRecord rec
dscb_is_record rec some few key body = record { numbered = some; number_fits = few; key_fits = omega (arith, key); body_fits = omega (arith, body) }

gap_is_track : IsTrack track_with_a_gap
gap_is_track = record {
  zero = refl;
  records =
      All-cons IsRecord (record_with format_4) (third_record ∷ []) (dscb_is_record (record_with format_4) (omega arith) (omega arith) refl refl)
      (All-cons IsRecord third_record [] (dscb_is_record third_record (omega arith) (omega arith) refl refl) (All-nil IsRecord));
}

pub gap_is_none : IsTrackReading 15 1 (slots_of (track_text pointer.at track_with_a_gap) 1) None
gap_is_none dscbs is =
    let text : is.text ≡ track_with_a_gap = text_is track_with_a_gap is.text (omega arith) gap_is_track is.stands in
    let two : length is.text.recs ≡ 2 = ap (λ (t : Track). length t.recs) text in
    let third : slice_index (map (λ (r : Rec). r.r) is.text.recs) 1 ≡ 3 = ap (λ (t : Track). slice_index (map (λ (r : Rec). r.r) t.recs) 1) text in
    absurd (omega (arith, sym third ∙ is.numbered 1 (omega (arith, two))))

-- a record without a key
abbrev pub keyless : Rec
keyless = record { r = 1; key = []; body = drop 44 format_4 }

abbrev pub keyless_track : Track
keyless_track = record { flag = 0; r0 = replicate 8 0; recs = keyless ∷ [] }

keyless_is_track : IsTrack keyless_track
keyless_is_track = record {
  zero = refl;
  records = All-cons IsRecord keyless [] (record { numbered = omega arith; number_fits = omega arith; key_fits = omega arith; body_fits = omega arith }) (All-nil IsRecord);
}

pub keyless_record_is_none : IsTrackReading 15 1 (slots_of (track_text pointer.at keyless_track) 1) None
keyless_record_is_none dscbs is =
    let text : is.text ≡ keyless_track = text_is keyless_track is.text (omega arith) keyless_is_track is.stands in
    let shaped : All IsDscbRecord (keyless ∷ []) = subst (λ (t : Track). All IsDscbRecord t.recs) text is.shaped in
    absurd (omega (arith, (All-head IsDscbRecord keyless [] shaped).0))

-- ---- a release

-- of 45 tracks in whole cylinders, of which 16 are used, two cylinders stay
pub whole_cylinders_stay : whole_tracks 15 16 (record { run = record { first = 15; len = 45 }; kind = 0x81 } ∷ []) ≡ 30
whole_cylinders_stay = refl

-- of three extents of 4 tracks, of which 6 are used, one and a half stay
pub extents_are_cut :
    whole_tracks 15 6 (record { run = record { first = 3; len = 4 }; kind = 0x01 } ∷ record { run = record { first = 9; len = 4 }; kind = 0x01 } ∷ record { run = record { first = 20; len = 4 }; kind = 0x01 } ∷ []) ≡ 6
extents_are_cut = refl

-- a data set on these extents whose last block is on this track of its own and has this number there
abbrev pub filled_to : ℕ → ℕ → List Extent → DataSet
filled_to track number extents = record {
  name = replicate 44 0x40;
  fields = replicate 98 0 ++ (0 ∷ track ∷ number ∷ replicate 4 0);
  extents = extents;
  texts = [];
  threes = threes_for (length extents);
}

abbrev pub tracks_at : ℕ → ℕ → Extent
tracks_at first len = record { run = record { first = first; len = len }; kind = 0x01 }

abbrev pub cylinders_at : ℕ → ℕ → Extent
cylinders_at first len = record { run = record { first = first; len = len }; kind = 0x81 }

-- where there is no last block one track stays, or the cylinder of it
pub empty_keeps_one_track : kept_tracks 15 (filled_to 0 0 (tracks_at 3 4 ∷ [])) ≡ 1
empty_keeps_one_track = refl

pub empty_keeps_one_cylinder : kept_tracks 15 (filled_to 0 0 (cylinders_at 15 45 ∷ [])) ≡ 15
empty_keeps_one_cylinder = refl

-- a last block on the first track, and one on the sixth, which is the second track of the second extent
pub first_track_is_kept : kept_tracks 15 (filled_to 0 7 (tracks_at 3 4 ∷ [])) ≡ 1
first_track_is_kept = refl

pub six_tracks_are_kept : kept_tracks 15 (filled_to 5 1 (tracks_at 3 4 ∷ tracks_at 9 4 ∷ [])) ≡ 6
six_tracks_are_kept = refl

-- ---- records of a VTOC

pub three_extents_need_no_format_3 : threes_for 3 ≡ 0
three_extents_need_no_format_3 = refl

pub four_extents_need_one : threes_for 4 ≡ 1
four_extents_need_one = refl

-- one format 5 is always there, and has room for 26 runs
pub no_run_needs_one_format_5 : fives_for 0 ≡ 1
no_run_needs_one_format_5 = refl

pub runs_26_need_one_format_5 : fives_for 26 ≡ 1
runs_26_need_one_format_5 = refl

pub runs_27_need_two : fives_for 27 ≡ 2
runs_27_need_two = refl

-- two data sets, of one extent and of four
abbrev pub two_sets : OnlineVolume
two_sets = record {
  serial = record { text = replicate 6 0xC1 };
  device = D3390;
  usable = 15;
  vtoc = record { first = 1; len = 1 };
  first = track_with [];
  four = [];
  sets = filled_to 0 0 (tracks_at 2 1 ∷ []) ∷ filled_to 0 0 (tracks_at 4 1 ∷ tracks_at 6 1 ∷ tracks_at 8 1 ∷ tracks_at 10 1 ∷ []) ∷ [];
  repair = false;
  indexed = false;
  dscbs = 50;
  fives = 1;
  tail = [];
}

-- a format 4, a format 5, two format 1s and a format 3
pub five_records_are_used : used_records two_sets ≡ 5
five_records_are_used = refl

pub others_are_free : free_records two_sets ≡ 45
others_are_free = refl
