-- The format 4 that a label's pointer names is one of the records of the VTOC.
use Rattle.std.proofs.Common.{◌≡◌, ◌≢◌, ℕ, ◌+◌, ◌-◌, ◌<◌, ◌≤◌, ◌==◌, List, [], ◌++◌, find, Bool, true, All, Contains, Option, Some, None, refl, sym, ap, subst, ◌∙◌, arith}
use Rattle.std.specs.Prelude.{nat_le, nat_lt, slice_index_or}
use Rattle.std.proofs.lemmas.Bool.{and_parts, leb-true, ltb-true}
use Rattle.std.proofs.lemmas.List.Elements.{All-get_or}
use Rattle.ckd_image.specs.declared.head.Head.{Head}
use Rattle.ckd_image.specs.declared.track.Cchhr.{Cchhr}
use Rattle.ckd_image.specs.declared.track.Track.{Track}
use Rattle.ckd_image.specs.declared.track.TrackAt.{TrackAt}
use Rattle.ckd_image.specs.Address.{address_of}
use Rattle.ckd_image.specs.Device.{heads_of}
use Rattle.ckd_image.specs.Track.{IsTrackText}
use Rattle.volume_model.specs.declared.place.Placed.{Placed}
use Rattle.volume_model.specs.declared.place.Vtoc.{Vtoc}
use Rattle.volume_model.specs.Check.{records_of, bad_tracks, bad_dscbs, bad_names, bad_pointers, bad_fives, bad_ranges, bad_overlaps, bad_free, breaches_of}
use Rattle.volume_model.specs.Directory.{placed_from}
use Rattle.volume_model.specs.Dscbs.{extent_at}
use Rattle.volume_model.specs.Reads.{fields_of_4}
use Rattle.volume_model.specs.Space.{end_of, has_track, run_of, track_at}
use Rattle.volume_model.specs.Sound.{Slots, dscb_of, IsTrackReading, IsFormat4, IsVtoc, limit_of}
use Rattle.vtoc_check.proofs.Overlapping.{run_facts}
use Rattle.vtoc_core.proofs.Placed.{numbered_from}
use Rattle.volume_model.proofs.Addresses.{address_fits, one_address}
use Rattle.volume_model.proofs.OneText.{SpellsOne}
use Rattle.ckd_image.proofs.Lists.{left_nil}
use Rattle.ckd_image.proofs.Devices.{is_address}
use Rattle.vtoc_render.proofs.render_laws.Before.{tracks_are}
use Rattle.vtoc_render.proofs.LoadsSlots.{on_track, in_tracks}

-- ---- a record among those of a VTOC

abbrev at_place : ℕ → ℕ → List ℕ → Placed
at_place track n bytes = record { place = record { track = track; record_number = n }; bytes = bytes }

all_read : (vtoc : Vtoc) → breaches_of vtoc ≡ [] → All (λ dscbs. dscbs ≢ None) vtoc.tracks
all_read vtoc sound =
    let one = bad_tracks vtoc.run.first vtoc.tracks in
    let two = one ++ bad_dscbs vtoc in
    let three = two ++ bad_names vtoc in
    let four = three ++ bad_pointers vtoc in
    let five = four ++ bad_fives vtoc in
    let six = five ++ bad_ranges vtoc in
    let seven = six ++ bad_overlaps vtoc in
    tracks_are vtoc.run.first vtoc.tracks
    (left_nil one (bad_dscbs vtoc) (left_nil two (bad_names vtoc) (left_nil three (bad_pointers vtoc) (left_nil four (bad_fives vtoc)
    (left_nil five (bad_ranges vtoc) (left_nil six (bad_overlaps vtoc) (left_nil seven (bad_free vtoc) sound)))))))

-- ---- the track of the format 4

-- the track of a label's pointer
abbrev pub home_of : Head → Cchhr → ℕ
home_of head pointer = track_at (heads_of head.device) pointer.at

-- The format 4 that it names has the same fields afterwards.
abbrev pub KeepsFormat4 : Head → Cchhr → Slots → Slots → Type 0
KeepsFormat4 head pointer old new =
    (before after : List ℕ) → IsFormat4 (heads_of head.device) old pointer before → IsFormat4 (heads_of head.device) new pointer after → fields_of_4 after ≡ fields_of_4 before

-- it is one of the VTOC's
pub home_in : (head : Head) (slots : Slots) (pointer : Cchhr) (sliding : Bool) (vtoc : Vtoc) → IsVtoc head slots pointer sliding vtoc
    → (vtoc.run.first ≤ home_of head pointer) × (home_of head pointer < vtoc.run.first + vtoc.run.len)
home_in head slots pointer sliding vtoc is =
    let home = home_of head pointer in
    let holds : has_track home vtoc.run ≡ true = ap (has_track home) is.run_is ∙ is.extent.holds in
    let parts = and_parts (nat_le vtoc.run.first home) (nat_lt home (end_of vtoc.run)) holds in
    (leb-true vtoc.run.first home parts.0, ltb-true home (end_of vtoc.run) parts.1)

-- the tracks of a VTOC are tracks of the image, and track 0 isn't one of them
pub run_inside : (head : Head) (slots : Slots) (pointer : Cchhr) (sliding : Bool) (vtoc : Vtoc) → IsVtoc head slots pointer sliding vtoc
    → (1 ≤ vtoc.run.first) × (vtoc.run.first + vtoc.run.len ≤ head.tracks)
run_inside head slots pointer sliding vtoc is =
    let heads = heads_of head.device in
    let facts = run_facts heads (limit_of head is.bytes) (extent_at is.bytes 105) is.extent.run in
    let same : end_of vtoc.run ≡ end_of (run_of heads (extent_at is.bytes 105)) = ap end_of is.run_is in
    let first : vtoc.run.first ≡ track_at heads (extent_at is.bytes 105).first = ap (λ run. run.first) is.run_is in
    (omega (arith, first, is.extent.not_track_0), omega (arith, same, facts.0))

module _ (head : Head) (slots : Slots) (pointer : Cchhr) (sliding : Bool) (vtoc : Vtoc) (is : IsVtoc head slots pointer sliding vtoc) (sound : breaches_of vtoc ≡ [])
    (small : head.tracks ≤ 65535) (spells : SpellsOne (address_of (heads_of head.device) (home_of head pointer)) (slots (home_of head pointer))) where
  abbrev heads : ℕ
  heads = heads_of head.device

  abbrev home : ℕ
  home = home_of head pointer

  home_small : home ≤ 65535
  home_small = omega (arith, (home_in head slots pointer sliding vtoc is).1, (run_inside head slots pointer sliding vtoc is).1, small)

  -- its record among those that are read of its track
  read_there : (k : ℕ) (dscbs : Option (List (List ℕ))) → slice_index_or vtoc.tracks k None ≡ dscbs → dscbs ≢ None → vtoc.run.first + k ≡ home
      → IsTrackReading heads home (slots home) dscbs → Contains (records_of vtoc) (at_place home pointer.r (dscb_of is.format_4.rec))
  read_there k None e some at reads = absurd (some refl)
  read_there k (Some dscbs) e some at reads =
      let same : pointer.at ≡ address_of heads home =
      one_address pointer.at (address_of heads home) (slots home) is.format_4.text reads.text (address_fits head.device pointer.at home_small) (is_address head.device home home_small)
      is.format_4.stands reads.stands in
      let text : is.format_4.text ≡ reads.text =
      spells is.format_4.text reads.text
      (subst (λ (at : TrackAt). IsTrackText at (slots home) is.format_4.text) same is.format_4.stands) reads.stands in
      let found : find (λ x. x.r == pointer.r) reads.text.recs ≡ Some is.format_4.rec = ap (λ (t : Track). find (λ x. x.r == pointer.r) t.recs) (sym text) ∙ is.format_4.numbered in
      let placed = at_place home pointer.r (dscb_of is.format_4.rec) in
      let here : Contains (placed_from home 1 dscbs) placed =
      subst (λ (dscbs : List (List ℕ)). Contains (placed_from home 1 dscbs) placed) (sym reads.dscbs_are)
      (on_track home 1 pointer.r reads.text.recs is.format_4.rec (numbered_from 1 reads.text.recs reads.numbered) found) in
      in_tracks vtoc.run.first k vtoc.tracks dscbs placed e (subst (λ (track : ℕ). Contains (placed_from track 1 dscbs) placed) (sym at) here)

  pub four_there : Contains (records_of vtoc) (record { place = vtoc.format_4; bytes = is.bytes })
  four_there =
      let inside = home_in head slots pointer sliding vtoc is in
      let k = home - vtoc.run.first in
      let at : vtoc.run.first + k ≡ home = omega (arith, inside.0) in
      let less : k < vtoc.run.len = omega (arith, inside.0, inside.1) in
      let dscbs = slice_index_or vtoc.tracks k None in
      let some : dscbs ≢ None = All-get_or (λ dscbs. dscbs ≢ None) vtoc.tracks k None (omega (arith, less, is.reading.whole)) (all_read vtoc sound) in
      let reads : IsTrackReading heads home (slots home) dscbs = subst (λ (track : ℕ). IsTrackReading heads track (slots track) dscbs) at (is.reading.each k less) in
      let same : at_place home pointer.r (dscb_of is.format_4.rec) ≡ record { place = vtoc.format_4; bytes = is.bytes } =
      (λ i. record { place = sym is.place_is i; bytes = sym is.format_4.bytes_are i }) in
      subst (λ (placed : Placed). Contains (records_of vtoc) placed) same (read_there k dscbs refl some at reads)
