-- The slots of a VTOC whose tracks are written anew read as the VTOC with the edits made.
use Rattle.std.proofs.Common.{◌≡◌, ◌≢◌, ℕ, ◌+◌, ◌-◌, ◌*◌, ◌<◌, ◌≤◌, List, length, take, drop, All, Bool, true, Option, Some, None, refl, sym, ap, subst, ◌∙◌, arith}
use Rattle.std.specs.Prelude.{min, nat_le, nat_lt, slice_index_or}
use Rattle.std.proofs.lemmas.Bool.{and_parts, leb-true, ltb-true}
use Rattle.std.proofs.lemmas.List.{length-append}
use Rattle.std.proofs.lemmas.List.Elements.{All-get_or}
use Rattle.ckd_image.specs.declared.head.Head.{Head}
use Rattle.ckd_image.specs.declared.track.Cchhr.{Cchhr}
use Rattle.ckd_image.specs.declared.track.Track.{Track}
use Rattle.ckd_image.specs.declared.track.TrackAt.{TrackAt}
use Rattle.ckd_image.specs.Address.{address_of}
use Rattle.ckd_image.specs.Device.{heads_of, slot_of}
use Rattle.ckd_image.specs.Track.{IsTrackText}
use Rattle.volume_model.specs.declared.extent.ExtentField.{ExtentField}
use Rattle.volume_model.specs.declared.format.Format.TheVariants.{F4}
use Rattle.volume_model.specs.declared.place.Placed.{Placed}
use Rattle.volume_model.specs.declared.place.Vtoc.{Vtoc}
use Rattle.volume_model.specs.Dscbs.{format_of, extent_at}
use Rattle.volume_model.specs.Reads.{fields_of_4}
use Rattle.volume_model.specs.Space.{end_of, has_track, is_run, run_of, track_at}
use Rattle.volume_model.specs.Sound.{Slots, IsTrackReading, IsReading, IsFormat4, HasGeometry, HasVtocExtent, limit_of, is_valid, IsVtoc}
use Rattle.vtoc_check.specs.Sized.{IsVtocWith}
use Rattle.vtoc_check.specs.Slots.{AreSlotsOf}
use Rattle.vtoc_check.proofs.Overlapping.{run_facts}
use Rattle.vtoc_write.specs.declared.blocks.Block.{Block}
use Rattle.vtoc_write.specs.Edited.{edit_of, tracks_after, text_after}
use Rattle.vtoc_write.specs.Written.{block_of, slot_with, AreRewritten, IsBlockFor}
use Rattle.vtoc_rewrite.specs.Rewrite.{AreSlotsAfter, vtoc_with}
use Rattle.volume_model.proofs.Addresses.{address_fits, one_address}
use Rattle.vtoc_rewrite.proofs.Fields.{SaysSameVolume, same_volume}
use Rattle.vtoc_rewrite.proofs.Records.{edited, edited_first, edited_shaped, edited_bytes}
use Rattle.vtoc_rewrite.proofs.Tracks.{after_long, after_each, reading_after, text_then}
use Rattle.ckd_image.proofs.Devices.{is_address}

module _ (head : Head) (old new : Slots) (pointer : Cchhr) (before after : Bool) (vtoc : Vtoc) (four : List ℕ) (edits : List Placed) (slots : List ℕ) (blocks : List Block) (edit : Placed)
    (few : head.tracks ≤ 65535) (h : IsVtocWith head old pointer before vtoc four) (are : AreSlotsOf vtoc.run (slot_of head.device) slots old)
    (whole : (k : ℕ) → k < vtoc.run.len → length (old (vtoc.run.first + k)) ≡ slot_of head.device)
    (tracks_stand : All (λ dscbs. dscbs ≢ None) vtoc.tracks)
    (rewritten : AreRewritten edits head.device vtoc.run slots blocks) (then : AreSlotsAfter vtoc.run blocks old new)
    (found : edit_of edits vtoc.format_4 ≡ Some edit) (long : length edit.bytes ≡ 140) (format : format_of edit.bytes ≡ F4) (fields : fields_of_4 edit.bytes ≡ fields_of_4 four) where
  abbrev heads : ℕ
  heads = heads_of head.device

  abbrev is : IsVtoc head old pointer before vtoc
  is = h.stands

  -- ---- the tracks

  within : vtoc.run.first + vtoc.run.len ≤ 65535
  within =
      let facts = run_facts heads (limit_of head is.bytes) (extent_at is.bytes 105) is.extent.run in
      let same : end_of vtoc.run ≡ end_of (run_of heads (extent_at is.bytes 105)) = ap end_of is.run_is in
      omega (arith, same, facts.0, few)

  block_for : (k : ℕ) → k < vtoc.run.len → IsBlockFor edits heads (vtoc.run.first + k) (old (vtoc.run.first + k)) (block_of blocks (vtoc.run.first + k))
  block_for k less =
      let place : k ≡ vtoc.run.first + k - vtoc.run.first = omega arith in
      subst (λ (slot : List ℕ). IsBlockFor edits heads (vtoc.run.first + k) slot (block_of blocks (vtoc.run.first + k)))
      (ap (λ (n : ℕ). take (slot_of head.device) (drop (n * slot_of head.device) slots)) place ∙ sym (are k less))
      (rewritten.upto.each k less)

  stands_at : (k : ℕ) → k < vtoc.run.len → slice_index_or vtoc.tracks k None ≢ None
  stands_at k less = All-get_or (λ dscbs. dscbs ≢ None) vtoc.tracks k None (omega (arith, less, is.reading.whole)) tracks_stand

  reads : (k : ℕ) → k < vtoc.run.len
      → IsTrackReading heads (vtoc.run.first + k) (new (vtoc.run.first + k)) (slice_index_or (tracks_after edits vtoc.run.first vtoc.tracks) k None)
  reads k less =
      let track = vtoc.run.first + k in
      let slot_is : new track ≡ slot_with (old track) (block_of blocks track) = then.inside k less in
      let dscbs_are = after_each edits vtoc.run.first vtoc.tracks k in
      subst (λ (slot : List ℕ). IsTrackReading heads track slot (slice_index_or (tracks_after edits vtoc.run.first vtoc.tracks) k None)) (sym slot_is)
      (subst (IsTrackReading heads track (slot_with (old track) (block_of blocks track))) (sym dscbs_are)
      (reading_after edits head.device track (old track) (omega (arith, less, within)) (omega (arith, whole k less)) (slice_index_or vtoc.tracks k None) (block_of blocks track)
      (stands_at k less) (is.reading.each k less) (block_for k less)))

  reading : IsReading heads new vtoc.run (tracks_after edits vtoc.run.first vtoc.tracks)
  reading = record { whole = after_long edits vtoc.run.first vtoc.tracks ∙ is.reading.whole; each = reads }

  -- ---- the track of the format 4

  abbrev home : ℕ
  home = track_at heads pointer.at

  home_in : (vtoc.run.first ≤ home) × (home < vtoc.run.first + vtoc.run.len)
  home_in =
      let holds : has_track home vtoc.run ≡ true = ap (has_track home) is.run_is ∙ is.extent.holds in
      let parts = and_parts (nat_le vtoc.run.first home) (nat_lt home (end_of vtoc.run)) holds in
      (leb-true vtoc.run.first home parts.0, ltb-true home (end_of vtoc.run) parts.1)

  -- a statement of each track of the run, of this one
  at_home : (P : ℕ → Type 0) → ((k : ℕ) → k < vtoc.run.len → P (vtoc.run.first + k)) → P home
  at_home P each =
      let there : vtoc.run.first + (home - vtoc.run.first) ≡ home = omega (arith, home_in.0) in
      subst P there (each (home - vtoc.run.first) (omega (arith, home_in.0, home_in.1)))

  has_text : (dscbs : Option (List (List ℕ))) (track : ℕ) → dscbs ≢ None → IsTrackReading heads track (old track) dscbs → (text : Track) × IsTrackText (address_of heads track) (old track) text
  has_text None track some read = absurd (some refl)
  has_text (Some dscbs) track some read = (read.text, read.stands)

  text_there : (text : Track) × IsTrackText (address_of heads home) (old home) text
  text_there = at_home (λ track. (text : Track) × IsTrackText (address_of heads track) (old track) text)
      (λ k less. has_text (slice_index_or vtoc.tracks k None) (vtoc.run.first + k) (stands_at k less) (is.reading.each k less))

  small : home ≤ 65535
  small = omega (arith, home_in.1, within)

  address_is : pointer.at ≡ address_of heads home
  address_is =
      one_address pointer.at (address_of heads home) (old home) is.format_4.text text_there.0 (address_fits head.device pointer.at small) (is_address head.device home small)
      is.format_4.stands text_there.1

  text_stands : IsTrackText pointer.at (new home) (text_after edits home is.format_4.text)
  text_stands =
      let slot_is : new home ≡ slot_with (old home) (block_of blocks home) = at_home (λ track. new track ≡ slot_with (old track) (block_of blocks track)) then.inside in
      let old_stands : IsTrackText (address_of heads home) (old home) is.format_4.text = subst (λ (at : TrackAt). IsTrackText at (old home) is.format_4.text) address_is is.format_4.stands in
      subst (λ (slot : List ℕ). IsTrackText pointer.at slot (text_after edits home is.format_4.text)) (sym slot_is)
      (subst (λ (at : TrackAt). IsTrackText at (slot_with (old home) (block_of blocks home)) (text_after edits home is.format_4.text)) (sym address_is)
      (text_then edits head.device home (old home) small (at_home (λ track. length (old track) ≤ slot_of head.device) (λ k less. omega (arith, whole k less)))
      is.format_4.text (block_of blocks home) old_stands
      (at_home (λ track. IsBlockFor edits heads track (old track) (block_of blocks track)) block_for)))

  found_there : edit_of edits (record { track = home; record_number = pointer.r }) ≡ Some edit
  found_there = ap (edit_of edits) (sym is.place_is) ∙ found

  new_4 : IsFormat4 heads new pointer edit.bytes
  new_4 = record {
    text = text_after edits home is.format_4.text;
    rec = edited edits home pointer.r is.format_4.text.recs is.format_4.rec edit is.format_4.numbered found_there long;
    stands = text_stands;
    numbered = edited_first edits home pointer.r is.format_4.text.recs is.format_4.rec edit is.format_4.numbered found_there long;
    shaped = edited_shaped edits home pointer.r is.format_4.text.recs is.format_4.rec edit is.format_4.numbered found_there long;
    bytes_are = edited_bytes edits home pointer.r is.format_4.text.recs is.format_4.rec edit is.format_4.numbered found_there long;
    format = format;
  }

  -- ---- what the format 4 says

  old_long : length is.bytes ≡ 140
  old_long =
      omega (arith, ap length is.format_4.bytes_are, length-append is.format_4.rec.key is.format_4.rec.body, is.format_4.shaped.0, is.format_4.shaped.1)

  says : SaysSameVolume is.bytes edit.bytes
  says = same_volume is.bytes edit.bytes old_long long (fields ∙ ap fields_of_4 h.four_is)

  limit : limit_of head edit.bytes ≡ limit_of head is.bytes
  limit = ap (λ (cylinders : ℕ). min (cylinders * heads) head.tracks) says.cylinders

  geometry : HasGeometry heads edit.bytes
  geometry = (says.heads ∙ is.geometry.0, λ none. is.geometry.1 (sym says.cylinders ∙ none))

  extent : HasVtocExtent head pointer edit.bytes
  extent = record {
    there = λ none. is.extent.there (sym (ap (λ (e : ExtentField). e.kind) says.extent) ∙ none);
    run = (λ i. is_run heads (limit i) (says.extent i)) ∙ is.extent.run;
    not_track_0 = subst (λ (e : ExtentField). 1 ≤ track_at heads e.first) (sym says.extent) is.extent.not_track_0;
    holds = ap (λ (e : ExtentField). has_track home (run_of heads e)) says.extent ∙ is.extent.holds;
  }

  pub rewritten_stands : IsVtocWith head new pointer after (vtoc_with vtoc (is_valid after edit.bytes) edits) edit.bytes
  rewritten_stands = record {
    stands = record {
      bytes = edit.bytes;
      format_4 = new_4;
      geometry = geometry;
      extent = extent;
      heads_are = is.heads_are;
      limit_is = is.limit_is ∙ sym limit;
      place_is = is.place_is;
      valid_is = refl;
      alternates_are = is.alternates_are ∙ sym says.alternates;
      run_is = is.run_is ∙ sym (ap (run_of heads) says.extent);
      reading = reading;
    };
    four_is = refl;
  }
