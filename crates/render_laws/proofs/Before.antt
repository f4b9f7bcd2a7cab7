-- What is known of a volume that was loaded from slots.
use Rattle.std.proofs.Common.{◌≡◌, ◌≢◌, ℕ, ◌+◌, ◌≤◌, List, [], ◌∷◌, ◌++◌, length, All, Contains, Bool, true, Option, Some, None, ap, subst, ◌∙◌, arith, length-append}
use Rattle.std.proofs.lemmas.List.Elements.{All-nil, All-cons, All-contains}
use Rattle.std.proofs.lemmas.List.Sorted.{Contains-permutation, IsPermutation-sym}
use Rattle.ckd_image.specs.declared.head.Head.{Head}
use Rattle.free_map.specs.declared.run.Run.{Run}
use Rattle.vol_label.specs.declared.label.Label.{Label}
use Rattle.volume_model.specs.declared.format.Format.TheVariants.{F4}
use Rattle.volume_model.specs.declared.place.Breach.{Breach}
use Rattle.volume_model.specs.declared.place.Placed.{Placed}
use Rattle.volume_model.specs.declared.place.Vtoc.{Vtoc}
use Rattle.volume_model.specs.Dscbs.{format_of}
use Rattle.volume_model.specs.Reads.{fields_of_4}
use Rattle.volume_model.specs.Space.{end_of}
use Rattle.volume_model.specs.Sound.{Slots, IsVtoc, is_valid}
use Rattle.volume_model.specs.Check.{records_of, track_0, extents_in, usable_in, bad_tracks, bad_dscbs, bad_names, bad_pointers, bad_fives, bad_ranges, bad_overlaps, bad_free}
use Rattle.vtoc_check.specs.Sized.{IsVtocWith}
use Rattle.vtoc_core.specs.declared.volume.Volume.{Volume}
use Rattle.vtoc_layout.specs.Layout.{IsLayoutOf, AreLinkedFives, AreExtentsApart, layout_of, runs_by, fives_in_order}
use Rattle.vtoc_layout.proofs.ExtentRules.{extents_permuted}
use Rattle.vtoc_load.proofs.Usable.{usable_most, usable_least}
use Rattle.layout_found.proofs.Found.{found_layout}
use Rattle.layout_edit.specs.Change.{vtoc_after}
use Rattle.vtoc_write.specs.declared.blocks.Block.{Block}
use Rattle.vtoc_write.specs.Edited.{edit_of}
use Rattle.vtoc_write.specs.Written.{AreRewritten}
use Rattle.vtoc_rewrite.specs.Rewrite.{AreSlotsAfter, vtoc_with}
use Rattle.vtoc_rewrite.proofs.Rewritten.{rewritten_stands}
use Rattle.render_laws.specs.Rendered.{WasLoaded}
use Rattle.ckd_image.proofs.Lists.{left_nil, right_nil}

pub tracks_are : (track : ℕ) (tracks : List (Option (List (List ℕ)))) → bad_tracks track tracks ≡ [] → All (λ dscbs. dscbs ≢ None) tracks
tracks_are track [] e = All-nil (λ (dscbs : Option (List (List ℕ))). dscbs ≢ None)
tracks_are track (None ∷ more) e = absurd (bare (bad_tracks (track + 1) more) e)
  where
    bare : {x : Breach} (xs : List Breach) → x ∷ xs ≡ [] → ⊥
    bare {x} xs e = let q : x ∷ xs ≡ [] = e in cc
tracks_are track (Some dscbs ∷ more) e =
    All-cons (λ (dscbs : Option (List (List ℕ))). dscbs ≢ None) (Some dscbs) more (λ same. cc) (tracks_are (track + 1) more e)

module _ {head : Head} {label : Label} {unit : Slots} {before : Bool} {slots : List ℕ} {volume : Volume} {vtoc : Vtoc} {four : Placed}
    (was : WasLoaded head label unit before slots volume vtoc four) where
  abbrev is : IsVtoc head unit label.vtoc before vtoc
  is = was.stands.stands

  pub four_format : format_of four.bytes ≡ F4
  four_format = ap format_of was.stands.four_is ∙ is.format_4.format

  pub four_long : length four.bytes ≡ 140
  four_long =
      omega (
        arith,
        ap length was.stands.four_is,
        ap length is.format_4.bytes_are,
        length-append is.format_4.rec.key is.format_4.rec.body,
        is.format_4.shaped.0,
        is.format_4.shaped.1,
      )

  -- ---- no rule is broken

  pub has_layout : IsLayoutOf vtoc (layout_of vtoc four)
  has_layout = (found_layout vtoc four was.sized was.four_there four_format was.four_at was.sound).0

  pub linked : vtoc.valid ≡ true → AreLinkedFives vtoc.heads (records_of vtoc) (fives_in_order vtoc)
  linked = (found_layout vtoc four was.sized was.four_there four_format was.four_at was.sound).1

  pub apart : AreExtentsApart vtoc (layout_of vtoc four)
  apart = (found_layout vtoc four was.sized was.four_there four_format was.four_at was.sound).2

  pub tracks_stand : All (λ dscbs. dscbs ≢ None) vtoc.tracks
  tracks_stand =
      let t = bad_tracks vtoc.run.first vtoc.tracks in
      let two = t ++ bad_dscbs vtoc in
      let three = two ++ bad_names vtoc in
      let four = three ++ bad_pointers vtoc in
      let five = four ++ bad_fives vtoc in
      let six = five ++ bad_ranges vtoc in
      let seven = six ++ bad_overlaps vtoc in
      tracks_are vtoc.run.first vtoc.tracks
      (left_nil t (bad_dscbs vtoc) (left_nil two (bad_names vtoc) (left_nil three (bad_pointers vtoc) (left_nil four (bad_fives vtoc)
      (left_nil five (bad_ranges vtoc) (left_nil six (bad_overlaps vtoc) (left_nil seven (bad_free vtoc) was.sound)))))))

  pub free_stated : bad_free vtoc ≡ []
  free_stated =
      right_nil
      (bad_tracks vtoc.run.first vtoc.tracks ++ bad_dscbs vtoc ++ bad_names vtoc ++ bad_pointers vtoc ++ bad_fives vtoc ++ bad_ranges vtoc ++ bad_overlaps vtoc) (bad_free vtoc) was.sound

  -- ---- the usable tracks

  pub usable_is : volume.usable ≡ usable_in vtoc
  usable_is = was.volume_is.space.usable_is

  pub usable_within : volume.usable ≤ vtoc.limit
  usable_within = omega (arith, usable_is, usable_most vtoc was.sized free_stated)

  pub ends : (run : Run) → Contains (track_0 ∷ vtoc.run ∷ extents_in vtoc) run → end_of run ≤ volume.usable
  ends run c = omega (arith, usable_is, All-contains (λ (r : Run). end_of r ≤ usable_in vtoc) (track_0 ∷ vtoc.run ∷ extents_in vtoc) run (usable_least vtoc) c)

  pub extent_there : (run : Run) → Contains (runs_by vtoc.heads (layout_of vtoc four)) run → Contains (extents_in vtoc) run
  extent_there run c =
      let runs = runs_by vtoc.heads (layout_of vtoc four) in
      Contains-permutation runs (extents_in vtoc) run (IsPermutation-sym (extents_in vtoc) runs (extents_permuted vtoc (layout_of vtoc four) was.sized has_layout apart)) c

  -- ---- the slots afterwards

  pub stands_after : (new : Slots) (after : Bool) (edits : List Placed) (blocks : List Block) (edit : Placed) → AreRewritten edits head.device vtoc.run slots blocks
      → AreSlotsAfter vtoc.run blocks unit new → edit_of edits vtoc.format_4 ≡ Some edit → length edit.bytes ≡ 140 → format_of edit.bytes ≡ F4
      → fields_of_4 edit.bytes ≡ fields_of_4 four.bytes → is_valid after edit.bytes ≡ true → IsVtocWith head new label.vtoc after (vtoc_after vtoc edits) edit.bytes
  stands_after new after edits blocks edit rewritten slots_after found long format fields valid =
      let P : Bool → Type 0 = λ valid. IsVtocWith head new label.vtoc after (vtoc_with vtoc valid edits) edit.bytes in
      subst P valid
      (rewritten_stands head unit new label.vtoc before after vtoc four.bytes edits slots blocks edit was.small was.stands was.slots_are was.long tracks_stand rewritten slots_after found long format
      fields)
