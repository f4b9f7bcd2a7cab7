-- The first tracks of extents.
use Rattle.std.proofs.Common.{◌≡◌, ◌≢◌, ℕ, suc, ◌+◌, ◌-◌, ◌*◌, ◌<◌, ◌≤◌, List, [], ◌∷◌, ◌++◌, length, drop, get_or, true, refl, sym, ap, subst, ◌∙◌, arith, append_assoc}
use Rattle.std.specs.Prelude.{if◌then◌else◌}
use Rattle.std.proofs.lemmas.Bool.{ne_eqb, le-leb, lt-leb}
use Rattle.std.proofs.lemmas.List.{append-nil, length-append, length-map, map-append}
use Rattle.std.proofs.lemmas.List.Elements.{All-push, All-head, All-tail}
use Rattle.std.proofs.Math.Seq.{drop-cons}
use Rattle.ckd_image.specs.declared.device.Device.{Device}
use Rattle.ckd_image.specs.Device.{heads_of}
use Rattle.dscb_rec.specs.declared.field.Extent.{Extent as Field}
use Rattle.volume_model.specs.Dscbs.{numbers_below}
use Rattle.volume_model.specs.Reads.{extent_in}
use Rattle.volume_model.specs.declared.extent.ExtentField.{ExtentField}
use Rattle.volume_model.specs.Space.{is_run, run_of}
use Rattle.volume_model.specs.Unit.{Extent, tracks_in, tracks_of}
use Rattle.vtoc_check.proofs.Overlapping.{run_facts}
use Rattle.vtoc_core.specs.Loaded.{field_of}
use Rattle.move_core.specs.Steps.{cut}
use Rattle.step_plans.specs.Plans.{AreRuns, extents_from}
use Rattle.volume_model.proofs.Numbers.{numbers_long}

-- ---- how many there are

abbrev on : Device → Field → Extent
on device extent = extent_in (heads_of device) (field_of extent)

abbrev pub long_at : Device → Field → ℕ
long_at device extent = (run_of (heads_of device) (field_of extent)).len

-- a run has no more tracks than there are below its end
run_short : (heads limit : ℕ) (field : ExtentField) → is_run heads limit field ≡ true → (run_of heads field).len ≤ limit
run_short heads limit field is = omega (arith, (run_facts heads limit field is).0)

-- so extents have no more than that for each
pub tracks_few : (device : Device) (extents : List Field) → AreRuns device extents → length (tracks_of (extents_from device extents)) ≤ length extents * 65536
tracks_few device [] runs = omega arith
tracks_few device (extent ∷ extents) runs =
    let here = on device extent in
    let IsRun : Field → Type 0 = λ extent. is_run (heads_of device) 65536 (field_of extent) ≡ true in
    let parted : length (tracks_of (extents_from device (extent ∷ extents))) ≡ length (tracks_in here.run) + length (tracks_of (extents_from device extents)) =
    length-append (tracks_in here.run) (tracks_of (extents_from device extents)) in
    let long : length (tracks_in here.run) ≡ here.run.len = length-map (numbers_below here.run.len) (λ place. here.run.first + place) ∙ numbers_long here.run.len in
    omega (arith, parted, long, run_short (heads_of device) 65536 (field_of extent) (All-head IsRun extent extents runs), tracks_few device extents (All-tail IsRun extent extents runs))

-- ---- cutting

cut_none : (extents : List Extent) → cut 0 extents ≡ []
cut_none [] = refl
cut_none (extent ∷ extents) = refl

abbrev pub part_of : ℕ → Extent → Extent
part_of keep extent = record { run = record { first = extent.run.first; len = keep }; kind = extent.kind }

cut_whole : (left : ℕ) (extent : Extent) (extents : List Extent) → left ≢ 0 → extent.run.len ≤ left → cut left (extent ∷ extents) ≡ extent ∷ cut (left - extent.run.len) extents
cut_whole left extent extents some fits =
    (λ i. if ne_eqb left 0 some i then [] else if le-leb extent.run.len left fits i then extent ∷ cut (left - extent.run.len) extents else part_of left extent ∷ [])

cut_within : (left : ℕ) (extent : Extent) (extents : List Extent) → left ≢ 0 → left < extent.run.len → cut left (extent ∷ extents) ≡ part_of left extent ∷ []
cut_within left extent extents some less =
    (λ i. if ne_eqb left 0 some i then [] else if lt-leb extent.run.len left less i then extent ∷ cut (left - extent.run.len) extents else part_of left extent ∷ [])

module _ (device : Device) (kept extents : List Field) (k left : ℕ) (d : Field) (less : k < length extents) (some : left ≢ 0) where
  abbrev here : Field
  here = get_or extents k d

  abbrev behind : List Extent
  behind = extents_from device (drop (k + 1) extents)

  parted : extents_from device (drop k extents) ≡ on device here ∷ behind
  parted =
      let next : suc k ≡ k + 1 = omega arith in
      ap (extents_from device) (drop-cons extents k d less ∙ ap (λ (n : ℕ). here ∷ drop n extents) next)

  pushed : (extent : Field) → extents_from device (kept ++ extent ∷ []) ≡ extents_from device kept ++ extents_from device (extent ∷ [])
  pushed extent = map-append (on device) kept (extent ∷ [])

  -- a whole extent is kept
  whole_kept : (run_of (heads_of device) (field_of (get_or extents k d))).len ≤ left
      → extents_from device (kept ++ get_or extents k d ∷ []) ++ cut (left - (run_of (heads_of device) (field_of (get_or extents k d))).len) (extents_from device (drop (k + 1) extents))
      ≡ extents_from device kept ++ cut left (extents_from device (drop k extents))
  whole_kept fits =
      let rest = cut (left - (on device here).run.len) behind in
      ap (λ (list : List Extent). list ++ rest) (pushed here)
      ∙ append_assoc (extents_from device kept) (on device here ∷ []) rest
      ∙ ap (λ (list : List Extent). extents_from device kept ++ list) (sym (ap (cut left) parted ∙ cut_whole left (on device here) behind some fits))

  -- the front of one is kept, and nothing behind it
  front_kept : (front : Field) → left < (run_of (heads_of device) (field_of (get_or extents k d))).len
      → extents_from device (front ∷ []) ≡ cut left (extents_from device (get_or extents k d ∷ []))
      → extents_from device (kept ++ front ∷ []) ++ cut 0 (extents_from device (drop (k + 1) extents)) ≡ extents_from device kept ++ cut left (extents_from device (drop k extents))
  front_kept front shorter is =
      ap (λ (list : List Extent). extents_from device (kept ++ front ∷ []) ++ list) (cut_none behind)
      ∙ append-nil (extents_from device (kept ++ front ∷ []))
      ∙ pushed front
      ∙ ap (λ (list : List Extent). extents_from device kept ++ list)
      (is ∙ cut_within left (on device here) [] some shorter ∙ sym (ap (cut left) parted ∙ cut_within left (on device here) behind some shorter))

-- What is kept so far, and so many tracks to keep of the extents behind, are the first tracks of all.
pub record IsCutSo (device : Device) (all kept : List Field) (k left keep : ℕ) : Type 0 where
  pub cut : extents_from device kept ++ cut left (extents_from device (drop k all)) ≡ cut keep (extents_from device all)
  pub runs : AreRuns device kept

pub whole_next : (device : Device) (all kept new : List Field) (k left later keep count : ℕ) (d : Field) → AreRuns device all → k < length all → left ≢ 0 → count ≡ long_at device (get_or all k d)
    → count ≤ left → later ≡ left - count → new ≡ kept ++ get_or all k d ∷ [] → IsCutSo device all kept k left keep → IsCutSo device all new (k + 1) later keep
whole_next device all kept new k left later keep count d runs less some is fits later_is new_is so_far =
    let left_is : later ≡ left - long_at device (get_or all k d) = later_is ∙ ap (λ (n : ℕ). left - n) is in
    record {
      cut =
          (λ i. extents_from device (new_is i) ++ cut (left_is i) (extents_from device (drop (k + 1) all)))
          ∙ whole_kept device kept all k left d less some (omega (arith, is, fits)) ∙ so_far.cut;
      runs = subst (AreRuns device) (sym new_is) (All-push (λ extent. is_run (heads_of device) 65536 (field_of extent) ≡ true) kept (get_or all k d) so_far.runs (runs k d less));
    }

pub front_next : (device : Device) (all kept new : List Field) (k left later keep count : ℕ) (d front : Field) → k < length all → left ≢ 0 → count ≡ long_at device (get_or all k d) → left < count
    → later ≡ 0 → extents_from device (front ∷ []) ≡ cut left (extents_from device (get_or all k d ∷ [])) → AreRuns device (front ∷ []) → new ≡ kept ++ front ∷ []
    → IsCutSo device all kept k left keep → IsCutSo device all new (k + 1) later keep
front_next device all kept new k left later keep count d front less some is shorter later_is front_is front_runs new_is so_far = record {
  cut =
      (λ i. extents_from device (new_is i) ++ cut (later_is i) (extents_from device (drop (k + 1) all)))
      ∙ front_kept device kept all k left d less some front (omega (arith, is, shorter)) front_is ∙ so_far.cut;
  runs =
      let P : Field → Type 0 = λ extent. is_run (heads_of device) 65536 (field_of extent) ≡ true in
      subst (AreRuns device) (sym new_is) (All-push P kept front so_far.runs (All-head P front [] front_runs));
}
