-- Which extents pin a data set, and what is left where nothing else does.
use Rattle.std.proofs.Common.{◌≡◌, ◌⊎◌, inl, inr, ℕ, ◌%◌, ◌≤◌, List, [], ◌∷◌, length, All, Contains, sym, ap, subst, arith}
use Rattle.std.specs.List.{AllByRecursion}
use Rattle.std.proofs.lemmas.Bool.{cases_eq}
use Rattle.std.proofs.lemmas.List.{length-map}
use Rattle.std.proofs.lemmas.List.Elements.{All-from_recursion, All-contains}
use Rattle.ckd_image.specs.declared.device.Device.{Device}
use Rattle.ckd_image.specs.Device.{heads_of}
use Rattle.dscb_rec.specs.declared.field.Extent.{Extent as Field}
use Rattle.volume_model.specs.Pinned.{HasName, organization_in, IsMovable, IsManaged, GoesOn, IsPinned, HasOtherExtent}
use Rattle.volume_model.specs.Reads.{extent_in}
use Rattle.volume_model.specs.Unit.{Extent, DataSet}
use Rattle.vtoc_core.specs.Loaded.{field_of}
use Rattle.vtoc_layout.proofs.Distinct.{at_first, in_later, from_map}
use Rattle.step_plans.specs.Plans.{extents_from}
use Rattle.job_select.specs.Whole.{IsWhole, IsWholeOn}
use Rattle.ckd_image.proofs.Lists.{contains_map}

abbrev pub on : Device → Field → Extent
on device extent = extent_in (heads_of device) (field_of extent)

whole_or_not : (heads : ℕ) (extent : Extent) → IsWhole heads extent ⊎ (¬ IsWhole heads extent)
whole_or_not heads extent = elim (cases_eq extent.kind 0x01) [
  | inl tracks ↦ inl (inl tracks)
  | inr other ↦ elim (cases_eq extent.kind 0x81) [
    | inl cylinders ↦ elim (cases_eq (extent.run.first % heads) 0) [
      | inl first ↦ elim (cases_eq (extent.run.len % heads) 0) [
        | inl len ↦ inl (inr (cylinders, first, len))
        | inr part ↦ inr (λ whole. elim whole [ inl tracks ↦ other tracks | inr right ↦ part right.2 ])
      ]
      | inr part ↦ inr (λ whole. elim whole [ inl tracks ↦ other tracks | inr right ↦ part right.1 ])
    ]
    | inr none ↦ inr (λ whole. elim whole [ inl tracks ↦ other tracks | inr right ↦ none right.0 ])
  ]
]

other_in : (device : Device) (extents : List Field) → ¬ AllByRecursion (IsWholeOn device) extents → (x : Field) × Contains extents x × (¬ IsWholeOn device x)
other_in device [] h = absurd (h tt)
other_in device (extent ∷ extents) h = elim (whole_or_not (heads_of device) (on device extent)) [
  | inl whole ↦ let found = other_in device extents (λ all. h (whole, all)) in (found.0, in_later extent found.0 extents found.1, found.2)
  | inr other ↦ (extent, at_first extent extents, other)
]

module _ (device : Device) (set : DataSet) (extents : List Field) (is : set.extents ≡ extents_from device extents) where
  pub other_extent : ¬ All (IsWholeOn device) extents → HasOtherExtent (heads_of device) set.extents
  other_extent h =
      let found = other_in device extents (λ all. h (All-from_recursion (IsWholeOn device) extents all)) in
      record {
        extent = on device found.0;
        is_there = subst (λ (l : List Extent). Contains l (on device found.0)) (sym is) (contains_map (on device) extents found.0 found.1);
        not_tracks = λ tracks. found.2 (inl tracks);
        not_cylinders = λ cylinders. found.2 (inr cylinders);
      }

  no_other : All (IsWholeOn device) extents → ¬ HasOtherExtent (heads_of device) set.extents
  no_other all h =
      let found = from_map (on device) extents h.extent (subst (λ (l : List Extent). Contains l h.extent) is h.is_there) in
      let whole : IsWholeOn device found.0 = All-contains (IsWholeOn device) extents found.0 all found.1 in
      elim (subst (IsWhole (heads_of device)) found.2 whole) [ inl tracks ↦ h.not_tracks tracks | inr cylinders ↦ h.not_cylinders cylinders ]

  -- what is left where nothing else pins a data set
  pub only_volume : HasName set.name → IsMovable (organization_in set.fields) → All (IsWholeOn device) extents → length extents ≤ 16 → ¬ IsManaged set.fields
      → IsPinned (heads_of device) set.name set.fields set.extents → GoesOn set.fields
  only_volume named movable whole few own pinned =
      elim pinned [
        | inl none ↦ absurd (none named)
        | inr a ↦ elim a [
          | inl fixed ↦ absurd (fixed movable)
          | inr b ↦ elim b [
            | inl other ↦ absurd (no_other whole other)
            | inr d ↦ elim d [
              | inl many ↦ absurd (omega (arith, many, few, ap length is, length-map extents (on device)))
              | inr e ↦ elim e [ inl kept ↦ absurd (own kept) | inr on ↦ on ]
            ]
          ]
        ]
      ]
