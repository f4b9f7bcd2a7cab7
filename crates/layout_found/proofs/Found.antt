-- A VTOC that breaks no rule has a layout.
use Rattle.std.proofs.Common.{List, ◌++◌, Contains}
use Rattle.std.specs.List.{flat_map}
use Rattle.std.proofs.lemmas.List.Elements.{All-contains, Contains-append_right}
use Rattle.volume_model.specs.declared.place.Placed.{Placed}
use Rattle.volume_model.specs.Check.{records_of}
use Rattle.vtoc_layout.specs.Layout.{records_in_set, records_used, fives_in_order, sets_of, layout_of}
use Rattle.vtoc_layout.proofs.Distinct.{in_later, distinct_back}
use Rattle.layout_found.specs.Found.{SoundVtocsHaveLayouts}
use Rattle.layout_found.proofs.ChainedFives.{linked_fives}
use Rattle.layout_found.proofs.Uses.{layout_right}
use Rattle.layout_found.proofs.Extents.{extents_apart}

pub found_layout : SoundVtocsHaveLayouts
found_layout vtoc four sized there four_is four_at sound =
    let right = layout_right vtoc four sized.short there four_is four_at sound in
    let of_sets : List Placed = flat_map records_in_set (sets_of vtoc) in (
      right,
      linked_fives vtoc sound,
      extents_apart vtoc (layout_of vtoc four) sound (distinct_back (fives_in_order vtoc) of_sets right.once.1)
          (λ placed c.
          All-contains (Contains (records_of vtoc)) (records_used (layout_of vtoc four)) placed right.there (in_later four placed (fives_in_order vtoc ++ of_sets) (Contains-append_right (fives_in_order vtoc) of_sets placed c))),
    )
