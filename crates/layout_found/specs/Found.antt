-- What stands in a VTOC that breaks no rule.
use Rattle.std.specs.Prelude.{◌≡◌, true, [], Contains}
use Rattle.volume_model.specs.declared.format.Format.TheVariants.{F4}
use Rattle.volume_model.specs.declared.place.Placed.{Placed}
use Rattle.volume_model.specs.declared.place.Vtoc.{Vtoc}
use Rattle.volume_model.specs.Dscbs.{format_of}
use Rattle.volume_model.specs.Check.{records_of, breaches_of}
use Rattle.vtoc_check.specs.Sized.{IsSized}
use Rattle.vtoc_layout.specs.Layout.{IsLayoutOf, AreLinkedFives, AreExtentsApart, fives_in_order, layout_of}

-- A VTOC that breaks no rule has a layout: its records are used so, its format 5s are one chain where they are valid, and its extents are apart.
abbrev pub SoundVtocsHaveLayouts : Type 0
SoundVtocsHaveLayouts =
    (vtoc : Vtoc) (four : Placed) → IsSized vtoc → Contains (records_of vtoc) four → format_of four.bytes ≡ F4 → four.place ≡ vtoc.format_4 → breaches_of vtoc ≡ []
    → IsLayoutOf vtoc (layout_of vtoc four) × (vtoc.valid ≡ true → AreLinkedFives vtoc.heads (records_of vtoc) (fives_in_order vtoc)) × AreExtentsApart vtoc (layout_of vtoc four)
