-- What a change of a VTOC leaves on its tracks.
use Rattle.std.specs.Prelude.{◌≡◌, ◌≢◌, ◌⊎◌, ℕ, Bool, true, List}
use Rattle.ckd_image.specs.declared.head.Head.{Head}
use Rattle.vol_label.specs.declared.label.Label.{Label}
use Rattle.volume_model.specs.declared.place.Placed.{Placed}
use Rattle.volume_model.specs.declared.place.Vtoc.{Vtoc}
use Rattle.volume_model.specs.Sound.{Slots}
use Rattle.vtoc_core.specs.declared.volume.Volume.{Volume}
use Rattle.vtoc_load.specs.LoadedVtoc.{IsLoadedVtoc}
use Rattle.vtoc_rewrite.specs.Rewrite.{AreSlotsAfter}
use Rattle.volume_change.specs.declared.change.Change.{Change}
use Rattle.volume_change.specs.declared.change.Change.TheVariants.{Mark}
use Rattle.render_laws.specs.Rendered.{WasLoaded}
use Rattle.vtoc_render.specs.declared.change.Rendered.{Rendered}

-- The slots with the blocks in place load to the next volume: whether or not a slide is open, and where the change is a mark, while one is.
abbrev pub LoadsAfter : Volume → List ℕ → Change → Rendered → Type 0
LoadsAfter volume slots change rendered =
    (head : Head) (label : Label) (old new : Slots) (before after : Bool) (vtoc : Vtoc) (four : Placed) → WasLoaded head label old before slots volume vtoc four
    → AreSlotsAfter volume.vtoc rendered.blocks old new → ((change ≢ Mark) ⊎ (after ≡ true)) → IsLoadedVtoc head label new after rendered.next
