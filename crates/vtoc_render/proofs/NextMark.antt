-- A mark leaves slots that load to the volume as it was.
use Rattle.std.proofs.Common.{◌≡◌, ◌≢◌, ◌⊎◌, inl, inr, ℕ, List, [], ◌∷◌, Bool, true, false, sym, subst}
use Rattle.ckd_image.specs.declared.device.Device.{Device}
use Rattle.free_map.specs.declared.run.Run.{Run}
use Rattle.vtoc_core.specs.declared.volume.Volume.{Volume}
use Rattle.vtoc_load.specs.LoadedVtoc.{IsLoadedVtoc}
use Rattle.vtoc_write.specs.Written.{AreRewritten}
use Rattle.vtoc_rewrite.specs.Rewrite.{AreSlotsAfter}
use Rattle.volume_change.specs.declared.change.Change.{Change}
use Rattle.volume_change.specs.declared.change.Change.TheVariants.{Mark}
use Rattle.render_laws.proofs.Before.{four_long}
use Rattle.render_laws.proofs.MarkedVolume.{marked_loads}
use Rattle.vtoc_render.specs.declared.change.Rendered.{Rendered}
use Rattle.vtoc_render.specs.Loads.{OfEachVtoc}
use Rattle.vtoc_render.specs.Next.{MayChange}
use Rattle.vtoc_render.specs.Render.{LoadsAfter}
use Rattle.vtoc_render.specs.Written.{IsMarked}

pub mark_loads : (volume : Volume) (slots : List ℕ) (change : Change) (rendered : Rendered) → MayChange volume change → change ≡ Mark → rendered.next ≡ volume
    → OfEachVtoc volume slots (IsMarked volume slots rendered) → LoadsAfter volume slots change rendered
mark_loads volume slots change rendered may is_mark next is = λ head label old new before after vtoc four was slots_after when.
    let m = is head label old before vtoc four was in
    let off : volume.repair ≡ false = subst (λ (c : Change). MayChange volume c) is_mark may in
    let blocks : AreRewritten (m.marked ∷ []) head.device vtoc.run slots rendered.blocks =
    subst (λ (run : Run). AreRewritten (m.marked ∷ []) head.device run slots rendered.blocks) was.volume_is.vtoc_is
    (subst (λ (device : Device). AreRewritten (m.marked ∷ []) device volume.vtoc slots rendered.blocks) was.volume_is.device_is m.blocks_are) in
    let after_is : AreSlotsAfter vtoc.run rendered.blocks old new = subst (λ (run : Run). AreSlotsAfter run rendered.blocks old new) was.volume_is.vtoc_is slots_after in
    let open_then : after ≡ true = opened after when in
    subst (λ (v : Volume). IsLoadedVtoc head label new after v) (sym next)
    (subst (λ (b : Bool). IsLoadedVtoc head label new b volume) (sym open_then)
    (marked_loads head label old new before slots rendered.blocks volume vtoc four m.marked was off m.marked_at m.marked_is (four_long was) blocks after_is))
  where
    opened : (after : Bool) → ((change ≢ Mark) ⊎ (after ≡ true)) → after ≡ true
    opened after (inl other) = absurd (other is_mark)
    opened after (inr is_open) = is_open
