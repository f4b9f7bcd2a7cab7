-- What is known of a data set that may be put.
use Rattle.std.proofs.Common.{◌≡◌, ℕ, ◌≤◌, List, [], ◌∷◌, length, All, Option, Some, None, IfSome, sym, subst}
use Rattle.volume_model.specs.declared.format.Format.TheVariants.{F1}
use Rattle.volume_model.specs.Dscbs.{format_of}
use Rattle.vtoc_core.specs.declared.volume.Row.{Row}
use Rattle.vtoc_core.specs.declared.volume.Volume.{Volume}
use Rattle.dscb_made.specs.Slots.{IsThere}
use Rattle.volume_change.specs.declared.change.Change.{Change}
use Rattle.volume_change.specs.declared.change.Change.TheVariants.{Repair, Put, Swap, Remove, Mark}
use Rattle.vtoc_render.specs.Next.{MayPut, MayChange}
use Rattle.vtoc_render.specs.Steps.{AreBelow, IsAimOf}

pub record IsFit (volume : Volume) (row : Row) : Type 0 where
  pub below : AreBelow volume row.extents
  pub format : format_of row.f1 ≡ F1
  pub few : length row.extents ≤ 16
  pub there : All IsThere row.extents

fit : (volume : Volume) (gone : List Row) (row : Row) → MayPut volume gone row → IsFit volume row
fit volume gone row may = record { below = may.ranges; format = may.format; few = may.few; there = may.there }

pub put_fits : (volume : Volume) (change : Change) (name : Option (List ℕ)) (put : Option Row) → IsAimOf change name put → MayChange volume change → IfSome put (IsFit volume)
put_fits volume Repair name put aim may = subst (λ (put : Option Row). IfSome put (IsFit volume)) (sym aim.1) tt
put_fits volume (Put row) name put aim may = subst (λ (put : Option Row). IfSome put (IsFit volume)) (sym aim.1) (fit volume [] row may.0)
put_fits volume (Swap old row) name put aim may = subst (λ (put : Option Row). IfSome put (IsFit volume)) (sym aim.1) (fit volume (may.1.0 ∷ []) row may.1.3)
put_fits volume (Remove old) name put aim may = subst (λ (put : Option Row). IfSome put (IsFit volume)) (sym aim.1) tt
put_fits volume Mark name put aim may = absurd aim

pub if_some : (P Q : Row → Type 0) → ((row : Row) → P row → Q row) → (put : Option Row) → IfSome put P → IfSome put Q
if_some P Q h None is = tt
if_some P Q h (Some row) is = h row is
