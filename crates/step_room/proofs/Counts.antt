-- The records that a volume uses, by its rows and by its data sets.
use Rattle.std.proofs.Common.{◌≡◌, ◌≢◌, ℕ, ◌+◌, List, ◌++◌, refl, ap, arith}
use Rattle.std.specs.Prelude.{sum_by}
use Rattle.std.proofs.lemmas.List.Sums.{sum-map, sum_by-append}
use Rattle.ckd_image.specs.Device.{heads_of}
use Rattle.volume_model.specs.Changed.{records_for as records_of_set, used_records}
use Rattle.volume_model.specs.Unit.{OnlineVolume}
use Rattle.vtoc_core.specs.declared.volume.Volume.{Volume}
use Rattle.volume_change.specs.declared.change.Change.{Change}
use Rattle.volume_change.specs.declared.change.Change.TheVariants.{Repair, Put, Swap, Remove, Mark}
use Rattle.step_plans.specs.vtoc_render.Next.{IsNext, used_by}
use Rattle.step_plans.specs.unit_change.Described.{Describes}
use Rattle.step_plans.proofs.unit_steps.unit_change.Describing.{uses_described}

sum_of_three : {X : Type 0} (f : X → ℕ) (all xs ys zs : List X) → all ≡ xs ++ (ys ++ zs) → sum_by f all ≡ sum_by f xs + (sum_by f ys + sum_by f zs)
sum_of_three f all xs ys zs are = omega (arith, ap (sum_by f) are, sum_by-append f xs (ys ++ zs), sum_by-append f ys zs)

-- what goes and what comes between the same others
pub exchanged : {X : Type 0} (f : X → ℕ) (old new front gone put back : List X) → old ≡ front ++ (gone ++ back) → new ≡ front ++ (put ++ back)
    → sum_by f new + sum_by f gone ≡ sum_by f old + sum_by f put
exchanged f old new front gone put back old_are new_are =
    omega (arith, sum_of_three f old front gone back old_are, sum_of_three f new front put back new_are)

pub used_described : (loaded : Volume) (volume : OnlineVolume) → Describes loaded volume → used_records volume ≡ used_by loaded
used_described loaded volume is =
    omega (arith, is.fives_are, sum-map records_of_set volume.sets, uses_described (heads_of loaded.device) loaded.rows volume.sets is.sets_are)

pub next_counted : (old new : Volume) (change : Change) → change ≢ Mark → IsNext old change new → new.free_dscbs + used_by new ≡ new.dscbs
next_counted old new Repair no_mark is = is.1
next_counted old new (Put row) no_mark is = is.1
next_counted old new (Swap name row) no_mark is = is.1
next_counted old new (Remove name) no_mark is = is.1
next_counted old new Mark no_mark is = absurd (no_mark refl)
