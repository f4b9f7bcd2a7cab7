-- Each step leaves proper units.
use Rattle.std.proofs.Common.{◌≡◌, ℕ, List, [], ◌∷◌, Bool, true, false, refl, sym, subst}
use Rattle.dd_names.specs.declared.dd.DdName.{DdName}
use Rattle.dsn_filter.specs.declared.dsn.Dsn.{Dsn}
use Rattle.free_map.specs.declared.run.Run.{Run}
use Rattle.volume_model.specs.declared.why.Why.{Why}
use Rattle.volume_model.specs.declared.why.Why.TheVariants as whys
use Rattle.volume_model.specs.Reads.{IsUnit}
use Rattle.volume_model.specs.Unit.{DataSet, OnlineVolume, UnitModel, online, offline}
use Rattle.move_core.specs.declared.steps.Origin.{Origin}
use Rattle.move_core.specs.declared.steps.Step.{Step}
use Rattle.move_core.specs.declared.steps.Step.TheVariants.{Move, Shrink, Add, Replace, Delete, Carry, ResetFlag, Repair, FillStart, FillEnd}
use Rattle.move_core.specs.Facts.{Facts, Original}
use Rattle.move_core.specs.Steps.{ChangesUnit, Gives, moved, shrunk, reset, Copies, Puts, Carries, StartsFill, EndsFill, IsStep}
use Rattle.step_laws.specs.Outcome.{AreProper, StaysProper}
use Rattle.step_laws.proofs.Changes.{NoneHas, apart_renamed, apart_without, apart_with, apart_still}
use Rattle.step_laws.proofs.Names.{AreApart}
use Rattle.step_laws.proofs.RowNames.{online_proper}
use Rattle.step_laws.proofs.Units.{replaced_proper, model_proper}

module _ {unit : ℕ} {before after : List UnitModel} {gone put : List DataSet} (proper : AreProper before) (change : ChangesUnit unit before after gone put) where
  stays : (AreApart change.old.sets → AreApart change.new.sets) → AreProper after
  stays apart = replaced_proper change.unit_is proper (λ was. record { order = change.order; apart = apart was.apart })

  stays_renamed : (set next : DataSet) → gone ≡ set ∷ [] → put ≡ next ∷ [] → set.name ≡ next.name → AreProper after
  stays_renamed set next gone_is put_is named = stays (apart_renamed change.changes set next gone_is put_is named)

  stays_without : (set : DataSet) → gone ≡ set ∷ [] → put ≡ [] → AreProper after
  stays_without set gone_is put_is = stays (apart_without change.changes set gone_is put_is)

  stays_with : (copy : DataSet) → gone ≡ [] → put ≡ copy ∷ [] → NoneHas copy change.old.sets → AreProper after
  stays_with copy gone_is put_is none = stays (apart_with change.changes copy gone_is put_is none)

  stays_still : gone ≡ [] → put ≡ [] → AreProper after
  stays_still gone_is put_is = stays (apart_still change.changes gone_is put_is)

-- ---- copies

pub copies_proper : (replaced : Bool) (original : Original) (unit : ℕ) (name : Dsn) (to : List Run) (before after : List UnitModel) → AreProper before
    → Copies replaced original unit name to before after → AreProper after
copies_proper replaced original unit name to before after proper copies = by replaced copies.gives
  where
    by : (takes : Bool) → Gives takes copies.change.old copies.copy copies.gone → AreProper after
    by false (gone_is, none) = stays_with proper copies.change copies.copy gone_is refl none
    by true (old, gone_is, named) = stays_renamed proper copies.change old copies.copy gone_is refl named

puts_proper : (facts : Facts) (replaced : Bool) (origin : Origin) (unit : ℕ) (name : Dsn) (to : List Run) (before after : List UnitModel) → AreProper before
    → Puts facts replaced origin unit name to before after → AreProper after
puts_proper facts replaced origin unit name to before after proper puts = copies_proper replaced puts.original unit name to before after proper puts.copies

carries_proper : (from : ℕ) (old : Dsn) (unit : ℕ) (name : Dsn) (to : List Run) (replaced : Bool) (before after : List UnitModel) → AreProper before
    → Carries from old unit name to replaced before after → AreProper after
carries_proper from old unit name to replaced before after proper carries =
    stays_without (copies_proper replaced carries.original unit name to before carries.between proper carries.copies) carries.takes carries.set refl refl

-- ---- a volume that is restored as a whole

not_online : (why : Why) (kept : List (List ℕ)) (volume : OnlineVolume) → offline why kept ≡ online volume → ⊥
not_online why kept volume same = cc

start_proper : (facts : Facts) (unit : ℕ) (input : DdName) (before after : List UnitModel) → AreProper before → StartsFill facts unit input before after → AreProper after
start_proper facts unit input before after proper starts = model_proper starts.unit_is proper (λ volume same. absurd (not_online whys.Filling [] volume same))

end_proper : (facts : Facts) (unit : ℕ) (input : DdName) (before after : List UnitModel) → AreProper before → EndsFill facts unit input before after → AreProper after
end_proper facts unit input before after proper ends = model_proper ends.unit_is proper (λ volume same. online_proper (subst Says same ends.says).1)
  where
    Says : UnitModel → Type 0
    Says model = IsUnit false false (λ track. track) (facts.shape.head unit) (facts.shape.blocks unit) (ends.slots ends.serial) model

-- ---- steps

pub step_proper : (facts : Facts) (step : Step) (before after : List UnitModel) → AreProper before → IsStep facts step before after → AreProper after
step_proper facts (Move unit name to) before after proper is = stays_renamed proper is.change is.set (moved is.set is.extents) refl refl refl
step_proper facts (Shrink unit name keep) before after proper is = stays_renamed proper is.change is.set (shrunk keep is.set) refl refl refl
step_proper facts (Add unit name to origin) before after proper is = puts_proper facts false origin unit name to before after proper is
step_proper facts (Replace unit name to origin) before after proper is = puts_proper facts true origin unit name to before after proper is
step_proper facts (Delete unit name) before after proper is = stays_without proper is.change is.set refl refl
step_proper facts (Carry from old unit name to replaced) before after proper is = carries_proper from old unit name to replaced before after proper is
step_proper facts (ResetFlag unit name) before after proper is = stays_renamed proper is.change is.set (reset is.set) refl refl refl
step_proper facts (Repair unit) before after proper is = stays_still proper is refl refl
step_proper facts (FillStart unit input) before after proper is = start_proper facts unit input before after proper is
step_proper facts (FillEnd unit input) before after proper is = end_proper facts unit input before after proper is

pub stays_proper : StaysProper
stays_proper facts before after [] proper reaches = subst AreProper (sym reaches) proper
stays_proper facts before after (step ∷ steps) proper (between, first, rest) = stays_proper facts between after steps (step_proper facts step before between proper first) rest
