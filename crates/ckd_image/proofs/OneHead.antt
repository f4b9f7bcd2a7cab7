-- An image has one head at most, and none where a rule is broken. Of the rules the first that is broken is one.
use Rattle.std.proofs.Common.{◌≡◌, inl, inr, ℕ, ◌<◌, List, sym, subst, ◌∙◌, arith}
use Rattle.std.proofs.lemmas.Bool.{cases_lt}
use Rattle.ckd_image.specs.declared.device.Device.{Device}
use Rattle.ckd_image.specs.declared.fault.CkdFault.{CkdFault}
use Rattle.ckd_image.specs.declared.fault.CkdFault.TheVariants as faults
use Rattle.ckd_image.specs.declared.head.HeadRule.{HeadRule}
use Rattle.ckd_image.specs.declared.head.HeadRule.TheVariants as rules
use Rattle.ckd_image.specs.Head.{NamesDevice, IsHead, IsHeadFault, HasHeads, HasSlot, IsCylinders, IsFirstBroken, number_of}
use Rattle.ckd_image.proofs.Devices.{one_device}

pub no_head : (head : List ℕ) (blocks : ℕ) (fault : CkdFault) → IsHeadFault head blocks fault → (device : Device) → ¬ IsHead head blocks device
no_head head blocks (faults.BadHead why) (rules.Magic, number, broken) device is = broken.2 is.magic
no_head head blocks (faults.BadHead why) (rules.Device, number, broken) device is = broken.1 device is.named
no_head head blocks (faults.BadHead why) (rules.Heads, number, broken) device is =
    broken.2 (subst (λ (d : Device). HasHeads d head) (one_device head device broken.0 is.named broken.1.1) is.heads)
no_head head blocks (faults.BadHead why) (rules.Slot, number, broken) device is =
    broken.2 (subst (λ (d : Device). HasSlot d head) (one_device head device broken.0 is.named broken.1.1) is.slot)
no_head head blocks (faults.BadHead why) (rules.Split, number, broken) device is = broken.2 is.unsplit
no_head head blocks (faults.BadHead why) (rules.Blocks, number, broken) device is =
    broken.2 (subst (λ (d : Device). IsCylinders d blocks) (one_device head device broken.0 is.named broken.1.1) is.cylinders)
no_head head blocks (faults.BadTrack offset why) fault device is = absurd fault
no_head head blocks (faults.TrackFull need have) fault device is = absurd fault
no_head head blocks faults.NoMemory fault device is = absurd fault

-- rules by their numbers, of which no two are broken first
pub one_number : {R : Type 0} (number : R → ℕ) (IsBroken : R → Type 0) → ((a b : R) → number a < number b → IsBroken a → IsBroken b → ⊥)
    → (a b : R) → IsBroken a → IsBroken b → number a ≡ number b
one_number number IsBroken apart a b one other = elim (cases_lt (number a) (number b)) [
  | inl less ↦ absurd (apart a b less one other)
  | inr not_less ↦ elim (cases_lt (number b) (number a)) [
    | inl more ↦ absurd (apart b a more other one)
    | inr not_more ↦ omega (arith, not_less, not_more)
  ]
]

module _ (head : List ℕ) (blocks : ℕ) where
  at_device : (P : Device → List ℕ → Type 0) (from to : Device) → NamesDevice from head → NamesDevice to head → P from head → P to head
  at_device P from to one other holds = subst (λ (d : Device). P d head) (one_device head from to one other) holds

  heads_apart : (a b : HeadRule) → number_of a < number_of b → IsFirstBroken head blocks a → IsFirstBroken head blocks b → ⊥
  heads_apart rules.Magic rules.Magic less one other = absurd (omega (arith, less))
  heads_apart rules.Device rules.Magic less one other = absurd (omega (arith, less))
  heads_apart rules.Heads rules.Magic less one other = absurd (omega (arith, less))
  heads_apart rules.Slot rules.Magic less one other = absurd (omega (arith, less))
  heads_apart rules.Split rules.Magic less one other = absurd (omega (arith, less))
  heads_apart rules.Blocks rules.Magic less one other = absurd (omega (arith, less))
  heads_apart rules.Magic rules.Device less one other = one.2 other.0
  heads_apart rules.Device rules.Device less one other = absurd (omega (arith, less))
  heads_apart rules.Heads rules.Device less one other = absurd (omega (arith, less))
  heads_apart rules.Slot rules.Device less one other = absurd (omega (arith, less))
  heads_apart rules.Split rules.Device less one other = absurd (omega (arith, less))
  heads_apart rules.Blocks rules.Device less one other = absurd (omega (arith, less))
  heads_apart rules.Magic rules.Heads less one other = one.2 other.1.0
  heads_apart rules.Device rules.Heads less one other = one.1 other.0 other.1.1
  heads_apart rules.Heads rules.Heads less one other = absurd (omega (arith, less))
  heads_apart rules.Slot rules.Heads less one other = absurd (omega (arith, less))
  heads_apart rules.Split rules.Heads less one other = absurd (omega (arith, less))
  heads_apart rules.Blocks rules.Heads less one other = absurd (omega (arith, less))
  heads_apart rules.Magic rules.Slot less one other = one.2 other.1.0
  heads_apart rules.Device rules.Slot less one other = one.1 other.0 other.1.1
  heads_apart rules.Heads rules.Slot less one other = one.2 (at_device HasHeads other.0 one.0 other.1.1 one.1.1 other.1.2)
  heads_apart rules.Slot rules.Slot less one other = absurd (omega (arith, less))
  heads_apart rules.Split rules.Slot less one other = absurd (omega (arith, less))
  heads_apart rules.Blocks rules.Slot less one other = absurd (omega (arith, less))
  heads_apart rules.Magic rules.Split less one other = one.2 other.1.0
  heads_apart rules.Device rules.Split less one other = one.1 other.0 other.1.1
  heads_apart rules.Heads rules.Split less one other = one.2 (at_device HasHeads other.0 one.0 other.1.1 one.1.1 other.1.2)
  heads_apart rules.Slot rules.Split less one other = one.2 (at_device HasSlot other.0 one.0 other.1.1 one.1.1 other.1.3)
  heads_apart rules.Split rules.Split less one other = absurd (omega (arith, less))
  heads_apart rules.Blocks rules.Split less one other = absurd (omega (arith, less))
  heads_apart rules.Magic rules.Blocks less one other = one.2 other.1.0
  heads_apart rules.Device rules.Blocks less one other = one.1 other.0 other.1.1
  heads_apart rules.Heads rules.Blocks less one other = one.2 (at_device HasHeads other.0 one.0 other.1.1 one.1.1 other.1.2)
  heads_apart rules.Slot rules.Blocks less one other = one.2 (at_device HasSlot other.0 one.0 other.1.1 one.1.1 other.1.3)
  heads_apart rules.Split rules.Blocks less one other = one.2 other.1.4
  heads_apart rules.Blocks rules.Blocks less one other = absurd (omega (arith, less))

  pub one_head_fault : (a b : ℕ) → IsHeadFault head blocks (faults.BadHead a) → IsHeadFault head blocks (faults.BadHead b) → a ≡ b
  one_head_fault a b one other =
      one.1 ∙ one_number number_of (IsFirstBroken head blocks) heads_apart one.0 other.0 one.2 other.2 ∙ sym other.1
