-- The check of a VTOC fails in one way, and not where the VTOC breaks no rule.
use Rattle.std.proofs.Common.{◌≡◌, ◌⊎◌, inl, inr, ℕ, List, [], Bool, Contains, refl, sym, ap, subst, ◌∙◌, arith}
use Rattle.ckd_image.specs.declared.head.Head.{Head}
use Rattle.ckd_image.specs.declared.track.Cchhr.{Cchhr}
use Rattle.ckd_image.specs.Device.{heads_of}
use Rattle.volume_model.specs.declared.place.Breach.{Breach}
use Rattle.volume_model.specs.declared.place.Place.{Place}
use Rattle.volume_model.specs.declared.place.Vtoc.{Vtoc}
use Rattle.volume_model.specs.declared.rule.VtocRule.{VtocRule}
use Rattle.volume_model.specs.declared.rule.VtocRule.TheVariants as rules
use Rattle.volume_model.specs.Check.{breaches_of, IsNotAfter, IsLowestBreach}
use Rattle.volume_model.specs.Rules.{number_of}
use Rattle.volume_model.specs.Sound.{Slots, IsFormat4, HasGeometry, HasVtocExtent, IsFirstRuleBroken, IsVtoc, IsCheckFault}

-- the same place, and the same rule by its number
abbrev pub AreAlike : Breach → Breach → Type 0
AreAlike a b = (a.place.track ≡ b.place.track) × (a.place.record_number ≡ b.place.record_number) × (number_of a.rule ≡ number_of b.rule)

lowest_alike : (a b : Breach) → IsNotAfter a b → IsNotAfter b a → AreAlike a b
lowest_alike a b (inl p) (inl q) = absurd (omega (arith, p, q))
lowest_alike a b (inl p) (inr (inl q)) = absurd (omega (arith, p, q.0))
lowest_alike a b (inl p) (inr (inr q)) = absurd (omega (arith, p, q.0))
lowest_alike a b (inr (inl p)) (inl q) = absurd (omega (arith, p.0, q))
lowest_alike a b (inr (inl p)) (inr (inl q)) = absurd (omega (arith, p.1, q.1))
lowest_alike a b (inr (inl p)) (inr (inr q)) = absurd (omega (arith, p.1, q.1))
lowest_alike a b (inr (inr p)) (inl q) = absurd (omega (arith, p.0, q))
lowest_alike a b (inr (inr p)) (inr (inl q)) = absurd (omega (arith, p.1, q.1))
lowest_alike a b (inr (inr p)) (inr (inr q)) = (p.0, p.1, omega (arith, p.2, q.2))

lowest_of : (vtoc : Vtoc) (a b : Breach) → IsLowestBreach vtoc a → Contains (breaches_of vtoc) b → IsNotAfter a b
lowest_of vtoc a b lowest there = subst (IsNotAfter a) there.2 (lowest.lowest there.0 b there.1)

-- the slots say one format 4 and one VTOC
module _ (head : Head) (slots : Slots) (pointer : Cchhr) (sliding : Bool)
    (four_same : (a b : List ℕ) → IsFormat4 (heads_of head.device) slots pointer a → IsFormat4 (heads_of head.device) slots pointer b → a ≡ b)
    (vtoc_same : (a b : Vtoc) → IsVtoc head slots pointer sliding a → IsVtoc head slots pointer sliding b → a ≡ b) where
  -- where the rules of all stand, none of the first three fails
  none_first : (rule : VtocRule) (vtoc : Vtoc) → IsVtoc head slots pointer sliding vtoc → ¬ IsFirstRuleBroken head slots pointer rule
  none_first rules.NoFormat4 vtoc is broken = broken is.bytes is.format_4
  none_first rules.Geometry vtoc is broken = broken.2 (subst (HasGeometry (heads_of head.device)) (four_same is.bytes broken.0 is.format_4 broken.1) is.geometry)
  none_first rules.VtocExtent vtoc is broken = broken.3 (subst (HasVtocExtent head pointer) (four_same is.bytes broken.0 is.format_4 broken.1) is.extent)
  none_first rules.Track vtoc is broken = broken
  none_first rules.Dscb vtoc is broken = broken
  none_first rules.Name vtoc is broken = broken
  none_first rules.Pointer vtoc is broken = broken
  none_first rules.Range vtoc is broken = broken
  none_first rules.Overlap vtoc is broken = broken
  none_first rules.Free vtoc is broken = broken

  -- a VTOC that breaks no rule isn't refused
  pub none_told : (vtoc : Vtoc) → IsVtoc head slots pointer sliding vtoc → breaches_of vtoc ≡ [] → (told : Breach) → ¬ IsCheckFault head slots pointer sliding told
  none_told vtoc is sound told (inl first) = none_first told.rule vtoc is first.0
  none_told vtoc is sound told (inr other) =
      let same : vtoc ≡ other.0 = vtoc_same vtoc other.0 is other.1 in
      let none : Contains [] told = subst (λ (all : List Breach). Contains all told) (ap breaches_of (sym same) ∙ sound) other.2.is_there in
      absurd (omega (arith, none.1))

  -- which of the three fails
  abbrev FailsBy : ℕ → Type 0
  FailsBy number =
      ((number ≡ 1) × ((bytes : List ℕ) → ¬ IsFormat4 (heads_of head.device) slots pointer bytes))
      ⊎ ((number ≡ 2) × ((bytes : List ℕ) × IsFormat4 (heads_of head.device) slots pointer bytes × ¬ HasGeometry (heads_of head.device) bytes))
      ⊎ ((number ≡ 3) × ((bytes : List ℕ) × IsFormat4 (heads_of head.device) slots pointer bytes × HasGeometry (heads_of head.device) bytes × ¬ HasVtocExtent head pointer bytes))

  fails_by : (rule : VtocRule) → IsFirstRuleBroken head slots pointer rule → FailsBy (number_of rule)
  fails_by rules.NoFormat4 broken = inl (refl, broken)
  fails_by rules.Geometry broken = inr (inl (refl, broken))
  fails_by rules.VtocExtent broken = inr (inr (refl, broken))
  fails_by rules.Track broken = absurd broken
  fails_by rules.Dscb broken = absurd broken
  fails_by rules.Name broken = absurd broken
  fails_by rules.Pointer broken = absurd broken
  fails_by rules.Range broken = absurd broken
  fails_by rules.Overlap broken = absurd broken
  fails_by rules.Free broken = absurd broken

  one_failing : (a b : ℕ) → FailsBy a → FailsBy b → a ≡ b
  one_failing a b (inl p) (inl q) = p.0 ∙ sym q.0
  one_failing a b (inl p) (inr (inl q)) = absurd (p.1 q.1.0 q.1.1)
  one_failing a b (inl p) (inr (inr q)) = absurd (p.1 q.1.0 q.1.1)
  one_failing a b (inr (inl p)) (inl q) = absurd (q.1 p.1.0 p.1.1)
  one_failing a b (inr (inl p)) (inr (inl q)) = p.0 ∙ sym q.0
  one_failing a b (inr (inl p)) (inr (inr q)) = absurd (p.1.2 (subst (HasGeometry (heads_of head.device)) (four_same q.1.0 p.1.0 q.1.1 p.1.1) q.1.2))
  one_failing a b (inr (inr p)) (inl q) = absurd (q.1 p.1.0 p.1.1)
  one_failing a b (inr (inr p)) (inr (inl q)) = absurd (q.1.2 (subst (HasGeometry (heads_of head.device)) (four_same p.1.0 q.1.0 p.1.1 q.1.1) p.1.2))
  one_failing a b (inr (inr p)) (inr (inr q)) = p.0 ∙ sym q.0

  pub one_check : (a b : Breach) → IsCheckFault head slots pointer sliding a → IsCheckFault head slots pointer sliding b → AreAlike a b
  one_check a b (inl p) (inl q) =
      let place = p.1 ∙ sym q.1 in
      (ap (λ (at : Place). at.track) place, ap (λ (at : Place). at.record_number) place, one_failing (number_of a.rule) (number_of b.rule) (fails_by a.rule p.0) (fails_by b.rule q.0))
  one_check a b (inl p) (inr q) = absurd (none_first a.rule q.0 q.1 p.0)
  one_check a b (inr p) (inl q) = absurd (none_first b.rule p.0 p.1 q.0)
  one_check a b (inr p) (inr q) =
      let same : p.0 ≡ q.0 = vtoc_same p.0 q.0 p.1 q.1 in
      let other : IsLowestBreach p.0 b = subst (λ (v : Vtoc). IsLowestBreach v b) (sym same) q.2 in
      lowest_alike a b (lowest_of p.0 a b p.2 other.is_there) (lowest_of p.0 b a other p.2.is_there)
