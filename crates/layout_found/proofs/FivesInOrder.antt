-- The format 5s in order, by the first of their chain and those that pointers lead to from it on.
use Rattle.std.proofs.Common.{◌≡◌, ℕ, ◌≤◌, List, [], ◌∷◌, length, filter, Bool, true, Option, Some, None, sym, ap, subst, ◌∙◌, arith}
use Rattle.std.specs.Prelude.{if◌then◌else◌}
use Rattle.volume_model.specs.declared.place.Placed.{Placed}
use Rattle.volume_model.specs.declared.place.Vtoc.{Vtoc}
use Rattle.volume_model.specs.Check.{records_of, fives_of, named_by, first_of, first_five, chain_from, points, breaches_of}
use Rattle.vtoc_check.specs.Places.{AreShort}
use Rattle.vtoc_check.specs.FiveRule.{is_five}
use Rattle.vtoc_check.specs.Pointers.{named}
use Rattle.volume_model.specs.FiveChain.{walk_of}
use Rattle.vtoc_layout.specs.Layout.{IsLinked, AreLinkedFives, fives_in_order}
use Rattle.vtoc_layout.proofs.FiveChains.{walk_is_chain}
use Rattle.vtoc_layout.proofs.Distinct.{no_more}
use Rattle.layout_found.specs.Fives.{AreItsFives}
use Rattle.layout_found.proofs.ChainedFives.{AreAllFives, all_fives, linked_fives}

chained : (vtoc : Vtoc) → vtoc.valid ≡ true → fives_in_order vtoc ≡ (walk_of vtoc).0
chained vtoc valid = ap (λ (t : Bool). if t then (walk_of vtoc).0 else fives_of vtoc) valid

begins : (vtoc : Vtoc) → vtoc.valid ≡ true → first_of (fives_in_order vtoc) ≡ first_five (named_by vtoc) (fives_of vtoc)
begins vtoc valid = ap first_of (chained vtoc valid) ∙ (walk_is_chain vtoc).begins

fives_from : (vtoc : Vtoc) (first : Placed) (found : List Placed) → AreShort vtoc.tracks → breaches_of vtoc ≡ [] → vtoc.valid ≡ true → first_five (named_by vtoc) (fives_of vtoc) ≡ Some first
    → ((linked : List Placed) → IsLinked vtoc.heads (records_of vtoc) first.bytes linked → length linked ≤ length (records_of vtoc) → found ≡ first ∷ linked) → found ≡ fives_in_order vtoc
fives_from vtoc first found short sound valid is h = by (fives_in_order vtoc) (begins vtoc valid ∙ is) (linked_fives vtoc sound valid) few
  where
    all : AreAllFives vtoc (fives_in_order vtoc)
    all = all_fives vtoc short sound

    few : length (fives_in_order vtoc) ≤ length (records_of vtoc)
    few = no_more (fives_in_order vtoc) (records_of vtoc) all.once (λ five c. (all.each five c).0)

    by : (fives : List Placed) → first_of fives ≡ Some first → AreLinkedFives vtoc.heads (records_of vtoc) fives → length fives ≤ length (records_of vtoc) → found ≡ fives
    by [] e l n = absurd (let nothing : Option Placed = None in let q : nothing ≡ Some first = e in let r : ⊥ = cc in r)
    by (five ∷ fives) e l n =
        let both : Some five ≡ Some first = e in
        let same : five ≡ first = cc in
        let P : Placed → Type 0 = λ p. IsLinked vtoc.heads (records_of vtoc) p.bytes fives in
        h fives (subst P same l) (omega (arith, n)) ∙ ap (λ (p : Placed). p ∷ fives) (sym same)

-- ---- the same of equal records

first_same : (vtoc : Vtoc) (heads : ℕ) (records : List Placed) → heads ≡ vtoc.heads → records ≡ records_of vtoc → first_five (named heads records) (filter is_five records) ≡ first_five (named_by vtoc) (fives_of vtoc)
first_same vtoc heads records same is = (λ i. first_five (named (same i) (is i)) (filter is_five (is i)))

-- the format 5s, as they are found from the first on
abbrev AreFound : ℕ → List Placed → Placed → List Placed → Type 0
AreFound heads records first found = (linked : List Placed) → IsLinked heads records first.bytes linked → length linked ≤ length records → found ≡ first ∷ linked

pub fives_found : (vtoc : Vtoc) (heads : ℕ) (records : List Placed) (first : Placed) (found : List Placed) → heads ≡ vtoc.heads → records ≡ records_of vtoc → AreShort vtoc.tracks → breaches_of vtoc ≡ [] → vtoc.valid ≡ true
    → first_five (named heads records) (filter is_five records) ≡ Some first → AreFound heads records first found → found ≡ fives_in_order vtoc
fives_found vtoc heads records first found same is short sound valid begin h =
    fives_from vtoc first found short sound valid (sym (first_same vtoc heads records same is) ∙ begin)
    (subst (λ (n : ℕ). AreFound n (records_of vtoc) first found) same (subst (λ (list : List Placed). AreFound heads list first found) is h))

-- ---- the same of each VTOC with these records

abbrev fives_by : ℕ → List Placed → Bool → List Placed
fives_by heads records valid =
    let fives = filter is_five records in if valid then (chain_from points (named heads records) (length fives) (first_five (named heads records) fives)).0 else fives

same_fives : (a b : Vtoc) → a.heads ≡ b.heads → records_of a ≡ records_of b → a.valid ≡ b.valid → fives_in_order a ≡ fives_in_order b
same_fives a b heads records valid = (λ i. fives_by (heads i) (records i) (valid i))

pub fives_of_each : (one : Vtoc) (heads : ℕ) (records found : List Placed) (valid : Bool) → heads ≡ one.heads → records ≡ records_of one → valid ≡ one.valid → found ≡ fives_in_order one
    → AreItsFives heads records valid found
fives_of_each one heads records found valid heads_are records_are valid_is found_are =
    λ vtoc h r v. found_are ∙ same_fives one vtoc (sym heads_are ∙ h) (sym records_are ∙ r) (sym valid_is ∙ v)
