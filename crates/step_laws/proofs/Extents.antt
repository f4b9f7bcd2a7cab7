-- Where a data set moves to, its extents are one list.
use Rattle.std.proofs.Common.{◌≡◌, ◌⊎◌, inl, inr, ℕ, List, [], ◌∷◌, length, map, refl, sym, ap, ◌∙◌, arith}
use Rattle.std.proofs.lemmas.List.{length-map}
use Rattle.free_map.specs.declared.run.Run.{Run}
use Rattle.volume_model.specs.Unit.{Extent, run_in}
use Rattle.move_core.specs.Steps.{IsNewKind, extents_on, KeepsExtents, JoinsExtents}

abbrev kind_in : Extent → ℕ
kind_in extent = extent.kind

-- extents of the same runs and types
alike : (a b : List Extent) → map run_in a ≡ map run_in b → map kind_in a ≡ map kind_in b → a ≡ b
alike [] [] runs kinds = refl
alike [] (y ∷ b) runs kinds = absurd (omega (arith, ap length runs))
alike (x ∷ a) [] runs kinds = absurd (omega (arith, ap length runs))
alike (x ∷ a) (y ∷ b) runs kinds =
    let run : x.run ≡ y.run = cc in
    let kind : x.kind ≡ y.kind = cc in
    let more_runs : map run_in a ≡ map run_in b = cc in
    let more_kinds : map kind_in a ≡ map kind_in b = cc in
    let rest = alike a b more_runs more_kinds in
    (λ i. record { run = run i; kind = kind i } ∷ rest i)

-- the type of new extents is one
pub one_kind : (extents : List Extent) (a b : ℕ) → IsNewKind extents a → IsNewKind extents b → a ≡ b
one_kind extents a b (inl one) (inl other) = one.1 ∙ sym other.1
one_kind extents a b (inl one) (inr other) = absurd (other.0 one.0)
one_kind extents a b (inr one) (inl other) = absurd (one.0 other.0)
one_kind extents a b (inr one) (inr other) = one.1 ∙ sym other.1

module _ (old : List Extent) (to : List Run) where
  -- as many as they were, and one that wasn't, are two numbers
  not_both : (a b : List Extent) → KeepsExtents old to a → JoinsExtents old to b → ⊥
  not_both a b keeps joins =
      joins.several (omega (
        arith,
        ap length keeps.runs_are,
        ap length joins.one,
        ap length keeps.kinds_are,
        length-map a run_in,
        length-map a kind_in,
        length-map old kind_in,
      ))

  abbrev pub AreMoved : List Extent → Type 0
  AreMoved extents = KeepsExtents old to extents ⊎ JoinsExtents old to extents

  pub one_list : (a b : List Extent) → AreMoved a → AreMoved b → a ≡ b
  one_list a b (inl one) (inl other) = alike a b (one.runs_are ∙ sym other.runs_are) (one.kinds_are ∙ sym other.kinds_are)
  one_list a b (inl one) (inr other) = absurd (not_both a b one other)
  one_list a b (inr one) (inl other) = absurd (not_both b a other one)
  one_list a b (inr one) (inr other) =
      one.new_is ∙ ap (λ (kind : ℕ). extents_on kind to) (one_kind old one.kind other.kind one.kind_is other.kind_is) ∙ sym other.new_is
