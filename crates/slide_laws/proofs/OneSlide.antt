-- A slide of given tracks leaves one volume of a volume.
use Rattle.std.proofs.Common.{◌≡◌, ℕ, ◌≤◌, List, ◌∷◌, ◌++◌, length, false, if◌then◌else◌, refl, sym, ap, subst, ◌∙◌, arith}
use Rattle.std.specs.Prelude.{◌&&◌}
use Rattle.std.specs.List.{sum_by}
use Rattle.std.proofs.lemmas.Bool.{eq-eqb}
use Rattle.free_map.specs.declared.run.Run.{Run}
use Rattle.free_map.proofs.Apart.{same_list}
use Rattle.volume_model.specs.Changed.{HasRightFives}
use Rattle.volume_model.specs.Unit.{Extent, DataSet, OnlineVolume, IsFreeTrack, fives_for}
use Rattle.move_core.specs.Stands.{SlidingExtent, extent_from, moved_to, Slides}
use Rattle.slide_laws.proofs.Splits.{split_once, counts_there}
use Rattle.slide_laws.proofs.ExtentsOnce.{extent_counted, set_counted}

-- ---- the volume after a change

-- with these data sets, its free space stated by so many format 5s
abbrev changed : OnlineVolume → List DataSet → ℕ → OnlineVolume
changed before sets fives = record before { sets = sets; repair = false; fives = fives }

module _ (before : OnlineVolume) (sets : List DataSet) where
  free_same : (one other track : ℕ) → IsFreeTrack (changed before sets one) track → IsFreeTrack (changed before sets other) track
  free_same one other track free = record { usable = free.usable; not_0 = free.not_0; not_vtoc = free.not_vtoc; not_set = free.not_set }

  fives_same : (one other : ℕ) → HasRightFives (changed before sets one) → HasRightFives (changed before sets other) → one ≡ other
  fives_same one other p q =
      let runs : p.runs ≡ q.runs =
      same_list 0 0 p.runs q.runs p.runs_are.apart q.runs_are.apart
      (λ t. (λ here. (q.runs_are.exact t).0 (free_same one other t ((p.runs_are.exact t).1 here)), λ here. (p.runs_are.exact t).0 (free_same other one t ((q.runs_are.exact t).1 here)))) in
      p.fives_are ∙ ap (λ (list : List Run). fives_for (length list)) runs ∙ sym q.fives_are

  same_after : (a b : OnlineVolume) → a ≡ changed before sets a.fives → b ≡ changed before sets b.fives → HasRightFives a → HasRightFives b → a ≡ b
  same_after a b a_is b_is p q =
      a_is ∙ ap (changed before sets) (fives_same a.fives b.fives (subst HasRightFives a_is p) (subst HasRightFives b_is q)) ∙ sym b_is

-- ---- the extent that slides

module _ (room from to len : ℕ) (before a b : OnlineVolume) (once : sum_by (set_counted from len) before.sets ≤ 1) (one : Slides room from to len before a) (other : Slides room from to len before b) where
  extent_counts : (kind : ℕ) → extent_counted from len (extent_from from len kind) ≡ 1
  extent_counts kind = λ i. if eq-eqb from from refl i && eq-eqb len len refl i then 1 else 0

  set_counts : (extent : SlidingExtent) → extent.set.extents ≡ extent.front ++ (extent_from from len extent.kind ∷ extent.back) → 1 ≤ set_counted from len extent.set
  set_counts extent is =
      omega (
        arith,
        ap (sum_by (extent_counted from len)) is,
        counts_there (extent_counted from len) extent.front extent.back (extent_from from len extent.kind),
        extent_counts extent.kind,
      )

  first_sets : sum_by (set_counted from len) (one.changes.front ++ (one.extent.set ∷ one.changes.back)) ≤ 1
  first_sets = omega (arith, once, ap (sum_by (set_counted from len)) one.changes.sets_were)

  sets_split : (one.changes.front ≡ other.changes.front) × (one.extent.set ≡ other.extent.set) × (one.changes.back ≡ other.changes.back)
  sets_split =
      split_once (set_counted from len) one.changes.front one.changes.back one.extent.set other.changes.front other.changes.back other.extent.set
      (sym one.changes.sets_were ∙ other.changes.sets_were) first_sets (set_counts one.extent one.extents_are) (set_counts other.extent other.extents_are)

  extents_split : (one.extent.front ≡ other.extent.front) × (extent_from from len one.extent.kind ≡ extent_from from len other.extent.kind) × (one.extent.back ≡ other.extent.back)
  extents_split =
      split_once (extent_counted from len) one.extent.front one.extent.back (extent_from from len one.extent.kind) other.extent.front other.extent.back (extent_from from len other.extent.kind)
      (sym one.extents_are ∙ ap (λ (set : DataSet). set.extents) sets_split.1 ∙ other.extents_are)
      (omega (
        arith,
        first_sets,
        counts_there (set_counted from len) one.changes.front one.changes.back one.extent.set,
        ap (sum_by (extent_counted from len)) one.extents_are,
      ))
      (omega (arith, extent_counts one.extent.kind)) (omega (arith, extent_counts other.extent.kind))

  extent_same : one.extent ≡ other.extent
  extent_same =
      let kind : one.extent.kind ≡ other.extent.kind = ap (λ (extent : Extent). extent.kind) extents_split.1 in
      (λ i. record { set = sets_split.1 i; front = extents_split.0 i; kind = kind i; back = extents_split.2 i })

  pub slides_same : a ≡ b
  slides_same =
      let sets : other.changes.front ++ (moved_to other.extent to len ∷ other.changes.back) ≡ one.changes.front ++ (moved_to one.extent to len ∷ one.changes.back) =
      (λ i. sym sets_split.0 i ++ (moved_to (sym extent_same i) to len ∷ sym sets_split.2 i)) in
      let last : b ≡ changed before (one.changes.front ++ (moved_to one.extent to len ∷ one.changes.back)) b.fives =
      other.changes.after_is ∙ ap (λ (list : List DataSet). changed before list b.fives) sets in
      same_after before (one.changes.front ++ (moved_to one.extent to len ∷ one.changes.back)) a b one.changes.after_is last one.changes.fives other.changes.fives
