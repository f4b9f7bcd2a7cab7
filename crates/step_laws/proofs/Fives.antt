-- A change states the free space of a volume in one way, since the data sets alone say which tracks are free.
use Rattle.std.proofs.Common.{◌≡◌, ℕ, List, length, false, sym, ap, subst, ◌∙◌}
use Rattle.free_map.specs.declared.run.Run.{Run}
use Rattle.free_map.proofs.Apart.{same_list}
use Rattle.volume_model.specs.Changed.{HasRightFives}
use Rattle.volume_model.specs.Unit.{DataSet, OnlineVolume, IsFreeTrack, fives_for}

-- a volume with these data sets and so many format 5s
abbrev pub left_with : OnlineVolume → List DataSet → ℕ → OnlineVolume
left_with volume sets fives = record volume { sets = sets; repair = false; fives = fives }

module _ (volume : OnlineVolume) (sets : List DataSet) where
  as_free : (one other track : ℕ) → IsFreeTrack (left_with volume sets one) track → IsFreeTrack (left_with volume sets other) track
  as_free one other track free = record { usable = free.usable; not_0 = free.not_0; not_vtoc = free.not_vtoc; not_set = free.not_set }

  one_count : (one other : ℕ) → HasRightFives (left_with volume sets one) → HasRightFives (left_with volume sets other) → one ≡ other
  one_count one other first last =
      let runs : first.runs ≡ last.runs =
      same_list 0 0 first.runs last.runs first.runs_are.apart last.runs_are.apart
      (λ track. (
        λ there. (last.runs_are.exact track).0 (as_free one other track ((first.runs_are.exact track).1 there)),
        λ there. (first.runs_are.exact track).0 (as_free other one track ((last.runs_are.exact track).1 there)),
      )) in
      first.fives_are ∙ ap (λ (list : List Run). fives_for (length list)) runs ∙ sym last.fives_are

  pub one_volume : (a b : OnlineVolume) → a ≡ left_with volume sets a.fives → b ≡ left_with volume sets b.fives → HasRightFives a → HasRightFives b → a ≡ b
  one_volume a b a_is b_is first last =
      a_is ∙ ap (left_with volume sets) (one_count a.fives b.fives (subst HasRightFives a_is first) (subst HasRightFives b_is last)) ∙ sym b_is
