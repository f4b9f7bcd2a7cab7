-- Lists of which some places change.
use Rattle.std.proofs.Common.{◌≡◌, inl, inr, ℕ, suc, ◌+◌, ◌<◌, ◌≤◌, List, [], ◌∷◌, ◌++◌, length, take, Some, slice_get, slice_set, get_or, refl, sym, ap, subst, ◌∙◌, arith, length-take, take_all}
use Rattle.std.specs.List.{Contains}
use Rattle.std.proofs.lemmas.List.Elements.{Contains-push, Contains-push_cases, Contains-append_left}
use Rattle.std.proofs.lemmas.Option.{same_Some, slice_get-get_or, slice_get_within}
use Rattle.std.proofs.lemmas.List.{length-set, get_or-take, get_or_default}
use Rattle.std.proofs.Math.Seq.{take-suc}
use Rattle.dasd_pool.proofs.Slices.{get_set, get_set_other}
use Rattle.dump_fmt.specs.Outs.{EachAt, AreDistinct}

none_contained : {X : Type 0} (x : X) → ¬ Contains [] x
none_contained x has = omega (arith, has.1)

-- nothing is done at no place
pub each_at_none : {X : Type 0} (Done : X → X → Type 0) (old : List X) → EachAt Done [] old old
each_at_none Done old = record { same_length = refl; done = λ place a b has p q. absurd (none_contained place has); kept = λ place none. refl }

-- one place more
pub each_at_more : {X : Type 0} (Done : X → X → Type 0) (places : List ℕ) (place : ℕ) (old mid : List X) (a b : X) → EachAt Done places old mid → ¬ Contains places place
    → slice_get mid place ≡ Some a → Done a b → EachAt Done (places ++ place ∷ []) old (slice_set mid place b)
each_at_more {X} Done places place old mid a b e fresh there here = record {
  same_length = length-set mid place b ∙ e.same_length;
  done = λ p x y has was is. elim (Contains-push_cases places place p has) [
    | inl earlier ↦ e.done p x y earlier was (sym (get_set_other mid place p b (λ same. fresh (subst (Contains places) same earlier))) ∙ is)
    | inr same ↦
        let is_a : a ≡ x = same_Some a x (sym there ∙ e.kept place fresh ∙ ap (slice_get old) same ∙ was) in
        let is_b : b ≡ y = same_Some b y (sym (get_set mid place b a there) ∙ ap (slice_get (slice_set mid place b)) same ∙ is) in
        subst (λ (t : X). Done t y) is_a (subst (Done a) is_b here)
  ];
  kept = λ p none. get_set_other mid place p b (λ same. none (subst (Contains (places ++ place ∷ [])) (sym same) (Contains-push places place)))
      ∙ e.kept p (λ has. none (Contains-append_left places (place ∷ []) p has));
}

length_take_below : (places : List ℕ) (k j : ℕ) → j < length (take k places) → j < k
length_take_below places k j below = omega (arith, length-take k places, below)

-- a place doesn't stand among the earlier ones
pub not_earlier : (places : List ℕ) (k : ℕ) → k < length places → AreDistinct places → ¬ Contains (take k places) (get_or places k 0)
not_earlier places k within distinct has =
    let j = has.0 in
    let d = get_or places k 0 in
    let short : j < k = length_take_below places k j has.1 in
    distinct j k 0 short within (sym (get_or_default places j d 0 (omega (arith, short, within))) ∙ sym (get_or-take k places j d short) ∙ has.2)

one_more : (k : ℕ) → k + 1 ≡ suc k
one_more k = omega arith

-- a loop's turn
pub each_at_turn : {X : Type 0} (Done : X → X → Type 0) (places : List ℕ) (k : ℕ) (old mid : List X) (a b : X) → k < length places → AreDistinct places → EachAt Done (take k places) old mid
    → slice_get mid (get_or places k 0) ≡ Some a → Done a b → EachAt Done (take (k + 1) places) old (slice_set mid (get_or places k 0) b)
each_at_turn {X} Done places k old mid a b within distinct e there here =
    subst (λ (front : List ℕ). EachAt Done front old (slice_set mid (get_or places k 0) b)) (sym (ap (λ (n : ℕ). take n places) (one_more k) ∙ take-suc places k 0 within))
    (each_at_more Done (take k places) (get_or places k 0) old mid a b e (not_earlier places k within distinct) there here)

-- one thing after another
pub each_at_then : {X : Type 0} (First Then Both : X → X → Type 0) (places : List ℕ) (old mid new : List X) → EachAt First places old mid → EachAt Then places mid new
    → ((a m b : X) → First a m → Then m b → Both a b) → EachAt Both places old new
each_at_then {X} First Then Both places old mid new e f joins = record {
  same_length = f.same_length ∙ e.same_length;
  done = λ p a b has was is.
      let within : p < length mid = subst (λ (n : ℕ). p < n) (sym e.same_length) (slice_get_within old p a was) in
      let there = slice_get-get_or mid p a within in
      joins a (get_or mid p a) b (e.done p a (get_or mid p a) has was there) (f.done p (get_or mid p a) b has there is);
  kept = λ p none. f.kept p none ∙ e.kept p none;
}

-- and its end
pub each_at_whole : {X : Type 0} (Done : X → X → Type 0) (places : List ℕ) (k : ℕ) (old new : List X) → length places ≤ k → EachAt Done (take k places) old new → EachAt Done places old new
each_at_whole Done places k old new all e = subst (λ (front : List ℕ). EachAt Done front old new) (take_all k places all) e
