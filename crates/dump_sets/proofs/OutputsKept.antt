-- Outputs of which something was done to some: what contracts see of them, and that the others are kept.
use Rattle.std.proofs.Common.{◌≡◌, ◌≢◌, ◌⊎◌, inl, inr, ℕ, suc, List, [], ◌∷◌, length, get_or, map, All, Contains, Option, Some, None, refl, sym, ap, subst, ◌∙◌, arith}
use Rattle.std.specs.Prelude.{slice_get}
use Rattle.std.specs.Option.{option_map}
use Rattle.std.proofs.lemmas.Bool.{cases_eq}
use Rattle.std.proofs.lemmas.List.{length-map}
use Rattle.std.proofs.lemmas.List.Elements.{All-contains, Contains-append_cases, Contains-append_right}
use Rattle.std.proofs.lemmas.Option.{none-some, same_Some, slice_get-get_or, slice_get-map, slice_get_within}
use Rattle.dump_fmt.specs.declared.outs.OutState.{OutState}
use Rattle.dump_fmt.specs.declared.outs.OutState.TheVariants as states
use Rattle.dump_fmt.specs.Outs.{OutSeen, AreFinished, EachAt, HasTaken}
use Rattle.job_outputs.specs.Kept.{IsKeptBut, KeepsUsed}
use Rattle.dump_sets.proofs.Changes.{only_one}

-- ---- whether a place is among others

pub has_place : (places : List ℕ) (place : ℕ) → Contains places place ⊎ (¬ Contains places place)
has_place [] place = inr (λ there. absurd (omega (arith, there.1)))
has_place (first ∷ places) place = elim (cases_eq first place) [
  | inl same ↦ inl (0, omega arith, same)
  | inr differ ↦ elim (has_place places place) [
    | inl there ↦ inl (Contains-append_right (first ∷ []) places place there)
    | inr none ↦ inr (λ there. elim (Contains-append_cases (first ∷ []) places place there) [
      | inl here ↦ differ (only_one first place here)
      | inr later ↦ none later
    ])
  ]
]

-- an output that took something isn't unused
pub taken_used : (state : OutState) → state ≢ states.Unused → {text : List ℕ} {old new : OutSeen} → HasTaken state text old new → new.state ≢ states.Unused
taken_used state not taken same = elim taken.taken [
  | inl all ↦ not (sym all.state_is ∙ same)
  | inr front ↦ lost (sym front.state_is ∙ same)
]
  where
    lost : states.Lost ≢ states.Unused
    lost is = cc

module _ {X : Type 0} (seen : X → OutSeen) where
  -- ---- what is seen

  pub seen_at : (list : List X) (place : ℕ) (out : OutSeen) → slice_get (map seen list) place ≡ Some out → (x : X) × (slice_get list place ≡ Some x) × (seen x ≡ out)
  seen_at list place out at = by (slice_get list place) refl
    where
      by : (found : Option X) → slice_get list place ≡ found → (x : X) × (slice_get list place ≡ Some x) × (seen x ≡ out)
      by (Some x) is = (x, is, same_Some (seen x) out (ap (option_map seen) (sym is) ∙ sym (slice_get-map seen list place) ∙ at))
      by None is = absurd (none-some out (ap (option_map seen) (sym is) ∙ sym (slice_get-map seen list place) ∙ at))

  pub each_seen : (Done : OutSeen → OutSeen → Type 0) (places : List ℕ) (before after : List X) → EachAt (λ a b. Done (seen a) (seen b)) places before after
      → EachAt Done places (map seen before) (map seen after)
  each_seen Done places before after each = record {
    same_length = length-map after seen ∙ each.same_length ∙ sym (length-map before seen);
    done = λ place a b there at now.
        let one = seen_at before place a at in
        let other = seen_at after place b now in
        subst (λ (out : OutSeen). Done out b) one.2 (subst (Done (seen one.0)) other.2 (each.done place one.0 other.0 there one.1 other.1));
    kept = λ place not. slice_get-map seen after place ∙ ap (option_map seen) (each.kept place not) ∙ sym (slice_get-map seen before place);
  }

  pub finished_seen : (places : List ℕ) (outs : List X) → AreFinished seen places outs → AreFinished (λ out. out) places (map seen outs)
  finished_seen places outs are place out there at whole =
      let found = seen_at outs place out at in
      ap (λ (o : OutSeen). o.finished) (sym found.2) ∙ are place found.0 there found.1 (ap (λ (o : OutSeen). o.state) found.2 ∙ whole)

  -- ---- the others are kept

  names_kept : (before after : List X) → length after ≡ length before
      → ((place : ℕ) (a b : X) → slice_get before place ≡ Some a → slice_get after place ≡ Some b → (seen b).name ≡ (seen a).name)
      → map (λ out. (seen out).name) after ≡ map (λ out. (seen out).name) before
  names_kept [] [] long same = refl
  names_kept [] (b ∷ after) long same = absurd (omega (arith, long))
  names_kept (a ∷ before) [] long same = absurd (omega (arith, long))
  names_kept (a ∷ before) (b ∷ after) long same =
      let rest = names_kept before after (omega (arith, long)) (λ place x y at now. same (suc place) x y at now) in
      λ i. same 0 a b refl refl i ∷ rest i

  pub kept_but : (Done : X → X → Type 0) (places : List ℕ) (before after : List X) → ((a b : X) → Done a b → (seen b).name ≡ (seen a).name) → ((a b : X) → Done a b → (seen b).state ≢ states.Unused)
      → EachAt Done places before after → IsKeptBut seen places before after
  kept_but Done places before after named used each = record {
    names_are = names_kept before after each.same_length (λ place a b at now. elim (has_place places place) [
      | inl there ↦ named a b (each.done place a b there at now)
      | inr not ↦ ap (λ (x : X). (seen x).name) (same_Some b a (sym now ∙ each.kept place not ∙ at))
    ]);
    kept = each.kept;
    touched = λ place out there at.
        let less = slice_get_within after place out at in
        inl (used (get_or before place out) out (each.done place (get_or before place out) out there (slice_get-get_or before place out (omega (arith, less, each.same_length))) at));
  }

  pub kept_all : (places : List ℕ) (before after : List X) → after ≡ before → IsKeptBut seen places before after
  kept_all places before after same = record { names_are = ap (map (λ out. (seen out).name)) same; kept = λ place not. ap (λ (list : List X). slice_get list place) same; touched = λ place out there at. inr (sym (ap (λ (list : List X). slice_get list place) same) ∙ at) }

  -- ---- what was used before, and what is unused still

  -- outputs that were unused are the only ones of which something was done, and none of them is unused then
  pub keeps_used : (places : List ℕ) (before after : List X) → IsKeptBut seen places before after
      → All (λ place. slice_get (map (λ out. (seen out).state) before) place ≡ Some states.Unused) places
      → KeepsUsed seen before after
  keeps_used places before after kept unused = record {
    names_are = kept.names_are;
    used = λ place out at used. elim (has_place places place) [
      | inl there ↦
          absurd (used (same_Some ((seen out).state) states.Unused
          (ap (option_map (λ (x : X). (seen x).state)) (sym at) ∙ sym (slice_get-map (λ (x : X). (seen x).state) before place)
          ∙ All-contains (λ place. slice_get (map (λ out. (seen out).state) before) place ≡ Some states.Unused) places place unused there)))
      | inr not ↦ kept.kept place not ∙ at
    ];
    unused = λ place out at still. elim (has_place places place) [
      | inl there ↦ elim (kept.touched place out there at) [
        | inl used ↦ absurd (used still)
        | inr same ↦ same
      ]
      | inr not ↦ sym (kept.kept place not) ∙ at
    ];
  }

  pub keeps_all : (before after : List X) → after ≡ before → KeepsUsed seen before after
  keeps_all before after same = record {
    names_are = ap (map (λ out. (seen out).name)) same;
    used = λ place out at used. ap (λ (list : List X). slice_get list place) same ∙ at;
    unused = λ place out at still. sym (ap (λ (list : List X). slice_get list place) same) ∙ at;
  }
