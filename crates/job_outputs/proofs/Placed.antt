-- The names of a statement beside the places of their outputs.
use Rattle.std.proofs.Common.{◌≡◌, ◌≢◌, inl, inr, ℕ, zero, suc, ◌+◌, ◌<◌, List, [], ◌∷◌, ◌++◌, length, map, get_or, take, drop, Option, Some, None, refl, sym, ap, ◌∙◌, arith}
use Rattle.std.specs.Prelude.{All, slice_get}
use Rattle.std.specs.Option.{option_map}
use Rattle.std.proofs.Math.Seq.{drop-cons}
use Rattle.std.proofs.lemmas.List.{length-map, take-append-drop}
use Rattle.std.proofs.lemmas.List.Elements.{All-more}
use Rattle.std.proofs.lemmas.Option.{none-some, same_Some, slice_get-map, slice_get-get_or, slice_get_within, get_or_from_slice_get}
use Rattle.dd_names.specs.declared.dd.DdName.{DdName}
use Rattle.dump_fmt.specs.Outs.{AreDistinct, OutSeen}
use Rattle.dump_fmt.specs.declared.outs.OutState.{OutState}
use Rattle.dump_fmt.specs.declared.outs.OutState.TheVariants as states
use Rattle.job_lines.specs.Order.{IsFirst}
use Rattle.job_outputs.specs.Outputs.{AreKnown, ArePlacesOf, IsMissing, IsPlaceOf, IsUsedBefore, StandsTwice, WasBegun}

-- ---- one name

-- a name with a place isn't missing
pub not_missing : {outs : List OutSeen} {name : DdName} {place : ℕ} → IsPlaceOf outs name place → ¬ IsMissing outs name
not_missing {outs} {name} {place} is gone =
    gone place is.out (slice_get_within outs place is.out is.there) (ap (λ (out : OutSeen). out.name) (get_or_from_slice_get outs place is.out is.out is.there) ∙ is.name_is)

-- a name has one place
pub one_place : {outs : List OutSeen} {name : DdName} {a b : ℕ} → IsPlaceOf outs name a → IsPlaceOf outs name b → a ≡ b
one_place {a} {b} x y =
    let not_less : ¬ (a < b) = λ less. y.first a x.out less x.there x.name_is in
    let not_more : ¬ (b < a) = λ less. x.first b y.out less y.there y.name_is in
    omega (arith, not_less, not_more)

-- and one output
pub one_out : {outs : List OutSeen} {name other : DdName} {a b : ℕ} (x : IsPlaceOf outs name a) (y : IsPlaceOf outs other b) → a ≡ b → x.out ≡ y.out
one_out {outs} {a} {b} x y same = same_Some x.out y.out (sym x.there ∙ ap (λ (k : ℕ). slice_get outs k) same ∙ y.there)

-- a name whose output is unused wasn't begun on
pub not_begun : {outs : List OutSeen} {name : DdName} {place : ℕ} (is : IsPlaceOf outs name place) → is.out.state ≡ states.Unused → ¬ WasBegun outs name
not_begun is unused (other, there, begun) = begun (ap (λ (out : OutSeen). out.state) (one_out there is (one_place there is)) ∙ unused)

-- and the other way round
pub is_unused : {outs : List OutSeen} {name : DdName} {place : ℕ} (is : IsPlaceOf outs name place) → ¬ WasBegun outs name → is.out.state ≡ states.Unused
is_unused {outs} {name} {place} is unbegun = by is.out.state (λ differs. unbegun (place, is, differs))
  where
    by : (state : OutState) → ¬ (state ≢ states.Unused) → state ≡ states.Unused
    by states.Unused not = refl
    by states.Whole not = absurd (not (λ same. cc))
    by states.Lost not = absurd (not (λ same. cc))
    by states.Cut not = absurd (not (λ same. cc))

module _ {X : Type 0} (seen : X → OutSeen) (outs : List X) where
  -- the place of a name is within the outputs
  pub within : {name : DdName} {place : ℕ} → IsPlaceOf (map seen outs) name place → place < length outs
  within {name} {place} is = omega (arith, slice_get_within (map seen outs) place is.out is.there, length-map outs seen)

  -- its output is the one that stands there
  out_at : {name : DdName} {place : ℕ} (is : IsPlaceOf (map seen outs) name place) (d : X) → is.out ≡ seen (get_or outs place d)
  out_at {name} {place} is d =
      same_Some is.out (seen (get_or outs place d))
      (sym is.there ∙ slice_get-map seen outs place ∙ ap (λ (o : Option X). option_map seen o) (slice_get-get_or outs place d (within is)))

  -- whether a name was begun on, by the output that stands there
  pub begun_at : {name : DdName} {place : ℕ} (is : IsPlaceOf (map seen outs) name place) (d : X) → (seen (get_or outs place d)).state ≢ states.Unused → WasBegun (map seen outs) name
  begun_at {name} {place} is d differs = (place, is, λ same. differs (ap (λ (out : OutSeen). out.state) (sym (out_at is d)) ∙ same))

  pub not_begun_at : {name : DdName} {place : ℕ} (is : IsPlaceOf (map seen outs) name place) (d : X) → (seen (get_or outs place d)).state ≡ states.Unused → ¬ WasBegun (map seen outs) name
  not_begun_at is d unused = not_begun is (ap (λ (out : OutSeen). out.state) (out_at is d) ∙ unused)

  -- its state is the one there
  pub state_at : {name : DdName} {place : ℕ} (is : IsPlaceOf (map seen outs) name place) → slice_get (map (λ x. (seen x).state) outs) place ≡ Some is.out.state
  state_at {name} {place} is = slice_get-map (λ x. (seen x).state) outs place ∙ by (slice_get outs place) (sym (slice_get-map seen outs place) ∙ is.there)
    where
      by : (found : Option X) → option_map seen found ≡ Some is.out → option_map (λ x. (seen x).state) found ≡ Some is.out.state
      by (Some x) e = ap (λ (out : OutSeen). Some out.state) (same_Some (seen x) is.out e)
      by None e = absurd (none-some is.out e)

-- ---- the names

-- what is read behind the last name
abbrev pub no_name : DdName
no_name = record { len = 0; text = [] }

-- one more name with its place
pub placed_more : (outs : List OutSeen) (names : List DdName) (places : List ℕ) (name : DdName) (place : ℕ)
    → ArePlacesOf outs names places → IsPlaceOf outs name place → ArePlacesOf outs (names ++ name ∷ []) (places ++ place ∷ [])
placed_more outs [] [] name place all is = (is, tt)
placed_more outs [] (p ∷ places) name place all is = absurd all
placed_more outs (n ∷ names) [] name place all is = absurd all
placed_more outs (n ∷ names) (p ∷ places) name place all is = (all.0, placed_more outs names places name place all.1 is)

-- there are as many places as names
pub as_many : (outs : List OutSeen) (names : List DdName) (places : List ℕ) → ArePlacesOf outs names places → length places ≡ length names
as_many outs [] [] all = refl
as_many outs [] (p ∷ places) all = absurd all
as_many outs (n ∷ names) [] all = absurd all
as_many outs (n ∷ names) (p ∷ places) all = ap suc (as_many outs names places all.1)

-- the place beside a name is its own
pub place_at : (outs : List OutSeen) (names : List DdName) (places : List ℕ) → ArePlacesOf outs names places
    → (k : ℕ) (d : DdName) (e : ℕ) → k < length names → IsPlaceOf outs (get_or names k d) (get_or places k e)
place_at outs [] places all k d e less = let no : ⊥ = omega (arith, less) in absurd no
place_at outs (n ∷ names) [] all k d e less = absurd all
place_at outs (n ∷ names) (p ∷ places) all zero d e less = all.0
place_at outs (n ∷ names) (p ∷ places) all (suc k) d e less = place_at outs names places all.1 k d e (omega (arith, less))

-- the same of a name and a place that stand beside each other
pub placed_here : (outs : List OutSeen) (names : List DdName) (places : List ℕ) → ArePlacesOf outs names places
    → (k : ℕ) (name : DdName) (place : ℕ) → k < length names → ((d : DdName) → name ≡ get_or names k d) → ((d : ℕ) → place ≡ get_or places k d) → IsPlaceOf outs name place
placed_here outs names places all k name place less named at = rw (named no_name, at 0) (place_at outs names places all k no_name 0 less)

-- names with places are known
pub are_known : (outs : List OutSeen) (names : List DdName) (places : List ℕ) → ArePlacesOf outs names places → AreKnown outs names
are_known outs names places all k d less = not_missing (place_at outs names places all k d 0 less)

-- an element of which something holds, and of none before it, is the first
pub first_at : {X : Type 0} (Holds : X → Type 0) (list : List X) (k : ℕ) (d x : X)
    → k < length list → x ≡ get_or list k d → Holds x → All (λ other. ¬ Holds other) (take k list) → IsFirst Holds list x
first_at Holds list k d x less at holds none = record {
  front = take k list;
  back = drop (suc k) list;
  list_is = sym (take-append-drop k list) ∙ ap (λ rest. take k list ++ rest) (drop-cons list k d less ∙ ap (λ first. first ∷ drop (suc k) list) (sym at));
  holds = holds;
  none = none;
}

-- one more name that wasn't used before
pub unused_more : (outs : List OutSeen) (names : List DdName) (k : ℕ) (name : DdName)
    → k < length names → name ≡ get_or names k no_name → ¬ WasBegun outs name → ¬ StandsTwice names name
    → All (λ one. ¬ IsUsedBefore outs names one) (take k names) → All (λ one. ¬ IsUsedBefore outs names one) (take (k + 1) names)
unused_more outs names k name less at unbegun once front =
    All-more (λ one. ¬ IsUsedBefore outs names one) names k no_name less front (rw (sym at) (λ used. elim used [ inl begun ↦ unbegun begun | inr twice ↦ once twice ]))

module _ (outs : List OutSeen) (names : List DdName) (places : List ℕ) (placed : ArePlacesOf outs names places) (unused : All (λ name. ¬ IsUsedBefore outs names name) names) where
  -- names that stand once have distinct places
  pub are_distinct : AreDistinct places
  are_distinct i j d before less same =
      let many = as_many outs names places placed in
      let a = place_at outs names places placed i no_name d (omega (arith, before, less, many)) in
      let b = place_at outs names places placed j no_name d (omega (arith, less, many)) in
      let named : get_or names i no_name ≡ get_or names j no_name = sym a.name_is ∙ ap (λ (out : OutSeen). out.name) (one_out a b same) ∙ b.name_is in
      unused j no_name (omega (arith, less, many))
      (inr (i, j, before, slice_get-get_or names i no_name (omega (arith, before, less, many)) ∙ ap Some named, slice_get-get_or names j no_name (omega (arith, less, many))))

module _ {X : Type 0} (seen : X → OutSeen) (outs : List X) (names : List DdName) (places : List ℕ) (placed : ArePlacesOf (map seen outs) names places) where
  -- the places of names are within the outputs
  pub are_within : All (λ place. place < length outs) places
  are_within k d less = within seen outs (place_at (map seen outs) names places placed k no_name d (omega (arith, less, as_many (map seen outs) names places placed)))

  -- and the outputs there are unused, where no name was used before
  pub are_unused : All (λ name. ¬ IsUsedBefore (map seen outs) names name) names → All (λ place. slice_get (map (λ x. (seen x).state) outs) place ≡ Some states.Unused) places
  are_unused unused k d less =
      let before : k < length names = omega (arith, less, as_many (map seen outs) names places placed) in
      let is = place_at (map seen outs) names places placed k no_name d before in
      state_at seen outs is ∙ ap Some (is_unused is (λ begun. unused k no_name before (inl begun)))
