-- Records of which some are edited, each at a place of its own.
use Rattle.std.proofs.Common.{◌≡◌, ◌⊎◌, ℕ, ◌+◌, List, [], ◌∷◌, length, map, Bool, true, false, cond, Contains, Option, Some, None, refl, sym, ap, subst, ◌∙◌, arith, inl, inr}
use Rattle.std.specs.Prelude.{nat_lt}
use Rattle.std.proofs.lemmas.List.Elements.{All-nil, All-cons, All-head, All-tail}
use Rattle.ckd_image.specs.declared.track.Cchhr.{Cchhr}
use Rattle.volume_model.specs.declared.place.Place.{Place}
use Rattle.volume_model.specs.declared.place.Placed.{Placed}
use Rattle.volume_model.specs.Dscbs.{pointer_in}
use Rattle.volume_model.specs.Directory.{same_place, record_at, named_place, named_record}
use Rattle.vtoc_check.specs.Places.{IsShort, AreShort}
use Rattle.vtoc_layout.specs.Layout.{AreDistinct, IsLinked}
use Rattle.volume_model.proofs.Numbers.{place_itself}
use Rattle.vtoc_layout.proofs.FiveChains.{one_place}
use Rattle.vtoc_layout.proofs.Distinct.{first_or_later, at_first, in_later, in_none}
use Rattle.vtoc_write.specs.Edited.{edit_of, placed_with, after_edits, dscbs_after, tracks_after}
use Rattle.layout_edit.specs.Change.{place_of}
use Rattle.ckd_image.proofs.Lists.{contains_map}

-- ---- places

places_same : (a b : Place) → a ≡ b → same_place a b ≡ true
places_same a b e = ap (same_place a) (sym e) ∙ place_itself a

other_places : (a b : Place) → ¬ (a ≡ b) → same_place a b ≡ false
other_places a b differ = by (same_place a b) refl
  where
    by : (t : Bool) → same_place a b ≡ t → t ≡ false
    by false e = refl
    by true e = absurd (differ (one_place a b e))

-- ---- the edit of a place

abbrev no_edit : Option Placed
no_edit = None

-- of edits at different places each is that of its place
pub edit_named : (edits : List Placed) (edit : Placed) (place : Place) → AreDistinct (map place_of edits) → Contains edits edit → edit.place ≡ place → edit_of edits place ≡ Some edit
edit_named [] edit place d c e = absurd (in_none edit c)
edit_named (first ∷ more) edit place d c e = by (λ there. edit_named more edit place d.1 there e) (first_or_later first edit more c)
  where
    by : (Contains more edit → edit_of more place ≡ Some edit) → ((first ≡ edit) ⊎ Contains more edit) → edit_of (first ∷ more) place ≡ Some edit
    by later (inl same) =
        ap (λ (b : Bool). cond b (Some first) (edit_of more place)) (places_same first.place place (ap place_of same ∙ e)) ∙ ap (λ (p : Placed). Some p) same
    by later (inr there) =
        let P : Place → Type 0 = λ p. Contains (map place_of more) p in
        let other : same_place first.place place ≡ false = other_places first.place place (λ same. d.0 (subst P (e ∙ sym same) (contains_map place_of more edit there))) in
        ap (λ (b : Bool). cond b (Some first) (edit_of more place)) other ∙ later there

-- a place that no edit names has none
pub edit_none : (edits : List Placed) (place : Place) → ((edit : Placed) → Contains edits edit → ¬ (edit.place ≡ place)) → edit_of edits place ≡ None
edit_none [] place h = refl
edit_none (first ∷ more) place h =
    ap (λ (b : Bool). cond b (Some first) (edit_of more place)) (other_places first.place place (h first (at_first first more)))
    ∙ edit_none more place (λ edit c. h edit (in_later first edit more c))

pub edit_found : (edits : List Placed) (place : Place) (edit : Placed) → edit_of edits place ≡ Some edit → Contains edits edit × (edit.place ≡ place)
edit_found [] place edit e = (let q : no_edit ≡ Some edit = e in cc)
edit_found (first ∷ more) place edit e = by (edit_found more place edit) (same_place first.place place) refl e
  where
    by : (edit_of more place ≡ Some edit → Contains more edit × (edit.place ≡ place)) → (t : Bool) → same_place first.place place ≡ t → cond t (Some first) (edit_of more place) ≡ Some edit
        → Contains (first ∷ more) edit × (edit.place ≡ place)
    by later true at q =
        let same : first ≡ edit = cc in
        ((0, omega arith, same), ap place_of (sym same) ∙ one_place first.place place at)
    by later false at q = let r = later q in (in_later first edit more r.0, r.1)

-- ---- the records afterwards

pub place_kept : (placed : Placed) (found : Option Placed) → (placed_with placed found).place ≡ placed.place
place_kept placed None = refl
place_kept placed (Some edit) = refl

-- a record that no edit names is found as before
pub found_after : (edits records : List Placed) (place : Place) (next : Placed) → record_at records place ≡ Some next → edit_of edits next.place ≡ None → record_at (after_edits edits records) place ≡ Some next
found_after edits [] place next e none = (let q : no_edit ≡ Some next = e in cc)
found_after edits (placed ∷ more) place next e none = by (λ q. found_after edits more place next q none) (same_place placed.place place) refl e
  where
    edited : Placed
    edited = placed_with placed (edit_of edits placed.place)

    stays : same_place edited.place place ≡ same_place placed.place place
    stays = ap (λ (p : Place). same_place p place) (place_kept placed (edit_of edits placed.place))

    by : (record_at more place ≡ Some next → record_at (after_edits edits more) place ≡ Some next) → (t : Bool) → same_place placed.place place ≡ t → cond t (Some placed) (record_at more place) ≡ Some next
        → record_at (after_edits edits (placed ∷ more)) place ≡ Some next
    by later true at q =
        let same : placed ≡ next = cc in
        ap (λ (b : Bool). cond b (Some edited) (record_at (after_edits edits more) place)) (stays ∙ at)
        ∙ ap (λ (found : Option Placed). Some (placed_with placed found)) (ap (λ (p : Placed). edit_of edits p.place) same ∙ none) ∙ q
    by later false at q = ap (λ (b : Bool). cond b (Some edited) (record_at (after_edits edits more) place)) (stays ∙ at) ∙ later q

pub named_after : (heads : ℕ) (edits records : List Placed) (pointer : Option Cchhr) (next : Placed) → named_record heads records pointer ≡ Some next → edit_of edits next.place ≡ None
    → named_record heads (after_edits edits records) pointer ≡ Some next
named_after heads edits records None next e none = (let q : no_edit ≡ Some next = e in cc)
named_after heads edits records (Some pointer) next e none = by (nat_lt pointer.at.head heads) e
  where
    by : (t : Bool) → cond t (record_at records (named_place heads pointer)) None ≡ Some next → cond t (record_at (after_edits edits records) (named_place heads pointer)) None ≡ Some next
    by true q = found_after edits records (named_place heads pointer) next q none
    by false q = (let r : no_edit ≡ Some next = q in cc)

-- pointers lead through records that no edit names as before
pub linked_after : (heads : ℕ) (edits records : List Placed) (bytes : List ℕ) (more : List Placed) → IsLinked heads records bytes more → ((placed : Placed) → Contains more placed → edit_of edits placed.place ≡ None)
    → IsLinked heads (after_edits edits records) bytes more
linked_after heads edits records bytes [] h none = h
linked_after heads edits records bytes (next ∷ more) h none =
    (named_after heads edits records (pointer_in bytes) next h.0 (none next (at_first next more)), linked_after heads edits records next.bytes more h.1 (λ placed c. none placed (in_later next placed more c)))

-- ---- the tracks afterwards

dscbs_long : (edits : List Placed) (track number : ℕ) (dscbs : List (List ℕ)) → length (dscbs_after edits track number dscbs) ≡ length dscbs
dscbs_long edits track number [] = refl
dscbs_long edits track number (bytes ∷ more) = omega (arith, dscbs_long edits track (number + 1) more)

pub tracks_long : (edits : List Placed) (track : ℕ) (tracks : List (Option (List (List ℕ)))) → length (tracks_after edits track tracks) ≡ length tracks
tracks_long edits track [] = refl
tracks_long edits track (None ∷ more) = omega (arith, tracks_long edits (track + 1) more)
tracks_long edits track (Some dscbs ∷ more) = omega (arith, tracks_long edits (track + 1) more)

pub tracks_short : (edits : List Placed) (track : ℕ) (tracks : List (Option (List (List ℕ)))) → AreShort tracks → AreShort (tracks_after edits track tracks)
tracks_short edits track [] h = All-nil IsShort
tracks_short edits track (None ∷ more) h = All-cons IsShort None (tracks_after edits (track + 1) more) tt (tracks_short edits (track + 1) more (All-tail IsShort None more h))
tracks_short edits track (Some dscbs ∷ more) h =
    All-cons IsShort (Some (dscbs_after edits track 1 dscbs)) (tracks_after edits (track + 1) more) (omega (arith, dscbs_long edits track 1 dscbs, All-head IsShort (Some dscbs) more h))
    (tracks_short edits (track + 1) more (All-tail IsShort (Some dscbs) more h))
