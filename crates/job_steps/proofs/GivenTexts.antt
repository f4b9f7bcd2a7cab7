-- The texts that stand on given tracks, one after the other.
use Rattle.std.proofs.Common.{◌≡◌, ◌≢◌, ◌⊎◌, inl, inr, ◌==◌, ◌&&◌, Bool, true, false, ℕ, zero, suc, ◌<◌, List, [], ◌∷◌, ◌++◌, length, take, get_or, Contains, Option, Some, None, refl, sym, ap, subst, ◌∙◌, arith}
use Rattle.std.proofs.lemmas.Bool.{ne_eqb}
use Rattle.std.proofs.lemmas.List.Elements.{Contains-get_or}
use Rattle.ckd_image.specs.Device.{heads_of}
use Rattle.ckd_image.specs.declared.track.Track.{Track}
use Rattle.dasd_pool.specs.Disk.{Image, is_at}
use Rattle.volume_model.specs.Reads.{AreTexts, IsTextAt}
use Rattle.volume_model.specs.Sound.{Slots}
use Rattle.volume_model.specs.Unit.{Text, good}
use Rattle.vtoc_layout.specs.Layout.{AreDistinct}
use Rattle.vtoc_layout.proofs.Distinct.{at_first, first_or_later, in_later, in_none}
use Rattle.unit_session.specs.unit_steps.unit_change.Described.{own_place}
use Rattle.unit_session.specs.declared.copies.GivenTracks.{GivenTracks}
use Rattle.unit_session.specs.Given.{IsGivenAt, IsTextGiven, OnGiven, count_given, is_given, track_at}
use Rattle.job_steps.specs.Giving.{HoldFirst}

-- ---- texts of tracks

module _ (heads : ℕ) where
  -- texts stay where their tracks do
  pub texts_stay : (old new : Slots) (tracks : List ℕ) (texts : List Text) → ((track : ℕ) → Contains tracks track → new track ≡ old track) → AreTexts heads own_place old tracks texts
      → AreTexts heads own_place new tracks texts
  texts_stay old new [] [] same are = tt
  texts_stay old new [] (text ∷ texts) same are = absurd are
  texts_stay old new (track ∷ tracks) [] same are = absurd are
  texts_stay old new (track ∷ tracks) (text ∷ texts) same are = (
    subst (λ (slot : List ℕ). IsTextAt heads track slot text) (sym (same track (at_first track tracks))) are.0,
    texts_stay old new tracks texts (λ other there. same other (in_later track other tracks there)) are.1,
  )

  -- one more text behind the first ones
  texts_more : (slots : Slots) (tracks : List ℕ) (texts : List Text) (text : Text) → length texts < length tracks → AreTexts heads own_place slots (take (length texts) tracks) texts
      → IsTextAt heads (get_or tracks (length texts) 0) (slots (get_or tracks (length texts) 0)) text
      → AreTexts heads own_place slots (take (length (texts ++ (text ∷ []))) tracks) (texts ++ (text ∷ []))
  texts_more slots [] texts text less are at = absurd (omega (arith, less))
  texts_more slots (track ∷ tracks) [] text less are at = (at, tt)
  texts_more slots (track ∷ tracks) (first ∷ texts) text less are at = (are.0, texts_more slots tracks texts text (omega (arith, less)) are.1 at)

-- the first of distinct tracks are others than the one behind them
apart_before : (tracks : List ℕ) (index : ℕ) → AreDistinct tracks → index < length tracks → (track : ℕ) → Contains (take index tracks) track → track ≢ get_or tracks index 0
apart_before [] index distinct less track there same = absurd (omega (arith, less))
apart_before (first ∷ tracks) zero distinct less track there same = absurd (in_none track there)
apart_before (first ∷ tracks) (suc index) distinct less track there same =
    by (omega (arith, less)) (λ within behind. apart_before tracks index distinct.1 within track behind same) (first_or_later first track (take index tracks) there)
  where
    by : (within : index < length tracks) → (index < length tracks → Contains (take index tracks) track → ⊥) → (first ≡ track) ⊎ Contains (take index tracks) track → ⊥
    by within later (inl is) = distinct.0 (subst (Contains tracks) (sym (is ∙ same)) (Contains-get_or tracks index 0 within))
    by within later (inr behind) = later within behind

-- ---- given tracks

-- another track of a unit than the one that is written
other_track : (unit track other : ℕ) → other ≢ track → is_at unit track unit other ≡ false
other_track unit track other apart = ap (λ (x : Bool). (unit == unit) && x) (ne_eqb other track apart) ∙ by (unit == unit)
  where
    by : (x : Bool) → (x && false) ≡ false
    by true = refl
    by false = refl

one_given : (given : GivenTracks) (old new : Image) (text : Track) (texts : List Text) → AreDistinct given.tracks.items → length texts < length given.tracks.items
    → ((u b : ℕ) → is_at given.unit (track_at given (length texts)) u b ≡ false → new u b ≡ old u b) → IsTextGiven given (length texts) text new → HoldFirst (Some given) old texts
    → HoldFirst (Some given) new (texts ++ (good text ∷ []))
one_given given old new text texts distinct less same stands hold =
    let heads = heads_of given.device in
    let tracks = given.tracks.items in
    let apart = apart_before tracks (length texts) distinct less in
    texts_more heads (new given.unit) tracks texts (good text) less
    (texts_stay heads (old given.unit) (new given.unit) (take (length texts) tracks) texts
    (λ track there. same given.unit track (other_track given.unit (track_at given (length texts)) track (apart track there))) hold) stands

-- one more text is given, behind those that were
pub given_more : (given : Option GivenTracks) (old new : Image) (index : ℕ) (text : Track) (texts : List Text) → OnGiven (λ some. AreDistinct some.tracks.items) given → length texts ≡ index
    → index < count_given given → ((u b : ℕ) → is_given given index u b ≡ false → new u b ≡ old u b) → IsGivenAt given index text new → HoldFirst given old texts
    → HoldFirst given new (texts ++ (good text ∷ []))
given_more None old new index text texts once count less same stands hold = absurd (omega (arith, less))
given_more (Some given) old new index text texts once count less same stands hold =
    one_given given old new text texts once (omega (arith, count, less))
    (λ u b other. same u b (subst (λ (n : ℕ). is_at given.unit (track_at given n) u b ≡ false) count other)) (subst (λ (n : ℕ). IsTextGiven given n text new) (sym count) stands) hold

-- given texts stay where nothing is written
pub given_stay : (given : Option GivenTracks) (old new : Image) (texts : List Text) → ((u b : ℕ) → new u b ≡ old u b) → HoldFirst given old texts → HoldFirst given new texts
given_stay None old new texts same hold = hold
given_stay (Some given) old new texts same hold =
    texts_stay (heads_of given.device) (old given.unit) (new given.unit) (take (length texts) given.tracks.items) texts (λ track there. same given.unit track) hold
