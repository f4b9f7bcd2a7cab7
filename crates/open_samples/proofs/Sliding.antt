-- A.B slides from 30 to 15: it isn't pinned, its texts are good, and the tracks between are free.
use Rattle.std.proofs.Common.{◌≡◌, ◌⊎◌, inl, inr, ℕ, zero, suc, ◌<◌, ◌≤◌, List, [], ◌∷◌, take, All, refl, arith}
use Rattle.std.specs.Prelude.{Some, slice_index}
use Rattle.std.proofs.lemmas.Bool.{cases_lt}
use Rattle.std.proofs.lemmas.List.{get_or-replicate}
use Rattle.std.proofs.lemmas.List.Elements.{All-nil, All-cons, All-contains, All-map}
use Rattle.dsn_filter.specs.declared.dsn.Dsn.{Dsn}
use Rattle.dsn_filter.specs.Dsn.{dsn_of, IsNameText}
use Rattle.dsn_filter.specs.Qualifier.{IsInner, IsQualifier}
use Rattle.free_map.specs.declared.run.Run.{Run}
use Rattle.free_map.specs.Runs.{InRuns}
use Rattle.vol_label.specs.CodePage.{ascii_of}
use Rattle.volume_model.specs.Changed.{HasRightFives, IsPut}
use Rattle.volume_model.specs.Pinned.{HasName, IsOfCylinders, HasOtherExtent, IsPinned}
use Rattle.volume_model.specs.Dscbs.{numbers_below}
use Rattle.volume_model.specs.Unit.{good, IsFreeTrack}
use Rattle.volume_model.proofs.Numbers.{numbers_all}
use Rattle.move_core.specs.Stands.{IsGood, SlidingExtent, extent_from, Slides}
use Rattle.open_samples.specs.Pool.{format_1, own_track, set_at}
use Rattle.open_samples.specs.Slide.{own_texts, volume_at}

-- ---- the name A.B, by which it isn't pinned

abbrev text : List ℕ
text = 65 ∷ 46 ∷ 66 ∷ []

name_text : IsNameText text
name_text = (
  (65 ∷ []) ∷ (66 ∷ []) ∷ [],
  record {
    each = All-cons IsQualifier (65 ∷ []) ((66 ∷ []) ∷ []) (inl (omega arith, omega arith), All-nil IsInner, omega arith)
        (All-cons IsQualifier (66 ∷ []) [] (inl (omega arith, omega arith), All-nil IsInner, omega arith) (All-nil IsQualifier));
    some = omega arith;
    short = omega arith;
    joins = refl;
  },
)

abbrev name : Dsn
name = dsn_of text

characters : (k : ℕ) → k < 3 → ascii_of (slice_index (take 44 format_1) k) ≡ Some (slice_index name.text k)
characters zero less = refl
characters (suc zero) less = refl
characters (suc (suc zero)) less = refl
characters (suc (suc (suc k))) less = absurd (omega (arith, less))

blanks : (k : ℕ) → 3 ≤ k → k < 44 → slice_index (take 44 format_1) k ≡ 0x40
blanks zero low high = absurd (omega (arith, low))
blanks (suc zero) low high = absurd (omega (arith, low))
blanks (suc (suc zero)) low high = absurd (omega (arith, low))
blanks (suc (suc (suc k))) low high = get_or-replicate 41 k 0x40 0 (omega (arith, high))

pub has_name : HasName (take 44 format_1)
has_name = (name, (text, name_text, refl), record { long = refl; characters = characters; blanks = blanks })

whole_cylinders : ¬ HasOtherExtent 15 (set_at 30 own_texts).extents
whole_cylinders other =
    let all : All (IsOfCylinders 15) (set_at 30 own_texts).extents =
    All-cons (IsOfCylinders 15) (extent_from 30 30 0x81) [] (refl, refl, refl) (All-nil (IsOfCylinders 15)) in
    other.not_cylinders (All-contains (IsOfCylinders 15) (set_at 30 own_texts).extents other.extent all other.is_there)

pub movable : ¬ IsPinned 15 (set_at 30 own_texts).name (set_at 30 own_texts).fields (set_at 30 own_texts).extents
movable (inl nameless) = nameless has_name
movable (inr (inl organized)) = organized (inl refl)
movable (inr (inr (inl other))) = whole_cylinders other
movable (inr (inr (inr (inl many)))) = omega (arith, many)
movable (inr (inr (inr (inr (inl (inl class)))))) = class refl
movable (inr (inr (inr (inr (inl (inr kind)))))) = kind refl
movable (inr (inr (inr (inr (inr goes))))) = omega (arith, goes)

-- ---- free tracks

pub free_below : (track : ℕ) → 15 ≤ track → track < 30 → IsFreeTrack (volume_at 30) track
free_below track low high = record {
  usable = omega (arith, high);
  not_0 = λ none. absurd (omega (arith, low, none));
  not_vtoc = λ held. absurd (omega (arith, low, held.1));
  not_set = λ held. by held;
}
  where
    by : InRuns (record { first = 30; len = 30 } ∷ []) track → ⊥
    by (inl held) = omega (arith, high, held.0)
    by (inr none) = none

abbrev pub runs_after : List Run
runs_after = record { first = 2; len = 13 } ∷ record { first = 45; len = 15 } ∷ []

after_to : (track : ℕ) → IsFreeTrack (volume_at 15) track → InRuns runs_after track
after_to track free = by (cases_lt track 1) (cases_lt track 2) (cases_lt track 15) (cases_lt track 45)
  where
    by : ((track < 1) ⊎ (1 ≤ track)) → ((track < 2) ⊎ (2 ≤ track)) → ((track < 15) ⊎ (15 ≤ track)) → ((track < 45) ⊎ (45 ≤ track)) → InRuns runs_after track
    by (inl none) b c d = absurd (free.not_0 (omega (arith, none)))
    by (inr some) (inl vtoc) c d = absurd (free.not_vtoc (omega (arith, some), omega (arith, vtoc)))
    by (inr some) (inr low) (inl high) d = inl (omega (arith, low), omega (arith, high))
    by (inr some) (inr low) (inr from) (inl behind) = absurd (free.not_set (inl (omega (arith, from), omega (arith, behind))))
    by (inr some) (inr low) (inr from) (inr end) = inr (inl (omega (arith, end), omega (arith, free.usable)))

after_from : (track : ℕ) → InRuns runs_after track → IsFreeTrack (volume_at 15) track
after_from track (inl held) = record {
  usable = omega (arith, held.1);
  not_0 = λ none. absurd (omega (arith, held.0, none));
  not_vtoc = λ vtoc. absurd (omega (arith, held.0, vtoc.1));
  not_set = λ set. by set;
}
  where
    by : InRuns (record { first = 15; len = 30 } ∷ []) track → ⊥
    by (inl own) = omega (arith, own.0, held.1)
    by (inr none) = none
after_from track (inr (inl held)) = record {
  usable = omega (arith, held.1);
  not_0 = λ none. absurd (omega (arith, held.0, none));
  not_vtoc = λ vtoc. absurd (omega (arith, held.0, vtoc.1));
  not_set = λ set. by set;
}
  where
    by : InRuns (record { first = 15; len = 30 } ∷ []) track → ⊥
    by (inl own) = omega (arith, own.1, held.0)
    by (inr none) = none
after_from track (inr (inr none)) = absurd none

-- the tracks 2 to 14 and 45 to 59 are free after it: two runs in one format 5
fives : HasRightFives (volume_at 15)
fives = record {
  runs = runs_after;
  runs_are = record { apart = (omega arith, omega arith, (omega arith, omega arith, tt)); exact = λ track. (after_to track, after_from track) };
  fives_are = refl;
}

abbrev sliding : SlidingExtent
sliding = record { set = set_at 30 own_texts; front = []; kind = 0x81; back = [] }

all_good : All IsGood own_texts
all_good = All-map IsGood (λ number. good (own_track number)) (numbers_below 30) (numbers_all (λ number. IsGood (good (own_track number))) 30 (λ number less. tt))

pub a_b_slides : Slides 3 30 15 30 (volume_at 30) (volume_at 15)
a_b_slides = record {
  down = omega arith;
  not_indexed = refl;
  few_tracks = omega arith;
  extent = sliding;
  movable = movable;
  extents_are = refl;
  texts = all_good;
  free = free_below;
  changes = record {
    front = [];
    back = [];
    sets_were = refl;
    are_put = All-cons IsPut (set_at 15 own_texts) [] (record { few = omega arith; threes_are = refl }) (All-nil IsPut);
    after_is = refl;
    fives = fives;
  };
  fits = omega arith;
}
