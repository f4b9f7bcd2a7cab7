-- Texts that were given, and the part that they make.
use Rattle.std.proofs.Common.{◌≡◌, ℕ, ◌-◌, ◌<◌, ◌≤◌, List, [], ◌∷◌, ◌++◌, replicate, Option, None, Some, refl, sym, ap, subst, ◌∙◌, arith}
use Rattle.std.proofs.lemmas.List.{append_assoc, append-nil, length-append}
use Rattle.ckd_image.specs.Device.{slot_of}
use Rattle.ckd_image.specs.declared.device.Device.{Device}
use Rattle.ckd_image.specs.declared.device.Device.TheVariants.{D3350, D3380, D3390}
use Rattle.ckd_image.specs.declared.track.Track.{Track}
use Rattle.dasd_pool.specs.Disk.{Runs}
use Rattle.dasd_pool.specs.declared.pool.Pool.{Ghosts}
use Rattle.volume_model.specs.Unit.{Text, good}
use Rattle.vtoc_layout.specs.Layout.{AreDistinct}
use Rattle.unit_session.specs.declared.copies.GivenTracks.{GivenTracks}
use Rattle.unit_session.specs.Given.{FitsAt, IsGivenAt, OnGiven, count_given, is_given}
use Rattle.unit_session.specs.Planned.{PlannedView}
use Rattle.job_steps.specs.Giving.{GivingView, GivesMore, HoldFirst, HoldsSoFar, IsPlannedAs, next_place}
use Rattle.job_steps.proofs.GivenTexts.{given_more}

-- ---- an empty text

abbrev empty_track : Track
empty_track = record { flag = 0; r0 = replicate 8 0; recs = [] }

slot_room : (device : Device) → 29 ≤ slot_of device
slot_room D3390 = omega arith
slot_room D3380 = omega arith
slot_room D3350 = omega arith

-- it fits each slot
pub empty_fits : (given : Option GivenTracks) (place : ℕ) → FitsAt given place empty_track
empty_fits None place = tt
empty_fits (Some given) place = slot_room given.device

-- ---- plans

planned_then : {P : Type 0} {old mid new : PlannedView P} → IsPlannedAs old mid → IsPlannedAs mid new → IsPlannedAs old new
planned_then first next = record {
  plan = next.plan ∙ first.plan;
  given = next.given ∙ first.given;
  room = next.room ∙ first.room;
  names = next.names ∙ first.names;
  units = next.units ∙ first.units;
}

-- ---- texts

module _ {P : Type 0} (pools : Ghosts P) where
  -- none was given
  pub gives_none : (now : GivingView P) → GivesMore pools now now []
  gives_none now = record {
    planned = record { plan = refl; given = refl; room = refl; names = refl; units = refl };
    count = omega arith;
    hold = λ before was. subst (λ (l : List Text). HoldsSoFar pools now l) (sym (append-nil before)) was;
  }

  -- some were given, and then others
  pub gives_then : (old mid new : GivingView P) (texts more : List Text) → GivesMore pools old mid texts → GivesMore pools mid new more → GivesMore pools old new (texts ++ more)
  gives_then old mid new texts more first next = record {
    planned = planned_then first.planned next.planned;
    count = omega (arith, first.count, next.count, length-append texts more);
    hold = λ before was. subst (λ (l : List Text). HoldsSoFar pools new l) (append_assoc before texts more) (next.hold (before ++ texts) (first.hold before was));
  }

  module _ (old new : GivingView P) (place : ℕ) (text : Track) (place_is : place ≡ next_place old) (some : 0 < old.left) (within : old.left ≤ count_given old.planned.given)
      (left : new.left ≡ old.left - 1) (planned : IsPlannedAs old.planned new.planned) (once : OnGiven (λ given. AreDistinct given.tracks.items) old.planned.given)
      (ran : pools.tells → Runs (is_given old.planned.given place) (pools.disk old.planned.session.pool) (pools.disk new.planned.session.pool))
      (stands : pools.tells → IsGivenAt old.planned.given place text (pools.disk new.planned.session.pool).state.contents) where
    held : (before : List Text) → HoldsSoFar pools old before → HoldsSoFar pools new (before ++ (good text ∷ []))
    held before was = record {
      count = omega (arith, length-append before (good text ∷ []), was.count, left, some) ∙ ap count_given (sym planned.given);
      hold = λ told.
          let contents = (pools.disk new.planned.session.pool).state.contents in
          subst (λ (given : Option GivenTracks). HoldFirst given contents (before ++ (good text ∷ []))) (sym planned.given)
          (given_more old.planned.given (pools.disk old.planned.session.pool).state.contents contents place text before once
          (omega (arith, was.count, place_is)) (omega (arith, place_is, some, within)) (ran told).touches.contents (stands told) (was.hold told));
    }

    -- one was given
    pub gives_one : GivesMore pools old new (good text ∷ [])
    gives_one = record { planned = planned; count = omega (arith, left, some); hold = held }
