-- Blocks on which no meaning rests may be written, and a settled pool stays settled.
use Rattle.std.proofs.Common.{◌≡◌, ⊎_elim, inl, inr, ℕ, ◌<◌, List, Bool, true, false, ap, subst, ◌∙◌, arith}
use Rattle.std.specs.Prelude.{not, ◌&&◌}
use Rattle.std.proofs.lemmas.Bool.{and_parts, and_from, not_from_false, not-true}
use Rattle.ckd_image.specs.Address.{address_of}
use Rattle.ckd_image.specs.Device.{heads_of}
use Rattle.ckd_image.specs.Track.{IsTrackText}
use Rattle.dasd_pool.specs.Disk.{Image, State, MayLeave, Touches, Spares}
use Rattle.redo_core.specs.Format.{is_open, directory_in}
use Rattle.redo_core.specs.Reading.{journal_of, among, Reading, Reads}
use Rattle.redo_core.specs.Opening.{IsSure}
use Rattle.redo_core.proofs.Openings.{spared_reads}
use Rattle.volume_model.specs.declared.why.Why.TheVariants as whys
use Rattle.volume_model.specs.Unit.{UnitModel, online, offline}
use Rattle.volume_model.specs.Reads.{IsVital}
use Rattle.volume_model.specs.Sound.{Slots}
use Rattle.move_core.specs.Facts.{Facts}
use Rattle.move_core.specs.Stands.{place_in, RestsOn, AreUnused, Stands, IsSettled}
use Rattle.move_core.proofs.Standing.{first_rests, stands_kept}

-- the blocks that may be written count as not synced
abbrev pub masked : (ℕ → ℕ → Bool) → State → State
masked may state = record { contents = state.contents; synced = λ u b. not (may u b) && state.synced u b }

pub masked_left : (may : ℕ → ℕ → Bool) (state : State) (image : Image) → Spares may state image → MayLeave (masked may state) image
masked_left may state image spares u b was =
    let parts = and_parts (not (may u b)) (state.synced u b) was in
    spares u b (not-true (may u b) parts.0) parts.1

-- what is vital where track 0 is the same
vital_back : (place : ℕ → ℕ) (head : List ℕ) (blocks : ℕ) (old new : Slots) (unit : UnitModel) (block : ℕ) → new 0 ≡ old 0
    → IsVital place head blocks new unit block → IsVital place head blocks old unit block
vital_back place head blocks old new (online volume) block same vital = vital
vital_back place head blocks old new (offline (whys.Head why) kept) block same vital = tt
vital_back place head blocks old new (offline whys.Filling kept) block same (inl zero) = inl zero
vital_back place head blocks old new (offline whys.Filling kept) block same (inr (image, label, has, at)) =
    inr (
      image,
      label,
      record {
        head_stands = has.head_stands;
        text = has.text;
        text_stands = subst (λ (slot : List ℕ). IsTrackText (address_of (heads_of image.device) 0) slot has.text) same has.text_stands;
        stands = has.stands;
      },
      at,
    )
vital_back place head blocks old new (offline (whys.Label why) kept) block same vital = tt
vital_back place head blocks old new (offline (whys.Vtoc track number why) kept) block same vital = tt

module _ (may : ℕ → ℕ → Bool) (facts : Facts) (old : State) (units : List UnitModel) (settled : IsSettled facts old units)
    (unused : AreUnused may facts.shape settled.stands.reading settled.stands.means.found) where
  abbrev journal : ℕ
  journal = journal_of facts.shape

  abbrev before : Reading
  before = settled.stands.reading

  abbrev found : List UnitModel
  found = settled.stands.means.found

  masked_journal : (b : ℕ) → (masked may old).synced journal b ≡ true
  masked_journal b = and_from (not (may journal b)) (old.synced journal b) (not_from_false (may journal b) (unused.journal b)) (settled.journal b)

  masked_sure : (u b : ℕ) → u < journal → RestsOn facts.shape before found u b → IsSure facts.shape (masked may old) u b
  masked_sure u b less rests = ⊎_elim
      (λ was. inl (and_from (not (may u b)) (old.synced u b) (not_from_false (may u b) (unused.volumes u b less rests)) was))
      (λ replaced. inr replaced)
      (settled.vital u b less rests)

  -- what a stop may leave where these blocks are lost is no more than what it may leave of the masked state
  pub masked_settled : IsSettled facts (masked may old) units
  masked_settled = record { stands = settled.stands; journal = masked_journal; vital = masked_sure }

  module _ (new : State) (touches : Touches may old new) where
    told : (volumes : Image) × Reads facts.shape new.contents (record before { volumes = volumes })
        × ((u b : ℕ) → u < journal → IsSure facts.shape (masked may old) u b → volumes u b ≡ before.volumes u b)
    told =
        spared_reads facts.shape (masked may old) masked_journal new.contents
        (λ u b any was. masked_left may old new.contents (λ v c apart synced. touches.contents v c apart) u b was) before settled.stands.reads

    same : (u b : ℕ) → u < journal → RestsOn facts.shape before found u b → told.0 u b ≡ before.volumes u b
    same u b less rests = told.2 u b less (masked_sure u b less rests)

    abbrev stands : Stands facts new.contents units
    stands = stands_kept facts old.contents units settled.stands new.contents told.0 told.1 same

    rests_back : (u b : ℕ) → u < journal → RestsOn facts.shape stands.reading stands.means.found u b → RestsOn facts.shape before found u b
    rests_back u b less (unit, at, there, vital) = (
      unit,
      at,
      there,
      vital_back (place_in before.control u) (facts.shape.head u) (facts.shape.blocks u) (before.volumes u) (told.0 u) unit b
          (same u 0 less (first_rests facts old.contents units settled.stands u less (omega (arith, there)))) vital,
    )

    pub unused_settled : IsSettled facts new units
    unused_settled = record {
      stands = stands;
      journal = λ b. touches.synced journal b (unused.journal b) (settled.journal b);
      vital = λ u b less rests.
          let back = rests_back u b less rests in
          let free : may u b ≡ false = unused.volumes u b less back in
          ⊎_elim
          (λ was. inl (touches.synced u b free was))
          (λ replaced. inr (
            ap is_open (touches.contents journal 1 (unused.journal 1)) ∙ replaced.0,
            ap (λ (block : List ℕ). among (directory_in block) u b) (touches.contents journal 3 (unused.journal 3)) ∙ replaced.1,
          ))
          (settled.vital u b less back);
    }
