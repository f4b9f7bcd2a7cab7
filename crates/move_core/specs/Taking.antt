-- When the entries of a commit make a step.
use Rattle.std.specs.Prelude.{◌≡◌, ℕ, ◌<◌, List, [], Bool}
use Rattle.dasd_pool.specs.Disk.{Image, Shape, State}
use Rattle.redo_core.specs.declared.control.Control.TheVariants.{Idle}
use Rattle.redo_core.specs.declared.entries.Entry.{Entry}
use Rattle.redo_core.specs.Reading.{journal_of}
use Rattle.redo_core.specs.Phases.{IsAtRest}
use Rattle.volume_model.specs.Unit.{UnitModel}
use Rattle.move_core.specs.declared.steps.Step.{Step}
use Rattle.move_core.specs.Facts.{Facts}
use Rattle.move_core.specs.Laws.{WillStand, OpensNoSlide}
use Rattle.move_core.specs.Stands.{IsSettled}
use Rattle.move_core.specs.Steps.{IsStep}

-- the pool is at rest, no slide is open, and of each volume it's told whether a fill is
pub record IsQuiet (shape : Shape) (state : State) (room : ℕ) (fills : List Bool) : Type 0 where
  pub rest : IsAtRest shape state room Idle fills

-- the blocks of the volumes are the same
abbrev pub AreSame : Shape → Image → Image → Type 0
AreSame shape one other = (u b : ℕ) → u < journal_of shape → one u b ≡ other u b

-- On each quiet pool with these fills whose volumes have these blocks the entries take the units by this step, whatever units it stands for and
-- whatever the facts are that are allowed, and open no slide.
abbrev pub TakeUnitsFor : (Facts → Type 0) → Shape → ℕ → List Bool → Image → Step → List Entry → Type 0
TakeUnitsFor allows shape room fills contents step entries =
    (facts : Facts) (state : State) (units : List UnitModel) → facts.shape ≡ shape → allows facts → AreSame shape state.contents contents
    → IsQuiet shape state room fills → (settled : IsSettled facts state units)
    → (after : List UnitModel) × IsStep facts step units after × WillStand facts settled.stands.reading entries after
    × OpensNoSlide facts.shape settled.stands.reading entries

-- Whatever units a pool stands for, the entries keep them, and open no slide.
abbrev pub KeepUnits : (Facts → Type 0) → Shape → State → List Entry → Type 0
KeepUnits allows shape state entries =
    (facts : Facts) (units : List UnitModel) → facts.shape ≡ shape → allows facts → (settled : IsSettled facts state units)
    → WillStand facts settled.stands.reading entries units × OpensNoSlide facts.shape settled.stands.reading entries
