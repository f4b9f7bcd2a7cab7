-- A track of a unit whose slot is at hand.
use Rattle.std.specs.Prelude.{◌==◌, if◌then◌else◌, Option, Some, None}
use Rattle.volume_model.specs.Sound.{Slots}
use Rattle.unit_load.specs.declared.slots.Hand.{Hand}

-- the slots of a unit as they are once the track at hand, if there is one, is in place
abbrev pub with_hand : Option Hand → Slots → Slots
with_hand None slots = slots
with_hand (Some hand) slots = λ track. if track == hand.track then hand.slot.now else slots track
