-- The facts of a pool under whose names a session was opened.
use Rattle.std.proofs.Common.{◌≡◌, ℕ, List, Bool, sym, subst, ◌∙◌}
use Rattle.dasd_pool.specs.Disk.{Shape, State}
use Rattle.vol_label.specs.declared.serial.Serial.{Serial}
use Rattle.redo_core.specs.declared.control.Control.{Control}
use Rattle.redo_core.specs.Opening.{IsOpened}
use Rattle.volume_model.specs.Unit.{UnitModel}
use Rattle.move_core.specs.Facts.{Facts}
use Rattle.move_core.specs.Stands.{IsSettled}

-- names and room stand in the registration, which both read
own_facts : (facts : Facts) (old new : State) (units : List UnitModel) (names : List Serial) (room : ℕ) (control : Control) (fills : List Bool)
    → IsOpened facts.shape old names room control fills new → IsSettled facts new units → facts ≡ record { shape = facts.shape; names = names; room = room; inputs = facts.inputs }
own_facts facts old new units names room control fills opened settled =
    let told = opened.after.obeys.registration in
    let stands = settled.stands in
    let own = stands.reads.obeys.registration in
    let same_names : facts.names ≡ names = sym stands.names_are ∙ own.names_are ∙ sym told.names_are in
    let same_room : facts.room ≡ room = sym stands.room_is ∙ sym own.room_is ∙ told.room_is in
    (λ i. record { shape = facts.shape; names = same_names i; room = same_room i; inputs = facts.inputs })

-- and after calls that only read
pub registered : {facts : Facts} {shape now : Shape} {old new state : State} {units : List UnitModel} {names kept : List Serial} {room left : ℕ} {control : Control} {fills : List Bool}
    → IsOpened shape old names room control fills new → now ≡ shape → state ≡ new → kept ≡ names → left ≡ room
    → facts.shape ≡ now → IsSettled facts state units → facts ≡ record { shape = now; names = kept; room = left; inputs = facts.inputs }
registered {facts} {shape} {now} {old} {new} {state} {units} {names} {kept} {room} {left} {control} {fills} opened same still named roomy is settled =
    let here : IsOpened facts.shape old names room control fills state =
    subst (λ (s : Shape). IsOpened s old names room control fills state) (sym (is ∙ same))
    (subst (λ (t : State). IsOpened shape old names room control fills t) (sym still) opened) in
    own_facts facts old state units names room control fills here settled ∙ (λ i. record { shape = is i; names = sym named i; room = sym roomy i; inputs = facts.inputs })
