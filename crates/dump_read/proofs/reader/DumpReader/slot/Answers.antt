use Rattle.std.proofs.Common.{◌≡◌, List, ℕ, drop, refl, sym, ap, ◌∙◌, subst}
use Rattle.std.proofs.lemmas.Result.{err_from_is_err_and}
use Rattle.dump_read.specs.declared.mark.Mark.TheVariants as marks
use Rattle.dump_read.specs.Reader.{ReaderView, IsMarked, IsLabelled, IsLabelFault}
use Rattle.dump_read.specs.SlotText.{IsSlotStop, IsSlotRead}
use Rattle.dump_read.proofs.ReadSlots.{slot_wrong, slot_cut, slot_full, slot_lacks, slot_given}
use Rattle.dump_read.proofs.reader.DumpReader.slot.Goals as goal

pub returns-in-Err-Wrong-clause-refused : goal.returns-in-Err-Wrong-clause-refused
returns-in-Err-Wrong-clause-refused c = λ tape front is.
    let reader : ReaderView = c.args.self.now in
    let stop = c.in-Err-Wrong.field-0 in
    let stops : IsSlotStop reader.head.device reader.standing.slots (drop 1 reader.feed.window) stop =
    subst (λ (r : ReaderView). IsSlotStop r.head.device r.standing.slots (drop 1 reader.feed.window) stop) c.self.view_is
    (subst (λ (t : List ℕ). IsSlotStop c.self.inside.head.device c.self.inside.standing.slots t stop) c.behind.ensures c.in-Err-Wrong.ensures.stops) in
    slot_wrong tape reader front stop c.in-Err-Wrong.field c.place.result c.wrong.result is stops c.in-Err-Wrong.field-0-is c.place.ensures c.wrong.ensures

pub returns-in-Err-Cut-clause-refused : goal.returns-in-Err-Cut-clause-refused
returns-in-Err-Cut-clause-refused c = λ tape front is.
    let reader : ReaderView = c.args.self.now in
    let stop = c.in-Err-Cut.field-0 in
    let stops : IsSlotStop reader.head.device reader.standing.slots (drop 1 reader.feed.window) stop =
    subst (λ (r : ReaderView). IsSlotStop r.head.device r.standing.slots (drop 1 reader.feed.window) stop) c.self.view_is
    (subst (λ (t : List ℕ). IsSlotStop c.self.inside.head.device c.self.inside.standing.slots t stop) c.behind.ensures c.in-Err-Cut.ensures.stops) in
    slot_cut tape reader front stop c.cut.result is stops c.in-Err-Cut.field-0-is c.cut.ensures

pub returns-in_err-label-clause-refused : goal.returns-in_err-label-clause-refused
returns-in_err-label-clause-refused c =
    let p = err_from_is_err_and c.from_residual.result c.from_residual.ensures.1 in
    rw (p.1, p.2)
    (λ tape front is.
    let reader : ReaderView = c.args.self.now in
    let read : IsSlotRead reader.head.device reader.standing.slots (drop 1 reader.feed.window) c.in-Ok.bytes =
    subst (λ (r : ReaderView). IsSlotRead r.head.device r.standing.slots (drop 1 reader.feed.window) c.in-Ok.bytes) c.self.view_is
    (subst (λ (t : List ℕ). IsSlotRead c.self.inside.head.device c.self.inside.standing.slots t c.in-Ok.bytes) c.behind.ensures c.in-Ok.ensures.read) in
    slot_lacks tape reader front c.in-Ok.bytes c.in_err-label.field-0.0 is read
    (subst (λ (t : List ℕ). IsLabelFault reader.head front reader.feed t c.in_err-label.field-0.0) c.as_slice.ensures.same
    (c.in_err-label.ensures.refused front is.reading.going is.reading.stands is.reading.is_front)))

pub returns-clause-read : goal.returns-clause-read
returns-clause-read c = λ tape front is.
    let now : ReaderView = c.args.self.now in
    let old : ReaderView = record { head = c.self.inside.head; feed = c.self.inside.feed; standing = c.self.inside.standing } in
    let new : ReaderView = record { head = c.self.inside.head; feed = c.pass.new.self; standing = c.add_slot.new.self } in
    let same : now ≡ old = sym c.self.view_is in
    let read : IsSlotRead old.head.device old.standing.slots (drop 1 old.feed.window) c.in-Ok.bytes =
    subst (λ (t : List ℕ). IsSlotRead old.head.device old.standing.slots t c.in-Ok.bytes) (c.behind.ensures ∙ ap (λ (r : ReaderView). drop 1 r.feed.window) same) c.in-Ok.ensures.read in
    let labelled : IsLabelled now.head front c.in-Ok.bytes c.in_ok-label.label =
    subst (λ (t : List ℕ). IsLabelled now.head front t c.in_ok-label.label) c.as_slice.ensures.same
    (c.in_ok-label.ensures.found front (slot_full tape now front is) is.reading.going is.reading.stands is.reading.is_front) in
    slot_given tape old new front c.in-Ok.bytes c.in_ok-label.label c.len.result (subst (λ (r : ReaderView). IsMarked tape r front marks.Slot) same is) read
    (subst (λ (r : ReaderView). IsLabelled r.head front c.in-Ok.bytes c.in_ok-label.label) same labelled) (c.add_slot.ensures c.self.inside.head c.in-Ok.bytes) c.len.ensures refl c.pass.ensures.window
    c.pass.ensures.offset c.pass.ensures.digest
