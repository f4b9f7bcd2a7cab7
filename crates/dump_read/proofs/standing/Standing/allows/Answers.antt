use Rattle.std.proofs.Common.{◌<◌, ◌-◌, inl, inr, sym, subst, arith}
use Rattle.std.specs.Prelude.{◌↔◌, IsTrue, nat_eq, nat_lt, nat_le}
use Rattle.std.proofs.lemmas.Bool.{ltb-true, lt-ltb, leb-true, le-leb}
use Rattle.dump_read.specs.declared.mark.Mark.{Mark}
use Rattle.dump_read.specs.Marks.{byte_of, MayStand}
use Rattle.dump_read.proofs.Allowed as allowed
use Rattle.dump_read.proofs.standing.Standing.allows.Goals as goal

pub returns-in-Part-default-clause-allowed : goal.returns-in-Part-default-clause-allowed
returns-in-Part-default-clause-allowed c = λ front going stands.
    subst (λ (m : Mark). IsTrue c.may_begin.result ↔ MayStand c.args.head front (byte_of m)) (sym c.in-Part-default.is-0)
    (allowed.part_stands c.args.head front c.args.self.now c.may_begin.result going stands c.may_begin.ensures)

pub returns-then-part-gt1-clause-allowed : goal.returns-then-part-gt1-clause-allowed
returns-then-part-gt1-clause-allowed c = λ front going stands.
    let u = c.in-Track-Some.part in
    subst (λ (m : Mark). IsTrue (nat_lt 1 (u.due - u.read)) ↔ MayStand c.args.head front (byte_of m)) (sym c.in-Track-Some.is-0) (
      λ more. allowed.track_stands c.args.head front c.args.self.now u going stands c.in-Track-Some.is-1 (c.if-part.true, inl (ltb-true 1 (u.due - u.read) more)),
      λ may. lt-ltb 1 (u.due - u.read) c.if-part-gt1.true,
    )

pub returns-else-part-gt1-clause-allowed : goal.returns-else-part-gt1-clause-allowed
returns-else-part-gt1-clause-allowed c = λ front going stands.
    let u = c.in-Track-Some.part in
    let room = 4294967295 - c.args.self.now.tracks in
    let none : ¬ (1 < u.due - u.read) = λ more. absurd (omega (arith, more, c.if-part-gt1.false)) in
    subst (λ (m : Mark). IsTrue (nat_le u.due room) ↔ MayStand c.args.head front (byte_of m)) (sym c.in-Track-Some.is-0) (
      λ fits. allowed.track_stands c.args.head front c.args.self.now u going stands c.in-Track-Some.is-1 (c.if-part.true, inr (leb-true u.due room fits)),
      λ may. le-leb u.due room (allowed.last_track_fits c.args.head front c.args.self.now u stands c.in-Track-Some.is-1 none may),
    )

pub returns-else-part-clause-allowed : goal.returns-else-part-clause-allowed
returns-else-part-clause-allowed c = λ front going stands.
    let u = c.in-Track-Some.part in
    subst (λ (m : Mark). IsTrue (nat_lt u.read u.due) ↔ MayStand c.args.head front (byte_of m)) (sym c.in-Track-Some.is-0) (
      λ less. absurd (omega (arith, ltb-true u.read u.due less, c.if-part.false)),
      λ may. lt-ltb u.read u.due (allowed.track_lacks c.args.head front c.args.self.now u stands c.in-Track-Some.is-1 may).0,
    )

pub returns-in-PartEnd-Some-clause-allowed : goal.returns-in-PartEnd-Some-clause-allowed
returns-in-PartEnd-Some-clause-allowed c = λ front going stands.
    let u = c.in-PartEnd-Some.part in
    subst (λ (m : Mark). IsTrue (nat_eq u.read u.due) ↔ MayStand c.args.head front (byte_of m)) (sym c.in-PartEnd-Some.is-0)
    (allowed.end_stands c.args.head front c.args.self.now u going stands c.in-PartEnd-Some.is-1)

pub returns-in-Dropped-Some-clause-allowed : goal.returns-in-Dropped-Some-clause-allowed
returns-in-Dropped-Some-clause-allowed c = λ front going stands.
    let u = c.in-Dropped-Some.part in
    subst (λ (m : Mark). IsTrue (nat_lt u.read u.due) ↔ MayStand c.args.head front (byte_of m)) (sym c.in-Dropped-Some.is-0)
    (allowed.dropped_stands c.args.head front c.args.self.now u going stands c.in-Dropped-Some.is-1)

pub returns-then-head-clause-allowed : goal.returns-then-head-clause-allowed
returns-then-head-clause-allowed c = λ front going stands.
    subst (λ (m : Mark). IsTrue (nat_lt c.args.self.now.slots c.args.head.tracks) ↔ MayStand c.args.head front (byte_of m)) (sym c.in-Slot-default.is-0)
    (allowed.slot_stands c.args.head front c.args.self.now going stands c.if-head.true)
