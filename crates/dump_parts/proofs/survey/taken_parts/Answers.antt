use Rattle.std.proofs.Common.{◌↔◌, ◌∙◌, IsTrue, Some, sym, subst, arith}
use Rattle.dump_fmt.specs.Front.{begun, with_current}
use Rattle.dump_fmt.specs.Parts.{DumpPart}
use Rattle.dump_parts.specs.Reading.{with_texts}
use Rattle.dump_parts.specs.Taken.{Passes, TakesPart}
use Rattle.dump_parts.proofs.Surveyed.{dropped_not_taken, fewer_left, pushed, told_next, whole_taken}
use Rattle.dump_parts.proofs.survey.taken_parts.Goals as goal
use Rattle.dump_parts.proofs.survey.taken_parts.Goals.{else-whole, then-whole}

pub parts-smaller : goal.parts-smaller
parts-smaller g c =
    let (front, is, told) = c.parts.invariant.read in
    let part = rw c.in-Some.is at c.in_ok-part.ensures.part in
    let head : DumpPart = begun c.in-Some.part.f1 c.in-Some.part.tracks c.in-Some.part.kind in
    let ended = c.in_ok-whole.ensures.ended (with_current front (Some head)) head (part front is) in
    let whole : DumpPart = with_texts head ended.texts in
    fewer_left (g.R.Tape.seen c.parts.reel) (g.R.Tape.seen c.pass_part.new.reel) c.parts.reader c.pass_part.new.reader front whole is ended.between

pub parts-preserved : goal.parts-preserved
parts-preserved g c =
    let (front, is, told) = c.parts.invariant.read in
    let part = rw c.in-Some.is at c.in_ok-part.ensures.part in
    let head : DumpPart = begun c.in-Some.part.f1 c.in-Some.part.tracks c.in-Some.part.kind in
    let ended = c.in_ok-whole.ensures.ended (with_current front (Some head)) head (part front is) in
    let whole : DumpPart = with_texts head ended.texts in
    let takes : IsTrue c.if-whole.push ↔ TakesPart c.args.filter.now c.args.today whole = elim c.if-whole.branch [
      | then-whole w ↦ whole_taken c.args.filter.now c.args.today whole c.if-whole.push (ended.whole_is ∙ w.if-whole.true)
          (subst (λ b. IsTrue b ↔ Passes c.args.filter.now c.args.today whole.f1 whole.tracks) (sym w.push-is) w.passes.ensures)
      | else-whole w ↦ dropped_not_taken c.args.filter.now c.args.today whole c.if-whole.push (ended.whole_is ∙ w.if-whole.false) (w.push-is ∙ w.if-whole.false)
    ] in
    record {
      read = told_next c.args.filter.now c.args.today (g.R.Tape.seen c.pass_part.new.reel) c.pass_part.new.reader front whole c.parts.taken.items c.push.new.self.items c.if-whole.push told
          (pushed c.push.result c.parts.taken.items c.push.new.self.items c.if-whole.push c.push.ensures.items (sym c.is_err.ensures.value ∙ c.if-is_err.false)) takes ended.between;
      head = c.in_ok-whole.ensures.head ∙ c.in_ok-part.ensures.head ∙ c.parts.invariant.head;
      same = c.in_ok-whole.ensures.same ∙ c.in_ok-part.ensures.same ∙ c.parts.invariant.same;
      later = omega (arith, c.parts.invariant.later, c.in_ok-part.ensures.later, c.in_ok-whole.ensures.later);
    }
