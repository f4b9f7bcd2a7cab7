use Rattle.std.proofs.Common.{arith, rules, subst, List, ℕ}
use Rattle.ckd_image.specs.Bytes.{Begins}
use Rattle.ckd_image.specs.Track.{end_mark}
use Rattle.ckd_image.specs.Readdress.{IsRecordOf, HasNoRecord}
use Rattle.ckd_image.proofs.Moved as moved
use Rattle.ckd_image.proofs.readdressing.move_records.Goals as goal

pub records-init : goal.records-init
records-init c = moved.moved_none c.args.from c.args.to c.args.slot.now c.args.start c.requires.records

pub unreachable-requires : goal.unreachable-requires
unreachable-requires c =
    let P : List ℕ → Type 0 = λ t. ¬ Begins end_mark t in
    let Q : List ℕ → Type 0 = λ t. HasNoRecord c.args.from t in
    moved.not_stuck c.args.from c.args.to c.args.slot.now c.records.slot c.args.start c.records.place c.records.invariant
    (subst P c.tail.ensures (search rules)) (subst Q c.tail-in-records.ensures c.in_default.ensures.none)

pub records-preserved : goal.records-preserved
records-preserved c =
    let P : List ℕ → Type 0 = λ t. ¬ Begins end_mark t in
    let Q : List ℕ → Type 0 = λ t. IsRecordOf c.args.from t c.in-Some.len in
    moved.moved_more c.args.from c.args.to c.args.slot.now c.records.slot c.put_over.new.bytes c.args.start c.records.place c.in-Some.len (omega arith, omega arith) c.records.invariant
    (subst P c.tail.ensures (search rules)) (subst Q c.tail-in-records.ensures c.in-Some.ensures.found)
    (moved.written _ _ _ c.args.to _ c.bytes.ensures c.put_over.ensures)

pub returns : goal.returns
returns c =
    let P : List ℕ → Type 0 = λ t. Begins end_mark t in
    moved.moved_all c.args.from c.args.to c.args.slot.now c.records.slot c.args.start c.records.place (omega (arith, c.requires.short, c.records.invariant.same_len)) c.records.invariant (subst P c.tail.ensures (search rules))
