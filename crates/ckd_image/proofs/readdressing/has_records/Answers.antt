use Rattle.std.proofs.Common.{arith, rules, subst, List, ℕ}
use Rattle.ckd_image.specs.Bytes.{Begins}
use Rattle.ckd_image.specs.Track.{end_mark}
use Rattle.ckd_image.specs.Readdress.{IsRecordOf, HasNoRecord}
use Rattle.ckd_image.proofs.Moved as moved
use Rattle.ckd_image.proofs.readdressing.has_records.Goals as goal

pub records-init : goal.records-init
records-init c = moved.read_none c.args.at c.args.slot.now c.args.start c.requires.start

pub records-preserved : goal.records-preserved
records-preserved c =
    let P : List ℕ → Type 0 = λ t. IsRecordOf c.args.at t c.in-Some.len in
    moved.read_more c.args.at c.args.slot.now c.args.start c.records.place c.in-Some.len c.records.invariant (subst P c.tail-in-records.ensures c.in-Some.ensures.found)

pub returns-in_default-clause-no : goal.returns-in_default-clause-no
returns-in_default-clause-no c = λ _.
    let P : List ℕ → Type 0 = λ t. ¬ Begins end_mark t in
    let Q : List ℕ → Type 0 = λ t. HasNoRecord c.args.at t in
    moved.read_stuck c.args.at c.args.slot.now c.args.start c.records.place (omega arith, omega arith) c.requires.short c.records.invariant
    (subst P c.tail.ensures (search rules)) (subst Q c.tail-in-records.ensures c.in_default.ensures.none)

pub returns-clause-yes : goal.returns-clause-yes
returns-clause-yes c = λ _.
    let P : List ℕ → Type 0 = λ t. Begins end_mark t in
    moved.read_all c.args.at c.args.slot.now c.args.start c.records.place c.records.invariant (subst P c.tail.ensures (search rules))
