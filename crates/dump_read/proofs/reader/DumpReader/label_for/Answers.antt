use Rattle.std.proofs.Common.{rules, sym, ap, ◌∙◌, subst}
use Rattle.vol_label.specs.declared.label.Label.{Label}
use Rattle.dump_fmt.specs.declared.piece.DumpHead.{DumpHead}
use Rattle.dump_read.specs.Labelled.{IsLabelSlot, IsFormat4Slot}
use Rattle.dump_read.specs.Reader.{ReaderView}
use Rattle.dump_read.proofs.ReadSlots.{label_found, label_lacks, format_4_found, format_4_lacks, lacks_so}
use Rattle.dump_read.proofs.reader.DumpReader.label_for.Goals as goal

pub returns-in-Some-clause-found : goal.returns-in-Some-clause-found
returns-in-Some-clause-found c = λ front full going stands is.
    let head = ap (λ (r : ReaderView). r.head) c.self.view_is in
    let slots = ap (λ (r : ReaderView). r.standing.slots) (sym c.self.view_is) in
    label_found c.args.self.now.head front c.args.self.now.standing c.args.bytes.now c.in-Some.label full is.header stands (slots ∙ c.if-number-eq0.true)
    (subst (λ (h : DumpHead). IsLabelSlot h c.args.bytes.now c.in-Some.label) head (rw c.in-Some.is at c.in_ok-label.ensures.found))

pub returns-in-None-clause-refused : goal.returns-in-None-clause-refused
returns-in-None-clause-refused c = λ front going stands is.
    let head = ap (λ (r : ReaderView). r.head) c.self.view_is in
    let slots = ap (λ (r : ReaderView). r.standing.slots) (sym c.self.view_is) in
    lacks_so c.args.self.now.head front c.args.self.now.feed c.args.bytes.now c.lacks_record.result c.lacks_record.ensures
    (label_lacks c.args.self.now.head front c.args.self.now.standing c.args.bytes.now stands (slots ∙ c.if-number-eq0.true)
    (subst (λ (h : DumpHead). (label : Label) → ¬ IsLabelSlot h c.args.bytes.now label) head (rw c.in-None.is at c.in_ok-label.ensures.none)))

pub returns-then-not-branch-clause-refused : goal.returns-then-not-branch-clause-refused
returns-then-not-branch-clause-refused c = λ front going stands is.
    let head = ap (λ (r : ReaderView). r.head) c.self.view_is in
    let slots = ap (λ (r : ReaderView). r.standing.slots) (sym c.self.view_is) in
    let none : ¬ IsFormat4Slot c.self.inside.head c.in-Some-label.label c.args.bytes.now = search rules in
    lacks_so c.args.self.now.head front c.args.self.now.feed c.args.bytes.now c.lacks_record-then-not-branch.result c.lacks_record-then-not-branch.ensures
    (format_4_lacks c.args.self.now.head front c.args.self.now.standing c.args.bytes.now c.in-Some-label.label stands (λ none. c.if-number-eq0.false (sym slots ∙ none))
    (ap (λ (r : ReaderView). r.standing.label) (sym c.self.view_is) ∙ c.in-Some-label.is) (slots ∙ c.if-number-self.true ∙ ap (λ (r : ReaderView). r.head.vtoc) c.self.view_is)
    (subst (λ (h : DumpHead). ¬ IsFormat4Slot h c.in-Some-label.label c.args.bytes.now) head none))

pub returns-else-not-branch-clause-found : goal.returns-else-not-branch-clause-found
returns-else-not-branch-clause-found c = λ front full going stands is.
    let head = ap (λ (r : ReaderView). r.head) c.self.view_is in
    let slots = ap (λ (r : ReaderView). r.standing.slots) (sym c.self.view_is) in
    let there : IsFormat4Slot c.self.inside.head c.in-Some-label.label c.args.bytes.now = search rules in
    format_4_found c.args.self.now.head front c.args.self.now.standing c.args.bytes.now c.in-Some-label.label stands (λ none. c.if-number-eq0.false (sym slots ∙ none))
    (ap (λ (r : ReaderView). r.standing.label) (sym c.self.view_is) ∙ c.in-Some-label.is) (subst (λ (h : DumpHead). IsFormat4Slot h c.in-Some-label.label c.args.bytes.now) head there)
