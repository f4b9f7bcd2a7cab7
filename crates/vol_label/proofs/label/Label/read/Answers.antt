use Rattle.std.proofs.Common.{refl, sym, subst, List, ℕ, ◌∙◌, rules}
use Rattle.vol_label.specs.declared.label.Label.{Label}
use Rattle.vol_label.specs.declared.fault.LabelRule.TheVariants as causes
use Rattle.vol_label.specs.Label.{IsLabelText}
use Rattle.vol_label.proofs.label.Label.read.Goals as goal

pub returns-then-not-same-clause-refused : goal.returns-then-not-same-clause-refused
returns-then-not-same-clause-refused c =
    rw c.broken-then-not-same.ensures (causes.Key, refl, (c.in-Some.rec.now, sym c.in-Some.ensures, λ h. let t = c.if-not-same.ensures.1 (c.as_slice.ensures.same ∙ h) in cc))

pub returns-in-None-clause-refused : goal.returns-in-None-clause-refused
returns-in-None-clause-refused c =
    let P : List ℕ → Type 0 = λ body. (label : Label) → IsLabelText c.args.head body label → ⊥ in
    rw c.broken-in-None.ensures
    (causes.Serial, refl, (c.in-Some.rec.now, sym c.in-Some.ensures, search rules, search rules, subst P c.as_slice-2.ensures.same c.in-None.ensures.none))
