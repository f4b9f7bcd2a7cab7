use Rattle.std.proofs.Common.{◌≢◌, List, ℕ, length, AllPairs, sym, ap, subst, ◌∙◌, arith}
use Rattle.std.specs.List.{AllZip}
use Rattle.vol_label.specs.declared.serial.Serial.{Serial}
use Rattle.run_words.specs.Words.{values_of, IsUnit, AreUnits}
use Rattle.run_words.specs.declared.name.Name.TheVariants as names
use Rattle.run_words.proofs.Ends.{is_none, not_false}
use Rattle.run_words.proofs.OneRun.{units_are}
use Rattle.run_words.proofs.Passed.{passed}
use Rattle.run_words.proofs.files.units_of.Goals as goal

pub returns-in_err-units : goal.returns-in_err-units
returns-in_err-units c =
    passed (AllZip IsUnit c.as_slice.result.now) (AreUnits (values_of names.Unit c.args.options.now)) c.from_residual-in_err-units.result c.in_err-units.field-0.0 c.from_residual-in_err-units.ensures.1 c.in_err-units.ensures
    (λ none units h. none units (subst (λ (t : List (List ℕ)). AllZip IsUnit t units) (sym (c.as_slice.ensures ∙ c.in_ok-values.ensures)) h.named))

pub returns-then-is_empty : goal.returns-then-is_empty
returns-then-is_empty c = λ blamed units h.
    let zip = subst (λ (t : List (List ℕ)). AllZip IsUnit t c.in_ok-units.units) (c.as_slice.ensures ∙ c.in_ok-values.ensures) c.in_ok-units.ensures in
    let none = units_are (values_of names.Unit c.args.options.now) c.in_ok-units.units units zip h ∙ is_none c.in_ok-units.units c.if-is_empty.ensures in
    omega (arith, h.some, ap length none)

pub returns-then-len-gt-MOST_UNITS : goal.returns-then-len-gt-MOST_UNITS
returns-then-len-gt-MOST_UNITS c = λ blamed units h.
    let zip = subst (λ (t : List (List ℕ)). AllZip IsUnit t c.in_ok-units.units) (c.as_slice.ensures ∙ c.in_ok-values.ensures) c.in_ok-units.ensures in
    let same = units_are (values_of names.Unit c.args.options.now) c.in_ok-units.units units zip h in
    omega (arith, h.few, ap length same, c.len.ensures, c.if-len-gt-MOST_UNITS.true)

pub returns-then-not-do_serials_differ : goal.returns-then-not-do_serials_differ
returns-then-not-do_serials_differ c = λ blamed units h.
    let zip = subst (λ (t : List (List ℕ)). AllZip IsUnit t c.in_ok-units.units) (c.as_slice.ensures ∙ c.in_ok-values.ensures) c.in_ok-units.ensures in
    let same = units_are (values_of names.Unit c.args.options.now) c.in_ok-units.units units zip h in
    let apart = subst (λ (t : List (Serial × List ℕ)). AllPairs (λ one other. one.0 ≢ other.0) t) (same ∙ sym c.as_slice-2.ensures) h.apart in
    not_false (c.if-not-do_serials_differ.ensures.1 apart)
