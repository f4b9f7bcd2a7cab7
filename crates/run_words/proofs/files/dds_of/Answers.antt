use Rattle.std.proofs.Common.{◌≢◌, List, ℕ, length, AllPairs, sym, ap, subst, ◌∙◌, arith}
use Rattle.std.specs.List.{AllZip}
use Rattle.dd_names.specs.declared.dd.DdName.{DdName}
use Rattle.run_words.specs.Words.{values_of, IsDd, AreDds}
use Rattle.run_words.proofs.Ends.{not_false}
use Rattle.run_words.proofs.OneRun.{dds_are}
use Rattle.run_words.proofs.Passed.{passed}
use Rattle.run_words.proofs.files.dds_of.Goals as goal

pub returns-in_err-dds : goal.returns-in_err-dds
returns-in_err-dds c =
    passed (AllZip IsDd c.as_slice.result.now) (AreDds (values_of c.args.name c.args.options.now)) c.from_residual-in_err-dds.result c.in_err-dds.field-0.0 c.from_residual-in_err-dds.ensures.1 c.in_err-dds.ensures
    (λ none dds h. none dds (subst (λ (t : List (List ℕ)). AllZip IsDd t dds) (sym (c.as_slice.ensures ∙ c.in_ok-values.ensures)) h.named))

pub returns-then-len-gt-MOST_DDS : goal.returns-then-len-gt-MOST_DDS
returns-then-len-gt-MOST_DDS c = λ blamed dds h.
    let zip = subst (λ (t : List (List ℕ)). AllZip IsDd t c.in_ok-dds.dds) (c.as_slice.ensures ∙ c.in_ok-values.ensures) c.in_ok-dds.ensures in
    let same = dds_are (values_of c.args.name c.args.options.now) c.in_ok-dds.dds dds zip h in
    omega (arith, h.few, ap length same, c.len.ensures, c.if-len-gt-MOST_DDS.true)

pub returns-then-not-do_dds_differ : goal.returns-then-not-do_dds_differ
returns-then-not-do_dds_differ c = λ blamed dds h.
    let zip = subst (λ (t : List (List ℕ)). AllZip IsDd t c.in_ok-dds.dds) (c.as_slice.ensures ∙ c.in_ok-values.ensures) c.in_ok-dds.ensures in
    let same = dds_are (values_of c.args.name c.args.options.now) c.in_ok-dds.dds dds zip h in
    let apart = subst (λ (t : List (DdName × List ℕ)). AllPairs (λ one other. one.0 ≢ other.0) t) (same ∙ sym c.as_slice-2.ensures) h.apart in
    not_false (c.if-not-do_dds_differ.ensures.1 apart)
