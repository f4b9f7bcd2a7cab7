use Rattle.std.proofs.Common.{List, ℕ, sym, subst, ◌∙◌}
use Rattle.dsn_filter.specs.OneQualifier.{IsQualifierText}
use Rattle.run_words.specs.Words.{IsParted}
use Rattle.run_words.proofs.OneRun.{parted_name}
use Rattle.run_words.proofs.files.dd_of.Goals as goal

pub returns-in_default-read : goal.returns-in_default-read
returns-in_default-read c = λ blamed dd h.
    let parted = subst (λ (t : List ℕ). IsParted t c.in-Some.name.now c.in-Some.path.now) c.as_str.ensures c.in-Some.ensures.found in
    let same = parted_name c.args.value.now c.in-Some.name.now h.0 c.in-Some.path.now dd.1 parted h.1 in
    c.in_default-read.ensures.none (subst IsQualifierText (sym same ∙ sym c.as_bytes.ensures.value) h.2)
