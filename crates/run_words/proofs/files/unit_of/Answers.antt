use Rattle.std.proofs.Common.{List, ℕ, sym, subst, ◌∙◌}
use Rattle.vol_label.specs.Serial.{IsSerialName}
use Rattle.run_words.specs.Words.{IsParted}
use Rattle.run_words.proofs.Ends.{not_serial}
use Rattle.run_words.proofs.OneRun.{parted_name}
use Rattle.run_words.proofs.files.unit_of.Goals as goal

pub returns-in_default-read : goal.returns-in_default-read
returns-in_default-read c = λ blamed unit h.
    let parted = subst (λ (t : List ℕ). IsParted t c.in-Some.name.now c.in-Some.path.now) c.as_str.ensures c.in-Some.ensures.found in
    let same = parted_name c.args.value.now c.in-Some.name.now h.0 c.in-Some.path.now unit.1 parted h.1 in
    not_serial c.as_bytes.result.now c.in_default-read.field-0 c.in_default-read.ensures.refused (subst IsSerialName (sym same ∙ sym c.as_bytes.ensures.value) h.2)
