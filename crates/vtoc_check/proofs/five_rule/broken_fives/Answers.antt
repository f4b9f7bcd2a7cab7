use Rattle.std.proofs.Common.{length, refl, sym, ◌∙◌}
use Rattle.vtoc_check.proofs.Joined.{no_marks, fives_told, no_fives}
use Rattle.vtoc_check.proofs.five_rule.broken_fives.Goals as goal

pub broken_five-requires : goal.broken_five-requires
broken_five-requires c = record {
  same = c.requires.records ∙ sym c.requires.directory;
  targets = no_marks c.args.records.now c.deref_mut.result.now (length c.args.records.now) (c.deref_mut.ensures.value ∙ c.in_ok-targets.ensures) refl;
  chain = no_marks c.args.records.now c.deref_mut-2.result.now (length c.args.records.now) (c.deref_mut-2.ensures.value ∙ c.in_ok-chain.ensures) refl;
}

pub returns : goal.returns
returns c = fives_told c.args.vtoc.now c.args.directory.now.heads c.args.records.now c.broken_five.result c.requires.heads c.requires.records c.if-not-vtoc.false c.broken_five.ensures

pub returns-then-not-vtoc : goal.returns-then-not-vtoc
returns-then-not-vtoc c = no_fives c.args.vtoc.now c.if-not-vtoc.true
