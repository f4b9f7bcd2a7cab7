use Rattle.std.proofs.Common.{◌+◌, take, drop, All, subst, arith}
use Rattle.std.proofs.lemmas.List.{take_all}
use Rattle.std.proofs.lemmas.List.Elements.{All-more}
use Rattle.org_reloc.specs.Packing.{FitsAlone}
use Rattle.org_reloc.proofs.Fillings.{costs_alone}
use Rattle.org_reloc.proofs.Runs.{split_at}
use Rattle.org_reloc.proofs.packing.check_lengths.Goals as goal

pub returns-then-cost-capacity-clause-refused : goal.returns-then-cost-capacity-clause-refused
returns-then-cost-capacity-clause-refused c =
    let i = c.loop-block.block-index in
    let block = c.block-item.result in record {
      before = take i c.args.blocks.now;
      block = block;
      behind = drop (i + 1) c.args.blocks.now;
      spelled = split_at c.args.blocks.now i block c.loop-block-test.true c.block-item.is;
      others_fit = c.loop-block.invariant;
      too_long = λ fits. omega (arith, fits);
      len_is = c.len.ensures;
      largest_is = c.largest.ensures;
    }

pub loop-block-preserved : goal.loop-block-preserved
loop-block-preserved c =
    let block = c.block-item.result in
    All-more (FitsAlone c.args.device) c.args.blocks.now c.loop-block.block-index block c.loop-block-test.true c.loop-block.invariant
    (subst (FitsAlone c.args.device) c.block-item.is (costs_alone c.args.device block (omega (arith, c.cost.ensures, c.capacity.ensures))))

pub returns-clause-fit : goal.returns-clause-fit
returns-clause-fit c =
    subst (All (FitsAlone c.args.device)) (take_all c.loop-block.block-index c.args.blocks.now c.loop-block-test.false) c.loop-block.invariant
