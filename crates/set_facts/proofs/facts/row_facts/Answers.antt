use Rattle.std.proofs.Common.{rules, sym, ◌∙◌, get_or}
use Rattle.std.specs.Prelude.{not, bit_and, ◌==◌}
use Rattle.set_facts.proofs.Kept.{facts_kept}
use Rattle.set_facts.proofs.facts.row_facts.Goals as goal

pub returns : goal.returns
returns c = (λ i. record {
  dsorg = c.number_at.ensures i;
  created = c.day_at.ensures i;
  expires = c.day_at-2.ensures i;
  referred = c.day_at-3.ensures i;
  extents = c.args.extents;
  tracks = c.args.tracks;
  changed = not (bit_and (get_or c.args.f1.now 93 0) 2 == 0);
  alloc_kind = c.alloc_kind.ensures i;
  sequence = (c.from.ensures ∙ c.number_at-2.ensures) i;
}) ∙ sym (facts_kept c.args.f1.now (search rules) c.args.extents c.args.tracks)
