use Rattle.std.proofs.Common.{rules, ◌≤◌, refl, arith}
use Rattle.std.specs.Option.{option_copied}
use Rattle.std.proofs.lemmas.List.Elements.{All-from_get_or}
use Rattle.dump_read.specs.PartText.{IsBehind}
use Rattle.dump_read.proofs.Names.{name_cut, name_cut_wrong}
use Rattle.dump_read.proofs.part.cut_name.Goals as goal

pub returns-then-is_behind : goal.returns-then-is_behind
returns-then-is_behind c =
    let behind : IsBehind (option_copied c.args.before) c.filled_up.result = search rules in
    (c.requires, name_cut (option_copied c.args.before) c.args.bytes.now c.filled_up.result c.requires (All-from_get_or (λ b. b ≤ 255) c.args.bytes.now 0 (λ i less. omega (arith, c.type_inv.bytes i))) c.filled_up.ensures behind)

pub returns : goal.returns
returns c =
    let none : ¬ IsBehind (option_copied c.args.before) c.filled_up.result = search rules in
    (refl, name_cut_wrong (option_copied c.args.before) c.args.bytes.now c.filled_up.result c.requires c.filled_up.ensures none)
