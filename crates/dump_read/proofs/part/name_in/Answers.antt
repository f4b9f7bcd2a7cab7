use Rattle.std.proofs.Common.{rules, ◌≤◌, refl, arith}
use Rattle.std.specs.Option.{option_copied}
use Rattle.std.proofs.lemmas.List.Elements.{All-from_get_or}
use Rattle.dump_read.specs.PartText.{IsBehind}
use Rattle.dump_read.proofs.Names.{name_wrong, front_bound}
use Rattle.dump_read.proofs.part.name_in.Goals as goal

pub returns-then-not-is_behind-clause-stops : goal.returns-then-not-is_behind-clause-stops
returns-then-not-is_behind-clause-stops c =
    let none : ¬ IsBehind (option_copied c.args.before) c.in-Some.name.now = search rules in
    (refl, name_wrong (option_copied c.args.before) c.args.bytes.now c.in-Some.name.now c.in-Some.rest.now c.in-Some.ensures.found.0 c.in-Some.ensures.found.1 none)

pub returns-clause-found : goal.returns-clause-found
returns-clause-found c =
    let behind : IsBehind (option_copied c.args.before) c.in-Some.name.now = search rules in (
      record {
        long = c.in-Some.ensures.found.1;
        bytes = front_bound c.args.bytes.now c.in-Some.name.now c.in-Some.rest.now c.in-Some.ensures.found.0 (All-from_get_or (λ b. b ≤ 255) c.args.bytes.now 0 (λ i less. omega (arith, c.type_inv.bytes i)));
        order = behind;
      },
      c.in-Some.ensures.found.0,
    )
