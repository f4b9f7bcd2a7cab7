use Rattle.std.proofs.Common.{◌*◌, List, length, All, ap, sym, subst, arith, length-take}
use Rattle.dscb_rec.specs.declared.field.Entry5.{Entry5}
use Rattle.dscb_rec.specs.Field.{IsEntry5}
use Rattle.std.proofs.lemmas.List.Elements.{All-take, All-drop}
use Rattle.vtoc_making.proofs.fives.part.Goals as goal

pub returns-clause-few : goal.returns-clause-few
returns-clause-few c = omega (arith, ap length c.front.ensures, length-take 26 c.behind.result.now)

pub returns-clause-fits : goal.returns-clause-fits
returns-clause-fits c all =
    let P : List Entry5 → Type 0 = λ xs. All IsEntry5 xs in
    subst P (sym c.front.ensures) (All-take IsEntry5 26 c.behind.result.now (subst P (sym c.behind.ensures) (All-drop IsEntry5 (26 * c.args.number) c.args.entries.now all)))
