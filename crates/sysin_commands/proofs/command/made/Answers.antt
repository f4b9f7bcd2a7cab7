use Rattle.std.proofs.Common.{rules, ap, ◌∙◌}
use Rattle.sysin_commands.specs.Command.{takes_all}
use Rattle.sysin_commands.specs.CommandProgress.{form_with}
use Rattle.sysin_commands.proofs.Making.{not_made, some_made, none_made}
use Rattle.sysin_commands.proofs.command.made.Goals as goal

pub returns-then-not-fits-clause-none : goal.returns-then-not-fits-clause-none
returns-then-not-fits-clause-none c =
    not_made c.args.verb c.args.operands c.form_with-form.result c.fits.result (c.form_with-form.ensures ∙ ap (form_with c.args.verb) c.as_slice.ensures)
    (c.fits.ensures ∙ ap (takes_all c.form_with-form.result) c.as_slice-2.ensures) (search rules)

pub returns-clause-some : goal.returns-clause-some
returns-clause-some c =
    some_made c.args.verb c.args.operands c.form_with-form.result c.fits.result c.command_of.result (c.form_with-form.ensures ∙ ap (form_with c.args.verb) c.as_slice.ensures)
    (c.fits.ensures ∙ ap (takes_all c.form_with-form.result) c.as_slice-2.ensures) (search rules) c.command_of.ensures.made

pub returns-clause-none : goal.returns-clause-none
returns-clause-none c =
    none_made c.args.verb c.args.operands c.form_with-form.result c.command_of.result (c.form_with-form.ensures ∙ ap (form_with c.args.verb) c.as_slice.ensures) c.command_of.ensures.none
