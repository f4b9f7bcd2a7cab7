use Rattle.step_plans.proofs.Fields.{copied_name, copied_code, fields_copied}
use Rattle.step_plans.proofs.rows.copied_format_1.Goals as goal

pub returns-clause-name : goal.returns-clause-name
returns-clause-name c =
    copied_name c.args.f1.now c.args.name.now c.put_over.new.bytes c.put_over-2.new.bytes (record { text = c.args.serial.now }) c.told-f1 c.told-name c.told-serial c.put_over.ensures c.put_over-2.ensures

pub returns-clause-code : goal.returns-clause-code
returns-clause-code c =
    copied_code c.args.f1.now c.args.name.now c.put_over.new.bytes c.put_over-2.new.bytes (record { text = c.args.serial.now }) c.told-f1 c.told-name c.told-serial c.put_over.ensures c.put_over-2.ensures

pub returns-clause-fields : goal.returns-clause-fields
returns-clause-fields c =
    fields_copied c.args.f1.now c.args.name.now c.put_over.new.bytes c.put_over-2.new.bytes (record { text = c.args.serial.now }) c.told-f1 c.told-name c.told-serial c.put_over.ensures c.put_over-2.ensures
