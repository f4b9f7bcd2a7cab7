use Rattle.std.proofs.Common.{sym}
use Rattle.volume_model.proofs.Formats.{format_is_3, format_is_4, format_is_5, format_is_broken}
use Rattle.volume_model.proofs.format.Format.of.Goals as goal

pub returns-in-Ok-F3 : goal.returns-in-Ok-F3
returns-in-Ok-F3 c =
    let read = rw c.in-Ok-F3.field-0-is at c.in-Ok-F3.ensures.read in
    sym (format_is_3 c.args.bytes.now c.told-bytes read.1 read.2)

pub returns-in-Ok-F4 : goal.returns-in-Ok-F4
returns-in-Ok-F4 c =
    let read = rw c.in-Ok-F4.field-0-is at c.in-Ok-F4.ensures.read in
    sym (format_is_4 c.args.bytes.now c.told-bytes read.1 read.2)

pub returns-in-Ok-F5 : goal.returns-in-Ok-F5
returns-in-Ok-F5 c =
    let read = rw c.in-Ok-F5.field-0-is at c.in-Ok-F5.ensures.read in
    sym (format_is_5 c.args.bytes.now c.told-bytes read.1 read.2)

pub returns-in-Err : goal.returns-in-Err
returns-in-Err c = sym (format_is_broken c.args.bytes.now c.in-Err.field-0 c.told-bytes c.in-Err.ensures.refused)
