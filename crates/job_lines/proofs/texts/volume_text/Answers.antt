use Rattle.std.specs.Prelude.{string_bytes}
use Rattle.std.proofs.lemmas.Result.{IfOk-weaker}
use Rattle.job_lines.proofs.Pieces.{volume_together}
use Rattle.job_lines.proofs.texts.volume_text.Goals as goal

pub returns : goal.returns
returns c =
    IfOk-weaker c.format.result _ _
    (λ text is. volume_together (string_bytes text) (string_bytes c.in_ok-serial.serial) c.device_name-device.result.now c.args.volume is c.in_ok-serial.ensures c.device_name-device.ensures)
    c.format.ensures.ok
