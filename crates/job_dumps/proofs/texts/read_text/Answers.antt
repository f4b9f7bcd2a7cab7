use Rattle.std.proofs.Common.{◌∙◌}
use Rattle.job_dumps.proofs.Slots.{read_stands}
use Rattle.job_dumps.proofs.texts.read_text.Goals as goal

pub returns-in-Ok-clause-stands : goal.returns-in-Ok-clause-stands
returns-in-Ok-clause-stands g c = read_stands c.args.device c.of-at.result c.read_slot.new.buf c.in-Ok.text (c.read_slot.auto.buf ∙ c.requires.size ∙ c.requires.device) c.in-Ok.ensures.read
