use Rattle.vol_label.proofs.Characters.{none_of}
use Rattle.vol_label.proofs.serial.code_of.Goals as goal

pub returns-clause-none : goal.returns-clause-none
returns-clause-none c = none_of c.args.c _ c.to_ebcdic.ensures.none
