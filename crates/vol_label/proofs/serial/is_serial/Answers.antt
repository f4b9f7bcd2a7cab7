use Rattle.vol_label.proofs.Characters.{no_serial}
use Rattle.vol_label.proofs.serial.is_serial.Goals as goal

pub returns-then-count-gt0 : goal.returns-then-count-gt0
returns-then-count-gt0 c =
    let count = c.characters_of-count in (
      λ blank. (
        count.result,
        record {
          six = c.told-text;
          some = c.if-count-gt0.true;
          few = count.ensures.within;
          characters = count.ensures.characters;
          blanks = c.is_blank_from.ensures.0 blank;
        },
      ),
      λ serial. c.is_blank_from.ensures.1 (no_serial c.args.text.now count.result count.ensures.within count.ensures.ended count.ensures.characters serial),
    )
