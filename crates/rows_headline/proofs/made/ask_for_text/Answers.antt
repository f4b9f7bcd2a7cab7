use Rattle.rows_headline.proofs.Forms.{no_journal}
use Rattle.rows_headline.proofs.made.ask_for_text.Goals as goal

pub returns-in-Ok : goal.returns-in-Ok
returns-in-Ok c = λ yes. no_journal c.args.words.now c.in-Ok.asked c.in-Ok.ensures.read (c.is_of_text.ensures yes)
