use Rattle.desk_text.proofs.Pieces.{more, from_none}
use Rattle.desk_text.specs.Answers.{head_text}
use Rattle.desk_text.proofs.head.AnswerHead.of.Goals as goal

pub returns : goal.returns
unfolding head_text
returns c = from_none (more c.push_status.ensures.text (more c.push_body_lines.ensures.text c.push.ensures.text)) c.new-head.ensures
