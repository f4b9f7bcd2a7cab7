use Rattle.std.proofs.Common.{◌∷◌, [], ◌++◌, ◌∙◌}
use Rattle.run_lines.specs.Endings.{stop_head, detail_of}
use Rattle.run_lines.proofs.Lines.{three_from_none, stop_is}
use Rattle.run_lines.proofs.ending.stop_line.Goals as goal

pub returns : goal.returns
returns c =
    let end = c.args.end in
    three_from_none c.new-line.result c.push.new.self c.push_detail.new.line c.push-2.new.self (stop_head end) (detail_of end) (10 ∷ [])
    c.new-line.ensures (c.push.ensures.text ∙ (λ i. c.new-line.result ++ c.head_of.ensures.text i)) c.push_detail.ensures.text c.push-2.ensures.text
    ∙ stop_is end c.requires
