use Rattle.std.proofs.Common.{take, length, ◌<◌, get_or, drop, ap, sym, ◌∙◌, arith, ◌≡◌, Some, length-drop}
use Rattle.std.proofs.lemmas.List.{get_or-take}
use Rattle.sysin_text.specs.Signs.{front_of}
use Rattle.sysin_text.proofs.Steps.{left_taken}
use Rattle.sysin_text.proofs.tokens.Reading.take_here.Goals as goal

pub returns-clause-some : goal.returns-clause-some
returns-clause-some c =
    let now = c.args.self.now in
    let bytes = take now.line.len now.line.text in
    let lt : now.place < length bytes = omega (arith, ap length c.tail.ensures, length-drop now.place bytes, c.in_ok-token.ensures.within.0, c.in_ok-token.ensures.within.1) in
    let same : get_or bytes now.place 0 ≡ get_or now.line.text now.place 0 = get_or-take now.line.len now.line.text now.place 0 c.requires.stands in
    let front : front_of (drop now.place bytes) ≡ Some c.in_ok-token.token = ap front_of (sym c.tail.ensures) ∙ sym c.in_ok-token.ensures.front in
    rw c.width.ensures.width (left_taken now.starts now.line.goes_on now.number now.place bytes now.rest.now c.in_ok-token.token lt (rw same c.requires.no_blank) front c.in_ok-token.ensures.within.0)
