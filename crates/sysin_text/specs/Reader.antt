-- What a reader has left.
use Rattle.std.specs.Prelude.{List, take}
use Rattle.sysin_text.specs.declared.token.Placed.{Placed}
use Rattle.sysin_text.specs.declared.tokens.Reading.{Reading}
use Rattle.sysin_text.specs.Left.{tokens_behind, tokens_left}

-- the tokens that are left of its line
abbrev pub tokens_here : Reading → List Placed
tokens_here reading = tokens_behind reading.number reading.place (take reading.line.len reading.line.text)

-- the tokens that are left of its text
abbrev pub left_of : Reading → List Placed
left_of reading =
    tokens_left reading.starts reading.number reading.place (take reading.line.len reading.line.text) reading.line.goes_on reading.rest.now
