use Rattle.std.proofs.Common.{take}
use Rattle.sysin_text.specs.Lines.{HasNoFeed}
use Rattle.sysin_text.proofs.line.split_feed.Given as goal

abbrev pub invariant-loop-at : goal.invariant-loop-at
invariant-loop-at l = HasNoFeed (take l.at l.text)
