use Rattle.std.proofs.Common.{◌≢◌, All, codes, take}
use Rattle.run_words.proofs.given.lacks_end.Given as goal

abbrev pub invariant-loop-word : goal.invariant-loop-word
invariant-loop-word l = All (λ word. word ≢ codes "--") (take l.word-index l.words)
