-- What is so of any words.
use Rattle.std.specs.Prelude.{◌≡◌, ℕ, List}
use Rattle.run_words.specs.Words.{Spells, IsRun}
use Rattle.run_words.specs.declared.given.Given.{Given}
use Rattle.run_words.specs.declared.run.Run.{Run}

-- words that ask for two runs ask for the same run twice
abbrev pub HaveOneRun : Type 0
HaveOneRun = (words : List (List ℕ)) (options others : List Given) (run other : Run)
    → Spells words options → IsRun options run → Spells words others → IsRun others other → run ≡ other
