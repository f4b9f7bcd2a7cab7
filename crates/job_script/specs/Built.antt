-- Plans whose commands are all built.
use Rattle.std.specs.Prelude.{}
use Rattle.sysin_lang.specs.Flow.{Plan, Done, Run, Set, Choose}
use Rattle.job_ops.specs.Meaning.{IsBuilt}

-- whichever way it goes, each command of it is built
abbrev pub AreBuilt : Plan → Type 0
AreBuilt Done = Unit {0}
AreBuilt (Run statement rest) = IsBuilt statement.command × AreBuilt rest
AreBuilt (Set which code rest) = AreBuilt rest
AreBuilt (Choose which op code first second) = AreBuilt first × AreBuilt second
