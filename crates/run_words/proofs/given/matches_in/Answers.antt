use Rattle.std.proofs.Common.{map, ap, ◌∙◌}
use Rattle.clap.specs.Words.{is_simple, matches_of}
use Rattle.run_words.proofs.given.matches_in.Goals as goal

pub returns-in-Ok-clause-found : goal.returns-in-Ok-clause-found
returns-in-Ok-clause-found c =
    (c.in-Ok.ensures.matches (ap is_simple c.in_ok-command.ensures)).0 ∙ ap (λ app. matches_of app (map (λ text. text.now) c.args.texts.now)) c.in_ok-command.ensures
