use Rattle.std.proofs.Common.{◌≡◌, true, sym, ap, ◌∙◌}
use Rattle.by_rules.specs.Token.{begins_word}
use Rattle.by_rules.proofs.Tokens.{word_at}
use Rattle.by_rules.proofs.token.token_at.Goals as goal

pub returns-clause-found : goal.returns-clause-found
returns-clause-found c =
    let begins : begins_word c.args.text.now ≡ true = ap begins_word c.in_ok-first.ensures.cases.0 ∙ (sym c.is_word_byte.ensures ∙ c.if-not-is_word_byte.false) in
    word_at c.args.text.now c.split_word.result.0.now c.split_word.result.1.now begins c.split_word.ensures.split c.split_word.ensures.word c.split_word.ensures.ends
