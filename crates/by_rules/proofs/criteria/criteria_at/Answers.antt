use Rattle.std.proofs.Common.{List, refl, sym, subst, ◌-◌, length}
use Rattle.std.proofs.lemmas.Result.{err_from_is_err_and}
use Rattle.by_rules.specs.declared.criterion.Criterion.{Criterion}
use Rattle.by_rules.specs.Token.{symbol_of, tokens_of}
use Rattle.by_rules.specs.Grammar.{Spell}
use Rattle.by_rules.proofs.Reader as reader
use Rattle.by_rules.proofs.criteria.criteria_at.Goals as goal

pub returns-in_err-take-clause-refused : goal.returns-in_err-take-clause-refused
returns-in_err-take-clause-refused c =
    let p = err_from_is_err_and c.from_residual.result c.from_residual.ensures.1 in
    rw (p.1, p.2) (reader.is_refused c.args.text.now c.tokens.rest.now c.in-Some.behind.now c.tokens.reading (symbol_of c.in-Some.token) (length c.args.text.now - length c.tokens.rest.now) c.in_err-take.field-0.0
    c.tokens.invariant c.in-Some.ensures.found refl c.in_err-take.ensures.refused)

pub tokens-preserved : goal.tokens-preserved
tokens-preserved c =
    reader.more_read c.args.text.now c.tokens.rest.now c.in-Some.behind.now c.tokens.reading c.take.new.self (symbol_of c.in-Some.token)
    c.tokens.invariant c.in-Some.ensures.found c.in-Some.ensures.bytes.0 c.in_ok-take.ensures.taken

pub returns-then-not-has_ended-clause-refused : goal.returns-then-not-has_ended-clause-refused
returns-then-not-has_ended-clause-refused c =
    reader.ends_early c.args.text.now c.tokens.rest.now c.tokens.reading c.tokens.invariant c.in_default.ensures.none
    (λ ended. let done = c.if-not-has_ended.ensures.1 ended in cc)

pub returns-clause-read : goal.returns-clause-read
returns-clause-read c =
    let P : List Criterion → Type 0 = λ criteria. Spell (tokens_of c.args.text.now) criteria in
    subst P (sym c.into_criteria.ensures) (reader.is_spelled c.args.text.now c.tokens.rest.now c.tokens.reading c.tokens.invariant c.in_default.ensures.none (c.if-not-has_ended.ensures.0 refl))
