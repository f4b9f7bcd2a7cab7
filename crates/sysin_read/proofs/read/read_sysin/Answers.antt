use Rattle.std.proofs.Common.{◌+◌, ◌≤◌, ℕ, List, [], ◌∷◌, ◌++◌, sym, ap, ◌∙◌, append-nil, arith}
use Rattle.sysin_text.specs.declared.token.Placed.{Placed}
use Rattle.sysin_text.specs.Tokens.{tokens_of}
use Rattle.sysin_read.proofs.Columns.{stands_in}
use Rattle.sysin_read.proofs.Places.{end_of_last, refusal_at, refusal_at_end, read_text, further}
use Rattle.sysin_read.proofs.read.read_sysin.Goals as goal

pub returns-in-Err-clause-refused : goal.returns-in-Err-clause-refused
returns-in-Err-clause-refused c =
    let i = c.each.invariant in
    let e = i.1 ∙ ap (λ (l : List Placed). i.0 ++ l) c.in-Some.ensures.some in
    refusal_at (tokens_of c.args.text.now) i.0 c.in-Some.placed c.take.new.self c.each.reading c.in-Err.stop c.fault.result e i.2 i.3 c.in-Err.ensures.refused c.fault.ensures

pub overflow_add-column : goal.overflow_add-column
overflow_add-column c =
    let i = c.each.invariant in
    let e = i.1 ∙ ap (λ (l : List Placed). i.0 ++ l) c.in-Some.ensures.some in
    let column : c.in-Some.placed.column ≤ 72 = stands_in c.args.text.now i.0 c.in-Some.placed c.take.new.self e in
    let width : c.width.result ≤ 72 = c.width.ensures.short in
    omega (arith, column, width)

pub each-preserved : goal.each-preserved
each-preserved c =
    let i = c.each.invariant in
    let e = i.1 ∙ ap (λ (l : List Placed). i.0 ++ l) c.in-Some.ensures.some in
    let f = further (tokens_of c.args.text.now) i.0 c.in-Some.placed c.take.new.self c.each.reading c.in-Ok.new e i.2 c.in-Ok.ensures.taken i.3 in
    let end = end_of_last i.0 c.in-Some.placed in (
      i.0 ++ c.in-Some.placed ∷ [],
      f.0,
      f.1,
      f.2,
      sym (ap (λ (p : ℕ × ℕ). p.0) end),
      ap (λ (w : ℕ). c.in-Some.placed.column + w) c.width.ensures.width ∙ sym (ap (λ (p : ℕ × ℕ). p.1) end),
    )

pub returns-in-Ok-finish-clause-read : goal.returns-in-Ok-finish-clause-read
returns-in-Ok-finish-clause-read c =
    let i = c.each.invariant in
    let e = i.1 ∙ ap (λ (l : List Placed). i.0 ++ l) c.in_default.ensures.none.0 ∙ append-nil i.0 in
    read_text (tokens_of c.args.text.now) i.0 c.each.reading c.in-Ok-finish.script e i.2 c.in-Ok-finish.ensures.given

pub returns-in-Err-finish-clause-refused : goal.returns-in-Err-finish-clause-refused
returns-in-Err-finish-clause-refused c =
    let i = c.each.invariant in
    let e = i.1 ∙ ap (λ (l : List Placed). i.0 ++ l) c.in_default.ensures.none.0 ∙ append-nil i.0 in
    refusal_at_end (tokens_of c.args.text.now) i.0 c.each.reading c.each.line c.each.column c.in-Err-finish.stop c.fault-in-Err-finish.result e i.2 i.4 i.5 c.in-Err-finish.ensures.early
    c.fault-in-Err-finish.ensures
