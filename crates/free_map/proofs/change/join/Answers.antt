use Rattle.std.proofs.Common.{◌≡◌, ◌+◌, List, set, refl, ap, subst, sym, arith}
use Rattle.std.proofs.lemmas.List.{get_or_read}
use Rattle.free_map.specs.declared.run.Run.{Run}
use Rattle.free_map.proofs.Gives.{adds_back_of, adds_joining}
use Rattle.free_map.proofs.change.join.Goals as goal

pub returns-then-place-len : goal.returns-then-place-len
returns-then-place-len c =
    let runs = c.args.runs.now.items in
    let found = c.index-found.result.now in
    let touch : found.first + found.len ≡ c.args.run.first =
    (let P : Run → Type 0 = λ r. r.first + r.len ≡ c.args.run.first in subst P (sym c.index-found.ensures) (c.requires.touches found)) in
    adds_back_of runs _ c.args.run found c.args.place c.requires.some c.requires.apart c.requires.place c.index-found.ensures touch (λ d lt. absurd (omega arith)) refl

pub returns-then-end-next : goal.returns-then-end-next
returns-then-end-next c =
    let runs = c.args.runs.now.items in
    let found = c.index-found.result.now in
    let touch : found.first + found.len ≡ c.args.run.first =
    (let P : Run → Type 0 = λ r. r.first + r.len ≡ c.args.run.first in subst P (sym c.index-found.ensures) (c.requires.touches found)) in
    adds_back_of runs _ c.args.run found c.args.place c.requires.some c.requires.apart c.requires.place c.index-found.ensures touch
    (λ d lt. let same = ap (λ (r : Run). r.first) (get_or_read runs (c.args.place + 1) c.index-next.result.now lt c.index-next.ensures d) in
    omega (arith, same, c.end.ensures, c.if-end-next.true)) refl

pub returns : goal.returns
returns c =
    let runs = c.args.runs.now.items in
    let found = c.index-found.result.now in
    let touch : found.first + found.len ≡ c.args.run.first =
    (let P : Run → Type 0 = λ r. r.first + r.len ≡ c.args.run.first in subst P (sym c.index-found.ensures) (c.requires.touches found)) in
    adds_joining runs _ c.args.run found c.index-next.result.now c.args.place c.requires.some c.requires.apart c.requires.used (omega arith)
    c.index-found.ensures c.index-next.ensures touch (omega (arith, c.end.ensures, c.if-end-next.false))
    (ap (λ (list : List Run). set list c.args.place (record { first = found.first; len = found.len + c.args.run.len + c.index-next.result.now.len })) c.remove.ensures.items)
