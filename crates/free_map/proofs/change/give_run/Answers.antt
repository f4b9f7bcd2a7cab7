use Rattle.std.proofs.Common.{◌+◌, ◌<◌, ◌≤◌, List, length, get_or, take, All, refl, ap, subst, arith}
use Rattle.std.proofs.lemmas.List.{get_or_read}
use Rattle.free_map.specs.declared.run.Run.{Run}
use Rattle.free_map.proofs.Gives.{adds_last, adds_front, adds_between}
use Rattle.free_map.proofs.change.give_run.Goals as goal

pub returns-then-place-len-clause-ok : goal.returns-then-place-len-clause-ok
returns-then-place-len-clause-ok c =
    let P : List Run → Type 0 = λ runs. All (λ run. run.first + run.len < c.args.run.first) (take c.place_of-place.result runs) in
    adds_last c.args.runs.now.items c.push.new.self.items c.args.run c.place_of-place.result c.requires.some c.requires.apart c.requires.used
    (subst P c.deref.ensures.value c.place_of-place.ensures.before) (omega arith) c.in_ok-push.ensures.items

pub returns-then-found-end-clause-ok : goal.returns-then-found-end-clause-ok
returns-then-found-end-clause-ok c =
    let P : List Run → Type 0 = λ runs. All (λ run. run.first + run.len < c.args.run.first) (take c.place_of-place.result runs) in
    adds_front c.args.runs.now.items _ c.args.run c.index-found.result.now c.place_of-place.result c.requires.some c.requires.apart (omega arith)
    c.index-found.ensures (subst P c.deref.ensures.value c.place_of-place.ensures.before) (omega (arith, c.if-found-end.true, c.end-2.ensures)) refl

pub returns-clause-ok : goal.returns-clause-ok
returns-clause-ok c =
    let runs = c.args.runs.now.items in
    let place = c.place_of-place.result in
    let found = c.index-found.result.now in
    let P : List Run → Type 0 = λ runs. All (λ run. run.first + run.len < c.args.run.first) (take place runs) in
    let Q : List Run → Type 0 = λ runs. (d : Run) → place < length runs → c.args.run.first ≤ (get_or runs place d).first + (get_or runs place d).len in
    let at = subst Q c.deref.ensures.value c.place_of-place.ensures.at in
    adds_between runs c.insert.new.self.items c.args.run place c.requires.some c.requires.apart c.requires.used
    (subst P c.deref.ensures.value c.place_of-place.ensures.before)
    (λ d lt.
    let first = ap (λ (r : Run). r.first) (get_or_read runs place found lt c.index-found.ensures d) in
    let len = ap (λ (r : Run). r.len) (get_or_read runs place found lt c.index-found.ensures d) in
    let le = at d lt in
    omega (arith, first, len, le, c.end.ensures, c.if-end-run.false))
    (λ d lt e.
    let first = ap (λ (r : Run). r.first) (get_or_read runs place found lt c.index-found.ensures d) in
    omega (arith, first, e, c.end-2.ensures, c.if-found-end.false))
    c.in_ok-insert.ensures.items
