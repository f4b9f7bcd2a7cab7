use Rattle.std.proofs.Common.{◌≡◌, length, take, sym, ap, ◌∙◌, [], ◌∷◌, ◌++◌, List, arith}
use Rattle.std.proofs.lemmas.List.{length_push, append-nil, take_all}
use Rattle.std.proofs.lemmas.Slice.Zip.{zip_turn, zip_end}
use Rattle.dsn_filter.specs.declared.dsn.Dsn.{Dsn}
use Rattle.dump_sets.specs.Telling.{taken_of}
use Rattle.dump_sets.proofs.Tellings.{taken_front, taken_one, taken_none, no_set, no_reason}
use Rattle.dump_sets.proofs.telling.taken.Goals.{In-Some}
use Rattle.dump_sets.proofs.telling.taken.Goals as goal

-- what a turn takes follows what was taken before it
turn : (c : In-Some)
    → taken_of (take (length (c.loop-name.yielded ++ (c.in-Some.name, c.in-Some.reason) ∷ [])) c.args.names.now) (take (length (c.loop-name.yielded ++ (c.in-Some.name, c.in-Some.reason) ∷ [])) c.args.told.now)
    ≡ c.loop-name.taken.items ++ taken_of (c.in-Some.name.now ∷ []) (c.in-Some.reason.now ∷ [])
turn c =
    let t =
    zip_turn c.args.names.now c.args.told.now c.loop-name.yielded c.into_iter-name-iterator.result c.loop-name.name-iterator c.next.new.self c.next.result
    (ap (λ s. s.a.rest.now) c.into_iter-name-iterator.ensures.into_iter_gives ∙ ap (λ s. s.rest.now) c.zip-name-items.ensures.first ∙ c.iter.ensures.rest)
    (ap (λ s. s.b.rest.now) c.into_iter-name-iterator.ensures.into_iter_gives ∙ c.zip-name-items.ensures.second.0)
    c.loop-name.yielded_by (c.in-Some.name, c.in-Some.reason) c.in-Some.is c.next.ensures.steps in
    rw (length_push c.loop-name.yielded (c.in-Some.name, c.in-Some.reason), c.loop-name.invariant)
    (taken_front c.args.names.now c.args.told.now (length c.loop-name.yielded) c.in-Some.name.now c.in-Some.reason.now t.0 t.1 (t.2 no_set) (t.3 no_reason))

pub loop-name-init : goal.loop-name-init
loop-name-init c = c.new-taken.ensures.items

pub loop-name-preserved-in-Continue-1 : goal.loop-name-preserved-in-Continue-1
loop-name-preserved-in-Continue-1 c =
    c.in_ok-push.ensures.items
    ∙ sym (turn (goal.at.loop-name-preserved-in-Continue-1 c).In-Some ∙ ap (λ (more : List Dsn). c.loop-name.taken.items ++ more) (taken_one c.in-Some.name.now c.in-Some.reason.now c.if-is_none.ensures))

pub loop-name-preserved : goal.loop-name-preserved
loop-name-preserved c =
    sym (turn (goal.at.loop-name-preserved c).In-Some
    ∙ ap (λ (more : List Dsn). c.loop-name.taken.items ++ more) (taken_none c.in-Some.name.now c.in-Some.reason.now c.if-is_none.ensures)
    ∙ append-nil c.loop-name.taken.items)

pub returns : goal.returns
returns c =
    let ends =
    zip_end c.args.names.now c.args.told.now c.loop-name.yielded c.into_iter-name-iterator.result c.loop-name.name-iterator c.next.new.self c.next.result
    (ap (λ s. s.a.rest.now) c.into_iter-name-iterator.ensures.into_iter_gives ∙ ap (λ s. s.rest.now) c.zip-name-items.ensures.first ∙ c.iter.ensures.rest)
    (ap (λ s. s.b.rest.now) c.into_iter-name-iterator.ensures.into_iter_gives ∙ c.zip-name-items.ensures.second.0)
    c.loop-name.yielded_by c.in-None.is c.next.ensures.steps in
    let all = take_all (length c.loop-name.yielded) c.args.names.now (omega (arith, ends, c.requires)) in
    let as_all = take_all (length c.loop-name.yielded) c.args.told.now (omega (arith, ends, c.requires)) in
    rw (all, as_all) at c.loop-name.invariant
