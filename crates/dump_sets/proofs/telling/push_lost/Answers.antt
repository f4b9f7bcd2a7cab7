use Rattle.std.proofs.Common.{◌≡◌, ℕ, ◌<◌, length, get_or, sym, ap, ◌∙◌, arith}
use Rattle.std.proofs.lemmas.List.{length_push, append-nil, take_all}
use Rattle.std.proofs.lemmas.Slice.Zip.{zip_turn, zip_end}
use Rattle.dd_names.specs.declared.dd.DdName.{DdName}
use Rattle.dump_sets.proofs.Tellings.{lost_added, not_lost_added, lost_same, no_name}
use Rattle.dump_sets.proofs.telling.push_lost.Given.{Over}
use Rattle.dump_sets.proofs.telling.push_lost.Goals.{In-Some}
use Rattle.dump_sets.proofs.telling.push_lost.Goals as goal

-- the name and the place of a turn are those behind the ones before it
turn : (g : Over) (c : In-Some g)
    → (length c.loop-name.yielded < length c.args.names.now) × (length c.loop-name.yielded < length c.args.places.now)
    × ((d : DdName) → c.in-Some.name.now ≡ get_or c.args.names.now (length c.loop-name.yielded) d) × ((d : ℕ) → c.in-Some.place.now ≡ get_or c.args.places.now (length c.loop-name.yielded) d)
turn g c =
    zip_turn c.args.names.now c.args.places.now c.loop-name.yielded c.into_iter-name-iterator.result c.loop-name.name-iterator c.next.new.self c.next.result
    (ap (λ s. s.a.rest.now) c.into_iter-name-iterator.ensures.into_iter_gives ∙ ap (λ s. s.rest.now) c.zip-name-items.ensures.first ∙ c.iter.ensures.rest)
    (ap (λ s. s.b.rest.now) c.into_iter-name-iterator.ensures.into_iter_gives ∙ c.zip-name-items.ensures.second.0)
    c.loop-name.yielded_by (c.in-Some.name, c.in-Some.place) c.in-Some.is c.next.ensures.steps

pub loop-name-init : goal.loop-name-init
loop-name-init g c = sym (append-nil c.args.said.now.items)

pub bounds-outs-place : goal.bounds-outs-place
bounds-outs-place g c =
    let t = turn g (goal.at.bounds-outs-place g c).In-Some in
    rw (t.3 0) (c.requires.within (length c.loop-name.yielded) 0 t.1)

pub loop-name-preserved-in-Continue-1 : goal.loop-name-preserved-in-Continue-1
loop-name-preserved-in-Continue-1 g c =
    let t = turn g (goal.at.loop-name-preserved-in-Continue-1 g c).In-Some in
    rw (length_push c.loop-name.yielded (c.in-Some.name, c.in-Some.place), c.in_ok-push.ensures.items)
    (lost_added _ c.args.outs.now c.args.names.now c.args.places.now (length c.loop-name.yielded) c.in-Some.name.now c.in-Some.place.now c.index-outs-place.result
    t.0 t.1 (t.2 no_name) (t.3 0) (rw (← t.3 0) at (c.requires.within (length c.loop-name.yielded) 0 t.1))
    (sym (lost_same _) ∙ sym c.if-eq.ensures) c.args.said.now.items c.loop-name.said.items c.loop-name.invariant)

pub loop-name-preserved : goal.loop-name-preserved
loop-name-preserved g c =
    let t = turn g (goal.at.loop-name-preserved g c).In-Some in
    rw (length_push c.loop-name.yielded (c.in-Some.name, c.in-Some.place))
    (not_lost_added _ c.args.outs.now c.args.names.now c.args.places.now (length c.loop-name.yielded) c.in-Some.name.now c.in-Some.place.now c.index-outs-place.result
    t.0 t.1 (t.2 no_name) (t.3 0) (rw (← t.3 0) at (c.requires.within (length c.loop-name.yielded) 0 t.1))
    (sym (lost_same _) ∙ sym c.if-eq.ensures) c.args.said.now.items c.loop-name.said.items c.loop-name.invariant)

pub returns : goal.returns
returns g c =
    let ends =
    zip_end c.args.names.now c.args.places.now c.loop-name.yielded c.into_iter-name-iterator.result c.loop-name.name-iterator c.next.new.self c.next.result
    (ap (λ s. s.a.rest.now) c.into_iter-name-iterator.ensures.into_iter_gives ∙ ap (λ s. s.rest.now) c.zip-name-items.ensures.first ∙ c.iter.ensures.rest)
    (ap (λ s. s.b.rest.now) c.into_iter-name-iterator.ensures.into_iter_gives ∙ c.zip-name-items.ensures.second.0)
    c.loop-name.yielded_by c.in-None.is c.next.ensures.steps in
    let all = take_all (length c.loop-name.yielded) c.args.names.now (omega (arith, ends, c.requires.count)) in
    let as_all = take_all (length c.loop-name.yielded) c.args.places.now (omega (arith, ends, c.requires.count)) in
    rw (all, as_all) at c.loop-name.invariant
