use Rattle.std.proofs.Common.{◌≡◌, inl, inr, ℕ, ◌<◌, length, get_or, sym, ap, ◌∙◌, arith, rules}
use Rattle.std.proofs.lemmas.Bool.{false≢true}
use Rattle.std.proofs.lemmas.List.{length_push, take_all}
use Rattle.std.proofs.lemmas.Slice.Zip.{zip_turn, zip_end}
use denote.Enum.Bare.{differs_true, differs_false}
use Rattle.dump_fmt.specs.contracts.outs.OutState.{the_type}
use Rattle.dd_names.specs.declared.dd.DdName.{DdName}
use Rattle.job_outputs.proofs.Placed.{no_name, as_many, begun_at, first_at, not_begun_at, placed_here, unused_more, within}
use Rattle.job_outputs.proofs.places.used_name.Given.{Over}
use Rattle.job_outputs.proofs.places.used_name.Goals.{In-Some, then-ne-via-then-ne, then-ne-via-else-ne+then-is_twice}
use Rattle.job_outputs.proofs.places.used_name.Goals as goal

-- the name and the place of a turn are those behind the ones before it
turn : (g : Over) (c : In-Some g)
    → (length c.loop-name.yielded < length c.args.names.now) × (length c.loop-name.yielded < length c.args.places.now)
    × ((d : DdName) → c.in-Some.name.now ≡ get_or c.args.names.now (length c.loop-name.yielded) d) × ((d : ℕ) → c.in-Some.place.now ≡ get_or c.args.places.now (length c.loop-name.yielded) d)
turn g c =
    zip_turn c.args.names.now c.args.places.now c.loop-name.yielded c.into_iter-name-iterator.result c.loop-name.name-iterator c.next.new.self c.next.result
    (ap (λ s. s.a.rest.now) c.into_iter-name-iterator.ensures.into_iter_gives ∙ ap (λ s. s.rest.now) c.zip-name-items.ensures.first ∙ c.iter.ensures.rest)
    (ap (λ s. s.b.rest.now) c.into_iter-name-iterator.ensures.into_iter_gives ∙ c.zip-name-items.ensures.second.0)
    c.loop-name.yielded_by (c.in-Some.name, c.in-Some.place) c.in-Some.is c.next.ensures.steps

pub bounds-outs-place : goal.bounds-outs-place
bounds-outs-place g c =
    let t = turn g (goal.at.bounds-outs-place g c).In-Some in
    within _ c.args.outs.now (placed_here _ c.args.names.now c.args.places.now c.requires (length c.loop-name.yielded) c.in-Some.name.now c.in-Some.place.now t.0 t.2 t.3)

pub returns-then-ne-clause-used : goal.returns-then-ne-clause-used
returns-then-ne-clause-used g c =
    let t = turn g (goal.at.returns-then-ne-clause-used g c).In-Some in
    let is = placed_here _ c.args.names.now c.args.places.now c.requires (length c.loop-name.yielded) c.in-Some.name.now c.in-Some.place.now t.0 t.2 t.3 in
    first_at _ c.args.names.now (length c.loop-name.yielded) no_name c.in-Some.name.now t.0 (t.2 no_name)
    (elim c.then-ne.branch [
      | then-ne-via-then-ne w ↦ inl (begun_at _ c.args.outs.now is c.index-outs-place.result (differs_true the_type _ _ (sym c.ne.ensures ∙ w.if-ne.true)))
      | then-ne-via-else-ne+then-is_twice w ↦ inr (w.is_twice.ensures.0 w.if-is_twice.true)
    ])
    c.loop-name.invariant

pub loop-name-preserved : goal.loop-name-preserved
loop-name-preserved g c =
    let t = turn g (goal.at.loop-name-preserved g c).In-Some in
    let is = placed_here _ c.args.names.now c.args.places.now c.requires (length c.loop-name.yielded) c.in-Some.name.now c.in-Some.place.now t.0 t.2 t.3 in
    rw (length_push c.loop-name.yielded (c.in-Some.name, c.in-Some.place))
    (unused_more _ c.args.names.now (length c.loop-name.yielded) c.in-Some.name.now t.0 (t.2 no_name)
    (not_begun_at _ c.args.outs.now is c.index-outs-place.result (differs_false the_type (search rules) _ _ (sym c.ne.ensures ∙ c.if-ne.false)))
    (λ twice. false≢true (sym c.if-is_twice.false ∙ c.is_twice.ensures.1 twice))
    c.loop-name.invariant)

pub returns-clause-none : goal.returns-clause-none
returns-clause-none g c =
    let ends =
    zip_end c.args.names.now c.args.places.now c.loop-name.yielded c.into_iter-name-iterator.result c.loop-name.name-iterator c.next.new.self c.next.result
    (ap (λ s. s.a.rest.now) c.into_iter-name-iterator.ensures.into_iter_gives ∙ ap (λ s. s.rest.now) c.zip-name-items.ensures.first ∙ c.iter.ensures.rest)
    (ap (λ s. s.b.rest.now) c.into_iter-name-iterator.ensures.into_iter_gives ∙ c.zip-name-items.ensures.second.0)
    c.loop-name.yielded_by c.in-None.is c.next.ensures.steps in
    let all = take_all (length c.loop-name.yielded) c.args.names.now (omega (arith, ends, as_many _ c.args.names.now c.args.places.now c.requires)) in
    rw all at c.loop-name.invariant
