use Rattle.std.proofs.Common.{◌≡◌, ◌<◌, length, get_or, Option, ap, ◌∙◌, [], ◌∷◌, ◌++◌, List, arith}
use Rattle.std.proofs.lemmas.List.{length_push, append-nil}
use Rattle.std.proofs.lemmas.Slice.Zip.{zip_turn, zip_end}
use Rattle.dsn_filter.specs.declared.dsn.Dsn.{Dsn}
use Rattle.job_lines.specs.declared.message.Message.{Message}
use Rattle.job_lines.specs.declared.message.Reason.{Reason}
use Rattle.dump_sets.specs.Telling.{SaysSet}
use Rattle.dump_sets.proofs.Tellings.{SaidSoFar, none_said, one_said, all_said, reason_said, dumped_said, nothing_said, no_set, no_reason}
use Rattle.dump_sets.proofs.telling.push_sets.Goals.{In-Some}
use Rattle.dump_sets.proofs.telling.push_sets.Goals as goal

-- the name and the reason of a turn are those behind the ones before it
turn : (c : In-Some)
    → (length c.loop-name.yielded < length c.args.names.now) × (length c.loop-name.yielded < length c.args.told.now)
    × ((d : Dsn) → c.in-Some.name.now ≡ get_or c.args.names.now (length c.loop-name.yielded) d)
    × ((d : Option Reason) → c.in-Some.reason.now ≡ get_or c.args.told.now (length c.loop-name.yielded) d)
turn c =
    zip_turn c.args.names.now c.args.told.now c.loop-name.yielded c.into_iter-name-iterator.result c.loop-name.name-iterator c.next.new.self c.next.result
    (ap (λ s. s.a.rest.now) c.into_iter-name-iterator.ensures.into_iter_gives ∙ ap (λ s. s.rest.now) c.zip-name-items.ensures.first ∙ c.iter.ensures.rest)
    (ap (λ s. s.b.rest.now) c.into_iter-name-iterator.ensures.into_iter_gives ∙ c.zip-name-items.ensures.second.0)
    c.loop-name.yielded_by (c.in-Some.name, c.in-Some.reason) c.in-Some.is c.next.ensures.steps

-- the lines of a turn
added : (c : In-Some) (first : List Message) → SaysSet c.args.whole c.in-Some.name.now c.in-Some.reason.now first
    → SaidSoFar c.args.whole c.args.names.now c.args.told.now (length (c.loop-name.yielded ++ (c.in-Some.name, c.in-Some.reason) ∷ [])) c.args.said.now.items (c.loop-name.said.items ++ first)
added c first one =
    let t = turn c in
    rw (length_push c.loop-name.yielded (c.in-Some.name, c.in-Some.reason))
    (one_said _ c.args.names.now c.args.told.now (length c.loop-name.yielded) _ c.loop-name.said.items c.in-Some.name.now c.in-Some.reason.now first t.0 t.1 (t.2 no_set) (t.3 no_reason) one c.loop-name.invariant)

pub loop-name-init : goal.loop-name-init
loop-name-init c = none_said c.args.whole c.args.names.now c.args.told.now c.args.said.now.items

pub name_bytes-text-requires : goal.name_bytes-text-requires
name_bytes-text-requires c =
    let t = turn (goal.at.name_bytes-text-requires c).In-Some in
    rw (t.2 no_set) (c.requires.names (length c.loop-name.yielded) no_set t.0)

pub loop-name-preserved-in-Continue-1 : goal.loop-name-preserved-in-Continue-1
loop-name-preserved-in-Continue-1 c =
    rw c.in_ok-push-in-Some-reason.ensures.items
    (added (goal.at.loop-name-preserved-in-Continue-1 c).In-Some _
    (reason_said c.args.whole c.in-Some.name.now c.in-Some.reason.now c.in-Some-reason.reason c.name_bytes-text.result c.in-Some-reason.is c.name_bytes-text.ensures))

pub name_bytes-requires : goal.name_bytes-requires
name_bytes-requires c =
    let t = turn (goal.at.name_bytes-requires c).In-Some in
    rw (t.2 no_set) (c.requires.names (length c.loop-name.yielded) no_set t.0)

pub loop-name-preserved-then-whole : goal.loop-name-preserved-then-whole
loop-name-preserved-then-whole c =
    rw c.in_ok-push-in-None-reason.ensures.items
    (added (goal.at.loop-name-preserved-then-whole c).In-Some _
    (dumped_said c.args.whole c.in-Some.name.now c.in-Some.reason.now c.name_bytes.result c.in-None-reason.is c.if-whole.true c.name_bytes.ensures))

pub loop-name-preserved : goal.loop-name-preserved
loop-name-preserved c =
    rw append-nil at (added (goal.at.loop-name-preserved c).In-Some [] (nothing_said c.args.whole c.in-Some.name.now c.in-Some.reason.now c.in-None-reason.is c.if-whole.false))

pub returns : goal.returns
returns c =
    let ends =
    zip_end c.args.names.now c.args.told.now c.loop-name.yielded c.into_iter-name-iterator.result c.loop-name.name-iterator c.next.new.self c.next.result
    (ap (λ s. s.a.rest.now) c.into_iter-name-iterator.ensures.into_iter_gives ∙ ap (λ s. s.rest.now) c.zip-name-items.ensures.first ∙ c.iter.ensures.rest)
    (ap (λ s. s.b.rest.now) c.into_iter-name-iterator.ensures.into_iter_gives ∙ c.zip-name-items.ensures.second.0)
    c.loop-name.yielded_by c.in-None.is c.next.ensures.steps in
    all_said _ c.args.names.now c.args.told.now (length c.loop-name.yielded) _ _ (omega (arith, ends, c.requires.count)) (omega (arith, ends, c.requires.count)) c.loop-name.invariant
