use Rattle.std.proofs.Common.{◌≤◌, List, get_or, All, ap, subst, sym, arith}
use Rattle.std.proofs.lemmas.List.{take_all}
use Rattle.std.proofs.lemmas.List.Elements.{All-more}
use Rattle.free_map.specs.declared.run.Run.{Run}
use Rattle.free_map.specs.Place.{rounded, aligned_part, IsLowestPlace}
use Rattle.free_map.specs.Runs.{InRuns}
use Rattle.free_map.proofs.Fit.{IsShort, lowest_place, no_place}
use Rattle.free_map.proofs.places.lowest_place.Goals as goal

pub loop-run-preserved : goal.loop-run-preserved
loop-run-preserved c =
    let zero : Run = record { first = 0; len = 0 } in
    let short : IsShort c.args.step (rounded c.args.need c.args.step) (get_or c.args.runs.now c.loop-run.run-index zero) =
    (let len = ap (λ (r : Run). r.len) c.aligned-part.ensures in
    omega (arith, len, c.from.ensures, c.round_up-tracks.ensures, c.if-tracks-from.false)) in
    All-more (IsShort c.args.step (rounded c.args.need c.args.step)) c.args.runs.now c.loop-run.run-index zero c.loop-run-test.true c.loop-run.invariant short

pub returns-then-tracks-from-clause-found : goal.returns-then-tracks-from-clause-found
returns-then-tracks-from-clause-found c =
    let zero : Run = record { first = 0; len = 0 } in
    let run = get_or c.args.runs.now c.loop-run.run-index zero in
    let le : rounded c.args.need c.args.step ≤ (aligned_part c.args.step run).len =
    (let len = ap (λ (r : Run). r.len) c.aligned-part.ensures in
    omega (arith, len, c.from.ensures, c.round_up-tracks.ensures, c.if-tracks-from.true)) in
    let P : Run → Type 0 = λ part. IsLowestPlace (InRuns c.args.runs.now) c.args.need c.args.step part.first in
    subst P (sym c.aligned-part.ensures)
    (lowest_place c.args.runs.now c.args.need c.args.step c.loop-run.run-index zero c.requires.apart c.requires.need c.requires.some c.loop-run-test.true c.loop-run.invariant le)

pub returns-clause-none : goal.returns-clause-none
returns-clause-none c =
    let Short : Run → Type 0 = IsShort c.args.step (rounded c.args.need c.args.step) in
    let P : List Run → Type 0 = λ runs. All Short runs in
    no_place c.args.runs.now c.args.need c.args.step c.requires.apart c.requires.need c.requires.some
    (subst P (take_all c.loop-run.run-index c.args.runs.now c.loop-run-test.false) c.loop-run.invariant)
