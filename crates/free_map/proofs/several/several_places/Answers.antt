use Rattle.std.proofs.Common.{◌≡◌, ◌<◌, ℕ, List, take, ap, ◌∙◌, subst, sym, inr, arith}
use Rattle.free_map.specs.declared.run.Run.{Run}
use Rattle.free_map.specs.Free.{count_of, longest_of}
use Rattle.free_map.specs.Several.{parts_of, IsCutFront}
use Rattle.free_map.proofs.Order.{longest_permutation}
use Rattle.free_map.proofs.Fit.{place_fits}
use Rattle.free_map.proofs.several.several_places.Goals as goal

pub overflow_cast-tracks : goal.overflow_cast-tracks
overflow_cast-tracks c =
    let fits = place_fits 65535 c.args.runs.now c.args.need c.args.step c.in-Some.first c.requires.apart c.requires.within (omega (arith, c.if-need-eq0.false)) c.requires.some c.in-Some.ensures.found.place in
    omega (arith, fits, c.round_up-tracks.ensures)

pub returns-in-Some-2-clause-chosen : goal.returns-in-Some-2-clause-chosen
returns-in-Some-2-clause-chosen c =
    let sorted = c.in_ok-parts.parts.items in
    let front : c.most_runs.result.now ≡ take 16 sorted = c.most_runs.ensures ∙ ap (λ (runs : List Run). take 16 runs) c.as_slice.ensures.value in
    let cut : IsCutFront c.round_up-tracks.result c.most_runs.result.now c.in-Some-2.chosen.items = rw c.in-Some-2.is at c.in_ok-chosen.ensures.cut in
    let P : ℕ → Type 0 = λ tracks. IsCutFront tracks (take 16 sorted) c.from_vec.result in
    let Q : List Run → Type 0 = λ runs. IsCutFront c.round_up-tracks.result runs c.from_vec.result in
    let R : List Run → Type 0 = λ runs. IsCutFront c.round_up-tracks.result c.most_runs.result.now runs in
    inr (inr (record {
      some_need = omega (arith, c.if-need-eq0.false);
      no_place = c.in_default.ensures.none;
      sorted = sorted;
      order = c.in_ok-parts.ensures;
      cut = subst P c.round_up-tracks.ensures (subst Q front (subst R (sym c.from_vec.ensures) cut));
    }))

pub returns-clause-refused : goal.returns-clause-refused
returns-clause-refused c =
    let sorted = c.in_ok-parts.parts.items in
    let front : c.most_runs.result.now ≡ take 16 sorted = c.most_runs.ensures ∙ ap (λ (runs : List Run). take 16 runs) c.as_slice.ensures.value in
    let short : count_of c.most_runs.result.now < c.round_up-tracks.result = rw c.in-None.is at c.in_ok-chosen.ensures.short in
    let count = ap count_of front in
    let order = c.in_ok-parts.ensures in
    record {
      sorted = sorted;
      order = order;
      short = omega (arith, count, short, c.round_up-tracks.ensures);
      longest_is = c.longest.ensures ∙ ap longest_of c.as_slice-in-None.ensures.value ∙ longest_permutation (parts_of c.args.step c.args.runs.now) sorted order.same;
    }
