use Rattle.std.proofs.Common.{◌+◌, ◌-◌, ◌≤◌, subst, sym, arith}
use Rattle.std.proofs.lemmas.List.Elements.{recursion_from_All, All-from_recursion}
use Rattle.free_map.specs.declared.run.Run.{Run}
use Rattle.free_map.specs.Free.{Free, IsFree}
use Rattle.free_map.proofs.Gives.{end_by_tracks, tracks_below}
use Rattle.free_map.proofs.map.FreeMap.take.Goals as goal

pub take_run-requires-clause-within : goal.take_run-requires-clause-within
take_run-requires-clause-within c =
    let runs = c.self.inside.runs.items in
    let usable = c.self.inside.usable in
    let last = c.args.run.first + c.args.run.len - 1 in
    let Last : Free → Type 0 = λ free. IsFree free last in
    let lt = tracks_below usable runs last (recursion_from_All (λ (run : Run). run.first + run.len ≤ usable) runs c.self.invariant.within)
    (subst Last (sym c.self.view_is) (c.requires.free last (omega (arith, c.requires.some), omega (arith, c.requires.some)))) in
    omega (arith, lt, c.self.invariant.tracks_fit)

pub invariant_of-self-2 : goal.invariant_of-self-2
invariant_of-self-2 c =
    let runs = c.self.inside.runs.items in
    let new = c.take_run.new.runs.items in
    let usable = c.self.inside.usable in
    let Ends : Run → Type 0 = λ run. run.first + run.len ≤ usable in
    let taken = c.in_ok-take_run.ensures.ok in
    record {
      tracks_fit = c.self.invariant.tracks_fit;
      some_heads = c.self.invariant.some_heads;
      heads_fit = c.self.invariant.heads_fit;
      apart = taken.apart;
      within = All-from_recursion Ends new (end_by_tracks 0 usable new taken.apart
          (λ t i. tracks_below usable runs t (recursion_from_All Ends runs c.self.invariant.within) ((taken.exact t).0 i).0));
    }
