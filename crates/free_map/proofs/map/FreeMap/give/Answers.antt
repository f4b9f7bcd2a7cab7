use Rattle.std.proofs.Common.{◌+◌, ◌≤◌, inl, inr, subst, sym, arith}
use Rattle.std.proofs.lemmas.List.Elements.{recursion_from_All, All-from_recursion}
use Rattle.free_map.specs.declared.run.Run.{Run}
use Rattle.free_map.specs.Free.{Free}
use Rattle.free_map.proofs.Gives.{end_by_tracks, tracks_below}
use Rattle.free_map.proofs.map.FreeMap.give.Goals as goal

pub invariant_of-self-2 : goal.invariant_of-self-2
invariant_of-self-2 c =
    let runs = c.self.inside.runs.items in
    let new = c.give_run.new.runs.items in
    let usable = c.self.inside.usable in
    let Ends : Run → Type 0 = λ run. run.first + run.len ≤ usable in
    let Fits : Free → Type 0 = λ free. c.args.run.first + c.args.run.len ≤ free.usable in
    let fits : c.args.run.first + c.args.run.len ≤ usable = subst Fits (sym c.self.view_is) c.requires.within in
    let given = c.in_ok-give_run.ensures.ok in
    record {
      tracks_fit = c.self.invariant.tracks_fit;
      some_heads = c.self.invariant.some_heads;
      heads_fit = c.self.invariant.heads_fit;
      apart = given.apart;
      within = All-from_recursion Ends new (end_by_tracks 0 usable new given.apart
          (λ t i. elim ((given.exact t).0 i) [
            | inl j ↦ tracks_below usable runs t (recursion_from_All Ends runs c.self.invariant.within) j
            | inr j ↦ omega (arith, j.1, fits)
          ]));
    }
