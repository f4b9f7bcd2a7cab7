use Rattle.std.proofs.Common.{◌≤◌, List, subst, sym, arith}
use Rattle.free_map.specs.declared.run.Run.{Run}
use Rattle.free_map.specs.Free.{count_of}
use Rattle.free_map.proofs.Counts.{count_le}
use Rattle.free_map.proofs.map.FreeMap.count.Goals as goal

pub count-requires : goal.count-requires
count-requires c =
    let le = count_le c.self.inside.usable c.self.inside.runs.items c.self.invariant.apart c.self.invariant.within in
    let P : List Run → Type 0 = λ runs. count_of runs ≤ 65535 in
    subst P (sym c.as_slice.ensures.value) (omega (arith, le, c.self.invariant.tracks_fit))
