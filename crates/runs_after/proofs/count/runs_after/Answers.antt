use Rattle.std.proofs.Common.{◌⊎◌, List, [], ◌∷◌, length, ap, subst, arith}
use Rattle.free_map.specs.declared.run.Run.{Run}
use Rattle.free_map.specs.Runs.{InRuns}
use Rattle.runs_after.specs.After.{IsBeside}
use Rattle.runs_after.proofs.Moving.{to_inside, free_few, counted}
use Rattle.runs_after.proofs.count.runs_after.Goals as goal

pub beside-left-requires : goal.beside-left-requires
beside-left-requires c =
    let free = c.args.volume.now.free in
    let kept = c.runs-free.ensures.kept in
    omega (arith, kept.tracks_fit, to_inside free kept.apart kept.within c.args.from c.args.to c.requires.some c.requires.as_many c.requires.within c.requires.used c.requires.free)

pub overflow_cast-free : goal.overflow_cast-free
overflow_cast-free c =
    let free = c.args.volume.now.free in
    let kept = c.runs-free.ensures.kept in
    omega (
      arith,
      kept.tracks_fit,
      ap (λ (list : List Run). length list) c.runs-free.ensures.runs,
      free_few free kept.apart kept.within c.args.from c.args.to c.requires.some c.requires.as_many c.requires.within c.requires.used c.requires.free,
    )

pub overflow_add-free : goal.overflow_add-free
overflow_add-free c =
    let free = c.args.volume.now.free in
    let kept = c.runs-free.ensures.kept in
    omega (
      arith,
      kept.tracks_fit,
      c.beside-left.ensures.few,
      ap (λ (list : List Run). length list) c.runs-free.ensures.runs,
      free_few free kept.apart kept.within c.args.from c.args.to c.requires.some c.requires.as_many c.requires.within c.requires.used c.requires.free,
    )

pub returns : goal.returns
returns c = λ runs is.
    let free = c.args.volume.now.free in
    let kept = c.runs-free.ensures.kept in
    let from = c.args.from in
    let to = c.args.to in
    let same = c.runs-free.ensures.runs in
    let joined = subst (λ (list : List Run). IsBeside (λ track. InRuns list track ⊎ InRuns [] track) from c.beside-joined.result) same c.beside-joined.ensures.value in
    let left = subst (λ (list : List Run). IsBeside (λ track. InRuns list track ⊎ InRuns (from ∷ []) track) to c.beside-left.result) same c.beside-left.ensures.value in
    omega (
      arith,
      c.saturating_sub.ensures,
      ap (λ (list : List Run). length list) same,
      counted free kept.apart kept.within from to c.requires.some c.requires.as_many c.requires.within c.requires.used c.requires.free runs is c.beside-joined.result c.beside-left.result joined left,
    )
