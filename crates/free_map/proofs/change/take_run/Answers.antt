use Rattle.std.proofs.Common.{◌≡◌, ◌+◌, ◌<◌, ◌≤◌, ℕ, List, length, get_or, take, All, subst}
use Rattle.std.proofs.lemmas.Result.{on_ok_weaker}
use Rattle.free_map.specs.declared.run.Run.{Run}
use Rattle.free_map.specs.Runs.{HasTrack, InRuns, AreApart}
use Rattle.free_map.proofs.Apart.{Covers}
use Rattle.free_map.proofs.Takes.{cover_found, takes}
use Rattle.free_map.proofs.change.take_run.Goals as goal

-- what stands at the place that was looked for
abbrev IsFound : List Run → ℕ → Run → Type 0
IsFound runs place run = (d : Run) → (place < length runs) × Covers run.first run.len (get_or runs place d)

covering : (runs seen : List Run) (place : ℕ) (run : Run) → seen ≡ runs → AreApart 0 runs → 1 ≤ run.len → ((t : ℕ) → HasTrack run t → InRuns runs t)
    → All (λ before. before.first + before.len < run.first + 1) (take place seen)
    → ((d : Run) → place < length seen → run.first + 1 ≤ (get_or seen place d).first + (get_or seen place d).len) → IsFound runs place run
covering runs seen place run same apart some free before at d =
    let P : List Run → Type 0 = λ list. All (λ r. r.first + r.len < run.first + 1) (take place list) in
    let Q : List Run → Type 0 = λ list. (d : Run) → place < length list → run.first + 1 ≤ (get_or list place d).first + (get_or list place d).len in
    cover_found runs run place d apart some free (subst P same before) (subst Q same at d)

pub cut_out-requires-clause-place : goal.cut_out-requires-clause-place
cut_out-requires-clause-place c =
    (covering c.args.runs.now.items c.deref.result.now c.place_of-place.result c.args.run c.deref.ensures.value c.requires.apart c.requires.some c.requires.free
    c.place_of-place.ensures.before c.place_of-place.ensures.at c.args.run).0

pub cut_out-requires-clause-begins : goal.cut_out-requires-clause-begins
cut_out-requires-clause-begins c = λ d.
    (covering c.args.runs.now.items c.deref.result.now c.place_of-place.result c.args.run c.deref.ensures.value c.requires.apart c.requires.some c.requires.free
    c.place_of-place.ensures.before c.place_of-place.ensures.at d).1.0

pub cut_out-requires-clause-ends : goal.cut_out-requires-clause-ends
cut_out-requires-clause-ends c = λ d.
    (covering c.args.runs.now.items c.deref.result.now c.place_of-place.result c.args.run c.deref.ensures.value c.requires.apart c.requires.some c.requires.free
    c.place_of-place.ensures.before c.place_of-place.ensures.at d).1.1

pub returns-clause-ok : goal.returns-clause-ok
returns-clause-ok c =
    let run = c.args.run in
    let here = covering c.args.runs.now.items c.deref.result.now c.place_of-place.result run c.deref.ensures.value c.requires.apart c.requires.some c.requires.free
    c.place_of-place.ensures.before c.place_of-place.ensures.at run in
    on_ok_weaker c.cut_out.result
    (λ cut. takes c.args.runs.now.items c.cut_out.new.runs.items run c.place_of-place.result run here.0 c.requires.apart c.requires.some here.1 (cut run)) c.cut_out.ensures.ok
