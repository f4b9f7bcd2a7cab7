use Rattle.std.proofs.Common.{◌≡◌, ◌≤◌, List, inl, inr, subst, sym, ap, ◌∙◌, arith}
use Rattle.std.proofs.lemmas.Result.{IfOk-weaker}
use Rattle.free_map.specs.declared.run.Run.{Run}
use Rattle.free_map.specs.Runs.{InRuns, AreApart}
use Rattle.free_map.specs.Free.{Free, IsFree}
use Rattle.free_map.specs.Several.{AreChosen, ArePlaces}
use Rattle.free_map.proofs.Chosen.{chosen_places}
use Rattle.free_map.proofs.map.FreeMap.several.Goals as goal

pub returns-clause-places : goal.returns-clause-places
returns-clause-places c =
    let runs = c.as_slice.result.now in
    let Apart : List Run → Type 0 = λ list. AreApart 0 list in
    let apart = subst Apart (sym c.as_slice.ensures.value) c.self.invariant.apart in
    let heads = ap (λ (free : Free). free.heads) c.self.view_is in
    let some : 1 ≤ c.args.step = elim c.requires.step [ inl e ↦ omega arith | inr e ↦ omega (arith, c.self.invariant.some_heads) ] in
    let same : runs ≡ c.args.self.now.runs = c.as_slice.ensures.value ∙ ap (λ (free : Free). free.runs) c.self.view_is in
    let Places : List Run → Type 0 = λ list. (chosen : List Run) → AreChosen runs c.args.need c.args.step chosen → ArePlaces (InRuns list) c.args.need c.args.step chosen in
    IfOk-weaker c.several_places.result (AreChosen runs c.args.need c.args.step) (ArePlaces (IsFree c.args.self.now) c.args.need c.args.step)
    (subst Places same (λ chosen h. chosen_places runs chosen c.args.need c.args.step apart some h)) c.several_places.ensures.chosen
