use Rattle.std.proofs.Common.{◌≡◌, ℕ, ◌<◌, ◌≤◌, List, [], ◌∷◌, ◌++◌, length, Option, Some, None, sym, ap, subst, ◌∙◌, arith}
use Rattle.std.specs.Prelude.{IfSome, IfNone}
use Rattle.volume_model.specs.declared.place.Placed.{Placed}
use Rattle.volume_model.specs.Dscbs.{pointer_in}
use Rattle.volume_model.specs.Directory.{named_record}
use Rattle.vtoc_check.specs.Reach.{record_in}
use Rattle.vtoc_layout.specs.Layout.{IsLinked}
use Rattle.layout_found.proofs.Gathered.{IsGathered, gather_begins, gather_more, gather_ends, gather_over}
use Rattle.layout_found.proofs.linked.add_linked.Goals as goal

pub loop-step-init : goal.loop-step-init
loop-step-init c =
    gather_begins c.args.directory.now.heads c.args.directory.now.records.items c.args.bytes.now c.args.found.now c.target-at.result c.target-at.ensures.found c.target-at.ensures.none

pub loop-step-preserved : goal.loop-step-preserved
loop-step-preserved c =
    let heads = c.args.directory.now.heads in
    let items = c.args.directory.now.records.items in
    let Found : List Placed → Type 0 = λ records.
    IfSome c.target-at-in-loop-step.result (λ j. (j < length items) × (named_record heads items (pointer_in (record_in records c.in-Some.index).bytes) ≡ Some (record_in items j))) in
    let Lost : List Placed → Type 0 = λ records. IfNone c.target-at-in-loop-step.result (named_record heads items (pointer_in (record_in records c.in-Some.index).bytes) ≡ None) in
    let P : Option ℕ → Type 0 = λ at. IsGathered heads items c.args.bytes.now c.args.found.now c.loop-step.step c.loop-step.found at in
    gather_more heads items c.args.bytes.now c.args.found.now c.loop-step.step c.loop-step.found c.push.new.self c.in-Some.index c.target-at-in-loop-step.result
    (c.in_ok-push.ensures.ok ∙ ap (λ (records : List Placed). c.loop-step.found ++ record_in records c.in-Some.index ∷ []) c.requires) (subst Found c.requires c.target-at-in-loop-step.ensures.found)
    (subst Lost c.requires c.target-at-in-loop-step.ensures.none) (subst P c.in-Some.is c.loop-step.invariant)

pub returns-in_default : goal.returns-in_default
returns-in_default c =
    let heads = c.args.directory.now.heads in
    let P : Option ℕ → Type 0 = λ at. IsGathered heads c.args.directory.now.records.items c.args.bytes.now c.args.found.now c.loop-step.step c.loop-step.found at in
    let Q : List Placed → Type 0 = λ records. (linked : List Placed) → IsLinked heads records c.args.bytes.now linked → length linked ≤ length records → c.loop-step.found ≡ c.args.found.now ++ linked in
    subst Q (sym c.requires) (gather_ends heads c.args.directory.now.records.items c.args.bytes.now c.args.found.now c.loop-step.step c.loop-step.found (subst P c.in_default.is c.loop-step.invariant))

pub returns : goal.returns
returns c =
    let heads = c.args.directory.now.heads in
    let Q : List Placed → Type 0 = λ records. (linked : List Placed) → IsLinked heads records c.args.bytes.now linked → length linked ≤ length records → c.loop-step.found ≡ c.args.found.now ++ linked in
    subst Q (sym c.requires)
    (gather_over heads c.args.directory.now.records.items c.args.bytes.now c.args.found.now c.loop-step.step c.loop-step.found c.loop-step.at (omega (arith, c.loop-step-test.false, ap length c.requires)) c.loop-step.invariant)
