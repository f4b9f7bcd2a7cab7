use Rattle.std.proofs.Common.{◌≡◌, ◌+◌, ◌++◌, ◌∷◌, [], List, length, take, refl, sym, ap, subst, ◌∙◌, arith}
use Rattle.std.specs.List.{flat_map}
use Rattle.std.proofs.lemmas.List.{append-nil, take_all, take_more}
use Rattle.ckd_image.specs.Device.{heads_of}
use Rattle.free_map.specs.Free.{count_of, index_of}
use Rattle.vtoc_core.specs.declared.volume.Row.{Row}
use Rattle.dump_sets.specs.job_turns.job_copies.unit_change.Described.{DescribesSets}
use Rattle.job_lines.specs.declared.message.Message.{Message}
use Rattle.job_lines.specs.declared.message.Message.TheVariants as messages
use Rattle.job_ops.specs.Listing.{set_messages, listing}
use Rattle.job_ops.proofs.Extents.{pushed_next}
use Rattle.job_ops.proofs.Summaries.{no_rows, sets_next}
use Rattle.job_ops.proofs.listing.push_listing.Goals as goal

pub returns-in_err-push-clause-grows : goal.returns-in_err-push-clause-grows
returns-in_err-push-clause-grows c = ([], c.in_err-push.ensures.items ∙ sym (append-nil c.args.messages.now.items))

pub loop-row-init : goal.loop-row-init
loop-row-init c =
    let before = c.args.messages.now.items in
    let v = c.args.volume.now in
    let runs = v.free.runs in
    let line : Message = messages.Volume (record {
      serial = v.serial;
      device = v.device;
      usable = v.usable;
      free = count_of runs;
      runs = length runs;
      index = index_of runs;
    }) in
    let first : c.push.new.self.items ≡ before ++ (line ∷ []) = c.in_ok-push.ensures.items ∙ (λ i. before ++ (messages.Volume (record {
      serial = v.serial;
      device = v.device;
      usable = v.usable;
      free = c.count.ensures i;
      runs = length (c.runs.ensures.runs i);
      index = c.index.ensures i;
    }) ∷ [])) in
    ((line ∷ [], first), λ sets are. first ∙ (λ i. before ++ (line ∷ flat_map set_messages (no_rows (heads_of v.device) sets are i))))

pub returns-in_err-push_set-clause-grows : goal.returns-in_err-push_set-clause-grows
returns-in_err-push_set-clause-grows c =
    let was = c.loop-row.invariant.0 in
    let grown = c.in_err-push_set.ensures.grows in
    (was.0 ++ grown.0, pushed_next c.args.messages.now.items was.0 grown.0 c.loop-row.messages.items c.push_set.new.messages.items grown.1 was.1)

pub loop-row-preserved : goal.loop-row-preserved
loop-row-preserved c =
    let before = c.args.messages.now.items in
    let was = c.loop-row.invariant.0 in
    let grown = c.in_ok-push_set.ensures.grows in
    let v = c.args.volume.now in
    let heads = heads_of v.device in
    let runs = v.free.runs in
    let rows = c.as_slice-row-items.result.now in
    let row = c.row-item.result in
    let k = c.loop-row.row-index in
    let line : Message = messages.Volume (record {
      serial = v.serial;
      device = v.device;
      usable = v.usable;
      free = count_of runs;
      runs = length runs;
      index = index_of runs;
    }) in
    let more : take (k + 1) rows ≡ take k rows ++ row ∷ [] = take_more rows k row c.loop-row-test.true ∙ ap (λ (r : Row). take k rows ++ r ∷ []) (sym c.row-item.is) in (
      (was.0 ++ grown.0, pushed_next before was.0 grown.0 c.loop-row.messages.items c.push_set.new.messages.items grown.1 was.1),
      λ sets are.
          sets_next before line heads (take k rows) row c.loop-row.messages.items c.push_set.new.messages.items c.loop-row.invariant.1 c.in_ok-push_set.ensures.listed sets
          (subst (λ (l : List Row). DescribesSets heads l sets) more are),
    )

pub returns-clause-grows : goal.returns-clause-grows
returns-clause-grows c = c.loop-row.invariant.0

pub returns-clause-listed : goal.returns-clause-listed
returns-clause-listed c described d =
    let before = c.args.messages.now.items in
    let v = c.args.volume.now in
    let heads = heads_of v.device in
    let runs = v.free.runs in
    let all : take c.loop-row.row-index c.as_slice-row-items.result.now ≡ v.rows =
    take_all c.loop-row.row-index c.as_slice-row-items.result.now (omega (arith, c.loop-row-test.false)) ∙ c.as_slice-row-items.ensures in
    let told = c.loop-row.invariant.1 described.sets (subst (λ (l : List Row). DescribesSets heads l described.sets) (sym all) d.sets_are) in (
      listing described runs,
      told ∙ (λ i. before ++ (messages.Volume (record {
        serial = sym d.serial_is i;
        device = sym d.device_is i;
        usable = sym d.usable_is i;
        free = count_of runs;
        runs = length runs;
        index = index_of runs;
      }) ∷ flat_map set_messages described.sets)),
      (runs, d.free_are, refl),
    )
