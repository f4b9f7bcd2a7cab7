use Rattle.std.proofs.Common.{◌≡◌, ◌∙◌, ℕ, length, min, replicate, false, ap, ◌/◌, ◌^◌, ◌-◌}
use Rattle.dasd_pool.specs.Marks.{unmarked}
use Rattle.dasd_pool.specs.Calls.{size_in}
use Rattle.dasd_pool.proofs.Marking.{marks_more}
use Rattle.dasd_pool.proofs.marks.Marks.new.Goals as goal

pub loop-unit-preserved : goal.loop-unit-preserved
loop-unit-preserved c =
    let line : c.in_ok-vec.field-0.items ≡ unmarked c.unit-item.result =
    let size : c.said_size.result ≡ size_in c.unit-item.result.head = c.said_size.ensures in
    let len : c.len.result ≡ length c.unit-item.result.blocks = c.len.ensures in
    c.in_ok-vec.ensures.items_if_clones_equal (λ y is. is)
    ∙ ap (λ (n : ℕ). replicate n false) (c.block_count-count.ensures ∙ (λ i. min (len i / size i) (2 ^ 32 - 1))) in
    marks_more c.args.units.now c.loop-unit.written.items _ c.loop-unit.unit-index c.unit-item.result c.in_ok-vec.field-0 c.loop-unit-test.true c.unit-item.is line
    c.in_ok-push.ensures.items c.loop-unit.invariant
