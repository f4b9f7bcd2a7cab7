use Rattle.std.proofs.Common.{All, ℕ, ◌≡◌, ◌<◌, ◌≤◌, ◌+◌, ◌∙◌, ◌-◌, ◌^◌, ◌/◌, [], List, length, map, min, get_or, sym, ap, subst, arith}
use Rattle.std.proofs.lemmas.List.{length_push, length-map, take_all}
use Rattle.dasd_pool.specs.declared.units.UnitText.{UnitText}
use Rattle.dasd_pool.specs.Calls.{size_in, size_of, texts_of, shape_of, block_at}
use Rattle.dasd_pool.specs.Tears.{torn, torn_image, IsSized, trace_after, trace_first}
use Rattle.dasd_pool.proofs.Texts.{map_read, torn_units_more, heads_more, lengths_more, same_shape}
use Rattle.dasd_pool.proofs.Tearing.{sized_from_kept}
use Rattle.dasd_pool.proofs.memory.torn_units.Goals as goal

pub loop-unit-preserved : goal.loop-unit-preserved
loop-unit-preserved c =
    let inv = c.loop-unit.invariant in
    let i = c.loop-unit.unit-index in
    let unit = c.unit-item.result in
    let head : get_or (map (λ (t : UnitText). t.head) c.args.first.now) i [] ≡ unit.head = map_read (λ (t : UnitText). t.head) c.args.first.now i unit [] c.loop-unit-test.true c.unit-item.is in
    let text : get_or (texts_of c.args.first.now) i [] ≡ unit.blocks = map_read (λ (t : UnitText). t.blocks) c.args.first.now i unit [] c.loop-unit-test.true c.unit-item.is in
    let size : size_of c.args.first.now i ≡ size_in unit.head = ap size_in head in
    let here : (b : ℕ) → b < (shape_of c.args.first.now).blocks i → block_at (size_of c.args.first.now i) c.in_ok-blocks.blocks b ≡ torn_image c.args.tear c.args.first.now c.args.calls.now i b =
    λ b within.
    ap (λ (n : ℕ). block_at n c.in_ok-blocks.blocks b) size
    ∙ c.in_ok-blocks.ensures.torn b (subst (λ (n : ℕ). b < min (length unit.blocks / n) (2 ^ 32 - 1)) size (subst (λ (l : List ℕ). b < min (length l / size_of c.args.first.now i) (2 ^ 32 - 1)) text within))
    ∙ (λ j. torn c.args.tear (trace_after (inv.number j) b (trace_first (block_at (sym size j) (sym text j) b)) c.args.calls.now)) in
    record {
      number = omega (arith, inv.number);
      count = ap length c.in_ok-push.ensures.items ∙ length_push c.loop-unit.units.items _ ∙ ap (λ (n : ℕ). n + 1) inv.count;
      heads = heads_more c.args.first.now c.loop-unit.units.items _ i unit c.in_ok-blocks.blocks c.loop-unit-test.true c.unit-item.is c.in_ok-push.ensures.items inv.heads;
      lengths = lengths_more c.args.first.now c.loop-unit.units.items _ i unit c.in_ok-blocks.blocks c.loop-unit-test.true c.unit-item.is c.in_ok-push.ensures.items c.in_ok-blocks.ensures.long inv.lengths;
      blocks = torn_units_more c.args.first.now c.loop-unit.units.items _ i unit c.in_ok-blocks.blocks (torn_image c.args.tear c.args.first.now c.args.calls.now) c.loop-unit-test.true c.unit-item.is inv.count
          c.in_ok-push.ensures.items here inv.blocks;
    }

pub torn_unit-requires : goal.torn_unit-requires
torn_unit-requires c =
    let i = c.loop-unit.unit-index in
    let unit = c.unit-item.result in
    let head : get_or (map (λ (t : UnitText). t.head) c.args.first.now) i [] ≡ unit.head = map_read (λ (t : UnitText). t.head) c.args.first.now i unit [] c.loop-unit-test.true c.unit-item.is in
    subst (λ (n : ℕ). All (IsSized n (size_in unit.head)) c.args.calls.now) (sym c.loop-unit.invariant.number)
    (sized_from_kept c.args.first.now i (size_in unit.head) c.args.calls.now (ap size_in head) c.requires.kept)

pub returns-clause-shape : goal.returns-clause-shape
returns-clause-shape c =
    let inv = c.loop-unit.invariant in
    let past : length c.args.first.now ≤ c.loop-unit.unit-index = omega (arith, c.loop-unit-test.false) in
    same_shape c.args.first.now c.loop-unit.units.items
    (inv.heads ∙ take_all c.loop-unit.unit-index _ (omega (arith, past, length-map c.args.first.now (λ (t : UnitText). t.head))))
    (inv.lengths ∙ take_all c.loop-unit.unit-index _ (omega (arith, past, length-map c.args.first.now (λ (t : UnitText). length t.blocks))))
