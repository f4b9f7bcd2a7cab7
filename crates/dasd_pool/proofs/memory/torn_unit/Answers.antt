use Rattle.std.proofs.Common.{ℕ, ◌≡◌, ◌≤◌, ◌<◌, ◌+◌, ◌∙◌, ◌-◌, ◌*◌, ◌^◌, ◌/◌, List, length, min, take, drop, ap, subst, arith, length-take-le, length-drop}
use Rattle.dasd_pool.specs.Calls.{size_in, block_at, written}
use Rattle.dasd_pool.specs.Tears.{torn, trace_after, trace_first}
use Rattle.dasd_pool.proofs.Bytes.{block_fits, length-written}
use Rattle.dasd_pool.proofs.Tearing.{torn_more}
use Rattle.dasd_pool.proofs.memory.torn_unit.Goals as goal

pub loop-block-preserved : goal.loop-block-preserved
loop-block-preserved c =
    let inv = c.loop-block.invariant in
    let block = c.loop-block.block in
    let said = c.said_size-size.result in
    let size = size_in c.args.unit.now.head in
    let is_size : said ≡ size = c.said_size-size.ensures in
    let text = c.args.unit.now.blocks in
    let within : block < min (length text / size) (2 ^ 32 - 1) =
    let len : c.len.result ≡ length text = c.len.ensures in
    subst (λ (n : ℕ). block < n) (c.block_count-count.ensures ∙ (λ i. min (len i / is_size i) (2 ^ 32 - 1))) c.loop-block-test.true in
    let fits : block * size + size ≤ length text = block_fits block size (length text) (2 ^ 32 - 1) within in
    let first : take (block * said + said - block * said) (drop (block * said) c.as_slice-first.result.now) ≡ block_at size text block =
    let width : block * said + said - block * said ≡ said = omega arith in
    ap (λ (n : ℕ). take n (drop (block * said) c.as_slice-first.result.now)) width
    ∙ (λ i. take (is_size i) (drop (block * is_size i) (c.as_slice-first.ensures.same i))) in
    let out_size : length c.deref.result.now ≡ size =
    ap length c.deref.ensures.value ∙ c.in_ok-out.ensures.size ∙ ap length first ∙ length-take-le size (drop (block * size) text) (omega (arith, length-drop (block * size) text, fits)) in
    let goes : c.put_text.new.text.items ≡ written c.loop-block.text.items (block * size) c.deref.result.now =
    c.put_text.ensures ∙ ap (λ (n : ℕ). written c.loop-block.text.items (block * n) c.deref.result.now) is_size in
    record {
      same_length = ap length goes ∙ length-written c.loop-block.text.items c.deref.result.now (block * size) (omega (arith, out_size, fits, inv.same_length)) ∙ inv.same_length;
      blocks = torn_more size block c.loop-block.text.items c.put_text.new.text.items c.deref.result.now
          (λ b. torn c.args.tear (trace_after c.args.number b (trace_first (block_at size text b)) c.args.calls.now))
          goes out_size (omega (arith, fits, inv.same_length))
          (c.deref.ensures.value ∙ c.in_ok-out.ensures.torn ∙ ap (λ (l : List ℕ). torn c.args.tear (trace_after c.args.number block (trace_first l) c.args.calls.now)) first)
          inv.blocks;
    }
