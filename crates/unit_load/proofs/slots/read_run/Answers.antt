use Rattle.std.proofs.Common.{◌≡◌, ℕ, ◌+◌, ◌*◌, List, ◌++◌, length, sym, ap, subst, ◌∙◌, refl, arith, length-append}
use Rattle.dasd_pool.specs.Disk.{Shape, State}
use Rattle.unit_load.specs.Hand.{with_hand}
use Rattle.unit_load.proofs.Reading.{reads_then}
use Rattle.unit_load.proofs.Slotted.{slots_more, long_added, one_more}
use Rattle.unit_load.proofs.slots.read_run.Goals as goal

pub overflow_add-run : goal.overflow_add-run
overflow_add-run g c = omega (arith, c.requires.within, c.requires.few, c.loop-place.auto.place-end, c.loop-place-test.true)

pub returns-in_err-add_slot-clause-reads : goal.returns-in_err-add_slot-clause-reads
returns-in_err-add_slot-clause-reads g c = reads_then g.P.Pool _ _ _ c.loop-place.invariant.reads c.add_slot.ensures.reads

pub loop-place-preserved : goal.loop-place-preserved
loop-place-preserved g c =
    let inv = c.loop-place.invariant in
    let unit = c.args.unit in
    let first = c.args.run.first in
    let place = c.loop-place.place in
    let old = c.loop-place.slots.items in
    let new = c.add_slot.new.slots.items in
    let size = (g.P.Pool.shape c.args.journal.now.pool).block_size unit in
    let adds = c.in_ok-add_slot.ensures.added in
    let long : length adds.slot ≡ size = adds.long ∙ ap (λ (s : Shape). s.block_size unit) inv.reads.shape in
    record {
      reads = reads_then g.P.Pool _ _ _ inv.reads c.add_slot.ensures.reads;
      long = long_added size place old adds.slot new adds.new_is inv.long long;
      taken = λ k less.
          slots_more (λ (k : ℕ) (slot : List ℕ). first + k ≡ c.args.taken.track → slot ≡ c.args.taken.slot.now) size place k old adds.slot new adds.new_is inv.long long
          adds.as_taken inv.taken less;
      slots = λ told here k less.
          let there : c.args.taken.slot.now ≡ with_hand c.args.hand ((g.P.Pool.disk c.loop-place.journal.pool).state.contents unit) c.args.taken.track =
          subst (λ (s : State). c.args.taken.slot.now ≡ with_hand c.args.hand (s.contents unit) c.args.taken.track) (sym (inv.reads.same told)) here in
          let was = with_hand c.args.hand ((g.P.Pool.disk c.args.journal.now.pool).state.contents unit) (first + place) in
          let is : new ≡ old ++ was =
          subst (λ (s : State). new ≡ old ++ with_hand c.args.hand (s.contents unit) (first + place)) (inv.reads.same told) (c.in_ok-add_slot.ensures.read told there) in
          let whole : length new ≡ (place + 1) * size = long_added size place old adds.slot new adds.new_is inv.long long in
          let long_was : length was ≡ size = omega (arith, whole, ap length is, length-append old was, inv.long, one_more place size) in
          slots_more (λ (k : ℕ) (slot : List ℕ). slot ≡ with_hand c.args.hand ((g.P.Pool.disk c.args.journal.now.pool).state.contents unit) (first + k)) size place k old was new is inv.long long_was
          refl (inv.slots told here) less;
    }
