use Rattle.std.proofs.Common.{◌≡◌, ◌∙◌, ◌≤◌, ◌<◌, ◌+◌, ◌*◌, ◌^◌, ◌-◌, ℕ, [], List, length, get_or, Bool, true, false, refl, sym, ap, subst, arith}
use Rattle.std.specs.List.{list_any}
use Rattle.std.specs.Prelude.{◌||◌, ◌==◌, ◌&&◌, not, if◌then◌else◌, slice_set, slice_index_or}
use Rattle.dasd_pool.specs.declared.calls.Call.{Call}
use Rattle.dasd_pool.specs.declared.units.UnitText.{UnitText}
use Rattle.dasd_pool.specs.Disk.{State, is_at}
use Rattle.dasd_pool.specs.Calls.{IsKept, items_of, size_of, shape_of, texts_of, image_of, written}
use Rattle.dasd_pool.specs.Marks.{is_marked}
use Rattle.dasd_pool.specs.Memory.{MemoryView, view_of, state_of, is_full, fails, write_step}
use Rattle.dasd_pool.specs.Kept.{WithWrite}
use Rattle.std.proofs.lemmas.List.{length-set}
use Rattle.dasd_pool.proofs.Bytes.{block_fits}
use Rattle.dasd_pool.proofs.Texts.{image_written, lengths_written}
use Rattle.dasd_pool.proofs.Marking.{marked_set, length_set}
use Rattle.dasd_pool.proofs.Effects.{write_state, agree_call, write_current, full_fails, is_call}
use Rattle.dasd_pool.proofs.memory.MemoryPool.write_block.Goals as goal

-- the marks after a write
marked : (units : List UnitText) (keep : ℕ) (marks new : List (List Bool)) (unit block : ℕ) → block < (shape_of units).blocks unit → (keep ≡ 0 → (u : ℕ) → length (slice_index_or marks u []) ≡ (shape_of units).blocks u)
    → new ≡ slice_set marks unit (slice_set (get_or marks unit []) block true) → keep ≡ 0 → (u b : ℕ) → is_marked new u b ≡ (if is_at unit block u b then true else is_marked marks u b)
marked units keep marks new unit block within lines is none = marked_set marks new unit block (omega (arith, within, lines none unit)) is

-- what a write that fails leaves of the bytes
stays : (failed : Bool) (bytes kept : List ℕ) (at : Bool) → failed ≡ true → kept ≡ (if not failed && at then bytes else kept)
stays failed bytes kept at is = sym (ap (λ (f : Bool). if not f && at then bytes else kept) is)

-- and one that does not
goes : (failed : Bool) (bytes kept : List ℕ) (at : Bool) → failed ≡ false → (if at then bytes else kept) ≡ (if not failed && at then bytes else kept)
goes failed bytes kept at is = sym (ap (λ (f : Bool). if not f && at then bytes else kept) is)

pub invariant_of-self : goal.invariant_of-self
invariant_of-self c =
    let s = c.self.inside in
    let texts = items_of s.texts.items in
    let failed = c.next_fails-failed.result in
    let old = view_of s.first.items texts s.kept s.marks s.failures in
    let told : failed ≡ fails old =
    c.next_fails-failed.ensures.fails ∙ ap (λ (full : Bool). list_any (λ n. n == s.failures.count) s.failures.told.items || full) c.is_full.ensures in
    let units : s.first.items ≡ c.args.self.now.units = ap (λ (v : MemoryView). v.units) c.self.view_is in
    let within : c.args.block < (shape_of s.first.items).blocks c.args.unit = subst (λ (us : List UnitText). c.args.block < (shape_of us).blocks c.args.unit) (sym units) c.requires.block in
    let long : length c.args.buf.now ≡ size_of s.first.items c.args.unit = c.requires.size ∙ ap (λ (us : List UnitText). size_of us c.args.unit) (sym units) in
    let sized : length s.kept.calls < s.kept.keep → IsKept s.first.items c.add_write.ensures.calls.0 =
    λ less. subst (λ (k : Call). IsKept s.first.items k) (sym (c.add_write.ensures.calls.2 less).2) (ap length (c.add_write.ensures.calls.2 less).1 ∙ long) in
    agree_call s.first.items texts texts s.kept c.add_write.new.self s.marks c.set.new.self s.failures c.next_fails-failed.new.self c.add_write.ensures.calls.0 c.add_write.ensures.keep c.add_write.ensures.width c.add_write.ensures.calls.1 sized
    refl (λ u. refl) (length_set s.marks c.set.new.self c.args.unit c.args.block c.set.ensures)
    (λ u b. write_current (state_of old) (is_full old) failed c.args.unit c.args.block c.args.buf.now (image_of (size_of s.first.items) texts) (image_of (size_of s.first.items) texts) (λ full. told ∙ full_fails old full) c.self.invariant.current
    (λ u b. stays failed c.args.buf.now (image_of (size_of s.first.items) texts u b) (is_at c.args.unit c.args.block u b) c.if-failed.true) u b ∙ sym (ap (λ (t : State). t.contents u b) (write_state s.first.items texts s.kept c.add_write.new.self s.marks s.failures c.next_fails-failed.new.self c.add_write.ensures.keep c.args.unit c.args.block c.args.buf.now failed texts c.set.new.self
    c.add_write.ensures.calls (λ u b. stays failed c.args.buf.now (image_of (size_of s.first.items) texts u b) (is_at c.args.unit c.args.block u b) c.if-failed.true) (marked s.first.items s.kept.keep s.marks c.set.new.self c.args.unit c.args.block within c.self.invariant.marked c.set.ensures))))
    c.self.invariant

pub returns-then-failed-clause-kept : goal.returns-then-failed-clause-kept
returns-then-failed-clause-kept c =
    let s = c.self.inside in
    let old = view_of s.first.items (items_of s.texts.items) s.kept s.marks s.failures in
    let told : c.next_fails-failed.result ≡ fails old =
    c.next_fails-failed.ensures.fails ∙ ap (λ (full : Bool). list_any (λ n. n == s.failures.count) s.failures.told.items || full) c.is_full.ensures in
    subst (λ (v : MemoryView). WithWrite v.keep v.calls c.add_write.new.self.calls c.args.unit c.args.block c.args.buf.now (fails v)) c.self.view_is
    (subst (λ (f : Bool). WithWrite s.kept.keep s.kept.calls c.add_write.new.self.calls c.args.unit c.args.block c.args.buf.now f) told c.add_write.ensures.calls)

pub returns-then-failed-clause-state : goal.returns-then-failed-clause-state
returns-then-failed-clause-state c =
    let s = c.self.inside in
    let texts = items_of s.texts.items in
    let failed = c.next_fails-failed.result in
    let old = view_of s.first.items texts s.kept s.marks s.failures in
    let told : failed ≡ fails old =
    c.next_fails-failed.ensures.fails ∙ ap (λ (full : Bool). list_any (λ n. n == s.failures.count) s.failures.told.items || full) c.is_full.ensures in
    let units : s.first.items ≡ c.args.self.now.units = ap (λ (v : MemoryView). v.units) c.self.view_is in
    let within : c.args.block < (shape_of s.first.items).blocks c.args.unit = subst (λ (us : List UnitText). c.args.block < (shape_of us).blocks c.args.unit) (sym units) c.requires.block in
    write_state s.first.items texts s.kept c.add_write.new.self s.marks s.failures c.next_fails-failed.new.self c.add_write.ensures.keep c.args.unit c.args.block c.args.buf.now failed texts c.set.new.self
    c.add_write.ensures.calls (λ u b. stays failed c.args.buf.now (image_of (size_of s.first.items) texts u b) (is_at c.args.unit c.args.block u b) c.if-failed.true) (marked s.first.items s.kept.keep s.marks c.set.new.self c.args.unit c.args.block within c.self.invariant.marked c.set.ensures)
    ∙ (λ i. if is_full old then state_of old else write_step c.args.unit c.args.block c.args.buf.now (told i) (state_of old))
    ∙ ap (λ (v : MemoryView). if is_full v then state_of v else write_step c.args.unit c.args.block c.args.buf.now (fails v) (state_of v)) c.self.view_is

pub invariant_of-self-2 : goal.invariant_of-self-2
invariant_of-self-2 c =
    let s = c.self.inside in
    let texts = items_of s.texts.items in
    let failed = c.next_fails-failed.result in
    let old = view_of s.first.items texts s.kept s.marks s.failures in
    let told : failed ≡ fails old =
    c.next_fails-failed.ensures.fails ∙ ap (λ (full : Bool). list_any (λ n. n == s.failures.count) s.failures.told.items || full) c.is_full.ensures in
    let units : s.first.items ≡ c.args.self.now.units = ap (λ (v : MemoryView). v.units) c.self.view_is in
    let within : c.args.block < (shape_of s.first.items).blocks c.args.unit = subst (λ (us : List UnitText). c.args.block < (shape_of us).blocks c.args.unit) (sym units) c.requires.block in
    let there : c.args.unit < length texts = omega (arith, c.requires.unit, c.self.invariant.units_same, ap (λ (us : List UnitText). length us) units) in
    let long : length c.args.buf.now ≡ size_of s.first.items c.args.unit = c.requires.size ∙ ap (λ (us : List UnitText). size_of us c.args.unit) (sym units) in
    let fits : c.args.block * size_of s.first.items c.args.unit + size_of s.first.items c.args.unit ≤ length (get_or texts c.args.unit []) =
    omega (arith, c.self.invariant.lengths c.args.unit, block_fits c.args.block (size_of s.first.items c.args.unit) (length (get_or (texts_of s.first.items) c.args.unit [])) (2 ^ 32 - 1) within) in
    let set : items_of c.put.new.texts.items ≡ slice_set texts c.args.unit (written (get_or texts c.args.unit []) (c.args.block * size_of s.first.items c.args.unit) c.args.buf.now) =
    c.put.ensures ∙ ap (λ (n : ℕ). slice_set texts c.args.unit (written (get_or texts c.args.unit []) (c.args.block * n) c.args.buf.now)) long in
    let sized : length s.kept.calls < s.kept.keep → IsKept s.first.items c.add_write.ensures.calls.0 =
    λ less. subst (λ (k : Call). IsKept s.first.items k) (sym (c.add_write.ensures.calls.2 less).2) (ap length (c.add_write.ensures.calls.2 less).1 ∙ long) in
    agree_call s.first.items texts (items_of c.put.new.texts.items) s.kept c.add_write.new.self s.marks c.set.new.self s.failures c.next_fails-failed.new.self c.add_write.ensures.calls.0 c.add_write.ensures.keep c.add_write.ensures.width c.add_write.ensures.calls.1 sized
    (ap length set ∙ length-set texts c.args.unit _) (lengths_written texts (items_of c.put.new.texts.items) c.args.unit (c.args.block * size_of s.first.items c.args.unit) c.args.buf.now there (omega (arith, long, fits)) set) (length_set s.marks c.set.new.self c.args.unit c.args.block c.set.ensures)
    (λ u b. write_current (state_of old) (is_full old) failed c.args.unit c.args.block c.args.buf.now (image_of (size_of s.first.items) texts) (image_of (size_of s.first.items) (items_of c.put.new.texts.items)) (λ full. told ∙ full_fails old full) c.self.invariant.current
    (λ u b. image_written s.first.items texts (items_of c.put.new.texts.items) c.args.unit c.args.block c.args.buf.now there long fits set u b
    ∙ goes failed c.args.buf.now (image_of (size_of s.first.items) texts u b) (is_at c.args.unit c.args.block u b) c.if-failed.false) u b ∙ sym (ap (λ (t : State). t.contents u b) (write_state s.first.items texts s.kept c.add_write.new.self s.marks s.failures c.next_fails-failed.new.self c.add_write.ensures.keep c.args.unit c.args.block c.args.buf.now failed (items_of c.put.new.texts.items) c.set.new.self
    c.add_write.ensures.calls (λ u b. image_written s.first.items texts (items_of c.put.new.texts.items) c.args.unit c.args.block c.args.buf.now there long fits set u b
    ∙ goes failed c.args.buf.now (image_of (size_of s.first.items) texts u b) (is_at c.args.unit c.args.block u b) c.if-failed.false) (marked s.first.items s.kept.keep s.marks c.set.new.self c.args.unit c.args.block within c.self.invariant.marked c.set.ensures))))
    c.self.invariant

pub returns-clause-call : goal.returns-clause-call
returns-clause-call c =
    let s = c.self.inside in
    let old = view_of s.first.items (items_of s.texts.items) s.kept s.marks s.failures in
    let told : c.next_fails-failed.result ≡ fails old =
    c.next_fails-failed.ensures.fails ∙ ap (λ (full : Bool). list_any (λ n. n == s.failures.count) s.failures.told.items || full) c.is_full.ensures in
    is_call s.first.items (items_of s.texts.items) (items_of c.put.new.texts.items) s.kept c.add_write.new.self s.marks c.set.new.self s.failures c.next_fails-failed.new.self c.args.self.now _ c.next_fails-failed.result c.self.view_is told
    (sym c.if-failed.false) c.add_write.ensures.keep c.next_fails-failed.ensures.told c.next_fails-failed.ensures.count c.next_fails-failed.ensures.faults

pub returns-clause-kept : goal.returns-clause-kept
returns-clause-kept c =
    let s = c.self.inside in
    let old = view_of s.first.items (items_of s.texts.items) s.kept s.marks s.failures in
    let told : c.next_fails-failed.result ≡ fails old =
    c.next_fails-failed.ensures.fails ∙ ap (λ (full : Bool). list_any (λ n. n == s.failures.count) s.failures.told.items || full) c.is_full.ensures in
    subst (λ (v : MemoryView). WithWrite v.keep v.calls c.add_write.new.self.calls c.args.unit c.args.block c.args.buf.now (fails v)) c.self.view_is
    (subst (λ (f : Bool). WithWrite s.kept.keep s.kept.calls c.add_write.new.self.calls c.args.unit c.args.block c.args.buf.now f) told c.add_write.ensures.calls)

pub returns-clause-state : goal.returns-clause-state
returns-clause-state c =
    let s = c.self.inside in
    let texts = items_of s.texts.items in
    let failed = c.next_fails-failed.result in
    let old = view_of s.first.items texts s.kept s.marks s.failures in
    let told : failed ≡ fails old =
    c.next_fails-failed.ensures.fails ∙ ap (λ (full : Bool). list_any (λ n. n == s.failures.count) s.failures.told.items || full) c.is_full.ensures in
    let units : s.first.items ≡ c.args.self.now.units = ap (λ (v : MemoryView). v.units) c.self.view_is in
    let within : c.args.block < (shape_of s.first.items).blocks c.args.unit = subst (λ (us : List UnitText). c.args.block < (shape_of us).blocks c.args.unit) (sym units) c.requires.block in
    let there : c.args.unit < length texts = omega (arith, c.requires.unit, c.self.invariant.units_same, ap (λ (us : List UnitText). length us) units) in
    let long : length c.args.buf.now ≡ size_of s.first.items c.args.unit = c.requires.size ∙ ap (λ (us : List UnitText). size_of us c.args.unit) (sym units) in
    let fits : c.args.block * size_of s.first.items c.args.unit + size_of s.first.items c.args.unit ≤ length (get_or texts c.args.unit []) =
    omega (arith, c.self.invariant.lengths c.args.unit, block_fits c.args.block (size_of s.first.items c.args.unit) (length (get_or (texts_of s.first.items) c.args.unit [])) (2 ^ 32 - 1) within) in
    let set : items_of c.put.new.texts.items ≡ slice_set texts c.args.unit (written (get_or texts c.args.unit []) (c.args.block * size_of s.first.items c.args.unit) c.args.buf.now) =
    c.put.ensures ∙ ap (λ (n : ℕ). slice_set texts c.args.unit (written (get_or texts c.args.unit []) (c.args.block * n) c.args.buf.now)) long in
    write_state s.first.items texts s.kept c.add_write.new.self s.marks s.failures c.next_fails-failed.new.self c.add_write.ensures.keep c.args.unit c.args.block c.args.buf.now failed (items_of c.put.new.texts.items) c.set.new.self
    c.add_write.ensures.calls (λ u b. image_written s.first.items texts (items_of c.put.new.texts.items) c.args.unit c.args.block c.args.buf.now there long fits set u b
    ∙ goes failed c.args.buf.now (image_of (size_of s.first.items) texts u b) (is_at c.args.unit c.args.block u b) c.if-failed.false) (marked s.first.items s.kept.keep s.marks c.set.new.self c.args.unit c.args.block within c.self.invariant.marked c.set.ensures)
    ∙ (λ i. if is_full old then state_of old else write_step c.args.unit c.args.block c.args.buf.now (told i) (state_of old))
    ∙ ap (λ (v : MemoryView). if is_full v then state_of v else write_step c.args.unit c.args.block c.args.buf.now (fails v) (state_of v)) c.self.view_is
