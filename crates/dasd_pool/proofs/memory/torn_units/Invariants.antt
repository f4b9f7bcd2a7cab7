use Rattle.std.proofs.Common.{ℕ, ◌≡◌, ◌<◌, length, take, map}
use Rattle.dasd_pool.specs.declared.units.UnitText.{UnitText}
use Rattle.dasd_pool.specs.Calls.{size_of, texts_of, image_of, shape_of}
use Rattle.dasd_pool.specs.Tears.{torn_image}
use Rattle.dasd_pool.proofs.memory.torn_units.Given as goal

abbrev pub invariant-loop-unit : goal.invariant-loop-unit
invariant-loop-unit l = record {
  number : l.number ≡ l.unit-index;
  count : length l.units.items ≡ l.unit-index;
  heads : map (λ (t : UnitText). t.head) l.units.items ≡ take l.unit-index (map (λ (t : UnitText). t.head) l.first);
  lengths : map (λ (t : UnitText). length t.blocks) l.units.items ≡ take l.unit-index (map (λ (t : UnitText). length t.blocks) l.first);
  blocks : (u b : ℕ) → u < l.unit-index → b < (shape_of l.first).blocks u → image_of (size_of l.first) (texts_of l.units.items) u b ≡ torn_image l.tear l.first l.calls u b;
}
