-- The extents of a format 1, field by field.
use Rattle.std.proofs.Common.{◌≡◌, ℕ, ◌+◌, ◌*◌, ◌/◌, ◌%◌, ◌≤◌, List, ◌++◌, drop, get_or, sym, ap, ◌∙◌, arith}
use Rattle.std.proofs.lemmas.List.{get_or-drop}
use Rattle.ckd_image.specs.Bytes.{Begins}
use Rattle.dscb_rec.specs.declared.field.Extent.{Extent}
use Rattle.dscb_rec.specs.Field.{extent_text, IsExtent}
use Rattle.volume_model.specs.Dscbs.{extent_at, number_at}
use Rattle.vtoc_core.specs.Loaded.{field_of}

-- ---- an extent that is spelled at an offset

number_of : (n high low : ℕ) → n ≤ 65535 → high ≡ n / 256 % 256 → low ≡ n % 256 → n ≡ 256 * high + low
number_of n high low small h l = omega arith

byte_in : (bytes text : List ℕ) (offset place j : ℕ) → drop offset bytes ≡ text → j ≡ offset + place → get_or bytes j 0 ≡ get_or text place 0
byte_in bytes text offset place j is e = ap (λ (i : ℕ). get_or bytes i 0) e ∙ sym (get_or-drop offset bytes place 0) ∙ ap (λ (ys : List ℕ). get_or ys place 0) is

pub field_read : (bytes : List ℕ) (offset : ℕ) (extent : Extent) → IsExtent extent → Begins (extent_text extent) (drop offset bytes) → field_of extent ≡ extent_at bytes offset
field_read bytes offset extent fits (rest, is) =
    let kind : extent.kind ≡ get_or bytes offset 0 = sym (byte_in bytes (extent_text extent ++ rest) offset 0 offset is (omega arith)) in
    let c1 : extent.first.cylinder ≡ number_at bytes (offset + 2) =
    number_of extent.first.cylinder (get_or bytes (offset + 2) 0) (get_or bytes (offset + 2 + 1) 0) fits.first.0
    (byte_in bytes (extent_text extent ++ rest) offset 2 (offset + 2) is (omega arith)) (byte_in bytes (extent_text extent ++ rest) offset 3 (offset + 2 + 1) is (omega arith)) in
    let h1 : extent.first.head ≡ number_at bytes (offset + 2 + 2) =
    number_of extent.first.head (get_or bytes (offset + 2 + 2) 0) (get_or bytes (offset + 2 + 2 + 1) 0) fits.first.1
    (byte_in bytes (extent_text extent ++ rest) offset 4 (offset + 2 + 2) is (omega arith)) (byte_in bytes (extent_text extent ++ rest) offset 5 (offset + 2 + 2 + 1) is (omega arith)) in
    let c2 : extent.last.cylinder ≡ number_at bytes (offset + 6) =
    number_of extent.last.cylinder (get_or bytes (offset + 6) 0) (get_or bytes (offset + 6 + 1) 0) fits.last.0
    (byte_in bytes (extent_text extent ++ rest) offset 6 (offset + 6) is (omega arith)) (byte_in bytes (extent_text extent ++ rest) offset 7 (offset + 6 + 1) is (omega arith)) in
    let h2 : extent.last.head ≡ number_at bytes (offset + 6 + 2) =
    number_of extent.last.head (get_or bytes (offset + 6 + 2) 0) (get_or bytes (offset + 6 + 2 + 1) 0) fits.last.1
    (byte_in bytes (extent_text extent ++ rest) offset 8 (offset + 6 + 2) is (omega arith)) (byte_in bytes (extent_text extent ++ rest) offset 9 (offset + 6 + 2 + 1) is (omega arith)) in
    (λ i. record { kind = kind i; first = record { cylinder = c1 i; head = h1 i }; last = record { cylinder = c2 i; head = h2 i } })
