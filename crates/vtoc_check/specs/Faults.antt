-- What a refusal of the VTOC check says.
use Rattle.std.specs.Prelude.{◌≡◌}
use Rattle.volume_model.specs.declared.place.Breach.{Breach}
use Rattle.volume_model.specs.Rules.{number_of}
use Rattle.vtoc_check.specs.declared.fault.VtocFault.{VtocFault}
use Rattle.vtoc_check.specs.declared.fault.VtocFault.TheVariants.{BadVtoc, Indexed, VtocFull, NoMemory}

-- The refusal tells a breach of this kind: its track, its record and the number of its rule. Want of memory tells nothing, and the
-- check has no other refusals.
abbrev pub IsToldFault : (Breach → Type 0) → VtocFault → Type 0
IsToldFault is_breach (BadVtoc track number why) =
    (told : Breach) × is_breach told × (track ≡ told.place.track) × (number ≡ told.place.record_number) × (why ≡ number_of told.rule)
IsToldFault is_breach Indexed = ⊥
IsToldFault is_breach (VtocFull need free) = ⊥
IsToldFault is_breach NoMemory = Unit {0}
