use Rattle.std.proofs.Common.{◌≡◌, ◌+◌, ◌*◌, ◌-◌, ◌++◌, length, take}
use Rattle.std.specs.Prelude.{All, replicate}
use Rattle.byteorder.specs.Endian.{big_bytes}
use Rattle.redo_core.specs.Format.{wide, registration_magic}
use Rattle.redo_core.proofs.Formatting.{texts}
use Rattle.redo_core.proofs.format.put_registration.Given as goal

abbrev pub invariant-loop-name : goal.invariant-loop-name
invariant-loop-name l = record {
  place : l.place ≡ 16 + 6 * l.name-index;
  text : l.buffer ≡ (registration_magic ++ (big_bytes 4 (length l.names) ++ (big_bytes 4 l.room ++ texts (take l.name-index l.names)))) ++ replicate (wide - l.place) 0;
  sixes : All (λ name. length name.text ≡ 6) (take l.name-index l.names);
}
