use Rattle.std.proofs.Common.{◌≡◌, take, map, nat_lt, if◌then◌else◌}
use Rattle.std.specs.Prelude.{string_bytes}
use Rattle.job_lines.proofs.names.printed_dd.Given as goal

abbrev pub invariant-loop-byte : goal.invariant-loop-byte
invariant-loop-byte l = string_bytes l.text ≡ map (λ byte. if nat_lt byte 128 then byte else 63) (take l.byte-index l.byte-items)
