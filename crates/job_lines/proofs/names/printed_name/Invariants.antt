use Rattle.std.proofs.Common.{◌≡◌, take, map}
use Rattle.std.specs.Prelude.{string_bytes, unwrap_or}
use Rattle.vol_label.specs.CodePage.{ascii_of}
use Rattle.job_lines.proofs.names.printed_name.Given as goal

abbrev pub invariant-loop-byte : goal.invariant-loop-byte
invariant-loop-byte l = string_bytes l.text ≡ map (λ byte. unwrap_or (ascii_of byte) 63) (take l.byte-index l.byte-items)
