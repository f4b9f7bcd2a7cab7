use Rattle.std.proofs.Common.{◌≡◌, List, ◌++◌, length}
use Rattle.sysin_text.specs.declared.token.Placed.{Placed}
use Rattle.sysin_text.specs.Tokens.{tokens_of}
use Rattle.sysin_read.specs.Reading.{TextReads}
use Rattle.sysin_read.specs.Told.{nothing_read, Leads}
use Rattle.sysin_read.specs.Refusal.{end_of}
use Rattle.sysin_read.proofs.read.read_sysin.Given as goal

abbrev pub invariant-each : goal.invariant-each
invariant-each l =
    (front : List Placed) × (tokens_of l.fn.text ≡ front ++ l.tokens) × TextReads l.reading front × Leads nothing_read front l.reading × (l.line ≡ (end_of front).0) × (l.column ≡ (end_of front).1)

abbrev pub decreases-each : goal.decreases-each
decreases-each l = length l.tokens
