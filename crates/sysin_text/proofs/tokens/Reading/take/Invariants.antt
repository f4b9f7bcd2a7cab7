use Rattle.std.proofs.Common.{◌≡◌, ◌≢◌, ◌<◌, [], length, slice_index}
use Rattle.sysin_text.specs.Reader.{left_of, tokens_here}
use Rattle.sysin_text.proofs.tokens.Reading.take.Given as goal

abbrev pub invariant-lines : goal.invariant-lines
invariant-lines l =
    (left_of l.self ≡ left_of l.fn.self) × (l.self.place ≡ l.self.line.len → tokens_here l.self ≡ [])
    × (l.self.place < l.self.line.len → slice_index l.self.line.text l.self.place ≢ 32)

abbrev pub decreases-lines : goal.decreases-lines
decreases-lines l = length l.self.rest.now
