-- A dump while it is read, and why it isn't.
use Rattle.std.specs.Prelude.{◌≡◌, ℕ, min, List, length, Option, Some, None}
use Rattle.sha2.specs.Hashers.{Holds256}
use Rattle.dasd_pool.specs.Stream.{Takes}
use Rattle.dump_read.specs.declared.feed.Feed.{Feed}
use Rattle.dump_read.specs.Tape.{TapeSeen}
use Rattle.dump_read.specs.Feed.{coming, largest_offset}

-- these bytes came from the front of the reel so far, and their count and digest are kept
pub record HasRead (tape : TapeSeen) (feed : Feed) (bytes : List ℕ) : Type 0 where
  pub taken : Takes tape.held (coming feed.window tape.left) bytes
  pub offset : feed.offset ≡ min (length bytes) largest_offset
  pub digest : Holds256 feed.digest bytes

-- the same without the digest
pub record HasCome (tape : TapeSeen) (feed : Feed) (bytes : List ℕ) : Type 0 where
  pub taken : Takes tape.held (coming feed.window tape.left) bytes
  pub offset : feed.offset ≡ min (length bytes) largest_offset

-- where the reel tells what it holds, it is such
abbrev pub HeldSuch : Option (List ℕ) → (List ℕ → Type 0) → Type 0
HeldSuch None Such = Unit {0}
HeldSuch (Some bytes) Such = Such bytes
