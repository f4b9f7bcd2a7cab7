-- How much is received.
use Rattle.std.proofs.Common.{inl, inr, ℕ, List, Option}
use Rattle.dasd_pool.specs.Stream.{Takes}
use Rattle.dasd_pool.proofs.Streams.{takes_then}
use Rattle.desk_head.specs.declared.fault.RequestFault.{RequestFault}
use Rattle.desk_head.specs.declared.fault.RequestFault.TheVariants as faults
use Rattle.desk_head.specs.Received.{TakesFew, TakesEnough, UnlessFailed}

-- one receive more, where more was wanted
pub enough_then : (Wants : List ℕ → Type 0) (old mid new : Option (List ℕ)) (front : List ℕ) → Takes old mid front → Wants front → TakesFew mid new → TakesEnough Wants old new
enough_then Wants old mid new front takes wanted few =
    inr (record { front = front; last = few.piece; wanted = wanted; few = few.few; takes = takes_then old mid new front few.piece takes few.takes })

pub enough_weaker : (Wants More : List ℕ → Type 0) (old new : Option (List ℕ)) → ((front : List ℕ) → Wants front → More front) → TakesEnough Wants old new → TakesEnough More old new
enough_weaker Wants More old new more (inl same) = inl same
enough_weaker Wants More old new more (inr h) = inr (record { front = h.front; last = h.last; wanted = more h.front h.wanted; few = h.few; takes = h.takes })

-- ---- by what a call answered

pub unless_failed : (fault : RequestFault) (Fact : Type 0) → Fact → UnlessFailed fault Fact
unless_failed (faults.Status status) Fact h = h
unless_failed faults.Read Fact h = tt
unless_failed faults.NoMemory Fact h = h

pub failed_weaker : (fault : RequestFault) (Fact More : Type 0) → (Fact → More) → UnlessFailed fault Fact → UnlessFailed fault More
failed_weaker (faults.Status status) Fact More more h = more h
failed_weaker faults.Read Fact More more h = tt
failed_weaker faults.NoMemory Fact More more h = more h
