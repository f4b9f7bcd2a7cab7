-- What follows for a value that may be there, or for none.
use Rattle.std.proofs.Common.{Option, Some, None}
use Rattle.std.specs.Prelude.{IfSome, IfNone}

pub some_weaker : {T : Type 0} (found : Option T) (P Q : T → Type 0) → ((x : T) → P x → Q x) → IfSome found P → IfSome found Q
some_weaker None P Q f h = tt
some_weaker (Some x) P Q f h = f x h

pub none_weaker : {T P Q : Type 0} (found : Option T) → (P → Q) → IfNone found P → IfNone found Q
none_weaker None f h = f h
none_weaker (Some x) f h = tt
