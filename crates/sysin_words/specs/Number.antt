-- Numbers within limits.
use Rattle.std.specs.Prelude.{ℕ, nat_lt, if◌then◌else◌, List, Option, Some, None}
use Rattle.std.specs.Option.{option_and_then}
use Rattle.by_rules.specs.Words as words

-- the number that decimal digits spell, within these limits
abbrev pub number_between : ℕ → ℕ → List ℕ → Option ℕ
number_between least most word = option_and_then (λ number. if nat_lt number least then None else Some number) (words.number_up_to most word)
