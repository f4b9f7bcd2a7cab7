-- Outputs that are left as they were, by one thing and then by another.
use Rattle.std.proofs.Common.{◌≡◌, List, map, sym, ap, ◌∙◌}
use Rattle.std.specs.Prelude.{slice_get}
use Rattle.dump_fmt.specs.Outs.{OutSeen}
use Rattle.job_outputs.specs.Kept.{KeepsUsed}

module _ {X : Type 0} (seen : X → OutSeen) where
  pub keeps_same : {before after : List X} → after ≡ before → KeepsUsed seen before after
  keeps_same {before} {after} same = record {
    names_are = ap (map (λ out. (seen out).name)) same;
    used = λ place out at used. ap (λ (list : List X). slice_get list place) same ∙ at;
    unused = λ place out at still. sym (ap (λ (list : List X). slice_get list place) same) ∙ at;
  }

  pub keeps_then : {before between after : List X} → KeepsUsed seen before between → KeepsUsed seen between after → KeepsUsed seen before after
  keeps_then one other = record {
    names_are = other.names_are ∙ one.names_are;
    used = λ place out at used. other.used place out (one.used place out at used) used;
    unused = λ place out at still. one.unused place out (other.unused place out at still) still;
  }
