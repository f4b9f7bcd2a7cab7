-- The bytes in the buffer of a window.
use Rattle.std.proofs.Common.{◌≡◌, ℕ, ◌+◌, ◌≤◌, List, ◌++◌, length, take, Option, refl, ap, ◌∙◌}
use Rattle.std.proofs.lemmas.List.{take_at, drop_at, take-append-le, length-take-le}
use Rattle.std.proofs.Math.Seq.{take-add}
use Rattle.dasd_pool.specs.Stream.{Takes}
use Rattle.dump_read.specs.Feed.{coming}
use Rattle.dump_read.proofs.Fed.{coming_more}

-- bytes that were written behind the first ones
pub front_put : (held count : ℕ) (old piece behind : List ℕ) → held ≤ length old → count ≤ length piece → take (held + count) (take held old ++ (piece ++ behind)) ≡ take held old ++ take count piece
front_put held count old piece behind within fits =
    let front : length (take held old) ≡ held = length-take-le held old within in
    take-add held count (take held old ++ (piece ++ behind))
    ∙ (rw (take_at (take held old) (piece ++ behind) held front, drop_at (take held old) (piece ++ behind) held front, take-append-le count piece behind fits) refl)

pub coming_behind : (held count : ℕ) (old piece behind : List ℕ) (left next : Option (List ℕ)) → held ≤ length old → count ≤ length piece → Takes left next (take count piece)
    → coming (take (held + count) (take held old ++ (piece ++ behind))) next ≡ coming (take held old) left
coming_behind held count old piece behind left next within fits took =
    ap (λ (t : List ℕ). coming t next) (front_put held count old piece behind within fits) ∙ coming_more (take held old) (take count piece) left next took
