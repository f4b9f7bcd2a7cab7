-- How many members a value has.
use Rattle.std.proofs.Common.{◌≡◌, List, [], ◌∷◌, length, refl, arith}
use Rattle.std.specs.Prelude.{String}
use Rattle.std.specs.declared.alloc.Global.{Global}
use Rattle.serde_json.specs.View.{members_view}
use Rattle.serde_json.specs.declared.value.Value.{Value}
use Rattle.desk_body.specs.Bodies.{count}

pub count_members : (ms : List (String Global × Value)) → count (members_view ms) ≡ length ms
count_members [] = refl
count_members (m ∷ ms) = omega (arith, count_members ms)
