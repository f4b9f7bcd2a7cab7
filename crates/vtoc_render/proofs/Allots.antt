-- What is allotted to a data set that is put.
use Rattle.std.proofs.Common.{◌≡◌, ◌≢◌, ◌-◌, List, [], ◌++◌, length, Bool, true, Option, None, ap, subst, arith, length-append}
use Rattle.std.specs.Prelude.{if◌then◌else◌}
use Rattle.volume_model.specs.declared.place.Place.{Place}
use Rattle.volume_model.specs.declared.place.Placed.{Placed}
use Rattle.vtoc_allot.specs.declared.held.Held.{Held}
use Rattle.vtoc_allot.specs.declared.held.Wanted.{Wanted}
use Rattle.vtoc_allot.specs.declared.places.Allotment.{Allotment}
use Rattle.vtoc_allot.specs.Allotted.{listed, one_if, IsAllotted}

pub one_there : (records : List Placed) (second : Place) (held : Held) (wanted : Wanted) (allotment : Allotment) → IsAllotted records second held wanted allotment → wanted.one ≡ true → allotment.one ≢ None
one_there records second held wanted allotment is on = λ none.
    let kept : length (listed allotment.one) ≡ length (listed held.one ++ is.ones) =
    subst (λ (b : Bool). length (listed allotment.one) ≡ length ((if b then listed held.one else []) ++ is.ones)) on (ap length is.one_is) in
    let taken : length is.ones ≡ 1 - length (listed held.one) = subst (λ (b : Bool). length is.ones ≡ one_if b - length (listed held.one)) on is.parts.so_many_ones in
    let empty : length (listed allotment.one) ≡ 0 = ap (λ (one : Option Place). length (listed one)) none in
    omega (arith, kept, taken, empty, length-append (listed held.one) is.ones)
