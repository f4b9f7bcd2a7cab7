-- The volume after a change that was written, and what a refusal says.
use Rattle.std.proofs.Common.{◌≡◌, ◌≢◌, ℕ, ◌+◌, List, length, take, false, Option, Some, None, IfSome, refl, sym, ap, subst, ◌∙◌, arith}
use Rattle.std.proofs.lemmas.Option.{same_Some}
use Rattle.std.specs.Prelude.{option_to_list, Result, Ok, Err, IfOk, IfErr}
use Rattle.free_map.specs.declared.run.Run.{Run}
use Rattle.free_map.specs.Free.{Free}
use Rattle.free_map.specs.Runs.{AreMaximalRuns}
use Rattle.volume_model.specs.Changed.{threes_for}
use Rattle.vtoc_check.specs.declared.fault.VtocFault.{VtocFault}
use Rattle.vtoc_check.specs.declared.fault.VtocFault.TheVariants.{BadVtoc, Indexed, VtocFull, NoMemory}
use Rattle.vtoc_core.specs.declared.volume.Row.{Row}
use Rattle.vtoc_core.specs.declared.volume.Volume.{Volume}
use Rattle.vtoc_core.specs.Loaded.{HasItsName}
use Rattle.vtoc_allot.specs.declared.places.Allotment.{Allotment}
use Rattle.vtoc_allot.specs.Allotted.{held_count, wanted_count, free_count}
use Rattle.vtoc_making.specs.declared.set.SetWritten.{SetWritten}
use Rattle.volume_change.specs.declared.change.Change.{Change}
use Rattle.volume_change.specs.declared.change.Change.TheVariants.{Repair, Put, Swap, Remove, Mark}
use Rattle.volume_change.specs.declared.spot.Spot.{Spot}
use Rattle.volume_change.specs.Runs.{IsFreeAfter}
use Rattle.vtoc_render.specs.declared.change.Rendered.{Rendered}
use Rattle.vtoc_render.specs.Loads.{LoadsFrom}
use Rattle.vtoc_render.specs.Next.{MayChange, IsRowPut, IsChanged, IsNext, IsChangeFault, numbered_from, runs_of_rows, used_by}
use Rattle.vtoc_render.specs.Steps.{IsAimOf, IsSpotFor, IsSetFor, IsRowFor, gone_from, wanted_for}
use Rattle.vtoc_render.specs.Written.{IsSpaceWith, IsWritten, IsPutFault, free_left, volume_with}
use Rattle.vtoc_render.proofs.Known.{rows_named}
use Rattle.vtoc_render.proofs.NextRows.{IsPutAs, rows_after, named_after, runs_same}
use Rattle.vtoc_render.proofs.NextCounts.{used_after, count_before}

-- ---- the row that is put, as it stands afterwards

pub put_named : (volume : Volume) (change : Change) (name : Option (List ℕ)) (put : Option Row) → IsAimOf change name put → MayChange volume change → IfSome put HasItsName
put_named volume Repair name put aim may = subst (λ (put : Option Row). IfSome put HasItsName) (sym aim.1) tt
put_named volume (Put row) name put aim may = subst (λ (put : Option Row). IfSome put HasItsName) (sym aim.1) may.0.named
put_named volume (Swap old row) name put aim may = subst (λ (put : Option Row). IfSome put HasItsName) (sym aim.1) may.1.3.named
put_named volume (Remove old) name put aim may = subst (λ (put : Option Row). IfSome put HasItsName) (sym aim.1) tt
put_named volume Mark name put aim may = absurd aim

pub put_written : (heads : ℕ) (put : Option Row) (allotment : Allotment) (set : Option SetWritten) (row : Option Row) → IfSome put HasItsName → IsSetFor heads put allotment set → IsRowFor put set row
    → IsPutAs put row
put_written heads None allotment set row named set_is row_is = subst (λ (row : Option Row). IsPutAs None row) (sym row_is) tt
put_written heads (Some given) allotment set row named set_is row_is =
    let put = row_is.1 in
    let is : IsRowPut given put = row_is.4 in
    let same : set_is.1 ≡ row_is.0 = same_Some set_is.1 row_is.0 (sym set_is.3 ∙ row_is.2) in
    let bytes : set_is.1.one.bytes ≡ put.f1 = ap (λ (set : SetWritten). set.one.bytes) same ∙ sym row_is.5 in
    subst (λ (row : Option Row). IsPutAs (Some given) row) (sym row_is.3)
    (is, is.name_is ∙ named ∙ sym set_is.4.one_is.name ∙ ap (take 44) bytes)

-- a row that would stand, were there room
abbrev pub row_for : Option Row → Option Row
row_for None = None
row_for (Some given) = Some (record { name = given.name; f1 = given.f1; extents = numbered_from 0 given.extents; threes = threes_for (length given.extents) })

pub put_for : (put : Option Row) → IfSome put HasItsName → IsPutAs put (row_for put)
put_for None named = tt
put_for (Some given) named = (record { name_is = refl; fields_are = refl; extents_are = refl; threes_are = refl }, named)

-- ---- the volume

pub no_mark : (change : Change) (name : Option (List ℕ)) (put : Option Row) → IsAimOf change name put → change ≢ Mark
no_mark change name put aim e = subst (λ (c : Change). IsAimOf c name put) e aim

pub changed : (volume : Volume) (slots : List ℕ) (change : Change) (name : Option (List ℕ)) (put row : Option Row) (spot : Spot) (free : Free) (left : ℕ) → LoadsFrom volume slots → MayChange volume change
    → IsAimOf change name put → IsSpotFor volume.rows name spot → IsPutAs put row → IsSpaceWith volume spot put free → IsChanged volume change (volume_with volume spot row free left)
changed volume slots change name put row spot free left loads may aim is as_put space = record {
  gone = option_to_list (gone_from volume.rows spot);
  put = option_to_list row;
  rows_are = rows_after volume change name put row spot may aim is as_put;
  named = named_after volume change name put row spot (rows_named loads.was) aim is as_put;
  free_are =
      subst (λ (runs : List Run). AreMaximalRuns (IsFreeAfter volume.free (runs_of_rows volume (option_to_list (gone_from volume.rows spot))) runs) free.runs) (sym (runs_same volume put row as_put))
      space.free_are;
  serial_is = refl;
  device_is = refl;
  usable_is = refl;
  vtoc_is = refl;
  repair_is = refl;
  indexed_is = refl;
  dscbs_are = refl;
  fives_are = refl;
}

next_of : (old : Volume) (change : Change) (new : Volume) → change ≢ Mark → IsChanged old change new → new.free_dscbs + used_by new ≡ new.dscbs → IsNext old change new
next_of old Repair new other is count = (is, count)
next_of old (Put row) new other is count = (is, count)
next_of old (Swap name row) new other is count = (is, count)
next_of old (Remove name) new other is count = (is, count)
next_of old Mark new other is count = absurd (other refl)

-- ---- a refusal

pub fault_is : (volume : Volume) (slots : List ℕ) (change : Change) (name : Option (List ℕ)) (put : Option Row) (fault : VtocFault) → LoadsFrom volume slots → MayChange volume change
    → volume.indexed ≡ false → IsAimOf change name put → IsPutFault volume slots name put fault → IsChangeFault volume change fault
fault_is volume slots change name put Indexed loads may plain aim is = absurd is
fault_is volume slots change name put (BadVtoc track number why) loads may plain aim is = absurd is
fault_is volume slots change name put NoMemory loads may plain aim is = tt
fault_is volume slots change name put (VtocFull need left) loads may plain aim is =
    let l = loads in
    let as_put = put_for put (put_named volume change name put aim may) in
    let new = volume_with volume is.spot (row_for put) is.free 0 in
    let count : used_by new + held_count is.held ≡ used_by volume + wanted_count (wanted_for put (length is.free.runs)) =
    used_after l.was name is.spot is.held put (row_for put) is.free 0 is.spot_is (is.held_is l.head l.label l.unit l.sliding l.vtoc l.four l.was) as_put in
    let items = (is.ground_is l.head l.label l.unit l.sliding l.vtoc l.four l.was).records_are in
    let free_is : left ≡ volume.free_dscbs = is.short.free_is ∙ ap free_count items ∙ sym l.was.volume_is.free_dscbs_are in
    record {
      not_indexed = plain;
      no_mark = no_mark change name put aim;
      new = new;
      changed = changed volume slots change name put (row_for put) is.spot is.free 0 loads may aim is.spot_is as_put is.space;
      need_is = omega (arith, count, is.short.need_is);
      free_is = free_is;
      too_few = is.short.too_few;
    }

-- ---- the next volume

pub count_after : (volume : Volume) (slots : List ℕ) (change : Change) (name : Option (List ℕ)) (put : Option Row) (rendered : Rendered) → LoadsFrom volume slots → MayChange volume change
    → IsAimOf change name put → (is : IsWritten volume slots name put rendered)
    → free_left volume is.held put is.free + used_by (volume_with volume is.spot is.row is.free (free_left volume is.held put is.free)) ≡ volume.dscbs
count_after volume slots change name put rendered loads may aim is =
    let l = loads in
    let as_put = put_written _ put is.allotment is.set is.row (put_named volume change name put aim may) is.set_is is.row_is in
    let left = free_left volume is.held put is.free in
    let new = volume_with volume is.spot is.row is.free left in
    let count : used_by new + held_count is.held ≡ used_by volume + wanted_count (wanted_for put (length is.free.runs)) =
    used_after l.was name is.spot is.held put is.row is.free left is.spot_is (is.held_is l.head l.label l.unit l.sliding l.vtoc l.four l.was) as_put in
    let items = (is.ground_is l.head l.label l.unit l.sliding l.vtoc l.four l.was).records_are in
    let free_is : free_count is.base.directory.records.items ≡ volume.free_dscbs = ap free_count items ∙ sym l.was.volume_is.free_dscbs_are in
    omega (arith, count, is.room, free_is, count_before l.was)

pub next_is : (volume : Volume) (slots : List ℕ) (change : Change) (name : Option (List ℕ)) (put : Option Row) (rendered : Rendered) → LoadsFrom volume slots → MayChange volume change
    → IsAimOf change name put → IsWritten volume slots name put rendered → IsNext volume change rendered.next
next_is volume slots change name put rendered loads may aim is =
    let as_put = put_written _ put is.allotment is.set is.row (put_named volume change name put aim may) is.set_is is.row_is in
    let left = free_left volume is.held put is.free in
    let new = volume_with volume is.spot is.row is.free left in
    subst (λ (next : Volume). IsNext volume change next) (sym is.next_is)
    (next_of volume change new (no_mark change name put aim)
    (changed volume slots change name put is.row is.spot is.free left loads may aim is.spot_is as_put is.space) (count_after volume slots change name put rendered loads may aim is))

-- ---- of a result

pub if_ok : {T E : Type 0} (P Q : T → Type 0) → ((x : T) → P x → Q x) → (result : Result T E) → IfOk result P → IfOk result Q
if_ok P Q each (Ok x) is = each x is
if_ok P Q each (Err e) is = tt

pub if_err : {T E : Type 0} (P Q : E → Type 0) → ((e : E) → P e → Q e) → (result : Result T E) → IfErr result P → IfErr result Q
if_err P Q each (Ok x) is = tt
if_err P Q each (Err e) is = each e is
