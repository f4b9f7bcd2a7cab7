-- A change after which there is a volume has room in its VTOC.
use Rattle.std.proofs.Common.{◌≡◌, ◌≢◌, ℕ, ◌+◌, List, [], ◌∷◌, ◌++◌, length, map, Contains, Bool, refl, sym, ap, subst, ◌∙◌, arith}
use Rattle.std.specs.Prelude.{sum_by}
use Rattle.std.proofs.lemmas.List.Sums.{sum_by-append}
use Rattle.ckd_image.specs.declared.head.Head.{Head}
use Rattle.ckd_image.specs.Device.{heads_of}
use Rattle.free_map.specs.declared.run.Run.{Run}
use Rattle.free_map.specs.Runs.{AreMaximalRuns}
use Rattle.free_map.proofs.Apart.{same_list}
use Rattle.vol_label.specs.declared.label.Label.{Label}
use Rattle.volume_model.specs.declared.extent.ExtentField.{ExtentField}
use Rattle.volume_model.specs.declared.place.Placed.{Placed}
use Rattle.volume_model.specs.declared.place.Vtoc.{Vtoc}
use Rattle.volume_model.specs.Directory.{DirectoryRow}
use Rattle.volume_model.specs.Sound.{Slots}
use Rattle.volume_model.specs.Space.{run_of}
use Rattle.volume_model.specs.Unit.{fives_for}
use Rattle.vtoc_core.specs.declared.volume.Row.{Row}
use Rattle.vtoc_core.specs.declared.volume.Volume.{Volume}
use Rattle.vtoc_core.specs.Loaded.{field_of, records_for, row_in}
use Rattle.vtoc_layout.specs.Layout.{name_of, row_by, sets_of}
use Rattle.vtoc_layout.proofs.Distinct.{in_middle, one_of_map}
use Rattle.volume_change.specs.declared.change.Change.{Change}
use Rattle.volume_change.specs.declared.change.Change.TheVariants.{Repair, Put, Swap, Remove, Mark}
use Rattle.volume_change.specs.Runs.{IsFreeAfter}
use Rattle.volume_change.proofs.Names.{one_text}
use Rattle.unit_steps.specs.render_laws.Rendered.{WasLoaded}
use Rattle.unit_steps.proofs.render_laws.Before.{has_layout}
use Rattle.unit_steps.specs.vtoc_render.Loads.{LoadsFrom}
use Rattle.unit_steps.specs.vtoc_render.Next.{AreRowsAfter, HasNoRoom, IsChanged, IsNext, IsRowPut, runs_of_rows, used_by}
use Rattle.unit_steps.proofs.vtoc_render.NextCounts.{count_before, set_of_row}
use Rattle.unit_steps.proofs.unit_change.ChangedRows.{AreParted, is_changed, parted_rows}

-- ---- rows that are alike

-- rows of the same tracks that use as many records
record AreAlike (volume : Volume) (a b : List Row) : Type 0 where
  pub runs : runs_of_rows volume a ≡ runs_of_rows volume b
  pub records : sum_by records_for a ≡ sum_by records_for b

none_alike : (volume : Volume) (a b : List Row) → a ≡ [] → b ≡ [] → AreAlike volume a b
none_alike volume a b none nothing = record { runs = ap (runs_of_rows volume) (none ∙ sym nothing); records = ap (sum_by records_for) (none ∙ sym nothing) }

one_alike : (volume : Volume) (a b : List Row) (x y : Row) → a ≡ x ∷ [] → b ≡ y ∷ [] → map field_of x.extents ≡ map field_of y.extents → x.threes ≡ y.threes
    → AreAlike volume a b
one_alike volume a b x y one other fields threes = record {
  runs =
      ap (runs_of_rows volume) one ∙ ap (λ (list : List ExtentField). map (run_of (heads_of volume.device)) list ++ []) fields ∙ sym (ap (runs_of_rows volume) other);
  records = omega (arith, ap (sum_by records_for) one, ap (sum_by records_for) other, threes);
}

-- ---- what a change takes away

there_before : (rows front back : List Row) (row : Row) → rows ≡ front ++ (row ∷ back) → Contains rows row
there_before rows front back row are = subst (λ (list : List Row). Contains list row) (sym are) (in_middle front row back)

module _ {head : Head} {label : Label} {unit : Slots} {before : Bool} {slots : List ℕ} {volume : Volume} {vtoc : Vtoc} {four : Placed}
    (was : WasLoaded head label unit before slots volume vtoc four) where
  -- rows of one name are read from the same records
  same_row : (a b : Row) → Contains volume.rows a → Contains volume.rows b → a.name ≡ b.name → row_in a ≡ row_in b
  same_row a b here there named =
      let one = set_of_row was a here in
      let other = set_of_row was b there in
      let set : one.set ≡ other.set = one_of_map name_of (sets_of vtoc) one.set other.set (has_layout was).names one.there other.there (one.named ∙ named ∙ sym other.named) in
      sym one.same ∙ ap row_by set ∙ other.same

  named_alike : (a b : List Row) (x y : Row) → a ≡ x ∷ [] → b ≡ y ∷ [] → Contains volume.rows x → Contains volume.rows y → x.name ≡ y.name → AreAlike volume a b
  named_alike a b x y one other here there named =
      let same = same_row x y here there named in
      one_alike volume a b x y one other (ap (λ (d : DirectoryRow). d.extents) same) (ap (λ (d : DirectoryRow). d.threes) same)

  gone_alike : (change : Change) (gone put new goes puts next : List Row) → AreRowsAfter volume.rows change gone put new → AreRowsAfter volume.rows change goes puts next
      → AreAlike volume gone goes
  gone_alike Repair gone put new goes puts next is other = none_alike volume gone goes is.0 other.0
  gone_alike (Put given) gone put new goes puts next is other = none_alike volume gone goes is.3 other.3
  gone_alike (Swap name given) gone put new goes puts next is other =
      named_alike gone goes is.2 other.2 is.4 other.4 (there_before volume.rows is.0 is.1 is.2 is.8) (there_before volume.rows other.0 other.1 other.2 other.8) (is.6 ∙ sym other.6)
  gone_alike (Remove name) gone put new goes puts next is other =
      named_alike gone goes is.2 other.2 is.3 other.3 (there_before volume.rows is.0 is.1 is.2 is.6) (there_before volume.rows other.0 other.1 other.2 other.6)
      (one_text name is.2.name other.2.name is.5 other.5)
  gone_alike Mark gone put new goes puts next is other = absurd is

-- ---- what it puts

written_alike : (volume : Volume) (a b : List Row) (given x y : Row) → a ≡ x ∷ [] → b ≡ y ∷ [] → IsRowPut given x → IsRowPut given y → AreAlike volume a b
written_alike volume a b given x y one other is too =
    one_alike volume a b x y one other (ap (map field_of) (is.extents_are ∙ sym too.extents_are)) (is.threes_are ∙ sym too.threes_are)

put_alike : (volume : Volume) (change : Change) (gone put new goes puts next : List Row) → AreRowsAfter volume.rows change gone put new
    → AreRowsAfter volume.rows change goes puts next → AreAlike volume put puts
put_alike volume Repair gone put new goes puts next is other = none_alike volume put puts is.1 other.1
put_alike volume (Put given) gone put new goes puts next is other = written_alike volume put puts given is.2 other.2 is.4 other.4 is.5 other.5
put_alike volume (Swap name given) gone put new goes puts next is other = written_alike volume put puts given is.3 other.3 is.5 other.5 is.7 other.7
put_alike volume (Remove name) gone put new goes puts next is other = none_alike volume put puts is.4 other.4
put_alike volume Mark gone put new goes puts next is other = absurd is

-- ---- the records that are used

sum_of_three : (all xs ys zs : List Row) → all ≡ xs ++ (ys ++ zs) → sum_by records_for all ≡ sum_by records_for xs + (sum_by records_for ys + sum_by records_for zs)
sum_of_three all xs ys zs are = omega (arith, ap (sum_by records_for) are, sum_by-append records_for xs (ys ++ zs), sum_by-append records_for ys zs)

exchanged : (old new gone put : List Row) → AreParted old new gone put → sum_by records_for new + sum_by records_for gone ≡ sum_by records_for old + sum_by records_for put
exchanged old new gone put parts =
    omega (arith, sum_of_three old parts.front gone parts.back parts.old_are, sum_of_three new parts.front put parts.back parts.new_are)

-- one change leaves as many used, whichever volume is after it
module _ {old a b : Volume} {slots : List ℕ} {change : Change} (loads : LoadsFrom old slots) (one : IsChanged old change a) (other : IsChanged old change b) where
  gone_same : AreAlike old one.gone other.gone
  gone_same = gone_alike loads.was change one.gone one.put a.rows other.gone other.put b.rows one.rows_are other.rows_are

  put_same : AreAlike old one.put other.put
  put_same = put_alike old change one.gone one.put a.rows other.gone other.put b.rows one.rows_are other.rows_are

  free_same : a.free.runs ≡ b.free.runs
  free_same =
      let first : AreMaximalRuns (IsFreeAfter old.free (runs_of_rows old other.gone) (runs_of_rows old other.put)) a.free.runs =
      subst (λ (runs : List Run). AreMaximalRuns (IsFreeAfter old.free (runs_of_rows old other.gone) runs) a.free.runs) put_same.runs
      (subst (λ (runs : List Run). AreMaximalRuns (IsFreeAfter old.free runs (runs_of_rows old one.put)) a.free.runs) gone_same.runs one.free_are) in
      same_list 0 0 a.free.runs b.free.runs first.apart other.free_are.apart
      (λ track. (λ held. (other.free_are.exact track).0 ((first.exact track).1 held), λ held. (first.exact track).0 ((other.free_are.exact track).1 held)))

  used_same : used_by a ≡ used_by b
  used_same =
      let fives : a.fives ≡ b.fives = one.fives_are ∙ ap (λ (runs : List Run). fives_for (length runs)) free_same ∙ sym other.fives_are in
      omega (
        arith,
        fives,
        exchanged old.rows a.rows one.gone one.put (parted_rows old.rows a.rows one.gone one.put change one.rows_are),
        exchanged old.rows b.rows other.gone other.put (parted_rows old.rows b.rows other.gone other.put change other.rows_are),
        gone_same.records,
        put_same.records,
      )

next_counted : (old new : Volume) (change : Change) → change ≢ Mark → IsNext old change new → new.free_dscbs + used_by new ≡ new.dscbs
next_counted old new Repair no_mark is = is.1
next_counted old new (Put row) no_mark is = is.1
next_counted old new (Swap name row) no_mark is = is.1
next_counted old new (Remove name) no_mark is = is.1
next_counted old new Mark no_mark is = absurd (no_mark refl)

pub next_has_room : (old next : Volume) (slots : List ℕ) (change : Change) → LoadsFrom old slots → IsNext old change next → (need free : ℕ) → ¬ HasNoRoom old change need free
next_has_room old next slots change loads next_is need free full =
    let fits : IsChanged old change next = is_changed old next change full.no_mark next_is in
    omega (
      arith,
      used_same loads full.changed fits,
      full.need_is,
      full.free_is,
      full.too_few,
      count_before loads.was,
      fits.dscbs_are,
      next_counted old next change full.no_mark next_is,
    )
