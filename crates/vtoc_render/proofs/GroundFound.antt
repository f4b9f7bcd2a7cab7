-- What is read of slots is what was loaded from them.
use Rattle.std.proofs.Common.{◌≡◌, ℕ, ◌+◌, ◌≤◌, List, map, find, Bool, true, false, Option, Some, None, refl, sym, ap, subst, ◌∙◌, arith}
use Rattle.std.specs.Prelude.{not, slice_index_or}
use Rattle.std.specs.List.{flat_map}
use Rattle.ckd_image.specs.declared.device.Device.{Device}
use Rattle.ckd_image.specs.declared.head.Head.{Head}
use Rattle.ckd_image.specs.Device.{heads_of, slot_of}
use Rattle.free_map.specs.declared.run.Run.{Run}
use Rattle.vol_label.specs.declared.label.Label.{Label}
use Rattle.volume_model.specs.declared.format.Format.TheVariants.{F4}
use Rattle.volume_model.specs.declared.place.Place.{Place}
use Rattle.volume_model.specs.declared.place.Placed.{Placed}
use Rattle.volume_model.specs.declared.place.Vtoc.{Vtoc}
use Rattle.volume_model.specs.Dscbs.{format_of, is_f4}
use Rattle.volume_model.specs.Directory.{placed_in}
use Rattle.volume_model.specs.Space.{end_of}
use Rattle.volume_model.specs.Sound.{Slots, IsTrackReading, IsReading}
use Rattle.volume_model.specs.Check.{records_of}
use Rattle.vtoc_check.specs.declared.directory.Directory.{Directory}
use Rattle.vtoc_check.specs.Slots.{slot_in}
use Rattle.vtoc_check.proofs.VtocRead.{slot_short}
use Rattle.vtoc_core.specs.declared.volume.Volume.{Volume}
use Rattle.vtoc_layout.specs.Layout.{SetRecords, layout_of}
use Rattle.vtoc_layout.proofs.Uses.{is_four}
use Rattle.vtoc_layout.proofs.Finds.{found_passes, none_passes}
use Rattle.volume_model.proofs.OneVtoc.{one_reading}
use Rattle.layout_edit.specs.Change.{place_of}
use Rattle.layout_found.specs.Fives.{IsOfSoundVtoc, AreItsFives}
use Rattle.layout_found.proofs.Found.{found_layout}
use Rattle.vtoc_allot.specs.declared.held.Held.{Held}
use Rattle.vtoc_allot.specs.Allotted.{listed}
use Rattle.render_laws.specs.Rendered.{WasLoaded}
use Rattle.vtoc_render.specs.declared.ground.Ground.{Ground}
use Rattle.vtoc_render.specs.Loads.{LoadsFrom, OfEachVtoc, IsGroundOf, gone_of, HoldsNamed}

-- ---- the records

abbrev pub Reads : Volume → List ℕ → List (Option (List (List ℕ))) → Type 0
Reads volume slots tracks = IsReading (heads_of volume.device) (slot_in volume.vtoc (slot_of volume.device) slots) volume.vtoc tracks

same_tracks : (head : Head) (label : Label) (unit : Slots) (sliding : Bool) (slots : List ℕ) (volume : Volume) (vtoc : Vtoc) (four : Placed) (tracks : List (Option (List (List ℕ))))
    → WasLoaded head label unit sliding slots volume vtoc four → Reads volume slots tracks → tracks ≡ vtoc.tracks
same_tracks head label unit sliding slots volume vtoc four tracks was reads =
    one_reading (heads_of head.device) (slot_in vtoc.run (slot_of head.device) slots) vtoc.run tracks vtoc.tracks (λ k less. slot_short head.device vtoc.run slots (vtoc.run.first + k))
    (subst (λ (run : Run). IsReading (heads_of head.device) (slot_in run (slot_of head.device) slots) run tracks) was.volume_is.vtoc_is
    (subst (λ (device : Device). IsReading (heads_of device) (slot_in volume.vtoc (slot_of device) slots) volume.vtoc tracks) was.volume_is.device_is reads))
    (record { whole = reading.whole; each = λ k less. subst (λ (slot : List ℕ). IsTrackReading (heads_of head.device) (vtoc.run.first + k) slot (slice_index_or vtoc.tracks k None)) (was.slots_are k less) (reading.each k less) })
  where
    reading : IsReading (heads_of head.device) unit vtoc.run vtoc.tracks
    reading = was.stands.stands.reading

-- a directory has the records and heads of each VTOC that the volume was loaded from
abbrev pub IsDirectoryOf : Directory → Vtoc → Type 0
IsDirectoryOf directory vtoc = (directory.records.items ≡ records_of vtoc) × (directory.heads ≡ vtoc.heads)

pub directory_found : (volume : Volume) (slots : List ℕ) (tracks : List (Option (List (List ℕ)))) (directory : Directory) → Reads volume slots tracks → directory.heads ≡ heads_of volume.device
    → directory.records.items ≡ placed_in volume.vtoc.first tracks → OfEachVtoc volume slots (λ vtoc four. IsDirectoryOf directory vtoc)
directory_found volume slots tracks directory reads heads records = λ head label unit sliding vtoc four was.
    let same = same_tracks head label unit sliding slots volume vtoc four tracks was reads in (
      records ∙ (λ i. placed_in (was.volume_is.vtoc_is i).first (same i)),
      heads ∙ ap heads_of was.volume_is.device_is ∙ sym was.stands.stands.heads_are,
    )

-- ---- sizes

pub end_fits : (volume : Volume) (slots : List ℕ) → LoadsFrom volume slots → end_of volume.vtoc ≤ 65535
end_fits volume slots loads =
    let same : end_of volume.vtoc ≡ end_of loads.vtoc.run = ap end_of loads.was.volume_is.vtoc_is in
    omega (arith, same, loads.was.sized.run_within, loads.was.sized.limit_fits)

-- ---- the format 4

abbrev nothing : Option Placed
nothing = None

abbrev pub is_format_4 : Placed → Bool
is_format_4 placed = is_f4 (format_of placed.bytes)

four_is_four : (head : Head) (label : Label) (unit : Slots) (sliding : Bool) (slots : List ℕ) (volume : Volume) (vtoc : Vtoc) (four : Placed) → WasLoaded head label unit sliding slots volume vtoc four
    → format_of four.bytes ≡ F4
four_is_four head label unit sliding slots volume vtoc four was = ap format_of was.stands.four_is ∙ was.stands.stands.format_4.format

pub some_four : (volume : Volume) (slots : List ℕ) (records : List Placed) → LoadsFrom volume slots → OfEachVtoc volume slots (λ vtoc four. records ≡ records_of vtoc) → find is_format_4 records ≡ None → ⊥
some_four volume slots records loads are none =
    let same = are loads.head loads.label loads.unit loads.sliding loads.vtoc loads.four loads.was in
    let here = four_is_four loads.head loads.label loads.unit loads.sliding slots volume loads.vtoc loads.four loads.was in
    none_passes is_format_4 (records_of loads.vtoc) loads.four (ap (find is_format_4) (sym same) ∙ none) loads.was.four_there (ap is_f4 here)

pub the_four : (head : Head) (label : Label) (unit : Slots) (sliding : Bool) (slots : List ℕ) (volume : Volume) (vtoc : Vtoc) (four found : Placed) (records : List Placed)
    → WasLoaded head label unit sliding slots volume vtoc four → records ≡ records_of vtoc → find is_format_4 records ≡ Some found → found ≡ four
the_four head label unit sliding slots volume vtoc four found records was same is =
    let here : find is_format_4 (records_of vtoc) ≡ Some found = ap (find is_format_4) (sym same) ∙ is in
    let layout = found_layout vtoc four was.sized was.four_there (four_is_four head label unit sliding slots volume vtoc four was) was.four_at was.sound in
    is_four vtoc (layout_of vtoc four) was.sized layout.0 found (found_passes is_format_4 (records_of vtoc) found here).0 (found_passes is_format_4 (records_of vtoc) found here).1

-- ---- what is held

not_not : (t : Bool) → not (not t) ≡ t
not_not true = refl
not_not false = refl

pub sound_ground : (volume : Volume) (slots : List ℕ) (base : Ground) → LoadsFrom volume slots → OfEachVtoc volume slots (IsGroundOf base) → IsOfSoundVtoc base.directory (not volume.repair)
sound_ground volume slots base loads are =
    let is = are loads.head loads.label loads.unit loads.sliding loads.vtoc loads.four loads.was in
    record {
      vtoc = loads.vtoc;
      heads = is.heads_are;
      records = is.records_are;
      validity = ap not loads.was.volume_is.repair_is ∙ not_not loads.vtoc.valid;
      sized = loads.was.sized;
      sound = loads.was.sound;
    }

-- the places of the records of data sets, and of format 5s
abbrev pub HoldsSets : List SetRecords → List Place → Held → Type 0
HoldsSets sets fives held = (listed held.one ≡ map (λ set. place_of set.one) sets) × (held.threes ≡ flat_map (λ set. map place_of set.threes) sets) × (held.fives ≡ fives)

pub named_held : (volume : Volume) (slots : List ℕ) (base : Ground) (name : Option (List ℕ)) (fives : List Placed) (places : List Place) (sets : List SetRecords) (held : Held) → OfEachVtoc volume slots (IsGroundOf base)
    → AreItsFives base.directory.heads base.directory.records.items (not volume.repair) fives → places ≡ map place_of fives
    → ((vtoc : Vtoc) → base.directory.heads ≡ vtoc.heads → base.directory.records.items ≡ records_of vtoc → sets ≡ gone_of vtoc name) → HoldsSets sets places held → OfEachVtoc volume slots (HoldsNamed name held)
named_held volume slots base name fives places sets held are five place set holds = λ head label unit sliding vtoc four was.
    let is = are head label unit sliding vtoc four was in
    let gone = set vtoc is.heads_are is.records_are in
    record {
      one_is = holds.0 ∙ ap (map (λ (s : SetRecords). place_of s.one)) gone;
      threes_are = holds.1 ∙ ap (flat_map (λ (s : SetRecords). map place_of s.threes)) gone;
      fives_are = holds.2 ∙ place ∙ ap (map place_of) (five vtoc is.heads_are is.records_are (ap not was.volume_is.repair_is ∙ not_not vtoc.valid));
    }
