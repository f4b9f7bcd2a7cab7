-- DSCBs that a change writes at the places that were allotted to it.
use Rattle.std.specs.Prelude.{◌≡◌, ◌≢◌, ℕ, ◌≤◌, nat_lt, if◌then◌else◌, List, [], ◌∷◌, ◌++◌, length, map, filter, take, All, Option, Some, None}
use Rattle.std.specs.List.{flat_map}
use Rattle.ckd_image.specs.declared.track.Cchhr.{Cchhr}
use Rattle.ckd_image.specs.Address.{address_of}
use Rattle.dscb_rec.specs.declared.field.Extent.{Extent}
use Rattle.dscb_rec.specs.declared.field.Entry5.{Entry5}
use Rattle.volume_model.specs.declared.place.Place.{Place}
use Rattle.volume_model.specs.declared.place.Placed.{Placed}
use Rattle.volume_model.specs.declared.place.Vtoc.{Vtoc}
use Rattle.volume_model.specs.Dscbs.{format_of}
use Rattle.volume_model.specs.declared.format.Format.TheVariants.{F1}
use Rattle.volume_model.specs.Changed.{needs_three}
use Rattle.volume_model.specs.Check.{records_of}
use Rattle.vtoc_check.specs.Sized.{IsSized}
use Rattle.vtoc_core.specs.Edit.{run_of_entry}
use Rattle.vtoc_core.specs.Loaded.{field_of}
use Rattle.vtoc_layout.specs.Layout.{AreDistinct, SetRecords, Layout, IsLayoutOf, name_of, extents_in_set, entries_by}
use Rattle.layout_edit.specs.Change.{place_of, LayoutChange, IsChangeOf}
use Rattle.dscb_made.specs.Made.{IsFormat1With, IsFormat3With, IsFormat5With, IsStatedFormat4}
use Rattle.vtoc_allot.specs.declared.held.Held.{Held}
use Rattle.vtoc_allot.specs.declared.held.Wanted.{Wanted}
use Rattle.vtoc_allot.specs.declared.places.Allotment.{Allotment}
use Rattle.vtoc_allot.specs.Allotted.{listed, IsHeld, IsAllotted}

-- ---- what is held

-- the places of a data set's records, if there is one, and of the format 5s of a layout
pub record HoldsLayout (layout : Layout) (gone : List SetRecords) (held : Held) : Type 0 where
  pub one_is : listed held.one ≡ map (λ set. place_of set.one) gone
  pub threes_are : held.threes ≡ flat_map (λ set. map place_of set.threes) gone
  pub fives_are : held.fives ≡ map place_of layout.fives

-- they have places of their own, of records that aren't free
abbrev pub LayoutsAreHeld : Type 0
LayoutsAreHeld =
    (vtoc : Vtoc) (layout : Layout) (front gone back : List SetRecords) (held : Held) → IsSized vtoc → IsLayoutOf vtoc layout → layout.sets ≡ front ++ (gone ++ back) → length gone ≤ 1
    → HoldsLayout layout gone held → IsHeld (records_of vtoc) held × AreDistinct (map place_of (records_of vtoc))

-- ---- what is written

-- the pointer to a place
abbrev pub pointer_to : ℕ → Place → Cchhr
pointer_to heads place = record { at = address_of heads place.track; r = place.record_number }

abbrev pub option_map : {X Y : Type 0} → (X → Y) → Option X → Option Y
option_map f None = None
option_map f (Some x) = Some (f x)

-- the first of a list, if there is one
abbrev pub first_in : {X : Type 0} → List X → Option X
first_in [] = None
first_in (x ∷ xs) = Some x

-- a data set's format 1, with the extents that it is to have
pub record Putting : Type 0 where
  pub format_1 : List ℕ
  pub extents : List Extent

-- Its records: a format 1, and a format 3 where it has four extents or more, to which the format 1 points.
pub record IsPut (heads : ℕ) (putting : Putting) (allotment : Allotment) (set : SetRecords) : Type 0 where
  pub one_at : allotment.one ≡ Some set.one.place
  pub threes_at : listed allotment.three ≡ map place_of set.threes
  pub few : length set.threes ≤ 1
  pub one_is : IsFormat1With putting.format_1 putting.extents (option_map (λ three. pointer_to heads three.place) (first_in set.threes)) set.one.bytes
  pub threes_are : All (λ three. IsFormat3With putting.extents three.bytes) set.threes

-- format 5s in order, each with its part of the entries and a pointer to the next
abbrev pub AreFivesWith : ℕ → List (List Entry5) → List Placed → Type 0
AreFivesWith heads [] [] = Unit {0}
AreFivesWith heads (entries ∷ parts) (five ∷ fives) =
    IsFormat5With entries (option_map (λ next. pointer_to heads next.place) (first_in fives)) five.bytes × AreFivesWith heads parts fives
AreFivesWith heads _ _ = ⊥

-- what a change wants: a data set or none, a format 3 where that needs one, and so many format 5s
pub record Wants (putting : List Putting) (parts : List (List Entry5)) (wanted : Wanted) : Type 0 where
  pub one_set : length putting ≤ 1
  pub one_is : wanted.one ≡ nat_lt 0 (length putting)
  pub three_is : wanted.three ≡ needs_three (length (flat_map (λ p. p.extents) putting))
  pub fives_are : wanted.fives ≡ length parts
  pub some_fives : 1 ≤ wanted.fives

-- each data set that is put has its records
abbrev pub ArePut : ℕ → List Putting → Allotment → List SetRecords → Type 0
ArePut heads [] allotment [] = (allotment.one ≡ None) × (allotment.three ≡ None)
ArePut heads (putting ∷ []) allotment (set ∷ []) = IsPut heads putting allotment set
ArePut heads _ allotment _ = ⊥

-- A change that is written where it was allotted: the format 4 in its place, format 5s with these parts of the entries, the data set, and zeros
-- over what is given back.
pub record IsPlanned (vtoc : Vtoc) (putting : List Putting) (parts : List (List Entry5)) (highest : Option Cchhr) (free : ℕ) (four : Placed) (allotment : Allotment) (change : LayoutChange) : Type 0 where
  pub four_at : change.four.place ≡ four.place
  pub four_is : IsStatedFormat4 four.bytes highest free change.four.bytes
  pub fives_at : allotment.fives ≡ map place_of change.fives
  pub fives_are : AreFivesWith vtoc.heads parts change.fives
  pub put_are : ArePut vtoc.heads putting allotment change.put
  pub freed_are : change.freed ≡ allotment.freed

-- the name of a data set that is put
abbrev pub name_in : Putting → List ℕ
name_in putting = take 44 putting.format_1

-- the data sets that are put are format 1s with names of their own, and their extents are there
pub record MayBePut (others : List SetRecords) (putting : List Putting) : Type 0 where
  pub formats : All (λ p. format_of p.format_1 ≡ F1) putting
  pub names : All (λ p. All (λ set. name_of set ≢ name_in p) others) putting
  pub few : All (λ p. length p.extents ≤ 16) putting

-- It is a change of the layout.
abbrev pub PlansAreChanges : Type 0
PlansAreChanges =
    (vtoc : Vtoc) (layout : Layout) (front gone back : List SetRecords) (held : Held) (wanted : Wanted) (second : Place) (allotment : Allotment) (putting : List Putting)
    (parts : List (List Entry5)) (highest : Option Cchhr) (free : ℕ) (change : LayoutChange)
    → IsSized vtoc → IsLayoutOf vtoc layout → layout.sets ≡ front ++ (gone ++ back) → length gone ≤ 1 → HoldsLayout layout gone held → Wants putting parts wanted → MayBePut (front ++ back) putting
    → IsAllotted (records_of vtoc) second held wanted allotment → IsPlanned vtoc putting parts highest free layout.four allotment change → IsChangeOf vtoc layout front gone back change

-- the data set that is put has its extents
abbrev pub PlansSayExtents : Type 0
PlansSayExtents =
    (heads : ℕ) (putting : List Putting) (parts : List (List Entry5)) (wanted : Wanted) (allotment : Allotment) (put : List SetRecords) → Wants putting parts wanted
    → (length (listed allotment.three) ≡ (if wanted.three then 1 else 0)) → All (λ p. length p.extents ≤ 16) putting → ArePut heads putting allotment put
    → flat_map extents_in_set put ≡ flat_map (λ p. map field_of p.extents) putting

-- and the format 5s have their entries, of which none is empty
abbrev pub PlansSayEntries : Type 0
PlansSayEntries =
    (heads : ℕ) (parts : List (List Entry5)) (layout : Layout) → AreFivesWith heads parts layout.fives
    → entries_by heads layout ≡ flat_map (λ entries. filter (λ run. nat_lt 0 run.len) (map (run_of_entry heads) entries)) parts
