-- A data set of settled units has as many texts as tracks.
use Rattle.std.proofs.Common.{◌≡◌, ◌⊎◌, inl, inr, ℕ, List, [], ◌∷◌, ◌++◌, length, Bool, Contains, Some, refl, sym, ap, subst, ◌∙◌, arith}
use Rattle.std.specs.Prelude.{slice_get}
use Rattle.std.proofs.lemmas.Bool.{cases_eq}
use Rattle.std.proofs.lemmas.List.{length-append}
use Rattle.std.proofs.lemmas.Option.{same_Some}
use Rattle.dasd_pool.specs.Disk.{State}
use Rattle.dasd_pool.proofs.Slices.{get_there, get_other}
use Rattle.redo_core.specs.declared.control.Control.{Control}
use Rattle.redo_core.specs.declared.control.Control.TheVariants.{Idle, Slide}
use Rattle.volume_model.specs.Directory.{DirectoryRow}
use Rattle.volume_model.specs.Reads.{IsUnit, AreDataSets}
use Rattle.volume_model.specs.Sound.{Slots}
use Rattle.volume_model.specs.Unit.{Extent, DataSet, OnlineVolume, UnitModel, online, tracks_in, tracks_of}
use Rattle.vtoc_layout.proofs.Distinct.{first_or_later, in_none, in_middle, or_other, among_others}
use Rattle.move_core.specs.Facts.{Facts}
use Rattle.move_core.specs.Stands.{extent_from, moved_to, Slides, IsAfterSlide, IsSettled}
use Rattle.dump_sets.proofs.job_turns.job_copies.unit_steps.Cutting.{texts_long}
use Rattle.job_ops.proofs.Judging.{volume_in}
use Rattle.dump_sets.proofs.job_turns.job_copies.job_select.Counts.{tracks_long}

-- ---- tracks

-- those of an extent that stands elsewhere are as many
as_many : (front back : List Extent) (one other : Extent) → one.run.len ≡ other.run.len → length (tracks_of (front ++ (one ∷ back))) ≡ length (tracks_of (front ++ (other ∷ back)))
as_many [] back one other same =
    omega
    (arith, same, length-append (tracks_in one.run) (tracks_of back), length-append (tracks_in other.run) (tracks_of back), tracks_long one.run, tracks_long other.run)
as_many (extent ∷ front) back one other same =
    omega
    (arith, as_many front back one other same, length-append (tracks_in extent.run) (tracks_of (front ++ (one ∷ back))), length-append (tracks_in extent.run) (tracks_of (front ++ (other ∷ back))))

-- ---- data sets

abbrev HasTexts : DataSet → Type 0
HasTexts set = length set.texts ≡ length (tracks_of set.extents)

abbrev HaveTexts : OnlineVolume → Type 0
HaveTexts volume = (set : DataSet) → Contains volume.sets set → HasTexts set

sets_texts : (heads : ℕ) (place : ℕ → ℕ) (slots : Slots) (rows : List DirectoryRow) (sets : List DataSet) → AreDataSets heads place slots rows sets → (set : DataSet) → Contains sets set → HasTexts set
sets_texts heads place slots [] [] are set there = absurd (in_none set there)
sets_texts heads place slots [] (first ∷ sets) are set there = absurd are
sets_texts heads place slots (row ∷ rows) [] are set there = absurd are
sets_texts heads place slots (row ∷ rows) (first ∷ sets) are set there = by (sets_texts heads place slots rows sets are.1 set) (first_or_later first set sets there)
  where
    by : (Contains sets set → HasTexts set) → ((first ≡ set) ⊎ Contains sets set) → HasTexts set
    by later (inl here) = subst HasTexts here (texts_long heads place slots (tracks_of first.extents) first.texts are.0.texts_are)
    by later (inr behind) = later behind

unit_texts : (filling sliding : Bool) (place : ℕ → ℕ) (head : List ℕ) (blocks : ℕ) (slots : Slots) (volume : OnlineVolume) → IsUnit filling sliding place head blocks slots (online volume) → HaveTexts volume
unit_texts filling sliding place head blocks slots volume is = sets_texts _ place slots is.1.found.rows volume.sets is.1.sets_are

-- ---- an open slide

slid_texts : (room from to len : ℕ) (before after : OnlineVolume) → Slides room from to len before after → HaveTexts before → HaveTexts after
slid_texts room from to len before after slides had set there =
    let changes = slides.changes in
    let extent = slides.extent in
    let gone = extent.set in
    let put = moved_to extent to len in
    let listed : Contains (changes.front ++ (put ∷ changes.back)) set = subst (λ (v : OnlineVolume). Contains v.sets set) changes.after_is there in
    let was : Contains before.sets gone = subst (λ (sets : List DataSet). Contains sets gone) (sym changes.sets_were) (in_middle changes.front gone changes.back) in
    let moved : HasTexts put =
    had gone was ∙ ap (λ (extents : List Extent). length (tracks_of extents)) slides.extents_are
    ∙ as_many extent.front extent.back (extent_from from len extent.kind) (extent_from to len extent.kind) refl in
    elim (or_other changes.front put changes.back set listed) [
      | inl here ↦ subst HasTexts here moved
      | inr other ↦ had set (subst (λ (sets : List DataSet). Contains sets set) (sym changes.sets_were) (among_others changes.front gone changes.back set other))
    ]

-- ---- settled units

abbrev AllHaveTexts : List UnitModel → Type 0
AllHaveTexts units = (unit : ℕ) (volume : OnlineVolume) → slice_get units unit ≡ Some (online volume) → HaveTexts volume

after_texts : (room : ℕ) (control : Control) (found units : List UnitModel) → IsAfterSlide room control found units → AllHaveTexts found → AllHaveTexts units
after_texts room Idle found units same had unit volume at = had unit volume (subst (λ (list : List UnitModel). slice_get list unit ≡ Some (online volume)) same at)
after_texts room (Slide slid from to len done) found units (before, after, replaces, slides) had unit volume at = elim (cases_eq unit slid) [
  | inl here ↦
      let was : slice_get found slid ≡ Some (online before) =
      ap (λ (list : List UnitModel). slice_get list slid) replaces.before_is
      ∙ subst (λ (n : ℕ). slice_get (replaces.front ++ (online before ∷ replaces.back)) n ≡ Some (online before)) replaces.long (get_there replaces.front replaces.back (online before)) in
      let is : slice_get units slid ≡ Some (online after) =
      ap (λ (list : List UnitModel). slice_get list slid) replaces.after_is
      ∙ subst (λ (n : ℕ). slice_get (replaces.front ++ (online after ∷ replaces.back)) n ≡ Some (online after)) replaces.long (get_there replaces.front replaces.back (online after)) in
      let same : after ≡ volume =
      ap (volume_in volume) (same_Some (online after) (online volume) (sym is ∙ subst (λ (n : ℕ). slice_get units n ≡ Some (online volume)) here at)) in
      subst HaveTexts same (slid_texts room from to len before after slides (had slid before was))
  | inr apart ↦
      had unit volume
      (ap (λ (list : List UnitModel). slice_get list unit) replaces.before_is
      ∙ get_other replaces.front replaces.back (online before) (online after) unit (λ same. apart (same ∙ replaces.long))
      ∙ sym (ap (λ (list : List UnitModel). slice_get list unit) replaces.after_is) ∙ at)
]

pub texts_counted : (facts : Facts) (state : State) (units : List UnitModel) → IsSettled facts state units → (unit : ℕ) (volume : OnlineVolume) → slice_get units unit ≡ Some (online volume)
    → (set : DataSet) → Contains volume.sets set → length set.texts ≡ length (tracks_of set.extents)
texts_counted facts state units settled =
    let reading = settled.stands.reading in
    let means = settled.stands.means in
    after_texts reading.room reading.control means.found units means.after
    (λ unit volume at. unit_texts _ _ _ _ _ _ volume (means.found_are.each unit (online volume) at))
