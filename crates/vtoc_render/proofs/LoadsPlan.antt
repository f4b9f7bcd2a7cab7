-- A change that was written is a planned one.
use Rattle.std.proofs.Common.{◌≡◌, ◌≢◌, ℕ, zero, suc, ◌≤◌, nat_lt, List, [], ◌∷◌, ◌++◌, length, map, take, drop, filter, All, Contains, Bool, Option, Some, None, IfSome, refl, sym, ap, subst, ◌∙◌, arith}
use Rattle.std.specs.Prelude.{option_to_list, is_some, find}
use Rattle.std.specs.List.{flat_map}
use Rattle.std.proofs.lemmas.List.Elements.{All-nil, All-cons}
use Rattle.ckd_image.specs.declared.head.Head.{Head}
use Rattle.ckd_image.specs.declared.track.Cchhr.{Cchhr}
use Rattle.ckd_image.specs.Device.{heads_of}
use Rattle.dscb_rec.specs.declared.field.Entry5.{Entry5}
use Rattle.dscb_rec.specs.declared.field.Extent.{Extent}
use Rattle.free_map.specs.Entries.{entry_of}
use Rattle.vol_label.specs.declared.label.Label.{Label}
use Rattle.volume_model.specs.declared.format.Format.TheVariants.{F1}
use Rattle.volume_model.specs.declared.place.Place.{Place}
use Rattle.volume_model.specs.declared.place.Placed.{Placed}
use Rattle.volume_model.specs.declared.place.Vtoc.{Vtoc}
use Rattle.volume_model.specs.Changed.{needs_three}
use Rattle.volume_model.specs.Check.{same_bytes}
use Rattle.volume_model.specs.Dscbs.{format_of}
use Rattle.volume_model.specs.Sound.{Slots}
use Rattle.volume_model.specs.Unit.{fives_for}
use Rattle.vtoc_core.specs.declared.volume.Row.{Row}
use Rattle.vtoc_core.specs.declared.volume.Volume.{Volume}
use Rattle.vtoc_core.specs.Loaded.{HasItsName}
use Rattle.vtoc_layout.proofs.Distinct.{among_others, distinct_others, one_of_map}
use Rattle.vtoc_layout.specs.Layout.{SetRecords, AreDistinct, name_of, sets_of, records_in_set}
use Rattle.layout_edit.specs.Change.{place_of, zeroed, LayoutChange, edits_of}
use Rattle.vtoc_allot.specs.declared.held.Held.{Held}
use Rattle.vtoc_allot.specs.declared.places.Allotment.{Allotment}
use Rattle.vtoc_allot.specs.Allotted.{listed, IsAllotted}
use Rattle.dscb_made.specs.Made.{IsFormat1With, IsFormat3With, IsStatedFormat4}
use Rattle.vtoc_plan.specs.Plan.{Putting, Wants, MayBePut, ArePut, AreFivesWith, pointer_to, option_map, first_in}
use Rattle.vtoc_making.specs.declared.set.SetWritten.{SetWritten}
use Rattle.vtoc_making.specs.Places.{IsThreeWritten, parts_of, next_pointer, last_of, is_one_after}
use Rattle.render_laws.specs.Rendered.{WasLoaded, WasPlanned}
use Rattle.render_laws.proofs.Before.{has_layout}
use Rattle.layout_found.specs.Sets.{set_named}
use Rattle.volume_change.specs.declared.change.Change.{Change}
use Rattle.volume_change.specs.declared.change.Change.TheVariants.{Repair, Put, Swap, Remove, Mark}
use Rattle.vtoc_render.specs.declared.change.Rendered.{Rendered}
use Rattle.vtoc_render.specs.Change.{putting_of}
use Rattle.vtoc_render.specs.Loads.{gone_of}
use Rattle.vtoc_render.specs.Next.{MayChange}
use Rattle.vtoc_render.specs.Steps.{IsAimOf, IsSetFor, has_three, wanted_for, records_put}
use Rattle.vtoc_render.specs.Written.{second_of, free_left, IsWritten, edits_with}
use Rattle.vtoc_render.proofs.Holds.{named_split, one_gone}
use Rattle.vtoc_render.proofs.May.{IsFit, put_fits}
use Rattle.vtoc_layout.proofs.Finds.{found_passes, none_passes}
use Rattle.vtoc_render.proofs.NextVolume.{put_named}
use Rattle.vtoc_render.proofs.PutPlaces.{so_many_fives}
use Rattle.volume_model.proofs.Numbers.{bytes_itself, bytes_equal}
use Rattle.layout_edit.proofs.Changes.{distinct_of_map}
use Rattle.vtoc_layout.proofs.Apart.{all_from}

-- ---- what is put

abbrev pub sets_put : Option SetWritten → List SetRecords
sets_put None = []
sets_put (Some set) = record { one = set.one; threes = listed set.three } ∷ []

abbrev pub change_of : Placed → List Placed → Option SetWritten → Allotment → LayoutChange
change_of four fives set allotment = record { four = four; fives = fives; put = sets_put set; freed = allotment.freed }

pub nothing_more : {X : Type 0} (xs : List X) → xs ++ [] ≡ xs
nothing_more [] = refl
nothing_more (x ∷ xs) = ap (λ more. x ∷ more) (nothing_more xs)

records_same : (set : Option SetWritten) → flat_map records_in_set (sets_put set) ≡ records_put set
records_same None = refl
records_same (Some set) = nothing_more (set.one ∷ listed set.three)

pub edits_same : (four : Placed) (fives : List Placed) (set : Option SetWritten) (allotment : Allotment) → edits_of (change_of four fives set allotment) ≡ edits_with four fives set allotment
edits_same four fives set allotment = ap (λ (records : List Placed). four ∷ (fives ++ (records ++ map zeroed allotment.freed))) (records_same set)

-- ---- what is wanted

pub length_parts : (count : ℕ) (entries : List Entry5) → length (parts_of count entries) ≡ count
length_parts zero entries = refl
length_parts (suc count) entries = ap suc (length_parts count (drop 26 entries))

one_of_put : (put : Option Row) → length (putting_of put) ≤ 1
one_of_put None = omega arith
one_of_put (Some row) = omega arith

one_wanted : (put : Option Row) → is_some put ≡ nat_lt 0 (length (putting_of put))
one_wanted None = refl
one_wanted (Some row) = refl

three_wanted : (put : Option Row) → has_three put ≡ needs_three (length (flat_map (λ (p : Putting). p.extents) (putting_of put)))
three_wanted None = refl
three_wanted (Some row) = ap (λ (extents : List Extent). needs_three (length extents)) (sym (nothing_more row.extents))

pub wants : (put : Option Row) (runs : ℕ) (parts : List (List Entry5)) → length parts ≡ fives_for runs → Wants (putting_of put) parts (wanted_for put runs)
wants put runs parts long = record {
  one_set = one_of_put put;
  one_is = one_wanted put;
  three_is = three_wanted put;
  fives_are = sym long;
  some_fives = omega arith;
}

-- ---- the data set's records

none_listed : {X : Type 0} (one : Option X) → length (listed one) ≡ 0 → one ≡ None
none_listed None e = refl
none_listed (Some x) e = absurd (omega (arith, e))

none_put : (records : List Placed) (second : Place) (held : Held) (runs : ℕ) (allotment : Allotment) → IsAllotted records second held (wanted_for None runs) allotment
    → (allotment.one ≡ None) × (allotment.three ≡ None)
none_put records second held runs allotment is = (
  none_listed allotment.one (omega (arith, ap length is.one_is, is.parts.so_many_ones)),
  none_listed allotment.three (omega (arith, ap length is.three_is, is.parts.so_many_threes)),
)

abbrev IsThree : ℕ → List Extent → Option Place → Option Placed → Type 0
IsThree heads extents at three =
    (listed at ≡ map place_of (listed three)) × (next_pointer heads at ≡ option_map (λ (three : Placed). pointer_to heads three.place) (first_in (listed three)))
    × (length (listed three) ≤ 1) × All (λ (three : Placed). IsFormat3With extents three.bytes) (listed three)

three_put : (heads : ℕ) (extents : List Extent) (at : Option Place) (three : Option Placed) → IsThreeWritten extents at three → IsThree heads extents at three
three_put heads extents None None is = (refl, refl, omega arith, All-nil (λ (three : Placed). IsFormat3With extents three.bytes))
three_put heads extents None (Some three) is = absurd is
three_put heads extents (Some place) None is = absurd is
three_put heads extents (Some place) (Some three) is = (
  ap (λ (p : Place). p ∷ []) (sym is.0),
  ap (λ (p : Place). Some (pointer_to heads p)) (sym is.0),
  omega arith,
  All-cons (λ (three : Placed). IsFormat3With extents three.bytes) three [] is.1 (All-nil (λ (three : Placed). IsFormat3With extents three.bytes)),
)

pub are_put : (heads : ℕ) (put : Option Row) (allotment : Allotment) (set : Option SetWritten) → (put ≡ None → (allotment.one ≡ None) × (allotment.three ≡ None)) → IsSetFor heads put allotment set
    → ArePut heads (putting_of put) allotment (sets_put set)
are_put heads None allotment set none is = subst (λ (set : Option SetWritten). ArePut heads [] allotment (sets_put set)) (sym is) (none refl)
are_put heads (Some row) allotment set none is =
    let written = is.1 in
    let made = is.4 in
    let three = three_put heads row.extents allotment.three written.three made.three_is in
    subst (λ (set : Option SetWritten). ArePut heads (putting_of (Some row)) allotment (sets_put set)) (sym is.3)
    (record {
      one_at = is.2 ∙ ap Some (sym made.one_at);
      threes_at = three.0;
      few = three.2;
      one_is = subst (λ (next : Option Cchhr). IsFormat1With row.f1 row.extents next written.one.bytes) three.1 made.one_is;
      threes_are = three.3;
    })

-- ---- its name is its own

others_named : (name : List ℕ) (sets front back : List SetRecords) (found : Option SetRecords) → AreDistinct (map name_of sets) → find (λ set. same_bytes (name_of set) name) sets ≡ found
    → sets ≡ front ++ (option_to_list found ++ back) → (set : SetRecords) → Contains (front ++ back) set → name_of set ≢ name
others_named name sets front back None apart e parts set c named =
    none_passes (λ set. same_bytes (name_of set) name) sets set e (subst (λ (sets : List SetRecords). Contains sets set) (sym parts) c)
    (ap (λ (n : List ℕ). same_bytes n name) named ∙ bytes_itself name)
others_named name sets front back (Some one) apart e parts set c named =
    let found = found_passes (λ set. same_bytes (name_of set) name) sets one e in
    let there : Contains sets set = subst (λ (sets : List SetRecords). Contains sets set) (sym parts) (among_others front one back set c) in
    let same : set ≡ one = one_of_map name_of sets set one apart there found.0 (named ∙ sym (bytes_equal (name_of one) name found.1)) in
    let once : AreDistinct (front ++ one ∷ back) = subst AreDistinct parts (distinct_of_map name_of sets apart) in
    (distinct_others front one back once).0 (subst (λ (set : SetRecords). Contains (front ++ back) set) same c)

put_name : (change : Change) (name : Option (List ℕ)) (put : Option Row) → IsAimOf change name put → IfSome put (λ row. name ≡ Some row.name)
put_name Repair name put aim = subst (λ (put : Option Row). IfSome put (λ row. name ≡ Some row.name)) (sym aim.1) tt
put_name (Put row) name put aim = subst (λ (put : Option Row). IfSome put (λ row. name ≡ Some row.name)) (sym aim.1) aim.0
put_name (Swap old row) name put aim = subst (λ (put : Option Row). IfSome put (λ row. name ≡ Some row.name)) (sym aim.1) aim.0
put_name (Remove old) name put aim = subst (λ (put : Option Row). IfSome put (λ row. name ≡ Some row.name)) (sym aim.1) tt
put_name Mark name put aim = absurd aim

may_be_put : (volume : Volume) (others : List SetRecords) (put : Option Row) → IfSome put (IsFit volume) → IfSome put (λ row. All (λ set. name_of set ≢ take 44 row.f1) others)
    → MayBePut others (putting_of put)
may_be_put volume others None fits names = record {
  formats = All-nil (λ (p : Putting). format_of p.format_1 ≡ F1);
  names = All-nil (λ (p : Putting). All (λ set. name_of set ≢ take 44 p.format_1) others);
  few = All-nil (λ (p : Putting). length p.extents ≤ 16);
}
may_be_put volume others (Some row) fits names =
    let p : Putting = record { format_1 = row.f1; extents = row.extents } in
    record {
      formats = All-cons (λ (p : Putting). format_of p.format_1 ≡ F1) p [] fits.format (All-nil (λ (p : Putting). format_of p.format_1 ≡ F1));
      names =
          All-cons (λ (p : Putting). All (λ set. name_of set ≢ take 44 p.format_1) others) p [] names (All-nil (λ (p : Putting). All (λ set. name_of set ≢ take 44 p.format_1) others));
      few = All-cons (λ (p : Putting). length p.extents ≤ 16) p [] fits.few (All-nil (λ (p : Putting). length p.extents ≤ 16));
    }

-- ---- the plan

abbrev pub parts_with : (volume : Volume) (slots : List ℕ) (name : Option (List ℕ)) (put : Option Row) (rendered : Rendered) → IsWritten volume slots name put rendered → List (List Entry5)
parts_with volume slots name put rendered is = parts_of (length is.allotment.fives) (map (entry_of is.free.heads) is.free.runs)

module _ {head : Head} {label : Label} {unit : Slots} {before : Bool} {slots : List ℕ} {volume : Volume} {vtoc : Vtoc} {four : Placed}
    (was : WasLoaded head label unit before slots volume vtoc four) where
  names_apart : (name : Option (List ℕ)) (put : Option Row) → IfSome put (λ row. name ≡ Some row.name) → IfSome put HasItsName
      → IfSome put (λ row. All (λ set. name_of set ≢ take 44 row.f1) ((named_split vtoc name).0 ++ (named_split vtoc name).1))
  names_apart name None is named = tt
  names_apart None (Some row) is named = absurd cc
  names_apart (Some name) (Some row) is named =
      let parts = named_split vtoc (Some name) in
      let same : name ≡ take 44 row.f1 = (let e : Some name ≡ Some row.name = is in let r : name ≡ row.name = cc in r) ∙ named in
      all_from (λ (set : SetRecords). name_of set ≢ take 44 row.f1) (parts.0 ++ parts.1)
      (λ set c e. others_named name (sets_of vtoc) parts.0 parts.1 (set_named vtoc name) (has_layout was).names refl parts.2 set c (e ∙ sym same))

  pub was_planned : (change : Change) (name : Option (List ℕ)) (put : Option Row) (rendered : Rendered) → MayChange volume change → IsAimOf change name put
      → (is : IsWritten volume slots name put rendered)
      → WasPlanned vtoc four (named_split vtoc name).0 (gone_of vtoc name) (named_split vtoc name).1 (putting_of put) (parts_with volume slots name put rendered is)
      (change_of is.four is.fives is.set is.allotment)
  was_planned change name put rendered may aim is =
      let parts = named_split vtoc name in
      let ground = is.ground_is head label unit before vtoc four was in
      let heads : heads_of volume.device ≡ vtoc.heads = ap heads_of was.volume_is.device_is ∙ sym was.stands.stands.heads_are in
      let wanted = wanted_for put (length is.free.runs) in
      let second = second_of volume in
      let highest = next_pointer (heads_of volume.device) (last_of (filter (is_one_after is.held.one is.allotment.one) is.base.directory.records.items)) in
      let left = free_left volume is.held put is.free in
      let many = so_many_fives is.base.directory.records.items second is.held wanted is.allotment is.allotted in
      let entries = map (entry_of is.free.heads) is.free.runs in
      record {
        held = is.held;
        wanted = wanted;
        second = second;
        allotment = is.allotment;
        highest = highest;
        free = left;
        sets_are = parts.2;
        one_gone = one_gone vtoc name;
        holds = is.held_is head label unit before vtoc four was;
        wants = wants put (length is.free.runs) (parts_of (length is.allotment.fives) entries) (length_parts (length is.allotment.fives) entries ∙ many);
        may = may_be_put volume (parts.0 ++ parts.1) put (put_fits volume change name put aim may) (names_apart name put (put_name change name put aim) (put_named volume change name put aim may));
        allotted = subst (λ (rs : List Placed). IsAllotted rs second is.held wanted is.allotment) ground.records_are is.allotted;
        planned =
            record {
              four_at = is.four_is.0 ∙ ap (λ (p : Placed). p.place) ground.four_is;
              four_is = subst (λ (old : Placed). IsStatedFormat4 old.bytes highest left is.four.bytes) ground.four_is is.four_is.1;
              fives_at = sym is.fives_are.at;
              fives_are = subst (λ (h : ℕ). AreFivesWith h (parts_of (length is.allotment.fives) entries) is.fives) heads is.fives_are.with_entries;
              put_are =
                  subst (λ (h : ℕ). ArePut h (putting_of put) is.allotment (sets_put is.set)) heads
                  (are_put (heads_of volume.device) put is.allotment is.set
                  (λ none. none_put is.base.directory.records.items second is.held (length is.free.runs) is.allotment
                  (subst (λ (put : Option Row). IsAllotted is.base.directory.records.items second is.held (wanted_for put (length is.free.runs)) is.allotment) none is.allotted)) is.set_is);
              freed_are = refl;
            };
      }

  -- the plan's parts are those of what was written
  pub record IsPlanOf (name : Option (List ℕ)) (put : Option Row) (rendered : Rendered) (is : IsWritten volume slots name put rendered)
      (plan : WasPlanned vtoc four (named_split vtoc name).0 (gone_of vtoc name) (named_split vtoc name).1 (putting_of put) (parts_with volume slots name put rendered is)
      (change_of is.four is.fives is.set is.allotment)) : Type 0 where
    pub held_is : plan.held ≡ is.held
    pub allotment_is : plan.allotment ≡ is.allotment
    pub second_is : plan.second ≡ second_of volume
    pub highest_is : plan.highest ≡ next_pointer (heads_of volume.device) (last_of (filter (is_one_after is.held.one is.allotment.one) is.base.directory.records.items))
    pub free_is : plan.free ≡ free_left volume is.held put is.free

  pub plan_is : (change : Change) (name : Option (List ℕ)) (put : Option Row) (rendered : Rendered) (may : MayChange volume change) (aim : IsAimOf change name put)
      → (is : IsWritten volume slots name put rendered) → IsPlanOf name put rendered is (was_planned change name put rendered may aim is)
  unfolding was_planned
  plan_is change name put rendered may aim is = record { held_is = refl; allotment_is = refl; second_is = refl; highest_is = refl; free_is = refl }
