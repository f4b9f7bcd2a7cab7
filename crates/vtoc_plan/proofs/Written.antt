-- Records that are written where they were allotted, and where their pointers lead.
use Rattle.std.proofs.Common.{◌≡◌, ◌⊎◌, ℕ, ◌%◌, ◌≤◌, List, [], ◌∷◌, ◌++◌, length, map, Bool, cond, All, Contains, Option, Some, None, refl, sym, ap, subst, ◌∙◌, arith, inl, inr}
use Rattle.std.specs.List.{flat_map}
use Rattle.std.proofs.Math.Nat.{mod-lt}
use Rattle.std.proofs.lemmas.Nat.{div-add-mod'}
use Rattle.std.proofs.lemmas.Bool.{lt-ltb}
use Rattle.std.proofs.lemmas.List.{map-append, append-nil}
use Rattle.std.proofs.lemmas.List.Elements.{All-nil, All-cons, All-head, All-contains}
use Rattle.ckd_image.specs.declared.track.Cchhr.{Cchhr}
use Rattle.volume_model.specs.declared.format.Format.TheVariants.{F3, F5}
use Rattle.volume_model.specs.declared.place.Place.{Place}
use Rattle.volume_model.specs.declared.place.Placed.{Placed}
use Rattle.volume_model.specs.Dscbs.{format_of, pointer_in}
use Rattle.volume_model.specs.Directory.{record_at, named_place, named_record}
use Rattle.dscb_rec.specs.declared.field.Entry5.{Entry5}
use Rattle.dscb_made.specs.Made.{IsFormat3With}
use Rattle.vtoc_layout.specs.Layout.{AreDistinct, SetRecords, IsLinked, AreLinkedFives, AreSetRecords, records_in_set, name_of}
use Rattle.vtoc_layout.proofs.Apart.{all_from}
use Rattle.vtoc_layout.proofs.Distinct.{first_or_later, at_first, in_later, in_front, in_back, distinct_front, distinct_back, not_both, distinct_append, from_map}
use Rattle.vtoc_write.specs.Edited.{edit_of, placed_with, after_edits}
use Rattle.layout_edit.specs.Change.{place_of, zeroed}
use Rattle.layout_edit.proofs.Edits.{edit_named, place_kept}
use Rattle.vtoc_allot.specs.declared.places.Allotment.{Allotment}
use Rattle.vtoc_allot.specs.Allotted.{listed}
use Rattle.vtoc_plan.specs.Plan.{pointer_to, option_map, first_in, Putting, IsPut, AreFivesWith, ArePut, name_in, MayBePut}
use Rattle.ckd_image.proofs.Lists.{contains_map}

-- ---- places of what is written

pub zeroed_places : (places : List Place) → map place_of (map zeroed places) ≡ places
zeroed_places [] = refl
zeroed_places (place ∷ more) = ap (λ (xs : List Place). place ∷ xs) (zeroed_places more)

pub put_places : (heads : ℕ) (putting : List Putting) (allotment : Allotment) (put : List SetRecords) → ArePut heads putting allotment put
    → map place_of (flat_map records_in_set put) ≡ listed allotment.one ++ listed allotment.three
put_places heads [] allotment [] made = sym (λ i. listed (made.0 i) ++ listed (made.1 i))
put_places heads [] allotment (set ∷ put) made = absurd made
put_places heads (p ∷ []) allotment [] made = absurd made
put_places heads (p ∷ []) allotment (set ∷ other ∷ put) made = absurd made
put_places heads (p ∷ q ∷ putting) allotment [] made = absurd made
put_places heads (p ∷ q ∷ putting) allotment (set ∷ put) made = absurd made
put_places heads (p ∷ []) allotment (set ∷ []) made =
    ap (λ (xs : List Placed). set.one.place ∷ map place_of xs) (append-nil set.threes) ∙ sym (λ i. listed (made.one_at i) ++ made.threes_at i)

-- ---- the format 5s

pub are_fives : (heads : ℕ) (parts : List (List Entry5)) (fives : List Placed) → AreFivesWith heads parts fives → All (λ (five : Placed). format_of five.bytes ≡ F5) fives
are_fives heads [] [] made = All-nil (λ (five : Placed). format_of five.bytes ≡ F5)
are_fives heads [] (five ∷ fives) made = absurd made
are_fives heads (entries ∷ parts) [] made = absurd made
are_fives heads (entries ∷ parts) (five ∷ fives) made = All-cons (λ (five : Placed). format_of five.bytes ≡ F5) five fives made.0.format (are_fives heads parts fives made.1)

-- ---- where pointers lead

place_named : (heads : ℕ) (place : Place) → named_place heads (pointer_to heads place) ≡ place
place_named heads place = (λ i. record { track = div-add-mod' place.track heads i; record_number = place.record_number })

places_after : (edits records : List Placed) → map place_of (after_edits edits records) ≡ map place_of records
places_after edits [] = refl
places_after edits (placed ∷ more) = (λ i. place_kept placed (edit_of edits placed.place) i ∷ places_after edits more i)

module _ (heads : ℕ) (some_heads : 1 ≤ heads) (edits records : List Placed) (apart : AreDistinct (map place_of records)) (once : AreDistinct (map place_of edits))
    (there : All (λ (edit : Placed). Contains (map place_of records) edit.place) edits) where
  abbrev after : List Placed
  after = after_edits edits records

  abbrev edited : Placed → Placed
  edited placed = placed_with placed (edit_of edits placed.place)

  edit_there : (edit : Placed) → Contains edits edit → Contains after edit
  edit_there edit c =
      let at = from_map place_of records edit.place (All-contains (λ (e : Placed). Contains (map place_of records) e.place) edits edit there c) in
      let found : edit_of edits at.0.place ≡ Some edit = edit_named edits edit at.0.place once c (sym at.2) in
      let same : edited at.0 ≡ edit = ap (placed_with at.0) found ∙ (λ i. record { place = at.2 i; bytes = edit.bytes }) in
      let P : Placed → Type 0 = λ placed. Contains after placed in
      subst P same (contains_map edited records at.0 at.1)

  -- the pointer to what is written leads there
  edit_found : (edit : Placed) → Contains edits edit → named_record heads after (Some (pointer_to heads edit.place)) ≡ Some edit
  edit_found edit c =
      let D : List Place → Type 0 = λ xs. AreDistinct xs in
      ap (λ (b : Bool). cond b (record_at after (named_place heads (pointer_to heads edit.place))) None) (lt-ltb (edit.place.track % heads) heads (mod-lt edit.place.track some_heads))
      ∙ edit_named after edit (named_place heads (pointer_to heads edit.place)) (subst D (sym (places_after edits records)) apart) (edit_there edit c) (sym (place_named heads edit.place))

  leads : (pointer : Option Cchhr) (next : Placed) → pointer ≡ Some (pointer_to heads next.place) → Contains edits next → named_record heads after pointer ≡ Some next
  leads pointer next e c = ap (named_record heads after) e ∙ edit_found next c

  linked_behind : (parts : List (List Entry5)) (bytes : List ℕ) (fives : List Placed) → pointer_in bytes ≡ option_map (λ (next : Placed). pointer_to heads next.place) (first_in fives) → AreFivesWith heads parts fives
      → ((five : Placed) → Contains fives five → Contains edits five) → IsLinked heads after bytes fives
  linked_behind parts bytes [] e made c = e
  linked_behind [] bytes (five ∷ fives) e made c = absurd made
  linked_behind (entries ∷ parts) bytes (five ∷ fives) e made c =
      (leads (pointer_in bytes) five e (c five (at_first five fives)), linked_behind parts five.bytes fives made.0.next_is made.1 (λ other p. c other (in_later five other fives p)))

  pub fives_linked : (parts : List (List Entry5)) (fives : List Placed) → AreFivesWith heads parts fives → ((five : Placed) → Contains fives five → Contains edits five) → AreLinkedFives heads after fives
  fives_linked parts [] made c = tt
  fives_linked [] (five ∷ fives) made c = absurd made
  fives_linked (entries ∷ parts) (five ∷ fives) made c = linked_behind parts five.bytes fives made.0.next_is made.1 (λ other p. c other (in_later five other fives p))

  set_linked : (putting : Putting) (allotment : Allotment) (set : SetRecords) → IsPut heads putting allotment set → ((placed : Placed) → Contains (records_in_set set) placed → Contains edits placed)
      → IsLinked heads after set.one.bytes set.threes
  set_linked putting allotment set made c = by set.threes made.few made.one_is.next_is made.threes_are (λ three p. c three (in_later set.one three set.threes p))
    where
      by : (threes : List Placed) → length threes ≤ 1 → pointer_in set.one.bytes ≡ option_map (λ (three : Placed). pointer_to heads three.place) (first_in threes)
          → All (λ (three : Placed). IsFormat3With putting.extents three.bytes) threes → ((three : Placed) → Contains threes three → Contains edits three) → IsLinked heads after set.one.bytes threes
      by [] le e are in_edits = e
      by (three ∷ []) le e are in_edits =
          (leads (pointer_in set.one.bytes) three e (in_edits three (at_first three [])), (All-head (λ (t : Placed). IsFormat3With putting.extents t.bytes) three [] are).next_is)
      by (three ∷ other ∷ more) le e are in_edits = absurd (omega (arith, le))

  set_records : (putting : Putting) (allotment : Allotment) (set : SetRecords) → IsPut heads putting allotment set → ((placed : Placed) → Contains (records_in_set set) placed → Contains edits placed)
      → AreSetRecords heads after set
  set_records putting allotment set made c = record {
    one_is = made.one_is.format;
    threes_are = all_from (λ (three : Placed). format_of three.bytes ≡ F3) set.threes (λ three p. (All-contains (λ (t : Placed). IsFormat3With putting.extents t.bytes) set.threes three made.threes_are p).format);
    linked = set_linked putting allotment set made c;
  }

  pub put_records : (putting : List Putting) (allotment : Allotment) (put : List SetRecords) → ArePut heads putting allotment put → ((placed : Placed) → Contains (flat_map records_in_set put) placed → Contains edits placed)
      → All (AreSetRecords heads after) put
  put_records [] allotment [] made c = All-nil (AreSetRecords heads after)
  put_records [] allotment (set ∷ put) made c = absurd made
  put_records (p ∷ []) allotment [] made c = absurd made
  put_records (p ∷ []) allotment (set ∷ other ∷ put) made c = absurd made
  put_records (p ∷ q ∷ putting) allotment [] made c = absurd made
  put_records (p ∷ q ∷ putting) allotment (set ∷ put) made c = absurd made
  put_records (p ∷ []) allotment (set ∷ []) made c =
      All-cons (AreSetRecords heads after) set [] (set_records p allotment set made (λ placed q. c placed (in_front (records_in_set set) [] placed q))) (All-nil (AreSetRecords heads after))

-- ---- names

names_three : (xs ys zs : List SetRecords) → map name_of (xs ++ (ys ++ zs)) ≡ map name_of xs ++ (map name_of ys ++ map name_of zs)
names_three xs ys zs = map-append name_of xs (ys ++ zs) ∙ ap (λ (names : List (List ℕ)). map name_of xs ++ names) (map-append name_of ys zs)

pub names_apart : (heads : ℕ) (putting : List Putting) (allotment : Allotment) (front gone back put : List SetRecords) → AreDistinct (map name_of (front ++ (gone ++ back))) → MayBePut (front ++ back) putting
    → ArePut heads putting allotment put → AreDistinct (map name_of (front ++ (put ++ back)))
names_apart heads putting allotment front gone back put before may made =
    subst D (sym (names_three front put back)) (by putting put may made)
  where
    D : List (List ℕ) → Type 0
    D = λ xs. AreDistinct xs

    stood : AreDistinct (map name_of front ++ (map name_of gone ++ map name_of back))
    stood = subst D (names_three front gone back) before

    in_front_names : AreDistinct (map name_of front)
    in_front_names = distinct_front (map name_of front) (map name_of gone ++ map name_of back) stood

    in_back_names : AreDistinct (map name_of back)
    in_back_names = distinct_back (map name_of gone) (map name_of back) (distinct_back (map name_of front) (map name_of gone ++ map name_of back) stood)

    either : (z : List ℕ) → Contains (map name_of front) z → Contains (map name_of back) z → ⊥
    either z p q = not_both (map name_of front) (map name_of gone ++ map name_of back) z stood p (in_back (map name_of gone) (map name_of back) z q)

    -- no data set that stays has this name
    fresh : (p : Putting) → All (λ (set : SetRecords). ¬ (name_of set ≡ name_in p)) (front ++ back) → (z : List ℕ) → name_in p ≡ z → (Contains (map name_of front) z ⊎ Contains (map name_of back) z) → ⊥
    fresh p all z e (inl c) = let at = from_map name_of front z c in All-contains (λ (set : SetRecords). ¬ (name_of set ≡ name_in p)) (front ++ back) at.0 all (in_front front back at.0 at.1) (at.2 ∙ sym e)
    fresh p all z e (inr c) = let at = from_map name_of back z c in All-contains (λ (set : SetRecords). ¬ (name_of set ≡ name_in p)) (front ++ back) at.0 all (in_back front back at.0 at.1) (at.2 ∙ sym e)

    one : (p : Putting) (set : SetRecords) → name_of set ≡ name_in p → All (λ (other : SetRecords). ¬ (name_of other ≡ name_in p)) (front ++ back) → AreDistinct (map name_of front ++ (name_of set ∷ map name_of back))
    one p set e all =
        distinct_append (map name_of front) (name_of set ∷ map name_of back) in_front_names ((λ c. fresh p all (name_of set) (sym e) (inr c)), in_back_names)
        (λ z a b. cross z a (first_or_later (name_of set) z (map name_of back) b))
      where
        cross : (z : List ℕ) → Contains (map name_of front) z → ((name_of set ≡ z) ⊎ Contains (map name_of back) z) → ⊥
        cross z a (inl same) = fresh p all z (sym e ∙ same) (inl a)
        cross z a (inr b) = either z a b

    by : (putting : List Putting) (put : List SetRecords) → MayBePut (front ++ back) putting → ArePut heads putting allotment put → AreDistinct (map name_of front ++ (map name_of put ++ map name_of back))
    by [] [] may made = distinct_append (map name_of front) (map name_of back) in_front_names in_back_names either
    by [] (set ∷ put) may made = absurd made
    by (p ∷ []) [] may made = absurd made
    by (p ∷ []) (set ∷ other ∷ put) may made = absurd made
    by (p ∷ q ∷ putting) [] may made = absurd made
    by (p ∷ q ∷ putting) (set ∷ put) may made = absurd made
    by (p ∷ []) (set ∷ []) may made = one p set made.one_is.name (All-head (λ (p : Putting). All (λ (other : SetRecords). ¬ (name_of other ≡ name_in p)) (front ++ back)) p [] may.names)
