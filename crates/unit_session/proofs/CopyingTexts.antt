-- Texts that are copied one after another.
use Rattle.std.proofs.Common.{◌+◌, ◌==◌, suc, take, drop, ◌≡◌, ◌≢◌, ◌⊎◌, ◌<◌, ◌≤◌, ◌/◌, ◌++◌, ◌∷◌, ℕ, List, Bool, true, false, map, length, get_or, All, Contains, refl, sym, ap, subst, ◌∙◌, inl, inr, arith, length-append}
use Rattle.std.proofs.lemmas.Bool.{false≢true}
use Rattle.std.specs.Prelude.{IsTrue, AllPairs}
use Rattle.std.proofs.Math.ListN.{get_or-append}
use Rattle.std.proofs.Math.Seq.{split_at}
use Rattle.std.proofs.lemmas.List.{get_or-map, get_or_default, get_or-append-add, get_or-take, length-map, length-take-le}
use Rattle.std.proofs.lemmas.Bool.Decides.{eqb_tells}
use Rattle.std.proofs.lemmas.List.Elements.{Contains-get_or, All-contains, Contains-append_left, Contains-append_right}
use Rattle.ckd_image.specs.declared.device.Device.{Device}
use Rattle.ckd_image.specs.declared.device.Device.TheVariants.{D3390, D3380, D3350}
use Rattle.ckd_image.specs.declared.track.Track.{Track}
use Rattle.ckd_image.specs.declared.track.TrackAt.{TrackAt}
use Rattle.ckd_image.specs.Address.{IsAddress, address_of}
use Rattle.ckd_image.specs.Device.{heads_of}
use Rattle.ckd_image.specs.Readdress.{IsReaddressed}
use Rattle.ckd_image.specs.Track.{IsTrackText}
use Rattle.ckd_image.proofs.OneText.{one_text}
use Rattle.dasd_pool.specs.Disk.{Image, Shape, is_at}
use Rattle.volume_model.specs.Reads.{IsTextAt}
use Rattle.move_core.specs.Steps.{empty_text}
use Rattle.unit_session.specs.declared.copies.TextMove.{TextMove}
use Rattle.unit_session.specs.declared.copies.Copies.{Copies}
use Rattle.unit_session.specs.Copies.{MayCopy, IsTextCopied, IsEmptied, AreCopied, IsTarget, IsFirstBad, targets_of, is_among}
use Rattle.unit_session.proofs.CopyingBlocks.{among_apart, at_apart}
use Rattle.ckd_image.proofs.Lists.{contains_map}
use Rattle.ckd_image.proofs.Devices.{is_address}

-- ---- targets

pub to_is_target : (copies : Copies) (move : TextMove) → Contains copies.moves.items move → Contains (targets_of copies) move.to
to_is_target copies move there =
    Contains-append_left (map (λ m. m.to) copies.moves.items) copies.empty.items move.to (contains_map (λ (m : TextMove). m.to) copies.moves.items move there)

pub empty_is_target : (copies : Copies) (track : ℕ) → Contains copies.empty.items track → Contains (targets_of copies) track
empty_is_target copies track there = Contains-append_right (map (λ m. m.to) copies.moves.items) copies.empty.items track there

pub target_below : (shape : Shape) (copies : Copies) → MayCopy shape copies → (track : ℕ) → Contains (targets_of copies) track → track < shape.blocks copies.unit
target_below shape copies may track there = All-contains (λ (t : ℕ). t < shape.blocks copies.unit) (targets_of copies) track may.targets there

pub source_below : (shape : Shape) (copies : Copies) → MayCopy shape copies → (move : TextMove) → Contains copies.moves.items move → move.from < shape.blocks copies.from
source_below shape copies may move there = All-contains (λ (m : TextMove). m.from < shape.blocks copies.from) copies.moves.items move may.sources there

-- ---- addresses

pub few_cylinders : (device : Device) (heads track blocks : ℕ) → heads ≡ heads_of device → blocks ≤ 65535 → track < blocks → track / heads < 65536
few_cylinders device heads track blocks is few less = subst (λ (h : ℕ). track / h < 65536) (sym is) (by device)
  where
    by : (d : Device) → track / heads_of d < 65536
    by D3390 = omega (arith, few, less)
    by D3380 = omega (arith, few, less)
    by D3350 = omega (arith, few, less)

-- ---- one text

text_moved : (from to : TrackAt) (old new : List ℕ) (done : Bool) → IsAddress from → length old ≤ 65536 → (IsTrue done → IsReaddressed from to old new)
    → (¬ IsTrue done → (track : Track) → ¬ IsTrackText from old track) → (text : Track) → IsTrackText from old text → IsTrackText to new text
text_moved from to old new true address short moved none text stands =
    let m = moved refl in
    let same : m.track ≡ text = one_text from old m.track text address short (record { sound = m.sound; text = (m.rest, m.before) }) stands in
    subst (IsTrackText to new) same (record { sound = m.sound; text = (m.rest, m.after) })
text_moved from to old new false address short moved none text stands = absurd (none false≢true text stands)

-- what was read, readdressed and written is copied
pub text_copied : (copies : Copies) (move : TextMove) (old new : Image) (read slot : List ℕ) (from to : TrackAt) (done : Bool)
    → from ≡ address_of (heads_of copies.device) move.from → to ≡ address_of (heads_of copies.device) move.to → move.from ≤ 65535 → length read ≤ 65536
    → read ≡ old copies.from move.from → new copies.unit move.to ≡ slot → (IsTrue done → IsReaddressed from to read slot)
    → (¬ IsTrue done → (track : Track) → ¬ IsTrackText from read track) → IsTextCopied copies old new move
text_copied copies move old new read slot from to done from_is to_is few short read_is new_is moved none text stands =
    let address = subst IsAddress (sym from_is) (is_address copies.device move.from few) in
    let here = subst (λ (at : TrackAt). IsTrackText at read text) (sym from_is) (subst (λ (l : List ℕ). IsTrackText (address_of (heads_of copies.device) move.from) l text) (sym read_is) stands) in
    let there : IsTrackText to slot text = text_moved from to read slot done address short moved none text here in
    subst (λ (l : List ℕ). IsTrackText (address_of (heads_of copies.device) move.to) l text) (sym new_is) (subst (λ (at : TrackAt). IsTrackText at slot text) to_is there)

-- the track of one copy has a text
abbrev pub HasText : Image → Copies → TextMove → Type 0
HasText contents copies move = (text : Track) × IsTrackText (address_of (heads_of copies.device) move.from) (contents copies.from move.from) text

-- ---- one after another

-- what holds of the first elements, and of the next one
pub below_more : {X : Type 0} (P : X → Type 0) (xs : List X) (index : ℕ) (e : X) → index < length xs → e ≡ get_or xs index e
    → ((i : ℕ) (d : X) → i < index → P (get_or xs i d)) → P e → (i : ℕ) (d : X) → i < index + 1 → P (get_or xs i d)
below_more {X} P xs index e less at each here i d lt = by (eqb_tells i index)
  where
    by : ((i == index) ≡ true) × (i ≡ index) ⊎ ((i == index) ≡ false) × ¬ (i ≡ index) → P (get_or xs i d)
    by (inl same) = subst P (at ∙ get_or_default xs index e d less ∙ ap (λ (k : ℕ). get_or xs k d) (sym same.1)) here
    by (inr other) = each i d (omega (arith, lt, other.1))

-- the next one as it stands in the list
pub next_at : {X : Type 0} (xs items : List X) (index : ℕ) (d : X) → items ≡ xs → index < length items → get_or items index d ≡ get_or xs index (get_or items index d)
next_at xs items index d same less =
    let e = get_or items index d in get_or_default items index d e less ∙ ap (λ (l : List _). get_or l index e) same

-- an element of both of two lists is two of the elements
pub not_both : (xs ys : List ℕ) (x : ℕ) → AllPairs (λ one other. one ≢ other) (xs ++ ys) → Contains xs x → Contains ys x → ⊥
not_both xs ys x apart here there =
    let less : length xs + there.0 < length (xs ++ ys) = omega (arith, there.1, length-append xs ys) in
    apart here.0 (length xs + there.0) x (omega (arith, here.1)) less
    (get_or-append xs ys x here.0 here.1 ∙ here.2 ∙ sym (get_or-append-add xs ys there.0 x ∙ there.2))

module _ (copies : Copies) (apart : AllPairs (λ one other. one ≢ other) (targets_of copies)) where
  abbrev tos : List ℕ
  tos = map (λ m. m.to) copies.moves.items

  long : length tos ≡ length copies.moves.items
  long = length-map copies.moves.items (λ (m : TextMove). m.to)

  to_at : (i : ℕ) (d : TextMove) (x : ℕ) → i < length copies.moves.items → get_or (targets_of copies) i x ≡ (get_or copies.moves.items i d).to
  to_at i d x less =
      get_or-append tos copies.empty.items x i (omega (arith, less, long))
      ∙ get_or-map (λ (m : TextMove). m.to) copies.moves.items i d x less

  many : length copies.moves.items + length copies.empty.items ≡ length (targets_of copies)
  many = omega (arith, long, length-append tos copies.empty.items)

  -- texts that are copied go to tracks apart
  other_to : (i j : ℕ) (d e : TextMove) → i < j → j < length copies.moves.items → (get_or copies.moves.items i d).to ≢ (get_or copies.moves.items j e).to
  other_to i j d e before less same =
      apart i j 0 before (omega (arith, less, many)) (to_at i d 0 (omega (arith, before, less)) ∙ same ∙ sym (to_at j e 0 less))

  other_empty : (i j d e : ℕ) → i < j → j < length copies.empty.items → get_or copies.empty.items i d ≢ get_or copies.empty.items j e
  other_empty i j d e before less same =
      apart (length tos + i) (length tos + j) 0 (omega (arith, before)) (omega (arith, less, many, long))
      (get_or-append-add tos copies.empty.items i 0 ∙ get_or_default copies.empty.items i 0 d (omega (arith, before, less)) ∙ same
      ∙ sym (get_or-append-add tos copies.empty.items j 0 ∙ get_or_default copies.empty.items j 0 e less))

  -- one more text is copied
  pub copied_more : (old mid new : Image) (index : ℕ) (e : TextMove) → All (λ move. ¬ IsTarget copies copies.from move.from) copies.moves.items
      → index < length copies.moves.items → e ≡ get_or copies.moves.items index e
      → ((u b : ℕ) → is_among copies.unit (map (λ m. m.to) copies.moves.items) u b ≡ false → mid u b ≡ old u b) → ((u b : ℕ) → is_at copies.unit e.to u b ≡ false → new u b ≡ mid u b)
      → ((i : ℕ) (d : TextMove) → i < index → IsTextCopied copies old mid (get_or copies.moves.items i d)) → IsTextCopied copies mid new e
      → (i : ℕ) (d : TextMove) → i < index + 1 → IsTextCopied copies old new (get_or copies.moves.items i d)
  copied_more old mid new index e unwritten less at still keeps before now =
      below_more (IsTextCopied copies old new) copies.moves.items index e less at (λ i d lt text stands. later i d lt text stands) (λ text stands. now text (here text stands))
    where
      later : (i : ℕ) (d : TextMove) → i < index → IsTextCopied copies old new (get_or copies.moves.items i d)
      later i d lt text stands =
          let move = get_or copies.moves.items i d in
          let apart_to : move.to ≢ e.to = λ same. other_to i index d e lt less (same ∙ ap (λ (m : TextMove). m.to) at) in
          subst (λ (slot : List ℕ). IsTrackText (address_of (heads_of copies.device) move.to) slot text)
          (sym (keeps copies.unit move.to (at_apart copies.unit e.to copies.unit move.to (λ both. apart_to both.1)))) (before i d lt text stands)

      source : mid copies.from e.from ≡ old copies.from e.from
      source = still copies.from e.from (among_apart copies.unit tos copies.from e.from
          (λ both. subst (λ (m : TextMove). ¬ IsTarget copies copies.from m.from) (sym at) (unwritten index e less) (both.0, Contains-append_left tos copies.empty.items e.from both.1)))

      here : (text : Track) → IsTrackText (address_of (heads_of copies.device) e.from) (old copies.from e.from) text
          → IsTrackText (address_of (heads_of copies.device) e.from) (mid copies.from e.from) text
      here text stands = subst (λ (slot : List ℕ). IsTrackText (address_of (heads_of copies.device) e.from) slot text) (sym source) stands

  -- one more track is emptied
  pub emptied_more : (mid new : Image) (index e : ℕ) → index < length copies.empty.items → e ≡ get_or copies.empty.items index e
      → ((u b : ℕ) → is_at copies.unit e u b ≡ false → new u b ≡ mid u b)
      → ((i d : ℕ) → i < index → IsEmptied copies mid (get_or copies.empty.items i d)) → IsEmptied copies new e
      → (i d : ℕ) → i < index + 1 → IsEmptied copies new (get_or copies.empty.items i d)
  emptied_more mid new index e less at keeps before now =
      below_more (IsEmptied copies new) copies.empty.items index e less at (λ i d lt. later i d lt) now
    where
      later : (i d : ℕ) → i < index → IsEmptied copies new (get_or copies.empty.items i d)
      later i d lt =
          let track = get_or copies.empty.items i d in
          let apart_to : track ≢ e = λ same. other_empty i index d e lt less (same ∙ at) in
          subst (λ (slot : List ℕ). IsTextAt (heads_of copies.device) track slot empty_text)
          (sym (keeps copies.unit track (at_apart copies.unit e copies.unit track (λ both. apart_to both.1)))) (before i d lt)

  -- first the texts are copied, and then the others are emptied
  pub both_copied : (old mid new : Image) → ((u b : ℕ) → is_among copies.unit (map (λ m. m.to) copies.moves.items) u b ≡ false → mid u b ≡ old u b)
      → ((u b : ℕ) → is_among copies.unit copies.empty.items u b ≡ false → new u b ≡ mid u b) → All (IsTextCopied copies old mid) copies.moves.items
      → All (IsEmptied copies new) copies.empty.items → AreCopied old new copies
  both_copied old mid new still keeps copied emptied = record {
    texts = λ k d less text stands.
        let move = get_or copies.moves.items k d in
        let there : Contains tos move.to = contains_map (λ (m : TextMove). m.to) copies.moves.items move (Contains-get_or copies.moves.items k d less) in
        subst (λ (slot : List ℕ). IsTrackText (address_of (heads_of copies.device) move.to) slot text)
        (sym (keeps copies.unit move.to (among_apart copies.unit copies.empty.items copies.unit move.to (λ both. not_both tos copies.empty.items move.to apart there both.1))))
        (copied k d less text stands);
    empty = emptied;
    same = λ u b not.
        keeps u b (among_apart copies.unit copies.empty.items u b (λ both. not (both.0, Contains-append_right tos copies.empty.items b both.1)))
        ∙ still u b (among_apart copies.unit tos u b (λ both. not (both.0, Contains-append_left tos copies.empty.items b both.1)));
  }

-- ---- looking

-- a slot whose address could be changed to what it is has a text
pub has_text : (contents : Image) (copies : Copies) (move : TextMove) (read slot : List ℕ) (at : TrackAt) → read ≡ contents copies.from move.from
    → at ≡ address_of (heads_of copies.device) move.from → IsReaddressed at at read slot → HasText contents copies move
has_text contents copies move read slot at read_is at_is m =
    let stands : IsTrackText at read m.track = record { sound = m.sound; text = (m.rest, m.before) } in
    (m.track, subst (λ (l : List ℕ). IsTrackText (address_of (heads_of copies.device) move.from) l m.track) read_is (subst (λ (a : TrackAt). IsTrackText a read m.track) at_is stands))

pub first_bad : (contents : Image) (copies : Copies) (index : ℕ) (e : TextMove) (read : List ℕ) (at : TrackAt) → index < length copies.moves.items → e ≡ get_or copies.moves.items index e
    → read ≡ contents copies.from e.from → at ≡ address_of (heads_of copies.device) e.from → ((text : Track) → ¬ IsTrackText at read text)
    → ((i : ℕ) (d : TextMove) → i < index → HasText contents copies (get_or copies.moves.items i d)) → IsFirstBad contents copies copies.from e.from
first_bad contents copies index e read at less there read_is at_is bad each =
    let moves = copies.moves.items in
    record {
      front = take index moves;
      move = e;
      back = drop (suc index) moves;
      moves_are = split_at moves index e less ∙ ap (λ (m : TextMove). take index moves ++ m ∷ drop (suc index) moves) (sym there);
      unit_is = refl;
      track_is = refl;
      bad = λ text stands.
          bad text (subst (λ (a : TrackAt). IsTrackText a read text) (sym at_is) (subst (λ (l : List ℕ). IsTrackText (address_of (heads_of copies.device) e.from) l text) (sym read_is) stands));
      good = λ k d lt.
          let below : k < index = omega (arith, lt, length-take-le index moves (omega (arith, less))) in
          subst (HasText contents copies) (sym (get_or-take index moves k d below)) (each k d below);
    }
