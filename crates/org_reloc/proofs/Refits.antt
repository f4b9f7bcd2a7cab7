-- A refit of a sequential data set.
use Rattle.std.proofs.Common.{◌≡◌, ◌≢◌, ℕ, ◌+◌, ◌-◌, ◌<◌, ◌≤◌, List, [], ◌∷◌, ◌++◌, length, map, get_or, All, refl, sym, ap, subst, ◌∙◌, arith, append_assoc, inl, inr, length-append}
use Rattle.std.proofs.lemmas.List.{length-map, take_at}
use Rattle.std.proofs.lemmas.List.Elements.{All-nil, All-cons, All-push, All-map, All-head, All-tail}
use Rattle.ckd_image.specs.declared.device.Device.{Device}
use Rattle.ckd_image.specs.declared.device.Device.TheVariants.{D3390, D3380, D3350}
use Rattle.ckd_image.specs.declared.track.Rec.{Rec}
use Rattle.ckd_image.specs.declared.track.Track.{Track}
use Rattle.org_reloc.specs.declared.block.Block.{Block}
use Rattle.org_reloc.specs.declared.place.Place.{Place}
use Rattle.org_reloc.specs.declared.refit.Refit.{Refit}
use Rattle.org_reloc.specs.Content.{block_of, end_of_file, IsBlock, IsEnd, records_of, HasNoEnd, HoldUpToEnd}
use Rattle.org_reloc.specs.Packing.{FitsAlone, track_of, HaveRoom}
use Rattle.org_reloc.specs.Place.{nowhere, place_text, Names, NamesBlocks}
use Rattle.org_reloc.specs.Filling.{filling_of, groups_of, IsNewest, ArePlaces}
use Rattle.org_reloc.specs.Sequential.{IsContent, IsLast, IsLastBlock, IsRefit, HoldsTheSame, IsPlaceOfLast, IsBlocksRefit}
use Rattle.org_reloc.proofs.Fillings.{full_grows}
use Rattle.org_reloc.proofs.Groups.{grouped}
use Rattle.org_reloc.proofs.Naming.{named_at, newest_some, blocks_of_tracks}
use Rattle.org_reloc.proofs.Room.{room}

-- ---- lists

-- an image of a list is parted as the list is
pub record Parted {X Y : Type 0} (f : X → Y) (zs : List X) (xs : List Y) (y : Y) (ys : List Y) : Type 0 where
  pub front : List X
  pub item : X
  pub back : List X
  pub parted : zs ≡ front ++ item ∷ back
  pub front_is : map f front ≡ xs
  pub item_is : f item ≡ y
  pub back_is : map f back ≡ ys

pub parted_by : {X Y : Type 0} (f : X → Y) (zs : List X) (xs : List Y) (y : Y) (ys : List Y) → map f zs ≡ xs ++ y ∷ ys → Parted f zs xs y ys
parted_by f [] [] y ys e = absurd (omega (arith, ap length e))
parted_by f [] (x ∷ xs) y ys e = absurd (omega (arith, ap length e))
parted_by f (z ∷ zs) [] y ys e =
    let head : f z ≡ y = cc in
    let tail : map f zs ≡ ys = cc in
    record { front = []; item = z; back = zs; parted = refl; front_is = refl; item_is = head; back_is = tail }
parted_by f (z ∷ zs) (x ∷ xs) y ys e =
    let head : f z ≡ x = cc in
    let tail : map f zs ≡ xs ++ y ∷ ys = cc in
    let h = parted_by f zs xs y ys tail in
    let both : map f (z ∷ h.front) ≡ x ∷ xs = let more = h.front_is in cc in
    record { front = z ∷ h.front; item = h.item; back = h.back; parted = ap (λ l. z ∷ l) h.parted; front_is = both; item_is = h.item_is; back_is = h.back_is }

-- the last of a list
pub record LastOf {X : Type 0} (xs : List X) : Type 0 where
  pub front : List X
  pub item : X
  pub whole : xs ≡ front ++ item ∷ []

pub last_of : {X : Type 0} (x : X) (xs : List X) → LastOf (x ∷ xs)
last_of x [] = record { front = []; item = x; whole = refl }
last_of x (y ∷ more) = let h = last_of y more in record { front = x ∷ h.front; item = h.item; whole = ap (λ l. x ∷ l) h.whole }

-- ---- content

abbrev pub IsNoEnd : Block → Type 0
IsNoEnd block = block ≢ end_of_file

unmapped : (recs : List Rec) → All IsNoEnd (map block_of recs) → HasNoEnd recs
unmapped [] each = All-nil (λ rec. ¬ IsEnd rec)
unmapped (rec ∷ more) each =
    All-cons (λ rec. ¬ IsEnd rec) rec more (All-head IsNoEnd (block_of rec) (map block_of more) each) (unmapped more (All-tail IsNoEnd (block_of rec) (map block_of more) each))

-- records hold blocks up to an end of file where they are those and then one
pub held_of : (recs : List Rec) (blocks behind : List Block) → map block_of recs ≡ blocks ++ end_of_file ∷ behind → All IsNoEnd blocks → HoldUpToEnd recs blocks
held_of recs blocks behind e each =
    let h = parted_by block_of recs blocks end_of_file behind e in record {
      run = h.front;
      end = h.item;
      behind = h.back;
      spelled = h.parted;
      before = unmapped h.front (subst (All IsNoEnd) (sym h.front_is) each);
      ends = h.item_is;
      blocks_are = sym h.front_is;
    }

pub no_end_of : (recs : List Rec) (blocks : List Block) → HoldUpToEnd recs blocks → All IsNoEnd blocks
no_end_of recs blocks h = subst (All IsNoEnd) (sym h.blocks_are) (All-map IsNoEnd block_of h.run h.before)

no_end_in : (tracks : List Track) (last : List ℕ) (content : List Block) → IsContent tracks last content → All IsNoEnd content
no_end_in tracks last content (inl h) = subst (All IsNoEnd) (sym h.1) (All-nil IsNoEnd)
no_end_in tracks last content (inr h) = no_end_of (records_of tracks) content h.1

pub end_fits : (device : Device) → FitsAlone device end_of_file
end_fits D3390 = omega arith
end_fits D3380 = omega arith
end_fits D3350 = omega arith

pub end_sized : IsBlock end_of_file
end_sized = record { key_fits = omega arith; body_fits = omega arith }

-- ---- the last block

pub place_somewhere : (track number : ℕ) → 1 ≤ number → place_text track number ≢ nowhere
place_somewhere track number low e = absurd (omega (arith, ap (λ l. get_or l 2 0) e))

two : (tracks : List Track) (place : List ℕ) (block : Block) (recs : List Rec) → Names tracks place recs → map block_of recs ≡ block ∷ end_of_file ∷ [] → IsLastBlock tracks place
two tracks place block [] names e = absurd (omega (arith, ap length e))
two tracks place block (one ∷ []) names e = absurd (omega (arith, ap length e))
two tracks place block (one ∷ other ∷ []) names e = let same : block_of other ≡ end_of_file = cc in record { block = one; end = other; ends = same; place = names }
two tracks place block (one ∷ other ∷ third ∷ more) names e = absurd (omega (arith, ap length e))

two_records : (tracks : List Track) (place : List ℕ) (block : Block) → NamesBlocks tracks place (block ∷ end_of_file ∷ []) → IsLastBlock tracks place
two_records tracks place block h = two tracks place block h.recs h.names h.blocks_are

-- the place of the last block names it and the end of file
record LastPlace (tracks : List Track) (last : List ℕ) : Type 0 where
  names : IsLastBlock tracks last
  somewhere : last ≢ nowhere

last_place : (device : Device) (content : List Block) (refit : Refit) (places : List Place) → 1 ≤ length content → LastOf content
    → refit.tracks ≡ map track_of (groups_of (filling_of device (content ++ end_of_file ∷ []))) → length refit.tracks ≤ 65535
    → ArePlaces device (content ++ end_of_file ∷ []) places → IsPlaceOfLast places (length content) refit.last → LastPlace refit.tracks refit.last
last_place device content refit places some z tracks few placed (inl none) = absurd (omega (arith, none.0))
last_place device content refit places some z tracks few placed (inr at) =
    let blocks = content ++ end_of_file ∷ [] in
    let k : ℕ = length content - 1 in
    let place : Place = get_or places k (record { track = 0; number = 0 }) in
    let next : k + 1 ≡ length content = omega arith in
    let newest = placed.places_are k (record { track = 0; number = 0 }) (omega (arith, placed.each_placed, length-append content (end_of_file ∷ []))) in
    let front = take_at content (end_of_file ∷ []) (k + 1) (sym next) in
    let here : IsNewest (filling_of device (z.front ++ z.item ∷ [])) place = subst (λ (l : List Block). IsNewest (filling_of device l) place) (front ∙ z.whole) newest in
    let whole : blocks ≡ z.front ++ z.item ∷ end_of_file ∷ [] = ap (λ l. l ++ end_of_file ∷ []) z.whole ∙ append_assoc z.front (z.item ∷ []) (end_of_file ∷ []) in
    let groups = groups_of (filling_of device blocks) in
    let near : place.track < 65536 =
    omega (arith, newest.0, full_grows device blocks (k + 1), few, ap length tracks, length-map groups track_of, length-append (filling_of device blocks).full ((filling_of device blocks).current ∷ [])) in
    let named = named_at device z.front z.item (end_of_file ∷ []) place.track place.number here.0 here.1 near in
    let number : 1 ≤ place.number = omega (arith, here.1, newest_some device z.front z.item) in
    let last_is : refit.last ≡ place_text place.track place.number = at.1 (record { track = 0; number = 0 }) in
    record {
      names = subst (λ (t : List Track). IsLastBlock t refit.last) (sym (tracks ∙ ap (λ l. map track_of (groups_of (filling_of device l))) whole))
          (subst (IsLastBlock (map track_of (groups_of (filling_of device (z.front ++ z.item ∷ end_of_file ∷ []))))) (sym last_is) (two_records _ _ z.item named));
      somewhere = λ e. place_somewhere place.track place.number number (sym last_is ∙ e);
    }

-- ---- the clauses

last_none : (places : List Place) (last : List ℕ) → IsPlaceOfLast places 0 last → last ≡ nowhere
last_none places last (inl none) = none.1
last_none places last (inr at) = absurd (omega (arith, at.0))

last_is : (device : Device) (content : List Block) (refit : Refit) → IsBlocksRefit device content refit → IsLast refit.tracks content refit.last
last_is device [] refit h = last_none h.places refit.last h.last
last_is device (block ∷ more) refit h = (last_place device (block ∷ more) refit h.places (omega arith) (last_of block more) h.tracks h.few h.placed h.last).names

all_fit : (device : Device) (content : List Block) → All (FitsAlone device) content → All (FitsAlone device) (content ++ end_of_file ∷ [])
all_fit device content each = All-push (FitsAlone device) content end_of_file each (end_fits device)

pub refit_is : (device : Device) (tracks : List Track) (last : List ℕ) (content : List Block) (refit : Refit) → IsContent tracks last content → IsBlocksRefit device content refit → IsRefit device tracks last refit
refit_is device tracks last content refit held h = record {
  content = content;
  held = held;
  packed = record {
    groups = groups_of (filling_of device (content ++ end_of_file ∷ []));
    grouped = grouped device (content ++ end_of_file ∷ []) (all_fit device content h.fit);
    tracks_are = h.tracks;
  };
  last_is = last_is device content refit h;
}

new_content : (device : Device) (content : List Block) (refit : Refit) → All IsNoEnd content → IsBlocksRefit device content refit → IsContent refit.tracks refit.last content
new_content device [] refit each h = inl (last_is device [] refit h, refl)
new_content device (block ∷ more) refit each h =
    let content = block ∷ more in
    let somewhere = (last_place device content refit h.places (omega arith) (last_of block more) h.tracks h.few h.placed h.last).somewhere in
    let groups = groups_of (filling_of device (content ++ end_of_file ∷ [])) in
    let blocks : map block_of (records_of refit.tracks) ≡ content ++ end_of_file ∷ [] =
    ap (λ t. map block_of (records_of t)) h.tracks ∙ blocks_of_tracks groups ∙ (grouped device (content ++ end_of_file ∷ []) (all_fit device content h.fit)).whole in
    inr (somewhere, held_of (records_of refit.tracks) content [] blocks each)

pub same_is : (device : Device) (tracks : List Track) (last : List ℕ) (content : List Block) (refit : Refit) → IsContent tracks last content → IsBlocksRefit device content refit → HoldsTheSame tracks last refit
same_is device tracks last content refit held h = record { content = content; old = held; new = new_content device content refit (no_end_in tracks last content held) h }

pub room_is : (device : Device) (content : List Block) (refit : Refit) → All IsBlock content → IsBlocksRefit device content refit → HaveRoom device refit.tracks
room_is device content refit each h =
    let blocks = content ++ end_of_file ∷ [] in
    subst (HaveRoom device) (sym h.tracks)
    (room device blocks (groups_of (filling_of device blocks)) (grouped device blocks (all_fit device content h.fit)) (All-push IsBlock content end_of_file each end_sized))
