-- What the loops over blocks have done so far.
use Rattle.std.proofs.Common.{◌≡◌, ℕ, ◌+◌, ◌<◌, ◌≤◌, Bool, true, false, cond, List, [], ◌∷◌, ◌++◌, length, take, get_or, All, IsTrue, ◌↔◌, refl, map, replicate, append_assoc, sym, ap, subst, ◌∙◌, arith, length-append, below_more}
use Rattle.std.specs.Bool.{OnTrue, OnFalse}
use Rattle.std.proofs.lemmas.List.{get_or_append_left, get_or_push, get_or_at, append-nil, nil_from_length, map-append, take_all}
use Rattle.std.proofs.lemmas.List.Sums.{fold_push}
use Rattle.ckd_image.specs.declared.track.Track.{Track}
use Rattle.ckd_image.specs.Device.{capacity_of}
use Rattle.ckd_image.specs.declared.device.Device.{Device}
use Rattle.org_reloc.specs.declared.block.Block.{Block}
use Rattle.org_reloc.specs.declared.place.Place.{Place}
use Rattle.org_reloc.specs.declared.packing.Cursor.{Cursor}
use Rattle.org_reloc.specs.declared.packing.Packer.{Packer}
use Rattle.org_reloc.specs.Packer.{Shows}
use Rattle.org_reloc.specs.Filling.{Filling, unfilled, filled_by, filling_of, groups_of, block_cost, LeaveRoom, IsAt, IsNewest, ArePlaces}
use Rattle.org_reloc.specs.Content.{IsBlock}
use Rattle.org_reloc.proofs.Fillings.{IsStep, cursor_step, filling_more, filled_next, alone_costs}
use Rattle.org_reloc.proofs.Groups.{too_many}
use Rattle.org_reloc.specs.Refusal.{TakeTooMany}
use Rattle.org_reloc.specs.Packing.{FitsAlone, track_of}

-- the first of the blocks have their places
pub record HasPlaced (device : Device) (blocks : List Block) (i : ℕ) (cursor : Cursor) (track : ℕ) (places : List Place) : Type 0 where
  pub device_is : cursor.device ≡ device
  pub few : LeaveRoom cursor.device cursor.number cursor.room
  pub at : IsAt device cursor.number cursor.room (filling_of device (take i blocks))
  pub track_is : track ≡ length (filling_of device (take i blocks)).full
  pub near : track ≤ 65534
  pub count : length places ≡ i
  pub placed : (k : ℕ) (d : Place) → k < i → IsNewest (filling_of device (take (k + 1) blocks)) (get_or places k d)

-- the first of the blocks stand on tracks, and these are left
pub record HasPut (device : Device) (blocks put left : List Block) (count : ℕ) (packer : Packer) : Type 0 where
  pub device_is : packer.cursor.device ≡ device
  pub few : LeaveRoom packer.cursor.device packer.cursor.number packer.cursor.room
  pub shows : Shows packer (filling_of device put)
  pub whole : blocks ≡ put ++ left
  pub count_is : count ≡ length left

track_step : (opens : Bool) (track : ℕ) (full : List (List Block)) (current : List Block) → track ≡ length full → cond opens (track + 1) track ≡ length (cond opens (full ++ current ∷ []) full)
track_step true track full current e = omega (arith, length-append full (current ∷ []))
track_step false track full current e = e

earlier : (places places' : List Place) (place : Place) (i k : ℕ) (d : Place) → places' ≡ places ++ place ∷ [] → length places ≡ i → k < i → get_or places' k d ≡ get_or places k d
earlier places places' place i k d e count below = ap (λ l. get_or l k d) e ∙ get_or_append_left places (place ∷ []) d k (omega arith)

latest : (places places' : List Place) (place : Place) (i : ℕ) (d : Place) → places' ≡ places ++ place ∷ [] → length places ≡ i → get_or places' i d ≡ place
latest places places' place i d e count = ap (λ l. get_or l i d) e ∙ get_or_push places place d i count

pub placed_more : (opens : Bool) (device : Device) (blocks : List Block) (i : ℕ) (block : Block) (old new : Cursor) (track track' : ℕ) (places places' : List Place)
    → HasPlaced device blocks i old track places → i < length blocks → block ≡ get_or blocks i block
    → new.device ≡ old.device → LeaveRoom new.device new.number new.room → (IsTrue opens ↔ old.room < block_cost old.device block)
    → OnFalse opens ((new.number ≡ old.number + 1) × (new.room + block_cost old.device block ≡ old.room)) → OnTrue opens ((new.number ≡ 1) × (new.room + block_cost old.device block ≡ capacity_of old.device))
    → track' ≡ cond opens (track + 1) track → track' ≤ 65534 → places' ≡ places ++ record { track = track'; number = new.number } ∷ []
    → HasPlaced device blocks (i + 1) new track' places'
placed_more opens device blocks i block old new track track' places places' h lt is same few opens_when stays opened next near pushed =
    let now = filling_of device (take i blocks) in
    let step : IsStep device now block opens new.number new.room =
    subst (λ (d : Device). (IsTrue opens ↔ old.room < block_cost d block) → OnFalse opens ((new.number ≡ old.number + 1) × (new.room + block_cost d block ≡ old.room))
    → OnTrue opens ((new.number ≡ 1) × (new.room + block_cost d block ≡ capacity_of d)) → IsStep device now block opens new.number new.room) (sym h.device_is)
    (cursor_step opens device now block old.number old.room new.number new.room h.at) opens_when stays opened in
    let more = filling_more device blocks i block lt is in
    let at : IsAt device new.number new.room (filling_of device (take (i + 1) blocks)) = subst (IsAt device new.number new.room) (sym more) step.at in
    let track_is : track' ≡ length (filling_of device (take (i + 1) blocks)).full =
    next ∙ track_step opens track now.full now.current h.track_is ∙ sym (ap length (ap (λ (f : Filling). f.full) more ∙ step.full_is)) in
    record {
      device_is = same ∙ h.device_is;
      few = few;
      at = at;
      track_is = track_is;
      near = near;
      count = ap length pushed ∙ length-append places (record { track = track'; number = new.number } ∷ []) ∙ ap (λ n. n + 1) h.count;
      placed = λ k d below. below_more (λ k. (d : Place) → IsNewest (filling_of device (take (k + 1) blocks)) (get_or places' k d)) i
          (λ k below d. subst (IsNewest (filling_of device (take (k + 1) blocks))) (sym (earlier places places' (record { track = track'; number = new.number }) i k d pushed h.count below)) (h.placed k d below))
          (λ d. subst (IsNewest (filling_of device (take (i + 1) blocks))) (sym (latest places places' (record { track = track'; number = new.number }) i d pushed h.count)) (track_is, at.number_is)) k below d;
    }

-- the block's cost, where each block fits a track
pub alone_at : (device : Device) (blocks : List Block) (i : ℕ) (block : Block) (cursor : Cursor) → All (FitsAlone device) blocks → i < length blocks → block ≡ get_or blocks i block → cursor.device ≡ device
    → block_cost cursor.device block ≤ capacity_of cursor.device
alone_at device blocks i block cursor each lt is same =
    subst (λ (d : Device). block_cost d block ≤ capacity_of d) (sym same) (alone_costs device block (subst (FitsAlone device) (sym is) (each i block lt)))

at_middle : {X : Type 0} (P : X → Type 0) (xs ys zs : List X) (x : X) → zs ≡ xs ++ x ∷ ys → All P zs → P x
at_middle P xs ys zs x e each =
    subst P (ap (λ l. get_or l (length xs) x) e ∙ get_or_at xs x ys x (length xs) refl)
    (each (length xs) x (omega (arith, ap length e, length-append xs (x ∷ ys))))

-- the next block, its size and its cost
pub next_sized : (device : Device) (blocks put left rest : List Block) (count : ℕ) (packer : Packer) (block : Block) → HasPut device blocks put left count packer → left ≡ block ∷ rest → All IsBlock blocks → IsBlock block
next_sized device blocks put left rest count packer block h e each = at_middle IsBlock put rest blocks block (h.whole ∙ ap (λ l. put ++ l) e) each

pub next_costs : (device : Device) (blocks put left rest : List Block) (count : ℕ) (packer : Packer) (block : Block) → HasPut device blocks put left count packer → left ≡ block ∷ rest → All (FitsAlone device) blocks
    → block_cost packer.cursor.device block ≤ capacity_of packer.cursor.device
next_costs device blocks put left rest count packer block h e each =
    subst (λ (d : Device). block_cost d block ≤ capacity_of d) (sym h.device_is)
    (alone_costs device block (at_middle (FitsAlone device) put rest blocks block (h.whole ∙ ap (λ l. put ++ l) e) each))

pub put_more : (device : Device) (blocks put left rest : List Block) (count count' : ℕ) (old new : Packer) (block : Block) → HasPut device blocks put left count old → left ≡ block ∷ rest → count' + 1 ≡ count
    → new.cursor.device ≡ old.cursor.device → LeaveRoom new.cursor.device new.cursor.number new.cursor.room
    → ((filling : Filling) → Shows old filling → Shows new (filled_by old.cursor.device filling block))
    → HasPut device blocks (put ++ block ∷ []) rest count' new
put_more device blocks put left rest count count' old new block h e less same few shows = record {
  device_is = same ∙ h.device_is;
  few = few;
  shows = subst (Shows new) (ap (λ (d : Device). filled_by d (filling_of device put) block) h.device_is ∙ sym (fold_push (filled_by device) unfilled put block)) (shows (filling_of device put) h.shows);
  whole = h.whole ∙ ap (λ l. put ++ l) e ∙ sym (append_assoc put (block ∷ []) rest);
  count_is = omega (arith, h.count_is, ap length e);
}

-- all of them stand on tracks
pub put_all : (device : Device) (blocks put left : List Block) (count : ℕ) (packer : Packer) (tracks : List Track) → HasPut device blocks put left count packer → count ≡ 0
    → tracks ≡ packer.tracks ++ record { flag = 0; r0 = replicate 8 0; recs = packer.recs } ∷ [] → tracks ≡ map track_of (groups_of (filling_of device blocks))
put_all device blocks put left count packer tracks h none pushed =
    let empty : left ≡ [] = nil_from_length left (omega (arith, h.count_is)) in
    let done : put ≡ blocks = sym (h.whole ∙ ap (λ l. put ++ l) empty ∙ append-nil put) in
    let now = filling_of device put in
    pushed ∙ ap (λ l. l ++ record { flag = 0; r0 = replicate 8 0; recs = packer.recs } ∷ []) h.shows.tracks
    ∙ ap (λ l. map track_of now.full ++ record { flag = 0; r0 = replicate 8 0; recs = l } ∷ []) h.shows.recs
    ∙ sym (map-append track_of now.full (now.current ∷ [])) ∙ ap (λ bs. map track_of (groups_of (filling_of device bs))) done

pub placed_none : (device : Device) (blocks : List Block) (cursor : Cursor) (places : List Place) → cursor ≡ record { device = device; number = 0; room = capacity_of device } → places ≡ [] → HasPlaced device blocks 0 cursor 0 places
placed_none device blocks cursor places e none =
    subst (λ (k : Cursor). HasPlaced device blocks 0 k 0 places) (sym e) (record {
      device_is = refl;
      few = omega arith;
      at = record { number_is = refl; room_is = omega arith };
      track_is = refl;
      near = omega arith;
      count = ap length none;
      placed = λ k d below. absurd (omega (arith, below));
    })

-- the next block would open a track too many
pub long_at : (device : Device) (blocks : List Block) (i : ℕ) (block : Block) (cursor : Cursor) (track : ℕ) (places : List Place) → HasPlaced device blocks i cursor track places → i < length blocks → block ≡ get_or blocks i block
    → cursor.room < block_cost cursor.device block → 65534 ≤ track → All (FitsAlone device) blocks → TakeTooMany device blocks
long_at device blocks i block cursor track places h lt is opens far each =
    let now = filling_of device (take i blocks) in
    let over : cursor.room < block_cost device block = subst (λ (d : Device). cursor.room < block_cost d block) h.device_is opens in
    let next = filled_next device now block (omega (arith, h.at.room_is)) in
    let full = ap (λ (f : Filling). length f.full) (filling_more device blocks i block lt is ∙ next) in
    too_many device blocks (i + 1) each (omega (arith, full, length-append now.full (now.current ∷ []), h.track_is))

-- no track too many is taken by all of them
pub few_all : (device : Device) (blocks : List Block) (i : ℕ) (cursor : Cursor) (track : ℕ) (places : List Place) → HasPlaced device blocks i cursor track places → length blocks ≤ i → length (groups_of (filling_of device blocks)) ≤ 65535
few_all device blocks i cursor track places h done =
    let all = ap (λ l. length (filling_of device l).full) (take_all i blocks done) in
    omega (arith, all, h.track_is, h.near, length-append (filling_of device blocks).full ((filling_of device blocks).current ∷ []))

pub placed_all : (device : Device) (blocks : List Block) (i : ℕ) (cursor : Cursor) (track : ℕ) (places : List Place) → HasPlaced device blocks i cursor track places → i ≤ length blocks → length blocks ≤ i → ArePlaces device blocks places
placed_all device blocks i cursor track places h low high = record {
  each_placed = omega (arith, h.count);
  places_are = λ k d below. h.placed k d (omega (arith, h.count));
}

pub put_none : (device : Device) (blocks left : List Block) (count : ℕ) (packer : Packer) → packer.tracks ≡ [] → packer.recs ≡ [] → packer.cursor ≡ record { device = device; number = 0; room = capacity_of device }
    → blocks ≡ left → count ≡ length left → HasPut device blocks [] left count packer
put_none device blocks left count packer tracks recs cursor whole count_is =
    let number : packer.cursor.number ≡ 0 = ap (λ (k : Cursor). k.number) cursor in
    let room : packer.cursor.room ≡ capacity_of device = ap (λ (k : Cursor). k.room) cursor in
    let same : packer.cursor.device ≡ device = ap (λ (k : Cursor). k.device) cursor in
    record {
      device_is = same;
      few = subst (λ (k : Cursor). LeaveRoom k.device k.number k.room) (sym cursor) (omega arith);
      shows = record {
        tracks = tracks;
        recs = recs;
        cursor = subst (λ (d : Device). IsAt d packer.cursor.number packer.cursor.room unfilled) (sym same) (record { number_is = number; room_is = omega arith });
      };
      whole = whole;
      count_is = count_is;
    }
