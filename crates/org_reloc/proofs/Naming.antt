-- Where blocks stand on tracks.
use Rattle.std.proofs.Common.{◌≡◌, ◌≢◌, ℕ, ◌+◌, ◌<◌, ◌≤◌, List, [], ◌∷◌, ◌++◌, length, map, All, refl, sym, ap, subst, ◌∙◌, arith, append_assoc, fold, inl, inr, length-append}
use Rattle.std.specs.List.{flat_map, enumerate_from}
use Rattle.std.proofs.lemmas.Bool.{cases_lt}
use Rattle.std.proofs.lemmas.List.{append-nil, map-append, length-map}
use Rattle.std.proofs.lemmas.List.Sums.{fold_push, fold-append}
use Rattle.std.proofs.lemmas.List.Elements.{All-nil, All-cons}
use Rattle.ckd_image.specs.declared.device.Device.{Device}
use Rattle.ckd_image.specs.declared.track.Rec.{Rec}
use Rattle.ckd_image.specs.Device.{capacity_of}
use Rattle.org_reloc.specs.declared.block.Block.{Block}
use Rattle.org_reloc.specs.Content.{block_of, records_of}
use Rattle.org_reloc.specs.Packing.{record_of, track_of}
use Rattle.org_reloc.specs.Place.{place_text, NamesBlocks}
use Rattle.org_reloc.specs.Filling.{Filling, unfilled, block_cost, blocks_cost, filled_by, filling_of, groups_of, records_on}
use Rattle.org_reloc.proofs.Fillings.{filled_on, filled_next}

-- ---- what records and tracks hold

pub blocks_of_numbered : (n : ℕ) (blocks : List Block) → map block_of (map record_of (enumerate_from n blocks)) ≡ blocks
blocks_of_numbered n [] = refl
blocks_of_numbered n (block ∷ more) = ap (λ l. block ∷ l) (blocks_of_numbered (n + 1) more)

pub blocks_of_tracks : (groups : List (List Block)) → map block_of (records_of (map track_of groups)) ≡ flat_map (λ group. group) groups
blocks_of_tracks [] = refl
blocks_of_tracks (group ∷ more) =
    map-append block_of (records_on group) (records_of (map track_of more)) ∙ ap (λ l. l ++ map block_of (records_of (map track_of more))) (blocks_of_numbered 1 group)
    ∙ ap (λ l. group ++ l) (blocks_of_tracks more)

-- ---- what tracks have when more blocks come

-- the groups later, where the current one may have got more
pub record GoesOn (filling : Filling) (behind : List Block) (groups : List (List Block)) : Type 0 where
  pub tail : List Block
  pub after : List (List Block)
  pub groups_are : groups ≡ filling.full ++ (filling.current ++ tail) ∷ after
  pub behind_is : tail ++ flat_map (λ group. group) after ≡ behind

pub goes_on : (device : Device) (filling : Filling) (behind : List Block) → GoesOn filling behind (groups_of (fold (filled_by device) filling behind))
goes_on device filling [] = record {
  tail = [];
  after = [];
  groups_are = ap (λ l. filling.full ++ l ∷ []) (sym (append-nil filling.current));
  behind_is = refl;
}
goes_on device filling (block ∷ more) =
    elim (cases_lt (capacity_of device) (blocks_cost device filling.current + block_cost device block)) [
      | inl lt ↦
          let e = filled_next device filling block lt in
          let h = subst (λ (f : Filling). GoesOn f more (groups_of (fold (filled_by device) f more)))
          e (goes_on device (filled_by device filling block) more) in
          record {
            tail = [];
            after = (block ∷ h.tail) ∷ h.after;
            groups_are = ap (λ (f : Filling). groups_of (fold (filled_by device) f more)) e ∙ h.groups_are
                ∙ append_assoc filling.full (filling.current ∷ []) ((block ∷ h.tail) ∷ h.after)
                ∙ ap (λ l. filling.full ++ l ∷ (block ∷ h.tail) ∷ h.after) (sym (append-nil filling.current));
            behind_is = ap (λ l. block ∷ l) h.behind_is;
          }
      | inr le ↦
          let e = filled_on device filling block le in
          let h = subst (λ (f : Filling). GoesOn f more (groups_of (fold (filled_by device) f more)))
          e (goes_on device (filled_by device filling block) more) in
          record {
            tail = block ∷ h.tail;
            after = h.after;
            groups_are = ap (λ (f : Filling). groups_of (fold (filled_by device) f more)) e ∙ h.groups_are
                ∙ ap (λ l. filling.full ++ l ∷ h.after) (append_assoc filling.current (block ∷ []) h.tail);
            behind_is = ap (λ l. block ∷ l) h.behind_is;
          }
    ]

-- the block put last ends the current group
pub record EndsWith (group : List Block) (block : Block) : Type 0 where
  pub front : List Block
  pub group_is : group ≡ front ++ block ∷ []

pub newest_ends : (device : Device) (filling : Filling) (block : Block) → EndsWith (filled_by device filling block).current block
newest_ends device filling block =
    elim (cases_lt (capacity_of device) (blocks_cost device filling.current + block_cost device block)) [
      | inl lt ↦ record { front = []; group_is = ap (λ (f : Filling). f.current) (filled_next device filling block lt) }
      | inr le ↦ record { front = filling.current; group_is = ap (λ (f : Filling). f.current) (filled_on device filling block le) }
    ]

-- ---- numbers on a track

enumerate_append : {X : Type 0} (n : ℕ) (xs ys : List X) → enumerate_from n (xs ++ ys) ≡ enumerate_from n xs ++ enumerate_from (n + length xs) ys
enumerate_append n [] ys = ap (λ (m : ℕ). enumerate_from m ys) (omega arith)
enumerate_append n (x ∷ xs) ys =
    let e : n + 1 + length xs ≡ n + length (x ∷ xs) = omega arith in
    ap (λ l. (n, x) ∷ l) (enumerate_append (n + 1) xs ys ∙ ap (λ (m : ℕ). enumerate_from (n + 1) xs ++ enumerate_from m ys) e)

others_lower : (n m : ℕ) (blocks : List Block) → n + length blocks ≤ m → All (λ (rec : Rec). rec.r ≢ m) (map record_of (enumerate_from n blocks))
others_lower n m [] h = All-nil (λ (rec : Rec). rec.r ≢ m)
others_lower n m (block ∷ more) h =
    All-cons (λ (rec : Rec). rec.r ≢ m) (record_of (n, block)) (map record_of (enumerate_from (n + 1) more)) (λ e. absurd (omega (arith, e)))
    (others_lower (n + 1) m more (omega arith))

-- ---- a block's place names it and all that is behind it

named_in : (before : List (List Block)) (front : List Block) (block : Block) (tail : List Block) (after : List (List Block)) → length before < 65536
    → NamesBlocks (map track_of (before ++ (front ++ block ∷ tail) ∷ after)) (place_text (length before) (1 + length front)) (block ∷ (tail ++ flat_map (λ group. group) after))
named_in before front block tail after near =
    let n : ℕ = 1 + length front in
    let rest = map record_of (enumerate_from (n + 1) tail) in
    record {
      recs = record_of (n, block) ∷ (rest ++ records_of (map track_of after));
      names = record {
        before = map track_of before;
        track = track_of (front ++ block ∷ tail);
        after = map track_of after;
        skipped = records_on front;
        rec = record_of (n, block);
        rest = rest;
        tracks_are = map-append track_of before ((front ++ block ∷ tail) ∷ after);
        recs_are = ap (map record_of) (enumerate_append 1 front (block ∷ tail)) ∙ map-append record_of (enumerate_from 1 front) (enumerate_from n (block ∷ tail));
        first = others_lower 1 n front (omega arith);
        near = omega (arith, length-map before track_of);
        place_is = ap (λ (m : ℕ). place_text m n) (sym (length-map before track_of));
        named = refl;
      };
      blocks_are = ap (λ l. block ∷ l) (map-append block_of rest (records_of (map track_of after)) ∙ ap (λ l. l ++ map block_of (records_of (map track_of after))) (blocks_of_numbered (n + 1) tail)
          ∙ ap (λ l. tail ++ l) (blocks_of_tracks after));
    }

-- the filling when a block of the list has been put
pub filling_at : (device : Device) (front : List Block) (block : Block) → filling_of device (front ++ block ∷ []) ≡ filled_by device (filling_of device front) block
filling_at device front block = fold_push (filled_by device) unfilled front block

pub named_at : (device : Device) (front : List Block) (block : Block) (behind : List Block) (track number : ℕ) → track ≡ length (filling_of device (front ++ block ∷ [])).full
    → number ≡ length (filling_of device (front ++ block ∷ [])).current → track < 65536
    → NamesBlocks (map track_of (groups_of (filling_of device (front ++ block ∷ behind)))) (place_text track number) (block ∷ behind)
named_at device front block behind track number track_is number_is near =
    let now = filling_of device (front ++ block ∷ []) in
    let ends = subst (λ (f : Filling). EndsWith f.current block) (sym (filling_at device front block)) (newest_ends device (filling_of device front) block) in
    let later = goes_on device now behind in
    let all : groups_of (filling_of device (front ++ block ∷ behind)) ≡ groups_of (fold (filled_by device) now behind) =
    ap groups_of (ap (filling_of device) (sym (append_assoc front (block ∷ []) behind)) ∙ fold-append (filled_by device) unfilled (front ++ block ∷ []) behind) in
    let shape : groups_of (filling_of device (front ++ block ∷ behind)) ≡ now.full ++ (ends.front ++ block ∷ later.tail) ∷ later.after =
    all ∙ later.groups_are ∙ ap (λ l. now.full ++ l ∷ later.after) (ap (λ l. l ++ later.tail) ends.group_is ∙ append_assoc ends.front (block ∷ []) later.tail) in
    let number_at : 1 + length ends.front ≡ number = omega (arith, number_is, ap length ends.group_is, length-append ends.front (block ∷ [])) in
    let h = named_in now.full ends.front block later.tail later.after (omega (arith, track_is)) in
    subst (λ (gs : List (List Block)). NamesBlocks (map track_of gs) (place_text track number) (block ∷ behind)) (sym shape)
    (subst (λ (l : List Block). NamesBlocks (map track_of (now.full ++ (ends.front ++ block ∷ later.tail) ∷ later.after)) (place_text track number) (block ∷ l)) later.behind_is
    (subst (λ (m : ℕ). NamesBlocks (map track_of (now.full ++ (ends.front ++ block ∷ later.tail) ∷ later.after)) (place_text m number) (block ∷ (later.tail ++ flat_map (λ group. group) later.after))) (sym track_is)
    (subst (λ (m : ℕ). NamesBlocks (map track_of (now.full ++ (ends.front ++ block ∷ later.tail) ∷ later.after)) (place_text (length now.full) m) (block ∷ (later.tail ++ flat_map (λ group. group) later.after))) number_at h)))

pub newest_some : (device : Device) (front : List Block) (block : Block) → 1 ≤ length (filling_of device (front ++ block ∷ [])).current
newest_some device front block =
    let h = newest_ends device (filling_of device front) block in
    omega (arith, ap (λ (f : Filling). length f.current) (filling_at device front block), ap length h.group_is, length-append h.front (block ∷ []))
