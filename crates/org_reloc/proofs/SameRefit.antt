-- Two refits of one data set are the same.
use Rattle.std.proofs.Common.{◌≡◌, ℕ, ◌+◌, ◌≤◌, List, [], ◌∷◌, ◌++◌, length, map, All, refl, sym, ap, subst, ◌∙◌, arith, append_assoc, length-append}
use Rattle.std.specs.List.{enumerate_from, AllByRecursion, Contains}
use Rattle.std.proofs.lemmas.List.{length-map, map-append, append_cancel_left}
use Rattle.std.proofs.lemmas.List.Concat.{flat_map-append}
use Rattle.std.proofs.lemmas.List.Elements.{All-weaker, All-contains, All-contains_itself, All-from_recursion, recursion_from_All}
use Rattle.byteorder.specs.Endian.{big_bytes}
use Rattle.ckd_image.specs.declared.device.Device.{Device}
use Rattle.ckd_image.specs.declared.track.Rec.{Rec}
use Rattle.ckd_image.specs.declared.track.Track.{Track}
use Rattle.org_reloc.specs.declared.block.Block.{Block}
use Rattle.org_reloc.specs.declared.entry.Entry.{Entry}
use Rattle.org_reloc.specs.declared.directory.Page.{Page}
use Rattle.org_reloc.specs.declared.place.Place.{Place}
use Rattle.org_reloc.specs.declared.refit.Refit.{Refit}
use Rattle.org_reloc.specs.Content.{block_of, end_of_file, records_of}
use Rattle.org_reloc.specs.Directory.{entries_text, entry_text, page_block, entries_of, IsDirectory}
use Rattle.org_reloc.specs.Filling.{filling_of, groups_of}
use Rattle.org_reloc.specs.Member.{Member, members_blocks, AreMembers}
use Rattle.org_reloc.specs.Packing.{size_of, FitsAlone, record_of, track_of, AreGrouped, ArePacked}
use Rattle.org_reloc.specs.Partitioned.{moved_entry, moved_page, all_blocks, AreMoved, IsLastEnd, IsPartitionedRefit}
use Rattle.org_reloc.specs.Place.{place_text, Names}
use Rattle.org_reloc.specs.Sequential.{IsLast, IsRefit}
use Rattle.org_reloc.proofs.Groups.{grouped}
use Rattle.org_reloc.proofs.OneDirectory.{one_directory}
use Rattle.org_reloc.proofs.OneRefit.{same_parting, one_members, some_blocks}
use Rattle.org_reloc.proofs.Partitions.{all_moved, split_on}
use Rattle.org_reloc.proofs.Runs.{All_front, All_back}
use Rattle.org_reloc.proofs.Shapes.{counts_of, same_counts, moved_sizes}
use Rattle.org_reloc.proofs.Takings.{entries_sound, found_in}
use Rattle.org_reloc.proofs.Unique.{one_content, same_content, one_grouping, grouped_alone}

-- ---- the place of a record, by how many stand behind it

-- how records are numbered
abbrev numbered : List Rec → List ℕ
numbered recs = map (λ (rec : Rec). rec.r) recs

-- how the records of each track are numbered
abbrev numbers_of : List Track → List (List ℕ)
numbers_of tracks = map (λ (track : Track). numbered track.recs) tracks

count_by : (xs ys : List Rec) → numbered xs ≡ numbered ys → length xs ≡ length ys
count_by xs ys e = sym (length-map xs (λ (rec : Rec). rec.r)) ∙ ap length e ∙ length-map ys (λ (rec : Rec). rec.r)

counts : (ts us : List Track) → numbers_of ts ≡ numbers_of us → length (records_of ts) ≡ length (records_of us)
counts [] [] e = refl
counts [] (u ∷ us) e = absurd (omega (arith, ap length e))
counts (t ∷ ts) [] e = absurd (omega (arith, ap length e))
counts (t ∷ ts) (u ∷ us) e =
    let head : numbered t.recs ≡ numbered u.recs = cc in
    let tail : numbers_of ts ≡ numbers_of us = cc in
    omega (arith, count_by t.recs u.recs head, counts ts us tail, length-append t.recs (records_of ts), length-append u.recs (records_of us))

same_number : (xs ys : List Rec) (x y : Rec) (as' bs : List Rec) → length as' ≡ length bs → numbered (xs ++ x ∷ as') ≡ numbered (ys ++ y ∷ bs) → x.r ≡ y.r
same_number xs ys x y as' bs len e =
    let number : Rec → ℕ = λ r. r.r in
    let both = sym (map-append number xs (x ∷ as')) ∙ e ∙ map-append number ys (y ∷ bs) in
    let count = count_by (xs ++ x ∷ as') (ys ++ y ∷ bs) e in
    (same_parting (numbered xs) (numbered ys) x.r y.r (numbered as') (numbered bs)
    (omega (arith, count, len, length-append xs (x ∷ as'), length-append ys (y ∷ bs), length-map xs number, length-map ys number)) both).item

-- two places are the same where tracks are numbered alike and as many records stand from there on
record SamePlace (before before' : List Track) (rec rec' : Rec) : Type 0 where
  track : length before ≡ length before'
  number : rec.r ≡ rec'.r

one_place : (before before' : List Track) (t t' : Track) (after after' : List Track) (skipped skipped' : List Rec) (rec rec' : Rec) (rest rest' : List Rec)
    → numbers_of (before ++ t ∷ after) ≡ numbers_of (before' ++ t' ∷ after') → t.recs ≡ skipped ++ rec ∷ rest → t'.recs ≡ skipped' ++ rec' ∷ rest'
    → length rest + length (records_of after) ≡ length rest' + length (records_of after') → SamePlace before before' rec rec'
one_place [] [] t t' after after' skipped skipped' rec rec' rest rest' e h g len =
    let head : numbered t.recs ≡ numbered t'.recs = cc in
    let tail : numbers_of after ≡ numbers_of after' = cc in
    let parted : numbered (skipped ++ rec ∷ rest) ≡ numbered (skipped' ++ rec' ∷ rest') = sym (ap numbered h) ∙ head ∙ ap numbered g in
    record { track = refl; number = same_number skipped skipped' rec rec' rest rest' (omega (arith, len, counts after after' tail)) parted }
one_place [] (b ∷ before') t t' after after' skipped skipped' rec rec' rest rest' e h g len =
    let tail : numbers_of after ≡ numbers_of (before' ++ t' ∷ after') = cc in
    absurd (omega (
      arith,
      len,
      counts after (before' ++ t' ∷ after') tail,
      ap length (flat_map-append (λ (x : Track). x.recs) before' (t' ∷ after')),
      length-append (records_of before') (records_of (t' ∷ after')),
      length-append t'.recs (records_of after'),
      ap length g,
      length-append skipped' (rec' ∷ rest'),
    ))
one_place (b ∷ before) [] t t' after after' skipped skipped' rec rec' rest rest' e h g len =
    let tail : numbers_of (before ++ t ∷ after) ≡ numbers_of after' = cc in
    absurd (omega (
      arith,
      len,
      counts (before ++ t ∷ after) after' tail,
      ap length (flat_map-append (λ (x : Track). x.recs) before (t ∷ after)),
      length-append (records_of before) (records_of (t ∷ after)),
      length-append t.recs (records_of after),
      ap length h,
      length-append skipped (rec ∷ rest),
    ))
one_place (b ∷ before) (b' ∷ before') t t' after after' skipped skipped' rec rec' rest rest' e h g len =
    let tail : numbers_of (before ++ t ∷ after) ≡ numbers_of (before' ++ t' ∷ after') = cc in
    let same = one_place before before' t t' after after' skipped skipped' rec rec' rest rest' tail h g len in
    record { track = omega (arith, same.track); number = same.number }

place_by_count : (ts us : List Track) (p q : List ℕ) (recs recs' : List Rec) → numbers_of ts ≡ numbers_of us → Names ts p recs → Names us q recs' → length recs ≡ length recs' → p ≡ q
place_by_count ts us p q recs recs' e h g len =
    let numbers : numbers_of (h.before ++ h.track ∷ h.after) ≡ numbers_of (g.before ++ g.track ∷ g.after) = sym (ap numbers_of h.tracks_are) ∙ e ∙ ap numbers_of g.tracks_are in
    let behind : length h.rest + length (records_of h.after) ≡ length g.rest + length (records_of g.after) =
    omega (arith, len, ap length h.named, ap length g.named, length-append h.rest (records_of h.after), length-append g.rest (records_of g.after)) in
    let same = one_place h.before g.before h.track g.track h.after g.after h.skipped g.skipped h.rec g.rec h.rest g.rest numbers h.recs_are g.recs_are behind in
    h.place_is ∙ ap (λ n. place_text n h.rec.r) same.track ∙ ap (place_text (length g.before)) same.number ∙ sym g.place_is

same_refit : (a b : Refit) → a.tracks ≡ b.tracks → a.last ≡ b.last → a ≡ b
same_refit a b tracks last = let first : a ≡ record { tracks = b.tracks; last = a.last } = ap (λ (t : List Track). record { tracks = t; last = a.last }) tracks in
    first ∙ ap (λ (l : List ℕ). record { tracks = b.tracks; last = l }) last

-- ---- a sequential data set

last_by_content : (tracks : List Track) (content : List Block) (p q : List ℕ) → IsLast tracks content p → IsLast tracks content q → p ≡ q
last_by_content tracks [] p q h g = h ∙ sym g
last_by_content tracks (block ∷ more) p q h g = place_by_count tracks tracks p q (h.block ∷ h.end ∷ []) (g.block ∷ g.end ∷ []) refl h.place g.place refl

pub same_sequential : (device : Device) (tracks : List Track) (last : List ℕ) (a b : Refit) → IsRefit device tracks last a → IsRefit device tracks last b → a ≡ b
same_sequential device tracks last a b h g =
    let content : g.content ≡ h.content = same_content tracks last g.content h.content g.held h.held in
    let grouped' : AreGrouped device (h.content ++ end_of_file ∷ []) g.packed.groups = subst (λ (l : List Block). AreGrouped device (l ++ end_of_file ∷ []) g.packed.groups) content g.packed.grouped in
    let groups = one_grouping device (h.content ++ end_of_file ∷ []) h.packed.groups g.packed.groups (omega (arith, length-append h.content (end_of_file ∷ []))) h.packed.grouped grouped' in
    let same : a.tracks ≡ b.tracks = h.packed.tracks_are ∙ ap (map track_of) groups ∙ sym g.packed.tracks_are in
    let last_b : IsLast a.tracks h.content b.last = subst (λ (t : List Track). IsLast t h.content b.last) (sym same) (subst (λ (l : List Block). IsLast b.tracks l b.last) content g.last_is) in
    same_refit a b same (last_by_content a.tracks h.content a.last b.last h.last_is last_b)

-- ---- tracks of blocks of the same sizes are numbered alike

numbered_by : (n : ℕ) (xs ys : List Block) → length xs ≡ length ys → numbered (map record_of (enumerate_from n xs)) ≡ numbered (map record_of (enumerate_from n ys))
numbered_by n [] [] e = refl
numbered_by n [] (y ∷ ys) e = absurd (omega (arith, e))
numbered_by n (x ∷ xs) [] e = absurd (omega (arith, e))
numbered_by n (x ∷ xs) (y ∷ ys) e = ap (λ (l : List ℕ). n ∷ l) (numbered_by (n + 1) xs ys (omega (arith, e)))

numbers_by : (gs hs : List (List Block)) → counts_of gs ≡ counts_of hs → numbers_of (map track_of gs) ≡ numbers_of (map track_of hs)
numbers_by [] [] e = refl
numbers_by [] (h ∷ hs) e = let both = ap length e in absurd (omega (arith, both))
numbers_by (g ∷ gs) [] e = let both = ap length e in absurd (omega (arith, both))
numbers_by (g ∷ gs) (h ∷ hs) e =
    let head : length g ≡ length h = cc in
    let tail : counts_of gs ≡ counts_of hs = cc in
    ap (λ (l : List ℕ). l ∷ numbers_of (map track_of gs)) (numbered_by 1 g h head) ∙ ap (λ l. numbered (track_of h).recs ∷ l) (numbers_by gs hs tail)

-- the blocks stand as a packer puts them
packed_is : (device : Device) (blocks : List Block) (tracks : List Track) → 1 ≤ length blocks → ArePacked device blocks tracks → tracks ≡ map track_of (groups_of (filling_of device blocks))
packed_is device blocks tracks some h =
    let fit = All-from_recursion (FitsAlone device) blocks (grouped_alone device blocks h.groups h.grouped) in
    h.tracks_are ∙ ap (map track_of) (one_grouping device blocks h.groups (groups_of (filling_of device blocks)) some h.grouped (grouped device blocks fit))

-- ---- a partitioned data set

-- both moves write one text for the place
abbrev Agree : (Place → Place) → (Place → Place) → Place → Type 0
Agree m n place = place_text (m place).track (m place).number ≡ place_text (n place).track (n place).number

same_entries : (m n : Place → Place) (entries : List Entry) → AllByRecursion (λ entry. Agree m n entry.place) entries
    → entries_text (map (moved_entry m) entries) ≡ entries_text (map (moved_entry n) entries)
same_entries m n [] each = refl
same_entries m n (entry ∷ more) each =
    let first : entry_text (moved_entry m entry) ≡ entry_text (moved_entry n entry) = ap (λ (t : List ℕ). (entry.name ++ (t ++ entry.kind ∷ [])) ++ entry.«data») each.0 in
    ap (λ l. l ++ entries_text (map (moved_entry m) more)) first ∙ ap (λ l. entry_text (moved_entry n entry) ++ l) (same_entries m n more each.1)

same_pages : (m n : Place → Place) (pages : List Page) → All (λ entry. Agree m n entry.place) (entries_of pages)
    → map page_block (map (moved_page m) pages) ≡ map page_block (map (moved_page n) pages)
same_pages m n [] each = refl
same_pages m n (page ∷ more) each =
    let P : Entry → Type 0 = λ entry. Agree m n entry.place in
    let here = same_entries m n page.entries (recursion_from_All P page.entries (All_front P page.entries (entries_of more) each)) in
    let first : page_block (moved_page m page) ≡ page_block (moved_page n page) =
    ap (λ (t : List ℕ). record { key = page.key; body = big_bytes 2 page.used ++ (t ++ (page.left ++ page.filler)) }) here in
    ap (λ b. b ∷ map page_block (map (moved_page m) more)) first ∙ ap (λ l. page_block (moved_page n page) ∷ l) (same_pages m n more (All_back P page.entries (entries_of more) each))

-- a refit of what is known to be movable
record IsPacked (device : Device) (pages : List Page) (behind : List Block) (members : List Member) (refit : Refit) : Type 0 where
  move : Place → Place
  packed : ArePacked device (all_blocks (map (moved_page move) pages) behind members) refit.tracks
  moved : AreMoved refit.tracks members move
  last_is : IsLastEnd refit.tracks refit.last

one_size : (move : Place → Place) (pages : List Page) (behind : List Block) (members : List Member) → map size_of (all_blocks pages behind members) ≡ map size_of (all_blocks (map (moved_page move) pages) behind members)
one_size move pages behind members =
    moved_sizes move pages (all_blocks pages behind members) (behind ++ end_of_file ∷ members_blocks members) (append_assoc (map page_block pages) behind (end_of_file ∷ members_blocks members))
    ∙ ap (map size_of) (all_moved move pages behind members)

same_numbers : (device : Device) (pages : List Page) (behind : List Block) (members : List Member) (a b : Refit) → IsPacked device pages behind members a → IsPacked device pages behind members b → numbers_of a.tracks ≡ numbers_of b.tracks
same_numbers device pages behind members a b h g =
    let one = all_blocks (map (moved_page h.move) pages) behind members in
    let other = all_blocks (map (moved_page g.move) pages) behind members in
    let sizes = sym (one_size h.move pages behind members) ∙ one_size g.move pages behind members in
    ap numbers_of (packed_is device one a.tracks (some_blocks (map (moved_page h.move) pages) behind members) h.packed)
    ∙ numbers_by (groups_of (filling_of device one)) (groups_of (filling_of device other)) (same_counts device one other sizes)
    ∙ sym (ap numbers_of (packed_is device other b.tracks (some_blocks (map (moved_page g.move) pages) behind members) g.packed))

-- each member goes to one place
same_member : (device : Device) (pages : List Page) (behind : List Block) (members : List Member) (a b : Refit) → (h : IsPacked device pages behind members a) → (g : IsPacked device pages behind members b) → (member : Member) → Contains members member
    → Agree h.move g.move member.place
same_member device pages behind members a b h g member among =
    let s = split_on members member among in
    let one = h.moved s.front s.back member s.whole in
    let other = g.moved s.front s.back member s.whole in
    place_by_count a.tracks b.tracks _ _ one.recs other.recs (same_numbers device pages behind members a b h g) one.names other.names
    (sym (length-map one.recs block_of) ∙ ap length (one.blocks_are ∙ sym other.blocks_are) ∙ length-map other.recs block_of)

same_moves : (device : Device) (tracks : List Track) (pages : List Page) (behind : List Block) (members : List Member) (a b : Refit) → AreMembers tracks (entries_of pages) members → (h : IsPacked device pages behind members a) → (g : IsPacked device pages behind members b)
    → All (λ entry. Agree h.move g.move entry.place) (entries_of pages)
same_moves device tracks pages behind members a b are h g =
    All-weaker (Contains (entries_of pages)) (λ (entry : Entry). Agree h.move g.move entry.place)
    (λ entry among.
    let m = found_in (λ (x : Member). x.place) members entry.place (All-contains (λ (x : Entry). Contains (map (λ (o : Member). o.place) members) x.place) (entries_of pages) entry are.named among) in
    subst (Agree h.move g.move) m.is (same_member device pages behind members a b h g m.item m.among))
    (entries_of pages) (All-contains_itself (entries_of pages))

one_packed : (device : Device) (tracks : List Track) (pages : List Page) (behind : List Block) (members : List Member) (a b : Refit) → AreMembers tracks (entries_of pages) members → IsPacked device pages behind members a → IsPacked device pages behind members b → a ≡ b
one_packed device tracks pages behind members a b are h g =
    let pages_are = same_pages h.move g.move pages (same_moves device tracks pages behind members a b are h g) in
    let blocks : all_blocks (map (moved_page h.move) pages) behind members ≡ all_blocks (map (moved_page g.move) pages) behind members = ap (λ l. (l ++ behind) ++ end_of_file ∷ members_blocks members) pages_are in
    let one = packed_is device _ a.tracks (some_blocks (map (moved_page h.move) pages) behind members) h.packed in
    let other = packed_is device _ b.tracks (some_blocks (map (moved_page g.move) pages) behind members) g.packed in
    let same : a.tracks ≡ b.tracks = one ∙ ap (λ (l : List Block). map track_of (groups_of (filling_of device l))) blocks ∙ sym other in
    same_refit a b same
    (place_by_count a.tracks b.tracks a.last b.last (h.last_is.end ∷ []) (g.last_is.end ∷ []) (ap numbers_of same) h.last_is.place g.last_is.place refl)

pub same_partitioned : (device : Device) (tracks : List Track) (a b : Refit) → IsPartitionedRefit device tracks a → IsPartitionedRefit device tracks b → a ≡ b
same_partitioned device tracks a b h g =
    let front = one_content (records_of tracks) (map page_block g.pages ++ g.behind) (map page_block h.pages ++ h.behind) g.movable.directory.held h.movable.directory.held in
    let pages : g.pages ≡ h.pages =
    one_directory (map page_block h.pages ++ h.behind) h.pages g.pages h.movable.directory.directory (subst (λ (l : List Block). IsDirectory l g.pages) front g.movable.directory.directory) in
    let behind : g.behind ≡ h.behind = append_cancel_left (map page_block h.pages) g.behind h.behind (ap (λ (l : List Page). map page_block l ++ g.behind) (sym pages) ∙ front) in
    let members : g.members ≡ h.members =
    one_members tracks (entries_of h.pages) g.members h.members (entries_sound (map page_block h.pages ++ h.behind) h.pages h.movable.directory.directory)
    (subst (λ (l : List Page). AreMembers tracks (entries_of l) g.members) pages g.movable.members_are) h.movable.members_are in
    let one : IsPacked device h.pages h.behind h.members a = record { move = h.move; packed = h.packed; moved = h.moved; last_is = h.last_is } in
    let other : IsPacked device g.pages g.behind g.members b = record { move = g.move; packed = g.packed; moved = g.moved; last_is = g.last_is } in
    let moved : IsPacked device h.pages h.behind h.members b =
    subst (λ (ms : List Member). IsPacked device h.pages h.behind ms b) members
    (subst (λ (l : List Block). IsPacked device h.pages l g.members b) behind (subst (λ (ps : List Page). IsPacked device ps g.behind g.members b) pages other)) in
    one_packed device tracks h.pages h.behind h.members a b h.movable.members_are one moved
