-- A partitioned data set on another device.
use Rattle.std.proofs.Common.{◌≡◌, ℕ, ◌+◌, ◌-◌, ◌<◌, ◌≤◌, List, [], ◌∷◌, ◌++◌, length, take, drop, map, get_or, All, refl, sym, ap, subst, ◌∙◌, arith, append_assoc, length-append}
use Rattle.std.specs.List.{Contains, AllByRecursion}
use Rattle.std.specs.List.Sorted.{IsStrictlyIncreasing}
use Rattle.std.proofs.lemmas.List.{length-map, get_or-map, get_or_at, take_at, map-append, nil_from_length, append_cancel_left}
use Rattle.std.proofs.lemmas.List.Concat.{flat_map-append}
use Rattle.std.proofs.lemmas.List.Elements.{All-nil, All-cons, All-weaker, All-contains, All-contains_itself, recursion_from_All}
use Rattle.ckd_image.specs.Bytes.{Begins}
use Rattle.ckd_image.specs.Track.{IsRecord, IsTrack}
use Rattle.ckd_image.specs.declared.device.Device.{Device}
use Rattle.ckd_image.specs.declared.track.Rec.{Rec}
use Rattle.ckd_image.specs.declared.track.Track.{Track}
use Rattle.ckd_image.proofs.OneText.{split_same}
use Rattle.org_reloc.specs.declared.block.Block.{Block}
use Rattle.org_reloc.specs.declared.entry.Entry.{Entry}
use Rattle.org_reloc.specs.declared.directory.Page.{Page}
use Rattle.org_reloc.specs.declared.place.Place.{Place}
use Rattle.org_reloc.specs.declared.partitioned.Movable.{Movable}
use Rattle.org_reloc.specs.declared.refit.Refit.{Refit}
use Rattle.org_reloc.specs.Content.{block_of, end_of_file, records_of}
use Rattle.org_reloc.specs.Packing.{size_of, ArePacked, track_of, HaveRoom}
use Rattle.org_reloc.specs.Filling.{filling_of, groups_of, ArePlaces, IsNewest}
use Rattle.org_reloc.specs.Place.{place_text, IsPlace, Names, NamesBlocks}
use Rattle.org_reloc.specs.Directory.{entry_text, last_text, IsEntry, IsPage, IsFullPage, IsShaped, page_block, entries_of, IsDirectory}
use Rattle.org_reloc.specs.Member.{number_of_place, HoldsMember, Member, member_blocks, members_blocks, AreMembers, starts_of}
use Rattle.org_reloc.specs.Moved.{moved_to, moved_blocks}
use Rattle.org_reloc.specs.Partitioned.{item_of, HasDirectory, HoldsTheItems, moved_entry, moved_page, all_blocks, IsLastEnd, IsMovable, IsPartitionedRefit}
use Rattle.org_reloc.specs.Taken.{origin, IsTaken, IsPlaceable, IsPut}
use Rattle.org_reloc.proofs.Fillings.{full_grows}
use Rattle.org_reloc.proofs.Groups.{grouped}
use Rattle.org_reloc.proofs.Naming.{named_at, blocks_of_tracks}
use Rattle.org_reloc.proofs.Refits.{IsNoEnd, held_of, no_end_of}
use Rattle.org_reloc.proofs.Room.{room}
use Rattle.org_reloc.proofs.Runs.{split_at, All_front, All_back, All_middle}
use Rattle.org_reloc.proofs.Movings.{moved_at, length-moved_entries, size_moved}
use Rattle.org_reloc.proofs.Shapes.{all_by_sizes, same_places, moved_is, moved_sizes, put_sized, put_fits}
use Rattle.org_reloc.proofs.Takings.{found_in, length-starts}

-- ---- where a block stands

-- the blocks on tracks, and where each stands
pub record ArePut (device : Device) (blocks : List Block) (tracks : List Track) (places : List Place) : Type 0 where
  pub tracks_are : tracks ≡ map track_of (groups_of (filling_of device blocks))
  pub few : length tracks ≤ 65535
  pub placed : ArePlaces device blocks places
  pub room : HaveRoom device tracks

-- a place, by what it names
pub record IsThere (tracks : List Track) (place : Place) (blocks : List Block) : Type 0 where
  pub names : NamesBlocks tracks (place_text place.track place.number) blocks
  pub near : place.track < 65536

there : (device : Device) (blocks front : List Block) (block : Block) (behind : List Block) (tracks : List Track) (places : List Place) → ArePut device blocks tracks places → blocks ≡ front ++ block ∷ behind
    → IsThere tracks (get_or places (length front) origin) (block ∷ behind)
there device blocks front block behind tracks places h whole =
    let k : ℕ = length front in
    let place = get_or places k origin in
    let lt : k < length places = omega (arith, h.placed.each_placed, ap length whole, length-append front (block ∷ behind)) in
    let newest = h.placed.places_are k origin lt in
    let split : blocks ≡ (front ++ block ∷ []) ++ behind = whole ∙ sym (append_assoc front (block ∷ []) behind) in
    let cut : take (k + 1) blocks ≡ front ++ block ∷ [] = ap (λ l. take (k + 1) l) split ∙ take_at (front ++ block ∷ []) behind (k + 1) (length-append front (block ∷ [])) in
    let here : IsNewest (filling_of device (front ++ block ∷ [])) place = subst (λ (l : List Block). IsNewest (filling_of device l) place) cut newest in
    let groups = groups_of (filling_of device blocks) in
    let near : place.track < 65536 =
    omega (arith, newest.0, full_grows device blocks (k + 1), h.few, ap length h.tracks_are, length-map groups track_of, length-append (filling_of device blocks).full ((filling_of device blocks).current ∷ [])) in
    record {
      names = subst (λ (t : List Track). NamesBlocks t (place_text place.track place.number) (block ∷ behind)) (sym (h.tracks_are ∙ ap (λ l. map track_of (groups_of (filling_of device l))) whole))
          (named_at device front block behind place.track place.number here.0 here.1 near);
      near = near;
    }

-- a place that names a record is no zeros, and fits its bytes
pub record IsSomewhere (place : Place) : Type 0 where
  pub fits : IsPlace place
  pub some : 1 ≤ place.number

somewhere : (device : Device) (tracks : List Track) (place : Place) (blocks : List Block) → HaveRoom device tracks → IsThere tracks place blocks → IsSomewhere place
somewhere device tracks place blocks h at =
    let n = at.names.names in
    let track = All_middle IsTrack n.before n.track n.after (subst (All IsTrack) n.tracks_are h.sound) in
    let rec = All_middle IsRecord n.skipped n.rec n.rest (subst (All IsRecord) n.recs_are track.records) in
    let same : place.number ≡ n.rec.r = let e = n.place_is in cc in
    record {
      fits = record { track = at.near; number = omega (arith, same, rec.number_fits) };
      some = omega (arith, same, rec.numbered);
    }

-- ---- all blocks with new places

map_moved : (move : Place → Place) (pages : List Page) → map (λ page. page_block (moved_page move page)) pages ≡ map page_block (map (moved_page move) pages)
map_moved move [] = refl
map_moved move (page ∷ more) = ap (λ l. page_block (moved_page move page) ∷ l) (map_moved move more)

pub all_moved : (move : Place → Place) (pages : List Page) (behind : List Block) (members : List Member) → moved_blocks move pages (all_blocks pages behind members) ≡ all_blocks (map (moved_page move) pages) behind members
all_moved move pages behind members =
    let rest = behind ++ end_of_file ∷ members_blocks members in
    moved_is move pages (all_blocks pages behind members) rest (append_assoc (map page_block pages) behind (end_of_file ∷ members_blocks members))
    ∙ ap (λ l. l ++ rest) (map_moved move pages) ∙ sym (append_assoc (map page_block (map (moved_page move) pages)) behind (end_of_file ∷ members_blocks members))

-- ---- the new places of members

starts_at : (base : ℕ) (front : List Member) (member : Member) (back : List Member) → get_or (starts_of base (front ++ member ∷ back)) (length front) 0 ≡ base + length (members_blocks front)
starts_at base [] member back = omega arith
starts_at base (m ∷ ms) member back =
    starts_at (base + length (member_blocks m)) ms member back ∙ omega (arith, length-append (member_blocks m) (members_blocks ms))

-- a member has a block or an end of file first
record Begun (blocks : List Block) : Type 0 where
  first : Block
  rest : List Block
  whole : blocks ≡ first ∷ rest

begun : (content behind : List Block) → Begun ((content ++ end_of_file ∷ []) ++ behind)
begun [] behind = record { first = end_of_file; rest = behind; whole = refl }
begun (block ∷ more) behind = record { first = block; rest = (more ++ end_of_file ∷ []) ++ behind; whole = refl }

-- what a move of places is by
pub record IsMoveBy (numbers : List ℕ) (places news : List Place) (starts : List ℕ) (base : ℕ) (members : List Member) : Type 0 where
  pub ascending : IsStrictlyIncreasing numbers
  pub numbers_are : numbers ≡ map (λ member. number_of_place member.place) members
  pub news_are : news ≡ map (λ start. get_or places start origin) starts
  pub starts_are : starts ≡ starts_of base members

move_is : (numbers : List ℕ) (places news : List Place) (starts : List ℕ) (base : ℕ) (members front : List Member) (member : Member) (back : List Member) → IsMoveBy numbers places news starts base members → members ≡ front ++ member ∷ back
    → moved_to numbers news member.place ≡ get_or places (base + length (members_blocks front)) origin
move_is numbers places news starts base members front member back h whole =
    let k : ℕ = length front in
    let number : Member → ℕ = λ m. number_of_place m.place in
    let count = length-append front (member ∷ back) in
    let starts_len : length starts ≡ length members = ap length h.starts_are ∙ length-starts base members in
    let news_len : length news ≡ length starts = ap length h.news_are ∙ length-map starts (λ start. get_or places start origin) in
    let numbers_len : length numbers ≡ length members = ap length h.numbers_are ∙ length-map members number in
    let here : get_or numbers k 0 ≡ number_of_place member.place =
    ap (λ l. get_or l k 0) (h.numbers_are ∙ ap (map number) whole ∙ map-append number front (member ∷ back)) ∙ get_or_at (map number front) (number_of_place member.place) (map number back) 0 k (length-map front number) in
    let start : get_or starts k 0 ≡ base + length (members_blocks front) = ap (λ l. get_or l k 0) (h.starts_are ∙ ap (starts_of base) whole) ∙ starts_at base front member back in
    moved_at numbers news member.place k origin h.ascending (news_len ∙ starts_len ∙ sym numbers_len) (omega (arith, numbers_len, ap length whole, count)) here
    ∙ ap (λ l. get_or l k origin) h.news_are
    ∙ get_or-map (λ s. get_or places s origin) starts k 0 origin (omega (arith, starts_len, ap length whole, count))
    ∙ ap (λ s. get_or places s origin) start

member_there : (device : Device) (blocks head : List Block) (tracks : List Track) (places news : List Place) (numbers starts : List ℕ) (members front : List Member) (member : Member) (back : List Member) → ArePut device blocks tracks places
    → blocks ≡ head ++ members_blocks members → IsMoveBy numbers places news starts (length head) members → members ≡ front ++ member ∷ back
    → IsThere tracks (moved_to numbers news member.place) (members_blocks (member ∷ back))
member_there device blocks head tracks places news numbers starts members front member back h blocks_are move whole =
    let b = begun member.blocks (members_blocks back) in
    let parted : blocks ≡ (head ++ members_blocks front) ++ b.first ∷ b.rest =
    blocks_are ∙ ap (λ l. head ++ l) (ap members_blocks whole ∙ flat_map-append member_blocks front (member ∷ back)) ∙ sym (append_assoc head (members_blocks front) (members_blocks (member ∷ back)))
    ∙ ap (λ l. (head ++ members_blocks front) ++ l) b.whole in
    let at = there device blocks (head ++ members_blocks front) b.first b.rest tracks places h parted in
    let place : moved_to numbers news member.place ≡ get_or places (length (head ++ members_blocks front)) origin =
    move_is numbers places news starts (length head) members front member back move whole ∙ ap (λ n. get_or places n origin) (sym (length-append head (members_blocks front))) in
    subst (λ (p : Place). IsThere tracks p (members_blocks (member ∷ back))) (sym place)
    (subst (IsThere tracks (get_or places (length (head ++ members_blocks front)) origin)) (sym b.whole) at)

-- ---- the last end of file

record EndsInEnd (blocks : List Block) : Type 0 where
  front : List Block
  whole : blocks ≡ front ++ end_of_file ∷ []

ends_in_end : (head : List Block) (members : List Member) → EndsInEnd (head ++ end_of_file ∷ members_blocks members)
ends_in_end head [] = record { front = head; whole = refl }
ends_in_end head (m ∷ ms) =
    let h = ends_in_end (head ++ end_of_file ∷ m.blocks) ms in
    record {
      front = h.front;
      whole = ap (λ l. head ++ end_of_file ∷ l) (append_assoc m.blocks (end_of_file ∷ []) (members_blocks ms)) ∙ sym (append_assoc head (end_of_file ∷ m.blocks) (end_of_file ∷ members_blocks ms)) ∙ h.whole;
    }

one_end : (tracks : List Track) (place : List ℕ) (recs : List Rec) → Names tracks place recs → map block_of recs ≡ end_of_file ∷ [] → IsLastEnd tracks place
one_end tracks place [] names e = absurd (omega (arith, ap length e))
one_end tracks place (one ∷ []) names e = let same : block_of one ≡ end_of_file = cc in record { end = one; ends = same; place = names }
one_end tracks place (one ∷ other ∷ more) names e = absurd (omega (arith, ap length e))

last_end : (device : Device) (blocks head : List Block) (members : List Member) (tracks : List Track) (places : List Place) (last : List ℕ) → ArePut device blocks tracks places → blocks ≡ head ++ end_of_file ∷ members_blocks members
    → last ≡ place_text (get_or places (length blocks - 1) origin).track (get_or places (length blocks - 1) origin).number → IsLastEnd tracks last
last_end device blocks head members tracks places last h blocks_are last_is =
    let e = ends_in_end head members in
    let whole : blocks ≡ e.front ++ end_of_file ∷ [] = blocks_are ∙ e.whole in
    let at = there device blocks e.front end_of_file [] tracks places h whole in
    let k : length blocks - 1 ≡ length e.front = omega (arith, ap length whole, length-append e.front (end_of_file ∷ [])) in
    let text : last ≡ place_text (get_or places (length e.front) origin).track (get_or places (length e.front) origin).number =
    last_is ∙ ap (λ n. place_text (get_or places n origin).track (get_or places n origin).number) k in
    subst (IsLastEnd tracks) (sym text) (one_end tracks _ at.names.recs at.names.names at.names.blocks_are)

-- ---- a directory with new places is one

-- an entry that begins as the last one has zeros as its place
zeros : (entry : Entry) → length entry.name ≡ 8 → Begins last_text (entry_text entry) → entry.place.number ≡ 0
zeros entry h (rest, e) =
    let highest : List ℕ = 255 ∷ 255 ∷ 255 ∷ 255 ∷ 255 ∷ 255 ∷ 255 ∷ 255 ∷ [] in
    let fields = place_text entry.place.track entry.place.number ++ entry.kind ∷ [] in
    let parted : entry.name ++ (fields ++ entry.«data») ≡ highest ++ (0 ∷ 0 ∷ 0 ∷ 0 ∷ rest) = sym (append_assoc entry.name fields entry.«data») ∙ e in
    let both = split_same entry.name highest (fields ++ entry.«data») (0 ∷ 0 ∷ 0 ∷ 0 ∷ rest) h parted in
    let cells = both.1 in
    cc

moved_sound : (move : Place → Place) (entry : Entry) → IsSomewhere (move entry.place) → IsEntry entry → IsEntry (moved_entry move entry)
moved_sound move entry at h = record {
  heading = record { name_fits = h.heading.name_fits; place_fits = at.fits };
  data_fits = h.data_fits;
  goes_on = λ last. let some = at.some in omega (arith, some, zeros (moved_entry move entry) h.heading.name_fits last);
}

entries_sound : (move : Place → Place) (entries : List Entry) → AllByRecursion (λ entry. IsSomewhere (move entry.place)) entries → AllByRecursion IsEntry entries → All IsEntry (map (moved_entry move) entries)
entries_sound move [] at each = All-nil IsEntry
entries_sound move (entry ∷ more) at each = All-cons IsEntry (moved_entry move entry) (map (moved_entry move) more) (moved_sound move entry at.0 each.0) (entries_sound move more at.1 each.1)

page_sound : (move : Place → Place) (page : Page) → All (λ entry. IsSomewhere (move entry.place)) page.entries → IsPage page → IsPage (moved_page move page)
page_sound move page at h =
    let size = size_moved move page in
    record {
      shape = record { key = h.shape.key; body = ap (λ (s : ℕ × ℕ). s.1) size ∙ h.shape.body };
      used_is = h.used_is ∙ ap (λ n. 2 + (n + length page.left)) (sym (length-moved_entries move page.entries));
      entries = entries_sound move page.entries (recursion_from_All (λ (entry : Entry). IsSomewhere (move entry.place)) page.entries at) (recursion_from_All IsEntry page.entries h.entries);
    }

full_moved : (move : Place → Place) (pages : List Page) → All (λ entry. IsSomewhere (move entry.place)) (entries_of pages) → AllByRecursion IsFullPage pages → All IsFullPage (map (moved_page move) pages)
full_moved move [] at each = All-nil IsFullPage
full_moved move (page ∷ more) at each =
    let some : Entry → Type 0 = λ entry. IsSomewhere (move entry.place) in
    All-cons IsFullPage (moved_page move page) (map (moved_page move) more)
    (record { sound = page_sound move page (All_front some page.entries (entries_of more) at) each.0.sound; nothing_left = each.0.nothing_left })
    (full_moved move more (All_back some page.entries (entries_of more) at) each.1)

directory_moved : (move : Place → Place) (pages : List Page) (behind : List Block) → IsDirectory (map page_block pages ++ behind) pages → All (λ entry. IsSomewhere (move entry.place)) (entries_of pages)
    → IsDirectory (map page_block (map (moved_page move) pages) ++ behind) (map (moved_page move) pages)
directory_moved move pages behind h at =
    let some : Entry → Type 0 = λ entry. IsSomewhere (move entry.place) in
    let parted : entries_of pages ≡ entries_of h.before ++ (h.last.entries ++ []) = ap entries_of h.pages_are ∙ flat_map-append (λ (p : Page). p.entries) h.before (h.last ∷ []) in
    let all = subst (All some) parted at in
    let last_at = All_front some h.last.entries [] (All_back some (entries_of h.before) (h.last.entries ++ []) all) in
    record {
      before = map (moved_page move) h.before;
      last = moved_page move h.last;
      behind = behind;
      pages_are = ap (map (moved_page move)) h.pages_are ∙ map-append (moved_page move) h.before (h.last ∷ []);
      blocks_are = refl;
      full = full_moved move h.before (All_front some (entries_of h.before) (h.last.entries ++ []) all) (recursion_from_All IsFullPage h.before h.full);
      ends = record { sound = page_sound move h.last last_at h.ends.sound; ends = h.ends.ends };
      shaped = subst (All IsShaped) (sym (append_cancel_left (map page_block pages) behind h.behind h.blocks_are)) h.shaped;
    }

no_end_by_size : (a b : Block) → size_of a ≡ size_of b → IsNoEnd a → IsNoEnd b
no_end_by_size a b e none same =
    let key : a.key ≡ [] = nil_from_length a.key (ap (λ (s : ℕ × ℕ). s.0) e ∙ ap (λ (x : Block). length x.key) same) in
    let body : a.body ≡ [] = nil_from_length a.body (ap (λ (s : ℕ × ℕ). s.1) e ∙ ap (λ (x : Block). length x.body) same) in
    let first : a ≡ record { key = []; body = a.body } = ap (λ (k : List ℕ). record { key = k; body = a.body }) key in
    none (first ∙ ap (λ (t : List ℕ). record { key = []; body = t }) body)

-- the tracks hold the directory with new places
new_directory : (device : Device) (tracks tracks' : List Track) (pages : List Page) (behind : List Block) (members : List Member) (move : Place → Place) → HasDirectory tracks pages behind
    → All (λ entry. IsSomewhere (move entry.place)) (entries_of pages) → ArePacked device (all_blocks (map (moved_page move) pages) behind members) tracks' → HasDirectory tracks' (map (moved_page move) pages) behind
new_directory device tracks tracks' pages behind members move h at packed =
    let old = map page_block pages ++ behind in
    let new = map page_block (map (moved_page move) pages) ++ behind in
    let sizes : map size_of old ≡ map size_of new =
    moved_sizes move pages old behind refl ∙ ap (map size_of) (moved_is move pages old behind refl ∙ ap (λ l. l ++ behind) (map_moved move pages)) in
    let none : All IsNoEnd new = all_by_sizes IsNoEnd no_end_by_size old new sizes (no_end_of (records_of tracks) old h.held) in
    let blocks : map block_of (records_of tracks') ≡ new ++ end_of_file ∷ members_blocks members =
    ap (λ t. map block_of (records_of t)) packed.tracks_are ∙ blocks_of_tracks packed.groups ∙ packed.grouped.whole in
    record {
      held = held_of (records_of tracks') new (members_blocks members) blocks none;
      directory = directory_moved move pages behind h.directory at;
    }

-- ---- the members, each by its entries

-- a list about an element of it
pub record Split {X : Type 0} (xs : List X) (x : X) : Type 0 where
  pub front : List X
  pub back : List X
  pub whole : xs ≡ front ++ x ∷ back

pub split_on : {X : Type 0} (xs : List X) (x : X) → Contains xs x → Split xs x
split_on xs x h = record { front = take h.0 xs; back = drop (h.0 + 1) xs; whole = split_at xs h.0 x h.1 (sym h.2) }

-- the member of an entry, before and after
record HasMember (tracks tracks' : List Track) (move : Place → Place) (entry : Entry) : Type 0 where
  blocks : List Block
  old : HoldsMember tracks entry.place blocks
  new : HoldsMember tracks' (move entry.place) blocks
  at : IsSomewhere (move entry.place)

-- each member is named at its new place
pub record AreThere (tracks : List Track) (members : List Member) (move : Place → Place) : Type 0 where
  pub each : (front : List Member) (member : Member) (back : List Member) → members ≡ front ++ member ∷ back → IsThere tracks (move member.place) (members_blocks (member ∷ back))

entry_member : (device : Device) (tracks tracks' : List Track) (entries : List Entry) (members : List Member) (move : Place → Place) → AreMembers tracks entries members → AreThere tracks' members move → HaveRoom device tracks'
    → (entry : Entry) → Contains entries entry → HasMember tracks tracks' move entry
entry_member device tracks tracks' entries members move h at have entry among =
    let f = found_in (λ (m : Member). m.place) members entry.place (All-contains (λ (e : Entry). Contains (map (λ m. m.place) members) e.place) entries entry h.named among) in
    let held = All-contains (λ (m : Member). HoldsMember tracks m.place m.blocks) members f.item h.held f.among in
    let s = split_on members f.item f.among in
    let there' = at.each s.front f.item s.back s.whole in
    let none = no_end_of held.recs f.item.blocks held.held in
    let text : map block_of there'.names.recs ≡ f.item.blocks ++ end_of_file ∷ members_blocks s.back =
    there'.names.blocks_are ∙ append_assoc f.item.blocks (end_of_file ∷ []) (members_blocks s.back) in
    let new : HoldsMember tracks' (move f.item.place) f.item.blocks = record {
      recs = there'.names.recs;
      names = there'.names.names;
      held = held_of there'.names.recs f.item.blocks (members_blocks s.back) text none;
    }
    in
    record {
      blocks = f.item.blocks;
      old = subst (λ (p : Place). HoldsMember tracks p f.item.blocks) f.is held;
      new = subst (λ (p : Place). HoldsMember tracks' (move p) f.item.blocks) f.is new;
      at = subst (λ (p : Place). IsSomewhere (move p)) f.is (somewhere device tracks' (move f.item.place) (members_blocks (f.item ∷ s.back)) have there');
    }

-- entries with their members, before and after
record Listing (tracks tracks' : List Track) (move : Place → Place) (entries : List Entry) : Type 0 where
  listed : List (Entry × List Block)
  entries_are : map (λ (x : Entry × List Block). x.0) listed ≡ entries
  old : All (λ (x : Entry × List Block). HoldsMember tracks x.0.place x.1) listed
  new : All (λ (x : Entry × List Block). HoldsMember tracks' x.0.place x.1) (map (λ (x : Entry × List Block). (moved_entry move x.0, x.1)) listed)

listing : (tracks tracks' : List Track) (move : Place → Place) (entries : List Entry) → AllByRecursion (HasMember tracks tracks' move) entries → Listing tracks tracks' move entries
listing tracks tracks' move [] each = record {
  listed = [];
  entries_are = refl;
  old = All-nil (λ (x : Entry × List Block). HoldsMember tracks x.0.place x.1);
  new = All-nil (λ (x : Entry × List Block). HoldsMember tracks' x.0.place x.1);
}
listing tracks tracks' move (entry ∷ more) each =
    let rest = listing tracks tracks' move more each.1 in
    let first : Entry × List Block = (entry, each.0.blocks) in
    record {
      listed = first ∷ rest.listed;
      entries_are = ap (λ l. entry ∷ l) rest.entries_are;
      old = All-cons (λ (x : Entry × List Block). HoldsMember tracks x.0.place x.1) first rest.listed each.0.old rest.old;
      new = All-cons (λ (x : Entry × List Block). HoldsMember tracks' x.0.place x.1) (moved_entry move entry, each.0.blocks) (map (λ (x : Entry × List Block). (moved_entry move x.0, x.1)) rest.listed) each.0.new rest.new;
    }

items_stay : (move : Place → Place) (listed : List (Entry × List Block)) → map item_of listed ≡ map item_of (map (λ (x : Entry × List Block). (moved_entry move x.0, x.1)) listed)
items_stay move [] = refl
items_stay move (x ∷ more) = ap (λ l. item_of x ∷ l) (items_stay move more)

entries_stay : (move : Place → Place) (listed : List (Entry × List Block)) → map (λ (x : Entry × List Block). x.0) (map (λ (x : Entry × List Block). (moved_entry move x.0, x.1)) listed) ≡ map (moved_entry move) (map (λ (x : Entry × List Block). x.0) listed)
entries_stay move [] = refl
entries_stay move (x ∷ more) = ap (λ l. moved_entry move x.0 ∷ l) (entries_stay move more)

entries_moved : (move : Place → Place) (pages : List Page) → map (moved_entry move) (entries_of pages) ≡ entries_of (map (moved_page move) pages)
entries_moved move [] = refl
entries_moved move (page ∷ more) = map-append (moved_entry move) page.entries (entries_of more) ∙ ap (λ l. map (moved_entry move) page.entries ++ l) (entries_moved move more)

-- ---- the clauses

-- a refit, with all that is known of it
pub record IsWhole (device : Device) (tracks : List Track) (refit : Refit) : Type 0 where
  pub pages : List Page
  pub behind : List Block
  pub members : List Member
  pub movable : IsMovable tracks pages behind members
  pub move : Place → Place
  pub packed : ArePacked device (all_blocks (map (moved_page move) pages) behind members) refit.tracks
  pub room : HaveRoom device refit.tracks
  pub there : AreThere refit.tracks members move
  pub last_is : IsLastEnd refit.tracks refit.last

pub whole_is : (device : Device) (tracks : List Track) (movable : Movable) (refit : Refit) → IsTaken tracks movable → IsPlaceable movable → IsPut device movable refit → IsWhole device tracks refit
whole_is device tracks movable refit t p h =
    let move = moved_to movable.numbers h.news in
    let moved = moved_blocks move movable.pages movable.blocks in
    let head = (map page_block (map (moved_page move) movable.pages) ++ t.behind) ++ end_of_file ∷ [] in
    let all = all_blocks (map (moved_page move) movable.pages) t.behind t.members in
    let moved_are : moved ≡ all = ap (moved_blocks move movable.pages) t.blocks_are ∙ all_moved move movable.pages t.behind t.members in
    let sizes = moved_sizes move movable.pages movable.blocks p.rest p.front in
    let fit = put_fits device movable h.news moved p h.fit refl in
    let groups = groups_of (filling_of device moved) in
    let group = grouped device moved fit in
    let roomy : HaveRoom device refit.tracks = subst (HaveRoom device) (sym h.tracks) (room device moved groups group (put_sized movable h.news moved p refl)) in
    let put : ArePut device moved refit.tracks h.places = record { tracks_are = h.tracks; few = h.few; placed = same_places device movable.blocks moved h.places sizes h.placed; room = roomy } in
    let moved_head : moved ≡ head ++ members_blocks t.members =
    moved_are ∙ sym (append_assoc (map page_block (map (moved_page move) movable.pages) ++ t.behind) (end_of_file ∷ []) (members_blocks t.members)) in
    let by_numbers : IsMoveBy movable.numbers h.places h.news movable.starts (length head) t.members = record {
      ascending = p.ascending;
      numbers_are = t.numbers_are;
      news_are = h.news_are;
      starts_are = t.starts_are ∙ ap (λ n. starts_of n t.members) (omega (
        arith,
        length-append (map page_block movable.pages) t.behind,
        length-append (map page_block (map (moved_page move) movable.pages) ++ t.behind) (end_of_file ∷ []),
        length-append (map page_block (map (moved_page move) movable.pages)) t.behind,
        length-map movable.pages page_block,
        length-map (map (moved_page move) movable.pages) page_block,
        length-map movable.pages (moved_page move),
      ));
    }
    in
    record {
      pages = movable.pages;
      behind = t.behind;
      members = t.members;
      movable = t.sound;
      move = move;
      packed = subst (λ (l : List Block). ArePacked device l refit.tracks) moved_are (record { groups = groups; grouped = group; tracks_are = h.tracks });
      room = roomy;
      there = record { each = λ front member back whole. member_there device moved head refit.tracks h.places h.news movable.numbers movable.starts t.members front member back put moved_head by_numbers whole };
      last_is = last_end device moved (map page_block (map (moved_page move) movable.pages) ++ t.behind) t.members refit.tracks h.places refit.last put moved_are
          (h.last_is ∙ ap (λ n. place_text (get_or h.places (n - 1) origin).track (get_or h.places (n - 1) origin).number) (sym (length-map movable.blocks size_of) ∙ ap length sizes ∙ length-map moved size_of));
    }

pub refit_is : (device : Device) (tracks : List Track) (refit : Refit) → IsWhole device tracks refit → IsPartitionedRefit device tracks refit
refit_is device tracks refit h = record {
  pages = h.pages;
  behind = h.behind;
  members = h.members;
  movable = h.movable;
  move = h.move;
  packed = h.packed;
  moved = λ front back member whole. (h.there.each front member back whole).names;
  last_is = h.last_is;
}

pub same_is : (device : Device) (tracks : List Track) (refit : Refit) → IsWhole device tracks refit → HoldsTheItems tracks refit
same_is device tracks refit h =
    let entries = entries_of h.pages in
    let has = All-weaker (Contains entries) (HasMember tracks refit.tracks h.move) (entry_member device tracks refit.tracks entries h.members h.move h.movable.members_are h.there h.room) entries (All-contains_itself entries) in
    let at = All-weaker (HasMember tracks refit.tracks h.move) (λ (entry : Entry). IsSomewhere (h.move entry.place)) (λ entry m. m.at) entries has in
    let l = listing tracks refit.tracks h.move entries (recursion_from_All (HasMember tracks refit.tracks h.move) entries has) in
    record {
      content = map item_of l.listed;
      old = record { pages = h.pages; behind = h.behind; directory = h.movable.directory; listed = l.listed; entries_are = l.entries_are; held = l.old; content_is = refl };
      new = record {
        pages = map (moved_page h.move) h.pages;
        behind = h.behind;
        directory = new_directory device tracks refit.tracks h.pages h.behind h.members h.move h.movable.directory at h.packed;
        listed = map (λ (x : Entry × List Block). (moved_entry h.move x.0, x.1)) l.listed;
        entries_are = entries_stay h.move l.listed ∙ ap (map (moved_entry h.move)) l.entries_are ∙ entries_moved h.move h.pages;
        held = l.new;
        content_is = items_stay h.move l.listed;
      };
    }
