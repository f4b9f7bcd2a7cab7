-- The directory and the members of a data set are taken.
use Rattle.std.proofs.Common.{◌≡◌, inl, inr, ℕ, ◌+◌, ◌<◌, ◌≤◌, Bool, true, false, List, [], ◌∷◌, ◌++◌, length, map, get_or, All, refl, sym, ap, subst, ◌∙◌, arith, append_assoc, length-append}
use Rattle.std.specs.List.{flat_map, Contains, AllByRecursion}
use Rattle.std.specs.List.Sorted.{IsStrictlyIncreasing}
use Rattle.std.proofs.lemmas.List.{length-map, get_or-map}
use Rattle.std.proofs.lemmas.List.Elements.{All-nil, All-head, All-tail, All-append, All-weaker, All-contains, All-contains_itself, All-push, Contains-get_or, recursion_from_All, All-from_recursion}
use Rattle.ckd_image.specs.Track.{IsRecord, IsTrack}
use Rattle.ckd_image.specs.declared.track.Rec.{Rec}
use Rattle.ckd_image.specs.declared.track.Track.{Track}
use Rattle.org_reloc.specs.declared.block.Block.{Block}
use Rattle.org_reloc.specs.declared.entry.Entry.{Entry}
use Rattle.org_reloc.specs.declared.directory.Page.{Page}
use Rattle.org_reloc.specs.declared.place.Place.{Place}
use Rattle.org_reloc.specs.Content.{end_of_file, IsBlock, records_of, HoldUpToEnd, Hold}
use Rattle.org_reloc.specs.Directory.{IsEntry, IsFullPage, page_block, entries_of, IsDirectory}
use Rattle.org_reloc.specs.DirectoryReading.{IsDirectoryRead, IsDirectoryRefusal}
use Rattle.org_reloc.specs.Place.{IsPlace}
use Rattle.org_reloc.specs.Member.{number_of_place, place_of_number, places_of_entries, NamesRecords, NamesOne, HoldsMember, IsEndless, Member, member_blocks, members_blocks, AreMembers, AreNumbers, AreMembersPut, starts_of}
use Rattle.org_reloc.specs.MemberRefusal.{HasEndless, IsMembersRefusal}
use Rattle.org_reloc.specs.Taken.{IsTaken, IsTakingRefusal, IsPlaceable}
use Rattle.org_reloc.specs.declared.fault.RelocFault.{RelocFault}
use Rattle.org_reloc.specs.declared.fault.RelocFault.TheVariants.{NotRelocatable, BlockTooLong, NoMemory}
use Rattle.org_reloc.specs.declared.fault.Why.TheVariants as whys
use Rattle.org_reloc.specs.Partitioned.{HasLostEntry, HasNoEndThere}
use Rattle.org_reloc.proofs.Entries.{same_place}
use Rattle.org_reloc.proofs.Runs.{all_records, held_sized, All_back}
use Rattle.org_reloc.proofs.Refits.{end_sized}
use Rattle.ckd_image.proofs.Lists.{contains_map}

-- ---- places and numbers

pub place_back : (place : Place) → IsPlace place → place_of_number (number_of_place place) ≡ place
place_back place h = same_place (place_of_number (number_of_place place)) place (omega (arith, h.track, h.number)) (omega (arith, h.track, h.number))

-- an element of an image comes from one of the list
pub record Found {X Y : Type 0} (f : X → Y) (xs : List X) (y : Y) : Type 0 where
  pub item : X
  pub among : Contains xs item
  pub is : f item ≡ y

pub found_in : {X Y : Type 0} (f : X → Y) (xs : List X) (y : Y) → Contains (map f xs) y → Found f xs y
found_in f [] y h = absurd (omega (arith, h.1))
found_in f (x ∷ xs) y h =
    let lt : h.0 < length (x ∷ xs) = omega (arith, h.1, length-map (x ∷ xs) f) in
    record {
      item = get_or (x ∷ xs) h.0 x;
      among = Contains-get_or (x ∷ xs) h.0 x lt;
      is = sym (get_or-map f (x ∷ xs) h.0 x y lt) ∙ h.2;
    }

-- ---- entries are sound

joined : {X : Type 0} (P : X → Type 0) (f : Page → List X) (pages : List Page) → AllByRecursion (λ page. All P (f page)) pages → All P (flat_map f pages)
joined P f [] each = All-nil P
joined P f (page ∷ more) each = All-append P (f page) (flat_map f more) each.0 (joined P f more each.1)

pub entries_sound : (blocks : List Block) (pages : List Page) → IsDirectory blocks pages → All IsEntry (entries_of pages)
entries_sound blocks pages h =
    let full : All (λ (page : Page). All IsEntry page.entries) h.before = All-weaker IsFullPage (λ (page : Page). All IsEntry page.entries) (λ page p. p.sound.entries) h.before h.full in
    let all : All (λ (page : Page). All IsEntry page.entries) pages =
    subst (All (λ (page : Page). All IsEntry page.entries)) (sym h.pages_are) (All-push (λ (page : Page). All IsEntry page.entries) h.before h.last full h.ends.sound.entries) in
    joined IsEntry (λ (page : Page). page.entries) pages (recursion_from_All (λ (page : Page). All IsEntry page.entries) pages all)

-- ---- all entries name records

pub all_entries : (tracks : List Track) (entries : List Entry) (numbers : List ℕ) → AreNumbers entries numbers → All IsEntry entries → All (λ number. NamesOne tracks (place_of_number number)) numbers → All (λ entry. NamesOne tracks entry.place) entries
all_entries tracks entries numbers h sound named =
    All-weaker (Contains entries) (λ (entry : Entry). NamesOne tracks entry.place)
    (λ entry among. subst (NamesOne tracks) (place_back entry.place (All-contains IsEntry entries entry sound among).heading.place_fits)
    (All-contains (λ number. NamesOne tracks (place_of_number number)) numbers (number_of_place entry.place) named (All-contains (λ (e : Entry). Contains numbers (number_of_place e.place)) entries entry h.named among)))
    entries (All-contains_itself entries)

-- an entry with the number
pub entry_with : (entries : List Entry) (numbers : List ℕ) (number : ℕ) → AreNumbers entries numbers → Contains numbers number → Found (λ (entry : Entry). number_of_place entry.place) entries number
entry_with entries numbers number h among = found_in (λ (entry : Entry). number_of_place entry.place) entries number (All-contains (Contains (map (λ entry. number_of_place entry.place) entries)) numbers number h.only among)

place_with : (entries : List Entry) (number : ℕ) → All IsEntry entries → (f : Found (λ (entry : Entry). number_of_place entry.place) entries number) → f.item.place ≡ place_of_number number
place_with entries number sound f = sym (place_back f.item.place (All-contains IsEntry entries f.item sound f.among).heading.place_fits) ∙ ap place_of_number f.is

pub all_numbers : (tracks : List Track) (entries : List Entry) (numbers : List ℕ) → AreNumbers entries numbers → All IsEntry entries → All (λ entry. NamesOne tracks entry.place) entries → All (λ number. NamesOne tracks (place_of_number number)) numbers
all_numbers tracks entries numbers h sound named =
    All-weaker (Contains numbers) (λ number. NamesOne tracks (place_of_number number))
    (λ number among.
    let f = entry_with entries numbers number h among in
    subst (NamesOne tracks) (place_with entries number sound f) (All-contains (λ (e : Entry). NamesOne tracks e.place) entries f.item named f.among))
    numbers (All-contains_itself numbers)

-- ---- refusals

pub lost_entry : (tracks : List Track) (blocks : List Block) (ended : Bool) (pages : List Page) (numbers : List ℕ) → Hold (records_of tracks) blocks ended → IsDirectoryRead blocks pages → AreNumbers (entries_of pages) numbers
    → ¬ All (λ number. NamesOne tracks (place_of_number number)) numbers → HasLostEntry tracks
lost_entry tracks blocks ended pages numbers held read h lost = record {
  ended = ended;
  pages = pages;
  directory = record { blocks = blocks; held = held; directory = read.directory; plain = read.plain };
  lost = λ named. lost (all_numbers tracks (entries_of pages) numbers h (entries_sound blocks pages read.directory) named);
}

pub no_directory_end : (tracks : List Track) (blocks : List Block) (pages : List Page) (numbers : List ℕ) → Hold (records_of tracks) blocks false → IsDirectoryRead blocks pages → AreNumbers (entries_of pages) numbers
    → All (λ number. NamesOne tracks (place_of_number number)) numbers → HasNoEndThere tracks
no_directory_end tracks blocks pages numbers held read h named = record {
  ended = false;
  pages = pages;
  directory = record { blocks = blocks; held = held; directory = read.directory; plain = read.plain };
  named = all_entries tracks (entries_of pages) numbers h (entries_sound blocks pages read.directory) named;
  endless = inl refl;
}

pub no_member_end : (tracks : List Track) (blocks : List Block) (ended : Bool) (pages : List Page) (numbers : List ℕ) → Hold (records_of tracks) blocks ended → IsDirectoryRead blocks pages → AreNumbers (entries_of pages) numbers
    → All (λ number. NamesOne tracks (place_of_number number)) numbers → HasEndless tracks numbers → HasNoEndThere tracks
no_member_end tracks blocks ended pages numbers held read h named endless =
    let sound = entries_sound blocks pages read.directory in
    let f = entry_with (entries_of pages) numbers endless.number h endless.among in
    record {
      ended = ended;
      pages = pages;
      directory = record { blocks = blocks; held = held; directory = read.directory; plain = read.plain };
      named = all_entries tracks (entries_of pages) numbers h sound named;
      endless = inr (f.item, f.among, subst (IsEndless tracks) (sym (place_with (entries_of pages) endless.number sound f)) endless.endless);
    }

-- ---- members

numbers_back : (members : List Member) (numbers : List ℕ) → map (λ member. member.place) members ≡ map place_of_number numbers → AllByRecursion (λ n. number_of_place (place_of_number n) ≡ n) numbers
    → numbers ≡ map (λ member. number_of_place member.place) members
numbers_back [] [] e each = refl
numbers_back [] (n ∷ ns) e each = absurd (omega (arith, ap length e))
numbers_back (m ∷ ms) [] e each = absurd (omega (arith, ap length e))
numbers_back (m ∷ ms) (n ∷ ns) e each =
    let head : m.place ≡ place_of_number n = cc in
    let tail : map (λ (member : Member). member.place) ms ≡ map place_of_number ns = cc in
    let first : n ≡ number_of_place m.place = sym each.0 ∙ ap number_of_place (sym head) in
    let rest : ns ≡ map (λ (member : Member). number_of_place member.place) ms = numbers_back ms ns tail each.1 in
    ap (λ k. k ∷ ns) first ∙ ap (λ l. number_of_place m.place ∷ l) rest

round_trip : (entries : List Entry) (numbers : List ℕ) → AreNumbers entries numbers → All IsEntry entries → All (λ n. number_of_place (place_of_number n) ≡ n) numbers
round_trip entries numbers h sound =
    All-weaker (Contains numbers) (λ n. number_of_place (place_of_number n) ≡ n)
    (λ n among. let f = entry_with entries numbers n h among in ap number_of_place (sym (place_with entries n sound f)) ∙ f.is)
    numbers (All-contains_itself numbers)

numbers_are : (tracks : List Track) (entries : List Entry) (numbers starts : List ℕ) (old new : List Block) → AreNumbers entries numbers → All IsEntry entries → (put : AreMembersPut tracks numbers old new starts)
    → numbers ≡ map (λ member. number_of_place member.place) put.members
numbers_are tracks entries numbers starts old new h sound put =
    numbers_back put.members numbers put.places_are (recursion_from_All (λ n. number_of_place (place_of_number n) ≡ n) numbers (round_trip entries numbers h sound))

members_are : (tracks : List Track) (entries : List Entry) (numbers starts : List ℕ) (old new : List Block) → AreNumbers entries numbers → All IsEntry entries → (put : AreMembersPut tracks numbers old new starts)
    → AreMembers tracks entries put.members
members_are tracks entries numbers starts old new h sound put =
    let place : Member → Place = λ m. m.place in
    record {
      ascending = subst IsStrictlyIncreasing (numbers_are tracks entries numbers starts old new h sound put) h.ascending;
      named = All-weaker (Contains entries) (λ (entry : Entry). Contains (map place put.members) entry.place)
          (λ entry among.
          let number = All-contains (λ (e : Entry). Contains numbers (number_of_place e.place)) entries entry h.named among in
          subst (Contains (map place put.members)) (place_back entry.place (All-contains IsEntry entries entry sound among).heading.place_fits)
          (subst (λ l. Contains l (place_of_number (number_of_place entry.place))) (sym put.places_are) (contains_map place_of_number numbers (number_of_place entry.place) number)))
          entries (All-contains_itself entries);
      only = All-weaker (Contains put.members) (λ (m : Member). Contains (places_of_entries entries) m.place)
          (λ m among.
          let n = found_in place_of_number numbers m.place (subst (λ l. Contains l m.place) put.places_are (contains_map place put.members m among)) in
          let f = entry_with entries numbers n.item h n.among in
          subst (Contains (places_of_entries entries)) (place_with entries n.item sound f ∙ n.is) (contains_map (λ (e : Entry). e.place) entries f.item f.among))
          put.members (All-contains_itself put.members);
      held = put.held;
    }

pub taken : (tracks : List Track) (blocks : List Block) (pages : List Page) (numbers : List ℕ) (base new : List Block) (starts : List ℕ) → Hold (records_of tracks) blocks true → IsDirectoryRead blocks pages
    → AreNumbers (entries_of pages) numbers → base ≡ blocks ++ end_of_file ∷ [] → AreMembersPut tracks numbers base new starts → IsTaken tracks (record { pages = pages; numbers = numbers; blocks = new; starts = starts })
taken tracks blocks pages numbers base new starts held read h base_is put =
    let sound = entries_sound blocks pages read.directory in
    let behind = read.directory.behind in
    let front = read.directory.blocks_are in
    record {
      behind = behind;
      members = put.members;
      sound = record {
        directory = record {
          held = subst (HoldUpToEnd (records_of tracks)) front held;
          directory = subst (λ (l : List Block). IsDirectory l pages) front read.directory;
        };
        plain = read.plain;
        members_are = members_are tracks (entries_of pages) numbers starts base new h sound put;
      };
      numbers_are = numbers_are tracks (entries_of pages) numbers starts base new h sound put;
      blocks_are = put.new_is ∙ ap (λ l. l ++ members_blocks put.members) base_is ∙ append_assoc blocks (end_of_file ∷ []) (members_blocks put.members) ∙ ap (λ l. l ++ end_of_file ∷ members_blocks put.members) front;
      starts_are = put.starts_are
          ∙ ap (λ n. starts_of n put.members) (ap length base_is ∙ length-append blocks (end_of_file ∷ []) ∙ ap (λ (l : List Block). length l + 1) front);
    }

-- ---- it can be put

starts_below : (base total : ℕ) (members : List Member) → base + length (members_blocks members) ≤ total → AllByRecursion (λ start. start < total) (starts_of base members)
starts_below base total [] le = tt
starts_below base total (m ∷ ms) le =
    let size = length-append m.blocks (end_of_file ∷ []) in
    let all = length-append (member_blocks m) (members_blocks ms) in
    (omega (arith, le, size, all), starts_below (base + length (member_blocks m)) total ms (omega (arith, le, all)))

pub length-starts : (base : ℕ) (members : List Member) → length (starts_of base members) ≡ length members
length-starts base [] = refl
length-starts base (m ∷ ms) = omega (arith, length-starts (base + length (member_blocks m)) ms)

named_records : (tracks : List Track) (place : Place) (recs : List Rec) → NamesRecords tracks place recs → All IsTrack tracks → All IsRecord recs
named_records tracks place recs h each =
    let behind = All_back IsTrack h.before (h.track ∷ h.after) (subst (All IsTrack) h.tracks_are each) in
    let here = All_back IsRecord h.skipped (h.rec ∷ h.rest) (subst (All IsRecord) h.recs_are (All-head IsTrack h.track h.after behind).records) in
    subst (All IsRecord) (sym h.named) (All-append IsRecord (h.rec ∷ h.rest) (records_of h.after) here (all_records h.after (All-tail IsTrack h.track h.after behind)))

member_sized : (tracks : List Track) (member : Member) → All IsTrack tracks → HoldsMember tracks member.place member.blocks → All IsBlock (member_blocks member)
member_sized tracks member each h = All-push IsBlock member.blocks end_of_file (held_sized true h.recs member.blocks h.held (named_records tracks member.place h.recs h.names each)) end_sized

members_sized : (tracks : List Track) (members : List Member) → All IsTrack tracks → AllByRecursion (λ member. HoldsMember tracks member.place member.blocks) members → All IsBlock (members_blocks members)
members_sized tracks [] each held = All-nil IsBlock
members_sized tracks (m ∷ ms) each held = All-append IsBlock (member_blocks m) (members_blocks ms) (member_sized tracks m each held.0) (members_sized tracks ms each held.1)

pub placeable : (tracks : List Track) (blocks : List Block) (pages : List Page) (numbers : List ℕ) (base new : List Block) (starts : List ℕ) → All IsTrack tracks → Hold (records_of tracks) blocks true → IsDirectoryRead blocks pages
    → AreNumbers (entries_of pages) numbers → base ≡ blocks ++ end_of_file ∷ [] → AreMembersPut tracks numbers base new starts → IsPlaceable (record { pages = pages; numbers = numbers; blocks = new; starts = starts })
placeable tracks blocks pages numbers base new starts each held read h base_is put =
    let behind = read.directory.behind in
    let members = members_blocks put.members in
    let sized : All IsBlock base = subst (All IsBlock) (sym base_is) (All-push IsBlock blocks end_of_file (held_sized true (records_of tracks) blocks held (all_records tracks each)) end_sized) in
    let holds : Member → Type 0 = λ m. HoldsMember tracks m.place m.blocks in
    let count : length base ≡ length blocks + 1 = ap length base_is ∙ length-append blocks (end_of_file ∷ []) in
    let total : length new ≡ length base + length members = ap length put.new_is ∙ length-append base members in
    record {
      rest = behind ++ end_of_file ∷ members;
      front = put.new_is ∙ ap (λ l. l ++ members) base_is ∙ append_assoc blocks (end_of_file ∷ []) members ∙ ap (λ l. l ++ end_of_file ∷ members) read.directory.blocks_are
          ∙ append_assoc (map page_block pages) behind (end_of_file ∷ members);
      sized = subst (All IsBlock) (sym put.new_is) (All-append IsBlock base members sized (members_sized tracks put.members each (recursion_from_All holds put.members put.held)));
      some = omega (arith, total, count);
      ascending = h.ascending;
      counted = ap length put.starts_are ∙ length-starts (length base) put.members ∙ sym (length-map put.members (λ (m : Member). m.place)) ∙ ap length put.places_are ∙ length-map numbers place_of_number;
      starts_in = subst (All (λ start. start < length new)) (sym put.starts_are)
          (All-from_recursion (λ start. start < length new) (starts_of (length base) put.members) (starts_below (length base) (length new) put.members (omega (arith, total))));
    }

-- ---- refusals by their numbers

pub directory_refused : (tracks : List Track) (blocks : List Block) (ended : Bool) (e : RelocFault) → Hold (records_of tracks) blocks ended → IsDirectoryRefusal blocks e → IsTakingRefusal tracks e
directory_refused tracks blocks ended (NotRelocatable why) held (inl h) = (whys.UserTtrs, h.0, record { blocks = blocks; front = record { ended = ended; held = held }; user = h.1 })
directory_refused tracks blocks ended (NotRelocatable why) held (inr h) =
    (whys.Directory, h.0, inl (record { blocks = blocks; front = record { ended = ended; held = held }; entries = h.1.entries; broken = h.1.broken; plain = h.1.plain }))
directory_refused tracks blocks ended (BlockTooLong len largest) held h = h
directory_refused tracks blocks ended NoMemory held h = tt

pub members_refused : (tracks : List Track) (blocks : List Block) (ended : Bool) (pages : List Page) (numbers : List ℕ) (e : RelocFault) → Hold (records_of tracks) blocks ended → IsDirectoryRead blocks pages → AreNumbers (entries_of pages) numbers
    → All (λ number. NamesOne tracks (place_of_number number)) numbers → IsMembersRefusal tracks numbers e → IsTakingRefusal tracks e
members_refused tracks blocks ended pages numbers (NotRelocatable why) held read h named refused = (whys.NoEnd, refused.0, no_member_end tracks blocks ended pages numbers held read h named refused.1)
members_refused tracks blocks ended pages numbers (BlockTooLong len largest) held read h named refused = refused
members_refused tracks blocks ended pages numbers NoMemory held read h named refused = tt
