-- A partitioned data set has one refit, or a cause that stands against it.
use Rattle.std.proofs.Common.{◌≡◌, ◌≢◌, ◌⊎◌, inl, inr, ℕ, zero, suc, ◌<◌, ◌≤◌, Bool, true, false, List, [], ◌∷◌, ◌++◌, length, map, All, refl, sym, ap, subst, ◌∙◌, arith, append_assoc, length-append}
use Rattle.std.specs.List.{AllByRecursion, AllPairs, Contains}
use Rattle.std.proofs.lemmas.List.{length-map}
use Rattle.std.proofs.lemmas.List.Kept.{AllPairs-from_increasing}
use Rattle.std.proofs.lemmas.List.Elements.{All-contains, All-contains_itself, All-weaker, All-from_recursion, recursion_from_All}
use Rattle.ckd_image.specs.declared.device.Device.{Device}
use Rattle.ckd_image.specs.declared.track.Rec.{Rec}
use Rattle.ckd_image.specs.declared.track.Track.{Track}
use Rattle.org_reloc.specs.declared.block.Block.{Block}
use Rattle.org_reloc.specs.declared.entry.Entry.{Entry}
use Rattle.org_reloc.specs.declared.directory.Page.{Page}
use Rattle.org_reloc.specs.declared.place.Place.{Place}
use Rattle.org_reloc.specs.declared.refit.Refit.{Refit}
use Rattle.org_reloc.specs.declared.fault.RelocFault.{RelocFault}
use Rattle.org_reloc.specs.declared.fault.RelocFault.TheVariants.{NotRelocatable, BlockTooLong, NoMemory}
use Rattle.org_reloc.specs.declared.fault.Why.{Why}
use Rattle.org_reloc.specs.declared.fault.Why.TheVariants as whys
use Rattle.org_reloc.specs.Content.{end_of_file, records_of, HoldUpToEnd, Hold}
use Rattle.org_reloc.specs.Directory.{IsEntry, page_block, entries_of, IsDirectory, HasUserPlaces, IsBrokenAfter}
use Rattle.org_reloc.specs.Packing.{size_of, FitsAlone, track_of}
use Rattle.org_reloc.specs.Filling.{filling_of, groups_of}
use Rattle.org_reloc.specs.Refusal.{IsFirstTooLong, TakeTooMany}
use Rattle.org_reloc.specs.Member.{number_of_place, place_of_number, places_of_entries, NamesRecords, NamesOne, HoldsMember, IsEndless, Member, members_blocks, AreMembers}
use Rattle.org_reloc.specs.Partitioned.{moved_page, all_blocks, HasDirectory, IsMovable, IsPartitionedRefit, HasFrontDirectory, HasFault, StandsAgainst, IsPartitionedRefusal}
use Rattle.org_reloc.proofs.Groups.{grouped}
use Rattle.org_reloc.proofs.Members.{place_apart}
use Rattle.org_reloc.proofs.OneDirectory.{no_user, not_broken, one_directory}
use Rattle.org_reloc.proofs.Partitions.{all_moved}
use Rattle.org_reloc.proofs.Runs.{All_middle}
use Rattle.org_reloc.proofs.Shapes.{all_by_sizes, fit_by_size, same_count, moved_sizes}
use Rattle.org_reloc.proofs.Takings.{entries_sound, found_in, place_back}
use Rattle.org_reloc.proofs.Unique.{one_content, no_end_held, one_grouping, grouped_alone}
use Rattle.ckd_image.proofs.Lists.{contains_map}

-- ---- what a place names

-- two partings of a list at one length
pub record SameParting {X : Type 0} (xs ys : List X) (x y : X) (as' bs : List X) : Type 0 where
  pub front : xs ≡ ys
  pub item : x ≡ y
  pub back : as' ≡ bs

pub same_parting : {X : Type 0} (xs ys : List X) (x y : X) (as' bs : List X) → length xs ≡ length ys → xs ++ x ∷ as' ≡ ys ++ y ∷ bs → SameParting xs ys x y as' bs
same_parting [] [] x y as' bs len e =
    let head : x ≡ y = cc in
    let tail : as' ≡ bs = cc in
    record { front = refl; item = head; back = tail }
same_parting [] (b ∷ ys) x y as' bs len e = absurd (omega arith)
same_parting (a ∷ xs) [] x y as' bs len e = absurd (omega arith)
same_parting (a ∷ xs) (b ∷ ys) x y as' bs len e =
    let head : a ≡ b = cc in
    let tail : xs ++ x ∷ as' ≡ ys ++ y ∷ bs = cc in
    let h = same_parting xs ys x y as' bs (omega (arith, len)) tail in
    record { front = ap (λ l. a ∷ l) h.front ∙ ap (λ z. z ∷ ys) head; item = h.item; back = h.back }

first_same : (xs ys : List Rec) (x y : Rec) (as' bs : List Rec) (n : ℕ) → xs ++ x ∷ as' ≡ ys ++ y ∷ bs → AllByRecursion (λ r. r.r ≢ n) xs → AllByRecursion (λ r. r.r ≢ n) ys → x.r ≡ n → y.r ≡ n → x ∷ as' ≡ y ∷ bs
first_same [] [] x y as' bs n e p q u v = e
first_same [] (b ∷ ys) x y as' bs n e p q u v = let head : x ≡ b = cc in absurd (q.0 (ap (λ (r : Rec). r.r) (sym head) ∙ u))
first_same (a ∷ xs) [] x y as' bs n e p q u v = let head : a ≡ y = cc in absurd (p.0 (ap (λ (r : Rec). r.r) head ∙ v))
first_same (a ∷ xs) (b ∷ ys) x y as' bs n e p q u v =
    let tail : xs ++ x ∷ as' ≡ ys ++ y ∷ bs = cc in
    first_same xs ys x y as' bs n tail p.1 q.1 u v

one_named : (tracks : List Track) (place : Place) (recs recs' : List Rec) → NamesRecords tracks place recs → NamesRecords tracks place recs' → recs ≡ recs'
one_named tracks place recs recs' h g =
    let text = place_apart (length h.before) (length g.before) h.rec.r g.rec.r h.near g.near (sym h.place_is ∙ g.place_is) in
    let parted = same_parting h.before g.before h.track g.track h.after g.after text.0 (sym h.tracks_are ∙ g.tracks_are) in
    let records : h.skipped ++ h.rec ∷ h.rest ≡ g.skipped ++ g.rec ∷ g.rest = sym h.recs_are ∙ ap (λ (t : Track). t.recs) parted.item ∙ g.recs_are in
    let first_h = recursion_from_All (λ (r : Rec). r.r ≢ h.rec.r) h.skipped h.first in
    let first_g = recursion_from_All (λ (r : Rec). r.r ≢ h.rec.r) g.skipped (subst (λ n. All (λ (r : Rec). r.r ≢ n) g.skipped) (sym text.1) g.first) in
    let same = first_same h.skipped g.skipped h.rec g.rec h.rest g.rest h.rec.r records first_h first_g refl (sym text.1) in
    h.named ∙ ap (λ l. l ++ records_of h.after) same ∙ ap (λ (t : List Track). (g.rec ∷ g.rest) ++ records_of t) parted.back ∙ sym g.named

one_member : (tracks : List Track) (place : Place) (a b : List Block) → HoldsMember tracks place a → HoldsMember tracks place b → a ≡ b
one_member tracks place a b h g =
    one_content g.recs a b (subst (λ (l : List Rec). HoldUpToEnd l a) (one_named tracks place h.recs g.recs h.names g.names) h.held) g.held

-- ---- ascending numbers

abbrev Rises : List ℕ → Type 0
Rises [] = Unit {0}
Rises (x ∷ xs) = All (λ y. x < y) xs × Rises xs

rises : (xs : List ℕ) → AllPairs (λ x y. x < y) xs → Rises xs
rises [] pairs = tt
rises (x ∷ xs) pairs = (
  λ k d lt. pairs 0 (suc k) d (omega arith) (omega (arith, lt)),
  rises xs (λ i j d below lt. pairs (suc i) (suc j) d (omega (arith, below)) (omega (arith, lt))),
)

in_cons : (x : ℕ) (xs : List ℕ) (n : ℕ) → Contains (x ∷ xs) n → (x ≡ n) ⊎ Contains xs n
in_cons x xs n (zero, lt, e) = inl e
in_cons x xs n (suc k, lt, e) = inr (k, omega (arith, lt), e)

-- where a list has each number of the other behind its first one
behind_first : (x : ℕ) (xs ys : List ℕ) → All (λ y. x < y) xs → ((n : ℕ) → Contains (x ∷ xs) n → Contains (x ∷ ys) n) → (n : ℕ) → Contains xs n → Contains ys n
behind_first x xs ys above within n (k, lt, e) =
    let high : x < n = All-contains (λ y. x < y) xs n above (k, lt, e) in
    elim (in_cons x ys n (within n (suc k, omega (arith, lt), e))) [
      | inl same ↦ absurd (omega (arith, same, high))
      | inr among ↦ among
    ]

first_least : (x y : ℕ) (xs ys : List ℕ) → All (λ z. x < z) xs → All (λ z. y < z) ys → Contains (y ∷ ys) x → Contains (x ∷ xs) y → x ≡ y
first_least x y xs ys above above' h g =
    elim (in_cons y ys x h) [
      | inl same ↦ sym same
      | inr among ↦ elim (in_cons x xs y g) [
        | inl same ↦ same
        | inr other ↦ let low = All-contains (λ z. y < z) ys x above' among in let high = All-contains (λ z. x < z) xs y above other in absurd (omega (arith, low, high))
      ]
    ]

one_rising : (xs ys : List ℕ) → Rises xs → Rises ys → ((n : ℕ) → Contains xs n → Contains ys n) → ((n : ℕ) → Contains ys n → Contains xs n) → xs ≡ ys
one_rising [] [] p q there back = refl
one_rising [] (y ∷ ys) p q there back = let h = back y (0, omega arith, refl) in absurd (omega (arith, h.1))
one_rising (x ∷ xs) [] p q there back = let h = there x (0, omega arith, refl) in absurd (omega (arith, h.1))
one_rising (x ∷ xs) (y ∷ ys) p q there back =
    let same = first_least x y xs ys p.0 q.0 (there x (0, omega arith, refl)) (back y (0, omega arith, refl)) in
    let there' : (n : ℕ) → Contains (x ∷ xs) n → Contains (x ∷ ys) n = λ n h. subst (λ z. Contains (z ∷ ys) n) (sym same) (there n h) in
    let back' : (n : ℕ) → Contains (x ∷ ys) n → Contains (x ∷ xs) n = λ n h. back n (subst (λ z. Contains (z ∷ ys) n) same h) in
    let above : All (λ z. x < z) ys = subst (λ w. All (λ z. w < z) ys) (sym same) q.0 in
    ap (λ z. z ∷ xs) same ∙ ap (λ l. y ∷ l) (one_rising xs ys p.1 q.1 (behind_first x xs ys p.0 there') (behind_first x ys xs above back'))

-- ---- the members

-- the number of each member is that of an entry's place
member_entry : (tracks : List Track) (entries : List Entry) (ms others : List Member) → AreMembers tracks entries ms → AreMembers tracks entries others → (n : ℕ)
    → Contains (map (λ m. number_of_place m.place) ms) n → Contains (map (λ m. number_of_place m.place) others) n
member_entry tracks entries ms others h g n among =
    let m = found_in (λ (m : Member). number_of_place m.place) ms n among in
    let place = All-contains (λ (x : Member). Contains (places_of_entries entries) x.place) ms m.item h.only m.among in
    let e = found_in (λ (x : Entry). x.place) entries m.item.place place in
    let other = found_in (λ (x : Member). x.place) others e.item.place (All-contains (λ (x : Entry). Contains (map (λ (o : Member). o.place) others) x.place) entries e.item g.named e.among) in
    subst (Contains (map (λ (x : Member). number_of_place x.place) others)) (ap number_of_place (other.is ∙ e.is) ∙ m.is) (contains_map (λ (x : Member). number_of_place x.place) others other.item other.among)

one_numbering : (tracks : List Track) (entries : List Entry) (ms others : List Member) → AreMembers tracks entries ms → AreMembers tracks entries others → map (λ m. number_of_place m.place) ms ≡ map (λ m. number_of_place m.place) others
one_numbering tracks entries ms others h g =
    let a : List ℕ = map (λ (m : Member). number_of_place m.place) ms in
    let b : List ℕ = map (λ (m : Member). number_of_place m.place) others in
    one_rising a b (rises a (AllPairs-from_increasing a h.ascending)) (rises b (AllPairs-from_increasing b g.ascending)) (member_entry tracks entries ms others h g) (member_entry tracks entries others ms g h)

-- a member's place is the one that its number says
record IsMember (tracks : List Track) (member : Member) : Type 0 where
  place_is : place_of_number (number_of_place member.place) ≡ member.place
  held : HoldsMember tracks member.place member.blocks

each_member : (tracks : List Track) (entries : List Entry) (ms : List Member) → All IsEntry entries → AreMembers tracks entries ms → AllByRecursion (IsMember tracks) ms
each_member tracks entries ms sound h =
    recursion_from_All (IsMember tracks) ms (All-weaker (Contains ms) (IsMember tracks)
    (λ m among.
    let e = found_in (λ (x : Entry). x.place) entries m.place (All-contains (λ (x : Member). Contains (places_of_entries entries) x.place) ms m h.only among) in
    record {
      place_is = subst (λ (p : Place). place_of_number (number_of_place p) ≡ p) e.is (place_back e.item.place (All-contains IsEntry entries e.item sound e.among).heading.place_fits);
      held = All-contains (λ (x : Member). HoldsMember tracks x.place x.blocks) ms m h.held among;
    })
    ms (All-contains_itself ms))

by_numbers : (tracks : List Track) (ms others : List Member) → AllByRecursion (IsMember tracks) ms → AllByRecursion (IsMember tracks) others → map (λ m. number_of_place m.place) ms ≡ map (λ m. number_of_place m.place) others → ms ≡ others
by_numbers tracks [] [] h g e = refl
by_numbers tracks [] (o ∷ os) h g e = absurd (omega (arith, ap length e))
by_numbers tracks (m ∷ ms) [] h g e = absurd (omega (arith, ap length e))
by_numbers tracks (m ∷ ms) (o ∷ os) h g e =
    let head : number_of_place m.place ≡ number_of_place o.place = cc in
    let tail : map (λ (x : Member). number_of_place x.place) ms ≡ map (λ (x : Member). number_of_place x.place) os = cc in
    let place : m.place ≡ o.place = sym h.0.place_is ∙ ap place_of_number head ∙ g.0.place_is in
    let blocks : m.blocks ≡ o.blocks = one_member tracks o.place m.blocks o.blocks (subst (λ (p : Place). HoldsMember tracks p m.blocks) place h.0.held) g.0.held in
    let first : m ≡ record { place = o.place; blocks = m.blocks } = ap (λ (p : Place). record { place = p; blocks = m.blocks }) place in
    let same : m ≡ o = first ∙ ap (λ (l : List Block). record { place = o.place; blocks = l }) blocks in
    ap (λ x. x ∷ ms) same ∙ ap (λ l. o ∷ l) (by_numbers tracks ms os h.1 g.1 tail)

pub one_members : (tracks : List Track) (entries : List Entry) (ms others : List Member) → All IsEntry entries → AreMembers tracks entries ms → AreMembers tracks entries others → ms ≡ others
one_members tracks entries ms others sound h g = by_numbers tracks ms others (each_member tracks entries ms sound h) (each_member tracks entries others sound g) (one_numbering tracks entries ms others h g)

-- ---- the directory

front_is : (tracks : List Track) (blocks other : List Block) (ended : Bool) → Hold (records_of tracks) blocks ended → HoldUpToEnd (records_of tracks) other → blocks ≡ other
front_is tracks blocks other true h g = one_content (records_of tracks) blocks other h g
front_is tracks blocks other false h g = absurd (no_end_held (records_of tracks) other g h.0)

ended_is : (tracks : List Track) (blocks other : List Block) (ended : Bool) → Hold (records_of tracks) blocks ended → HoldUpToEnd (records_of tracks) other → ended ≢ false
ended_is tracks blocks other true h g e = cc
ended_is tracks blocks other false h g e = no_end_held (records_of tracks) other g h.0

one_front : (tracks : List Track) (ended : Bool) (pages others : List Page) (behind : List Block) → HasFrontDirectory tracks ended others → HasDirectory tracks pages behind → others ≡ pages
one_front tracks ended pages others behind h g =
    let same = front_is tracks h.blocks (map page_block pages ++ behind) ended h.held g.held in
    one_directory (map page_block pages ++ behind) pages others g.directory (subst (λ (l : List Block). IsDirectory l others) same h.directory)

-- two of what can be moved hold the same blocks
pub one_movable : (tracks : List Track) (pages others : List Page) (behind rest : List Block) (ms ns : List Member) → IsMovable tracks pages behind ms → IsMovable tracks others rest ns → all_blocks others rest ns ≡ all_blocks pages behind ms
one_movable tracks pages others behind rest ms ns h g =
    let blocks = one_content (records_of tracks) (map page_block others ++ rest) (map page_block pages ++ behind) g.directory.held h.directory.held in
    let same : others ≡ pages =
    one_directory (map page_block pages ++ behind) pages others h.directory.directory (subst (λ (l : List Block). IsDirectory l others) blocks g.directory.directory) in
    let members : ns ≡ ms = one_members tracks (entries_of pages) ns ms (entries_sound (map page_block pages ++ behind) pages h.directory.directory) (subst (λ (l : List Page). AreMembers tracks (entries_of l) ns) same g.members_are) h.members_are in
    ap (λ l. l ++ end_of_file ∷ members_blocks ns) blocks ∙ ap (λ (l : List Member). (map page_block pages ++ behind) ++ end_of_file ∷ members_blocks l) members

-- ---- no cause stands against a refit

named_all : (tracks : List Track) (entries : List Entry) (ms : List Member) → AreMembers tracks entries ms → All (λ entry. NamesOne tracks entry.place) entries
named_all tracks entries ms h =
    All-weaker (Contains entries) (λ (entry : Entry). NamesOne tracks entry.place)
    (λ entry among.
    let m = found_in (λ (x : Member). x.place) ms entry.place (All-contains (λ (x : Entry). Contains (map (λ (o : Member). o.place) ms) x.place) entries entry h.named among) in
    let held = All-contains (λ (x : Member). HoldsMember tracks x.place x.blocks) ms m.item h.held m.among in
    subst (NamesOne tracks) m.is (record { recs = held.recs; names = held.names }))
    entries (All-contains_itself entries)

not_endless : (tracks : List Track) (entries : List Entry) (ms : List Member) (entry : Entry) → AreMembers tracks entries ms → Contains entries entry → ¬ IsEndless tracks entry.place
not_endless tracks entries ms entry h among endless =
    let m = found_in (λ (x : Member). x.place) ms entry.place (All-contains (λ (x : Entry). Contains (map (λ (o : Member). o.place) ms) x.place) entries entry h.named among) in
    let held = subst (λ (p : Place). HoldsMember tracks p m.item.blocks) m.is (All-contains (λ (x : Member). HoldsMember tracks x.place x.blocks) ms m.item h.held m.among) in
    no_end_held endless.recs m.item.blocks (subst (λ (l : List Rec). HoldUpToEnd l m.item.blocks) (one_named tracks entry.place held.recs endless.recs held.names endless.names) held.held) endless.none

-- the blocks as they stand fit tracks as those of the refit do
pub old_fit : (device : Device) (tracks : List Track) (refit : Refit) → (h : IsPartitionedRefit device tracks refit) → All (FitsAlone device) (all_blocks h.pages h.behind h.members)
old_fit device tracks refit h =
    let old = all_blocks h.pages h.behind h.members in
    let new = all_blocks (map (moved_page h.move) h.pages) h.behind h.members in
    let sizes = moved_sizes h.move h.pages old (h.behind ++ end_of_file ∷ members_blocks h.members) (append_assoc (map page_block h.pages) h.behind (end_of_file ∷ members_blocks h.members))
    ∙ ap (map size_of) (all_moved h.move h.pages h.behind h.members) in
    all_by_sizes (FitsAlone device) (fit_by_size device) new old (sym sizes) (All-from_recursion (FitsAlone device) new (grouped_alone device new h.packed.groups h.packed.grouped))

pub some_blocks : (pages : List Page) (behind : List Block) (ms : List Member) → 1 ≤ length (all_blocks pages behind ms)
some_blocks pages behind ms = omega (arith, length-append (map page_block pages ++ behind) (end_of_file ∷ members_blocks ms))

few_old : (device : Device) (tracks : List Track) (refit : Refit) → (h : IsPartitionedRefit device tracks refit) → length refit.tracks ≤ 65535 → ¬ TakeTooMany device (all_blocks h.pages h.behind h.members)
few_old device tracks refit h few many =
    let old = all_blocks h.pages h.behind h.members in
    let new = all_blocks (map (moved_page h.move) h.pages) h.behind h.members in
    let sizes = moved_sizes h.move h.pages old (h.behind ++ end_of_file ∷ members_blocks h.members) (append_assoc (map page_block h.pages) h.behind (end_of_file ∷ members_blocks h.members))
    ∙ ap (map size_of) (all_moved h.move h.pages h.behind h.members) in
    let fit = All-from_recursion (FitsAlone device) new (grouped_alone device new h.packed.groups h.packed.grouped) in
    let a = one_grouping device old many.groups (groups_of (filling_of device old)) (some_blocks h.pages h.behind h.members) many.grouped (grouped device old (old_fit device tracks refit h)) in
    let b = one_grouping device new h.packed.groups (groups_of (filling_of device new)) (some_blocks (map (moved_page h.move) h.pages) h.behind h.members) h.packed.grouped (grouped device new fit) in
    omega (arith, many.many, few, ap length a, ap length b, same_count device old new sizes, ap length h.packed.tracks_are, length-map h.packed.groups track_of)

pub no_fault : (tracks : List Track) (pages : List Page) (behind : List Block) (members : List Member) (cause : Why) → IsMovable tracks pages behind members → ¬ HasFault tracks cause
no_fault tracks pages behind members whys.Org h cause = cause
no_fault tracks pages behind members whys.Long h cause = cause
no_fault tracks pages behind members whys.UserTtrs h cause =
    let front = front_is tracks cause.blocks (map page_block pages ++ behind) cause.front.ended cause.front.held h.directory.held in
    no_user (map page_block pages ++ behind) pages h.directory.directory h.plain (subst HasUserPlaces front cause.user)
no_fault tracks pages behind members whys.Directory h (inl cause) =
    let front = front_is tracks cause.blocks (map page_block pages ++ behind) cause.front.ended cause.front.held h.directory.held in
    not_broken (map page_block pages ++ behind) pages cause.entries h.directory.directory (subst (λ (l : List Block). IsBrokenAfter l cause.entries) front cause.broken)
no_fault tracks pages behind members whys.Directory h (inr cause) =
    let same = one_front tracks cause.ended pages cause.pages behind cause.directory h.directory in
    cause.lost (subst (λ (l : List Page). All (λ (entry : Entry). NamesOne tracks entry.place) (entries_of l)) (sym same) (named_all tracks (entries_of pages) members h.members_are))
no_fault tracks pages behind members whys.NoEnd h cause =
    let same = one_front tracks cause.ended pages cause.pages behind cause.directory h.directory in
    elim cause.endless [
      | inl e ↦ ended_is tracks cause.directory.blocks (map page_block pages ++ behind) cause.ended cause.directory.held h.directory.held e
      | inr e ↦ not_endless tracks (entries_of pages) members e.0 h.members_are (subst (λ (l : List Page). Contains (entries_of l) e.0) same e.1) e.2
    ]

no_cause : (device : Device) (tracks : List Track) (refit : Refit) (cause : Why) → IsPartitionedRefit device tracks refit → length refit.tracks ≤ 65535 → ¬ StandsAgainst device tracks cause
no_cause device tracks refit whys.Org h few cause = cause
no_cause device tracks refit whys.UserTtrs h few cause = no_fault tracks h.pages h.behind h.members whys.UserTtrs h.movable cause
no_cause device tracks refit whys.Directory h few cause = no_fault tracks h.pages h.behind h.members whys.Directory h.movable cause
no_cause device tracks refit whys.NoEnd h few cause = no_fault tracks h.pages h.behind h.members whys.NoEnd h.movable cause
no_cause device tracks refit whys.Long h few cause =
    let same = one_movable tracks h.pages cause.pages h.behind cause.behind h.members cause.members h.movable cause.movable in
    few_old device tracks refit h few (subst (TakeTooMany device) same cause.many)

pub only_memory : (device : Device) (tracks : List Track) (e : RelocFault) → IsPartitionedRefusal device tracks e → (refit : Refit) → IsPartitionedRefit device tracks refit → length refit.tracks ≤ 65535 → e ≡ NoMemory
only_memory device tracks NoMemory refused refit h few = refl
only_memory device tracks (NotRelocatable why) refused refit h few = absurd (no_cause device tracks refit refused.0 h few refused.2)
only_memory device tracks (BlockTooLong len largest) refused refit h few =
    let same = one_movable tracks h.pages refused.pages h.behind refused.behind h.members refused.members h.movable refused.movable in
    let first = subst (λ (l : List Block). IsFirstTooLong device l len largest) same refused.first in
    absurd (first.too_long (All_middle (FitsAlone device) first.before first.block first.behind (subst (All (FitsAlone device)) first.spelled (old_fit device tracks refit h))))
