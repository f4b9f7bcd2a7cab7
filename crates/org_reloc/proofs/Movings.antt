-- New places in a directory.
use Rattle.std.proofs.Common.{◌≡◌, ◌≢◌, ℕ, zero, suc, ◌+◌, ◌<◌, ◌≤◌, List, [], ◌∷◌, ◌++◌, length, take, drop, map, get_or, set, Result, Ok, Err, inl, inr, refl, sym, ap, subst, ◌∙◌, arith, append_assoc, length-append}
use Rattle.std.specs.List.{AllPairs}
use Rattle.std.specs.List.Sorted.{IsStrictlyIncreasing, IsBinarySearchResult}
use Rattle.std.proofs.lemmas.Bool.Decides.{nat_tests}
use Rattle.std.proofs.lemmas.List.{map_more, drop_more, length-map, length-take-le, set_at}
use Rattle.std.proofs.lemmas.List.Sorted.{searched}
use Rattle.std.proofs.lemmas.Bool.{cases_lt}
use Rattle.std.specs.Ordering.{nat_cmp}
use Rattle.std.proofs.lemmas.List.Kept.{AllPairs-from_increasing}
use Rattle.org_reloc.specs.declared.block.Block.{Block}
use Rattle.org_reloc.specs.declared.entry.Entry.{Entry}
use Rattle.org_reloc.specs.declared.directory.Page.{Page}
use Rattle.org_reloc.specs.declared.place.Place.{Place}
use Rattle.org_reloc.specs.Directory.{heading_text, heading_of, entry_text, entries_text, page_body, page_block}
use Rattle.org_reloc.specs.Place.{place_text}
use Rattle.org_reloc.specs.Member.{number_of_place}
use Rattle.org_reloc.specs.Moved.{moved_to}
use Rattle.org_reloc.specs.Packing.{size_of}
use Rattle.org_reloc.specs.Partitioned.{moved_entry, moved_page}

-- ---- the new place of a member

here_moved : (n : ℕ) (ns : List ℕ) (q : Place) (qs : List Place) (place : Place) → n ≡ number_of_place place → moved_to (n ∷ ns) (q ∷ qs) place ≡ q
here_moved n ns q qs place e = grind (arith, nat_tests)

other_moved : (n : ℕ) (ns : List ℕ) (q : Place) (qs : List Place) (place : Place) → n ≢ number_of_place place → moved_to (n ∷ ns) (q ∷ qs) place ≡ moved_to ns qs place
other_moved n ns q qs place apart = grind (arith, nat_tests)

by_pairs : (numbers : List ℕ) (news : List Place) (place : Place) (i : ℕ) (d : Place) → AllPairs (λ x y. x < y) numbers → length news ≡ length numbers → i < length numbers → get_or numbers i 0 ≡ number_of_place place
    → moved_to numbers news place ≡ get_or news i d
by_pairs [] news place i d pairs count lt here = absurd (omega (arith, lt))
by_pairs (n ∷ ns) [] place i d pairs count lt here = absurd (omega (arith, count))
by_pairs (n ∷ ns) (q ∷ qs) place zero d pairs count lt here = here_moved n ns q qs place here
by_pairs (n ∷ ns) (q ∷ qs) place (suc j) d pairs count lt here =
    let below : n < get_or ns j 0 = pairs 0 (suc j) 0 (omega arith) lt in
    let rest : AllPairs (λ x y. x < y) ns = λ a b e p r. pairs (suc a) (suc b) e (omega (arith, p)) (omega (arith, r)) in
    other_moved n ns q qs place (λ e. omega (arith, e, here, below)) ∙ by_pairs ns qs place j d rest (omega (arith, count)) (omega (arith, lt)) here

pub moved_at : (numbers : List ℕ) (news : List Place) (place : Place) (i : ℕ) (d : Place) → IsStrictlyIncreasing numbers → length news ≡ length numbers → i < length numbers → get_or numbers i 0 ≡ number_of_place place
    → moved_to numbers news place ≡ get_or news i d
moved_at numbers news place i d ascending count lt here = by_pairs numbers news place i d (AllPairs-from_increasing numbers ascending) count lt here

pub moved_none : (numbers : List ℕ) (news : List Place) (place : Place) → ((k : ℕ) → k < length numbers → get_or numbers k 0 ≢ number_of_place place) → moved_to numbers news place ≡ place
moved_none [] news place none = refl
moved_none (n ∷ ns) [] place none = refl
moved_none (n ∷ ns) (q ∷ qs) place none =
    other_moved n ns q qs place (none 0 (omega arith)) ∙ moved_none ns qs place (λ k lt. none (suc k) (omega (arith, lt)))

-- ---- a block is as long with new places

length-moved_entry : (move : Place → Place) (entry : Entry) → length (entry_text (moved_entry move entry)) ≡ length (entry_text entry)
length-moved_entry move entry =
    let place = move entry.place in
    omega (
      arith,
      length-append (heading_text (heading_of (moved_entry move entry))) entry.«data»,
      length-append (heading_text (heading_of entry)) entry.«data»,
      length-append entry.name (place_text place.track place.number ++ entry.kind ∷ []),
      length-append entry.name (place_text entry.place.track entry.place.number ++ entry.kind ∷ []),
    )

pub length-moved_entries : (move : Place → Place) (entries : List Entry) → length (entries_text (map (moved_entry move) entries)) ≡ length (entries_text entries)
length-moved_entries move [] = refl
length-moved_entries move (entry ∷ more) =
    omega (
      arith,
      length-moved_entry move entry,
      length-moved_entries move more,
      length-append (entry_text (moved_entry move entry)) (entries_text (map (moved_entry move) more)),
      length-append (entry_text entry) (entries_text more),
    )

pub size_moved : (move : Place → Place) (page : Page) → size_of (page_block (moved_page move page)) ≡ size_of (page_block page)
size_moved move page =
    let body : length (page_body (moved_page move page)) ≡ length (page_body page) =
    omega (
      arith,
      length-moved_entries move page.entries,
      length-append (entries_text (map (moved_entry move) page.entries)) (page.left ++ page.filler),
      length-append (entries_text page.entries) (page.left ++ page.filler),
    )
    in
    ap (λ (n : ℕ). (length page.key, n)) body

-- ---- a search for a place

rising : (numbers : List ℕ) → IsStrictlyIncreasing numbers → (i j : ℕ) → i ≤ j → j < length numbers → get_or numbers i 0 ≤ get_or numbers j 0
rising numbers ascending i j le lt =
    elim (cases_lt i j) [
      | inl below ↦ let h = AllPairs-from_increasing numbers ascending i j 0 below lt in omega (arith, h)
      | inr above ↦ let same : i ≡ j = omega (arith, le, above) in subst (λ k. get_or numbers i 0 ≤ get_or numbers k 0) same (omega arith)
    ]

pub place_found : (numbers : List ℕ) (news : List Place) (place : Place) (x i : ℕ) (r : Result ℕ ℕ) (d : Place) → IsBinarySearchResult (λ y. nat_cmp y x) numbers r → r ≡ Ok i → x ≡ number_of_place place
    → IsStrictlyIncreasing numbers → length news ≡ length numbers → get_or news i d ≡ moved_to numbers news place
place_found numbers news place x i r d position is e ascending count =
    let h = rw is at (searched numbers x r position (rising numbers ascending)) in
    sym (moved_at numbers news place i d ascending count h.0 (h.1 ∙ e))

pub place_missing : (numbers : List ℕ) (news : List Place) (place : Place) (x i : ℕ) (r : Result ℕ ℕ) → IsBinarySearchResult (λ y. nat_cmp y x) numbers r → r ≡ Err i → x ≡ number_of_place place
    → IsStrictlyIncreasing numbers → place ≡ moved_to numbers news place
place_missing numbers news place x i r position is e ascending =
    let h = rw is at (searched numbers x r position (rising numbers ascending)) in
    sym (moved_none numbers news place (λ k lt same. elim (cases_lt k i) [
      | inl below ↦ let low = h.1 k below in omega (arith, low, same, e)
      | inr above ↦ let high = h.2 k above lt in omega (arith, high, same, e)
    ]))

-- ---- one more block with new places

pub block_moved : (g : Page → Block) (pages : List Page) (old blocks new : List Block) (i : ℕ) (page : Page) (block : Block) → i < length pages → page ≡ get_or pages i page → length pages ≤ length old
    → blocks ≡ map g (take i pages) ++ drop i old → block ≡ g page → new ≡ set blocks i block → new ≡ map g (take (i + 1) pages) ++ drop (i + 1) old
block_moved g pages old blocks new i page block lt is room h e put =
    let count : length (map g (take i pages)) ≡ i = length-map (take i pages) g ∙ length-take-le i pages (omega (arith, lt)) in
    let next : blocks ≡ map g (take i pages) ++ get_or old i block ∷ drop (i + 1) old = h ∙ ap (λ l. map g (take i pages) ++ l) (drop_more old i block (omega (arith, lt, room))) in
    let more : map g (take (i + 1) pages) ≡ map g (take i pages) ++ block ∷ [] = map_more g pages i page lt ∙ ap (λ b. map g (take i pages) ++ b ∷ []) (ap g (sym is) ∙ sym e) in
    put ∙ ap (λ l. set l i block) next ∙ set_at (map g (take i pages)) (get_or old i block) (drop (i + 1) old) block i count
    ∙ sym (append_assoc (map g (take i pages)) (block ∷ []) (drop (i + 1) old)) ∙ ap (λ l. l ++ drop (i + 1) old) (sym more)
