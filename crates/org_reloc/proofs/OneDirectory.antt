-- Blocks are one directory at most, and none where they have a fault.
use Rattle.std.proofs.Common.{◌≡◌, ◌≢◌, ◌⊎◌, inl, inr, ℕ, ◌/◌, ◌%◌, ◌<◌, ◌≤◌, List, [], ◌∷◌, ◌++◌, length, map, All, refl, sym, ap, subst, ◌∙◌, arith, append_assoc, length-append}
use Rattle.std.specs.List.{AllByRecursion}
use Rattle.std.proofs.lemmas.List.{append-nil, map-append}
use Rattle.std.proofs.lemmas.List.Concat.{flat_map-append}
use Rattle.std.proofs.lemmas.List.Elements.{recursion_from_All, All-from_recursion}
use Rattle.ckd_image.specs.Bytes.{Begins}
use Rattle.ckd_image.proofs.OneText.{split_same}
use Rattle.ckd_image.proofs.Texts.{SelfDelimiting, texts_split}
use Rattle.org_reloc.specs.declared.block.Block.{Block}
use Rattle.org_reloc.specs.declared.entry.Entry.{Entry}
use Rattle.org_reloc.specs.declared.directory.Page.{Page}
use Rattle.org_reloc.specs.Directory.{heading_text, heading_of, entry_text, entries_text, last_text, IsEntry, IsPlain, IsShaped, IsPage, IsFullPage, IsLastPage, page_body, page_block, entries_of, IsDirectory, IsBrokenAfter, HasUserPlaces}
use Rattle.org_reloc.proofs.Entries.{same_two, length-heading, entry_text-injective}
use Rattle.org_reloc.proofs.Runs.{All_front, All_back, All_middle}

-- ---- entries

-- no entry comes
abbrev Stops : List ℕ → Type 0
Stops left = (entry : Entry) → IsEntry entry → ¬ Begins (entry_text entry) left

length-entry : (entry : Entry) → IsEntry entry → 12 ≤ length (entry_text entry)
length-entry entry h = omega (arith, length-heading (heading_of entry) h.heading, length-append (heading_text (heading_of entry)) entry.«data»)

stops_nil : (left : List ℕ) → left ≡ [] → Stops left
stops_nil left none entry h (rest, e) = omega (arith, length-entry entry h, ap length none, ap length e, length-append (entry_text entry) rest)

stops_last : (left : List ℕ) → Begins last_text left → Stops left
stops_last left (behind, last) entry h (rest, e) =
    let parted : last_text ++ behind ≡ heading_text (heading_of entry) ++ (entry.«data» ++ rest) = sym last ∙ e ∙ append_assoc (heading_text (heading_of entry)) entry.«data» rest in
    let same = split_same last_text (heading_text (heading_of entry)) behind (entry.«data» ++ rest) (sym (length-heading (heading_of entry) h.heading)) parted in
    h.goes_on (entry.«data», ap (λ l. l ++ entry.«data») (sym same.0))

apart : SelfDelimiting entry_text IsEntry
apart = record { apart = λ a b x y p q e. entry_text-injective a b x y p.heading q.heading p.data_fits q.data_fits e }

one_text : (xs ys : List Entry) (x y : List ℕ) → All IsEntry xs → All IsEntry ys → Stops x → Stops y → entries_text xs ++ x ≡ entries_text ys ++ y → (xs ≡ ys) × (x ≡ y)
one_text xs ys x y p q s t e = texts_split entry_text IsEntry Stops apart (λ a left h stops. stops a h (left, refl)) xs ys x y p q s t e

-- an entry that comes is one of those that are read where the entries are read on
comes_among : (P : Entry → Type 0) (xs ys : List Entry) (entry : Entry) (rest left : List ℕ) → AllByRecursion IsEntry xs → AllByRecursion IsEntry ys → IsEntry entry → Stops left → AllByRecursion P ys
    → entries_text xs ++ (entry_text entry ++ rest) ≡ entries_text ys ++ left → P entry
comes_among P [] [] entry rest left p q h stops each e = absurd (stops entry h (rest, sym e))
comes_among P [] (y ∷ ys) entry rest left p q h stops each e =
    let same = apart.apart entry y rest (entries_text ys ++ left) h q.0 (e ∙ append_assoc (entry_text y) (entries_text ys) left) in
    subst P (sym same.0) each.0
comes_among P (x ∷ xs) [] entry rest left p q h stops each e =
    absurd (stops x p.0 (entries_text xs ++ (entry_text entry ++ rest), sym e ∙ append_assoc (entry_text x) (entries_text xs) (entry_text entry ++ rest)))
comes_among P (x ∷ xs) (y ∷ ys) entry rest left p q h stops each e =
    let same = apart.apart x y (entries_text xs ++ (entry_text entry ++ rest)) (entries_text ys ++ left) p.0 q.0
    (sym (append_assoc (entry_text x) (entries_text xs) (entry_text entry ++ rest)) ∙ e ∙ append_assoc (entry_text y) (entries_text ys) left) in
    comes_among P xs ys entry rest left p.1 q.1 h stops each.1 same.1

-- ---- a block

-- what two readings of a block share
record SameParts (p q : Page) : Type 0 where
  key : p.key ≡ q.key
  used : p.used ≡ q.used
  bytes : entries_text p.entries ++ p.left ≡ entries_text q.entries ++ q.left
  filler : p.filler ≡ q.filler

small : (p : Page) → IsPage p → p.used < 65536
small p h = omega (arith, h.used_is, h.shape.body, length-append (entries_text p.entries) (p.left ++ p.filler), length-append p.left p.filler)

same_parts : (p q : Page) → IsPage p → IsPage q → page_block p ≡ page_block q → SameParts p q
same_parts p q h g e =
    let body : page_body p ≡ page_body q = ap (λ (b : Block). b.body) e in
    let high : p.used / 256 % 256 ≡ q.used / 256 % 256 = cc in
    let low : p.used % 256 ≡ q.used % 256 = cc in
    let rest : entries_text p.entries ++ (p.left ++ p.filler) ≡ entries_text q.entries ++ (q.left ++ q.filler) = cc in
    let used = same_two p.used q.used (small p h) (small q g) high low in
    let both = split_same (entries_text p.entries ++ p.left) (entries_text q.entries ++ q.left) p.filler q.filler
    (omega (arith, used, h.used_is, g.used_is, length-append (entries_text p.entries) p.left, length-append (entries_text q.entries) q.left))
    (append_assoc (entries_text p.entries) p.left p.filler ∙ rest ∙ sym (append_assoc (entries_text q.entries) q.left q.filler)) in
    record { key = ap (λ (b : Block). b.key) e; used = used; bytes = both.0; filler = both.1 }

same_page : (p q : Page) → p.key ≡ q.key → p.used ≡ q.used → p.entries ≡ q.entries → p.left ≡ q.left → p.filler ≡ q.filler → p ≡ q
same_page p q a b c d e =
    let one : p ≡ record { key = q.key; used = p.used; entries = p.entries; left = p.left; filler = p.filler } = ap (λ (k : List ℕ). record { key = k; used = p.used; entries = p.entries; left = p.left; filler = p.filler }) a in
    let two : record { key = q.key; used = p.used; entries = p.entries; left = p.left; filler = p.filler } ≡ record { key = q.key; used = q.used; entries = p.entries; left = p.left; filler = p.filler } = ap (λ (k : ℕ). record { key = q.key; used = k; entries = p.entries; left = p.left; filler = p.filler }) b in
    let three : record { key = q.key; used = q.used; entries = p.entries; left = p.left; filler = p.filler } ≡ record { key = q.key; used = q.used; entries = q.entries; left = p.left; filler = p.filler } = ap (λ (k : List Entry). record { key = q.key; used = q.used; entries = k; left = p.left; filler = p.filler }) c in
    let four : record { key = q.key; used = q.used; entries = q.entries; left = p.left; filler = p.filler } ≡ record { key = q.key; used = q.used; entries = q.entries; left = q.left; filler = p.filler } = ap (λ (k : List ℕ). record { key = q.key; used = q.used; entries = q.entries; left = k; filler = p.filler }) d in
    one ∙ two ∙ three ∙ four ∙ ap (λ (k : List ℕ). record { key = q.key; used = q.used; entries = q.entries; left = q.left; filler = k }) e

one_page : (p q : Page) → IsPage p → IsPage q → Stops p.left → Stops q.left → page_block p ≡ page_block q → p ≡ q
one_page p q h g s t e =
    let parts = same_parts p q h g e in
    let read = one_text p.entries q.entries p.left q.left h.entries g.entries s t parts.bytes in
    same_page p q parts.key parts.used read.0 read.1 parts.filler

-- ---- pages up to the one with the last entry

-- a page that ends in no entry
record Ended (page : Page) : Type 0 where
  sound : IsPage page
  stops : Stops page.left

full_ended : (page : Page) → IsFullPage page → Ended page
full_ended page h = record { sound = h.sound; stops = stops_nil page.left h.nothing_left }

last_ended : (page : Page) → IsLastPage page → Ended page
last_ended page h = record { sound = h.sound; stops = stops_last page.left h.ends }

not_full : (p q : Page) → IsFullPage p → IsLastPage q → p ≢ q
not_full p q h g e = omega (arith, ap length h.nothing_left, ap (λ (x : Page). length x.left) e, ap length g.ends.1, length-append last_text g.ends.0)

-- full pages stand in front of the last one
record Beyond (front before : List Page) (last : Page) (rest behind : List Block) : Type 0 where
  more : List Page
  before_is : before ≡ front ++ more
  rest_is : rest ≡ map page_block (more ++ last ∷ []) ++ behind

beyond : (front before : List Page) (last : Page) (rest behind : List Block) → AllByRecursion IsFullPage front → AllByRecursion IsFullPage before → IsLastPage last
    → map page_block front ++ rest ≡ map page_block (before ++ last ∷ []) ++ behind → Beyond front before last rest behind
beyond [] before last rest behind f b l e = record { more = before; before_is = refl; rest_is = e }
beyond (a ∷ front) [] last rest behind f b l e =
    let head : page_block a ≡ page_block last = cc in
    absurd (not_full a last f.0 l (one_page a last f.0.sound l.sound (full_ended a f.0).stops (last_ended last l).stops head))
beyond (a ∷ front) (c ∷ before) last rest behind f b l e =
    let head : page_block a ≡ page_block c = cc in
    let tail : map page_block front ++ rest ≡ map page_block (before ++ last ∷ []) ++ behind = cc in
    let same = one_page a c f.0.sound b.0.sound (full_ended a f.0).stops (full_ended c b.0).stops head in
    let h = beyond front before last rest behind f.1 b.1 l tail in
    record { more = h.more; before_is = ap (λ l. c ∷ l) h.before_is ∙ ap (λ p. p ∷ (front ++ h.more)) (sym same); rest_is = h.rest_is }

-- the page that comes next
record Next (pages : List Page) (rest : List Block) (block : Block) : Type 0 where
  page : Page
  ended : Ended page
  kind : (page.left ≡ []) ⊎ Begins last_text page.left
  block_is : block ≡ page_block page
  ahead : List Page
  later : List Page
  whole : pages ≡ ahead ++ page ∷ later

next_of : (front more : List Page) (last : Page) (block : Block) (rest behind : List Block) (pages : List Page) → AllByRecursion IsFullPage more → IsLastPage last → pages ≡ (front ++ more) ++ last ∷ []
    → block ∷ rest ≡ map page_block (more ++ last ∷ []) ++ behind → Next pages rest block
next_of front [] last block rest behind pages b l whole e = record {
  page = last;
  ended = last_ended last l;
  kind = inr l.ends;
  block_is = let head : block ≡ page_block last = cc in head;
  ahead = front ++ [];
  later = [];
  whole = whole;
}
next_of front (c ∷ more) last block rest behind pages b l whole e = record {
  page = c;
  ended = full_ended c b.0;
  kind = inl b.0.nothing_left;
  block_is = let head : block ≡ page_block c = cc in head;
  ahead = front;
  later = more ++ last ∷ [];
  whole = whole ∙ append_assoc front (c ∷ more) (last ∷ []);
}

behind_full : (xs ys : List Page) → AllByRecursion IsFullPage (xs ++ ys) → AllByRecursion IsFullPage ys
behind_full [] ys each = each
behind_full (x ∷ xs) ys each = behind_full xs ys each.1

full_by : (pages : List Page) → All IsFullPage pages → AllByRecursion IsFullPage pages
full_by pages each = recursion_from_All IsFullPage pages each

-- where full pages stand in front, what follows is a page of the directory
past : (blocks : List Block) (pages : List Page) (h : IsDirectory blocks pages) (front : List Page) (rest : List Block) → blocks ≡ map page_block front ++ rest → All IsFullPage front → Beyond front h.before h.last rest h.behind
past blocks pages h front rest e full =
    beyond front h.before h.last rest h.behind (full_by front full) (full_by h.before h.full) h.ends (sym e ∙ h.blocks_are ∙ ap (λ (l : List Page). map page_block l ++ h.behind) h.pages_are)

next : (blocks : List Block) (pages : List Page) → IsDirectory blocks pages → (front : List Page) (block : Block) (rest : List Block) → blocks ≡ map page_block front ++ block ∷ rest → All IsFullPage front → Next pages rest block
next blocks pages h front block rest e full =
    let b = past blocks pages h front (block ∷ rest) e full in
    next_of front b.more h.last block rest h.behind pages (behind_full front b.more (subst (AllByRecursion IsFullPage) b.before_is (full_by h.before h.full))) h.ends (h.pages_are ∙ ap (λ l. l ++ h.last ∷ []) b.before_is) b.rest_is

none_left : (more : List Page) (last : Page) (behind : List Block) → ¬ ([] ≡ map page_block (more ++ last ∷ []) ++ behind)
none_left [] last behind e = omega (arith, ap length e)
none_left (c ∷ more) last behind e = omega (arith, ap length e)

-- two last pages behind full ones are one
last_same : (front more : List Page) (a b : Page) (rest behind : List Block) (before : List Page) → IsLastPage a → IsLastPage b → AllByRecursion IsFullPage before → before ≡ front ++ more
    → page_block a ∷ rest ≡ map page_block (more ++ b ∷ []) ++ behind → (front ++ a ∷ [] ≡ before ++ b ∷ []) × (rest ≡ behind)
last_same front [] a b rest behind before p q full before_is e =
    let head : page_block a ≡ page_block b = cc in
    let tail : rest ≡ behind = cc in
    let same = one_page a b p.sound q.sound (last_ended a p).stops (last_ended b q).stops head in
    (ap (λ x. front ++ x ∷ []) same ∙ ap (λ l. l ++ b ∷ []) (sym (append-nil front) ∙ sym before_is), tail)
last_same front (c ∷ more) a b rest behind before p q full before_is e =
    let head : page_block a ≡ page_block c = cc in
    let c_full = (behind_full front (c ∷ more) (subst (AllByRecursion IsFullPage) before_is full)).0 in
    absurd (not_full c a c_full p (sym (one_page a c p.sound c_full.sound (last_ended a p).stops (full_ended c c_full).stops head)))

-- ---- faults

plain_pages : (pages : List Page) → All IsPlain (entries_of pages) → AllByRecursion (λ page. AllByRecursion IsPlain page.entries) pages
plain_pages [] each = tt
plain_pages (page ∷ more) each = (recursion_from_All IsPlain page.entries (All_front IsPlain page.entries (entries_of more) each), plain_pages more (All_back IsPlain page.entries (entries_of more) each))

pub no_user : (blocks : List Block) (pages : List Page) → IsDirectory blocks pages → All IsPlain (entries_of pages) → ¬ HasUserPlaces blocks
no_user blocks pages h plain u =
    let n = next blocks pages h u.before (page_block u.here) u.behind u.blocks_are u.full in
    let parts = same_parts u.here n.page u.sound n.ended.sound n.block_is in
    let all : All (λ (page : Page). AllByRecursion IsPlain page.entries) pages = All-from_recursion (λ (page : Page). AllByRecursion IsPlain page.entries) pages (plain_pages pages plain) in
    let each = All_middle (λ (page : Page). AllByRecursion IsPlain page.entries) n.ahead n.page n.later (subst (All (λ (page : Page). AllByRecursion IsPlain page.entries)) n.whole all) in
    u.places (comes_among IsPlain u.here.entries n.page.entries u.entry u.next.0 n.page.left (recursion_from_All IsEntry u.here.entries u.sound.entries) (recursion_from_All IsEntry n.page.entries n.ended.sound.entries)
    u.entry_sound n.ended.stops each (ap (λ l. entries_text u.here.entries ++ l) (sym u.next.1) ∙ parts.bytes))

pub not_broken : (blocks : List Block) (pages : List Page) (entries : List Entry) → IsDirectory blocks pages → ¬ IsBrokenAfter blocks entries
not_broken blocks pages entries h (inl b) =
    let n = next blocks pages h b.before (page_block b.here) b.behind b.blocks_are b.full in
    let same = one_page b.here n.page b.sound n.ended.sound b.broken.none n.ended.stops n.block_is in
    elim n.kind [
      | inl none ↦ b.broken.some (ap (λ (p : Page). p.left) same ∙ none)
      | inr last ↦ b.broken.not_last (last.0, ap (λ (p : Page). p.left) same ∙ last.1)
    ]
not_broken blocks pages entries h (inr (inl b)) =
    let n = next blocks pages h b.before b.block b.behind b.blocks_are b.full in
    b.broken n.page n.ended.sound n.block_is
not_broken blocks pages entries h (inr (inr (inl b))) =
    let p = past blocks pages h b.pages [] (b.blocks_are ∙ sym (append-nil (map page_block b.pages))) b.full in
    none_left p.more h.last h.behind p.rest_is
not_broken blocks pages entries h (inr (inr (inr b))) =
    let split : blocks ≡ map page_block b.before ++ page_block b.last ∷ b.behind =
    b.blocks_are ∙ ap (λ l. l ++ b.behind) (map-append page_block b.before (b.last ∷ [])) ∙ append_assoc (map page_block b.before) (page_block b.last ∷ []) b.behind in
    let p = past blocks pages h b.before (page_block b.last ∷ b.behind) split b.full in
    b.broken (subst (All IsShaped) (sym (last_same b.before p.more b.last h.last b.behind h.behind h.before b.ends h.ends (full_by h.before h.full) p.before_is p.rest_is).1) h.shaped)

-- pages that are read to where no entry comes, and whose entries have no places but their own
record ReadPlain (page : Page) : Type 0 where
  ended : Ended page
  plain : AllByRecursion IsPlain page.entries

-- these pages are full, and one more is behind them
record AllFull (pages : List Page) (rest : List Block) : Type 0 where
  full : AllByRecursion IsFullPage pages
  page : Page
  sound : IsPage page
  behind : List Block
  rest_is : rest ≡ page_block page ∷ behind

-- an entry with places of its own stands behind all of them
user_past : (front pages : List Page) (here : Page) (behind rest : List Block) (entry : Entry) → AllByRecursion IsFullPage front → IsPage here → IsEntry entry → Begins (entry_text entry) here.left → ¬ IsPlain entry
    → AllByRecursion ReadPlain pages → map page_block front ++ page_block here ∷ behind ≡ map page_block pages ++ rest → AllFull pages rest
user_past [] [] here behind rest entry f s sound comes user each e = record { full = tt; page = here; sound = s; behind = behind; rest_is = sym e }
user_past [] (p ∷ pages) here behind rest entry f s sound comes user each e =
    let head : page_block here ≡ page_block p = cc in
    let parts = same_parts here p s each.0.ended.sound head in
    absurd (user (comes_among IsPlain here.entries p.entries entry comes.0 p.left (recursion_from_All IsEntry here.entries s.entries) (recursion_from_All IsEntry p.entries each.0.ended.sound.entries)
    sound each.0.ended.stops each.0.plain (ap (λ l. entries_text here.entries ++ l) (sym comes.1) ∙ parts.bytes)))
user_past (a ∷ front) [] here behind rest entry f s sound comes user each e = record { full = tt; page = a; sound = f.0.sound; behind = map page_block front ++ page_block here ∷ behind; rest_is = sym e }
user_past (a ∷ front) (p ∷ pages) here behind rest entry f s sound comes user each e =
    let head : page_block a ≡ page_block p = cc in
    let tail : map page_block front ++ page_block here ∷ behind ≡ map page_block pages ++ rest = cc in
    let same = one_page a p f.0.sound each.0.ended.sound (full_ended a f.0).stops each.0.ended.stops head in
    let h = user_past front pages here behind rest entry f.1 s sound comes user each.1 tail in
    record { full = (subst IsFullPage same f.0, h.full); page = h.page; sound = h.sound; behind = h.behind; rest_is = h.rest_is }

read_plain : (pages : List Page) → AllByRecursion IsFullPage pages → All IsPlain (entries_of pages) → AllByRecursion ReadPlain pages
read_plain [] full plain = tt
read_plain (page ∷ more) full plain = (
  record { ended = full_ended page full.0; plain = recursion_from_All IsPlain page.entries (All_front IsPlain page.entries (entries_of more) plain) },
  read_plain more full.1 (All_back IsPlain page.entries (entries_of more) plain),
)

read_plain_to : (before : List Page) (page : Page) → AllByRecursion IsFullPage before → Ended page → All IsPlain (entries_of before ++ page.entries) → AllByRecursion ReadPlain (before ++ page ∷ [])
read_plain_to [] page full ended plain = (record { ended = ended; plain = recursion_from_All IsPlain page.entries plain }, tt)
read_plain_to (p ∷ before) page full ended plain =
    let parted = subst (All IsPlain) (append_assoc p.entries (entries_of before) page.entries) plain in (
      record { ended = full_ended p full.0; plain = recursion_from_All IsPlain p.entries (All_front IsPlain p.entries (entries_of before ++ page.entries) parted) },
      read_plain_to before page full.1 ended (All_back IsPlain p.entries (entries_of before ++ page.entries) parted),
    )

user_behind : (blocks : List Block) (pages : List Page) (rest : List Block) → HasUserPlaces blocks → AllByRecursion ReadPlain pages → blocks ≡ map page_block pages ++ rest → AllFull pages rest
user_behind blocks pages rest u each e =
    user_past u.before pages u.here u.behind rest u.entry (full_by u.before u.full) u.sound u.entry_sound u.next u.places each (sym u.blocks_are ∙ e)

last_full : (before : List Page) (page : Page) → AllByRecursion IsFullPage (before ++ page ∷ []) → IsFullPage page
last_full before page each = (behind_full before (page ∷ []) each).0

-- the page behind others, with them
with_page : (before : List Page) (page : Page) (behind : List Block) → map page_block before ++ page_block page ∷ behind ≡ map page_block (before ++ page ∷ []) ++ behind
with_page before page behind = sym (ap (λ l. l ++ behind) (map-append page_block before (page ∷ [])) ∙ append_assoc (map page_block before) (page_block page ∷ []) behind)

-- an entry before the first fault has places of its own, or none has
pub user_or_broken : (blocks : List Block) (entries : List Entry) → HasUserPlaces blocks → All IsPlain entries → ¬ IsBrokenAfter blocks entries
user_or_broken blocks entries u plain (inl b) =
    let each = read_plain_to b.before b.here (full_by b.before b.full) (record { sound = b.sound; stops = b.broken.none }) (subst (All IsPlain) b.entries_are plain) in
    let all = user_behind blocks (b.before ++ b.here ∷ []) b.behind u each (b.blocks_are ∙ with_page b.before b.here b.behind) in
    b.broken.some (last_full b.before b.here all.full).nothing_left
user_or_broken blocks entries u plain (inr (inl b)) =
    let all = user_behind blocks b.before (b.block ∷ b.behind) u (read_plain b.before (full_by b.before b.full) (subst (All IsPlain) b.entries_are plain)) b.blocks_are in
    let same : b.block ≡ page_block all.page = let e = all.rest_is in cc in
    b.broken all.page all.sound same
user_or_broken blocks entries u plain (inr (inr (inl b))) =
    let all = user_behind blocks b.pages [] u (read_plain b.pages (full_by b.pages b.full) (subst (All IsPlain) b.entries_are plain)) (b.blocks_are ∙ sym (append-nil (map page_block b.pages))) in
    omega (arith, ap length all.rest_is)
user_or_broken blocks entries u plain (inr (inr (inr b))) =
    let whole : entries_of (b.before ++ b.last ∷ []) ≡ entries_of b.before ++ b.last.entries = flat_map-append (λ (p : Page). p.entries) b.before (b.last ∷ []) ∙ ap (λ l. entries_of b.before ++ l) (append-nil b.last.entries) in
    let each = read_plain_to b.before b.last (full_by b.before b.full) (last_ended b.last b.ends) (subst (All IsPlain) (b.entries_are ∙ whole) plain) in
    let all = user_behind blocks (b.before ++ b.last ∷ []) b.behind u each b.blocks_are in
    not_full b.last b.last (last_full b.before b.last all.full) b.ends refl

-- ---- one directory

pub one_directory : (blocks : List Block) (pages pages' : List Page) → IsDirectory blocks pages → IsDirectory blocks pages' → pages' ≡ pages
one_directory blocks pages pages' h g =
    let split : blocks ≡ map page_block g.before ++ page_block g.last ∷ g.behind =
    g.blocks_are ∙ ap (λ (l : List Page). map page_block l ++ g.behind) g.pages_are ∙ ap (λ l. l ++ g.behind) (map-append page_block g.before (g.last ∷ [])) ∙ append_assoc (map page_block g.before) (page_block g.last ∷ []) g.behind in
    let p = past blocks pages h g.before (page_block g.last ∷ g.behind) split g.full in
    g.pages_are ∙ (last_same g.before p.more g.last h.last g.behind h.behind h.before g.ends h.ends (full_by h.before h.full) p.before_is p.rest_is).0 ∙ sym h.pages_are
