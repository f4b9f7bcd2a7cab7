-- Reading a directory.
use Rattle.std.proofs.Common.{◌≡◌, inl, inr, ◌↔◌, ℕ, ◌+◌, ◌<◌, ◌≤◌, false, IsTrue, List, [], ◌∷◌, ◌++◌, length, take, drop, map, get_or, All, refl, sym, ap, subst, ◌∙◌, arith, append_assoc, length-append, length-drop, ◌-◌}
use Rattle.std.proofs.lemmas.List.{take_all, take_more, append-nil, map-append, length-map}
use Rattle.std.proofs.lemmas.List.Concat.{flat_map-append}
use Rattle.std.proofs.lemmas.List.Prefix.{front_rest}
use Rattle.std.proofs.lemmas.List.Elements.{All-push, All-append}
use Rattle.byteorder.specs.Endian.{big_bytes}
use Rattle.ckd_image.specs.Bytes.{Begins}
use Rattle.ckd_image.proofs.Texts.{texts_push}
use Rattle.org_reloc.specs.declared.block.Block.{Block}
use Rattle.org_reloc.specs.declared.entry.Entry.{Entry}
use Rattle.org_reloc.specs.declared.directory.Page.{Page}
use Rattle.org_reloc.specs.declared.fault.RelocFault.{RelocFault}
use Rattle.org_reloc.specs.declared.fault.RelocFault.TheVariants.{NotRelocatable, BlockTooLong, NoMemory}
use Rattle.org_reloc.specs.Directory.{data_length, heading_text, heading_of, entry_text, entries_text, last_text, IsHeading, IsEntry, IsPlain, IsShaped, IsFullPage, page_body, page_block, entries_of}
use Rattle.org_reloc.specs.DirectoryReading.{IsReadSoFar, IsDone, HasUserEntry, IsReadRefusal, IsPart, IsPageRead, IsPageRefusal, ArePagesRead, IsDirectoryRead, IsFaulty, IsDirectoryRefusal}
use Rattle.org_reloc.proofs.Entries.{length-heading}
use Rattle.org_reloc.proofs.Runs.{split_at}

-- ---- entries of a block

pub not_so : {P : Type 0} → (IsTrue false ↔ P) → ¬ P
not_so h p = let yes = h.1 p in cc

begins_more : (a b c : List ℕ) → Begins a b → Begins b c → Begins a c
begins_more a b c h g = (h.0 ++ g.0, g.1 ∙ ap (λ l. l ++ g.0) h.1 ∙ append_assoc a h.0 g.0)

pub entry_sound : (entry : Entry) (left : List ℕ) → IsHeading (heading_of entry) → length entry.data ≡ data_length entry.kind → Begins (entry_text entry) left → ¬ IsDone left → IsEntry entry
entry_sound entry left heading fits begins more = record {
  heading = heading;
  data_fits = fits;
  goes_on = λ last. more (inr (begins_more last_text (entry_text entry) left last begins));
}

length-entry : (entry : Entry) → IsHeading (heading_of entry) → length (entry_text entry) ≡ 12 + length entry.data
length-entry entry h = omega (arith, length-heading (heading_of entry) h, length-append (heading_text (heading_of entry)) entry.data)

pub entries_more : (bytes left left' : List ℕ) (entries entries' : List Entry) (entry : Entry) → IsReadSoFar bytes entries left → IsHeading (heading_of entry) → length entry.data ≡ data_length entry.kind
    → Begins (entry_text entry) left → ¬ IsDone left → IsPlain entry → left' ≡ drop (12 + length entry.data) left → entries' ≡ entries ++ entry ∷ [] → IsReadSoFar bytes entries' left'
entries_more bytes left left' entries entries' entry h heading fits begins more plain rest pushed =
    let behind : left' ≡ begins.0 = rest ∙ ap (λ n. drop n left) (sym (length-entry entry heading)) ∙ front_rest left (entry_text entry) begins.0 begins.1 in
    let next : left ≡ entry_text entry ++ left' = begins.1 ∙ ap (λ l. entry_text entry ++ l) (sym behind) in
    subst (λ (l : List Entry). IsReadSoFar bytes l left') (sym pushed) (record {
      text = texts_push entry_text entries entry bytes left left' h.text next;
      each = All-push IsEntry entries entry h.each (entry_sound entry left heading fits begins more);
      plain = All-push IsPlain entries entry h.plain plain;
    })

pub user_entry : (bytes left : List ℕ) (entries : List Entry) (entry : Entry) (why : ℕ) → IsReadSoFar bytes entries left → IsHeading (heading_of entry) → length entry.data ≡ data_length entry.kind
    → Begins (entry_text entry) left → ¬ IsDone left → ¬ IsPlain entry → HasUserEntry bytes
user_entry bytes left entries entry why h heading fits begins more places = record {
  entries = entries;
  left = left;
  so_far = h;
  user = record { entry = entry; sound = entry_sound entry left heading fits begins more; next = begins; places = places };
}

-- ---- a block

same_block : (a b : Block) → a.key ≡ b.key → a.body ≡ b.body → a ≡ b
same_block a b p q =
    let first : a ≡ record { key = b.key; body = a.body } = ap (λ (k : List ℕ). record { key = k; body = a.body }) p in
    first ∙ ap (λ (t : List ℕ). record { key = b.key; body = t }) q

pub part_is : (block : Block) (page : Page) (bytes filler : List ℕ) → IsShaped block → block.body ≡ big_bytes 2 page.used ++ (bytes ++ filler) → page.used ≡ 2 + length bytes
    → page.key ≡ block.key → page.filler ≡ filler → IsReadSoFar bytes page.entries page.left → IsPart block page
part_is block page bytes filler shape e used key rest h =
    let text : bytes ++ filler ≡ entries_text page.entries ++ (page.left ++ page.filler) =
    ap (λ l. l ++ filler) h.text ∙ append_assoc (entries_text page.entries) page.left filler ∙ ap (λ l. entries_text page.entries ++ (page.left ++ l)) (sym rest) in
    let body : block.body ≡ page_body page = e ∙ ap (λ l. big_bytes 2 page.used ++ l) text in
    record {
      sound = record {
        shape = record { key = ap length key ∙ shape.key; body = sym (ap length body) ∙ shape.body };
        used_is = omega (arith, used, ap length h.text, length-append (entries_text page.entries) page.left);
        entries = h.each;
      };
      plain = h.plain;
      block_is = same_block block (page_block page) (sym key) body;
    }

pub page_refused : (block : Block) (used : ℕ) (bytes filler : List ℕ) (e : RelocFault) → IsShaped block → block.body ≡ big_bytes 2 used ++ (bytes ++ filler) → used ≡ 2 + length bytes → IsReadRefusal bytes e → IsPageRefusal block e
page_refused block used bytes filler (NotRelocatable why) shape e count (inl h) =
    let user = h.1 in
    inl (
      h.0,
      record {
        page = record { key = block.key; used = used; entries = user.entries; left = user.left; filler = filler };
        part = part_is block (record { key = block.key; used = used; entries = user.entries; left = user.left; filler = filler }) bytes filler shape e count refl refl user.so_far;
        user = user.user;
      },
    )
page_refused block used bytes filler (NotRelocatable why) shape e count (inr h) =
    let none = h.1 in
    inr (
      h.0,
      inl (record {
        page = record { key = block.key; used = used; entries = none.entries; left = none.left; filler = filler };
        part = part_is block (record { key = block.key; used = used; entries = none.entries; left = none.left; filler = filler }) bytes filler shape e count refl refl none.so_far;
        broken = none.broken;
      }),
    )
page_refused block used bytes filler (BlockTooLong len largest) shape e count h = h
page_refused block used bytes filler NoMemory shape e count h = tt

-- ---- the blocks of a directory

-- the first of the blocks are these pages
pub record ArePagesSoFar (blocks : List Block) (i : ℕ) (pages : List Page) : Type 0 where
  pub blocks_are : take i blocks ≡ map page_block pages
  pub full : All IsFullPage pages
  pub plain : All IsPlain (entries_of pages)

entries_push : (pages : List Page) (page : Page) → entries_of (pages ++ page ∷ []) ≡ entries_of pages ++ page.entries
entries_push pages page = flat_map-append (λ (p : Page). p.entries) pages (page ∷ []) ∙ ap (λ l. entries_of pages ++ l) (append-nil page.entries)

plain_push : (pages : List Page) (page : Page) → All IsPlain (entries_of pages) → All IsPlain page.entries → All IsPlain (entries_of (pages ++ page ∷ []))
plain_push pages page h g = subst (All IsPlain) (sym (entries_push pages page)) (All-append IsPlain (entries_of pages) page.entries h g)

-- one more block
blocks_at : (blocks : List Block) (i : ℕ) (block : Block) (pages : List Page) → i < length blocks → block ≡ get_or blocks i block → take i blocks ≡ map page_block pages
    → blocks ≡ map page_block pages ++ block ∷ drop (i + 1) blocks
blocks_at blocks i block pages lt is h = split_at blocks i block lt is ∙ ap (λ l. l ++ block ∷ drop (i + 1) blocks) h

pub page_more : (blocks : List Block) (i : ℕ) (block : Block) (pages pages' : List Page) (page : Page) → ArePagesSoFar blocks i pages → i < length blocks → block ≡ get_or blocks i block
    → IsPageRead block page → page.left ≡ [] → pages' ≡ pages ++ page ∷ [] → ArePagesSoFar blocks (i + 1) pages'
page_more blocks i block pages pages' page h lt is read none pushed = subst (ArePagesSoFar blocks (i + 1)) (sym pushed) (record {
  blocks_are = take_more blocks i block lt ∙ ap (λ (b : Block). take i blocks ++ b ∷ []) (sym is) ∙ ap (λ l. l ++ block ∷ []) h.blocks_are ∙ ap (λ (b : Block). map page_block pages ++ b ∷ []) read.part.block_is ∙ sym (map-append page_block pages (page ∷ []));
  full = All-push IsFullPage pages page h.full (record { sound = read.part.sound; nothing_left = none });
  plain = plain_push pages page h.plain read.part.plain;
})

-- the block with the last entry
pub page_last : (blocks : List Block) (i : ℕ) (block : Block) (pages pages' : List Page) (page : Page) → ArePagesSoFar blocks i pages → i < length blocks → block ≡ get_or blocks i block
    → IsPageRead block page → 0 < length page.left → pages' ≡ pages ++ page ∷ [] → ArePagesRead blocks pages'
page_last blocks i block pages pages' page h lt is read some pushed = subst (ArePagesRead blocks) (sym pushed) (record {
  before = pages;
  last = page;
  behind = drop (i + 1) blocks;
  pages_are = refl;
  blocks_are = blocks_at blocks i block pages lt is h.blocks_are ∙ ap (λ (b : Block). map page_block pages ++ b ∷ drop (i + 1) blocks) read.part.block_is
      ∙ sym (append_assoc (map page_block pages) (page_block page ∷ []) (drop (i + 1) blocks)) ∙ ap (λ l. l ++ drop (i + 1) blocks) (sym (map-append page_block pages (page ∷ [])));
  full = h.full;
  ends = record { sound = read.part.sound; ends = elim read.done [ inl none ↦ absurd (omega (arith, some, ap length none)) | inr ends ↦ ends ] };
  plain = plain_push pages page h.plain read.part.plain;
})

pub pages_refused : (blocks : List Block) (i : ℕ) (block : Block) (pages : List Page) (e : RelocFault) → ArePagesSoFar blocks i pages → i < length blocks → block ≡ get_or blocks i block
    → IsPageRefusal block e → IsDirectoryRefusal blocks e
pages_refused blocks i block pages (NotRelocatable why) h lt is (inl refused) =
    let user = refused.1 in
    inl (
      refused.0,
      record {
        before = pages;
        here = user.page;
        behind = drop (i + 1) blocks;
        entry = user.user.entry;
        blocks_are = blocks_at blocks i block pages lt is h.blocks_are ∙ ap (λ (b : Block). map page_block pages ++ b ∷ drop (i + 1) blocks) user.part.block_is;
        full = h.full;
        sound = user.part.sound;
        entry_sound = user.user.sound;
        next = user.user.next;
        places = user.user.places;
      },
    )
pages_refused blocks i block pages (NotRelocatable why) h lt is (inr (e, inl page)) = inr (
  e,
  record {
    entries = entries_of pages ++ page.page.entries;
    broken = inl (record {
      before = pages;
      here = page.page;
      behind = drop (i + 1) blocks;
      blocks_are = blocks_at blocks i block pages lt is h.blocks_are ∙ ap (λ (b : Block). map page_block pages ++ b ∷ drop (i + 1) blocks) page.part.block_is;
      full = h.full;
      sound = page.part.sound;
      broken = page.broken;
      entries_are = refl;
    });
    plain = All-append IsPlain (entries_of pages) page.page.entries h.plain page.part.plain;
  },
)
pages_refused blocks i block pages (NotRelocatable why) h lt is (inr (e, inr none)) = inr (
  e,
  record {
    entries = entries_of pages;
    broken = inr (inl (record {
      before = pages;
      block = block;
      behind = drop (i + 1) blocks;
      blocks_are = blocks_at blocks i block pages lt is h.blocks_are;
      full = h.full;
      broken = none;
      entries_are = refl;
    }));
    plain = h.plain;
  },
)
pages_refused blocks i block pages (BlockTooLong len largest) h lt is refused = refused
pages_refused blocks i block pages NoMemory h lt is refused = tt

pub no_last : (blocks : List Block) (i : ℕ) (pages : List Page) → ArePagesSoFar blocks i pages → length blocks ≤ i → IsFaulty blocks
no_last blocks i pages h done = record {
  entries = entries_of pages;
  broken = inr (inr (inl (record { pages = pages; blocks_are = sym (take_all i blocks done) ∙ h.blocks_are; full = h.full; entries_are = refl })));
  plain = h.plain;
}

-- ---- the blocks behind the last entry

pub rest_is : (blocks : List Block) (pages : List Page) (h : ArePagesRead blocks pages) → drop (length pages) blocks ≡ h.behind
rest_is blocks pages h = ap (λ n. drop n blocks) (sym (length-map pages page_block)) ∙ front_rest blocks (map page_block pages) h.behind h.blocks_are

pub directory_read : (blocks : List Block) (pages : List Page) → ArePagesRead blocks pages → All IsShaped (drop (length pages) blocks) → IsDirectoryRead blocks pages
directory_read blocks pages h shaped = record {
  directory = record {
    before = h.before;
    last = h.last;
    behind = h.behind;
    pages_are = h.pages_are;
    blocks_are = h.blocks_are;
    full = h.full;
    ends = h.ends;
    shaped = subst (All IsShaped) (rest_is blocks pages h) shaped;
  };
  plain = h.plain;
}

pub rest_broken : (blocks : List Block) (pages : List Page) → ArePagesRead blocks pages → ¬ All IsShaped (drop (length pages) blocks) → IsFaulty blocks
rest_broken blocks pages h broken = record {
  entries = entries_of pages;
  broken = inr (inr (inr (record {
    before = h.before;
    last = h.last;
    behind = h.behind;
    blocks_are = h.blocks_are ∙ ap (λ (l : List Page). map page_block l ++ h.behind) h.pages_are;
    full = h.full;
    ends = h.ends;
    broken = λ shaped. broken (subst (All IsShaped) (sym (rest_is blocks pages h)) shaped);
    entries_are = ap entries_of h.pages_are;
  })));
  plain = h.plain;
}

-- all from a place on
pub from_on : {X : Type 0} (xs : List X) (n m : ℕ) → n ≡ m → take (length xs - n) (drop n xs) ≡ drop m xs
from_on xs n m e = take_all (length xs - n) (drop n xs) (omega (arith, length-drop n xs)) ∙ ap (λ k. drop k xs) e
