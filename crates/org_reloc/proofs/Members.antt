-- Members of a partitioned data set.
use Rattle.std.proofs.Common.{◌≡◌, ◌≢◌, ℕ, ◌+◌, ◌/◌, ◌%◌, ◌<◌, ◌≤◌, List, [], ◌∷◌, ◌++◌, length, take, drop, map, get_or, nat_eq, All, refl, sym, ap, subst, ◌∙◌, arith, append_assoc, length-append}
use Rattle.std.specs.List.{Contains, dedup}
use Rattle.std.specs.List.Sorted.{IsPermutation, IsSorted}
use Rattle.std.specs.Ordering.{nat_cmp}
use Rattle.std.proofs.lemmas.List.{length-take-le, get_or_at, drop_more, take_more, map-append, append-nil}
use Rattle.std.proofs.lemmas.List.Concat.{flat_map-append}
use Rattle.std.proofs.lemmas.List.Elements.{All-weaker, All-contains_itself, All-nil, All-push}
use Rattle.std.proofs.lemmas.List.Kept.{Contains-dedup_nat, Contains-from_dedup}
use Rattle.std.proofs.lemmas.List.Sorted.{IsPermutation-sym, Contains-permutation}
use Rattle.std.proofs.lemmas.Map.Keys.{IsStrictlyIncreasing-dedup}
use Rattle.ckd_image.specs.declared.track.Rec.{Rec}
use Rattle.ckd_image.specs.declared.track.Track.{Track}
use Rattle.org_reloc.specs.declared.entry.Entry.{Entry}
use Rattle.org_reloc.specs.declared.place.Place.{Place}
use Rattle.org_reloc.specs.declared.directory.Page.{Page}
use Rattle.org_reloc.specs.declared.block.Block.{Block}
use Rattle.org_reloc.specs.Content.{records_of}
use Rattle.org_reloc.specs.Directory.{entries_of}
use Rattle.org_reloc.specs.Place.{place_text}
use Rattle.org_reloc.specs.Member.{number_of_place, place_of_number, NamesRecords, HoldsMember, Member, member_blocks, members_blocks, starts_of, NamesOne, AreNumbers, AreFrom, IsMemberPut, AreMembersPut}
use Rattle.org_reloc.proofs.Entries.{same_two}
use Rattle.org_reloc.proofs.Runs.{split_at, All_middle}
use Rattle.ckd_image.proofs.Lists.{contains_map}

-- ---- the records at a place

pub from_here : (recs : List Rec) (i : ℕ) (rec : Rec) (number : ℕ) (from : List Rec) → i < length recs → rec ≡ get_or recs i rec → All (λ r. r.r ≢ number) (take i recs) → rec.r ≡ number → from ≡ drop i recs → AreFrom recs number from
from_here recs i rec number from lt is none here e = record {
  skipped = take i recs;
  rec = rec;
  rest = drop (i + 1) recs;
  recs_are = split_at recs i rec lt is;
  first = none;
  number_is = here;
  from_is = e ∙ drop_more recs i rec lt ∙ ap (λ r. r ∷ drop (i + 1) recs) (sym is);
}

pub names_at : (tracks : List Track) (place : Place) (track : Track) (recs : List Rec) (behind : List Track) → place.track < length tracks → track ≡ get_or tracks place.track track → place.track < 65536
    → AreFrom track.recs place.number recs → behind ≡ drop (place.track + 1) tracks → NamesRecords tracks place (recs ++ records_of behind)
names_at tracks place track recs behind lt is near h e =
    let count : length (take place.track tracks) ≡ place.track = length-take-le place.track tracks (omega (arith, lt)) in
    record {
      before = take place.track tracks;
      track = track;
      after = behind;
      skipped = h.skipped;
      rec = h.rec;
      rest = h.rest;
      tracks_are = split_at tracks place.track track lt is ∙ ap (λ l. take place.track tracks ++ track ∷ l) (sym e);
      recs_are = h.recs_are;
      first = subst (λ (n : ℕ). All (λ other. other.r ≢ n) h.skipped) (sym h.number_is) h.first;
      near = omega (arith, near, count);
      place_is = ap (λ n. place_text n place.number) (sym count) ∙ ap (λ n. place_text (length (take place.track tracks)) n) (sym h.number_is);
      named = ap (λ l. l ++ records_of behind) h.from_is;
    }

-- three bytes say which track and number they are
pub place_apart : (a b m n : ℕ) → a < 65536 → b < 65536 → place_text a m ≡ place_text b n → (a ≡ b) × (m ≡ n)
place_apart a b m n p q e =
    let high : a / 256 % 256 ≡ b / 256 % 256 = cc in
    let low : a % 256 ≡ b % 256 = cc in
    let number : m ≡ n = cc in
    (same_two a b p q high low, number)

pub none_there : (tracks : List Track) (place : Place) → place.track < 65536 → length tracks ≤ place.track → ¬ NamesOne tracks place
none_there tracks place near over one =
    let h = one.names in
    let same = place_apart place.track (length h.before) place.number h.rec.r near h.near h.place_is in
    omega (arith, over, same.0, ap length h.tracks_are, length-append h.before (h.track ∷ h.after))

pub none_numbered : (tracks : List Track) (place : Place) (track : Track) → place.track < 65536 → track ≡ get_or tracks place.track track → All (λ rec. rec.r ≢ place.number) track.recs → ¬ NamesOne tracks place
none_numbered tracks place track near is none one =
    let h = one.names in
    let same = place_apart place.track (length h.before) place.number h.rec.r near h.near h.place_is in
    let here : h.track ≡ track = sym (get_or_at h.before h.track h.after track place.track (sym same.0)) ∙ ap (λ l. get_or l place.track track) (sym h.tracks_are) ∙ sym is in
    let recs : track.recs ≡ h.skipped ++ h.rec ∷ h.rest = ap (λ (t : Track). t.recs) (sym here) ∙ h.recs_are in
    All_middle (λ (rec : Rec). rec.r ≢ place.number) h.skipped h.rec h.rest (subst (All (λ (rec : Rec). rec.r ≢ place.number)) recs none) (sym same.1)

-- ---- the places of entries

abbrev numbers_of : List Entry → List ℕ
numbers_of entries = map (λ entry. number_of_place entry.place) entries

-- one more page
pub page_numbers : (pages : List Page) (i : ℕ) (page : Page) (old new : List ℕ) → i < length pages → page ≡ get_or pages i page → old ≡ map (λ entry. number_of_place entry.place) (entries_of (take i pages))
    → new ≡ old ++ map (λ entry. number_of_place entry.place) page.entries → new ≡ map (λ entry. number_of_place entry.place) (entries_of (take (i + 1) pages))
page_numbers pages i page old new lt is h e =
    e ∙ ap (λ l. l ++ numbers_of page.entries) h ∙ sym (map-append (λ (entry : Entry). number_of_place entry.place) (entries_of (take i pages)) page.entries)
    ∙ ap numbers_of (sym (ap entries_of (take_more pages i page lt ∙ ap (λ (p : Page). take i pages ++ p ∷ []) (sym is)) ∙ flat_map-append (λ (p : Page). p.entries) (take i pages) (page ∷ [])
    ∙ ap (λ l. entries_of (take i pages) ++ l) (append-nil page.entries)))

pub sorted_numbers : (entries : List Entry) (a b c : List ℕ) → a ≡ map (λ entry. number_of_place entry.place) entries → IsPermutation a b → IsSorted nat_cmp b → c ≡ dedup nat_eq b → AreNumbers entries c
sorted_numbers entries a b c e moved sorted deduped =
    let moved_all : IsPermutation (numbers_of entries) b = subst (λ l. IsPermutation l b) e moved in
    subst (AreNumbers entries) (sym deduped) (record {
      ascending = IsStrictlyIncreasing-dedup b sorted;
      named = All-weaker (Contains entries) (λ (entry : Entry). Contains (dedup nat_eq b) (number_of_place entry.place))
          (λ entry among. Contains-dedup_nat b (number_of_place entry.place) (Contains-permutation (numbers_of entries) b (number_of_place entry.place) moved_all (contains_map (λ (x : Entry). number_of_place x.place) entries entry among)))
          entries (All-contains_itself entries);
      only = All-weaker (Contains (dedup nat_eq b)) (Contains (numbers_of entries))
          (λ n among. Contains-permutation b (numbers_of entries) n (IsPermutation-sym (numbers_of entries) b moved_all) (Contains-from_dedup nat_eq b n among))
          (dedup nat_eq b) (All-contains_itself (dedup nat_eq b));
    })

-- ---- members put behind other blocks

starts_push : (base : ℕ) (members : List Member) (member : Member) → starts_of base (members ++ member ∷ []) ≡ starts_of base members ++ (base + length (members_blocks members)) ∷ []
starts_push base [] member = ap (λ (n : ℕ). n ∷ []) (omega arith)
starts_push base (first ∷ more) member =
    let next : base + length (member_blocks first) + length (members_blocks more) ≡ base + length (members_blocks (first ∷ more)) = omega (arith, length-append (member_blocks first) (members_blocks more)) in
    ap (λ l. base ∷ l) (starts_push (base + length (member_blocks first)) more member ∙ ap (λ (n : ℕ). starts_of (base + length (member_blocks first)) more ++ n ∷ []) next)

members_push : (members : List Member) (member : Member) → members_blocks (members ++ member ∷ []) ≡ members_blocks members ++ member_blocks member
members_push members member = flat_map-append member_blocks members (member ∷ []) ∙ ap (λ l. members_blocks members ++ l) (append-nil (member_blocks member))

pub put_none : (tracks : List Track) (base blocks : List Block) (starts : List ℕ) → blocks ≡ base → starts ≡ [] → AreMembersPut tracks [] base blocks starts
put_none tracks base blocks starts e none = record {
  members = [];
  places_are = refl;
  held = All-nil (λ (member : Member). HoldsMember tracks member.place member.blocks);
  new_is = e ∙ sym (append-nil base);
  starts_are = none;
}

pub put_more : (tracks : List Track) (numbers : List ℕ) (i number : ℕ) (base old new : List Block) (starts starts' : List ℕ) → i < length numbers → number ≡ get_or numbers i 0
    → AreMembersPut tracks (take i numbers) base old starts → starts' ≡ starts ++ length old ∷ [] → IsMemberPut tracks (place_of_number number) old new → AreMembersPut tracks (take (i + 1) numbers) base new starts'
put_more tracks numbers i number base old new starts starts' lt is h pushed put =
    let member : Member = record { place = place_of_number number; blocks = put.blocks } in
    let count : length old ≡ length base + length (members_blocks h.members) = omega (arith, ap length h.new_is, length-append base (members_blocks h.members)) in
    record {
      members = h.members ++ member ∷ [];
      places_are = map-append (λ (m : Member). m.place) h.members (member ∷ []) ∙ ap (λ l. l ++ place_of_number number ∷ []) h.places_are
          ∙ sym (map-append place_of_number (take i numbers) (number ∷ [])) ∙ ap (map place_of_number) (sym (take_more numbers i 0 lt ∙ ap (λ n. take i numbers ++ n ∷ []) (sym is)));
      held = All-push (λ (m : Member). HoldsMember tracks m.place m.blocks) h.members member h.held put.held;
      new_is = put.new_is ∙ ap (λ l. l ++ member_blocks member) h.new_is ∙ append_assoc base (members_blocks h.members) (member_blocks member) ∙ ap (λ l. base ++ l) (sym (members_push h.members member));
      starts_are = pushed ∙ ap (λ l. l ++ length old ∷ []) h.starts_are ∙ ap (λ (n : ℕ). starts_of (length base) h.members ++ n ∷ []) count ∙ sym (starts_push (length base) h.members member);
    }
