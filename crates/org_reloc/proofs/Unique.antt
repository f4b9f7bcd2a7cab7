-- One content, one packing.
use Rattle.std.proofs.Common.{◌≡◌, ◌⊎◌, ℕ, ◌≤◌, List, [], ◌∷◌, ◌++◌, length, map, refl, sym, ap, subst, ◌∙◌, arith, append_assoc, inl, inr, length-append}
use Rattle.std.specs.List.{flat_map, AllByRecursion}
use Rattle.std.proofs.lemmas.List.{length-map, append-nil, append_cancel_left}
use Rattle.std.proofs.lemmas.List.Sums.{sum_by-append, sum_by-cons}
use Rattle.std.proofs.lemmas.List.Elements.{All-head, All-tail, recursion_from_All}
use Rattle.ckd_image.specs.declared.device.Device.{Device}
use Rattle.ckd_image.specs.declared.track.Rec.{Rec}
use Rattle.ckd_image.specs.declared.track.Track.{Track}
use Rattle.ckd_image.specs.Device.{capacity_of}
use Rattle.org_reloc.specs.declared.block.Block.{Block}
use Rattle.org_reloc.specs.declared.refit.Refit.{Refit}
use Rattle.org_reloc.specs.declared.fault.RelocFault.{RelocFault}
use Rattle.org_reloc.specs.declared.fault.RelocFault.TheVariants.{NotRelocatable, BlockTooLong, NoMemory}
use Rattle.org_reloc.specs.declared.fault.Why.{Why}
use Rattle.org_reloc.specs.declared.fault.Why.TheVariants as whys
use Rattle.org_reloc.specs.Content.{block_of, end_of_file, IsEnd, records_of, HasNoEnd, HoldUpToEnd}
use Rattle.org_reloc.specs.Packing.{FitTrack, FitsAlone, AreFull, AreGrouped, track_of}
use Rattle.org_reloc.specs.Filling.{block_cost, blocks_cost}
use Rattle.org_reloc.specs.Refusal.{IsFirstTooLong}
use Rattle.org_reloc.specs.Sequential.{IsContent, IsRefit, IsRefusal, HasCause}
use Rattle.org_reloc.proofs.Groups.{fit_by_cost, cost_by_fit}

-- ---- lists that begin alike

-- one of two lists goes on where the other ends
pub record Longer {X : Type 0} (xs ys zs ws : List X) : Type 0 where
  pub more : List X
  pub longer : ys ≡ xs ++ more
  pub behind : zs ≡ more ++ ws

pub overlap : {X : Type 0} (xs ys zs ws : List X) → xs ++ zs ≡ ys ++ ws → Longer xs ys zs ws ⊎ Longer ys xs ws zs
overlap [] ys zs ws e = inl (record { more = ys; longer = refl; behind = e })
overlap (x ∷ xs) [] zs ws e = inr (record { more = x ∷ xs; longer = refl; behind = sym e })
overlap (x ∷ xs) (y ∷ ys) zs ws e =
    let head : x ≡ y = cc in
    let tail : xs ++ zs ≡ ys ++ ws = cc in
    elim (overlap xs ys zs ws tail) [
      | inl h ↦ inl (record { more = h.more; longer = let l = h.longer in cc; behind = h.behind })
      | inr h ↦ inr (record { more = h.more; longer = let l = h.longer in cc; behind = h.behind })
    ]

-- ---- one content

one_run : (run other : List Rec) (end end' : Rec) (behind behind' : List Rec) → run ++ end ∷ behind ≡ other ++ end' ∷ behind' → HasNoEnd run → HasNoEnd other → IsEnd end → IsEnd end' → run ≡ other
one_run [] [] end end' behind behind' e p q u v = refl
one_run [] (rec ∷ more) end end' behind behind' e p q u v =
    let same : end ≡ rec = cc in
    absurd (All-head (λ r. ¬ IsEnd r) rec more q (subst IsEnd same u))
one_run (rec ∷ more) [] end end' behind behind' e p q u v =
    let same : end' ≡ rec = cc in
    absurd (All-head (λ r. ¬ IsEnd r) rec more p (subst IsEnd same v))
one_run (rec ∷ more) (rec' ∷ more') end end' behind behind' e p q u v =
    let head : rec ≡ rec' = cc in
    let tail : more ++ end ∷ behind ≡ more' ++ end' ∷ behind' = cc in
    let rest = one_run more more' end end' behind behind' tail (All-tail (λ r. ¬ IsEnd r) rec more p) (All-tail (λ r. ¬ IsEnd r) rec' more' q) u v in
    cc

pub one_content : (recs : List Rec) (a b : List Block) → HoldUpToEnd recs a → HoldUpToEnd recs b → a ≡ b
one_content recs a b h g =
    h.blocks_are ∙ ap (map block_of) (one_run h.run g.run h.end g.end h.behind g.behind (sym h.spelled ∙ g.spelled) h.before g.before h.ends g.ends) ∙ sym g.blocks_are

in_back : (run : List Rec) (end : Rec) (behind : List Rec) → HasNoEnd (run ++ end ∷ behind) → ¬ IsEnd end
in_back [] end behind none = All-head (λ r. ¬ IsEnd r) end behind none
in_back (rec ∷ more) end behind none = in_back more end behind (All-tail (λ r. ¬ IsEnd r) rec (more ++ end ∷ behind) none)

pub no_end_held : (recs : List Rec) (blocks : List Block) → HoldUpToEnd recs blocks → ¬ HasNoEnd recs
no_end_held recs blocks h none = in_back h.run h.end h.behind (subst HasNoEnd h.spelled none) h.ends

pub same_content : (tracks : List Track) (last : List ℕ) (a b : List Block) → IsContent tracks last a → IsContent tracks last b → a ≡ b
same_content tracks last a b (inl h) (inl g) = h.1 ∙ sym g.1
same_content tracks last a b (inl h) (inr g) = absurd (g.0 h.0)
same_content tracks last a b (inr h) (inl g) = absurd (h.0 g.0)
same_content tracks last a b (inr h) (inr g) = one_content (records_of tracks) a b h.1 g.1

-- ---- one packing

front_fits : (device : Device) (xs ys : List Block) → FitTrack device (xs ++ ys) → FitTrack device xs
front_fits device xs ys fits = fit_by_cost device xs (omega (arith, cost_by_fit device (xs ++ ys) fits, sum_by-append (block_cost device) xs ys))

-- a track that is full takes nothing of what the other grouping has on it
full_stops : (device : Device) (group : List Block) (block : Block) (more rest : List Block) (groups : List (List Block)) → flat_map (λ g. g) groups ≡ block ∷ rest → AreFull device (group ∷ groups) → ¬ FitTrack device (group ++ block ∷ more)
full_stops device group block more rest [] e full fits = absurd (omega (arith, ap length e))
full_stops device group block more rest ([] ∷ groups) e full fits = full.0
full_stops device group block more rest ((first ∷ others) ∷ groups) e full fits =
    let same : first ≡ block = cc in
    full.0 (subst (λ (b : Block). FitTrack device (group ++ b ∷ [])) (sym same) (front_fits device (group ++ block ∷ []) more (subst (FitTrack device) (sym (append_assoc group (block ∷ []) more)) fits)))

-- what is behind a full track is full too
full_behind : (device : Device) (group : List Block) (groups : List (List Block)) → AreFull device (group ∷ groups) → AreFull device groups
full_behind device group [] full = tt
full_behind device group (next ∷ more) full = full.1

same_group : (device : Device) (a b : List Block) (as' : List (List Block)) (more rest : List Block) → b ≡ a ++ more → flat_map (λ g. g) as' ≡ more ++ rest → FitTrack device b → AreFull device (a ∷ as') → a ≡ b
same_group device a b as' [] rest longer behind fits full = sym (longer ∙ append-nil a)
same_group device a b as' (block ∷ more) rest longer behind fits full =
    absurd (full_stops device a block more (more ++ rest) as' behind full (subst (FitTrack device) longer fits))

first_same : (device : Device) (a b : List Block) (as' bs : List (List Block)) → a ++ flat_map (λ g. g) as' ≡ b ++ flat_map (λ g. g) bs → FitTrack device a → FitTrack device b → AreFull device (a ∷ as') → AreFull device (b ∷ bs) → a ≡ b
first_same device a b as' bs e fits_a fits_b full_a full_b =
    elim (overlap a b (flat_map (λ g. g) as') (flat_map (λ g. g) bs) e) [
      | inl h ↦ same_group device a b as' h.more (flat_map (λ g. g) bs) h.longer h.behind fits_b full_a
      | inr h ↦ sym (same_group device b a bs h.more (flat_map (λ g. g) as') h.longer h.behind fits_a full_b)
    ]

-- the first track, if there is one, has a block
abbrev IsBegun : List (List Block) → Type 0
IsBegun [] = Unit {0}
IsBegun (group ∷ more) = 1 ≤ length group

begun_next : (device : Device) (group : List Block) (groups : List (List Block)) → AreFull device (group ∷ groups) → IsBegun groups
begun_next device group [] full = tt
begun_next device group ([] ∷ more) full = absurd full.0
begun_next device group ((block ∷ others) ∷ more) full = omega arith

nothing_left : (groups : List (List Block)) → IsBegun groups → flat_map (λ g. g) groups ≡ [] → groups ≡ []
nothing_left [] begun e = refl
nothing_left (group ∷ more) begun e = absurd (omega (arith, begun, ap length e, length-append group (flat_map (λ g. g) more)))

one_way : (device : Device) (as' bs : List (List Block)) → flat_map (λ g. g) as' ≡ flat_map (λ g. g) bs → AllByRecursion (FitTrack device) as' → AllByRecursion (FitTrack device) bs
    → AreFull device as' → AreFull device bs → IsBegun as' → IsBegun bs → as' ≡ bs
one_way device [] bs e fits_a fits_b full_a full_b begun_a begun_b = sym (nothing_left bs begun_b (sym e))
one_way device (a ∷ as') [] e fits_a fits_b full_a full_b begun_a begun_b = nothing_left (a ∷ as') begun_a e
one_way device (a ∷ as') (b ∷ bs) e fits_a fits_b full_a full_b begun_a begun_b =
    let head : a ≡ b = first_same device a b as' bs e fits_a.0 fits_b.0 full_a full_b in
    let tail : flat_map (λ g. g) as' ≡ flat_map (λ g. g) bs = append_cancel_left b (flat_map (λ g. g) as') (flat_map (λ g. g) bs) (ap (λ l. l ++ flat_map (λ g. g) as') (sym head) ∙ e) in
    let rest = one_way device as' bs tail fits_a.1 fits_b.1 (full_behind device a as' full_a) (full_behind device b bs full_b) (begun_next device a as' full_a) (begun_next device b bs full_b) in
    cc

begun_by : (device : Device) (groups : List (List Block)) → AllByRecursion (FitTrack device) groups → AreFull device groups → 1 ≤ length (flat_map (λ g. g) groups) → IsBegun groups
begun_by device [] fits full some = tt
begun_by device ([] ∷ []) fits full some = absurd (omega (arith, some))
begun_by device ([] ∷ [] ∷ more) fits full some = absurd full.0
begun_by device ([] ∷ (block ∷ others) ∷ more) fits full some = absurd (full.0 (front_fits device (block ∷ []) others fits.1.0))
begun_by device ((block ∷ others) ∷ more) fits full some = omega arith

pub one_grouping : (device : Device) (blocks : List Block) (as' bs : List (List Block)) → 1 ≤ length blocks → AreGrouped device blocks as' → AreGrouped device blocks bs → as' ≡ bs
one_grouping device blocks as' bs some h g =
    let fits_a = recursion_from_All (FitTrack device) as' h.fit in
    let fits_b = recursion_from_All (FitTrack device) bs g.fit in
    one_way device as' bs (h.whole ∙ sym g.whole) fits_a fits_b h.full g.full
    (begun_by device as' fits_a h.full (subst (λ (l : List Block). 1 ≤ length l) (sym h.whole) some)) (begun_by device bs fits_b g.full (subst (λ (l : List Block). 1 ≤ length l) (sym g.whole) some))

-- each block on a track fits one alone
fits_of : (device : Device) (group : List Block) → blocks_cost device group ≤ capacity_of device → AllByRecursion (FitsAlone device) group
fits_of device [] h = tt
fits_of device (block ∷ more) h = (
  fit_by_cost device (block ∷ []) (omega (arith, sum_by-cons (block_cost device) block more)),
  fits_of device more (omega (arith, sum_by-cons (block_cost device) block more)),
)

joined : {X : Type 0} (P : X → Type 0) (xs ys : List X) → AllByRecursion P xs → AllByRecursion P ys → AllByRecursion P (xs ++ ys)
joined P [] ys h g = g
joined P (x ∷ xs) ys h g = (h.0, joined P xs ys h.1 g)

all_alone : (device : Device) (groups : List (List Block)) → AllByRecursion (FitTrack device) groups → AllByRecursion (FitsAlone device) (flat_map (λ g. g) groups)
all_alone device [] fits = tt
all_alone device (group ∷ more) fits = joined (FitsAlone device) group (flat_map (λ g. g) more) (fits_of device group (cost_by_fit device group fits.0)) (all_alone device more fits.1)

pub grouped_alone : (device : Device) (blocks : List Block) (groups : List (List Block)) → AreGrouped device blocks groups → AllByRecursion (FitsAlone device) blocks
grouped_alone device blocks groups h = subst (AllByRecursion (FitsAlone device)) h.whole (all_alone device groups (recursion_from_All (FitTrack device) groups h.fit))

in_middle : (device : Device) (before : List Block) (block : Block) (behind : List Block) → AllByRecursion (FitsAlone device) (before ++ block ∷ behind) → FitsAlone device block
in_middle device [] block behind each = each.0
in_middle device (first ∷ more) block behind each = in_middle device more block behind each.1

pub none_too_long : (device : Device) (blocks behind : List Block) (groups : List (List Block)) (len largest : ℕ) → AreGrouped device (blocks ++ behind) groups → ¬ IsFirstTooLong device blocks len largest
none_too_long device blocks behind groups len largest h first =
    first.too_long (in_middle device first.before first.block (first.behind ++ behind)
    (subst (AllByRecursion (FitsAlone device)) (ap (λ l. l ++ behind) first.spelled ∙ append_assoc first.before (first.block ∷ first.behind) behind) (grouped_alone device (blocks ++ behind) groups h)))

-- ---- a refit is given where there is one

no_cause : (device : Device) (tracks : List Track) (last : List ℕ) (refit : Refit) (cause : Why) → IsRefit device tracks last refit → length refit.tracks ≤ 65535 → ¬ HasCause device tracks last cause
no_cause device tracks last refit whys.Org h few cause = cause
no_cause device tracks last refit whys.Directory h few cause = cause
no_cause device tracks last refit whys.UserTtrs h few cause = cause
no_cause device tracks last refit whys.NoEnd h few cause = elim h.held [ inl none ↦ cause.0 none.0 | inr held ↦ no_end_held (records_of tracks) h.content held.1 cause.1 ]
no_cause device tracks last refit whys.Long h few cause =
    let same = same_content tracks last cause.content h.content cause.held h.held in
    let grouped : AreGrouped device (h.content ++ end_of_file ∷ []) cause.many.groups = subst (λ (l : List Block). AreGrouped device (l ++ end_of_file ∷ []) cause.many.groups) same cause.many.grouped in
    let one = one_grouping device (h.content ++ end_of_file ∷ []) cause.many.groups h.packed.groups (omega (arith, length-append h.content (end_of_file ∷ []))) grouped h.packed.grouped in
    omega (arith, cause.many.many, ap length one, ap length h.packed.tracks_are, length-map h.packed.groups track_of)

pub only_memory : (device : Device) (tracks : List Track) (last : List ℕ) (e : RelocFault) → IsRefusal device tracks last e → (refit : Refit) → IsRefit device tracks last refit → length refit.tracks ≤ 65535 → e ≡ NoMemory
only_memory device tracks last NoMemory refused refit h few = refl
only_memory device tracks last (NotRelocatable why) refused refit h few = absurd (no_cause device tracks last refit refused.0 h few refused.2)
only_memory device tracks last (BlockTooLong len largest) refused refit h few =
    let same = same_content tracks last refused.content h.content refused.held h.held in
    absurd (none_too_long device h.content (end_of_file ∷ []) h.packed.groups len largest h.packed.grouped (subst (λ (l : List Block). IsFirstTooLong device l len largest) same refused.first))
