-- One cause at most stands first against a refit.
use Rattle.std.proofs.Common.{◌≡◌, ◌≢◌, inl, inr, ℕ, Bool, true, false, List, [], ◌∷◌, ◌++◌, length, All, refl, sym, ap, subst, ◌∙◌}
use Rattle.std.specs.List.{AllByRecursion}
use Rattle.std.proofs.lemmas.List.Elements.{recursion_from_All, All-from_recursion}
use Rattle.ckd_image.specs.declared.device.Device.{Device}
use Rattle.ckd_image.specs.declared.track.Rec.{Rec}
use Rattle.ckd_image.specs.declared.track.Track.{Track}
use Rattle.org_reloc.specs.declared.block.Block.{Block}
use Rattle.org_reloc.specs.declared.entry.Entry.{Entry}
use Rattle.org_reloc.specs.declared.directory.Page.{Page}
use Rattle.org_reloc.specs.declared.fault.RelocFault.{RelocFault}
use Rattle.org_reloc.specs.declared.fault.RelocFault.TheVariants.{NotRelocatable, BlockTooLong, NoMemory}
use Rattle.org_reloc.specs.declared.fault.Why.{Why}
use Rattle.org_reloc.specs.declared.fault.Why.TheVariants as whys
use Rattle.org_reloc.specs.Content.{end_of_file, records_of, Hold}
use Rattle.org_reloc.specs.Directory.{entries_of, IsDirectory, IsBrokenAfter}
use Rattle.org_reloc.specs.Member.{NamesOne}
use Rattle.org_reloc.specs.Packing.{FitsAlone}
use Rattle.org_reloc.specs.Partitioned.{all_blocks, HasUsers, HasBrokenDirectory, HasFrontDirectory, HasLostEntry, HasNoEndThere, HasLongBlock, HasFault, StandsAgainst, IsPartitionedRefusal}
use Rattle.org_reloc.specs.Refusal.{number_of, IsFirstTooLong, TakeTooMany}
use Rattle.org_reloc.specs.Sequential.{IsTooLong, HasTooLong, HasCause, IsRefusal}
use Rattle.org_reloc.proofs.OneDirectory.{no_user, not_broken, user_or_broken, one_directory}
use Rattle.org_reloc.proofs.OneRefit.{one_movable, no_fault}
use Rattle.org_reloc.proofs.Runs.{All_middle}
use Rattle.org_reloc.proofs.Unique.{one_content, no_end_held, same_content, none_too_long, grouped_alone}

-- ---- the first block that is too long

first_alone : (P : Block → Type 0) (xs ys : List Block) (x y : Block) (as' bs : List Block) → xs ++ x ∷ as' ≡ ys ++ y ∷ bs → AllByRecursion P xs → AllByRecursion P ys → ¬ P x → ¬ P y → x ≡ y
first_alone P [] [] x y as' bs e p q h g = cc
first_alone P [] (b ∷ ys) x y as' bs e p q h g = let head : b ≡ x = cc in absurd (h (subst P head q.0))
first_alone P (a ∷ xs) [] x y as' bs e p q h g = let head : a ≡ y = cc in absurd (g (subst P head p.0))
first_alone P (a ∷ xs) (b ∷ ys) x y as' bs e p q h g = let tail : xs ++ x ∷ as' ≡ ys ++ y ∷ bs = cc in first_alone P xs ys x y as' bs tail p.1 q.1 h g

same_long : (device : Device) (blocks : List Block) (l m l' m' : ℕ) → IsFirstTooLong device blocks l m → IsFirstTooLong device blocks l' m' → BlockTooLong l m ≡ BlockTooLong l' m'
same_long device blocks l m l' m' h g =
    let block = first_alone (FitsAlone device) h.before g.before h.block g.block h.behind g.behind (sym h.spelled ∙ g.spelled)
    (recursion_from_All (FitsAlone device) h.before h.others_fit) (recursion_from_All (FitsAlone device) g.before g.others_fit) h.too_long g.too_long in
    let len : l ≡ l' = h.len_is ∙ ap (λ (b : Block). length b.body) block ∙ sym g.len_is in
    ap (λ n. BlockTooLong n m) len ∙ ap (BlockTooLong l') (h.largest_is ∙ sym g.largest_is)

-- blocks that stand on tracks, though too many, have none that is too long
long_or_many : (device : Device) (blocks : List Block) (l m : ℕ) → TakeTooMany device blocks → ¬ IsFirstTooLong device blocks l m
long_or_many device blocks l m many first =
    first.too_long (All_middle (FitsAlone device) first.before first.block first.behind
    (subst (All (FitsAlone device)) first.spelled (All-from_recursion (FitsAlone device) blocks (grouped_alone device blocks many.groups many.grouped))))

-- ---- a sequential data set

no_end_or_long : (device : Device) (tracks : List Track) (last : List ℕ) → HasCause device tracks last whys.NoEnd → ¬ IsTooLong device tracks last
no_end_or_long device tracks last cause long = elim long.held [ inl none ↦ cause.0 none.0 | inr held ↦ no_end_held (records_of tracks) long.content held.1 cause.1 ]

one_cause : (device : Device) (tracks : List Track) (last : List ℕ) (x y : Why) → HasCause device tracks last x → HasCause device tracks last y → x ≡ y
one_cause device tracks last whys.Org y h g = absurd h
one_cause device tracks last whys.Directory y h g = absurd h
one_cause device tracks last whys.UserTtrs y h g = absurd h
one_cause device tracks last x whys.Org h g = absurd g
one_cause device tracks last x whys.Directory h g = absurd g
one_cause device tracks last x whys.UserTtrs h g = absurd g
one_cause device tracks last whys.NoEnd whys.NoEnd h g = refl
one_cause device tracks last whys.Long whys.Long h g = refl
one_cause device tracks last whys.NoEnd whys.Long h g = absurd (no_end_or_long device tracks last h g)
one_cause device tracks last whys.Long whys.NoEnd h g = absurd (no_end_or_long device tracks last g h)

cause_or_long : (device : Device) (tracks : List Track) (last : List ℕ) (cause : Why) (l m : ℕ) → HasCause device tracks last cause → ¬ HasTooLong device tracks last l m
cause_or_long device tracks last whys.Org l m h g = h
cause_or_long device tracks last whys.Directory l m h g = h
cause_or_long device tracks last whys.UserTtrs l m h g = h
cause_or_long device tracks last whys.NoEnd l m h g = elim g.held [ inl none ↦ h.0 none.0 | inr held ↦ no_end_held (records_of tracks) g.content held.1 h.1 ]
cause_or_long device tracks last whys.Long l m h g =
    let same = same_content tracks last g.content h.content g.held h.held in
    none_too_long device h.content (end_of_file ∷ []) h.many.groups l m h.many.grouped (subst (λ (c : List Block). IsFirstTooLong device c l m) same g.first)

pub same_sequential_refusal : (device : Device) (tracks : List Track) (last : List ℕ) (a b : RelocFault) → a ≢ NoMemory → b ≢ NoMemory → IsRefusal device tracks last a → IsRefusal device tracks last b → a ≡ b
same_sequential_refusal device tracks last NoMemory b p q h g = absurd (p refl)
same_sequential_refusal device tracks last a NoMemory p q h g = absurd (q refl)
same_sequential_refusal device tracks last (NotRelocatable w) (NotRelocatable v) p q h g =
    ap NotRelocatable (h.1 ∙ ap number_of (one_cause device tracks last h.0 g.0 h.2 g.2) ∙ sym g.1)
same_sequential_refusal device tracks last (NotRelocatable w) (BlockTooLong l m) p q h g = absurd (cause_or_long device tracks last h.0 l m h.2 g)
same_sequential_refusal device tracks last (BlockTooLong l m) (NotRelocatable v) p q h g = absurd (cause_or_long device tracks last g.0 l m g.2 h)
same_sequential_refusal device tracks last (BlockTooLong l m) (BlockTooLong l' m') p q h g =
    let same = same_content tracks last h.content g.content h.held g.held in
    same_long device g.content l m l' m' (subst (λ (c : List Block). IsFirstTooLong device c l m) same h.first) g.first

-- ---- a partitioned data set

-- records hold the same blocks up to their first end of file, or to their end
one_hold : (recs : List Rec) (a b : List Block) (x y : Bool) → Hold recs a x → Hold recs b y → a ≡ b
one_hold recs a b true true h g = one_content recs a b h g
one_hold recs a b true false h g = absurd (no_end_held recs a h g.0)
one_hold recs a b false true h g = absurd (no_end_held recs b g h.0)
one_hold recs a b false false h g = h.1 ∙ sym g.1

users_or_broken : (tracks : List Track) → HasUsers tracks → ¬ HasBrokenDirectory tracks
users_or_broken tracks h g =
    let same = one_hold (records_of tracks) g.blocks h.blocks g.front.ended h.front.ended g.front.held h.front.held in
    user_or_broken h.blocks g.entries h.user g.plain (subst (λ (l : List Block). IsBrokenAfter l g.entries) same g.broken)

users_or_front : (tracks : List Track) (ended : Bool) (pages : List Page) → HasUsers tracks → ¬ HasFrontDirectory tracks ended pages
users_or_front tracks ended pages h g =
    let same = one_hold (records_of tracks) g.blocks h.blocks ended h.front.ended g.held h.front.held in
    no_user h.blocks pages (subst (λ (l : List Block). IsDirectory l pages) same g.directory) g.plain h.user

broken_or_front : (tracks : List Track) (ended : Bool) (pages : List Page) → HasBrokenDirectory tracks → ¬ HasFrontDirectory tracks ended pages
broken_or_front tracks ended pages h g =
    let same = one_hold (records_of tracks) g.blocks h.blocks ended h.front.ended g.held h.front.held in
    not_broken h.blocks pages h.entries (subst (λ (l : List Block). IsDirectory l pages) same g.directory) h.broken

one_front : (tracks : List Track) (x y : Bool) (pages others : List Page) → HasFrontDirectory tracks x pages → HasFrontDirectory tracks y others → pages ≡ others
one_front tracks x y pages others h g =
    let same = one_hold (records_of tracks) h.blocks g.blocks x y h.held g.held in
    one_directory g.blocks others pages g.directory (subst (λ (l : List Block). IsDirectory l pages) same h.directory)

lost_or_endless : (tracks : List Track) → HasLostEntry tracks → ¬ HasNoEndThere tracks
lost_or_endless tracks h g =
    let same = one_front tracks g.ended h.ended g.pages h.pages g.directory h.directory in
    h.lost (subst (λ (l : List Page). All (λ (entry : Entry). NamesOne tracks entry.place) (entries_of l)) same g.named)

-- a cause that stands on any device, and one that stands on this device alone
fault_or_long : (device : Device) (tracks : List Track) (cause : Why) (l m : ℕ) → StandsAgainst device tracks cause → ¬ HasLongBlock device tracks l m
fault_or_long device tracks whys.Org l m h g = h
fault_or_long device tracks whys.UserTtrs l m h g = no_fault tracks g.pages g.behind g.members whys.UserTtrs g.movable h
fault_or_long device tracks whys.Directory l m h g = no_fault tracks g.pages g.behind g.members whys.Directory g.movable h
fault_or_long device tracks whys.NoEnd l m h g = no_fault tracks g.pages g.behind g.members whys.NoEnd g.movable h
fault_or_long device tracks whys.Long l m h g =
    let same = one_movable tracks g.pages h.pages g.behind h.behind g.members h.members g.movable h.movable in
    long_or_many device (all_blocks g.pages g.behind g.members) l m (subst (TakeTooMany device) same h.many) g.first

directory_or_endless : (tracks : List Track) → HasFault tracks whys.Directory → ¬ HasNoEndThere tracks
directory_or_endless tracks (inl h) g = broken_or_front tracks g.ended g.pages h g.directory
directory_or_endless tracks (inr h) g = lost_or_endless tracks h g

users_or_directory : (tracks : List Track) → HasUsers tracks → ¬ HasFault tracks whys.Directory
users_or_directory tracks h (inl g) = users_or_broken tracks h g
users_or_directory tracks h (inr g) = users_or_front tracks g.ended g.pages h g.directory

one_against : (device : Device) (tracks : List Track) (x y : Why) → StandsAgainst device tracks x → StandsAgainst device tracks y → x ≡ y
one_against device tracks whys.Org y h g = absurd h
one_against device tracks x whys.Org h g = absurd g
one_against device tracks whys.UserTtrs whys.UserTtrs h g = refl
one_against device tracks whys.Directory whys.Directory h g = refl
one_against device tracks whys.NoEnd whys.NoEnd h g = refl
one_against device tracks whys.Long whys.Long h g = refl
one_against device tracks whys.UserTtrs whys.Directory h g = absurd (users_or_directory tracks h g)
one_against device tracks whys.Directory whys.UserTtrs h g = absurd (users_or_directory tracks g h)
one_against device tracks whys.UserTtrs whys.NoEnd h g = absurd (users_or_front tracks g.ended g.pages h g.directory)
one_against device tracks whys.NoEnd whys.UserTtrs h g = absurd (users_or_front tracks h.ended h.pages g h.directory)
one_against device tracks whys.Directory whys.NoEnd h g = absurd (directory_or_endless tracks h g)
one_against device tracks whys.NoEnd whys.Directory h g = absurd (directory_or_endless tracks g h)
one_against device tracks whys.Long whys.UserTtrs h g = absurd (no_fault tracks h.pages h.behind h.members whys.UserTtrs h.movable g)
one_against device tracks whys.Long whys.Directory h g = absurd (no_fault tracks h.pages h.behind h.members whys.Directory h.movable g)
one_against device tracks whys.Long whys.NoEnd h g = absurd (no_fault tracks h.pages h.behind h.members whys.NoEnd h.movable g)
one_against device tracks whys.UserTtrs whys.Long h g = absurd (no_fault tracks g.pages g.behind g.members whys.UserTtrs g.movable h)
one_against device tracks whys.Directory whys.Long h g = absurd (no_fault tracks g.pages g.behind g.members whys.Directory g.movable h)
one_against device tracks whys.NoEnd whys.Long h g = absurd (no_fault tracks g.pages g.behind g.members whys.NoEnd g.movable h)

pub same_partitioned_refusal : (device : Device) (tracks : List Track) (a b : RelocFault) → a ≢ NoMemory → b ≢ NoMemory → IsPartitionedRefusal device tracks a → IsPartitionedRefusal device tracks b → a ≡ b
same_partitioned_refusal device tracks NoMemory b p q h g = absurd (p refl)
same_partitioned_refusal device tracks a NoMemory p q h g = absurd (q refl)
same_partitioned_refusal device tracks (NotRelocatable w) (NotRelocatable v) p q h g =
    ap NotRelocatable (h.1 ∙ ap number_of (one_against device tracks h.0 g.0 h.2 g.2) ∙ sym g.1)
same_partitioned_refusal device tracks (NotRelocatable w) (BlockTooLong l m) p q h g = absurd (fault_or_long device tracks h.0 l m h.2 g)
same_partitioned_refusal device tracks (BlockTooLong l m) (NotRelocatable v) p q h g = absurd (fault_or_long device tracks g.0 l m g.2 h)
same_partitioned_refusal device tracks (BlockTooLong l m) (BlockTooLong l' m') p q h g =
    let same = one_movable tracks g.pages h.pages g.behind h.behind g.members h.members g.movable h.movable in
    same_long device (all_blocks g.pages g.behind g.members) l m l' m' (subst (λ (c : List Block). IsFirstTooLong device c l m) same h.first) g.first
