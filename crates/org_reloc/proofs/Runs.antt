-- Records up to an end of file.
use Rattle.std.proofs.Common.{◌≡◌, ℕ, ◌+◌, ◌<◌, Bool, List, [], ◌∷◌, ◌++◌, length, length-append, take, drop, map, get_or, All, true, false, refl, sym, ap, subst, ◌∙◌, arith, append_assoc}
use Rattle.std.proofs.lemmas.List.{get_or_append_left, take_more, drop_more, take-append-drop, map-append, map_more, append-nil}
use Rattle.std.proofs.lemmas.List.Concat.{flat_map-append}
use Rattle.std.proofs.lemmas.List.Elements.{All-nil, All-head, All-tail, All-append, All-map, All-weaker}
use Rattle.ckd_image.specs.Track.{IsRecord, IsTrack}
use Rattle.ckd_image.specs.declared.track.Rec.{Rec}
use Rattle.ckd_image.specs.declared.track.Track.{Track}
use Rattle.org_reloc.specs.declared.block.Block.{Block}
use Rattle.org_reloc.specs.Content.{block_of, IsBlock, IsEnd, records_of, HasNoEnd, HoldUpToEnd, Hold, TakesOver}

-- a list is what stands before an element, the element, and what stands behind it
pub split_at : {X : Type 0} (xs : List X) (i : ℕ) (x : X) → i < length xs → x ≡ get_or xs i x → xs ≡ take i xs ++ x ∷ drop (i + 1) xs
split_at xs i x lt is =
    sym (take-append-drop i xs) ∙ ap (λ ys. take i xs ++ ys) (drop_more xs i x lt ∙ ap (λ y. y ∷ drop (i + 1) xs) (sym is))

pub ends_at : (recs : List Rec) (i : ℕ) (rec : Rec) → i < length recs → rec ≡ get_or recs i rec → HasNoEnd (take i recs) → IsEnd rec → HoldUpToEnd recs (map block_of (take i recs))
ends_at recs i rec lt is none end = record {
  run = take i recs;
  end = rec;
  behind = drop (i + 1) recs;
  spelled = split_at recs i rec lt is;
  before = none;
  ends = end;
  blocks_are = refl;
}

-- one more of them
pub map_step : {X Y : Type 0} (f : X → Y) (xs : List X) (i : ℕ) (x : X) (y : Y) (old ys zs : List Y) → i < length xs → x ≡ get_or xs i x → y ≡ f x
    → ys ≡ old ++ map f (take i xs) → zs ≡ ys ++ y ∷ [] → zs ≡ old ++ map f (take (i + 1) xs)
map_step f xs i x y old ys zs lt is e p q =
    q ∙ ap (λ l. l ++ y ∷ []) p ∙ append_assoc old (map f (take i xs)) (y ∷ [])
    ∙ ap (λ l. old ++ l) (ap (λ v. map f (take i xs) ++ v ∷ []) (e ∙ ap f is) ∙ sym (map_more f xs i x lt))

-- records behind others among which no end of file is
pub held_behind : (front recs behind : List Rec) (old new : List Block) → HasNoEnd front → old ≡ map block_of front → TakesOver recs old new true → HoldUpToEnd (front ++ (recs ++ behind)) new
held_behind front recs behind old new none e t = record {
  run = front ++ t.held.run;
  end = t.held.end;
  behind = t.held.behind ++ behind;
  spelled = ap (λ l. front ++ (l ++ behind)) t.held.spelled ∙ ap (λ l. front ++ l) (append_assoc t.held.run (t.held.end ∷ t.held.behind) behind)
      ∙ sym (append_assoc front t.held.run (t.held.end ∷ (t.held.behind ++ behind)));
  before = All-append (λ rec. ¬ IsEnd rec) front t.held.run none t.held.before;
  ends = t.held.ends;
  blocks_are = t.new_is ∙ ap (λ l. l ++ t.taken) e ∙ ap (λ l. map block_of front ++ l) t.held.blocks_are ∙ sym (map-append block_of front t.held.run);
}

pub held_none : (front recs : List Rec) (old new : List Block) → HasNoEnd front → old ≡ map block_of front → TakesOver recs old new false → HasNoEnd (front ++ recs) × (new ≡ map block_of (front ++ recs))
held_none front recs old new none e t = (
  All-append (λ rec. ¬ IsEnd rec) front recs none t.held.0,
  t.new_is ∙ ap (λ l. l ++ t.taken) e ∙ ap (λ l. map block_of front ++ l) t.held.1 ∙ sym (map-append block_of front recs),
)

-- the records of tracks up to one, of it, and of those behind it
pub records_split : (tracks : List Track) (i : ℕ) (track : Track) → i < length tracks → track ≡ get_or tracks i track
    → records_of tracks ≡ records_of (take i tracks) ++ (track.recs ++ records_of (drop (i + 1) tracks))
records_split tracks i track lt is =
    ap records_of (split_at tracks i track lt is) ∙ flat_map-append (λ (t : Track). t.recs) (take i tracks) (track ∷ drop (i + 1) tracks)

pub records_more : (tracks : List Track) (i : ℕ) (track : Track) → i < length tracks → track ≡ get_or tracks i track
    → records_of (take (i + 1) tracks) ≡ records_of (take i tracks) ++ track.recs
records_more tracks i track lt is =
    ap records_of (take_more tracks i track lt) ∙ flat_map-append (λ (t : Track). t.recs) (take i tracks) (get_or tracks i track ∷ [])
    ∙ ap (λ l. records_of (take i tracks) ++ l) (append-nil (get_or tracks i track).recs ∙ ap (λ (t : Track). t.recs) (sym is))

-- the first records, and the tracks behind them
pub run_ends : (recs : List Rec) (tracks : List Track) (i : ℕ) (track : Track) (old new : List Block) → i < length tracks → track ≡ get_or tracks i track
    → HasNoEnd (recs ++ records_of (take i tracks)) → old ≡ map block_of (recs ++ records_of (take i tracks)) → TakesOver track.recs old new true → HoldUpToEnd (recs ++ records_of tracks) new
run_ends recs tracks i track old new lt is none e t =
    let held = held_behind (recs ++ records_of (take i tracks)) track.recs (records_of (drop (i + 1) tracks)) old new none e t in
    subst (λ (l : List Rec). HoldUpToEnd l new)
    (append_assoc recs (records_of (take i tracks)) (track.recs ++ records_of (drop (i + 1) tracks)) ∙ ap (λ l. recs ++ l) (sym (records_split tracks i track lt is)))
    held

pub run_goes_on : (recs : List Rec) (tracks : List Track) (i : ℕ) (track : Track) (old new : List Block) → i < length tracks → track ≡ get_or tracks i track
    → HasNoEnd (recs ++ records_of (take i tracks)) → old ≡ map block_of (recs ++ records_of (take i tracks)) → TakesOver track.recs old new false
    → HasNoEnd (recs ++ records_of (take (i + 1) tracks)) × (new ≡ map block_of (recs ++ records_of (take (i + 1) tracks)))
run_goes_on recs tracks i track old new lt is none e t =
    let held = held_none (recs ++ records_of (take i tracks)) track.recs old new none e t in
    subst (λ (l : List Rec). HasNoEnd l × (new ≡ map block_of l))
    (append_assoc recs (records_of (take i tracks)) track.recs ∙ ap (λ l. recs ++ l) (sym (records_more tracks i track lt is)))
    held

-- the same where others stood before
pub takes_end : (recs : List Rec) (tracks : List Track) (i : ℕ) (track : Track) (base old new : List Block) → i < length tracks → track ≡ get_or tracks i track
    → HasNoEnd (recs ++ records_of (take i tracks)) → old ≡ base ++ map block_of (recs ++ records_of (take i tracks)) → TakesOver track.recs old new true → TakesOver (recs ++ records_of tracks) base new true
takes_end recs tracks i track base old new lt is none e t =
    let front = map block_of (recs ++ records_of (take i tracks)) in
    record {
      taken = front ++ t.taken;
      new_is = t.new_is ∙ ap (λ l. l ++ t.taken) e ∙ append_assoc base front t.taken;
      held = run_ends recs tracks i track front (front ++ t.taken) lt is none refl (record { taken = t.taken; new_is = refl; held = t.held });
    }

pub takes_more : (recs : List Rec) (tracks : List Track) (i : ℕ) (track : Track) (base old new : List Block) → i < length tracks → track ≡ get_or tracks i track
    → HasNoEnd (recs ++ records_of (take i tracks)) → old ≡ base ++ map block_of (recs ++ records_of (take i tracks)) → TakesOver track.recs old new false
    → HasNoEnd (recs ++ records_of (take (i + 1) tracks)) × (new ≡ base ++ map block_of (recs ++ records_of (take (i + 1) tracks)))
takes_more recs tracks i track base old new lt is none e t =
    let front = map block_of (recs ++ records_of (take i tracks)) in
    let h = run_goes_on recs tracks i track front (front ++ t.taken) lt is none refl (record { taken = t.taken; new_is = refl; held = t.held }) in
    (h.0, t.new_is ∙ ap (λ l. l ++ t.taken) e ∙ append_assoc base front t.taken ∙ ap (λ l. base ++ l) h.1)

-- ---- blocks that records hold

pub All_front : {X : Type 0} (P : X → Type 0) (xs ys : List X) → All P (xs ++ ys) → All P xs
All_front P xs ys each = λ k d lt. subst P (get_or_append_left xs ys d k lt) (each k d (omega (arith, length-append xs ys)))

pub All_back : {X : Type 0} (P : X → Type 0) (xs ys : List X) → All P (xs ++ ys) → All P ys
All_back P [] ys each = each
All_back P (x ∷ xs) ys each = All_back P xs ys (All-tail P x (xs ++ ys) each)

-- an element in the middle
pub All_middle : {X : Type 0} (P : X → Type 0) (xs : List X) (y : X) (ys : List X) → All P (xs ++ y ∷ ys) → P y
All_middle P xs y ys each = All-head P y ys (All_back P xs (y ∷ ys) each)

sized : (rec : Rec) → IsRecord rec → IsBlock (block_of rec)
sized rec h = record { key_fits = h.key_fits; body_fits = h.body_fits }

pub all_sized : (recs : List Rec) → All IsRecord recs → All IsBlock (map block_of recs)
all_sized recs each = All-map IsBlock block_of recs (All-weaker IsRecord (λ rec. IsBlock (block_of rec)) sized recs each)

pub held_sized : (ended : Bool) (recs : List Rec) (blocks : List Block) → Hold recs blocks ended → All IsRecord recs → All IsBlock blocks
held_sized true recs blocks h each =
    subst (All IsBlock) (sym h.blocks_are) (all_sized h.run (All_front IsRecord h.run (h.end ∷ h.behind) (subst (All IsRecord) h.spelled each)))
held_sized false recs blocks h each = subst (All IsBlock) (sym h.1) (all_sized recs each)

pub all_records : (tracks : List Track) → All IsTrack tracks → All IsRecord (records_of tracks)
all_records [] each = All-nil IsRecord
all_records (track ∷ more) each =
    All-append IsRecord track.recs (records_of more) (All-head IsTrack track more each).records (all_records more (All-tail IsTrack track more each))
