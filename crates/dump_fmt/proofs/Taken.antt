-- What outputs take, piece after piece.
use Rattle.std.proofs.Common.{◌≡◌, ◌≢◌, ◌⊎◌, inl, inr, ℕ, ◌+◌, ◌-◌, ◌^◌, ◌<◌, ◌≤◌, true, List, ◌++◌, length, take, get_or, Option, refl, sym, ap, subst, ◌∙◌, arith, length-append}
use Rattle.std.proofs.lemmas.List.{take-append-le}
use Rattle.std.proofs.Math.Seq.{take-append-add}
use Rattle.std.proofs.lemmas.Option.{slice_get-get_or, slice_get_within}
use Rattle.dasd_pool.specs.Count.{Rose}
use Rattle.dasd_pool.specs.Stream.{Appends, AppendsSome}
use Rattle.dump_fmt.specs.declared.outs.OutState.{OutState}
use Rattle.dump_fmt.specs.declared.outs.OutState.TheVariants as states
use Rattle.dump_fmt.specs.Outs.{OutSeen, marked, HoldsAll, HoldsFront, HasTaken, IsSentTo, IsEnded, IsFinished, AreFinished, EachAt}
use Rattle.dasd_pool.proofs.Streams.{rose_since, appends_then, appends_some_then, all_some}

-- ---- counts and bytes

rose_later : (a m b : ℕ) → Rose a m → m ≤ b → Rose a b
rose_later a m b rose later = λ short. let before : m < 2 ^ 64 - 1 = omega (arith, short, later) in omega (arith, rose before, later)

appends_same : (old new : Option (List ℕ)) (x y : List ℕ) → x ≡ y → Appends old new x → Appends old new y
appends_same old new x y same took = subst (Appends old new) same took

take_left : (n : ℕ) (x y : List ℕ) → n ≤ length x → take n (x ++ y) ≡ take n x
take_left n x y within = take-append-le n x y within

take_right : (n : ℕ) (x y : List ℕ) → take (length x + n) (x ++ y) ≡ x ++ take n y
take_right n x y = take-append-add x y n

some_more : (old new : Option (List ℕ)) (x y : List ℕ) → AppendsSome old new x → AppendsSome old new (x ++ y)
some_more old new x y part = (part.0, omega (arith, part.1, length-append x y), appends_same old new (take part.0 x) _ (sym (take_left part.0 x y part.1)) part.2)

-- ---- outputs

cut_not_lost : (state : OutState) → state ≡ states.Cut → state ≢ states.Lost
cut_not_lost state cut lost = cc

-- behind what was taken, the next bytes
sent_behind : (text piece : List ℕ) (a m b : OutSeen) → m.name ≡ a.name → HoldsAll states.Cut text a m → HasTaken m.state piece m b → HasTaken states.Cut (text ++ piece) a b
sent_behind text piece a m b name all sent = elim sent.taken [
  | inl more ↦ record {
    name = sent.name ∙ name;
    taken = inl (record {
      state_is = more.state_is ∙ all.state_is;
      later = omega (arith, all.later, more.later);
      took = appends_then a.held m.held b.held text piece all.took more.took;
    });
  }
  | inr lost ↦ record {
    name = sent.name ∙ name;
    taken = inr (record {
      state_is = lost.state_is;
      cause = rose_since a.faults m.faults b.faults all.later lost.cause;
      took = appends_some_then a.held m.held b.held text piece all.took lost.took;
    });
  }
]

stays_lost : (state : OutState) (text piece : List ℕ) (a b : OutSeen) → b.name ≡ a.name → HoldsFront text a b → HasTaken state (text ++ piece) a b
stays_lost state text piece a b name lost = record {
  name = name;
  taken = inr (record { state_is = lost.state_is; cause = lost.cause; took = some_more a.held b.held text piece lost.took });
}

pub taken_more : {X : Type 0} (seen : X → OutSeen) (text piece : List ℕ) (a m b : X) → HasTaken states.Cut text (seen a) (seen m) → IsSentTo seen piece m b
    → HasTaken states.Cut (text ++ piece) (seen a) (seen b)
taken_more {X} seen text piece a m b taken sent = elim taken.taken [
  | inl all ↦ sent_behind text piece (seen a) (seen m) (seen b) taken.name all (sent.sent (cut_not_lost (seen m).state all.state_is))
  | inr lost ↦ subst (λ (x : X). HasTaken states.Cut (text ++ piece) (seen a) (seen x)) (sym (sent.lost lost.state_is)) (stays_lost states.Cut text piece (seen a) (seen m) taken.name lost)
]

-- the first bytes on one that was begun
first_on : (text : List ℕ) (a b : OutSeen) → HasTaken states.Cut text (marked states.Cut a) b → HasTaken states.Cut text a b
first_on text a b taken = elim taken.taken [
  | inl all ↦ record { name = taken.name; taken = inl (record { state_is = all.state_is; later = all.later; took = all.took }) }
  | inr lost ↦ record { name = taken.name; taken = inr (record { state_is = lost.state_is; cause = lost.cause; took = lost.took }) }
]

pub taken_first : {X : Type 0} (seen : X → OutSeen) (text : List ℕ) (a m b : X) → seen m ≡ marked states.Cut (seen a) → IsSentTo seen text m b → HasTaken states.Cut text (seen a) (seen b)
taken_first seen text a m b begun sent =
    let cut : (seen m).state ≡ states.Cut = ap (λ (o : OutSeen). o.state) begun in
    let taken : HasTaken states.Cut text (seen m) (seen b) = subst (λ (s : OutState). HasTaken s text (seen m) (seen b)) cut (sent.sent (cut_not_lost (seen m).state cut)) in
    first_on text (seen a) (seen b) (subst (λ (o : OutSeen). HasTaken states.Cut text o (seen b)) begun taken)

-- the end
ended_on : (text : List ℕ) (a m b : OutSeen) → m.name ≡ a.name → HoldsAll states.Cut text a m → IsEnded m b → HasTaken states.Whole text a b
ended_on text a m b name all done =
    let took : Appends a.held b.held text = subst (λ (o : Option (List ℕ)). Appends a.held o text) (sym done.held) all.took in
    elim done.ended [
      | inl whole ↦ record { name = done.name ∙ name; taken = inl (record { state_is = whole; later = omega (arith, all.later, done.later); took = took }) }
      | inr lost ↦ record {
        name = done.name ∙ name;
        taken = inr (record { state_is = lost.0; cause = rose_since a.faults m.faults b.faults all.later lost.1; took = all_some a.held b.held text took });
      }
    ]

lost_at_end : (text : List ℕ) (a b : OutSeen) → b.name ≡ a.name → HoldsFront text a b → HasTaken states.Whole text a b
lost_at_end text a b name lost = record { name = name; taken = inr lost }

pub taken_end : {X : Type 0} (seen : X → OutSeen) (text : List ℕ) (a m b : X) → HasTaken states.Cut text (seen a) (seen m) → IsFinished seen m b → HasTaken states.Whole text (seen a) (seen b)
taken_end {X} seen text a m b taken done = elim taken.taken [
  | inl all ↦ ended_on text (seen a) (seen m) (seen b) taken.name all (done.done (cut_not_lost (seen m).state all.state_is))
  | inr lost ↦ subst (λ (x : X). HasTaken states.Whole text (seen a) (seen x)) (sym (done.lost lost.state_is)) (lost_at_end text (seen a) (seen m) taken.name lost)
]

-- ---- what is finished

lost_or_not : (state : OutState) → (state ≡ states.Lost) ⊎ (state ≢ states.Lost)
lost_or_not states.Unused = inr (λ e. cc)
lost_or_not states.Whole = inr (λ e. cc)
lost_or_not states.Lost = inl refl
lost_or_not states.Cut = inr (λ e. cc)

not_both : (state : OutState) → state ≡ states.Whole → state ≢ states.Lost
not_both state whole lost = cc

whole_at_end : {X : Type 0} (seen : X → OutSeen) (a b : X) → IsFinished seen a b → (seen b).state ≡ states.Whole → (seen b).finished ≡ true
whole_at_end seen a b done whole = elim (lost_or_not (seen a).state) [
  | inl lost ↦ absurd (not_both (seen b).state whole (ap (λ x. (seen x).state) (done.lost lost) ∙ lost))
  | inr not ↦ (done.done not).finished whole
]

pub are_finished : {X : Type 0} (seen : X → OutSeen) (places : List ℕ) (old new : List X) → EachAt (IsFinished seen) places old new → AreFinished seen places new
are_finished {X} seen places old new e = λ place out has is whole.
    let within : place < length old = subst (λ (n : ℕ). place < n) e.same_length (slice_get_within new place out is) in
    whole_at_end seen (get_or old place out) out (e.done place (get_or old place out) out has (slice_get-get_or old place out within) is) whole
