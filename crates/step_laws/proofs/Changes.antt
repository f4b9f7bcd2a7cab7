-- What a change leaves on a volume is one volume, and the names of its data sets differ again.
use Rattle.std.proofs.Common.{◌≡◌, ◌≢◌, List, [], ◌∷◌, ◌++◌, All, sym, ap, subst, ◌∙◌}
use Rattle.std.proofs.lemmas.List.Elements.{All-weaker}
use Rattle.volume_model.specs.Changed.{ChangesSets}
use Rattle.volume_model.specs.Unit.{DataSet, AreByName, OnlineVolume}
use Rattle.step_laws.proofs.Pairs.{pairs_without, pairs_with}
use Rattle.step_laws.proofs.Names.{AreApart, split_by_name, still_apart, renamed}
use Rattle.step_laws.proofs.Insertion.{one_place}
use Rattle.step_laws.proofs.Fives.{left_with, one_volume}

abbrev pub NoneHas : DataSet → List DataSet → Type 0
NoneHas copy sets = All (λ other. other.name ≢ copy.name) sets

-- ---- a change with known parts

module _ {old new : OnlineVolume} {gone put : List DataSet} (change : ChangesSets old new gone put) where
  pub sets_before : (list : List DataSet) → gone ≡ list → old.sets ≡ change.front ++ (list ++ change.back)
  sets_before list is = change.sets_were ∙ ap (λ (sets : List DataSet). change.front ++ (sets ++ change.back)) is

  pub sets_after : (list : List DataSet) → put ≡ list → new.sets ≡ change.front ++ (list ++ change.back)
  sets_after list is =
      ap (λ (volume : OnlineVolume). volume.sets) change.after_is ∙ ap (λ (sets : List DataSet). change.front ++ (sets ++ change.back)) is

  -- ---- names that differ

  -- a data set in the place of one of its name
  pub apart_renamed : (set next : DataSet) → gone ≡ set ∷ [] → put ≡ next ∷ [] → set.name ≡ next.name → AreApart old.sets → AreApart new.sets
  apart_renamed set next gone_is put_is named apart =
      subst AreApart (sym (sets_after (next ∷ []) put_is))
      (still_apart (change.front ++ (set ∷ change.back)) (change.front ++ (next ∷ change.back)) (renamed change.front change.back set next named)
      (subst AreApart (sets_before (set ∷ []) gone_is) apart))

  -- one that goes
  pub apart_without : (set : DataSet) → gone ≡ set ∷ [] → put ≡ [] → AreApart old.sets → AreApart new.sets
  apart_without set gone_is put_is apart =
      subst AreApart (sym (sets_after [] put_is))
      (pairs_without (λ (one other : DataSet). one.name ≢ other.name) change.front change.back set (subst AreApart (sets_before (set ∷ []) gone_is) apart))

  -- one that comes
  pub apart_with : (copy : DataSet) → gone ≡ [] → put ≡ copy ∷ [] → NoneHas copy old.sets → AreApart old.sets → AreApart new.sets
  apart_with copy gone_is put_is none apart =
      let others : NoneHas copy (change.front ++ change.back) = subst (NoneHas copy) (sets_before [] gone_is) none in
      subst AreApart (sym (sets_after (copy ∷ []) put_is))
      (pairs_with (λ (one other : DataSet). one.name ≢ other.name) (λ one other differ same. differ (sym same)) change.front change.back copy
      (All-weaker (λ (other : DataSet). other.name ≢ copy.name) (λ (other : DataSet). copy.name ≢ other.name) (λ other differ same. differ (sym same)) (change.front ++ change.back) others)
      (subst AreApart (sets_before [] gone_is) apart))

  -- none of either
  pub apart_still : gone ≡ [] → put ≡ [] → AreApart old.sets → AreApart new.sets
  apart_still gone_is put_is apart = subst AreApart (sets_before [] gone_is ∙ sym (sets_after [] put_is)) apart

-- ---- two changes of one volume

module _ {old a b : OnlineVolume} {gone put less more : List DataSet} (one : ChangesSets old a gone put) (other : ChangesSets old b less more) where
  same_new : one.front ++ (put ++ one.back) ≡ other.front ++ (more ++ other.back) → a ≡ b
  same_new same =
      one_volume old (one.front ++ (put ++ one.back)) a b one.after_is (other.after_is ∙ ap (λ (sets : List DataSet). left_with old sets b.fives) (sym same)) one.fives other.fives

  -- where a data set of one name goes
  pub new_by_name : AreApart old.sets → (set another : DataSet) → gone ≡ set ∷ [] → less ≡ another ∷ [] → set.name ≡ another.name → (set ≡ another → put ≡ more) → a ≡ b
  new_by_name apart set another gone_is less_is named put_is =
      let were = sets_before one (set ∷ []) gone_is in
      let split =
      split_by_name one.front one.back set other.front other.back another (subst AreApart were apart) (sym were ∙ sets_before other (another ∷ []) less_is) named in
      same_new (λ i. split.0 i ++ (put_is split.1 i ++ split.2 i))

  -- where a data set comes of whose name there is none
  pub new_by_order : (copy : DataSet) → gone ≡ [] → less ≡ [] → put ≡ copy ∷ [] → more ≡ copy ∷ [] → NoneHas copy old.sets → AreByName a.sets → AreByName b.sets → a ≡ b
  new_by_order copy gone_is less_is put_is more_is none order order_too =
      let were = sets_before one [] gone_is in
      same_new (ap (λ (sets : List DataSet). one.front ++ (sets ++ one.back)) put_is
      ∙ one_place copy one.front one.back other.front other.back (sym were ∙ sets_before other [] less_is) (subst (NoneHas copy) were none)
      (subst AreByName (sets_after one (copy ∷ []) put_is) order) (subst AreByName (sets_after other (copy ∷ []) more_is) order_too)
      ∙ ap (λ (sets : List DataSet). other.front ++ (sets ++ other.back)) (sym more_is))

  -- where none goes and none comes
  pub new_still : gone ≡ [] → less ≡ [] → put ≡ [] → more ≡ [] → a ≡ b
  new_still gone_is less_is put_is more_is =
      same_new (ap (λ (sets : List DataSet). one.front ++ (sets ++ one.back)) put_is
      ∙ sym (sets_before one [] gone_is) ∙ sets_before other [] less_is
      ∙ ap (λ (sets : List DataSet). other.front ++ (sets ++ other.back)) (sym more_is))
