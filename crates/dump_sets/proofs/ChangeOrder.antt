-- Data sets that are changed one after the other.
use Rattle.std.proofs.Common.{◌≡◌, ◌≢◌, ℕ, List, [], ◌∷◌, sym, subst}
use Rattle.std.specs.Prelude.{AllPairs}
use Rattle.std.proofs.lemmas.List.Elements.{All-nil, All-cons, All-head, All-tail, All-weaker}
use Rattle.dsn_filter.specs.declared.dsn.Dsn.{Dsn}
use Rattle.unit_load.specs.declared.state.UnitState.{UnitState}
use Rattle.job_dumps.proofs.job_turns.job_copies.unit_steps.Readying.{pairs_first, pairs_rest}
use Rattle.dump_sets.specs.Changing.{HasFew, MayChangeSets, StaysForOthers}

module _ {room : ℕ} {units : List UnitState} {unit : ℕ} (name : Dsn) {left : List Dsn} (later : List Dsn) (is : left ≡ name ∷ later) (may : MayChangeSets room units unit left) where
  may_all : MayChangeSets room units unit (name ∷ later)
  may_all = subst (MayChangeSets room units unit) is may

  -- the first can be
  pub may_first : MayChangeSets room units unit (name ∷ [])
  may_first = record {
    may = may_all.may;
    stated = may_all.stated;
    states = may_all.states;
    sets = All-cons (HasFew may_all.may.volume) name [] (All-head (HasFew may_all.may.volume) name later may_all.sets) (All-nil (HasFew may_all.may.volume));
  }

  may_rest : MayChangeSets room units unit later
  may_rest = record {
    may = may_all.may;
    stated = may_all.stated;
    states = may_all.states;
    sets = All-tail (HasFew may_all.may.volume) name later may_all.sets;
  }

  -- and behind it the others
  pub may_others : {after : List UnitState} → AllPairs (λ one other. one ≢ other) left → StaysForOthers room units after unit name → MayChangeSets room after unit later
  may_others apart stays =
      stays later
      (All-weaker (λ (other : Dsn). name ≢ other) (λ (other : Dsn). other ≢ name) (λ other differ same. differ (sym same)) later
      (pairs_first (λ (one other : Dsn). one ≢ other) name later (subst (AllPairs (λ (one other : Dsn). one ≢ other)) is apart))) may_rest

  pub apart_others : AllPairs (λ one other. one ≢ other) left → AllPairs (λ one other. one ≢ other) later
  apart_others apart = pairs_rest (λ (one other : Dsn). one ≢ other) name later (subst (AllPairs (λ (one other : Dsn). one ≢ other)) is apart)
