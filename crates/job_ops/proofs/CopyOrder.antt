-- The turns of data sets that are copied, one after the other.
use Rattle.std.proofs.Common.{◌≡◌, ◌≢◌, ℕ, List, [], ◌∷◌, sym, subst}
use Rattle.std.specs.Prelude.{AllPairs}
use Rattle.std.proofs.lemmas.List.Elements.{All-nil, All-cons, All-head, All-tail, All-weaker}
use Rattle.dsn_filter.specs.declared.dsn.Dsn.{Dsn}
use Rattle.vtoc_core.specs.declared.volume.Row.{Row}
use Rattle.unit_load.specs.declared.state.UnitState.{UnitState}
use Rattle.dump_sets.specs.job_turns.job_copies.unit_steps.Plans.{HasRow}
use Rattle.dump_sets.proofs.job_turns.job_copies.unit_steps.Readying.{pairs_first, pairs_rest}
use Rattle.job_ops.specs.Copying.{MayBeCopied, StaysCopyable}

module _ {delete : Rattle.std.proofs.Common.Bool} {room : ℕ} {units : List UnitState} {from to : ℕ} (name : Dsn) {left : List Dsn} (later : List Dsn) (is : left ≡ name ∷ later)
    (may : MayBeCopied delete room units from to left) where
  may_all : MayBeCopied delete room units from to (name ∷ later)
  may_all = subst (MayBeCopied delete room units from to) is may

  -- the first may be
  pub may_first : MayBeCopied delete room units from to (name ∷ [])
  may_first = record {
    source = may_all.source;
    source_loaded = may_all.source_loaded;
    may_source = may_all.may_source;
    target = may_all.target;
    like = may_all.like;
    sets =
        All-cons (λ (n : Dsn). (row : Row) × HasRow may_all.source n row) name [] (All-head (λ (n : Dsn). (row : Row) × HasRow may_all.source n row) name later may_all.sets)
        (All-nil (λ (n : Dsn). (row : Row) × HasRow may_all.source n row));
  }

  may_rest : MayBeCopied delete room units from to later
  may_rest = record {
    source = may_all.source;
    source_loaded = may_all.source_loaded;
    may_source = may_all.may_source;
    target = may_all.target;
    like = may_all.like;
    sets = All-tail (λ (n : Dsn). (row : Row) × HasRow may_all.source n row) name later may_all.sets;
  }

  -- and behind its turn the others
  pub may_others : {after : List UnitState} → AllPairs (λ one other. one ≢ other) left → StaysCopyable delete room units after from to name → MayBeCopied delete room after from to later
  may_others {after} apart stays =
      stays later
      (All-weaker (λ (other : Dsn). name ≢ other) (λ (other : Dsn). other ≢ name) (λ other differ same. differ (sym same)) later
      (pairs_first (λ (one other : Dsn). one ≢ other) name later (subst (AllPairs (λ (one other : Dsn). one ≢ other)) is apart))) may_rest

  pub apart_others : AllPairs (λ one other. one ≢ other) left → AllPairs (λ one other. one ≢ other) later
  apart_others apart = pairs_rest (λ (one other : Dsn). one ≢ other) name later (subst (AllPairs (λ (one other : Dsn). one ≢ other)) is apart)
