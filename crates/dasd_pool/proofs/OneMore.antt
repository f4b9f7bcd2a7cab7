-- One call more.
use Rattle.std.proofs.Common.{◌≡◌, inl, inr, List, [], ◌∷◌, ◌++◌, length, refl, sym, subst, arith, length-append}
use Rattle.std.proofs.lemmas.Bool.{cases_lt}
use Rattle.std.proofs.lemmas.List.{take_all, take-append-le}
use Rattle.dasd_pool.specs.declared.calls.Call.{Call}
use Rattle.dasd_pool.specs.Disk.{State, MayLeave}
use Rattle.dasd_pool.specs.Calls.{step, after, disk_after}
use Rattle.dasd_pool.proofs.Moments.{Elapses}

pub after_push : (state : State) (calls : List Call) (call : Call) → after state (calls ++ call ∷ []) ≡ step (after state calls) call
after_push state [] call = refl
after_push state (c ∷ calls) call = after_push (step state c) calls call

pub elapses_push : (state : State) (calls : List Call) (call : Call) → Elapses (disk_after state calls) (disk_after state (calls ++ call ∷ []))
elapses_push state calls call = record {
  later = omega (arith, length-append calls (call ∷ []));
  each = λ since image le left. elim (cases_lt (length calls) left.0) [
    | inl past ↦ inr (subst (λ (cs : List Call). MayLeave (after state cs) image) (take_all left.0 (calls ++ call ∷ []) (omega (arith, length-append calls (call ∷ [])))) left.3)
    | inr within ↦ inl (left.0, left.1, within, subst (λ (cs : List Call). MayLeave (after state cs) image) (take-append-le left.0 calls (call ∷ []) within) left.3)
  ];
  goes_on = λ told. told;
  keeps = λ told since image le left. (left.0, left.1, omega (arith, left.2, length-append calls (call ∷ [])), subst (λ (cs : List Call). MayLeave (after state cs) image) (sym (take-append-le left.0 calls (call ∷ []) left.2)) left.3);
}
