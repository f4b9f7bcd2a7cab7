-- A dump that was begun and put on its outputs stands there, or a front of it does.
use Rattle.std.proofs.Common.{◌≡◌, inl, inr, ℕ, false, List, Option, None, refl, sym, subst, ◌∙◌}
use Rattle.std.proofs.lemmas.Bool.{false≢true}
use Rattle.dasd_pool.specs.declared.pool.Pool.{Ghosts}
use Rattle.dsn_filter.specs.declared.dsn.Dsn.{Dsn}
use Rattle.dump_fmt.specs.declared.outs.OutState.TheVariants as states
use Rattle.dump_fmt.specs.declared.piece.DumpHead.{DumpHead}
use Rattle.dump_fmt.specs.declared.progress.Progress.{Progress}
use Rattle.dump_fmt.specs.Front.{Front, IsDump, empty_front}
use Rattle.dump_fmt.specs.Outs.{OutSeen, AreFinished}
use Rattle.dump_fmt.specs.Text.{dump_text, front_text}
use Rattle.dump_fmt.specs.Writing.{IsWriting, IsWritten, MayEnd}
use Rattle.job_lines.specs.declared.message.Reason.{Reason}
use Rattle.job_dumps.specs.job_turns.job_steps.unit_session.Sessions.{SessionView}
use Rattle.job_dumps.specs.Dumped.{DumpRequest}
use Rattle.job_dumps.specs.Passing.{LeavesAll, TakesAll}
use Rattle.job_dumps.specs.Putting.{holding}
use Rattle.job_outputs.specs.Kept.{IsKeptBut}
use Rattle.dump_sets.proofs.OutputsKept.{kept_all, kept_but, taken_used}
use Rattle.dump_sets.specs.Writing.{IsOrderedFor, LeavesDump, WritesDump}

module _ {P X : Type 0} (pools : Ghosts P) (seen : X → OutSeen) (session : SessionView P) (request : DumpRequest) (head : DumpHead) (names : List Dsn) (logical : head.full ≡ false)
    (ordered : IsOrderedFor session.units request.unit head names) (before outs : List X) (progress after : Progress) (begun : IsWriting seen before head empty_front progress outs)
    (places : List ℕ) (same_places : after.places.items ≡ places) (sent : List X) where
  module _ (told : List (Option Reason)) (takes : TakesAll pools seen session request names progress outs after sent told) where
    stands : IsWriting seen before head (holding takes.parts None) after sent
    stands = takes.holds ordered.volume ordered.loaded before head logical ordered.device_is begun

    is_dump : IsDump head (holding takes.parts None)
    is_dump = record { is_front = stands.stands; ended = refl; all_slots = λ full. absurd (false≢true (sym logical ∙ full)) }

    pub may_end : MayEnd seen after sent
    may_end = (before, head, holding takes.parts None, stands, is_dump)

    pub writes_all : (given ended : List X) → before ≡ given
        → ((first : List X) (top : DumpHead) (front : Front) → IsWriting seen first top front after sent → IsDump top front → IsWritten seen states.Whole (dump_text top front) after.places.items first ended)
        → AreFinished seen after.places.items ended → WritesDump pools seen session request head names places given ended told
    writes_all given ended is whole finished = record {
      parts = takes.parts;
      dumped = takes.dumped;
      written =
          subst (λ (list : List X). IsWritten seen states.Whole (dump_text head (holding takes.parts None)) places list ended) is
          (subst (λ (list : List ℕ). IsWritten seen states.Whole (dump_text head (holding takes.parts None)) list before ended) same_places (whole before head (holding takes.parts None) stands is_dump));
      durable = subst (λ (list : List ℕ). AreFinished seen list ended) same_places finished;
    }

  pub leaves_front : (given left : List X) → before ≡ given → LeavesAll pools seen session request names progress outs after sent
      → ((first : List X) (top : DumpHead) (front : Front) → IsWriting seen first top front after sent → IsWritten seen states.Cut (front_text top front) after.places.items first left)
      → LeavesDump pools seen session request head names places given left
  leaves_front given left is leaves cut =
      let front = holding leaves.parts leaves.current in
      inr (record {
        parts = leaves.parts;
        current = leaves.current;
        cut = leaves.cut;
        written =
            subst (λ (list : List X). IsWritten seen states.Cut (front_text head front) places list left) is
            (subst (λ (list : List ℕ). IsWritten seen states.Cut (front_text head front) list before left) same_places
            (cut before head front (leaves.holds ordered.volume ordered.loaded before head logical ordered.device_is begun)));
      })

-- ---- the other outputs

pub written_keeps : {P X : Type 0} {pools : Ghosts P} (seen : X → OutSeen) {session : SessionView P} {request : DumpRequest} {head : DumpHead} {names : List Dsn} {places : List ℕ} {before after : List X}
    {told : List (Option Reason)} → WritesDump pools seen session request head names places before after told → IsKeptBut seen places before after
written_keeps seen {places = places} {before = before} {after = after} writes = kept_but seen _ places before after (λ a b taken. taken.name) (λ a b taken. taken_used states.Whole (λ is. cc) taken) writes.written

pub left_keeps : {P X : Type 0} {pools : Ghosts P} (seen : X → OutSeen) {session : SessionView P} {request : DumpRequest} {head : DumpHead} {names : List Dsn} {places : List ℕ} {before after : List X}
    → LeavesDump pools seen session request head names places before after → IsKeptBut seen places before after
left_keeps seen {places = places} {before = before} {after = after} (inl same) = kept_all seen places before after same
left_keeps seen {places = places} {before = before} {after = after} (inr front) = kept_but seen _ places before after (λ a b taken. taken.name) (λ a b taken. taken_used states.Cut (λ is. cc) taken) front.written
