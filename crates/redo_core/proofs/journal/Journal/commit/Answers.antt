use Rattle.std.proofs.Common.{◌≡◌, ◌≢◌, ◌⊎◌, ℕ, List, [], All, AllPairs, sym, subst, ap, ◌∙◌, arith}
use Rattle.std.proofs.lemmas.Grind.{common_steps}
use Rattle.dasd_pool.specs.Disk.{Image, LeavesOnly, Runs, Shape, none}
use Rattle.redo_core.specs.declared.entries.Entry.{Entry}
use Rattle.redo_core.specs.Phases.{AreEntries, IsAtRest, IsCommitted, IsStatusAfter, MayGo, OldOrNew, TakeWrites, of_commit, targets}
use Rattle.redo_core.specs.Reading.{journal_of}
use Rattle.redo_core.specs.Statuses.{entries_at}
use Rattle.redo_core.specs.Steps.{IsJournal}
use Rattle.redo_core.specs.Stops.{JournalView}
use Rattle.redo_core.proofs.Controls.{journal_is, at_journal}
use Rattle.redo_core.proofs.ControlTexts.{all_go, all_apart}
use Rattle.redo_core.proofs.journal.Journal.commit.Goals as goal

pub invariant_of-result : goal.invariant_of-result
invariant_of-result g c =
    let j = c.self.inside in
    let same = c.in-Ok.ensures.shape in (
      subst (λ (s : Shape). IsJournal s j.unit j.room) (sym same) c.self.invariant.0,
      c.self.invariant.1,
      grind (arith, common_steps),
      c.self.invariant.3,
      λ told. subst (λ (s : Shape). IsAtRest s (g.P.Pool.disk c.apply.new.pool).state j.room c.status_after-after.result.control c.status_after-after.result.fills) (sym same)
          (c.in-Ok.ensures.at_rest told j.room j.control c.status_after-after.result.control j.fills c.status_after-after.result.fills (c.self.invariant.4 told) c.status_after-after.ensures),
    )

pub returns-in-Ok-clause-rest : goal.returns-in-Ok-clause-rest
returns-in-Ok-clause-rest g c = λ told.
    let j = c.self.inside in
    let after = c.status_after-after in
    subst (λ (v : JournalView _). IsAtRest (g.P.Pool.shape v.pool) (g.P.Pool.disk c.apply.new.pool).state j.room after.result.control after.result.fills) c.self.view_is
    (c.in-Ok.ensures.at_rest told j.room j.control after.result.control j.fills after.result.fills (c.self.invariant.4 told) after.ensures)

pub returns-in-Ok-clause-committed : goal.returns-in-Ok-clause-committed
returns-in-Ok-clause-committed g c =
    rw (sym c.self.view_is)
    (subst (λ (l : List Entry). g.P.Pool.tells → IsCommitted (g.P.Pool.shape c.self.inside.pool) (g.P.Pool.disk c.self.inside.pool).state l (g.P.Pool.disk c.apply.new.pool).state)
    (c.as_slice-list.ensures.value ∙ c.into_list-all.ensures ∙ ap (λ (u : ℕ). entries_at u c.args.entries) (journal_is c.self.invariant.0)) c.in-Ok.ensures.committed)

pub returns-in-Ok-clause-status : goal.returns-in-Ok-clause-status
returns-in-Ok-clause-status g c =
    rw (sym c.self.view_is)
    (subst (λ (l : List Entry). IsStatusAfter (g.P.Pool.shape c.self.inside.pool) l c.self.inside.control c.self.inside.fills c.status_after-after.result.control c.status_after-after.result.fills)
    (c.as_slice-list.ensures.value ∙ c.into_list-all.ensures ∙ ap (λ (u : ℕ). entries_at u c.args.entries) (journal_is c.self.invariant.0)) c.status_after-after.ensures)

pub returns-in-Ok-clause-any_moment : goal.returns-in-Ok-clause-any_moment
returns-in-Ok-clause-any_moment g c =
    rw (sym c.self.view_is)
    (subst (λ (l : List Entry). g.P.Pool.tells → LeavesOnly (g.P.Pool.disk c.self.inside.pool) (g.P.Pool.disk c.apply.new.pool) (OldOrNew (g.P.Pool.shape c.self.inside.pool) (g.P.Pool.disk c.self.inside.pool).state l))
    (c.as_slice-list.ensures.value ∙ c.into_list-all.ensures ∙ ap (λ (u : ℕ). entries_at u c.args.entries) (journal_is c.self.invariant.0)) c.apply.ensures.any_moment)

pub returns-in-Ok-clause-each_image : goal.returns-in-Ok-clause-each_image
returns-in-Ok-clause-each_image g c =
    rw (sym c.self.view_is)
    (subst (λ (l : List Entry). g.P.Pool.tells → (image : Image) → (g.P.Pool.disk c.apply.new.pool).left_since (g.P.Pool.disk c.self.inside.pool).moment image → OldOrNew (g.P.Pool.shape c.self.inside.pool) (g.P.Pool.disk c.self.inside.pool).state l image)
    (c.as_slice-list.ensures.value ∙ c.into_list-all.ensures ∙ ap (λ (u : ℕ). entries_at u c.args.entries) (journal_is c.self.invariant.0)) c.apply.ensures.each_image)

pub returns-in-Ok-clause-runs : goal.returns-in-Ok-clause-runs
returns-in-Ok-clause-runs g c =
    rw (sym c.self.view_is)
    (subst (λ (l : List Entry). g.P.Pool.tells → Runs (of_commit (journal_of (g.P.Pool.shape c.self.inside.pool)) l) (g.P.Pool.disk c.self.inside.pool) (g.P.Pool.disk c.apply.new.pool))
    (c.as_slice-list.ensures.value ∙ c.into_list-all.ensures ∙ ap (λ (u : ℕ). entries_at u c.args.entries) (journal_is c.self.invariant.0)) c.apply.ensures.runs)

pub returns-in-Err-clause-any_moment : goal.returns-in-Err-clause-any_moment
returns-in-Err-clause-any_moment g c =
    rw (sym c.self.view_is)
    (subst (λ (l : List Entry). g.P.Pool.tells → LeavesOnly (g.P.Pool.disk c.self.inside.pool) (g.P.Pool.disk c.apply.new.pool) (OldOrNew (g.P.Pool.shape c.self.inside.pool) (g.P.Pool.disk c.self.inside.pool).state l))
    (c.as_slice-list.ensures.value ∙ c.into_list-all.ensures ∙ ap (λ (u : ℕ). entries_at u c.args.entries) (journal_is c.self.invariant.0)) c.apply.ensures.any_moment)

pub returns-in-Err-clause-each_image : goal.returns-in-Err-clause-each_image
returns-in-Err-clause-each_image g c =
    rw (sym c.self.view_is)
    (subst (λ (l : List Entry). g.P.Pool.tells → (image : Image) → (g.P.Pool.disk c.apply.new.pool).left_since (g.P.Pool.disk c.self.inside.pool).moment image → OldOrNew (g.P.Pool.shape c.self.inside.pool) (g.P.Pool.disk c.self.inside.pool).state l image)
    (c.as_slice-list.ensures.value ∙ c.into_list-all.ensures ∙ ap (λ (u : ℕ). entries_at u c.args.entries) (journal_is c.self.invariant.0)) c.apply.ensures.each_image)

pub returns-in-Err-clause-runs : goal.returns-in-Err-clause-runs
returns-in-Err-clause-runs g c =
    rw (sym c.self.view_is)
    (subst (λ (l : List Entry). g.P.Pool.tells → Runs (of_commit (journal_of (g.P.Pool.shape c.self.inside.pool)) l) (g.P.Pool.disk c.self.inside.pool) (g.P.Pool.disk c.apply.new.pool))
    (c.as_slice-list.ensures.value ∙ c.into_list-all.ensures ∙ ap (λ (u : ℕ). entries_at u c.args.entries) (journal_is c.self.invariant.0)) c.apply.ensures.runs)

pub returns-in-Ok-clause-still : goal.returns-in-Ok-clause-still
returns-in-Ok-clause-still g c =
    rw (sym c.self.view_is)
    (subst (λ (l : List Entry). g.P.Pool.tells → l ≡ [] → Runs none (g.P.Pool.disk c.self.inside.pool) (g.P.Pool.disk c.apply.new.pool)) (c.as_slice-list.ensures.value ∙ c.into_list-all.ensures ∙ ap (λ (u : ℕ). entries_at u c.args.entries) (journal_is c.self.invariant.0)) c.apply.ensures.still)

pub returns-in-Err-clause-still : goal.returns-in-Err-clause-still
returns-in-Err-clause-still g c =
    rw (sym c.self.view_is)
    (subst (λ (l : List Entry). g.P.Pool.tells → l ≡ [] → Runs none (g.P.Pool.disk c.self.inside.pool) (g.P.Pool.disk c.apply.new.pool)) (c.as_slice-list.ensures.value ∙ c.into_list-all.ensures ∙ ap (λ (u : ℕ). entries_at u c.args.entries) (journal_is c.self.invariant.0)) c.apply.ensures.still)

pub status_after-after-requires-clause-entries : goal.status_after-after-requires-clause-entries
status_after-after-requires-clause-entries g c =
    let j = c.self.inside in
    let shape = g.P.Pool.shape j.pool in
    let each : AreEntries shape c.args.entries = subst (λ (v : JournalView _). AreEntries (g.P.Pool.shape v.pool) c.args.entries) (sym c.self.view_is) c.requires.each in
    subst (λ (l : List Entry). All (MayGo shape) l) (sym (c.as_slice-list.ensures.value ∙ c.into_list-all.ensures ∙ ap (λ (u : ℕ). entries_at u c.args.entries) (journal_is c.self.invariant.0))) (all_go shape j.room (at_journal c.self.invariant.0) c.args.entries each)

pub apply-requires-clause-each : goal.apply-requires-clause-each
apply-requires-clause-each g c =
    let j = c.self.inside in
    let shape = g.P.Pool.shape j.pool in
    let each : AreEntries shape c.args.entries = subst (λ (v : JournalView _). AreEntries (g.P.Pool.shape v.pool) c.args.entries) (sym c.self.view_is) c.requires.each in
    subst (λ (l : List Entry). All (MayGo shape) l) (sym (c.as_slice-list.ensures.value ∙ c.into_list-all.ensures ∙ ap (λ (u : ℕ). entries_at u c.args.entries) (journal_is c.self.invariant.0))) (all_go shape j.room (at_journal c.self.invariant.0) c.args.entries each)

pub apply-requires-clause-apart : goal.apply-requires-clause-apart
apply-requires-clause-apart g c =
    let j = c.self.inside in
    let shape = g.P.Pool.shape j.pool in
    let each : AreEntries shape c.args.entries = subst (λ (v : JournalView _). AreEntries (g.P.Pool.shape v.pool) c.args.entries) (sym c.self.view_is) c.requires.each in
    subst (λ (l : List Entry). AllPairs (λ one other. one ≢ other) (targets l)) (sym (c.as_slice-list.ensures.value ∙ c.into_list-all.ensures ∙ ap (λ (u : ℕ). entries_at u c.args.entries) (journal_is c.self.invariant.0))) (all_apart shape c.args.entries each c.requires.apart)

pub returns-in-Ok-clause-may : goal.returns-in-Ok-clause-may
returns-in-Ok-clause-may g c =
    rw (sym c.self.view_is)
    (subst (λ (l : List Entry). TakeWrites (g.P.Pool.shape c.self.inside.pool) l)
    (c.as_slice-list.ensures.value ∙ c.into_list-all.ensures ∙ ap (λ (u : ℕ). entries_at u c.args.entries) (journal_is c.self.invariant.0)) c.in-Ok.ensures.may)

pub returns-in-Ok-clause-careful : goal.returns-in-Ok-clause-careful
returns-in-Ok-clause-careful g c =
    rw (sym c.self.view_is)
    (subst (λ (l : List Entry). g.P.Pool.tells → TakeWrites (g.P.Pool.shape c.self.inside.pool) l ⊎ Runs none (g.P.Pool.disk c.self.inside.pool) (g.P.Pool.disk c.apply.new.pool))
    (c.as_slice-list.ensures.value ∙ c.into_list-all.ensures ∙ ap (λ (u : ℕ). entries_at u c.args.entries) (journal_is c.self.invariant.0)) c.apply.ensures.careful)

pub returns-in-Err-clause-careful : goal.returns-in-Err-clause-careful
returns-in-Err-clause-careful g c =
    rw (sym c.self.view_is)
    (subst (λ (l : List Entry). g.P.Pool.tells → TakeWrites (g.P.Pool.shape c.self.inside.pool) l ⊎ Runs none (g.P.Pool.disk c.self.inside.pool) (g.P.Pool.disk c.apply.new.pool))
    (c.as_slice-list.ensures.value ∙ c.into_list-all.ensures ∙ ap (λ (u : ℕ). entries_at u c.args.entries) (journal_is c.self.invariant.0)) c.apply.ensures.careful)
