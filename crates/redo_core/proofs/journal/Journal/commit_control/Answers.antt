use Rattle.std.proofs.Common.{◌≢◌, ◌⊎◌, ℕ, List, [], All, AllPairs, sym, subst, ap, ◌∙◌, arith}
use Rattle.std.proofs.lemmas.Grind.{common_steps}
use Rattle.dasd_pool.specs.Disk.{Image, LeavesOnly, Runs, Shape, none}
use Rattle.redo_core.specs.declared.entries.Entry.{Entry}
use Rattle.redo_core.specs.declared.target.Target.{Target}
use Rattle.std.proofs.lemmas.List.Elements.{All-nil}
use Rattle.std.proofs.lemmas.List.Kept.{AllPairs-cons}
use Rattle.redo_core.specs.Phases.{IsAtRest, IsCommitted, IsStatusAfter, MayGo, OldOrNew, TakeWrites, of_commit, targets}
use Rattle.redo_core.specs.Reading.{journal_of, IsLawful}
use Rattle.redo_core.specs.Statuses.{AreVolumes, IsSpare, control_alone}
use Rattle.redo_core.specs.Steps.{IsJournal}
use Rattle.redo_core.specs.Stops.{JournalView}
use Rattle.redo_core.proofs.Controls.{journal_is, at_journal}
use Rattle.redo_core.proofs.ControlTexts.{control_goes_alone, spare_said, status_said}
use Rattle.redo_core.proofs.journal.Journal.commit_control.Goals as goal

pub invariant_of-result : goal.invariant_of-result
invariant_of-result g c =
    let j = c.self.inside in
    let same = c.in-Ok.ensures.shape in (
      subst (λ (s : Shape). IsJournal s j.unit j.room) (sym same) c.self.invariant.0,
      c.self.invariant.1,
      grind (arith, common_steps),
      subst (λ (l : List Entry). IsSpare j.unit l) (sym c.say.ensures.says) (spare_said j.unit c.args.control c.args.filling),
      λ told. subst (λ (s : Shape). IsAtRest s (g.P.Pool.disk c.apply.new.pool).state j.room c.status_after-after.result.control c.status_after-after.result.fills) (sym same)
          (c.in-Ok.ensures.at_rest told j.room j.control c.status_after-after.result.control j.fills c.status_after-after.result.fills (c.self.invariant.4 told) c.status_after-after.ensures),
    )

pub returns-in-Ok-clause-rest : goal.returns-in-Ok-clause-rest
returns-in-Ok-clause-rest g c = λ told.
    let j = c.self.inside in
    let after = c.status_after-after in
    subst (λ (v : JournalView _). IsAtRest (g.P.Pool.shape v.pool) (g.P.Pool.disk c.apply.new.pool).state j.room after.result.control after.result.fills) c.self.view_is
    (c.in-Ok.ensures.at_rest told j.room j.control after.result.control j.fills after.result.fills (c.self.invariant.4 told) after.ensures)

pub returns-in-Ok-clause-committed : goal.returns-in-Ok-clause-committed
returns-in-Ok-clause-committed g c =
    rw (sym c.self.view_is)
    (subst (λ (l : List Entry). g.P.Pool.tells → IsCommitted (g.P.Pool.shape c.self.inside.pool) (g.P.Pool.disk c.self.inside.pool).state l (g.P.Pool.disk c.apply.new.pool).state)
    (c.as_slice-list.ensures ∙ c.say.ensures.says ∙ ap (λ (u : ℕ). control_alone u c.args.control c.args.filling) (journal_is c.self.invariant.0)) c.in-Ok.ensures.committed)

pub returns-in-Ok-clause-status : goal.returns-in-Ok-clause-status
returns-in-Ok-clause-status g c =
    rw (sym c.self.view_is)
    (subst (λ (l : List Entry). IsStatusAfter (g.P.Pool.shape c.self.inside.pool) l c.self.inside.control c.self.inside.fills c.status_after-after.result.control c.status_after-after.result.fills)
    (c.as_slice-list.ensures ∙ c.say.ensures.says ∙ ap (λ (u : ℕ). control_alone u c.args.control c.args.filling) (journal_is c.self.invariant.0)) c.status_after-after.ensures)

pub returns-in-Ok-clause-any_moment : goal.returns-in-Ok-clause-any_moment
returns-in-Ok-clause-any_moment g c =
    rw (sym c.self.view_is)
    (subst (λ (l : List Entry). g.P.Pool.tells → LeavesOnly (g.P.Pool.disk c.self.inside.pool) (g.P.Pool.disk c.apply.new.pool) (OldOrNew (g.P.Pool.shape c.self.inside.pool) (g.P.Pool.disk c.self.inside.pool).state l))
    (c.as_slice-list.ensures ∙ c.say.ensures.says ∙ ap (λ (u : ℕ). control_alone u c.args.control c.args.filling) (journal_is c.self.invariant.0)) c.apply.ensures.any_moment)

pub returns-in-Ok-clause-each_image : goal.returns-in-Ok-clause-each_image
returns-in-Ok-clause-each_image g c =
    rw (sym c.self.view_is)
    (subst (λ (l : List Entry). g.P.Pool.tells → (image : Image) → (g.P.Pool.disk c.apply.new.pool).left_since (g.P.Pool.disk c.self.inside.pool).moment image → OldOrNew (g.P.Pool.shape c.self.inside.pool) (g.P.Pool.disk c.self.inside.pool).state l image)
    (c.as_slice-list.ensures ∙ c.say.ensures.says ∙ ap (λ (u : ℕ). control_alone u c.args.control c.args.filling) (journal_is c.self.invariant.0)) c.apply.ensures.each_image)

pub returns-in-Ok-clause-runs : goal.returns-in-Ok-clause-runs
returns-in-Ok-clause-runs g c =
    rw (sym c.self.view_is)
    (subst (λ (l : List Entry). g.P.Pool.tells → Runs (of_commit (journal_of (g.P.Pool.shape c.self.inside.pool)) l) (g.P.Pool.disk c.self.inside.pool) (g.P.Pool.disk c.apply.new.pool))
    (c.as_slice-list.ensures ∙ c.say.ensures.says ∙ ap (λ (u : ℕ). control_alone u c.args.control c.args.filling) (journal_is c.self.invariant.0)) c.apply.ensures.runs)

pub returns-in-Err-clause-any_moment : goal.returns-in-Err-clause-any_moment
returns-in-Err-clause-any_moment g c =
    rw (sym c.self.view_is)
    (subst (λ (l : List Entry). g.P.Pool.tells → LeavesOnly (g.P.Pool.disk c.self.inside.pool) (g.P.Pool.disk c.apply.new.pool) (OldOrNew (g.P.Pool.shape c.self.inside.pool) (g.P.Pool.disk c.self.inside.pool).state l))
    (c.as_slice-list.ensures ∙ c.say.ensures.says ∙ ap (λ (u : ℕ). control_alone u c.args.control c.args.filling) (journal_is c.self.invariant.0)) c.apply.ensures.any_moment)

pub returns-in-Err-clause-each_image : goal.returns-in-Err-clause-each_image
returns-in-Err-clause-each_image g c =
    rw (sym c.self.view_is)
    (subst (λ (l : List Entry). g.P.Pool.tells → (image : Image) → (g.P.Pool.disk c.apply.new.pool).left_since (g.P.Pool.disk c.self.inside.pool).moment image → OldOrNew (g.P.Pool.shape c.self.inside.pool) (g.P.Pool.disk c.self.inside.pool).state l image)
    (c.as_slice-list.ensures ∙ c.say.ensures.says ∙ ap (λ (u : ℕ). control_alone u c.args.control c.args.filling) (journal_is c.self.invariant.0)) c.apply.ensures.each_image)

pub returns-in-Err-clause-runs : goal.returns-in-Err-clause-runs
returns-in-Err-clause-runs g c =
    rw (sym c.self.view_is)
    (subst (λ (l : List Entry). g.P.Pool.tells → Runs (of_commit (journal_of (g.P.Pool.shape c.self.inside.pool)) l) (g.P.Pool.disk c.self.inside.pool) (g.P.Pool.disk c.apply.new.pool))
    (c.as_slice-list.ensures ∙ c.say.ensures.says ∙ ap (λ (u : ℕ). control_alone u c.args.control c.args.filling) (journal_is c.self.invariant.0)) c.apply.ensures.runs)

pub status_after-after-requires-clause-entries : goal.status_after-after-requires-clause-entries
status_after-after-requires-clause-entries g c =
    let j = c.self.inside in
    let shape = g.P.Pool.shape j.pool in
    subst (λ (l : List Entry). All (MayGo shape) l) (sym (c.as_slice-list.ensures ∙ c.say.ensures.says ∙ ap (λ (u : ℕ). control_alone u c.args.control c.args.filling) (journal_is c.self.invariant.0)))
    (control_goes_alone shape j.room (at_journal c.self.invariant.0) c.args.control c.args.filling c.say.ensures.fits
    (subst (λ (v : JournalView _). IsLawful (g.P.Pool.shape v.pool) c.args.control) (sym c.self.view_is) c.requires.lawful)
    (subst (λ (v : JournalView _). AreVolumes (journal_of (g.P.Pool.shape v.pool)) c.args.filling) (sym c.self.view_is) c.requires.volumes))

pub apply-requires-clause-each : goal.apply-requires-clause-each
apply-requires-clause-each g c =
    let j = c.self.inside in
    let shape = g.P.Pool.shape j.pool in
    subst (λ (l : List Entry). All (MayGo shape) l) (sym (c.as_slice-list.ensures ∙ c.say.ensures.says ∙ ap (λ (u : ℕ). control_alone u c.args.control c.args.filling) (journal_is c.self.invariant.0)))
    (control_goes_alone shape j.room (at_journal c.self.invariant.0) c.args.control c.args.filling c.say.ensures.fits
    (subst (λ (v : JournalView _). IsLawful (g.P.Pool.shape v.pool) c.args.control) (sym c.self.view_is) c.requires.lawful)
    (subst (λ (v : JournalView _). AreVolumes (journal_of (g.P.Pool.shape v.pool)) c.args.filling) (sym c.self.view_is) c.requires.volumes))

pub apply-requires-clause-apart : goal.apply-requires-clause-apart
apply-requires-clause-apart g c =
    subst (λ (l : List Entry). AllPairs (λ one other. one ≢ other) (targets l)) (sym (c.as_slice-list.ensures ∙ c.say.ensures.says ∙ ap (λ (u : ℕ). control_alone u c.args.control c.args.filling) (journal_is c.self.invariant.0)))
    (AllPairs-cons (λ (one other : Target). one ≢ other) (record { unit = journal_of (g.P.Pool.shape c.self.inside.pool); block = 2 }) [] (All-nil _) (λ i j d less within. absurd (omega (arith, within))))

pub returns-in-Ok-clause-says : goal.returns-in-Ok-clause-says
returns-in-Ok-clause-says g c =
    let j = c.self.inside in
    let shape = g.P.Pool.shape j.pool in
    let status : IsStatusAfter shape (control_alone (journal_of shape) c.args.control c.args.filling) j.control j.fills c.status_after-after.result.control c.status_after-after.result.fills =
    subst (λ (l : List Entry). IsStatusAfter shape l j.control j.fills c.status_after-after.result.control c.status_after-after.result.fills) (c.as_slice-list.ensures ∙ c.say.ensures.says ∙ ap (λ (u : ℕ). control_alone u c.args.control c.args.filling) (journal_is c.self.invariant.0)) c.status_after-after.ensures in
    rw (sym c.self.view_is) (status_said shape c.args.control c.args.filling j.control c.status_after-after.result.control j.fills c.status_after-after.result.fills c.self.invariant.0 c.say.ensures.fits status)

pub returns-in-Ok-clause-may : goal.returns-in-Ok-clause-may
returns-in-Ok-clause-may g c =
    subst (λ (v : JournalView _). TakeWrites (g.P.Pool.shape v.pool) (control_alone (journal_of (g.P.Pool.shape v.pool)) c.args.control c.args.filling)) c.self.view_is
    (subst (λ (l : List Entry). TakeWrites (g.P.Pool.shape c.self.inside.pool) l)
    (c.as_slice-list.ensures ∙ c.say.ensures.says ∙ ap (λ (u : ℕ). control_alone u c.args.control c.args.filling) (journal_is c.self.invariant.0)) c.in-Ok.ensures.may)

pub returns-in-Ok-clause-careful : goal.returns-in-Ok-clause-careful
returns-in-Ok-clause-careful g c =
    subst (λ (v : JournalView _). g.P.Pool.tells → TakeWrites (g.P.Pool.shape v.pool) (control_alone (journal_of (g.P.Pool.shape v.pool)) c.args.control c.args.filling) ⊎ Runs none (g.P.Pool.disk v.pool) (g.P.Pool.disk c.apply.new.pool)) c.self.view_is
    (subst (λ (l : List Entry). g.P.Pool.tells → TakeWrites (g.P.Pool.shape c.self.inside.pool) l ⊎ Runs none (g.P.Pool.disk c.self.inside.pool) (g.P.Pool.disk c.apply.new.pool))
    (c.as_slice-list.ensures ∙ c.say.ensures.says ∙ ap (λ (u : ℕ). control_alone u c.args.control c.args.filling) (journal_is c.self.invariant.0)) c.apply.ensures.careful)

pub returns-in-Err-clause-careful : goal.returns-in-Err-clause-careful
returns-in-Err-clause-careful g c =
    subst (λ (v : JournalView _). g.P.Pool.tells → TakeWrites (g.P.Pool.shape v.pool) (control_alone (journal_of (g.P.Pool.shape v.pool)) c.args.control c.args.filling) ⊎ Runs none (g.P.Pool.disk v.pool) (g.P.Pool.disk c.apply.new.pool)) c.self.view_is
    (subst (λ (l : List Entry). g.P.Pool.tells → TakeWrites (g.P.Pool.shape c.self.inside.pool) l ⊎ Runs none (g.P.Pool.disk c.self.inside.pool) (g.P.Pool.disk c.apply.new.pool))
    (c.as_slice-list.ensures ∙ c.say.ensures.says ∙ ap (λ (u : ℕ). control_alone u c.args.control c.args.filling) (journal_is c.self.invariant.0)) c.apply.ensures.careful)
