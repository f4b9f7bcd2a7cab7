-- A commit of rendered changes spares every block that stays the same, whenever it stops.
use Rattle.std.proofs.Common.{◌≡◌, ⊎_elim, inl, inr, ℕ, ◌+◌, ◌<◌, List, length, Bool, false, sym, ap, subst, ◌∙◌, arith}
use Rattle.std.specs.Prelude.{◌==◌, ◌&&◌, ◌||◌, nat_le}
use Rattle.std.proofs.lemmas.Bool.{ne_eqb}
use Rattle.dasd_pool.specs.Disk.{Disk, LeavesOnly, Runs, Shape, IsSynced}
use Rattle.redo_core.specs.declared.entries.Entry.{Entry}
use Rattle.redo_core.specs.Phases.{of_commit, targets}
use Rattle.redo_core.specs.Reading.{among, journal_of, placed}
use Rattle.unit_steps.specs.vtoc_render.declared.change.Rendered.{Rendered}
use Rattle.volume_change.specs.declared.change.Change.{Change}
use Rattle.unit_load.specs.declared.state.UnitState.{UnitState}
use Rattle.unit_steps.specs.Loaded.{AreLoaded, AreVtocsOf, KeepVtocs}
use Rattle.unit_steps.specs.Rendering.{AreReady, WereRendered, entries_of}
use Rattle.unit_steps.proofs.Anew.{no_entry}
use Rattle.unit_session.specs.Planned.{SparesUnchanged}

module _ (shape : Shape) (old new : Disk) (room : ℕ) (units : List UnitState) (vtocs : List (List ℕ)) (changes : List (ℕ × Change)) (rendered : List Rendered) (keep : KeepVtocs shape units vtocs)
    (loaded : AreLoaded shape old.state.contents units) (kept : AreVtocsOf old.state.contents units vtocs) (were : WereRendered units vtocs changes rendered)
    (ready : AreReady shape room (entries_of changes rendered)) (synced : IsSynced old.state) (runs : Runs (of_commit (journal_of shape) (entries_of changes rendered)) old new) where
  abbrev made : List Entry
  made = entries_of changes rendered

  untouched : (u b : ℕ) → u < journal_of shape → placed old.state.contents (entries_of changes rendered) u b ≡ old.state.contents u b
      → of_commit (journal_of shape) (entries_of changes rendered) u b ≡ false
  untouched u b less same =
      ap (λ (t : Bool). ((t && (nat_le 3 b && nat_le b (3 + length made))) || (t && (b == 1))) || among (targets made) u b) (ne_eqb u (journal_of shape) (λ is. absurd (omega (arith, is, less))))
      ∙ no_entry shape room old.state.contents units vtocs changes rendered keep loaded kept were ready u b same

  made_spared : LeavesOnly old new (SparesUnchanged shape old.state.contents (entries_of changes rendered))
  made_spared = record {
    later = runs.leaves.later;
    each = λ since image before left.
        ⊎_elim (λ was. inl was) (λ spares. inr (λ u b less same. spares u b (untouched u b less same) (synced u b))) (runs.leaves.each since image before left);
    goes_on = runs.leaves.goes_on;
    keeps = runs.leaves.keeps;
  }

pub rendered_spared : (shape : Shape) (old new : Disk) (room : ℕ) (units : List UnitState) (vtocs : List (List ℕ)) (changes : List (ℕ × Change)) (rendered : List Rendered) (entries : List Entry)
    → KeepVtocs shape units vtocs → AreLoaded shape old.state.contents units → AreVtocsOf old.state.contents units vtocs → WereRendered units vtocs changes rendered
    → entries ≡ entries_of changes rendered → AreReady shape room entries → IsSynced old.state → Runs (of_commit (journal_of shape) entries) old new
    → LeavesOnly old new (SparesUnchanged shape old.state.contents entries)
rendered_spared shape old new room units vtocs changes rendered entries keep loaded kept were are ready synced runs =
    subst (λ (l : List Entry). LeavesOnly old new (SparesUnchanged shape old.state.contents l)) (sym are)
    (made_spared shape old new room units vtocs changes rendered keep loaded kept were (subst (AreReady shape room) are ready) synced
    (subst (λ (l : List Entry). Runs (of_commit (journal_of shape) l) old new) are runs))
