use Rattle.std.proofs.Common.{◌≡◌, ◌≤◌, ℕ, refl, sym, subst, arith}
use Rattle.std.proofs.lemmas.Nat.Bits.{bit_at_above}
use Rattle.std.proofs.lemmas.List.Elements.{All-nil}
use Rattle.std.proofs.lemmas.Option.{same_Some}
use Rattle.redo_core.specs.declared.control.Control.{Control}
use Rattle.redo_core.specs.declared.control.Control.TheVariants.{Slide}
use Rattle.redo_core.specs.Phases.{AreEntries, IsEntry}
use Rattle.redo_core.specs.Reading.{journal_of}
use Rattle.redo_core.specs.Statuses.{EntriesView, IsControlBlock, block_saying}
use Rattle.rows_journals.proofs.journal.commit_slide.Goals as goal

pub commit-requires-clause-each : goal.commit-requires-clause-each
commit-requires-clause-each g c =
    let shape = g.P.Pool.shape c.args.journal.pool in
    let two : journal_of shape ≡ 2 = omega (arith, c.units.ensures, c.if-units-ne2.false) in
    let short : Control = Slide 1 1 0 1 0 in
    let block : IsControlBlock shape (block_saying short 2) =
    c.control_laws.ensures shape short 2 c.in-Ok.ensures.fits (c.if-not-is_slide.ensures refl) (λ u from within. bit_at_above 2 2 u (omega arith) (omega (arith, from, two))) in
    subst (λ (e : EntriesView). AreEntries shape e) (sym c.in-Ok.ensures.says)
    (record { blocks = All-nil (IsEntry shape); control = λ slot is. subst (IsControlBlock shape) (same_Some (block_saying short 2) slot is) block })
