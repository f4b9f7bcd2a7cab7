use Rattle.std.proofs.Common.{ℕ, ◌≡◌, List, refl, sym, ap, ◌∙◌, subst, arith}
use Rattle.dasd_pool.specs.Disk.{Shape}
use Rattle.redo_core.specs.declared.fault.JournalFault.{JournalFault}
use Rattle.redo_core.specs.declared.fault.JournalRule.TheVariants as rules
use Rattle.redo_core.specs.Format.{control_in, is_filling}
use Rattle.redo_core.specs.Reading.{journal_of, control_block, IsControl}
use Rattle.redo_core.specs.Faults.{zeroed, Fails}
use Rattle.redo_core.proofs.Redoing.{control_read}
use Rattle.redo_core.proofs.opening.find_control.Goals as goal

pub returns-in_default-clause-refused : goal.returns-in_default-clause-refused
returns-in_default-clause-refused g c = λ told.
    let shape = g.P.Pool.shape c.args.pool.now in
    let image = zeroed shape (g.P.Pool.disk c.args.pool.now).state.contents in
    let unit : journal_of shape ≡ c.args.journal = omega (arith, c.requires.last) in
    let is : control_block shape image ≡ c.read_or_zeros.new.buffer =
    control_read shape c.args.journal image c.args.targets.now c.image_of.result c.unwrap_or-place.result c.read_or_zeros.new.buffer unit (c.requires.targets told) (c.image_of.ensures.image shape.block_size (journal_of shape) image)
    c.unwrap_or-place.ensures (c.in_ok-read_or_zeros.ensures.bytes told) (omega (arith, c.read_or_zeros.auto.buffer, c.requires.size, c.requires.width)) in
    subst (λ (f : JournalFault). Fails rules.Control (¬ IsControl shape (control_block shape image)) f) (sym c.broken.ensures)
    (refl, λ lawful. c.in_default.ensures.none (subst (λ (s : Shape). IsControl s c.read_or_zeros.new.buffer) (sym c.in_ok-read_or_zeros.ensures.looks.shape) (subst (λ (block : List ℕ). IsControl shape block) is lawful)))

pub returns-clause-lawful : goal.returns-clause-lawful
returns-clause-lawful g c = λ told.
    let shape = g.P.Pool.shape c.args.pool.now in
    let image = zeroed shape (g.P.Pool.disk c.args.pool.now).state.contents in
    let unit : journal_of shape ≡ c.args.journal = omega (arith, c.requires.last) in
    let is : control_block shape image ≡ c.read_or_zeros.new.buffer =
    control_read shape c.args.journal image c.args.targets.now c.image_of.result c.unwrap_or-place.result c.read_or_zeros.new.buffer unit (c.requires.targets told) (c.image_of.ensures.image shape.block_size (journal_of shape) image)
    c.unwrap_or-place.ensures (c.in_ok-read_or_zeros.ensures.bytes told) (omega (arith, c.read_or_zeros.auto.buffer, c.requires.size, c.requires.width)) in
    subst (λ (block : List ℕ). IsControl shape block) (sym is) (subst (λ (s : Shape). IsControl s c.read_or_zeros.new.buffer) c.in_ok-read_or_zeros.ensures.looks.shape c.in-Some.ensures.found.0)

pub returns-clause-control : goal.returns-clause-control
returns-clause-control g c = λ told.
    let shape = g.P.Pool.shape c.args.pool.now in
    let image = zeroed shape (g.P.Pool.disk c.args.pool.now).state.contents in
    let unit : journal_of shape ≡ c.args.journal = omega (arith, c.requires.last) in
    let is : control_block shape image ≡ c.read_or_zeros.new.buffer =
    control_read shape c.args.journal image c.args.targets.now c.image_of.result c.unwrap_or-place.result c.read_or_zeros.new.buffer unit (c.requires.targets told) (c.image_of.ensures.image shape.block_size (journal_of shape) image)
    c.unwrap_or-place.ensures (c.in_ok-read_or_zeros.ensures.bytes told) (omega (arith, c.read_or_zeros.auto.buffer, c.requires.size, c.requires.width)) in
    c.in-Some.ensures.found.1 ∙ ap control_in (sym is)

pub returns-clause-fills : goal.returns-clause-fills
returns-clause-fills g c = λ told.
    let shape = g.P.Pool.shape c.args.pool.now in
    let image = zeroed shape (g.P.Pool.disk c.args.pool.now).state.contents in
    let unit : journal_of shape ≡ c.args.journal = omega (arith, c.requires.last) in
    let is : control_block shape image ≡ c.read_or_zeros.new.buffer =
    control_read shape c.args.journal image c.args.targets.now c.image_of.result c.unwrap_or-place.result c.read_or_zeros.new.buffer unit (c.requires.targets told) (c.image_of.ensures.image shape.block_size (journal_of shape) image)
    c.unwrap_or-place.ensures (c.in_ok-read_or_zeros.ensures.bytes told) (omega (arith, c.read_or_zeros.auto.buffer, c.requires.size, c.requires.width)) in
    λ u less. c.fills_in-fills.ensures u less ∙ ap (λ (block : List ℕ). is_filling block u) (sym is)
