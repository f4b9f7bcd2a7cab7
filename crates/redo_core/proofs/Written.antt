-- Which blocks an opening writes.
use Rattle.std.proofs.Common.{◌≡◌, ℕ, List, false, refl, sym, subst}
use Rattle.std.proofs.lemmas.Bool.{or_parts}
use Rattle.dasd_pool.specs.Disk.{Image, Disk, Runs, none, is_at}
use Rattle.dasd_pool.proofs.Moments.{runs_then}
use Rattle.redo_core.specs.declared.target.Target.{Target}
use Rattle.redo_core.specs.Reading.{among}
use Rattle.redo_core.specs.Opening.{of_redo, of_opening}

-- the images of a body are put in place, and then the gate is closed
pub redo_runs : (journal : ℕ) (list : List Target) (old mid new : Disk) → Runs (among list) old mid → Runs (is_at journal 1) mid new → Runs (of_redo journal list) old new
redo_runs journal list old mid new images gate =
    runs_then (of_redo journal list) (among list) (is_at journal 1) old mid new
    (λ u b apart. (or_parts (is_at journal 1 u b) (among list u b) apart).1)
    (λ u b apart. (or_parts (is_at journal 1 u b) (among list u b) apart).0) images gate

-- blocks are looked at, and then a body is put in place
pub opening_runs : (journal : ℕ) (old mid new : Disk) → Runs none old mid → Runs (of_opening journal mid.state.contents) mid new → Runs (of_opening journal old.state.contents) old new
opening_runs journal old mid new look finish =
    let same : mid.state.contents ≡ old.state.contents = λ i u b. look.touches.contents u b refl i in
    runs_then (of_opening journal old.state.contents) none (of_opening journal mid.state.contents) old mid new (λ u b apart. refl)
    (λ u b apart. subst (λ (image : Image). of_opening journal image u b ≡ false) (sym same) apart) look finish
