-- What an image stands for rests on the blocks that are there, and so does whether a slide or a fill is open.
use Rattle.std.proofs.Common.{◌≡◌, inl, inr, ℕ, ◌+◌, ◌<◌, ◌≤◌, List, length, Bool, refl, sym, ap, subst, ◌∙◌, arith}
use Rattle.std.specs.Prelude.{if◌then◌else◌}
use Rattle.std.proofs.lemmas.Bool.{cases_Bool}
use Rattle.dasd_pool.specs.Disk.{Image, Shape}
use Rattle.redo_core.specs.declared.entries.Entry.{Entry}
use Rattle.redo_core.specs.declared.target.Target.{Target}
use Rattle.redo_core.specs.Format.{is_open, directory_in}
use Rattle.redo_core.specs.Faults.{HasNoSlide}
use Rattle.redo_core.specs.Reading.{journal_of, overlay, placed, body_for, Reads, IsDirectory}
use Rattle.redo_core.proofs.Closed.{closed_by}
use Rattle.redo_core.proofs.Crash.{closed_overlay, placed_agree}
use Rattle.redo_core.proofs.Transitions.{images_below}
use Rattle.redo_core.proofs.Readings.{reads_as}
use Rattle.volume_model.specs.Unit.{UnitModel}
use Rattle.move_core.specs.Facts.{Facts}
use Rattle.move_core.specs.Stands.{Stands}
use Rattle.move_core.proofs.Standing.{stands_kept}

module _ (facts : Facts) (image other : Image) (units : List UnitModel) (stands : Stands facts image units)
    (same : (u b : ℕ) → u < facts.shape.units → b < facts.shape.blocks u → other u b ≡ image u b) where
  abbrev shape : Shape
  shape = facts.shape

  abbrev j : ℕ
  j = journal_of shape

  volume_there : (u : ℕ) → u < j → u < shape.units
  volume_there u less = omega (arith, less)

  journal_same : (b : ℕ) → b < 4 + stands.reading.room → other j b ≡ image j b
  journal_same b less = same j b (omega (arith, stands.reads.obeys.registration.some)) (omega (arith, less, stands.reads.long))

  -- an open body is the same, so what stands in place of a block is
  overlay_same : (u b : ℕ) → other u b ≡ image u b → overlay shape.block_size j other u b ≡ overlay shape.block_size j image u b
  overlay_same u b here =
      let list : List Target = directory_in (image j 3) in
      let gate : is_open (other j 1) ≡ is_open (image j 1) = ap is_open (journal_same 1 (omega arith)) in
      let directory : directory_in (other j 3) ≡ list = ap directory_in (journal_same 3 (omega arith)) in
      elim (cases_Bool (is_open (image j 1))) [
        | inl opened ↦
            let few : length list ≤ stands.reading.room = (stands.reads.obeys.body opened).few in
            let bodies : body_for shape.block_size j other (directory_in (other j 3)) ≡ body_for shape.block_size j image list =
            ap (λ (l : List Target). body_for shape.block_size j other l) directory
            ∙ images_below shape.block_size j image other list 4 (λ b less. journal_same b (omega (arith, less, few))) in
            ap (λ (t : Bool). if t then placed other (body_for shape.block_size j other (directory_in (other j 3))) u b else other u b) (gate ∙ opened)
            ∙ ap (λ (l : List Entry). placed other l u b) bodies
            ∙ placed_agree (body_for shape.block_size j image list) other image u b (λ none. here)
            ∙ sym (ap (λ (t : Bool). if t then placed image (body_for shape.block_size j image list) u b else image u b) opened)
        | inr closed ↦
            closed_overlay shape.block_size j other (gate ∙ closed) u b ∙ here ∙ sym (closed_overlay shape.block_size j image closed u b)
      ]

  there_reads : Reads shape other (record stands.reading { volumes = overlay shape.block_size j other })
  there_reads = reads_as shape image other stands.reading (overlay shape.block_size j other) stands.reads (journal_same 0 (omega arith))
      (λ opened.
      subst (λ (list : List Target). IsDirectory shape j stands.reading.room list) (ap directory_in (sym (journal_same 3 (omega arith))))
      (stands.reads.obeys.body (ap is_open (sym (journal_same 1 (omega arith))) ∙ opened)))
      (overlay_same j 2 (journal_same 2 (omega arith)))
      (λ u b less. refl)

  -- an image with the same blocks stands for the same units
  pub stands_there : Stands facts other units
  stands_there = stands_kept facts image units stands other (overlay shape.block_size j other) there_reads
      (λ u b less rests. overlay_same u b (same u b (volume_there u less) rests.2) ∙ sym (stands.reads.volumes_are u b less))

  -- and no slide or fill is open in it where none was
  pub closed_there : HasNoSlide facts.shape image → HasNoSlide facts.shape other
  closed_there closed =
      closed_by shape other (record stands.reading { volumes = overlay shape.block_size j other }) there_reads (closed stands.reading stands.reads)
