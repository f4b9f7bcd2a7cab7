use Rattle.std.proofs.Common.{◌≡◌, List, subst, ℕ}
use Rattle.dscb_made.proofs.PointerPut.{pointer_put}
use Rattle.ckd_image.specs.Body.{over}
use Rattle.dscb_made.proofs.pointer.put_pointer.Goals as goal

pub returns : goal.returns
returns c =
    let P : List ℕ → Type 0 = λ piece. c.put_over.new.bytes ≡ over 135 piece c.args.dscb.now in
    pointer_put c.args.next c.args.dscb.now c.put_over.new.bytes c.told-dscb c.pointer_bytes.ensures.fits c.requires (subst P c.pointer_bytes.ensures.text c.put_over.ensures)
