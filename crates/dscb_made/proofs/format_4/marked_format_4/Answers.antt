use Rattle.std.proofs.Common.{◌≡◌, ℕ, ◌∷◌, [], List, get_or, bit_or, sym, subst}
use Rattle.ckd_image.specs.Body.{over}
use Rattle.volume_model.specs.declared.format.Format.TheVariants.{F4}
use Rattle.volume_model.specs.Dscbs.{format_of}
use Rattle.dscb_made.proofs.FourMade.{marked_4}
use Rattle.dscb_made.proofs.format_4.marked_format_4.Goals as goal

pub returns : goal.returns
returns c =
    let d : List ℕ = c.args.format_4.now in
    let byte : ℕ = bit_or (get_or d 58 0) 0x04 in
    let made : c.put_over.new.bytes ≡ over 58 (byte ∷ []) d = c.put_over.ensures in
    let P : List ℕ → Type 0 = λ bytes. format_of bytes ≡ F4 in
    record { format = subst P (sym made) (marked_4 d byte c.told-format_4 c.requires); bytes_are = made }
