use Rattle.std.proofs.Common.{◌≡◌, ℕ, ◌∷◌, [], List, length, get_or, bit_and, sym, ap, subst, ◌∙◌, refl}
use Rattle.std.specs.Prelude.{min}
use Rattle.byteorder.specs.Endian.{big_bytes}
use Rattle.ckd_image.specs.Body.{over}
use Rattle.volume_model.specs.declared.format.Format.TheVariants.{F4}
use Rattle.volume_model.specs.Dscbs.{format_of}
use Rattle.volume_model.specs.Reads.{fields_of_4}
use Rattle.vtoc_core.proofs.Fields.{counts_put}
use Rattle.dscb_made.specs.Pointers.{pointer_text}
use Rattle.dscb_made.proofs.Makes.{long_pointer}
use Rattle.dscb_made.proofs.FourMade.{made_is, still_4, same_fields, stated}
use Rattle.dscb_made.proofs.format_4.stated_format_4.Goals as goal

pub returns : goal.returns
returns c =
    let d : List ℕ = c.args.format_4.now in
    let p : List ℕ = pointer_text c.args.highest in
    let q : List ℕ = big_bytes 2 (min c.args.free 65535) in
    let byte : ℕ = bit_and (get_or d 58 0) 0x7B in
    let five : length p ≡ 5 = long_pointer c.args.highest in
    let P : List ℕ → Type 0 = λ piece. c.put_over.new.bytes ≡ over 45 piece d in
    let Q : List ℕ → Type 0 = λ piece. c.put_over-2.new.bytes ≡ over 50 piece c.put_over.new.bytes in
    let counted = counts_put d c.put_over.new.bytes c.put_over-2.new.bytes p q c.told-format_4 five refl (subst P c.pointer_bytes.ensures.text c.put_over.ensures) (subst Q (c.to_be_bytes.ensures ∙ ap (big_bytes 2) c.min.ensures) c.put_over-2.ensures) in
    let made : c.put_over-3.new.bytes ≡ stated d p q c.told-format_4 five refl byte =
    c.put_over-3.ensures ∙ ap (over 58 (byte ∷ [])) counted ∙ made_is d p q c.told-format_4 five refl byte in
    let R : List ℕ → Type 0 = λ bytes. format_of bytes ≡ F4 in
    record {
      format = subst R (sym made) (still_4 d p q c.told-format_4 five refl byte c.requires);
      bytes_are = made;
      fields = ap fields_of_4 made ∙ same_fields d p q c.told-format_4 five refl byte refl;
    }
