-- Entries of a directory, and their texts.
use Rattle.std.proofs.Common.{◌≡◌, ℕ, ◌/◌, ◌%◌, ◌<◌, List, [], ◌∷◌, ◌++◌, length, sym, ap, ◌∙◌, arith, append_assoc, length-append}
use Rattle.ckd_image.specs.Bytes.{Begins}
use Rattle.ckd_image.proofs.OneText.{split_same}
use Rattle.org_reloc.specs.declared.entry.Entry.{Entry}
use Rattle.org_reloc.specs.declared.entry.Heading.{Heading}
use Rattle.org_reloc.specs.declared.place.Place.{Place}
use Rattle.org_reloc.specs.Place.{place_text}
use Rattle.org_reloc.specs.Directory.{data_length, heading_text, heading_of, entry_text, IsHeading}

-- two bytes say which number they are
pub same_two : (m n : ℕ) → m < 65536 → n < 65536 → m / 256 % 256 ≡ n / 256 % 256 → m % 256 ≡ n % 256 → m ≡ n
same_two m n p q high low = omega arith

pub same_place : (a b : Place) → a.track ≡ b.track → a.number ≡ b.number → a ≡ b
same_place a b p q =
    let first : a ≡ record { track = b.track; number = a.number } = ap (λ (t : ℕ). record { track = t; number = a.number }) p in
    first ∙ ap (λ (t : ℕ). record { track = b.track; number = t }) q

same_heading : (a b : Heading) → a.name ≡ b.name → a.place ≡ b.place → a.kind ≡ b.kind → a ≡ b
same_heading a b p q r =
    let first : a ≡ record { name = b.name; place = a.place; kind = a.kind } = ap (λ (t : List ℕ). record { name = t; place = a.place; kind = a.kind }) p in
    let next : record { name = b.name; place = a.place; kind = a.kind } ≡ record { name = b.name; place = b.place; kind = a.kind } = ap (λ (t : Place). record { name = b.name; place = t; kind = a.kind }) q in
    first ∙ next ∙ ap (λ (t : ℕ). record { name = b.name; place = b.place; kind = t }) r

pub length-heading : (h : Heading) → IsHeading h → length (heading_text h) ≡ 12
length-heading h s = omega (arith, s.name_fits, length-append h.name (place_text h.place.track h.place.number ++ h.kind ∷ []))

-- the fields say what they are
pub heading_text-injective : (a b : Heading) (x y : List ℕ) → IsHeading a → IsHeading b → heading_text a ++ x ≡ heading_text b ++ y → (a ≡ b) × (x ≡ y)
heading_text-injective a b x y p q e =
    let n = split_same a.name b.name ((place_text a.place.track a.place.number ++ a.kind ∷ []) ++ x) ((place_text b.place.track b.place.number ++ b.kind ∷ []) ++ y) (p.name_fits ∙ sym q.name_fits)
    (sym (append_assoc a.name (place_text a.place.track a.place.number ++ a.kind ∷ []) x) ∙ e ∙ append_assoc b.name (place_text b.place.track b.place.number ++ b.kind ∷ []) y) in
    let fields = n.1 in
    let t1 : a.place.track / 256 % 256 ≡ b.place.track / 256 % 256 = cc in
    let t0 : a.place.track % 256 ≡ b.place.track % 256 = cc in
    let number : a.place.number ≡ b.place.number = cc in
    let kind : a.kind ≡ b.kind = cc in
    let rest : x ≡ y = cc in
    (same_heading a b n.0 (same_place a.place b.place (same_two _ _ p.place_fits.track q.place_fits.track t1 t0) number) kind, rest)

same_entry : (a b : Entry) → heading_of a ≡ heading_of b → a.data ≡ b.data → a ≡ b
same_entry a b p q =
    let first : a ≡ record { name = b.name; place = b.place; kind = b.kind; «data» = a.data } = ap (λ (h : Heading). record { name = h.name; place = h.place; kind = h.kind; «data» = a.data }) p in
    first ∙ ap (λ (t : List ℕ). record { name = b.name; place = b.place; kind = b.kind; «data» = t }) q

-- an entry says what it is, and where it ends
pub entry_text-injective : (a b : Entry) (x y : List ℕ) → IsHeading (heading_of a) → IsHeading (heading_of b) → length a.data ≡ data_length a.kind → length b.data ≡ data_length b.kind
    → entry_text a ++ x ≡ entry_text b ++ y → (a ≡ b) × (x ≡ y)
entry_text-injective a b x y p q s t e =
    let h = heading_text-injective (heading_of a) (heading_of b) (a.data ++ x) (b.data ++ y) p q
    (sym (append_assoc (heading_text (heading_of a)) a.data x) ∙ e ∙ append_assoc (heading_text (heading_of b)) b.data y) in
    let kinds : data_length a.kind ≡ data_length b.kind = ap (λ (k : Heading). data_length k.kind) h.0 in
    let d = split_same a.data b.data x y (s ∙ kinds ∙ sym t) h.1 in
    (same_entry a b h.0 d.0, d.1)

-- the bytes are too short for the user data
pub data_short : (entry : Entry) (h : Heading) (bytes rest : List ℕ) → IsHeading h → bytes ≡ heading_text h ++ rest → length rest < data_length h.kind
    → IsHeading (heading_of entry) → length entry.data ≡ data_length entry.kind → ¬ Begins (entry_text entry) bytes
data_short entry h bytes rest p e short q s begins =
    let one = heading_text-injective h (heading_of entry) rest (entry.data ++ begins.0) p q
    (sym e ∙ begins.1 ∙ append_assoc (heading_text (heading_of entry)) entry.data begins.0) in
    let kinds : data_length h.kind ≡ data_length entry.kind = ap (λ (k : Heading). data_length k.kind) one.0 in
    omega (arith, short, kinds, s, ap length one.1, length-append entry.data begins.0)

pub too_short : (entry : Entry) (bytes : List ℕ) → length bytes < 12 → IsHeading (heading_of entry) → ¬ Begins (entry_text entry) bytes
too_short entry bytes short q begins =
    omega (arith, short, ap length begins.1, length-append (entry_text entry) begins.0, length-append (heading_text (heading_of entry)) entry.data, length-heading (heading_of entry) q)

-- fields and user data at the front of bytes are an entry there
pub entry_found : (entry : Entry) (bytes rest user behind : List ℕ) → bytes ≡ heading_text (heading_of entry) ++ rest → rest ≡ user ++ behind → entry.data ≡ user → Begins (entry_text entry) bytes
entry_found entry bytes rest user behind p q e =
    (behind, p ∙ ap (λ l. heading_text (heading_of entry) ++ l) (q ∙ ap (λ l. l ++ behind) (sym e)) ∙ sym (append_assoc (heading_text (heading_of entry)) entry.data behind))
