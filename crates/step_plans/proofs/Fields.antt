-- The fields of a format 1 once the indicator of a change is off, or other bytes stand at a place.
use Rattle.std.proofs.Common.{◌≡◌, ℕ, ◌+◌, ◌<◌, ◌≤◌, List, [], ◌∷◌, ◌++◌, length, take, drop, get_or, set, bit_and, refl, sym, ap, ◌∙◌, arith, append_assoc}
use Rattle.std.proofs.lemmas.List.{length-append, length-take, length-drop, take-set-le, drop-set-add, set_split, set-append_right, get_or-append_right, get_or-take, get_or-drop, take-append-le, drop-append-le, drop-drop, drop-take, take-take}
use Rattle.std.proofs.Math.Seq.{take-set-lt, take-append-add, take-append_seam, drop-append-add, drop-append_seam}
use Rattle.vol_label.specs.declared.serial.Serial.{Serial}
use Rattle.volume_model.specs.Reads.{fields_of_1}
use Rattle.move_core.specs.Steps.{fields_at, reset_fields}

module _ (bytes : List ℕ) (long : length bytes ≡ 140) where
  abbrev front : List ℕ
  front = take 59 bytes

  abbrev back : List ℕ
  back = take 45 (drop 60 bytes)

  front_long : length front ≡ 59
  front_long = omega (arith, long, length-take 59 bytes)

  back_long : length back ≡ 45
  back_long = omega (arith, long, length-take 45 (drop 60 bytes), length-drop 60 bytes)

  -- a byte behind the number of extents is set in the fields too
  field_set : (byte : ℕ) → fields_of_1 (set bytes 93 byte) ≡ set (fields_of_1 bytes) 93 byte
  field_set byte =
      let f : take 59 (set bytes 93 byte) ≡ front = take-set-le 59 bytes 93 byte (omega arith) in
      let b : take 45 (drop 60 (set bytes 93 byte)) ≡ set back 33 byte = ap (take 45) (drop-set-add 60 bytes 33 byte) ∙ take-set-lt 45 (drop 60 bytes) 33 byte (omega arith) in
      (λ i. f i ++ (0 ∷ b i)) ∙ sym (set-append_right front (0 ∷ back) 59 93 byte front_long (omega arith))

  field_is : get_or (fields_of_1 bytes) 93 0 ≡ get_or bytes 93 0
  field_is =
      get_or-append_right front (0 ∷ back) 59 93 0 front_long (omega arith) ∙ get_or-take 45 (drop 60 bytes) 33 0 (omega arith) ∙ get_or-drop 60 bytes 33 0

  pub fields_reset : fields_of_1 (set bytes 93 (bit_and (get_or bytes 93 0) 253)) ≡ reset_fields (fields_of_1 bytes)
  fields_reset =
      let fields = fields_of_1 bytes in
      let long : 93 < length fields = omega (arith, length-append front (0 ∷ back), front_long, back_long) in
      field_set (bit_and (get_or bytes 93 0) 253) ∙ set_split fields 93 (bit_and (get_or bytes 93 0) 253) long
      ∙ ap (λ (byte : ℕ). take 93 fields ++ (bit_and byte 253 ∷ drop 94 fields)) (sym field_is)

-- ---- other bytes at a place before the number of extents

module _ (bytes piece : List ℕ) (start rest : ℕ) (long : length bytes ≡ 140) (within : start + length piece + rest ≡ 59) where
  abbrev end : ℕ
  end = start + length piece

  abbrev pub put_at : List ℕ
  put_at = take start bytes ++ (piece ++ drop (start + length piece) bytes)

  abbrev behind : List ℕ
  behind = 0 ∷ take 45 (drop 60 bytes)

  start_long : length (take start bytes) ≡ start
  start_long = omega (arith, long, within, length-take start bytes)

  front_is : take 59 put_at ≡ take start bytes ++ (piece ++ take rest (drop end bytes))
  front_is =
      let places : 59 ≡ length (take start bytes) + (length piece + rest) = omega (arith, start_long, within) in
      ap (λ (n : ℕ). take n put_at) places
      ∙ take-append-add (take start bytes) (piece ++ drop end bytes) (length piece + rest)
      ∙ ap (λ (l : List ℕ). take start bytes ++ l) (take-append-add piece (drop end bytes) rest)

  back_is : drop 60 put_at ≡ drop 60 bytes
  back_is =
      let places : 60 ≡ length (take start bytes) + (length piece + (rest + 1)) = omega (arith, start_long, within) in
      let end_is : end + (rest + 1) ≡ 60 = omega (arith, within) in
      ap (λ (n : ℕ). drop n put_at) places
      ∙ drop-append-add (take start bytes) (piece ++ drop end bytes) (length piece + (rest + 1))
      ∙ drop-append-add piece (drop end bytes) (rest + 1)
      ∙ drop-drop (rest + 1) end bytes
      ∙ ap (λ (n : ℕ). drop n bytes) end_is

  fields_front : take start (fields_of_1 bytes) ≡ take start bytes
  fields_front =
      take-append-le start (take 59 bytes) behind (omega (arith, long, within, length-take 59 bytes)) ∙ take-take start 59 bytes (omega (arith, within))

  fields_back : drop end (fields_of_1 bytes) ≡ take rest (drop end bytes) ++ behind
  fields_back =
      let places : 59 ≡ end + rest = omega (arith, within) in
      drop-append-le end (take 59 bytes) behind (omega (arith, long, within, length-take 59 bytes))
      ∙ ap (λ (l : List ℕ). l ++ behind) (ap (λ (n : ℕ). drop end (take n bytes)) places ∙ drop-take end rest bytes)

  pub fields_put : fields_of_1 put_at ≡ take start (fields_of_1 bytes) ++ (piece ++ drop (start + length piece) (fields_of_1 bytes))
  fields_put =
      let kept = take rest (drop end bytes) in
      (λ i. front_is i ++ (0 ∷ take 45 (back_is i)))
      ∙ append_assoc (take start bytes) (piece ++ kept) behind
      ∙ ap (λ (l : List ℕ). take start bytes ++ l) (append_assoc piece kept behind)
      ∙ (λ i. sym fields_front i ++ (piece ++ sym fields_back i))

-- ---- another name and another serial

module _ (bytes name one two : List ℕ) (serial : Serial) (long : length bytes ≡ 140) (name_long : length name ≡ 44) (serial_long : length serial.text ≡ 6)
    (one_is : one ≡ take 0 bytes ++ (name ++ drop (0 + length name) bytes)) (two_is : two ≡ take 45 one ++ (serial.text ++ drop (45 + length serial.text) one)) where
  nothing : {X : Type 0} (list : List X) → take 0 list ≡ []
  nothing [] = refl
  nothing (x ∷ list) = refl

  named_is : one ≡ name ++ drop 44 bytes
  named_is =
      let places : 0 + length name ≡ 44 = omega (arith, name_long) in
      one_is ∙ (λ i. nothing bytes i ++ (name ++ drop (places i) bytes))

  one_long : length one ≡ 140
  one_long = ap length named_is ∙ omega (arith, length-append name (drop 44 bytes), length-drop 44 bytes, long, name_long)

  front_kept : (n : ℕ) → n ≤ 45 → take n two ≡ take n one
  front_kept n few =
      ap (take n) two_is
      ∙ take-append-le n (take 45 one) (serial.text ++ drop (45 + length serial.text) one) (omega (arith, few, length-take 45 one, one_long)) ∙ take-take n 45 one few

  pub copied_name : take 44 two ≡ name
  copied_name =
      front_kept 44 (omega arith) ∙ ap (take 44) named_is ∙ ap (λ (n : ℕ). take n (name ++ drop 44 bytes)) (sym name_long) ∙ take-append_seam name (drop 44 bytes)

  pub copied_code : get_or two 44 0 ≡ get_or bytes 44 0
  copied_code =
      let behind : drop 44 one ≡ drop 44 bytes =
      ap (drop 44) named_is ∙ ap (λ (n : ℕ). drop n (name ++ drop 44 bytes)) (sym name_long) ∙ drop-append_seam name (drop 44 bytes) in
      sym (get_or-take 45 two 44 0 (omega arith)) ∙ ap (λ (l : List ℕ). get_or l 44 0) (front_kept 45 (omega arith)) ∙ get_or-take 45 one 44 0 (omega arith)
      ∙ sym (get_or-drop 44 one 0 0) ∙ ap (λ (l : List ℕ). get_or l 0 0) behind ∙ get_or-drop 44 bytes 0 0

  pub fields_copied : fields_of_1 two ≡ fields_at name serial (fields_of_1 bytes)
  fields_copied =
      let fields = fields_of_1 bytes in
      let back : List ℕ = drop 44 fields in
      let named : fields_of_1 one ≡ name ++ back =
      let places : 0 + length name ≡ 44 = omega (arith, name_long) in
      ap fields_of_1 one_is ∙ fields_put bytes name 0 15 long (omega (arith, name_long)) ∙ (λ i. nothing fields i ++ (name ++ drop (places i) fields)) in
      let both : fields_of_1 two ≡ take 45 (fields_of_1 one) ++ (serial.text ++ drop (45 + length serial.text) (fields_of_1 one)) =
      ap fields_of_1 two_is ∙ fields_put one serial.text 45 8 one_long (omega (arith, serial_long)) in
      let front : take 45 (name ++ back) ≡ name ++ take 1 back =
      (let places : 45 ≡ length name + 1 = omega (arith, name_long) in ap (λ (n : ℕ). take n (name ++ back)) places) ∙ take-append-add name back 1 in
      let behind : drop (45 + length serial.text) (name ++ back) ≡ drop 51 fields =
      (let places : 45 + length serial.text ≡ length name + 7 = omega (arith, name_long, serial_long) in ap (λ (n : ℕ). drop n (name ++ back)) places) ∙ drop-append-add name back 7 ∙ drop-drop 7 44 fields in
      both ∙ ap (λ (l : List ℕ). take 45 l ++ (serial.text ++ drop (45 + length serial.text) l)) named
      ∙ (λ i. front i ++ (serial.text ++ behind i))
      ∙ append_assoc name (take 1 back) (serial.text ++ drop 51 fields)
