-- The bytes of several units.
use Rattle.std.proofs.Common.{◌≡◌, inl, inr, ℕ, zero, suc, ◌+◌, ◌-◌, ◌*◌, ◌/◌, ◌^◌, ◌<◌, ◌≤◌, List, [], ◌∷◌, ◌++◌, length, take, map, get_or, Bool, true, Vec, refl, sym, ◌∙◌, ap, subst, arith}
use Rattle.std.specs.Prelude.{◌==◌, ◌&&◌, if◌then◌else◌, slice_set, min}
use Rattle.std.specs.declared.alloc.Global.{Global}
use Rattle.std.proofs.lemmas.Bool.{cases_eq, eq-eqb, ne_eqb, and_left}
use Rattle.std.proofs.lemmas.List.{take_more, length-map, map-append, get_or-set_same, get_or-set_other, get_or_push, get_or_append_left, get_or_past}
use Rattle.dasd_pool.specs.declared.units.UnitText.{UnitText}
use Rattle.dasd_pool.specs.Disk.{Image, is_at}
use Rattle.dasd_pool.specs.Calls.{written, shape_of, size_in, size_of, texts_of, items_of, block_at, image_of}
use Rattle.dasd_pool.proofs.Bytes.{block_at-written, length-written}

-- an element that was read, under a function
pub map_read : {X Y : Type 0} (f : X → Y) (xs : List X) (i : ℕ) (x : X) (d : Y) → i < length xs → x ≡ get_or xs i x → get_or (map f xs) i d ≡ f x
map_read f [] i x d less is = absurd (omega arith)
map_read f (y ∷ ys) zero x d less is = sym (ap f is)
map_read f (y ∷ ys) (suc i) x d less is = map_read f ys i x d (omega arith) is

-- a unit that is not there has no blocks
pub no_size : (units : List UnitText) (u : ℕ) → length units ≤ u → size_of units u ≡ 0
no_size units u past = ap size_in (get_or_past (map (λ (t : UnitText). t.head) units) u [] (omega (arith, past, length-map units (λ (t : UnitText). t.head))))

-- one unit more
pub texts_more : (units : List UnitText) (texts later : List (Vec ℕ Global)) (i : ℕ) (unit : UnitText) (text : Vec ℕ Global) → i < length units → unit ≡ get_or units i unit → text.items ≡ unit.blocks
    → later ≡ texts ++ text ∷ [] → items_of texts ≡ take i (texts_of units) → items_of later ≡ take (i + 1) (texts_of units)
texts_more units texts later i unit text less is same more so_far =
    ap items_of more ∙ map-append (λ (v : Vec ℕ Global). v.items) texts (text ∷ [])
    ∙ (λ j. so_far j ++ (same ∙ sym (map_read (λ (t : UnitText). t.blocks) units i unit [] less is)) j ∷ [])
    ∙ sym (take_more (texts_of units) i [] (omega (arith, length-map units (λ (t : UnitText). t.blocks))))

-- a write changes just its block
pub image_written : (units : List UnitText) (texts new : List (List ℕ)) (unit block : ℕ) (buf : List ℕ) → unit < length texts → length buf ≡ size_of units unit
    → block * size_of units unit + size_of units unit ≤ length (get_or texts unit []) → new ≡ slice_set texts unit (written (get_or texts unit []) (block * size_of units unit) buf)
    → (u b : ℕ) → image_of (size_of units) new u b ≡ (if is_at unit block u b then buf else image_of (size_of units) texts u b)
image_written units texts new unit block buf room long fits is_set u b =
    let place = block * size_of units unit in
    let old = get_or texts unit [] in
    ap (λ (ts : List (List ℕ)). image_of (size_of units) ts u b) is_set ∙ elim (cases_eq u unit) [
      | inl here ↦
          ap (λ (n : ℕ). block_at (size_of units n) (get_or (slice_set texts unit (written old place buf)) n []) b) here
          ∙ ap (λ (l : List ℕ). block_at (size_of units unit) l b) (get_or-set_same texts unit (written old place buf) [] room)
          ∙ block_at-written old buf (size_of units unit) block b long fits
          ∙ sym (ap (λ (t : Bool). if t && (b == block) then buf else image_of (size_of units) texts unit b) (eq-eqb unit unit refl))
          ∙ ap (λ (n : ℕ). if is_at unit block n b then buf else image_of (size_of units) texts n b) (sym here)
      | inr apart ↦
          ap (λ (l : List ℕ). block_at (size_of units u) l b) (get_or-set_other texts unit u (written old place buf) [] apart)
          ∙ sym (ap (λ (t : Bool). if t then buf else image_of (size_of units) texts u b) (and_left (u == unit) (b == block) (ne_eqb u unit apart)))
    ]

-- and no length
pub lengths_written : (texts new : List (List ℕ)) (unit place : ℕ) (buf : List ℕ) → unit < length texts → place + length buf ≤ length (get_or texts unit [])
    → new ≡ slice_set texts unit (written (get_or texts unit []) place buf) → (u : ℕ) → length (get_or new u []) ≡ length (get_or texts u [])
lengths_written texts new unit place buf room fits is_set u =
    let old = get_or texts unit [] in
    ap (λ (ts : List (List ℕ)). length (get_or ts u [])) is_set ∙ elim (cases_eq u unit) [
      | inl here ↦ ap (λ (n : ℕ). length (get_or (slice_set texts unit (written old place buf)) n [])) here
          ∙ ap length (get_or-set_same texts unit (written old place buf) [] room) ∙ length-written old buf place fits
          ∙ ap (λ (n : ℕ). length (get_or texts n [])) (sym here)
      | inr apart ↦ ap length (get_or-set_other texts unit u (written old place buf) [] apart)
    ]

-- one unit more is torn
pub torn_units_more : (units new later : List UnitText) (i : ℕ) (unit : UnitText) (blocks : List ℕ) (wanted : Image) → i < length units → unit ≡ get_or units i unit → length new ≡ i
    → later ≡ new ++ record { head = unit.head; blocks = blocks } ∷ []
    → ((b : ℕ) → b < (shape_of units).blocks i → block_at (size_of units i) blocks b ≡ wanted i b)
    → ((u b : ℕ) → u < i → b < (shape_of units).blocks u → image_of (size_of units) (texts_of new) u b ≡ wanted u b)
    → (u b : ℕ) → u < i + 1 → b < (shape_of units).blocks u → image_of (size_of units) (texts_of later) u b ≡ wanted u b
torn_units_more units new later i unit blocks wanted less is count more here so_far u b below within =
    let added : UnitText = record { head = unit.head; blocks = blocks } in
    let texts : texts_of later ≡ texts_of new ++ blocks ∷ [] = ap texts_of more ∙ map-append (λ (t : UnitText). t.blocks) new (added ∷ []) in
    let long : length (texts_of new) ≡ i = length-map new (λ (t : UnitText). t.blocks) ∙ count in
    elim (cases_eq u i) [
      | inl same ↦
          ap (λ (n : ℕ). image_of (size_of units) (texts_of later) n b) same
          ∙ ap (λ (ts : List (List ℕ)). image_of (size_of units) ts i b) texts
          ∙ ap (λ (l : List ℕ). block_at (size_of units i) l b) (get_or_push (texts_of new) blocks [] i long)
          ∙ here b (subst (λ (n : ℕ). b < (shape_of units).blocks n) same within)
          ∙ ap (λ (n : ℕ). wanted n b) (sym same)
      | inr apart ↦
          ap (λ (ts : List (List ℕ)). image_of (size_of units) ts u b) texts
          ∙ ap (λ (l : List ℕ). block_at (size_of units u) l b) (get_or_append_left (texts_of new) (blocks ∷ []) [] u (omega arith))
          ∙ so_far u b (omega arith) within
    ]

pub heads_more : (units new later : List UnitText) (i : ℕ) (unit : UnitText) (blocks : List ℕ) → i < length units → unit ≡ get_or units i unit → later ≡ new ++ record { head = unit.head; blocks = blocks } ∷ []
    → map (λ (t : UnitText). t.head) new ≡ take i (map (λ (t : UnitText). t.head) units) → map (λ (t : UnitText). t.head) later ≡ take (i + 1) (map (λ (t : UnitText). t.head) units)
heads_more units new later i unit blocks less is more so_far =
    let added : UnitText = record { head = unit.head; blocks = blocks } in
    ap (λ (us : List UnitText). map (λ (t : UnitText). t.head) us) more ∙ map-append (λ (t : UnitText). t.head) new (added ∷ [])
    ∙ (λ j. so_far j ++ sym (map_read (λ (t : UnitText). t.head) units i unit [] less is) j ∷ [])
    ∙ sym (take_more (map (λ (t : UnitText). t.head) units) i [] (omega (arith, length-map units (λ (t : UnitText). t.head))))

pub lengths_more : (units new later : List UnitText) (i : ℕ) (unit : UnitText) (blocks : List ℕ) → i < length units → unit ≡ get_or units i unit → later ≡ new ++ record { head = unit.head; blocks = blocks } ∷ []
    → length blocks ≡ length unit.blocks → map (λ (t : UnitText). length t.blocks) new ≡ take i (map (λ (t : UnitText). length t.blocks) units)
    → map (λ (t : UnitText). length t.blocks) later ≡ take (i + 1) (map (λ (t : UnitText). length t.blocks) units)
lengths_more units new later i unit blocks less is more same so_far =
    let added : UnitText = record { head = unit.head; blocks = blocks } in
    ap (λ (us : List UnitText). map (λ (t : UnitText). length t.blocks) us) more ∙ map-append (λ (t : UnitText). length t.blocks) new (added ∷ [])
    ∙ (λ j. so_far j ++ (same ∙ sym (map_read (λ (t : UnitText). length t.blocks) units i unit 0 less is)) j ∷ [])
    ∙ sym (take_more (map (λ (t : UnitText). length t.blocks) units) i 0 (omega (arith, length-map units (λ (t : UnitText). length t.blocks))))

-- the length of a unit's bytes, of which there are none where it is not there
text_length : (units : List UnitText) (u : ℕ) → length (get_or (texts_of units) u []) ≡ get_or (map (λ (t : UnitText). length t.blocks) units) u 0
text_length [] zero = refl
text_length [] (suc u) = refl
text_length (unit ∷ units) zero = refl
text_length (unit ∷ units) (suc u) = text_length units u

-- units with these heads, and as many bytes each
pub same_shape : (units new : List UnitText) → map (λ (t : UnitText). t.head) new ≡ map (λ (t : UnitText). t.head) units
    → map (λ (t : UnitText). length t.blocks) new ≡ map (λ (t : UnitText). length t.blocks) units → shape_of new ≡ shape_of units
same_shape units new heads lengths =
    let count : length new ≡ length units =
    sym (length-map new (λ (t : UnitText). t.head)) ∙ ap length heads ∙ length-map units (λ (t : UnitText). t.head) in
    let long : (u : ℕ) → length (get_or (texts_of new) u []) ≡ length (get_or (texts_of units) u []) =
    λ u. text_length new u ∙ ap (λ (ls : List ℕ). get_or ls u 0) lengths ∙ sym (text_length units u) in
    λ j. record {
      units = count j;
      head = λ u. get_or (heads j) u [];
      block_size = λ u. size_in (get_or (heads j) u []);
      blocks = λ u. min (long u j / size_in (get_or (heads j) u [])) (2 ^ 32 - 1);
      may_write = λ u. true;
    }
