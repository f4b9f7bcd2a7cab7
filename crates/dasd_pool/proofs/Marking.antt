-- The marks of blocks.
use Rattle.std.proofs.Common.{◌≡◌, inl, inr, ℕ, zero, suc, ◌+◌, ◌<◌, ◌≤◌, ◌/◌, ◌^◌, ◌-◌, min, List, [], ◌∷◌, ◌++◌, length, take, map, replicate, get_or, Bool, true, false, Vec, sym, ◌∙◌, ap, arith}
use Rattle.std.specs.Prelude.{◌==◌, if◌then◌else◌, slice_set}
use Rattle.std.specs.declared.alloc.Global.{Global}
use Rattle.std.proofs.lemmas.Bool.{cases_eq, cases_lt, eq-eqb, ne_eqb, and_left, and_right, and_from}
use Rattle.std.proofs.lemmas.List.{take_more, length-map, map-append, map-set, length-set, get_or_past, get_or_default, get_or-replicate, length-replicate, get_or-set_same, get_or-set_other}
use Rattle.dasd_pool.specs.declared.units.UnitText.{UnitText}
use Rattle.dasd_pool.specs.Disk.{is_at}
use Rattle.dasd_pool.specs.Calls.{size_in, texts_of, shape_of}
use Rattle.dasd_pool.specs.Marks.{lists_of, is_marked, unmarked, first_marks}
use Rattle.dasd_pool.proofs.Texts.{map_read, no_size}

get_or-replicate_any : {X : Type 0} (n i : ℕ) (d : X) → get_or (replicate n d) i d ≡ d
get_or-replicate_any n i d = elim (cases_lt i n) [
  | inl within ↦ get_or-replicate n i d d within
  | inr past ↦ get_or_past (replicate n d) i d (omega (arith, past, length-replicate n d))
]

-- the marks of a unit, where it is there
map_past : {X Y : Type 0} (f : X → List Y) (xs : List X) (u : ℕ) → length xs ≤ u → get_or (map f xs) u [] ≡ []
map_past f xs u past = get_or_past (map f xs) u [] (omega (arith, past, length-map xs f))

-- at first no block is marked
pub none_marked : (keep : ℕ) (units : List UnitText) (u b : ℕ) → is_marked (first_marks keep units) u b ≡ false
none_marked zero units u b = elim (cases_lt u (length units)) [
  | inl there ↦
      let nothing : UnitText = record { head = []; blocks = [] } in
      let unit = get_or units u nothing in
      ap (λ (l : List Bool). get_or l b false) (map_read unmarked units u unit [] there (get_or_default units u nothing unit there)) ∙ get_or-replicate_any _ b false
  | inr past ↦ ap (λ (l : List Bool). get_or l b false) (map_past unmarked units u past)
]
none_marked (suc n) units u b = ap (λ (t : Bool). is_marked (if t then map unmarked units else []) u b) (ne_eqb (suc n) 0 (λ same. omega arith))

-- a unit has a mark for each of its blocks
pub line_length : (units : List UnitText) (u : ℕ) → length (get_or (first_marks 0 units) u []) ≡ (shape_of units).blocks u
line_length units u = elim (cases_lt u (length units)) [
  | inl there ↦
      let nothing : UnitText = record { head = []; blocks = [] } in
      let unit = get_or units u nothing in
      let is : unit ≡ get_or units u unit = get_or_default units u nothing unit there in
      let head : get_or (map (λ (t : UnitText). t.head) units) u [] ≡ unit.head = map_read (λ (t : UnitText). t.head) units u unit [] there is in
      let text : get_or (texts_of units) u [] ≡ unit.blocks = map_read (λ (t : UnitText). t.blocks) units u unit [] there is in
      ap (λ (l : List Bool). length l) (map_read unmarked units u unit [] there is)
      ∙ length-replicate _ false
      ∙ sym (λ i. min (length (text i) / size_in (head i)) (2 ^ 32 - 1))
  | inr past ↦ ap (λ (l : List Bool). length l) (map_past unmarked units u past)
      ∙ sym (λ i. min (length (map_past (λ (t : UnitText). t.blocks) units u past i) / no_size units u past i) (2 ^ 32 - 1))
]

-- a mark was set
pub marked_set : (marks new : List (List Bool)) (unit block : ℕ) → block < length (get_or marks unit []) → new ≡ slice_set marks unit (slice_set (get_or marks unit []) block true)
    → (u b : ℕ) → is_marked new u b ≡ (if is_at unit block u b then true else is_marked marks u b)
marked_set marks new unit block within is u b = ap (λ (ms : List (List Bool)). is_marked ms u b) is ∙ elim (cases_eq u unit) [
  | inl here ↦
      ap (λ (n : ℕ). is_marked (slice_set marks unit line) n b) here
      ∙ ap (λ (l : List Bool). get_or l b false) (get_or-set_same marks unit line [] there)
      ∙ elim (cases_eq b block) [
        | inl same ↦ ap (λ (n : ℕ). get_or line n false) same ∙ get_or-set_same (get_or marks unit []) block true false within
            ∙ sym (ap (λ (t : Bool). if t then true else is_marked marks u b) (and_from (u == unit) (b == block) (eq-eqb u unit here) (eq-eqb b block same)))
        | inr apart ↦ get_or-set_other (get_or marks unit []) block b true false apart
            ∙ sym (ap (λ (n : ℕ). is_marked marks n b) here)
            ∙ sym (ap (λ (t : Bool). if t then true else is_marked marks u b) (and_right (u == unit) (b == block) (ne_eqb b block apart)))
      ]
  | inr apart ↦ ap (λ (l : List Bool). get_or l b false) (get_or-set_other marks unit u line [] apart)
      ∙ sym (ap (λ (t : Bool). if t then true else is_marked marks u b) (and_left (u == unit) (b == block) (ne_eqb u unit apart)))
]
  where
    line : List Bool
    line = slice_set (get_or marks unit []) block true

    there : unit < length marks
    there = elim (cases_lt unit (length marks)) [ inl less ↦ less | inr past ↦ absurd (omega (arith, within, ap (λ (l : List Bool). length l) (get_or_past marks unit [] past))) ]

-- and each unit has as many
pub length_set : (marks new : List (List Bool)) (unit block : ℕ) → new ≡ slice_set marks unit (slice_set (get_or marks unit []) block true) → (u : ℕ) → length (get_or new u []) ≡ length (get_or marks u [])
length_set marks new unit block is u = ap (λ (ms : List (List Bool)). length (get_or ms u [])) is ∙ elim (cases_eq u unit) [
  | inl here ↦ elim (cases_lt unit (length marks)) [
    | inl less ↦ ap (λ (n : ℕ). length (get_or (slice_set marks unit line) n [])) here ∙ ap (λ (l : List Bool). length l) (get_or-set_same marks unit line [] less)
        ∙ length-set (get_or marks unit []) block true ∙ ap (λ (n : ℕ). length (get_or marks n [])) (sym here)
    | inr past ↦ ap (λ (l : List Bool). length l)
        (get_or_past (slice_set marks unit line) u [] (omega (arith, past, here, length-set marks unit line)) ∙ sym (get_or_past marks u [] (omega (arith, past, here))))
  ]
  | inr apart ↦ ap (λ (l : List Bool). length l) (get_or-set_other marks unit u line [] apart)
]
  where
    line : List Bool
    line = slice_set (get_or marks unit []) block true

-- the marks of one unit more
pub marks_more : (units : List UnitText) (marks later : List (Vec Bool Global)) (i : ℕ) (unit : UnitText) (line : Vec Bool Global) → i < length units → unit ≡ get_or units i unit → line.items ≡ unmarked unit
    → later ≡ marks ++ line ∷ [] → lists_of marks ≡ take i (map unmarked units) → lists_of later ≡ take (i + 1) (map unmarked units)
marks_more units marks later i unit line less is same more so_far =
    ap lists_of more ∙ map-append (λ (v : Vec Bool Global). v.items) marks (line ∷ [])
    ∙ (λ j. so_far j ++ (same ∙ sym (map_read unmarked units i unit [] less is)) j ∷ [])
    ∙ sym (take_more (map unmarked units) i [] (omega (arith, length-map units unmarked)))

-- the marks of one unit more were taken away
pub line_cleared : (marks : List (Vec Bool Global)) (unit : ℕ) (line : Vec Bool Global) (size : ℕ) → unit < length marks → line.items ≡ replicate size false
    → ((u b : ℕ) → u < unit → is_marked (lists_of marks) u b ≡ false) → (u b : ℕ) → u < unit + 1 → is_marked (lists_of (slice_set marks unit line)) u b ≡ false
line_cleared marks unit line size there is so_far u b below =
    ap (λ (ms : List (List Bool)). is_marked ms u b) (map-set (λ (v : Vec Bool Global). v.items) marks unit line)
    ∙ elim (cases_eq u unit) [
      | inl here ↦ ap (λ (n : ℕ). is_marked (slice_set (lists_of marks) unit line.items) n b) here
          ∙ ap (λ (l : List Bool). get_or l b false) (get_or-set_same (lists_of marks) unit line.items [] (omega (arith, there, length-map marks (λ (v : Vec Bool Global). v.items))) ∙ is)
          ∙ get_or-replicate_any size b false
      | inr apart ↦ ap (λ (l : List Bool). get_or l b false) (get_or-set_other (lists_of marks) unit u line.items [] apart) ∙ so_far u b (omega arith)
    ]

pub length_cleared : (marks : List (Vec Bool Global)) (unit : ℕ) (was line : Vec Bool Global) → unit < length marks → was ≡ get_or marks unit was → line.items ≡ replicate (length was.items) false
    → (u : ℕ) → length (get_or (lists_of (slice_set marks unit line)) u []) ≡ length (get_or (lists_of marks) u [])
length_cleared marks unit was line there here is u =
    ap (λ (ms : List (List Bool)). length (get_or ms u [])) (map-set (λ (v : Vec Bool Global). v.items) marks unit line)
    ∙ elim (cases_eq u unit) [
      | inl same ↦ ap (λ (n : ℕ). length (get_or (slice_set (lists_of marks) unit line.items) n [])) same
          ∙ ap (λ (l : List Bool). length l) (get_or-set_same (lists_of marks) unit line.items [] (omega (arith, there, length-map marks (λ (v : Vec Bool Global). v.items))) ∙ is)
          ∙ length-replicate (length was.items) false
          ∙ sym (ap (λ (l : List Bool). length l) (map_read (λ (v : Vec Bool Global). v.items) marks unit was [] there here))
          ∙ ap (λ (n : ℕ). length (get_or (lists_of marks) n [])) (sym same)
      | inr apart ↦ ap (λ (l : List Bool). length l) (get_or-set_other (lists_of marks) unit u line.items [] apart)
    ]
