-- What a crash leaves in each state of a commit.
use Rattle.std.proofs.Common.{◌⊎◌, ◌≡◌, ⊎_elim, inl, inr, ℕ, ◌+◌, ◌<◌, ◌≤◌, List, [], ◌∷◌, length, take, Bool, true, false, refl, sym, ◌∙◌, ap, arith}
use Rattle.std.specs.Prelude.{nat_lt, ◌==◌, ◌&&◌, ◌||◌, nat_le, map, if◌then◌else◌}
use Rattle.std.specs.List.{enumerate_from}
use Rattle.std.proofs.lemmas.Bool.{ltb-true, eqb-true, and_parts, or_cases, lt-leb, cases_Bool, ne_eqb, and_left, and_right, or_parts}
use Rattle.dasd_pool.specs.Disk.{Image, State, IsSynced, Spares, is_at}
use Rattle.redo_core.specs.declared.entries.Entry.{Entry}
use Rattle.redo_core.specs.declared.target.Target.{Target}
use Rattle.redo_core.specs.Format.{is_open, directory_in}
use Rattle.redo_core.specs.Reading.{is_place, among, set_block, placed, overlay, entry_for, body_for}
use Rattle.redo_core.specs.Phases.{targets, of_body}
use Rattle.redo_core.specs.Steps.{HoldsOld, HoldsNew, HoldsEither, IsShut, HasEntries}

-- another unit, or another block of the unit
pub other_unit : (unit block u b : ℕ) → (u ≡ unit → ⊥) → is_at unit block u b ≡ false
other_unit unit block u b apart = and_left (u == unit) (b == block) (ne_eqb u unit apart)

pub other_block : (unit block u b : ℕ) → (b ≡ block → ⊥) → is_at unit block u b ≡ false
other_block unit block u b apart = and_right (u == unit) (b == block) (ne_eqb b block apart)

-- a place is a block of a volume, or the control block
pub place_cases : (journal u b : ℕ) → is_place journal u b ≡ true → (u < journal) ⊎ ((u ≡ journal) × (b ≡ 2))
place_cases journal u b within = ⊎_elim
    (λ less. inl (ltb-true u journal less))
    (λ at. let parts = and_parts (u == journal) (b == 2) at in inr (eqb-true u journal parts.0, eqb-true b 2 parts.1))
    (or_cases (nat_lt u journal) (is_at journal 2 u b) within)

-- a block of the journal that is no place
pub not_place : (journal unit block b : ℕ) → is_place journal unit block ≡ true → (b ≡ 2 → ⊥) → is_at unit block journal b ≡ false
not_place journal unit block b within other = ⊎_elim
    (λ less. other_unit unit block journal b (λ same. omega arith))
    (λ control. other_block unit block journal b (λ same. other (same ∙ control.1)))
    (place_cases journal unit block within)

-- two images that agree apart from the targets agree with the entries in place
pub placed_agree : (entries : List Entry) (one other : Image) (u b : ℕ) → (among (targets entries) u b ≡ false → one u b ≡ other u b) → placed one entries u b ≡ placed other entries u b
placed_agree [] one other u b agree = agree refl
placed_agree (entry ∷ entries) one other u b agree =
    placed_agree entries (set_block one entry.unit entry.block entry.slot) (set_block other entry.unit entry.block entry.slot) u b
    (λ none. elim (cases_Bool (is_at entry.unit entry.block u b)) [
      | inl here ↦ ap (λ (t : Bool). if t then entry.slot else one u b) here ∙ sym (ap (λ (t : Bool). if t then entry.slot else other u b) here)
      | inr there ↦
          ap (λ (t : Bool). if t then entry.slot else one u b) there ∙ agree (ap (λ (t : Bool). t || among (targets entries) u b) there ∙ none)
          ∙ sym (ap (λ (t : Bool). if t then entry.slot else other u b) there)
    ])

-- a block that is no target stays
pub placed_other : (entries : List Entry) (image : Image) (u b : ℕ) → among (targets entries) u b ≡ false → placed image entries u b ≡ image u b
placed_other [] image u b none = refl
placed_other (entry ∷ entries) image u b none =
    let parts = or_parts (is_at entry.unit entry.block u b) (among (targets entries) u b) none in
    placed_other entries (set_block image entry.unit entry.block entry.slot) u b parts.1 ∙ ap (λ (t : Bool). if t then entry.slot else image u b) parts.0

-- the images from a block on, for these targets
abbrev pub images_from : (ℕ → ℕ) → ℕ → Image → ℕ → List Target → List Entry
images_from size journal image i targets = map (entry_for size journal image) (enumerate_from i targets)

module _ (size : ℕ → ℕ) (journal : ℕ) where
  -- images are what the blocks of the journal from there on say
  pub images_same : (one other : Image) (list : List Target) (i : ℕ) → ((b : ℕ) → i ≤ b → other journal b ≡ one journal b) → images_from size journal other i list ≡ images_from size journal one i list
  images_same one other [] i same = refl
  images_same one other (target ∷ list) i same =
      λ k. record { unit = target.unit; block = target.block; slot = take (size target.unit) (same i (omega arith) k) } ∷ images_same one other list (i + 1) (λ b high. same b (omega arith)) k

  pub body_same : (one other : Image) (entries : List Entry) → ((b : ℕ) → 3 ≤ b → other journal b ≡ one journal b) → HasEntries size journal one entries → HasEntries size journal other entries
  body_same one other entries same body = record {
    names = ap directory_in (same 3 (omega arith)) ∙ body.names;
    images = images_same one other (targets entries) 4 (λ b high. same b (omega arith)) ∙ body.images;
  }

  -- a closed gate
  pub closed_overlay : (image : Image) → is_open (image journal 1) ≡ false → (u b : ℕ) → overlay size journal image u b ≡ image u b
  closed_overlay image closed u b = ap (λ (t : Bool). if t then placed image (body_for size journal image (directory_in (image journal 3))) u b else image u b) closed

  -- an open one
  pub open_overlay : (image : Image) (entries : List Entry) → is_open (image journal 1) ≡ true → HasEntries size journal image entries → (u b : ℕ) → overlay size journal image u b ≡ placed image entries u b
  open_overlay image entries opened body u b =
      ap (λ (t : Bool). if t then placed image (body_for size journal image (directory_in (image journal 3))) u b else image u b) opened
      ∙ ap (λ (list : List Target). placed image (body_for size journal image list) u b) body.names
      ∙ ap (λ (list : List Entry). placed image list u b) body.images

  pub not_gate : (u b : ℕ) → is_place journal u b ≡ true → is_at journal 1 u b ≡ false
  not_gate u b within = ⊎_elim (λ less. other_unit journal 1 u b (λ same. omega arith)) (λ control. other_block journal 1 u b (λ same. omega (arith, control.1))) (place_cases journal u b within)

  pub not_gate_block : (b : ℕ) → 3 ≤ b → is_at journal 1 journal b ≡ false
  not_gate_block b high = other_block journal 1 journal b (λ same. omega arith)

  pub not_body : (count u b : ℕ) → is_place journal u b ≡ true → of_body journal count u b ≡ false
  not_body count u b within = ⊎_elim
      (λ less. and_left (u == journal) (nat_le 3 b && nat_le b (3 + count)) (ne_eqb u journal (λ same. omega arith)))
      (λ control. and_right (u == journal) (nat_le 3 b && nat_le b (3 + count)) (and_left (nat_le 3 b) (nat_le b (3 + count)) (lt-leb 3 b (omega (arith, control.1)))))
      (place_cases journal u b within)

  pub low_not_body : (count b : ℕ) → b < 3 → of_body journal count journal b ≡ false
  low_not_body count b low = and_right (journal == journal) (nat_le 3 b && nat_le b (3 + count)) (and_left (nat_le 3 b) (nat_le b (3 + count)) (lt-leb 3 b low))

  -- while the body is written, behind a closed gate
  pub staging_crash : (count : ℕ) (old : State) (image : Image) → IsShut journal old → Spares (of_body journal count) old image → HoldsOld size journal old image
  staging_crash count old image shut spares =
      let closed : is_open (image journal 1) ≡ false = ap is_open (spares journal 1 (low_not_body count 1 (omega arith)) (shut.synced 1)) ∙ shut.closed in
      record {
        registration = spares journal 0 (low_not_body count 0 (omega arith)) (shut.synced 0);
        closed = closed;
        places = λ u b within was. closed_overlay image closed u b ∙ spares u b (not_body count u b within) was;
      }

  -- a synced state with the body, a registration, and these places
  pub record IsReady (first shown : Image) (entries : List Entry) (state : State) : Type 0 where
    pub all : IsSynced state
    pub body : HasEntries size journal state.contents entries
    pub some : 1 ≤ length entries
    pub registration : state.contents journal 0 ≡ first journal 0
    pub places : (u b : ℕ) → is_place journal u b ≡ true → state.contents u b ≡ shown u b

  -- while the gate is being opened
  pub opening_crash : (old staged : State) (entries : List Entry) (image : Image) → IsReady old.contents old.contents entries staged → Spares (is_at journal 1) staged image → HoldsEither size journal old entries image
  opening_crash old staged entries image ready spares =
      let first : image journal 0 ≡ old.contents journal 0 = spares journal 0 (other_block journal 1 journal 0 (λ same. omega arith)) (ready.all journal 0) ∙ ready.registration in
      let body : HasEntries size journal image entries = body_same staged.contents image entries (λ b high. spares journal b (not_gate_block b high) (ready.all journal b)) ready.body in
      elim (cases_Bool (is_open (image journal 1))) [
        | inl opened ↦ inr (record {
          registration = first;
          body = λ so. (body.names, ready.some);
          places = λ u b within.
              open_overlay image entries opened body u b
              ∙ placed_agree entries image old.contents u b (λ none. spares u b (not_gate u b within) (ready.all u b) ∙ ready.places u b within);
        })
        | inr closed ↦ inl (record {
          registration = first;
          closed = closed;
          places = λ u b within was. closed_overlay image closed u b ∙ spares u b (not_gate u b within) (ready.all u b) ∙ ready.places u b within;
        })
      ]

  -- while the targets are written, behind an open gate
  pub placing_crash : (old opened : State) (entries : List Entry) (image : Image) → IsReady old.contents old.contents entries opened → is_open (opened.contents journal 1) ≡ true
      → ((b : ℕ) → (b ≡ 2 → ⊥) → among (targets entries) journal b ≡ false) → Spares (among (targets entries)) opened image → HoldsNew size journal old entries image
  placing_crash old opened entries image ready gate apart spares =
      let body : HasEntries size journal image entries = body_same opened.contents image entries (λ b high. spares journal b (apart b (λ same. omega arith)) (ready.all journal b)) ready.body in
      record {
        registration = spares journal 0 (apart 0 (λ same. omega arith)) (ready.all journal 0) ∙ ready.registration;
        body = λ so. (body.names, ready.some);
        places = λ u b within.
            open_overlay image entries (ap is_open (spares journal 1 (apart 1 (λ same. omega arith)) (ready.all journal 1)) ∙ gate) body u b
            ∙ placed_agree entries image old.contents u b (λ none. spares u b none (ready.all u b) ∙ ready.places u b within);
      }

  -- while the gate is being closed again
  pub closing_crash : (old done : State) (entries : List Entry) (image : Image) → IsReady old.contents (placed old.contents entries) entries done → Spares (is_at journal 1) done image → HoldsNew size journal old entries image
  closing_crash old done entries image ready spares =
      let body : HasEntries size journal image entries = body_same done.contents image entries (λ b high. spares journal b (not_gate_block b high) (ready.all journal b)) ready.body in
      let now : (u b : ℕ) → is_place journal u b ≡ true → image u b ≡ placed old.contents entries u b = λ u b within. spares u b (not_gate u b within) (ready.all u b) ∙ ready.places u b within in
      record {
        registration = spares journal 0 (other_block journal 1 journal 0 (λ same. omega arith)) (ready.all journal 0) ∙ ready.registration;
        body = λ so. (body.names, ready.some);
        places = λ u b within. elim (cases_Bool (is_open (image journal 1))) [
          | inl opened ↦
              open_overlay image entries opened body u b
              ∙ placed_agree entries image old.contents u b (λ none. now u b within ∙ placed_other entries old.contents u b none)
          | inr closed ↦ closed_overlay image closed u b ∙ now u b within
        ];
      }
