-- Texts of fields: what begins one, and the first field with which none goes on.
use Rattle.std.specs.Prelude.{◌≡◌, ℕ, List, ◌++◌, length, take}
use Rattle.ckd_image.specs.Bytes.{Begins}

-- the bytes are the front of some text of this kind
abbrev pub GoesOn : (List ℕ → Type 0) → List ℕ → Type 0
GoesOn Is bytes = (text : List ℕ) × Is text × Begins bytes text

-- Some text of this kind begins with all that stands before a field of so many bytes, and none with the field too, as far as it is there.
pub record IsFirstWrong (Is : List ℕ → Type 0) (bytes : List ℕ) (place len : ℕ) : Type 0 where
  pub front : List ℕ
  pub rest : List ℕ
  pub spelled : bytes ≡ front ++ rest
  pub place_is : length front ≡ place
  pub begun : GoesOn Is front
  pub wrong : ¬ GoesOn Is (front ++ take len rest)

-- the bytes are the front of some value that may stand in a field
abbrev pub IsFieldFront : {X : Type 0} → (X → Type 0) → (X → List ℕ) → List ℕ → Type 0
IsFieldFront {X} May text bytes = (value : X) × May value × Begins bytes (text value)
