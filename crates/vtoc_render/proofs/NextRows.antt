-- The rows after a change.
use Rattle.std.proofs.Common.{◌≡◌, ◌≢◌, ℕ, zero, suc, ◌+◌, ◌<◌, List, [], ◌∷◌, ◌++◌, length, map, take, drop, Contains, Bool, true, false, cond, Option, Some, None, refl, sym, ap, subst, ◌∙◌, arith}
use Rattle.std.specs.Prelude.{option_to_list, slice_index_or}
use Rattle.std.specs.List.{slice_get}
use Rattle.std.proofs.lemmas.List.{take-append-drop}
use Rattle.std.proofs.Math.Numerals.{suc-eq-add-one}
use Rattle.ckd_image.specs.Device.{heads_of}
use Rattle.dscb_rec.specs.declared.field.Extent.{Extent}
use Rattle.volume_model.specs.declared.extent.ExtentField.{ExtentField}
use Rattle.volume_model.specs.Pinned.{IsNameOf}
use Rattle.volume_model.specs.Space.{run_of}
use Rattle.vtoc_core.specs.declared.volume.Row.{Row}
use Rattle.vtoc_core.specs.declared.volume.Volume.{Volume}
use Rattle.vtoc_core.specs.Loaded.{field_of, HasItsName}
use Rattle.volume_change.specs.declared.change.Change.{Change}
use Rattle.volume_change.specs.declared.change.Change.TheVariants.{Repair, Put, Swap, Remove, Mark}
use Rattle.volume_change.specs.declared.spot.Spot.{Spot}
use Rattle.volume_change.specs.Runs.{runs_in}
use Rattle.volume_change.specs.Spot.{behind, AreNamed, HasNameAt, IsSpot, Suits, rows_with}
use Rattle.volume_change.proofs.Names.{one_text}
use Rattle.volume_change.proofs.Spots.{none_named, put_in_order}
use Rattle.vtoc_render.specs.Next.{MayChange, IsRowPut, AreRowsAfter, numbered_from, runs_of_rows}
use Rattle.vtoc_render.specs.Steps.{IsAimOf, IsSpotFor, gone_from}
use Rattle.vtoc_render.proofs.Places.{behind_within}

-- ---- the row at a place

pub record IsRowAt (rows : List Row) (place : ℕ) : Type 0 where
  pub row : Row
  pub got : slice_get rows place ≡ Some row
  pub parts : rows ≡ take place rows ++ (row ∷ drop (suc place) rows)
  pub there : Contains rows row
  pub at : (d : Row) → slice_index_or rows place d ≡ row

pub row_at : (rows : List Row) (place : ℕ) → place < length rows → IsRowAt rows place
row_at [] place less = absurd (never less)
  where
    never : place < 0 → ⊥
    never less = omega (arith, less)
row_at (row ∷ rows) zero less = record { row = row; got = refl; parts = refl; there = (0, omega arith, refl); at = λ d. refl }
row_at (row ∷ rows) (suc place) less =
    let rest = row_at rows place (omega (arith, less)) in
    record {
      row = rest.row;
      got = rest.got;
      parts = ap (λ (more : List Row). row ∷ more) rest.parts;
      there = (suc rest.there.0, omega (arith, rest.there.1), rest.there.2);
      at = rest.at;
    }

-- ---- what goes

-- where a name stands, its row goes
pub record IsGoing (rows : List Row) (name : List ℕ) (spot : Spot) : Type 0 where
  pub before : Row
  pub named : before.name ≡ name
  pub there : Contains rows before
  pub gone_is : gone_from rows spot ≡ Some before
  pub rows_are : rows ≡ take spot.place rows ++ (before ∷ drop (behind spot) rows)

pub going : (rows : List Row) (name : List ℕ) (spot : Spot) → IsSpot rows name spot → spot.goes ≡ true → IsGoing rows name spot
going rows name spot is goes =
    let has : HasNameAt rows spot.place name = is.goes_is.0 goes in
    let at = row_at rows spot.place has.0 in
    record {
      before = at.row;
      named = ap (λ (row : Row). row.name) (sym (at.at at.row)) ∙ has.1 at.row;
      there = at.there;
      gone_is = ap (λ (b : Bool). cond b (slice_get rows spot.place) None) goes ∙ at.got;
      rows_are = at.parts ∙ ap (λ (n : ℕ). take spot.place rows ++ (at.row ∷ drop n rows)) (suc-eq-add-one spot.place ∙ sym (ap (λ (b : Bool). cond b (spot.place + 1) spot.place) goes));
    }

pub record IsStaying (rows : List Row) (spot : Spot) : Type 0 where
  pub gone_is : gone_from rows spot ≡ None
  pub rows_are : rows ≡ take spot.place rows ++ drop (behind spot) rows

pub staying : (rows : List Row) (spot : Spot) → spot.goes ≡ false → IsStaying rows spot
staying rows spot stays = record {
  gone_is = ap (λ (b : Bool). cond b (slice_get rows spot.place) None) stays;
  rows_are = sym (take-append-drop spot.place rows) ∙ ap (λ (n : ℕ). take spot.place rows ++ drop n rows) (sym (ap (λ (b : Bool). cond b (spot.place + 1) spot.place) stays));
}

-- a row with the name goes
pub found_goes : (rows : List Row) (name : List ℕ) (spot : Spot) → IsSpot rows name spot → (old : Row) → Contains rows old → old.name ≡ name → spot.goes ≡ true
found_goes rows name spot is old there named = by spot.goes refl
  where
    by : (b : Bool) → spot.goes ≡ b → spot.goes ≡ true
    by true e = e
    by false e =
        absurd (none_named rows name spot is e there.0 old there.1 (ap (λ (row : Row). row.name) there.2 ∙ named))

-- none has it: none goes
pub none_goes : (rows : List Row) (name : List ℕ) (spot : Spot) → IsSpot rows name spot → ((old : Row) → Contains rows old → old.name ≢ name) → spot.goes ≡ false
none_goes rows name spot is none = by spot.goes refl
  where
    by : (b : Bool) → spot.goes ≡ b → spot.goes ≡ false
    by false e = e
    by true e = let g = going rows name spot is e in absurd (none g.before g.there g.named)

-- ---- the rows after it

-- the row that is put, as it stands afterwards
abbrev pub IsPutAs : Option Row → Option Row → Type 0
IsPutAs None None = Unit {0}
IsPutAs (Some given) (Some written) = IsRowPut given written × HasItsName written
IsPutAs _ _ = ⊥

not_put : (row : Option Row) → IsPutAs None row → row ≡ None
not_put None as_put = refl
not_put (Some row) as_put = absurd as_put

record IsOnePut (given : Row) (row : Option Row) : Type 0 where
  pub written : Row
  pub row_is : row ≡ Some written
  pub is : IsRowPut given written
  pub named : HasItsName written

is_put : (given : Row) (row : Option Row) → IsPutAs (Some given) row → IsOnePut given row
is_put given None as_put = absurd as_put
is_put given (Some written) as_put = record { written = written; row_is = refl; is = as_put.0; named = as_put.1 }

pub rows_after : (volume : Volume) (change : Change) (name : Option (List ℕ)) (put row : Option Row) (spot : Spot) → MayChange volume change → IsAimOf change name put
    → IsSpotFor volume.rows name spot → IsPutAs put row
    → AreRowsAfter volume.rows change (option_to_list (gone_from volume.rows spot)) (option_to_list row) (rows_with volume.rows spot row)
rows_after volume Repair name put row spot may aim is as_put =
    let at : (spot.place ≡ 0) × (spot.goes ≡ false) = subst (λ (name : Option (List ℕ)). IsSpotFor volume.rows name spot) aim.0 is in
    let none : row ≡ None = not_put row (subst (λ (put : Option Row). IsPutAs put row) aim.1 as_put) in
    let s = staying volume.rows spot at.1 in (
      ap option_to_list s.gone_is,
      ap option_to_list none,
      ap (λ (row : Option Row). rows_with volume.rows spot row) none ∙ sym s.rows_are,
    )
rows_after volume (Put given) name put row spot may aim is as_put =
    let at : IsSpot volume.rows given.name spot = subst (λ (name : Option (List ℕ)). IsSpotFor volume.rows name spot) aim.0 is in
    let p = is_put given row (subst (λ (put : Option Row). IsPutAs put row) aim.1 as_put) in
    let stays : spot.goes ≡ false =
    none_goes volume.rows given.name spot at (λ old there named. may.1 there.0 old there.1 (ap (λ (row : Row). row.name) there.2 ∙ named)) in
    let s = staying volume.rows spot stays in (
      take spot.place volume.rows,
      drop (behind spot) volume.rows,
      p.written,
      ap option_to_list s.gone_is,
      ap option_to_list p.row_is,
      p.is,
      s.rows_are,
      ap (λ (row : Option Row). rows_with volume.rows spot row) p.row_is,
    )
rows_after volume (Swap old given) name put row spot may aim is as_put =
    let at : IsSpot volume.rows given.name spot = subst (λ (name : Option (List ℕ)). IsSpotFor volume.rows name spot) aim.0 is in
    let p = is_put given row (subst (λ (put : Option Row). IsPutAs put row) aim.1 as_put) in
    let g = going volume.rows given.name spot at (found_goes volume.rows given.name spot at may.1.0 may.1.1 may.1.2) in (
      take spot.place volume.rows,
      drop (behind spot) volume.rows,
      g.before,
      p.written,
      ap option_to_list g.gone_is,
      ap option_to_list p.row_is,
      g.named,
      p.is,
      g.rows_are,
      ap (λ (row : Option Row). rows_with volume.rows spot row) p.row_is,
    )
rows_after volume (Remove old) name put row spot may aim is as_put =
    let bytes = aim.0.0 in
    let at : IsSpot volume.rows bytes spot = subst (λ (name : Option (List ℕ)). IsSpotFor volume.rows name spot) aim.0.1 is in
    let none : row ≡ None = not_put row (subst (λ (put : Option Row). IsPutAs put row) aim.1 as_put) in
    let same : may.1.name ≡ bytes = one_text old may.1.name bytes may.3 aim.0.2 in
    let g = going volume.rows bytes spot at (found_goes volume.rows bytes spot at may.1 may.2 same) in (
      take spot.place volume.rows,
      drop (behind spot) volume.rows,
      g.before,
      ap option_to_list g.gone_is,
      ap option_to_list none,
      subst (λ (name : List ℕ). IsNameOf old name) (sym g.named) aim.0.2,
      g.rows_are,
      ap (λ (row : Option Row). rows_with volume.rows spot row) none,
    )
rows_after volume Mark name put row spot may aim is as_put = absurd aim

pub named_after : (volume : Volume) (change : Change) (name : Option (List ℕ)) (put row : Option Row) (spot : Spot) → AreNamed volume.rows → IsAimOf change name put
    → IsSpotFor volume.rows name spot → IsPutAs put row → AreNamed (rows_with volume.rows spot row)
named_after volume change name put row spot named aim is as_put =
    put_in_order volume.rows spot row (behind_within volume.rows name spot is) named (suits change aim)
  where
    one : (given : Row) → name ≡ Some given.name → put ≡ Some given → Suits volume.rows spot row
    one given name_is put_is =
        let at : IsSpot volume.rows given.name spot = subst (λ (name : Option (List ℕ)). IsSpotFor volume.rows name spot) name_is is in
        let p = is_put given row (subst (λ (put : Option Row). IsPutAs put row) put_is as_put) in
        subst (λ (row : Option Row). Suits volume.rows spot row) (sym p.row_is) (p.named, subst (λ (name : List ℕ). IsSpot volume.rows name spot) (sym p.is.name_is) at)

    none : put ≡ None → Suits volume.rows spot row
    none put_is = subst (λ (row : Option Row). Suits volume.rows spot row) (sym (not_put row (subst (λ (put : Option Row). IsPutAs put row) put_is as_put))) tt

    suits : (change : Change) → IsAimOf change name put → Suits volume.rows spot row
    suits Repair aim = none aim.1
    suits (Put given) aim = one given aim.0 aim.1
    suits (Swap old given) aim = one given aim.0 aim.1
    suits (Remove old) aim = none aim.1
    suits Mark aim = absurd aim

-- ---- the runs of what is put

pub fields_same : (number : ℕ) (extents : List Extent) → map field_of (numbered_from number extents) ≡ map field_of extents
fields_same number [] = refl
fields_same number (extent ∷ extents) = ap (λ (more : List ExtentField). field_of extent ∷ more) (fields_same (number + 1) extents)

pub runs_same : (volume : Volume) (put row : Option Row) → IsPutAs put row → runs_of_rows volume (option_to_list row) ≡ runs_of_rows volume (option_to_list put)
runs_same volume None None as_put = refl
runs_same volume None (Some written) as_put = absurd as_put
runs_same volume (Some given) None as_put = absurd as_put
runs_same volume (Some given) (Some written) as_put =
    ap (λ (extents : List Extent). runs_in (heads_of volume.device) extents ++ []) as_put.0.extents_are
    ∙ ap (λ (fields : List ExtentField). map (run_of (heads_of volume.device)) fields ++ []) (fields_same 0 given.extents)
