-- A reading of which one block of one unit is another, so that the unit is another online volume.
use Rattle.std.proofs.Common.{◌≡◌, inl, inr, ℕ, zero, suc, List, [], ◌∷◌, ◌++◌, length, Bool, false, Some, refl, sym, ap, subst, ◌∙◌, arith}
use Rattle.std.specs.Prelude.{slice_get, if◌then◌else◌}
use Rattle.std.proofs.lemmas.Bool.{cases_eq}
use Rattle.std.proofs.lemmas.List.{length-append}
use Rattle.std.proofs.lemmas.Option.{same_Some, none-some}
use Rattle.dasd_pool.specs.Disk.{Image, Shape}
use Rattle.dasd_pool.proofs.Slices.{get_there, get_other}
use Rattle.redo_core.specs.declared.control.Control.{Control}
use Rattle.redo_core.specs.declared.control.Control.TheVariants.{Idle}
use Rattle.redo_core.specs.Reading.{set_block, Reading}
use Rattle.redo_core.proofs.Crash.{other_unit}
use Rattle.volume_model.specs.Sound.{Slots}
use Rattle.volume_model.specs.Unit.{OnlineVolume, UnitModel, online}
use Rattle.volume_model.specs.Reads.{IsOnline, IsUnit}
use Rattle.move_core.specs.Stands.{is_sliding, place_in, IsAfterSlide, Means}
use Rattle.move_core.specs.Steps.{Replaces}

-- ---- lists

-- a list, split before and behind an element
pub record Split {X : Type 0} (place : ℕ) (x : X) (xs : List X) : Type 0 where
  pub front : List X
  pub back : List X
  pub long : length front ≡ place
  pub is : xs ≡ front ++ (x ∷ back)

module _ {X : Type 0} where
  pub split_at : (xs : List X) (place : ℕ) (x : X) → slice_get xs place ≡ Some x → Split place x xs
  split_at [] place x at = absurd (none-some x at)
  split_at (y ∷ xs) zero x at = record { front = []; back = xs; long = refl; is = ap (λ (z : X). z ∷ xs) (same_Some y x at) }
  split_at (y ∷ xs) (suc place) x at =
      let rest = split_at xs place x at in
      record { front = y ∷ rest.front; back = rest.back; long = ap (λ (n : ℕ). suc n) rest.long; is = ap (λ (zs : List X). y ∷ zs) rest.is }

-- ---- a reading with nothing under way on a unit

module _ (shape : Shape) (reading : Reading) (idle : reading.control ≡ Idle) (units : List UnitModel) (means : Means shape reading units)
    (unit : ℕ) (filling : reading.fills unit ≡ false) where
  pub units_are : units ≡ means.found
  units_are = subst (λ (control : Control). IsAfterSlide reading.room control means.found units) idle means.after

  -- a unit of the reading, and of one that has nothing under way there
  abbrev Under : Bool → Control → Slots → UnitModel → Type 0
  Under fills control slots model = IsUnit fills (is_sliding control unit) (place_in control unit) (shape.head unit) (shape.blocks unit) slots model

  abbrev pub Alone : Slots → UnitModel → Type 0
  Alone slots model = IsUnit false false (λ track. track) (shape.head unit) (shape.blocks unit) slots model

  alone : (slots : Slots) (model : UnitModel) → Under (reading.fills unit) reading.control slots model → Alone slots model
  alone slots model is = subst (λ (control : Control). Under false control slots model) idle (subst (λ (fills : Bool). Under fills reading.control slots model) filling is)

  under : (slots : Slots) (model : UnitModel) → Alone slots model → Under (reading.fills unit) reading.control slots model
  under slots model is =
      subst (λ (fills : Bool). Under fills reading.control slots model) (sym filling) (subst (λ (control : Control). Under false control slots model) (sym idle) is)

  pub unit_alone : (model : UnitModel) → slice_get means.found unit ≡ Some model → Alone (reading.volumes unit) model
  unit_alone model at = alone (reading.volumes unit) model (means.found_are.each unit model at)

  module _ (block : ℕ) (slot : List ℕ) (old new : OnlineVolume) (at : slice_get means.found unit ≡ Some (online old)) where
    abbrev pub volumes : Image
    volumes = set_block reading.volumes unit block slot

    pub split : Split unit (online old) means.found
    split = split_at means.found unit (online old) at

    abbrev pub after : List UnitModel
    after = split.front ++ (online new ∷ split.back)

    pub replaces : Replaces unit (online old) (online new) units after
    replaces = record { front = split.front; back = split.back; long = split.long; before_is = units_are ∙ split.is; after_is = refl }

    -- the other units keep their blocks
    other_same : (u : ℕ) → ¬ (u ≡ unit) → reading.volumes u ≡ volumes u
    other_same u apart = λ i b. sym (ap (λ (here : Bool). if here then slot else reading.volumes u b) (other_unit unit block u b apart)) i

    module _ (is : IsOnline false (λ track. track) (shape.head unit) (shape.blocks unit) (volumes unit) new) where
      abbrev Reads : ℕ → UnitModel → Type 0
      Reads u model =
          IsUnit (reading.fills u) (is_sliding reading.control u) (place_in reading.control u) (shape.head u) (shape.blocks u) (volumes u) model

      own_reads : (model : UnitModel) → slice_get after unit ≡ Some model → Reads unit model
      own_reads model there =
          let got : slice_get after unit ≡ Some (online new) =
          subst (λ (n : ℕ). slice_get after n ≡ Some (online new)) split.long (get_there split.front split.back (online new)) in
          subst (Reads unit) (same_Some (online new) model (sym got ∙ there)) (under (volumes unit) (online new) (refl, is))

      other_reads : (u : ℕ) (model : UnitModel) → ¬ (u ≡ unit) → slice_get after u ≡ Some model → Reads u model
      other_reads u model apart there =
          let got : slice_get means.found u ≡ Some model =
          ap (λ (list : List UnitModel). slice_get list u) split.is
          ∙ get_other split.front split.back (online old) (online new) u (λ same. apart (same ∙ split.long)) ∙ there in
          subst (λ (slots : Slots). IsUnit (reading.fills u) (is_sliding reading.control u) (place_in reading.control u) (shape.head u) (shape.blocks u) slots model)
          (other_same u apart) (means.found_are.each u model got)

      each_reads : (u : ℕ) (model : UnitModel) → slice_get after u ≡ Some model → Reads u model
      each_reads u model there = elim (cases_eq u unit) [
        | inl same ↦
            subst (λ (n : ℕ). (m : UnitModel) → slice_get after n ≡ Some m → Reads n m) (sym same) own_reads model there
        | inr apart ↦ other_reads u model apart there
      ]

      pub new_means : Means shape (record reading { volumes = volumes }) after
      new_means = record {
        found = after;
        found_are = record {
          count = omega (
            arith,
            length-append split.front (online new ∷ split.back),
            length-append split.front (online old ∷ split.back),
            ap length split.is,
            means.found_are.count,
          );
          each = each_reads;
        };
        after = subst (λ (control : Control). IsAfterSlide reading.room control after after) (sym idle) refl;
      }
