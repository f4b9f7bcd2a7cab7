-- Each kind of change leads from proper units to one list of units.
use Rattle.std.proofs.Common.{◌≡◌, ℕ, List, [], ◌∷◌, Bool, true, false, refl, sym, ap, subst, ◌∙◌}
use Rattle.std.proofs.lemmas.List.Elements.{All-head}
use Rattle.std.proofs.lemmas.Option.{same_Some}
use Rattle.dd_names.specs.declared.dd.DdName.{DdName}
use Rattle.dsn_filter.specs.declared.dsn.Dsn.{Dsn}
use Rattle.free_map.specs.declared.run.Run.{Run}
use Rattle.volume_model.specs.Changed.{IsPut, ChangesSets}
use Rattle.volume_model.specs.Reads.{IsUnit}
use Rattle.volume_model.specs.Sound.{Slots}
use Rattle.volume_model.specs.Unit.{DataSet, OnlineVolume, UnitModel}
use Rattle.move_core.specs.declared.steps.Origin.{Origin}
use Rattle.move_core.specs.Facts.{Facts, Original}
use Rattle.move_core.specs.Steps.{ChangesUnit, Moves, moved, Shrinks, shrunk, Resets, reset, Deletes, IsCopy, Gives, Copies, Puts, Carries, StartsFill, EndsFill}
use Rattle.move_core.proofs.OneUnit.{one_unit}
use Rattle.step_laws.specs.Outcome.{AreProper}
use Rattle.step_laws.proofs.Changes.{NoneHas, new_by_name, new_by_order, new_still}
use Rattle.step_laws.proofs.Copies.{one_copy, one_origin, one_original, one_row}
use Rattle.step_laws.proofs.Extents.{AreMoved, one_list}
use Rattle.step_laws.proofs.Names.{AreApart, name_in, one_text}
use Rattle.step_laws.proofs.Staying.{copies_proper}
use Rattle.step_laws.proofs.Units.{old_there, same_old, same_units, same_models}

-- ---- two changes of one unit

module _ {unit : ℕ} {before a b : List UnitModel} {gone put less more : List DataSet} (proper : AreProper before) (one : ChangesUnit unit before a gone put)
    (other : ChangesUnit unit before b less more) where
  old_same : one.old ≡ other.old
  old_same = same_old one.unit_is other.unit_is

  from_one : ChangesSets one.old other.new less more
  from_one = subst (λ (volume : OnlineVolume). ChangesSets volume other.new less more) (sym old_same) other.changes

  one_by_name : (set another : DataSet) → gone ≡ set ∷ [] → less ≡ another ∷ [] → set.name ≡ another.name → (set ≡ another → put ≡ more) → a ≡ b
  one_by_name set another gone_is less_is named put_is =
      let apart : AreApart one.old.sets = (proper unit one.old (old_there one.unit_is)).apart in
      same_units one.unit_is other.unit_is (new_by_name one.changes from_one apart set another gone_is less_is named put_is)

  one_by_order : (copy : DataSet) → gone ≡ [] → less ≡ [] → put ≡ copy ∷ [] → more ≡ copy ∷ [] → NoneHas copy one.old.sets → a ≡ b
  one_by_order copy gone_is less_is put_is more_is none =
      same_units one.unit_is other.unit_is (new_by_order one.changes from_one copy gone_is less_is put_is more_is none one.order other.order)

  pub one_still : gone ≡ [] → less ≡ [] → put ≡ [] → more ≡ [] → a ≡ b
  one_still gone_is less_is put_is more_is = same_units one.unit_is other.unit_is (new_still one.changes from_one gone_is less_is put_is more_is)

-- ---- a data set that stays on its unit, or goes

pub one_move : (unit : ℕ) (name : Dsn) (to : List Run) (before a b : List UnitModel) → AreProper before → Moves unit name to before a → Moves unit name to before b → a ≡ b
one_move unit name to before a b proper one other =
    one_by_name proper one.change other.change one.set other.set refl refl (one_text name one.set.name other.set.name one.name_is other.name_is)
    (λ same i. moved (same i) (extents same i) ∷ [])
  where
    extents : one.set ≡ other.set → one.extents ≡ other.extents
    extents same =
        one_list one.set.extents to one.extents other.extents one.extents_are (subst (λ (set : DataSet). AreMoved set.extents to other.extents) (sym same) other.extents_are)

pub one_shrink : (unit : ℕ) (name : Dsn) (keep : ℕ) (before a b : List UnitModel) → AreProper before → Shrinks unit name keep before a → Shrinks unit name keep before b → a ≡ b
one_shrink unit name keep before a b proper one other =
    one_by_name proper one.change other.change one.set other.set refl refl (one_text name one.set.name other.set.name one.name_is other.name_is)
    (λ same. ap (λ (set : DataSet). shrunk keep set ∷ []) same)

pub one_reset : (unit : ℕ) (name : Dsn) (before a b : List UnitModel) → AreProper before → Resets unit name before a → Resets unit name before b → a ≡ b
one_reset unit name before a b proper one other =
    one_by_name proper one.change other.change one.set other.set refl refl (one_text name one.set.name other.set.name one.name_is other.name_is)
    (λ same. ap (λ (set : DataSet). reset set ∷ []) same)

pub one_delete : (unit : ℕ) (name : Dsn) (before a b : List UnitModel) → AreProper before → Deletes unit name before a → Deletes unit name before b → a ≡ b
one_delete unit name before a b proper one other =
    one_by_name proper one.change other.change one.set other.set refl refl (one_text name one.set.name other.set.name one.name_is other.name_is) (λ same. refl)

-- ---- a data set that is copied

one_copying : (replaced : Bool) (original : Original) (unit : ℕ) (name : Dsn) (to : List Run) (before a b : List UnitModel) → AreProper before
    → Copies replaced original unit name to before a → Copies replaced original unit name to before b → a ≡ b
one_copying replaced original unit name to before a b proper one other = by replaced one.gives other.gives
  where
    same : one.copy ≡ other.copy
    same =
        one_copy one.change.old original name to one.copy other.copy one.copy_is
        (subst (λ (volume : OnlineVolume). IsCopy volume original name to other.copy) (sym (old_same proper one.change other.change)) other.copy_is)
        (All-head IsPut one.copy [] one.change.changes.are_put) (All-head IsPut other.copy [] other.change.changes.are_put)

    by : (takes : Bool) → Gives takes one.change.old one.copy one.gone → Gives takes other.change.old other.copy other.gone → a ≡ b
    by false (gone_is, none) (less_is, none_too) =
        one_by_order proper one.change other.change one.copy gone_is less_is refl (ap (λ (set : DataSet). set ∷ []) (sym same)) none
    by true (old, gone_is, named) (older, less_is, named_too) =
        one_by_name proper one.change other.change old older gone_is less_is (named ∙ ap name_in same ∙ sym named_too) (λ alike. ap (λ (set : DataSet). set ∷ []) same)

pub one_put : (facts : Facts) (replaced : Bool) (origin : Origin) (unit : ℕ) (name : Dsn) (to : List Run) (before a b : List UnitModel) → AreProper before
    → Puts facts replaced origin unit name to before a → Puts facts replaced origin unit name to before b → a ≡ b
one_put facts replaced origin unit name to before a b proper one other =
    let same : one.original ≡ other.original = one_origin facts before origin one.original other.original proper one.origin_is other.origin_is in
    one_copying replaced one.original unit name to before a b proper one.copies
    (subst (λ (original : Original). Copies replaced original unit name to before b) (sym same) other.copies)

pub one_carry : (from : ℕ) (old : Dsn) (unit : ℕ) (name : Dsn) (to : List Run) (replaced : Bool) (before a b : List UnitModel) → AreProper before
    → Carries from old unit name to replaced before a → Carries from old unit name to replaced before b → a ≡ b
one_carry from old unit name to replaced before a b proper one other =
    let row = one_row before from old one.volume other.volume one.set other.set proper one.row_is other.row_is in
    let original : one.original ≡ other.original =
    one_original one.volume other.volume one.set other.set one.original other.original row.0 row.1 one.original_is other.original_is in
    let between : one.between ≡ other.between =
    one_copying replaced one.original unit name to before one.between other.between proper one.copies
    (subst (λ (o : Original). Copies replaced o unit name to before other.between) (sym original) other.copies) in
    let takes : ChangesUnit from one.between b (other.set ∷ []) [] =
    subst (λ (units : List UnitModel). ChangesUnit from units b (other.set ∷ []) []) (sym between) other.takes in
    one_by_name (copies_proper replaced one.original unit name to before one.between proper one.copies) one.takes takes one.set other.set refl refl (ap name_in row.1) (λ same. refl)

-- ---- a volume that is restored as a whole

pub one_start : (facts : Facts) (unit : ℕ) (input : DdName) (before a b : List UnitModel) → StartsFill facts unit input before a → StartsFill facts unit input before b → a ≡ b
one_start facts unit input before a b one other = same_models one.unit_is other.unit_is refl

pub one_end : (facts : Facts) (unit : ℕ) (input : DdName) (before a b : List UnitModel) → EndsFill facts unit input before a → EndsFill facts unit input before b → a ≡ b
one_end facts unit input before a b one other =
    let slots : one.slots ≡ other.slots = same_Some one.slots other.slots (sym one.full ∙ other.full) in
    let serial : one.serial ≡ other.serial = same_Some one.serial other.serial (sym one.serial_is ∙ other.serial_is) in
    let says = subst (λ (s : Slots). IsUnit false false (λ track. track) (facts.shape.head unit) (facts.shape.blocks unit) s other.new) (λ i. sym slots i (sym serial i)) other.says in
    same_models one.unit_is other.unit_is
    (one_unit false (λ track. track) (facts.shape.head unit) (facts.shape.blocks unit) (one.slots one.serial) false one.new other.new one.says says)
