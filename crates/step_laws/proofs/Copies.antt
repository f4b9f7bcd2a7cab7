-- A copy is one data set, and so is what it is made of.
use Rattle.std.proofs.Common.{◌≡◌, ℕ, ◌-◌, List, ◌++◌, length, replicate, Contains, sym, ap, subst, ◌∙◌}
use Rattle.std.proofs.lemmas.Option.{same_Some}
use Rattle.dsn_filter.specs.declared.dsn.Dsn.{Dsn}
use Rattle.free_map.specs.declared.run.Run.{Run}
use Rattle.volume_model.specs.Changed.{threes_for, IsPut}
use Rattle.volume_model.specs.Unit.{Extent, DataSet, OnlineVolume, UnitModel, tracks_of}
use Rattle.move_core.specs.declared.steps.Origin.{Origin}
use Rattle.move_core.specs.declared.steps.Origin.TheVariants.{Row, Part}
use Rattle.move_core.specs.Facts.{Facts, Original}
use Rattle.move_core.specs.Steps.{IsNewKind, IsRow, original_of, IsOriginal, IsOrigin, IsCopy, fields_at, empty_text}
use Rattle.step_laws.specs.Outcome.{AreProper}
use Rattle.step_laws.proofs.Extents.{one_kind}
use Rattle.step_laws.proofs.Names.{one_named, one_text}
use Rattle.step_laws.proofs.Units.{one_at}

-- ---- the origin

pub one_row : (units : List UnitModel) (unit : ℕ) (name : Dsn) (volume other_volume : OnlineVolume) (set another : DataSet) → AreProper units → IsRow units unit name volume set
    → IsRow units unit name other_volume another → (volume ≡ other_volume) × (set ≡ another)
one_row units unit name volume other_volume set another proper one other =
    let same : volume ≡ other_volume = one_at units unit volume other_volume one.at other.at in
    let here : Contains volume.sets another = subst (λ (v : OnlineVolume). Contains v.sets another) (sym same) other.there in
    (same, one_named volume.sets set another (proper unit volume one.at).apart one.there here (one_text name set.name another.name one.name_is other.name_is))

pub one_original : (volume other_volume : OnlineVolume) (set another : DataSet) (original other_original : Original) → volume ≡ other_volume → set ≡ another
    → IsOriginal volume set original → IsOriginal other_volume another other_original → original ≡ other_original
one_original volume other_volume set another original other_original same_volume same_set one other =
    let kind : original.kind ≡ other_original.kind =
    one_kind set.extents original.kind other_original.kind one.kind_is
    (subst (λ (s : DataSet). IsNewKind s.extents other_original.kind) (sym same_set) other.kind_is) in
    one.original_is ∙ (λ i. original_of (same_volume i) (same_set i) (kind i)) ∙ sym other.original_is

pub one_origin : (facts : Facts) (units : List UnitModel) (origin : Origin) (original another : Original) → AreProper units → IsOrigin facts units origin original
    → IsOrigin facts units origin another → original ≡ another
one_origin facts units (Row unit name) original another proper (volume, set, row, is) (other_volume, other_set, other_row, other_is) =
    let same = one_row units unit name volume other_volume set other_set proper row other_row in
    one_original volume other_volume set other_set original another same.0 same.1 is other_is
one_origin facts units (Part input number) original another proper one other = same_Some original another (sym one ∙ other)

-- ---- the copy

module _ (volume : OnlineVolume) (original : Original) (name : Dsn) (to : List Run) (a b : DataSet) (one : IsCopy volume original name to a) (other : IsCopy volume original name to b) where
  name_same : a.name ≡ b.name
  name_same = one_text name a.name b.name one.name_is other.name_is

  extents_same : a.extents ≡ b.extents
  extents_same = one.extents_are ∙ sym other.extents_are

  pub one_copy : IsPut a → IsPut b → a ≡ b
  one_copy put put_too =
      let fields : a.fields ≡ b.fields = one.fields_are ∙ ap (λ (bytes : List ℕ). fields_at bytes volume.serial original.fields) name_same ∙ sym other.fields_are in
      let texts : a.texts ≡ b.texts =
      one.texts_are ∙ ap (λ (extents : List Extent). original.texts ++ replicate (length (tracks_of extents) - length original.texts) empty_text) extents_same ∙ sym other.texts_are in
      let threes : a.threes ≡ b.threes = put.threes_are ∙ ap (λ (extents : List Extent). threes_for (length extents)) extents_same ∙ sym put_too.threes_are in
      (λ i. record { name = name_same i; fields = fields i; extents = extents_same i; texts = texts i; threes = threes i })
