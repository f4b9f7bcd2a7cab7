-- The rows of a data set that is copied and of what has its copy's name.
use Rattle.std.proofs.Common.{◌≡◌, inl, inr, ◌↔◌, ℕ, ◌≤◌, [], length, Bool, IsTrue, false, Option, Some, None, refl, sym, ◌∙◌, arith}
use Rattle.std.specs.Prelude.{IfSome, IfNone}
use Rattle.std.specs.Option.{is_some}
use Rattle.std.proofs.lemmas.Bool.{cases_Bool, cases_lt, false≢true}
use Rattle.std.proofs.lemmas.List.{length-map}
use Rattle.dscb_rec.specs.declared.field.Extent.{Extent as Field}
use Rattle.volume_model.specs.Pinned.{IsPinned}
use Rattle.volume_model.specs.Reads.{extent_in, fields_of_1}
use Rattle.volume_model.specs.Unit.{DataSet}
use Rattle.volume_change.proofs.Names.{one_text}
use Rattle.vtoc_core.specs.declared.volume.Row.{Row}
use Rattle.vtoc_core.specs.Loaded.{field_of}
use Rattle.step_room.specs.unit_change.Changed.{extents_of}
use Rattle.step_room.specs.unit_change.Described.{DescribesSet}
use Rattle.step_room.specs.unit_steps.Plans.{HasRow}
use Rattle.step_room.specs.step_plans.Plans.{HasNone, IsClear}
use Rattle.step_room.proofs.SoundRows.{one_row}
use Rattle.job_copies.specs.declared.copying.Copying.{Copying}
use Rattle.job_copies.specs.Loaded.{MayCopy}
use Rattle.job_copies.specs.Rows.{IsOwnRow, ReplacesRow, ReplacesNone}

-- what is said where nothing is found
pub none_at : {X P : Type 0} (found : Option X) → is_some found ≡ false → IfNone found P → P
none_at None none h = h
none_at (Some x) none h = absurd (false≢true (sym none))

-- a row as a data set, whatever its texts
abbrev set_without : ℕ → Row → DataSet
set_without heads row = record { name = row.name; fields = fields_of_1 row.f1; extents = extents_of heads row; texts = []; threes = row.threes }

-- one that isn't pinned has at most 16 extents
pub few_extents : (heads : ℕ) (row : Row) (pinned : Bool) → ((set : DataSet) → DescribesSet heads row set → (IsTrue pinned ↔ IsPinned heads set.name set.fields set.extents)) → pinned ≡ false → length row.extents ≤ 16
few_extents heads row pinned says not = elim (cases_lt 16 (length row.extents)) [
  | inl many ↦
      let set = set_without heads row in
      let is : IsPinned heads set.name set.fields set.extents = inr (inr (inr (inl (omega (arith, many, length-map row.extents (λ (extent : Field). extent_in heads (field_of extent))))))) in
      absurd (false≢true (sym not ∙ (says set (record { name_is = refl; fields_are = refl; extents_are = refl; threes_are = refl })).1 is))
  | inr few ↦ few
]

-- there is one row of its name
pub same_origin : {copying : Copying} → MayCopy copying → (row other : Row) → HasRow copying.source.now copying.name row → HasRow copying.source.now copying.name other → row ≡ other
same_origin {copying} may row other is other_is =
    one_row copying.source.now may.sound row other is.there other_is.there (one_text copying.name row.name other.name is.name_is other_is.name_is)

-- what is to be replaced is there, or nothing of the copy's name is
pub clear : (copying : Copying) {X : Type 0} (row_in : X → Row) (found : Option X) → IfSome found (λ x. ReplacesRow copying (row_in x)) → IfNone found (ReplacesNone copying) → ¬ IsOwnRow copying
    → (copying.wish.replace ≡ false → HasNone copying.target.now copying.new) → IsClear (is_some found) copying.target.now copying.new
clear copying row_in (Some x) some none another free = (row_in x, some.row_is)
clear copying row_in None some none another free = λ row has. elim (cases_Bool copying.wish.replace) [
  | inl asked ↦ none row (record { asked = asked; another = another; row_is = has })
  | inr kept ↦ free kept row has
]
