-- The row of a part that has no extents yet, and the one that it replaces.
use Rattle.std.proofs.Common.{◌≡◌, inl, inr, ℕ, List, [], true, false, take, Option, Some, None, sym, ap}
use Rattle.std.specs.Prelude.{IfSome, IfNone}
use Rattle.std.specs.Option.{is_some}
use Rattle.std.proofs.lemmas.Bool.{cases_Bool, false≢true}
use Rattle.volume_model.specs.Reads.{fields_of_1}
use Rattle.volume_model.specs.Unit.{DataSet}
use Rattle.vtoc_core.specs.declared.volume.Row.{Row}
use Rattle.job_turns.specs.job_copies.unit_change.Described.{DescribesSet}
use Rattle.job_turns.specs.job_copies.unit_steps.Plans.{HasRow}
use Rattle.job_turns.specs.job_copies.step_plans.Plans.{HasNone, IsClear}
use Rattle.job_restores.specs.declared.restoring.Restoring.{Restoring}

-- ---- a part

-- what its format 1 says of its data set
abbrev pub set_of_part : List ℕ → DataSet
set_of_part f1 = record { name = take 44 f1; fields = fields_of_1 f1; extents = []; texts = []; threes = 0 }

pub part_described : (heads : ℕ) (row : Row) (f1 : List ℕ) → row.name ≡ take 44 f1 → row.f1 ≡ f1 → row.extents ≡ [] → row.threes ≡ 0 → DescribesSet heads row (set_of_part f1)
part_described heads row f1 name_is f1_is none no_threes = record {
  name_is = sym name_is;
  fields_are = sym (ap fields_of_1 f1_is);
  extents_are = rw none;
  threes_are = sym no_threes;
}

-- ---- what it replaces

-- the row of its name, where the statement asks for replacing
abbrev pub ReplacesRow : Restoring → Row → Type 0
ReplacesRow restoring row = (restoring.wish.replace ≡ true) × HasRow restoring.target.now restoring.new row

abbrev pub ReplacesNone : Restoring → Type 0
ReplacesNone restoring = restoring.wish.replace ≡ true → HasNone restoring.target.now restoring.new

-- what is said where nothing is found
pub none_at : {X P : Type 0} (found : Option X) → is_some found ≡ false → IfNone found P → P
none_at None none h = h
none_at (Some x) none h = absurd (false≢true (sym none))

-- what follows from it
pub none_weaker : {X P Q : Type 0} (found : Option X) → (P → Q) → IfNone found P → IfNone found Q
none_weaker None f h = f h
none_weaker (Some x) f h = tt

-- what is to be replaced is there, or nothing of its name is
pub clear : (restoring : Restoring) {X : Type 0} (row_in : X → Row) (found : Option X) → IfSome found (λ x. ReplacesRow restoring (row_in x)) → IfNone found (ReplacesNone restoring)
    → (restoring.wish.replace ≡ false → HasNone restoring.target.now restoring.new) → IsClear (is_some found) restoring.target.now restoring.new
clear restoring row_in (Some x) some none free = (row_in x, some.1)
clear restoring row_in None some none free = λ row has. elim (cases_Bool restoring.wish.replace) [
  | inl asked ↦ none asked row has
  | inr kept ↦ free kept row has
]
