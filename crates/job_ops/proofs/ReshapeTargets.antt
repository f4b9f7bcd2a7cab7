-- The data set that gets other extents, as its volume was loaded and as its volume is.
use Rattle.std.proofs.Common.{◌≡◌, ℕ, List, [], ◌∷◌, length, take, Contains, inl, inr, refl, sym, ap, subst, ◌∙◌}
use Rattle.std.proofs.lemmas.List.{length-map}
use Rattle.std.proofs.lemmas.List.Elements.{All-nil, All-cons}
use Rattle.ckd_image.specs.Device.{heads_of}
use Rattle.dsn_filter.specs.declared.dsn.Dsn.{Dsn}
use Rattle.volume_model.specs.Changed.{threes_for}
use Rattle.volume_model.specs.Pinned.{IsNameOf}
use Rattle.volume_model.specs.Reads.{extent_in, fields_of_1}
use Rattle.volume_model.specs.Unit.{Text, Extent, DataSet, OnlineVolume}
use Rattle.vtoc_core.specs.declared.volume.Row.{Row}
use Rattle.vtoc_core.specs.declared.volume.Volume.{Volume}
use Rattle.vtoc_core.specs.Loaded.{field_of}
use Rattle.vtoc_layout.proofs.Distinct.{first_or_later, at_first, in_later, in_none}
use Rattle.volume_change.specs.declared.change.Change.{Change}
use Rattle.volume_change.specs.declared.change.Change.TheVariants.{Swap}
use Rattle.volume_change.proofs.Names.{one_text}
use Rattle.dump_sets.specs.job_turns.job_copies.unit_change.Changed.{sets_put}
use Rattle.dump_sets.specs.job_turns.job_copies.unit_change.Described.{DescribesSet, DescribesSets, Describes}
use Rattle.unit_load.specs.declared.state.UnitState.{UnitState}
use Rattle.move_core.specs.Steps.{JoinsExtents, cut, extents_on, moved}
use Rattle.dump_sets.specs.job_turns.job_copies.unit_steps.Plans.{HasRow, SwapsRow, IsRowWith, extents_in}
use Rattle.dump_sets.specs.job_turns.job_copies.step_plans.Plans.{IsSound}
use Rattle.dump_sets.specs.job_turns.job_copies.step_room.Room.{AreTaken}
use Rattle.dump_sets.proofs.job_turns.job_copies.step_room.SoundRows.{one_row}
use Rattle.job_ops.specs.declared.reshaping.Layout.{Layout}
use Rattle.job_ops.specs.declared.reshaping.Layout.TheVariants as layouts
use Rattle.job_ops.specs.declared.reshaping.Reshape.{Reshape}
use Rattle.job_ops.specs.Reshaping.{IsReshaped}
use Rattle.dump_sets.proofs.job_turns.job_acts.Alike.{one_kind}

-- ---- rows and data sets

described_row : (heads : ℕ) (rows : List Row) (sets : List DataSet) (set : DataSet) → DescribesSets heads rows sets → Contains sets set
    → (row : Row) × Contains rows row × DescribesSet heads row set
described_row heads [] [] set are there = absurd (in_none set there)
described_row heads [] (x ∷ sets) set are there = absurd are
described_row heads (row ∷ rows) [] set are there = absurd are
described_row heads (row ∷ rows) (x ∷ sets) set are there =
    let later : Contains sets set → (row : Row) × Contains rows row × DescribesSet heads row set = described_row heads rows sets set are.1 in
    elim (first_or_later x set sets there) [
      | inl same ↦ (row, at_first row rows, subst (DescribesSet heads row) same are.0)
      | inr behind ↦ let found = later behind in (found.0, in_later row found.0 rows found.1, found.2)
    ]

-- the row of a name describes the data set of the name
pub described_by : (loaded : Volume) (volume : OnlineVolume) (name : Dsn) (row : Row) (set : DataSet) → IsSound loaded → Describes loaded volume → HasRow loaded name row
    → Contains volume.sets set → IsNameOf name set.name → DescribesSet (heads_of loaded.device) row set
described_by loaded volume name row set sound is row_is there named =
    let found = described_row (heads_of loaded.device) loaded.rows volume.sets set is.sets_are there in
    subst (λ (r : Row). DescribesSet (heads_of loaded.device) r set)
    (one_row loaded sound found.0 row found.1 row_is.there (one_text name found.0.name row.name (subst (IsNameOf name) found.2.name_is named) row_is.name_is)) found.2

-- ---- a plan to give a data set other extents

-- the extents of its layout
abbrev pub ExtentsTo : Layout → List Extent → List Extent → Type 0
ExtentsTo (layouts.Front keep) old new = new ≡ cut keep old
ExtentsTo (layouts.Joined run) old new = JoinsExtents old (run ∷ []) new

-- its texts then
abbrev pub texts_to : Layout → List Text → List Text
texts_to (layouts.Front keep) texts = take keep texts
texts_to (layouts.Joined run) texts = texts

pub record PlansReshape (units : List UnitState) (reshape : Reshape) (changes : List (ℕ × Change)) : Type 0 where
  pub swap : SwapsRow units reshape.unit reshape.name changes
  pub extents : List Extent
  pub extents_are : ExtentsTo reshape.layout (extents_in swap.volume swap.old) extents
  pub row_is : IsRowWith swap.volume swap.old.name (fields_of_1 swap.old.f1) extents swap.row

-- ---- there is one such data set

pub one_extents : (layout : Layout) (old a b : List Extent) → ExtentsTo layout old a → ExtentsTo layout old b → a ≡ b
one_extents (layouts.Front keep) old a b one other = one ∙ sym other
one_extents (layouts.Joined run) old a b one other =
    one.new_is ∙ ap (λ (kind : ℕ). extents_on kind (run ∷ [])) (one_kind old one.kind other.kind one.kind_is other.kind_is) ∙ sym other.new_is

pub one_put : (layout : Layout) (set a b : DataSet) → IsReshaped layout set a → IsReshaped layout set b → a ≡ b
one_put (layouts.Front keep) set a b one other = one ∙ sym other
one_put (layouts.Joined run) set a b one other =
    one.2 ∙ ap (moved set) (one_extents (layouts.Joined run) set.extents one.0 other.0 one.1 other.1) ∙ sym other.2

pub with_extents : (layout : Layout) (set : DataSet) (extents : List Extent) → ExtentsTo layout set.extents extents
    → IsReshaped layout set (record { name = set.name; fields = set.fields; extents = extents; texts = texts_to layout set.texts; threes = threes_for (length extents) })
with_extents (layouts.Front keep) set extents is =
    ap (λ (list : List Extent). record { name = set.name; fields = set.fields; extents = list; texts = take keep set.texts; threes = threes_for (length list) }) is
with_extents (layouts.Joined run) set extents is = (extents, is, refl)

-- ---- what is put

module _ {units : List UnitState} {reshape : Reshape} {changes : List (ℕ × Change)} (plan : PlansReshape units reshape changes) where
  module _ {volume : OnlineVolume} (sound : IsSound plan.swap.volume) (is : Describes plan.swap.volume volume) (set : DataSet) (there : Contains volume.sets set)
      (named : IsNameOf reshape.name set.name) where
    abbrev pub put : DataSet
    put = record { name = set.name; fields = set.fields; extents = plan.extents; texts = texts_to reshape.layout set.texts; threes = threes_for (length plan.extents) }

    set_is : DescribesSet (heads_of plan.swap.volume.device) plan.swap.old set
    set_is = described_by plan.swap.volume volume reshape.name plan.swap.old set sound is plan.swap.old_is there named

    name_put : plan.swap.row.name ≡ set.name
    name_put = plan.row_is.name_is ∙ sym set_is.name_is

    threes_put : threes_for (length plan.swap.row.extents) ≡ threes_for (length plan.extents)
    threes_put =
        ap threes_for
        (sym (length-map plan.swap.row.extents (λ extent. extent_in (heads_of plan.swap.volume.device) (field_of extent))) ∙ ap (λ (list : List Extent). length list) plan.row_is.extents_are)

    -- it takes the data set away
    pub taken : AreTaken volume (Swap reshape.name plan.swap.row) (set ∷ [])
    taken = ((set, refl, sym name_put), All-cons (Contains volume.sets) set [] there (All-nil (Contains volume.sets)))

    -- and puts it, with its new extents
    pub put_is : sets_put (heads_of plan.swap.volume.device) (Swap reshape.name plan.swap.row) (texts_to reshape.layout set.texts) ≡ put ∷ []
    put_is =
        let fields : fields_of_1 plan.swap.row.f1 ≡ set.fields = plan.row_is.fields_are ∙ sym set_is.fields_are in
        (λ i. record { name = name_put i; fields = fields i; extents = plan.row_is.extents_are i; texts = texts_to reshape.layout set.texts; threes = threes_put i } ∷ [])

    pub put_reshaped : IsReshaped reshape.layout set put
    put_reshaped = with_extents reshape.layout set plan.extents (subst (λ (old : List Extent). ExtentsTo reshape.layout old plan.extents) (sym set_is.extents_are) plan.extents_are)
