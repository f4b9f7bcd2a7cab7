-- The rows that a change takes away and puts, by their tracks and their records.
use Rattle.std.proofs.Common.{◌≡◌, ℕ, List, [], ◌∷◌, ◌++◌, map, Contains, refl, sym, ap, subst, ◌∙◌, arith}
use Rattle.std.specs.Prelude.{sum_by}
use Rattle.ckd_image.specs.Device.{heads_of}
use Rattle.free_map.specs.declared.run.Run.{Run}
use Rattle.volume_model.specs.Changed.{records_for as records_of_set}
use Rattle.volume_model.specs.Pinned.{IsNameOf}
use Rattle.volume_model.specs.Space.{run_of}
use Rattle.volume_model.specs.Unit.{Text, DataSet, run_in, runs_of_sets}
use Rattle.vtoc_core.specs.declared.volume.Row.{Row}
use Rattle.vtoc_core.specs.declared.volume.Volume.{Volume}
use Rattle.vtoc_core.specs.Loaded.{records_for}
use Rattle.vtoc_layout.proofs.Distinct.{at_first, in_middle}
use Rattle.volume_change.specs.declared.change.Change.{Change}
use Rattle.volume_change.specs.declared.change.Change.TheVariants.{Repair, Put, Swap, Remove, Mark}
use Rattle.volume_change.specs.Runs.{runs_in}
use Rattle.volume_change.proofs.Names.{one_text}
use Rattle.step_plans.specs.vtoc_render.Next.{IsRowPut, AreRowsAfter, runs_of_rows}
use Rattle.step_plans.proofs.vtoc_render.NextRows.{fields_same}
use Rattle.step_plans.specs.unit_change.Described.{DescribesSet, DescribesSets}
use Rattle.step_plans.specs.unit_change.Changed.{AreGone, extents_of, sets_put}
use Rattle.step_plans.proofs.unit_change.Describing.{runs_in_row}
use Rattle.step_plans.specs.Plans.{IsSound}
use Rattle.step_room.proofs.SoundRows.{one_row}

-- ---- what goes

-- these of the rows are those that a change takes away
abbrev pub DoGo : List Row → Change → List Row → Type 0
DoGo rows Repair gone = gone ≡ []
DoGo rows (Put row) gone = gone ≡ []
DoGo rows (Swap name row) gone = (old : Row) × (gone ≡ old ∷ []) × Contains rows old × (old.name ≡ row.name)
DoGo rows (Remove name) gone = (old : Row) × (gone ≡ old ∷ []) × Contains rows old × IsNameOf name old.name
DoGo rows Mark gone = ⊥

there_before : (rows front back : List Row) (row : Row) → rows ≡ front ++ (row ∷ back) → Contains rows row
there_before rows front back row are = subst (λ (list : List Row). Contains list row) (sym are) (in_middle front row back)

pub rows_go : (old new gone put : List Row) (change : Change) → AreRowsAfter old change gone put new → DoGo old change gone
rows_go old new gone put Repair is = is.0
rows_go old new gone put (Put given) is = is.3
rows_go old new gone put (Swap name given) is = (is.2, is.4, there_before old is.0 is.1 is.2 is.8, is.6)
rows_go old new gone put (Remove name) is = (is.2, is.3, there_before old is.0 is.1 is.2 is.6, is.5)
rows_go old new gone put Mark is = absurd is

record IsOneRow (heads : ℕ) (rows : List Row) (set : DataSet) : Type 0 where
  pub row : Row
  pub rows_are : rows ≡ row ∷ []
  pub is : DescribesSet heads row set

no_row : (heads : ℕ) (rows : List Row) → DescribesSets heads rows [] → rows ≡ []
no_row heads [] are = refl
no_row heads (row ∷ rows) are = absurd are

only_row : (heads : ℕ) (rows : List Row) (set : DataSet) → DescribesSets heads rows (set ∷ []) → IsOneRow heads rows set
only_row heads [] set are = absurd are
only_row heads (row ∷ rows) set are = record { row = row; rows_are = ap (λ (more : List Row). row ∷ more) (no_row heads rows are.1); is = are.0 }

-- the rows of the data sets that go do
pub described_go : (heads : ℕ) (rows some : List Row) (gone : List DataSet) (change : Change) → ((row : Row) → Contains some row → Contains rows row) → DescribesSets heads some gone
    → AreGone change gone → DoGo rows change some
described_go heads rows some gone Repair there are is = no_row heads some (subst (DescribesSets heads some) is are)
described_go heads rows some gone (Put row) there are is = no_row heads some (subst (DescribesSets heads some) is are)
described_go heads rows some gone (Swap name row) there are is =
    let one = only_row heads some is.0 (subst (DescribesSets heads some) is.1 are) in
    (one.row, one.rows_are, there one.row (subst (λ (list : List Row). Contains list one.row) (sym one.rows_are) (at_first one.row [])), sym one.is.name_is ∙ is.2)
described_go heads rows some gone (Remove name) there are is =
    let one = only_row heads some is.0 (subst (DescribesSets heads some) is.1 are) in
    (one.row, one.rows_are, there one.row (subst (λ (list : List Row). Contains list one.row) (sym one.rows_are) (at_first one.row [])), subst (IsNameOf name) one.is.name_is is.2)
described_go heads rows some gone Mark there are is = absurd is

one_each : (volume : Volume) → IsSound volume → (a b : List Row) (x y : Row) → a ≡ x ∷ [] → b ≡ y ∷ [] → Contains volume.rows x → Contains volume.rows y → x.name ≡ y.name → a ≡ b
one_each volume sound a b x y a_is b_is here there same = a_is ∙ ap (λ (row : Row). row ∷ []) (one_row volume sound x y here there same) ∙ sym b_is

-- a change takes away one list of rows
pub one_gone : (volume : Volume) → IsSound volume → (change : Change) (a b : List Row) → DoGo volume.rows change a → DoGo volume.rows change b → a ≡ b
one_gone volume sound Repair a b p q = p ∙ sym q
one_gone volume sound (Put row) a b p q = p ∙ sym q
one_gone volume sound (Swap name row) a b p q = one_each volume sound a b p.0 q.0 p.1 q.1 p.2 q.2 (p.3 ∙ sym q.3)
one_gone volume sound (Remove name) a b p q = one_each volume sound a b p.0 q.0 p.1 q.1 p.2 q.2 (one_text name p.0.name q.0.name p.3 q.3)
one_gone volume sound Mark a b p q = absurd p

-- ---- what is put

put_runs_of : (heads : ℕ) (given written : Row) → IsRowPut given written → runs_in heads written.extents ≡ map run_in (extents_of heads given)
put_runs_of heads given written is =
    ap (runs_in heads) is.extents_are ∙ ap (map (run_of heads)) (fields_same 0 given.extents) ∙ sym (runs_in_row heads given.extents)

pub put_runs : (volume : Volume) (old new gone put : List Row) (texts : List Text) (change : Change) → AreRowsAfter old change gone put new
    → runs_of_rows volume put ≡ runs_of_sets (sets_put (heads_of volume.device) change texts)
put_runs volume old new gone put texts Repair is = ap (runs_of_rows volume) is.1
put_runs volume old new gone put texts (Put given) is =
    ap (runs_of_rows volume) is.4 ∙ ap (λ (runs : List Run). runs ++ []) (put_runs_of (heads_of volume.device) given is.2 is.5)
put_runs volume old new gone put texts (Swap name given) is =
    ap (runs_of_rows volume) is.5 ∙ ap (λ (runs : List Run). runs ++ []) (put_runs_of (heads_of volume.device) given is.3 is.7)
put_runs volume old new gone put texts (Remove name) is = ap (runs_of_rows volume) is.4
put_runs volume old new gone put texts Mark is = absurd is

pub put_records : (heads : ℕ) (old new gone put : List Row) (texts : List Text) (change : Change) → AreRowsAfter old change gone put new
    → sum_by records_for put ≡ sum_by records_of_set (sets_put heads change texts)
put_records heads old new gone put texts Repair is = ap (sum_by records_for) is.1
put_records heads old new gone put texts (Put given) is = omega (arith, ap (sum_by records_for) is.4, is.5.threes_are)
put_records heads old new gone put texts (Swap name given) is = omega (arith, ap (sum_by records_for) is.5, is.7.threes_are)
put_records heads old new gone put texts (Remove name) is = ap (sum_by records_for) is.4
put_records heads old new gone put texts Mark is = absurd is
