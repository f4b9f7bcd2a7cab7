-- The last block of a data set, as its format 1 says it; and the data sets of rows, one after another.
use Rattle.std.proofs.Common.{◌≡◌, ℕ, ◌+◌, ◌*◌, List, [], ◌∷◌, ◌++◌, length, refl, sym, ap, ◌∙◌, arith}
use Rattle.std.specs.Prelude.{slice_index_or}
use Rattle.std.specs.List.{flat_map}
use Rattle.std.proofs.lemmas.List.{append_assoc, flat_map_more}
use Rattle.volume_model.specs.Pinned.{last_track_in, last_record_in}
use Rattle.volume_model.specs.Reads.{fields_of_1}
use Rattle.volume_model.specs.Unit.{DataSet}
use Rattle.volume_model.proofs.Fields.{field_behind}
use Rattle.vtoc_core.specs.declared.volume.Row.{Row}
use Rattle.dump_sets.specs.job_turns.job_copies.unit_change.Described.{DescribesSet, DescribesSets}
use Rattle.job_lines.specs.declared.message.Message.{Message}
use Rattle.job_ops.specs.Listing.{set_messages}

pub last_track_kept : (f1 : List ℕ) → length f1 ≡ 140 → (fields : List ℕ) → fields ≡ fields_of_1 f1 → slice_index_or f1 98 0 * 256 + slice_index_or f1 99 0 ≡ last_track_in fields
last_track_kept f1 long fields are =
    omega (arith, field_behind f1 long 38 (omega arith), field_behind f1 long 39 (omega arith)) ∙ ap (λ (l : List ℕ). last_track_in l) (sym are)

pub last_record_kept : (f1 : List ℕ) → length f1 ≡ 140 → (fields : List ℕ) → fields ≡ fields_of_1 f1 → slice_index_or f1 100 0 ≡ last_record_in fields
last_record_kept f1 long fields are = sym (field_behind f1 long 40 (omega arith)) ∙ ap (λ (l : List ℕ). last_record_in l) (sym are)

-- the data sets of rows of which the last is one row
pub record EndsWith (heads : ℕ) (rows : List Row) (row : Row) (sets : List DataSet) : Type 0 where
  pub front : List DataSet
  pub last : DataSet
  pub sets_are : sets ≡ front ++ (last ∷ [])
  pub front_are : DescribesSets heads rows front
  pub last_is : DescribesSet heads row last

pub ends_with : (heads : ℕ) (rows : List Row) (row : Row) (sets : List DataSet) → DescribesSets heads (rows ++ (row ∷ [])) sets → EndsWith heads rows row sets
ends_with heads [] row [] are = absurd are
ends_with heads [] row (set ∷ []) are = record { front = []; last = set; sets_are = refl; front_are = tt; last_is = are.0 }
ends_with heads [] row (set ∷ (other ∷ sets)) are = absurd are.1
ends_with heads (first ∷ rows) row [] are = absurd are
ends_with heads (first ∷ rows) row (set ∷ sets) are =
    let rest = ends_with heads rows row sets are.1 in
    record {
      front = set ∷ rest.front;
      last = rest.last;
      sets_are = ap (λ (l : List DataSet). set ∷ l) rest.sets_are;
      front_are = (are.0, rest.front_are);
      last_is = rest.last_is;
    }

pub no_rows : (heads : ℕ) (sets : List DataSet) → DescribesSets heads [] sets → [] ≡ sets
no_rows heads [] are = refl
no_rows heads (set ∷ sets) are = absurd are

-- the messages of one more data set
pub sets_next : (before : List Message) (first : Message) (heads : ℕ) (rows : List Row) (row : Row) (old new : List Message)
    → ((sets : List DataSet) → DescribesSets heads rows sets → old ≡ before ++ (first ∷ flat_map set_messages sets))
    → ((set : DataSet) → DescribesSet heads row set → new ≡ old ++ set_messages set)
    → (sets : List DataSet) → DescribesSets heads (rows ++ (row ∷ [])) sets → new ≡ before ++ (first ∷ flat_map set_messages sets)
sets_next before first heads rows row old new was is sets are =
    let split = ends_with heads rows row sets are in
    is split.last split.last_is
    ∙ ap (λ (l : List Message). l ++ set_messages split.last) (was split.front split.front_are ∙ sym (append_assoc before (first ∷ []) (flat_map set_messages split.front)))
    ∙ flat_map_more set_messages (before ++ (first ∷ [])) split.front split.last
    ∙ append_assoc before (first ∷ []) (flat_map set_messages (split.front ++ (split.last ∷ [])))
    ∙ ap (λ (l : List DataSet). before ++ (first ∷ flat_map set_messages l)) (sym split.sets_are)
