-- The rows of a directory are ordered by their names, and so are the data sets of an online volume.
use Rattle.std.proofs.Common.{◌≡◌, ℕ, zero, suc, ◌+◌, ◌<◌, List, [], ◌∷◌, length, take, get_or, Bool, false, refl, sym, ap, subst, arith}
use Rattle.std.specs.Cmp.{IsStrictWeakOrder}
use Rattle.std.specs.Cmp.Lexicographic.{slice_cmp}
use Rattle.std.specs.List.Sorted.{IsSortedBy}
use Rattle.std.specs.Ordering.{is_lt, nat_cmp}
use Rattle.std.proofs.lemmas.Cmp.{nat_list_cmp_total}
use Rattle.std.proofs.lemmas.List.MinMax.{ranks_by}
use Rattle.ckd_image.specs.Device.{heads_of}
use Rattle.volume_model.specs.Directory.{DirectoryRow, name_before}
use Rattle.volume_model.specs.Reads.{AreDataSets, IsOnline}
use Rattle.volume_model.specs.Sound.{Slots}
use Rattle.volume_model.specs.Unit.{DataSet, AreByName, OnlineVolume}

pub by_name : IsStrictWeakOrder name_before
by_name = ranks_by nat_list_cmp_total (λ (row : DirectoryRow). take 44 row.format_1)

-- each data set has the name of its row
name_at : (heads : ℕ) (place : ℕ → ℕ) (slots : Slots) (rows : List DirectoryRow) (sets : List DataSet) → AreDataSets heads place slots rows sets → (k : ℕ) → k < length sets
    → (row : DirectoryRow) (set : DataSet) → (get_or sets k set).name ≡ take 44 (get_or rows k row).format_1
name_at heads place slots [] [] are k within row set = absurd (omega (arith, within))
name_at heads place slots (one ∷ rows) (first ∷ sets) are zero within row set = are.0.name_is
name_at heads place slots (one ∷ rows) (first ∷ sets) are (suc k) within row set = name_at heads place slots rows sets are.1 k (omega (arith, within)) row set
name_at heads place slots [] (first ∷ sets) are k within row set = absurd are
name_at heads place slots (one ∷ rows) [] are k within row set = absurd are

as_rows : (heads : ℕ) (place : ℕ → ℕ) (slots : Slots) (rows : List DirectoryRow) (sets : List DataSet) → AreDataSets heads place slots rows sets → length rows ≡ length sets
as_rows heads place slots [] [] are = refl
as_rows heads place slots (one ∷ rows) (first ∷ sets) are = ap suc (as_rows heads place slots rows sets are.1)
as_rows heads place slots [] (first ∷ sets) are = absurd are
as_rows heads place slots (one ∷ rows) [] are = absurd are

pub sets_by_name : (heads : ℕ) (place : ℕ → ℕ) (slots : Slots) (rows : List DirectoryRow) (sets : List DataSet) → AreDataSets heads place slots rows sets → IsSortedBy name_before rows
    → AreByName sets
sets_by_name heads place slots rows sets are order k set low within =
    let row : DirectoryRow = record { format_1 = []; extents = []; threes = 0 } in
    subst (λ (later : List ℕ). is_lt (slice_cmp nat_cmp later (get_or sets k set).name) ≡ false) (sym (name_at heads place slots rows sets are (k + 1) within row set))
    (subst (λ (earlier : List ℕ). is_lt (slice_cmp nat_cmp (take 44 (get_or rows (k + 1) row).format_1) earlier) ≡ false)
    (sym (name_at heads place slots rows sets are k (omega (arith, within)) row set))
    (order k row low (omega (arith, within, as_rows heads place slots rows sets are))))

pub online_by_name : {sliding : Bool} {place : ℕ → ℕ} {head : List ℕ} {blocks : ℕ} {slots : Slots} {volume : OnlineVolume} → IsOnline sliding place head blocks slots volume
    → AreByName volume.sets
online_by_name {sliding} {place} {head} {blocks} {slots} {volume} is = sets_by_name (heads_of is.found.device) place slots is.found.rows volume.sets is.sets_are is.stands.rows_are.order
