-- The parts of the first rows in a dump, counted: those of the next row may stand behind them.
use Rattle.std.proofs.Common.{◌≡◌, ℕ, zero, suc, ◌+◌, ◌<◌, ◌≤◌, false, List, [], ◌∷◌, ◌++◌, length, take, drop, replicate, sum_by, All, Contains, None, get_or, refl, sym, ap, subst, ◌∙◌, arith, length-append}
use Rattle.std.specs.List.{AllPairs}
use Rattle.std.proofs.lemmas.List.{append-nil, length-take, take-append-le, take-append-drop, take-take}
use Rattle.std.proofs.lemmas.List.Elements.{All-append, All-cons, All-nil, All-weaker, All-head, Contains-append_left, Contains-append_right}
use Rattle.std.proofs.lemmas.List.Sums.{sum_by-append}
use Rattle.dsn_filter.specs.declared.dsn.Dsn.{Dsn}
use Rattle.dump_fmt.specs.declared.piece.DumpHead.{DumpHead}
use Rattle.dump_fmt.specs.Front.{whole_tracks}
use Rattle.dump_fmt.specs.Parts.{DumpPart}
use Rattle.volume_model.specs.Reads.{fields_of_1}
use Rattle.vtoc_core.specs.declared.volume.Row.{Row}
use Rattle.vtoc_core.specs.declared.volume.Volume.{Volume}
use Rattle.vtoc_core.specs.Loaded.{HasItsName}
use Rattle.job_turns.specs.job_copies.unit_steps.Plans.{HasRow, tracks_in}
use Rattle.job_dumps.specs.Putting.{AreInOrder, HaveRows, IsBefore, IsReadyFor, holding}
use Rattle.job_dumps.specs.Texts.{IsOfRow}
use Rattle.job_dumps.proofs.Fronts.{front_pairs, last_pair, tracks_more}

-- the tracks of rows
abbrev pub tracks_of_rows : Volume → List Row → ℕ
tracks_of_rows volume rows = sum_by (λ (row : Row). length (tracks_in volume row)) rows

-- the part has the name of one of the rows
abbrev pub IsNamedIn : List Row → DumpPart → Type 0
IsNamedIn rows part = (row : Row) × Contains rows row × (take 44 part.f1 ≡ row.name)

-- parts of some rows, at most one of each: no more of them than rows, and no more whole tracks than those of the rows
pub record AreOfRows (volume : Volume) (rows : List Row) (parts : List DumpPart) : Type 0 where
  pub named : All (IsNamedIn rows) parts
  pub few : length parts ≤ length rows
  pub few_tracks : whole_tracks (holding parts None) ≤ tracks_of_rows volume rows

-- ---- names

-- a name and its row, and the rows before it
pub row_at : (volume : Volume) (names : List Dsn) (rows : List Row) → HaveRows volume names rows → (k : ℕ) (d : Dsn) → k < length names
    → (row : Row) × HasRow volume (get_or names k d) row × (take (suc k) rows ≡ take k rows ++ row ∷ [])
row_at volume [] rows have k d less = absurd (omega (arith, less))
row_at volume (name ∷ names) [] have k d less = absurd have
row_at volume (name ∷ names) (row ∷ rows) have zero d less = (row, have.0, refl)
row_at volume (name ∷ names) (row ∷ rows) have (suc k) d less =
    let (found, has, split) = row_at volume names rows have.1 k d (omega (arith, less)) in
    (found, has, ap (λ (rest : List Row). row ∷ rest) split)

-- the name of a part is that of its row
pub name_of_part : (row : Row) (more : List ℕ) → HasItsName row → length row.name ≡ 44 → take 44 (fields_of_1 row.f1 ++ more) ≡ row.name
name_of_part row more its long =
    let f1 = row.f1 in
    let first : List ℕ = take 44 f1 in
    let enough : 44 ≤ length f1 = omega (arith, long, ap length its, length-take 44 f1) in
    let behind : List ℕ = 0 ∷ take 45 (drop 60 f1) in
    let more_than : 44 ≤ length (take 59 f1) = omega (arith, enough, length-take 59 f1) in
    take-append-le 44 (take 59 f1 ++ behind) more (omega (arith, more_than, length-append (take 59 f1) behind))
    ∙ take-append-le 44 (take 59 f1) behind more_than ∙ take-take 44 59 f1 (omega arith) ∙ sym its

-- ---- none, and more

-- no parts, and no rows
pub none_of_rows : (volume : Volume) → AreOfRows volume [] []
none_of_rows volume = record { named = All-nil (IsNamedIn []); few = omega arith; few_tracks = omega arith }

module _ (volume : Volume) (rows : List Row) (row : Row) (parts : List DumpPart) (are : AreOfRows volume rows parts) where
  longer : tracks_of_rows volume (rows ++ row ∷ []) ≡ tracks_of_rows volume rows + length (tracks_in volume row)
  longer = omega (arith, sum_by-append (λ (r : Row). length (tracks_in volume r)) rows (row ∷ []))

  widened : All (IsNamedIn (rows ++ row ∷ [])) parts
  widened =
      All-weaker (IsNamedIn rows) (IsNamedIn (rows ++ row ∷ [])) (λ part is. (is.0, Contains-append_left rows (row ∷ []) is.0 is.1, is.2)) parts are.named

  last_there : Contains (rows ++ row ∷ []) row
  last_there = Contains-append_right rows (row ∷ []) row (0, omega arith, refl)

  -- with those of one row more, of which there is at most one
  pub more_of_rows : (first : List DumpPart) → length first ≤ 1 → All (IsOfRow volume row) first → HasItsName row → length row.name ≡ 44 → AreOfRows volume (rows ++ row ∷ []) (parts ++ first)
  more_of_rows [] one of_row its long =
      subst (AreOfRows volume (rows ++ row ∷ [])) (sym (append-nil parts)) (record {
        named = widened;
        few = omega (arith, are.few, length-append rows (row ∷ []));
        few_tracks = omega (arith, are.few_tracks, longer);
      })
  more_of_rows (part ∷ []) one of_row its long =
      let is : IsOfRow volume row part = All-head (IsOfRow volume row) part [] of_row in
      let name : take 44 part.f1 ≡ row.name = ap (take 44) is.f1_is ∙ name_of_part row (replicate 35 0) its long in
      record {
        named = All-append (IsNamedIn (rows ++ row ∷ [])) parts (part ∷ []) widened
            (All-cons (IsNamedIn (rows ++ row ∷ [])) part [] (row, last_there, name) (All-nil (IsNamedIn (rows ++ row ∷ []))));
        few = omega (arith, are.few, length-append rows (row ∷ []), length-append parts (part ∷ []));
        few_tracks = omega (arith, are.few_tracks, longer, tracks_more parts part, is.tracks_are);
      }
  more_of_rows (part ∷ other ∷ first) one of_row its long = absurd (omega (arith, one))

-- ---- the next may be put

-- the first rows are before the next one
earlier_rows : (rows before : List Row) (row : Row) (k : ℕ) → AllPairs (λ one other. IsBefore one.name other.name) rows → take k rows ≡ before ++ row ∷ [] → (other : Row) → Contains before other
    → IsBefore other.name row.name
earlier_rows rows before row k order split other there =
    let Before : Row → Row → Type 0 = λ one later. IsBefore one.name later.name in
    let first : AllPairs Before (take k rows) = front_pairs Before (take k rows) (drop k rows) (subst (AllPairs Before) (sym (take-append-drop k rows)) order) in
    subst (λ (r : Row). IsBefore r.name row.name) there.2 (last_pair Before before row (subst (AllPairs Before) split first) there.0 other there.1)

-- a part of the next row may stand behind those of the first ones
pub ready_for : {volume : Volume} {names : List Dsn} (order : AreInOrder volume names) (k : ℕ) (row : Row) → take (suc k) order.rows ≡ take k order.rows ++ row ∷ [] → {parts : List DumpPart}
    → AreOfRows volume (take k order.rows) parts → (head : DumpHead) → head.full ≡ false → head.device ≡ volume.device
    → IsReadyFor volume.device row.name (length (tracks_in volume row)) head parts
ready_for {volume} {names} order k row split {parts} are head logical device =
    let rows = order.rows in
    let first = take k rows in
    let counts : length (take (suc k) rows) + length (drop (suc k) rows) ≡ length rows = sym (length-append (take (suc k) rows) (drop (suc k) rows)) ∙ ap length (take-append-drop (suc k) rows) in
    let size : Row → ℕ = λ r. length (tracks_in volume r) in
    let sums : tracks_of_rows volume rows ≡ tracks_of_rows volume (take (suc k) rows) + tracks_of_rows volume (drop (suc k) rows) =
    ap (sum_by size) (sym (take-append-drop (suc k) rows)) ∙ sum_by-append size (take (suc k) rows) (drop (suc k) rows) in
    let next : tracks_of_rows volume (take (suc k) rows) ≡ tracks_of_rows volume first + size row = omega (arith, ap (sum_by size) split, sum_by-append size first (row ∷ [])) in
    record {
      logical = logical;
      device_is = device;
      earlier = All-weaker (IsNamedIn first) (λ part. IsBefore (take 44 part.f1) row.name)
          (λ part is. subst (λ (name : List ℕ). IsBefore name row.name) (sym is.2) (earlier_rows rows first row (suc k) order.order split is.0 is.1)) parts are.named;
      few = omega (arith, order.few, are.few, counts, ap length split, length-append first (row ∷ []));
      few_tracks = omega (arith, order.few_tracks, are.few_tracks, sums, next);
    }
