-- The names of the data sets that a filter takes, row by row.
use Rattle.std.proofs.Common.{◌≡◌, ◌≢◌, ◌↔◌, inl, inr, ℕ, zero, suc, ◌+◌, ◌<◌, List, [], ◌∷◌, ◌++◌, length, drop, get_or, All, AllPairs, Bool, Option, Some, None, refl, sym, ap, subst, ◌∙◌, arith, append_assoc}
use Rattle.std.specs.Prelude.{IsTrue, IfNone}
use Rattle.std.proofs.Math.Seq.{drop-length}
use Rattle.std.proofs.lemmas.List.{append-nil, drop_more, length-map}
use Rattle.std.proofs.lemmas.List.Elements.{All-push, All-weaker}
use Rattle.std.proofs.lemmas.List.Quantifiers.{all_pairs_push}
use Rattle.by_rules.specs.declared.day.Day.{Day}
use Rattle.by_rules.specs.declared.row.RowFacts.{RowFacts}
use Rattle.ckd_image.specs.Device.{heads_of}
use Rattle.dsn_filter.specs.declared.dsn.Dsn.{Dsn}
use Rattle.dsn_filter.specs.Dsn.{IsDsn}
use Rattle.sysin_lang.specs.declared.command.Filter.{Filter}
use Rattle.volume_model.specs.Pinned.{IsNameOf}
use Rattle.volume_model.specs.Reads.{fields_of_1}
use Rattle.volume_model.specs.Unit.{Extent, DataSet, tracks_of}
use Rattle.vtoc_core.specs.declared.volume.Row.{Row}
use Rattle.vtoc_core.specs.declared.volume.Volume.{Volume}
use Rattle.volume_change.proofs.Names.{one_text}
use Rattle.step_plans.specs.unit_change.Described.{DescribesSet, DescribesSets}
use Rattle.step_plans.specs.unit_steps.Plans.{HasRow}
use Rattle.step_plans.specs.Plans.{IsSound, extents_from}
use Rattle.set_facts.specs.Facts.{facts_from, facts_of}
use Rattle.set_facts.specs.Selection.{Passes, criteria_in}
use Rattle.job_select.specs.Selection.{ArePicked, Takes, Selects}
use Rattle.job_select.proofs.OneName.{one_named}
use Rattle.job_select.proofs.RowNames.{differ_at}
use Rattle.job_select.proofs.Wholes.{on}
use Rattle.step_plans.proofs.RowNames.{names_differ}

-- ---- one data set

facts_same : (volume : Volume) (row : Row) (set : DataSet) (extents tracks : ℕ) → DescribesSet (heads_of volume.device) row set → extents ≡ length row.extents
    → tracks ≡ length (tracks_of (extents_from volume.device row.extents)) → facts_from (fields_of_1 row.f1) extents tracks ≡ facts_of set
facts_same volume row set extents tracks is count_is tracks_is =
    let count : extents ≡ length set.extents = count_is ∙ sym (length-map row.extents (on volume.device)) ∙ sym (ap length is.extents_are) in
    let as_many : tracks ≡ length (tracks_of set.extents) = tracks_is ∙ sym (ap (λ (l : List Extent). length (tracks_of l)) is.extents_are) in
    (λ i. facts_from (sym is.fields_are i) (count i) (as_many i))

-- the name of a row is the only one that its data set has
passing : (filter : Filter) (today : Day) (set : DataSet) (name : Dsn) → IsDsn name → IsNameOf name set.name → Takes filter today set
    → Passes filter.include filter.exclude (criteria_in filter.by) today name (facts_of set)
passing filter today set name lawful named is =
    subst (λ (n : Dsn). Passes filter.include filter.exclude (criteria_in filter.by) today n (facts_of set)) (one_named set.name is.name name is.lawful lawful is.name_is named) is.passes

pub takes_where : (volume : Volume) (row : Row) (name : Dsn) (filter : Filter) (today : Day) (set : DataSet) (found : Bool) (include exclude : List (List (List ℕ))) (facts : RowFacts)
    (extents tracks : ℕ) → HasRow volume name row → DescribesSet (heads_of volume.device) row set → include ≡ filter.include → exclude ≡ filter.exclude
    → extents ≡ length row.extents → tracks ≡ length (tracks_of (extents_from volume.device row.extents)) → facts ≡ facts_from (fields_of_1 row.f1) extents tracks
    → (IsTrue found ↔ Passes include exclude (criteria_in filter.by) today name facts) → (IsTrue found ↔ Takes filter today set)
takes_where volume row name filter today set found include exclude facts extents tracks has is include_is exclude_is count_is tracks_is facts_are where_passes =
    (λ t. record { name = name; lawful = has.lawful; name_is = named; passes = to (where_passes.0 t) }, λ taken. where_passes.1 (from (passing filter today set name has.lawful named taken)))
  where
    named : IsNameOf name set.name
    named = subst (IsNameOf name) (sym is.name_is) has.name_is

    facts_of_set : facts ≡ facts_of set
    facts_of_set = facts_are ∙ facts_same volume row set extents tracks is count_is tracks_is

    to : Passes include exclude (criteria_in filter.by) today name facts → Passes filter.include filter.exclude (criteria_in filter.by) today name (facts_of set)
    to passes =
        subst (λ (f : RowFacts). Passes filter.include filter.exclude (criteria_in filter.by) today name f) facts_of_set
        (subst (λ (included : List (List (List ℕ))). Passes included filter.exclude (criteria_in filter.by) today name facts) include_is
        (subst (λ (excluded : List (List (List ℕ))). Passes include excluded (criteria_in filter.by) today name facts) exclude_is passes))

    from : Passes filter.include filter.exclude (criteria_in filter.by) today name (facts_of set) → Passes include exclude (criteria_in filter.by) today name facts
    from passes =
        subst (λ (excluded : List (List (List ℕ))). Passes include excluded (criteria_in filter.by) today name facts) (sym exclude_is)
        (subst (λ (included : List (List (List ℕ))). Passes included filter.exclude (criteria_in filter.by) today name facts) (sym include_is)
        (subst (λ (f : RowFacts). Passes filter.include filter.exclude (criteria_in filter.by) today name f) (sym facts_of_set) passes))

-- what holds where nothing is found
pub none_so : {X P : Type 0} (found : Option X) → P → IfNone found P
none_so None holds = holds
none_so (Some x) holds = tt

pub none_taken : (heads : ℕ) (row : Row) (filter : Filter) (today : Day) → ((name : Dsn) → IsDsn name → ¬ IsNameOf name row.name) → (set : DataSet) → DescribesSet heads row set → ¬ Takes filter today set
none_taken heads row filter today none set is taken = none taken.name taken.lawful (subst (IsNameOf taken.name) is.name_is taken.name_is)

-- ---- rows and data sets

-- the data set of the row at a place
record IsAt (heads : ℕ) (row : Row) (sets : List DataSet) (k : ℕ) : Type 0 where
  set : DataSet
  is : DescribesSet heads row set
  parted : drop k sets ≡ set ∷ drop (k + 1) sets

described_at : (heads : ℕ) (rows : List Row) (sets : List DataSet) (k : ℕ) (d : Row) → DescribesSets heads rows sets → k < length rows → IsAt heads (get_or rows k d) sets k
described_at heads [] sets k d are less = absurd (omega (arith, less))
described_at heads (row ∷ rows) [] k d are less = absurd are
described_at heads (row ∷ rows) (set ∷ sets) zero d are less = record { set = set; is = are.0; parted = refl }
described_at heads (row ∷ rows) (set ∷ sets) (suc k) d are less =
    let later = described_at heads rows sets k d are.1 (omega (arith, less)) in
    let next : suc (k + 1) ≡ suc k + 1 = omega arith in
    record { set = later.set; is = later.is; parted = later.parted ∙ ap (λ (n : ℕ). later.set ∷ drop n (set ∷ sets)) next }

none_behind : (heads : ℕ) (rows : List Row) (sets : List DataSet) → DescribesSets heads rows sets → drop (length rows) sets ≡ []
none_behind heads [] [] are = refl
none_behind heads [] (set ∷ sets) are = absurd are
none_behind heads (row ∷ rows) [] are = absurd are
none_behind heads (row ∷ rows) (set ∷ sets) are = none_behind heads rows sets are.1

-- ---- row by row

-- the name of one of the rows before a place
abbrev IsEarlier : Volume → ℕ → Dsn → Type 0
IsEarlier volume k name = (place : ℕ) × (row : Row) × (place < k) × (get_or volume.rows place row ≡ row) × IsNameOf name row.name

-- These names are taken of the rows so far: with those that are taken of the others they are all that are taken.
pub record AreSoFar (volume : Volume) (filter : Filter) (today : Day) (k : ℕ) (names : List Dsn) : Type 0 where
  pub leads : (sets : List DataSet) → DescribesSets (heads_of volume.device) volume.rows sets
      → (more : List Dsn) → Selects filter today (drop k sets) more → Selects filter today sets (names ++ more)
  pub picked : (more : List Dsn) → ArePicked volume (drop k volume.rows) more → ArePicked volume volume.rows (names ++ more)
  pub there : All (λ name. (row : Row) × HasRow volume name row) names
  pub earlier : All (IsEarlier volume k) names
  pub apart : AllPairs (λ name other. name ≢ other) names

pub none_yet : (volume : Volume) (filter : Filter) (today : Day) → AreSoFar volume filter today 0 []
none_yet volume filter today = record {
  leads = λ sets are more selects. selects;
  picked = λ more are. are;
  there = λ k d less. absurd (omega (arith, less));
  earlier = λ k d less. absurd (omega (arith, less));
  apart = λ i j d less within. absurd (omega (arith, within));
}

module _ (volume : Volume) (filter : Filter) (today : Day) (k : ℕ) (names : List Dsn) (so_far : AreSoFar volume filter today k names) (row : Row) (at : get_or volume.rows k row ≡ row)
    (less : k < length volume.rows) where
  next : (sets : List DataSet) → DescribesSets (heads_of volume.device) volume.rows sets → IsAt (heads_of volume.device) row sets k
  next sets are = subst (λ (r : Row). IsAt (heads_of volume.device) r sets k) at (described_at (heads_of volume.device) volume.rows sets k row are less)

  rows_parted : drop k volume.rows ≡ row ∷ drop (k + 1) volume.rows
  rows_parted = drop_more volume.rows k row less ∙ ap (λ (r : Row). r ∷ drop (k + 1) volume.rows) at

  still_earlier : All (IsEarlier volume (k + 1)) names
  still_earlier =
      All-weaker (IsEarlier volume k) (IsEarlier volume (k + 1)) (λ name before. (before.0, before.1, omega (arith, before.2), before.3, before.4)) names so_far.earlier

  -- the name of this row is none of the earlier ones
  other_name : IsSound volume → (name other : Dsn) → HasRow volume name row → IsEarlier volume k other → other ≢ name
  other_name sound name other has (place, before, earlier, is, named) same =
      differ_at volume.rows place k before row (names_differ volume sound) earlier less is at
      (one_text name before.name row.name (subst (λ (n : Dsn). IsNameOf n before.name) same named) has.name_is)

  pub taken_more : IsSound volume → (name : Dsn) → HasRow volume name row → ((set : DataSet) → DescribesSet (heads_of volume.device) row set → Takes filter today set)
      → (later : List Dsn) → later ≡ names ++ name ∷ [] → AreSoFar volume filter today (k + 1) later
  taken_more sound name has takes later is = subst (AreSoFar volume filter today (k + 1)) (sym is) (record {
    leads =
        λ sets are more selects. let set = next sets are in
        let named : IsNameOf name set.set.name = subst (IsNameOf name) (sym set.is.name_is) has.name_is in
        subst (Selects filter today sets) (sym (append_assoc names (name ∷ []) more))
        (so_far.leads sets are (name ∷ more)
        (subst (λ (l : List DataSet). Selects filter today l (name ∷ more)) (sym set.parted) (inl (takes set.set set.is, (name, more, has.lawful, named, refl, selects)))));
    picked =
        λ more are. subst (ArePicked volume volume.rows) (sym (append_assoc names (name ∷ []) more))
        (so_far.picked (name ∷ more) (subst (λ (l : List Row). ArePicked volume l (name ∷ more)) (sym rows_parted) (inl (name, more, refl, has, are))));
    there = All-push (λ (n : Dsn). (r : Row) × HasRow volume n r) names name so_far.there (row, has);
    earlier = All-push (IsEarlier volume (k + 1)) names name still_earlier (k, row, omega arith, at, has.name_is);
    apart =
        all_pairs_push (λ (n m : Dsn). n ≢ m) names name so_far.apart (λ i d within. other_name sound name (get_or names i d) has (so_far.earlier i d within));
  })

  pub passed_over : ((set : DataSet) → DescribesSet (heads_of volume.device) row set → ¬ Takes filter today set) → (later : List Dsn) → later ≡ names
      → AreSoFar volume filter today (k + 1) later
  passed_over not later is = subst (AreSoFar volume filter today (k + 1)) (sym is) (record {
    leads =
        λ sets are more selects. let set = next sets are in
        so_far.leads sets are more (subst (λ (l : List DataSet). Selects filter today l more) (sym set.parted) (inr (not set.set set.is, selects)));
    picked = λ more are. so_far.picked more (subst (λ (l : List Row). ArePicked volume l more) (sym rows_parted) (inr are));
    there = so_far.there;
    earlier = still_earlier;
    apart = so_far.apart;
  })

-- they are those of some rows
pub all_picked : (volume : Volume) (filter : Filter) (today : Day) (k : ℕ) (names : List Dsn) → AreSoFar volume filter today k names → k ≡ length volume.rows
    → ArePicked volume volume.rows names
all_picked volume filter today k names so_far is =
    let end : drop k volume.rows ≡ [] = ap (λ (n : ℕ). drop n volume.rows) is ∙ drop-length volume.rows in
    subst (ArePicked volume volume.rows) (append-nil names) (so_far.picked [] (subst (λ (l : List Row). ArePicked volume l []) (sym end) refl))

pub all_taken : (volume : Volume) (filter : Filter) (today : Day) (k : ℕ) (names : List Dsn) → AreSoFar volume filter today k names → k ≡ length volume.rows
    → (sets : List DataSet) → DescribesSets (heads_of volume.device) volume.rows sets → Selects filter today sets names
all_taken volume filter today k names so_far is sets are =
    let end : drop k sets ≡ [] = ap (λ (n : ℕ). drop n sets) is ∙ none_behind (heads_of volume.device) volume.rows sets are in
    subst (Selects filter today sets) (append-nil names) (so_far.leads sets are [] (subst (λ (l : List DataSet). Selects filter today l []) (sym end) refl))
