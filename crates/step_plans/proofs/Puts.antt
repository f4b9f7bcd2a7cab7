-- A row that is put on free runs of tracks.
use Rattle.std.proofs.Common.{◌≡◌, ◌≢◌, inl, inr, ℕ, ◌+◌, ◌-◌, ◌<◌, ◌≤◌, nat_lt, List, [], ◌∷◌, length, map, All, AllPairs, true, false, sym, ap, subst, ◌∙◌, arith}
use Rattle.std.proofs.lemmas.Bool.{cases_Bool, cases_lt, and_parts, ltb-true}
use Rattle.std.proofs.lemmas.List.{length-map}
use Rattle.std.proofs.lemmas.List.Elements.{All-nil, All-cons, All-head, All-tail, All-weaker}
use Rattle.ckd_image.specs.Device.{heads_of}
use Rattle.dscb_rec.specs.declared.field.Extent.{Extent as Field}
use Rattle.dscb_made.specs.Slots.{IsThere}
use Rattle.free_map.specs.declared.run.Run.{Run}
use Rattle.free_map.specs.Free.{IsFree}
use Rattle.free_map.specs.Runs.{HasTrack, InRuns}
use Rattle.volume_model.specs.declared.format.Format.TheVariants.{F1}
use Rattle.volume_model.specs.Dscbs.{format_of}
use Rattle.volume_model.specs.Space.{end_of, is_run, overlap}
use Rattle.volume_model.specs.Unit.{run_in}
use Rattle.vtoc_core.specs.declared.volume.Row.{Row}
use Rattle.vtoc_core.specs.declared.volume.Volume.{Volume}
use Rattle.vtoc_core.specs.Loaded.{field_of, HasItsName}
use Rattle.vtoc_layout.specs.Layout.{AreApart}
use Rattle.volume_change.specs.Runs.{runs_in}
use Rattle.unit_steps.specs.vtoc_render.Next.{MayPut}
use Rattle.unit_steps.proofs.unit_change.Describing.{runs_in_row}
use Rattle.unit_steps.proofs.unit_change.LoadedTracks.{free_unused_by_rows}
use Rattle.unit_steps.proofs.Blocks.{few, home_short, from_slots}
use Rattle.unit_steps.proofs.Readying.{pairs_first, pairs_rest}
use Rattle.unit_steps.proofs.Rows.{runs_on}
use Rattle.unit_steps.proofs.vtoc_render.Known.{usable_small}
use Rattle.step_plans.specs.Plans.{IsSound, IsRoom, field_on}
use Rattle.step_plans.proofs.Places.{on_runs, are_on_runs, kinds_on}

-- ---- runs that share no track

abbrev SharesNone : Run → Run → Type 0
SharesNone one other = (track : ℕ) → HasTrack one track → ¬ HasTrack other track

abbrev IsSome : Run → Type 0
IsSome run = 1 ≤ run.len

no_overlap : (one other : Run) → IsSome one → IsSome other → SharesNone one other → overlap one other ≡ false
no_overlap one other some more none = elim (cases_Bool (overlap one other)) [
  | inl over ↦
      let parts = and_parts (nat_lt one.first (end_of other)) (nat_lt other.first (end_of one)) over in
      let before = ltb-true one.first (end_of other) parts.0 in
      let behind = ltb-true other.first (end_of one) parts.1 in
      elim (cases_lt one.first other.first) [
        | inl less ↦ absurd (none other.first (omega (arith, less), omega (arith, behind)) (omega arith, omega (arith, more)))
        | inr more_or_same ↦ absurd (none one.first (omega arith, omega (arith, some)) (omega (arith, more_or_same), omega (arith, before)))
      ]
  | inr apart ↦ apart
]

none_overlaps : (one : Run) (runs : List Run) → IsSome one → All IsSome runs → All (SharesNone one) runs → All (λ other. overlap one other ≡ false) runs
none_overlaps one [] some all none = All-nil (λ other. overlap one other ≡ false)
none_overlaps one (run ∷ runs) some all none =
    All-cons (λ other. overlap one other ≡ false) run runs
    (no_overlap one run some (All-head IsSome run runs all) (All-head (SharesNone one) run runs none))
    (none_overlaps one runs some (All-tail IsSome run runs all) (All-tail (SharesNone one) run runs none))

pub runs_apart : (runs : List Run) → All (λ run. 1 ≤ run.len) runs → AllPairs (λ one other. (track : ℕ) → HasTrack one track → ¬ HasTrack other track) runs → AreApart runs
runs_apart [] all pairs = tt
runs_apart (run ∷ runs) all pairs = (
  none_overlaps run runs (All-head IsSome run runs all) (All-tail IsSome run runs all) (pairs_first SharesNone run runs pairs),
  runs_apart runs (All-tail IsSome run runs all) (pairs_rest SharesNone run runs pairs),
)

-- ---- free runs

module _ (volume : Volume) (sound : IsSound volume) where
  pub free_below : (track : ℕ) → IsFree volume.free track → track < volume.usable
  free_below track free = (free_unused_by_rows sound.3.loaded (few sound.3) (home_short sound.3) track free).below

  pub usable_few : volume.usable ≤ 65535
  usable_few = usable_small (from_slots sound.3)

  runs_below : (runs : List Run) → All (λ run. 1 ≤ run.len) runs → ((track : ℕ) → InRuns runs track → IsFree volume.free track) → All (λ run. run.first + run.len ≤ volume.usable) runs
  runs_below [] all held = All-nil (λ run. run.first + run.len ≤ volume.usable)
  runs_below (run ∷ runs) all held =
      let some : 1 ≤ run.len = All-head IsSome run runs all in
      let last : run.first + (run.len - 1) < volume.usable = free_below (run.first + (run.len - 1)) (held (run.first + (run.len - 1)) (inl (omega arith, omega (arith, some)))) in
      All-cons (λ run. run.first + run.len ≤ volume.usable) run runs (omega (arith, some, last))
      (runs_below runs (All-tail IsSome run runs all) (λ track there. held track (inr there)))

  rooms : (runs : List Run) → All (λ run. 1 ≤ run.len) runs → All (λ run. run.first + run.len ≤ volume.usable) runs → All IsRoom runs
  rooms [] all below = All-nil IsRoom
  rooms (run ∷ runs) all below =
      let end : run.first + run.len ≤ volume.usable = All-head (λ (r : Run). r.first + r.len ≤ volume.usable) run runs below in
      All-cons IsRoom run runs (record { some = All-head IsSome run runs all; below = omega (arith, end, usable_few) })
      (rooms runs (All-tail IsSome run runs all) (All-tail (λ (r : Run). r.first + r.len ≤ volume.usable) run runs below))

  -- free runs are tracks that a data set may be put on
  pub free_rooms : (runs : List Run) → All (λ run. 1 ≤ run.len) runs → ((track : ℕ) → InRuns runs track → IsFree volume.free track) → All IsRoom runs
  free_rooms runs all held = rooms runs all (runs_below runs all held)

  -- ---- a row on free runs

  module _ (row : Row) (kind : ℕ) (runs : List Run) (some : kind ≢ 0) (named : HasItsName row) (format : format_of row.f1 ≡ F1)
      (extents_are : row.extents ≡ map (field_on volume.device kind) runs) (all : All (λ run. 1 ≤ run.len) runs)
      (apart : AllPairs (λ one other. (track : ℕ) → HasTrack one track → ¬ HasTrack other track) runs) (few_runs : length runs ≤ 16)
      (held : (track : ℕ) → InRuns runs track → IsFree volume.free track) where
    abbrev on : Run → Field
    on = field_on volume.device kind

    runs_are : runs_in (heads_of volume.device) row.extents ≡ runs
    runs_are =
        ap (runs_in (heads_of volume.device)) extents_are
        ∙ sym (runs_in_row (heads_of volume.device) (map on runs))
        ∙ ap (map run_in) (on_runs volume.device kind runs (free_rooms runs all held))
        ∙ runs_on kind runs

    pub may_put : (gone : List Row) → MayPut volume gone row
    may_put gone = record {
      named = named;
      format = format;
      few = omega (arith, ap length extents_are, length-map runs on, few_runs);
      there =
          subst (All IsThere) (sym extents_are)
          (All-weaker (λ (e : Field). e.kind ≡ kind) IsThere (λ e is none. some (sym is ∙ none)) (map on runs) (kinds_on volume.device kind runs));
      ranges =
          subst (All (λ extent. is_run (heads_of volume.device) volume.usable (field_of extent) ≡ true)) (sym extents_are)
          (are_on_runs volume.device kind volume.usable runs (free_rooms runs all held) (runs_below runs all held));
      apart = subst AreApart (sym runs_are) (runs_apart runs all apart);
      tracks = λ track there. inl (held track (subst (λ (l : List Run). InRuns l track) runs_are there));
    }
