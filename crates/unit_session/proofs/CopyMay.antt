-- The copies of a plan may be made: they write free tracks.
use Rattle.std.proofs.Common.{◌≡◌, ◌⊎◌, inl, inr, ◌==◌, ◌&&◌, ℕ, ◌<◌, List, [], ◌∷◌, ◌++◌, ◌-◌, length, map, drop, Contains, Bool, true, false, Option, Some, None, sym, ap, subst, ◌∙◌, arith}
use Rattle.std.specs.Prelude.{slice_get, ◌||◌}
use Rattle.std.specs.List.{list_any}
use Rattle.std.proofs.lemmas.Bool.{false≢true, eq-eqb}
use Rattle.std.proofs.lemmas.Bool.Decides.{eqb_tells}
use Rattle.std.proofs.lemmas.Option.{none-some, slice_get_within}
use Rattle.ckd_image.specs.declared.device.Device.{Device}
use Rattle.ckd_image.specs.Device.{heads_of, slot_of}
use Rattle.dasd_pool.specs.Disk.{Image, Shape}
use Rattle.dsn_filter.specs.declared.dsn.Dsn.{Dsn}
use Rattle.free_map.specs.Free.{IsFree}
use Rattle.redo_core.specs.Reading.{journal_of}
use Rattle.vtoc_core.specs.declared.volume.Row.{Row}
use Rattle.vtoc_core.specs.declared.volume.Volume.{Volume}
use Rattle.vtoc_layout.specs.Layout.{AreDistinct}
use Rattle.vtoc_layout.proofs.Apart.{all_from}
use Rattle.vtoc_layout.proofs.Distinct.{at_first, in_later}
use Rattle.volume_change.specs.declared.change.Change.{Change}
use Rattle.volume_change.specs.declared.change.Change.TheVariants.{Repair, Put, Swap, Remove, Mark}
use Rattle.unit_load.specs.declared.state.UnitState.{UnitState}
use Rattle.unit_load.specs.declared.state.UnitState.TheVariants.{Online}
use Rattle.unit_load.specs.Kept.{IsFromSlots}
use Rattle.unit_load.proofs.Runs.{said_slot}
use Rattle.unit_steps.specs.declared.plan.Tracks.{Tracks}
use Rattle.unit_steps.specs.declared.plan.Tracks.TheVariants as texts
use Rattle.unit_steps.specs.declared.plan.Plan.{Plan}
use Rattle.unit_steps.specs.Copied.{AreHeld, HoldTexts, IsFreeAt, IsPutBy}
use Rattle.unit_steps.specs.Laws.{AreSized}
use Rattle.unit_steps.specs.Loaded.{HaveStates, KeepVtocs}
use Rattle.unit_steps.specs.Plans.{HasRow, IsLoadedAt, IsPlan, tracks_in}
use Rattle.unit_session.specs.declared.copies.TextMove.{TextMove}
use Rattle.unit_session.specs.declared.copies.Copies.{Copies}
use Rattle.unit_session.specs.Copies.{AreCopied, AreCopiesOf, AreRowCopies, HaveTexts, IsTarget, MayCopy, OnCopies, may_write, may_write_for, moves_between, targets_of}
use Rattle.unit_session.proofs.CopyPlaces.{ArePlaced, IsPlaced, few_blocks, free_below, kept_of, not_free, one_named, plan_placed, put_distinct, row_below}
use Rattle.unit_session.proofs.CopyTargets.{IsMoved, each_target, get_contains, pairs_of, source_there, targets_between, targets_distinct}
use Rattle.unit_session.proofs.CopyingHeld.{copies_hold_texts}
use Rattle.unit_steps.proofs.OneChange.{same_volume}

-- copies of a data set's tracks onto those of a row that was placed
pub record AreCopiesTo (units : List UnitState) (copies : Copies) : Type 0 where
  pub source : Volume
  pub volume : Volume
  pub origin : Row
  pub row : Row
  pub source_loaded : IsLoadedAt units copies.from source
  pub origin_there : Contains source.rows origin
  pub loaded : IsLoadedAt units copies.unit volume
  pub placed : IsPlaced copies.from copies.unit source volume origin row
  pub device_is : copies.device ≡ volume.device
  pub moves_are : copies.moves.items ≡ moves_between (copies.from == copies.unit) (tracks_in source origin) (tracks_in volume row)
  pub empty_are : copies.empty.items ≡ drop (length (tracks_in source origin)) (tracks_in volume row)
  pub targets_are : targets_of copies ≡ targets_between (copies.from == copies.unit) (tracks_in source origin) (tracks_in volume row)

copies_to : (units : List UnitState) (from : ℕ) (name : Dsn) (unit : ℕ) (change : Change) (rest : List (ℕ × Change)) (copies : Copies)
    → ArePlaced units (texts.Rows from name) ((unit, change) ∷ rest) → AreRowCopies units from name unit change copies → AreCopiesTo units copies
copies_to units from name unit change rest copies placed (source, volume, origin, row, at, has, there, put, copied) =
    let one : (copies.from == copies.unit) ≡ (from == unit) = (λ i. copied.from_is i == copied.unit_is i) in
    let source_tracks = tracks_in source origin in
    let target_tracks = tracks_in volume row in
    let moves_are : copies.moves.items ≡ moves_between (copies.from == copies.unit) source_tracks target_tracks =
    copied.moves_are ∙ ap (λ (b : Bool). moves_between b source_tracks target_tracks) (sym one) in
    record {
      source = source;
      volume = volume;
      origin = origin;
      row = row;
      source_loaded = subst (λ (u : ℕ). IsLoadedAt units u source) (sym copied.from_is) at;
      origin_there = has.there;
      loaded = subst (λ (u : ℕ). IsLoadedAt units u volume) (sym copied.unit_is) there;
      placed =
          subst (λ (u : ℕ). IsPlaced u copies.unit source volume origin row) (sym copied.from_is)
          (subst (λ (u : ℕ). IsPlaced from u source volume origin row) (sym copied.unit_is) (placed source volume origin row at has there put));
      device_is = copied.device_is;
      moves_are = moves_are;
      empty_are = copied.empty_are;
      targets_are = λ i. map (λ move. move.to) (moves_are i) ++ copied.empty_are i;
    }

-- what the copies of a plan are
pub plan_copies : {shape : Shape} (units : List UnitState) (vtocs : List (List ℕ)) (plan : Plan) (copies : Copies) → HaveStates shape units → KeepVtocs shape units vtocs → IsPlan units plan
    → AreCopiesOf units plan.tracks plan.changes (Some copies) → AreCopiesTo units copies
plan_copies units vtocs plan copies have keep is = by plan.tracks plan.changes (plan_placed units vtocs have keep plan.step plan.tracks plan.changes is)
  where
    by : (tracks : Tracks) (changes : List (ℕ × Change)) → ArePlaced units tracks changes → AreCopiesOf units tracks changes (Some copies) → AreCopiesTo units copies
    by (texts.Rows from name) (change ∷ changes) placed copied = copies_to units from name change.0 change.1 changes copies placed copied
    by (texts.Rows from name) [] placed copied = absurd (none-some copies (sym copied))
    by texts.None changes placed copied = absurd (none-some copies (sym copied))
    by texts.Given changes placed copied = absurd (none-some copies (sym copied))

is_there : (b : ℕ) (tracks : List ℕ) → list_any (λ track. track == b) tracks ≡ true → Contains tracks b
is_there b [] some = absurd (false≢true some)
is_there b (track ∷ tracks) some = by (is_there b tracks) (eqb_tells track b)
  where
    by : (list_any (λ t. t == b) tracks ≡ true → Contains tracks b) → ((track == b) ≡ true) × (track ≡ b) ⊎ ((track == b) ≡ false) × ¬ (track ≡ b) → Contains (track ∷ tracks) b
    by later (inl e) = subst (Contains (track ∷ tracks)) e.1 (at_first track tracks)
    by later (inr e) = in_later track b tracks (later (sym (ap (λ (x : Bool). x || list_any (λ t. t == b) tracks) e.0) ∙ some))

module _ {shape : Shape} (units : List UnitState) (vtocs : List (List ℕ)) (have : HaveStates shape units) (keep : KeepVtocs shape units vtocs) (copies : Copies) (to : AreCopiesTo units copies) where
  abbrev one_unit : Bool
  one_unit = copies.from == copies.unit

  abbrev source_tracks : List ℕ
  source_tracks = tracks_in to.source to.origin

  abbrev target_tracks : List ℕ
  target_tracks = tracks_in to.volume to.row

  source_from : IsFromSlots false (shape.head copies.from) (shape.blocks copies.from) to.source (kept_of units vtocs have keep copies.from to.source to.source_loaded).0
  source_from = (kept_of units vtocs have keep copies.from to.source to.source_loaded).2

  target_from : IsFromSlots false (shape.head copies.unit) (shape.blocks copies.unit) to.volume (kept_of units vtocs have keep copies.unit to.volume to.loaded).0
  target_from = (kept_of units vtocs have keep copies.unit to.volume to.loaded).2

  -- a track that is written was free
  target_free : (track : ℕ) → Contains (targets_of copies) track → IsFree to.volume.free track
  target_free track there =
      let found = each_target one_unit source_tracks target_tracks track (subst (λ (l : List ℕ). Contains l track) to.targets_are there) in
      by found.0 found.1 (to.placed.tracks found.0 track found.1.at)
    where
      by : (k : ℕ) → IsMoved one_unit source_tracks target_tracks k track → IsFree to.volume.free track ⊎ ((copies.from ≡ copies.unit) × (slice_get source_tracks k ≡ Some track))
          → IsFree to.volume.free track
      by k moved (inl free) = free
      by k moved (inr own) = absurd (moved.moves (eq-eqb copies.from copies.unit own.0, own.1))

  source_held : (move : TextMove) → Contains copies.moves.items move → Contains source_tracks move.from
  source_held move there = source_there one_unit source_tracks target_tracks move (subst (λ (l : List TextMove). Contains l move) to.moves_are there)

  source_unwritten : (move : TextMove) → Contains copies.moves.items move → ¬ IsTarget copies copies.from move.from
  source_unwritten move there target =
      let same : to.volume ≡ to.source = same_volume units copies.from to.volume to.source (subst (λ (u : ℕ). IsLoadedAt units u to.volume) (sym target.0) to.loaded) to.source_loaded in
      not_free source_from to.origin to.origin_there move.from (source_held move there)
      (subst (λ (v : Volume). IsFree v.free move.from) same (target_free move.from target.1))

  unit_there : (unit : ℕ) (volume : Volume) → IsLoadedAt units unit volume → unit < journal_of shape
  unit_there unit volume loaded = omega (arith, slice_get_within units unit (Online volume) loaded, have)

  size_of : AreSized shape → (unit : ℕ) (volume : Volume) (slots : List ℕ) → IsLoadedAt units unit volume → IsFromSlots false (shape.head unit) (shape.blocks unit) volume slots
      → shape.block_size unit ≡ slot_of volume.device
  size_of sized unit volume slots loaded from =
      sized unit (unit_there unit volume loaded) ∙ said_slot (shape.head unit) from.image.device from.image_is.stands.slot ∙ ap slot_of (sym from.loaded.volume.device_is)

  pub may_make : AreSized shape → MayCopy shape copies
  may_make sized = record {
    from_unit = unit_there copies.from to.source to.source_loaded;
    to_unit = unit_there copies.unit to.volume to.loaded;
    source_few = few_blocks source_from;
    target_few = few_blocks target_from;
    source_size = size_of sized copies.from to.source _ to.source_loaded source_from ∙ ap slot_of (sym (to.device_is ∙ to.placed.like));
    target_size = size_of sized copies.unit to.volume _ to.loaded target_from ∙ ap slot_of (sym to.device_is);
    sources = all_from (λ (move : TextMove). move.from < shape.blocks copies.from) copies.moves.items
        (λ move there. row_below source_from to.origin to.origin_there move.from (source_held move there));
    targets = all_from (λ (track : ℕ). track < shape.blocks copies.unit) (targets_of copies) (λ track there. free_below target_from track (target_free track there));
    apart =
        pairs_of (targets_of copies)
        (subst (λ (l : List ℕ). AreDistinct l) (sym to.targets_are)
        (targets_distinct one_unit source_tracks target_tracks (put_distinct to.volume to.placed.gone to.row to.placed.may)));
    unwritten = all_from (λ (move : TextMove). ¬ IsTarget copies copies.from move.from) copies.moves.items source_unwritten;
  }

  pub written_free : (u b : ℕ) → may_write copies u b ≡ true → IsFreeAt units u b
  written_free u b written = by (eqb_tells u copies.unit)
    where
      free : (u ≡ copies.unit) → IsFreeAt units u b
      free same =
          let there : Contains (targets_of copies) b = is_there b (targets_of copies) (sym (ap (λ (x : Bool). x && list_any (λ track. track == b) (targets_of copies)) (eq-eqb u copies.unit same)) ∙ written) in
          (to.volume, subst (λ (n : ℕ). IsLoadedAt units n to.volume) (sym same) to.loaded, target_free b there)

      by : ((u == copies.unit) ≡ true) × (u ≡ copies.unit) ⊎ ((u == copies.unit) ≡ false) × ¬ (u ≡ copies.unit) → IsFreeAt units u b
      by (inl e) = free e.1
      by (inr e) = absurd (false≢true (sym (ap (λ (x : Bool). x && list_any (λ track. track == b) (targets_of copies)) e.0) ∙ written))

  -- the texts of the row stand on the new tracks
  row_holds : (old new : Image) → HaveTexts old copies → AreCopied old new copies
      → HoldTexts (heads_of copies.device) (old copies.from) (tracks_in to.source to.origin) (new copies.unit) (tracks_in to.volume to.row)
  row_holds old new found leave list are =
      copies_hold_texts copies source_tracks target_tracks old new (length target_tracks - length source_tracks) to.moves_are to.empty_are found leave (omega (arith, to.placed.long)) stays list are
    where
      stays : (k track : ℕ) → copies.from ≡ copies.unit → slice_get source_tracks k ≡ Some track → slice_get target_tracks k ≡ Some track → ¬ Contains (targets_of copies) track
      stays k track one here there written =
          let same : to.volume ≡ to.source = same_volume units copies.from to.volume to.source (subst (λ (u : ℕ). IsLoadedAt units u to.volume) (sym one) to.loaded) to.source_loaded in
          not_free source_from to.origin to.origin_there track (get_contains source_tracks k track here) (subst (λ (v : Volume). IsFree v.free track) same (target_free track written))

-- ---- of a plan

one_put : (change : Change) (a b : Row) → IsPutBy change a → IsPutBy change b → a ≡ b
one_put (Put row) a b here there = here ∙ sym there
one_put (Swap name row) a b here there = here ∙ sym there
one_put Repair a b here there = absurd here
one_put (Remove name) a b here there = absurd here
one_put Mark a b here there = absurd here

-- what copies leave is what the plan puts
pub copies_hold : {shape : Shape} (units : List UnitState) (vtocs : List (List ℕ)) (plan : Plan) (copies : Copies) (old new : Image) → HaveStates shape units → KeepVtocs shape units vtocs
    → IsPlan units plan → AreCopiesOf units plan.tracks plan.changes (Some copies) → HaveTexts old copies → AreCopied old new copies → AreHeld units plan.tracks plan.changes old new
unfolding copies_to
copies_hold units vtocs plan copies old new have keep is are found leave = by plan.tracks plan.changes (plan_placed units vtocs have keep plan.step plan.tracks plan.changes is) are
  where
    holds : (from : ℕ) (name : Dsn) (unit : ℕ) (change : Change) (rest : List (ℕ × Change)) → ArePlaced units (texts.Rows from name) ((unit, change) ∷ rest)
        → AreRowCopies units from name unit change copies → AreHeld units (texts.Rows from name) ((unit, change) ∷ rest) old new
    holds from name unit change rest placed (source, volume, origin, row, at, has, there, put, copied) source' volume' origin' row' at' has' there' put' =
        let to = copies_to units from name unit change rest copies placed (source, volume, origin, row, at, has, there, put, copied) in
        let S = tracks_in source origin in
        let T = tracks_in volume row in
        let device : copies.device ≡ source.device = copied.device_is ∙ (placed source volume origin row at has there put).like in
        let here : HoldTexts (heads_of source.device) (old from) S (new unit) T =
        subst (λ (d : Device). HoldTexts (heads_of d) (old from) S (new unit) T) device
        (subst (λ (u : ℕ). HoldTexts (heads_of copies.device) (old u) S (new unit) T) copied.from_is
        (subst (λ (u : ℕ). HoldTexts (heads_of copies.device) (old copies.from) S (new u) T) copied.unit_is (row_holds units vtocs have keep copies to old new found leave))) in
        let source_is : source' ≡ source = same_volume units from source' source at' at in
        let volume_is : volume' ≡ volume = same_volume units unit volume' volume there' there in
        let kept = (kept_of units vtocs have keep from source at).2 in
        let origin_is : origin' ≡ origin = one_named kept name origin' origin (subst (λ (v : Volume). HasRow v name origin') source_is has') has in
        let row_is : row' ≡ row = one_put change row' row put' put in
        subst (λ (v : Volume). HoldTexts (heads_of v.device) (old from) (tracks_in v origin') (new unit) (tracks_in volume' row')) (sym source_is)
        (subst (λ (o : Row). HoldTexts (heads_of source.device) (old from) (tracks_in source o) (new unit) (tracks_in volume' row')) (sym origin_is)
        (subst (λ (v : Volume). HoldTexts (heads_of source.device) (old from) S (new unit) (tracks_in v row')) (sym volume_is)
        (subst (λ (r : Row). HoldTexts (heads_of source.device) (old from) S (new unit) (tracks_in volume r)) (sym row_is) here)))

    by : (tracks : Tracks) (changes : List (ℕ × Change)) → ArePlaced units tracks changes → AreCopiesOf units tracks changes (Some copies) → AreHeld units tracks changes old new
    by (texts.Rows from name) (change ∷ changes) placed copied = holds from name change.0 change.1 changes placed copied
    by (texts.Rows from name) [] placed copied = absurd (none-some copies (sym copied))
    by texts.None changes placed copied = absurd (none-some copies (sym copied))
    by texts.Given changes placed copied = absurd (none-some copies (sym copied))

module _ {shape : Shape} (units : List UnitState) (vtocs : List (List ℕ)) (plan : Plan) (have : HaveStates shape units) (keep : KeepVtocs shape units vtocs) (is : IsPlan units plan) where
  pub may_copy : (copies : Option Copies) → AreSized shape → AreCopiesOf units plan.tracks plan.changes copies → OnCopies (MayCopy shape) copies
  may_copy None sized are = tt
  may_copy (Some copies) sized are = may_make units vtocs have keep copies (plan_copies units vtocs plan copies have keep is are) sized

  -- only free tracks are written
  pub targets_free : (copies : Option Copies) → AreCopiesOf units plan.tracks plan.changes copies → (u b : ℕ) → may_write_for copies u b ≡ true → IsFreeAt units u b
  targets_free None are u b written = absurd (false≢true written)
  targets_free (Some copies) are u b written = written_free units vtocs have keep copies (plan_copies units vtocs plan copies have keep is are) u b written
