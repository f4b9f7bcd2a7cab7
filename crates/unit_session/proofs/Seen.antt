-- Texts that were seen before they are copied.
use Rattle.std.proofs.Common.{◌≡◌, ◌==◌, ◌∙◌, ℕ, List, [], ◌∷◌, All, Contains, Option, Some, None, sym, subst}
use Rattle.std.proofs.lemmas.List.Elements.{All-contains}
use Rattle.std.proofs.lemmas.Option.{none-some}
use Rattle.ckd_image.specs.declared.device.Device.{Device}
use Rattle.ckd_image.specs.Device.{heads_of}
use Rattle.dasd_pool.specs.Disk.{Image, Shape}
use Rattle.dsn_filter.specs.declared.dsn.Dsn.{Dsn}
use Rattle.vtoc_core.specs.declared.volume.Row.{Row}
use Rattle.vtoc_core.specs.declared.volume.Volume.{Volume}
use Rattle.vtoc_layout.proofs.Apart.{all_from}
use Rattle.volume_change.specs.declared.change.Change.{Change}
use Rattle.unit_load.specs.declared.state.UnitState.{UnitState}
use Rattle.unit_steps.specs.declared.plan.Plan.{Plan}
use Rattle.unit_steps.specs.declared.plan.Tracks.{Tracks}
use Rattle.unit_steps.specs.declared.plan.Tracks.TheVariants as texts
use Rattle.unit_steps.specs.Loaded.{HaveStates, KeepVtocs}
use Rattle.unit_steps.specs.Plans.{HasRow, IsPlan, tracks_in}
use Rattle.unit_session.specs.declared.copies.Copies.{Copies}
use Rattle.unit_session.specs.declared.copies.Source.{Source}
use Rattle.unit_session.specs.declared.copies.TextMove.{TextMove}
use Rattle.unit_session.specs.Copies.{AreCopiesOf, AreRowCopies, HaveTexts, OnCopies}
use Rattle.unit_session.specs.Texts.{AreSeen, AreTracksAt, HasTextOn, HasTexts, IsSeen}
use Rattle.unit_session.proofs.CopyPlaces.{ArePlaced, kept_of, one_named, plan_placed}
use Rattle.unit_session.proofs.CopyTargets.{source_there}
use Rattle.unit_steps.proofs.OneChange.{same_volume}

-- each track of a data set was found to have a text
pub texts_found : {shape : Shape} (units : List UnitState) (vtocs : List (List ℕ)) (unit : ℕ) (name : Dsn) (device : Device) (tracks : List ℕ) (contents : Image) → HaveStates shape units
    → KeepVtocs shape units vtocs → AreTracksAt units unit name device tracks → All (HasTextOn (heads_of device) (contents unit)) tracks
    → HasTexts units contents (record { unit = unit; name = name })
texts_found units vtocs unit name device tracks contents have keep at each volume row loaded has =
    let volume_is : volume ≡ at.volume = same_volume units unit volume at.volume loaded at.loaded in
    let kept = (kept_of units vtocs have keep unit at.volume at.loaded).2 in
    let row_is : row ≡ at.row = one_named kept name row at.row (subst (λ (v : Volume). HasRow v name row) volume_is has) at.row_is in
    subst (λ (v : Volume). All (HasTextOn (heads_of v.device) (contents unit)) (tracks_in v row)) (sym volume_is)
    (subst (λ (r : Row). All (HasTextOn (heads_of at.volume.device) (contents unit)) (tracks_in at.volume r)) (sym row_is)
    (subst (λ (d : Device). All (HasTextOn (heads_of d) (contents unit)) (tracks_in at.volume at.row)) at.device_is
    (subst (λ (l : List ℕ). All (HasTextOn (heads_of device) (contents unit)) l) at.tracks_are each)))

-- so have the tracks of which copies are made
row_texts : (units : List UnitState) (contents : Image) (from : ℕ) (name : Dsn) (unit : ℕ) (change : Change) (rest : List (ℕ × Change)) (copies : Copies)
    → ArePlaced units (texts.Rows from name) ((unit, change) ∷ rest) → AreRowCopies units from name unit change copies → HasTexts units contents (record { unit = from; name = name })
    → HaveTexts contents copies
row_texts units contents from name unit change rest copies placed (source, volume, origin, row, at, has, there, put, copied) seen =
    let tracks = tracks_in source origin in
    let device : copies.device ≡ source.device = copied.device_is ∙ (placed source volume origin row at has there put).like in
    let each : All (HasTextOn (heads_of copies.device) (contents copies.from)) tracks =
    subst (λ (d : Device). All (HasTextOn (heads_of d) (contents copies.from)) tracks) (sym device)
    (subst (λ (u : ℕ). All (HasTextOn (heads_of source.device) (contents u)) tracks) (sym copied.from_is) (seen source origin at has)) in
    all_from (λ (move : TextMove). HasTextOn (heads_of copies.device) (contents copies.from) move.from) copies.moves.items
    (λ move held.
    All-contains (HasTextOn (heads_of copies.device) (contents copies.from)) tracks move.from each
    (source_there (from == unit) tracks (tracks_in volume row) move (subst (λ (l : List TextMove). Contains l move) copied.moves_are held)))

-- those of a plan whose data set was seen
pub texts_seen : {shape : Shape} (units : List UnitState) (vtocs : List (List ℕ)) (plan : Plan) (contents : Image) → HaveStates shape units → KeepVtocs shape units vtocs → IsPlan units plan
    → (seen : Option Source) (copies : Option Copies) → AreCopiesOf units plan.tracks plan.changes copies → AreSeen units contents seen → IsSeen seen plan.tracks
    → OnCopies (HaveTexts contents) copies
texts_seen units vtocs plan contents have keep is seen None are found same = tt
texts_seen units vtocs plan contents have keep is seen (Some copies) are found (source, seen_is, tracks_are) =
    by plan.changes (subst (λ (t : Tracks). ArePlaced units t plan.changes) tracks_are (plan_placed units vtocs have keep plan.step plan.tracks plan.changes is))
    (subst (λ (t : Tracks). AreCopiesOf units t plan.changes (Some copies)) tracks_are are) (subst (AreSeen units contents) seen_is found)
  where
    by : (changes : List (ℕ × Change)) → ArePlaced units (texts.Rows source.unit source.name) changes → AreCopiesOf units (texts.Rows source.unit source.name) changes (Some copies)
        → HasTexts units contents source → HaveTexts contents copies
    by (change ∷ changes) placed copied each = row_texts units contents source.unit source.name change.0 change.1 changes copies placed copied each
    by [] placed copied each = absurd (none-some copies (sym copied))
