-- What a release keeps of a data set of one extent of tracks.
use Rattle.std.proofs.Common.{◌≡◌, ℕ, ◌+◌, ◌*◌, List, [], ◌∷◌, ap, ◌∙◌, arith}
use Rattle.std.specs.Prelude.{min, ◌==◌, nat_le, if◌then◌else◌}
use Rattle.std.proofs.lemmas.Bool.{cond_both, cond-false, leb-true, leb-false, ne_eqb}
use Rattle.volume_model.specs.Pinned.{IsOfTracks, used_tracks, whole_tracks, kept_tracks}
use Rattle.volume_model.specs.Unit.{Extent, DataSet}
use Rattle.ckd_image.specs.Device.{ceil_div}

one_whole : (heads count : ℕ) (extent : Extent) → IsOfTracks extent → whole_tracks heads count (extent ∷ []) ≡ min extent.run.len count
one_whole heads count extent tracks =
    let rounded : ℕ = min extent.run.len (ceil_div count heads * heads) in
    let part : ℕ = if extent.kind == 0x81 then rounded else count in
    cond_both (nat_le extent.run.len count) (extent.run.len + 0) part (λ kept. kept ≡ min extent.run.len count)
    (λ all. omega (arith, leb-true extent.run.len count all))
    (λ some.
    cond-false (extent.kind == 0x81) rounded count (ne_eqb extent.kind 0x81 (λ other. omega (arith, tracks, other)))
    ∙ omega (arith, leb-false extent.run.len count some))

pub kept_of_tracks : (heads : ℕ) (set : DataSet) (extent : Extent) → set.extents ≡ extent ∷ [] → IsOfTracks extent
    → kept_tracks heads set ≡ min extent.run.len (used_tracks set.fields)
kept_of_tracks heads set extent one tracks =
    ap (λ (extents : List Extent). whole_tracks heads (used_tracks set.fields) extents) one ∙ one_whole heads (used_tracks set.fields) extent tracks
