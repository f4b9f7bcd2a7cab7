use Rattle.std.proofs.Common.{◌≡◌, ℕ, List, length, sym, ap, ◌∙◌}
use Rattle.std.proofs.lemmas.List.{length-map}
use Rattle.ckd_image.specs.Device.{heads_of}
use Rattle.dscb_rec.specs.declared.field.Extent.{Extent as Field}
use Rattle.volume_model.specs.Pinned.{last_track_in, last_record_in}
use Rattle.volume_model.specs.Unit.{Extent, tracks_of}
use Rattle.job_ops.proofs.listing.set_summary.Goals as goal

pub returns : goal.returns
returns c set d =
    let row = c.args.row.now in
    let named : row.name ≡ set.name = sym d.name_is in
    let organized = c.organization_of.ensures (heads_of c.args.volume.now.device) set d in
    let count : length c.as_slice.result.now ≡ length set.extents =
    ap (λ (l : List Field). length l) c.as_slice.ensures ∙ sym (length-map row.extents _) ∙ ap (λ (l : List Extent). length l) (sym d.extents_are) in
    let tracks : c.track_count.result ≡ length (tracks_of set.extents) = c.track_count.ensures.count ∙ ap (λ (l : List Extent). length (tracks_of l)) (sym d.extents_are) in
    let last : c.last_track.result ≡ last_track_in set.fields = c.last_track.ensures ∙ ap (λ (l : List ℕ). last_track_in l) (sym d.fields_are) in
    let place : c.last_record.result ≡ last_record_in set.fields = c.last_record.ensures ∙ ap (λ (l : List ℕ). last_record_in l) (sym d.fields_are) in
    λ i. record { name = named i; organization = organized i; extents = count i; tracks = tracks i; last_track = last i; last_record = place i }
