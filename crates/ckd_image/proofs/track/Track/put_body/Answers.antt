use Rattle.std.proofs.Common.{◌≤◌, ◌<◌, ◌+◌, [], length, map, slice_index_or, slice_set, subst}
use Rattle.ckd_image.specs.Body.{IsBodyPut}
use Rattle.ckd_image.specs.declared.track.Rec.{Rec}
use Rattle.ckd_image.specs.declared.track.Track.{Track}
use Rattle.ckd_image.proofs.Bodies.{body_put}
use Rattle.ckd_image.proofs.track.Track.put_body.Goals as goal

pub returns : goal.returns
returns c =
    let rec = c.index_mut.result.now in
    let changed : Rec = record { r = rec.r; key = rec.key; body = c.put_over.new.self } in
    let recs = c.self.inside.0.1.1.0.items.items in
    let new : Track = record { flag = c.self.inside.0.0; r0 = c.self.inside.0.1.0; recs = slice_set recs c.args.place changed } in
    subst
    (λ (old : Track). c.args.place < length old.recs → c.args.start + length c.args.piece.now ≤ length (slice_index_or (map (λ r. r.body) old.recs) c.args.place []) → IsBodyPut c.args.place c.args.start c.args.piece.now old new)
    c.self.view_is
    (body_put (record { flag = c.self.inside.0.0; r0 = c.self.inside.0.1.0; recs = recs }) c.args.place c.args.start c.args.piece.now rec c.put_over.new.self c.index_mut.ensures.value c.put_over.ensures)
    c.requires.place
    c.requires.room
