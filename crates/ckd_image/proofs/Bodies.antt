-- A record whose body has other bytes.
use Rattle.std.proofs.Common.{◌≡◌, ℕ, ◌<◌, ◌≤◌, ◌+◌, List, [], length, map, slice_index_or, slice_set, subst, refl, sym, ap, ◌∙◌}
use Rattle.std.proofs.lemmas.List.{get_or-map}
use Rattle.std.proofs.lemmas.Option.{slice_get_read}
use Rattle.ckd_image.specs.declared.track.Rec.{Rec}
use Rattle.ckd_image.specs.declared.track.Track.{Track}
use Rattle.ckd_image.specs.Body.{over, IsBodyPut}

body_at : (recs : List Rec) (place : ℕ) (rec : Rec) → place < length recs → rec ≡ slice_index_or recs place rec → slice_index_or (map (λ r. r.body) recs) place [] ≡ rec.body
body_at recs place rec within found = get_or-map (λ (r : Rec). r.body) recs place rec [] within ∙ sym (ap (λ (r : Rec). r.body) found)

pub body_put : (old : Track) (place start : ℕ) (piece : List ℕ) (rec : Rec) (body : List ℕ) → rec ≡ slice_index_or old.recs place rec → body ≡ over start piece rec.body
    → place < length old.recs → start + length piece ≤ length (slice_index_or (map (λ r. r.body) old.recs) place [])
    → IsBodyPut place start piece old (record { flag = old.flag; r0 = old.r0; recs = slice_set old.recs place (record { r = rec.r; key = rec.key; body = body }) })
body_put old place start piece rec body found e within room = record {
  rec = rec;
  there = slice_get_read old.recs (length old.recs) place rec refl within found;
  within = subst (λ (bytes : List ℕ). start + length piece ≤ length bytes) (body_at old.recs place rec within found) room;
  recs = ap (λ (bytes : List ℕ). slice_set old.recs place (record { r = rec.r; key = rec.key; body = bytes })) e;
  flag = refl;
  r0 = refl;
}
