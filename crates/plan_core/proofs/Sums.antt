-- How many tracks the first of some extents have.
use Rattle.std.proofs.Common.{◌≡◌, ℕ, ◌+◌, ◌<◌, ◌≤◌, List, [], ◌∷◌, ◌++◌, length, take, drop, get_or, sym, ap, ◌∙◌, arith}
use Rattle.std.proofs.lemmas.List.{length-append, length-map, map-append, take_more, take-append-drop}
use Rattle.std.proofs.lemmas.Grind.{flat_map-append}
use Rattle.dscb_rec.specs.declared.field.Extent.{Extent as Field}
use Rattle.volume_model.specs.Dscbs.{numbers_below}
use Rattle.volume_model.specs.Reads.{extent_in}
use Rattle.volume_model.specs.Space.{run_of}
use Rattle.volume_model.specs.Unit.{Extent, tracks_in, tracks_of}
use Rattle.vtoc_core.specs.Loaded.{field_of}
use Rattle.plan_core.specs.Extents.{extents_at}
use Rattle.volume_model.proofs.Numbers.{numbers_long}

abbrev pub at : ℕ → Field → Extent
at heads extent = extent_in heads (field_of extent)

-- those of one extent more
tracks_more : (heads : ℕ) (extents : List Field) (k : ℕ) (d : Field) → k < length extents
    → length (tracks_of (extents_at heads (take (k + 1) extents))) ≡ length (tracks_of (extents_at heads (take k extents))) + (run_of heads (field_of (get_or extents k d))).len
tracks_more heads extents k d less =
    let here = at heads (get_or extents k d) in
    let before = extents_at heads (take k extents) in
    let joined : extents_at heads (take (k + 1) extents) ≡ before ++ here ∷ [] =
    ap (extents_at heads) (take_more extents k d less) ∙ map-append (at heads) (take k extents) (get_or extents k d ∷ []) in
    let long : length (tracks_in here.run) ≡ here.run.len = length-map (numbers_below here.run.len) (λ place. here.run.first + place) ∙ numbers_long here.run.len in
    omega (
      arith,
      ap (λ (list : List Extent). length (tracks_of list)) joined,
      ap length (flat_map-append (λ (extent : Extent). tracks_in extent.run) before (here ∷ [])),
      length-append (tracks_of before) (tracks_in here.run ++ []),
      length-append (tracks_in here.run) [],
      long,
    )

-- the sum with one more
pub summed : (heads : ℕ) (extents : List Field) (k count long : ℕ) (d : Field) → k < length extents → long ≡ (run_of heads (field_of (get_or extents k d))).len
    → count ≡ length (tracks_of (extents_at heads (take k extents))) → count + long ≡ length (tracks_of (extents_at heads (take (k + 1) extents)))
summed heads extents k count long d less is so_far = omega (arith, is, so_far, tracks_more heads extents k d less)

-- the first extents have no more tracks than all
front_few : (heads : ℕ) (extents : List Field) (k : ℕ) → length (tracks_of (extents_at heads (take k extents))) ≤ length (tracks_of (extents_at heads extents))
front_few heads extents k =
    let front = extents_at heads (take k extents) in
    let back = extents_at heads (drop k extents) in
    let joined : extents_at heads extents ≡ front ++ back = ap (extents_at heads) (sym (take-append-drop k extents)) ∙ map-append (at heads) (take k extents) (drop k extents) in
    omega (
      arith,
      ap (λ (l : List Extent). length (tracks_of l)) joined,
      ap length (flat_map-append (λ (e : Extent). tracks_in e.run) front back),
      length-append (tracks_of front) (tracks_of back),
    )

pub next_few : (heads : ℕ) (extents : List Field) (k count long most : ℕ) (d : Field) → length (tracks_of (extents_at heads extents)) < most → k < length extents
    → long ≡ (run_of heads (field_of (get_or extents k d))).len → count ≡ length (tracks_of (extents_at heads (take k extents))) → count + long < most
next_few heads extents k count long most d few less is so_far = omega (arith, few, summed heads extents k count long d less is so_far, front_few heads extents (k + 1))
