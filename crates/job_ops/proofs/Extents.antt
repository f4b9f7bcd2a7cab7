-- The messages of extents, one after another.
use Rattle.std.proofs.Common.{◌≡◌, ℕ, suc, ◌+◌, ◌<◌, List, [], ◌∷◌, ◌++◌, length, take, ap, ◌∙◌, arith}
use Rattle.std.specs.Prelude.{slice_index_or}
use Rattle.std.proofs.lemmas.List.{take_more, map-append, length-map, length-take, append_assoc}
use Rattle.ckd_image.specs.declared.device.Device.{Device}
use Rattle.ckd_image.specs.Device.{heads_of}
use Rattle.dscb_rec.specs.declared.field.Extent.{Extent as Field}
use Rattle.volume_model.specs.Reads.{extent_in}
use Rattle.volume_model.specs.Unit.{Extent}
use Rattle.vtoc_core.specs.Loaded.{field_of}
use Rattle.dump_sets.specs.job_turns.job_copies.step_plans.Plans.{extents_from}
use Rattle.job_lines.specs.declared.message.Message.{Message}
use Rattle.job_lines.specs.declared.message.Message.TheVariants as messages
use Rattle.job_ops.specs.Listing.{extent_messages}

extents_more : (number : ℕ) (extents : List Extent) (extent : Extent)
    → extent_messages number (extents ++ (extent ∷ [])) ≡ extent_messages number extents ++ extent_messages (number + length extents) (extent ∷ [])
extents_more number [] extent = ap (λ (n : ℕ). extent_messages n (extent ∷ [])) (omega arith)
extents_more number (first ∷ extents) extent =
    let here = messages.Extent (record { number = number; kind = first.kind; first = first.run.first; tracks = first.run.len }) in
    let next : (number + 1) + length extents ≡ number + suc (length extents) = omega arith in
    ap (λ (l : List Message). here ∷ l) (extents_more (number + 1) extents extent ∙ ap (λ (n : ℕ). extent_messages (number + 1) extents ++ extent_messages n (extent ∷ [])) next)

view : Device → Field → Extent
view device field = extent_in (heads_of device) (field_of field)

pub extents_next : (device : Device) (fields : List Field) (place : ℕ) (d : Field) → place < length fields
    → extent_messages 1 (extents_from device (take (place + 1) fields))
    ≡ extent_messages 1 (extents_from device (take place fields)) ++ extent_messages (place + 1) (extents_from device (slice_index_or fields place d ∷ []))
unfolding view
extents_next device fields place d less =
    let field = slice_index_or fields place d in
    let front = extents_from device (take place fields) in
    let long : 1 + length front ≡ place + 1 = omega (arith, less, length-map (take place fields) (view device), length-take place fields) in
    ap (λ (l : List Field). extent_messages 1 (extents_from device l)) (take_more fields place d less)
    ∙ ap (λ (l : List Extent). extent_messages 1 l) (map-append (view device) (take place fields) (field ∷ []))
    ∙ extents_more 1 front (view device field)
    ∙ ap (λ (n : ℕ). extent_messages 1 front ++ extent_messages n (view device field ∷ [])) long

-- one more is added
pub pushed_next : (before said last old new : List Message) → new ≡ old ++ last → old ≡ before ++ said → new ≡ before ++ (said ++ last)
pushed_next before said last old new is was = is ∙ ap (λ (l : List Message). l ++ last) was ∙ append_assoc before said last
