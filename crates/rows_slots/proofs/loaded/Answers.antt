use Rattle.std.proofs.Common.{◌≡◌, ℕ, ◌-◌, ◌*◌, length, take, drop, Bool, true, false, ◌==◌, refl, sym, ap, subst, ◌∙◌, arith}
use Rattle.std.specs.Prelude.{◌&&◌, not}
use Rattle.std.proofs.lemmas.Bool.{and_parts, eqb-true}
use Rattle.ckd_image.specs.Device.{heads_of, slot_of}
use Rattle.free_map.specs.declared.run.Run.{Run}
use Rattle.volume_model.specs.Space.{track_at}
use Rattle.volume_model.specs.Sound.{Slots}
use Rattle.vtoc_check.specs.Slots.{slot_in, AreSlotsOf}
use Rattle.rows_slots.proofs.loaded.Goals as goal

pub load_vtoc-requires-clause-run : goal.load_vtoc-requires-clause-run
load_vtoc-requires-clause-run c =
    let slots = c.args.slots.now in
    let run = c.in_ok-run.run' in
    let at = c.args.label.now.vtoc.at in
    let device = c.args.head.device in
    let size : c.slot-size.result ≡ slot_of device = c.slot-size.ensures in
    let track : run.first ≡ c.track_number.result = omega (arith, c.if-from-track_number.false, c.from.ensures) in
    let here : run.first ≡ track_at (heads_of device) at = track ∙ c.track_number.ensures ∙ ap (λ (heads : ℕ). track_at heads at) c.heads.ensures in
    let none : (run.first - run.first) * slot_of device ≡ 0 = first run.first (slot_of device) in
    let slot : slot_in run (slot_of device) slots (track_at (heads_of device) at) ≡ c.first_slot.result.now =
    ap (λ (n : ℕ). take (slot_of device) (drop ((n - run.first) * slot_of device) slots)) (sym here)
    ∙ ap (λ (n : ℕ). take (slot_of device) (drop n slots)) none
    ∙ ap (λ (n : ℕ). take n slots) (sym size)
    ∙ sym c.first_slot.ensures in
    c.in_ok-run.ensures.run (slot_in run (slot_of device) slots) slot
  where
    first : (n size : ℕ) → (n - n) * size ≡ 0
    first n size = let zero : n - n ≡ 0 = omega arith in ap (λ (m : ℕ). m * size) zero ∙ nothing size
      where
        nothing : (size : ℕ) → 0 * size ≡ 0
        nothing size = omega arith

pub returns : goal.returns
returns c =
    let slots = c.args.slots.now in
    let run = c.in_ok-run.run' in
    let device = c.args.head.device in
    let unit : Slots = slot_in run (slot_of device) slots in
    let volume = c.in_ok-volume.volume in
    let loaded = c.in_ok-volume.ensures.loaded unit (λ k less. refl) in
    let size : c.slot-size.result ≡ slot_of device = c.slot-size.ensures in
    let parts = and_parts (volume.vtoc.first == run.first) (volume.vtoc.len == run.len) (on ((volume.vtoc.first == run.first) && (volume.vtoc.len == run.len)) c.if-ne.ensures) in
    let first : volume.vtoc.first ≡ run.first = eqb-true volume.vtoc.first run.first parts.0 in
    let len : volume.vtoc.len ≡ run.len = eqb-true volume.vtoc.len run.len parts.1 in
    let same : volume.vtoc ≡ run = (λ i. record { first = first i; len = len i }) in
    let tracks : c.from-else-from-track_number.result ≡ run.len = c.from-else-from-track_number.ensures in
    let counted : length slots ≡ c.from-else-from-track_number.result * c.slot-size.result = omega (arith, c.if-slots-from.false) in
    let long : length slots ≡ run.len * slot_of device = counted ∙ (λ i. tracks i * size i) in
    let whole : length slots ≡ volume.vtoc.len * slot_of device = long ∙ ap (λ (run : Run). run.len * slot_of device) (sym same) in
    let slots_are : AreSlotsOf volume.vtoc (slot_of device) slots unit = subst (λ (vtoc : Run). AreSlotsOf vtoc (slot_of device) slots unit) (sym same) (λ k less. refl) in
    c.loading_laws.ensures.loads c.args.head c.args.label.now unit c.args.sliding slots volume (omega (arith, c.if-head-gt65535.false)) loaded slots_are whole
  where
    on : (b : Bool) → false ≡ not b → b ≡ true
    on true e = refl
    on false e = absurd (let bare : ⊥ = cc in bare)
