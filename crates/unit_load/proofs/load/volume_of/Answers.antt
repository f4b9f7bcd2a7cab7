use Rattle.std.proofs.Common.{◌≡◌, ℕ, ◌*◌, List, length, sym, ap, ◌∙◌, refl, subst}
use Rattle.std.proofs.lemmas.Result.{err_from_is_err_and}
use Rattle.ckd_image.specs.Device.{heads_of, slot_of}
use Rattle.dasd_pool.specs.Disk.{Shape, State}
use Rattle.volume_model.specs.Sound.{Slots}
use Rattle.volume_model.specs.Space.{track_at}
use Rattle.vtoc_check.specs.Front.{IsVtocRun}
use Rattle.vtoc_check.specs.Slots.{AreSlotsOf}
use Rattle.vtoc_load.specs.LoadedVtoc.{IsLoadedVtoc}
use Rattle.unit_load.specs.Hand.{with_hand}
use Rattle.unit_load.proofs.Keeping.{read_slots, run_stands, slots_of_vtoc, from_slots}
use Rattle.unit_load.proofs.Reading.{reads_then}
use Rattle.unit_load.proofs.Runs.{said_slot, run_blocks}
use Rattle.unit_load.proofs.load.volume_of.Goals as goal

pub returns-in_err-run-clause-stop : goal.returns-in_err-run-clause-stop
returns-in_err-run-clause-stop g c = λ told.
    let contents : Slots = with_hand c.args.hand ((g.P.Pool.disk c.args.journal.now.pool).state.contents c.args.unit) in
    let at = c.args.label.now.vtoc.at in
    let track : track_at (heads_of c.args.head.device) at ≡ c.track_of-track.result = sym c.track_of-track.ensures.value in
    let here : contents (track_at (heads_of c.args.head.device) at) ≡ c.deref.result.now = ap contents track ∙ (sym (c.in_ok-slot.ensures.slot told) ∙ sym c.deref.ensures.value) in
    let p = err_from_is_err_and c.from_residual-in_err-run.result c.from_residual-in_err-run.ensures.1 in
    rw (p.1, p.2) (c.in_err-run.ensures.stop c.args.sliding contents here)

pub read_run-requires-clause-within : goal.read_run-requires-clause-within
read_run-requires-clause-within g c =
    let unit = c.args.unit in
    let is : IsVtocRun c.args.head (λ _. c.deref.result.now) c.args.label.now.vtoc c.in_ok-run.run' = c.in_ok-run.ensures.run (λ _. c.deref.result.now) refl in
    let blocks : c.args.head.tracks ≡ (g.P.Pool.shape c.slot_at.new.journal.pool).blocks unit = c.requires.head.tracks_are ∙ ap (λ (s : Shape). s.blocks unit) (sym c.slot_at.ensures.reads.shape) in
    run_blocks c.args.head (λ _. c.deref.result.now) c.args.label.now.vtoc c.in_ok-run.run' _ blocks is

pub returns-in_err-slots-clause-reads : goal.returns-in_err-slots-clause-reads
returns-in_err-slots-clause-reads g c = reads_then g.P.Pool _ _ _ c.slot_at.ensures.reads c.read_run.ensures.reads

pub returns-in_err-volume-clause-reads : goal.returns-in_err-volume-clause-reads
returns-in_err-volume-clause-reads g c = reads_then g.P.Pool _ _ _ c.slot_at.ensures.reads c.read_run.ensures.reads

pub volume_in-requires-clause-whole : goal.volume_in-requires-clause-whole
volume_in-requires-clause-whole g c =
    let unit = c.args.unit in
    let size : (g.P.Pool.shape c.args.journal.now.pool).block_size unit ≡ slot_of c.args.head.device =
    sym c.in_ok-slot.ensures.long ∙ (c.in_ok-slot.ensures.said ∙ said_slot ((g.P.Pool.shape c.args.journal.now.pool).head c.args.unit) c.args.head.device c.requires.head.stands.slot) in
    let later : (g.P.Pool.shape c.slot_at.new.journal.pool).block_size unit ≡ slot_of c.args.head.device = ap (λ (s : Shape). s.block_size unit) c.slot_at.ensures.reads.shape ∙ size in
    ap length c.deref-3.ensures.value ∙ (c.in_ok-slots.ensures.long ∙ ap (λ (n : ℕ). c.in_ok-run.run'.len * n) later)

pub volume_in-requires-clause-run : goal.volume_in-requires-clause-run
volume_in-requires-clause-run g c =
    let unit = c.args.unit in
    let run = c.in_ok-run.run' in
    let size : (g.P.Pool.shape c.args.journal.now.pool).block_size unit ≡ slot_of c.args.head.device =
    sym c.in_ok-slot.ensures.long ∙ (c.in_ok-slot.ensures.said ∙ said_slot ((g.P.Pool.shape c.args.journal.now.pool).head c.args.unit) c.args.head.device c.requires.head.stands.slot) in
    let later : (g.P.Pool.shape c.slot_at.new.journal.pool).block_size unit ≡ slot_of c.args.head.device = ap (λ (s : Shape). s.block_size unit) c.slot_at.ensures.reads.shape ∙ size in
    let track : track_at (heads_of c.args.head.device) c.args.label.now.vtoc.at ≡ c.track_of-track.result = sym c.track_of-track.ensures.value in
    run_stands c.args.head c.args.label.now.vtoc run _ c.track_of-track.result c.in_ok-slots.slots.items c.deref-3.result.now c.deref.result.now c.deref-2.result.now
    c.in_ok-run.ensures.run track later c.deref-3.ensures.value (c.deref-2.ensures.value ∙ sym c.deref.ensures.value) c.in_ok-slots.ensures.as_taken

pub returns-clause-reads : goal.returns-clause-reads
returns-clause-reads g c = reads_then g.P.Pool _ _ _ c.slot_at.ensures.reads c.read_run.ensures.reads

pub returns-in_err-volume-clause-stop : goal.returns-in_err-volume-clause-stop
returns-in_err-volume-clause-stop g c = λ told.
    let unit = c.args.unit in
    let run = c.in_ok-run.run' in
    let contents : Slots = with_hand c.args.hand ((g.P.Pool.disk c.args.journal.now.pool).state.contents unit) in
    let now : Slots = with_hand c.args.hand ((g.P.Pool.disk c.slot_at.new.journal.pool).state.contents unit) in
    let same : now ≡ contents = ap (λ (s : State). with_hand c.args.hand (s.contents unit)) (c.slot_at.ensures.reads.same told) in
    let taken : c.deref-2.result.now ≡ now c.track_of-track.result =
    c.deref-2.ensures.value ∙ (c.in_ok-slot.ensures.slot told ∙ ap (λ (slots : Slots). slots c.track_of-track.result) (sym same)) in
    let size : (g.P.Pool.shape c.args.journal.now.pool).block_size unit ≡ slot_of c.args.head.device =
    sym c.in_ok-slot.ensures.long ∙ (c.in_ok-slot.ensures.said ∙ said_slot ((g.P.Pool.shape c.args.journal.now.pool).head c.args.unit) c.args.head.device c.requires.head.stands.slot) in
    let later : (g.P.Pool.shape c.slot_at.new.journal.pool).block_size unit ≡ slot_of c.args.head.device = ap (λ (s : Shape). s.block_size unit) c.slot_at.ensures.reads.shape ∙ size in
    let are : AreSlotsOf run (slot_of c.args.head.device) c.deref-3.result.now contents =
    read_slots run _ (slot_of c.args.head.device) c.in_ok-slots.slots.items c.deref-3.result.now now contents later c.deref-3.ensures.value same (c.in_ok-slots.ensures.slots told taken) in
    let p = err_from_is_err_and c.from_residual-in_err-volume.result c.from_residual-in_err-volume.ensures.1 in
    rw (p.1, p.2) (c.in_err-volume.ensures.stop contents are)

pub returns-clause-volume : goal.returns-clause-volume
returns-clause-volume g c = λ told.
    let unit = c.args.unit in
    let contents : Slots = with_hand c.args.hand ((g.P.Pool.disk c.args.journal.now.pool).state.contents unit) in
    let now : Slots = with_hand c.args.hand ((g.P.Pool.disk c.slot_at.new.journal.pool).state.contents unit) in
    let same : now ≡ contents = ap (λ (s : State). with_hand c.args.hand (s.contents unit)) (c.slot_at.ensures.reads.same told) in
    let taken : c.deref-2.result.now ≡ now c.track_of-track.result =
    c.deref-2.ensures.value ∙ (c.in_ok-slot.ensures.slot told ∙ ap (λ (slots : Slots). slots c.track_of-track.result) (sym same)) in
    let size : (g.P.Pool.shape c.args.journal.now.pool).block_size unit ≡ slot_of c.args.head.device =
    sym c.in_ok-slot.ensures.long ∙ (c.in_ok-slot.ensures.said ∙ said_slot ((g.P.Pool.shape c.args.journal.now.pool).head c.args.unit) c.args.head.device c.requires.head.stands.slot) in
    let later : (g.P.Pool.shape c.slot_at.new.journal.pool).block_size unit ≡ slot_of c.args.head.device = ap (λ (s : Shape). s.block_size unit) c.slot_at.ensures.reads.shape ∙ size in
    c.in_ok-volume.ensures.loaded contents
    (read_slots c.in_ok-run.run' _ (slot_of c.args.head.device) c.in_ok-slots.slots.items c.deref-3.result.now now contents later c.deref-3.ensures.value same (c.in_ok-slots.ensures.slots told taken))

pub returns-clause-slots : goal.returns-clause-slots
returns-clause-slots g c = λ told.
    let unit = c.args.unit in
    let run = c.in_ok-run.run' in
    let size : (g.P.Pool.shape c.args.journal.now.pool).block_size unit ≡ slot_of c.args.head.device =
    sym c.in_ok-slot.ensures.long ∙ (c.in_ok-slot.ensures.said ∙ said_slot ((g.P.Pool.shape c.args.journal.now.pool).head c.args.unit) c.args.head.device c.requires.head.stands.slot) in
    let later : (g.P.Pool.shape c.slot_at.new.journal.pool).block_size unit ≡ slot_of c.args.head.device = ap (λ (s : Shape). s.block_size unit) c.slot_at.ensures.reads.shape ∙ size in
    let track : track_at (heads_of c.args.head.device) c.args.label.now.vtoc.at ≡ c.track_of-track.result = sym c.track_of-track.ensures.value in
    let contents : Slots = with_hand c.args.hand ((g.P.Pool.disk c.args.journal.now.pool).state.contents unit) in
    let now : Slots = with_hand c.args.hand ((g.P.Pool.disk c.slot_at.new.journal.pool).state.contents unit) in
    let same : now ≡ contents = ap (λ (s : State). with_hand c.args.hand (s.contents unit)) (c.slot_at.ensures.reads.same told) in
    let taken : c.deref-2.result.now ≡ now c.track_of-track.result =
    c.deref-2.ensures.value ∙ (c.in_ok-slot.ensures.slot told ∙ ap (λ (slots : Slots). slots c.track_of-track.result) (sym same)) in
    slots_of_vtoc c.args.sliding _ _ c.args.head c.args.label.now run c.in_ok-slots.slots.items c.in_ok-volume.volume c.requires.head c.requires.inside
    (run_stands c.args.head c.args.label.now.vtoc run _ c.track_of-track.result c.in_ok-slots.slots.items c.in_ok-slots.slots.items c.deref.result.now c.deref-2.result.now
    c.in_ok-run.ensures.run track later refl (c.deref-2.ensures.value ∙ sym c.deref.ensures.value) c.in_ok-slots.ensures.as_taken)
    (subst (λ (l : List ℕ). (unit : Slots) → AreSlotsOf run (slot_of c.args.head.device) l unit → IsLoadedVtoc c.args.head c.args.label.now unit c.args.sliding c.in_ok-volume.volume)
    c.deref-3.ensures.value c.in_ok-volume.ensures.loaded)
    contents
    (read_slots c.in_ok-run.run' _ (slot_of c.args.head.device) c.in_ok-slots.slots.items c.in_ok-slots.slots.items now contents later refl same (c.in_ok-slots.ensures.slots told taken))

pub returns-clause-kept : goal.returns-clause-kept
returns-clause-kept g c =
    let unit = c.args.unit in
    let run = c.in_ok-run.run' in
    let size : (g.P.Pool.shape c.args.journal.now.pool).block_size unit ≡ slot_of c.args.head.device =
    sym c.in_ok-slot.ensures.long ∙ (c.in_ok-slot.ensures.said ∙ said_slot ((g.P.Pool.shape c.args.journal.now.pool).head c.args.unit) c.args.head.device c.requires.head.stands.slot) in
    let later : (g.P.Pool.shape c.slot_at.new.journal.pool).block_size unit ≡ slot_of c.args.head.device = ap (λ (s : Shape). s.block_size unit) c.slot_at.ensures.reads.shape ∙ size in
    let track : track_at (heads_of c.args.head.device) c.args.label.now.vtoc.at ≡ c.track_of-track.result = sym c.track_of-track.ensures.value in
    from_slots c.args.sliding _ _ c.args.head c.args.label.now run c.in_ok-slots.slots.items c.in_ok-volume.volume c.requires.head c.requires.inside
    (run_stands c.args.head c.args.label.now.vtoc run _ c.track_of-track.result c.in_ok-slots.slots.items c.in_ok-slots.slots.items c.deref.result.now c.deref-2.result.now
    c.in_ok-run.ensures.run track later refl (c.deref-2.ensures.value ∙ sym c.deref.ensures.value) c.in_ok-slots.ensures.as_taken)
    (subst (λ (l : List ℕ). (unit : Slots) → AreSlotsOf run (slot_of c.args.head.device) l unit → IsLoadedVtoc c.args.head c.args.label.now unit c.args.sliding c.in_ok-volume.volume)
    c.deref-3.ensures.value c.in_ok-volume.ensures.loaded)
    (c.in_ok-slots.ensures.long ∙ ap (λ (n : ℕ). run.len * n) later)
