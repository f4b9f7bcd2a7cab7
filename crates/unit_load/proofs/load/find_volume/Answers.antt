use Rattle.std.proofs.Common.{◌≡◌, Bool, ap, subst}
use Rattle.std.proofs.lemmas.Result.{IfOk-weaker, IfErr-weaker}
use Rattle.dasd_pool.specs.Disk.{State}
use Rattle.volume_model.specs.Sound.{Slots}
use Rattle.vtoc_load.specs.LoadedVtoc.{IsLoadedVtoc}
use Rattle.unit_load.specs.Hand.{with_hand}
use Rattle.unit_load.specs.State.{is_sliding_now}
use Rattle.unit_load.specs.Stops.{IsVtocStop}
use Rattle.unit_load.proofs.Reading.{reads_then}
use Rattle.unit_load.proofs.States.{online_state, vtoc_state}
use Rattle.unit_load.proofs.load.find_volume.Goals as goal

pub returns-clause-reads : goal.returns-clause-reads
returns-clause-reads g c = reads_then g.P.Pool _ _ _ c.label_of.ensures.reads c.volume_of.ensures.reads

pub returns-clause-volume : goal.returns-clause-volume
returns-clause-volume g c = λ told.
    let slots : Slots = with_hand c.args.hand ((g.P.Pool.disk c.args.journal.now.pool).state.contents c.args.unit) in
    let same : with_hand c.args.hand ((g.P.Pool.disk c.label_of.new.journal.pool).state.contents c.args.unit) ≡ slots =
    ap (λ (s : State). with_hand c.args.hand (s.contents c.args.unit)) (c.label_of.ensures.reads.same told) in
    IfOk-weaker c.volume_of.result _ _
    (λ found loaded.
    online_state (is_sliding_now c.args.under_way) _ _ slots c.in_ok-head.head c.in_ok-label.label found.0 c.in_ok-head.ensures.head (c.in_ok-label.ensures.label told)
    (subst (λ (sliding : Bool). IsLoadedVtoc c.in_ok-head.head c.in_ok-label.label slots sliding found.0) c.is_slide.ensures
    (subst (λ (slots : Slots). IsLoadedVtoc c.in_ok-head.head c.in_ok-label.label slots c.is_slide.result found.0) same loaded)))
    (c.volume_of.ensures.volume told)

pub returns-clause-stop : goal.returns-clause-stop
returns-clause-stop g c = λ told.
    let slots : Slots = with_hand c.args.hand ((g.P.Pool.disk c.args.journal.now.pool).state.contents c.args.unit) in
    let same : with_hand c.args.hand ((g.P.Pool.disk c.label_of.new.journal.pool).state.contents c.args.unit) ≡ slots =
    ap (λ (s : State). with_hand c.args.hand (s.contents c.args.unit)) (c.label_of.ensures.reads.same told) in
    IfErr-weaker c.volume_of.result _ _
    (λ stop stopped.
    vtoc_state (is_sliding_now c.args.under_way) _ _ slots c.in_ok-head.head c.in_ok-label.label stop c.in_ok-head.ensures.head (c.in_ok-label.ensures.label told)
    (subst (λ (sliding : Bool). IsVtocStop sliding c.in_ok-head.head slots c.in_ok-label.label stop) c.is_slide.ensures
    (subst (λ (slots : Slots). IsVtocStop c.is_slide.result c.in_ok-head.head slots c.in_ok-label.label stop) same stopped)))
    (c.volume_of.ensures.stop told)
