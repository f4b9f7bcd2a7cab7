use Rattle.std.proofs.Common.{rules, ◌≡◌, ◌<◌, ◌+◌, ◌-◌, length, refl, arith}
use Rattle.std.proofs.lemmas.Result.{err_from_is_err_and}
use Rattle.dump_read.specs.TrackFields.{size_of}
use Rattle.dump_read.proofs.TrackRecords.{one_more, later_stop}
use Rattle.dump_read.proofs.track.records_in.Goals as goal

pub returns-in_err-rec-clause-stops : goal.returns-in_err-rec-clause-stops
returns-in_err-rec-clause-stops c =
    let p = err_from_is_err_and c.from_residual.result c.from_residual.ensures.1 in
    let more : length c.records.recs < c.args.count = search rules in
    rw (p.1, p.2) (later_stop c.args.room c.args.count c.args.start _ c.args.bytes.now c.records.recs c.records.left c.records.rest.now c.in_err-rec.field-0.0 c.records.invariant more
    (let e : c.args.start + (length c.args.bytes.now - length c.records.rest.now) ≡ c.args.start + (length c.args.bytes.now - length c.records.rest.now) = refl in e) c.in_err-rec.ensures.stops)

pub records-preserved : goal.records-preserved
records-preserved c =
    let more : length c.records.recs < c.args.count = search rules in
    let key : c.len-in-records.result ≡ length c.in_ok-rec.rec.key = search rules in
    let body : c.len-in-records-2.result ≡ length c.in_ok-rec.rec.body = search rules in
    let left : c.records.left - (c.len-in-records.result + c.len-in-records-2.result) ≡ c.records.left - size_of c.in_ok-rec.rec = omega (arith, key, body) in
    rw c.in_ok-push.ensures.ok (one_more c.args.room c.args.count c.args.bytes.now c.records.recs c.records.left c.records.rest.now c.in_ok-rec.rec
    (c.records.left - (c.len-in-records.result + c.len-in-records-2.result)) c.in_ok-rec.behind.now c.records.invariant more c.in_ok-rec.ensures.read left)
