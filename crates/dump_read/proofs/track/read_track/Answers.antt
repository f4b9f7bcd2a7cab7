use Rattle.std.proofs.Common.{rules, ◌≡◌, ℕ, ◌<◌, ◌-◌, ◌*◌, ◌∷◌, ◌++◌, length, refl, subst}
use Rattle.std.proofs.lemmas.Result.{err_from_is_err_and}
use Rattle.dump_read.specs.TrackFields.{AreRecords, AreRecordsStop}
use Rattle.dump_read.proofs.TrackTop.{flag_cut, zero_cut, count_stop, records_stop, track_read}
use Rattle.dump_read.proofs.track.read_track.Goals as goal

pub returns-in_default-clause-stops : goal.returns-in_default-clause-stops
returns-in_default-clause-stops c =
    let none : length c.args.bytes.now ≡ 0 = search rules in
    flag_cut c.args.device c.args.bytes.now none

pub returns-in_default-split_first_chunk-clause-stops : goal.returns-in_default-split_first_chunk-clause-stops
returns-in_default-split_first_chunk-clause-stops c =
    let first : c.args.bytes.now ≡ c.in-Some.flag.now ∷ c.in-Some.zero.now = search rules in
    let short : length c.in-Some.zero.now < 8 = search rules in
    zero_cut c.args.device c.in-Some.flag.now c.args.bytes.now c.in-Some.zero.now first short

pub returns-in_err-count-clause-stops : goal.returns-in_err-count-clause-stops
returns-in_err-count-clause-stops c =
    let p = err_from_is_err_and c.from_residual.result c.from_residual.ensures.1 in
    let first : c.args.bytes.now ≡ c.in-Some.flag.now ∷ c.in-Some.zero.now = search rules in
    let second : c.in-Some.zero.now ≡ c.in-Some-split_first_chunk.r0.now ++ c.in-Some-split_first_chunk.counted.now = search rules in
    let long : length c.in-Some-split_first_chunk.r0.now ≡ 8 = search rules in
    rw (p.1, p.2) (count_stop c.args.device c.room_of-room.result c.in-Some.flag.now c.args.bytes.now c.in-Some.zero.now c.in-Some-split_first_chunk.r0.now c.in-Some-split_first_chunk.counted.now c.in_err-count.field-0.0
    c.room_of-room.ensures.whole first second long c.in_err-count.ensures.stops)

pub returns-in_err-recs-clause-stops : goal.returns-in_err-recs-clause-stops
returns-in_err-recs-clause-stops c =
    let p = err_from_is_err_and c.from_residual-in_err-recs.result c.from_residual-in_err-recs.ensures.1 in
    let first : c.args.bytes.now ≡ c.in-Some.flag.now ∷ c.in-Some.zero.now = search rules in
    let second : c.in-Some.zero.now ≡ c.in-Some-split_first_chunk.r0.now ++ c.in-Some-split_first_chunk.counted.now = search rules in
    let long : length c.in-Some-split_first_chunk.r0.now ≡ 8 = search rules in
    let same : c.from.result ≡ c.in_ok-count.count = search rules in
    let stops = subst (λ (n : ℕ). AreRecordsStop (c.room_of-room.result - 8 * n) c.in_ok-count.count 11 c.in_ok-count.behind.now c.in_err-recs.field-0.0) same c.in_err-recs.ensures.stops in
    rw (p.1, p.2) (records_stop c.args.device c.room_of-room.result c.in-Some.flag.now c.in_ok-count.count c.args.bytes.now c.in-Some.zero.now c.in-Some-split_first_chunk.r0.now c.in-Some-split_first_chunk.counted.now
    c.in_ok-count.behind.now c.in_err-recs.field-0.0 c.room_of-room.ensures.whole first second long c.in_ok-count.ensures.found.0 c.in_ok-count.ensures.found.1 stops)

pub returns-clause-read : goal.returns-clause-read
returns-clause-read c =
    let first : c.args.bytes.now ≡ c.in-Some.flag.now ∷ c.in-Some.zero.now = search rules in
    let second : c.in-Some.zero.now ≡ c.in-Some-split_first_chunk.r0.now ++ c.in-Some-split_first_chunk.counted.now = search rules in
    let long : length c.in-Some-split_first_chunk.r0.now ≡ 8 = search rules in
    let same : c.from.result ≡ c.in_ok-count.count = search rules in
    let are = subst (λ (n : ℕ). AreRecords (c.room_of-room.result - 8 * n) c.in_ok-count.count c.in_ok-recs.recs) same c.in_ok-recs.ensures.read.0 in
    track_read c.args.device c.room_of-room.result c.in_ok-count.count _ (record { flag = c.in-Some.flag.now; r0 = c.in-Some-split_first_chunk.r0.now; recs = c.in_ok-recs.recs }) c.args.bytes.now c.in-Some.zero.now
    c.in-Some-split_first_chunk.counted.now c.in_ok-count.behind.now c.in_ok-recs.rest.now c.room_of-room.ensures.whole first second long c.in_ok-count.ensures.found.0 c.in_ok-count.ensures.found.1
    are c.in_ok-recs.ensures.read.1 refl
