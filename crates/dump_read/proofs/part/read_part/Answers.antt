use Rattle.std.specs.Option.{option_copied}
use Rattle.std.proofs.lemmas.Result.{err_from_is_err_and}
use Rattle.dump_read.proofs.PartStops.{at_top, at_name, behind_name, at_format, behind_format, at_first, behind_first, at_count, behind_count, at_middle, behind_middle, at_zeros, behind_zeros, at_tracks, behind_tracks, at_kind, part_read}
use Rattle.dump_read.proofs.part.read_part.Goals as goal

pub returns-in_err-_name-clause-stops : goal.returns-in_err-_name-clause-stops
returns-in_err-_name-clause-stops c =
    let p = err_from_is_err_and c.from_residual.result c.from_residual.ensures.1 in
    rw (p.1, p.2) (at_top (option_copied c.args.before) c.args.bytes.now c.in_err-_name.field-0.0 (at_name (option_copied c.args.before) c.requires.0 c.args.bytes.now c.in_err-_name.field-0.0 c.requires.1 c.in_err-_name.ensures.stops))

pub returns-in_err-format-clause-stops : goal.returns-in_err-format-clause-stops
returns-in_err-format-clause-stops c =
    let p = err_from_is_err_and c.from_residual-in_err-format.result c.from_residual-in_err-format.ensures.1 in
    rw (p.1, p.2) (at_top (option_copied c.args.before) c.args.bytes.now c.in_err-format.field-0.0 (behind_name (option_copied c.args.before) c.in_ok-_name._name.now c.args.bytes.now c.in_ok-_name.rest.now c.in_err-format.field-0.0 c.in_ok-_name.ensures.found.0 c.in_ok-_name.ensures.found.1
    (at_format c.in_ok-_name.rest.now c.in_err-format.field-0.0 c.in_err-format.ensures.stops)))

pub returns-in_err-_first-clause-stops : goal.returns-in_err-_first-clause-stops
returns-in_err-_first-clause-stops c =
    let p = err_from_is_err_and c.from_residual-in_err-_first.result c.from_residual-in_err-_first.ensures.1 in
    rw (p.1, p.2) (at_top (option_copied c.args.before) c.args.bytes.now c.in_err-_first.field-0.0 (behind_name (option_copied c.args.before) c.in_ok-_name._name.now c.args.bytes.now c.in_ok-_name.rest.now c.in_err-_first.field-0.0 c.in_ok-_name.ensures.found.0 c.in_ok-_name.ensures.found.1
    (behind_format c.in_ok-_name.rest.now c.in_ok-format.format.now c.in_err-_first.field-0.0 c.in_ok-format.ensures.found
    (at_first c.in_ok-format.format.now c.in_err-_first.field-0.0 c.in_err-_first.ensures.stops.0 c.in_err-_first.ensures.stops.1))))

pub returns-in_err-middle-clause-stops : goal.returns-in_err-middle-clause-stops
returns-in_err-middle-clause-stops c =
    let p = err_from_is_err_and c.from_residual-in_err-middle.result c.from_residual-in_err-middle.ensures.1 in
    rw (p.1, p.2) (at_top (option_copied c.args.before) c.args.bytes.now c.in_err-middle.field-0.0 (behind_name (option_copied c.args.before) c.in_ok-_name._name.now c.args.bytes.now c.in_ok-_name.rest.now c.in_err-middle.field-0.0 c.in_ok-_name.ensures.found.0 c.in_ok-_name.ensures.found.1
    (behind_format c.in_ok-_name.rest.now c.in_ok-format.format.now c.in_err-middle.field-0.0 c.in_ok-format.ensures.found
    (behind_first c.in_ok-_first._first.now c.in_ok-format.format.now c.in_ok-_first.count.now c.in_err-middle.field-0.0 c.in_ok-_first.ensures.found.0 c.in_ok-_first.ensures.found.1
    (at_count c.in_ok-_first.count.now c.in_err-middle.field-0.0 c.in_err-middle.ensures.stops)))))

pub returns-in_err-_middle-clause-stops : goal.returns-in_err-_middle-clause-stops
returns-in_err-_middle-clause-stops c =
    let p = err_from_is_err_and c.from_residual-in_err-_middle.result c.from_residual-in_err-_middle.ensures.1 in
    rw (p.1, p.2) (at_top (option_copied c.args.before) c.args.bytes.now c.in_err-_middle.field-0.0 (behind_name (option_copied c.args.before) c.in_ok-_name._name.now c.args.bytes.now c.in_ok-_name.rest.now c.in_err-_middle.field-0.0 c.in_ok-_name.ensures.found.0 c.in_ok-_name.ensures.found.1
    (behind_format c.in_ok-_name.rest.now c.in_ok-format.format.now c.in_err-_middle.field-0.0 c.in_ok-format.ensures.found
    (behind_first c.in_ok-_first._first.now c.in_ok-format.format.now c.in_ok-_first.count.now c.in_err-_middle.field-0.0 c.in_ok-_first.ensures.found.0 c.in_ok-_first.ensures.found.1
    (behind_count c.in_ok-_first.count.now c.in_ok-middle.middle.now c.in_err-_middle.field-0.0 c.in_ok-middle.ensures.found
    (at_middle c.in_ok-middle.middle.now c.in_err-_middle.field-0.0 c.in_err-_middle.ensures.stops.0 c.in_err-_middle.ensures.stops.1))))))

pub returns-in_err-number-clause-stops : goal.returns-in_err-number-clause-stops
returns-in_err-number-clause-stops c =
    let p = err_from_is_err_and c.from_residual-in_err-number.result c.from_residual-in_err-number.ensures.1 in
    rw (p.1, p.2) (at_top (option_copied c.args.before) c.args.bytes.now c.in_err-number.field-0.0 (behind_name (option_copied c.args.before) c.in_ok-_name._name.now c.args.bytes.now c.in_ok-_name.rest.now c.in_err-number.field-0.0 c.in_ok-_name.ensures.found.0 c.in_ok-_name.ensures.found.1
    (behind_format c.in_ok-_name.rest.now c.in_ok-format.format.now c.in_err-number.field-0.0 c.in_ok-format.ensures.found
    (behind_first c.in_ok-_first._first.now c.in_ok-format.format.now c.in_ok-_first.count.now c.in_err-number.field-0.0 c.in_ok-_first.ensures.found.0 c.in_ok-_first.ensures.found.1
    (behind_count c.in_ok-_first.count.now c.in_ok-middle.middle.now c.in_err-number.field-0.0 c.in_ok-middle.ensures.found
    (behind_middle c.in_ok-_middle._middle.now c.in_ok-middle.middle.now c.in_ok-_middle.extents.now c.in_err-number.field-0.0 c.in_ok-_middle.ensures.found.0 c.in_ok-_middle.ensures.found.1
    (at_zeros c.in_ok-_middle.extents.now c.in_err-number.field-0.0 c.in_err-number.ensures.stops)))))))

pub returns-in_err-tracks-clause-stops : goal.returns-in_err-tracks-clause-stops
returns-in_err-tracks-clause-stops c =
    let p = err_from_is_err_and c.from_residual-in_err-tracks.result c.from_residual-in_err-tracks.ensures.1 in
    rw (p.1, p.2) (at_top (option_copied c.args.before) c.args.bytes.now c.in_err-tracks.field-0.0 (behind_name (option_copied c.args.before) c.in_ok-_name._name.now c.args.bytes.now c.in_ok-_name.rest.now c.in_err-tracks.field-0.0 c.in_ok-_name.ensures.found.0 c.in_ok-_name.ensures.found.1
    (behind_format c.in_ok-_name.rest.now c.in_ok-format.format.now c.in_err-tracks.field-0.0 c.in_ok-format.ensures.found
    (behind_first c.in_ok-_first._first.now c.in_ok-format.format.now c.in_ok-_first.count.now c.in_err-tracks.field-0.0 c.in_ok-_first.ensures.found.0 c.in_ok-_first.ensures.found.1
    (behind_count c.in_ok-_first.count.now c.in_ok-middle.middle.now c.in_err-tracks.field-0.0 c.in_ok-middle.ensures.found
    (behind_middle c.in_ok-_middle._middle.now c.in_ok-middle.middle.now c.in_ok-_middle.extents.now c.in_err-tracks.field-0.0 c.in_ok-_middle.ensures.found.0 c.in_ok-_middle.ensures.found.1
    (behind_zeros c.in_ok-_middle.extents.now c.in_ok-number.number.now c.in_err-tracks.field-0.0 c.in_ok-number.ensures.found
    (at_tracks c.in_ok-number.number.now c.in_err-tracks.field-0.0 c.in_err-tracks.ensures.stops))))))))

pub returns-in_err-kind-clause-stops : goal.returns-in_err-kind-clause-stops
returns-in_err-kind-clause-stops c =
    let p = err_from_is_err_and c.from_residual-in_err-kind.result c.from_residual-in_err-kind.ensures.1 in
    rw (p.1, p.2) (at_top (option_copied c.args.before) c.args.bytes.now c.in_err-kind.field-0.0 (behind_name (option_copied c.args.before) c.in_ok-_name._name.now c.args.bytes.now c.in_ok-_name.rest.now c.in_err-kind.field-0.0 c.in_ok-_name.ensures.found.0 c.in_ok-_name.ensures.found.1
    (behind_format c.in_ok-_name.rest.now c.in_ok-format.format.now c.in_err-kind.field-0.0 c.in_ok-format.ensures.found
    (behind_first c.in_ok-_first._first.now c.in_ok-format.format.now c.in_ok-_first.count.now c.in_err-kind.field-0.0 c.in_ok-_first.ensures.found.0 c.in_ok-_first.ensures.found.1
    (behind_count c.in_ok-_first.count.now c.in_ok-middle.middle.now c.in_err-kind.field-0.0 c.in_ok-middle.ensures.found
    (behind_middle c.in_ok-_middle._middle.now c.in_ok-middle.middle.now c.in_ok-_middle.extents.now c.in_err-kind.field-0.0 c.in_ok-_middle.ensures.found.0 c.in_ok-_middle.ensures.found.1
    (behind_zeros c.in_ok-_middle.extents.now c.in_ok-number.number.now c.in_err-kind.field-0.0 c.in_ok-number.ensures.found
    (behind_tracks c.in_ok-tracks.tracks c.in_ok-number.number.now c.in_ok-tracks.behind.now c.in_err-kind.field-0.0 c.in_ok-tracks.ensures.found.0 c.in_ok-tracks.ensures.found.1
    (at_kind c.in_ok-tracks.behind.now c.in_err-kind.field-0.0 c.in_err-kind.ensures.stops)))))))))

pub returns-clause-read : goal.returns-clause-read
returns-clause-read c =
    part_read (option_copied c.args.before) (record { f1 = c.front_of.result; tracks = c.in_ok-tracks.tracks; kind = c.in_ok-kind.kind }) c.args.bytes.now c.in_ok-_name._name.now c.in_ok-_first._first.now c.in_ok-_middle._middle.now
    c.in_ok-_name.rest.now c.in_ok-format.format.now c.in_ok-_first.count.now c.in_ok-middle.middle.now c.in_ok-_middle.extents.now c.in_ok-number.number.now c.in_ok-tracks.behind.now c.in_ok-kind._end.now
    c.front_of.ensures c.in_ok-_name.ensures.found.0 c.in_ok-_first.ensures.found.0 c.in_ok-_middle.ensures.found.0 c.in_ok-tracks.ensures.found.0 c.in_ok-kind.ensures.found.0
    c.in_ok-_name.ensures.found.1 c.in_ok-format.ensures.found c.in_ok-_first.ensures.found.1 c.in_ok-middle.ensures.found c.in_ok-_middle.ensures.found.1 c.in_ok-number.ensures.found c.in_ok-tracks.ensures.found.1
    c.in_ok-kind.ensures.found.1
