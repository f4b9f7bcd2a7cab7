use Rattle.std.proofs.lemmas.Result.{err_from_is_err_and}
use Rattle.dump_read.proofs.Stopping.{at_top, at_magic, behind_magic, at_kind, behind_kind, at_device, behind_device, at_serial, behind_serial, at_tracks, behind_tracks, at_day, behind_day, at_vtoc, behind_vtoc, at_zeros, many_tracks, header_read}
use Rattle.dump_read.proofs.header.read_header.Goals as goal

pub returns-in_err-rest-clause-stops : goal.returns-in_err-rest-clause-stops
returns-in_err-rest-clause-stops c =
    let p = err_from_is_err_and c.from_residual.result c.from_residual.ensures.1 in
    rw (p.1, p.2) (at_top c.args.bytes.now c.in_err-rest.field-0.0 (at_magic c.args.bytes.now c.in_err-rest.field-0.0 c.in_err-rest.ensures.stops))

pub returns-in_err-full-clause-stops : goal.returns-in_err-full-clause-stops
returns-in_err-full-clause-stops c =
    let p = err_from_is_err_and c.from_residual-in_err-full.result c.from_residual-in_err-full.ensures.1 in
    rw (p.1, p.2) (at_top c.args.bytes.now c.in_err-full.field-0.0 (behind_magic c.args.bytes.now c.in_ok-rest.rest.now c.in_err-full.field-0.0 c.in_ok-rest.ensures.found
    (at_kind c.in_ok-rest.rest.now c.in_err-full.field-0.0 c.in_err-full.ensures.stops)))

pub returns-in_err-device-clause-stops : goal.returns-in_err-device-clause-stops
returns-in_err-device-clause-stops c =
    let p = err_from_is_err_and c.from_residual-in_err-device.result c.from_residual-in_err-device.ensures.1 in
    rw (p.1, p.2) (at_top c.args.bytes.now c.in_err-device.field-0.0 (behind_magic c.args.bytes.now c.in_ok-rest.rest.now c.in_err-device.field-0.0 c.in_ok-rest.ensures.found
    (behind_kind c.in_ok-full.full c.in_ok-rest.rest.now c.in_ok-full.rest.now c.in_err-device.field-0.0 c.in_ok-full.ensures.found
    (at_device c.in_ok-full.full c.in_ok-full.rest.now c.in_err-device.field-0.0 c.in_err-device.ensures.stops))))

pub returns-in_err-serial-clause-stops : goal.returns-in_err-serial-clause-stops
returns-in_err-serial-clause-stops c =
    let p = err_from_is_err_and c.from_residual-in_err-serial.result c.from_residual-in_err-serial.ensures.1 in
    rw (p.1, p.2) (at_top c.args.bytes.now c.in_err-serial.field-0.0 (behind_magic c.args.bytes.now c.in_ok-rest.rest.now c.in_err-serial.field-0.0 c.in_ok-rest.ensures.found
    (behind_kind c.in_ok-full.full c.in_ok-rest.rest.now c.in_ok-full.rest.now c.in_err-serial.field-0.0 c.in_ok-full.ensures.found
    (behind_device c.in_ok-full.full c.in_ok-device.device c.in_ok-full.rest.now c.in_ok-device.rest.now c.in_err-serial.field-0.0 c.in_ok-device.ensures.found
    (at_serial c.in_ok-full.full c.in_ok-device.device c.in_ok-device.rest.now c.in_err-serial.field-0.0 c.in_err-serial.ensures.stops)))))

pub returns-in_err-tracks-clause-stops : goal.returns-in_err-tracks-clause-stops
returns-in_err-tracks-clause-stops c =
    let p = err_from_is_err_and c.from_residual-in_err-tracks.result c.from_residual-in_err-tracks.ensures.1 in
    rw (p.1, p.2) (at_top c.args.bytes.now c.in_err-tracks.field-0.0 (behind_magic c.args.bytes.now c.in_ok-rest.rest.now c.in_err-tracks.field-0.0 c.in_ok-rest.ensures.found
    (behind_kind c.in_ok-full.full c.in_ok-rest.rest.now c.in_ok-full.rest.now c.in_err-tracks.field-0.0 c.in_ok-full.ensures.found
    (behind_device c.in_ok-full.full c.in_ok-device.device c.in_ok-full.rest.now c.in_ok-device.rest.now c.in_err-tracks.field-0.0 c.in_ok-device.ensures.found
    (behind_serial c.in_ok-full.full c.in_ok-device.device c.in_ok-serial.serial.text c.in_ok-device.rest.now c.in_ok-serial.rest.now c.in_err-tracks.field-0.0 c.in_ok-serial.ensures.found.0 c.in_ok-serial.ensures.found.1
    (at_tracks c.in_ok-full.full c.in_ok-device.device c.in_ok-serial.rest.now c.in_err-tracks.field-0.0 c.in_err-tracks.ensures.stops))))))

pub returns-in_err-day-clause-stops : goal.returns-in_err-day-clause-stops
returns-in_err-day-clause-stops c =
    let p = err_from_is_err_and c.from_residual-in_err-day.result c.from_residual-in_err-day.ensures.1 in
    rw (p.1, p.2) (at_top c.args.bytes.now c.in_err-day.field-0.0 (behind_magic c.args.bytes.now c.in_ok-rest.rest.now c.in_err-day.field-0.0 c.in_ok-rest.ensures.found
    (behind_kind c.in_ok-full.full c.in_ok-rest.rest.now c.in_ok-full.rest.now c.in_err-day.field-0.0 c.in_ok-full.ensures.found
    (behind_device c.in_ok-full.full c.in_ok-device.device c.in_ok-full.rest.now c.in_ok-device.rest.now c.in_err-day.field-0.0 c.in_ok-device.ensures.found
    (behind_serial c.in_ok-full.full c.in_ok-device.device c.in_ok-serial.serial.text c.in_ok-device.rest.now c.in_ok-serial.rest.now c.in_err-day.field-0.0 c.in_ok-serial.ensures.found.0 c.in_ok-serial.ensures.found.1
    (behind_tracks c.in_ok-full.full c.in_ok-device.device c.in_ok-tracks.tracks c.in_ok-serial.rest.now c.in_ok-tracks.rest.now c.in_err-day.field-0.0 c.in_ok-tracks.ensures.found.0 c.in_ok-tracks.ensures.found.1
    (at_day c.in_ok-full.full c.in_ok-tracks.tracks c.in_ok-tracks.rest.now c.in_err-day.field-0.0 (many_tracks c.in_ok-device.device c.in_ok-tracks.tracks c.in_ok-tracks.ensures.found.0) c.in_err-day.ensures.stops.0 c.in_err-day.ensures.stops.1 c.in_err-day.ensures.stops.2)))))))

pub returns-in_err-vtoc-clause-stops : goal.returns-in_err-vtoc-clause-stops
returns-in_err-vtoc-clause-stops c =
    let p = err_from_is_err_and c.from_residual-in_err-vtoc.result c.from_residual-in_err-vtoc.ensures.1 in
    rw (p.1, p.2) (at_top c.args.bytes.now c.in_err-vtoc.field-0.0 (behind_magic c.args.bytes.now c.in_ok-rest.rest.now c.in_err-vtoc.field-0.0 c.in_ok-rest.ensures.found
    (behind_kind c.in_ok-full.full c.in_ok-rest.rest.now c.in_ok-full.rest.now c.in_err-vtoc.field-0.0 c.in_ok-full.ensures.found
    (behind_device c.in_ok-full.full c.in_ok-device.device c.in_ok-full.rest.now c.in_ok-device.rest.now c.in_err-vtoc.field-0.0 c.in_ok-device.ensures.found
    (behind_serial c.in_ok-full.full c.in_ok-device.device c.in_ok-serial.serial.text c.in_ok-device.rest.now c.in_ok-serial.rest.now c.in_err-vtoc.field-0.0 c.in_ok-serial.ensures.found.0 c.in_ok-serial.ensures.found.1
    (behind_tracks c.in_ok-full.full c.in_ok-device.device c.in_ok-tracks.tracks c.in_ok-serial.rest.now c.in_ok-tracks.rest.now c.in_err-vtoc.field-0.0 c.in_ok-tracks.ensures.found.0 c.in_ok-tracks.ensures.found.1
    (behind_day c.in_ok-full.full c.in_ok-tracks.tracks c.in_ok-day.day.year c.in_ok-day.day.day c.in_ok-tracks.rest.now c.in_ok-day.rest.now c.in_err-vtoc.field-0.0 c.in_ok-day.ensures.found.0 c.in_ok-day.ensures.found.1
    (at_vtoc c.in_ok-full.full c.in_ok-tracks.tracks c.in_ok-day.rest.now c.in_err-vtoc.field-0.0 (many_tracks c.in_ok-device.device c.in_ok-tracks.tracks c.in_ok-tracks.ensures.found.0) c.in_err-vtoc.ensures.stops))))))))

pub returns-in_err-fixed_in-clause-stops : goal.returns-in_err-fixed_in-clause-stops
returns-in_err-fixed_in-clause-stops c =
    let p = err_from_is_err_and c.from_residual-in_err-fixed_in.result c.from_residual-in_err-fixed_in.ensures.1 in
    rw (p.1, p.2) (at_top c.args.bytes.now c.in_err-fixed_in.field-0.0 (behind_magic c.args.bytes.now c.in_ok-rest.rest.now c.in_err-fixed_in.field-0.0 c.in_ok-rest.ensures.found
    (behind_kind c.in_ok-full.full c.in_ok-rest.rest.now c.in_ok-full.rest.now c.in_err-fixed_in.field-0.0 c.in_ok-full.ensures.found
    (behind_device c.in_ok-full.full c.in_ok-device.device c.in_ok-full.rest.now c.in_ok-device.rest.now c.in_err-fixed_in.field-0.0 c.in_ok-device.ensures.found
    (behind_serial c.in_ok-full.full c.in_ok-device.device c.in_ok-serial.serial.text c.in_ok-device.rest.now c.in_ok-serial.rest.now c.in_err-fixed_in.field-0.0 c.in_ok-serial.ensures.found.0 c.in_ok-serial.ensures.found.1
    (behind_tracks c.in_ok-full.full c.in_ok-device.device c.in_ok-tracks.tracks c.in_ok-serial.rest.now c.in_ok-tracks.rest.now c.in_err-fixed_in.field-0.0 c.in_ok-tracks.ensures.found.0 c.in_ok-tracks.ensures.found.1
    (behind_day c.in_ok-full.full c.in_ok-tracks.tracks c.in_ok-day.day.year c.in_ok-day.day.day c.in_ok-tracks.rest.now c.in_ok-day.rest.now c.in_err-fixed_in.field-0.0 c.in_ok-day.ensures.found.0 c.in_ok-day.ensures.found.1
    (behind_vtoc c.in_ok-full.full c.in_ok-tracks.tracks c.in_ok-vtoc.vtoc c.in_ok-day.rest.now c.in_ok-vtoc.rest.now c.in_err-fixed_in.field-0.0 c.in_ok-vtoc.ensures.found.0 c.in_ok-vtoc.ensures.found.1
    (at_zeros c.in_ok-vtoc.rest.now c.in_err-fixed_in.field-0.0 c.in_err-fixed_in.ensures.stops)))))))))

pub returns-clause-read : goal.returns-clause-read
returns-clause-read c =
    header_read (record { full = c.in_ok-full.full; device = c.in_ok-device.device; serial = c.in_ok-serial.serial; tracks = c.in_ok-tracks.tracks; day = c.in_ok-day.day; vtoc = c.in_ok-vtoc.vtoc })
    c.args.bytes.now c.in_ok-rest.rest.now c.in_ok-full.rest.now c.in_ok-device.rest.now c.in_ok-serial.rest.now c.in_ok-tracks.rest.now c.in_ok-day.rest.now c.in_ok-vtoc.rest.now c.in_ok-fixed_in.field-0.now c.in_ok-serial.ensures.found.0 c.in_ok-tracks.ensures.found.0 c.in_ok-day.ensures.found.0 c.in_ok-vtoc.ensures.found.0
    c.in_ok-rest.ensures.found c.in_ok-full.ensures.found c.in_ok-device.ensures.found c.in_ok-serial.ensures.found.1 c.in_ok-tracks.ensures.found.1 c.in_ok-day.ensures.found.1 c.in_ok-vtoc.ensures.found.1
    c.in_ok-fixed_in.ensures.found
