-- Free runs as entries of format-5 DSCBs.
use Rattle.std.specs.Prelude.{ℕ, ◌/◌, ◌%◌}
use Rattle.dscb_rec.specs.declared.field.Entry5.{Entry5}
use Rattle.free_map.specs.declared.run.Run.{Run}

-- a run as its first track, its full cylinders and its further tracks
abbrev pub entry_of : ℕ → Run → Entry5
entry_of heads run = record { first = run.first; cylinders = run.len / heads; tracks = run.len % heads }
