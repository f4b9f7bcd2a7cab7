use Rattle.std.proofs.Common.{◌≡◌}
use Rattle.vtoc_render.proofs.Copies.{same_runs}
use Rattle.vtoc_render.proofs.mark.copy_volume.Goals as goal

pub returns : goal.returns
returns c =
    let v = c.args.volume.now in
    let runs : c.in_ok-free_with.field-0.runs ≡ v.free.runs = same_runs v.free c.in_ok-free_with.field-0.runs c.requires.apart c.in_ok-free_with.ensures.free in
    λ i.
    record {
      serial = v.serial;
      device = v.device;
      usable = v.usable;
      vtoc = v.vtoc;
      rows = c.in_ok-copy_rows.ensures i;
      free = record { usable = c.in_ok-free_with.ensures.sizes.0 i; heads = c.in_ok-free_with.ensures.sizes.1 i; runs = runs i };
      repair = v.repair;
      indexed = v.indexed;
      dscbs = v.dscbs;
      free_dscbs = v.free_dscbs;
      fives = v.fives;
    }
