use Rattle.std.proofs.Common.{◌≡◌, [], ◌∷◌}
use Rattle.dump_read.proofs.ReadAll.{pieces_left}
use Rattle.rows_dumps.specs.Copied.{IsCopied}
use Rattle.rows_dumps.proofs.Copying.{seen_of}
use Rattle.rows_dumps.proofs.copied.copy_dump.Given as goal

abbrev pub invariant-pieces : goal.invariant-pieces
invariant-pieces g l = record {
  copied : IsCopied
      (λ out. record {
        name = out.name;
        state = out.state;
        held = (goal.Medium-dyn g (out.medium.vtable, out.medium.value)).held out.medium.value;
        faults = (goal.Medium-dyn g (out.medium.vtable, out.medium.value)).faults out.medium.value;
        puts = (goal.Medium-dyn g (out.medium.vtable, out.medium.value)).puts out.medium.value;
        finished = (goal.Medium-dyn g (out.medium.vtable, out.medium.value)).finished out.medium.value;
      })
      l.fn.outs.items (seen_of l.reel) l.reader l.writer.progress l.writer.outs.items;
  places : l.writer.progress.places.items ≡ 0 ∷ [];
  same : l.reel.text ≡ l.fn.reel.text;
}

abbrev pub decreases-pieces : goal.decreases-pieces
decreases-pieces g l = pieces_left l.reader.standing
