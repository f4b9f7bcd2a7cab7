use Rattle.std.proofs.Common.{◌≡◌, ◌≤◌, length}
use Rattle.dasd_pool.proofs.Written.{HasWritten}
use Rattle.dasd_pool.proofs.link.send_all.Given as goal

abbrev pub invariant-loop-rest : goal.invariant-loop-rest
invariant-loop-rest g l = record {
  later : g.L.Link.faults l.fn.link ≤ g.L.Link.faults l.link;
  unread : g.L.Link.left l.link ≡ g.L.Link.left l.fn.link;
  written : HasWritten (g.L.Link.taken l.fn.link) (g.L.Link.taken l.link) l.text l.rest;
}

abbrev pub decreases-loop-rest : goal.decreases-loop-rest
decreases-loop-rest g l = length l.rest
