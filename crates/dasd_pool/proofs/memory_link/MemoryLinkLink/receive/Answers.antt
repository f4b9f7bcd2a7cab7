use Rattle.std.proofs.Common.{◌+◌, ◌-◌, take, drop, refl, ap, arith, List, ℕ}
use Rattle.dasd_pool.proofs.Reading.{read_front}
use Rattle.dasd_pool.proofs.memory_link.MemoryLinkLink.receive.Goals as goal

pub returns-clause-bytes : goal.returns-clause-bytes
returns-clause-bytes c =
    let place = c.args.self.now.place in
    let count = c.min-count.result in (
      drop (place + count) c.args.self.now.input,
      refl,
      read_front c.args.self.now.input place count c.put.result c.args.buf.now c.put.new.bytes _ (omega arith)
          (ap (λ (l : List ℕ). take (place + count - place) (drop place l)) c.as_slice-2.ensures.same) c.put.ensures.end c.put.ensures.written,
    )
