use Rattle.std.proofs.Common.{ap, ◌∙◌}
use Rattle.dump_fmt.proofs.Sizes.{fits_fields}
use Rattle.dump_fmt.proofs.Written.{has_count_room, put_so, sent_so}
use Rattle.dump_fmt.proofs.writer.DumpWriter.put.Goals as goal

pub piece_bytes-requires : goal.piece_bytes-requires
piece_bytes-requires g c = fits_fields c.requires.1 c.requires.2 c.args.piece.now c.requires.3 c.requires.5 c.requires.6

pub count-requires : goal.count-requires
count-requires g c = has_count_room _ c.requires.0 c.requires.1 c.requires.2 c.args.piece.now c.requires.3 c.args.self.now.progress c.args.self.now.outs.items c.requires.4 c.requires.5 c.requires.6

pub returns-clause-put : goal.returns-clause-put
returns-clause-put g c = λ before head front next w adds stands.
    put_so _ before head front c.args.piece.now next c.args.self.now.progress c.count.new.self c.send.new.self.progress c.args.self.now.outs.items c.send.new.self.outs.items c.as_slice.result.now
    w adds stands c.count.ensures (c.as_slice.ensures.same ∙ c.in_ok-text.ensures) c.send.ensures.parts c.send.ensures.tracks c.send.ensures.due c.send.ensures.places
    c.send.ensures.digest c.send.ensures.outs

pub returns-clause-sent : goal.returns-clause-sent
returns-clause-sent g c = λ before head front next w adds stands.
    sent_so _ c.as_slice.result.now _ c.count.new.self.places.items c.args.self.now.progress.places.items c.args.self.now.outs.items c.send.new.self.outs.items
    (c.as_slice.ensures.same ∙ c.in_ok-text.ensures) (ap (λ places. places.items) c.count.ensures.places) c.send.ensures.outs
