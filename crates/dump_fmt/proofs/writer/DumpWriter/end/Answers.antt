use Rattle.std.proofs.Common.{refl, ap, ◌∙◌}
use Rattle.dump_fmt.proofs.Written.{end_so, sent_so, finished_so, whole_finished}
use Rattle.dump_fmt.proofs.writer.DumpWriter.end.Goals as goal

pub returns-clause-whole : goal.returns-clause-whole
returns-clause-whole g c = λ before head front w whole.
    end_so _ before head front c.args.self.progress c.trailer-trailer.new.self c.args.self.outs.items c.send.new.self.outs.items c.finish.new.self.outs.items c.trailer-trailer.result c.send.new.self.progress.places.items
    w c.trailer-trailer.ensures.text c.trailer-trailer.ensures.places c.send.ensures.outs c.send.ensures.places c.finish.ensures.outs

pub returns-clause-sent : goal.returns-clause-sent
returns-clause-sent g c =
    let places = ap (λ places. places.items) c.trailer-trailer.ensures.places in (
      c.trailer-trailer.result,
      c.send.new.self.outs.items,
      sent_so _ c.trailer-trailer.result c.trailer-trailer.result c.trailer-trailer.new.self.places.items c.args.self.progress.places.items c.args.self.outs.items c.send.new.self.outs.items refl places
          c.send.ensures.outs,
      finished_so _ c.send.new.self.progress.places.items c.args.self.progress.places.items c.send.new.self.outs.items c.finish.new.self.outs.items (c.send.ensures.places ∙ places)
          c.finish.ensures.outs,
    )

pub returns-clause-finished : goal.returns-clause-finished
returns-clause-finished g c =
    whole_finished _ c.send.new.self.progress.places.items c.args.self.progress.places.items c.send.new.self.outs.items c.finish.new.self.outs.items
    (c.send.ensures.places ∙ ap (λ places. places.items) c.trailer-trailer.ensures.places) c.finish.ensures.outs
