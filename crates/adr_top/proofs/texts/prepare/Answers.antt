use Rattle.std.proofs.Common.{inr}
use Rattle.adr_top.specs.Reading.{source_seen}
use Rattle.adr_top.proofs.Prepared.{takes_texts, all_stops, all_ready}
use Rattle.adr_top.proofs.texts.prepare.Goals as goal

pub returns-clause-ready : goal.returns-clause-ready
returns-clause-ready g c =
    let held = source_seen g.H.Source c.args.held.now c.held_text.new.held in
    let sysin = source_seen g.S.Source c.args.sysin.now c.text_of.new.source in
    all_ready c.args.path.now held sysin (record { held = c.in_ok-held_text.held_text; sysin = c.in_ok-sysin_text.sysin_text }) c.understood.result
    (record {
      held_is = c.in_ok-held_text.ensures.read.0;
      held_short = c.in_ok-held_text.ensures.read.1;
      sysin_is = c.in_ok-sysin_text.ensures.read.text_is;
      sysin_short = c.in_ok-sysin_text.ensures.read.short;
    }) c.understood.ensures.ready

pub returns-clause-stops : goal.returns-clause-stops
returns-clause-stops g c =
    let held = source_seen g.H.Source c.args.held.now c.held_text.new.held in
    let sysin = source_seen g.S.Source c.args.sysin.now c.text_of.new.source in
    all_stops c.args.path.now held sysin (record { held = c.in_ok-held_text.held_text; sysin = c.in_ok-sysin_text.sysin_text }) c.understood.result
    (record {
      held_is = c.in_ok-held_text.ensures.read.0;
      held_short = c.in_ok-held_text.ensures.read.1;
      sysin_is = c.in_ok-sysin_text.ensures.read.text_is;
      sysin_short = c.in_ok-sysin_text.ensures.read.short;
    }) c.understood.ensures.stops

pub returns-clause-taken : goal.returns-clause-taken
returns-clause-taken g c =
    let held = source_seen g.H.Source c.args.held.now c.held_text.new.held in
    let sysin = source_seen g.S.Source c.args.sysin.now c.text_of.new.source in
    takes_texts c.args.path.now held sysin c.held_text.ensures.taken (inr c.in_ok-sysin_text.ensures.read.few)
