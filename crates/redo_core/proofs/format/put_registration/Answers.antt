use Rattle.std.proofs.Common.{◌≡◌, ◌++◌, ◌-◌, ◌∙◌, [], length, get_or, refl, sym, ap, arith}
use Rattle.std.specs.Prelude.{replicate}
use Rattle.std.proofs.lemmas.List.{get_or_default}
use Rattle.std.proofs.lemmas.List.Elements.{All-more}
use Rattle.vol_label.specs.declared.serial.Serial.{Serial}
use Rattle.redo_core.proofs.Formatting.{text_more}
use Rattle.redo_core.proofs.format.put_registration.Goals as goal

pub loop-name-init : goal.loop-name-init
loop-name-init c = record {
  place = refl;
  text = c.fill.ensures ∙ (λ i. c.front.ensures i ++ replicate (c.requires.size i - length (c.front.ensures i)) 0);
  sixes = λ k d less. absurd (omega arith);
}

pub loop-name-preserved : goal.loop-name-preserved
loop-name-preserved c =
    let names = c.args.names.now in
    let i = c.loop-name.name-index in
    let name : Serial = get_or names i (record { text = [] }) in
    let is : name ≡ get_or names i name = get_or_default names i _ _ c.loop-name-test.true in
    record {
      place = omega (arith, c.loop-name.invariant.place);
      text = text_more names i c.loop-name.place c.args.room name c.loop-name.buffer _ c.serial_bytes.result.now c.loop-name-test.true is c.loop-name.invariant.place c.loop-name.invariant.sixes c.loop-name.invariant.text c.serial_bytes.ensures.bytes c.serial_bytes.ensures.six c.put_over.ensures;
      sixes = All-more (λ n. length n.text ≡ 6) names i (record { text = [] }) c.loop-name-test.true c.loop-name.invariant.sixes (ap length (sym c.serial_bytes.ensures.bytes) ∙ c.serial_bytes.ensures.six);
    }
