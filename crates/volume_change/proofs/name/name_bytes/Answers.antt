use Rattle.std.proofs.Common.{◌<◌, length, refl, ◌∙◌, arith}
use Rattle.std.proofs.lemmas.List.{length-set}
use Rattle.volume_change.proofs.Names.{has_code, short_name, all_blank, coded_more, blank_more}
use Rattle.volume_change.proofs.name.name_bytes.Goals as goal

pub loop-place-init : goal.loop-place-init
loop-place-init c = record {
  long = refl;
  characters = λ k lt. absurd (omega (arith, lt));
  blanks = all_blank;
}

pub code_of-requires : goal.code_of-requires
code_of-requires c = has_code c.args.name.now c.requires c.loop-place.place (omega (arith, c.loop-place-test.true, c.from-place-end.ensures))

pub loop-place-preserved : goal.loop-place-preserved
loop-place-preserved c =
    let bytes = c.loop-place.bytes in
    let place = c.loop-place.place in
    let code = c.code_of.result in
    let within : place < length bytes = omega (arith, c.loop-place-test.true, c.from-place-end.ensures, short_name c.args.name.now c.requires, c.loop-place.invariant.long) in
    record {
      long = length-set bytes place code ∙ c.loop-place.invariant.long;
      characters = coded_more c.args.name.now bytes place code within c.loop-place.invariant.characters c.code_of.ensures;
      blanks = blank_more bytes place code c.loop-place.invariant.blanks;
    }

pub returns : goal.returns
returns c = record {
  long = c.loop-place.invariant.long;
  characters = λ k lt. c.loop-place.invariant.characters k (omega (arith, lt, c.loop-place-test.false, c.from-place-end.ensures));
  blanks = λ k from lt. c.loop-place.invariant.blanks k (omega (arith, from, c.loop-place.auto.place-end, c.from-place-end.ensures)) lt;
}
