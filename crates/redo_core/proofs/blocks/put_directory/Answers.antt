use Rattle.std.proofs.Common.{ℕ, ◌≡◌, ◌++◌, ◌∙◌, List, length, take, sym, ap, refl, subst, arith}
use Rattle.std.specs.Prelude.{All, replicate, ◌-◌}
use Rattle.std.specs.List.{flat_map}
use Rattle.byteorder.specs.Endian.{big_bytes}
use Rattle.std.proofs.lemmas.List.{take_all}
use Rattle.std.proofs.lemmas.List.Elements.{All-push}
use Rattle.redo_core.specs.declared.entries.Entry.{Entry}
use Rattle.redo_core.specs.declared.target.Target.{Target}
use Rattle.redo_core.specs.Format.{wide, target_text, directory_in}
use Rattle.redo_core.specs.Phases.{targets}
use Rattle.redo_core.proofs.Transitions.{length-targets}
use Rattle.redo_core.proofs.Directory.{Fits, targets_more, text_more, directory_reads}
use Rattle.redo_core.proofs.blocks.put_directory.Goals as goal

pub loop-entry-init : goal.loop-entry-init
loop-entry-init c = record {
  place = refl;
  text = c.fill.ensures ∙ (λ i. c.to_be_bytes.ensures i ++ replicate (c.requires.size i - length (c.to_be_bytes.ensures i)) 0);
  fits = λ k d less. absurd (omega arith);
}

pub loop-entry-preserved : goal.loop-entry-preserved
loop-entry-preserved c =
    let entry = c.entry-item.result in
    let i = c.loop-entry.entry-index in
    let entries = c.args.entries.now in
    record {
      place = omega (arith, c.loop-entry.invariant.place);
      text = text_more entries i c.loop-entry.place entry c.loop-entry.buffer _ c.target_bytes.result c.loop-entry-test.true c.entry-item.is c.loop-entry.invariant.place c.loop-entry.invariant.text c.target_bytes.ensures.text c.put_over.ensures;
      fits = subst (λ (list : List Target). All Fits list) (sym (targets_more entries i entry c.loop-entry-test.true c.entry-item.is))
          (All-push Fits (targets (take i entries)) (record { unit = entry.unit; block = entry.block }) c.loop-entry.invariant.fits (c.target_bytes.ensures.unit_fits, c.target_bytes.ensures.block_fits));
    }

pub returns-clause-reads : goal.returns-clause-reads
returns-clause-reads c =
    let all : take c.loop-entry.entry-index c.args.entries.now ≡ c.args.entries.now = take_all c.loop-entry.entry-index c.args.entries.now (omega arith) in
    ap directory_in (c.loop-entry.invariant.text ∙ ap (λ (list : List Entry). (big_bytes 4 (length c.args.entries.now) ++ flat_map target_text (targets list)) ++ replicate (wide - c.loop-entry.place) 0) all
    ∙ ap (λ (n : ℕ). (big_bytes 4 n ++ flat_map target_text (targets c.args.entries.now)) ++ replicate (wide - c.loop-entry.place) 0) (sym (length-targets c.args.entries.now)))
    ∙ directory_reads (targets c.args.entries.now) _ (subst (λ (list : List Entry). All Fits (targets list)) all c.loop-entry.invariant.fits) (omega (arith, length-targets c.args.entries.now, c.requires.few))
