use Rattle.std.proofs.Common.{◌≢◌, ◌∙◌, List, Any, IsTrue, sym, subst}
use Rattle.std.proofs.lemmas.Bool.{false≢true}
use Rattle.ckd_image.specs.declared.track.Rec.{Rec}
use Rattle.vtoc_write.specs.Edited.{rec_after}
use Rattle.vtoc_write.proofs.Texts.{unnamed_text, is_track, fits_slot, is_rewritten}
use Rattle.vtoc_write.proofs.track.rewritten.Goals as goal

pub returns-then-not-names_track : goal.returns-then-not-names_track
returns-then-not-names_track c = record {
  text = c.requires.dscbs.text;
  stands = c.requires.dscbs.stands;
  same = unnamed_text c.args.edits.now c.args.track c.requires.dscbs.text (λ named. false≢true (sym c.if-not-names_track.true ∙ c.names_track.ensures.1 named));
}

pub slot_with-requires-clause-sound : goal.slot_with-requires-clause-sound
slot_with-requires-clause-sound c =
    is_track c.args.edits.now c.args.device c.args.track c.args.slot.now c.in_ok-text.text c.as_slice-2.result.now c.in_ok-recs.recs c.of-at.result c.heads.result
    c.requires.number c.requires.whole c.requires.dscbs c.of-at.ensures c.heads.ensures c.in_ok-text.ensures c.as_slice-2.ensures c.in_ok-recs.ensures.edited c.in_ok-recs.ensures.shaped

pub slot_with-requires-clause-fits : goal.slot_with-requires-clause-fits
slot_with-requires-clause-fits c =
    fits_slot c.args.edits.now c.args.device c.args.track c.args.slot.now c.in_ok-text.text c.as_slice-2.result.now c.in_ok-recs.recs c.of-at.result c.heads.result
    c.requires.number c.requires.whole c.requires.dscbs c.of-at.ensures c.heads.ensures c.in_ok-text.ensures c.as_slice-2.ensures c.in_ok-recs.ensures.edited c.in_ok-recs.ensures.shaped

pub returns : goal.returns
returns c =
    is_rewritten c.args.edits.now c.args.device c.args.track c.args.slot.now c.in_ok-text.text c.as_slice-2.result.now c.in_ok-recs.recs c.of-at.result c.heads.result
    c.requires.number c.requires.whole c.requires.dscbs c.of-at.ensures c.heads.ensures c.in_ok-text.ensures c.as_slice-2.ensures c.in_ok-recs.ensures.edited c.in_ok-recs.ensures.shaped
    c.in_ok-slot.slot c.in_ok-slot.ensures (subst (λ (recs : List Rec). Any (λ rec. rec_after c.args.edits.now c.args.track rec ≢ rec) recs) c.as_slice.ensures (c.are_changed.ensures.changed changed))
  where
    changed : IsTrue c.are_changed.result
    changed = c.if-not-are_changed.false
