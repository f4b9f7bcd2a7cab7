use Rattle.std.proofs.Common.{ℕ, List, Bool, ◌∷◌, sym, ap, ◌∙◌, subst}
use Rattle.free_map.specs.declared.run.Run.{Run}
use Rattle.volume_model.specs.Check.{track_0, states_free}
use Rattle.volume_model.specs.Space.{usable_of}
use Rattle.vtoc_check.specs.Tracks.{AreTracksOf}
use Rattle.vtoc_check.proofs.Joined.{not_by_limit, used_have}
use Rattle.vtoc_check.proofs.free.are_stated.Goals as goal

pub returns : goal.returns
returns c =
    let vtoc = c.args.vtoc.now in
    let extents = c.args.extents.now in
    let P : List Run → Type 0 = λ runs. AreTracksOf runs c.in_ok-marks.marks.items in
    let Q : List Bool → Type 0 = λ marks. AreTracksOf (track_0 ∷ vtoc.run ∷ extents) marks in
    c.states_free.ensures vtoc.run extents (subst Q (sym c.deref_mut.ensures.value) (subst P (c.deref.ensures.value ∙ c.in_ok-used.ensures) c.in_ok-marks.ensures.1)) (used_have vtoc.run extents c.requires.sized.run_has c.requires.extents_have)
    ∙ ap (λ (usable : ℕ). states_free vtoc.limit vtoc.run extents c.args.entries.now usable) c.usable_tracks-usable.ensures

pub returns-then-not-all_end_by : goal.returns-then-not-all_end_by
returns-then-not-all_end_by c =
    let vtoc = c.args.vtoc.now in
    not_by_limit vtoc.limit vtoc.run c.args.extents.now c.args.entries.now (usable_of vtoc.valid vtoc.heads vtoc.limit vtoc.alternates vtoc.run c.args.extents.now c.args.entries.now) (sym c.all_end_by.ensures ∙ c.if-not-all_end_by.true)
