use Rattle.std.proofs.Common.{List, ◌≡◌, ◌≤◌, All, sym, ap, ◌∙◌, subst}
use Rattle.std.specs.Prelude.{IfOk}
use Rattle.free_map.specs.declared.run.Run.{Run}
use Rattle.volume_model.specs.Check.{states_free, records_of}
use Rattle.volume_model.specs.Space.{end_of, usable_of, all_extents, all_entries}
use Rattle.vtoc_check.specs.Tracks.{HasTracks}
use Rattle.vtoc_check.proofs.Joined.{extents_within, extents_have, entries_have}
use Rattle.vtoc_check.proofs.free.is_free_stated.Goals as goal

pub are_stated-requires-clause-extents_within : goal.are_stated-requires-clause-extents_within
are_stated-requires-clause-extents_within c =
    let P : List Run → Type 0 = λ runs. All (λ run. end_of run ≤ c.args.vtoc.now.limit) runs in
    subst P (sym (c.deref.ensures.value ∙ c.in_ok-extents.ensures)) (extents_within c.args.vtoc.now.heads c.args.vtoc.now.limit c.args.records.now)

pub are_stated-requires-clause-extents_have : goal.are_stated-requires-clause-extents_have
are_stated-requires-clause-extents_have c =
    let P : List Run → Type 0 = λ runs. All HasTracks runs in
    subst P (sym (c.deref.ensures.value ∙ c.in_ok-extents.ensures)) (extents_have c.args.vtoc.now.heads c.args.vtoc.now.limit c.args.records.now)

pub are_stated-requires-clause-entries_have : goal.are_stated-requires-clause-entries_have
are_stated-requires-clause-entries_have c =
    let P : List Run → Type 0 = λ runs. All HasTracks runs in
    subst P (sym (c.deref-2.ensures.value ∙ c.in_ok-entries.ensures)) (entries_have c.args.vtoc.now.heads c.args.records.now)

pub returns : goal.returns
returns c =
    let vtoc = c.args.vtoc.now in
    let P : List Run → List Run → Type 0 = λ extents entries. IfOk c.are_stated.result
    (λ stated. stated ≡ states_free vtoc.limit vtoc.run extents entries (usable_of vtoc.valid vtoc.heads vtoc.limit vtoc.alternates vtoc.run extents entries)) in
    let Q : List Run → Type 0 = λ extents. P extents c.deref-2.result.now in
    let R : List Run → Type 0 = λ entries. P (all_extents vtoc.heads vtoc.limit (records_of vtoc)) entries in
    subst R (c.deref-2.ensures.value ∙ c.in_ok-entries.ensures ∙ ap (all_entries vtoc.heads) c.requires.records)
    (subst Q (c.deref.ensures.value ∙ c.in_ok-extents.ensures ∙ ap (all_extents vtoc.heads vtoc.limit) c.requires.records) c.are_stated.ensures)
