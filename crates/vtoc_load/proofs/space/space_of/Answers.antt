use Rattle.std.proofs.Common.{◌≡◌, ◌≤◌, ◌<◌, ℕ, List, ◌∷◌, All, sym, ap, subst, ◌∙◌, arith}
use Rattle.free_map.specs.declared.run.Run.{Run}
use Rattle.free_map.specs.Runs.{InRuns, AreMaximalRuns}
use Rattle.volume_model.specs.Space.{end_of, usable_of, all_extents, all_entries}
use Rattle.volume_model.specs.Check.{track_0, usable_in, extents_in, entries_in}
use Rattle.vtoc_check.proofs.Joined.{extents_within}
use Rattle.vtoc_core.proofs.Spaces.{free_runs}
use Rattle.vtoc_load.proofs.Usable.{entries_within, usable_most, usable_least}
use Rattle.vtoc_load.proofs.space.space_of.Goals as goal

pub usable_tracks-usable-requires-clause-extents : goal.usable_tracks-usable-requires-clause-extents
usable_tracks-usable-requires-clause-extents c =
    let P : List Run → Type 0 = λ runs. All (λ run. end_of run < 4294967296) runs in
    let vtoc = c.args.vtoc.now in
    subst P (sym (c.deref.ensures.value ∙ c.in_ok-extents.ensures))
    (λ k d lt. omega (arith, extents_within vtoc.heads vtoc.limit c.args.records.now k d lt, c.requires.sized.limit_fits))

pub usable_tracks-usable-requires-clause-entries : goal.usable_tracks-usable-requires-clause-entries
usable_tracks-usable-requires-clause-entries c = λ valid.
    let P : List Run → Type 0 = λ runs. All (λ run. end_of run < 4294967296) runs in
    let vtoc = c.args.vtoc.now in
    subst P (sym (c.deref-2.ensures.value ∙ c.in_ok-entries.ensures ∙ ap (all_entries vtoc.heads) c.requires.records))
    (λ k d lt. omega (arith, entries_within vtoc c.requires.stated valid k d lt, c.requires.sized.limit_fits))

pub unused_tracks-requires-clause-small : goal.unused_tracks-requires-clause-small
unused_tracks-requires-clause-small c =
    let vtoc = c.args.vtoc.now in
    let extents : c.deref.result.now ≡ extents_in vtoc = c.deref.ensures.value ∙ c.in_ok-extents.ensures ∙ ap (all_extents vtoc.heads vtoc.limit) c.requires.records in
    let entries : c.deref-2.result.now ≡ entries_in vtoc = c.deref-2.ensures.value ∙ c.in_ok-entries.ensures ∙ ap (all_entries vtoc.heads) c.requires.records in
    let same : c.usable_tracks-usable.result ≡ usable_in vtoc =
    c.usable_tracks-usable.ensures ∙ (λ i. usable_of vtoc.valid vtoc.heads vtoc.limit vtoc.alternates vtoc.run (extents i) (entries i)) in
    omega (arith, same, usable_most vtoc c.requires.sized c.requires.stated, c.requires.sized.limit_fits)

pub unused_tracks-requires-clause-within : goal.unused_tracks-requires-clause-within
unused_tracks-requires-clause-within c =
    let vtoc = c.args.vtoc.now in
    let all : (runs : List Run) → runs ≡ all_extents vtoc.heads vtoc.limit c.args.records.now → runs ≡ extents_in vtoc = λ runs e. e ∙ ap (all_extents vtoc.heads vtoc.limit) c.requires.records in
    let extents : c.deref.result.now ≡ extents_in vtoc = all c.deref.result.now (c.deref.ensures.value ∙ c.in_ok-extents.ensures) in
    let again : c.deref-3.result.now ≡ extents_in vtoc = all c.deref-3.result.now (c.deref-3.ensures.value ∙ c.in_ok-extents.ensures) in
    let entries : c.deref-2.result.now ≡ entries_in vtoc = c.deref-2.ensures.value ∙ c.in_ok-entries.ensures ∙ ap (all_entries vtoc.heads) c.requires.records in
    let same : c.usable_tracks-usable.result ≡ usable_in vtoc =
    c.usable_tracks-usable.ensures ∙ (λ i. usable_of vtoc.valid vtoc.heads vtoc.limit vtoc.alternates vtoc.run (extents i) (entries i)) in
    let P : ℕ → Type 0 = λ n. All (λ run. end_of run ≤ n) (track_0 ∷ vtoc.run ∷ extents_in vtoc) in
    let Q : List Run → Type 0 = λ runs. All (λ run. end_of run ≤ c.usable_tracks-usable.result) runs in
    subst Q (sym (c.deref-4.ensures.value ∙ c.in_ok-used.ensures ∙ ap (λ (runs : List Run). track_0 ∷ vtoc.run ∷ runs) again)) (subst P (sym same) (usable_least vtoc))

pub returns : goal.returns
returns c =
    let vtoc = c.args.vtoc.now in
    let all : (runs : List Run) → runs ≡ all_extents vtoc.heads vtoc.limit c.args.records.now → runs ≡ extents_in vtoc = λ runs e. e ∙ ap (all_extents vtoc.heads vtoc.limit) c.requires.records in
    let extents : c.deref.result.now ≡ extents_in vtoc = all c.deref.result.now (c.deref.ensures.value ∙ c.in_ok-extents.ensures) in
    let again : c.deref-3.result.now ≡ extents_in vtoc = all c.deref-3.result.now (c.deref-3.ensures.value ∙ c.in_ok-extents.ensures) in
    let entries : c.deref-2.result.now ≡ entries_in vtoc = c.deref-2.ensures.value ∙ c.in_ok-entries.ensures ∙ ap (all_entries vtoc.heads) c.requires.records in
    let usable = c.usable_tracks-usable.result in
    let F : List Run → Type 0 = λ runs. AreMaximalRuns (λ track. (track < usable) × ¬ InRuns runs track) c.in_ok-free.free.runs in
    record {
      usable_is = c.usable_tracks-usable.ensures ∙ (λ i. usable_of vtoc.valid vtoc.heads vtoc.limit vtoc.alternates vtoc.run (extents i) (entries i));
      free_are = free_runs usable vtoc.run (extents_in vtoc) c.in_ok-free.free.runs
          (subst F (c.deref-4.ensures.value ∙ c.in_ok-used.ensures ∙ ap (λ (runs : List Run). track_0 ∷ vtoc.run ∷ runs) again) c.in_ok-free.ensures.unused);
      limit_is = c.in_ok-free.ensures.sizes.0;
      heads_are = c.in_ok-free.ensures.sizes.1;
    }
