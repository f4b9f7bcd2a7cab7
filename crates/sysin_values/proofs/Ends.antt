-- A bracket ends a value.
use Rattle.std.proofs.Common.{◌≡◌, inl, inr, ℕ, List, refl, ap, false, Some, None}
use Rattle.std.specs.Option.{option_and_then}
use Rattle.dsn_filter.specs.declared.rename.Rename.TheVariants as renames
use Rattle.by_rules.specs.Token as rules
use Rattle.by_rules.specs.declared.state.State.{State}
use Rattle.by_rules.specs.Reading.{step_of, after_step, next}
use Rattle.by_rules.proofs.Reader.{spelled_is_read}
use Rattle.sysin_text.specs.declared.token.Token.TheVariants.{Close}
use Rattle.sysin_values.specs.declared.fault.ValueFault.TheVariants as faults
use Rattle.sysin_values.specs.declared.place.PairPlace.TheVariants as places
use Rattle.sysin_values.specs.declared.place.WaitPlace.TheVariants as wait_places
use Rattle.sysin_values.specs.Values.{IsPatterns, IsOutputs, IsPairs, IsRename, IsCriteria, SaysPattern, SaysDdName, most_entries, most_outputs}
use Rattle.sysin_values.specs.Exact.{EndsAtClose}
use Rattle.sysin_values.specs.Pairs.{pair_start}
use Rattle.sysin_values.specs.Wait.{SpellsWait}
use Rattle.sysin_values.proofs.WordLists as lists
use Rattle.sysin_values.proofs.WordLists.{IsSaid, AreWords}
use Rattle.sysin_values.proofs.PairLists as pairs
use Rattle.sysin_values.proofs.Naming as naming
use Rattle.sysin_values.proofs.Waits as waits
use Rattle.sysin_values.proofs.CriteriaLists as criteria
use Rattle.sysin_values.proofs.Said.{patterns_said, outputs_said}

words_end : {X : Type 0} (Says : List ℕ → X → Type 0) (most : ℕ) → IsSaid Says most → EndsAtClose (AreWords Says most)
words_end Says most said list text (l, few) =
    (lists.exact Says most said).wrong (record { list = list; wants = false }) text Close faults.Word (few refl, inl (refl, l)) (inr (refl, λ e. cc)) (λ e. cc)

pub patterns_end : EndsAtClose IsPatterns
patterns_end = words_end SaysPattern most_entries patterns_said

pub outputs_end : EndsAtClose IsOutputs
outputs_end = words_end SaysDdName most_outputs outputs_said

pub pairs_end : EndsAtClose IsPairs
pairs_end list text (l, few) = pairs.exact.wrong (record { list = list; place = places.Behind }) text Close faults.Word (few refl, inl (refl, l)) (λ e. cc) (λ e. cc)

pub rename_ends : EndsAtClose IsRename
rename_ends renames.Keep text s = absurd s
rename_ends (renames.Prefix name) text (word, e, says) =
    naming.exact.wrong (record { prefix = Some name; pairs = pair_start }) text Close faults.Word
    (inl (name, refl, record { word = word; text_is = e; says = says; first = (refl, refl) })) (inl (name, refl, refl)) (λ e. cc)
rename_ends (renames.Listed list) text (l, few) =
    naming.exact.wrong (record { prefix = None; pairs = record { list = list; place = places.Behind } }) text Close faults.Word
    (inr (refl, (few refl, inl (refl, l)))) (inr (inr (refl, (λ first. let e = first.0.1 in cc), (λ e. cc)))) (λ e. cc)

pub wait_ends : EndsAtClose SpellsWait
wait_ends nothing text waiting =
    waits.exact.wrong wait_places.Ended text Close faults.Word (waits.waiting_is text waiting) (λ none. none) (λ e. cc)

pub criteria_end : EndsAtClose IsCriteria
criteria_end list text (sequence, few) =
    let s = spelled_is_read _ list (record { sequence = sequence; few = few refl }) in
    let none : next s.0 rules.Close ≡ None = ap (λ (state : State). option_and_then (after_step s.0) (step_of state rules.Close)) s.2 in
    criteria.exact.wrong s.0 text Close faults.Word s.1 (none, (λ w. let e = w.1 in cc), (λ e. cc)) (λ e. cc)
