-- What two named units say of a statement: each is asked of both before the next is.
use Rattle.std.proofs.Common.{◌≡◌, ℕ, ◌-◌, ◌/◌, ◌<◌, ◌≤◌, true, false, List, [], ◌∷◌, Some, refl, sym, subst}
use Rattle.std.specs.Prelude.{slice_get, map}
use Rattle.std.proofs.lemmas.List.Elements.{All-nil, All-cons}
use Rattle.vol_label.specs.declared.serial.Serial.{Serial}
use Rattle.volume_model.specs.declared.why.Why.{Why}
use Rattle.vtoc_core.specs.declared.volume.Volume.{Volume}
use Rattle.unit_load.specs.declared.state.UnitState.{UnitState}
use Rattle.unit_load.specs.declared.state.UnitState.TheVariants as loads
use Rattle.job_copies.specs.unit_steps.Plans.{IsLoadedAt}
use Rattle.job_lines.specs.declared.message.Message.{Message}
use Rattle.job_lines.specs.declared.message.Message.TheVariants as messages
use Rattle.job_turns.specs.declared.units.UnitUse.{UnitUse}
use Rattle.job_turns.specs.Refusal.{IsUnitOf, standing_in, IsUnknown, IsGone, HasIndex, HasLongVtoc, IsFirstNamed, IsNone, Refuses, Lets}
use Rattle.job_turns.proofs.Standing.{is_known, stands_so, is_gone, is_there, has_index, has_no_index, has_long_vtoc, has_short_vtoc, first_is}

module _ (P : UnitUse → Type 0) (one other : UnitUse) where
  neither : ¬ P one → ¬ P other → IsNone P (one ∷ other ∷ [])
  neither fails fails_too =
      All-cons (λ (some : UnitUse). ¬ P some) one (other ∷ []) fails (All-cons (λ (some : UnitUse). ¬ P some) other [] fails_too (All-nil (λ (some : UnitUse). ¬ P some)))

  second_is : ¬ P one → P other → IsFirstNamed P (one ∷ other ∷ []) other.serial
  second_is fails is = (
    other,
    record {
      front = one ∷ [];
      back = [];
      list_is = refl;
      holds = is;
      none = All-cons (λ (some : UnitUse). ¬ P some) one [] fails (All-nil (λ (some : UnitUse). ¬ P some));
    },
    refl,
  )

module _ (names : List Serial) (room : ℕ) (states : List UnitState) (one other : UnitUse) where
  abbrev Refused : Message → Type 0
  Refused message = Refuses names room (map standing_in states) (one ∷ other ∷ []) message

  pub first_unknown : (message : Message) → IsUnknown names one × (message ≡ messages.UnknownName one.serial) → Refused message
  first_unknown message (unknown, says) = subst Refused (sym says) (first_is (IsUnknown names) one (other ∷ []) unknown)

  module _ (from : ℕ) (from_is : IsUnitOf names one.serial from) where
    pub second_unknown : (message : Message) → IsUnknown names other × (message ≡ messages.UnknownName other.serial) → Refused message
    second_unknown message (unknown, says) = subst Refused (sym says) (second_is (IsUnknown names) one other (is_known names states one from from_is) unknown)

    module _ (to : ℕ) (to_is : IsUnitOf names other.serial to) where
      known : IsNone (IsUnknown names) (one ∷ other ∷ [])
      known = neither (IsUnknown names) one other (is_known names states one from from_is) (is_known names states other to to_is)

      pub first_offline : (message : Message) → (why : Why) × (slice_get states from ≡ Some (loads.Offline why)) × (message ≡ messages.Offline one.serial why) → Refused message
      first_offline message (why, at, says) = subst Refused (sym says) (
        known,
        first_is (IsGone names (map standing_in states)) one (other ∷ []) (is_gone names states one from from_is why at),
        stands_so names states one from from_is (loads.Offline why) at,
      )

      module _ (source : Volume) (at_source : IsLoadedAt states from source) where
        source_there : ¬ IsGone names (map standing_in states) one
        source_there = is_there names states one from from_is source at_source

        pub second_offline : (message : Message) → (why : Why) × (slice_get states to ≡ Some (loads.Offline why)) × (message ≡ messages.Offline other.serial why)
            → Refused message
        second_offline message (why, at, says) = subst Refused (sym says) (
          known,
          second_is (IsGone names (map standing_in states)) one other source_there (is_gone names states other to to_is why at),
          stands_so names states other to to_is (loads.Offline why) at,
        )

        module _ (target : Volume) (at_target : IsLoadedAt states to target) where
          there : IsNone (IsGone names (map standing_in states)) (one ∷ other ∷ [])
          there = neither (IsGone names (map standing_in states)) one other source_there (is_there names states other to to_is target at_target)

          pub first_indexed : (message : Message) → (one.changes ≡ true) × (source.indexed ≡ true) × (message ≡ messages.Indexed one.serial) → Refused message
          first_indexed message (changes, indexed, says) = subst Refused (sym says) (
            known,
            there,
            first_is (HasIndex names (map standing_in states)) one (other ∷ []) (has_index names states one from from_is source at_source changes indexed),
          )

          module _ (plain : one.changes ≡ true → source.indexed ≡ false) where
            source_plain : ¬ HasIndex names (map standing_in states) one
            source_plain = has_no_index names states one from from_is source at_source plain

            pub second_indexed : (message : Message) → (other.changes ≡ true) × (target.indexed ≡ true) × (message ≡ messages.Indexed other.serial) → Refused message
            second_indexed message (changes, indexed, says) = subst Refused (sym says) (
              known,
              there,
              second_is (HasIndex names (map standing_in states)) one other source_plain (has_index names states other to to_is target at_target changes indexed),
            )

            module _ (plain_too : other.changes ≡ true → target.indexed ≡ false) where
              not_indexed : IsNone (HasIndex names (map standing_in states)) (one ∷ other ∷ [])
              not_indexed =
                  neither (HasIndex names (map standing_in states)) one other source_plain (has_no_index names states other to to_is target at_target plain_too)

              pub first_long : (message : Message) → (one.changes ≡ true) × ((room - 1) / 2 < source.vtoc.len) × (message ≡ messages.VtocTooLong one.serial)
                  → Refused message
              first_long message (changes, long, says) = subst Refused (sym says) (
                known,
                there,
                not_indexed,
                first_is (HasLongVtoc names room (map standing_in states)) one (other ∷ [])
                    (has_long_vtoc names states one from from_is source at_source room changes long),
              )

              module _ (short : one.changes ≡ true → source.vtoc.len ≤ (room - 1) / 2) where
                source_short : ¬ HasLongVtoc names room (map standing_in states) one
                source_short = has_short_vtoc names states one from from_is source at_source room short

                pub second_long : (message : Message) → (other.changes ≡ true) × ((room - 1) / 2 < target.vtoc.len) × (message ≡ messages.VtocTooLong other.serial)
                    → Refused message
                second_long message (changes, long, says) = subst Refused (sym says) (
                  known,
                  there,
                  not_indexed,
                  second_is (HasLongVtoc names room (map standing_in states)) one other source_short
                      (has_long_vtoc names states other to to_is target at_target room changes long),
                )

                pub both_let : (other.changes ≡ true → target.vtoc.len ≤ (room - 1) / 2) → Lets names room (map standing_in states) (one ∷ other ∷ [])
                both_let short_too = record {
                  known = known;
                  there = there;
                  not_indexed = not_indexed;
                  not_long =
                      neither (HasLongVtoc names room (map standing_in states)) one other source_short
                      (has_short_vtoc names states other to to_is target at_target room short_too);
                }
