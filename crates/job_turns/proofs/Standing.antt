-- How the unit that a statement names stands, as it was loaded, and what that says of the statement.
use Rattle.std.proofs.Common.{◌≡◌, ℕ, zero, suc, ◌-◌, ◌/◌, ◌<◌, ◌≤◌, Bool, true, false, List, [], ◌∷◌, Some, refl, sym, ap, subst, ◌∙◌, arith}
use Rattle.std.specs.Prelude.{slice_get, map}
use Rattle.std.specs.Option.{option_map}
use Rattle.std.proofs.lemmas.Bool.{false≢true}
use Rattle.std.proofs.lemmas.List.Elements.{All-nil, All-cons}
use Rattle.std.proofs.lemmas.Option.{same_Some, slice_get-map, slice_get_within, get_or_from_slice_get}
use Rattle.vol_label.specs.declared.serial.Serial.{Serial}
use Rattle.volume_model.specs.declared.why.Why.{Why}
use Rattle.volume_model.specs.Unit.{OnlineVolume, UnitModel, online}
use Rattle.vtoc_core.specs.declared.volume.Volume.{Volume}
use Rattle.job_copies.specs.unit_change.Described.{Describes}
use Rattle.unit_load.specs.declared.state.UnitState.{UnitState}
use Rattle.unit_load.specs.declared.state.UnitState.TheVariants as loads
use Rattle.job_copies.specs.unit_steps.Loaded.{IsModel, AreModels}
use Rattle.job_copies.specs.unit_steps.Plans.{IsLoadedAt}
use Rattle.job_lines.specs.declared.message.Message.{Message}
use Rattle.job_lines.specs.declared.message.Message.TheVariants as messages
use Rattle.job_turns.specs.declared.units.UnitUse.{UnitUse}
use Rattle.job_turns.specs.Refusal.{IsUnitOf, Standing, gone, ready, standing_of, standing_in, StandsAs, IsUnknown, IsGone, HasIndex, HasLongVtoc, IsFirstNamed, IsNone, Refuses, Lets}
use Rattle.job_turns.specs.Refusal.{IsUnitFor}

-- ---- units as they were loaded stand as those that they are

standing_is : (state : UnitState) (model : UnitModel) → IsModel state model → standing_of model ≡ standing_in state
standing_is (loads.Online loaded) model is = ap standing_of is.1 ∙ (λ i. ready (is.2.indexed_is i) (is.2.vtoc_is i).len)
standing_is (loads.Offline why) model is = ap standing_of is.1

pub standings_are : (states : List UnitState) (models : List UnitModel) → AreModels states models → map standing_of models ≡ map standing_in states
standings_are [] [] are = refl
standings_are [] (model ∷ models) are = absurd are
standings_are (state ∷ states) [] are = absurd are
standings_are (state ∷ states) (model ∷ models) are = λ i. standing_is state model are.0 i ∷ standings_are states models are.1 i

-- what a unit that was loaded is
pub model_of : (states : List UnitState) (models : List UnitModel) → AreModels states models → (unit : ℕ) (state : UnitState) → slice_get states unit ≡ Some state
    → (model : UnitModel) × (slice_get models unit ≡ Some model) × IsModel state model
model_of [] [] are unit state at = absurd (omega (arith, slice_get_within [] unit state at))
model_of [] (model ∷ models) are unit state at = absurd are
model_of (first ∷ states) [] are unit state at = absurd are
model_of (first ∷ states) (model ∷ models) are zero state at = (model, refl, subst (λ s. IsModel s model) (same_Some first state at) are.0)
model_of (first ∷ states) (model ∷ models) are (suc unit) state at = model_of states models are.1 unit state at

-- so a volume that was loaded
pub volume_of : (states : List UnitState) (models : List UnitModel) → AreModels states models → (unit : ℕ) (loaded : Volume) → slice_get states unit ≡ Some (loads.Online loaded)
    → (volume : OnlineVolume) × (slice_get models unit ≡ Some (online volume)) × Describes loaded volume
volume_of states models are unit loaded at =
    let got = model_of states models are unit (loads.Online loaded) at in
    (got.2.0, got.1 ∙ (λ i. Some (got.2.1 i)), got.2.2)

-- ---- a serial has one unit

unit_once : (names : List Serial) (serial : Serial) (a b : ℕ) → IsUnitOf names serial a → IsUnitOf names serial b → a ≡ b
unit_once names serial a b one other =
    let below : ¬ (a < b) = λ less. other.first a less one.name_is in
    let above : ¬ (b < a) = λ less. one.first b less other.name_is in
    omega (arith, below, above)

one_standing : (names : List Serial) (units : List Standing) (serial : Serial) (a b : Standing) → StandsAs names units serial a → StandsAs names units serial b → a ≡ b
one_standing names units serial a b one other =
    same_Some a b (sym one.standing_is ∙ ap (λ (unit : ℕ). slice_get units unit) (unit_once names serial one.unit other.unit one.unit_is other.unit_is) ∙ other.standing_is)

abbrev IsReady : Standing → Type 0
IsReady (ready indexed tracks) = Unit {0}
IsReady (gone why) = ⊥

abbrev index_in : Standing → Bool
index_in (ready indexed tracks) = indexed
index_in (gone why) = false

abbrev length_in : Standing → ℕ
length_in (ready indexed tracks) = tracks
length_in (gone why) = 0

-- ---- what holds of a named unit

module _ (names : List Serial) (states : List UnitState) (named : UnitUse) (unit : ℕ) (is : IsUnitOf names named.serial unit) where
  pub is_known : ¬ IsUnknown names named
  is_known none = none unit named.serial (slice_get_within names unit named.serial is.name_is) (get_or_from_slice_get names unit named.serial named.serial is.name_is)

  pub stands_so : (state : UnitState) → slice_get states unit ≡ Some state → StandsAs names (map standing_in states) named.serial (standing_in state)
  stands_so state at = record {
    unit = unit;
    unit_is = is;
    standing_is = slice_get-map standing_in states unit ∙ (λ i. option_map standing_in (at i));
  }

  pub is_gone : (why : Why) → slice_get states unit ≡ Some (loads.Offline why) → IsGone names (map standing_in states) named
  is_gone why at = (why, stands_so (loads.Offline why) at)

  module _ (volume : Volume) (at : IsLoadedAt states unit volume) where
    stands : StandsAs names (map standing_in states) named.serial (ready volume.indexed volume.vtoc.len)
    stands = stands_so (loads.Online volume) at

    -- its standing is the one in which it was loaded
    same_standing : (standing : Standing) → StandsAs names (map standing_in states) named.serial standing → ready volume.indexed volume.vtoc.len ≡ standing
    same_standing standing other = one_standing names (map standing_in states) named.serial (ready volume.indexed volume.vtoc.len) standing stands other

    pub is_there : ¬ IsGone names (map standing_in states) named
    is_there went = subst IsReady (same_standing (gone went.0) went.1) (tt {0})

    pub has_index : named.changes ≡ true → volume.indexed ≡ true → HasIndex names (map standing_in states) named
    has_index changes indexed =
        (changes, (volume.vtoc.len, subst (λ (b : Bool). StandsAs names (map standing_in states) named.serial (ready b volume.vtoc.len)) indexed stands))

    pub has_no_index : (named.changes ≡ true → volume.indexed ≡ false) → ¬ HasIndex names (map standing_in states) named
    has_no_index plain has = false≢true (sym (plain has.0) ∙ ap index_in (same_standing (ready true has.1.0) has.1.1))

    pub has_long_vtoc : (room : ℕ) → named.changes ≡ true → (room - 1) / 2 < volume.vtoc.len → HasLongVtoc names room (map standing_in states) named
    has_long_vtoc room changes long = (changes, (volume.vtoc.len, long, (volume.indexed, stands)))

    pub has_short_vtoc : (room : ℕ) → (named.changes ≡ true → volume.vtoc.len ≤ (room - 1) / 2) → ¬ HasLongVtoc names room (map standing_in states) named
    has_short_vtoc room short has =
        let same : volume.vtoc.len ≡ has.1.0 = ap length_in (same_standing (ready has.1.2.0 has.1.0) has.1.2.1) in omega (arith, short has.0, has.1.1, same)

    pub is_unit_for : (count room : ℕ) → unit < count → (named.changes ≡ true → volume.indexed ≡ false) → (named.changes ≡ true → volume.vtoc.len ≤ (room - 1) / 2)
        → IsUnitFor count names room states named unit
    is_unit_for count room below plain short = record {
      unit_is = is;
      below = below;
      volume = volume;
      loaded = at;
      may = λ changes. record { volume = volume; loaded = at; not_indexed = plain changes; few_tracks = short changes };
    }

-- ---- one unit is named

module _ (P : UnitUse → Type 0) (named : UnitUse) where
  only : ¬ P named → IsNone P (named ∷ [])
  only fails = All-cons (λ (some : UnitUse). ¬ P some) named [] fails (All-nil (λ (some : UnitUse). ¬ P some))

  pub first_is : (others : List UnitUse) → P named → IsFirstNamed P (named ∷ others) named.serial
  first_is others is = (named, record { front = []; back = others; list_is = refl; holds = is; none = All-nil (λ (some : UnitUse). ¬ P some) }, refl)

module _ (names : List Serial) (room : ℕ) (states : List UnitState) (named : UnitUse) where
  pub unknown_refused : (message : Message) → IsUnknown names named × (message ≡ messages.UnknownName named.serial)
      → Refuses names room (map standing_in states) (named ∷ []) message
  unknown_refused message (unknown, says) = subst (Refuses names room (map standing_in states) (named ∷ [])) (sym says) (first_is (IsUnknown names) named [] unknown)

  module _ (unit : ℕ) (is : IsUnitOf names named.serial unit) where
    known : IsNone (IsUnknown names) (named ∷ [])
    known = only (IsUnknown names) named (is_known names states named unit is)

    pub offline_refused : (message : Message) → (why : Why) × (slice_get states unit ≡ Some (loads.Offline why)) × (message ≡ messages.Offline named.serial why)
        → Refuses names room (map standing_in states) (named ∷ []) message
    offline_refused message (why, at, says) =
        subst (Refuses names room (map standing_in states) (named ∷ [])) (sym says)
        (known, first_is (IsGone names (map standing_in states)) named [] (is_gone names states named unit is why at), stands_so names states named unit is (loads.Offline why) at)

    module _ (volume : Volume) (at : IsLoadedAt states unit volume) where
      there : IsNone (IsGone names (map standing_in states)) (named ∷ [])
      there = only (IsGone names (map standing_in states)) named (is_there names states named unit is volume at)

      pub indexed_refused : (message : Message) → (named.changes ≡ true) × (volume.indexed ≡ true) × (message ≡ messages.Indexed named.serial)
          → Refuses names room (map standing_in states) (named ∷ []) message
      indexed_refused message (changes, indexed, says) =
          subst (Refuses names room (map standing_in states) (named ∷ [])) (sym says)
          (known, there, first_is (HasIndex names (map standing_in states)) named [] (has_index names states named unit is volume at changes indexed))

      module _ (plain : named.changes ≡ true → volume.indexed ≡ false) where
        not_indexed : IsNone (HasIndex names (map standing_in states)) (named ∷ [])
        not_indexed = only (HasIndex names (map standing_in states)) named (has_no_index names states named unit is volume at plain)

        pub long_refused : (message : Message) → (named.changes ≡ true) × ((room - 1) / 2 < volume.vtoc.len) × (message ≡ messages.VtocTooLong named.serial)
            → Refuses names room (map standing_in states) (named ∷ []) message
        long_refused message (changes, long, says) =
            subst (Refuses names room (map standing_in states) (named ∷ [])) (sym says)
            (known, there, not_indexed, first_is (HasLongVtoc names room (map standing_in states)) named [] (has_long_vtoc names states named unit is volume at room changes long))

        pub all_lets : (named.changes ≡ true → volume.vtoc.len ≤ (room - 1) / 2) → Lets names room (map standing_in states) (named ∷ [])
        all_lets short = record {
          known = known;
          there = there;
          not_indexed = not_indexed;
          not_long = only (HasLongVtoc names room (map standing_in states)) named (has_short_vtoc names states named unit is volume at room short);
        }
