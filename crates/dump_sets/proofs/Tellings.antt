-- What is said of the data sets and the outputs of a DUMP, one after the other.
use Rattle.std.proofs.Common.{◌≡◌, ℕ, zero, suc, ◌+◌, ◌<◌, ◌≤◌, Bool, true, false, List, [], ◌∷◌, ◌++◌, length, map, get_or, take, Option, Some, None, refl, sym, ap, subst, ◌∙◌, arith}
use Rattle.std.specs.Prelude.{if◌then◌else◌, slice_get}
use Rattle.std.specs.Option.{is_some, option_map}
use Rattle.std.proofs.lemmas.Bool.{false≢true, or_left, or_right, or_from, or_parts}
use Rattle.std.proofs.lemmas.List.{append-nil, append_assoc, take_more, take_all, length-take-le}
use Rattle.std.proofs.lemmas.Option.{slice_get-map, slice_get-get_or}
use denote.Enum.Bare.{sameb}
use Rattle.dd_names.specs.declared.dd.DdName.{DdName}
use Rattle.dsn_filter.specs.declared.dsn.Dsn.{Dsn}
use Rattle.dump_fmt.specs.Outs.{OutSeen}
use Rattle.dump_fmt.specs.declared.outs.OutState.{OutState}
use Rattle.dump_fmt.specs.declared.outs.OutState.TheVariants as states
use Rattle.dump_fmt.specs.contracts.outs.OutState.{the_type}
use Rattle.job_lines.specs.declared.message.Message.{Message}
use Rattle.job_lines.specs.declared.message.Message.TheVariants as messages
use Rattle.job_lines.specs.declared.message.Reason.{Reason}
use Rattle.job_lines.specs.declared.severity.Severity.TheVariants as severities
use Rattle.volume_model.specs.Pinned.{IsNameOf}
use Rattle.dump_sets.specs.Telling.{SaysSet, SaysSets, taken_of, is_whole_state, is_lost_state, says_state, some_whole, lost_lines}

-- ---- data sets

-- what is read behind the last name and the last reason
abbrev pub no_set : Dsn
no_set = record { len = 0; text = [] }

abbrev pub no_reason : Option Reason
no_reason = None

-- the lines of one more data set stand behind those of the data sets before it
pub says_more : (whole : Bool) (names : List Dsn) (told : List (Option Reason)) (more first : List Message) (name : Dsn) (reason : Option Reason)
    → SaysSets whole names told more → SaysSet whole name reason first → SaysSets whole (names ++ name ∷ []) (told ++ reason ∷ []) (more ++ first)
says_more whole [] [] more first name reason so one = (first, [], one, refl, ap (λ (m : List Message). m ++ first) so ∙ sym (append-nil first))
says_more whole [] (r ∷ told) more first name reason so one = absurd so
says_more whole (n ∷ names) [] more first name reason so one = absurd so
says_more whole (n ∷ names) (r ∷ told) more first name reason so one = (
  so.0,
  so.1 ++ first,
  so.2,
  says_more whole names told so.1 first name reason so.3 one,
  ap (λ (m : List Message). m ++ first) so.4 ∙ append_assoc so.0 so.1 first,
)

-- the lines of the first k data sets were added
pub record SaidSoFar (whole : Bool) (names : List Dsn) (told : List (Option Reason)) (k : ℕ) (old new : List Message) : Type 0 where
  pub more : List Message
  pub says : SaysSets whole (take k names) (take k told) more
  pub added : new ≡ old ++ more

pub none_said : (whole : Bool) (names : List Dsn) (told : List (Option Reason)) (old : List Message) → SaidSoFar whole names told 0 old old
none_said whole names told old = record { more = []; says = refl; added = sym (append-nil old) }

pub one_said : (whole : Bool) (names : List Dsn) (told : List (Option Reason)) (k : ℕ) (old new : List Message) (name : Dsn) (reason : Option Reason) (first : List Message)
    → k < length names → k < length told → name ≡ get_or names k no_set → reason ≡ get_or told k no_reason
    → SaysSet whole name reason first → SaidSoFar whole names told k old new → SaidSoFar whole names told (k + 1) old (new ++ first)
one_said whole names told k old new name reason first less as_less named at one so = record {
  more = so.more ++ first;
  says = rw (take_more names k no_set less, take_more told k no_reason as_less, ← named, ← at)
      (says_more whole (take k names) (take k told) so.more first name reason so.says one);
  added = ap (λ (m : List Message). m ++ first) so.added ∙ append_assoc old so.more first;
}

pub all_said : (whole : Bool) (names : List Dsn) (told : List (Option Reason)) (k : ℕ) (old new : List Message)
    → length names ≤ k → length told ≤ k → SaidSoFar whole names told k old new → (more : List Message) × SaysSets whole names told more × (new ≡ old ++ more)
all_said whole names told k old new all as_all so = (so.more, rw (take_all k names all, take_all k told as_all) at so.says, so.added)

-- the lines of one data set
pub reason_said : (whole : Bool) (name : Dsn) (told : Option Reason) (reason : Reason) (text : List ℕ)
    → told ≡ Some reason → IsNameOf name text → SaysSet whole name told (messages.NotProcessed text reason severities.Error ∷ [])
reason_said whole name told reason text is named = subst (λ (t : Option Reason). SaysSet whole name t (messages.NotProcessed text reason severities.Error ∷ [])) (sym is) (text, named, refl)

pub dumped_said : (whole : Bool) (name : Dsn) (told : Option Reason) (text : List ℕ)
    → told ≡ None → whole ≡ true → IsNameOf name text → SaysSet whole name told (messages.Dumped text ∷ [])
dumped_said whole name told text is does named =
    subst (λ (t : Option Reason). SaysSet whole name t (messages.Dumped text ∷ [])) (sym is) (subst (λ (w : Bool). SaysSet w name None (messages.Dumped text ∷ [])) (sym does) (text, named, refl))

pub nothing_said : (whole : Bool) (name : Dsn) (told : Option Reason) → told ≡ None → whole ≡ false → SaysSet whole name told []
nothing_said whole name told is not = subst (λ (t : Option Reason). SaysSet whole name t []) (sym is) (subst (λ (w : Bool). SaysSet w name None []) (sym not) refl)

-- one more data set is taken, or not
pub taken_more : (names : List Dsn) (told : List (Option Reason)) (name : Dsn) (reason : Option Reason)
    → length told ≡ length names → taken_of (names ++ name ∷ []) (told ++ reason ∷ []) ≡ taken_of names told ++ taken_of (name ∷ []) (reason ∷ [])
taken_more [] [] name reason count = refl
taken_more [] (r ∷ told) name reason count = absurd (omega (arith, count))
taken_more (n ∷ names) [] name reason count = absurd (omega (arith, count))
taken_more (n ∷ names) (None ∷ told) name reason count = ap (λ (l : List Dsn). n ∷ l) (taken_more names told name reason (omega (arith, count)))
taken_more (n ∷ names) (Some r ∷ told) name reason count = taken_more names told name reason (omega (arith, count))

pub taken_front : (names : List Dsn) (told : List (Option Reason)) (k : ℕ) (name : Dsn) (reason : Option Reason)
    → k < length names → k < length told → name ≡ get_or names k no_set → reason ≡ get_or told k no_reason
    → taken_of (take (k + 1) names) (take (k + 1) told) ≡ taken_of (take k names) (take k told) ++ taken_of (name ∷ []) (reason ∷ [])
taken_front names told k name reason less as_less named at =
    rw (take_more names k no_set less, take_more told k no_reason as_less, ← named, ← at)
    (taken_more (take k names) (take k told) name reason (omega (arith, length-take-le k names (omega (arith, less)), length-take-le k told (omega (arith, as_less)))))

pub taken_one : (name : Dsn) (reason : Option Reason) → is_some reason ≡ false → taken_of (name ∷ []) (reason ∷ []) ≡ name ∷ []
taken_one name None is = refl
taken_one name (Some r) is = absurd (false≢true (sym is))

pub taken_none : (name : Dsn) (reason : Option Reason) → is_some reason ≡ true → taken_of (name ∷ []) (reason ∷ []) ≡ []
taken_none name None is = absurd (false≢true is)
taken_none name (Some r) is = refl

-- ---- outputs

-- the line of one output, if it is lost
abbrev pub lost_line : List OutSeen → DdName → ℕ → List Message
lost_line outs name place = if says_state is_lost_state (slice_get outs place) then messages.OutputLost name ∷ [] else []

-- one more output is lost, or not
pub lost_more : (outs : List OutSeen) (names : List DdName) (places : List ℕ) (name : DdName) (place : ℕ)
    → length places ≡ length names → lost_lines outs (names ++ name ∷ []) (places ++ place ∷ []) ≡ lost_lines outs names places ++ lost_line outs name place
lost_more outs [] [] name place count = append-nil (lost_line outs name place)
lost_more outs [] (p ∷ places) name place count = absurd (omega (arith, count))
lost_more outs (n ∷ names) [] name place count = absurd (omega (arith, count))
lost_more outs (n ∷ names) (p ∷ places) name place count =
    ap (λ (l : List Message). lost_line outs n p ++ l) (lost_more outs names places name place (omega (arith, count)))
    ∙ sym (append_assoc (lost_line outs n p) (lost_lines outs names places) (lost_line outs name place))

-- what is read behind the last name
abbrev pub no_name : DdName
no_name = record { len = 0; text = [] }

pub lost_front : (outs : List OutSeen) (names : List DdName) (places : List ℕ) (k : ℕ) (name : DdName) (place : ℕ)
    → k < length names → k < length places → name ≡ get_or names k no_name → place ≡ get_or places k 0
    → lost_lines outs (take (k + 1) names) (take (k + 1) places) ≡ lost_lines outs (take k names) (take k places) ++ lost_line outs name place
lost_front outs names places k name place less as_less named at =
    rw (take_more names k no_name less, take_more places k 0 as_less, ← named, ← at)
    (lost_more outs (take k names) (take k places) name place (omega (arith, length-take-le k names (omega (arith, less)), length-take-le k places (omega (arith, as_less)))))

-- the tests of a state
pub whole_same : (state : OutState) → sameb the_type state states.Whole ≡ is_whole_state state
whole_same states.Unused = refl
whole_same states.Whole = refl
whole_same states.Lost = refl
whole_same states.Cut = refl

pub lost_same : (state : OutState) → sameb the_type state states.Lost ≡ is_lost_state state
lost_same states.Unused = refl
lost_same states.Whole = refl
lost_same states.Lost = refl
lost_same states.Cut = refl

-- what is told of the output at a place is told of its state
pub state_at : {X : Type 0} (seen : X → OutSeen) (outs : List X) (says : OutState → Bool) (place : ℕ) (d : X)
    → place < length outs → says_state says (slice_get (map seen outs) place) ≡ says (seen (get_or outs place d)).state
state_at {X} seen outs says place d less =
    ap (λ (out : Option OutSeen). says_state says out) (slice_get-map seen outs place ∙ ap (λ (o : Option X). option_map seen o) (slice_get-get_or outs place d less))

-- the line of an output that is lost was added, and nothing of one that isn't
module _ {X : Type 0} (seen : X → OutSeen) (outs : List X) (names : List DdName) (places : List ℕ) (k : ℕ) (name : DdName) (place : ℕ) (d : X) (less : k < length names)
    (as_less : k < length places) (named : name ≡ get_or names k no_name) (at : place ≡ get_or places k 0) (within : place < length outs) where
  added : (says : Bool) → is_lost_state (seen (get_or outs place d)).state ≡ says → (old new : List Message) → new ≡ old ++ lost_lines (map seen outs) (take k names) (take k places)
      → new ++ (if says then messages.OutputLost name ∷ [] else []) ≡ old ++ lost_lines (map seen outs) (take (k + 1) names) (take (k + 1) places)
  added says is old new so =
      let line : (if says then messages.OutputLost name ∷ [] else []) ≡ lost_line (map seen outs) name place =
      ap (λ (b : Bool). if b then messages.OutputLost name ∷ [] else []) (sym (state_at seen outs is_lost_state place d within ∙ is)) in
      rw (so, line, lost_front (map seen outs) names places k name place less as_less named at)
      (append_assoc old (lost_lines (map seen outs) (take k names) (take k places)) (lost_line (map seen outs) name place))

  pub lost_added : is_lost_state (seen (get_or outs place d)).state ≡ true → (old new : List Message) → new ≡ old ++ lost_lines (map seen outs) (take k names) (take k places)
      → new ++ messages.OutputLost name ∷ [] ≡ old ++ lost_lines (map seen outs) (take (k + 1) names) (take (k + 1) places)
  lost_added = added true

  pub not_lost_added : is_lost_state (seen (get_or outs place d)).state ≡ false → (old new : List Message) → new ≡ old ++ lost_lines (map seen outs) (take k names) (take k places)
      → new ≡ old ++ lost_lines (map seen outs) (take (k + 1) names) (take (k + 1) places)
  not_lost_added is old new so = sym (append-nil new) ∙ added false is old new so

-- an output that is whole is found
pub one_whole : (outs : List OutSeen) (places : List ℕ) (k : ℕ) → k < length places → says_state is_whole_state (slice_get outs (get_or places k 0)) ≡ true → some_whole outs places ≡ true
one_whole outs [] k less is = absurd (omega (arith, less))
one_whole outs (p ∷ places) zero less is = or_left (says_state is_whole_state (slice_get outs p)) (some_whole outs places) is
one_whole outs (p ∷ places) (suc k) less is = or_right (says_state is_whole_state (slice_get outs p)) (some_whole outs places) (one_whole outs places k (omega (arith, less)) is)

none_more : (outs : List OutSeen) (places : List ℕ) (place : ℕ) → some_whole outs places ≡ false → says_state is_whole_state (slice_get outs place) ≡ false → some_whole outs (places ++ place ∷ []) ≡ false
none_more outs [] place none not = or_from (says_state is_whole_state (slice_get outs place)) false not refl
none_more outs (p ∷ places) place none not =
    let parts = or_parts (says_state is_whole_state (slice_get outs p)) (some_whole outs places) none in
    or_from (says_state is_whole_state (slice_get outs p)) (some_whole outs (places ++ place ∷ [])) parts.0 (none_more outs places place parts.1 not)

-- one more output that isn't whole, where none before it is
pub none_front : (outs : List OutSeen) (places : List ℕ) (k : ℕ) → k < length places → some_whole outs (take k places) ≡ false
    → says_state is_whole_state (slice_get outs (get_or places k 0)) ≡ false → some_whole outs (take (k + 1) places) ≡ false
none_front outs places k less none not = rw (take_more places k 0 less) (none_more outs (take k places) (get_or places k 0) none not)

-- whether the output at a place is whole, by the test of its state
pub whole_here : {X : Type 0} (seen : X → OutSeen) (outs : List X) (place : ℕ) (d : X) (whole : Bool)
    → place < length outs → whole ≡ sameb the_type (seen (get_or outs place d)).state states.Whole → says_state is_whole_state (slice_get (map seen outs) place) ≡ whole
whole_here seen outs place d whole less is = state_at seen outs is_whole_state place d less ∙ sym (whole_same (seen (get_or outs place d)).state) ∙ sym is
