-- What a DUMP says once it ended: of each data set why it isn't dumped or, where an output is whole, that it is; and then of each output that is lost.
use Rattle.std.specs.Prelude.{◌≡◌, ◌||◌, ℕ, Bool, true, false, if◌then◌else◌, List, [], ◌∷◌, ◌++◌, Option, Some, None, slice_get}
use Rattle.dd_names.specs.declared.dd.DdName.{DdName}
use Rattle.dsn_filter.specs.declared.dsn.Dsn.{Dsn}
use Rattle.dump_fmt.specs.declared.outs.OutState.{OutState}
use Rattle.dump_fmt.specs.declared.outs.OutState.TheVariants as states
use Rattle.dump_fmt.specs.Outs.{OutSeen}
use Rattle.volume_model.specs.Pinned.{IsNameOf}
use Rattle.job_lines.specs.declared.message.Message.{Message}
use Rattle.job_lines.specs.declared.message.Message.TheVariants as messages
use Rattle.job_lines.specs.declared.message.Reason.{Reason}
use Rattle.job_lines.specs.declared.severity.Severity.TheVariants as severities

-- ---- data sets

-- the line of one, if it has one
abbrev pub SaysSet : Bool → Dsn → Option Reason → List Message → Type 0
SaysSet whole name (Some reason) said = (text : List ℕ) × IsNameOf name text × (said ≡ messages.NotProcessed text reason severities.Error ∷ [])
SaysSet true name None said = (text : List ℕ) × IsNameOf name text × (said ≡ messages.Dumped text ∷ [])
SaysSet false name None said = said ≡ []

-- the lines of all, in their order
abbrev pub SaysSets : Bool → List Dsn → List (Option Reason) → List Message → Type 0
SaysSets whole [] [] said = said ≡ []
SaysSets whole (name ∷ names) (reason ∷ told) said =
    (first : List Message) × (rest : List Message) × SaysSet whole name reason first × SaysSets whole names told rest × (said ≡ first ++ rest)
SaysSets whole _ _ said = ⊥

-- the names of those that are dumped
abbrev pub taken_of : List Dsn → List (Option Reason) → List Dsn
taken_of (name ∷ names) (None ∷ told) = name ∷ taken_of names told
taken_of (name ∷ names) (Some reason ∷ told) = taken_of names told
taken_of _ _ = []

-- ---- outputs

abbrev pub is_whole_state : OutState → Bool
is_whole_state states.Whole = true
is_whole_state _ = false

abbrev pub is_lost_state : OutState → Bool
is_lost_state states.Lost = true
is_lost_state _ = false

-- the output at a place is so
abbrev pub says_state : (OutState → Bool) → Option OutSeen → Bool
says_state says (Some out) = says out.state
says_state says None = false

-- one of the outputs at these places is whole
abbrev pub some_whole : List OutSeen → List ℕ → Bool
some_whole outs [] = false
some_whole outs (place ∷ places) = says_state is_whole_state (slice_get outs place) || some_whole outs places

-- the line of each output that is lost, in the order in which the statement names them
abbrev pub lost_lines : List OutSeen → List DdName → List ℕ → List Message
lost_lines outs (name ∷ names) (place ∷ places) = (if says_state is_lost_state (slice_get outs place) then messages.OutputLost name ∷ [] else []) ++ lost_lines outs names places
lost_lines outs _ _ = []
