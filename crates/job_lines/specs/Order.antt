-- The order in which the reasons of a data set are judged.
use Rattle.std.specs.Prelude.{◌≡◌, List, [], ◌∷◌, ◌++◌, All}
use Rattle.job_lines.specs.declared.message.Reason.{Reason}
use Rattle.job_lines.specs.declared.message.Reason.TheVariants as reasons

-- the first element of a list of which something holds
pub record IsFirst {X : Type 0} (Holds : X → Type 0) (list : List X) (x : X) : Type 0 where
  pub front : List X
  pub back : List X
  pub list_is : list ≡ front ++ (x ∷ back)
  pub holds : Holds x
  pub none : All (λ other. ¬ Holds other) front

-- the reasons, in that order
abbrev pub in_order : List Reason
in_order =
    reasons.NewNameTooLong ∷ reasons.Pinned ∷ reasons.Held ∷ reasons.NotExpired ∷ reasons.NameExists ∷ reasons.BadTrack ∷ reasons.NotRelocatable
    ∷ reasons.BlockTooLong ∷ reasons.NoSpace ∷ reasons.VtocFull ∷ []

-- the one that is told: the first whose condition holds
abbrev pub IsReason : (Reason → Type 0) → Reason → Type 0
IsReason Prevents reason = IsFirst Prevents in_order reason

abbrev pub HasNoReason : (Reason → Type 0) → Type 0
HasNoReason Prevents = (reason : Reason) → ¬ Prevents reason
