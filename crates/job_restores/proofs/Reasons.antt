-- The first reason why a part isn't restored, and that there is none.
use Rattle.std.proofs.Common.{List, [], ◌∷◌, All, refl}
use Rattle.std.proofs.lemmas.List.Elements.{All-nil, All-cons}
use Rattle.by_rules.specs.declared.day.Day.{Day}
use Rattle.enq_table.specs.declared.hold.Hold.{Hold}
use Rattle.job_lines.specs.declared.message.Reason.{Reason}
use Rattle.job_lines.specs.declared.message.Reason.TheVariants as reasons
use Rattle.job_lines.specs.Order.{IsFirst}
use Rattle.job_restores.specs.Case.{Case}
use Rattle.job_restores.specs.Reasons.{PreventsAtFirst, first_reasons}

module _ (held : List Hold) (today : Day) (case : Case) where
  abbrev Lets : Reason → Type 0
  Lets reason = ¬ PreventsAtFirst held today case reason

  -- its format 1 or what it replaces doesn't move
  pub pinned_first : PreventsAtFirst held today case reasons.Pinned → IsFirst (PreventsAtFirst held today case) first_reasons reasons.Pinned
  pinned_first is = record {
    front = [];
    back = reasons.Held ∷ reasons.NotExpired ∷ reasons.NameExists ∷ [];
    list_is = refl;
    holds = is;
    none = All-nil Lets;
  }

  module _ (moves : ¬ PreventsAtFirst held today case reasons.Pinned) where
    -- somebody holds its name
    pub held_first : PreventsAtFirst held today case reasons.Held → IsFirst (PreventsAtFirst held today case) first_reasons reasons.Held
    held_first is = record {
      front = reasons.Pinned ∷ [];
      back = reasons.NotExpired ∷ reasons.NameExists ∷ [];
      list_is = refl;
      holds = is;
      none = All-cons Lets reasons.Pinned [] moves (All-nil Lets);
    }

    module _ (free : ¬ PreventsAtFirst held today case reasons.Held) where
      -- what it replaces is spared
      pub spared_first : PreventsAtFirst held today case reasons.NotExpired → IsFirst (PreventsAtFirst held today case) first_reasons reasons.NotExpired
      spared_first is = record {
        front = reasons.Pinned ∷ reasons.Held ∷ [];
        back = reasons.NameExists ∷ [];
        list_is = refl;
        holds = is;
        none = All-cons Lets reasons.Pinned (reasons.Held ∷ []) moves (All-cons Lets reasons.Held [] free (All-nil Lets));
      }

      module _ (gone : ¬ PreventsAtFirst held today case reasons.NotExpired) where
        -- its name is taken
        pub taken_first : PreventsAtFirst held today case reasons.NameExists → IsFirst (PreventsAtFirst held today case) first_reasons reasons.NameExists
        taken_first is = record {
          front = reasons.Pinned ∷ reasons.Held ∷ reasons.NotExpired ∷ [];
          back = [];
          list_is = refl;
          holds = is;
          none =
              All-cons Lets reasons.Pinned (reasons.Held ∷ reasons.NotExpired ∷ []) moves
              (All-cons Lets reasons.Held (reasons.NotExpired ∷ []) free (All-cons Lets reasons.NotExpired [] gone (All-nil Lets)));
        }

        -- none of that holds
        pub none_first : ¬ PreventsAtFirst held today case reasons.NameExists → All (λ reason. ¬ PreventsAtFirst held today case reason) first_reasons
        none_first new =
            All-cons Lets reasons.Pinned (reasons.Held ∷ reasons.NotExpired ∷ reasons.NameExists ∷ []) moves
            (All-cons Lets reasons.Held (reasons.NotExpired ∷ reasons.NameExists ∷ []) free
            (All-cons Lets reasons.NotExpired (reasons.NameExists ∷ []) gone (All-cons Lets reasons.NameExists [] new (All-nil Lets))))
