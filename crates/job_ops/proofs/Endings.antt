-- How a statement ends, from how what it does ends.
use Rattle.std.proofs.Common.{◌≡◌, ◌⊎◌, inl, inr, List, [], ◌∷◌, ◌++◌, take, None, Ok, Err, refl, sym, ap, subst, ◌∙◌}
use Rattle.std.specs.Prelude.{Result, IfOk, IfErr, map}
use Rattle.std.proofs.lemmas.List.{append-nil, append_cancel_left}
use Rattle.by_rules.specs.declared.day.Day.{Day}
use Rattle.dasd_pool.specs.declared.pool.Pool.{Ghosts}
use Rattle.dump_fmt.specs.declared.outs.OutDd.{OutDd}
use Rattle.dump_fmt.specs.Outs.{OutSeen, InSeen, Files}
use Rattle.enq_table.specs.declared.hold.Hold.{Hold}
use Rattle.sysin_lang.specs.declared.command.Command.{Command}
use Rattle.move_core.specs.declared.steps.Step.{Step}
use Rattle.move_core.specs.Facts.{shown}
use Rattle.move_core.specs.Runs.{IsRun}
use Rattle.dump_sets.specs.job_turns.job_steps.unit_session.Sessions.{SessionView}
use Rattle.dump_sets.specs.job_turns.job_steps.declared.cut.Cut.{Cut}
use Rattle.dump_sets.specs.job_turns.job_steps.declared.cut.Cut.TheVariants as cuts
use Rattle.dump_sets.specs.job_turns.job_steps.Carried.{IsShort}
use Rattle.job_lines.specs.declared.message.Message.{Message}
use Rattle.job_lines.specs.declared.message.Message.TheVariants as messages
use Rattle.job_lines.specs.Severity.{greatest_code}
use Rattle.job_ops.specs.declared.outcome.Outcome.{Outcome}
use Rattle.job_ops.specs.declared.outcome.Outcome.TheVariants as outcomes
use Rattle.dump_sets.specs.job_turns.job_acts.Acting.{KeepsFacts}
use Rattle.dump_sets.specs.job_turns.Ends.{Ends}
use Rattle.job_ops.specs.Ends.{EndsStatement, HasOuts, IsCutOutcome, IsDoneOutcome, LeavesSession, LeavesUsed, IsUnchanged}
use Rattle.dump_sets.specs.job_outputs.Kept.{KeepsUsed}
use Rattle.job_ops.specs.Meaning.{IsCutWithOutputs, IsFramed, MeansWhole, MeansWithOutputs, verb_of}
use Rattle.dump_sets.specs.job_turns.Setting.{setting_of}

module _ {P B : Type 0} {Own : B → Type 0} (pools : Ghosts P) (seen : OutDd B Own → OutSeen) (files : Files) (ins : List InSeen) (given : List (OutDd B Own)) (session : SessionView P) where
  module _ (next : SessionView P) (command : Command) (held : List Hold) (today : Day) (before after : List Step) (said : List Message)
      (ends : Ends pools (MeansWhole (MeansWithOutputs (setting_of pools session held today) command files.outs (map seen given)) command)
      (IsCutWithOutputs (setting_of pools session held today) command files.outs (map seen given)) session before after [] said (Ok next))
      (framed : IsFramed command said) where
    pub ends_done : (outcome : Outcome P B Own) → IsDoneOutcome next given after said outcome → EndsStatement pools seen files ins session command held today before outcome
    ends_done (outcomes.Done kept outs report steps) is = (
      ends.added,
      is.1 ∙ ends.steps_are,
      subst (λ (s : SessionView P). KeepsFacts pools session s) (sym is.0) ends.facts,
      subst (λ (s : SessionView P). IsRun pools.tells (shown pools session.pool) (shown pools s.pool) (Unit {0}) ends.added None) (sym is.0) ends.run,
      λ inputs told units settled. record {
        means =
            subst (λ (list : List (OutDd B Own)). MeansWhole (MeansWithOutputs (setting_of pools session held today) command files.outs (map seen list)) command units ends.added report.messages) (sym is.4)
            (subst (λ (l : List Message). MeansWhole (MeansWithOutputs (setting_of pools session held today) command files.outs (map seen given)) command units ends.added l) (sym (is.2 ∙ ends.messages_are))
            (ends.ended told units settled));
        code_is = is.3 ∙ ap (λ (l : List Message). greatest_code l) (sym is.2);
      },
      record { code_is = is.3 ∙ ap (λ (l : List Message). greatest_code l) (sym is.2); framed = (framed.0, is.2 ∙ framed.1) },
    )
    ends_done (outcomes.Halted broken outs report steps) is = absurd is
    ends_done (outcomes.Short kept outs report steps) is = absurd is

  module _ (cut : Cut P) (command : Command) (held : List Hold) (today : Day) (before after : List Step) (said : List Message)
      (ends : Ends pools (MeansWhole (MeansWithOutputs (setting_of pools session held today) command files.outs (map seen given)) command)
      (IsCutWithOutputs (setting_of pools session held today) command files.outs (map seen given)) session before after [] said (Err cut))
      (begins : ((said ≡ []) × IsShort cut × (after ≡ before)) ⊎ (take 1 said ≡ messages.Started (verb_of command) ∷ [])) where
    says : (told : List Message) (added : List Step) → told ≡ take 1 said → after ≡ before ++ added → ((told ≡ []) × (added ≡ [])) ⊎ (told ≡ messages.Started (verb_of command) ∷ [])
    says told added is steps = elim begins [
      | inl none ↦ inl (is ∙ ap (λ (l : List Message). take 1 l) none.0, append_cancel_left before added [] (sym steps ∙ none.2 ∙ sym (append-nil before)))
      | inr started ↦ inr (is ∙ started)
    ]

    starts : ¬ IsShort cut → take 1 said ≡ messages.Started (verb_of command) ∷ []
    starts failed = elim begins [
      | inl none ↦ absurd (failed none.1)
      | inr started ↦ started
    ]

    EndsAs : Cut P → Type 0
    EndsAs c = Ends pools (MeansWhole (MeansWithOutputs (setting_of pools session held today) command files.outs (map seen given)) command)
        (IsCutWithOutputs (setting_of pools session held today) command files.outs (map seen given)) session before after [] said (Err c)

    pub ends_cut : (outcome : Outcome P B Own) → IsCutOutcome cut given after said outcome → EndsStatement pools seen files ins session command held today before outcome
    unfolding EndsAs
    ends_cut (outcomes.Done kept outs report steps) is = absurd is
    ends_cut (outcomes.Halted broken outs report steps) is =
        let was : EndsAs (cuts.Halted broken) = subst EndsAs is.0 ends in (
          was.added,
          is.1 ∙ was.steps_are,
          was.run.cause (λ short. short),
          is.2 ∙ starts (λ short. subst (λ (c : Cut P). IsShort c) is.0 short),
          was.run,
          λ inputs tells units settled.
              subst (λ (list : List (OutDd B Own)). IsCutWithOutputs (setting_of pools session held today) command files.outs (map seen list) units was.added broken.pending) (sym is.3)
              (was.cut tells units settled),
          is.4,
        )
    ends_cut (outcomes.Short kept outs report steps) is =
        let was : EndsAs (cuts.Short kept) = subst EndsAs is.0 ends in (
          was.added,
          is.1 ∙ was.steps_are,
          was.facts,
          says report.messages was.added is.2 was.steps_are,
          was.run,
          λ inputs tells units settled.
              subst (λ (list : List (OutDd B Own)). IsCutWithOutputs (setting_of pools session held today) command files.outs (map seen list) units was.added None) (sym is.3) (was.cut tells units settled),
          is.4,
        )

-- ---- what only reads

pub unchanged_done : {P B : Type 0} {Own : B → Type 0} (session next : SessionView P) (given : List (OutDd B Own)) (steps : List Step) (said : List Message) → next ≡ session
    → (outcome : Outcome P B Own) → IsDoneOutcome next given steps said outcome → IsUnchanged session outcome
unchanged_done session next given steps said same (outcomes.Done kept outs report all) is = is.0 ∙ same
unchanged_done session next given steps said same (outcomes.Halted broken outs report all) is = absurd is
unchanged_done session next given steps said same (outcomes.Short kept outs report all) is = absurd is

pub unchanged_cut : {P B : Type 0} {Own : B → Type 0} (session : SessionView P) (cut : Cut P) (given : List (OutDd B Own)) (steps : List Step) (said : List Message)
    → LeavesSession session (Err cut) → (outcome : Outcome P B Own) → IsCutOutcome cut given steps said outcome → IsUnchanged session outcome
unchanged_cut session cut given steps said leaves (outcomes.Done kept outs report all) is = absurd is
unchanged_cut {P} session cut given steps said leaves (outcomes.Halted broken outs report all) is = subst (λ (c : Cut P). LeavesSession session (Err c)) is.0 leaves
unchanged_cut {P} session cut given steps said leaves (outcomes.Short kept outs report all) is = subst (λ (c : Cut P). LeavesSession session (Err c)) is.0 leaves

pub outs_done : {P B : Type 0} {Own : B → Type 0} (next : SessionView P) (given : List (OutDd B Own)) (steps : List Step) (said : List Message)
    → (outcome : Outcome P B Own) → IsDoneOutcome next given steps said outcome → HasOuts given outcome
outs_done next given steps said (outcomes.Done kept outs report all) is = is.4
outs_done next given steps said (outcomes.Halted broken outs report all) is = absurd is
outs_done next given steps said (outcomes.Short kept outs report all) is = absurd is

pub outs_cut : {P B : Type 0} {Own : B → Type 0} (cut : Cut P) (given : List (OutDd B Own)) (steps : List Step) (said : List Message)
    → (outcome : Outcome P B Own) → IsCutOutcome cut given steps said outcome → HasOuts given outcome
outs_cut cut given steps said (outcomes.Done kept outs report all) is = absurd is
outs_cut cut given steps said (outcomes.Halted broken outs report all) is = is.3
outs_cut cut given steps said (outcomes.Short kept outs report all) is = is.3

-- what is so of the outputs that a statement left, is so of those that come back
pub used_done : {P B : Type 0} {Own : B → Type 0} (seen : OutDd B Own → OutSeen) (next : SessionView P) (before given : List (OutDd B Own)) (steps : List Step) (said : List Message)
    → KeepsUsed seen before given → (outcome : Outcome P B Own) → IsDoneOutcome next given steps said outcome → LeavesUsed seen before outcome
used_done seen next before given steps said keeps (outcomes.Done kept outs report all) is = subst (KeepsUsed seen before) (sym is.4) keeps
used_done seen next before given steps said keeps (outcomes.Halted broken outs report all) is = absurd is
used_done seen next before given steps said keeps (outcomes.Short kept outs report all) is = absurd is

pub used_cut : {P B : Type 0} {Own : B → Type 0} (seen : OutDd B Own → OutSeen) (cut : Cut P) (before given : List (OutDd B Own)) (steps : List Step) (said : List Message)
    → KeepsUsed seen before given → (outcome : Outcome P B Own) → IsCutOutcome cut given steps said outcome → LeavesUsed seen before outcome
used_cut seen cut before given steps said keeps (outcomes.Done kept outs report all) is = absurd is
used_cut seen cut before given steps said keeps (outcomes.Halted broken outs report all) is = subst (KeepsUsed seen before) (sym is.3) keeps
used_cut seen cut before given steps said keeps (outcomes.Short kept outs report all) is = subst (KeepsUsed seen before) (sym is.3) keeps

pub short_leaves : {P : Type 0} (session : SessionView P) (cut : Cut P) → cut ≡ cuts.Short session → LeavesSession session (Err cut)
short_leaves {P} session cut is = subst (λ (c : Cut P). LeavesSession session (Err c)) (sym is) refl

pub leaves_first : {P : Type 0} (session middle : SessionView P) (result : Result (SessionView P) (Cut P)) → middle ≡ session → LeavesSession middle result → LeavesSession session result
leaves_first {P} session middle result same leaves = subst (λ (s : SessionView P). LeavesSession s result) same leaves

pub say_leaves : {P : Type 0} (session middle : SessionView P) (result : Result (SessionView P) (Cut P)) → middle ≡ session → IfOk result (λ next. next ≡ middle)
    → IfErr result (λ cut. cut ≡ cuts.Short middle) → LeavesSession session result
say_leaves session middle (Ok next) same ok short = ok ∙ same
say_leaves session middle (Err cut) same ok short = leaves_first session middle (Err cut) same (short_leaves middle cut short)
