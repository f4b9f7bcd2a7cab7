-- What becomes of acts, from what was seen and done of their steps.
use Rattle.std.proofs.Common.{◌≡◌, inl, inr, List, [], Ok, Err, refl, sym, subst, ◌∙◌}
use Rattle.std.proofs.lemmas.List.{append-nil}
use Rattle.dasd_pool.specs.declared.pool.Pool.{Ghosts}
use Rattle.unit_load.specs.declared.state.UnitState.{UnitState}
use Rattle.move_core.specs.declared.steps.Step.{Step}
use Rattle.move_core.proofs.Running.{run_then}
use Rattle.job_steps.specs.unit_session.Sessions.{SessionView}
use Rattle.job_steps.specs.declared.cut.Cut.{Cut}
use Rattle.job_acts.specs.declared.acts.Looked.TheVariants as looks
use Rattle.job_acts.specs.declared.acts.Acted.TheVariants as ends
use Rattle.job_acts.specs.Acting.{AllFit, SomeLacks, AreDone, EndsLook, EndsSteps, EndsActs}
use Rattle.job_acts.proofs.Sessions.{keeps_same, keeps_then, cut_facts_then, cut_before}

module _ {P : Type 0} (pools : Ghosts P) (session : SessionView P) (steps seen given : List Step) (given_are : given ≡ seen) where
  pub acts_unseen : (before after : List Step) (cut : Cut P) → after ≡ before → EndsLook pools session given (Err cut) → EndsActs pools session steps seen before after (Err cut)
  acts_unseen before after cut same is =
      let left = cut_before pools session cut is.answers in
      record { added = []; steps_are = same ∙ sym (append-nil before); run = is.run; answers = (left.0, inl (refl, left.1)) }

  pub acts_full : (kept : SessionView P) (before after : List Step) → after ≡ before → EndsLook pools session given (Ok (looks.Full kept))
      → EndsActs pools session steps seen before after (Ok (ends.Full kept))
  acts_full kept before after same is = record {
    added = [];
    steps_are = same ∙ sym (append-nil before);
    run = is.run;
    answers = (refl, is.answers.0, subst (SomeLacks session.units) given_are is.answers.1);
  }

  module _ (now : SessionView P) (all : List Step) (all_are : all ≡ steps) (look : EndsLook pools session given (Ok (looks.Fits now))) where
    fit : AllFit session.units seen
    fit = subst (AllFit session.units) given_are look.answers.1

    pub acts_done : {next : SessionView P} {before after : List Step} → EndsSteps pools now all before after (Ok next) → EndsActs pools session steps seen before after (Ok (ends.Done next))
    acts_done {next} is = record {
      added = is.added;
      steps_are = is.steps_are;
      run = run_then look.run (tt {0}) is.run;
      answers = (
        is.answers.0 ∙ all_are,
        keeps_then pools (keeps_same pools look.answers.0) is.answers.1,
        subst (λ (units : List UnitState). AreDone units steps next.units) look.answers.0.units
            (subst (λ (list : List Step). AreDone now.units list next.units) all_are is.answers.2),
        fit,
      );
    }

    pub acts_cut : {before after : List Step} {cut : Cut P} → EndsSteps pools now all before after (Err cut) → EndsActs pools session steps seen before after (Err cut)
    acts_cut {before} {after} {cut} is = record {
      added = is.added;
      steps_are = is.steps_are;
      run = run_then look.run (tt {0}) is.run;
      answers = (
        cut_facts_then pools cut (keeps_same pools look.answers.0) is.answers.0,
        inr (is.answers.1.0, sym all_are ∙ is.answers.1.1, fit),
      );
    }
