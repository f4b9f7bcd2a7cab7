-- The unused tracks of a data set are given back.
use Rattle.std.proofs.Common.{◌≡◌, inl, inr, ℕ, ◌-◌, ◌<◌, ◌≤◌, List, [], ◌∷◌, ◌++◌, None, refl, sym, ap, subst, ◌∙◌, arith}
use Rattle.std.specs.Prelude.{if◌then◌else◌}
use Rattle.ckd_image.specs.Device.{heads_of}
use Rattle.dsn_filter.specs.declared.dsn.Dsn.{Dsn}
use Rattle.enq_table.specs.declared.hold.Hold.{Hold}
use Rattle.volume_model.specs.Unit.{DataSet, UnitModel}
use Rattle.move_core.specs.declared.steps.Step.TheVariants as steps
use Rattle.move_core.specs.Steps.{shrunk}
use Rattle.job_lines.specs.declared.message.Message.TheVariants as messages
use Rattle.job_lines.specs.declared.message.Reason.TheVariants as reasons
use Rattle.job_lines.specs.declared.severity.Severity.TheVariants as severities
use Rattle.job_ops.specs.declared.asking.Candidate.{Candidate}
use Rattle.job_ops.specs.declared.reshaping.Layout.TheVariants as layouts
use Rattle.job_ops.specs.declared.reshaping.Reshape.{Reshape}
use Rattle.job_ops.specs.declared.task.Task.TheVariants as tasks
use Rattle.job_ops.specs.Asked.{IsSeen, IsReasonBefore, ReasonSoFar, said_of}
use Rattle.job_ops.specs.Reasons.{LacksRoomFor}
use Rattle.job_ops.specs.Release.{size_of, keep_of, HasUnused, ReleasesSet}
use Rattle.job_ops.specs.Reshaping.{HasRoomToReshape, LacksRoomToReshape, steps_of_reshape}
use Rattle.dump_sets.specs.job_turns.Stating.{repairs, rebuilt}
use Rattle.job_ops.specs.Task.{StaysFor}
use Rattle.job_ops.proofs.Changing.{reshape_of, target_seen}
use Rattle.job_ops.proofs.Judging.{no_reason, room_reason}

-- what a release asks for
abbrev pub cut_of : ℕ → Dsn → Candidate → Reshape
cut_of unit name candidate = reshape_of unit name candidate (layouts.Front candidate.keep)

module _ (held : List Hold) {unit : ℕ} {name : Dsn} {candidate : Candidate} {units : List UnitModel} (seen : IsSeen tasks.Release unit name candidate units)
    (before : IsReasonBefore tasks.Release held unit name None units) where
  abbrev Stays : Type 0
  Stays = StaysFor tasks.Release (heads_of seen.volume.device) seen.set

  abbrev Lacks : Type 0
  Lacks = HasUnused seen.volume seen.set × LacksRoomFor seen.volume (seen.set ∷ []) (shrunk (keep_of seen.volume seen.set) seen.set ∷ [])

  so_far : ReasonSoFar held name seen.set Stays None
  so_far = before seen.volume seen.set seen.set_is

  -- there is nothing to give back
  pub nothing_given : candidate.size ≤ candidate.keep → ReleasesSet held unit name units [] (messages.Released candidate.name 0 ∷ [])
  nothing_given most = record {
    volume = seen.volume;
    online_is = seen.set_is.online_is;
    set = seen.set;
    there = seen.set_is.there;
    name_is = seen.set_is.name_is;
    outcome =
        let few : size_of seen.set ≤ keep_of seen.volume seen.set = omega (arith, most, seen.size_is, seen.keep_is) in
        inr (no_reason held name seen.set Stays ⊥ Lacks so_far (λ never. never) (λ full. absurd (omega (arith, few, full.0))), inl (few, refl, ap (λ (n : List ℕ). messages.Released n 0 ∷ []) seen.name_is));
  }

  module _ (more : candidate.keep < candidate.size) where
    unused : HasUnused seen.volume seen.set
    unused = omega (arith, more, seen.size_is, seen.keep_is)

    -- the VTOC has no room
    pub too_full : LacksRoomToReshape (cut_of unit name candidate) units → ReleasesSet held unit name units [] (messages.NotProcessed candidate.name reasons.VtocFull severities.Error ∷ [])
    too_full lacks = record {
      volume = seen.volume;
      online_is = seen.set_is.online_is;
      set = seen.set;
      there = seen.set_is.there;
      name_is = seen.set_is.name_is;
      outcome =
          let found = lacks seen.volume seen.set (target_seen (layouts.Front candidate.keep) seen) in
          let put : found.0 ≡ shrunk (keep_of seen.volume seen.set) seen.set = found.1 ∙ ap (λ (keep : ℕ). shrunk keep seen.set) seen.keep_is in
          inl (
            reasons.VtocFull,
            room_reason held name seen.set Stays ⊥ Lacks so_far (λ never. never) (unused, subst (λ (d : DataSet). LacksRoomFor seen.volume (seen.set ∷ []) (d ∷ [])) put found.2),
            refl,
            ap (λ (n : List ℕ). messages.NotProcessed n reasons.VtocFull severities.Error ∷ []) seen.name_is,
          );
    }

    steps_same : steps_of_reshape (cut_of unit name candidate) ≡ repairs unit seen.volume ++ (steps.Shrink unit name (keep_of seen.volume seen.set) ∷ [])
    steps_same = λ i. (if seen.repair_is i then steps.Repair unit ∷ [] else []) ++ (steps.Shrink unit name (seen.keep_is i) ∷ [])

    said_same : said_of candidate (messages.Released candidate.name (candidate.size - candidate.keep))
        ≡ rebuilt seen.volume ++ (messages.Released seen.set.name (size_of seen.set - keep_of seen.volume seen.set) ∷ [])
    said_same = λ i. (if seen.repair_is i then messages.Rebuilt (seen.serial_is i) ∷ [] else []) ++ (messages.Released (seen.name_is i) (seen.size_is i - seen.keep_is i) ∷ [])

    -- they are given back
    pub given_back : HasRoomToReshape (cut_of unit name candidate) units
        → ReleasesSet held unit name units (steps_of_reshape (cut_of unit name candidate)) (said_of candidate (messages.Released candidate.name (candidate.size - candidate.keep)))
    given_back room = record {
      volume = seen.volume;
      online_is = seen.set_is.online_is;
      set = seen.set;
      there = seen.set_is.there;
      name_is = seen.set_is.name_is;
      outcome =
          inr (
            no_reason held name seen.set Stays ⊥ Lacks so_far (λ never. never)
                (λ full. room seen.volume seen.set (shrunk (keep_of seen.volume seen.set) seen.set) (target_seen (layouts.Front candidate.keep) seen)
                (ap (λ (keep : ℕ). shrunk keep seen.set) (sym seen.keep_is)) full.1),
            inr (unused, steps_same, said_same),
          );
    }
