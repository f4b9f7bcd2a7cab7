-- What a run keeps of the units that a pool stood for, and how runs follow one another.
use Rattle.std.proofs.Common.{◌≡◌, ◌⊎◌, ⊎_elim, inl, ℕ, ◌+◌, ◌≤◌, List, [], ◌∷◌, ◌++◌, length, take, Bool, Option, Some, None, refl, sym, subst, arith, append_assoc}
use Rattle.std.proofs.lemmas.List.{length-append, take-append-le, take_all}
use Rattle.std.proofs.Math.Seq.{take-append-add}
use Rattle.dasd_pool.specs.Disk.{Image, Shape, Disk, MayLeave, LeavesOnly, Touches, Spares, Runs, none}
use Rattle.dasd_pool.proofs.Moments.{and_then, weaken, since_start, runs_start}
use Rattle.redo_core.specs.declared.entries.Entry.{Entry}
use Rattle.redo_core.specs.Reading.{Reading}
use Rattle.redo_core.specs.Faults.{HasNoSlide}
use Rattle.redo_core.specs.Phases.{OldOrNew, IsCommitted}
use Rattle.redo_core.specs.declared.control.Control.{Control}
use Rattle.redo_core.specs.Opening.{ReadsSame, IsOpened}
use Rattle.vol_label.specs.declared.serial.Serial.{Serial}
use Rattle.volume_model.specs.Unit.{UnitModel}
use Rattle.move_core.specs.declared.steps.Step.{Step}
use Rattle.move_core.specs.Facts.{Facts}
use Rattle.move_core.specs.Steps.{Reaches}
use Rattle.move_core.specs.Stands.{Stands, AreUnused, IsSettled}
use Rattle.move_core.specs.Laws.{WillStand, OpensNoSlide}
use Rattle.move_core.proofs.Standing.{opening_stands, opened_settled, image_stands, commit_stands, committed_settled, same_closed, image_closed, commit_closed}
use Rattle.move_core.specs.Runs.{moves_of, StandsAfterSome, StandsAfterMost, EndsSettled, KeepsUnits, KeepsEach}
use Rattle.move_core.proofs.Unused.{masked, masked_left, masked_settled, unused_settled}

-- ---- steps one after another

pub reaches_then : (facts : Facts) (first : List UnitModel) (steps : List Step) (between : List UnitModel) (more : List Step) (last : List UnitModel)
    → Reaches facts first steps between → Reaches facts between more last → Reaches facts first (steps ++ more) last
reaches_then facts first [] between more last reached next = subst (λ (from : List UnitModel). Reaches facts from more last) reached next
reaches_then facts first (step ∷ steps) between more last reached next = (reached.0, reached.1, reaches_then facts reached.0 steps between more last reached.2 next)

module _ (facts : Facts) (first : List UnitModel) where
  -- fewer moves at least
  least_of : (moves : List Step) (least fewer : ℕ) → fewer ≤ least → (image : Image) → StandsAfterMost facts first moves least image → StandsAfterMost facts first moves fewer image
  least_of moves least fewer le image most = (most.0, omega (arith, most.1, le), most.2)

  -- what stands after all of them
  all_of : (moves : List Step) (units : List UnitModel) → Reaches facts first moves units → (image : Image) → Stands facts image units
      → StandsAfterMost facts first moves (length moves) image
  all_of moves units reached image stands = (
    length moves,
    omega arith,
    record {
      within = omega arith;
      units = units;
      reached = subst (λ (l : List Step). Reaches facts first l units) (sym (take_all (length moves) moves (omega arith))) reached;
      stands = stands;
    },
  )

  -- with more moves behind
  lengthened : (moves more : List Step) (least : ℕ) (image : Image) → StandsAfterMost facts first moves least image → StandsAfterMost facts first (moves ++ more) least image
  lengthened moves more least image (count, le, after) = (
    count,
    le,
    record {
      within = omega (arith, after.within, length-append moves more);
      units = after.units;
      reached = subst (λ (l : List Step). Reaches facts first l after.units) (sym (take-append-le count moves more after.within)) after.reached;
      stands = after.stands;
    },
  )

  -- with steps before
  behind : (steps : List Step) (between : List UnitModel) → Reaches facts first steps between → (moves : List Step) (least : ℕ) (image : Image)
      → StandsAfterMost facts between moves least image → StandsAfterMost facts first (steps ++ moves) (length steps + least) image
  behind steps between reached moves least image (count, le, after) = (
    length steps + count,
    omega (arith, le),
    record {
      within = omega (arith, after.within, length-append steps moves);
      units = after.units;
      reached = subst (λ (l : List Step). Reaches facts first l after.units) (sym (take-append-add steps moves count))
          (reaches_then facts first steps between (take count moves) after.units reached after.reached);
      stands = after.stands;
    },
  )

moves_then : (steps more : List Step) (pending : Option Step) → steps ++ moves_of more pending ≡ moves_of (steps ++ more) pending
moves_then steps more None = refl
moves_then steps more (Some step) = sym (append_assoc steps more (step ∷ []))

-- ---- a run whose moments and end are known

pub settled_keeps : (facts : Facts) (old new : Disk) (ended : Type 0) (first : List UnitModel) (steps : List Step)
    → LeavesOnly old new (StandsAfterSome facts first steps) → (HasNoSlide facts.shape old.state.contents → LeavesOnly old new (HasNoSlide facts.shape))
    → EndsSettled facts new first steps None → KeepsUnits facts old new ended first steps None
settled_keeps facts old new ended first steps moments closes ends = record {
  any_moment = moments;
  returned = λ image left.
      all_of facts first steps ends.units ends.reached image (image_stands facts new.state ends.units image ends.settled left);
  settled = λ end. ends;
  closed = closes;
}

-- it ends less often than that
pub ends_less : (facts : Facts) (old new : Disk) (ended less : Type 0) (first : List UnitModel) (steps : List Step) (pending : Option Step)
    → (less → ended) → KeepsUnits facts old new ended first steps pending → KeepsUnits facts old new less first steps pending
ends_less facts old new ended less first steps pending implies keeps = record {
  any_moment = keeps.any_moment;
  returned = keeps.returned;
  settled = λ end. keeps.settled (implies end);
  closed = keeps.closed;
}

-- ---- a run that writes only blocks on which no meaning rests

module _ (facts : Facts) (may : ℕ → ℕ → Bool) (old new : Disk) (units : List UnitModel) (settled : IsSettled facts old.state units)
    (unused : AreUnused may facts.shape settled.stands.reading settled.stands.means.found) (run : Runs may old new) where
  quiet_moments : LeavesOnly old new (StandsAfterSome facts units [])
  quiet_moments = weaken old new (Spares may old.state) (StandsAfterSome facts units [])
      (λ image spares.
      all_of facts units [] units refl image (image_stands facts (masked may old.state) units image
      (masked_settled may facts old.state units settled unused) (masked_left may old.state image spares))) run.leaves

  quiet_closed : HasNoSlide facts.shape old.state.contents → LeavesOnly old new (HasNoSlide facts.shape)
  quiet_closed closed = weaken old new (Spares may old.state) (HasNoSlide facts.shape)
      (λ image spares.
      image_closed facts (masked may old.state) units image (masked_settled may facts old.state units settled unused) (masked_left may old.state image spares) closed) run.leaves

  pub quiet_settled : IsSettled facts new.state units
  quiet_settled = unused_settled may facts old.state units settled unused new.state run.touches

  pub quiet : (ended : Type 0) → KeepsUnits facts old new ended units [] None
  quiet ended = settled_keeps facts old new ended units [] quiet_moments quiet_closed (record { none_pending = refl; units = units; reached = refl; settled = quiet_settled })

none_unused : (shape : Shape) (reading : Reading) (found : List UnitModel) → AreUnused none shape reading found
none_unused shape reading found = record { journal = λ b. refl; volumes = λ u b less rests. refl }

-- it writes nothing
pub still : (facts : Facts) (old new : Disk) (ended : Type 0) → Runs none old new → KeepsEach facts old new ended [] None
still facts old new ended run units settled = quiet facts none old new units settled (none_unused facts.shape settled.stands.reading settled.stands.means.found) run ended

-- no call at all
pub idle : (facts : Facts) (disk : Disk) (ended : Type 0) → KeepsEach facts disk disk ended [] None
idle facts disk ended = still facts disk disk ended (runs_start none disk)

-- ---- any moment of a run

-- what a stop may have left since it began
pub each_moment : (facts : Facts) (old new : Disk) (ended : Type 0) (units : List UnitModel) (steps : List Step) (pending : Option Step)
    → IsSettled facts old.state units → KeepsUnits facts old new ended units steps pending
    → (image : Image) → new.left_since old.moment image → StandsAfterSome facts units (moves_of steps pending) image
each_moment facts old new ended units steps pending settled keeps =
    since_start old new (StandsAfterSome facts units (moves_of steps pending)) keeps.any_moment
    (λ image left.
    lengthened facts units [] (moves_of steps pending) 0 image (all_of facts units [] units refl image (image_stands facts old.state units image settled left)))

-- no slide is open in it
pub each_closed : (facts : Facts) (old new : Disk) (ended : Type 0) (units : List UnitModel) (steps : List Step) (pending : Option Step)
    → IsSettled facts old.state units → KeepsUnits facts old new ended units steps pending → HasNoSlide facts.shape old.state.contents
    → (image : Image) → new.left_since old.moment image → HasNoSlide facts.shape image
each_closed facts old new ended units steps pending settled keeps closed =
    since_start old new (HasNoSlide facts.shape) (keeps.closed closed) (λ image left. image_closed facts old.state units image settled left closed)

-- nor in what the pool then holds
pub ends_closed : (facts : Facts) (old new : Disk) (ended : Type 0) (units : List UnitModel) (steps : List Step) (pending : Option Step)
    → IsSettled facts old.state units → KeepsUnits facts old new ended units steps pending → HasNoSlide facts.shape old.state.contents
    → HasNoSlide facts.shape new.state.contents
ends_closed facts old new ended units steps pending settled keeps closed =
    each_closed facts old new ended units steps pending settled keeps closed new.state.contents
    (new.counts_now old.moment new.state.contents keeps.any_moment.later (λ u b was. refl))

-- ---- one run, and then another

module _ (facts : Facts) (old mid new : Disk) (ended later : Type 0) (first : List UnitModel) (start : IsSettled facts old.state first) (steps more : List Step) (pending : Option Step)
    (run : KeepsUnits facts old mid ended first steps None) (end : ended) (next : KeepsEach facts mid new later more pending) where
  abbrev ends : EndsSettled facts mid first steps None
  ends = run.settled end

  abbrev second : KeepsUnits facts mid new later ends.units more pending
  second = next ends.units ends.settled

  abbrev all : List Step
  all = steps ++ moves_of more pending

  then_moments : LeavesOnly old new (StandsAfterSome facts first all)
  then_moments = and_then old mid new (StandsAfterSome facts first all)
      (weaken old mid (StandsAfterSome facts first steps) (StandsAfterSome facts first all) (λ image some. lengthened facts first steps (moves_of more pending) 0 image some) run.any_moment)
      (weaken mid new (StandsAfterSome facts ends.units (moves_of more pending)) (StandsAfterSome facts first all)
      (λ image some. least_of facts first all (length steps + 0) 0 (omega arith) image (behind facts first steps ends.units ends.reached (moves_of more pending) 0 image some)) second.any_moment)

  then_returned : (image : Image) → MayLeave new.state image → StandsAfterMost facts first all (length (steps ++ more)) image
  then_returned image left =
      least_of facts first all (length steps + length more) (length (steps ++ more)) (omega (arith, length-append steps more)) image
      (behind facts first steps ends.units ends.reached (moves_of more pending) (length more) image (second.returned image left))

  pub keeps_then : KeepsUnits facts old new later first (steps ++ more) pending
  keeps_then =
      let same : all ≡ moves_of (steps ++ more) pending = moves_then steps more pending in
      record {
        any_moment = subst (λ (l : List Step). LeavesOnly old new (StandsAfterSome facts first l)) same then_moments;
        returned = subst (λ (l : List Step). (image : Image) → MayLeave new.state image → StandsAfterMost facts first l (length (steps ++ more)) image) same then_returned;
        settled = λ over.
            let last = second.settled over in
            record {
              none_pending = last.none_pending;
              units = last.units;
              reached = reaches_then facts first steps ends.units more last.units ends.reached last.reached;
              settled = last.settled;
            };
        closed = λ closed.
            and_then old mid new (HasNoSlide facts.shape) (run.closed closed)
            (second.closed (ends_closed facts old mid ended first steps None start run closed));
      }

-- ---- a commit that makes one step, or none

module _ (facts : Facts) (old new : Disk) (move : Option Step) (units made : List UnitModel) (settled : IsSettled facts old.state units)
    (entries : List Entry) (reached : Reaches facts units (moves_of [] move) made) (will : WillStand facts settled.stands.reading entries made)
    (opens_none : OpensNoSlide facts.shape settled.stands.reading entries) (moments : LeavesOnly old new (OldOrNew facts.shape old.state entries)) where
  abbrev moves : List Step
  moves = moves_of [] move

  stands_some : (image : Image) → Stands facts image units ⊎ Stands facts image made → StandsAfterSome facts units moves image
  stands_some image = ⊎_elim
      (λ before. lengthened facts units [] moves 0 image (all_of facts units [] units refl image before))
      (λ behind. least_of facts units moves (length moves) 0 (omega arith) image (all_of facts units moves made reached image behind))

  commit_moments : LeavesOnly old new (StandsAfterSome facts units moves)
  commit_moments = weaken old new (OldOrNew facts.shape old.state entries) (StandsAfterSome facts units moves)
      (λ image either. stands_some image (commit_stands facts old.state units made entries image settled will either)) moments

  closes : HasNoSlide facts.shape old.state.contents → LeavesOnly old new (HasNoSlide facts.shape)
  closes closed = weaken old new (OldOrNew facts.shape old.state entries) (HasNoSlide facts.shape)
      (λ image either. commit_closed facts old.state units entries image settled opens_none either closed) moments

  pub commit_failed : (ended : Type 0) → ¬ ended → KeepsUnits facts old new ended units [] move
  commit_failed ended never = record {
    any_moment = commit_moments;
    returned = λ image left.
        since_start old new (StandsAfterSome facts units moves) commit_moments
        (λ other was. stands_some other (inl (image_stands facts old.state units other settled was)))
        image (new.counts_now old.moment image moments.later left);
    settled = λ end. absurd (never end);
    closed = closes;
  }

  pub commit_done : (ended : Type 0) → IsCommitted facts.shape old.state entries new.state → KeepsUnits facts old new ended units (moves_of [] move) None
  commit_done ended committed =
      settled_keeps facts old new ended units moves commit_moments closes (record {
        none_pending = refl;
        units = made;
        reached = reached;
        settled = committed_settled facts old.state new.state units made entries settled will committed;
      })

-- ---- the last step turns out to be under way

pub demote : (facts : Facts) (old new : Disk) (ended later : Type 0) (first : List UnitModel) (steps : List Step) (step : Step)
    → KeepsUnits facts old new ended first (steps ++ (step ∷ [])) None → ¬ later → KeepsUnits facts old new later first steps (Some step)
demote facts old new ended later first steps step keeps never = record {
  any_moment = keeps.any_moment;
  returned = λ image left.
      least_of facts first (steps ++ (step ∷ [])) (length (steps ++ (step ∷ []))) (length steps) (omega (arith, length-append steps (step ∷ []))) image (keeps.returned image left);
  settled = λ end. absurd (never end);
  closed = keeps.closed;
}

-- a step turns out to be under way where none was told
pub under_way : (facts : Facts) (old new : Disk) (ended later : Type 0) (first : List UnitModel) (step : Step)
    → KeepsUnits facts old new ended first [] None → ¬ later → KeepsUnits facts old new later first [] (Some step)
under_way facts old new ended later first step keeps never = record {
  any_moment = weaken old new (StandsAfterSome facts first []) (StandsAfterSome facts first (step ∷ []))
      (λ image some. lengthened facts first [] (step ∷ []) 0 image some) keeps.any_moment;
  returned = λ image left. lengthened facts first [] (step ∷ []) 0 image (keeps.returned image left);
  settled = λ end. absurd (never end);
  closed = keeps.closed;
}

-- ---- an opening

opening_moments : (facts : Facts) (old new : Disk) (units : List UnitModel) → IsSettled facts old.state units
    → LeavesOnly old new (ReadsSame facts.shape old.state) → LeavesOnly old new (StandsAfterSome facts units [])
opening_moments facts old new units settled moments = weaken old new (ReadsSame facts.shape old.state) (StandsAfterSome facts units [])
    (λ image same. all_of facts units [] units refl image (opening_stands facts old.state units image settled same)) moments

opening_closed : (facts : Facts) (old new : Disk) (units : List UnitModel) → IsSettled facts old.state units
    → LeavesOnly old new (ReadsSame facts.shape old.state) → HasNoSlide facts.shape old.state.contents → LeavesOnly old new (HasNoSlide facts.shape)
opening_closed facts old new units settled moments closed = weaken old new (ReadsSame facts.shape old.state) (HasNoSlide facts.shape)
    (λ image same. same_closed facts old.state units image settled same closed) moments

-- it was refused, and wrote nothing where it ended
pub refused : (facts : Facts) (old new : Disk) (ended : Type 0) (units : List UnitModel) → IsSettled facts old.state units
    → LeavesOnly old new (ReadsSame facts.shape old.state) → (ended → Touches none old.state new.state) → KeepsUnits facts old new ended units [] None
refused facts old new ended units settled moments unwritten =
    let some = opening_moments facts old new units settled moments in
    record {
      any_moment = some;
      returned = λ image left.
          since_start old new (StandsAfterSome facts units []) some
          (λ other was. all_of facts units [] units refl other (image_stands facts old.state units other settled was))
          image (new.counts_now old.moment image moments.later left);
      settled = λ end. record {
        none_pending = refl;
        units = units;
        reached = refl;
        settled = unused_settled none facts old.state units settled (none_unused facts.shape settled.stands.reading settled.stands.means.found) new.state (unwritten end);
      };
      closed = opening_closed facts old new units settled moments;
    }

-- it ended well, whatever names were asked for
pub opened : (facts : Facts) (asked : List Serial) (room : ℕ) (control : Control) (fills : List Bool) (old new : Disk) (ended : Type 0) (units : List UnitModel) → IsSettled facts old.state units
    → LeavesOnly old new (ReadsSame facts.shape old.state) → IsOpened facts.shape old.state asked room control fills new.state → KeepsUnits facts old new ended units [] None
opened facts asked room control fills old new ended units settled moments opens =
    settled_keeps facts old new ended units [] (opening_moments facts old new units settled moments) (opening_closed facts old new units settled moments) (record {
      none_pending = refl;
      units = units;
      reached = refl;
      settled = opened_settled facts old.state new.state units asked room control fills settled.stands opens;
    })
