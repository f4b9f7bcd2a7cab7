-- Options that ask for no run.
use Rattle.std.proofs.Common.{◌≡◌, ◌≢◌, ℕ, suc, ◌≤◌, List, [], ◌∷◌, length, Option, arith, refl, sym, ◌∙◌, Result, Ok, Err}
use Rattle.std.proofs.lemmas.List.Elements.{All-nil, All-cons}
use Rattle.dd_names.specs.declared.dd.DdName.{DdName}
use Rattle.vol_label.specs.declared.serial.Serial.{Serial}
use Rattle.run_words.specs.Words.{values_of, AreMissing, Spells, IsJobs, IsFormat, IsMake, IsRun}
use Rattle.run_words.specs.declared.name.Name.{Name}
use Rattle.run_words.specs.declared.name.Name.TheVariants as names
use Rattle.run_words.specs.declared.given.Given.{Given}
use Rattle.run_words.specs.declared.run.Run.{Run}
use Rattle.run_words.specs.declared.run.Run.TheVariants.{Jobs, Format, Make}
use Rattle.std.specs.Prelude.{IfOk, IfErr}
use Rattle.std.specs.Result.{IsErrAnd}
use Rattle.run_words.specs.Parts.{Judged, Gives}
use Rattle.run_words.specs.declared.fault.WordsFault.{WordsFault}
use Rattle.run_words.specs.declared.fault.WordsFault.TheVariants as faults
use Rattle.run_words.proofs.Taken.{same_spelled}
use Rattle.run_words.proofs.Same.{same_run}
use Rattle.run_words.proofs.OneRun.{not_one, no_jobs_format, no_jobs_make, no_format_make}

pub no_jobs : (options : List Given) → values_of names.FormatJournal options ≡ [] → values_of names.Make options ≡ []
    → ((u : List (Serial × List ℕ)) (j s : List ℕ) (h : Option (List ℕ)) (o n : List (DdName × List ℕ)) → ¬ IsJobs options u j s h o n) → (run : Run) → ¬ IsRun options run
no_jobs options format make none (Jobs u j s h o n) is = none u j s h o n is
no_jobs options format make none (Format u j r) is = not_one _ _ is.room_is.only format
no_jobs options format make none (Make m) is = not_one _ _ is.number_is.only make

pub no_format : (options : List Given) → values_of names.FormatJournal options ≢ [] → values_of names.Make options ≡ []
    → ((u : List (Serial × List ℕ)) (j : List ℕ) (r : ℕ) → ¬ IsFormat options u j r) → (run : Run) → ¬ IsRun options run
no_format options format make none (Jobs u j s h o n) is = format (no_jobs_format options u j s h o n is)
no_format options format make none (Format u j r) is = none u j r is
no_format options format make none (Make m) is = not_one _ _ is.number_is.only make

pub no_make : (options : List Given) → values_of names.Make options ≢ [] → ((m : ℕ) → ¬ IsMake options m) → (run : Run) → ¬ IsRun options run
no_make options make none (Jobs u j s h o n) is = make (no_jobs_make options u j s h o n is)
no_make options make none (Format u j r) is = make (no_format_make options u j r is)
no_make options make none (Make m) is = none m is

pub both_missing : (options : List Given) (a b : Name) → values_of a options ≡ [] → values_of b options ≡ [] → AreMissing (a ∷ b ∷ []) options
both_missing options a b p q =
    let P : Name → Type 0 = λ name. values_of name options ≡ [] in
    All-cons P a (b ∷ []) p (All-cons P b [] q (All-nil P))

pub more_missing : (options : List Given) (a : Name) (others : List Name) → values_of a options ≡ [] → AreMissing others options → AreMissing (a ∷ others) options
more_missing options a others p q = All-cons (λ name. values_of name options ≡ []) a others p q

pub less_missing : (options : List Given) (a : Name) (others : List Name) → AreMissing (a ∷ others) options → AreMissing others options
less_missing options a others h = λ k d lt. h (suc k) d (omega (arith, lt))

pub some_options : (name : Name) (options : List Given) → values_of name options ≢ [] → 1 ≤ length options
some_options name [] some = absurd (some refl)
some_options name (given ∷ options) some = omega arith

pub read_by : (words : List (List ℕ)) (options : List Given) (r : Result Run WordsFault) → Gives words options → Judged (IsRun options) r
    → IfOk r (λ run. (others : List Given) × Spells words others × IsRun others run)
read_by words options (Ok run) given is = (given.0, given.1, same_run options given.0 (λ name. sym (given.2 name)) run is)
read_by words options (Err fault) given is = tt

pub refused_by : (words : List (List ℕ)) (options : List Given) (r : Result Run WordsFault) → Gives words options → Judged (IsRun options) r
    → IfErr r (λ fault. fault ≡ faults.Words → (others : List Given) (run : Run) → Spells words others → ¬ IsRun others run)
refused_by words options (Ok run) given none = tt
refused_by words options (Err fault) given none =
    λ blamed others run again is. none blamed run (same_run others options (λ name. same_spelled words others given.0 again given.1 name ∙ given.2 name) run is)

pub refused_on : (words : List (List ℕ)) (r : Result Run WordsFault) (fault : WordsFault) → IsErrAnd r (λ e. e ≡ fault) → (fault ≡ faults.Words → (options : List Given) → ¬ Gives words options)
    → IfErr r (λ fault. fault ≡ faults.Words → (options : List Given) (run : Run) → Spells words options → ¬ IsRun options run)
refused_on words (Ok run) fault is none = tt
refused_on words (Err e) fault is none = λ blamed options run spells asked. none (sym is ∙ blamed) options (options, spells, λ name. refl)
