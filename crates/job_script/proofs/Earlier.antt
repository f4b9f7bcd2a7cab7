-- The lines of the statements that ended before the last one began.
use Rattle.std.proofs.Common.{◌≡◌, ℕ, ◌-◌, List, [], ◌∷◌, ◌++◌, length, take, drop, Option, Some, None, sym, ap, subst, ◌∙◌, append_assoc, arith, length-append}
use Rattle.std.proofs.lemmas.List.{append-nil, take-append-drop}
use Rattle.std.proofs.Math.Seq.{take-append-add}
use Rattle.dasd_pool.specs.Stream.{Appends, AppendsSome}
use Rattle.sysin_lang.specs.declared.command.Statement.{Statement}
use Rattle.job_script.specs.Ends.{SinkSeen, Took, ended_before}
use Rattle.job_script.specs.Runs.{Ran, lines_of}
use Rattle.job_script.proofs.Rans.{lines_join}
use Rattle.dasd_pool.proofs.Streams.{appends_then}

-- whatever front of a text was taken, it stands behind nothing
pub took_none : (out : SinkSeen) (text : List ℕ) → AppendsSome out.before out.after text → Took out []
took_none out text some = (take some.0 text, some.2)

-- statements before others are earlier than the last of these, but for one that has none behind it
pub earlier_join : (ran more : List Ran) (under : Option Statement) → (rest : List Ran) × (ran ++ ended_before more under ≡ ended_before (ran ++ more) under ++ rest)
earlier_join ran more (Some statement) = ([], sym (append-nil (ran ++ more)))
earlier_join ran [] None = (drop (length (ran ++ []) - 1) (ran ++ []), sym (take-append-drop (length (ran ++ []) - 1) (ran ++ [])))
earlier_join ran (one ∷ more) None = (
  [],
  sym (take-append-add ran (one ∷ more) (length (one ∷ more) - 1))
      ∙ ap (λ (n : ℕ). take n (ran ++ one ∷ more)) (omega (arith, length-append ran (one ∷ more)))
      ∙ sym (append-nil (take (length (ran ++ one ∷ more) - 1) (ran ++ one ∷ more))),
)

-- all lines of statements, and then those before the last one behind them
pub took_then : (first now new : Option (List ℕ)) (faults_first faults_now faults_new : ℕ) (ran more : List Ran) (under : Option Statement) → Appends first now (lines_of ran)
    → Took (record { before = now; after = new; faults_before = faults_now; faults_after = faults_new }) (lines_of (ended_before more under))
    → Took (record { before = first; after = new; faults_before = faults_first; faults_after = faults_new }) (lines_of (ended_before (ran ++ more) under))
took_then first now new faults_first faults_now faults_new ran more under taken took =
    let join = earlier_join ran more under in
    let front = ended_before (ran ++ more) under in
    let lines : lines_of ran ++ lines_of (ended_before more under) ≡ lines_of front ++ lines_of join.0 =
    sym (lines_join ran (ended_before more under)) ∙ ap (λ (r : List Ran). lines_of r) join.1 ∙ lines_join front join.0 in
    let all : Appends first new (lines_of ran ++ (lines_of (ended_before more under) ++ took.0)) =
    appends_then first now new (lines_of ran) (lines_of (ended_before more under) ++ took.0) taken took.1 in
    let same : lines_of ran ++ (lines_of (ended_before more under) ++ took.0) ≡ lines_of front ++ (lines_of join.0 ++ took.0) =
    sym (append_assoc (lines_of ran) (lines_of (ended_before more under)) took.0)
    ∙ ap (λ (l : List ℕ). l ++ took.0) lines
    ∙ append_assoc (lines_of front) (lines_of join.0) took.0 in
    (lines_of join.0 ++ took.0, subst (λ (l : List ℕ). Appends first new l) same all)
