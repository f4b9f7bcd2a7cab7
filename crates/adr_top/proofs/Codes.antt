-- No condition code is greater than 12.
use Rattle.std.proofs.Common.{◌≡◌, ℕ, ◌+◌, ◌≤◌, Bool, true, false, cond, List, [], ◌∷◌, codes, All, sym, ap, subst, arith}
use Rattle.std.specs.Prelude.{Option, Some, None}
use Rattle.std.specs.Str.{bytes_eq}
use Rattle.std.proofs.lemmas.List.Elements.{All-cons, All-head, All-tail, All-nil}
use Rattle.std.proofs.Math.Nat.{max-le}
use Rattle.sysin_text.specs.declared.token.Placed.{Placed}
use Rattle.sysin_words.specs.Code.{code_of}
use Rattle.sysin_lang.specs.declared.command.Statement.{Statement}
use Rattle.sysin_lang.specs.Flow as flow
use Rattle.sysin_lang.specs.Flow.{Codes, Plan, Done, Run, Set, Choose, Next, Command, End, with_code, compares, next_of, answered, Leaves, IsRun}
use Rattle.sysin_words.specs.declared.code.Which.{Which}
use Rattle.sysin_words.specs.declared.code.Which.TheVariants as whiches
use Rattle.sysin_read.specs.Statement.{IsStatement, IsBlock, IsText}
use Rattle.job_lines.specs.declared.message.Message.{Message}
use Rattle.job_lines.specs.declared.severity.Severity.{Severity}
use Rattle.job_lines.specs.declared.severity.Severity.TheVariants as severities
use Rattle.job_lines.specs.Severity as severity
use Rattle.job_lines.specs.Severity.{greatest_code, severity_in}
use Rattle.job_script.specs.Runs.{Ran, answers_of, IsReported}

-- ---- of a statement

severity_small : (one : Severity) → severity.code_of one ≤ 12
severity_small severities.Information = omega arith
severity_small severities.Warning = omega arith
severity_small severities.Error = omega arith
severity_small severities.Ending = omega arith

pub greatest_small : (said : List Message) → greatest_code said ≤ 12
greatest_small [] = omega arith
greatest_small (message ∷ more) = max-le (severity_small (severity_in message)) (greatest_small more)

-- ---- that SET gives

abbrev number_in : Option ℕ → ℕ
number_in None = 0
number_in (Some n) = 1 + n

pick : (b : Bool) (n : ℕ) (other : Option ℕ) → n ≤ 12 → ((code : ℕ) → other ≡ Some code → code ≤ 12) → (code : ℕ) → cond b (Some n) other ≡ Some code → code ≤ 12
pick true n other small rest code is = let same : 1 + n ≡ 1 + code = ap (λ (o : Option ℕ). number_in o) is in omega (arith, same, small)
pick false n other small rest code is = rest code is

abbrev nothing : Option ℕ
nothing = None

no_code : (code : ℕ) → nothing ≡ Some code → code ≤ 12
no_code code is = let same : 0 ≡ 1 + code = ap (λ (o : Option ℕ). number_in o) is in absurd (omega (arith, same))

word_small : (word : List ℕ) (code : ℕ) → code_of word ≡ Some code → code ≤ 12
word_small word =
    pick (bytes_eq word (codes "0")) 0 _ (omega arith)
    (pick (bytes_eq word (codes "4")) 4 _ (omega arith)
    (pick (bytes_eq word (codes "8")) 8 _ (omega arith)
    (pick (bytes_eq word (codes "12")) 12 None (omega arith) (λ code is. no_code code is))))

-- no code that a plan sets is greater
abbrev pub SetsCodes : Plan → Type 0
SetsCodes Done = Unit {0}
SetsCodes (Run statement rest) = SetsCodes rest
SetsCodes (Set which code rest) = (code ≤ 12) × SetsCodes rest
SetsCodes (Choose which op code first second) = SetsCodes first × SetsCodes second

mutual
  statement_sets : {limited : Bool} {room before after : ℕ} {closed : Bool} {plan rest : Plan} {list : List Placed} → IsStatement limited room before after closed plan rest list → SetsCodes rest
      → SetsCodes plan
  statement_sets (IsStatement.command room before command rest list is) sets = sets
  statement_sets (IsStatement.set room before which code rest list text line is) sets = (word_small is.2 code is.6, sets)
  statement_sets (IsStatement.if_alone room before after closed which op code first rest head body text line is inner) sets = (statement_sets inner sets, sets)
  statement_sets (IsStatement.if_else room before between after closed which op code first second rest head body other else' text line is inner isElse otherwise) sets =
      (statement_sets inner sets, statement_sets otherwise sets)
  statement_sets (IsStatement.do_end room before after plan rest do' end list is block ends) sets = block_sets block sets

  block_sets : {limited : Bool} {room before after : ℕ} {plan rest : Plan} {list : List Placed} → IsBlock limited room before after plan rest list → SetsCodes rest → SetsCodes plan
  block_sets (IsBlock.none room before rest) sets = sets
  block_sets (IsBlock.more room before between after closed plan next rest first list statement starts block) sets = statement_sets statement (block_sets block sets)

pub text_sets : {plan : Plan} {list : List Placed} → IsText true plan list → SetsCodes plan
text_sets text = block_sets text.block tt

-- ---- at the end

abbrev AreSmall : Codes → Type 0
AreSmall both = (both.lastcc ≤ 12) × (both.maxcc ≤ 12)

abbrev IsSmallNext : Next → Type 0
IsSmallNext (Command statement rest both) = SetsCodes rest × AreSmall both
IsSmallNext (End both) = AreSmall both

with_small : (which : Which) (code : ℕ) (both : Codes) → code ≤ 12 → AreSmall both → AreSmall (with_code which code both)
with_small whiches.Last code both small are = (small, are.1)
with_small whiches.Max code both small are = (are.0, small)

small_if : (b : Bool) (one other : Next) → IsSmallNext one → IsSmallNext other → IsSmallNext (cond b one other)
small_if true one other p q = p
small_if false one other p q = q

next_small : (plan : Plan) (both : Codes) → SetsCodes plan → AreSmall both → IsSmallNext (next_of plan both)
next_small Done both sets are = are
next_small (Run statement rest) both sets are = (sets, are)
next_small (Set which code rest) both sets are = next_small rest (with_code which code both) sets.1 (with_small which code both sets.0 are)
next_small (Choose which op code first second) both sets are =
    small_if (compares op (flow.code_of which both) code) (next_of first both) (next_of second both) (next_small first both sets.0 are) (next_small second both sets.1 are)

leaves_small : (ran : List (Statement × ℕ)) (plan left : Plan) (both after : Codes) → SetsCodes plan → AreSmall both → Leaves plan both ran left after → All (λ one. one.1 ≤ 12) ran
    → SetsCodes left × AreSmall after
leaves_small [] plan left both after sets are leaves small =
    (subst SetsCodes (sym leaves.0) sets, subst AreSmall (sym leaves.1) are)
leaves_small (ran ∷ more) plan left both after sets are leaves small =
    let next = subst IsSmallNext leaves.2 (next_small plan both sets are) in
    let first = All-head (λ (one : Statement × ℕ). one.1 ≤ 12) ran more small in
    leaves_small more leaves.0 left (answered ran.1 leaves.1) after next.0 (first, max-le next.1.1 first) leaves.3 (All-tail (λ (one : Statement × ℕ). one.1 ≤ 12) ran more small)

pub end_small : (ran : List (Statement × ℕ)) (plan : Plan) (end : Codes) → SetsCodes plan → All (λ one. one.1 ≤ 12) ran → IsRun plan ran end → end.maxcc ≤ 12
end_small ran plan end sets small run =
    let left = leaves_small ran plan run.0 flow.zero_codes run.1 sets (omega arith, omega arith) run.2 small in
    (subst IsSmallNext run.3 (next_small run.0 run.1 left.0 left.1)).1

-- what each statement answered is the code of its gravest message
pub answers_small : (ran : List Ran) → All IsReported ran → All (λ one. one.1 ≤ 12) (answers_of ran)
answers_small [] are = All-nil (λ (one : Statement × ℕ). one.1 ≤ 12)
answers_small (one ∷ more) are =
    All-cons (λ (one : Statement × ℕ). one.1 ≤ 12) (one.statement, one.report.code) (answers_of more)
    (subst (λ (m : ℕ). m ≤ 12) (sym (All-head IsReported one more are).code_is) (greatest_small one.report.messages)) (answers_small more (All-tail IsReported one more are))
