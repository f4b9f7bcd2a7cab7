-- Commands are counted upwards.
use Rattle.std.proofs.Common.{inl, inr, ℕ, suc, ◌≤◌, List, [], ◌∷◌, Bool, true, false, arith}
use Rattle.sysin_text.specs.declared.token.Placed.{Placed}
use Rattle.sysin_lang.specs.Flow.{Plan}
use Rattle.sysin_read.specs.declared.outline.Frame.{Frame}
use Rattle.sysin_read.specs.declared.outline.Frame.TheVariants as frames
use Rattle.sysin_read.specs.Statement.{most_commands, IsStatement, IsBlock, command, set, if_alone, if_else, do_end, none, more}
use Rattle.sysin_read.specs.Rest.{Rest}

mutual
  statement_grows : (limited : Bool) (room before after : ℕ) (closed : Bool) (plan next : Plan) (list : List Placed) → IsStatement limited room before after closed plan next list → before ≤ after
  statement_grows limited room before after closed plan next list (command r b c q l line) = omega arith
  statement_grows limited room before after closed plan next list (set r b w c q l t line spells) = omega arith
  statement_grows limited room before after closed plan next list (if_alone r b a s w o c first q head body t line spells inner) = statement_grows limited r b a s first q body inner
  statement_grows limited room before after closed plan next list (if_else r b m a s w o c first second q head body other else' t line spells inner e last) =
      let one : b ≤ m = statement_grows limited r b m true first q body inner in
      let two : m ≤ a = statement_grows limited r m a s second q other last in
      omega (arith, one, two)
  statement_grows limited room before after closed plan next list (do_end r b a p q do' end l lead block ends) = block_grows limited r b a p q l block

  block_grows : (limited : Bool) (room before after : ℕ) (plan next : Plan) (list : List Placed) → IsBlock limited room before after plan next list → before ≤ after
  block_grows limited room before after plan next list (none r b q) = omega arith
  block_grows limited room before after plan next list (more r b m a s p n q first others statement starts block) =
      let one : b ≤ m = statement_grows limited r b m s p n first statement in
      let two : m ≤ a = block_grows limited r m a n q others block in
      omega (arith, one, two)

-- there are no more before what may stand behind than there may be
pub rest_count : (limited : Bool) (room : ℕ) (open' : List Frame) (closed : Bool) (count : ℕ) (plans : List Plan) (list : List Placed) → Rest limited room open' closed count plans list
    → count ≤ most_commands
rest_count limited room [] closed count plans list (plan, after, e, starts, block, few) =
    let grown : count ≤ after = block_grows limited room count after plan _ list block in
    let most : after ≤ 999 = few in
    let goal : count ≤ 999 = omega (arith, grown, most) in
    goal
rest_count limited room (frames.Then ∷ outer) closed count plans list (plan, other, behind, e, inl (same, r)) = rest_count limited (suc room) outer false count (plan ∷ behind) list r
rest_count limited room (frames.Then ∷ outer) closed count plans list (plan, other, behind, e, inr (shut, (else', rest, whole, is, s))) =
    let grown : count ≤ s.after = statement_grows limited room count s.after s.closed other plan s.first s.statement in
    let most : s.after ≤ 999 = rest_count limited (suc room) outer s.closed s.after (plan ∷ behind) s.more s.behind in
    let goal : count ≤ 999 = omega (arith, grown, most) in
    goal
rest_count limited room (frames.Else ∷ outer) closed count plans list (plan, behind, e, r) = rest_count limited (suc room) outer closed count (plan ∷ behind) list r
rest_count limited room (frames.Do ∷ outer) closed count plans list (plan, next, behind, e, b) =
    let grown : count ≤ b.after = block_grows limited room count b.after plan next b.inner b.block in
    let most : b.after ≤ 999 = rest_count limited (suc room) outer true b.after (next ∷ behind) b.more b.behind in
    let goal : count ≤ 999 = omega (arith, grown, most) in
    goal
