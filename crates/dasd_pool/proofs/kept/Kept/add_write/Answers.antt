use Rattle.std.proofs.Common.{◌∙◌, ◌≤◌, [], ◌∷◌, ◌++◌, length, Bool, true, refl, sym, ap, subst, arith}
use Rattle.std.specs.Prelude.{if◌then◌else◌}
use Rattle.std.proofs.lemmas.Bool.{lt-ltb, le-ltb}
use Rattle.dasd_pool.specs.declared.calls.Call.TheVariants.{Write, Sync}
use Rattle.dasd_pool.specs.Kept.{KeptView, with_call}
use Rattle.dasd_pool.proofs.kept.Kept.add_write.Goals as goal

pub returns-then-len-self-clause-calls : goal.returns-then-len-self-clause-calls
returns-then-len-self-clause-calls c =
    let calls = c.self.inside.calls.items in
    let call = Write c.args.unit c.args.block c.filled_spare-bytes.result c.args.failed in (
      call,
      c.record_call.ensures.items
          ∙ sym (ap (λ (t : Bool). if t then calls ++ call ∷ [] else calls) (lt-ltb (length calls) c.self.inside.keep (omega arith)))
          ∙ ap (λ (v : KeptView). with_call v.keep v.calls call) c.self.view_is,
      λ less. (c.filled_spare-bytes.result, c.filled_spare-bytes.ensures.bytes, refl),
    )

pub returns-else-len-self-clause-calls : goal.returns-else-len-self-clause-calls
returns-else-len-self-clause-calls c =
    let old = c.args.self.now in
    let past : old.keep ≤ length old.calls = subst (λ (v : KeptView). v.keep ≤ length v.calls) c.self.view_is (omega arith) in (
      Sync true,
      sym (ap (λ (t : Bool). if t then old.calls ++ Sync true ∷ [] else old.calls) (le-ltb (length old.calls) old.keep past)),
      λ less. absurd (omega arith),
    )
