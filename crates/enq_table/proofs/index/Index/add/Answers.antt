use Rattle.std.proofs.Common.{ℕ, List, Some, None, Bool, true, false, sym, ap, subst, ◌∙◌}
use Rattle.std.specs.Prelude.{◌≡◌, is_some}
use Rattle.std.specs.BTreeMap.{BTreeMap, get, Updates}
use Rattle.dsn_filter.specs.declared.dsn.Dsn.{Dsn}
use Rattle.enq_table.specs.declared.hold.Hold.{Hold}
use Rattle.enq_table.specs.Index.{name_key, name_order}
use Rattle.enq_table.proofs.Indexing.{firsts_added, firsts_undone, holders_same, added_behind}
use Rattle.enq_table.proofs.index.Index.add.Goals as goal

-- whether the name was there
there : (firsts : BTreeMap (ℕ × List ℕ) Hold) (name : Dsn) (key : ℕ × List ℕ) (test b : Bool) → test ≡ is_some (get name_order firsts key) → key ≡ name_key name → test ≡ b → is_some (get name_order firsts (name_key name)) ≡ b
there firsts name key test b tests same is = sym (tests ∙ ap (λ (k : ℕ × List ℕ). is_some (get name_order firsts k)) same) ∙ is

pub returns-then-contains_key-clause-ok : goal.returns-then-contains_key-clause-ok
returns-then-contains_key-clause-ok c =
    added_behind c.add_holder.result c.args.hold.now c.args.self.now c.add_holder.new.holders (there c.args.self.now.firsts c.args.hold.now.name c.key_of_name-key.result c.contains_key.result true c.contains_key.ensures c.key_of_name-key.ensures c.if-contains_key.true) c.add_holder.ensures.ok

pub returns-in-Err-clause-err : goal.returns-in-Err-clause-err
returns-in-Err-clause-err c = λ table h. record {
  firsts = firsts_undone table c.args.hold.now c.args.self.now.firsts c.insert.new.self c.remove.new.self h.firsts (there c.args.self.now.firsts c.args.hold.now.name c.key_of_name-key.result c.contains_key.result false c.contains_key.ensures c.key_of_name-key.ensures c.if-contains_key.false)
      (subst (λ (k : ℕ × List ℕ). Updates name_order c.args.self.now.firsts c.insert.new.self k (Some c.args.hold.now)) c.key_of_name-key.ensures c.in_ok-insert.ensures.updates)
      (subst (λ (k : ℕ × List ℕ). Updates name_order c.insert.new.self c.remove.new.self k None) c.key_of_name-key.ensures c.remove.ensures.updates);
  holders = holders_same table c.args.self.now.holders c.add_holder-2.new.holders h.holders c.in-Err.ensures.err;
}

pub returns-clause-ok : goal.returns-clause-ok
returns-clause-ok c = λ table h. record {
  firsts = firsts_added table c.args.hold.now c.args.self.now.firsts c.insert.new.self h.firsts (there c.args.self.now.firsts c.args.hold.now.name c.key_of_name-key.result c.contains_key.result false c.contains_key.ensures c.key_of_name-key.ensures c.if-contains_key.false)
      (subst (λ (k : ℕ × List ℕ). Updates name_order c.args.self.now.firsts c.insert.new.self k (Some c.args.hold.now)) c.key_of_name-key.ensures c.in_ok-insert.ensures.updates);
  holders = c.in_default.ensures.ok table h.holders;
}
