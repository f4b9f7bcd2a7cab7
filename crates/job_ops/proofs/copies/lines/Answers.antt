use Rattle.std.proofs.Common.{◌≡◌, ℕ, ◌++◌, ◌∷◌, [], List, Bool, Vec, Global, sym, ap, subst, ◌∙◌, append_assoc}
use Rattle.std.specs.Prelude.{Option, if◌then◌else◌}
use Rattle.std.proofs.lemmas.Bool.{false≢true}
use Rattle.job_lines.specs.declared.message.Message.{Message}
use Rattle.job_lines.specs.declared.message.Message.TheVariants as messages
use Rattle.job_ops.specs.Transfers.{is_carried}
use Rattle.job_ops.specs.Copying.{rebuilt_for, IsTold}
use Rattle.job_ops.proofs.copies.lines.Goals.{then-is_same, else-is_same, then-transfer+in_ok-push-2, else-transfer}
use Rattle.job_ops.proofs.copies.lines.Goals as goal

pub returns : goal.returns
returns g c =
    let transfer = c.args.transfer.now in
    let rebuilt = rebuilt_for (is_carried transfer) c.args.session.now.units transfer.from.unit transfer.to.unit in
    let text = c.name_bytes-text.result in
    let copied = messages.Copied text c.volume-volume.result.now.serial c.if-is_same.told in
    let deleted = messages.Deleted text ∷ [] in
    let pushed : c.push.new.self.items ≡ rebuilt ++ (copied ∷ []) =
    c.in_ok-push.ensures.items
    ∙ ap (λ (l : List Message). l ++ (copied ∷ [])) (c.in_ok-push_all_rebuilt.ensures ∙ ap (λ (l : List Message). l ++ rebuilt) c.new-said.ensures.items) in
    record {
      volume = c.volume-volume.result.now;
      loaded = c.volume-volume.ensures;
      text = text;
      text_is = c.name_bytes-text.ensures;
      told = c.if-is_same.told;
      told_is = elim c.if-is_same.branch [
        | then-is_same w ↦ subst (λ (told : Option (List ℕ)). IsTold transfer.from.name transfer.to.name told) (sym w.told-is) (c.is_same.ensures.0 w.if-is_same.true)
        | else-is_same w ↦
            subst (λ (told : Option (List ℕ)). IsTold transfer.from.name transfer.to.name told) (sym w.told-is)
            (λ same. false≢true (sym w.if-is_same.false ∙ c.is_same.ensures.1 same), w.name_bytes.ensures)
      ];
      said_are = elim c.if-transfer.branch [
        | then-transfer+in_ok-push-2 w ↦
            ap (λ (said : Vec Message Global). said.items) w.said-is ∙ w.in_ok-push-2.ensures.items ∙ ap (λ (l : List Message). l ++ deleted) pushed
            ∙ append_assoc rebuilt (copied ∷ []) deleted ∙ ap (λ (b : Bool). rebuilt ++ (copied ∷ (if b then deleted else []))) (sym w.if-transfer.true)
        | else-transfer w ↦
            ap (λ (said : Vec Message Global). said.items) w.said-is ∙ pushed ∙ ap (λ (b : Bool). rebuilt ++ (copied ∷ (if b then deleted else []))) (sym w.if-transfer.false)
      ];
    }
