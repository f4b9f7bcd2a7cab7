use Rattle.std.proofs.Common.{ℕ, List, ◌++◌, take, sym, ap, ◌∙◌}
use Rattle.std.proofs.lemmas.List.{take-append-drop}
use Rattle.dump_read.proofs.feed.Window.give.Goals as goal

pub returns-clause-bytes : goal.returns-clause-bytes
returns-clause-bytes c =
    let count = c.min-count.result in (
      take count c.args.self.now,
      sym (take-append-drop count c.args.self.now) ∙ ap (λ (l : List ℕ). take count c.args.self.now ++ l) (sym c.skip.ensures),
      c.put-end.ensures.written ∙ ap (λ (l : List ℕ). take c.args.start c.args.buf.now ++ l) c.front.ensures,
    )
