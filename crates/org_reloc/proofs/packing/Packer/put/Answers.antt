use Rattle.std.proofs.Common.{ap, sym, subst, ◌∙◌, ◌++◌, ◌∷◌, []}
use Rattle.ckd_image.specs.declared.device.Device.{Device}
use Rattle.org_reloc.specs.declared.packing.Cursor.{Cursor}
use Rattle.org_reloc.specs.Packer.{Shows}
use Rattle.org_reloc.specs.Filling.{IsAt, filled_by}
use Rattle.org_reloc.proofs.Fillings.{shows_put}
use Rattle.org_reloc.proofs.packing.Packer.put.Goals as goal

pub returns-clause-put : goal.returns-clause-put
returns-clause-put c filling shows =
    let old = c.args.self.now in
    let taken = c.take-opens.new.self in
    let next = filled_by old.cursor.device filling c.args.block in
    let pushed = c.in_ok-push.ensures.ok
    ∙ ap (λ (k : Cursor). c.close.new.self.recs ++ record { r = k.number; key = c.args.block.key; body = c.args.block.body } ∷ []) c.in_ok-close.ensures.cursor in
    let h = shows_put c.take-opens.result old.cursor.device filling c.args.block old.cursor.number old.cursor.room taken.number taken.room
    old.tracks c.close.new.self.tracks old.recs c.close.new.self.recs c.push.new.self
    c.take-opens.ensures.opens c.take-opens.ensures.stays c.take-opens.ensures.opened c.in_ok-close.ensures.kept c.in_ok-close.ensures.closed
    pushed shows.tracks shows.recs shows.cursor in
    subst (λ (k : Cursor). Shows (record { tracks = c.close.new.self.tracks; recs = c.push.new.self; cursor = k }) next) (sym c.in_ok-close.ensures.cursor)
    (record { tracks = h.0; recs = h.1; cursor = subst (λ (d : Device). IsAt d taken.number taken.room next) (sym c.take-opens.ensures.device) h.2 })
