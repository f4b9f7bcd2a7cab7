use Rattle.std.proofs.Common.{get_or, refl, subst, ap, ◌∙◌, ◌++◌, ◌∷◌, []}
use Rattle.org_reloc.specs.declared.place.Place.{Place}
use Rattle.org_reloc.specs.Member.{IsMemberPut}
use Rattle.org_reloc.proofs.Members.{put_more}
use Rattle.org_reloc.proofs.member.push_members.Goals as goal

pub loop-number-preserved : goal.loop-number-preserved
loop-number-preserved c =
    let number = get_or c.args.numbers.now c.loop-number.number-index 0 in
    put_more c.args.tracks.now c.args.numbers.now c.loop-number.number-index number c.args.blocks.now c.loop-number.blocks c.push_member.new.blocks c.loop-number.starts c.push.new.self
    c.loop-number-test.true refl c.loop-number.invariant (c.in_ok-push.ensures.ok ∙ ap (λ n. c.loop-number.starts ++ n ∷ []) c.len.ensures)
    (subst (λ (p : Place). IsMemberPut c.args.tracks.now p c.loop-number.blocks c.push_member.new.blocks) c.of.ensures c.in_ok-push_member.ensures.put)
