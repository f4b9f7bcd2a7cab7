use Rattle.std.proofs.Common.{take}
use Rattle.org_reloc.specs.Member.{AreMembersPut}
use Rattle.org_reloc.proofs.member.push_members.Given as goal

abbrev pub invariant-loop-number : goal.invariant-loop-number
invariant-loop-number l = AreMembersPut l.tracks (take l.number-index l.numbers) l.fn.blocks l.blocks l.starts
