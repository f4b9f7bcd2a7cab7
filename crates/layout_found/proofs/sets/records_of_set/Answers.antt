use Rattle.std.proofs.Common.{◌≡◌, List, length, map, sym, ap, subst, ◌∙◌}
use Rattle.volume_model.specs.declared.place.Placed.{Placed}
use Rattle.volume_model.specs.Directory.{chain_of}
use Rattle.vtoc_check.specs.Reach.{record_in}
use Rattle.layout_found.proofs.SetsByName.{set_none, set_some}
use Rattle.layout_found.proofs.sets.records_of_set.Goals as goal

pub returns-in_default : goal.returns-in_default
returns-in_default c = λ vtoc heads is. set_none vtoc c.args.records.now c.args.name.now is (sym c.in_default.ensures)

pub returns : goal.returns
returns c =
    let P : List Placed → Type 0 = λ records. map (record_in records) c.in_ok-chain.chain.items ≡ chain_of c.args.directory.now.heads records (length records) c.in-Some.one.bytes in
    let threes = c.in_ok-threes.ensures ∙ ap (map (record_in c.args.records.now)) c.deref.ensures.value ∙ subst P (sym c.requires) c.in_ok-chain.ensures.0 in
    λ vtoc heads is. set_some vtoc c.args.directory.now.heads c.args.records.now c.args.name.now c.in-Some.one c.in_ok-threes.threes heads is (sym c.in-Some.ensures) threes
