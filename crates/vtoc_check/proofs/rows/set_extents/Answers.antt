use Rattle.std.proofs.Common.{◌≡◌, List, ◌++◌, length, map, ap, ◌∙◌, arith}
use Rattle.std.specs.List.{flat_map}
use Rattle.std.proofs.lemmas.List.{length-map}
use Rattle.volume_model.specs.declared.extent.ExtentField.{ExtentField}
use Rattle.volume_model.specs.declared.place.Placed.{Placed}
use Rattle.volume_model.specs.Dscbs.{extents_of}
use Rattle.volume_model.specs.Directory.{chain_of}
use Rattle.vtoc_check.specs.Reach.{record_in}
use Rattle.vtoc_check.proofs.rows.set_extents.Goals as goal

pub returns : goal.returns
returns c = λ place.
    let all = c.args.directory.now.records.items in
    let bytes = c.args.bytes.now in
    let chain = c.in_ok-chain.ensures in
    let own : c.add_extents.new.extents.items ≡ extents_of bytes = c.in_ok-add_extents.ensures ∙ ap (λ (xs : List ExtentField). xs ++ extents_of bytes) c.new-extents.ensures.items in
    let further : map (record_in c.args.records.now) c.deref.result.now ≡ chain_of c.args.directory.now.heads all (length all) bytes =
    (λ i. map (record_in (c.requires i)) (c.deref.ensures.value i)) ∙ chain.0 in
    let count : length (map (record_in all) c.in_ok-chain.chain.items) ≡ length c.in_ok-chain.chain.items = simp length-map in
    let len = c.len.ensures in
    (c.in_ok-add_chain.ensures ∙ (λ i. own i ++ flat_map (λ (three : Placed). extents_of three.bytes) (further i)), omega (arith, len, count, ap length chain.0))
