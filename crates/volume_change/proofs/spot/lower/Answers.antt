use Rattle.std.proofs.Common.{arith, rules}
use Rattle.std.proofs.lemmas.List.Sorted.{IsPartitionPoint-from_clause}
use Rattle.volume_change.specs.Spot.{comes_before}
use Rattle.volume_change.proofs.Spots.{parted}
use Rattle.volume_change.proofs.spot.lower.Goals as goal

pub returns-clause-lower : goal.returns-clause-lower
returns-clause-lower c =
    let point = IsPartitionPoint-from_clause (λ row. comes_before row.name c.args.name.now) _ _ c.partition_point.ensures.partitioned (parted c.args.rows.now c.args.name.now c.requires) (λ a r q k. search rules) in
    λ k d lt. point.0 k d (omega arith) lt

pub returns-clause-not_lower : goal.returns-clause-not_lower
returns-clause-not_lower c =
    let point = IsPartitionPoint-from_clause (λ row. comes_before row.name c.args.name.now) _ _ c.partition_point.ensures.partitioned (parted c.args.rows.now c.args.name.now c.requires) (λ a r q k. search rules) in
    λ k d from lt. point.1 k d from lt
