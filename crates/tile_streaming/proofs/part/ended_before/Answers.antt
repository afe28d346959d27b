use Rattle.tile_streaming.proofs.Common.{rules, ℕ}
use Rattle.std.proofs.Common.{ltb}
use Rattle.std.proofs.lemmas.List.Sorted.{IsPartitionedBy-ltb, IsPartitionPoint-from_clause}
use Rattle.tile_streaming.proofs.IntervalLemmas.{ends_rise}
use Rattle.tile_streaming.proofs.part.ended_before.Goals as goal

pub returns : goal.returns
returns c =
    IsPartitionPoint-from_clause (λ (i : ℕ × ℕ). ltb i.1 c.args.id) c.args.intervals.now c.partition_point.result c.partition_point.ensures.partitioned
    (IsPartitionedBy-ltb (λ (i : ℕ × ℕ). i.1) c.args.intervals.now c.args.id (ends_rise 0 c.args.intervals.now c.requires)) (λ a r q k. search rules)
