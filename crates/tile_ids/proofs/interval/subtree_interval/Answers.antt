use Rattle.tile_ids.proofs.Common.{arith}
use Rattle.tile_ids.proofs.Curve.{four_pos}
use Rattle.tile_ids.proofs.SubtreeLemmas.{block_interval, interval_within, interval_law}
use Rattle.tile_ids.proofs.interval.subtree_interval.Goals as goal

pub overflow_sub-count : goal.overflow_sub-count
overflow_sub-count c = rw c.block-first.ensures.count (four_pos _)

pub from_value-requires : goal.from_value-requires
from_value-requires c =
    let z = c.z.ensures in
    let b = c.block-first.ensures in
    let most = interval_within _ _ _ (block_interval _ _ _ _ _ z.within z.value c.if-zoom-z.false c.if-zoom-gt-MAX_ZOOM.false b.first b.count) in
    omega (arith, most)

pub overflow_add-first : goal.overflow_add-first
overflow_add-first c =
    let z = c.z.ensures in
    let b = c.block-first.ensures in
    let most = interval_within _ _ _ (block_interval _ _ _ _ _ z.within z.value c.if-zoom-z.false c.if-zoom-gt-MAX_ZOOM.false b.first b.count) in
    record { fits = omega (arith, most) }

pub from_value-requires-2 : goal.from_value-requires-2
from_value-requires-2 c =
    let z = c.z.ensures in
    let b = c.block-first.ensures in
    interval_within _ _ _ (block_interval _ _ _ _ _ z.within z.value c.if-zoom-z.false c.if-zoom-gt-MAX_ZOOM.false b.first b.count)

pub returns-clause-ends : goal.returns-clause-ends
returns-clause-ends c =
    let z = c.z.ensures in
    let b = c.block-first.ensures in
    let interval = block_interval _ _ _ _ _ z.within z.value c.if-zoom-z.false c.if-zoom-gt-MAX_ZOOM.false b.first b.count in
    rw (c.from_value.ensures, c.from_value-2.ensures) interval

pub returns-clause-between : goal.returns-clause-between
returns-clause-between c =
    let z = c.z.ensures in
    let b = c.block-first.ensures in
    let interval = block_interval _ _ _ _ _ z.within z.value c.if-zoom-z.false c.if-zoom-gt-MAX_ZOOM.false b.first b.count in
    rw (c.from_value.ensures, c.from_value-2.ensures) (interval_law _ _ _ z.within interval)
