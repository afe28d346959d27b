use Rattle.mb_sqlite.proofs.Common.{min, owned, rules, value_size, ◌+◌, ◌-◌, ◌^◌, ◌≡◌}
use Rattle.sqlite_value.specs.declared.value.Value.TheVariants as sql
use Rattle.mb_sqlite.proofs.SizingLemmas.{sum_taken}
use Rattle.mb_sqlite.proofs.rows.with_row.Goals as goal

pub loop-at-preserved : goal.loop-at-preserved
loop-at-preserved c =
    let value = owned c.in_ok-value.value in
    let step : c.saturating_add-sum.result ≡ min (c.loop-at.sum + value_size value) (2 ^ 64 - 1) = search rules in
    sum_taken value_size (2 ^ 64 - 1) c.args.size c.loop-at.sum c.saturating_add-sum.result c.args.row.now c.loop-at.at value sql.Null c.in_ok-value.ensures.ok.0 c.in_ok-value.ensures.ok.1 c.loop-at.invariant step
