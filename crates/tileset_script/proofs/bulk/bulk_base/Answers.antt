use Rattle.tileset_script.proofs.Common.{ap, numbered_row, rules, told_of, ◌/◌, ◌∙◌}
use Rattle.tileset_script.proofs.BulkLemmas.{no_tiles, one_more}
use Rattle.tileset_script.proofs.bulk.bulk_base.Goals as goal

pub loop-id-init : goal.loop-id-init
loop-id-init c = record { told = c.in_ok-base.ensures.told ∙ no_tiles c.args.repeat; unfailing = c.in_ok-base.ensures.unfailing }

pub loop-id-preserved : goal.loop-id-preserved
loop-id-preserved c = record {
  told = one_more c.loop-id.id c.args.repeat (told_of c.loop-id.base.store) (told_of c.take_row.new.self.store) c.in_ok-row.row c.loop-id.invariant.told (c.in_ok-row.ensures.row ∙ ap (λ x. numbered_row x (c.loop-id.id / c.args.repeat)) c.coord_of.ensures) (search rules);
  unfailing = c.take_row.ensures.unfailing c.loop-id.invariant.unfailing;
}
