use Rattle.format_rows.proofs.Common.{arith, ◌-◌}
use Rattle.format_rows.proofs.StepLemmas.{at_most_two}
use Rattle.format_rows.proofs.directories.find_in_three.Goals as goal

pub returns : goal.returns
returns g c =
    let few = at_most_two (c.find_tile_id_counted.new.steps - c.args.steps.now) (omega (arith, c.find_tile_id_counted.ensures.cost, c.requires)) in
    omega (arith, few, c.find_tile_id_counted.ensures.later)
