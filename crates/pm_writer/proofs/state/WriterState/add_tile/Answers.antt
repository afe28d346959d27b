use Rattle.pm_writer.proofs.Common.{rules}
use Rattle.pm_writer.proofs.Took.{itself_by}
use Rattle.pm_writer.proofs.state.WriterState.add_tile.Goals as goal

pub returns-then-self-clause-causes : goal.returns-then-self-clause-causes
returns-then-self-clause-causes g c = λ o adds w. (c.args.bytes.now, itself_by (g.M.Backend.told c.args.medium.now) (g.M.Backend.reads c.args.medium.now) (g.M.Backend.reads c.args.medium.now) c.args.bytes.now, search rules)

pub returns-then-ne-clause-causes : goal.returns-then-ne-clause-causes
returns-then-ne-clause-causes g c = λ o adds w. (c.args.bytes.now, itself_by (g.M.Backend.told c.args.medium.now) (g.M.Backend.reads c.args.medium.now) (g.M.Backend.reads c.args.medium.now) c.args.bytes.now, search rules)
