use Rattle.pm_format.specs.declared.compression.Compression.TheVariants as compression
use Rattle.pm_writer.proofs.Common.{AddCauses, AddFits, has_failed, length, subst}
use Rattle.pm_writer.proofs.state.WriterState.add_raw_tile.Goals as goal

pub returns-clause-causes : goal.returns-clause-causes
returns-clause-causes g c = λ o adds w.
    let t = c.add_raw_tile_by_id.ensures.causes o adds w in
    (t.0, t.1, subst (λ id. AddCauses compression.None (has_failed c.args.self.now) (length c.args.bytes.now) (AddFits o adds id t.0) (g.M.Backend.faults c.args.medium.now) (g.M.Backend.faults c.add_raw_tile_by_id.new.medium) c.add_raw_tile_by_id.result) c.from.ensures t.2)
