use Rattle.pm_writer.proofs.Common.{subst}
use Rattle.pm_writer.specs.Adding.{IsAdded, IsCaused}
use Rattle.pm_format.specs.declared.compression.Compression.TheVariants as compression
use Rattle.pm_writer.proofs.state.WriterState.add_raw_tile_with_digest.Goals as goal

pub returns-clause-added : goal.returns-clause-added
returns-clause-added g c =
    subst (λ id. IsAdded g.M.Backend.told g.M.Backend.reads c.args.medium.now c.add_raw_run_with_digest.new.medium c.args.self.now c.add_raw_run_with_digest.new.self id c.args.bytes.now c.add_raw_run_with_digest.result)
    c.value.ensures.value c.add_raw_run_with_digest.ensures.added

pub returns-clause-causes : goal.returns-clause-causes
returns-clause-causes g c =
    subst (λ id. IsCaused (λ o. compression.None) g.M.Backend.told g.M.Backend.reads g.M.Backend.faults c.args.medium.now c.add_raw_run_with_digest.new.medium c.args.self.now id c.args.bytes.now c.add_raw_run_with_digest.result)
    c.value.ensures.value c.add_raw_run_with_digest.ensures.causes
