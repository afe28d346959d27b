use Rattle.tile_import.proofs.Common.{ReadCauses, subst, sym}
use Rattle.tile_import.proofs.RefusalLemmas.{stop_causes}
use Rattle.tile_import.proofs.reading.take_opened.Goals as goal

pub returns-in-Err-clause-causes : goal.returns-in-Err-clause-causes
returns-in-Err-clause-causes g c =
    let before = g.B.Backend.faults c.args.backend.now in
    let now = g.B.Backend.faults c.take_entries.new.backend in
    subst (ReadCauses c.args.max_tiles before now) (sym c.of_walk.ensures) (stop_causes c.args.max_tiles before now c.in-Err.error c.in-Err.ensures.causes)
