use Rattle.pm_reader.proofs.PlainLemmas.{plain_answer, plain_causes}
use Rattle.pm_reader.proofs.state.ReaderState.get_tile_decompressed.Goals as goal

pub returns-clause-answer : goal.returns-clause-answer
returns-clause-answer g c = plain_answer (g.B.Backend.told c.args.backend.now) c.args.tile_id c.args.self.now.header.tile_compression c.get_tile-found.result _ c.require_plain.ensures c.get_tile-found.ensures.answer

pub returns-clause-causes : goal.returns-clause-causes
returns-clause-causes g c = plain_causes c.args.self.now.header.tile_compression _ _ c.get_tile-found.result _ c.require_plain.ensures c.get_tile-found.ensures.causes
