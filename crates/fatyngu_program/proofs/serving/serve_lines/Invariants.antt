-- the server stays that of its backend
use Rattle.tile_serve.specs.Server.{IsTied}
use Rattle.fatyngu_program.proofs.serving.serve_lines.Given as goal

abbrev pub invariant-lines : goal.invariant-lines
invariant-lines g l = IsTied g.B.Backend.told g.B.Backend.versions l.server
