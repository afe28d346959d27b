-- the server stays that of its backend
use Rattle.archive_rows.proofs.Common.{◌≡◌}
use Rattle.tile_serve.specs.Server.{IsTied}
use Rattle.archive_rows.proofs.serving.answer_lines.Given as goal

abbrev pub invariant-loop-word : goal.invariant-loop-word
invariant-loop-word g l = IsTied g.B.Backend.told g.B.Backend.versions l.server × (l.server.backend.ghost_name ≡ l.initial.server.backend.ghost_name)
