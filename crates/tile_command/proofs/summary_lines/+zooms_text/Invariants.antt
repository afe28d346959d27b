-- the rest is shorter
use Rattle.tile_command.proofs.Common.{length}
use Rattle.tile_command.proofs.summary_lines.+zooms_text.Given as goal

abbrev pub decreases-zooms_text : goal.decreases-zooms_text
decreases-zooms_text l = length l.infos.now
