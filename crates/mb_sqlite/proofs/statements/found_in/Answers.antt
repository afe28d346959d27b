use Rattle.mb_sqlite.proofs.Common.{ap, sym}
use Rattle.mb_sqlite.specs.Statements.{found_text}
use Rattle.mb_sqlite.proofs.statements.found_in.Goals as goal

pub returns-in-TilesWithHash : goal.returns-in-TilesWithHash
returns-in-TilesWithHash c = ap found_text (sym c.in-TilesWithHash.is)
