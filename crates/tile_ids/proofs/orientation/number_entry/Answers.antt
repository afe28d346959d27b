use Rattle.tile_ids.proofs.Common.{refl}
use Rattle.tile_ids.proofs.SixteenthLemmas.{number_read}
use Rattle.tile_ids.proofs.orientation.number_entry.Goals as goal

pub returns-clause-sixteenth : goal.returns-clause-sixteenth
returns-clause-sixteenth c = (number_read c.args.before c.args.column c.args.row _ c.requires.before c.requires.column c.requires.row refl).sixteenth

pub returns-clause-within : goal.returns-clause-within
returns-clause-within c = (number_read c.args.before c.args.column c.args.row _ c.requires.before c.requires.column c.requires.row refl).below
