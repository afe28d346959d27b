use Rattle.tile_ids.proofs.Common.{refl}
use Rattle.tile_ids.proofs.SixteenthLemmas.{place_read}
use Rattle.tile_ids.proofs.orientation.place_entry.Goals as goal

pub returns-clause-sixteenth : goal.returns-clause-sixteenth
returns-clause-sixteenth c = (place_read c.args.before c.args.number _ c.requires.before c.requires.number refl).sixteenth

pub returns-clause-within : goal.returns-clause-within
returns-clause-within c = (place_read c.args.before c.args.number _ c.requires.before c.requires.number refl).below
