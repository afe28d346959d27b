use Rattle.tile_extract.proofs.CompleteLemmas.{parts_end_well}
use Rattle.tile_extract.proofs.laws.parts_extracted_where_sound.Goals as goal

pub returns : goal.returns
returns c = record { well = parts_end_well }
