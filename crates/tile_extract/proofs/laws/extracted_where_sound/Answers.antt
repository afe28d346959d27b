use Rattle.tile_extract.proofs.CompleteLemmas.{all_end_well}
use Rattle.tile_extract.proofs.laws.extracted_where_sound.Goals as goal

pub returns : goal.returns
returns c = record { well = all_end_well }
