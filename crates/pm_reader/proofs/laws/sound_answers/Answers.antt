use Rattle.pm_reader.proofs.SoundTileLemmas.{sound_tile}
use Rattle.pm_reader.proofs.laws.sound_answers.Goals as goal

pub returns : goal.returns
returns c = sound_tile
