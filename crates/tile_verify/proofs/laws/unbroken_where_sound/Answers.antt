use Rattle.tile_verify.proofs.SoundLemmas.{sound_from_walk, walk_from_sound}
use Rattle.tile_verify.proofs.laws.unbroken_where_sound.Goals as goal

pub returns-clause-sound : goal.returns-clause-sound
returns-clause-sound c = sound_from_walk

pub returns-clause-unbroken : goal.returns-clause-unbroken
returns-clause-unbroken c = walk_from_sound
