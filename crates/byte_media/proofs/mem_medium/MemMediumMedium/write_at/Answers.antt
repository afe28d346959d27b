use Rattle.byte_media.proofs.WriteLemmas.{no_front}
use Rattle.byte_media.proofs.mem_medium.MemMediumMedium.write_at.Goals as goal

pub returns-then-fails-clause-leaves : goal.returns-then-fails-clause-leaves
returns-then-fails-clause-leaves c = no_front _ _ _
