use Rattle.mb_metadata.proofs.Common.{codes, None, refl}
use Rattle.mb_metadata.proofs.ReadBackLemmas.{other_read, read_at}
use Rattle.mb_metadata.proofs.laws.others_are_read_back.Goals as goal

pub returns-clause-other : goal.returns-clause-other
returns-clause-other c = λ id s t name free. other_read s.metadata t name free

pub returns-clause-layer_type : goal.returns-clause-layer_type
returns-clause-layer_type c = λ id s t. read_at s.metadata t (codes "type") None (λ had. refl)

pub returns-clause-agg_tiles_hash : goal.returns-clause-agg_tiles_hash
returns-clause-agg_tiles_hash c = λ id s t. read_at s.metadata t (codes "agg_tiles_hash") None (λ had. refl)
