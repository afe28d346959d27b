use Rattle.tile_hash.proofs.Common.{refl, ◌∙◌}
use Rattle.tile_hash.proofs.Xxh3StreamLemmas.{taken_hash}
use Rattle.tile_hash.proofs.xxh3.stream.Xxh3Stream.finish.Goals as goal

pub returns : goal.returns
returns c = λ m took.
    c.lanes_merged.ensures ∙ rw c.striped-last.ensures
    (taken_hash c.args.self m c.taken-lanes.result _ took c.if-self-eq0.false c.args.self.in_stripe (c.args.self.behind c.if-self-eq0.false) c.args.self.in_room refl c.taken-lanes.ensures)
