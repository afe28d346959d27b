use Rattle.tile_hash.proofs.Common.{arith, refl, ◌∙◌}
use Rattle.tile_hash.proofs.Xxh3StreamLemmas.{kept_joined}
use Rattle.tile_hash.proofs.xxh3.stream.kept_of.Goals as goal

pub returns : goal.returns
returns c =
    kept_joined c.args.buffer.now c.args.more.now c.copy_from_slice.new.self _ c.copy_from_slice-2.new.self c.args.count _ _ c.requires.room c.requires.within (omega arith)
    (c.copy_from_slice.ensures.after ∙ c.last_stripe-last.ensures) c.copy_from_slice-2.ensures.after refl
