use Rattle.tile_hash.proofs.Common.{ap, arith, byte_hashed, drop, hashed_from, sym, ℕ, ◌+◌, ◌∙◌}
use Rattle.tile_hash.proofs.StepLemmas.{hashed_step, hashed_done}
use Rattle.tile_hash.proofs.fnv.hashed_from.Goals as goal

pub loop-byte-preserved : goal.loop-byte-preserved
loop-byte-preserved c =
    ap (λ (b : ℕ). hashed_from (byte_hashed c.loop-byte.hash b) (drop (c.loop-byte.byte-index + 1) c.args.bytes.now)) c.from.ensures
    ∙ hashed_step c.args.bytes.now c.loop-byte.hash c.loop-byte.byte-index (omega arith) ∙ c.loop-byte.invariant

pub returns : goal.returns
returns c = sym (hashed_done c.args.bytes.now c.loop-byte.hash c.loop-byte.byte-index (omega arith)) ∙ c.loop-byte.invariant
