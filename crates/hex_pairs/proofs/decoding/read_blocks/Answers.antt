use Rattle.hex_pairs.proofs.Common.{rules}
use Rattle.hex_pairs.proofs.ReadLemmas.{more_bytes, more_digits}
use Rattle.hex_pairs.proofs.decoding.read_blocks.Goals as goal

pub loop-bytes-preserved : goal.loop-bytes-preserved
loop-bytes-preserved c = record {
  digits = more_digits c.args.digits.now c.loop-bytes.at c.loop-bytes.invariant.digits (c.read_block.ensures.digits c.if-not-read_block.false);
  read = more_bytes c.args.digits.now _ _ c.loop-bytes.at (search rules) c.loop-bytes.invariant.read (c.read_block.ensures.read c.if-not-read_block.false);
  within = search rules;
  len = search rules;
}
