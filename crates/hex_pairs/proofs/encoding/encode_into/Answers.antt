use Rattle.hex_pairs.proofs.Common.{rules}
use Rattle.hex_pairs.proofs.DigitLemmas.{all_written, block_written, none_written}
use Rattle.hex_pairs.proofs.encoding.encode_into.Goals as goal

pub loop-at-init : goal.loop-at-init
loop-at-init c = record {
  written = none_written c.args.bytes.now c.args.digits.now;
  len = search rules;
  within = search rules;
}

pub loop-at-preserved : goal.loop-at-preserved
loop-at-preserved c = record {
  written = block_written _ _ _ c.loop-at.at c.loop-at.invariant.written c.write_block.ensures.written;
  len = search rules;
  within = search rules;
}

pub returns : goal.returns
returns c = all_written _ _ _ c.loop-at.at c.loop-at.invariant.written c.write_rest.ensures
