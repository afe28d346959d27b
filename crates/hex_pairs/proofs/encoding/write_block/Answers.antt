use Rattle.hex_pairs.proofs.Common.{◌*◌}
use Rattle.hex_pairs.proofs.DigitLemmas.{two_stores}
use Rattle.hex_pairs.proofs.encoding.write_block.Goals as goal

pub returns-clause-written : goal.returns-clause-written
returns-clause-written c = two_stores _ _ _ _ _ _ (2 * c.args.at) c.store.ensures.written c.store-2.ensures.written c.digits_of.ensures
