use Rattle.hex_pairs.proofs.Common.{arith}
use Rattle.hex_pairs.proofs.TableLemmas.{high_read}
use Rattle.hex_pairs.proofs.tables.high.Goals as goal

pub returns : goal.returns
returns c = high_read c.args.digit (omega arith)
