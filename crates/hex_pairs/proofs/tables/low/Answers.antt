use Rattle.hex_pairs.proofs.Common.{arith}
use Rattle.hex_pairs.proofs.TableLemmas.{low_read}
use Rattle.hex_pairs.proofs.tables.low.Goals as goal

pub returns : goal.returns
returns c = low_read c.args.digit (omega arith)
