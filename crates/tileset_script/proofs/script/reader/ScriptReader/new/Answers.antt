use Rattle.tileset_script.proofs.Common.{ap, arith, drafted, length}
use Rattle.tileset_script.proofs.ReaderLemmas.{no_part, read_none}
use Rattle.tileset_script.proofs.script.reader.ScriptReader.new.Goals as goal

pub returns : goal.returns
returns c = record {
  whole = λ more. read_none (drafted c.new.result) c.new-2.result.items more c.new.ensures.empty c.new-2.ensures.items;
  part = no_part c.new-2.result.items c.new-2.ensures.items;
  small = omega (arith, ap length c.new-2.ensures.items);
  unfailing = c.new.ensures.unfailing;
}
