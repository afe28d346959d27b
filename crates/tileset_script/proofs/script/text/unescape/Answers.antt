use Rattle.tileset_script.proofs.Common.{arith, nil_from_length, unescaped}
use Rattle.tileset_script.proofs.TextLemmas.{bytes_end}
use Rattle.tileset_script.proofs.script.text.unescape.Goals as goal

pub returns : goal.returns
returns c = bytes_end c.loop-rest.bytes.items c.loop-rest.rest.now (unescaped c.args.word.now) (nil_from_length c.loop-rest.rest.now (omega arith)) c.loop-rest.invariant
