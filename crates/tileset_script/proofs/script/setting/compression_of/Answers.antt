use Rattle.tileset_script.proofs.Common.{ap, arith, codes, compression_named, rules, sym, text_from_reads}
use Rattle.tileset_script.proofs.script.setting.compression_of.Goals as goal

pub returns-in-brotli : goal.returns-in-brotli
returns-in-brotli c = ap compression_named (sym (text_from_reads c.args.word.now (codes "brotli") (omega arith) (search rules)))

pub returns-in-unknown : goal.returns-in-unknown
returns-in-unknown c = ap compression_named (sym (text_from_reads c.args.word.now (codes "unknown") (omega arith) (search rules)))
