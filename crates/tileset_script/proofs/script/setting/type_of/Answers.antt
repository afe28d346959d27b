use Rattle.tileset_script.proofs.Common.{ap, arith, codes, rules, sym, text_from_reads, type_named}
use Rattle.tileset_script.proofs.script.setting.type_of.Goals as goal

pub returns-in-unknown : goal.returns-in-unknown
returns-in-unknown c = ap type_named (sym (text_from_reads c.args.word.now (codes "unknown") (omega arith) (search rules)))
