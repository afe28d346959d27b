use Rattle.tileset_script.proofs.Common.{rules, sym}
use Rattle.tileset_script.proofs.SettingLemmas.{no_setting}
use Rattle.tileset_script.proofs.script.setting.parse_setting.Goals as goal

pub returns-in-None-one_word : goal.returns-in-None-one_word
returns-in-None-one_word c = sym (no_setting c.args.name.now c.args.values.now (search rules) (search rules) (search rules))
