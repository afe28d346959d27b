use Rattle.set_options.proofs.Common.{drop, is_ascii_whitespace, prefix_len, refl, trim_ascii_is}
use Rattle.set_options.proofs.format.trimmed.Goals as goal

pub returns : goal.returns
returns c = trim_ascii_is c.args.text.now c.trim_ascii.result.now (drop (prefix_len is_ascii_whitespace c.args.text.now) c.args.text.now) refl c.trim_ascii.ensures.value
