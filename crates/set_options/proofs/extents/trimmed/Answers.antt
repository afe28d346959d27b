use Rattle.set_options.proofs.Common.{drop, is_ascii_whitespace, prefix_len, refl, trim_ascii_is}
use Rattle.set_options.proofs.extents.trimmed.Goals as goal

pub returns : goal.returns
returns c = trim_ascii_is c.args.word.now c.trim_ascii.result.now (drop (prefix_len is_ascii_whitespace c.args.word.now) c.args.word.now) refl c.trim_ascii.ensures.value
