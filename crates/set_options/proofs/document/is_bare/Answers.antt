use Rattle.mb_metadata.proofs.BareLemmas.{bare}
use Rattle.set_options.proofs.document.is_bare.Goals as goal

pub returns : goal.returns
returns c = bare c.args.members.now.entries c.is_empty.result c.is_empty.ensures
