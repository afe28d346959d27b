use Rattle.tile_streaming.proofs.AgreementLemmas.{callers_have_one}
use Rattle.tile_streaming.proofs.laws.callers_have_one_archive.Goals as goal

pub returns : goal.returns
returns c = callers_have_one
