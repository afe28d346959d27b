use Rattle.pm_reader.proofs.MetadataLemmas.{told_text}
use Rattle.pm_reader.proofs.state.ReaderState.get_metadata.Goals as goal

pub returns-in-Ok-clause-answer : goal.returns-in-Ok-clause-answer
returns-in-Ok-clause-answer g c =
    told_text (g.B.Backend.told c.args.backend.now) c.args.self.now.header c.as_slice.result.now c.in-Ok.response.bytes c.text_of.result c.as_slice.ensures c.text_of.ensures c.in-Ok.ensures.answer
