use Rattle.tile_streaming.proofs.Common.{Some, not, refl, ◌∙◌}
use Rattle.mb_edit.proofs.EntryLemmas.{other_blob}
use Rattle.mb_edit.specs.Common.{bytes_eq}
use Rattle.tile_streaming.proofs.collisions.differs.Goals as goal

pub returns-in-Blob : goal.returns-in-Blob
returns-in-Blob c = other_blob (Some c.args.cell.now) c.args.cell.now c.in-Blob.stored c.args.bytes.now c.ne.result refl c.in-Blob.is (c.ne.ensures ∙ (λ i. not (bytes_eq (c.as_bytes.ensures i) (c.as_bytes-in-Blob.ensures i))))
