use Rattle.mb_tables.proofs.Common.{◌∙◌}
use Rattle.std.specs.Cmp.Lexicographic.{texts_ties}
use Rattle.mb_tables.proofs.cell_order.CellPartialEq.eq.Goals as goal

pub returns-in-Text-Text : goal.returns-in-Text-Text
returns-in-Text-Text c = rw (c.in-Text-Text.is-0, c.in-Text-Text.is-1) (c.eq.ensures ∙ texts_ties c.in-Text-Text.a c.in-Text-Text.b)

pub returns-in-Blob-Blob : goal.returns-in-Blob-Blob
returns-in-Blob-Blob c = rw (c.in-Blob-Blob.is-0, c.in-Blob-Blob.is-1) (c.eq-in-Blob-Blob.ensures ∙ texts_ties c.in-Blob-Blob.a c.in-Blob-Blob.b)
