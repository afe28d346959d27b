use Rattle.mb_metadata.proofs.Common.{◌∙◌}
use Rattle.mb_metadata.proofs.ReadingLemmas.{document_same}
use Rattle.mb_metadata.proofs.reading.document_said.Goals as goal

pub returns : goal.returns
returns c =
    document_same c.args.set.now.state.metadata (c.new-tiles.ensures ∙ c.new.ensures.items) c.in_ok-name.ensures c.in_ok-version.ensures c.in_ok-description.ensures c.in_ok-attribution.ensures
    c.in_ok-legend.ensures c.in_ok-template.ensures c.zoom_at-minzoom.ensures c.zoom_at-maxzoom.ensures c.in_ok-bounds.ensures c.in_ok-center.ensures c.in_ok-other.ensures
