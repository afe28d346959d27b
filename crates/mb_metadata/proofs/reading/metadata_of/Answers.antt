use Rattle.mb_metadata.proofs.Common.{◌∙◌}
use Rattle.mb_metadata.proofs.ReadingLemmas.{metadata_same}
use Rattle.mb_metadata.proofs.reading.metadata_of.Goals as goal

pub returns : goal.returns
returns c =
    metadata_same c.args.id.now c.args.set.now.state (c.new.ensures ∙ c.in_ok-file.ensures.ok) c.in_ok-layer_type.ensures c.in_ok-agg_tiles_hash.ensures c.in_ok-document.ensures
    c.in_ok-said.ensures.layers c.in_ok-said.ensures.json c.zooms_in-tiles.ensures c.document_within-tilejson.ensures
