use Rattle.tile_streaming.proofs.seen_rows.SeenRows.behind.Goals as goal

pub returns : goal.returns
returns c = λ layout a contents are. record { findings = are; marks = c.new.ensures.items }
