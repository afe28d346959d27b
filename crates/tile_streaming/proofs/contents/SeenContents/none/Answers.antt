use Rattle.tile_streaming.proofs.contents.SeenContents.none.Goals as goal

pub returns : goal.returns
returns c = λ layout a. record { findings = c.none.ensures layout a; items = c.new.ensures.items; marks = c.new-2.ensures.items }
