use Rattle.tile_import.proofs.Common.{ids_of, OnOk, subst, with_ids, ◌≡◌}
use Rattle.tile_import.proofs.EntryLemmas.{made_more}
use Rattle.tile_import.proofs.tiles.MadeTilesTakesEntries.take_entry.Goals as goal

pub returns : goal.returns
returns c = λ es cs made.
    made_more c.put_run.result c.args.self.now.tiles.state.tiles c.put_run.new.tiles.state.tiles es cs c.args.entry c.args.contents
    (subst (λ bytes. OnOk c.put_run.result (c.put_run.new.tiles.state.tiles ≡ with_ids c.args.self.now.tiles.state.tiles bytes (ids_of c.args.entry))) c.as_slice.ensures c.put_run.ensures) made
