use Rattle.set_import.proofs.Common.{false≢true, sym, ◌∙◌}
use Rattle.set_import.proofs.FillingLemmas.{each_free}
use Rattle.set_import.proofs.NewSetLemmas.{made_by, started_old}
use Rattle.set_import.proofs.storing.make_tables.Goals as goal

pub returns-then-is_new-clause-made : goal.returns-then-is_new-clause-made
returns-then-is_new-clause-made g c t =
    made_by (g.S.TileStore.told c.args.store.now) (g.S.TileStore.told c.init_mbtiles_schema.new.store) c.init_mbtiles_schema.result ((c.requires t).0 c.if-is_new.true) (c.init_mbtiles_schema.ensures.ok t)

pub returns-then-is_new-clause-free : goal.returns-then-is_new-clause-free
returns-then-is_new-clause-free g c = each_free c.init_mbtiles_schema.result c.init_mbtiles_schema.ensures.errors

pub returns-clause-made : goal.returns-clause-made
returns-clause-made g c t = sym (started_old (g.S.TileStore.told c.args.store.now) (λ e. false≢true (sym c.if-is_new.false ∙ (c.requires t).1 e)))
