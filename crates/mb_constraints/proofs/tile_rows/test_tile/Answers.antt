use Rattle.mb_constraints.proofs.tile_rows.test_tile.Goals as goal

pub returns-in-Normalized : goal.returns-in-Normalized
returns-in-Normalized c = rw c.in-Normalized.is (c.test_place_by_id.ensures c.in-Normalized.hash_view c.in-Normalized.schema)
