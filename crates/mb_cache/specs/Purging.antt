-- What purges leave of a cache.
use Rattle.std.specs.Prelude.{not, List, filter}
use Rattle.mb_cache.specs.Entries.{is_expired}
use Rattle.mb_cache.specs.State.{with_passed}
use Rattle.mb_cache.specs.declared.moments.UnixSeconds.{UnixSeconds}
use Rattle.mb_cache.specs.Common.{Cell, cell_at, Tables, TileCache}

-- the rows that have an expiry below a moment
abbrev pub expired_rows : UnixSeconds → Tables → List (List Cell)
expired_rows now t = filter (λ row. is_expired now (cell_at 4 row)) (t.rows TileCache)

-- the tables without them
abbrev pub without_expired : UnixSeconds → Tables → Tables
without_expired now t = with_passed (λ row. not (is_expired now (cell_at 4 row))) t
