use Rattle.std.proofs.Common.{List, ◌≡◌}
use Rattle.sqlite_btree.specs.Chain.{Layout}
use Rattle.sqlite_btree.specs.Stored.{IsLaidIn, IsTable}
use Rattle.sqlite_pages.specs.Calls.{Continues, IsClean}
use Rattle.mb_file.specs.Cursor.{Stored}
use Rattle.mb_file.proofs.CatalogLemmas.{IsBehind}
use Rattle.mb_file.proofs.catalog.read_catalog.Given as goal

abbrev pub invariant-loop : goal.invariant-loop
invariant-loop g l = record {
  kept : Continues g.P.Pages l.fn.pages l.pages;
  pages : g.P.Pages.pages l.pages ≡ g.P.Pages.pages l.fn.pages;
  read : IsClean g.P.Pages l.pages → (layout : Layout) (rows : List Stored) → IsLaidIn layout (g.P.Pages.pages l.fn.pages) → IsTable (g.P.Pages.size l.fn.pages) layout 1 rows
      → IsBehind layout (g.P.Pages.size l.fn.pages) (g.P.Pages.pages l.fn.pages) l.count rows l.cursor l.catalog;
}
