use Rattle.std.proofs.Common.{◌≡◌}
use Rattle.sqlite_pages.specs.Calls.{Continues}
use Rattle.mb_file.proofs.index_cell.append_rest.Given as goal

abbrev pub invariant-pages : goal.invariant-pages
invariant-pages g l = Continues g.P.Pages l.fn.pages l.pages × (g.P.Pages.pages l.pages ≡ g.P.Pages.pages l.fn.pages)
