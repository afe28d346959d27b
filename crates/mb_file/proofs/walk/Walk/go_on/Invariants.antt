use Rattle.std.proofs.Common.{◌≡◌}
use Rattle.sqlite_pages.specs.Calls.{Continues}
use Rattle.mb_file.proofs.walk.Walk.go_on.Given as goal

abbrev pub invariant-steps : goal.invariant-steps
invariant-steps g l = Continues g.P.Pages l.fn.pages l.pages × (g.P.Pages.pages l.pages ≡ g.P.Pages.pages l.fn.pages)
