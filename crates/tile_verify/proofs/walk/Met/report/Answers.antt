use Rattle.tile_verify.proofs.Common.{addressed_by, ap, arith, dedup, length, map, range_of_part, rules, same_range, ◌∙◌, ◌≡◌}
use Rattle.std.proofs.lemmas.Fn.{always_returns_same}
use Rattle.tile_verify.proofs.ReportLemmas.{changes_counted, report_is}
use Rattle.tile_verify.proofs.walk.Met.report.Goals as goal

pub returns : goal.returns
returns c =
    report_is c.args.self.directories c.addressed-addressed.result c.len-entries.result c.count_changes.result c.args.self.tiles.items
    (c.addressed-addressed.ensures ∙ ap addressed_by c.deref.ensures.value) (omega (arith, c.len-entries.ensures, c.args.self.tiles.ok))
    (c.count_changes.ensures ∙ ap (λ l. length (dedup same_range (map range_of_part l))) c.deref-2.ensures.value
    ∙ changes_counted c.args.self.tiles.items _ c.sort_unstable_by_key.ensures.permutation
    (c.sort_unstable_by_key.ensures.sorted range_of_part (always_returns_same _ (λ a r. r ≡ range_of_part a.0.now) _ (λ a r q k. search rules))))
