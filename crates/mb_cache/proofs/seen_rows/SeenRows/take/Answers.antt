use Rattle.mb_cache.proofs.Common.{false, is_some, refl, rules, Some, sym, true, ◌∙◌, ◌≡◌}
use Rattle.mb_cache.proofs.SeenLemmas.{bad_found, bad_stays, is_none, ok_then, page_taken}
use Rattle.mb_cache.proofs.seen_rows.SeenRows.take.Goals as goal

pub returns-then-is_some : goal.returns-then-is_some
returns-then-is_some c rows sees =
    let there : is_some c.args.self.now.bad ≡ true = search rules in
    bad_stays rows c.args.page.now c.requires c.args.self.now there sees

pub returns-in-Some : goal.returns-in-Some
returns-in-Some c rows sees =
    let none : is_some c.args.self.now.bad ≡ false = search rules in
    bad_found rows c.args.page.now c.requires c.args.self.now (record { tiles = c.args.self.now.tiles; bad = Some c.in-Some.bad }) c.in-Some.bad none (sym c.in-Some.is ∙ c.in_ok-found.ensures) refl sees

pub returns-in-None : goal.returns-in-None
returns-in-None c rows sees =
    let none : is_some c.args.self.now.bad ≡ false = search rules in
    ok_then c.add_all.result (λ taken. page_taken rows c.args.page.now c.requires c.args.self.now (record { tiles = c.add_all.new.self; bad = c.args.self.now.bad }) none (sym c.in-None.is ∙ c.in_ok-found.ensures) refl (λ was. taken) sees)
    (c.add_all.ensures rows (sees.tiles (is_none c.args.self.now.bad none)))
