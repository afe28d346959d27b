use Rattle.tile_serve.proofs.Common.{Bounded, IfOk, List, lookup, nat_eq, subst, ℕ, ◌≡◌}
use Rattle.tile_serve.proofs.HoldingLemmas.{held_copy}
use Rattle.tile_serve.proofs.tiles.TileCache.get.Goals as goal

pub returns-clause-found : goal.returns-clause-found
returns-clause-found c =
    let P : Bounded (List ℕ) → Type 0 = λ b. IfOk c.copy_latest.result (λ found. found ≡ lookup (nat_eq c.args.id) b.pairs) in
    subst P c.self.view_is
    (held_copy c.self.inside.tiles c.promote.new.self c.value.result c.args.id c.promote.result c.copy_latest.result c.value.ensures.value c.promote.ensures.found c.if-not-promote.false c.promote.ensures.used c.copy_latest.ensures)
