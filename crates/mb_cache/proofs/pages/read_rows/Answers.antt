use Rattle.mb_cache.proofs.Common.{ap, arith, Cell, length, List, SeesRows, subst, sym, Tables, take, TileCache, [], ◌-◌, ◌∙◌, ◌≡◌}
use Rattle.mb_cache.proofs.pages.read_rows.Goals as goal

pub loop-left-init : goal.loop-left-init
loop-left-init g c =
    let first = c.in_ok-count.ensures.kept in
    let next = c.in_ok-left.ensures.kept in
    let count = c.in_ok-count.count in
    let rows : List (List Cell) = (g.S.TileStore.told c.count_rows.new.self).rows TileCache in
    let none : 0 ≡ count - count = omega arith in
    record {
      kept = record {
        told = next.told ∙ first.told;
        tells = next.tells ∙ first.tells;
        faults = omega (arith, first.faults, next.faults);
        steady = λ s. next.steady (first.steady s);
        calm = λ s. next.calm (first.steady s) ∙ first.calm s;
      };
      still = c.in_ok-left.ensures.fault.still ∙ c.in_ok-count.ensures.fault.still;
      counted = c.in_ok-count.ensures.answer;
      within = omega (arith, c.in_ok-left.ensures.fewer);
      seen = λ t.
          subst (λ (x : Tables). SeesRows (take (count - c.in_ok-left.left) (x.rows TileCache)) c.read_page.new.seen) first.told
          (c.in_ok-left.ensures.seen (first.tells ∙ t) (c.in_ok-count.ensures.answer t ∙ ap (λ (x : Tables). length (x.rows TileCache)) (sym first.told)) (subst (λ n. SeesRows (take n rows) c.none-seen.result) none c.none-seen.ensures));
      own = c.in_ok-left.ensures.more [] c.none-seen.ensures;
    }
