use Rattle.mb_sqlite.proofs.Common.{drop, length, List, min, Option, piece, piece_size, RisesTo, Row, rules, subst, take, ℤ, ◌+◌, ◌-◌, ◌==◌, ◌^◌, ◌≡◌}
use Rattle.mb_sqlite.proofs.sizing.with_piece.Goals as goal

pub returns-clause-piece : goal.returns-clause-piece
returns-clause-piece g c clean =
    let read = subst (λ (found : List Row). (c.in_ok-next.next.0 ≡ min (c.args.size + piece_size c.args.table found) (2 ^ 64 - 1)) × RisesTo c.args.table c.args.from (take piece found) c.in_ok-next.next.1
    × (beyond : Option ℤ) × RisesTo c.args.table c.in_ok-next.next.1 (take 1 (drop piece found)) beyond) c.as_slice.ensures.value (c.in_ok-next.ensures.sum, c.in_ok-next.ensures.rises, c.in_ok-next.ensures.beyond.0, c.in_ok-next.ensures.beyond.1) in
    let none : c.is_empty.result ≡ (length c.in_ok-answers.answers.items == 0) = search rules in
    (c.in_ok-answers.answers.items, (c.in_ok-answers.ensures.shown clean, read.1, read.2, read.3), read.0, none)
