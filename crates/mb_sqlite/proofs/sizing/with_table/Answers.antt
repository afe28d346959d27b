use Rattle.mb_sqlite.proofs.Common.{arith, refl, ◌∙◌}
use Rattle.mb_sqlite.proofs.KeepingLemmas.{goes_on, goes_yet}
use Rattle.mb_sqlite.proofs.SizingLemmas.{next_piece, no_pieces, table_size}
use Rattle.mb_sqlite.proofs.sizing.with_table.Goals as goal

pub pieces-init : goal.pieces-init
pieces-init g c =
    let old = c.args.transaction.now.conn.now in
    (refl, goes_yet g.S.Store old, λ clean. no_pieces g.S.Store c.args.table c.args.size old (omega arith))

pub pieces-preserved : goal.pieces-preserved
pieces-preserved g c =
    let old = c.args.transaction.now.conn.now in
    let mid = c.pieces.transaction.conn.now in
    let new = c.with_piece.new.transaction.conn.now in (
      c.with_piece.ensures.same_reference ∙ c.pieces.invariant.0,
      goes_on g.S.Store old mid new _ c.pieces.invariant.1 c.in_ok-next.ensures.kept,
      λ clean. next_piece g.S.Store c.args.table c.args.size c.pieces.sum c.in_ok-next.next.0 (c.in_ok-next.ensures.piece clean).0 old mid new c.pieces.last c.in_ok-next.next.1
          (c.pieces.invariant.2 (omega (arith, clean, c.with_piece.ensures.kept.survives.clean))) (c.in_ok-next.ensures.piece clean).1 (c.in_ok-next.ensures.piece clean).2,
    )

pub returns-then-next-clause-table : goal.returns-then-next-clause-table
returns-then-next-clause-table g c clean =
    let old = c.args.transaction.now.conn.now in
    let mid = c.pieces.transaction.conn.now in
    let new = c.with_piece.new.transaction.conn.now in
    table_size g.S.Store c.args.table c.args.size c.pieces.sum (c.in_ok-next.ensures.piece clean).0 old mid new c.pieces.last c.in_ok-next.next.1 c.in_ok-next.next.2 (c.pieces.invariant.2 (omega (arith, clean, c.with_piece.ensures.kept.survives.clean)))
    (c.in_ok-next.ensures.piece clean).1 (c.in_ok-next.ensures.piece clean).3 c.if-next.true
