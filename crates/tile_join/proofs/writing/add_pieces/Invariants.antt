use Rattle.tile_join.proofs.Common.{all_told, AreOnlyRead, false, has_failed, header_of, InOrder, KeepsMedium, length, List, map, Options, total, Writes, ℕ, [], ◌+◌, ◌≡◌, ◌≤◌}
use Rattle.tile_join.proofs.PieceLemmas.{PutSoFar}
use Rattle.tile_join.proofs.writing.add_pieces.Given as goal

abbrev pub invariant-loop-piece : goal.invariant-loop-piece
invariant-loop-piece g l =
    ((o : Options) → Writes o (g.M.Backend.told l.fn.medium) l.fn.writer []
    → PutSoFar (length l.fn.sources.items) o (map header_of l.readers) (all_told (map g.B.Backend.told l.fn.sources.items)) l.pieces l.rest (g.M.Backend.told l.medium) l.writer)
    × ((o : Options) × (done : List (ℕ × List ℕ)) × Writes o (g.M.Backend.told l.medium) l.writer done)
    × (has_failed l.writer ≡ false)
    × ((low : ℕ) × InOrder (length l.fn.sources.items) low l.rest)
    × AreOnlyRead g.B.Backend.told g.B.Backend.versions g.B.Backend.faults g.B.Backend.steady l.fn.sources.items l.sources.items
    × KeepsMedium g.M.Backend.told g.M.Backend.versions g.M.Backend.reads g.M.Backend.faults g.M.Backend.steady l.fn.medium l.medium
    × (g.M.Backend.reads l.medium + length l.rest ≤ g.M.Backend.reads l.fn.medium + length l.pieces)
    × (total (map g.B.Backend.reads l.sources.items) + length l.rest ≤ total (map g.B.Backend.reads l.fn.sources.items) + length l.pieces)
    × (map g.B.Backend.faults l.sources.items ≡ map g.B.Backend.faults l.fn.sources.items)
    × (g.M.Backend.faults l.medium ≡ g.M.Backend.faults l.fn.medium)

abbrev pub decreases-loop-piece : goal.decreases-loop-piece
decreases-loop-piece g l = length l.rest
