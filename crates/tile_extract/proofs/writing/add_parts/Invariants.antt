use Rattle.tile_extract.proofs.Common.{AreOrdered, false, has_failed, header_of, KeepsMedium, length, List, None, Options, ReadsOnly, Writes, ℕ, [], ◌+◌, ◌≡◌, ◌≤◌}
use Rattle.tile_extract.proofs.PartsLemmas.{PutSoFar}
use Rattle.tile_extract.proofs.writing.add_parts.Given as goal

abbrev pub invariant-loop-part : goal.invariant-loop-part
invariant-loop-part g l =
    ((o : Options) → Writes o (g.M.Backend.told l.fn.medium) l.fn.writer [] → PutSoFar o (header_of l.reader) (g.B.Backend.told l.fn.source) l.parts l.rest (g.M.Backend.told l.medium) l.writer)
    × ((o : Options) × (done : List (ℕ × List ℕ)) × Writes o (g.M.Backend.told l.medium) l.writer done)
    × (has_failed l.writer ≡ false)
    × ((low : ℕ) × AreOrdered low l.rest None)
    × ReadsOnly g.B.Backend.told g.B.Backend.versions g.B.Backend.faults g.B.Backend.steady l.fn.source l.source
    × KeepsMedium g.M.Backend.told g.M.Backend.versions g.M.Backend.reads g.M.Backend.faults g.M.Backend.steady l.fn.medium l.medium
    × (g.M.Backend.reads l.medium + length l.rest ≤ g.M.Backend.reads l.fn.medium + length l.parts)
    × (g.B.Backend.reads l.source + length l.rest ≤ g.B.Backend.reads l.fn.source + length l.parts)
    × (g.B.Backend.faults l.source ≡ g.B.Backend.faults l.fn.source)
    × (g.M.Backend.faults l.medium ≡ g.M.Backend.faults l.fn.medium)

abbrev pub decreases-loop-part : goal.decreases-loop-part
decreases-loop-part g l = length l.rest
