-- The runs of one archive over those of others.
use Rattle.std.specs.Prelude.{◌≡◌, ◌≤◌, ◌<◌, ℕ, ◌+◌, ◌-◌, List, [], ◌∷◌, ◌++◌, map, max, min, nat_lt, if◌then◌else◌, refl}
use Rattle.tile_join.specs.Common.{Entry, entry, MAX_TILE_ID}
use Rattle.tile_join.specs.declared.piece.Piece.{Piece}

-- the runs of the archive with this number
abbrev pub piece : ℕ → Entry → Piece
piece source e = record { source = source; entry = e }

abbrev pub numbered : ℕ → List Entry → List Piece
numbered source es = map (piece source) es

-- the id behind the run
abbrev pub end_of : Piece → ℕ
end_of p = p.entry.tile_id + p.entry.run_length

-- the part of a run from one id on and below another, where there is one
abbrev pub cut_out : ℕ → ℕ → Piece → List Piece
cut_out low end p =
    let first = max p.entry.tile_id low in
    let last = min (end_of p) end in
    if nat_lt first last then piece p.source (entry first p.entry.offset p.entry.length (last - first)) ∷ [] else []

-- those of some runs
abbrev pub between : ℕ → ℕ → List Piece → List Piece
between low end [] = []
between low end (p ∷ ps) = cut_out low end p ++ between low end ps

-- From an id on, runs with the parts of others that lie between them, before the first and behind the last.
abbrev pub over : ℕ → List Piece → List Piece → List Piece
over low [] others = between low (MAX_TILE_ID + 1) others
over low (p ∷ ps) others = between low p.entry.tile_id others ++ p ∷ over (end_of p) ps others

-- Runs of at least one tile of archives with numbers below one, in order and apart, from an id on, and none past the
-- ids of tiles.
abbrev pub InOrder : ℕ → ℕ → List Piece → Type 0
InOrder n low [] = low ≤ MAX_TILE_ID + 1
InOrder n low (p ∷ ps) = (p.source < n) × (low ≤ p.entry.tile_id) × (1 ≤ p.entry.run_length) × (end_of p ≤ MAX_TILE_ID + 1) × InOrder n (end_of p) ps

-- from an id on, what some of the runs have is what all have
abbrev pub AreLeft : ℕ → List Piece → List Piece → Type 0
AreLeft end all some = (low high : ℕ) → end ≤ low → between low high some ≡ between low high all

-- a run of the first archive with one of the second over its midst
pub midst : over 0 (numbered 1 (entry 4 0 7 2 ∷ [])) (numbered 0 (entry 1 5 9 8 ∷ [])) ≡ piece 0 (entry 1 5 9 3) ∷ piece 1 (entry 4 0 7 2) ∷ piece 0 (entry 6 5 9 3) ∷ []
midst = refl
