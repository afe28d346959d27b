-- The parts of tile entries that lie in intervals.
use Rattle.std.specs.Prelude.{◌≡◌, ℕ, ◌+◌, ◌-◌, List, [], ◌∷◌, ◌++◌, flat_map, max, min, nat_le, nat_eq, if◌then◌else◌, refl}
use Rattle.std.specs.List.{range_with_len}
use Rattle.pm_walk.specs.Common.{Entry, entry}
use Rattle.pm_walk.specs.declared.extent.Extent.{Extent}
use Rattle.pm_walk.specs.declared.extent.Extent.TheVariants.{Within, Whole}

-- the part of a run of at least one id that lies in an interval
abbrev pub clip : Entry → ℕ × ℕ → List Entry
clip e i =
    let first = max e.tile_id i.0 in
    let last = min (e.tile_id + (e.run_length - 1)) i.1 in
    if nat_le first last then entry first e.offset e.length (last - first + 1) ∷ [] else []

abbrev pub clip_all : Entry → List (ℕ × ℕ) → List Entry
clip_all e [] = []
clip_all e (i ∷ is) = clip e i ++ clip_all e is

-- those of an entry; one without a byte has no tiles
abbrev pub parts_of : List (ℕ × ℕ) → Entry → List Entry
parts_of is e = if nat_eq e.length 0 then [] else clip_all e is

-- the ids of an entry's run
abbrev pub ids_of : Entry → List ℕ
ids_of e = range_with_len e.tile_id e.run_length

-- those of tile entries
abbrev pub parts : List (ℕ × ℕ) → List Entry → List Entry
parts is es = flat_map (parts_of is) es

-- tile entries that have bytes
abbrev pub full_of : Entry → List Entry
full_of e = if nat_eq e.length 0 then [] else e ∷ []

abbrev pub full : List Entry → List Entry
full es = flat_map full_of es

-- what is collected of tile entries: their parts, or the whole of those that have bytes
abbrev pub pieces : Extent → List (ℕ × ℕ) → List Entry → List Entry
pieces Within is es = parts is es
pieces Whole is es = full es

-- how many tiles they have
abbrev pub tile_count : List Entry → ℕ
tile_count [] = 0
tile_count (p ∷ ps) = p.run_length + tile_count ps

-- a run over two zooms of which each has a part in the cut
pub two_parts : parts ((1, 1) ∷ (5, 8) ∷ []) (entry 0 7 2 7 ∷ []) ≡ entry 1 7 2 1 ∷ entry 5 7 2 2 ∷ []
two_parts = refl
