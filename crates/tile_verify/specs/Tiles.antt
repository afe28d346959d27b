-- What a report counts: the tile entries of all directories, and their different ranges.
use Rattle.std.specs.Prelude.{ℕ, zero, suc, ◌+◌, ◌^◌, ◌-◌, Bool, List, [], ◌∷◌, length, map, flat_map, sum_by, max, min, nat_eq, true, false, Option, None, Some, Result, Ok, Err}
use Rattle.std.specs.declared.cmp.Ordering.{Ordering}
use Rattle.std.specs.Ordering.{eq_by_cmp, nat_cmp, ordering_then}
use Rattle.std.specs.Set.{distinct_count}
use Rattle.tile_verify.specs.Common.{Entry, Header, leaf_of, Opened, PmtError}
use Rattle.tile_verify.specs.FirstBreak.{walk_of}
use Rattle.tile_verify.specs.declared.report.VerifyReport.{VerifyReport}

-- what is below an entry, where its leaf is one
abbrev pub in_leaf : (List Entry → List Entry) → Result (List Entry) PmtError → List Entry
in_leaf inner (Ok leaf) = inner leaf
in_leaf inner (Err e) = []

-- an entry of a tile, or what is below its leaf, where directories may stand there
abbrev pub tiles_at : Option (List Entry → List Entry) → Header → List ℕ → Entry → List Entry
tiles_at inside h b e = elim (nat_eq e.run_length 0) [ false ↦ e ∷ [] | true ↦ elim inside [ None ↦ [] | Some inner ↦ in_leaf inner (leaf_of h b e) ] ]

-- the tile entries of a directory and of the leaves below it, at most so many deep
unfoldable pub tiles_below : ℕ → Header → List ℕ → List Entry → List Entry
tiles_below zero h b es = flat_map (tiles_at None h b) es
tiles_below (suc n) h b es = flat_map (tiles_at (Some (tiles_below n h b)) h b) es

-- what stands below a directory that may have so many leaves below it
abbrev pub inside : ℕ → Header → List ℕ → Option (List Entry → List Entry)
inside zero h b = None
inside (suc n) h b = Some (tiles_below n h b)

abbrev pub tiles_of : List ℕ → Opened → List Entry
tiles_of b o = tiles_below 6 o.0 b o.1

-- where an entry's contents lie, and its run
abbrev pub part_of : Entry → ℕ × ℕ × ℕ
part_of e = (e.offset, e.length, e.run_length)

-- ranges by their offsets and then their lengths
abbrev pub range_cmp : ℕ × ℕ → ℕ × ℕ → Ordering
range_cmp x y = ordering_then (nat_cmp x.0 y.0) (nat_cmp x.1 y.1)

abbrev pub same_range : ℕ × ℕ → ℕ × ℕ → Bool
same_range = eq_by_cmp range_cmp

-- a count stands still at the end of u64
abbrev pub capped : ℕ → ℕ
capped n = min n (2 ^ 64 - 1)

-- a count that grew by so many
abbrev pub counted : ℕ → ℕ → ℕ
counted n zero = n
counted n (suc k) = capped (n + suc k)

-- the last id of a run, and the least and the greatest id of runs
abbrev pub last_id : Entry → ℕ
last_id e = capped (e.tile_id + (e.run_length - 1))

abbrev pub with_run : Option (ℕ × ℕ) → Entry → Option (ℕ × ℕ)
with_run None e = Some (e.tile_id, last_id e)
with_run (Some ids) e = Some (min ids.0 e.tile_id, max ids.1 (last_id e))

abbrev pub with_runs : Option (ℕ × ℕ) → List Entry → Option (ℕ × ℕ)
with_runs ids [] = ids
with_runs ids (e ∷ es) = with_runs (with_run ids e) es

-- those of all tiles of an archive, where it has one
abbrev pub ids_of : List ℕ → Opened → Option (ℕ × ℕ)
ids_of b o = with_runs None (tiles_of b o)

-- a part's run, and its range
abbrev pub run_of : ℕ × ℕ × ℕ → ℕ
run_of p = p.2

abbrev pub range_of_part : ℕ × ℕ × ℕ → ℕ × ℕ
range_of_part p = (p.0, p.1)

abbrev pub addressed_by : List (ℕ × ℕ × ℕ) → ℕ
addressed_by ps = capped (sum_by run_of ps)

-- the leaves, the ids with a tile, the tile entries and their different ranges
abbrev pub report_by : ℕ → List (ℕ × ℕ × ℕ) → VerifyReport
report_by leaves ps = record { directories = leaves; addressed = addressed_by ps; entries = length ps; contents = distinct_count same_range (map range_of_part ps) }

abbrev pub report_of : List ℕ → Opened → VerifyReport
report_of b o = report_by (capped (walk_of b o).directories) (map part_of (tiles_of b o))
