-- What opening a cache answers, and what it leaves.
use Rattle.std.specs.Prelude.{◌||◌, ◌≡◌, ◌⊎◌, Bool, true, false, cond, List, [], ◌∷◌, Option, Some, Result, Ok, Err}
use Rattle.mb_cache.specs.Common.{Cache, created, InvalidDataFormat, is_free, is_keyed, layout_of, list_any, MbtError, NotACacheFile, NoUniquenessConstraint, TableDesc, Tables, then, TileCache}
use Rattle.mb_cache.specs.State.{Agrees}
use Rattle.mb_cache.specs.declared.entries.Entry.{Entry}
use Rattle.mb_constraints.specs.Described.{is_metadata}
use Rattle.mb_load.specs.StateOf.{state_of}
use Rattle.mb_tables.specs.Schema.{set_tables}
use Rattle.mb_tables.specs.declared.kind.MbtType.{MbtType}

-- whether the first layout whose tables are described is the cache
abbrev pub is_cache_layout : Option MbtType → Bool
is_cache_layout (Some Cache) = true
is_cache_layout _ = false

-- whether nothing is described
abbrev pub is_bare : List TableDesc → Bool
is_bare [] = true
is_bare (d ∷ ds) = false

-- whether a cache can be opened by the descriptions
abbrev pub may_begin : List TableDesc → Bool
may_begin ds = is_bare ds || is_cache_layout (layout_of ds)

abbrev pub begin_answer : List TableDesc → Result (Unit {0}) MbtError
begin_answer ds = cond (may_begin ds) (Ok tt) (Err NotACacheFile)

-- with the tables of a cache, where nothing is described
abbrev pub begun_with : Tables → Tables
begun_with t = cond (is_bare t.descriptions) (created t (set_tables Cache)) t

-- the first refusal of opening the cache of tables, if there is one
abbrev pub open_answer : Tables → Result (Unit {0}) MbtError
open_answer t = then (begin_answer t.descriptions) (λ _. then (state_of (begun_with t)) (λ _. Ok tt))

-- a store of the tables opens, but for running out of memory and faults
abbrev pub Opens : Tables → Type 0
Opens t = open_answer t ≡ Ok tt

-- an answer without its value
abbrev pub done : {A : Type 0} → Result A MbtError → Result (Unit {0}) MbtError
done (Ok x) = Ok tt
done (Err e) = Err e

-- a refused opening has left the tables, or made those of a cache
abbrev pub LeftOrBegun : Tables → Tables → Type 0
LeftOrBegun old new = (new ≡ old) ⊎ (new ≡ begun_with old)

-- what the descriptions of the tables of a cache are refused for
abbrev pub described_answer : List TableDesc → Result (Unit {0}) MbtError
described_answer ds = cond (is_cache_layout (layout_of ds)) (cond (list_any is_metadata ds) (cond (is_keyed ds TileCache) (Ok tt) (Err NoUniquenessConstraint)) (Err InvalidDataFormat)) (Err NotACacheFile)

-- what opening tables gives: the entries of a cache that agree with them, or the refusal that is due, unless memory
-- ran out or the store failed
abbrev pub OpensAs : Tables → Result (List Entry) MbtError → Type 0
OpensAs t (Ok es) = Agrees t es
OpensAs t (Err e) = is_free e ≡ false → open_answer t ≡ Err e
