-- How many tiles entries put, and that none is null.
use Rattle.set_import.proofs.Common.{ap, arith, Bool, empty, false, get, List, None, Option, refl, Some, sym, TileSet, true, ℕ, [], ◌+◌, ◌∙◌, ◌∷◌, ◌≡◌, ◌≤◌, ◌<◌}
use Rattle.std.proofs.Common.{cond, is_some, length, suc, zero, ◌||◌}
use Rattle.std.proofs.lemmas.Bool.{false≢true}
use Rattle.std.specs.FinMap.{contains_key, get-empty, get-insert, insert, len, len-empty, len-insert}
use Rattle.std.specs.List.{range_with_len}
use Rattle.std.specs.Ordering.{eq_by_cmp}
use Rattle.mb_lists.proofs.Places.{same_place}
use Rattle.mb_lists.specs.Places.{address}
use Rattle.mb_tables.proofs.TileLemmas.{places_total}
use Rattle.mb_tables.specs.Tiles.{Place, place_cmp}
use Rattle.pm_format.specs.Directory.{Entry}
use Rattle.pm_walk.specs.Collecting.{AreOrdered}
use Rattle.pm_walk.specs.Parts.{tile_count}
use Rattle.set_import.proofs.NewSetLemmas.{put_at}
use Rattle.set_import.specs.Batches.{end_of}
use Rattle.tile_ids.specs.declared.id.TheConstants.{MAX_TILE_ID}
use Rattle.tile_import.proofs.PlacingLemmas.{place_address}
use Rattle.tile_import.specs.Putting.{ids_of, place_of_id, with_contents, with_ids}

-- all tiles have addresses below one
abbrev pub AreBelow : TileSet → ℕ → Type 0
AreBelow tiles n = (p : Place) → contains_key tiles p ≡ true → address p < n

some_either : (b : Bool) (x : Option (List ℕ)) (o : Option (Option (List ℕ))) → is_some (cond b (Some x) o) ≡ (b || is_some o)
some_either true x o = refl
some_either false x o = refl

below_one : (tiles : TileSet) (v : Option (List ℕ)) (id : ℕ) → id ≤ MAX_TILE_ID → AreBelow tiles id → AreBelow (insert tiles (place_of_id id) v) (id + 1)
below_one tiles v id le below p there = by (eq_by_cmp place_cmp p (place_of_id id)) refl (sym (ap is_some (get-insert places_total tiles (place_of_id id) v p) ∙ some_either (eq_by_cmp place_cmp p (place_of_id id)) v (get tiles p)) ∙ there)
  where
    by : (b : Bool) → eq_by_cmp place_cmp p (place_of_id id) ≡ b → (b || contains_key tiles p) ≡ true → address p < id + 1
    by true is h = let at : address p ≡ id = ap address (same_place p (place_of_id id) is) ∙ place_address id le in omega (arith, at)
    by false is h = let less = below p h in omega (arith, less)

below_run : (tiles : TileSet) (bytes : List ℕ) (id n : ℕ) → id + n ≤ MAX_TILE_ID + 1 → AreBelow tiles id → AreBelow (with_ids tiles bytes (range_with_len id n)) (id + n)
below_run tiles bytes id zero le below p there = let less = below p there in omega (arith, less)
below_run tiles bytes id (suc n) le below p there =
    let less = below_run (insert tiles (place_of_id id) (Some bytes)) bytes (id + 1) n (omega (arith, le)) (below_one tiles (Some bytes) id (omega (arith, le)) below) p there in
    omega (arith, less)

new_id : (tiles : TileSet) (id : ℕ) → id ≤ MAX_TILE_ID → AreBelow tiles id → contains_key tiles (place_of_id id) ≡ false
new_id tiles id le below = by (contains_key tiles (place_of_id id)) refl
  where
    by : (b : Bool) → contains_key tiles (place_of_id id) ≡ b → b ≡ false
    by false is = refl
    by true is = let less = below (place_of_id id) is in let at = place_address id le in absurd (omega (arith, less, at))

count_run : (tiles : TileSet) (bytes : List ℕ) (id n : ℕ) → id + n ≤ MAX_TILE_ID + 1 → AreBelow tiles id → len (with_ids tiles bytes (range_with_len id n)) ≡ len tiles + n
count_run tiles bytes id zero le below = omega arith
count_run tiles bytes id (suc n) le below =
    let one : len (insert tiles (place_of_id id) (Some bytes)) ≡ len tiles + 1 = len-insert places_total tiles (place_of_id id) (Some bytes) ∙ ap (λ b. cond b (len tiles) (len tiles + 1)) (new_id tiles id (omega (arith, le)) below) in
    let rest = count_run (insert tiles (place_of_id id) (Some bytes)) bytes (id + 1) n (omega (arith, le)) (below_one tiles (Some bytes) id (omega (arith, le)) below) in
    omega (arith, one, rest)

-- entries in order have as many tiles as their runs have ids
count_entries : (tiles : TileSet) (es : List Entry) (cs : List (List ℕ)) (low : ℕ) → length cs ≡ length es → AreOrdered low es None → AreBelow tiles low → len (with_contents tiles es cs) ≡ len tiles + tile_count es
count_entries tiles [] cs low same ordered below = omega arith
count_entries tiles (e ∷ es) [] low same ordered below = absurd (omega (arith, same))
count_entries tiles (e ∷ es) (c ∷ cs) low same ordered below =
    let here : AreBelow tiles e.tile_id = λ p there. let less = below p there in omega (arith, less, ordered.0) in
    let one = count_run tiles c e.tile_id e.run_length ordered.2 here in
    let rest = count_entries (with_ids tiles c (ids_of e)) es cs (e.tile_id + e.run_length) (omega (arith, same)) ordered.3 (below_run tiles c e.tile_id e.run_length ordered.2 here) in
    omega (arith, one, rest)

pub count_all : (es : List Entry) (cs : List (List ℕ)) → length cs ≡ length es → AreOrdered 0 es None → tile_count es ≡ len (with_contents empty es cs)
count_all es cs same ordered =
    let all = count_entries empty es cs 0 same ordered (λ p there. absurd (false≢true (sym (ap is_some (get-empty {X = Option (List ℕ)} place_cmp p)) ∙ there))) in
    let none = len-empty place_cmp (Option (List ℕ)) in
    omega (arith, all, none)

-- and end where the last run does
below_entries : (tiles : TileSet) (es : List Entry) (cs : List (List ℕ)) (low : ℕ) → length cs ≡ length es → AreOrdered low es None → AreBelow tiles low → AreBelow (with_contents tiles es cs) (end_of low es)
below_entries tiles [] cs low same ordered below = below
below_entries tiles (e ∷ es) [] low same ordered below = absurd (omega (arith, same))
below_entries tiles (e ∷ es) (c ∷ cs) low same ordered below =
    below_entries (with_ids tiles c (ids_of e)) es cs (e.tile_id + e.run_length) (omega (arith, same)) ordered.3
    (below_run tiles c e.tile_id e.run_length ordered.2 (λ p there. let less = below p there in omega (arith, less, ordered.0)))

pub all_below : (es : List Entry) (cs : List (List ℕ)) → length cs ≡ length es → AreOrdered 0 es None → AreBelow (with_contents empty es cs) (end_of 0 es)
all_below es cs same ordered = below_entries empty es cs 0 same ordered (λ p there. absurd (false≢true (sym (ap is_some (get-empty {X = Option (List ℕ)} place_cmp p)) ∙ there)))

-- no tile is null
abbrev pub AreBytes : TileSet → Type 0
AreBytes tiles = (p : Place) → put_at (get tiles p) ≡ get tiles p

bytes_one : (tiles : TileSet) (bytes : List ℕ) (q : Place) → AreBytes tiles → AreBytes (insert tiles q (Some bytes))
bytes_one tiles bytes q are p = ap put_at got ∙ (by (eq_by_cmp place_cmp p q) ∙ sym got)
  where
    got : get (insert tiles q (Some bytes)) p ≡ cond (eq_by_cmp place_cmp p q) (Some (Some bytes)) (get tiles p)
    got = get-insert places_total tiles q (Some bytes) p

    by : (b : Bool) → put_at (cond b (Some (Some bytes)) (get tiles p)) ≡ cond b (Some (Some bytes)) (get tiles p)
    by true = refl
    by false = are p

bytes_ids : (tiles : TileSet) (bytes : List ℕ) (ts : List ℕ) → AreBytes tiles → AreBytes (with_ids tiles bytes ts)
bytes_ids tiles bytes [] are = are
bytes_ids tiles bytes (t ∷ ts) are = bytes_ids (insert tiles (place_of_id t) (Some bytes)) bytes ts (bytes_one tiles bytes (place_of_id t) are)

bytes_entries : (tiles : TileSet) (es : List Entry) (cs : List (List ℕ)) → AreBytes tiles → AreBytes (with_contents tiles es cs)
bytes_entries tiles [] cs are = are
bytes_entries tiles (e ∷ es) [] are = are
bytes_entries tiles (e ∷ es) (c ∷ cs) are = bytes_entries (with_ids tiles c (ids_of e)) es cs (bytes_ids tiles c (ids_of e) are)

pub all_bytes : (es : List Entry) (cs : List (List ℕ)) → AreBytes (with_contents empty es cs)
all_bytes es cs = bytes_entries empty es cs (λ p. ap put_at (get-empty place_cmp p) ∙ sym (get-empty place_cmp p))

pub part_bytes : (all part : TileSet) (b : Place → Bool) → AreBytes all → ((p : Place) → get part p ≡ cond (b p) (get all p) None) → AreBytes part
part_bytes all part b are parted p = ap put_at (parted p) ∙ (by (b p) ∙ sym (parted p))
  where
    by : (t : Bool) → put_at (cond t (get all p) None) ≡ cond t (get all p) None
    by true = are p
    by false = refl
