-- The tiles that are kept of rows, and what they mean.
use Rattle.mb_constraints.proofs.Common.{All, All-cons, ap, AreIndexed, arith, bad_tile, Bool, by_index, Cell, cell_at, cell_eq, cell_eq-Decides, cell_under, cond, cons_option, Content, content_at}
use Rattle.mb_constraints.proofs.Common.{content_of, contents_of, Coord, coord_in, dates_in, entries_by, false, false≢true, filter_map, first_refused, id_at, id_in, id_present, id_under, IfSome}
use Rattle.mb_constraints.proofs.Common.{index_by, InvalidTileIndex, is_null, is_some, Kept, List, list_any, map, MbtError, missing_reference, None, Normalized, nothing, Option, option_and_then}
use Rattle.mb_constraints.proofs.Common.{option_map, option_or, own_content, own_tiles, Place, place_at, place_is, refl, rows_kept, slice_get, slice_get-map, Some, stored, stored_by_id, suc, sym}
use Rattle.mb_constraints.proofs.Common.{tile_dates, tile_id, tile_in, tile_of, tile_value, true, unless, unwrap_or, zero, ℕ, [], ◌&&◌, ◌+◌, ◌||◌, ◌∙◌, ◌∷◌, ◌≡◌}
use Rattle.mb_lists.specs.Entries.{place_of}
use Rattle.mb_lists.specs.declared.dates.Dates.{Dates}
use Rattle.mb_lists.specs.declared.entries.StoredTile.{StoredTile}
use Rattle.mb_constraints.proofs.TileRowLemmas.{tile_parts}
use Rattle.mb_tables.specs.Tiles as tables
use Rattle.mb_tables.specs.declared.kind.NormalizedSchema.{NormalizedSchema}

-- the refusal of a row
abbrev tables_error : List Cell → MbtError
tables_error row = InvalidTileIndex (cell_at 0 row) (cell_at 1 row) (cell_at 2 row)

abbrev pub entry : {V : Type 0} → (StoredTile → Option V) → StoredTile → Option (Place × V)
entry value t = option_map (λ v. (place_of t, v)) (value t)

-- what a value has at the place of a row
abbrev pub placed : {V : Type 0} → Option V → List Cell → Option (Place × V)
placed d row = option_and_then (λ place. option_map (λ v. (place, v)) d) (tables.place_of row)

-- one more tile in front, if there is one
cons_entries : {V : Type 0} (value : StoredTile → Option V) (o : Option StoredTile) (ts : List StoredTile) → entries_by place_of value (cons_option o ts) ≡ cons_option (option_and_then (entry value) o) (entries_by place_of value ts)
cons_entries value None ts = refl
cons_entries value (Some t) ts = refl

cons_all : (P : StoredTile → Type 0) (o : Option StoredTile) (ts : List StoredTile) → IfSome o P → All P ts → All P (cons_option o ts)
cons_all P None ts h k = k
cons_all P (Some t) ts h k = All-cons P t ts h k

-- entries of the tiles of rows are what each row has
pub own_entries : {V : Type 0} (value : StoredTile → Option V) (dates : List Cell → Option Dates) (f : List Cell → Option (Place × V)) (k : ℕ) (rows : List (List Cell)) → ((j i : ℕ) (row : List Cell) → slice_get rows j ≡ Some row → i ≡ k + j → option_and_then (entry value) (stored (dates row) i row) ≡ f row) → entries_by place_of value (own_tiles dates k rows) ≡ filter_map f rows
own_entries value dates f k [] h = refl
own_entries value dates f k (r ∷ rs) h =
    cons_entries value (stored (dates r) k r) (own_tiles dates (suc k) rs)
    ∙ (ap (λ o. cons_option o (entries_by place_of value (own_tiles dates (suc k) rs))) (h 0 k r refl (omega arith))
    ∙ ap (cons_option (f r)) (own_entries value dates f (suc k) rs (λ j i row at e. h (suc j) i row at (omega arith))))

pub own_all : (P : StoredTile → Type 0) (dates : List Cell → Option Dates) (k : ℕ) (rows : List (List Cell)) → ((j i : ℕ) (row : List Cell) → slice_get rows j ≡ Some row → i ≡ k + j → IfSome (stored (dates row) i row) P) → All P (own_tiles dates k rows)
own_all P dates k [] h = λ i d lt. absurd (omega arith)
own_all P dates k (r ∷ rs) h = cons_all P (stored (dates r) k r) (own_tiles dates (suc k) rs) (h 0 k r refl (omega arith)) (own_all P dates (suc k) rs (λ j i row at e. h (suc j) i row at (omega arith)))

pub by_entries : {V : Type 0} (value : StoredTile → Option V) (g : List Cell → Option StoredTile) (f : List Cell → Option (Place × V)) (rows : List (List Cell)) → ((j : ℕ) (row : List Cell) → slice_get rows j ≡ Some row → option_and_then (entry value) (g row) ≡ f row) → entries_by place_of value (filter_map g rows) ≡ filter_map f rows
by_entries value g f [] h = refl
by_entries value g f (r ∷ rs) h =
    cons_entries value (g r) (filter_map g rs)
    ∙ (ap (λ o. cons_option o (entries_by place_of value (filter_map g rs))) (h 0 r refl)
    ∙ ap (cons_option (f r)) (by_entries value g f rs (λ j row at. h (suc j) row at)))

pub by_all : (P : StoredTile → Type 0) (g : List Cell → Option StoredTile) (rows : List (List Cell)) → ((j : ℕ) (row : List Cell) → slice_get rows j ≡ Some row → IfSome (g row) P) → All P (filter_map g rows)
by_all P g [] h = λ i d lt. absurd (omega arith)
by_all P g (r ∷ rs) h = cons_all P (g r) (filter_map g rs) (h 0 r refl) (by_all P g rs (λ j row at. h (suc j) row at))

-- what a stored tile has is at the place of its row
pub placed_entry : {V : Type 0} (value : StoredTile → Option V) (dates : Option Dates) (i : ℕ) (row : List Cell) (d : Option V) → ((c : Coord) → value (record { coord = c; contents = i; dates = dates; standing = Kept }) ≡ d) → option_and_then (entry value) (stored dates i row) ≡ placed d row
placed_entry {V = V} value dates i row d h = by (coord_in row) ∙ ap (option_and_then (λ place. option_map (λ v. (place, v)) d)) (place_is row)
  where
    by : (o : Option Coord) → option_and_then (entry value) (option_map (λ c. record { coord = c; contents = i; dates = dates; standing = Kept }) o) ≡ option_and_then (λ place. option_map (λ v. (place, v)) d) (option_map place_at o)
    by None = refl
    by (Some c) = ap (option_map (λ v. (place_at c, v))) (h c)

pub stored_if : (P : StoredTile → Type 0) (dates : Option Dates) (i : ℕ) (row : List Cell) → ((c : Coord) → P (record { coord = c; contents = i; dates = dates; standing = Kept })) → IfSome (stored dates i row) P
stored_if P dates i row h = by (coord_in row)
  where
    by : (o : Option Coord) → IfSome (option_map (λ c. record { coord = c; contents = i; dates = dates; standing = Kept }) o) P
    by None = tt
    by (Some c) = h c

placed_tile : (row : List Cell) (cell : Cell) → placed (contents_of cell) row ≡ tile_of row cell
placed_tile row cell = go (tables.place_of row) (contents_of cell) refl refl
  where
    go : (p : Option Place) (c : Option (Option (List ℕ))) → tables.place_of row ≡ p → contents_of cell ≡ c → placed (contents_of cell) row ≡ tile_of row cell
    go None None e f = simp (e, f)
    go None (Some c) e f = simp (e, f)
    go (Some p) None e f = simp (e, f)
    go (Some p) (Some c) e f = simp (e, f)

pub tile_entry : (contents : List Content) (dates : Option Dates) (i : ℕ) (row : List Cell) (cell : Cell) → (content_at contents i).cell ≡ cell → option_and_then (entry (tile_value contents)) (stored dates i row) ≡ tile_of row cell
tile_entry contents dates i row cell h = placed_entry (tile_value contents) dates i row (contents_of cell) (λ c. ap contents_of h) ∙ placed_tile row cell

none_placed : {V : Type 0} (row : List Cell) → None ≡ placed {V = V} None row
none_placed {V = V} row = by (tables.place_of row)
  where
    by : (p : Option Place) → None ≡ option_and_then (λ place. option_map {U = Place × V} (λ (v : V). (place, v)) None) p
    by None = refl
    by (Some p) = refl

-- a row passes a test that all pass
pub passed : {A : Type 0} (test : A → Option MbtError) (xs : List A) → first_refused test xs ≡ None → (j : ℕ) (x : A) → slice_get xs j ≡ Some x → test x ≡ None
passed test [] h j x at = cc
passed test (y ∷ ys) h j x at = by (test y) refl h j at (λ k i. passed test ys k i x)
  where
    by : (o : Option MbtError) → test y ≡ o → option_or o (first_refused test ys) ≡ None → (j : ℕ) → slice_get (y ∷ ys) j ≡ Some x → (first_refused test ys ≡ None → (i : ℕ) → slice_get ys i ≡ Some x → test x ≡ None) → test x ≡ None
    by (Some e) f h j at rest = cc
    by None f h zero at rest = let same : y ≡ x = cc in ap test (sym same) ∙ f
    by None f h (suc j) at rest = rest h j at

held : (b : Bool) (e : MbtError) → unless b e ≡ None → b ≡ true
held true e h = refl
held false e h = cc

and_right : (a b : Bool) → (a && b) ≡ true → b ≡ true
and_right true b h = h
and_right false b h = absurd (false≢true h)

-- contents of a tile are bytes or null
pub whole_row : (row : List Cell) (cell : Cell) (e : MbtError) → unless (is_some (tile_of row cell)) e ≡ None → is_some (contents_of cell) ≡ true
whole_row row cell e h = and_right (is_some (coord_in row)) (is_some (contents_of cell)) (sym (tile_parts row cell) ∙ held (is_some (tile_of row cell)) e h)

-- rows that have their own contents
pub own_at : (n : ℕ) (rows : List (List Cell)) (j : ℕ) (row : List Cell) → slice_get rows j ≡ Some row → content_at (map (own_content n) rows) j ≡ own_content n row
own_at n rows j row at = ap (λ o. unwrap_or o nothing) (slice_get-map (own_content n) rows j ∙ ap (option_map (own_content n)) at)

-- the index of a row's contents
pub index_is : (contents : List Content) (live : ℕ) (order : List ℕ) → AreIndexed contents live order → (view : Bool) (schema : NormalizedSchema) (row : List Cell) → missing_reference (Normalized view schema) (rows_kept contents) row ≡ None → is_null (cell_at 3 row) ≡ false → is_some (index_by contents order (cell_at 3 row)) ≡ true
index_is contents live order x view schema row h some =
    let there : (is_null (cell_at 3 row) || list_any (λ c. cell_eq (cell_at 0 c) (cell_at 3 row)) (rows_kept contents)) ≡ true = held _ _ h in
    sym (id_present contents live order x (cell_at 3 row) some) ∙ (ap (λ b. b || list_any (λ c. cell_eq (cell_at 0 c) (cell_at 3 row)) (rows_kept contents)) (sym some) ∙ there)

-- what a row by an id has
pub by_id : {V : Type 0} (value : StoredTile → Option V) (f : Option (Place × V)) (contents : List Content) (order : List ℕ) (row : List Cell) → (is_null (cell_at 3 row) ≡ false → is_some (index_by contents order (cell_at 3 row)) ≡ true) → (is_null (cell_at 3 row) ≡ true → None ≡ f) → ((i : ℕ) → is_null (cell_at 3 row) ≡ false → index_by contents order (cell_at 3 row) ≡ Some i → option_and_then (entry value) (stored None i row) ≡ f) → option_and_then (entry value) (stored_by_id contents order row) ≡ f
by_id {V = V} value f contents order row there null some = go (is_null (cell_at 3 row)) (index_by contents order (cell_at 3 row)) refl refl
  where
    go : (b : Bool) (o : Option ℕ) → is_null (cell_at 3 row) ≡ b → index_by contents order (cell_at 3 row) ≡ o → option_and_then (entry value) (cond b None (by_index row o)) ≡ f
    go true o e g = null e
    go false (Some i) e g = some i e g
    go false None e g = absurd (false≢true (ap is_some (sym g) ∙ there e))

pub by_id_if : (P : StoredTile → Type 0) (contents : List Content) (order : List ℕ) (row : List Cell) → ((i : ℕ) → is_null (cell_at 3 row) ≡ false → index_by contents order (cell_at 3 row) ≡ Some i → IfSome (stored None i row) P) → IfSome (stored_by_id contents order row) P
by_id_if P contents order row some = go (is_null (cell_at 3 row)) (index_by contents order (cell_at 3 row)) refl refl
  where
    go : (b : Bool) (o : Option ℕ) → is_null (cell_at 3 row) ≡ b → index_by contents order (cell_at 3 row) ≡ o → IfSome (cond b None (by_index row o)) P
    go false (Some i) e g = some i e g
    go _ _ e g = tt

-- the three values of a row by an id
pub tile_by_id : (contents : List Content) (live : ℕ) (order : List ℕ) → AreIndexed contents live order → (view : Bool) (schema : NormalizedSchema) (row : List Cell) → missing_reference (Normalized view schema) (rows_kept contents) row ≡ None → option_and_then (entry (tile_value contents)) (stored_by_id contents order row) ≡ tile_in (Normalized view schema) (rows_kept contents) row
tile_by_id contents live order x view schema row h =
    by_id (tile_value contents) (tile_in (Normalized view schema) (rows_kept contents) row) contents order row
    (index_is contents live order x view schema row h)
    (λ e. ap (λ b. option_and_then (tile_of row) (cond b None (Some (content_of (rows_kept contents) (cell_at 3 row))))) (sym e))
    (λ i some at. tile_entry contents None i row (content_of (rows_kept contents) (cell_at 3 row)) (sym (cell_under contents live order x (cell_at 3 row) some i at)) ∙ ap (λ b. option_and_then (tile_of row) (cond b None (Some (content_of (rows_kept contents) (cell_at 3 row))))) (sym some))

id_value : (q id : Cell) → q ≡ id → is_null q ≡ false → cond (is_null id) None (Some id) ≡ Some q
id_value q id h some = ap (λ c. cond (is_null c) None (Some c)) (sym h) ∙ ap (λ b. cond b None (Some q)) some

pub id_by_id : (contents : List Content) (live : ℕ) (order : List ℕ) → AreIndexed contents live order → (view : Bool) (schema : NormalizedSchema) (row : List Cell) → missing_reference (Normalized view schema) (rows_kept contents) row ≡ None → option_and_then (entry (tile_id contents)) (stored_by_id contents order row) ≡ placed (id_in (Normalized view schema) row) row
id_by_id contents live order x view schema row h =
    by_id (tile_id contents) (placed (id_in (Normalized view schema) row) row) contents order row
    (index_is contents live order x view schema row h)
    (λ e. none_placed row ∙ ap (λ d. placed d row) (ap (λ b. cond b None (Some (cell_at 3 row))) (sym e)))
    (λ i some at. placed_entry (tile_id contents) None i row (Some (cell_at 3 row)) (λ c. id_value (cell_at 3 row) (id_at contents i) ((cell_eq-Decides (cell_at 3 row) (id_at contents i)).0 (id_under contents order (cell_at 3 row) i at)) some) ∙ ap (λ d. placed d row) (ap (λ b. cond b None (Some (cell_at 3 row))) (sym some)))

pub dates_by_id : (contents : List Content) (live : ℕ) (order : List ℕ) → AreIndexed contents live order → (view : Bool) (schema : NormalizedSchema) (row : List Cell) → missing_reference (Normalized view schema) (rows_kept contents) row ≡ None → option_and_then (entry tile_dates) (stored_by_id contents order row) ≡ placed (dates_in (Normalized view schema) row) row
dates_by_id contents live order x view schema row h =
    by_id tile_dates (placed (dates_in (Normalized view schema) row) row) contents order row
    (index_is contents live order x view schema row h)
    (λ e. none_placed row)
    (λ i some at. placed_entry tile_dates None i row None (λ c. refl))

pub whole_by_id : (contents : List Content) (live : ℕ) (order : List ℕ) → AreIndexed contents live order → (view : Bool) (schema : NormalizedSchema) (row : List Cell) → bad_tile (Normalized view schema) (rows_kept contents) row ≡ None → IfSome (stored_by_id contents order row) (λ t. is_some (tile_value contents t) ≡ true)
whole_by_id contents live order x view schema row h = by_id_if (λ t. is_some (tile_value contents t) ≡ true) contents order row (λ i some at.
    let passes : unless (is_some (tile_of row (content_of (rows_kept contents) (cell_at 3 row)))) (tables_error row) ≡ None = ap (λ b. option_and_then (λ c. unless (is_some (tile_of row c)) (tables_error row)) (cond b None (Some (content_of (rows_kept contents) (cell_at 3 row))))) (sym some) ∙ h in
    stored_if (λ t. is_some (tile_value contents t) ≡ true) None i row (λ c. ap (λ k. is_some (contents_of k)) (sym (cell_under contents live order x (cell_at 3 row) some i at)) ∙ whole_row row (content_of (rows_kept contents) (cell_at 3 row)) (tables_error row) passes))
