-- Places of one path are one place, and one more tile of a set is one more file.
use Rattle.mb_tree.proofs.Common.{All, All-head, All-tail, ap, are_distinct, arith, Bool, contains_key, entries, entries-insert, eq_by_cmp, Equal-is, false, false≢true, File, file_of, FileFormat}
use Rattle.mb_tree.proofs.Common.{Files, files_of, filter_map, find, get-entries, has_duplicates, insert, inverted_y, is_some, IsOnBoard, List, list_any, map, NewTile, not, path_at, Place, place_cmp}
use Rattle.mb_tree.proofs.Common.{place_in, places_total, put_in_turn, refl, same_Some, Some, subst, sym, tile_path, TileScheme, TileSet, true, turned, written, ℕ, [], ◌&&◌, ◌<◌, ◌^◌, ◌||◌, ◌∙◌, ◌∷◌}
use Rattle.mb_tree.proofs.Common.{◌≡◌, ◌≤◌}
use Rattle.std.proofs.Math.Nat.{pow-le-pow_right}
use Rattle.mb_lists.proofs.Places.{places_antisymmetric}
use Rattle.mb_tree.proofs.CountLemmas.{any_after, has_after}
use Rattle.mb_tree.proofs.PlainLemmas.{read_back, tile_made}
use Rattle.mb_tree.proofs.UnpackLemmas.{back}
use Rattle.mb_tree.proofs.WrittenLemmas.{put_one}
use Rattle.mb_tree.specs.declared.scheme.TileScheme.TheVariants.{Xyz, Tms}

-- rows that are turned over twice, each the way that its scheme says
pub turned_back : (scheme : TileScheme) (zoom row : ℕ) → row < 2 ^ zoom → turned scheme zoom (turned scheme zoom row) ≡ row
turned_back Xyz zoom row lt = refl
turned_back Tms zoom row lt = back (2 ^ zoom) row lt

pub turned_within : (scheme : TileScheme) (zoom row : ℕ) → row < 2 ^ zoom → turned scheme zoom row < 2 ^ zoom
turned_within Xyz zoom row lt = lt
turned_within Tms zoom row lt = omega arith

row_back : (scheme : TileScheme) (zoom row : ℕ) → row < 2 ^ zoom → inverted_y zoom (turned scheme zoom (turned scheme zoom (inverted_y zoom row))) ≡ row
row_back scheme zoom row lt =
    let low : inverted_y zoom row < 2 ^ zoom = omega arith in
    ap (inverted_y zoom) (turned_back scheme zoom (inverted_y zoom row) low) ∙ back (2 ^ zoom) row lt

-- places of one path are one place
pub narrow : (zoom n : ℕ) → zoom < 31 → n < 2 ^ zoom → n < 2 ^ 32
narrow zoom n low lt = let most : 2 ^ zoom ≤ 2 ^ 32 = pow-le-pow_right {n = 2} (omega arith) {i = zoom} {j = 32} (omega arith) in omega (arith, most, lt)

read_place : (scheme : TileScheme) (format : FileFormat) (p : Place) → IsOnBoard p → tile_path (path_at scheme format p) ≡ Some (tile_made format p.zoom p.column (turned scheme p.zoom (inverted_y p.zoom p.row)))
read_place scheme format p on =
    let low : inverted_y p.zoom p.row < 2 ^ p.zoom = omega (arith, on.row) in
    read_back format p.zoom p.column (turned scheme p.zoom (inverted_y p.zoom p.row)) (omega (arith, on.zoom)) (narrow p.zoom p.column on.zoom on.column)
    (narrow p.zoom (turned scheme p.zoom (inverted_y p.zoom p.row)) on.zoom (turned_within scheme p.zoom (inverted_y p.zoom p.row) low))

pub one_place : (scheme : TileScheme) (format : FileFormat) (p q : Place) → IsOnBoard p → IsOnBoard q → path_at scheme format p ≡ path_at scheme format q → p ≡ q
one_place scheme format p q on also e =
    let same : tile_made format p.zoom p.column (turned scheme p.zoom (inverted_y p.zoom p.row)) ≡ tile_made format q.zoom q.column (turned scheme q.zoom (inverted_y q.zoom q.row)) =
    same_Some _ _ (sym (read_place scheme format p on) ∙ (ap tile_path e ∙ read_place scheme format q also)) in
    let row : p.row ≡ q.row =
    sym (row_back scheme p.zoom p.row on.row)
    ∙ ((λ i. inverted_y (same i).zoom (turned scheme (same i).zoom (same i).row))
    ∙ row_back scheme q.zoom q.row also.row) in
    λ i. record { zoom = (same i).zoom; column = (same i).column; row = row i }

-- one more tile of a set is one more file
abbrev pub AreOnBoard : TileSet → Type 0
AreOnBoard tiles = (p : Place) → contains_key tiles p ≡ true → IsOnBoard p

abbrev pub IsPlaced : NewTile → Type 0
IsPlaced t = IsOnBoard (place_in t)

abbrev pub file_back : TileScheme → FileFormat → NewTile → File
file_back scheme format t = (path_at scheme format (place_in t), t.tile_data)

one_more : (scheme : TileScheme) (format : FileFormat) (into : Files) (tiles : TileSet) (t : NewTile) → AreOnBoard tiles → IsPlaced t → contains_key tiles (place_in t) ≡ false
    → written into (files_of scheme format (insert tiles (place_in t) (Some t.tile_data))) ≡ insert (written into (files_of scheme format tiles)) (path_at scheme format (place_in t)) t.tile_data
one_more scheme format into tiles t on placed none =
    ap (λ es. written into (filter_map (file_of scheme format) es)) (entries-insert places_total tiles (place_in t) (Some t.tile_data))
    ∙ put_one places_total places_antisymmetric (path_at scheme format) into (place_in t) t.tile_data (entries tiles) others
  where
    others : (q : Place) → is_some (find place_cmp q (entries tiles)) ≡ true → path_at scheme format q ≡ path_at scheme format (place_in t) → ⊥
    others q found e =
        let there : contains_key tiles q ≡ true = ap is_some (get-entries tiles q) ∙ found in
        false≢true (sym none ∙ (ap (contains_key tiles) (sym (one_place scheme format q (place_in t) (on q there) placed e)) ∙ there))

on_after : (tiles : TileSet) (t : NewTile) → AreOnBoard tiles → IsPlaced t → AreOnBoard (insert tiles (place_in t) (Some t.tile_data))
on_after tiles t on placed q there = by (eq_by_cmp place_cmp (place_in t) q) refl (sym (has_after tiles t q) ∙ there)
  where
    by : (b : Bool) → eq_by_cmp place_cmp (place_in t) q ≡ b → (b || contains_key tiles q) ≡ true → IsOnBoard q
    by true same h = subst IsOnBoard (places_antisymmetric (place_in t) q ((Equal-is (place_cmp (place_in t) q)).0 same)) placed
    by false same h = on q h

halves : (a x y z : Bool) → ((a || x) || not (not y && z)) ≡ false → (a ≡ false) × (((y || x) || not z) ≡ false)
halves false false false true h = (refl, refl)
halves _ _ _ _ h = absurd (false≢true (sym h))

apart_rest : (tiles : TileSet) (t : NewTile) (ts : List NewTile) → has_duplicates tiles (t ∷ ts) ≡ false → (contains_key tiles (place_in t) ≡ false) × (has_duplicates (insert tiles (place_in t) (Some t.tile_data)) ts ≡ false)
apart_rest tiles t ts h =
    let two = halves (contains_key tiles (place_in t)) (list_any (λ u. contains_key tiles (place_in u)) ts) (list_any (eq_by_cmp place_cmp (place_in t)) (map place_in ts)) (are_distinct place_cmp (map place_in ts)) h in
    (two.0, ap (λ b. b || not (are_distinct place_cmp (map place_in ts))) (any_after tiles t ts) ∙ two.1)

pub all_more : (scheme : TileScheme) (format : FileFormat) (into : Files) (tiles : TileSet) (ts : List NewTile) → AreOnBoard tiles → All IsPlaced ts → has_duplicates tiles ts ≡ false
    → written into (files_of scheme format (put_in_turn tiles ts)) ≡ written (written into (files_of scheme format tiles)) (map (file_back scheme format) ts)
all_more scheme format into tiles [] on placed apart = refl
all_more scheme format into tiles (t ∷ ts) on placed apart =
    let two = apart_rest tiles t ts apart in
    let here : IsPlaced t = All-head IsPlaced t ts placed in
    all_more scheme format into (insert tiles (place_in t) (Some t.tile_data)) ts (on_after tiles t on here) (All-tail IsPlaced t ts placed) two.1
    ∙ ap (λ (m : Files). written m (map (file_back scheme format) ts)) (one_more scheme format into tiles t on here two.0)
