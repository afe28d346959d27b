-- A tree that is packed into a set without tiles comes back.
use Rattle.mb_tree.proofs.Common.{All, All-cons, All-head, All-nil, All-tail, and_parts, ap, are_distinct, as_given, batch_of, below_all, Bool, cond, cons_option, contains_key, empty, entries}
use Rattle.mb_tree.proofs.Common.{entries_sorted, eq_by_cmp, Err, false, false≢true, File, file_of, FileFormat, Files, files_by, files_of, filter_map, find, first, first_format, format_due, get}
use Rattle.mb_tree.proofs.Common.{get-empty, get-entries, get-insert, get-retain_keys, HasTileFiles, IfSome, inl, inr, insert, is_coord, is_eq, is_lt, is_some, is_sorted, is_tile, IsFit, IsPlain}
use Rattle.mb_tree.proofs.Common.{len-empty, len-entries, less_apart, List, list_any, map, may_pack, MbtError, nat_cmp-IsAntisymmetric, nat_list_cmp_total, new_tile, nil_from_length, None, none-some}
use Rattle.mb_tree.proofs.Common.{not, not-false, not-true, Ok, Option, option_and_then, option_map, option_or, or_parts, or_right, packed, path_text, paths_in, paths_of, Place, place_cmp, place_in}
use Rattle.mb_tree.proofs.Common.{places_total, plain_file, plain_files, plain_of, plain_path, refl, Result, retain_keys, same_map, same_Some, second, slice_cmp-IsAntisymmetric, Some, State, subst}
use Rattle.mb_tree.proofs.Common.{sym, T, tied_itself, tile_path, TilePath, TileScheme, TileSet, true, unpacked, written, ℕ, [], ◌||◌, ◌∙◌, ◌∷◌, ◌≡◌, ◌≢◌, ◌⊎◌}
use Rattle.mb_tree.proofs.FileLemmas.{all_there, own_files}
use Rattle.mb_tree.proofs.PackLemmas.{all_fit, paths_pass}
use Rattle.mb_tree.proofs.PlaceLemmas.{AreOnBoard}
use Rattle.mb_tree.proofs.PlainLemmas.{read_back}
use Rattle.mb_tree.proofs.RoundTripLemmas.{column_of, no_files, none_double, row_of, tiles_stay, unpacked_again, zoom_of}
use Rattle.mb_tree.proofs.WrittenLemmas.{by_bytes, tied_same}

-- a set without tiles has no files
no_files_of : (scheme : TileScheme) (format : FileFormat) (tiles : TileSet) → tiles ≡ empty → files_of scheme format tiles ≡ []
no_files_of scheme format tiles e =
    ap (λ (m : TileSet). files_of scheme format m) e
    ∙ ap (filter_map (file_of scheme format)) (nil_from_length (entries (empty {X = Option (List ℕ)} {R = place_cmp})) (sym (len-entries (empty {X = Option (List ℕ)} {R = place_cmp})) ∙ len-empty place_cmp (Option (List ℕ))))

none_by_any : (scheme : TileScheme) (tiles : TileSet) (r : Result FileFormat MbtError) → tiles ≡ empty → files_by scheme tiles r ≡ []
none_by_any scheme tiles (Ok format) e = no_files_of scheme format tiles e
none_by_any scheme tiles (Err x) e = refl

none_there : (tiles : TileSet) → tiles ≡ empty → AreOnBoard tiles
none_there tiles e p h = absurd (false≢true (sym (ap (λ (m : TileSet). contains_key m p) e ∙ ap is_some (get-empty place_cmp p)) ∙ h))

pub alone : (scheme : TileScheme) (into : Files) (files : List File) (s : State) → s.tiles ≡ empty → may_pack scheme (paths_in files) s ≡ None
    → written into (unpacked scheme (Ok (packed scheme files s))) ≡ written into (filter_map plain_file files)
alone scheme into files s none h = by (first_format (paths_in files)) refl
  where
    by : (o : Option FileFormat) → first_format (paths_in files) ≡ o → written into (unpacked scheme (Ok (packed scheme files s))) ≡ written into (filter_map plain_file files)
    by (Some format) is =
        unpacked_again scheme into files s format (none_there s.tiles none) h is
        ∙ ap (λ (l : List File). written (written into l) (filter_map plain_file files)) (no_files_of scheme format s.tiles none)
    by None is =
        ap (written into) (none_by_any scheme (packed scheme files s).tiles (format_due (packed scheme files s)) (tiles_stay scheme files s is h ∙ none))
        ∙ ap (written into) (sym (no_files scheme files s is h))

-- where paths are plain, the files are the tree's own
find_none : (q : List ℕ) (es : List File) → T (below_all by_bytes q es) → find by_bytes q es ≡ None
find_none q [] h = refl
find_none q (e ∷ es) h =
    ap (λ b. cond b (Some e.1) (find by_bytes q es)) (less_apart (by_bytes q e.0) (first (is_lt (by_bytes q e.0)) (below_all by_bytes q es) h))
    ∙ find_none q es (second (is_lt (by_bytes q e.0)) (below_all by_bytes q es) h)

abbrev over : Bool → Option (List ℕ) → Option (List ℕ) → Option (List ℕ)
over tile found had = cond tile (option_or found had) had

with_it : (b tile : Bool) (v : List ℕ) (found had : Option (List ℕ)) → (b ≡ true → found ≡ None) → (b ≡ true → tile ≡ true) → over tile found (cond b (Some v) had) ≡ over tile (cond b (Some v) found) had
with_it false tile v found had f t = refl
with_it true tile v found had f t =
    ap (λ c. over c found (Some v)) (t refl)
    ∙ (ap (λ (o : Option (List ℕ)). option_or o (Some v)) (f refl)
    ∙ sym (ap (λ c. over c (Some v) had) (t refl)))

without_it : (b tile : Bool) (v : List ℕ) (found had : Option (List ℕ)) → (b ≡ true → tile ≡ false) → over tile found had ≡ over tile (cond b (Some v) found) had
without_it false tile v found had t = refl
without_it true tile v found had t = ap (λ c. over c found had) (t refl) ∙ sym (ap (λ c. over c (Some v) had) (t refl))

own_at : (q : List ℕ) (es : List File) (m : Files) → T (is_sorted by_bytes es) → All IsPlain (paths_in es) → get (written m (filter_map plain_file es)) q ≡ over (is_tile q) (find by_bytes q es) (get m q)
own_at q [] m rising plain = by (is_tile q) (get m q)
  where
    by : (b : Bool) (o : Option (List ℕ)) → o ≡ over b None o
    by true o = refl
    by false o = refl
own_at q (e ∷ es) m rising plain =
    by (tile_path e.0) refl (All-head IsPlain e.0 (paths_in es) plain)
    (λ n. own_at q es n (second (below_all by_bytes e.0 es) (is_sorted by_bytes es) rising) (All-tail IsPlain e.0 (paths_in es) plain))
  where
    here : eq_by_cmp by_bytes q e.0 ≡ true → find by_bytes q es ≡ None
    here k = find_none q es (subst (λ (x : List ℕ). T (below_all by_bytes x es)) (sym (tied_same q e.0 k)) (first (below_all by_bytes e.0 es) (is_sorted by_bytes es) rising))

    by : (o : Option TilePath) → tile_path e.0 ≡ o → IsPlain e.0
        → ((n : Files) → get (written n (filter_map plain_file es)) q ≡ over (is_tile q) (find by_bytes q es) (get n q))
        → get (written m (filter_map plain_file (e ∷ es))) q ≡ over (is_tile q) (cond (eq_by_cmp by_bytes q e.0) (Some e.1) (find by_bytes q es)) (get m q)
    by None at own rest =
        ap (λ (o : Option TilePath). get (written m (cons_option (option_map (λ path. (path, e.1)) (option_and_then plain_of o)) (filter_map plain_file es))) q) at
        ∙ (rest m
        ∙ without_it (eq_by_cmp by_bytes q e.0) (is_tile q) e.1 (find by_bytes q es) (get m q) (λ k. ap is_tile (tied_same q e.0 k) ∙ ap is_some at))
    by (Some t) at own rest =
        ap (λ (o : Option (List ℕ)). get (written m (cons_option (option_map (λ path. (path, e.1)) o) (filter_map plain_file es))) q) (own (ap is_some at))
        ∙ (rest (insert m e.0 e.1)
        ∙ (ap (over (is_tile q) (find by_bytes q es)) (get-insert nat_list_cmp_total m e.0 e.1 q)
        ∙ with_it (eq_by_cmp by_bytes q e.0) (is_tile q) e.1 (find by_bytes q es) (get m q) here (λ k. ap is_tile (tied_same q e.0 k) ∙ ap is_some at)))

each_plain : (tree : Files) (paths : List (List ℕ)) → ((path : List ℕ) → contains_key tree path ≡ true → IsPlain path) → All (λ path. contains_key tree path ≡ true) paths → All IsPlain paths
each_plain tree [] h there = All-nil IsPlain
each_plain tree (p ∷ ps) h there =
    All-cons IsPlain p ps (h p (All-head (λ path. contains_key tree path ≡ true) p ps there)) (each_plain tree ps h (All-tail (λ path. contains_key tree path ≡ true) p ps there))

pub own_tree : (tree : Files) → ((path : List ℕ) → contains_key tree path ≡ true → IsPlain path) → written empty (plain_files tree) ≡ retain_keys tree is_tile
own_tree tree h = same_map nat_list_cmp_total (slice_cmp-IsAntisymmetric nat_cmp-IsAntisymmetric) _ _ (λ q.
    own_at q (entries tree) empty (entries_sorted tree) (each_plain tree (paths_of tree) h (all_there tree))
    ∙ (ap (over (is_tile q) (find by_bytes q (entries tree))) (get-empty by_bytes q)
    ∙ (only (is_tile q) (find by_bytes q (entries tree))
    ∙ (ap (λ o. cond (is_tile q) o None) (sym (get-entries tree q))
    ∙ sym (get-retain_keys tree is_tile q (λ x e. ap is_tile (sym (slice_cmp-IsAntisymmetric nat_cmp-IsAntisymmetric q x e))))))))
  where
    only : (b : Bool) (o : Option (List ℕ)) → over b o None ≡ cond b o None
    only true (Some v) = refl
    only _ _ = refl

-- the place that a plain path names
abbrev place_from : TileScheme → Option TilePath → Place
place_from scheme (Some t) = place_in (new_tile scheme [] t)
place_from scheme None = record { zoom = 0; column = 0; row = 0 }

from_path : (scheme : TileScheme) (path : List ℕ) (t : TilePath) → is_coord (as_given t) ≡ true → plain_of t ≡ Some path → place_in (new_tile scheme [] t) ≡ place_from scheme (tile_path path)
from_path scheme path t fit is = by t.format is
  where
    by : (o : Option FileFormat) → option_map (λ format. path_text format t.zoom t.column t.row) o ≡ Some path → place_in (new_tile scheme [] t) ≡ place_from scheme (tile_path path)
    by None h = absurd (none-some path h)
    by (Some format) h = sym (ap (place_from scheme) (ap tile_path (sym (same_Some _ path h)) ∙ read_back format t.zoom t.column t.row (zoom_of t fit) (column_of t fit) (row_of t fit)))

-- a file of a path has its tile among those of a batch
abbrev IsAmong : TileScheme → List File → List ℕ → Type 0
IsAmong scheme es path = list_any (eq_by_cmp place_cmp (place_from scheme (tile_path path))) (map place_in (batch_of scheme es)) ≡ true

among : (scheme : TileScheme) (es : List File) → All IsFit (paths_in es) → (source path : List ℕ) → is_some (find by_bytes source es) ≡ true → plain_path source ≡ Some path → IsAmong scheme es path
among scheme [] fit source path found is = absurd (false≢true found)
among scheme (e ∷ es) fit source path found is =
    by (tile_path e.0) refl (All-head IsFit e.0 (paths_in es) fit) (eq_by_cmp by_bytes source e.0) refl found (λ later. among scheme es (All-tail IsFit e.0 (paths_in es) fit) source path later is)
  where
    P : Place
    P = place_from scheme (tile_path path)

    tie : (p : Place) → p ≡ place_from scheme (tile_path path) → eq_by_cmp place_cmp (place_from scheme (tile_path path)) p ≡ true
    tie p same = ap (eq_by_cmp place_cmp (place_from scheme (tile_path path))) same ∙ ap is_eq (tied_itself places_total (place_from scheme (tile_path path)))

    by : (o : Option TilePath) → tile_path e.0 ≡ o → IfSome o (λ t. is_coord (as_given t) ≡ true) → (b : Bool) → eq_by_cmp by_bytes source e.0 ≡ b → is_some (cond b (Some e.1) (find by_bytes source es)) ≡ true
        → (is_some (find by_bytes source es) ≡ true → IsAmong scheme es path)
        → list_any (eq_by_cmp place_cmp (place_from scheme (tile_path path))) (map place_in (cons_option (option_map (new_tile scheme e.1) o) (batch_of scheme es))) ≡ true
    by None at here true k h rest = absurd (none-some path (sym (ap (option_and_then plain_of) at) ∙ (ap plain_path (sym (tied_same source e.0 k)) ∙ is)))
    by None at here false k h rest = rest h
    by (Some t) at here true k h rest =
        let own : plain_of t ≡ Some path = sym (ap (option_and_then plain_of) at) ∙ (ap plain_path (sym (tied_same source e.0 k)) ∙ is) in
        ap (λ b. b || list_any (eq_by_cmp place_cmp (place_from scheme (tile_path path))) (map place_in (batch_of scheme es))) (tie (place_in (new_tile scheme e.1 t)) (from_path scheme path t here own))
    by (Some t) at here false k h rest = or_right (eq_by_cmp place_cmp (place_from scheme (tile_path path)) (place_in (new_tile scheme e.1 t))) _ (rest h)

-- what no file of a path is written over stays
untouched : (n : Files) (es : List File) (path : List ℕ) → ((b : List ℕ) → is_some (find by_bytes b es) ≡ true → plain_path b ≢ Some path) → get (written n (filter_map plain_file es)) path ≡ get n path
untouched n [] path h = refl
untouched n (e ∷ es) path h = by (plain_path e.0) refl (λ m. untouched m es path (λ b found. h b (either_way (eq_by_cmp by_bytes b e.0) (find by_bytes b es) found)))
  where
    either_way : (c : Bool) (found : Option (List ℕ)) → is_some found ≡ true → is_some (cond c (Some e.1) found) ≡ true
    either_way true found k = refl
    either_way false found k = k

    first : is_some (find by_bytes e.0 (e ∷ es)) ≡ true
    first = ap (λ r. is_some (cond (is_eq r) (Some e.1) (find by_bytes e.0 es))) (tied_itself nat_list_cmp_total e.0)

    by : (o : Option (List ℕ)) → plain_path e.0 ≡ o → ((m : Files) → get (written m (filter_map plain_file es)) path ≡ get m path) → get (written n (cons_option (option_map (λ p. (p, e.1)) o) (filter_map plain_file es))) path ≡ get n path
    by None at rest = rest n
    by (Some p) at rest = rest (insert n p e.1) ∙ (get-insert nat_list_cmp_total n p e.1 path ∙ here (eq_by_cmp by_bytes path p) refl)
      where
        here : (c : Bool) → eq_by_cmp by_bytes path p ≡ c → cond c (Some e.1) (get n path) ≡ get n path
        here true k = absurd (h e.0 first (at ∙ ap Some (sym (tied_same path p k))))
        here false k = refl

-- the file of each tile is written, and none over it
each_in : (scheme : TileScheme) (es : List File) (m : Files) → All IsFit (paths_in es) → are_distinct place_cmp (map place_in (batch_of scheme es)) ≡ true → (source path bytes : List ℕ) → find by_bytes source es ≡ Some bytes → plain_path source ≡ Some path → get (written m (filter_map plain_file es)) path ≡ Some bytes
each_in scheme [] m fit apart source path bytes found is = absurd (none-some bytes found)
each_in scheme (e ∷ es) m fit apart source path bytes found is =
    by (tile_path e.0) refl apart (eq_by_cmp by_bytes source e.0) refl found
    (λ n rest later. each_in scheme es n (All-tail IsFit e.0 (paths_in es) fit) rest source path bytes later is)
  where
    over_last : get (written (insert m path e.1) (filter_map plain_file es)) path ≡ get (insert m path e.1) path → get (written (insert m path e.1) (filter_map plain_file es)) path ≡ Some e.1
    over_last h = h ∙ (get-insert nat_list_cmp_total m path e.1 path ∙ ap (λ r. cond (is_eq r) (Some e.1) (get m path)) (tied_itself nat_list_cmp_total path))

    by : (o : Option TilePath) → tile_path e.0 ≡ o → are_distinct place_cmp (map place_in (cons_option (option_map (new_tile scheme e.1) o) (batch_of scheme es))) ≡ true
        → (b : Bool) → eq_by_cmp by_bytes source e.0 ≡ b → cond b (Some e.1) (find by_bytes source es) ≡ Some bytes
        → ((n : Files) → are_distinct place_cmp (map place_in (batch_of scheme es)) ≡ true → find by_bytes source es ≡ Some bytes → get (written n (filter_map plain_file es)) path ≡ Some bytes)
        → get (written m (filter_map plain_file (e ∷ es))) path ≡ Some bytes
    by None at distinct true k h rest = absurd (none-some path (sym (ap (option_and_then plain_of) at) ∙ (ap plain_path (sym (tied_same source e.0 k)) ∙ is)))
    by None at distinct false k h rest = ap (λ (o : Option TilePath). get (written m (cons_option (option_map (λ p. (p, e.1)) (option_and_then plain_of o)) (filter_map plain_file es))) path) at ∙ rest m distinct h
    by (Some t) at distinct true k h rest =
        let here : is_coord (as_given t) ≡ true = subst (λ (o : Option TilePath). IfSome o (λ u. is_coord (as_given u) ≡ true)) at (All-head IsFit e.0 (paths_in es) fit) in
        let plain : plain_path e.0 ≡ Some path = ap plain_path (sym (tied_same source e.0 k)) ∙ is in
        let place : place_in (new_tile scheme [] t) ≡ place_from scheme (tile_path path) = from_path scheme path t here (sym (ap (option_and_then plain_of) at) ∙ plain) in
        let none : list_any (eq_by_cmp place_cmp (place_from scheme (tile_path path))) (map place_in (batch_of scheme es)) ≡ false =
        ap (λ (p : Place). list_any (eq_by_cmp place_cmp p) (map place_in (batch_of scheme es))) (sym place) ∙ not-true _ (and_parts (not (list_any (eq_by_cmp place_cmp (place_in (new_tile scheme e.1 t))) (map place_in (batch_of scheme es)))) (are_distinct place_cmp (map place_in (batch_of scheme es))) distinct).0 in
        ap (λ (o : Option (List ℕ)). get (written m (cons_option (option_map (λ p. (p, e.1)) o) (filter_map plain_file es))) path) plain
        ∙ (over_last (untouched (insert m path e.1) es path (λ b there same. false≢true (sym none ∙ among scheme es (All-tail IsFit e.0 (paths_in es) fit) b path there same)))
        ∙ h)
    by (Some t) at distinct false k h rest = after (plain_file e)
      where
        after : (o : Option File) → get (written m (cons_option o (filter_map plain_file es))) path ≡ Some bytes
        after None = rest m (and_parts _ _ distinct).1 h
        after (Some f) = rest (insert m f.0 f.1) (and_parts _ _ distinct).1 h

-- each file that is there was there before, or is that of a tile
abbrev IsFrom : Files → List ℕ → List ℕ → Type 0
IsFrom tree path bytes = (source : List ℕ) × (get tree source ≡ Some bytes) × (plain_path source ≡ Some path)

only_in : (tree : Files) (es : List File) (m : Files) → All (λ f. get tree f.0 ≡ Some f.1) es → (path bytes : List ℕ) → get (written m (filter_map plain_file es)) path ≡ Some bytes → (get m path ≡ Some bytes) ⊎ IsFrom tree path bytes
only_in tree [] m of path bytes h = inl h
only_in tree (e ∷ es) m of path bytes h = by (plain_path e.0) refl h (λ n k. only_in tree es n (All-tail (λ f. get tree f.0 ≡ Some f.1) e es of) path bytes k)
  where
    by : (o : Option (List ℕ)) → plain_path e.0 ≡ o → get (written m (cons_option (option_map (λ p. (p, e.1)) o) (filter_map plain_file es))) path ≡ Some bytes
        → ((n : Files) → get (written n (filter_map plain_file es)) path ≡ Some bytes → (get n path ≡ Some bytes) ⊎ IsFrom tree path bytes)
        → (get m path ≡ Some bytes) ⊎ IsFrom tree path bytes
    by None at k rest = rest m k
    by (Some p) at k rest = elim (rest (insert m p e.1) k) [ inl there ↦ here (eq_by_cmp by_bytes path p) refl (sym (get-insert nat_list_cmp_total m p e.1 path) ∙ there) | inr it ↦ inr it ]
      where
        here : (b : Bool) → eq_by_cmp by_bytes path p ≡ b → cond b (Some e.1) (get m path) ≡ Some bytes → (get m path ≡ Some bytes) ⊎ IsFrom tree path bytes
        here true k same = inr (e.0, All-head (λ f. get tree f.0 ≡ Some f.1) e es of ∙ same, at ∙ ap Some (sym (tied_same path p k)))
        here false k same = inl same

pub has_tiles : (scheme : TileScheme) (tree : Files) (s : State) → may_pack scheme (paths_of tree) s ≡ None → HasTileFiles tree (written empty (plain_files tree))
has_tiles scheme tree s h =
    let fit : All IsFit (paths_of tree) = all_fit (paths_of tree) (paths_pass scheme (paths_of tree) s h) in
    let double = or_parts (list_any (λ t. contains_key s.tiles (place_in t)) (batch_of scheme (entries tree))) (not (are_distinct place_cmp (map place_in (batch_of scheme (entries tree))))) (none_double scheme (entries tree) s h) in
    record {
      each = λ source path bytes found is. each_in scheme (entries tree) empty fit (not-false _ double.1) source path bytes (sym (get-entries tree source) ∙ found) is;
      only = λ path bytes found. elim (only_in tree (entries tree) empty (own_files tree) path bytes found) [ inl there ↦ absurd (none-some bytes (sym (get-empty by_bytes path) ∙ there)) | inr it ↦ it ];
    }
