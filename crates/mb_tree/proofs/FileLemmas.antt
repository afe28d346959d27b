-- Files that are read, one after another, and their tiles.
use Rattle.mb_tree.proofs.Common.{All, All-append, All-cons, All-head, All-nil, All-tail, ap, are_distinct, AreAllRead, arith, batch_of, below_all, Bool, cond, cons_option, contains_key, empty_files}
use Rattle.mb_tree.proofs.Common.{entries, entries_sorted, eq_by_cmp, eq_by_cmp_equiv, false, false≢true, File, Files, filter_map, find, first, get, get-entries, get_or, has_duplicates, Held, is_eq}
use Rattle.mb_tree.proofs.Common.{is_lt, is_some, is_sorted, IsRead, length, less_apart, List, list_any, map, map-append, nat_cmp, nat_list_cmp_total, new_tile, NewTile, None, not, Option, option_map}
use Rattle.mb_tree.proofs.Common.{Ordering, paths_in, paths_of, Place, place_cmp, place_in, ReadsOnly, refl, same_Some, second, slice_cmp, Some, subst, suc, sym, T, take, take_more, tied_itself}
use Rattle.mb_tree.proofs.Common.{tile_of_file, tile_path, TilePath, tiles_in, TileScheme, TileSet, true, unwrap_or, with_any, with_tile, ℕ, [], ◌++◌, ◌+◌, ◌<◌, ◌||◌, ◌∙◌, ◌∷◌, ◌≡◌, ◌≤◌}

-- one more file at the end
last_put : (scheme : TileScheme) (h : Held) (files : List File) (f : File) → tiles_in h (batch_of scheme (files ++ f ∷ [])) ≡ with_any (tiles_in h (batch_of scheme files)) (tile_of_file scheme f)
last_put scheme h [] f = by (tile_of_file scheme f)
  where
    by : (o : Option NewTile) → tiles_in h (cons_option o []) ≡ with_any h o
    by (Some t) = refl
    by None = refl
last_put scheme h (g ∷ gs) f = by (tile_of_file scheme g) (λ k. last_put scheme k gs f)
  where
    by : (o : Option NewTile) → ((k : Held) → tiles_in k (batch_of scheme (gs ++ f ∷ [])) ≡ with_any (tiles_in k (batch_of scheme gs)) (tile_of_file scheme f))
        → tiles_in h (cons_option o (batch_of scheme (gs ++ f ∷ []))) ≡ with_any (tiles_in h (cons_option o (batch_of scheme gs))) (tile_of_file scheme f)
    by (Some t) rest = rest _
    by None rest = rest h

pub one_read : (scheme : TileScheme) (shows : Bool) (told : Files) (paths : List (List ℕ)) (i : ℕ) (path : List ℕ) (base old new : Held) → i < length paths → path ≡ get_or paths i path → AreAllRead scheme shows told (take i paths) base old → IsRead scheme shows told path old new → AreAllRead scheme shows told (take (i + 1) paths) base new
one_read scheme shows told paths i path base old new lt at so step = record {
  files = so.files ++ (path, step.bytes) ∷ [];
  of =
      map-append (λ (f : File). f.0) so.files ((path, step.bytes) ∷ [])
      ∙ (ap (λ l. l ++ path ∷ []) so.of
      ∙ sym (take_more paths i path lt ∙ ap (λ p. take i paths ++ p ∷ []) (sym at)));
  read = λ e. All-append (λ f. get told f.0 ≡ Some f.1) so.files ((path, step.bytes) ∷ []) (so.read e) (All-cons (λ f. get told f.0 ≡ Some f.1) (path, step.bytes) [] (step.read e) (All-nil (λ f. get told f.0 ≡ Some f.1)));
  put = step.put ∙ (ap (λ h. with_any h (tile_of_file scheme (path, step.bytes))) so.put ∙ sym (last_put scheme base so.files (path, step.bytes)));
}

-- the files of a tree's paths
same_files : (told : Files) (files others : List File) → paths_in files ≡ paths_in others → All (λ f. get told f.0 ≡ Some f.1) files → All (λ f. get told f.0 ≡ Some f.1) others → files ≡ others
same_files told [] [] e h k = refl
same_files told [] (g ∷ gs) e h k = cc
same_files told (f ∷ fs) [] e h k = cc
same_files told (f ∷ fs) (g ∷ gs) e h k =
    let here : f.0 ≡ g.0 = ap (λ l. first f.0 l) e in
    let rest : paths_in fs ≡ paths_in gs = ap tail e in
    let bytes : f.1 ≡ g.1 = same_Some f.1 g.1 (sym (All-head (λ f. get told f.0 ≡ Some f.1) f fs h) ∙ (ap (get told) here ∙ All-head (λ f. get told f.0 ≡ Some f.1) g gs k)) in
    let same : f ≡ g = λ i. (here i, bytes i) in
    λ i. same i ∷ same_files told fs gs rest (All-tail (λ f. get told f.0 ≡ Some f.1) f fs h) (All-tail (λ f. get told f.0 ≡ Some f.1) g gs k) i
  where
    first : List ℕ → List (List ℕ) → List ℕ
    first d [] = d
    first d (p ∷ ps) = p

    tail : List (List ℕ) → List (List ℕ)
    tail [] = []
    tail (p ∷ ps) = ps

-- what the tests of paths see of files
without_bytes : (scheme : TileScheme) (bytes : List ℕ) (o : Option TilePath) (ts us : List NewTile) → map place_in ts ≡ map place_in us → map place_in (cons_option (option_map (new_tile scheme bytes) o) ts) ≡ map place_in (cons_option (option_map (new_tile scheme []) o) us)
without_bytes scheme bytes (Some t) ts us e = ap (λ l. place_in (new_tile scheme bytes t) ∷ l) e
without_bytes scheme bytes None ts us e = e

pub same_places : (scheme : TileScheme) (files : List File) → map place_in (batch_of scheme files) ≡ map place_in (batch_of scheme (empty_files (paths_in files)))
same_places scheme [] = refl
same_places scheme (f ∷ fs) = without_bytes scheme f.1 (tile_path f.0) (batch_of scheme fs) (batch_of scheme (empty_files (paths_in fs))) (same_places scheme fs)

any_place : (tiles : TileSet) (ts : List NewTile) → list_any (λ t. contains_key tiles (place_in t)) ts ≡ list_any (contains_key tiles) (map place_in ts)
any_place tiles [] = refl
any_place tiles (t ∷ ts) = ap (λ b. contains_key tiles (place_in t) || b) (any_place tiles ts)

pub same_duplicates : (tiles : TileSet) (ts us : List NewTile) → map place_in ts ≡ map place_in us → has_duplicates tiles ts ≡ has_duplicates tiles us
same_duplicates tiles ts us e =
    ap (λ b. b || not (are_distinct place_cmp (map place_in ts))) (any_place tiles ts)
    ∙ (ap (λ (ps : List Place). list_any (contains_key tiles) ps || not (are_distinct place_cmp ps)) e
    ∙ ap (λ b. b || not (are_distinct place_cmp (map place_in us))) (sym (any_place tiles us)))

counted_one : (scheme : TileScheme) (bytes : List ℕ) (o : Option TilePath) (ts : List NewTile) (us : List TilePath) → length ts ≡ length us → length (cons_option (option_map (new_tile scheme bytes) o) ts) ≡ length (cons_option o us)
counted_one scheme bytes (Some t) ts us e = ap suc e
counted_one scheme bytes None ts us e = e

-- as many tiles as paths of tiles
pub as_many : (scheme : TileScheme) (files : List File) → length (batch_of scheme files) ≡ length (filter_map tile_path (paths_in files))
as_many scheme [] = refl
as_many scheme (f ∷ fs) = counted_one scheme f.1 (tile_path f.0) (batch_of scheme fs) (filter_map tile_path (paths_in fs)) (as_many scheme fs)

-- each file is found under its path
abbrev by_bytes : List ℕ → List ℕ → Ordering
by_bytes = slice_cmp nat_cmp

found_later : (e : File) (es fs : List File) → T (below_all by_bytes e.0 fs) → All (λ f. find by_bytes f.0 es ≡ Some f.1) fs → All (λ f. find by_bytes f.0 (e ∷ es) ≡ Some f.1) fs
found_later e es [] below h = All-nil (λ f. find by_bytes f.0 (e ∷ es) ≡ Some f.1)
found_later e es (f ∷ fs) below h =
    let apart : eq_by_cmp by_bytes f.0 e.0 ≡ false = (eq_by_cmp_equiv nat_list_cmp_total).symm f.0 e.0 ∙ less_apart (by_bytes e.0 f.0) (first (is_lt (by_bytes e.0 f.0)) (below_all by_bytes e.0 fs) below) in
    All-cons (λ f. find by_bytes f.0 (e ∷ es) ≡ Some f.1) f fs (ap (λ b. cond b (Some e.1) (find by_bytes f.0 es)) apart ∙ All-head (λ f. find by_bytes f.0 es ≡ Some f.1) f fs h)
    (found_later e es fs (second (is_lt (by_bytes e.0 f.0)) (below_all by_bytes e.0 fs) below) (All-tail (λ f. find by_bytes f.0 es ≡ Some f.1) f fs h))

found_each : (es : List File) → T (is_sorted by_bytes es) → All (λ f. find by_bytes f.0 es ≡ Some f.1) es
found_each [] h = All-nil (λ f. find by_bytes f.0 [] ≡ Some f.1)
found_each (e ∷ es) h =
    All-cons (λ f. find by_bytes f.0 (e ∷ es) ≡ Some f.1) e es (ap (λ o. cond (is_eq o) (Some e.1) (find by_bytes e.0 es)) (tied_itself nat_list_cmp_total e.0))
    (found_later e es es (first (below_all by_bytes e.0 es) (is_sorted by_bytes es) h) (found_each es (second (below_all by_bytes e.0 es) (is_sorted by_bytes es) h)))

got_each : (m : Files) (fs : List File) → All (λ f. find by_bytes f.0 (entries m) ≡ Some f.1) fs → All (λ f. get m f.0 ≡ Some f.1) fs
got_each m [] h = All-nil (λ f. get m f.0 ≡ Some f.1)
got_each m (f ∷ fs) h = All-cons (λ f. get m f.0 ≡ Some f.1) f fs (get-entries m f.0 ∙ All-head (λ f. find by_bytes f.0 (entries m) ≡ Some f.1) f fs h) (got_each m fs (All-tail (λ f. find by_bytes f.0 (entries m) ≡ Some f.1) f fs h))

pub own_files : (m : Files) → All (λ f. get m f.0 ≡ Some f.1) (entries m)
own_files m = got_each m (entries m) (found_each (entries m) (entries_sorted m))

there_each : (m : Files) (fs : List File) → All (λ f. get m f.0 ≡ Some f.1) fs → All (λ path. contains_key m path ≡ true) (paths_in fs)
there_each m [] h = All-nil (λ path. contains_key m path ≡ true)
there_each m (f ∷ fs) h = All-cons (λ path. contains_key m path ≡ true) f.0 (paths_in fs) (ap is_some (All-head (λ f. get m f.0 ≡ Some f.1) f fs h)) (there_each m fs (All-tail (λ f. get m f.0 ≡ Some f.1) f fs h))

pub all_there : (m : Files) → All (λ path. contains_key m path ≡ true) (paths_of m)
all_there m = there_each m (entries m) (own_files m)

pub files_are : (m : Files) (files : List File) → paths_in files ≡ paths_of m → All (λ f. get m f.0 ≡ Some f.1) files → files ≡ entries m
files_are m files e h = same_files m files (entries m) e h (own_files m)

-- a file whose path is no tile's, and one whose path is
pub passed : (scheme : TileScheme) (shows : Bool) (told : Files) (path : List ℕ) (h : Held) → (shows ≡ true → contains_key told path ≡ true) → tile_path path ≡ None → IsRead scheme shows told path h h
passed scheme shows told path h there none = record {
  bytes = unwrap_or (get told path) [];
  read = λ s. known (get told path) (there s);
  put = sym (ap (λ o. with_any h (option_map (new_tile scheme (unwrap_or (get told path) [])) o)) none);
}
  where
    known : (o : Option (List ℕ)) → is_some o ≡ true → o ≡ Some (unwrap_or o [])
    known (Some b) e = refl
    known None e = absurd (false≢true e)

pub taken : (scheme : TileScheme) (shows : Bool) (told : Files) (path bytes : List ℕ) (t : TilePath) (old new : Held) → tile_path path ≡ Some t → (shows ≡ true → get told path ≡ Some bytes) → new ≡ with_tile old (place_in (new_tile scheme bytes t)) bytes → IsRead scheme shows told path old new
taken scheme shows told path bytes t old new is read put = record {
  bytes = bytes;
  read = read;
  put = put ∙ sym (ap (λ o. with_any old (option_map (new_tile scheme bytes) o)) is);
}

-- what was read of a tree that tells what it told before
pub moved_read : (scheme : TileScheme) (shows now : Bool) (told later : Files) (path : List ℕ) (old new : Held) → now ≡ shows → later ≡ told → IsRead scheme now later path old new → IsRead scheme shows told path old new
moved_read scheme shows now told later path old new e f r = record {
  bytes = r.bytes;
  read = λ s. ap (λ (m : Files). get m path) (sym f) ∙ r.read (e ∙ s);
  put = r.put;
}

pub moved_all : (scheme : TileScheme) (shows now : Bool) (told later : Files) (paths : List (List ℕ)) (old new : Held) → now ≡ shows → later ≡ told → AreAllRead scheme now later paths old new → AreAllRead scheme shows told paths old new
moved_all scheme shows now told later paths old new e f r = record {
  files = r.files;
  of = r.of;
  read = λ s. subst (λ (m : Files). All (λ x. get m x.0 ≡ Some x.1) r.files) f (r.read (e ∙ s));
  put = r.put;
}

-- frames of reads in turn
pub reads_both : {S T : Type 0} (told : S → T) (tells : S → Bool) (faults : S → ℕ) (steady : S → Type 0) (a b c : S) → ReadsOnly told tells faults steady a b → ReadsOnly told tells faults steady b c → ReadsOnly told tells faults steady a c
reads_both told tells faults steady a b c h k = record {
  told = k.told ∙ h.told;
  tells = k.tells ∙ h.tells;
  faults = let one : faults a ≤ faults b = h.faults in let two : faults b ≤ faults c = k.faults in omega arith;
  steady = λ s. k.steady (h.steady s);
  calm = λ s. k.calm (h.steady s) ∙ h.calm s;
}
