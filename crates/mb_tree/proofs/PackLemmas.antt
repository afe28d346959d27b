-- A set with the tiles of files: that it was loaded from the tables of its base, and what its
-- tables hold after the commit.
use Rattle.mb_tree.proofs.Common.{Abort, algorithm_by, All, All-cons, All-head, All-nil, All-tail, and_parts, ap, AreAllRead, arith, as_given, bad_coord, base_of, batch_of, Bool, cell_eq, codes, cond}
use Rattle.mb_tree.proofs.Common.{cons_option, contains_key, decimal, digest, duplicates, DuplicateValues, edits_loaded, empty_files, false, false≢true, File, FileFormat, Files, filter_map}
use Rattle.mb_tree.proofs.Common.{first_format, first_refusal, first_refused, Flat, format_word, fresh, from_with_name, from_with_tile, get-insert, get_other, has_duplicates, Held, held_packed, holds}
use Rattle.mb_tree.proofs.Common.{IfSome, InconsistentTileFormats, Int, InvalidTileIndex, is_coord, is_editable, is_normalized, is_set, is_some, IsFit, IsFree, IsLoadable, IsLoadedFrom, IsOnBoard}
use Rattle.mb_tree.proofs.Common.{IsPacked, IsSound, len, length, List, ltb-true, made, MakesChanges, map, may_pack, Names, NamesAlgorithm, nat_list_cmp_total, nat_lt, new_tile, NewTile, None, not}
use Rattle.mb_tree.proofs.Common.{nothing_edited, Ok, Option, option_and_then, option_map, option_or, option_to_list, Packs, pass_first, pass_rest, path_refused, paths_in, paths_of, place_in, pos}
use Rattle.mb_tree.proofs.Common.{refl, Reset, same_format, Some, span, State, subst, sym, Tables, Text, text_at, tile_path, tile_refusals, TilePath, tiles_in, TileScheme, true, unknown_name, unless}
use Rattle.mb_tree.proofs.Common.{UnsupportedFileExtension, update_edits, with_format, with_tile, with_zooms, zoom_at, zoom_edits, zooms_of, ℕ, [], ◌&&◌, ◌++◌, ◌-◌, ◌<◌, ◌^◌, ◌||◌, ◌∙◌, ◌∷◌, ◌≡◌}
use Rattle.mb_insert.proofs.InsertedLemmas.{fresh_is}
use Rattle.mb_load.proofs.CommittedLemmas.{is_committed}
use Rattle.mb_load.specs.Committed.{IsCommitted}
use Rattle.mb_metadata.specs.NameEdits.{is_edited}
use Rattle.mb_tree.proofs.CountLemmas.{apart, twice}
use Rattle.mb_tree.proofs.FileLemmas.{as_many, files_are, same_duplicates, same_places}

-- paths that no test refuses are those of coordinates
fit_of : (first : Option FileFormat) (path : List ℕ) (o : Option TilePath) → option_and_then (λ t. first_refusal (tile_refusals first path t)) o ≡ None → IfSome o (λ t. is_coord (as_given t) ≡ true)
fit_of first path None h = tt
fit_of first path (Some t) h =
    let supported = unless (is_some t.format) (UnsupportedFileExtension path) in
    let consistent = unless (same_format first t.format) (InconsistentTileFormats path) in
    holds (is_coord (as_given t)) (InvalidTileIndex (Int (pos t.zoom)) (Int (pos t.column)) (Int (pos t.row)))
    (pass_first (bad_coord (as_given t)) [] (pass_rest consistent (bad_coord (as_given t) ∷ []) (pass_rest supported (consistent ∷ bad_coord (as_given t) ∷ []) h)))

all_fit_by : (first : Option FileFormat) (paths : List (List ℕ)) → first_refused (path_refused first) paths ≡ None → All IsFit paths
all_fit_by first [] h = All-nil IsFit
all_fit_by first (path ∷ paths) h =
    All-cons IsFit path paths (fit_of first path (tile_path path) (pass_first (path_refused first path) (map (path_refused first) paths) h))
    (all_fit_by first paths (pass_rest (path_refused first path) (map (path_refused first) paths) h))

pub all_fit : (paths : List (List ℕ)) → first_refused (path_refused (first_format paths)) paths ≡ None → All IsFit paths
all_fit paths h = all_fit_by (first_format paths) paths h

-- a coordinate stands on the board, whichever way its rows are counted
pub board : (scheme : TileScheme) (bytes : List ℕ) (t : TilePath) → is_coord (as_given t) ≡ true → IsOnBoard (place_in (new_tile scheme bytes t))
board scheme bytes t h =
    let two = and_parts (nat_lt t.zoom 31 && nat_lt t.column (2 ^ t.zoom)) (nat_lt t.row (2 ^ t.zoom)) h in
    let one = and_parts (nat_lt t.zoom 31) (nat_lt t.column (2 ^ t.zoom)) two.0 in
    let column : t.column < 2 ^ t.zoom = ltb-true t.column (2 ^ t.zoom) one.1 in
    record { zoom = ltb-true t.zoom 31 one.0; column = column; row = omega arith }

free_flat : (s : State) → IsLoadable s → s.layout ≡ Flat → (bytes : List ℕ) → IsFree s bytes
free_flat s ok flat bytes = λ cell e. absurd (false≢true (sym (ap is_normalized flat) ∙ (ok.stored (Text (digest s.algorithm bytes)) cell e).normalised))

-- tables that a flat set was loaded from are so after the tiles of files were put
pub files_loaded : (scheme : TileScheme) (t : Tables) (h : Held) (files : List File) → All IsFit (paths_in files) → h.state.layout ≡ Flat → IsLoadedFrom t h → IsLoadedFrom t (tiles_in h (batch_of scheme files))
files_loaded scheme t h [] fit flat l = l
files_loaded scheme t h (f ∷ fs) fit flat l = by (tile_path f.0) (All-head IsFit f.0 (paths_in fs) fit) (λ k flat' l'. files_loaded scheme t k fs (All-tail IsFit f.0 (paths_in fs) fit) flat' l')
  where
    by : (o : Option TilePath) → IfSome o (λ t. is_coord (as_given t) ≡ true) → ((k : Held) → k.state.layout ≡ Flat → IsLoadedFrom t k → IsLoadedFrom t (tiles_in k (batch_of scheme fs))) → IsLoadedFrom t (tiles_in h (cons_option (option_map (new_tile scheme f.1) o) (batch_of scheme fs)))
    by None h' rest = rest h flat l
    by (Some tile) h' rest = rest (with_tile h (place_in (new_tile scheme f.1 tile)) f.1) flat (from_with_tile t h (place_in (new_tile scheme f.1 tile)) f.1 (board scheme f.1 tile h') (ap is_editable flat) (free_flat h.state l.state flat f.1) l)

format_loaded : (t : Tables) (h : Held) (o : Option FileFormat) → IsLoadedFrom t h → IsLoadedFrom t (with_format h o)
format_loaded t h None l = l
format_loaded t h (Some format) l = from_with_name t h (codes "format") (Some (format_word format)) l

pub packed_loaded : (scheme : TileScheme) (t : Tables) (h : Held) (files : List File) → All IsFit (paths_in files) → h.state.layout ≡ Flat → IsLoadedFrom t h → IsLoadedFrom t (held_packed scheme files h)
unfolding held_packed
packed_loaded scheme t h files fit flat l =
    let k = with_format (tiles_in h (batch_of scheme files)) (first_format (paths_in files)) in
    edits_loaded t k (update_edits Reset k.state) (format_loaded t (tiles_in h (batch_of scheme files)) (first_format (paths_in files)) (files_loaded scheme t h files fit flat l))

-- the algorithm stays
abbrev algorithm_name : List ℕ
algorithm_name = codes "hash_algorithm"

still_named : (s r : State) → r.algorithm ≡ s.algorithm → text_at r.metadata algorithm_name ≡ text_at s.metadata algorithm_name → NamesAlgorithm s → NamesAlgorithm r
still_named s r a e n = record { known = ap unknown_name e ∙ n.known; named = ap algorithm_by e ∙ (n.named ∙ sym a) }

tiles_named : (h : Held) (ts : List NewTile) → NamesAlgorithm h.state → NamesAlgorithm (tiles_in h ts).state
tiles_named h [] n = n
tiles_named h (t ∷ ts) n = tiles_named (with_tile h (place_in t) t.tile_data) ts (still_named h.state (with_tile h (place_in t) t.tile_data).state refl refl n)

format_named : (h : Held) (o : Option FileFormat) → NamesAlgorithm h.state → NamesAlgorithm (with_format h o).state
format_named h None n = n
format_named h (Some format) n = still_named h.state (with_format h (Some format)).state refl (ap (λ (o : Option (Option (List ℕ))). option_and_then (λ (value : Option (List ℕ)). value) o) (get-insert nat_list_cmp_total h.state.metadata (codes "format") (Some (format_word format)) algorithm_name)) n

-- edits of both zooms leave every other name
module _ (q : List ℕ) (least : cell_eq (Text q) (Text (codes "minzoom")) ≡ false) (greatest : cell_eq (Text q) (Text (codes "maxzoom")) ≡ false) where
  two_names : (x y : Bool) (t u : Option (List ℕ)) → is_edited (option_to_list (cond x (Some (record { name = codes "minzoom"; text = t })) None) ++ option_to_list (cond y (Some (record { name = codes "maxzoom"; text = u })) None)) (Text q) ≡ false
  two_names true true t u = (λ i. least i || (greatest i || false))
  two_names true false t u = (λ i. least i || false)
  two_names false true t u = (λ i. greatest i || false)
  two_names false false t u = refl

  pub unnamed : (names : Names) (zooms : Option (ℕ × ℕ)) → is_edited (zoom_edits Reset names zooms) (Text q) ≡ false
  unnamed names (Some zooms) = two_names (is_set Reset false (zoom_at names (codes "minzoom")) zooms.0) (is_set Reset true (zoom_at names (codes "maxzoom")) zooms.1) (Some (decimal zooms.0)) (Some (decimal zooms.1))
  unnamed names None = two_names (contains_key names (codes "minzoom")) (contains_key names (codes "maxzoom")) None None

zooms_named : (h : Held) → NamesAlgorithm h.state → NamesAlgorithm (with_zooms h).state
zooms_named h n = still_named h.state (with_zooms h).state refl (ap (λ (o : Option (Option (List ℕ))). option_and_then (λ (value : Option (List ℕ)). value) o) (get_other h.state.metadata (update_edits Reset h.state) algorithm_name (unnamed algorithm_name refl refl h.state.metadata (span (zooms_of h.state.tiles))))) n

pub packed_named : (scheme : TileScheme) (files : List File) (h : Held) → NamesAlgorithm h.state → NamesAlgorithm (held_packed scheme files h).state
unfolding held_packed
packed_named scheme files h n = zooms_named (with_format (tiles_in h (batch_of scheme files)) (first_format (paths_in files))) (format_named (tiles_in h (batch_of scheme files)) (first_format (paths_in files)) (tiles_named h (batch_of scheme files) n))

-- the tests of files, by their paths
pub both_pass : (scheme : TileScheme) (paths : List (List ℕ)) (s : State) → first_refused (path_refused (first_format paths)) paths ≡ None → duplicates Abort s.tiles (batch_of scheme (empty_files paths)) ≡ None → may_pack scheme paths s ≡ None
both_pass scheme paths s a b =
    ap (λ o. option_or o (option_or (duplicates Abort s.tiles (batch_of scheme (empty_files paths))) None)) a
    ∙ ap (λ o. option_or o None) b

pub paths_pass : (scheme : TileScheme) (paths : List (List ℕ)) (s : State) → may_pack scheme paths s ≡ None → first_refused (path_refused (first_format paths)) paths ≡ None
paths_pass scheme paths s h = pass_first (first_refused (path_refused (first_format paths)) paths) (duplicates Abort s.tiles (batch_of scheme (empty_files paths)) ∷ []) h

-- the tables after the commit of a set with the tiles of files
pub is_packed : (scheme : TileScheme) (shows : Bool) (told : Files) (old new : Tables) (h next : Held) → base_of old ≡ Ok h.state → h.edited ≡ nothing_edited → h.state.layout ≡ Flat → NamesAlgorithm h.state → IsLoadedFrom (made old) h → Packs scheme shows told h next → IsSound new → MakesChanges next (made old) new → IsPacked scheme shows told old new
is_packed scheme shows told old new h next from clean flat named loaded packs sound made_of =
    let same : next ≡ held_packed scheme packs.files (fresh h.state) = packs.value ∙ ap (held_packed scheme packs.files) (fresh_is h clean) in
    let changes : MakesChanges (held_packed scheme packs.files (fresh h.state)) (made old) new = subst (λ (k : Held). MakesChanges k (made old) new) same made_of in
    let fit : All IsFit (paths_in packs.files) = all_fit (paths_in packs.files) (paths_pass scheme (paths_in packs.files) h.state packs.tested) in
    let before : IsLoadedFrom (made old) (held_packed scheme packs.files (fresh h.state)) = packed_loaded scheme (made old) (fresh h.state) packs.files fit flat (subst (IsLoadedFrom (made old)) (fresh_is h clean) loaded) in
    let after : IsCommitted (held_packed scheme packs.files (fresh h.state)) (made old) new = is_committed (held_packed scheme packs.files (fresh h.state)) (made old) new changes.changes before changes.are changes.made sound in
    record {
      files = packs.files;
      read = packs.read;
      base = h.state;
      from = from;
      tested = packs.tested;
      again = after.again (packed_named scheme packs.files (fresh h.state) named);
      committed = after;
      commits = changes;
    }

-- what is committed was loaded from the tables of its base
pub packs_loaded : (scheme : TileScheme) (shows : Bool) (told : Files) (t : Tables) (h next : Held) → h.state.layout ≡ Flat → IsLoadedFrom t h → Packs scheme shows told h next → IsLoadedFrom t next
packs_loaded scheme shows told t h next flat loaded packs =
    subst (IsLoadedFrom t) (sym packs.value) (packed_loaded scheme t h packs.files (all_fit (paths_in packs.files) (paths_pass scheme (paths_in packs.files) h.state packs.tested)) flat loaded)

-- the test of duplicates, by two counts
pub apart_passes : (scheme : TileScheme) (base set : Held) (files : List File) (paths : List (List ℕ)) (before n l : ℕ) → before ≡ len base.state.tiles → paths_in files ≡ paths → set ≡ tiles_in base (batch_of scheme files) → n ≡ len set.state.tiles → l ≡ length (filter_map tile_path paths) → n - before ≡ l → duplicates Abort base.state.tiles (batch_of scheme (empty_files paths)) ≡ None
apart_passes scheme base set files paths before n l b of is count tiles e =
    let same : has_duplicates base.state.tiles (batch_of scheme (empty_files paths)) ≡ has_duplicates base.state.tiles (batch_of scheme files) =
    sym (same_duplicates base.state.tiles (batch_of scheme files) (batch_of scheme (empty_files paths)) (same_places scheme files ∙ ap (λ ps. map place_in (batch_of scheme (empty_files ps))) of)) in
    let none : has_duplicates base.state.tiles (batch_of scheme files) ≡ false = apart base (batch_of scheme files) before n l b (count ∙ ap (λ (h : Held). len h.state.tiles) is) (tiles ∙ (ap (λ ps. length (filter_map tile_path ps)) (sym of) ∙ sym (as_many scheme files))) e in
    ap (λ d. unless (not d) DuplicateValues) (same ∙ none)

pub twice_refuses : (scheme : TileScheme) (base set : Held) (files : List File) (paths : List (List ℕ)) (before n l : ℕ) → before ≡ len base.state.tiles → paths_in files ≡ paths → set ≡ tiles_in base (batch_of scheme files) → n ≡ len set.state.tiles → l ≡ length (filter_map tile_path paths) → (n - before ≡ l → ⊥) → duplicates Abort base.state.tiles (batch_of scheme (empty_files paths)) ≡ Some DuplicateValues
twice_refuses scheme base set files paths before n l b of is count tiles e =
    let same : has_duplicates base.state.tiles (batch_of scheme (empty_files paths)) ≡ has_duplicates base.state.tiles (batch_of scheme files) =
    sym (same_duplicates base.state.tiles (batch_of scheme files) (batch_of scheme (empty_files paths)) (same_places scheme files ∙ ap (λ ps. map place_in (batch_of scheme (empty_files ps))) of)) in
    let some : has_duplicates base.state.tiles (batch_of scheme files) ≡ true = twice base (batch_of scheme files) before n l b (count ∙ ap (λ (h : Held). len h.state.tiles) is) (tiles ∙ (ap (λ ps. length (filter_map tile_path ps)) (sym of) ∙ sym (as_many scheme files))) e in
    ap (λ d. unless (not d) DuplicateValues) (same ∙ some)

-- a set with the tiles of all files that are listed, which no test refused
pub are_packed : (scheme : TileScheme) (shows : Bool) (told : Files) (paths : List (List ℕ)) (base set next : Held) → (shows ≡ true → paths ≡ paths_of told) → AreAllRead scheme shows told paths base set → first_refused (path_refused (first_format paths)) paths ≡ None → duplicates Abort base.state.tiles (batch_of scheme (empty_files paths)) ≡ None → next ≡ with_zooms (with_format set (first_format paths)) → Packs scheme shows told base next
unfolding held_packed
are_packed scheme shows told paths base set next listed read tested apart named = record {
  files = read.files;
  read = λ s. files_are told read.files (read.of ∙ listed s) (read.read s);
  tested = ap (λ ps. may_pack scheme ps base.state) read.of ∙ both_pass scheme paths base.state tested apart;
  value =
      named
      ∙ (ap (λ (h : Held). with_zooms (with_format h (first_format paths))) read.put
      ∙ ap (λ ps. with_zooms (with_format (tiles_in base (batch_of scheme read.files)) (first_format ps))) (sym read.of));
}
