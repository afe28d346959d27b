-- What a set that a tree was packed into is unpacked into.
use Rattle.mb_tree.proofs.Common.{Abort, All, All-cons, All-head, All-nil, All-tail, and_parts, ap, arith, as_given, bad_coord, batch_of, bytes_eq, codes, cons_option, duplicates, DuplicateValues}
use Rattle.mb_tree.proofs.Common.{empty_files, false, false≢true, File, file_under, FileFormat, Files, files_by, files_of, filter_map, first_format, first_refusal, first_refused, format_due}
use Rattle.mb_tree.proofs.Common.{format_named, format_of, format_or, format_word, fresh, get-insert, get_other, has_duplicates, Held, held_packed, holds, IfSome, InconsistentTileFormats, is_coord}
use Rattle.mb_tree.proofs.Common.{is_some, IsFit, known_format, List, ltb-true, map, may_pack, MbtError, nat_list_cmp_total, nat_lt, new_tile, None, not, not-true, Ok, Option, option_and_then}
use Rattle.mb_tree.proofs.Common.{option_map, packed, pass_first, pass_rest, path_refused, path_text, path_under, paths_in, plain_file, plain_of, put_in_turn, refl, Reset, Result, same_format}
use Rattle.mb_tree.proofs.Common.{same_Some, Some, span, State, subst, sym, text_at, tile_path, tile_refusals, TilePath, tiles_in, TileScheme, TileSet, true, turned, unless, unpacked}
use Rattle.mb_tree.proofs.Common.{UnsupportedFileExtension, update_edits, with_format, with_zooms, written, zooms_of, ℕ, [], ◌&&◌, ◌<◌, ◌^◌, ◌∙◌, ◌∷◌, ◌≡◌}
use Rattle.std.proofs.lemmas.Slice.Eq.{bytes_eq-Decides}
use Rattle.mb_tree.proofs.CountLemmas.{tiles_are}
use Rattle.mb_tree.proofs.FileLemmas.{same_duplicates, same_places}
use Rattle.mb_tree.proofs.PackLemmas.{all_fit, board, paths_pass, unnamed}
use Rattle.mb_tree.proofs.PlaceLemmas.{AreOnBoard, IsPlaced, all_more, file_back, narrow, turned_back, turned_within}
use Rattle.mb_tree.proofs.PlainLemmas.{named}
use Rattle.mb_tree.proofs.UnpackLemmas.{back}

-- the tiles of files that no test refuses
all_placed : (scheme : TileScheme) (files : List File) → All IsFit (paths_in files) → All IsPlaced (batch_of scheme files)
all_placed scheme [] fit = All-nil IsPlaced
all_placed scheme (f ∷ fs) fit = by (tile_path f.0) (All-head IsFit f.0 (paths_in fs) fit) (all_placed scheme fs (All-tail IsFit f.0 (paths_in fs) fit))
  where
    by : (o : Option TilePath) → IfSome o (λ t. is_coord (as_given t) ≡ true) → All IsPlaced (batch_of scheme fs) → All IsPlaced (cons_option (option_map (new_tile scheme f.1) o) (batch_of scheme fs))
    by None here rest = rest
    by (Some t) here rest = All-cons IsPlaced (new_tile scheme f.1 t) (batch_of scheme fs) (board scheme f.1 t here) rest

same_word : (f g : FileFormat) → bytes_eq (format_word f) (format_word g) ≡ true → f ≡ g
same_word f g h = same_Some f g (sym (named f) ∙ (ap format_of ((bytes_eq-Decides (format_word f) (format_word g)).0 h) ∙ named g))

its_format : (format : FileFormat) (o : Option FileFormat) → same_format (Some format) o ≡ true → o ≡ Some format
its_format format None h = absurd (false≢true h)
its_format format (Some g) h = ap Some (sym (same_word format g h))

passed_format : (format : FileFormat) (path : List ℕ) (t : TilePath) → first_refusal (tile_refusals (Some format) path t) ≡ None → t.format ≡ Some format
passed_format format path t h =
    let supported = unless (is_some t.format) (UnsupportedFileExtension path) in
    let consistent = unless (same_format (Some format) t.format) (InconsistentTileFormats path) in
    its_format format t.format (holds (same_format (Some format) t.format) (InconsistentTileFormats path) (pass_first consistent (bad_coord (as_given t) ∷ []) (pass_rest supported (consistent ∷ bad_coord (as_given t) ∷ []) h)))

-- the numbers of a coordinate
pub zoom_of : (t : TilePath) → is_coord (as_given t) ≡ true → t.zoom < 2 ^ 8
zoom_of t h = let low : t.zoom < 31 = ltb-true t.zoom 31 (and_parts (nat_lt t.zoom 31) (nat_lt t.column (2 ^ t.zoom)) (and_parts (nat_lt t.zoom 31 && nat_lt t.column (2 ^ t.zoom)) (nat_lt t.row (2 ^ t.zoom)) h).0).0 in omega (arith, low)

pub column_of : (t : TilePath) → is_coord (as_given t) ≡ true → t.column < 2 ^ 32
column_of t h =
    let both = and_parts (nat_lt t.zoom 31) (nat_lt t.column (2 ^ t.zoom)) (and_parts (nat_lt t.zoom 31 && nat_lt t.column (2 ^ t.zoom)) (nat_lt t.row (2 ^ t.zoom)) h).0 in
    narrow t.zoom t.column (ltb-true t.zoom 31 both.0) (ltb-true t.column (2 ^ t.zoom) both.1)

row_below : (t : TilePath) → is_coord (as_given t) ≡ true → t.row < 2 ^ t.zoom
row_below t h = ltb-true t.row (2 ^ t.zoom) (and_parts (nat_lt t.zoom 31 && nat_lt t.column (2 ^ t.zoom)) (nat_lt t.row (2 ^ t.zoom)) h).1

pub row_of : (t : TilePath) → is_coord (as_given t) ≡ true → t.row < 2 ^ 32
row_of t h = narrow t.zoom t.row (ltb-true t.zoom 31 (and_parts (nat_lt t.zoom 31) (nat_lt t.column (2 ^ t.zoom)) (and_parts (nat_lt t.zoom 31 && nat_lt t.column (2 ^ t.zoom)) (nat_lt t.row (2 ^ t.zoom)) h).0).0) (row_below t h)

-- their files, as another scheme counts rows
under_one : (scheme other : TileScheme) (format : FileFormat) (bytes : List ℕ) (t : TilePath) → t.format ≡ Some format → is_coord (as_given t) ≡ true → option_map (λ path. (path, bytes)) (path_under scheme other t) ≡ Some (file_back other format (new_tile scheme bytes t))
under_one scheme other format bytes t is fit =
    ap (λ (o : Option FileFormat). option_map (λ (path : List ℕ). (path, bytes)) (option_map (λ f. path_text f t.zoom t.column (turned other t.zoom (turned scheme t.zoom t.row))) o)) is
    ∙ ap (λ row. Some (path_text format t.zoom t.column (turned other t.zoom row), bytes)) (sym (back (2 ^ t.zoom) (turned scheme t.zoom t.row) (turned_within scheme t.zoom t.row (row_below t fit))))

under_batch : (scheme other : TileScheme) (format : FileFormat) (files : List File) → All IsFit (paths_in files) → first_refused (path_refused (Some format)) (paths_in files) ≡ None → map (file_back other format) (batch_of scheme files) ≡ filter_map (file_under scheme other) files
under_batch scheme other format [] fit h = refl
under_batch scheme other format (f ∷ fs) fit h =
    by (tile_path f.0) (All-head IsFit f.0 (paths_in fs) fit) (pass_first (path_refused (Some format) f.0) (map (path_refused (Some format)) (paths_in fs)) h)
    (under_batch scheme other format fs (All-tail IsFit f.0 (paths_in fs) fit) (pass_rest (path_refused (Some format) f.0) (map (path_refused (Some format)) (paths_in fs)) h))
  where
    by : (o : Option TilePath) → IfSome o (λ t. is_coord (as_given t) ≡ true) → option_and_then (λ t. first_refusal (tile_refusals (Some format) f.0 t)) o ≡ None
        → map (file_back other format) (batch_of scheme fs) ≡ filter_map (file_under scheme other) fs
        → map (file_back other format) (cons_option (option_map (new_tile scheme f.1) o) (batch_of scheme fs)) ≡ cons_option (option_map (λ path. (path, f.1)) (option_and_then (path_under scheme other) o)) (filter_map (file_under scheme other) fs)
    by None here none rest = rest
    by (Some t) here none rest =
        ap (λ (l : List File). file_back other format (new_tile scheme f.1 t) ∷ l) rest
        ∙ ap (λ (o : Option File). cons_option o (filter_map (file_under scheme other) fs)) (sym (under_one scheme other format f.1 t (passed_format format f.0 t none) here))

-- under their own scheme they have their plain paths
plain_batch : (scheme : TileScheme) (files : List File) → All IsFit (paths_in files) → filter_map (file_under scheme scheme) files ≡ filter_map plain_file files
plain_batch scheme [] fit = refl
plain_batch scheme (f ∷ fs) fit = by (tile_path f.0) (All-head IsFit f.0 (paths_in fs) fit) (plain_batch scheme fs (All-tail IsFit f.0 (paths_in fs) fit))
  where
    by : (o : Option TilePath) → IfSome o (λ t. is_coord (as_given t) ≡ true) → filter_map (file_under scheme scheme) fs ≡ filter_map plain_file fs
        → cons_option (option_map (λ path. (path, f.1)) (option_and_then (path_under scheme scheme) o)) (filter_map (file_under scheme scheme) fs) ≡ cons_option (option_map (λ path. (path, f.1)) (option_and_then plain_of o)) (filter_map plain_file fs)
    by None here rest = rest
    by (Some t) here rest = λ i. cons_option (option_map (λ path. (path, f.1)) (option_map (λ format. path_text format t.zoom t.column (turned_back scheme t.zoom t.row (row_below t here) i)) t.format)) (rest i)

-- what no test refuses comes apart
pub none_double : (scheme : TileScheme) (files : List File) (s : State) → may_pack scheme (paths_in files) s ≡ None → has_duplicates s.tiles (batch_of scheme files) ≡ false
none_double scheme files s h =
    let paths = paths_in files in
    let first = first_refused (path_refused (first_format paths)) paths in
    let second = duplicates Abort s.tiles (batch_of scheme (empty_files paths)) in
    same_duplicates s.tiles (batch_of scheme files) (batch_of scheme (empty_files paths)) (same_places scheme files)
    ∙ not-true (has_duplicates s.tiles (batch_of scheme (empty_files paths))) (holds (not (has_duplicates s.tiles (batch_of scheme (empty_files paths)))) DuplicateValues (pass_first second [] (pass_rest first (second ∷ []) h)))

-- the tiles and the format of a set that a tree was packed into
same_tiles : (h : Held) (o : Option FileFormat) → (with_format h o).state.tiles ≡ h.state.tiles
same_tiles h None = refl
same_tiles h (Some format) = refl

pub tiles_packed : (scheme : TileScheme) (files : List File) (s : State) → (packed scheme files s).tiles ≡ put_in_turn s.tiles (batch_of scheme files)
unfolding held_packed
tiles_packed scheme files s = same_tiles (tiles_in (fresh s) (batch_of scheme files)) (first_format (paths_in files)) ∙ tiles_are (fresh s) (batch_of scheme files)

abbrev said : Option (Option (List ℕ)) → Option (List ℕ)
said o = option_and_then (λ (value : Option (List ℕ)). value) o

format_stays : (h : Held) → text_at (with_zooms h).state.metadata (codes "format") ≡ text_at h.state.metadata (codes "format")
format_stays h = ap said (get_other h.state.metadata (update_edits Reset h.state) (codes "format") (unnamed (codes "format") refl refl h.state.metadata (span (zooms_of h.state.tiles))))

pub format_packed : (scheme : TileScheme) (files : List File) (s : State) (format : FileFormat) → first_format (paths_in files) ≡ Some format → format_due (packed scheme files s) ≡ Ok format
unfolding held_packed
format_packed scheme files s format is =
    let h = tiles_in (fresh s) (batch_of scheme files) in
    ap format_named (format_stays (with_format h (first_format (paths_in files)))
    ∙ (ap (λ o. text_at (with_format h o).state.metadata (codes "format")) is
    ∙ ap said (get-insert nat_list_cmp_total h.state.metadata (codes "format") (Some (format_word format)) (codes "format"))))
    ∙ ap (known_format (format_word format)) (named format)

-- what it is unpacked into, under any scheme and under its own
module _ (scheme other : TileScheme) (into : Files) (files : List File) (s : State) (format : FileFormat) (on : AreOnBoard s.tiles) (h : may_pack scheme (paths_in files) s ≡ None) (is : first_format (paths_in files) ≡ Some format) where
  passes : first_refused (path_refused (first_format (paths_in files))) (paths_in files) ≡ None
  passes = paths_pass scheme (paths_in files) s h

  fit : All IsFit (paths_in files)
  fit = all_fit (paths_in files) passes

  pub unpacked_under : written into (unpacked other (Ok (packed scheme files s))) ≡ written (written into (files_of other format s.tiles)) (filter_map (file_under scheme other) files)
  unpacked_under =
      ap (λ (r : Result FileFormat MbtError). written into (files_by other (packed scheme files s).tiles r)) (format_packed scheme files s format is)
      ∙ (ap (λ (tiles : TileSet). written into (files_of other format tiles)) (tiles_packed scheme files s)
      ∙ (all_more other format into s.tiles (batch_of scheme files) on (all_placed scheme files fit) (none_double scheme files s h)
      ∙ ap (written (written into (files_of other format s.tiles))) (under_batch scheme other format files fit (subst (λ (o : Option FileFormat). first_refused (path_refused o) (paths_in files) ≡ None) is passes))))

pub unpacked_again : (scheme : TileScheme) (into : Files) (files : List File) (s : State) (format : FileFormat) → AreOnBoard s.tiles → may_pack scheme (paths_in files) s ≡ None → first_format (paths_in files) ≡ Some format
    → written into (unpacked scheme (Ok (packed scheme files s))) ≡ written (written into (files_of scheme format s.tiles)) (filter_map plain_file files)
unpacked_again scheme into files s format on h is =
    unpacked_under scheme scheme into files s format on h is
    ∙ ap (written (written into (files_of scheme format s.tiles))) (plain_batch scheme files (all_fit (paths_in files) (paths_pass scheme (paths_in files) s h)))

-- the same of files of which none is a tile's
abbrev pub AreNoTiles : List File → Type 0
AreNoTiles files = All (λ path. tile_path path ≡ None) (paths_in files)

none_by : (files : List File) → first_format (paths_in files) ≡ None → first_refused (path_refused None) (paths_in files) ≡ None → AreNoTiles files
none_by [] is h = All-nil (λ path. tile_path path ≡ None)
none_by (f ∷ fs) is h =
    let first = path_refused None f.0 in
    let later = map (path_refused None) (paths_in fs) in
    by (tile_path f.0) refl is (pass_first first later h) (λ none. none_by fs none (pass_rest first later h))
  where
    by : (o : Option TilePath) → tile_path f.0 ≡ o → format_or o (first_format (paths_in fs)) ≡ None → option_and_then (λ t. first_refusal (tile_refusals None f.0 t)) o ≡ None
        → (first_format (paths_in fs) ≡ None → AreNoTiles fs) → AreNoTiles (f ∷ fs)
    by None at none pass rest = All-cons (λ path. tile_path path ≡ None) f.0 (paths_in fs) at (rest none)
    by (Some t) at none pass rest =
        let consistent = unless (same_format None t.format) (InconsistentTileFormats f.0) in
        let some : is_some t.format ≡ true = holds (is_some t.format) (UnsupportedFileExtension f.0) (pass_first (unless (is_some t.format) (UnsupportedFileExtension f.0)) (consistent ∷ bad_coord (as_given t) ∷ []) pass) in
        absurd (false≢true (sym (ap is_some none) ∙ some))

no_batch : (scheme : TileScheme) (files : List File) → AreNoTiles files → batch_of scheme files ≡ []
no_batch scheme [] none = refl
no_batch scheme (f ∷ fs) none =
    ap (λ (o : Option TilePath). cons_option (option_map (new_tile scheme f.1) o) (batch_of scheme fs)) (All-head (λ path. tile_path path ≡ None) f.0 (paths_in fs) none)
    ∙ no_batch scheme fs (All-tail (λ path. tile_path path ≡ None) f.0 (paths_in fs) none)

no_plain : (files : List File) → AreNoTiles files → filter_map plain_file files ≡ []
no_plain [] none = refl
no_plain (f ∷ fs) none =
    ap (λ (o : Option TilePath). cons_option (option_map (λ path. (path, f.1)) (option_and_then plain_of o)) (filter_map plain_file fs)) (All-head (λ path. tile_path path ≡ None) f.0 (paths_in fs) none)
    ∙ no_plain fs (All-tail (λ path. tile_path path ≡ None) f.0 (paths_in fs) none)

module _ (scheme : TileScheme) (files : List File) (s : State) (is : first_format (paths_in files) ≡ None) (h : may_pack scheme (paths_in files) s ≡ None) where
  no_tiles : AreNoTiles files
  no_tiles = none_by files is (subst (λ (o : Option FileFormat). first_refused (path_refused o) (paths_in files) ≡ None) is (paths_pass scheme (paths_in files) s h))

  pub no_files : filter_map plain_file files ≡ []
  no_files = no_plain files no_tiles

  pub tiles_stay : (packed scheme files s).tiles ≡ s.tiles
  tiles_stay = tiles_packed scheme files s ∙ ap (put_in_turn s.tiles) (no_batch scheme files no_tiles)

  pub due_stays : format_due (packed scheme files s) ≡ format_due s
  unfolding held_packed
  due_stays =
      let h = tiles_in (fresh s) (batch_of scheme files) in
      ap format_named (format_stays (with_format h (first_format (paths_in files)))
      ∙ (ap (λ o. text_at (with_format h o).state.metadata (codes "format")) is
      ∙ ap (λ ts. text_at (tiles_in (fresh s) ts).state.metadata (codes "format")) (no_batch scheme files no_tiles)))
