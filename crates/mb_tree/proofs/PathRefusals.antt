-- The tests of paths never answer a fault of a tree, and running out of memory or a fault is no refusal of files.
use Rattle.mb_tree.proofs.Common.{ap, as_given, bad_coord, Bool, Err, false, false≢true, FileFormat, Files, first_refusal, first_refused, InconsistentTileFormats, Int, InvalidTileIndex, is_coord}
use Rattle.mb_tree.proofs.Common.{is_free, is_some, is_wanting, List, MbtError, None, Option, option_and_then, path_refused, paths_of, pos, refl, RefusesPaths, Result, same_format, Some, State, sym}
use Rattle.mb_tree.proofs.Common.{tile_path, tile_refusals, TilePath, TileScheme, TreeFault, true, unless, UnsupportedFileExtension, ℕ, [], ◌∙◌, ◌∷◌, ◌≡◌, ◌≢◌}
use Rattle.mb_tree.proofs.RefusalLemmas.{first_no, none_of, tree_in, unless_no}

tile_no : (first : Option FileFormat) (path : List ℕ) (t : TilePath) → tree_in (first_refusal (tile_refusals first path t)) ≡ false
tile_no first path t =
    let supported = unless (is_some t.format) (UnsupportedFileExtension path) in
    let consistent = unless (same_format first t.format) (InconsistentTileFormats path) in
    none_of supported (consistent ∷ bad_coord (as_given t) ∷ []) (unless_no (is_some t.format) (UnsupportedFileExtension path) refl)
    (none_of consistent (bad_coord (as_given t) ∷ []) (unless_no (same_format first t.format) (InconsistentTileFormats path) refl)
    (none_of (bad_coord (as_given t)) [] (unless_no (is_coord (as_given t)) (InvalidTileIndex (Int (pos t.zoom)) (Int (pos t.column)) (Int (pos t.row))) refl) refl))

path_by : (first : Option FileFormat) (path : List ℕ) (o : Option TilePath) → tree_in (option_and_then (λ t. first_refusal (tile_refusals first path t)) o) ≡ false
path_by first path None = refl
path_by first path (Some t) = tile_no first path t

path_no : (first : Option FileFormat) (path : List ℕ) → tree_in (path_refused first path) ≡ false
path_no first path = path_by first path (tile_path path)

pub paths_no_fault : (first : Option FileFormat) (paths : List (List ℕ)) (e : MbtError) → (is_free e ≡ false → first_refused (path_refused first) paths ≡ Some e) → e ≢ TreeFault
paths_no_fault first paths e due f = false≢true (sym (first_no (path_refused first) (path_no first) paths) ∙ ap tree_in (due (ap is_free f) ∙ ap Some f))

pub unfaulted : {A X : Type 0} (r : Result A MbtError) (e : MbtError) → r ≡ Err e → e ≢ TreeFault → r ≡ Err TreeFault → X
unfaulted r e is other fault = absurd (other (err_same r e TreeFault is fault))
  where
    err_same : {A : Type 0} (r : Result A MbtError) (e f : MbtError) → r ≡ Err e → r ≡ Err f → e ≡ f
    err_same r e f h k = cc

pub refuses_none : (scheme : TileScheme) (shows : Bool) (told : Files) (base : State) (e : MbtError) → is_wanting e ≡ true → RefusesPaths scheme shows told base e
refuses_none scheme shows told base e wants = record { paths = paths_of told; listed = λ _. refl; due = λ w. absurd (false≢true (sym w ∙ wants)) }
