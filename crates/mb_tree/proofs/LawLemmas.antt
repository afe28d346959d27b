-- What `pack` promises, and what `unpack` gives of that.
use Rattle.mb_tree.proofs.Common.{ap, base_by, base_of, begun, contains_key, empty, empty_state, entries, Err, File, FileFormat, Files, files_by, files_of, files_under, first_format, Flat, flat_alone}
use Rattle.mb_tree.proofs.Common.{fresh, HasNoTiles, HasTileFiles, if_flat, IfOk, is_tile, IsPacked, IsPlain, List, may_pack, MbtError, MbtType, Md5, None, Ok, packed, paths_in, paths_of, plain_files}
use Rattle.mb_tree.proofs.Common.{refl, Result, retain_keys, Some, State, state_of, subst, sym, TableDesc, Tables, then, TileScheme, true, unpacked, unpacking, written, ℕ, [], ◌∙◌, ◌∷◌, ◌≡◌}
use Rattle.mb_load.proofs.LoadsFrom.{state_whole}
use Rattle.mb_metadata.proofs.UpdateLemmas.{ok_same}
use Rattle.mb_tree.proofs.AloneLemmas.{alone, has_tiles, own_tree}
use Rattle.mb_tree.proofs.BaseLemmas.{new_due, new_whole}
use Rattle.mb_tree.proofs.PlaceLemmas.{AreOnBoard}
use Rattle.mb_tree.proofs.RoundTripLemmas.{due_stays, format_packed, tiles_stay, unpacked_again, unpacked_under}

-- the tiles of a base stand on the board
base_placed : (t : Tables) (s : State) → base_of t ≡ Ok s → AreOnBoard s.tiles
unfolding base_of
base_placed t s e = by t.descriptions e
  where
    flat : (u : State) (layout : MbtType) → state_of t ≡ Ok u → if_flat layout u ≡ Ok s → AreOnBoard s.tiles
    flat u Flat loads is = (state_whole t s (loads ∙ is)).0.on_board
    flat u _ loads is = cc

    loaded : (r : Result State MbtError) → state_of t ≡ r → then r flat_alone ≡ Ok s → AreOnBoard s.tiles
    loaded (Ok u) loads is = flat u u.layout loads is
    loaded (Err x) loads is = cc

    by : (ds : List TableDesc) → base_by ds t ≡ Ok s → AreOnBoard s.tiles
    by [] is = subst (λ (u : State). AreOnBoard u.tiles) (ok_same (empty_state Flat Md5) s is) (new_whole (fresh (empty_state Flat Md5)) refl).on_board
    by (d ∷ ds) is = loaded (state_of t) refl is

pub none_described : (t : Tables) → t.descriptions ≡ [] → HasNoTiles t
none_described t e = subst (λ (r : Result State MbtError). IfOk r (λ base. base.tiles ≡ empty)) (sym (new_due t e)) refl

module _ (scheme : TileScheme) (tree : Files) (old new : Tables) (p : IsPacked scheme true tree old new) where
  again : state_of new ≡ Ok (packed scheme (entries tree) p.base)
  again = p.again ∙ ap (λ (files : List File). Ok (packed scheme files p.base)) (p.read refl)

  tested : may_pack scheme (paths_of tree) p.base ≡ None
  tested = ap (λ (files : List File). may_pack scheme (paths_in files) p.base) (sym (p.read refl)) ∙ p.tested

  its_base : (base : State) → base_of old ≡ Ok base → p.base ≡ base
  its_base base e = ok_same p.base base (sym p.from ∙ e)

  pub answered : (format : FileFormat) → first_format (paths_of tree) ≡ Some format → begun unpacking new ≡ Ok tt
  unfolding begun
  answered format is =
      ap (λ (d : Result State MbtError). then d unpacking) again
      ∙ ap (λ (d : Result FileFormat MbtError). then d (λ _. Ok tt)) (format_packed scheme (entries tree) p.base format is)

  pub gives : (into : Files) (base : State) (format : FileFormat) → base_of old ≡ Ok base → first_format (paths_of tree) ≡ Some format
      → written into (unpacked scheme (state_of new)) ≡ written (written into (files_of scheme format base.tiles)) (plain_files tree)
  gives into base format e is =
      ap (λ (r : Result State MbtError). written into (unpacked scheme r)) again
      ∙ (unpacked_again scheme into (entries tree) p.base format (base_placed old p.base p.from) tested is
      ∙ ap (λ (s : State). written (written into (files_of scheme format s.tiles)) (plain_files tree)) (its_base base e))

  pub gives_under : (other : TileScheme) (into : Files) (base : State) (format : FileFormat) → base_of old ≡ Ok base → first_format (paths_of tree) ≡ Some format
      → written into (unpacked other (state_of new)) ≡ written (written into (files_of other format base.tiles)) (files_under scheme other tree)
  gives_under other into base format e is =
      ap (λ (r : Result State MbtError). written into (unpacked other r)) again
      ∙ (unpacked_under scheme other into (entries tree) p.base format (base_placed old p.base p.from) tested is
      ∙ ap (λ (s : State). written (written into (files_of other format s.tiles)) (files_under scheme other tree)) (its_base base e))

  pub answered_before : (base : State) → base_of old ≡ Ok base → first_format (paths_of tree) ≡ None → begun unpacking new ≡ unpacking base
  unfolding begun
  answered_before base e is =
      ap (λ (d : Result State MbtError). then d unpacking) again
      ∙ (ap (λ (d : Result FileFormat MbtError). then d (λ _. Ok tt)) (due_stays scheme (entries tree) p.base is tested)
      ∙ ap unpacking (its_base base e))

  pub gives_before : (other : TileScheme) (base : State) → base_of old ≡ Ok base → first_format (paths_of tree) ≡ None → unpacked other (state_of new) ≡ unpacked other (Ok base)
  gives_before other base e is =
      ap (unpacked other) again
      ∙ ((λ i. files_by other (tiles_stay scheme (entries tree) p.base is tested i) (due_stays scheme (entries tree) p.base is tested i))
      ∙ ap (λ (s : State). unpacked other (Ok s)) (its_base base e))

  module _ (none : HasNoTiles old) where
    base_empty : p.base.tiles ≡ empty
    base_empty = subst (λ (r : Result State MbtError). IfOk r (λ base. base.tiles ≡ empty)) p.from none

    comes_back : written empty (unpacked scheme (state_of new)) ≡ written empty (plain_files tree)
    comes_back =
        ap (λ (r : Result State MbtError). written empty (unpacked scheme r)) again
        ∙ alone scheme empty (entries tree) p.base base_empty tested

    pub tiles_back : HasTileFiles tree (written empty (unpacked scheme (state_of new)))
    tiles_back = subst (HasTileFiles tree) (sym comes_back) (has_tiles scheme tree p.base tested)

    pub tree_back : ((path : List ℕ) → contains_key tree path ≡ true → IsPlain path) → written empty (unpacked scheme (state_of new)) ≡ retain_keys tree is_tile
    tree_back plain = comes_back ∙ own_tree tree plain
