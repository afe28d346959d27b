-- A set with a batch, and its tables after the commit.
use Rattle.mb_insert.proofs.Common.{ap, bad_coord, CopyDuplicateMode, duplicates, Edited, first_refused, fresh, Held, is_editable, IsLoadedFrom, List, MakesChanges, may_insert, NamesAlgorithm}
use Rattle.mb_insert.proofs.Common.{NewTile, None, nothing_edited, Ok, Option, pass_first, pass_rest, put_of, refl, State, subst, Tables, tiles_put, unless, UnsupportedCopyOperation, [], ◌∙◌, ◌∷◌}
use Rattle.mb_insert.proofs.Common.{◌≡◌}
use Rattle.mb_edit.proofs.PutLemmas.{both_pass}
use Rattle.mb_edit.proofs.PutTableLemmas.{are_put}
use Rattle.mb_edit.specs.PatchingOrder.{bytes_put, id_collides}
use Rattle.mb_edit.specs.Put.{may_put}
use Rattle.mb_edit.specs.PutTables.{ArePut}
use Rattle.mb_insert.proofs.CoordLemmas.{all_coords, put_on_board}
use Rattle.mb_insert.specs.Inserted.{IsInserted}
use Rattle.mb_load.specs.StateOf.{state_of}
use Rattle.mb_store.specs.Store.{IsSound}
use Rattle.mb_tables.specs.declared.error.MbtError.{MbtError}

module _ (mode : CopyDuplicateMode) (batch : List NewTile) (s : State) where
  abbrev edit : Option MbtError
  edit = unless (is_editable s.layout) UnsupportedCopyOperation

  abbrev coords : Option MbtError
  coords = first_refused bad_coord batch

  abbrev twice : Option MbtError
  twice = duplicates mode s.tiles batch

  abbrev ids : Option MbtError
  ids = id_collides s.layout s.algorithm s.contents (bytes_put (put_of mode s.tiles batch))

  -- what is known of a batch that passes all tests
  pub coords_pass : may_insert mode batch s ≡ None → coords ≡ None
  coords_pass h = pass_first coords (twice ∷ ids ∷ []) (pass_rest edit (coords ∷ twice ∷ ids ∷ []) h)

  pub put_passes : may_insert mode batch s ≡ None → may_put s (put_of mode s.tiles batch) ≡ None
  put_passes h =
      both_pass s (put_of mode s.tiles batch) s.layout refl (pass_first edit (coords ∷ twice ∷ ids ∷ []) h)
      (pass_first ids [] (pass_rest twice (ids ∷ []) (pass_rest coords (twice ∷ ids ∷ []) (pass_rest edit (coords ∷ twice ∷ ids ∷ []) h))))

-- a set that was loaded, with nothing edited, is its state
pub fresh_is : (h : Held) → h.edited ≡ nothing_edited → h ≡ fresh h.state
fresh_is h clean = ap (λ (e : Edited). record { state = h.state; edited = e }) clean

-- the tables after the commit of a set that was loaded, with a batch
pub is_inserted : (mode : CopyDuplicateMode) (batch : List NewTile) (old new : Tables) (h next : Held) → h.edited ≡ nothing_edited → state_of old ≡ Ok h.state → IsLoadedFrom old h → NamesAlgorithm h.state → may_insert mode batch h.state ≡ None → next ≡ tiles_put h (put_of mode h.state.tiles batch) → IsSound new → MakesChanges next old new → IsInserted mode batch old new
is_inserted mode batch old new h next clean loaded from named may value sound made = record {
  base = h.state;
  loaded = loaded;
  tested = may;
  again = rows.again;
  rows = rows;
  commits = subst (λ (x : Held). MakesChanges x old new) (value ∙ ap (λ (k : Held). tiles_put k (put_of mode h.state.tiles batch)) (fresh_is h clean)) made;
}
  where
    rows : ArePut (put_of mode h.state.tiles batch) h.state old new
    rows =
        are_put h (put_of mode h.state.tiles batch) old new clean from named (put_on_board mode h.state.tiles batch (all_coords batch (coords_pass mode batch h.state may)))
        (put_passes mode batch h.state may) sound (subst (λ (x : Held). MakesChanges x old new) value made)
