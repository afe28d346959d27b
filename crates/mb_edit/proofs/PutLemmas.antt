-- A set after tiles were put into it: its state, and that it was loaded from the tables of its base.
use Rattle.mb_edit.proofs.Common.{ap, bytes_put, collides, contains_key, dates_for, digest, entries, false≢true, get-entries, Held, id_collides, id_for, is_editable, is_normalized, is_some}
use Rattle.mb_edit.proofs.Common.{IsLoadedFrom, IsOnBoard, may_put, MbtType, NamesAlgorithm, None, Normalized, option_or, Place, Some, State, state_put, subst, sym, Tables, tiles_put, TileSet, true}
use Rattle.mb_edit.proofs.Common.{unless, UnsupportedCopyOperation, [], ◌∙◌, ◌∷◌, ◌≡◌}
use Rattle.std.proofs.Common.{find}
use Rattle.mb_edit.proofs.LoadedLemmas.{AreApart, tiles_loaded}
use Rattle.mb_edit.proofs.PassedLemmas.{holds, none_collide, pass_first, pass_rest}
use Rattle.mb_edit.proofs.StateLemmas.{contents_same, steps_patched, tiles_state, with_tiles}

pub put_state : (h : Held) (tiles : TileSet) → (tiles_put h tiles).state ≡ state_put h.state tiles
put_state h tiles = tiles_state h (entries tiles) ∙ same
  where
    same : with_tiles h.state (entries tiles) ≡ state_put h.state tiles
    same = λ i. record h.state {
      tiles = steps_patched (λ bytes. Some (Some bytes)) h.state.tiles tiles i;
      ids = steps_patched (id_for h.state.layout h.state.algorithm) h.state.ids tiles i;
      contents = contents_same h.state.layout h.state.algorithm h.state.contents (entries tiles) i;
      dates = steps_patched (λ bytes. dates_for h.state.layout) h.state.dates tiles i;
    }

pub put_layout : (h : Held) (tiles : TileSet) → (tiles_put h tiles).state.layout ≡ h.state.layout
put_layout h tiles = ap (λ (s : State). s.layout) (put_state h tiles)

-- its metadata and its algorithm stay
pub put_named : (h : Held) (tiles : TileSet) → NamesAlgorithm h.state → NamesAlgorithm (tiles_put h tiles).state
put_named h tiles n = subst NamesAlgorithm (sym (put_state h tiles)) (record { known = n.known; named = n.named })

-- what is known where no test refuses
pub put_editable : (s : State) (tiles : TileSet) → may_put s tiles ≡ None → is_editable s.layout ≡ true
put_editable s tiles may = holds (is_editable s.layout) UnsupportedCopyOperation (pass_first (unless (is_editable s.layout) UnsupportedCopyOperation) (id_collides s.layout s.algorithm s.contents (bytes_put tiles) ∷ []) may)

put_apart : (s : State) (tiles : TileSet) → may_put s tiles ≡ None → AreApart s (bytes_put tiles)
put_apart s tiles may = record { none = λ n. by s.layout n none }
  where
    none : id_collides s.layout s.algorithm s.contents (bytes_put tiles) ≡ None
    none = pass_first (id_collides s.layout s.algorithm s.contents (bytes_put tiles)) [] (pass_rest (unless (is_editable s.layout) UnsupportedCopyOperation) (id_collides s.layout s.algorithm s.contents (bytes_put tiles) ∷ []) may)

    by : (layout : MbtType) → is_normalized layout ≡ true → id_collides layout s.algorithm s.contents (bytes_put tiles) ≡ None → find (collides (digest s.algorithm) s.contents (bytes_put tiles)) (bytes_put tiles) ≡ None
    by (Normalized view schema) n k = none_collide s (record s { tiles = tiles }) view schema k
    by _ n k = absurd (false≢true n)

pub put_loaded : (t : Tables) (h : Held) (tiles : TileSet) → may_put h.state tiles ≡ None → ((p : Place) → contains_key tiles p ≡ true → IsOnBoard p) → IsLoadedFrom t h → IsLoadedFrom t (tiles_put h tiles)
put_loaded t h tiles may on l =
    tiles_loaded t h (entries tiles) (record { within = λ p f. on p (ap is_some (get-entries tiles p) ∙ f) }) (put_editable h.state tiles may) (put_apart h.state tiles may) l

-- both tests pass
pub both_pass : (s : State) (tiles : TileSet) (layout : MbtType) → layout ≡ s.layout → unless (is_editable layout) UnsupportedCopyOperation ≡ None → id_collides s.layout s.algorithm s.contents (bytes_put tiles) ≡ None → may_put s tiles ≡ None
both_pass s tiles layout same a b =
    ap (λ o. option_or o (option_or (id_collides s.layout s.algorithm s.contents (bytes_put tiles)) None)) (ap (λ l. unless (is_editable l) UnsupportedCopyOperation) (sym same) ∙ a)
    ∙ ap (λ o. option_or o None) b
