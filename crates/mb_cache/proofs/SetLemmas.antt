-- The tables of a cache load, and load again where rows of tiles alone were changed.
use Rattle.mb_cache.proofs.Common.{Agrees, algorithm_of, algorithm_unknown, All, All-nil, ap, ArePassing, bad_tile, begin_answer, begun_with, Bool, both_none, Cache, Cell, cell_at, cond, created}
use Rattle.mb_cache.proofs.Common.{Entry, Err, false, first_refusal, get_or, has_name_kinds, held_in, index_missing, InvalidTileIndex, is_bare, is_cache_layout, is_keyed, is_table, IsCacheRow}
use Rattle.mb_cache.proofs.Common.{IsCacheSet, IsSound, layout_of, List, may_begin, MbtError, Metadata, metadata_missing, never_twice, None, NotACacheFile, Ok, Opens, Option, option_or, pass_all}
use Rattle.mb_cache.proofs.Common.{passing, refl, row_refusals, set_tables, state_of, stated, subst, sym, TableDesc, Tables, then, TileCache, true, unless, unless_refused, wrong_content_hash, []}
use Rattle.mb_cache.proofs.Common.{◌||◌, ◌∙◌, ◌∷◌, ◌≡◌}
use Rattle.mb_lists.specs.Contents.{are_apart, fronts}

module _ (t u : Tables) (set : IsCacheSet t) (described : u.descriptions ≡ t.descriptions) (named : u.rows Metadata ≡ t.rows Metadata) (sound : IsSound u) (keyed : is_keyed u.descriptions TileCache ≡ true) (good : All IsCacheRow (u.rows TileCache)) where
  refused : (option_or (metadata_missing t.descriptions) (option_or (index_missing t.descriptions Cache) (first_refusal (row_refusals Cache (t.rows Metadata) [] (t.rows TileCache)))) ≡ None)
  refused = set.passes

  old : ArePassing Cache (t.rows Metadata) [] (t.rows TileCache)
  old = passing Cache (t.rows Metadata) [] (t.rows TileCache) (both_none (index_missing t.descriptions Cache) _ (both_none (metadata_missing t.descriptions) _ refused).1).1

  place_passes : (row : List Cell) → IsCacheRow row → bad_tile Cache [] row ≡ None
  place_passes row fine = ap (λ b. unless b (InvalidTileIndex (cell_at 0 row) (cell_at 1 row) (cell_at 2 row))) fine.place

  new : ArePassing Cache (u.rows Metadata) [] (u.rows TileCache)
  new = record {
    ids = old.ids;
    tile_kinds = λ k d far. (good k d far).kinds;
    content_kinds = old.content_kinds;
    name_kinds = subst (λ rows. All (λ row. has_name_kinds row ≡ true) rows) (sym named) old.name_kinds;
    names = ap (λ rows. are_apart (fronts rows)) named ∙ old.names;
    known = ap algorithm_unknown named ∙ old.known;
    places = λ k d far. place_passes (get_or (u.rows TileCache) k d) (good k d far);
    references = λ k d far. refl;
    tile_hashes = λ k d far. refl;
    content_hashes = All-nil (λ row. wrong_content_hash Cache (algorithm_of (u.rows Metadata)) row ≡ None);
    apart = never_twice u Cache [] sound keyed;
  }

  pub set_after : IsCacheSet u
  set_after =
      let metadata : metadata_missing u.descriptions ≡ None = ap metadata_missing described ∙ (both_none (metadata_missing t.descriptions) _ refused).0 in
      let index : index_missing u.descriptions Cache ≡ None = ap (λ (ds : List TableDesc). index_missing ds Cache) described ∙ (both_none (index_missing t.descriptions Cache) _ (both_none (metadata_missing t.descriptions) _ refused).1).0 in
      let rest : Option MbtError = first_refusal (row_refusals Cache (u.rows Metadata) [] (u.rows TileCache)) in
      record {
        layout = ap layout_of described ∙ set.layout;
        passes = ap (λ o. option_or o (option_or (index_missing u.descriptions Cache) rest)) metadata ∙ (ap (λ o. option_or o rest) index ∙ pass_all Cache (u.rows Metadata) [] (u.rows TileCache) new);
      }

-- a cache that agrees with its tables can be opened again
pub opens : (t : Tables) (es : List Entry) → Agrees t es → Opens t
opens t es agrees = by t.descriptions refl
  where
    loaded : state_of t ≡ Ok (held_in Cache t)
    loaded = ap (λ o. stated o t) agrees.set.layout ∙ ap (unless_refused Cache t) agrees.set.passes

    by : (ds : List TableDesc) → t.descriptions ≡ ds → Opens t
    by [] e = absurd (none_there (sym (ap (λ (xs : List TableDesc). is_table xs TileCache) e) ∙ agrees.table))
      where
        none_there : is_table [] TileCache ≡ true → ⊥
        none_there h = cc
    by (d ∷ ds) e =
        let bare : is_bare t.descriptions ≡ false = ap is_bare e in
        let may : may_begin t.descriptions ≡ true = ap (λ b. b || is_cache_layout (layout_of t.descriptions)) bare ∙ ap is_cache_layout agrees.set.layout in
        let first : begin_answer t.descriptions ≡ Ok tt = ap (λ (b : Bool). cond b (Ok tt) (Err NotACacheFile)) may in
        let begun : begun_with t ≡ t = ap (λ (b : Bool). cond b (created t (set_tables Cache)) t) bare in
        ap (λ r. then r (λ _. then (state_of (begun_with t)) (λ _. Ok tt))) first ∙ (ap (λ (x : Tables). then (state_of x) (λ _. Ok tt)) begun ∙ ap (λ r. then r (λ _. Ok tt)) loaded)
