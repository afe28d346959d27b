-- The archive of a set into which another one was imported.
use Rattle.set_import.proofs.Common.{address, ap, archive_map, archive_tile, arith, Bool, cond, contains_key, empty, Err, false, filled, FinMap, get, get-empty, get-patched, HasTilesOf, if◌then◌else◌}
use Rattle.set_import.proofs.Common.{is_solid, is_some, List, nat_cmp, nat_cmp-IsAntisymmetric, nat_le, None, Ok, Option, option_map, patched, patched_at, Place, place_cmp, PmtError, refl, Result}
use Rattle.set_import.proofs.Common.{same_map, solid, Some, State, state_put, subst, sym, TileSet, true, ℕ, [], ◌<◌, ◌∙◌, ◌∷◌, ◌≡◌, ◌≤◌}
use Rattle.std.proofs.lemmas.Option.{none-some}
use Rattle.std.specs.Cmp.{nat_cmp_total}
use Rattle.tile_ids.specs.Hilbert.{pyramid}
use Rattle.tile_ids.specs.declared.id.TheConstants.{MAX_TILE_ID}
use Rattle.pm_format.specs.Options.{Options}
use Rattle.pm_writer.specs.Archive.{canon}
use Rattle.mb_tables.proofs.TileLemmas.{get-solid}
use Rattle.tile_bridge.specs.Convert.{HoldsExactly, IsArchiveOf}
use Rattle.tile_import.proofs.PlacingLemmas.{At, place_address, place_on_board}
use Rattle.tile_import.specs.Putting.{place_of_id}

-- tiles that are put into a set without any
put_alone : (tiles : TileSet) (p : Place) → get (patched empty tiles) p ≡ patched_at (λ bytes. Some (Some bytes)) (get tiles p) None
put_alone tiles p = get-patched empty tiles p ∙ ap (patched_at (λ bytes. Some (Some bytes)) (get tiles p)) (get-empty place_cmp p)

alone_is : (o : At) (x : List ℕ) → patched_at (λ bytes. Some (Some bytes)) o None ≡ Some (Some x) → o ≡ Some (Some x)
alone_is (Some (Some bytes)) x is = is
alone_is (Some None) x is = absurd (none-some (Some x) is)
alone_is None x is = absurd (none-some (Some x) is)

solid_is : (o : At) (x : List ℕ) → cond (is_solid o) o None ≡ Some (Some x) → o ≡ Some (Some x)
solid_is (Some (Some (byte ∷ bytes))) x is = is
solid_is (Some (Some [])) x is = absurd (none-some (Some x) is)
solid_is (Some None) x is = absurd (none-some (Some x) is)
solid_is None x is = absurd (none-some (Some x) is)

-- the tiles of an archive have bytes
filled_some : (r : Result (Option (List ℕ)) PmtError) (x : List ℕ) → filled r ≡ Some x → is_solid (Some (Some x)) ≡ true
filled_some (Err e) x is = absurd (none-some x is)
filled_some (Ok None) x is = absurd (none-some x is)
filled_some (Ok (Some [])) x is = absurd (none-some x is)
filled_some (Ok (Some (byte ∷ bytes))) x is = ap (λ (o : Option (List ℕ)). is_solid (Some o)) (sym is)

map_some : (b : List ℕ) (t : ℕ) (x : List ℕ) → archive_map b t ≡ Some x → is_solid (Some (Some x)) ≡ true
map_some b t x is = by_test (nat_le t MAX_TILE_ID) is
  where
    by_test : (c : Bool) → (if c then filled (archive_tile b t) else None) ≡ Some x → is_solid (Some (Some x)) ≡ true
    by_test true is = filled_some (archive_tile b t) x is
    by_test false is = absurd (none-some x is)

some_map : (o : Option (List ℕ)) (x : List ℕ) → option_map (λ bytes. Some bytes) o ≡ Some (Some x) → o ≡ Some x
some_map None x is = absurd (none-some (Some x) is)
some_map (Some y) x is = cc

is_key : (tiles : TileSet) (p : Place) (v : Option (List ℕ)) → get tiles p ≡ Some v → contains_key tiles p ≡ true
is_key tiles p v is = ap is_some is

module _ (b c : List ℕ) (tiles : TileSet) (has : HasTilesOf b tiles) (exact : HoldsExactly c (patched empty tiles)) where
  -- a tile of the second is one of the first
  back : (t : ℕ) (x : List ℕ) → archive_map c t ≡ Some x → archive_map b t ≡ Some x
  back t x is =
      let q = exact.only t x is in
      let at : get tiles q.0 ≡ Some (Some x) = alone_is (get tiles q.0) x (sym (put_alone tiles q.0) ∙ solid_is (get (patched empty tiles) q.0) x (sym (get-solid (patched empty tiles) q.0) ∙ q.1)) in
      let own = has.at q.0 (has.within q.0 (is_key tiles q.0 (Some x) at)) in
      sym (ap (archive_map b) q.2) ∙ some_map (archive_map b (address q.0)) x (sym own ∙ at)

  -- and the other way round
  forth : (t : ℕ) (x : List ℕ) → archive_map b t ≡ Some x → archive_map c t ≡ Some x
  forth t x is =
      let less : t < pyramid 31 = has.shallow t x is in
      let id : address (place_of_id t) ≡ t = place_address t (below_max t less) in
      let at : get tiles (place_of_id t) ≡ Some (Some x) = has.at (place_of_id t) (place_on_board t less) ∙ ap (option_map (λ bytes. Some bytes)) (ap (archive_map b) id ∙ is) in
      let put : get (patched empty tiles) (place_of_id t) ≡ Some (Some x) = put_alone tiles (place_of_id t) ∙ ap (λ o. patched_at (λ bytes. Some (Some bytes)) o None) at in
      let full : get (solid (patched empty tiles)) (place_of_id t) ≡ Some (Some x) = get-solid (patched empty tiles) (place_of_id t) ∙ (ap (λ o. cond (is_solid o) o None) put ∙ ap (λ d. cond d (Some (Some x)) None) (map_some b t x is)) in
      sym (ap (archive_map c) id) ∙ exact.each (place_of_id t) x full
    where
      below_max : (t : ℕ) → t < pyramid 31 → t ≤ MAX_TILE_ID
      below_max t less = let size : pyramid 31 ≡ 1537228672809129301 = refl in omega (arith, less, size)

  pub same_tiles : (t : ℕ) → archive_map c t ≡ archive_map b t
  same_tiles t = by (archive_map c t) (archive_map b t) refl refl
    where
      by : (o p : Option (List ℕ)) → archive_map c t ≡ o → archive_map b t ≡ p → o ≡ p
      by None None e f = refl
      by (Some x) p e f = sym (back t x e) ∙ f
      by None (Some y) e f = absurd (none-some y (sym e ∙ forth t y f))

pub exported : (b c : List ℕ) (s : State) (tiles : TileSet) → s.tiles ≡ empty → HasTilesOf b tiles → HoldsExactly c (state_put s tiles).tiles → (t : ℕ) → archive_map c t ≡ archive_map b t
exported b c s tiles none has exact = same_tiles b c tiles has (subst (λ (m : TileSet). HoldsExactly c (patched m tiles)) none exact)

pub canonical : (b c : List ℕ) (s : State) (tiles : TileSet) (o : Options) (by_id : FinMap nat_cmp (List ℕ)) → s.tiles ≡ empty → HasTilesOf b tiles → IsArchiveOf c o (state_put s tiles).tiles → ((id : ℕ) → get by_id id ≡ archive_map b id) → c ≡ canon o by_id
canonical b c s tiles o by_id none has is map =
    is.one ∙ ap (canon o) (same_map nat_cmp_total nat_cmp-IsAntisymmetric is.by_id by_id (λ id. is.has id ∙ (exported b c s tiles none has is.holds id ∙ sym (map id))))
