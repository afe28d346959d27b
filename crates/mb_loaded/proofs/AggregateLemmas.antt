-- The texts of tiles, one after another.
use Rattle.mb_loaded.proofs.Common.{aggregate, ap, append-nil, append_assoc, arith, blob_cell, Cell, Coord, digest, entries, flat_map, get_or_from_slice_get, hash_of, HashAlgorithm, HasTaken, IfOk}
use Rattle.mb_loaded.proofs.Common.{IfSome, in_hexadecimal, len, len-entries, length, List, nil_from_length, None, none-some, Option, Place, place_at, refl, Result, slice_get, slice_get-get_or}
use Rattle.mb_loaded.proofs.Common.{slice_get_within, Some, sym, take, take_all, take_more, tile_text, TileSet, ℕ, [], ◌++◌, ◌+◌, ◌<◌, ◌∙◌, ◌∷◌, ◌≡◌, ◌≤◌}
use Rattle.std.proofs.lemmas.Grind.{flat_map-append}
use Rattle.tile_hash.specs.declared.hash_stream.HashStream.{HashStream}

abbrev pub Tiles : Type 0
Tiles = List (Place × Option (List ℕ))

pub four_parts : (m z x y b : List ℕ) → m ++ (z ++ (x ++ (y ++ b))) ≡ (((m ++ z) ++ x) ++ y) ++ b
four_parts m z x y b = sym (simp append_assoc)

one_more : (es : Tiles) (i : ℕ) (e : Place × Option (List ℕ)) → slice_get es i ≡ Some e → flat_map tile_text (take (i + 1) es) ≡ flat_map tile_text (take i es) ++ tile_text e
one_more es i e at =
    let within : i < length es = slice_get_within es i e at in
    let here = get_or_from_slice_get es i e e at in
    ap (flat_map tile_text) (take_more es i e within) ∙ flat_map-append tile_text (take i es) _ ∙ ap (λ t. flat_map tile_text (take i es) ++ t) (append-nil _ ∙ ap tile_text here)

-- the tile at an index, hashed behind those before it
pub tile_hashed : (a : HashAlgorithm) (old new : HashStream) (es : Tiles) (i : ℕ) (coord : Coord) (cell : Cell) → i < length es
    → IfSome (slice_get es i) (λ e. (e.0 ≡ place_at coord) × (blob_cell e.1 ≡ cell))
    → ((a : HashAlgorithm) (m : List ℕ) (contents : Option (List ℕ)) → blob_cell contents ≡ cell → HasTaken a old m → HasTaken a new (m ++ tile_text (place_at coord, contents)))
    → HasTaken a old (flat_map tile_text (take i es)) → HasTaken a new (flat_map tile_text (take (i + 1) es))
tile_hashed a old new es i coord cell within is hashed before = by (slice_get es i) refl is
  where
    by : (o : Option (Place × Option (List ℕ))) → slice_get es i ≡ o → IfSome o (λ e. (e.0 ≡ place_at coord) × (blob_cell e.1 ≡ cell)) → HasTaken a new (flat_map tile_text (take (i + 1) es))
    by None at h = absurd (none-some _ (sym at ∙ slice_get-get_or es i (record { zoom = 0; column = 0; row = 0 }, None) within))
    by (Some e) at h =
        let text : tile_text (place_at coord, e.1) ≡ tile_text e = ap (λ p. tile_text (p, e.1)) (sym h.0) in
        rw (one_more es i e at, ← text) (hashed a _ e.1 h.1 before)

-- none, and all of them
pub none_hashed : {E : Type 0} (r : Result (List ℕ) E) (a : HashAlgorithm) (tiles : TileSet) → len tiles ≡ 0 → IfOk r (λ t. t ≡ digest a []) → IfOk r (λ t. t ≡ aggregate a tiles)
unfolding aggregate
none_hashed r a tiles none given = rw (nil_from_length (entries tiles) (sym (len-entries tiles) ∙ none)) given

pub all_hashed : {E : Type 0} (r : Result (List ℕ) E) (a : HashAlgorithm) (tiles : TileSet) (n : ℕ) → (len tiles ≡ 0 → ⊥) → len tiles ≤ n
    → IfOk r (λ t. t ≡ digest (in_hexadecimal a) (flat_map tile_text (take n (entries tiles)))) → IfOk r (λ t. t ≡ aggregate a tiles)
unfolding aggregate
all_hashed r a tiles n some all given = by (entries tiles) (λ none. some (len-entries tiles ∙ none)) (rw (take_all n (entries tiles) (omega (arith, len-entries tiles))) at given)
  where
    by : (es : Tiles) → (length es ≡ 0 → ⊥) → IfOk r (λ t. t ≡ digest (in_hexadecimal a) (flat_map tile_text es)) → IfOk r (λ t. t ≡ hash_of a es)
    by [] some given = absurd (some refl)
    by (e ∷ es) some given = given
