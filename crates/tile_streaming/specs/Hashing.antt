-- The hash of the tiles of marks, whose contents are read again.
use Rattle.std.specs.Prelude.{ℕ, codes, cond, ◌≡◌, ◌≢◌, ◌++◌, Bool, false, true, List, [], ◌∷◌, map, Option, Some, None, Result, Ok, Err, flat_map}
use Rattle.std.specs.Str.{bytes_eq}
use Rattle.mb_tables.specs.declared.error.MbtError.TheVariants.{AggHashMismatch, AggHashValueNotFound}
use Rattle.tile_bridge.specs.Outcome.{unverified}
use Rattle.tile_bridge.specs.declared.error.ConvertError.TheVariants.{OutOfMemory, Store, StoreFault}
use Rattle.tile_hash.specs.HashStream.{HasTaken}
use Rattle.tile_hash.specs.declared.hash_stream.HashStream.{HashStream}
use Rattle.tile_streaming.specs.Common.{aggregate, entries, HashAlgorithm, MbtError, Place, Rose, State, text_at, tile_text, TileSet}
use Rattle.tile_streaming.specs.Finding.{place_with}
use Rattle.tile_streaming.specs.Marks.{IsMarkedAs, mark_of, mark_with}
use Rattle.tile_streaming.specs.Stored.{HasBytes, Stored}
use Rattle.tile_streaming.specs.declared.error.StreamError.{StreamError}
use Rattle.tile_streaming.specs.declared.error.StreamError.TheVariants.{Convert, StoreChanged}
use Rattle.tile_streaming.specs.declared.mark.Mark.{Mark}
use Rattle.tile_streaming.specs.declared.mark.MarkedSet.{MarkedSet}

-- the tiles of marks and their contents, in the order of the marks
abbrev pub tiles_with : List Mark → List (List ℕ) → List (Place × Option (List ℕ))
tiles_with (m ∷ marks) (bytes ∷ contents) = (place_with m.id, Some bytes) ∷ tiles_with marks contents
tiles_with _ _ = []

-- What was read for a mark, however long: bytes that have this mark, and they are stored, where that is told; or none,
-- where the mark is of none.
pub record IsReadAgain (tells : Bool) (stored : Stored) (m : Mark) (bytes : List ℕ) : Type 0 where
  pub mark : bytes ≢ [] → mark_with m.id bytes ≡ m
  pub same : bytes ≢ [] → tells ≡ true → stored m.id ≡ Some bytes
  pub none : bytes ≡ [] → (m.length ≡ 0) × (m.is_long ≡ false)

-- what was read for each of the marks
abbrev pub AreReadAgain : Bool → Stored → List Mark → List (List ℕ) → Type 0
AreReadAgain tells stored [] [] = Unit {0}
AreReadAgain tells stored (m ∷ marks) (bytes ∷ contents) = IsReadAgain tells stored m bytes × AreReadAgain tells stored marks contents
AreReadAgain tells stored _ _ = ⊥

-- The contents of a mark were read and hashed behind these bytes.
pub record IsHashed (tells : Bool) (stored : Stored) (a : HashAlgorithm) (before : List ℕ) (m : Mark) (s : HashStream) : Type 0 where
  pub bytes : List ℕ
  pub read : IsReadAgain tells stored m bytes
  pub taken : HasTaken a s (before ++ tile_text (place_with m.id, Some bytes))

-- The contents of marks were read and hashed, in their order.
pub record AreHashed (tells : Bool) (stored : Stored) (a : HashAlgorithm) (marks : List Mark) (s : HashStream) : Type 0 where
  pub contents : List (List ℕ)
  pub read : AreReadAgain tells stored marks contents
  pub taken : HasTaken a s (flat_map tile_text (tiles_with marks contents))

-- a tile without its contents: its place and its mark
abbrev pub outline : Place × Option (List ℕ) → Place × Mark
outline e = (e.0, mark_of e)

-- tiles at the same places, of the same marks
abbrev pub AreAlike : TileSet → TileSet → Type 0
AreAlike a b = map outline (entries a) ≡ map outline (entries b)

-- The hash of the tiles of a state, where they are told; else of tiles that are like them.
pub record HasHash (tells : Bool) (s : State) (hash : List ℕ) : Type 0 where
  pub tiles : TileSet
  pub alike : AreAlike tiles s.tiles
  pub is : hash ≡ aggregate s.algorithm tiles
  pub told : tells ≡ true → hash ≡ aggregate s.algorithm s.tiles

-- the hash of a marked set: that of each state of which it is held, whose bytes are those that are stored, where these
-- are told
abbrev pub IsHashOf : Bool → Stored → MarkedSet → List ℕ → Type 0
IsHashOf tells stored m hash = (s : State) → IsMarkedAs s m → (tells ≡ true → HasBytes stored s.tiles) → HasHash tells s hash

-- the stored hash of a marked set
abbrev pub stored_hash : MarkedSet → Option (List ℕ)
stored_hash m = text_at m.names (codes "agg_tiles_hash")

-- the stored hash is missing, or another than the one that was computed
abbrev pub IsHashRefusal : Bool → Stored → MarkedSet → MbtError → Type 0
IsHashRefusal tells stored m AggHashValueNotFound = stored_hash m ≡ None
IsHashRefusal tells stored m (AggHashMismatch computed named) = (stored_hash m ≡ Some named) × (bytes_eq named computed ≡ false) × IsHashOf tells stored m computed
IsHashRefusal tells stored m _ = ⊥

-- Why there is no hash: a fault of the store, only where its count rose, lack of memory, a store that changed and tells
-- nothing, or where the hash is to be verified, its refusal.
abbrev pub HashCauses : {A : Type 0} → Bool → Bool → Stored → MarkedSet → ℕ → ℕ → Result A StreamError → Type 0
HashCauses verify tells stored m store store_now (Ok _) = Unit {0}
HashCauses verify tells stored m store store_now (Err StoreChanged) = tells ≡ false
HashCauses verify tells stored m store store_now (Err (Convert (StoreFault place))) = (place ≡ 0) × Rose store store_now
HashCauses verify tells stored m store store_now (Err (Convert OutOfMemory)) = Unit {0}
HashCauses verify tells stored m store store_now (Err (Convert (Store place e))) = (verify ≡ true) × (place ≡ 0) × IsHashRefusal tells stored m e
HashCauses verify tells stored m store store_now (Err (Convert _)) = ⊥

-- the hash of the state whose bytes are stored, where these are told and it is to be verified, is the one that is
-- stored with it
abbrev pub IsRight : Bool → Bool → Stored → MarkedSet → Type 0
IsRight verify tells stored m = tells ≡ true → (s : State) → IsMarkedAs s m → HasBytes stored s.tiles → cond verify (unverified s) None ≡ None
