-- A state that serves, from one call to the next.
use Rattle.tile_serve.proofs.Common.{ap, AreTiles, Bounded, Err, IfSome, IsErrAnd, IsServing, IsWithin, length, List, None, Ok, opened_as, Option, refl, Result, ServerState, Serves, Some, subst, sym}
use Rattle.tile_serve.proofs.Common.{tiles_of, UsesOneLength, ℕ, ◌∙◌, ◌≡◌}
use Rattle.pm_reader.specs.Caches.{CacheLimits}
use Rattle.pm_reader.specs.MapCaches.{IsLimited, held_by_use, uses_of}
use Rattle.pm_reader.specs.ReadsFrom.{ReadsFrom}
use Rattle.pm_reader.specs.declared.cache.recent.LruDirCache.{LruDirCache}
use Rattle.pm_reader.specs.declared.state.ReaderState.{ReaderState}

-- what is held under told bytes
pub tiles_told : (told : Option (List ℕ)) (versions : Option (ℕ → Option (List ℕ))) (s : ServerState) → IsServing told versions s → IfSome told (λ b. UsesOneLength b → AreTiles b (tiles_of s).pairs)
tiles_told None versions s is = tt
tiles_told (Some b) versions s is = is.archive.tiles

pub reads_told : (told : Option (List ℕ)) (versions : Option (ℕ → Option (List ℕ))) (s : ServerState) → IsServing told versions s → IfSome told (λ b. ReadsFrom b s.reader (held_by_use s.directories) ⊥)
reads_told None versions s is = tt
reads_told (Some b) versions s is = is.archive.reads

archive_on : (told again : Option (List ℕ)) (s : ServerState) → again ≡ told → IfSome again (λ b. ReadsFrom b s.reader (held_by_use s.directories) ⊥) → IfSome told (λ b. UsesOneLength b → AreTiles b (tiles_of s).pairs)
    → IfSome again (λ b. Serves b s)
archive_on None again s same reads tiles = let P : Option (List ℕ) → Type 0 = λ o. IfSome o (λ b. Serves b s) in subst P (sym same) tt
archive_on (Some b) again s same reads tiles =
    let P : Option (List ℕ) → Type 0 = λ o. IfSome o (λ b. Serves b s) in
    let Q : Option (List ℕ) → Type 0 = λ o. IfSome o (λ b. ReadsFrom b s.reader (held_by_use s.directories) ⊥) in
    subst P (sym same) (record { reads = subst Q same reads; tiles = tiles })

opened_on : (versions again : Option (ℕ → Option (List ℕ))) (old new : Option (List ℕ)) → again ≡ versions → new ≡ old → IfSome versions (λ text. (n : ℕ) × (old ≡ text n)) → IfSome again (λ text. (n : ℕ) × (new ≡ text n))
opened_on None again old new same is opened = let P : Option (ℕ → Option (List ℕ)) → Type 0 = λ o. IfSome o (λ text. (n : ℕ) × (new ≡ text n)) in subst P (sym same) tt
opened_on (Some text) again old new same is opened =
    let P : Option (ℕ → Option (List ℕ)) → Type 0 = λ o. IfSome o (λ text. (n : ℕ) × (new ≡ text n)) in
    subst P (sym same) (opened.0, is ∙ opened.1)

reads_same : (told : Option (List ℕ)) (r s : ReaderState) (c d : LruDirCache) → s ≡ r → d ≡ c → IfSome told (λ b. ReadsFrom b r (held_by_use c) ⊥) → IfSome told (λ b. ReadsFrom b s (held_by_use d) ⊥)
reads_same told r s c d reader directories reads =
    let P : ReaderState → Type 0 = λ x. IfSome told (λ b. ReadsFrom b x (held_by_use c) ⊥) in
    let Q : LruDirCache → Type 0 = λ x. IfSome told (λ b. ReadsFrom b s (held_by_use x) ⊥) in
    subst Q (sym directories) (subst P (sym reader) reads)

-- where the tiles alone change
pub serves_by : (told : Option (List ℕ)) (versions : Option (ℕ → Option (List ℕ))) (old new : ServerState) → new.reader ≡ old.reader → new.directories ≡ old.directories → IsWithin length (tiles_of new)
    → IfSome told (λ b. UsesOneLength b → AreTiles b (tiles_of new).pairs) → IsServing told versions old → IsServing told versions new
serves_by told versions old new reader directories within tiles is =
    record {
      archive = archive_on told told new refl (reads_same told old.reader new.reader old.directories new.directories reader directories (reads_told told versions old is)) tiles;
      opened = opened_on versions versions (opened_as old) (opened_as new) refl (ap (λ (r : ReaderState). r.version) reader) is.opened;
      within = within;
      directories = let P : LruDirCache → Type 0 = λ c. IsWithin length (uses_of c) in subst P (sym directories) is.directories;
    }

-- what a call leaves of the directories: their bounds, and that they are within them
pub limited : (old new : LruDirCache) → ((l : CacheLimits) → IsLimited old l → IsLimited new l) → IsWithin length (uses_of old)
    → ((uses_of new).capacity ≡ (uses_of old).capacity) × ((uses_of new).limit ≡ (uses_of old).limit) × IsWithin length (uses_of new)
limited old new keeps within = keeps (record { directories = (uses_of old).capacity; entries = (uses_of old).limit }) (refl, refl, within)

-- where the directories alone change
pub fetched : (told again : Option (List ℕ)) (versions others : Option (ℕ → Option (List ℕ))) (old new : ServerState) → again ≡ told → others ≡ versions → new.reader ≡ old.reader → new.tiles ≡ old.tiles
    → ((l : CacheLimits) → IsLimited old.directories l → IsLimited new.directories l) → IfSome again (λ b. ReadsFrom b new.reader (held_by_use new.directories) ⊥) → IsServing told versions old → IsServing again others new
fetched told again versions others old new same texts reader tiles limits reads is =
    let P : Bounded (List ℕ) → Type 0 = λ x. IfSome told (λ b. UsesOneLength b → AreTiles b x.pairs) in
    let Q : Bounded (List ℕ) → Type 0 = λ x. IsWithin length x in
    record {
      archive = archive_on told again new same reads (subst P (sym tiles) (tiles_told told versions old is));
      opened = opened_on versions others (opened_as old) (opened_as new) texts (ap (λ (r : ReaderState). r.version) reader) is.opened;
      within = subst Q (sym tiles) is.within;
      directories = (limited old.directories new.directories limits is.directories).2;
    }

-- the error that a call hands on
pub handed : {T E : Type 0} (r : Result T E) (e : E) → IsErrAnd r (λ x. x ≡ e) → r ≡ Err e
handed (Ok x) e h = absurd h
handed (Err y) e h = ap Err h

-- what holds of told bytes holds of what is told after a call
pub told_again : (P : List ℕ → Type 0) (told again : Option (List ℕ)) → again ≡ told → IfSome told P → IfSome again P
told_again P told again same q = let Q : Option (List ℕ) → Type 0 = λ o. IfSome o P in subst Q (sym same) q
