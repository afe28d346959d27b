-- The tests that a patch of a loaded set must pass, in their order.
use Rattle.std.specs.Prelude.{◌==◌, ℕ, Bool, true, false, not, List, [], ◌∷◌, Option, Some, None, filter_map, is_some}
use Rattle.mb_edit.specs.Common.{after_hash, agg_hash, AggHashMismatchWithDiff, base_refused, before_hash, bytes_eq, Cache, Contents, DedupId, digest, entries, first_refusal, HashAlgorithm, MbtError}
use Rattle.mb_edit.specs.Common.{MbtType, name_of, Normalized, patch_refused, State, TileSet, unless, unless_forced, UnsupportedCopyOperation, UnsupportedHashAlgorithm, UnsupportedPatchType}
use Rattle.mb_edit.specs.Collision.{collision}
use Rattle.mb_loaded.specs.HeldCode.{algorithm_number}

-- whether a set of the layout can be patched
abbrev pub can_be_patched : MbtType → Bool
can_be_patched (Normalized view DedupId) = false
can_be_patched Cache = false
can_be_patched _ = true

-- a patch and its set: both have the digest of the set before the patch, and they differ
abbrev pub wrong_base : Option (List ℕ) → Option (List ℕ) → Option MbtError
wrong_base (Some before) (Some agg) = unless (bytes_eq before agg) (AggHashMismatchWithDiff before agg)
wrong_base _ _ = None

-- they have two algorithms: the name of the patch's
abbrev pub wrong_algorithm : HashAlgorithm → HashAlgorithm → Option MbtError
wrong_algorithm base patch = unless (algorithm_number base == algorithm_number patch) (UnsupportedHashAlgorithm (name_of patch))

-- the bytes that a patch puts, in the order of their places
abbrev pub bytes_put : TileSet → List (List ℕ)
bytes_put tiles = filter_map (λ e. e.1) (entries tiles)

-- contents that are put into a normalised set collide
abbrev pub id_collides : MbtType → HashAlgorithm → Contents → List (List ℕ) → Option MbtError
id_collides (Normalized view schema) a contents put = collision (digest a) contents put
id_collides _ a contents put = None

-- the refusal of each test, in the order of the tests
abbrev pub patch_refusals : Bool → State → State → List (Option MbtError)
patch_refusals force base patch =
    unless (not (is_some patch.patch_type)) UnsupportedPatchType
    ∷ unless_forced force (patch_refused (is_some (before_hash patch.metadata)) (is_some (after_hash patch.metadata)))
    ∷ unless (can_be_patched base.layout) UnsupportedCopyOperation
    ∷ unless_forced force (base_refused (is_some (agg_hash base.metadata)) (is_some (before_hash base.metadata)) (is_some (after_hash base.metadata)))
    ∷ unless_forced force (wrong_base (before_hash patch.metadata) (agg_hash base.metadata))
    ∷ wrong_algorithm base.algorithm patch.algorithm
    ∷ id_collides base.layout base.algorithm base.contents (bytes_put patch.tiles)
    ∷ []

-- the first refusal of a patch of a set, if there is one
abbrev pub may_patch : Bool → State → State → Option MbtError
may_patch force base patch = first_refusal (patch_refusals force base patch)
