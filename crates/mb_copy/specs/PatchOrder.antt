-- The tests of a copy with a patch, in their order, and the answer that is due.
use Rattle.std.specs.Prelude.{ℕ, Bool, true, cond, not, is_some, List, [], ◌∷◌, Option, Some, None, Result}
use Rattle.mb_copy.specs.Common.{after_hash, agg_hash, AggHashMismatchAfterApply, aggregate, base_refused, before_hash, bytes_eq, bytes_put, can_be_patched, first_refusal, id_collides, MbtError}
use Rattle.mb_copy.specs.Common.{NonEmptyTargetFile, patch_refused, refused_by, State, state_of, Tables, then, unless, unless_forced, UnsupportedCopyOperation, UnsupportedPatchType}
use Rattle.mb_copy.specs.Copied.{copied, stores_aggregate}
use Rattle.mb_copy.specs.Chosen.{tiles_to_put}
use Rattle.mb_copy.specs.CopyOrder.{invalid, made_state}
use Rattle.mb_copy.specs.PatchedSource.{source_patched}
use Rattle.mb_copy.specs.Target.{wanted_type}
use Rattle.mb_copy.specs.declared.copier.MbtilesCopier.{MbtilesCopier}

-- the refusal of each test of a patch that loads, in the order of the tests
abbrev pub patch_refusals : MbtilesCopier → State → List (Option MbtError)
patch_refusals c patch =
    invalid c.validate patch
    ∷ unless (not (is_some patch.patch_type)) UnsupportedPatchType
    ∷ unless_forced c.force (patch_refused (is_some (before_hash patch.metadata)) (is_some (after_hash patch.metadata)))
    ∷ []

abbrev pub may_be_patch : MbtilesCopier → State → Option MbtError
may_be_patch c patch = first_refusal (patch_refusals c patch)

-- of a source that loads
abbrev pub source_refusals : MbtilesCopier → State → List (Option MbtError)
source_refusals c source =
    invalid c.validate source
    ∷ unless_forced c.force (base_refused (is_some (agg_hash source.metadata)) (is_some (before_hash source.metadata)) (is_some (after_hash source.metadata)))
    ∷ unless (can_be_patched (wanted_type c source.layout)) UnsupportedCopyOperation
    ∷ []

abbrev pub may_be_patched : MbtilesCopier → State → Option MbtError
may_be_patched c source = first_refusal (source_refusals c source)

-- another hash of all tiles was computed than the one that is expected, if one is
abbrev pub other_hash : Option (List ℕ) → List ℕ → Option MbtError
other_hash None computed = None
other_hash (Some after) computed = unless (bytes_eq after computed) (AggHashMismatchAfterApply after computed)

-- the same of a set into which a source was copied, where that hash is computed
abbrev pub hash_off : MbtilesCopier → Option (List ℕ) → State → Option MbtError
hash_off c after s = cond (stores_aggregate c) (other_hash after (aggregate s.algorithm s.tiles)) None

-- of what is put into a set that is made, of which a hash is expected
abbrev pub anew_refusals : MbtilesCopier → Option (List ℕ) → State → List (Option MbtError)
anew_refusals c after source =
    id_collides (made_state c source).layout (made_state c source).algorithm (made_state c source).contents (bytes_put (tiles_to_put c source.tiles (made_state c source)))
    ∷ hash_off c after (copied c true source (made_state c source))
    ∷ []

abbrev pub may_copy_anew : MbtilesCopier → Option (List ℕ) → State → Option MbtError
may_copy_anew c after source = first_refusal (anew_refusals c after source)

-- the hash that a patch says a set has after it, unless the patch is forced
abbrev pub expected_hash : MbtilesCopier → State → Option (List ℕ)
expected_hash c patch = cond c.force None (after_hash patch.metadata)

-- of a destination that describes something, or doesn't, and of what is put into it
abbrev pub target_refusals : MbtilesCopier → Bool → State → State → List (Option MbtError)
target_refusals c described source patch = unless (not described) NonEmptyTargetFile ∷ anew_refusals c (expected_hash c patch) (source_patched source patch)

abbrev pub may_copy_patched : MbtilesCopier → Bool → State → State → Option MbtError
may_copy_patched c described source patch = first_refusal (target_refusals c described source patch)

-- the answer that is due of a copy of a source that loads
abbrev pub source_answer : MbtilesCopier → Bool → State → State → Result (Unit {0}) MbtError
source_answer c described patch source = then (refused_by (may_be_patched c source)) (λ _. refused_by (may_copy_patched c described source patch))

-- and with a patch that loads
abbrev pub patch_answer : MbtilesCopier → Bool → Tables → State → Result (Unit {0}) MbtError
patch_answer c described source patch = then (refused_by (may_be_patch c patch)) (λ _. then (state_of source) (source_answer c described patch))
