-- What is known of a patch that passes all tests.
use Rattle.mb_edit.proofs.Common.{after_hash, agg_hash, ap, base_refused, before_hash, Bool, bytes_put, can_be_patched, collides, DedupId, digest, false≢true, first_refusal, HashAlgorithm}
use Rattle.mb_edit.proofs.Common.{id_collides, IdCollision, is_editable, is_some, List, may_patch, MbtError, MbtType, name_of, None, Normalized, NormalizedSchema, not, Option, option_map}
use Rattle.mb_edit.proofs.Common.{patch_refused, refl, Some, State, sym, true, unless, unless_forced, UnsupportedCopyOperation, UnsupportedHashAlgorithm, UnsupportedPatchType, wrong_algorithm}
use Rattle.mb_edit.proofs.Common.{wrong_base, ℕ, [], ◌==◌, ◌∙◌, ◌∷◌, ◌≡◌}
use Rattle.std.proofs.Common.{find}
use Rattle.std.proofs.lemmas.Bool.Decides.{Decides-eqb}
pub use Rattle.mb_load.proofs.RowsPass.{holds}
use Rattle.mb_loaded.specs.HeldCode.{algorithm_at, algorithm_back, algorithm_number}

-- where no test of a list refuses, none of the rest does, nor the first
pub pass_first : (o : Option MbtError) (rest : List (Option MbtError)) → first_refusal (o ∷ rest) ≡ None → o ≡ None
pass_first None rest h = refl
pass_first (Some e) rest h = cc

pub pass_rest : (o : Option MbtError) (rest : List (Option MbtError)) → first_refusal (o ∷ rest) ≡ None → first_refusal rest ≡ None
pass_rest None rest h = h
pass_rest (Some e) rest h = cc

editable : (layout : MbtType) → can_be_patched layout ≡ true → is_editable layout ≡ true
editable (Normalized view DedupId) h = absurd (false≢true h)
editable _ h = refl

-- a patch that passes: its set can be edited, both have one algorithm, and no contents collide
pub record IsPassed (base patch : State) : Type 0 where
  pub can_edit : is_editable base.layout ≡ true
  pub alike : patch.algorithm ≡ base.algorithm
  pub apart : id_collides base.layout base.algorithm base.contents (bytes_put patch.tiles) ≡ None

pub passed : (force : Bool) (base patch : State) → may_patch force base patch ≡ None → IsPassed base patch
passed force base patch h =
    let kind = unless (not (is_some patch.patch_type)) UnsupportedPatchType in
    let hashes = unless_forced force (patch_refused (is_some (before_hash patch.metadata)) (is_some (after_hash patch.metadata))) in
    let layout = unless (can_be_patched base.layout) UnsupportedCopyOperation in
    let base_hashes = unless_forced force (base_refused (is_some (agg_hash base.metadata)) (is_some (before_hash base.metadata)) (is_some (after_hash base.metadata))) in
    let meant = unless_forced force (wrong_base (before_hash patch.metadata) (agg_hash base.metadata)) in
    let algorithm = wrong_algorithm base.algorithm patch.algorithm in
    let ids = id_collides base.layout base.algorithm base.contents (bytes_put patch.tiles) in
    let h2 = pass_rest kind (hashes ∷ layout ∷ base_hashes ∷ meant ∷ algorithm ∷ ids ∷ []) h in
    let h3 = pass_rest hashes (layout ∷ base_hashes ∷ meant ∷ algorithm ∷ ids ∷ []) h2 in
    let h4 = pass_rest layout (base_hashes ∷ meant ∷ algorithm ∷ ids ∷ []) h3 in
    let h5 = pass_rest base_hashes (meant ∷ algorithm ∷ ids ∷ []) h4 in
    let h6 = pass_rest meant (algorithm ∷ ids ∷ []) h5 in
    let h7 = pass_rest algorithm (ids ∷ []) h6 in
    record {
      can_edit = editable base.layout (holds (can_be_patched base.layout) UnsupportedCopyOperation (pass_first layout (base_hashes ∷ meant ∷ algorithm ∷ ids ∷ []) h3));
      alike = same_algorithm patch.algorithm base.algorithm (holds (algorithm_number base.algorithm == algorithm_number patch.algorithm) (UnsupportedHashAlgorithm (name_of patch.algorithm)) (pass_first algorithm (ids ∷ []) h6));
      apart = pass_first ids [] h7;
    }
  where
    same_algorithm : (a b : HashAlgorithm) → (algorithm_number b == algorithm_number a) ≡ true → a ≡ b
    same_algorithm a b h = sym (algorithm_back a) ∙ (ap algorithm_at (sym ((Decides-eqb (algorithm_number b) (algorithm_number a)).0 h)) ∙ algorithm_back b)

-- no contents collide where the set has ids
pub none_collide : (base patch : State) (view : Bool) (schema : NormalizedSchema) → id_collides (Normalized view schema) base.algorithm base.contents (bytes_put patch.tiles) ≡ None → find (collides (digest base.algorithm) base.contents (bytes_put patch.tiles)) (bytes_put patch.tiles) ≡ None
none_collide base patch view schema h = by (find (collides (digest base.algorithm) base.contents (bytes_put patch.tiles)) (bytes_put patch.tiles)) h
  where
    by : (o : Option (List ℕ)) → option_map (λ bytes. IdCollision (digest base.algorithm bytes)) o ≡ None → o ≡ None
    by None h = refl
    by (Some bytes) h = cc
