-- The tests of a patch before that of contents that collide.
use Rattle.tile_streaming.proofs.Common.{ap, Bool, cond, false, false≢true, first_refusal, HashAlgorithm, is_some, List, MbtError, MbtType, Names, None, none-some, not, Ok, Option, option_or, refl, same_Some, Some, State, sym, true, ℕ, [], ◌++◌, ◌||◌, ◌∙◌, ◌∷◌, ◌≡◌}
use Rattle.mb_constraints.specs.DiffHashes.{base_refused, patch_refused, unless_forced}
use Rattle.mb_edit.proofs.PatchedLemmas.{or_none}
use Rattle.mb_edit.specs.Common.{after_hash, agg_hash, before_hash, bytes_eq, unless}
use Rattle.mb_edit.specs.PatchingOrder.{bytes_put, can_be_patched, id_collides, may_patch, wrong_algorithm, wrong_base}
use Rattle.mb_tables.specs.declared.error.MbtError.TheVariants.{AggHashMismatchWithDiff, CannotDiffFileWithoutHash, DiffingDiffFile, IdCollision, PatchFileHasNoBeforeHash, PatchFileHasNoHashes, UnsupportedCopyOperation, UnsupportedHashAlgorithm, UnsupportedPatchType}
use Rattle.mb_loaded.specs.HeldCode.{algorithm_number}
use Rattle.std.proofs.Common.{◌==◌}
use Rattle.tile_hash.specs.Digest.{name_of}
use Rattle.tile_streaming.proofs.OverlayLemmas.{with_facts}

-- all tests but the last one, and what they answer
abbrev pub earlier : Bool → State → State → List (Option MbtError)
earlier force base patch =
    unless (not (is_some patch.patch_type)) UnsupportedPatchType
    ∷ unless_forced force (patch_refused (is_some (before_hash patch.metadata)) (is_some (after_hash patch.metadata)))
    ∷ unless (can_be_patched base.layout) UnsupportedCopyOperation
    ∷ unless_forced force (base_refused (is_some (agg_hash base.metadata)) (is_some (before_hash base.metadata)) (is_some (after_hash base.metadata)))
    ∷ unless_forced force (wrong_base (before_hash patch.metadata) (agg_hash base.metadata))
    ∷ wrong_algorithm base.algorithm patch.algorithm
    ∷ []

abbrev pub early : Bool → State → State → Option MbtError
early force base patch = first_refusal (earlier force base patch)

last_one : (rs : List (Option MbtError)) (c : Option MbtError) → first_refusal (rs ++ c ∷ []) ≡ option_or (first_refusal rs) c
last_one [] c = or_none c
last_one (None ∷ rs) c = last_one rs c
last_one (Some e ∷ rs) c = refl

pub may_split : (force : Bool) (s q : State) → may_patch force s q ≡ option_or (early force s q) (id_collides s.layout s.algorithm s.contents (bytes_put q.tiles))
may_split force s q = last_one (earlier force s q) (id_collides s.layout s.algorithm s.contents (bytes_put q.tiles))

-- they ask the layout, the algorithm and the names
pub early_alike : (force : Bool) (over s q : State) → over.layout ≡ s.layout → over.algorithm ≡ s.algorithm → over.metadata ≡ s.metadata → early force over q ≡ early force s q
early_alike force over s q layout algorithm names = λ i. early force (with_facts s (layout i) (algorithm i) (names i) s.contents) q

-- none of them answers that contents collide
abbrev pub is_collision : MbtError → Bool
is_collision (IdCollision id) = true
is_collision _ = false

abbrev names_none : Option MbtError → Bool
names_none None = true
names_none (Some e) = not (is_collision e)

either_none : (a b : Option MbtError) → names_none a ≡ true → names_none b ≡ true → names_none (option_or a b) ≡ true
either_none None b h k = k
either_none (Some e) b h k = h

of_unless : (b : Bool) (e : MbtError) → not (is_collision e) ≡ true → names_none (unless b e) ≡ true
of_unless true e h = refl
of_unless false e h = h

of_forced : (force : Bool) (o : Option MbtError) → names_none o ≡ true → names_none (unless_forced force o) ≡ true
of_forced true o h = refl
of_forced false o h = h

of_patch : (before after : Bool) → names_none (patch_refused before after) ≡ true
of_patch true true = refl
of_patch false true = refl
of_patch before false = refl

of_base : (agg before after : Bool) → names_none (base_refused agg before after) ≡ true
of_base false before after = refl
of_base true true after = refl
of_base true false true = refl
of_base true false false = refl

of_wrong : (before agg : Option (List ℕ)) → names_none (wrong_base before agg) ≡ true
of_wrong (Some b) (Some a) = of_unless (bytes_eq b a) (AggHashMismatchWithDiff b a) refl
of_wrong (Some b) None = refl
of_wrong None agg = refl

no_collision : (force : Bool) (s q : State) → names_none (early force s q) ≡ true
no_collision force s q =
    either_none (unless (not (is_some q.patch_type)) UnsupportedPatchType) _ (of_unless (not (is_some q.patch_type)) UnsupportedPatchType refl)
    (either_none (unless_forced force (patch_refused (is_some (before_hash q.metadata)) (is_some (after_hash q.metadata)))) _ (of_forced force (patch_refused (is_some (before_hash q.metadata)) (is_some (after_hash q.metadata))) (of_patch (is_some (before_hash q.metadata)) (is_some (after_hash q.metadata))))
    (either_none (unless (can_be_patched s.layout) UnsupportedCopyOperation) _ (of_unless (can_be_patched s.layout) UnsupportedCopyOperation refl)
    (either_none (unless_forced force (base_refused (is_some (agg_hash s.metadata)) (is_some (before_hash s.metadata)) (is_some (after_hash s.metadata)))) _ (of_forced force (base_refused (is_some (agg_hash s.metadata)) (is_some (before_hash s.metadata)) (is_some (after_hash s.metadata))) (of_base (is_some (agg_hash s.metadata)) (is_some (before_hash s.metadata)) (is_some (after_hash s.metadata))))
    (either_none (unless_forced force (wrong_base (before_hash q.metadata) (agg_hash s.metadata))) _ (of_forced force (wrong_base (before_hash q.metadata) (agg_hash s.metadata)) (of_wrong (before_hash q.metadata) (agg_hash s.metadata)))
    (either_none (wrong_algorithm s.algorithm q.algorithm) _ (of_unless (algorithm_number s.algorithm == algorithm_number q.algorithm) (UnsupportedHashAlgorithm (name_of q.algorithm)) refl) refl)))))

-- a refusal that contents collide is that of the last test
pub of_last : (force : Bool) (s q : State) (id : List ℕ) (c : Option MbtError) → option_or (early force s q) c ≡ Some (IdCollision id) → (early force s q ≡ None) × (c ≡ Some (IdCollision id))
of_last force s q id c h = by (early force s q) (no_collision force s q) h
  where
    by : (o : Option MbtError) → names_none o ≡ true → option_or o c ≡ Some (IdCollision id) → (o ≡ None) × (c ≡ Some (IdCollision id))
    by None clear k = (refl, k)
    by (Some e) clear k = absurd (false≢true (sym (ap (λ x. not (is_collision x)) (same_Some e (IdCollision id) k)) ∙ clear))
