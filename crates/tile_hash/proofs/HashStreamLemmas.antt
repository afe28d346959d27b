-- What a stream of each algorithm has taken.
use Rattle.tile_hash.proofs.Common.{ap, byte_hashed, digest, fnv1a, HashAlgorithm, hashed_from, IfOk, List, offset_basis, refl, Result, subst, sym, ℕ, [], ◌++◌, ◌∙◌, ◌∷◌, ◌≡◌}
use Rattle.tile_hash.specs.HashStream.{HasTaken, Took, algorithm_of}
use Rattle.tile_hash.specs.declared.hash_stream.HashStream.{HashStream}
use Rattle.tile_hash.specs.declared.hash_stream.Hasher.{Hasher}

abbrev pub Takes : HashAlgorithm → Hasher → List ℕ → Type 0
Takes a hasher bytes = (a ≡ algorithm_of hasher) × Took hasher bytes

pub taken_by : (a : HashAlgorithm) (s : HashStream) (bytes : List ℕ) (hasher : Hasher) → s.hasher ≡ hasher → HasTaken a s bytes → Takes a hasher bytes
unfolding HasTaken
taken_by a s bytes hasher is took = subst (λ (h : Hasher). Takes a h bytes) is took

pub has_taken : (a : HashAlgorithm) (s : HashStream) (bytes : List ℕ) (hasher : Hasher) → s.hasher ≡ hasher → Takes a hasher bytes → HasTaken a s bytes
unfolding HasTaken
has_taken a s bytes hasher is took = subst (λ (h : Hasher). Takes a h bytes) (sym is) took

-- FNV-1a of bytes and then others
pub none_hashed : offset_basis ≡ fnv1a []
unfolding hashed_from
none_hashed = refl

hashed_on : (h : ℕ) (xs ys : List ℕ) → hashed_from (hashed_from h xs) ys ≡ hashed_from h (xs ++ ys)
unfolding hashed_from
hashed_on h [] ys = refl
hashed_on h (x ∷ xs) ys = hashed_on (byte_hashed h x) xs ys

pub more_hashed : (before after : ℕ) (xs ys : List ℕ) → before ≡ fnv1a xs → after ≡ hashed_from before ys → after ≡ fnv1a (xs ++ ys)
more_hashed before after xs ys old new = new ∙ ap (λ (h : ℕ). hashed_from h ys) old ∙ hashed_on offset_basis xs ys

-- a text that is the digest of what was taken
pub text_taken : {E : Type 0} (r : Result (List ℕ) E) (a : HashAlgorithm) (s : HashStream) (bytes text : List ℕ) (hasher : Hasher) → s.hasher ≡ hasher → HasTaken a s bytes
    → (Took hasher bytes → text ≡ digest (algorithm_of hasher) bytes) → IfOk r (λ t. t ≡ text) → IfOk r (λ t. t ≡ digest a bytes)
text_taken r a s bytes text hasher is took same given =
    let t : Takes a hasher bytes = taken_by a s bytes hasher is took in
    subst (λ (x : List ℕ). IfOk r (λ t. t ≡ x)) (same t.1 ∙ ap (λ (x : HashAlgorithm). digest x bytes) (sym t.0)) given
