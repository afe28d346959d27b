-- What is said of facts that are known by others.
use Rattle.mb_edit.proofs.Common.{ap, base_refused, Bool, false, patch_refused, refl, refused_by, Tests, true, unless_forced, ◌∙◌, ◌≡◌}

pub same_two : {A B C : Type 0} (f : A → B → C) (x a : A) (y b : B) → x ≡ a → y ≡ b → f x y ≡ f a b
same_two f x a y b p q = ap (λ z. f z y) p ∙ ap (f a) q

pub same_three : {A B C D : Type 0} (f : A → B → C → D) (x a : A) (y b : B) (z c : C) → x ≡ a → y ≡ b → z ≡ c → f x y z ≡ f a b c
same_three f x a y b z c p q r = same_two (λ u v. f u v z) x a y b p q ∙ ap (f a b) r

-- the tests of digests
pub patch_tests : (force before after : Bool) → Tests (unless_forced force (patch_refused before after)) (refused_by (unless_forced force (patch_refused before after)))
patch_tests false before false = ((λ free. refl), (λ e. cc))
patch_tests false false true = ((λ free. refl), (λ e. cc))
patch_tests _ _ _ = refl

pub base_tests : (force agg before after : Bool) → Tests (unless_forced force (base_refused agg before after)) (refused_by (unless_forced force (base_refused agg before after)))
base_tests true agg before after = refl
base_tests false true false false = refl
base_tests false _ _ _ = ((λ free. refl), (λ e. cc))
