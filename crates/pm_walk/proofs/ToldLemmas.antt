-- Facts on bytes that may be told.
use Rattle.pm_walk.proofs.Common.{IfSome, List, None, Option, Some, subst, ℕ, ◌≡◌}

-- two facts on the same bytes make a third
pub both_told : (P Q R : List ℕ → Type 0) (told again : Option (List ℕ)) → again ≡ told → ((b : List ℕ) → P b → Q b → R b) → IfSome told P → IfSome again Q → IfSome told R
both_told P Q R None again same f p q = tt
both_told P Q R (Some b) again same f p q = f b p (subst (λ a. IfSome a Q) same q)

pub one_told : (P R : List ℕ → Type 0) (told : Option (List ℕ)) → ((b : List ℕ) → P b → R b) → IfSome told P → IfSome told R
one_told P R None f p = tt
one_told P R (Some b) f p = f b p

pub any_told : (R : List ℕ → Type 0) (told : Option (List ℕ)) → ((b : List ℕ) → R b) → IfSome told R
any_told R None f = tt
any_told R (Some b) f = f b
