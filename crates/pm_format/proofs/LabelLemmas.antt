-- What a look-up that was turned into a result says.
use Rattle.pm_format.proofs.Common.{Err, None, Ok, ok_or, Option, refl, Some, ◌≡◌}

pub found_by_ok : {A E : Type 0} (found : Option A) (refusal : E) (x : A) → Ok x ≡ ok_or found refusal → found ≡ Some x
found_by_ok None refusal x e = cc
found_by_ok (Some y) refusal x e = cc

pub none_by_err : {A E : Type 0} (found : Option A) (refusal e : E) → Err e ≡ ok_or found refusal → found ≡ None
none_by_err None refusal e p = refl
none_by_err (Some y) refusal e p = cc

pub cause_of_err : {A E : Type 0} (found : Option A) (refusal e : E) → Err e ≡ ok_or found refusal → e ≡ refusal
cause_of_err None refusal e p = cc
cause_of_err (Some y) refusal e p = cc
