-- Steps that may give nothing, one after another.
use Rattle.pm_format.proofs.Common.{Err, None, Ok, Option, option_map, refl, Result, Some, sym, ◌>>=◌, ◌∙◌, ◌≡◌}
use Rattle.std.specs.Result.{IsErrAnd}

pub bind_same : {A B : Type 0} (x : Option A) (f g : A → Option B) → ((a : A) → f a ≡ g a) → (x >>= f) ≡ (x >>= g)
bind_same None f g h = refl
bind_same (Some a) f g h = h a

pub bind_none : {A B : Type 0} (x : Option A) (f : A → Option B) → ((a : A) → f a ≡ None) → (x >>= f) ≡ None
bind_none None f h = refl
bind_none (Some a) f h = h a

pub bind_bind : {A B C : Type 0} (x : Option A) (f : A → Option B) (g : B → Option C) → ((x >>= f) >>= g) ≡ (x >>= λ a. f a >>= g)
bind_bind None f g = refl
bind_bind (Some a) f g = refl

-- what gives something has each step give something
pub bind_some : {A B : Type 0} (x : Option A) (f : A → Option B) (y : B) → (x >>= f) ≡ Some y → (a : A) × (x ≡ Some a) × (f a ≡ Some y)
bind_some None f y e = absurd (cc)
bind_some (Some a) f y e = (a, refl, e)

pub map_some : {A B : Type 0} (x : Option A) (f : A → B) (y : B) → option_map f x ≡ Some y → (a : A) × (x ≡ Some a) × (f a ≡ y)
map_some None f y e = absurd (cc)
map_some (Some a) f y e = (a, refl, cc)

-- an error that is handed on is the same error
pub same_error : {T E : Type 0} (r : Result T E) (f g : E) → IsErrAnd r (λ y. y ≡ f) → r ≡ Err g → f ≡ g
same_error (Ok x) f g h e = absurd (cc)
same_error (Err y) f g h e = let same : y ≡ g = cc in sym h ∙ same
