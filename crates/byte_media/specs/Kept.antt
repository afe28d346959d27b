-- What calls keep of a backend and of a medium.
use Rattle.std.specs.Prelude.{ℕ, ◌≡◌, ◌≤◌, List, Option, is_some}

-- Of a call that only reads: what the backend tells stays, and its version texts; its count of faults doesn't fall; and
-- where no call of it fails, that stays, and so does its count of faults.
pub record ReadsOnly {B V : Type 0} (tells : B → Option (List ℕ)) (texts : B → V) (failed : B → ℕ) (steady : B → Type 0) (before now : B) : Type 0 where
  pub told : tells now ≡ tells before
  pub versions : texts now ≡ texts before
  pub faults : failed before ≤ failed now
  pub calm : steady before → steady now × (failed now ≡ failed before)

-- Of any call: whether the medium tells its bytes, and whether its version texts, stays; its counts of reads and of
-- faults don't fall; and where no call of it fails, that stays, and so does its count of faults.
pub record KeepsMedium {M V : Type 0} (told : M → Option (List ℕ)) (versions : M → Option V) (reads failed : M → ℕ) (steady : M → Type 0) (old new : M) : Type 0 where
  pub tells : is_some (told new) ≡ is_some (told old)
  pub versions_tell : is_some (versions new) ≡ is_some (versions old)
  pub counted : reads old ≤ reads new
  pub faults : failed old ≤ failed new
  pub calm : steady old → steady new × (failed new ≡ failed old)
