-- What a writer that isn't made leaves of the medium that it would have borrowed.
use Rattle.std.specs.Prelude.{◌≡◌, ◌≢◌, ◌≤◌, ℕ, List, Option, is_some, IfSome, Result}
use Rattle.pm_writer.specs.Common.{Compression, FaultsStand, PmtError}
use Rattle.pm_format.specs.declared.compression.Compression.TheVariants as compression
use Rattle.pm_writer.specs.Causes.{CreateCauses}
use Rattle.pm_writer.specs.Pieces.{IsHidden}

-- By the label of directories: a refusal for the label leaves the medium, and after each error the label's byte is 0 or
-- missing, the counts don't fall, and what tells goes on to tell.
pub record LeftByCreate {A M V : Type 0} (label : Compression) (told : M → Option (List ℕ)) (texts : M → Option V) (failed read : M → ℕ) (steady : M → Type 0) (old : M) (result : Result A PmtError) (new : M) : Type 0 where
  pub causes : CreateCauses label (failed old) (failed new) result
  pub still : FaultsStand (failed old) (failed new) result
  pub hidden : IfSome (told new) IsHidden
  pub refused : label ≢ compression.None → new ≡ old
  pub tells : is_some (told new) ≡ is_some (told old)
  pub versions : is_some (texts new) ≡ is_some (texts old)
  pub faults : failed old ≤ failed new
  pub reads : read new ≡ read old
  pub calm : steady old → steady new × (failed new ≡ failed old)
