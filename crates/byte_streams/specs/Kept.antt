-- What calls keep of a source and of a sink.
use Rattle.std.specs.Prelude.{ℕ, ◌≡◌, ◌≤◌, List, Option, is_some}

-- Whether the source tells what is left of it stays; its counts of bytes taken and of faults don't fall; and where no
-- call of it fails, that stays, and so does its count of faults.
pub record KeepsSource {I : Type 0} (left : I → Option (List ℕ)) (taken failed : I → ℕ) (steady : I → Type 0) (old new : I) : Type 0 where
  pub tells : is_some (left new) ≡ is_some (left old)
  pub counted : taken old ≤ taken new
  pub faults : failed old ≤ failed new
  pub calm : steady old → steady new × (failed new ≡ failed old)

-- the same of a sink and what it holds; a sink counts no bytes
pub record KeepsSink {O : Type 0} (held : O → Option (List ℕ)) (failed : O → ℕ) (steady : O → Type 0) (old new : O) : Type 0 where
  pub tells : is_some (held new) ≡ is_some (held old)
  pub faults : failed old ≤ failed new
  pub calm : steady old → steady new × (failed new ≡ failed old)
