-- What a server that isn't made leaves of the backend that it would have borrowed.
use Rattle.std.specs.Prelude.{ℕ, List, Option, Result, IfErr}
use Rattle.tile_serve.specs.Common.{Grew, ReadsOnly}
use Rattle.tile_serve.specs.Answers.{OpeningCauses}
use Rattle.tile_serve.specs.Faults.{FaultsStand}
use Rattle.tile_serve.specs.declared.error.ServeError.{ServeError}

-- The backend is read once and no more, tells what it told, and a fault comes only where its count of faults rose,
-- which else stands, but for running out of memory.
pub record LeftByOpening {A B V : Type 0} (told : B → Option (List ℕ)) (texts : B → V) (failed read : B → ℕ) (steady : B → Type 0) (old : B) (result : Result A ServeError) (new : B) : Type 0 where
  pub causes : IfErr result (OpeningCauses (failed old) (failed new))
  pub still : FaultsStand (failed old) (failed new) result
  pub kept : ReadsOnly told texts failed steady old new
  pub reads : Grew (read old) (read new) 1
